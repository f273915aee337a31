use Rattle.std.proofs.Common.{◌+◌, drop, sym, ◌∙◌, arith, false}
use Rattle.assembly_image.proofs.TextStarts.{empty_text, zero_inside, ascii_at, more_at}
use Rattle.assembly_image.proofs.texts.begins_text.Goals as goal

pub returns-then-len-eq0 : goal.returns-then-len-eq0
returns-then-len-eq0 c =
    sym (empty_text (drop c.args.at c.args.heap.now) (sym c.requires.zero ∙ c.if-len-eq0.true))

pub returns-then-heap-at-lt128 : goal.returns-then-heap-at-lt128
returns-then-heap-at-lt128 c =
    let heap = c.args.heap.now in
    let at = c.args.at in
    let inside = zero_inside heap at c.args.len c.requires.zero c.if-len-eq0.false
    c.if-len-eq-LONGEST_WITH_ZERO.false in
    c.requires.starts.each (at + 1) (omega arith) (omega arith) false
    ∙ ascii_at heap at c.args.len c.requires.zero c.if-len-eq0.false c.if-len-eq-LONGEST_WITH_ZERO.false
    c.if-heap-at-lt128.true

pub returns : goal.returns
returns c =
    c.begins_wide.ensures
    ∙ more_at c.args.heap.now c.args.at c.args.len c.requires.zero c.if-len-eq0.false
    c.if-len-eq-LONGEST_WITH_ZERO.false c.if-heap-at-lt128.false
