use Rattle.std.proofs.Common.{◌≡◌, ℕ, ◌+◌, ◌-◌, Bool, true, false, not, List, take, drop, Some, sym, ap, ◌∙◌}
use Rattle.std.specs.List.{find}
use Rattle.std.specs.Option.{option_map}
use Rattle.std.specs.Str.{bytes_eq}
use Rattle.meta_heaps.specs.declared.header.Header.{Header}
use Rattle.meta_heaps.specs.Streams.{headers_from, fits, is_named}
use Rattle.meta_heaps.specs.Headers.{header_of}
use Rattle.meta_heaps.proofs.Walk.{find_here, find_past, none_here, absent, present}
use Rattle.meta_heaps.proofs.header.named.Goals as goal

-- whether the header that was read has the name
same_name : (m name : List ℕ) (at : ℕ) (header : Header) (answer : Bool) → header ≡ header_of m at →
    answer ≡ bytes_eq (take header.name_len (drop (header.at + 8) m)) name → is_named m name at ≡ answer
same_name m name at header answer is e =
    sym (ap (λ (h : Header). bytes_eq (take h.name_len (drop (h.at + 8) m)) name) is) ∙ sym e

pub returns-in_err-header-clause-found : goal.returns-in_err-header-clause-found
returns-in_err-header-clause-found c =
    let m = c.args.metadata.now in
    let at = c.loop.at in
    let outside : not (fits m at) ≡ true =
    ap not (absent (fits m at) (header_of m at) c.in_err-header.ensures.found) in
    let inside : not (fits m at) ≡ false =
    none_here (λ at. not (fits m at)) m at c.stream_count-end.result c.loop.counter
    c.loop-test.true c.loop.invariant.2 in
    cc

pub returns-then-is_named-clause-found : goal.returns-then-is_named-clause-found
returns-then-is_named-clause-found c =
    let m = c.args.metadata.now in
    let name = c.args.name.now in
    let at = c.loop.at in
    let header = c.in_ok-header.header in
    let found = present (fits m at) (header_of m at) header c.in_ok-header.ensures.found in
    let same = same_name m name at header c.is_named.result found.1 c.is_named.ensures in
    let here =
    find_here (is_named m name) m at c.stream_count-end.result c.loop.counter
    c.loop-test.true (same ∙ c.if-is_named.true) in
    ap Some found.1 ∙ sym (ap (option_map (header_of m)) (c.loop.invariant.1 ∙ here))

pub loop-preserved : goal.loop-preserved
loop-preserved c =
    let m = c.args.metadata.now in
    let name = c.args.name.now in
    let at = c.loop.at in
    let header = c.in_ok-header.header in
    let left : ℕ = c.stream_count-end.result - (c.loop.counter + 1) in
    let outside : ℕ → Bool = λ at. not (fits m at) in
    let found = present (fits m at) (header_of m at) header c.in_ok-header.ensures.found in
    let same = same_name m name at header c.is_named.result found.1 c.is_named.ensures in
    let past =
    find_past (is_named m name) m at c.stream_count-end.result c.loop.counter
    c.loop-test.true (same ∙ c.if-is_named.false) in
    let whole =
    find_past outside m at c.stream_count-end.result c.loop.counter c.loop-test.true
    (ap not found.0) in (
      c.in_ok-header.ensures.within.has_header,
      c.loop.invariant.1 ∙ past
          ∙ sym (ap (λ (h : Header). find (is_named m name) (headers_from m h.end left)) found.1),
      ap (λ (h : Header). find outside (headers_from m h.end left)) found.1
          ∙ sym whole ∙ c.loop.invariant.2,
    )
