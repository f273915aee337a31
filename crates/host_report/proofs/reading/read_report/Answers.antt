use Rattle.std.proofs.Common.{◌+◌, ◌<◌, ◌≤◌, length, subst, sym, arith}
use Rattle.host_report.specs.LineStages.{IsReached, stage, stage_after}
use Rattle.host_report.proofs.RefusalLemmas.{reached_none, reached_next}
use Rattle.host_report.proofs.WholeLemmas.{ended, line_length, none_read, refused_at}
use Rattle.host_report.proofs.reading.read_report.Goals as goal

pub loop-own-init : goal.loop-own-init
loop-own-init c = record {
  reached = subst (λ at. IsReached c.args.bytes.now c.args.bytes.now 1 at) (sym c.new-draft.ensures) (reached_none c.args.bytes.now);
  fits = omega arith;
}

pub returns-in-Err-Differs-clause-refused : goal.returns-in-Err-Differs-clause-refused
returns-in-Err-Differs-clause-refused c =
    let none = none_read stage (stage_after (stage c.loop-own.draft) c.in-Some.own.now) c.in-Err-Differs.field-0 c.in-Err-Differs.ensures c.in-Err-Differs.field-0-is in
    λ line e. refused_at c.loop-own.invariant.reached c.in-Some.own.now c.in-Some.after.now c.in-Some.ensures.parted c.in-Some.ensures.unbroken none line (cc)

pub overflow_add-line : goal.overflow_add-line
overflow_add-line c =
    let long = line_length c.loop-own.rest.now c.in-Some.own.now c.in-Some.after.now c.in-Some.ensures.parted in
    omega (arith, long, c.loop-own.invariant.fits, c.requires)

pub loop-own-smaller : goal.loop-own-smaller
loop-own-smaller c =
    let long = line_length c.loop-own.rest.now c.in-Some.own.now c.in-Some.after.now c.in-Some.ensures.parted in
    let less : length c.in-Some.after.now < length c.loop-own.rest.now = omega (arith, long) in
    less

pub loop-own-preserved : goal.loop-own-preserved
loop-own-preserved c =
    let long = line_length c.loop-own.rest.now c.in-Some.own.now c.in-Some.after.now c.in-Some.ensures.parted in
    let kept = c.loop-own.invariant.fits in
    let fits : c.loop-own.line + 1 + length c.in-Some.after.now ≤ length c.args.bytes.now + 1 = omega (arith, long, kept) in
    record {
      reached = reached_next c.loop-own.invariant.reached c.in-Some.own.now c.in-Some.after.now (stage c.take_line.new.draft) c.in-Some.ensures.parted c.in-Some.ensures.unbroken c.in-Ok-take_line.ensures;
      fits = fits;
    }

pub returns-clause-read : goal.returns-clause-read
returns-clause-read c =
    (ended c.loop-own.invariant.reached c.in_default-next_line.ensures.last c.whole.result c.whole.ensures.some c.whole.ensures.all c.whole.ensures.none c.ok_or.result c.ok_or.ensures.value).0

pub returns-clause-refused : goal.returns-clause-refused
returns-clause-refused c =
    (ended c.loop-own.invariant.reached c.in_default-next_line.ensures.last c.whole.result c.whole.ensures.some c.whole.ensures.all c.whole.ensures.none c.ok_or.result c.ok_or.ensures.value).1
