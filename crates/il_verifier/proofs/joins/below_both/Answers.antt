use Rattle.std.proofs.Common.{◌≡◌, List, length, ap, sym, ◌∙◌, arith}
use Rattle.std.specs.Prelude.{option_copied}
use Rattle.il_flow.specs.Merging.{Held}
use Rattle.il_verifier.specs.Pools.{stack_by}
use Rattle.il_verifier.proofs.Pools.{zero-of}
use Rattle.il_verifier.proofs.Ways.{on-length}
use Rattle.il_verifier.proofs.joins.below_both.Goals as goal

pub unreachable-requires : goal.unreachable-requires
unreachable-requires c =
    let none = c.in_default.ensures in
    let flat : length (stack_by c.args.pool.now c.args.pair.after) ≡ 0 =
    sym c.requires.even.even ∙ ap (λ (s : List Held). length s) none.1 in
    c.requires.apart (none.0 ∙ sym (zero-of c.args.pool.now c.args.pair.after (option_copied c.top-top.result) c.top-top.ensures flat))

pub returns : goal.returns
returns c =
    let pool = c.args.pool.now in
    let own = c.in-Some.ensures in
    let after = c.in-Some-top.ensures in
    let more = on-length pool c.args.pair.own c.in-Some.own.now.below c.in-Some.own.now.held own in
    let most = on-length pool c.args.pair.after c.in-Some-top.after.now.below c.in-Some-top.after.now.held after in
    record {
      step = (c.in-Some.own.now.held, c.in-Some-top.after.now.held, own, after);
      even = record {
        own = omega (arith, own.lesser, own.within);
        after = omega (arith, after.lesser, after.within);
        even = omega (arith, more, most, c.requires.even.even);
      };
    }
