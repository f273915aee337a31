use Rattle.std.proofs.Common.{◌≡◌, ◌+◌, ◌-◌, ◌<◌, length, slice_get, Some, List, [], refl, sym, ◌∙◌, arith}
use Rattle.std.proofs.lemmas.Option.{slice_get_within}
use Rattle.il_flow.specs.Families.{interfaces_of}
use Rattle.il_flow.proofs.Order.{Key}
use Rattle.il_flow.proofs.Chains.{array-interfaces, plain-interfaces}
use Rattle.il_flow.proofs.Levels.{counted-interface, one-interface, all-interfaces, no-interfaces}
use Rattle.il_flow.proofs.level.add_interfaces.Goals as goal

pub loop-interface-init : goal.loop-interface-init
loop-interface-init g c =
    let family = g.P.Parents.family c.args.parents.now in
    record {
      counted = omega arith;
      few = omega arith;
      just = no-interfaces c.args.keys.now.items [] refl;
    }

pub loop-interface-smaller : goal.loop-interface-smaller
loop-interface-smaller g c =
    let all : List Key = (g.P.Parents.family c.args.parents.now).interfaces c.args.key.now in
    let there : slice_get all (c.loop-interface.n - 1) ≡ Some c.in-Some.interface =
    sym (counted-interface (g.P.Parents.family c.args.parents.now) c.args.key.now c.loop-interface.n
    c.loop-interface.invariant.counted) ∙ (sym c.in_ok-interface.ensures ∙ c.in-Some.is) in
    let within = slice_get_within all (c.loop-interface.n - 1) c.in-Some.interface there in
    let less : length all + 1 - (c.loop-interface.n + 1) < length all + 1 - c.loop-interface.n =
    omega (arith, within, c.loop-interface.invariant.counted) in
    less

pub loop-interface-preserved : goal.loop-interface-preserved
loop-interface-preserved g c =
    let all : List Key = (g.P.Parents.family c.args.parents.now).interfaces c.args.key.now in
    let there : slice_get all (c.loop-interface.n - 1) ≡ Some c.in-Some.interface =
    sym (counted-interface (g.P.Parents.family c.args.parents.now) c.args.key.now c.loop-interface.n
    c.loop-interface.invariant.counted) ∙ (sym c.in_ok-interface.ensures ∙ c.in-Some.is) in
    let within = slice_get_within all (c.loop-interface.n - 1) c.in-Some.interface there in
    record {
      counted = omega arith;
      few = omega (arith, within, c.loop-interface.invariant.counted);
      just = one-interface c.args.keys.now.items c.loop-interface.keys.items c.add_key.new.keys.items all
          c.loop-interface.n c.in-Some.interface c.loop-interface.invariant.counted there
          c.loop-interface.invariant.just c.in_ok-add_key.ensures;
    }

pub overflow_add-n : goal.overflow_add-n
overflow_add-n g c =
    let all : List Key = (g.P.Parents.family c.args.parents.now).interfaces c.args.key.now in
    let there : slice_get all (c.loop-interface.n - 1) ≡ Some c.in-Some.interface =
    sym (counted-interface (g.P.Parents.family c.args.parents.now) c.args.key.now c.loop-interface.n
    c.loop-interface.invariant.counted) ∙ (sym c.in_ok-interface.ensures ∙ c.in-Some.is) in
    let within = slice_get_within all (c.loop-interface.n - 1) c.in-Some.interface there in
    let few = (g.met.P.Parents.lawful c.args.parents.now).few c.args.key.now in
    omega (arith, within, few, c.loop-interface.invariant.counted)

pub returns-then-is_array : goal.returns-then-is_array
returns-then-is_array g c =
    no-interfaces c.args.keys.now.items
    (interfaces_of (g.P.Parents.family c.args.parents.now) c.args.key.now)
    (array-interfaces (g.P.Parents.family c.args.parents.now) c.args.key.now
    (sym c.is_array.ensures ∙ c.if-is_array.true))

pub returns : goal.returns
returns g c =
    let family = g.P.Parents.family c.args.parents.now in
    let all : List Key = family.interfaces c.args.key.now in
    all-interfaces c.args.keys.now.items c.loop-interface.keys.items all (interfaces_of family c.args.key.now)
    c.loop-interface.n
    (sym (counted-interface family c.args.key.now c.loop-interface.n c.loop-interface.invariant.counted)
    ∙ (sym c.in_ok-interface.ensures ∙ c.in_default.is))
    (plain-interfaces family c.args.key.now (sym c.is_array.ensures ∙ c.if-is_array.false))
    c.loop-interface.invariant.just
