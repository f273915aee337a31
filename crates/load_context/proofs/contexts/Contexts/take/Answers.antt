use Rattle.std.proofs.Common.{◌≡◌, ◌+◌, ◌<◌, ◌∙◌, arith, rules, ap, sym, subst, length, Some}
use Rattle.std.proofs.lemmas.List.Quantifiers.{position-Some}
use Rattle.std.specs.Prelude.{IsSome}
use Rattle.std.specs.List.{position, remove}
use Rattle.load_context.specs.Contexts.{IsTable, has_number, row_of, taken}
use Rattle.load_context.proofs.Tables.{IsTable-removed, IsTable-taken, filled, length-there, position_there}
use Rattle.load_context.proofs.contexts.Contexts.take.Goals as goal

pub unwrap-index-requires : goal.unwrap-index-requires
unwrap-index-requires c =
    let there = subst (λ v. IsSome (row_of v.list c.args.context)) (sym c.self.view_is) c.requires.there in
    let some = position_there (has_number c.args.context) (λ context. context.row) c.self.inside.contexts.items there in
    let is : c.place_of.result ≡ position (has_number c.args.context) c.self.inside.contexts.items = search rules in
    subst IsSome (sym is) some

pub invariant_of-self : goal.invariant_of-self
invariant_of-self c =
    let items = c.self.inside.contexts.items in
    let index = c.unwrap-index.result in
    let is : position (has_number c.args.context) items ≡ Some index = search rules in
    let at = position-Some (has_number c.args.context) items index c.remove.result is in
    let removed : remove items index ≡ taken c.args.context items = IsTable-removed c.args.context items index c.remove.result c.self.invariant.table at.1 at.0 at.2 in
    let long : 1 < length items = length-there c.args.context items index c.remove.result c.requires.other c.self.invariant.table at.1 at.0 in
    let table = IsTable-taken c.args.context items c.requires.other c.self.invariant.table in
    let shorter = c.remove.ensures.len in
    record {
      table = subst IsTable (sym (c.remove.ensures.items ∙ removed)) table;
      room = omega (arith, shorter, c.self.invariant.room, c.remove.ensures.capacity);
      counted = omega (arith, shorter, c.self.invariant.counted);
    }

pub returns : goal.returns
returns c =
    let items = c.self.inside.contexts.items in
    let index = c.unwrap-index.result in
    let is : position (has_number c.args.context) items ≡ Some index = search rules in
    let at = position-Some (has_number c.args.context) items index c.remove.result is in
    let removed : remove items index ≡ taken c.args.context items = IsTable-removed c.args.context items index c.remove.result c.self.invariant.table at.1 at.0 at.2 in
    ap (filled (c.self.inside.spare + 1)) (c.remove.ensures.items ∙ removed)
    ∙ ap (λ v. filled (v.spare + 1) (taken c.args.context v.list)) c.self.view_is
