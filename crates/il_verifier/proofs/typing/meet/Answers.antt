use Rattle.std.proofs.Common.{◌≡◌, ℕ, Option, Some, None, List, get_or, set, sym, ap, subst, ◌∙◌}
use Rattle.std.proofs.lemmas.List.{get_or_read}
use Rattle.il_flow.specs.Families.{Family}
use Rattle.il_flow.specs.Merging.{Held}
use Rattle.il_verifier.specs.declared.joins.Pair.{Pair}
use Rattle.il_verifier.specs.Pools.{stack_by, Noted, AreNoted}
use Rattle.il_verifier.specs.Worklist.{Stacks, stacks_by, AreIds, IsSound, HasMet}
use Rattle.il_verifier.proofs.Oks.{on-ok, on-then}
use Rattle.il_verifier.proofs.Pools.{Pool}
use Rattle.il_verifier.proofs.Turns.{ids-grow, ids-set, met-new, met-same, met-other}
use Rattle.il_verifier.proofs.typing.meet.Goals as goal

-- what was set, in a value whose fields are known by equations
sound-as : (family : Family) (pool new-pool : Pool) (joins new-joins : Noted) (ids new-ids : List (Option ℕ)) →
    new-pool ≡ pool → new-joins ≡ joins → new-ids ≡ ids → AreIds pool ids → AreNoted family pool joins →
    IsSound family new-pool new-joins new-ids
sound-as family pool new-pool joins new-joins ids new-ids p j i numbered noted =
    subst (λ (x : Pool). IsSound family x new-joins new-ids) (sym p)
    (subst (λ (x : Noted). IsSound family pool x new-ids) (sym j)
    (subst (λ (x : List (Option ℕ)). IsSound family pool joins x) (sym i)
    (record { numbered = numbered; noted = noted })))

met-as : (family : Family) (after : List Held) (to : ℕ) (old : Stacks) (pool new-pool : Pool) (ids new-ids : List (Option ℕ))
    (listed list : List ℕ) → new-pool ≡ pool → new-ids ≡ ids → HasMet family after to old (stacks_by pool ids) listed list →
    HasMet family after to old (stacks_by new-pool new-ids) listed list
met-as family after to old pool new-pool ids new-ids listed list p i met =
    subst (λ (x : Pool). HasMet family after to old (stacks_by x new-ids) listed list) (sym p)
    (subst (λ (x : List (Option ℕ)). HasMet family after to old (stacks_by pool x) listed list) (sym i) met)

pub returns-in_default-clause-sound : goal.returns-in_default-clause-sound
returns-in_default-clause-sound g c =
    let old = c.args.search.now in
    let new = c.set_stack.new.search in
    on-ok c.set_stack.result
    (sound-as (g.P.Parents.family c.args.parents.now) old.pool new.pool old.joins new.joins
    (set old.stacks.items c.args.to (Some c.args.after)) new.stacks.items
    c.set_stack.ensures.pool c.set_stack.ensures.joins c.set_stack.ensures.stacks
    (ids-set old.pool old.stacks.items c.args.to c.args.after c.requires.within c.requires.there c.requires.sound.numbered)
    c.requires.sound.noted)

pub returns-in_default-clause-met : goal.returns-in_default-clause-met
returns-in_default-clause-met g c =
    let family = g.P.Parents.family c.args.parents.now in
    let old = c.args.search.now in
    let new = c.set_stack.new.search in
    let none : get_or old.stacks.items c.args.to None ≡ None =
    sym (get_or_read old.stacks.items c.args.to c.index.result.now c.requires.within c.index.ensures None) ∙ c.in_default.is in
    on-then c.set_stack.result
    (λ listed. met-as family (stack_by old.pool c.args.after) c.args.to (stacks_by old.pool old.stacks.items) old.pool new.pool
    (set old.stacks.items c.args.to (Some c.args.after)) new.stacks.items old.todo new.todo
    c.set_stack.ensures.pool c.set_stack.ensures.stacks
    (met-new family old.pool old.stacks.items c.args.after c.args.to old.todo new.todo c.requires.within
    c.requires.sound.numbered none listed))
    c.set_stack.ensures.todo

pub join_pair-requires-clause-even : goal.join_pair-requires-clause-even
join_pair-requires-clause-even g c =
    let old = c.args.search.now in
    let some : get_or old.stacks.items c.args.to None ≡ Some c.in-Some.own =
    sym (get_or_read old.stacks.items c.args.to c.index.result.now c.requires.within c.index.ensures None) ∙ c.in-Some.is in
    record {
      own = c.requires.sound.numbered c.args.to c.in-Some.own some;
      after = c.requires.there;
      even = c.requires.even c.in-Some.own some;
    }

pub returns-then-join-own-clause-met : goal.returns-then-join-own-clause-met
returns-then-join-own-clause-met g c =
    let old = c.args.search.now in
    let join = c.in_ok-join.join in
    let some : get_or old.stacks.items c.args.to None ≡ Some c.in-Some.own =
    sym (get_or_read old.stacks.items c.args.to c.index.result.now c.requires.within c.index.ensures None) ∙ c.in-Some.is in
    met-same (g.P.Parents.family c.args.parents.now) old.pool c.join_pair.new.pool old.stacks.items c.in-Some.own c.args.after
    c.args.to join old.todo c.requires.sound.numbered some c.requires.there c.in_ok-join.ensures.grows
    (ap (λ (p : Pair). p.own) c.in_ok-join.ensures.pair) (ap (λ (p : Pair). p.after) c.in_ok-join.ensures.pair)
    c.in_ok-join.ensures.join c.if-join-own.true

pub returns-clause-sound : goal.returns-clause-sound
returns-clause-sound g c =
    let old = c.args.search.now in
    let mid = c.join_pair.new.pool in
    let join = c.in_ok-join.join in
    let new = c.set_stack-2.new.search in
    on-ok c.set_stack-2.result
    (sound-as (g.P.Parents.family c.args.parents.now) mid new.pool c.join_pair.new.joins new.joins
    (set old.stacks.items c.args.to (Some join.both)) new.stacks.items
    c.set_stack-2.ensures.pool c.set_stack-2.ensures.joins c.set_stack-2.ensures.stacks
    (ids-set mid old.stacks.items c.args.to join.both c.requires.within c.in_ok-join.ensures.join.within
    (ids-grow old.pool mid old.stacks.items c.in_ok-join.ensures.grows c.requires.sound.numbered))
    c.in_ok-join.ensures.joins)

pub returns-clause-met : goal.returns-clause-met
returns-clause-met g c =
    let family = g.P.Parents.family c.args.parents.now in
    let old = c.args.search.now in
    let mid = c.join_pair.new.pool in
    let join = c.in_ok-join.join in
    let new = c.set_stack-2.new.search in
    let some : get_or old.stacks.items c.args.to None ≡ Some c.in-Some.own =
    sym (get_or_read old.stacks.items c.args.to c.index.result.now c.requires.within c.index.ensures None) ∙ c.in-Some.is in
    on-then c.set_stack-2.result
    (λ listed. met-as family (stack_by old.pool c.args.after) c.args.to (stacks_by old.pool old.stacks.items) mid new.pool
    (set old.stacks.items c.args.to (Some join.both)) new.stacks.items old.todo new.todo
    c.set_stack-2.ensures.pool c.set_stack-2.ensures.stacks
    (met-other family old.pool mid old.stacks.items c.in-Some.own c.args.after c.args.to join old.todo new.todo
    c.requires.within c.requires.sound.numbered some c.requires.there c.in_ok-join.ensures.grows
    (ap (λ (p : Pair). p.own) c.in_ok-join.ensures.pair) (ap (λ (p : Pair). p.after) c.in_ok-join.ensures.pair)
    c.in_ok-join.ensures.join c.if-join-own.false listed))
    c.set_stack-2.ensures.todo
