use Rattle.std.proofs.Common.{ℕ, [], ◌∷◌, List, Contains, sym, subst, arith}
use Rattle.il_flow.specs.Merging.{Held}
use Rattle.il_verifier.specs.declared.pairs.Entry.{Entry}
use Rattle.il_verifier.specs.Worklist.{stacks_by, AreIds, AreSought}
use Rattle.il_verifier.proofs.Pools.{Pool}
use Rattle.il_verifier.proofs.Reaching.{some-line}
use Rattle.il_verifier.proofs.Turns.{taken-sought, all-placed, all-least, first-ids, first-sought}
use Rattle.il_verifier.proofs.typing.least_typing.Goals as goal

in-none : (entry : Entry Held) → Contains [] entry → ⊥
in-none entry there = omega (arith, there.1)

pub begin-requires : goal.begin-requires
begin-requires g c = some-line c.args.max c.args.lines.now c.requires.clear

pub turns-init : goal.turns-init
turns-init g c =
    let family = g.P.Parents.family c.args.parents.now in
    let search = c.in_ok-search.search in
    let begun = c.in_ok-search.ensures in
    record {
      sound = record {
        numbered = subst (λ (pool : Pool). AreIds pool search.stacks.items) (sym begun.pool) (first-ids search.stacks.items begun.stacks);
        noted = record {
          joins = λ join there. absurd (begun.joins join there);
          merges = λ entry there. absurd (in-none entry (subst (λ (es : List (Entry Held)). Contains es entry) begun.merges there));
        };
      };
      sought = subst (λ (pool : Pool). AreSought family c.args.max c.args.lines.now (stacks_by pool search.stacks.items) search.todo)
          (sym begun.pool)
          (subst (λ (list : List ℕ). AreSought family c.args.max c.args.lines.now (stacks_by ([] ∷ []) search.stacks.items) list)
          (sym begun.todo)
          (first-sought family c.args.max c.args.lines.now search.stacks.items begun.sized begun.stacks));
    }

pub hand_on-requires-clause-sought : goal.hand_on-requires-clause-sought
hand_on-requires-clause-sought g c =
    taken-sought (g.P.Parents.family c.args.parents.now) c.args.max c.args.lines.now
    (stacks_by c.turns.search.pool c.turns.search.stacks.items) c.turns.search.todo c.next.new.self c.in-Some.at c.in-Some.ensures
    c.turns.invariant.sought

pub returns-clause-placed : goal.returns-clause-placed
returns-clause-placed g c =
    let family = g.P.Parents.family c.args.parents.now in
    let stacks = stacks_by c.turns.search.pool c.turns.search.stacks.items in
    all-placed family c.args.max c.args.lines.now stacks
    (subst (λ (list : List ℕ). AreSought family c.args.max c.args.lines.now stacks list) c.in_default.ensures c.turns.invariant.sought)

pub returns-clause-least : goal.returns-clause-least
returns-clause-least g c =
    let family = g.P.Parents.family c.args.parents.now in
    let stacks = stacks_by c.turns.search.pool c.turns.search.stacks.items in
    all-least family c.args.max c.args.lines.now stacks
    (subst (λ (list : List ℕ). AreSought family c.args.max c.args.lines.now stacks list) c.in_default.ensures c.turns.invariant.sought)
