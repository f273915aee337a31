use Rattle.std.proofs.Common.{ℕ, ◌∷◌, List, subst, heap_items}
use Rattle.std.specs.List.Sorted.{IsPermutation}
use Rattle.std.proofs.lemmas.List.Sorted.{IsPermutation-map}
use Rattle.il_verifier.specs.declared.todo.Waiting.{Waiting}
use Rattle.il_verifier.specs.Waits.{places_of}
use Rattle.il_verifier.specs.Worklist.{IsListed}
use Rattle.il_verifier.proofs.Waits.{listed-more, flags-stay, flags-set}
use Rattle.il_verifier.proofs.todo.Todo.add.Goals as goal

more : (item : Waiting) (old new : List Waiting) → IsPermutation (item ∷ old) new → IsListed item.place (places_of old) (places_of new)
more item old new perm =
    listed-more (places_of old) (places_of new) item.place
    (IsPermutation-map (λ (one : Waiting). one.place) (item ∷ old) new perm)

pub invariant_of-self-then-place-len-2 : goal.invariant_of-self-then-place-len-2
invariant_of-self-then-place-len-2 c =
    let old = heap_items c.self.inside.waiting in
    let new = heap_items c.push.new.self in
    let item : Waiting = record { sweep = c.sweep_of-sweep.result; number = c.number_of-number.result; place = c.args.place } in
    flags-set c.self.inside.listed.items (places_of old) (places_of new) c.args.place c.self.invariant
    (more item old new c.in_ok-push.ensures.permutation)

pub invariant_of-self-else-place-len-2 : goal.invariant_of-self-else-place-len-2
invariant_of-self-else-place-len-2 c =
    let old = heap_items c.self.inside.waiting in
    let new = heap_items c.push.new.self in
    let item : Waiting = record { sweep = c.sweep_of-sweep.result; number = c.number_of-number.result; place = c.args.place } in
    flags-stay c.self.inside.listed.items (places_of old) (places_of new) c.args.place c.self.invariant
    (more item old new c.in_ok-push.ensures.permutation)

pub returns-then-place-len-2 : goal.returns-then-place-len-2
returns-then-place-len-2 c =
    let old = heap_items c.self.inside.waiting in
    let new = heap_items c.push.new.self in
    let item : Waiting = record { sweep = c.sweep_of-sweep.result; number = c.number_of-number.result; place = c.args.place } in
    subst (λ (list : List ℕ). IsListed c.args.place list (places_of new)) c.self.view_is
    (more item old new c.in_ok-push.ensures.permutation)

pub returns-else-place-len-2 : goal.returns-else-place-len-2
returns-else-place-len-2 c =
    let old = heap_items c.self.inside.waiting in
    let new = heap_items c.push.new.self in
    let item : Waiting = record { sweep = c.sweep_of-sweep.result; number = c.number_of-number.result; place = c.args.place } in
    subst (λ (list : List ℕ). IsListed c.args.place list (places_of new)) c.self.view_is
    (more item old new c.in_ok-push.ensures.permutation)
