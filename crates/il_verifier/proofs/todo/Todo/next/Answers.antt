use Rattle.std.proofs.Common.{ℕ, ◌∷◌, List, subst, heap_items, arith, ◌<◌, ◌≤◌, length}
use Rattle.std.specs.List.Sorted.{IsPermutation}
use Rattle.std.proofs.lemmas.List.Sorted.{IsPermutation-map}
use Rattle.il_verifier.specs.declared.todo.Waiting.{Waiting}
use Rattle.il_verifier.specs.Waits.{places_of}
use Rattle.il_verifier.specs.Worklist.{IsWithout}
use Rattle.il_verifier.proofs.Waits.{without-one, flags-clear, flags-keep}
use Rattle.il_verifier.proofs.todo.Todo.next.Goals as goal

less-one : (item : Waiting) (old new : List Waiting) → IsPermutation old (item ∷ new) → IsWithout item.place (places_of old) (places_of new)
less-one item old new perm =
    without-one (places_of old) (places_of new) item.place
    (IsPermutation-map (λ (one : Waiting). one.place) old (item ∷ new) perm)

pub invariant_of-self-then-place-len : goal.invariant_of-self-then-place-len
invariant_of-self-then-place-len c =
    let old = heap_items c.self.inside.waiting in
    let new = heap_items c.pop.new.self in
    let less : c.in_ok-taken.taken.place < length c.self.inside.listed.items =
    omega (arith, c.if-place-len.true, c.len.ensures, c.self.inside.listed.ok) in
    flags-clear c.self.inside.listed.items (places_of old) (places_of new) c.in_ok-taken.taken.place less c.self.invariant
    (less-one c.in_ok-taken.taken old new c.in_ok-taken.ensures.permutation)

pub invariant_of-self-else-place-len : goal.invariant_of-self-else-place-len
invariant_of-self-else-place-len c =
    let old = heap_items c.self.inside.waiting in
    let new = heap_items c.pop.new.self in
    let past : length c.self.inside.listed.items ≤ c.in_ok-taken.taken.place =
    omega (arith, c.if-place-len.false, c.len.ensures, c.self.inside.listed.ok) in
    flags-keep c.self.inside.listed.items (places_of old) (places_of new) c.in_ok-taken.taken.place past c.self.invariant
    (less-one c.in_ok-taken.taken old new c.in_ok-taken.ensures.permutation)

pub returns-then-place-len : goal.returns-then-place-len
returns-then-place-len c =
    let old = heap_items c.self.inside.waiting in
    let new = heap_items c.pop.new.self in
    subst (λ (list : List ℕ). IsWithout c.in_ok-taken.taken.place list (places_of new)) c.self.view_is
    (less-one c.in_ok-taken.taken old new c.in_ok-taken.ensures.permutation)

pub returns-else-place-len : goal.returns-else-place-len
returns-else-place-len c =
    let old = heap_items c.self.inside.waiting in
    let new = heap_items c.pop.new.self in
    subst (λ (list : List ℕ). IsWithout c.in_ok-taken.taken.place list (places_of new)) c.self.view_is
    (less-one c.in_ok-taken.taken old new c.in_ok-taken.ensures.permutation)
