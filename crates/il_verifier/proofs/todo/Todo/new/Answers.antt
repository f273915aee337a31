use Rattle.std.proofs.Common.{[], ◌∷◌, List, subst, heap_items}
use Rattle.std.specs.List.Sorted.{IsPermutation}
use Rattle.std.proofs.lemmas.List.Sorted.{IsPermutation-map}
use Rattle.il_verifier.specs.declared.todo.Waiting.{Waiting}
use Rattle.il_verifier.specs.Waits.{places_of}
use Rattle.il_verifier.proofs.Waits.{single}
use Rattle.il_verifier.proofs.todo.Todo.new.Goals as goal

pub returns : goal.returns
returns c =
    let new = heap_items c.push.new.self in
    let item : Waiting = record { sweep = 18446744073709551615; number = c.number_of-number.result; place = 0 } in
    single (places_of new) 0
    (IsPermutation-map (λ (one : Waiting). one.place) (item ∷ []) new
    (subst (λ (old : List Waiting). IsPermutation (item ∷ old) new) c.new-waiting.ensures.items c.in_ok-push.ensures.permutation))
