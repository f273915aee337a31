-- The places that wait in a search (own).
use Rattle.std.specs.Prelude.{ℕ, List, map}
use Rattle.il_verifier.specs.declared.todo.Waiting.{Waiting}

abbrev pub places_of : List Waiting → List ℕ
places_of waiting = map (λ one. one.place) waiting
