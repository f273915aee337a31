-- Texts, with one character more.
use Rattle.std.proofs.Common.{◌≡◌, ℕ, List, [], ◌∷◌, ◌++◌, refl, ap, ◌∙◌, sym, append_assoc}
use Rattle.std.proofs.lemmas.List.{append-nil}
use Rattle.host_script.specs.Text.{end_place, units_from, place_after, spelled}
use Rattle.host_script.specs.declared.text.TextPlace.{TextPlace}

pub end_place-push : (place : TextPlace) (cs : List ℕ) (c : ℕ) →
    end_place place (cs ++ c ∷ []) ≡ place_after (end_place place cs) c
end_place-push place [] c = refl
end_place-push place (x ∷ cs) c = end_place-push (place_after place x) cs c

pub units_from-push : (place : TextPlace) (cs : List ℕ) (c : ℕ) →
    units_from place (cs ++ c ∷ []) ≡ units_from place cs ++ spelled (end_place place cs) c
units_from-push place [] c = append-nil (spelled place c)
units_from-push place (x ∷ cs) c =
    ap (λ units. spelled place x ++ units) (units_from-push (place_after place x) cs c)
    ∙ sym (append_assoc (spelled place x) (units_from (place_after place x) cs) _)
