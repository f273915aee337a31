-- The text of fields before another text.
use Rattle.std.proofs.Common.{◌≡◌, ℕ, List, [], ◌∷◌, ◌++◌, refl, ◌∙◌, ap, append_assoc}
use Rattle.host_report.specs.Fields.{Field, field_text, fields_text}

-- fields, each with the space before it, and a text after them
abbrev pub text_then : List Field → List ℕ → List ℕ
text_then [] tail = tail
text_then (field ∷ fields) tail = field_text field ++ text_then fields tail

pub then_text : (fields : List Field) (tail : List ℕ) → fields_text fields ++ tail ≡ text_then fields tail
then_text [] tail = refl
then_text (field ∷ fields) tail =
    append_assoc (field_text field) (fields_text fields) tail
    ∙ ap (λ text. field_text field ++ text) (then_text fields tail)

pub then_both : (fields others : List Field) → fields_text (fields ++ others) ≡ text_then fields (fields_text others)
then_both [] others = refl
then_both (field ∷ fields) others = ap (λ text. field_text field ++ text) (then_both fields others)
