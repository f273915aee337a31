use Rattle.std.proofs.Common.{◌≡◌, ℕ, Bool, true, false, List, Option, None, refl, subst}
use Rattle.std.specs.Prelude.{IsUtf8, IfOk}
use Rattle.std.specs.Option.{option_map}
use Rattle.std.specs.Str.{is_utf8}
use Rattle.std.proofs.lemmas.Str.{IsUtf8-from_is_utf8, is_utf8-from_IsUtf8}
use Rattle.host_script.specs.Text.{text_of, text_in}
use Rattle.host_script.proofs.text.text_of.Goals as goal

valid : (word text : List ℕ) → text ≡ word → IsUtf8 word → text_in text ≡ text_of word
valid word text same is = let e = is_utf8-from_IsUtf8 word is in rw (e, same) refl

no_text : (word : List ℕ) (t : Bool) → is_utf8 word ≡ t → (IsUtf8 word → ⊥) → None ≡ text_of word
no_text word true e isnt = absurd (isnt (IsUtf8-from_is_utf8 word e))
no_text word false e isnt = rw e refl

pub returns-in-Ok : goal.returns-in-Ok
returns-in-Ok c =
    let P : Option (List ℕ) → Type 0 =
    λ o. IfOk c.text_in.result (λ text. option_map (λ units. units.items) text ≡ o) in
    subst P (valid c.args.word.now c.in-Ok.text.now c.in-Ok.ensures.cases.0 c.in-Ok.ensures.cases.1) c.text_in.ensures

pub returns-in-Err : goal.returns-in-Err
returns-in-Err c = no_text c.args.word.now (is_utf8 c.args.word.now) refl c.in-Err.ensures.cases.0
