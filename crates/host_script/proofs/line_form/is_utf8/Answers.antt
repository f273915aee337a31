use Rattle.std.proofs.Common.{◌≡◌, ℕ, Bool, true, false, List, refl, sym}
use Rattle.std.specs.Prelude.{IsUtf8}
use Rattle.std.specs.Str.{is_utf8}
use Rattle.std.proofs.lemmas.Str.{IsUtf8-from_is_utf8, is_utf8-from_IsUtf8}
use Rattle.host_script.proofs.line_form.is_utf8.Goals as goal

not_utf8 : (bytes : List ℕ) (t : Bool) → is_utf8 bytes ≡ t → (IsUtf8 bytes → ⊥) → false ≡ is_utf8 bytes
not_utf8 bytes true e isnt = absurd (isnt (IsUtf8-from_is_utf8 bytes e))
not_utf8 bytes false e isnt = sym e

pub returns-in-Ok : goal.returns-in-Ok
returns-in-Ok c = sym (is_utf8-from_IsUtf8 c.args.bytes.now c.in-Ok.ensures.cases.1)

pub returns-in-Err : goal.returns-in-Err
returns-in-Err c = not_utf8 c.args.bytes.now (is_utf8 c.args.bytes.now) refl c.in-Err.ensures.cases.0
