use Rattle.std.proofs.Common.{Bool, true, false, ◌≡◌, sym, refl}
use Rattle.std.proofs.str.Lossy.{IsUtf8-from_is_utf8, is_utf8-from_IsUtf8}
use Rattle.std.specs.Str.{is_utf8}
use Rattle.assembly_image.proofs.strings.is_utf8.Goals as goal

pub returns-in-Ok : goal.returns-in-Ok
returns-in-Ok c = sym (is_utf8-from_IsUtf8 c.args.bytes.now c.in-Ok.ensures.cases.1)

pub returns-in-Err : goal.returns-in-Err
returns-in-Err c = decided (is_utf8 c.args.bytes.now) refl
  where
    decided : (b : Bool) → is_utf8 c.args.bytes.now ≡ b → false ≡ b
    decided true e = absurd (c.in-Err.ensures.cases.0 (IsUtf8-from_is_utf8 c.args.bytes.now e))
    decided false e = refl
