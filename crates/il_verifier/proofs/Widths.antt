-- A type of no width is a reference.
use Rattle.std.proofs.Common.{◌≡◌, List, [], ◌∷◌, is_none, refl}
use Rattle.signatures.specs.declared.sig.Primitive.{Primitive}
use Rattle.signatures.specs.declared.sig.Primitive.TheVariants as prim
use Rattle.signatures.specs.declared.key.KeyPart.{KeyPart}
use Rattle.signatures.specs.declared.key.KeyPart.TheVariants as part
use Rattle.il_flow.specs.StackTypes.{number_of, is_reference}
use Rattle.il_verifier.specs.Effects.{width_of, width_of_key}

by_prim : (p : Primitive) → is_none (width_of p) ≡ is_none (number_of p)
by_prim prim.Bool = refl
by_prim prim.Char = refl
by_prim prim.Int8 = refl
by_prim prim.UInt8 = refl
by_prim prim.Int16 = refl
by_prim prim.UInt16 = refl
by_prim prim.Int32 = refl
by_prim prim.UInt32 = refl
by_prim prim.Int64 = refl
by_prim prim.UInt64 = refl
by_prim prim.Native = refl
by_prim prim.UNative = refl
by_prim prim.Text = refl
by_prim prim.Object = refl

pub by_width : (parts : List KeyPart) → is_none (width_of_key parts) ≡ is_reference parts
by_width [] = refl
by_width (part.Prim p ∷ parts) = by_prim p
by_width (part.Class a r n ∷ parts) = refl
by_width (part.Vector ∷ parts) = refl
