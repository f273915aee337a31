-- Keys that are equal by `==` are the same.
use Rattle.std.proofs.Common.{◌≡◌, true, refl, ap, subst, rules}
use Rattle.std.specs.Bool.{Decides}
use Rattle.std.proofs.lemmas.Bool.{and_parts, eqb-true}
use Rattle.std.proofs.lemmas.Bool.Decides.{Decides-eqb}
use denote.Enum.Bare.{sameb, same_true}
use Rattle.signatures.specs.contracts.sig.Primitive.{the_type}
use Rattle.signatures.specs.declared.key.KeyPart.{KeyPart}
use Rattle.signatures.specs.declared.key.KeyPart.TheVariants.{Prim, Class, Vector}
use Rattle.signatures.specs.declared.sig.Primitive as prim
use Rattle.signatures.specs.declared.sig.Primitive.TheVariants as prims
use Rattle.signatures.specs.contracts.key.KeyPartPartialEq.TheImpl as part_eq

prim-same : (a : prim.Primitive) → sameb the_type a a ≡ true
prim-same prims.Bool = refl
prim-same prims.Char = refl
prim-same prims.Int8 = refl
prim-same prims.UInt8 = refl
prim-same prims.Int16 = refl
prim-same prims.UInt16 = refl
prim-same prims.Int32 = refl
prim-same prims.UInt32 = refl
prim-same prims.Int64 = refl
prim-same prims.UInt64 = refl
prim-same prims.Native = refl
prim-same prims.UNative = refl
prim-same prims.Text = refl
prim-same prims.Object = refl

-- `==` of two parts decides whether they are the same
pub part-Decides : (a b : KeyPart) → Decides ((part_eq.ghosts).eq a b) (a ≡ b)
part-Decides (Prim p) (Prim q) = (
  λ h. ap (λ x. Prim x) (same_true the_type (search rules) p q h),
  λ h. let e : p ≡ q = cc in subst (λ x. sameb the_type p x ≡ true) e (prim-same p),
)
part-Decides (Prim p) (Class a r n) = (λ h. absurd cc, λ h. absurd cc)
part-Decides (Prim p) Vector = (λ h. absurd cc, λ h. absurd cc)
part-Decides (Class a r n) (Prim q) = (λ h. absurd cc, λ h. absurd cc)
part-Decides (Class a r n) (Class b s m) = (
  λ h. let x = and_parts _ _ h in let y = and_parts _ _ x.1 in rw (eqb-true a b x.0, eqb-true r s y.0, eqb-true n m y.1) refl,
  λ h. let x : a ≡ b = cc in let y : r ≡ s = cc in let z : n ≡ m = cc in rw (x, y, z, (Decides-eqb b b).1 refl, (Decides-eqb s s).1 refl, (Decides-eqb m m).1 refl) refl,
)
part-Decides (Class a r n) Vector = (λ h. absurd cc, λ h. absurd cc)
part-Decides Vector (Prim q) = (λ h. absurd cc, λ h. absurd cc)
part-Decides Vector (Class b s m) = (λ h. absurd cc, λ h. absurd cc)
part-Decides Vector Vector = (λ h. refl, λ h. refl)
