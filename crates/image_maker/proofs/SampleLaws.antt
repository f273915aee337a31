-- The samples are sound, and pass no limit.
use Rattle.std.proofs.Common.{◌≡◌, true, None, refl, sym, subst, Result, Ok, Err, IfOk}
use Rattle.std.proofs.Math.Utf8.{encode}
use Rattle.std.specs.Char.Utf16.{utf16_chars}
use Rattle.metadata_tables.specs.Columns.{columns_of}
use Rattle.image_maker.specs.declared.module.Module.{Module}
use Rattle.image_maker.specs.declared.samples.SampleName.{SampleName}
use Rattle.image_maker.specs.declared.samples.SampleName.TheVariants.{Lib1, Lib2, Lib19, Use, Gen, Deep, Ops, Rel}
use Rattle.image_maker.specs.Samples.{sample_of}
use Rattle.image_maker.specs.Size.{limit_of}
use Rattle.image_maker.specs.Sound.{is_sound}

pub sample_sound : (which : SampleName) → is_sound (sample_of which) ≡ true
unfolding columns_of utf16_chars encode
sample_sound Lib1 = refl
sample_sound Lib2 = refl
sample_sound Lib19 = refl
sample_sound Use = refl
sample_sound Gen = refl
sample_sound Deep = refl
sample_sound Ops = refl
sample_sound Rel = refl

pub sample_within : (which : SampleName) → limit_of (sample_of which) ≡ None
unfolding columns_of utf16_chars encode
sample_within Lib1 = refl
sample_within Lib2 = refl
sample_within Lib19 = refl
sample_within Use = refl
sample_within Gen = refl
sample_within Deep = refl
sample_within Ops = refl
sample_within Rel = refl

-- what holds of the sample holds of what was made as it
pub made_sound : {E : Type 0} (which : SampleName) (made : Result Module E) → IfOk made (λ m. m ≡ sample_of which)
    → IfOk made (λ m. is_sound m ≡ true)
made_sound which (Ok m) is = subst (λ (x : Module). is_sound x ≡ true) (sym is) (sample_sound which)
made_sound which (Err e) is = tt

pub made_within : {E : Type 0} (which : SampleName) (made : Result Module E) → IfOk made (λ m. m ≡ sample_of which)
    → IfOk made (λ m. limit_of m ≡ None)
made_within which (Ok m) is = subst (λ (x : Module). limit_of x ≡ None) (sym is) (sample_within which)
made_within which (Err e) is = tt
