-- The checks that a sound module passes, and the limits that a module keeps.
use Rattle.std.proofs.Common.{◌≡◌, ℕ, ◌≤◌, Bool, true, false, not, ◌&&◌, length, Option, Some, None, refl, sym}
use Rattle.std.specs.Prelude.{nat_lt, if◌then◌else◌}
use Rattle.std.specs.List.{list_all, range_with_len}
use Rattle.std.proofs.lemmas.Bool.{and_parts, ltb-false}
use Rattle.image_maker.specs.declared.module.Module.{Module}
use Rattle.image_maker.specs.Sound.{is_sound, is_table_sound, are_rising, has_fitting, has_no_zero, all_texts, is_whole, is_stream_name}
use Rattle.image_maker.specs.Size.{limit_of, limit_by, long_table, size_limit, size_of}
use Rattle.image_maker.specs.Tally.{is_short}

-- the checks that a sound module passes
pub record Sound (m : Module) : Type 0 where
  pub name : nat_lt 0 (length m.name) ≡ true
  pub types : nat_lt 0 (length m.types) ≡ true
  pub rising : are_rising 0 m.rows ≡ true
  pub fitting : list_all has_fitting m.rows ≡ true
  pub tables : list_all (is_table_sound m) (range_with_len 0 45) ≡ true
  pub no_zero : list_all has_no_zero (all_texts m) ≡ true
  pub whole : list_all (λ r. is_whole r.name) m.refs ≡ true
  pub streams : list_all (λ s. is_stream_name s.0) m.streams ≡ true

pub sound_parts : (m : Module) → is_sound m ≡ true → Sound m
sound_parts m e =
    let first = and_parts (nat_lt 0 (length m.name)) _ e in
    let second = and_parts (nat_lt 0 (length m.types)) _ first.1 in
    let third = and_parts (are_rising 0 m.rows && list_all has_fitting m.rows) _ second.1 in
    let given = and_parts (are_rising 0 m.rows) (list_all has_fitting m.rows) third.0 in
    let fourth = and_parts (list_all (is_table_sound m) (range_with_len 0 45)) _ third.1 in
    let fifth = and_parts (list_all has_no_zero (all_texts m)) _ fourth.1 in
    let sixth = and_parts (list_all (λ r. is_whole r.name) m.refs)
    (list_all (λ s. is_stream_name s.0) m.streams) fifth.1 in
    record {
      name = first.0;
      types = second.0;
      rising = given.0;
      fitting = given.1;
      tables = fourth.0;
      no_zero = fifth.0;
      whole = sixth.0;
      streams = sixth.1;
    }

-- no table, no name and no module is too long
pub record Limited (m : Module) : Type 0 where
  pub long : long_table m ≡ None
  pub names : list_all is_short (all_texts m) ≡ true
  pub size : size_of m ≤ 4194304

no_further : (name size : ℕ) (short large : Bool)
    → (if not short then Some name else (if large then Some size else None)) ≡ None → (short ≡ true) × (large ≡ false)
no_further name size true true e = absurd (cc)
no_further name size true false e = (refl, refl)
no_further name size false large e = absurd (cc)

limited_by : (m : Module) (long : Option ℕ) → long ≡ long_table m → limit_by m long ≡ None → Limited m
limited_by m (Some table) is e = absurd (cc)
limited_by m None is e =
    let further = no_further 0xFE 0xFF (list_all is_short (all_texts m)) (nat_lt size_limit (size_of m)) e in
    record { long = sym is; names = further.0; size = ltb-false size_limit (size_of m) further.1 }

pub limit_parts : (m : Module) → limit_of m ≡ None → Limited m
limit_parts m e = limited_by m (long_table m) refl e
