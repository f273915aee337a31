-- What a reading gives, put together from what its parts give.
use Rattle.std.proofs.Common.{◌≡◌, ℕ, Bool, true, false, List, [], ◌∷◌, Option, Some, None, refl, ap, subst}
use Rattle.std.specs.Prelude.{option_map, option_and_then, if◌then◌else◌}
use Rattle.std.specs.List.{AllByRecursion}
use Rattle.std.specs.Str.{bytes_eq}
use Rattle.host_report.specs.Reading.{then_read}
use Rattle.host_report.specs.Keyword.{beside}

-- what is read, if anything is, has the property
pub record Gives {V : Type 0} (P : V → Type 0) (read : Option V) : Type 0 where
  pub each : (v : V) → read ≡ Some v → P v

-- what is read behind a field
pub read_then : {T V : Type 0} {read : Option (T × List ℕ)} {x : T} {rest : List ℕ} (next : T → List ℕ → Option V) →
    read ≡ Some (x, rest) → then_read read next ≡ next x rest
read_then next e = ap (λ read. then_read read next) e

-- the same of the value of a reading that goes on behind it
pub record GivesFirst {V : Type 0} (P : V → Type 0) (read : Option (V × List ℕ)) : Type 0 where
  pub each : (v : V) (rest : List ℕ) → read ≡ Some (v, rest) → P v

pub fronted : {V : Type 0} {P : V → Type 0} {read : Option (V × List ℕ)} →
    Gives (λ x. P x.0) read → GivesFirst P read
fronted gives = record { each = λ v rest e. gives.each (v, rest) e }

pub gives_any : {V : Type 0} {read : Option (V × List ℕ)} → GivesFirst (λ _. Unit {0}) read
gives_any = record { each = λ v rest e. tt }

pub gives_all : {V : Type 0} {read : Option V} → Gives (λ _. Unit {0}) read
gives_all = record { each = λ v e. tt }

pub gives_some : {V : Type 0} (P : V → Type 0) (v : V) → P v → Gives P (Some v)
gives_some {V = T} P v holds = record { each = λ w e. let same : v ≡ w = cc in subst P same holds }

pub gives_none : {V : Type 0} (P : V → Type 0) → Gives P None
gives_none P = record { each = λ w e. cc }

pub gives_if : {V : Type 0} {P : V → Type 0} (test : Bool) {x y : Option V} →
    Gives P x → Gives P y → Gives P (if test then x else y)
gives_if true gives other = gives
gives_if false gives other = other

pub gives_tested : {V : Type 0} {P : V → Type 0} (test : Bool) {x y : Option V} →
    (test ≡ true → Gives P x) → Gives P y → Gives P (if test then x else y)
gives_tested true gives other = gives refl
gives_tested false gives other = other

pub gives_then : {T V : Type 0} {Q : T → Type 0} {P : V → Type 0} (read : Option (T × List ℕ)) (next : T → List ℕ → Option V) →
    GivesFirst Q read → ((x : T) (rest : List ℕ) → Q x → Gives P (next x rest)) → Gives P (then_read read next)
gives_then {P = R} None next first after = gives_none R
gives_then (Some read) next first after = after read.0 read.1 (first.each read.0 read.1 refl)

pub gives_map : {T V : Type 0} {Q : T → Type 0} {P : V → Type 0} (read : Option T) (f : T → V) →
    Gives Q read → ((x : T) → Q x → P (f x)) → Gives P (option_map f read)
gives_map {P = R} None f given after = gives_none R
gives_map {P = R} (Some x) f given after = gives_some R (f x) (after x (given.each x refl))

pub gives_and_then : {T V : Type 0} {Q : T → Type 0} {P : V → Type 0} (read : Option T) (f : T → Option V) →
    Gives Q read → ((x : T) → Q x → Gives P (f x)) → Gives P (option_and_then f read)
gives_and_then {P = R} None f given after = gives_none R
gives_and_then (Some x) f given after = after x (given.each x refl)

-- what stands in a table
pub gives_beside : {V : Type 0} (P : V → Type 0) (rows : List (List ℕ × V)) (word : List ℕ) →
    AllByRecursion (λ (row : List ℕ × V). P row.1) rows → Gives P (beside word rows)
gives_beside P [] word all = gives_none P
gives_beside P (row ∷ rows) word all =
    gives_if (bytes_eq word row.0) (gives_some P row.1 all.0) (gives_beside P rows word all.1)
