-- Rows that are sought by name.
use Rattle.std.proofs.Common.{◌≡◌, ℕ, zero, suc, ◌+◌, ◌-◌, ◌<◌, ◌≤◌, Bool, true, false, List, Some, None, inl, inr, refl, sym, ap, subst, arith}
use Rattle.std.proofs.lemmas.Bool.{cases_lt}
use Rattle.std.proofs.Math.Nat.{mul-le-mul_left}
use Rattle.std.specs.List.{find, range_with_len}
use Rattle.std.specs.Str.{bytes_eq}
use Rattle.metadata_tables.specs.declared.layout.Layout.{Layout}
use Rattle.metadata_tables.specs.Layout.{count_of, row_size_of, rows_end}
use Rattle.metadata_tables.proofs.LayoutLemmas.{row_room}
use Rattle.assembly_image.specs.Module.{Module}
use Rattle.assembly_image.specs.Names.{full_name}

-- no number from the first on and below another passes
abbrev pub NoneBetween : (ℕ → Bool) → ℕ → ℕ → Type 0
NoneBetween p first end = (k : ℕ) → first ≤ k → k < end → p k ≡ false

pub none_more : (p : ℕ → Bool) (first n : ℕ) → NoneBetween p first n → p n ≡ false → NoneBetween p first (n + 1)
none_more p first n none here k low high =
    elim (cases_lt k n) [
      | inl h ↦ none k low h
      | inr h ↦ (let same : n ≡ k = omega arith in subst (λ j. p j ≡ false) same here)
    ]

pub find_none : (p : ℕ → Bool) (first len : ℕ) → NoneBetween p first (first + len) → find p (range_with_len first len) ≡ None
find_none p first zero none = refl
find_none p first (suc len) none =
    let here = none first (omega arith) (omega arith) in
    rw here (find_none p (first + 1) len (λ k low high. none k (omega arith) (omega arith)))

pub find_first : (p : ℕ → Bool) (first len n : ℕ) → first ≤ n → n < first + len → p n ≡ true → NoneBetween p first n
    → find p (range_with_len first len) ≡ Some n
find_first p first zero n low high here before = absurd (omega arith)
find_first p first (suc len) n low high here before =
    elim (cases_lt first n) as (λ _. find p (range_with_len first (suc len)) ≡ Some n) [
      | inl h ↦
          let miss = before first (omega arith) h in
          let later : NoneBetween p (first + 1) n = λ k l m. before k (omega arith) m in
          rw miss (find_first p (first + 1) len n (omega arith) (omega arith) here later)
      | inr h ↦
          let same : n ≡ first = omega arith in
          let hit : p first ≡ true = subst (λ k. p k ≡ true) same here in
          rw hit (ap Some (sym same))
    ]

-- a type that is sought
abbrev pub is_type_sought : Module → List ℕ → ℕ → Bool
is_type_sought m full row = bytes_eq (full_name m row) full

-- a table whose rows take a byte or more has no more rows than bytes
pub fewer_rows : (layout : Layout) (table : ℕ) → table < 45 → 1 ≤ row_size_of layout table
    → count_of layout table ≤ rows_end layout
fewer_rows layout table known some =
    elim (cases_lt (count_of layout table) 1) [
      | inl none ↦ omega arith
      | inr more ↦
          let room = row_room layout table (count_of layout table) known more (omega arith) in
          let each = mul-le-mul_left (count_of layout table - 1) some in
          omega arith
    ]
