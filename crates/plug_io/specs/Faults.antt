-- Counts of faults (own).
use Rattle.std.specs.Prelude.{◌≡◌, ℕ, ◌+◌, ◌-◌, ◌^◌, ◌<◌, ◌⊎◌, Bool, min, if◌then◌else◌}

-- a count rose, or stands at the last value of its type, where a fault leaves it
abbrev pub HasRisen : ℕ → ℕ → Type 0
HasRisen old new = (old < new) ⊎ (new ≡ 2 ^ 64 - 1)

-- the count after a call: one more where it failed, up to the last value
abbrev pub count_after : ℕ → Bool → ℕ
count_after old failed = if failed then min (old + 1) (2 ^ 64 - 1) else old
