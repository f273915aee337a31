-- A count of faults, in one call and over several.
use Rattle.std.proofs.Common.{◌≡◌, ℕ, ◌-◌, ◌^◌, ◌<◌, ◌≤◌, inl, inr, arith}
use Rattle.plug_io.specs.Faults.{HasRisen}

-- a rise in a later call is one in the whole
pub risen_later : (old mid new : ℕ) → old ≤ mid → HasRisen mid new → HasRisen old new
risen_later old mid new kept (inl rose) = inl (omega arith)
risen_later old mid new kept (inr last) = inr last

-- and so is one in an earlier call, since the last value stays
pub risen_earlier : (old mid new : ℕ) → HasRisen old mid → mid ≤ new →
    (mid ≡ 2 ^ 64 - 1 → new ≡ 2 ^ 64 - 1) → HasRisen old new
risen_earlier old mid new (inl rose) kept stays = inl (omega arith)
risen_earlier old mid new (inr last) kept stays = inr (stays last)

-- a count that stays below its last value has not risen
pub not_risen : (count : ℕ) → count < 2 ^ 64 - 1 → ¬ HasRisen count count
not_risen count below (inl rose) = absurd (omega arith)
not_risen count below (inr last) = absurd (omega arith)
