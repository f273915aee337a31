use Rattle.std.proofs.Common.{◌≡◌, ℕ, length, take, option_map, Contains}
use Rattle.il_verifier.specs.Search.{depth_at, found_at}
use Rattle.il_verifier.proofs.depth.settle.Given as goal

-- the places so far have their depths
abbrev pub invariant-loop-to : goal.invariant-loop-to
invariant-loop-to l = record {
  sized : length l.depths.items ≡ length l.fn.depths.items;
  settled : (to : ℕ) → Contains (take l.to-index l.next) to →
      depth_at l.depths.items to ≡ option_map (λ best. best.1) (found_at l.found to);
  others : (to : ℕ) → (Contains (take l.to-index l.next) to → ⊥) →
      depth_at l.depths.items to ≡ depth_at l.fn.depths.items to;
}
