-- A content is what is read of it up to one byte past a limit, where that is no longer than the limit.
use Rattle.std.proofs.Common.{◌≡◌, ℕ, ◌+◌, ◌-◌, ◌^◌, ◌<◌, ◌≤◌, List, [], ◌++◌, length, take, min}
use Rattle.std.proofs.Common.{Option, Some, None, IfSome, ap, sym, ◌∙◌, arith}
use Rattle.std.proofs.lemmas.List.{length-take, take_all}
use Rattle.std.specs.Option.{option_map}

pub front_whole : (n limit : ℕ) (content front : List ℕ) → n ≡ min (limit + 1) (2 ^ 64 - 1) →
    length front < 2 ^ 63 → length front ≤ limit → front ≡ take n content → content ≡ front
front_whole n limit content front bounded small within taken =
    sym (taken ∙ take_all n content (omega (arith, cut, bounded, small, within)))
  where
    cut : length front ≡ min n (length content)
    cut = ap length taken ∙ length-take n content

-- the same, of what is known to be left of a source, and where nothing was read before
pub known_whole : (known : Option (List ℕ)) (n limit : ℕ) (before front : List ℕ) →
    n ≡ min (limit + 1) (2 ^ 64 - 1) → before ≡ [] → length front < 2 ^ 63 → length front ≤ limit →
    IfSome (option_map (take n) known) (λ taken. front ≡ before ++ taken) →
    IfSome known (λ content. (Some content ≡ Some front) × (length front ≤ limit))
known_whole None n limit before front bounded none small within taken = tt
known_whole (Some content) n limit before front bounded none small within taken =
    (ap Some (front_whole n limit content front bounded small within from_start), within)
  where
    from_start : front ≡ take n content
    from_start = taken ∙ ap (λ start. start ++ take n content) none
