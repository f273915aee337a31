-- What the threads of a run may make in all (own).
use Rattle.std.specs.Prelude.{ℕ, ◌+◌, ◌<◌, ◌^◌, List, Option, None, length, sum_by, zero, suc}
use Rattle.std.specs.List.{slice_get}
use Rattle.std.specs.Option.{option_map_or}
use Rattle.host_core.specs.declared.bounds.Share.{Share}
use Rattle.host_core.specs.declared.bounds.Bounds.{Bounds}

-- the bounds that these shares make up: their sums, and one context more, which is `default`
abbrev pub bounds_of : List Share → Bounds
bounds_of shares = record {
  threads = length shares;
  events = sum_by (λ share. share.events) shares;
  contexts = sum_by (λ share. share.contexts) shares + 1;
  handles = sum_by (λ share. share.handles) shares;
  rules = sum_by (λ share. share.rules) shares;
  shares = shares;
}

-- there is a share, and each sum fits 32 bits
pub record CanSum (shares : List Share) : Type 0 where
  pub some : 0 < length shares
  pub threads : length shares < 2 ^ 32
  pub events : sum_by (λ share. share.events) shares < 2 ^ 32
  pub contexts : sum_by (λ share. share.contexts) shares + 1 < 2 ^ 32
  pub handles : sum_by (λ share. share.handles) shares < 2 ^ 32
  pub rules : sum_by (λ share. share.rules) shares < 2 ^ 32

-- the share of a thread, which is counted from 1
abbrev pub share_of : List Share → ℕ → Option Share
share_of shares zero = None
share_of shares (suc before) = slice_get shares before

-- a part of a thread's share: 0 where the thread has no share
abbrev pub part_of : (Share → ℕ) → List Share → ℕ → ℕ
part_of part shares thread = option_map_or part (share_of shares thread) 0
