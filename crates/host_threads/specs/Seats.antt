-- Where the flow of a thread is while the threads take their turns (own).
use Rattle.std.specs.Prelude.{ℕ, Bool, true, false, List, zero, suc, map, length}
use Rattle.std.specs.List.{filter, range_with_len, slice_get}
use Rattle.std.specs.Option.{option_map_or}
use Rattle.host_events.specs.declared.flow.Next.{Next}
use Rattle.host_events.specs.declared.flow.Next.TheVariants as variants
use Rattle.host_threads.specs.declared.seat.Seat.{Seat}

-- what the flows of the seats gave last
abbrev pub given : {Flow Order End : Type 0} → List (Seat Flow Order End) → List (Next Order End)
given {Flow} {Order} {End} seats = map (λ (seat : Seat Flow Order End). seat.next) seats

-- a test of whether it asks for an event
abbrev pub asks : {Order End : Type 0} → Next Order End → Bool
asks (variants.Ask order) = true
asks (variants.End end) = false
asks variants.OutOfMemory = false

-- it does not lack memory
abbrev pub GoesOn : {Order End : Type 0} → Next Order End → Type 0
GoesOn (variants.Ask order) = Unit {0}
GoesOn (variants.End end) = Unit {0}
GoesOn variants.OutOfMemory = ⊥

-- the fact, unless it lacks memory
abbrev pub IfGoesOn : {Order End : Type 0} → Next Order End → Type 0 → Type 0
IfGoesOn (variants.Ask order) fact = fact
IfGoesOn (variants.End end) fact = fact
IfGoesOn variants.OutOfMemory fact = Unit {0}

-- a test of whether the thread, counted from 1, asks for an event
abbrev pub asks_at : {Order End : Type 0} → List (Next Order End) → ℕ → Bool
asks_at nexts zero = false
asks_at nexts (suc before) = option_map_or (λ next. asks next) (slice_get nexts before) false

-- the threads that ask for an event, in rising order
abbrev pub asking : {Order End : Type 0} → List (Next Order End) → List ℕ
asking nexts = filter (asks_at nexts) (range_with_len 1 (length nexts))
