-- The room that an order brings for its reply (own).
use Rattle.std.specs.Prelude.{ℕ, []}
use Rattle.host_events.specs.declared.event.Event.{Event}
use Rattle.host_events.specs.declared.event.Event.TheVariants as events
use Rattle.host_events.specs.declared.order.Room.{Room}
use Rattle.host_events.specs.Reserved.{sealed}

-- the most contexts of a host, with the one of `default`
abbrev pub most_contexts : ℕ
most_contexts = 1088

-- room for so many numbers, and for no text
abbrev pub room_for : ℕ → Room
room_for count = record {
  numbers = record { list = []; spare = count };
  first = sealed [];
  second = sealed [];
  third = sealed [];
}

-- how many numbers the reply may list, where there are at most so many contexts
abbrev pub numbers_due : ℕ → Event → ℕ
numbers_due contexts (events.New name kind) = 0
numbers_due contexts (events.Rule place name answer) = 0
numbers_due contexts (events.Enter name) = 0
numbers_due contexts (events.EnterHandle handle) = 0
numbers_due contexts (events.Lookup context name version) = 0
numbers_due contexts (events.Ask step context name) = 0
numbers_due contexts (events.Publish context name candidate) = 0
numbers_due contexts (events.Place user key) = 0
numbers_due contexts (events.LoadStatic key field kind) = 0
numbers_due contexts (events.StoreStatic key field value) = 0
numbers_due contexts (events.Hold handle assembly method) = 0
numbers_due contexts (events.DropHandle handle) = 0
numbers_due contexts (events.Weak handle name) = 0
numbers_due contexts (events.Alive handle) = 0
numbers_due contexts (events.Unload name) = 0
numbers_due contexts events.Collect = contexts
numbers_due contexts (events.Leave operation) = 0
