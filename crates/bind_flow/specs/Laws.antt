-- Laws over binds (own).
use Rattle.std.specs.Prelude.{◌≡◌, List, [], ◌∷◌, ◌++◌}
use Rattle.host_events.specs.declared.event.Event.{Event}
use Rattle.host_events.specs.declared.outcome.Outcome.{Outcome}
use Rattle.host_events.specs.declared.reply.Reply.{Reply}
use Rattle.host_events.specs.Asking.{IsDue}
use Rattle.bind_flow.specs.Binds.{Binds, Wanted, binds}
use Rattle.bind_flow.specs.Images.{World}

-- A bind has one outcome at most, and no whole bind is a proper front of another.
abbrev pub OneBind : Type 0
OneBind =
    (world : World) (wanted : Wanted) (trace more : List (Event × Reply)) (outcome other : Outcome) →
    Binds world wanted trace outcome → Binds world wanted (trace ++ more) other → (more ≡ []) × (outcome ≡ other)

-- Each event of a bind is due after those before it, and after the same events with their replies no other is.
abbrev pub BindsInOrder : Type 0
BindsInOrder =
    (world : World) (wanted : Wanted) (before : List (Event × Reply)) (event : Event) (reply : Reply)
    (after : List (Event × Reply)) (outcome : Outcome) →
    Binds world wanted (before ++ (event, reply) ∷ after) outcome →
    IsDue (binds world wanted) before event × ((other : Event) → IsDue (binds world wanted) before other → other ≡ event)
