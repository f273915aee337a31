-- The work within an operation asks only for events that stand within one.
use Rattle.std.proofs.Common.{◌≡◌, ◌∙◌, ℕ, sym, ap, refl, true, false, List, [], Option, Some, None, Err}
use Rattle.host_events.specs.declared.event.Event.{Event}
use Rattle.host_events.specs.declared.event.Event.TheVariants as events
use Rattle.host_events.specs.declared.journal.Entry.{Entry}
use Rattle.host_events.specs.declared.reply.Reply.{Reply}
use Rattle.host_events.specs.Asking.{IsDue}
use Rattle.host_events.specs.Files.{Files}
use Rattle.host_events.specs.Operations.{begun_operation, ends}
use Rattle.host_events.specs.Reply.{IsReply}
use Rattle.host_events.specs.Task.Why.{Stopped}
use Rattle.host_events.proofs.Quiet.{begins}
use Rattle.bind_flow.specs.Binds.{Wanted, binds}
use Rattle.bind_flow.specs.Images.{World}
use Rattle.command_flow.specs.Flow.{is_last_by}
use Rattle.host_events.specs.Rooms.{most_contexts, numbers_due}
use Rattle.command_flow.specs.State.{is_inner}
use Rattle.command_flow.proofs.Inner.{bind_scope, inner_is, works-binds}
use Rattle.command_flow.proofs.Ways.{Fact}

-- what is due in a bind is an event within
pub due-inner : (world : World) (wanted : Wanted) (own : List (Event × Reply)) (event : Event) → IsDue (binds world wanted) own event → is_inner event ≡ true
due-inner world wanted own event due =
    let none : Fact = λ trace. Unit {0} in
    inner_is (bind_scope world.images wanted) event own ((works-binds world wanted none).ways tt tt [] own (Err (Stopped event)) tt due)

-- an event within is not the last of its command, ends no operation and lists no numbers
pub inner-not_last : (event : Event) (begun : Option ℕ) → is_inner event ≡ true → is_last_by event begun ≡ false
inner-not_last (events.Lookup context name version) begun inner = refl
inner-not_last (events.Ask step context name) begun inner = refl
inner-not_last (events.Publish context name candidate) begun inner = refl
inner-not_last event begun inner = cc

pub inner-no_end : (event : Event) (k : ℕ) → is_inner event ≡ true → ends k event ≡ false
inner-no_end (events.Lookup context name version) k inner = refl
inner-no_end (events.Ask step context name) k inner = refl
inner-no_end (events.Publish context name candidate) k inner = refl
inner-no_end event k inner = cc

pub inner-no_numbers : (event : Event) → is_inner event ≡ true → numbers_due most_contexts event ≡ 0
inner-no_numbers (events.Lookup context name version) inner = refl
inner-no_numbers (events.Ask step context name) inner = refl
inner-no_numbers (events.Publish context name candidate) inner = refl
inner-no_numbers event inner = cc

-- a reply to what is no beginning of an operation begins none
pub begins_none : (files : Files) (journal : List Entry) (event : Event) (reply : Reply) → IsReply files journal event reply →
    ((name : List ℕ) → event ≡ events.Enter name → ⊥) → begun_operation reply ≡ None
begins_none files journal event reply replied other = by_begun (begun_operation reply) refl
  where
    by_begun : (o : Option ℕ) → begun_operation reply ≡ o → o ≡ None
    by_begun None is = refl
    by_begun (Some k) is = let b = begins files journal event reply k replied is in absurd (other b.name b.event_is)

pub inner-begins_none : (files : Files) (journal : List Entry) (event : Event) (reply : Reply) → is_inner event ≡ true → IsReply files journal event reply →
    begun_operation reply ≡ None
inner-begins_none files journal event reply inner replied =
    begins_none files journal event reply replied (λ name is. let enters : is_inner (events.Enter name) ≡ true = ap is_inner (sym is) ∙ inner in cc enters)
