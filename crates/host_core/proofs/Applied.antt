-- What the host keeps, after one more entry.
use Rattle.std.proofs.Common.{◌≡◌, ℕ, ◌+◌, ◌≤◌, List, [], ◌∷◌, ◌++◌, length, sym, subst, arith}
use Rattle.std.specs.Vec.{vec_capacity}
use Rattle.std.proofs.lemmas.List.{length_push}
use Rattle.host_events.specs.declared.event.Event.{Event}
use Rattle.host_events.specs.declared.journal.Entry.{Entry}
use Rattle.host_events.specs.declared.order.Order.{Order}
use Rattle.host_events.specs.declared.reply.Reply.{Reply}
use Rattle.host_events.specs.declared.reply.Reply.TheVariants as replies
use Rattle.host_events.specs.Contexts.{freed_contexts, made_count}
use Rattle.host_events.specs.Reply.{IsReply}
use Rattle.host_events.specs.Steps.{entry_of}
use Rattle.host_core.specs.declared.tables.Tables.{Tables}
use Rattle.host_core.specs.Accepted.{IsAccepted}
use Rattle.host_events.specs.Rooms.{numbers_due}
use Rattle.host_core.specs.After.{CanFollow, HaveFollowed}
use Rattle.host_core.specs.Allowed.{Fixed, IsAllowed}
use Rattle.host_core.specs.Core.{Core, IsKeptUp}
use Rattle.host_core.specs.Replies.{CanRetell}
use Rattle.host_core.proofs.Able.{CanFollow-from}
use Rattle.host_core.proofs.Few.{made-le}
use Rattle.host_core.proofs.Followed.{HaveRoom-push, Represents-push}
use Rattle.host_core.proofs.Keeps.{CanRetell-from_room, IsAllowed-push, length-le, numbers_due-le}

-- one more entry is within the bounds
pub next-le : {C : Type 0} {image : C → ℕ} {fixed : Fixed} {journal : List Entry} {thread : ℕ} {order : Order C} →
    IsAllowed fixed journal → IsAccepted image fixed journal thread order → length journal + 1 ≤ fixed.bounds.events
next-le {C} {image} {fixed} {journal} {thread} {order} allowed accepted =
    omega (arith, length-le image fixed journal thread order replies.Left allowed accepted, length_push journal (entry_of thread order.event replies.Left))

-- what the host's type keeps, at the value that contracts see
pub allowed-seen : {host now : Core} → host ≡ now → IsAllowed host.fixed host.journal → IsAllowed now.fixed now.journal
allowed-seen {host} {now} same allowed = subst (λ (v : Core). IsAllowed v.fixed v.journal) same allowed

pub is_reply-inside : {host now : Core} (event : Event) (reply : Reply) → host ≡ now → IsReply now.fixed.files now.journal event reply →
    IsReply host.fixed.files host.journal event reply
is_reply-inside {host} {now} event reply same is = subst (λ (v : Core). IsReply v.fixed.files v.journal event reply) (sym same) is

-- there is room for the numbers that the reply lists
pub numbers-fit : {C : Type 0} {image : C → ℕ} {fixed : Fixed} {journal : List Entry} {thread : ℕ} {order : Order C} →
    IsAllowed fixed journal → IsAccepted image fixed journal thread order → numbers_due (made_count journal + 1) order.event ≤ order.room.numbers.spare
numbers-fit {C} {image} {fixed} {journal} {thread} {order} allowed accepted =
    let due : numbers_due (made_count journal + 1) order.event ≤ numbers_due fixed.bounds.contexts order.event =
    numbers_due-le (made_count journal + 1) fixed.bounds.contexts order.event (made-le fixed journal allowed) in
    let brought : numbers_due fixed.bounds.contexts order.event ≤ order.room.numbers.spare = accepted.room_brought.1 in
    omega (arith, due, brought)

pub retell-fits : {C : Type 0} {image : C → ℕ} {fixed : Fixed} {journal : List Entry} {thread : ℕ} {order : Order C} (reply : Reply) →
    IsAllowed fixed journal → IsAccepted image fixed journal thread order → IsReply fixed.files journal order.event reply →
    length (freed_contexts reply) ≤ made_count journal + 1 → CanRetell reply order.copy
retell-fits {C} {image} {fixed} {journal} {thread} {order} reply allowed accepted is few =
    CanRetell-from_room (made_count journal + 1) fixed.bounds.contexts fixed.files journal order.event reply order.copy is few
    (made-le fixed journal allowed) accepted.copy_brought

pub allowed-next : {C : Type 0} {image : C → ℕ} {fixed : Fixed} {journal : List Entry} {tables : Tables C} {capacity codes thread : ℕ} {order : Order C} (reply : Reply) →
    IsKeptUp image fixed journal tables capacity codes → IsAccepted image fixed journal thread order → IsReply fixed.files journal order.event reply →
    IsAllowed fixed (journal ++ entry_of thread order.event reply ∷ [])
allowed-next {C} {image} {fixed} {journal} {tables} {capacity} {codes} {thread} {order} reply kept accepted is =
    IsAllowed-push image fixed journal thread order reply kept.events kept.allowed accepted is

pub allowed-at : {C : Type 0} {image : C → ℕ} {fixed : Fixed} {journal : List Entry} {tables : Tables C} {capacity codes thread : ℕ} {order : Order C} (reply : Reply) →
    IsKeptUp image fixed journal tables capacity codes → IsAccepted image fixed journal thread order → IsReply fixed.files journal order.event reply →
    (items : List Entry) → items ≡ journal ++ entry_of thread order.event reply ∷ [] → IsAllowed fixed items
allowed-at reply kept accepted is items now = subst (IsAllowed _) (sym now) (allowed-next reply kept accepted is)

pub follow-fits : {C : Type 0} {image : C → ℕ} {fixed : Fixed} {journal : List Entry} {tables : Tables C} {capacity thread : ℕ} {order : Order C} (reply : Reply) →
    IsKeptUp image fixed journal tables capacity (vec_capacity tables.codes) → IsAccepted image fixed journal thread order →
    IsReply fixed.files journal order.event reply → CanFollow tables order.again order.code reply
follow-fits {C} {image} {fixed} {journal} {tables} {capacity} {thread} {order} reply kept accepted is =
    subst (λ e. CanFollow tables e order.code reply) (sym accepted.same)
    (CanFollow-from image fixed journal thread tables order.event order.code reply kept.represents kept.tables_room kept.events kept.allowed
    (allowed-next reply kept accepted is) (length-le image fixed journal thread order reply kept.allowed accepted) is accepted.coded)

-- the host's type keeps the same after the entry
pub IsKeptUp-push : {C : Type 0} {image : C → ℕ} {fixed : Fixed} {journal : List Entry} {tables : Tables C} {capacity thread : ℕ} {order : Order C} (reply : Reply) →
    IsKeptUp image fixed journal tables capacity (vec_capacity tables.codes) → IsAccepted image fixed journal thread order →
    IsReply fixed.files journal order.event reply → (new : Tables C) → HaveFollowed tables new order.again order.code reply →
    (items : List Entry) (grown : ℕ) → items ≡ journal ++ entry_of thread order.event reply ∷ [] → capacity ≤ grown →
    IsKeptUp image fixed items new grown (vec_capacity new.codes)
IsKeptUp-push {C} {image} {fixed} {journal} {tables} {capacity} {thread} {order} reply kept accepted is new followed items grown now more =
    let followed_it : HaveFollowed tables new order.event order.code reply = subst (λ e. HaveFollowed tables new e order.code reply) accepted.same followed in
    subst (λ j. IsKeptUp image fixed j new grown (vec_capacity new.codes)) (sym now) (record {
      allowed = allowed-next reply kept accepted is;
      represents = Represents-push image tables new fixed.files journal thread order.event order.code reply kept.represents kept.allowed.proper.legal is accepted.coded followed_it;
      events = kept.events;
      room = omega (arith, kept.room, more);
      tables_room = HaveRoom-push fixed.bounds tables new journal thread order.event order.code reply kept.tables_room followed_it;
    })
