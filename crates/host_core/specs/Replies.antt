-- The room for the lists and texts of a reply (own).
use Rattle.std.specs.Prelude.{ℕ, ◌≡◌, ◌≤◌, [], length}
use Rattle.host_events.specs.declared.event.Datum.{Datum}
use Rattle.host_events.specs.declared.event.Datum.TheVariants as values
use Rattle.host_events.specs.declared.order.Room.{Room}
use Rattle.host_events.specs.declared.reply.Reply.{Reply}
use Rattle.host_events.specs.declared.reply.Reply.TheVariants as replies
use Rattle.host_events.specs.Reserved.{Reserved, sealed}

-- what a list holds has room in another one
abbrev pub CanCopy : {T : Type 0} → Reserved T → Reserved T → Type 0
CanCopy list room = (list ≡ sealed list.list) × (room.list ≡ []) × (length list.list ≤ room.spare)

-- the text of a value has room
abbrev pub CanCopyText : Datum (Reserved ℕ) → Reserved ℕ → Type 0
CanCopyText (values.I4 n) room = Unit {0}
CanCopyText (values.I8 n) room = Unit {0}
CanCopyText (values.N n) room = Unit {0}
CanCopyText (values.S text) room = CanCopy text room
CanCopyText values.Null room = Unit {0}
CanCopyText values.Ref room = Unit {0}

-- the numbers or the text that the reply holds have room there
abbrev pub CanRetell : Reply → Room → Type 0
CanRetell (replies.Exists c) room = Unit {0}
CanRetell (replies.Made c) room = Unit {0}
CanRetell replies.NoContext room = Unit {0}
CanRetell (replies.Unloading c) room = Unit {0}
CanRetell (replies.Set c) room = Unit {0}
CanRetell (replies.Entered k c) room = Unit {0}
CanRetell replies.NoHandle room = Unit {0}
CanRetell (replies.EnteredAt k c a m) room = Unit {0}
CanRetell replies.Miss room = Unit {0}
CanRetell (replies.Hit a) room = Unit {0}
CanRetell (replies.Low a) room = Unit {0}
CanRetell (replies.Image i) room = Unit {0}
CanRetell (replies.Foreign a) room = Unit {0}
CanRetell replies.Nothing room = Unit {0}
CanRetell (replies.Lost a) room = Unit {0}
CanRetell (replies.NotCollectible a) room = Unit {0}
CanRetell (replies.Shared a) room = Unit {0}
CanRetell (replies.Bound a) room = Unit {0}
CanRetell (replies.Placed c) room = Unit {0}
CanRetell (replies.Value value) room = CanCopyText value room.first
CanRetell replies.Stored room = Unit {0}
CanRetell replies.InUse room = Unit {0}
CanRetell (replies.Held c) room = Unit {0}
CanRetell replies.Dropped room = Unit {0}
CanRetell (replies.Weakly c) room = Unit {0}
CanRetell (replies.Alive c) room = Unit {0}
CanRetell (replies.Gone c) room = Unit {0}
CanRetell (replies.Fixed c) room = Unit {0}
CanRetell (replies.Already c) room = Unit {0}
CanRetell (replies.Freed contexts) room = CanCopy contexts room.numbers
CanRetell replies.Left room = Unit {0}
