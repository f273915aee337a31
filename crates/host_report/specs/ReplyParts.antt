-- The word of a reply, and what stands behind it (own: the writer's view, which no promise cites).
use Rattle.std.specs.Prelude.{ℕ, List, [], ◌∷◌, Option, Some, None, codes}
use Rattle.host_events.specs.declared.reply.Reply.{Reply}
use Rattle.host_events.specs.declared.reply.Reply.TheVariants as replies
use Rattle.host_report.specs.Fields.{Field}
use Rattle.host_report.specs.Table.{text_value}

abbrev pub reply_word : Reply → List ℕ
reply_word (replies.Exists n) = codes "Exists"
reply_word (replies.Made n) = codes "Made"
reply_word replies.NoContext = codes "NoContext"
reply_word (replies.Unloading n) = codes "Unloading"
reply_word (replies.Set n) = codes "Set"
reply_word (replies.Entered k c) = codes "Entered"
reply_word replies.NoHandle = codes "NoHandle"
reply_word (replies.EnteredAt k c a m) = codes "EnteredAt"
reply_word replies.Miss = codes "Miss"
reply_word (replies.Hit n) = codes "Hit"
reply_word (replies.Low n) = codes "Low"
reply_word (replies.Image n) = codes "Image"
reply_word (replies.Foreign n) = codes "Foreign"
reply_word replies.Nothing = codes "Nothing"
reply_word (replies.Lost n) = codes "Lost"
reply_word (replies.NotCollectible n) = codes "NotCollectible"
reply_word (replies.Shared n) = codes "Shared"
reply_word (replies.Bound n) = codes "Bound"
reply_word (replies.Placed n) = codes "Placed"
reply_word (replies.Value value) = codes "Value"
reply_word replies.Stored = codes "Stored"
reply_word replies.InUse = codes "InUse"
reply_word (replies.Held n) = codes "Held"
reply_word replies.Dropped = codes "Dropped"
reply_word (replies.Weakly n) = codes "Weakly"
reply_word (replies.Alive n) = codes "Alive"
reply_word (replies.Gone n) = codes "Gone"
reply_word (replies.Fixed n) = codes "Fixed"
reply_word (replies.Already n) = codes "Already"
reply_word (replies.Freed contexts) = codes "Freed"
reply_word replies.Left = codes "Left"

-- the number of a reply that has just one
abbrev pub reply_number : Reply → Option ℕ
reply_number (replies.Exists n) = Some n
reply_number (replies.Made n) = Some n
reply_number replies.NoContext = None
reply_number (replies.Unloading n) = Some n
reply_number (replies.Set n) = Some n
reply_number (replies.Entered k c) = None
reply_number replies.NoHandle = None
reply_number (replies.EnteredAt k c a m) = None
reply_number replies.Miss = None
reply_number (replies.Hit n) = Some n
reply_number (replies.Low n) = Some n
reply_number (replies.Image n) = Some n
reply_number (replies.Foreign n) = Some n
reply_number replies.Nothing = None
reply_number (replies.Lost n) = Some n
reply_number (replies.NotCollectible n) = Some n
reply_number (replies.Shared n) = Some n
reply_number (replies.Bound n) = Some n
reply_number (replies.Placed n) = Some n
reply_number (replies.Value value) = None
reply_number replies.Stored = None
reply_number replies.InUse = None
reply_number (replies.Held n) = Some n
reply_number replies.Dropped = None
reply_number (replies.Weakly n) = Some n
reply_number (replies.Alive n) = Some n
reply_number (replies.Gone n) = Some n
reply_number (replies.Fixed n) = Some n
reply_number (replies.Already n) = Some n
reply_number (replies.Freed contexts) = None
reply_number replies.Left = None

abbrev pub one_number : Option ℕ → List Field
one_number None = []
one_number (Some number) = Field.Number number ∷ []

-- what stands behind the word of a reply
abbrev pub reply_rest : Reply → List Field
reply_rest (replies.Entered k c) = Field.Numbers (k ∷ c ∷ []) ∷ []
reply_rest (replies.EnteredAt k c a m) = Field.Numbers (k ∷ c ∷ a ∷ m ∷ []) ∷ []
reply_rest (replies.Value value) = text_value value
reply_rest (replies.Freed contexts) = Field.Numbers contexts.list ∷ []
reply_rest (replies.Exists n) = one_number (Some n)
reply_rest (replies.Made n) = one_number (Some n)
reply_rest replies.NoContext = one_number None
reply_rest (replies.Unloading n) = one_number (Some n)
reply_rest (replies.Set n) = one_number (Some n)
reply_rest replies.NoHandle = one_number None
reply_rest replies.Miss = one_number None
reply_rest (replies.Hit n) = one_number (Some n)
reply_rest (replies.Low n) = one_number (Some n)
reply_rest (replies.Image n) = one_number (Some n)
reply_rest (replies.Foreign n) = one_number (Some n)
reply_rest replies.Nothing = one_number None
reply_rest (replies.Lost n) = one_number (Some n)
reply_rest (replies.NotCollectible n) = one_number (Some n)
reply_rest (replies.Shared n) = one_number (Some n)
reply_rest (replies.Bound n) = one_number (Some n)
reply_rest (replies.Placed n) = one_number (Some n)
reply_rest replies.Stored = one_number None
reply_rest replies.InUse = one_number None
reply_rest (replies.Held n) = one_number (Some n)
reply_rest replies.Dropped = one_number None
reply_rest (replies.Weakly n) = one_number (Some n)
reply_rest (replies.Alive n) = one_number (Some n)
reply_rest (replies.Gone n) = one_number (Some n)
reply_rest (replies.Fixed n) = one_number (Some n)
reply_rest (replies.Already n) = one_number (Some n)
reply_rest replies.Left = one_number None
