-- The reply that a text is (own: the reader's view, which no promise cites).
use Rattle.std.specs.Prelude.{ℕ, zero, suc, List, [], ◌∷◌, length, Option, Some, None, option_map, option_and_then, if◌then◌else◌, codes}
use Rattle.std.specs.Str.{bytes_eq}
use Rattle.host_events.specs.declared.event.Datum.{Datum}
use Rattle.host_events.specs.declared.event.Datum.TheVariants as values
use Rattle.host_events.specs.declared.reply.Reply.{Reply}
use Rattle.host_events.specs.declared.reply.Reply.TheVariants as replies
use Rattle.host_events.specs.Reserved.{Reserved, sealed}
use Rattle.host_report.specs.FieldReading.{number_read, int_read, long_read}
use Rattle.host_report.specs.Keyword.{keyword_read, beside}
use Rattle.host_report.specs.Reading.{then_read}
use Rattle.host_report.specs.TextReading.{units_read}

-- a number or null, of which this is the kind
abbrev pub scalar : {T : Type 0} → List ℕ → List ℕ → Option (Datum T × List ℕ)
scalar kind text =
    if bytes_eq kind (codes "i4") then then_read (int_read text) (λ number rest. Some (values.I4 number, rest))
    else (if bytes_eq kind (codes "i8") then then_read (long_read text) (λ number rest. Some (values.I8 number, rest))
    else (if bytes_eq kind (codes "n") then then_read (long_read text) (λ number rest. Some (values.N number, rest))
    else (if bytes_eq kind (codes "null") then Some (values.Null, text)
    else None)))

-- the value of a kind, whose text is made of its units
abbrev pub named_value : {T : Type 0} → (List ℕ → T) → List ℕ → List ℕ → Option (Datum T × List ℕ)
named_value text_of kind text =
    if bytes_eq kind (codes "s") then then_read (units_read text) (λ units rest. Some (values.S (text_of units), rest))
    else scalar kind text

-- a value that is no reference
abbrev pub value_read : {T : Type 0} → (List ℕ → T) → List ℕ → Option (Datum T × List ℕ)
value_read text_of text = then_read (keyword_read text) (named_value text_of)

-- numbers up to the end of a text that is no longer than so
abbrev pub numbers_within : ℕ → List ℕ → Option (List ℕ)
numbers_within most [] = Some []
numbers_within zero (byte ∷ bytes) = None
numbers_within (suc most) (byte ∷ bytes) =
    then_read (number_read (byte ∷ bytes)) (λ number rest.
    option_map (λ numbers. number ∷ numbers) (numbers_within most rest))

-- the numbers up to the end of the text
unfoldable pub numbers_read : List ℕ → Option (List ℕ)
numbers_read text = numbers_within (length text) text

-- the replies that are a word
abbrev pub plain_replies : List (List ℕ × Reply)
plain_replies =
    (codes "NoContext", replies.NoContext)
    ∷ (codes "NoHandle", replies.NoHandle)
    ∷ (codes "Miss", replies.Miss)
    ∷ (codes "Nothing", replies.Nothing)
    ∷ (codes "Stored", replies.Stored)
    ∷ (codes "InUse", replies.InUse)
    ∷ (codes "Dropped", replies.Dropped)
    ∷ (codes "Left", replies.Left)
    ∷ []

-- the replies that are a word and a number
abbrev pub replies_of_one : List (List ℕ × (ℕ → Reply))
replies_of_one =
    (codes "Exists", replies.Exists)
    ∷ (codes "Made", replies.Made)
    ∷ (codes "Unloading", replies.Unloading)
    ∷ (codes "Set", replies.Set)
    ∷ (codes "Hit", replies.Hit)
    ∷ (codes "Low", replies.Low)
    ∷ (codes "Image", replies.Image)
    ∷ (codes "Foreign", replies.Foreign)
    ∷ (codes "Lost", replies.Lost)
    ∷ (codes "NotCollectible", replies.NotCollectible)
    ∷ (codes "Shared", replies.Shared)
    ∷ (codes "Bound", replies.Bound)
    ∷ (codes "Placed", replies.Placed)
    ∷ (codes "Held", replies.Held)
    ∷ (codes "Weakly", replies.Weakly)
    ∷ (codes "Alive", replies.Alive)
    ∷ (codes "Gone", replies.Gone)
    ∷ (codes "Fixed", replies.Fixed)
    ∷ (codes "Already", replies.Already)
    ∷ []

abbrev pub reply_of_one : List ℕ → ℕ → Option Reply
reply_of_one name number = option_map (λ reply. reply number) (beside name replies_of_one)

-- the reply of a word and a known count of numbers
abbrev pub numbered_reply : List ℕ → List ℕ → Option Reply
numbered_reply name [] = beside name plain_replies
numbered_reply name (number ∷ []) = reply_of_one name number
numbered_reply name (operation ∷ context ∷ []) =
    if bytes_eq name (codes "Entered") then Some (replies.Entered operation context) else None
numbered_reply name (operation ∷ context ∷ assembly ∷ method ∷ []) =
    if bytes_eq name (codes "EnteredAt") then Some (replies.EnteredAt operation context assembly method) else None
numbered_reply name _ = None

-- the reply of a word and the text after it
abbrev pub named_reply : List ℕ → List ℕ → Option Reply
named_reply name text =
    if bytes_eq name (codes "Value") then then_read (value_read sealed text) (λ value rest. Some (replies.Value value))
    else (if bytes_eq name (codes "Freed") then option_map (λ numbers. replies.Freed (sealed numbers)) (numbers_read text)
    else option_and_then (numbered_reply name) (numbers_read text))

-- the reply that the text is, up to its end
unfoldable pub reply_read : List ℕ → Option Reply
reply_read text = then_read (keyword_read text) named_reply
