-- Lemmas on fields one after another.
use Rattle.std.proofs.Common.{◌≡◌, ℕ, List, [], ◌∷◌, ◌++◌, refl, sym, ◌∙◌, ap, append_assoc, append-nil}
use Rattle.std.specs.Prelude.{codes, decimal}
use Rattle.host_events.specs.declared.journal.Entry.{Entry}
use Rattle.host_events.specs.declared.reply.Reply.{Reply}
use Rattle.host_events.specs.declared.reply.Reply.TheVariants as replies
use Rattle.host_report.specs.Fields.{Field, field_text, fields_text, front_text, spaced}
use Rattle.host_report.specs.Table.{event_fields, reply_fields}
use Rattle.host_report.specs.Report.{entry_text}

pub fields_text-append : (fields others : List Field) →
    fields_text (fields ++ others) ≡ fields_text fields ++ fields_text others
fields_text-append [] others = refl
fields_text-append (field ∷ fields) others =
    ap (λ text. field_text field ++ text) (fields_text-append fields others)
    ∙ sym (append_assoc (field_text field) (fields_text fields) (fields_text others))

-- two texts, and those after them
pub two_then : (a b rest : List ℕ) → (a ++ (b ++ [])) ++ rest ≡ a ++ (b ++ rest)
two_then a b rest =
    append_assoc a (b ++ []) rest ∙ ap (λ text. a ++ (text ++ rest)) (append-nil b)

-- the text of a reply begins with a space
pub reply_spaced : (reply : Reply) →
    fields_text (reply_fields reply) ≡ codes " " ++ front_text (reply_fields reply)
reply_spaced (replies.Exists c) = refl
reply_spaced (replies.Made c) = refl
reply_spaced replies.NoContext = refl
reply_spaced (replies.Unloading c) = refl
reply_spaced (replies.Set c) = refl
reply_spaced (replies.Entered k c) = refl
reply_spaced replies.NoHandle = refl
reply_spaced (replies.EnteredAt k c a m) = refl
reply_spaced replies.Miss = refl
reply_spaced (replies.Hit c) = refl
reply_spaced (replies.Low c) = refl
reply_spaced (replies.Image c) = refl
reply_spaced (replies.Foreign c) = refl
reply_spaced replies.Nothing = refl
reply_spaced (replies.Lost c) = refl
reply_spaced (replies.NotCollectible c) = refl
reply_spaced (replies.Shared c) = refl
reply_spaced (replies.Bound c) = refl
reply_spaced (replies.Placed c) = refl
reply_spaced (replies.Value value) = refl
reply_spaced replies.Stored = refl
reply_spaced replies.InUse = refl
reply_spaced (replies.Held c) = refl
reply_spaced replies.Dropped = refl
reply_spaced (replies.Weakly c) = refl
reply_spaced (replies.Alive c) = refl
reply_spaced (replies.Gone c) = refl
reply_spaced (replies.Fixed c) = refl
reply_spaced (replies.Already c) = refl
reply_spaced (replies.Freed list) = refl
reply_spaced replies.Left = refl

regrouped : (n t e r : List ℕ) →
    ((((n ++ t) ++ e) ++ codes " -> ") ++ r) ++ codes "\n" ≡ (n ++ (t ++ (e ++ (codes " ->" ++ (codes " " ++ r))))) ++ codes "\n"
regrouped n t e r =
    ap (λ text. text ++ codes "\n")
    (append_assoc ((n ++ t) ++ e) (codes " -> ") r
    ∙ append_assoc (n ++ t) e (codes " -> " ++ r)
    ∙ append_assoc n t (e ++ (codes " -> " ++ r)))

-- the pieces of an entry's line
pub entry_joined : (number : ℕ) (entry : Entry) →
    ((((decimal number ++ spaced (decimal entry.thread)) ++ fields_text (event_fields entry.event)) ++ codes " -> ") ++ front_text (reply_fields entry.reply)) ++ codes "\n"
    ≡ entry_text number entry
entry_joined number entry =
    regrouped (decimal number) (spaced (decimal entry.thread)) (fields_text (event_fields entry.event)) (front_text (reply_fields entry.reply))
    ∙ ap (λ text. (decimal number ++ (spaced (decimal entry.thread) ++ (fields_text (event_fields entry.event) ++ (codes " ->" ++ text)))) ++ codes "\n") (sym (reply_spaced entry.reply))
    ∙ ap (λ text. (decimal number ++ (spaced (decimal entry.thread) ++ text)) ++ codes "\n") (sym (fields_text-append (event_fields entry.event) (Field.Word (codes "->") ∷ reply_fields entry.reply)))
