-- Lemmas on the word of a reply and what stands behind it.
use Rattle.std.proofs.Common.{◌≡◌, ℕ, List, [], ◌++◌, refl, sym, ap, append-nil}
use Rattle.std.specs.Prelude.{codes, decimal}
use Rattle.host_events.specs.declared.event.Datum.{Datum}
use Rattle.host_events.specs.declared.reply.Reply.{Reply}
use Rattle.host_events.specs.declared.reply.Reply.TheVariants as replies
use Rattle.host_events.specs.Reserved.{Reserved}
use Rattle.host_report.specs.Fields.{fields_text, front_text, spaced}
use Rattle.host_report.specs.ReplyParts.{one_number, reply_number, reply_rest, reply_word}
use Rattle.host_report.specs.Table.{reply_fields}

pub one_then : (word : List ℕ) (number : ℕ) →
    word ++ (spaced (decimal number) ++ []) ≡ word ++ ((spaced (decimal number) ++ []) ++ [])
one_then word number = ap (λ text. word ++ (text ++ [])) (sym (append-nil (spaced (decimal number))))

pub parted : (reply : Reply) → reply_word reply ++ fields_text (reply_rest reply) ≡ front_text (reply_fields reply)
parted (replies.Exists n) = one_then (codes "Exists") n
parted (replies.Made n) = one_then (codes "Made") n
parted replies.NoContext = refl
parted (replies.Unloading n) = one_then (codes "Unloading") n
parted (replies.Set n) = one_then (codes "Set") n
parted (replies.Entered k c) = refl
parted replies.NoHandle = refl
parted (replies.EnteredAt k c a m) = refl
parted replies.Miss = refl
parted (replies.Hit n) = one_then (codes "Hit") n
parted (replies.Low n) = one_then (codes "Low") n
parted (replies.Image n) = one_then (codes "Image") n
parted (replies.Foreign n) = one_then (codes "Foreign") n
parted replies.Nothing = refl
parted (replies.Lost n) = one_then (codes "Lost") n
parted (replies.NotCollectible n) = one_then (codes "NotCollectible") n
parted (replies.Shared n) = one_then (codes "Shared") n
parted (replies.Bound n) = one_then (codes "Bound") n
parted (replies.Placed n) = one_then (codes "Placed") n
parted (replies.Value value) = refl
parted replies.Stored = refl
parted replies.InUse = refl
parted (replies.Held n) = one_then (codes "Held") n
parted replies.Dropped = refl
parted (replies.Weakly n) = one_then (codes "Weakly") n
parted (replies.Alive n) = one_then (codes "Alive") n
parted (replies.Gone n) = one_then (codes "Gone") n
parted (replies.Fixed n) = one_then (codes "Fixed") n
parted (replies.Already n) = one_then (codes "Already") n
parted (replies.Freed contexts) = refl
parted replies.Left = refl

-- what stands behind the word of a reply that has no list, no value and no two numbers
pub rest_other : (reply : Reply) →
    ((value : Datum (Reserved ℕ)) → reply ≡ replies.Value value → ⊥) →
    ((contexts : Reserved ℕ) → reply ≡ replies.Freed contexts → ⊥) →
    ((k c : ℕ) → reply ≡ replies.Entered k c → ⊥) →
    ((k c a m : ℕ) → reply ≡ replies.EnteredAt k c a m → ⊥) →
    one_number (reply_number reply) ≡ reply_rest reply
rest_other (replies.Value v) value freed entered at = absurd (value v refl)
rest_other (replies.Freed contexts) value freed entered at = absurd (freed contexts refl)
rest_other (replies.Entered k c) value freed entered at = absurd (entered k c refl)
rest_other (replies.EnteredAt k c a m) value freed entered at = absurd (at k c a m refl)
rest_other (replies.Exists n) value freed entered at = refl
rest_other (replies.Made n) value freed entered at = refl
rest_other replies.NoContext value freed entered at = refl
rest_other (replies.Unloading n) value freed entered at = refl
rest_other (replies.Set n) value freed entered at = refl
rest_other replies.NoHandle value freed entered at = refl
rest_other replies.Miss value freed entered at = refl
rest_other (replies.Hit n) value freed entered at = refl
rest_other (replies.Low n) value freed entered at = refl
rest_other (replies.Image n) value freed entered at = refl
rest_other (replies.Foreign n) value freed entered at = refl
rest_other replies.Nothing value freed entered at = refl
rest_other (replies.Lost n) value freed entered at = refl
rest_other (replies.NotCollectible n) value freed entered at = refl
rest_other (replies.Shared n) value freed entered at = refl
rest_other (replies.Bound n) value freed entered at = refl
rest_other (replies.Placed n) value freed entered at = refl
rest_other replies.Stored value freed entered at = refl
rest_other replies.InUse value freed entered at = refl
rest_other (replies.Held n) value freed entered at = refl
rest_other replies.Dropped value freed entered at = refl
rest_other (replies.Weakly n) value freed entered at = refl
rest_other (replies.Alive n) value freed entered at = refl
rest_other (replies.Gone n) value freed entered at = refl
rest_other (replies.Fixed n) value freed entered at = refl
rest_other (replies.Already n) value freed entered at = refl
rest_other replies.Left value freed entered at = refl
