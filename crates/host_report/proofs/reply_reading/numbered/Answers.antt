use Rattle.std.proofs.Common.{◌≡◌, ℕ, ◌<◌, ◌≤◌, List, [], ◌∷◌, length, refl, arith}
use Rattle.std.specs.Prelude.{slice_index_or}
use Rattle.host_report.specs.Keyword.{beside}
use Rattle.host_report.specs.ReplyReading.{numbered_reply, plain_replies, reply_of_one}
use Rattle.host_report.proofs.reply_reading.numbered.Goals as goal

of_none : (name numbers : List ℕ) → length numbers < 1 → numbered_reply name numbers ≡ beside name plain_replies
of_none name [] few = refl
of_none name (number ∷ numbers) few = absurd (omega arith)

of_one : (name numbers : List ℕ) → 1 ≤ length numbers → length numbers < 2 →
    numbered_reply name numbers ≡ reply_of_one name (slice_index_or numbers 0 0)
of_one name [] some few = absurd (omega arith)
of_one name (number ∷ []) some few = refl
of_one name (number ∷ next ∷ numbers) some few = absurd (omega arith)

of_two : (name numbers : List ℕ) → 2 ≤ length numbers → length numbers < 3 →
    numbered_reply name numbers ≡ numbered_reply name (slice_index_or numbers 0 0 ∷ slice_index_or numbers 1 0 ∷ [])
of_two name [] some few = absurd (omega arith)
of_two name (a ∷ []) some few = absurd (omega arith)
of_two name (a ∷ b ∷ []) some few = refl
of_two name (a ∷ b ∷ c ∷ numbers) some few = absurd (omega arith)

of_four : (name numbers : List ℕ) → 4 ≤ length numbers → length numbers < 5 →
    numbered_reply name numbers
    ≡ numbered_reply name (slice_index_or numbers 0 0 ∷ slice_index_or numbers 1 0 ∷ slice_index_or numbers 2 0 ∷ slice_index_or numbers 3 0 ∷ [])
of_four name [] some few = absurd (omega arith)
of_four name (a ∷ []) some few = absurd (omega arith)
of_four name (a ∷ b ∷ []) some few = absurd (omega arith)
of_four name (a ∷ b ∷ c ∷ []) some few = absurd (omega arith)
of_four name (a ∷ b ∷ c ∷ d ∷ []) some few = refl
of_four name (a ∷ b ∷ c ∷ d ∷ e ∷ numbers) some few = absurd (omega arith)

pub returns-in-empty : goal.returns-in-empty
returns-in-empty c = rw (of_none c.args.name.now c.args.numbers.now (omega arith)) c.plain.ensures

pub returns-in-len1 : goal.returns-in-len1
returns-in-len1 c = rw (of_one c.args.name.now c.args.numbers.now (omega arith) (omega arith)) c.of_number.ensures

pub returns-in-len2 : goal.returns-in-len2
returns-in-len2 c = rw (of_two c.args.name.now c.args.numbers.now (omega arith) (omega arith)) c.entered.ensures

pub returns-in-len4 : goal.returns-in-len4
returns-in-len4 c = rw (of_four c.args.name.now c.args.numbers.now (omega arith) (omega arith)) c.entered_at.ensures
