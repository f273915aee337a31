-- Each text reads back or is refused at a line.
use Rattle.std.proofs.Common.{◌≡◌, ℕ, ◌+◌, ◌≤◌, ◌⊎◌, inl, inr, zero, suc, List, [], ◌∷◌, ◌++◌, Option, Some, None, length, refl, ap, arith}
use Rattle.std.specs.Prelude.{codes}
use Rattle.std.proofs.lemmas.Bool.{cases_eq}
use Rattle.host_events.specs.declared.journal.Entry.{Entry}
use Rattle.host_events.specs.declared.outcome.CommandEnd.{CommandEnd}
use Rattle.host_report.specs.Laws.{ReadsOrRefuses}
use Rattle.host_report.specs.LineStages.{Stage, stage_after, IsReached}
use Rattle.host_report.specs.ReadBack.{IsReadBack, IsRefusedAt, IsUnbroken}
use Rattle.host_report.proofs.RefusalLemmas.{read_whole, reached_next, reached_none, refused_last, refused_line}
use Rattle.host_report.proofs.WholeLemmas.{line_length}

abbrev IsParted : List ℕ → Type 0
IsParted text = (own : List ℕ) × (after : List ℕ) × (text ≡ own ++ codes "\n" ++ after) × IsUnbroken own

abbrev IsDecided : List ℕ → Type 0
IsDecided text = ((read : List (List CommandEnd) × List Entry) × IsReadBack text read) ⊎ ((line : ℕ) × IsRefusedAt text line)

-- the first line of a text, if it has one
longer : (byte : ℕ) (text : List ℕ) → (byte ≡ 10 → ⊥) → IsParted text ⊎ IsUnbroken text → IsParted (byte ∷ text) ⊎ IsUnbroken (byte ∷ text)
longer byte text other (inl (own, after, parted, unbroken)) = inl (byte ∷ own, after, ap (λ t. byte ∷ t) parted, (other, unbroken))
longer byte text other (inr unbroken) = inr (other, unbroken)

started : (byte : ℕ) (text : List ℕ) → (byte ≡ 10) ⊎ (byte ≡ 10 → ⊥) → IsParted text ⊎ IsUnbroken text → IsParted (byte ∷ text) ⊎ IsUnbroken (byte ∷ text)
started byte text (inl same) found = inl ([], text, ap (λ b. b ∷ text) same, tt)
started byte text (inr other) found = longer byte text other found

first_line : (text : List ℕ) → IsParted text ⊎ IsUnbroken text
first_line [] = inr tt
first_line (byte ∷ text) = started byte text (cases_eq byte 10) (first_line text)

-- no whole line follows
finished : (text rest : List ℕ) (line : ℕ) (stage : Stage) → IsReached text rest line stage → IsUnbroken rest → IsDecided text
finished text rest line Stage.Head r last = inr (line, refused_last r last (λ ends journal e _. absurd (cc)))
finished text rest line Stage.Start r last = inr (line, refused_last r last (λ ends journal e _. absurd (cc)))
finished text rest line (Stage.Thread before commands printed) r last = inr (line, refused_last r last (λ ends journal e _. absurd (cc)))
finished text rest line (Stage.Journal before count entries) r last = inr (line, refused_last r last (λ ends journal e _. absurd (cc)))
finished text [] line (Stage.Whole ends journal) r last = inl ((ends, journal), read_whole ends journal r refl)
finished text (byte ∷ rest) line (Stage.Whole ends journal) r last = inr (line, refused_last r last (λ _ _ _ e. absurd (cc)))

-- a line follows
stepped : (text rest : List ℕ) (line : ℕ) (stage : Stage) → IsReached text rest line stage →
    (own after : List ℕ) → rest ≡ own ++ codes "\n" ++ after → IsUnbroken own →
    ((next : Stage) → IsReached text after (line + 1) next → IsDecided text) →
    (found : Option Stage) → stage_after stage own ≡ found → IsDecided text
stepped text rest line stage r own after parted unbroken further None e = inr (line, refused_line r own after parted unbroken e)
stepped text rest line stage r own after parted unbroken further (Some next) e = further next (reached_next r own after next parted unbroken e)

walked : (text rest : List ℕ) (line : ℕ) (stage : Stage) → IsReached text rest line stage →
    ((after : List ℕ) (next : Stage) → length after + 1 ≤ length rest → IsReached text after (line + 1) next → IsDecided text) →
    IsParted rest ⊎ IsUnbroken rest → IsDecided text
walked text rest line stage r further (inl (own, after, parted, unbroken)) =
    stepped text rest line stage r own after parted unbroken
    (λ next reached. further after next (line_length rest own after parted) reached) (stage_after stage own) refl
walked text rest line stage r further (inr last) = finished text rest line stage r last

decided : (fuel : ℕ) (text rest : List ℕ) (line : ℕ) (stage : Stage) → length rest ≤ fuel → IsReached text rest line stage → IsDecided text
decided zero text rest line stage few r =
    walked text rest line stage r (λ after next less _. absurd (omega (arith, few, less))) (first_line rest)
decided (suc fuel) text rest line stage few r =
    walked text rest line stage r
    (λ after next less reached.
    let fewer : length after ≤ fuel = omega (arith, few, less) in
    decided fuel text after (line + 1) next fewer reached)
    (first_line rest)

pub read_or_refused : ReadsOrRefuses
read_or_refused text =
    let all : length text ≤ length text = omega arith in
    decided (length text) text text 1 Stage.Head all (reached_none text)
