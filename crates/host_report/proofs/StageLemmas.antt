-- Lemmas on the stages that the lines of a report lead to.
use Rattle.std.proofs.Common.{◌≡◌, ℕ, ◌+◌, ◌<◌, ◌^◌, cond, List, [], ◌∷◌, ◌++◌, Option, Some, None, length, refl, sym, ◌∙◌, ap, append_assoc, append-nil, arith, length-append}
use Rattle.std.specs.Prelude.{codes, nat_lt, ◌==◌}
use Rattle.std.specs.List.{flat_map, AllByRecursion}
use Rattle.std.specs.Option.{option_and_then}
use Rattle.std.specs.Str.{bytes_eq}
use Rattle.std.proofs.lemmas.Bool.{cond-true, eq-eqb, lt-ltb}
use Rattle.std.proofs.lemmas.Slice.Eq.{bytes_eq-Decides}
use Rattle.cli_words.specs.Text.{AreUnits}
use Rattle.host_events.specs.declared.journal.Entry.{Entry}
use Rattle.host_events.specs.declared.outcome.CommandEnd.{CommandEnd}
use Rattle.host_report.specs.declared.told.Told.{Told}
use Rattle.host_report.specs.declared.told.Told.TheVariants as tolds
use Rattle.host_report.specs.Fields.{front_text, line_text}
use Rattle.host_report.specs.LineStages.{Stage, told_after, line_read, stage_after, stages_after, Passes}
use Rattle.host_report.specs.Printable.{IsPrintable, IsPrintableCommand, IsPrintableEntry}
use Rattle.host_report.specs.ReadBack.{IsUnbroken, lines_text}
use Rattle.host_report.specs.Report.{command_text, counted_texts, end_fields, entry_text, head_fields, journal_fields, print_fields, report_text, thread_text}
use Rattle.host_report.specs.Told.{IsPrintableTold, told_fields}
use Rattle.host_report.proofs.LineParts.{all_both, lines_both}
use Rattle.host_report.proofs.LineReadingLemmas.{told_spelled}
use Rattle.host_report.proofs.UnbrokenTexts.{head_unbroken, told_unbroken}

-- first some lines, and then others
next_both : (lines others : List (List ℕ)) →
    ((stage : Stage) → stages_after stage (lines ++ others) ≡ option_and_then (λ next. stages_after next others) (stages_after stage lines)) →
    (after : Option Stage) →
    option_and_then (λ next. stages_after next (lines ++ others)) after
    ≡ option_and_then (λ next. stages_after next others) (option_and_then (λ next. stages_after next lines) after)
next_both lines others own None = refl
next_both lines others own (Some stage) = own stage

pub stages_both : (stage : Stage) (lines others : List (List ℕ)) →
    stages_after stage (lines ++ others) ≡ option_and_then (λ next. stages_after next others) (stages_after stage lines)
stages_both stage [] others = refl
stages_both stage (line ∷ lines) others = next_both lines others (λ next. stages_both next lines others) (stage_after stage line)

pub passes_none : (stage : Stage) → Passes stage [] stage
passes_none stage = record { lines = []; whole = refl; unbroken = tt; reached = refl }

pub passes_then : {from mid to : Stage} {a b : List ℕ} → Passes from a mid → Passes mid b to → Passes from (a ++ b) to
passes_then {from} {mid} {to} {a} {b} p q = record {
  lines = p.lines ++ q.lines;
  whole = ap (λ t. t ++ b) p.whole ∙ ap (λ t. lines_text p.lines ++ t) q.whole ∙ sym (lines_both p.lines q.lines);
  unbroken = all_both IsUnbroken p.lines q.lines p.unbroken q.unbroken;
  reached = stages_both from p.lines q.lines ∙ ap (option_and_then (λ next. stages_after next q.lines)) p.reached ∙ q.reached;
}

passes_as : {from to other : Stage} {text spelled : List ℕ} → text ≡ spelled → to ≡ other → Passes from text to → Passes from spelled other
passes_as {from} {to} {other} {text} {spelled} e f p = record {
  lines = p.lines;
  whole = sym e ∙ p.whole;
  unbroken = p.unbroken;
  reached = p.reached ∙ ap Some f;
}

-- what some report has for a line is read as that
pub line_taken : (told : Told) → IsPrintableTold told → line_read (front_text (told_fields told)) ≡ Some told
line_taken told printable =
    let line = front_text (told_fields told) in
    ap (option_and_then (λ found. cond (bytes_eq (front_text (told_fields found)) line) (Some found) None)) (told_spelled told printable)
    ∙ cond-true (bytes_eq line line) (Some told) None ((bytes_eq-Decides line line).1 refl)

-- one line behind the first
told_passes : {from to : Stage} (told : Told) → IsPrintableTold told →
    ((line : List ℕ) → stage_after from line ≡ option_and_then (told_after from) (line_read line)) →
    told_after from told ≡ Some to → Passes from (line_text (told_fields told)) to
told_passes {from} {to} told printable behind step =
    let line = front_text (told_fields told) in
    record {
      lines = line ∷ [];
      whole = sym (append-nil (line_text (told_fields told)));
      unbroken = (told_unbroken told printable, tt);
      reached = ap (option_and_then (λ next. stages_after next [])) (behind line ∙ ap (option_and_then (told_after from)) (line_taken told printable) ∙ step);
    }

head_passes : Passes Stage.Head (line_text head_fields) Stage.Start
head_passes = record { lines = codes "alc 1" ∷ []; whole = refl; unbroken = (head_unbroken, tt); reached = refl }

prints_pass : (ends : List (List CommandEnd)) (commands : List CommandEnd) (printed more : List (List ℕ)) →
    AllByRecursion AreUnits more →
    Passes (Stage.Thread ends commands printed) (flat_map (λ units. line_text (print_fields units)) more) (Stage.Thread ends commands (printed ++ more))
prints_pass ends commands printed [] p =
    passes_as refl (ap (Stage.Thread ends commands) (sym (append-nil printed))) (passes_none (Stage.Thread ends commands printed))
prints_pass ends commands printed (units ∷ more) p =
    passes_as refl (ap (Stage.Thread ends commands) (append_assoc printed (units ∷ []) more))
    (passes_then (told_passes (tolds.Print units) p.0 (λ line. refl) refl) (prints_pass ends commands (printed ++ units ∷ []) more p.1))

command_passes : (ends : List (List CommandEnd)) (commands : List CommandEnd) (end : CommandEnd) → IsPrintableCommand end →
    Passes (Stage.Thread ends commands []) (command_text end) (Stage.Thread ends (commands ++ end ∷ []) [])
command_passes ends commands end p =
    passes_then (prints_pass ends commands [] end.lines p.0) (told_passes (tolds.Outcome end.outcome) p.1 (λ line. refl) refl)

commands_pass : (ends : List (List CommandEnd)) (commands more : List CommandEnd) → AllByRecursion IsPrintableCommand more →
    Passes (Stage.Thread ends commands []) (flat_map command_text more) (Stage.Thread ends (commands ++ more) [])
commands_pass ends commands [] p =
    passes_as refl (ap (λ all. Stage.Thread ends all []) (sym (append-nil commands))) (passes_none (Stage.Thread ends commands []))
commands_pass ends commands (end ∷ more) p =
    passes_as refl (ap (λ all. Stage.Thread ends all []) (append_assoc commands (end ∷ []) more))
    (passes_then (command_passes ends commands end p.0) (commands_pass ends (commands ++ end ∷ []) more p.1))

threads_pass : (ends : List (List CommandEnd)) (commands : List CommandEnd) (threads : List (List CommandEnd)) (count : ℕ) →
    AllByRecursion (AllByRecursion IsPrintableCommand) threads → length ends + 1 + length threads < 2 ^ 32 → count < 2 ^ 32 →
    Passes (Stage.Thread ends commands []) (counted_texts thread_text (length ends + 2) threads ++ line_text (journal_fields count))
    (Stage.Journal (ends ++ commands ∷ threads) count [])
threads_pass ends commands [] count p few n = told_passes (tolds.Journal count) n (λ line. refl) refl
threads_pass ends commands (next ∷ threads) count p few n =
    let all = ends ++ commands ∷ [] in
    let one : length all + 2 ≡ length ends + 2 + 1 = omega (arith, length-append ends (commands ∷ [])) in
    let fits : length ends + 2 < 2 ^ 32 = omega arith in
    let step = cond-true (length ends + 2 == length ends + 2) (Some (Stage.Thread all [] [])) None (eq-eqb (length ends + 2) (length ends + 2) refl) in
    let begun = told_passes {from = Stage.Thread ends commands []} {to = Stage.Thread all [] []} (tolds.Thread (length ends + 2)) fits (λ line. refl) step in
    let own = passes_then begun (commands_pass all [] next p.0) in
    let few_left : length all + 1 + length threads < 2 ^ 32 = omega (arith, length-append ends (commands ∷ [])) in
    passes_as
    (ap (λ m. thread_text (length ends + 2) next ++ (counted_texts thread_text m threads ++ line_text (journal_fields count))) one
    ∙ sym (append_assoc (thread_text (length ends + 2) next) (counted_texts thread_text (length ends + 2 + 1) threads) (line_text (journal_fields count))))
    (ap (λ whole. Stage.Journal whole count []) (append_assoc ends (commands ∷ []) (next ∷ threads)))
    (passes_then own (threads_pass all next threads count p.1 few_left n))

start_passes : (ends : List (List CommandEnd)) (count : ℕ) →
    AllByRecursion (AllByRecursion IsPrintableCommand) ends → length ends < 2 ^ 32 → count < 2 ^ 32 →
    Passes Stage.Start (counted_texts thread_text 1 ends ++ line_text (journal_fields count)) (Stage.Journal ends count [])
start_passes [] count p few n = told_passes (tolds.Journal count) n (λ line. refl) refl
start_passes (first ∷ ends) count p few n =
    let one : 1 < 2 ^ 32 = omega arith in
    let begun = told_passes {from = Stage.Start} {to = Stage.Thread [] [] []} (tolds.Thread 1) one (λ line. refl) refl in
    let few_left : 0 + 1 + length ends < 2 ^ 32 = omega arith in
    passes_as
    (sym (append_assoc (thread_text 1 first) (counted_texts thread_text 2 ends) (line_text (journal_fields count))))
    refl
    (passes_then (passes_then begun (commands_pass [] [] first p.0)) (threads_pass [] first ends count p.1 few_left n))

entries_pass : (ends : List (List CommandEnd)) (count : ℕ) (entries more : List Entry) → AllByRecursion IsPrintableEntry more →
    length entries + length more ≡ count → count < 2 ^ 32 →
    Passes (Stage.Journal ends count entries) (counted_texts entry_text (length entries + 1) more ++ line_text end_fields) (Stage.Whole ends (entries ++ more))
entries_pass ends count entries [] p all n =
    let whole : length entries ≡ count = omega arith in
    passes_as refl (ap (Stage.Whole ends) (sym (append-nil entries)))
    (told_passes {from = Stage.Journal ends count entries} {to = Stage.Whole ends entries} tolds.End tt (λ line. refl)
    (cond-true (length entries == count) (Some (Stage.Whole ends entries)) None (eq-eqb (length entries) count whole)))
entries_pass ends count entries (entry ∷ more) p all n =
    let next = entries ++ entry ∷ [] in
    let number = length entries + 1 in
    let one : length next + 1 ≡ number + 1 = omega (arith, length-append entries (entry ∷ [])) in
    let below : length entries < count = omega arith in
    let fits : length entries + 1 < 2 ^ 32 = omega arith in
    let after = Some (Stage.Journal ends count next) in
    let step =
    cond-true (number == number) (cond (nat_lt (length entries) count) after None) None (eq-eqb number number refl)
    ∙ cond-true (nat_lt (length entries) count) after None (lt-ltb (length entries) count below) in
    let begun = told_passes {from = Stage.Journal ends count entries} {to = Stage.Journal ends count next} (tolds.Entry number entry) (fits, p.0) (λ line. refl) step in
    let all_left : length next + length more ≡ count = omega (arith, length-append entries (entry ∷ [])) in
    passes_as
    (ap (λ m. entry_text number entry ++ (counted_texts entry_text m more ++ line_text end_fields)) one
    ∙ sym (append_assoc (entry_text number entry) (counted_texts entry_text (number + 1) more) (line_text end_fields)))
    (ap (Stage.Whole ends) (append_assoc entries (entry ∷ []) more))
    (passes_then begun (entries_pass ends count next more p.1 all_left n))

-- the text of a report is lines that lead to just that report
pub report_passes : (ends : List (List CommandEnd)) (journal : List Entry) → IsPrintable ends journal →
    Passes Stage.Head (report_text ends journal) (Stage.Whole ends journal)
report_passes ends journal p =
    let all : length {A = Entry} [] + length journal ≡ length journal = omega arith in
    passes_as
    (joined (line_text head_fields) (counted_texts thread_text 1 ends) (line_text (journal_fields (length journal))) (counted_texts entry_text 1 journal) (line_text end_fields))
    refl
    (passes_then head_passes (passes_then (start_passes ends (length journal) p.commands p.few_threads p.few_entries) (entries_pass ends (length journal) [] journal p.entries all p.few_entries)))
  where
    joined : (h t j es e : List ℕ) → h ++ ((t ++ j) ++ (es ++ e)) ≡ (((h ++ t) ++ j) ++ es) ++ e
    joined h t j es e = simp append_assoc
