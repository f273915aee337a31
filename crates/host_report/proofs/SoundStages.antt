-- What lines lead to is what they are: a stage tells the text that led to it, with which some report begins.
use Rattle.std.proofs.Common.{◌≡◌, ℕ, ◌+◌, ◌-◌, ◌<◌, ◌≤◌, ◌^◌, cond, zero, suc, List, [], ◌∷◌, ◌++◌, Option, Some, None, length, refl, sym, ◌∙◌, ap, subst, append_assoc, append-nil, arith, length-append}
use Rattle.std.specs.Prelude.{codes, nat_lt, ◌==◌, IfSome}
use Rattle.std.specs.List.{flat_map, AllByRecursion}
use Rattle.std.specs.Option.{option_and_then}
use Rattle.std.specs.Str.{bytes_eq}
use Rattle.std.proofs.lemmas.Bool.{cond_both, eqb-true, ltb-true}
use Rattle.std.proofs.lemmas.Slice.Eq.{bytes_eq-Decides}
use Rattle.cli_words.specs.Text.{AreUnits}
use Rattle.host_events.specs.declared.event.Event.TheVariants as events
use Rattle.host_events.specs.declared.journal.Entry.{Entry}
use Rattle.host_events.specs.declared.outcome.CommandEnd.{CommandEnd}
use Rattle.host_events.specs.declared.outcome.Outcome.{Outcome}
use Rattle.host_events.specs.declared.outcome.Outcome.TheVariants as outcomes
use Rattle.host_events.specs.declared.reply.Reply.TheVariants as replies
use Rattle.host_report.specs.declared.told.Told.{Told}
use Rattle.host_report.specs.declared.told.Told.TheVariants as tolds
use Rattle.host_report.specs.Fields.{front_text, line_text}
use Rattle.host_report.specs.LineReading.{told_read}
use Rattle.host_report.specs.LineStages.{Stage, told_after, line_read, stage_after, stages_after}
use Rattle.host_report.specs.Printable.{IsPrintable, IsPrintableCommand, IsPrintableEntry, IsPrintableOutcome}
use Rattle.host_report.specs.ReadBack.{IsBegun, lines_text}
use Rattle.host_report.specs.Report.{command_text, counted_texts, end_fields, entry_text, head_fields, journal_fields, print_fields, report_text, thread_fields, thread_text}
use Rattle.host_report.specs.Table.{outcome_fields}
use Rattle.host_report.specs.Told.{IsPrintableTold, told_fields}
use Rattle.host_report.proofs.LineParts.{all_push}
use Rattle.host_report.proofs.LineReadingLemmas.{told_printable}
use Rattle.host_report.proofs.ReadingLemmas.{counted_push, mapped_push}

abbrev pub prints_text : List (List ℕ) → List ℕ
prints_text printed = flat_map (λ units. line_text (print_fields units)) printed

-- the text that leads to a stage
abbrev pub stage_text : Stage → List ℕ
stage_text Stage.Head = []
stage_text Stage.Start = line_text head_fields
stage_text (Stage.Thread ends commands printed) =
    line_text head_fields ++ (counted_texts thread_text 1 (ends ++ commands ∷ []) ++ prints_text printed)
stage_text (Stage.Journal ends count entries) =
    line_text head_fields ++ (counted_texts thread_text 1 ends ++ (line_text (journal_fields count) ++ counted_texts entry_text 1 entries))
stage_text (Stage.Whole ends journal) = report_text ends journal

-- a thread that has begun is one that a report can have
pub record IsThread (ends : List (List CommandEnd)) (commands : List CommandEnd) (printed : List (List ℕ)) : Type 0 where
  pub before : AllByRecursion (AllByRecursion IsPrintableCommand) ends
  pub own : AllByRecursion IsPrintableCommand commands
  pub lines : AllByRecursion AreUnits printed
  pub few : length ends + 1 < 2 ^ 32

pub record IsJournal (ends : List (List CommandEnd)) (count : ℕ) (entries : List Entry) : Type 0 where
  pub threads : AllByRecursion (AllByRecursion IsPrintableCommand) ends
  pub few_threads : length ends < 2 ^ 32
  pub own : AllByRecursion IsPrintableEntry entries
  pub within : length entries ≤ count
  pub few_entries : count < 2 ^ 32

abbrev pub IsSound : Stage → Type 0
IsSound Stage.Head = Unit {0}
IsSound Stage.Start = Unit {0}
IsSound (Stage.Thread ends commands printed) = IsThread ends commands printed
IsSound (Stage.Journal ends count entries) = IsJournal ends count entries
IsSound (Stage.Whole ends journal) = IsPrintable ends journal

-- what a line more leads to
abbrev pub IsAfter : Stage → List ℕ → Stage → Type 0
IsAfter from text to = IsSound to × (stage_text to ≡ stage_text from ++ text)

-- the first thread begins
first_thread : IsAfter Stage.Start (line_text (thread_fields 1)) (Stage.Thread [] [] [])
first_thread =
    let line = line_text (thread_fields 1) in
    let few : length {A = List CommandEnd} [] + 1 < 2 ^ 32 = omega arith in (
      record { before = tt; own = tt; lines = tt; few = few },
      ap (λ t. line_text head_fields ++ t) (append-nil ((line ++ []) ++ []) ∙ append-nil (line ++ []) ∙ append-nil line),
    )

-- there is no thread
no_thread : (count : ℕ) → count < 2 ^ 32 → IsAfter Stage.Start (line_text (journal_fields count)) (Stage.Journal [] count [])
no_thread count n =
    let few : length {A = List CommandEnd} [] < 2 ^ 32 = omega arith in
    let none : length {A = Entry} [] ≤ count = omega arith in (
      record { threads = tt; few_threads = few; own = tt; within = none; few_entries = n },
      ap (λ t. line_text head_fields ++ t) (append-nil (line_text (journal_fields count))),
    )

-- the next thread begins
next_thread : (ends : List (List CommandEnd)) (commands : List CommandEnd) → IsThread ends commands [] → length ends + 2 < 2 ^ 32 →
    IsAfter (Stage.Thread ends commands []) (line_text (thread_fields (length ends + 2))) (Stage.Thread (ends ++ commands ∷ []) [] [])
next_thread ends commands p n =
    let all = ends ++ commands ∷ [] in
    let text = counted_texts thread_text 1 all in
    let line = line_text (thread_fields (length ends + 2)) in
    let number : 1 + length all ≡ length ends + 2 = omega (arith, length-append ends (commands ∷ [])) in
    let few : length all + 1 < 2 ^ 32 = omega (arith, length-append ends (commands ∷ [])) in (
      record { before = all_push (AllByRecursion IsPrintableCommand) ends commands p.before p.own; own = tt; lines = tt; few = few },
      ap (λ t. line_text head_fields ++ (t ++ [])) (counted_push thread_text 1 all [] ∙ ap (λ m. text ++ thread_text m []) number)
          ∙ joined (line_text head_fields) text line,
    )
  where
    joined : (h t l : List ℕ) → h ++ ((t ++ (l ++ [])) ++ []) ≡ (h ++ (t ++ [])) ++ l
    joined h t l = simp (append_assoc, append-nil)

-- a command prints
next_print : (ends : List (List CommandEnd)) (commands : List CommandEnd) (printed : List (List ℕ)) (units : List ℕ) →
    IsThread ends commands printed → AreUnits units →
    IsAfter (Stage.Thread ends commands printed) (line_text (print_fields units)) (Stage.Thread ends commands (printed ++ units ∷ []))
next_print ends commands printed units p u =
    let text = counted_texts thread_text 1 (ends ++ commands ∷ []) in
    let line = line_text (print_fields units) in (
      record { before = p.before; own = p.own; lines = all_push AreUnits printed units p.lines u; few = p.few },
      ap (λ t. line_text head_fields ++ (text ++ t)) (mapped_push (λ units. line_text (print_fields units)) printed units)
          ∙ joined (line_text head_fields) text (prints_text printed) line,
    )
  where
    joined : (h t p l : List ℕ) → h ++ (t ++ (p ++ l)) ≡ (h ++ (t ++ p)) ++ l
    joined h t p l = simp append_assoc

-- a command ends
next_outcome : (ends : List (List CommandEnd)) (commands : List CommandEnd) (printed : List (List ℕ)) (outcome : Outcome) →
    IsThread ends commands printed → IsPrintableOutcome outcome →
    IsAfter (Stage.Thread ends commands printed) (line_text (outcome_fields outcome))
    (Stage.Thread ends (commands ++ record { lines = printed; outcome = outcome } ∷ []) [])
next_outcome ends commands printed outcome p o =
    let end : CommandEnd = record { lines = printed; outcome = outcome } in
    let before = counted_texts thread_text 1 ends in
    let line = line_text (thread_fields (1 + length ends)) in (
      record { before = p.before; own = all_push IsPrintableCommand commands end p.own (p.lines, o); lines = tt; few = p.few },
      ap (λ t. line_text head_fields ++ (t ++ [])) (counted_push thread_text 1 ends (commands ++ end ∷ []))
          ∙ ap (λ t. line_text head_fields ++ ((before ++ (line ++ t)) ++ [])) (mapped_push command_text commands end)
          ∙ joined (line_text head_fields) before line (flat_map command_text commands) (prints_text printed) (line_text (outcome_fields outcome))
          ∙ ap (λ t. (line_text head_fields ++ (t ++ prints_text printed)) ++ line_text (outcome_fields outcome)) (sym (counted_push thread_text 1 ends commands)),
    )
  where
    joined : (h b l c p o : List ℕ) → h ++ ((b ++ (l ++ (c ++ (p ++ o)))) ++ []) ≡ (h ++ ((b ++ (l ++ c)) ++ p)) ++ o
    joined h b l c p o = simp (append_assoc, append-nil)

-- the journal begins
next_journal : (ends : List (List CommandEnd)) (commands : List CommandEnd) (count : ℕ) → IsThread ends commands [] → count < 2 ^ 32 →
    IsAfter (Stage.Thread ends commands []) (line_text (journal_fields count)) (Stage.Journal (ends ++ commands ∷ []) count [])
next_journal ends commands count p n =
    let few : length (ends ++ commands ∷ []) < 2 ^ 32 = omega (arith, length-append ends (commands ∷ []), p.few) in
    let none : length {A = Entry} [] ≤ count = omega arith in (
      record { threads = all_push (AllByRecursion IsPrintableCommand) ends commands p.before p.own; few_threads = few; own = tt; within = none; few_entries = n },
      joined (line_text head_fields) (counted_texts thread_text 1 (ends ++ commands ∷ [])) (line_text (journal_fields count)),
    )
  where
    joined : (h t l : List ℕ) → h ++ (t ++ (l ++ [])) ≡ (h ++ (t ++ [])) ++ l
    joined h t l = simp (append_assoc, append-nil)

-- an entry more
next_entry : (ends : List (List CommandEnd)) (count : ℕ) (entries : List Entry) (entry : Entry) → IsJournal ends count entries →
    length entries < count → IsPrintableEntry entry →
    IsAfter (Stage.Journal ends count entries) (entry_text (length entries + 1) entry) (Stage.Journal ends count (entries ++ entry ∷ []))
next_entry ends count entries entry p below e =
    let number : 1 + length entries ≡ length entries + 1 = omega arith in
    let within : length (entries ++ entry ∷ []) ≤ count = omega (arith, length-append entries (entry ∷ [])) in
    let so_far = counted_texts entry_text 1 entries in
    let threads = counted_texts thread_text 1 ends in
    let line = line_text (journal_fields count) in (
      record { threads = p.threads; few_threads = p.few_threads; own = all_push IsPrintableEntry entries entry p.own e; within = within; few_entries = p.few_entries },
      ap (λ t. line_text head_fields ++ (threads ++ (line ++ t))) (counted_push entry_text 1 entries entry ∙ ap (λ m. so_far ++ entry_text m entry) number)
          ∙ joined (line_text head_fields) threads line so_far (entry_text (length entries + 1) entry),
    )
  where
    joined : (h t j s e : List ℕ) → h ++ (t ++ (j ++ (s ++ e))) ≡ (h ++ (t ++ (j ++ s))) ++ e
    joined h t j s e = simp append_assoc

-- the end
next_end : (ends : List (List CommandEnd)) (entries : List Entry) → IsJournal ends (length entries) entries →
    IsAfter (Stage.Journal ends (length entries) entries) (line_text end_fields) (Stage.Whole ends entries)
next_end ends entries p = (
  record { commands = p.threads; entries = p.own; few_threads = p.few_threads; few_entries = p.few_entries },
  joined (line_text head_fields) (counted_texts thread_text 1 ends) (line_text (journal_fields (length entries))) (counted_texts entry_text 1 entries) (line_text end_fields),
)
  where
    joined : (h t j s e : List ℕ) → (((h ++ t) ++ j) ++ s) ++ e ≡ (h ++ (t ++ (j ++ s))) ++ e
    joined h t j s e = simp append_assoc

-- a line of a number that was tested
as_tested : (from to : Stage) (text : ℕ → List ℕ) (n m : ℕ) → m ≡ n → IsAfter from (text n) to → IsAfter from (text m) to
as_tested from to text n m e p = (p.0, p.1 ∙ ap (λ k. stage_text from ++ text k) (sym e))

-- each line that is taken leads to a stage that tells it
pub told_sound : (from : Stage) (told : Told) → IsSound from → IsPrintableTold told →
    IfSome (told_after from told) (IsAfter from (line_text (told_fields told)))
told_sound Stage.Head told s p = tt
told_sound Stage.Start (tolds.Thread thread) s p =
    cond_both (thread == 1) (Some (Stage.Thread [] [] [])) None (λ o. IfSome o (IsAfter Stage.Start (line_text (thread_fields thread))))
    (λ e. as_tested Stage.Start (Stage.Thread [] [] []) (λ n. line_text (thread_fields n)) 1 thread (eqb-true thread 1 e) first_thread)
    (λ _. tt)
told_sound Stage.Start (tolds.Print units) s p = tt
told_sound Stage.Start (tolds.Outcome outcome) s p = tt
told_sound Stage.Start (tolds.Journal count) s p = no_thread count p
told_sound Stage.Start (tolds.Entry number entry) s p = tt
told_sound Stage.Start tolds.End s p = tt
told_sound (Stage.Thread ends commands []) (tolds.Thread thread) s p =
    let next = Stage.Thread (ends ++ commands ∷ []) [] [] in
    let from = Stage.Thread ends commands [] in
    cond_both (thread == length ends + 2) (Some next) None (λ o. IfSome o (IsAfter from (line_text (thread_fields thread))))
    (λ e.
    let same : thread ≡ length ends + 2 = eqb-true thread (length ends + 2) e in
    let fits : length ends + 2 < 2 ^ 32 = omega (arith, p) in
    as_tested from next (λ n. line_text (thread_fields n)) (length ends + 2) thread same (next_thread ends commands s fits))
    (λ _. tt)
told_sound (Stage.Thread ends commands (line ∷ printed)) (tolds.Thread thread) s p = tt
told_sound (Stage.Thread ends commands printed) (tolds.Print units) s p = next_print ends commands printed units s p
told_sound (Stage.Thread ends commands printed) (tolds.Outcome outcome) s p = next_outcome ends commands printed outcome s p
told_sound (Stage.Thread ends commands []) (tolds.Journal count) s p = next_journal ends commands count s p
told_sound (Stage.Thread ends commands (line ∷ printed)) (tolds.Journal count) s p = tt
told_sound (Stage.Thread ends commands printed) (tolds.Entry number entry) s p = tt
told_sound (Stage.Thread ends commands printed) tolds.End s p = tt
told_sound (Stage.Journal ends count entries) (tolds.Thread thread) s p = tt
told_sound (Stage.Journal ends count entries) (tolds.Print units) s p = tt
told_sound (Stage.Journal ends count entries) (tolds.Outcome outcome) s p = tt
told_sound (Stage.Journal ends count entries) (tolds.Journal number) s p = tt
told_sound (Stage.Journal ends count entries) (tolds.Entry number entry) s p =
    let from = Stage.Journal ends count entries in
    let next = Stage.Journal ends count (entries ++ entry ∷ []) in
    let own : Option Stage → Type 0 = λ o. IfSome o (IsAfter from (entry_text number entry)) in
    cond_both (number == length entries + 1) (cond (nat_lt (length entries) count) (Some next) None) None own
    (λ e. cond_both (nat_lt (length entries) count) (Some next) None own
    (λ f.
    let below : length entries < count = ltb-true (length entries) count f in
    as_tested from next (λ n. entry_text n entry) (length entries + 1) number (eqb-true number (length entries + 1) e) (next_entry ends count entries entry s below p.1))
    (λ _. tt))
    (λ _. tt)
told_sound (Stage.Journal ends count entries) tolds.End s p =
    cond_both (length entries == count) (Some (Stage.Whole ends entries)) None (λ o. IfSome o (IsAfter (Stage.Journal ends count entries) (line_text end_fields)))
    (λ e.
    let P : ℕ → Type 0 = λ n. IsJournal ends n entries → IsAfter (Stage.Journal ends n entries) (line_text end_fields) (Stage.Whole ends entries) in
    subst P (eqb-true (length entries) count e) (next_end ends entries) s)
    (λ _. tt)
told_sound (Stage.Whole ends journal) told s p = tt

-- what is read after something
pub and_then_sound : {A B : Type 0} (P : A → Type 0) (Q : B → Type 0) (f : A → Option B) (o : Option A) →
    IfSome o P → ((x : A) → P x → IfSome (f x) Q) → IfSome (option_and_then f o) Q
and_then_sound P Q f None p next = tt
and_then_sound P Q f (Some x) p next = next x p

-- what a line tells is printable, and spelled as the line
line_sound : (line : List ℕ) (found : Option Told) → IfSome found IsPrintableTold →
    IfSome (option_and_then (λ told. cond (bytes_eq (front_text (told_fields told)) line) (Some told) None) found)
    (λ told. IsPrintableTold told × (line_text (told_fields told) ≡ line ++ codes "\n"))
line_sound line None p = tt
line_sound line (Some told) p =
    cond_both (bytes_eq (front_text (told_fields told)) line) (Some told) None
    (λ o. IfSome o (λ told. IsPrintableTold told × (line_text (told_fields told) ≡ line ++ codes "\n")))
    (λ e. (p, ap (λ text. text ++ codes "\n") ((bytes_eq-Decides (front_text (told_fields told)) line).0 e)))
    (λ _. tt)

if_some : {A : Type 0} (P : A → Type 0) (o : Option A) → ((x : A) → o ≡ Some x → P x) → IfSome o P
if_some P None p = tt
if_some P (Some x) p = p x refl

told_line_sound : (from : Stage) (line : List ℕ) → IsSound from →
    IfSome (option_and_then (told_after from) (line_read line)) (IsAfter from (line ++ codes "\n"))
told_line_sound from line s =
    and_then_sound (λ told. IsPrintableTold told × (line_text (told_fields told) ≡ line ++ codes "\n")) (IsAfter from (line ++ codes "\n")) (told_after from) (line_read line)
    (line_sound line (told_read line) (if_some IsPrintableTold (told_read line) (told_printable line)))
    (λ told both. subst (λ text. IfSome (told_after from told) (IsAfter from text)) both.1 (told_sound from told s both.0))

stage_sound : (from : Stage) (line : List ℕ) → IsSound from → IfSome (stage_after from line) (IsAfter from (line ++ codes "\n"))
stage_sound Stage.Head line s =
    cond_both (bytes_eq line (codes "alc 1")) (Some Stage.Start) None (λ o. IfSome o (IsAfter Stage.Head (line ++ codes "\n")))
    (λ e. (tt, ap (λ l. l ++ codes "\n") (sym ((bytes_eq-Decides line (codes "alc 1")).0 e))))
    (λ _. tt)
stage_sound Stage.Start line s = told_line_sound Stage.Start line s
stage_sound (Stage.Thread ends commands printed) line s = told_line_sound (Stage.Thread ends commands printed) line s
stage_sound (Stage.Journal ends count entries) line s = told_line_sound (Stage.Journal ends count entries) line s
stage_sound (Stage.Whole ends journal) line s = told_line_sound (Stage.Whole ends journal) line s

-- lines lead to a stage that tells them
pub stages_sound : (from : Stage) (lines : List (List ℕ)) → IsSound from → IfSome (stages_after from lines) (IsAfter from (lines_text lines))
stages_sound from [] s = (s, sym (append-nil (stage_text from)))
stages_sound from (line ∷ lines) s =
    and_then_sound (IsAfter from (line ++ codes "\n")) (IsAfter from (lines_text (line ∷ lines))) (λ next. stages_after next lines) (stage_after from line)
    (stage_sound from line s)
    (λ next p. further next (stages_after next lines) p.1 (stages_sound next lines p.0))
  where
    further : (next : Stage) (o : Option Stage) → stage_text next ≡ stage_text from ++ (line ++ codes "\n") →
        IfSome o (IsAfter next (lines_text lines)) → IfSome o (IsAfter from (lines_text (line ∷ lines)))
    further next None e p = tt
    further next (Some to) e p = (p.0, p.1 ∙ ap (λ t. t ++ lines_text lines) e ∙ append_assoc (stage_text from) (line ++ codes "\n") (lines_text lines))

-- what begins a text with which some report begins
begun_before : (text more after : List ℕ) → after ≡ text ++ more → IsBegun after → IsBegun text
begun_before text more after e (ends, journal, rest, (printable, whole)) =
    (ends, journal, more ++ rest, (printable, sym (append_assoc text more rest) ∙ ap (λ t. t ++ rest) (sym e) ∙ whole))

whole_begun : (ends : List (List CommandEnd)) (journal : List Entry) → IsPrintable ends journal → IsBegun (report_text ends journal)
whole_begun ends journal p = (ends, journal, [], (p, append-nil (report_text ends journal)))

-- a collection that freed nothing
abbrev idle : Entry
idle = record { thread = 0; event = events.Collect; reply = replies.Freed (record { list = []; spare = 0 }) }

idle_printable : IsPrintableEntry idle
idle_printable = (omega arith, ((tt, tt), tt), ((tt, (tt, tt)), refl))

journal_begun : (left : ℕ) (ends : List (List CommandEnd)) (count : ℕ) (entries : List Entry) → IsJournal ends count entries →
    length entries + left ≡ count → IsBegun (stage_text (Stage.Journal ends count entries))
journal_begun zero ends count entries p all =
    let same : length entries ≡ count = omega (arith, all) in
    let P : ℕ → Type 0 = λ n. IsJournal ends n entries → IsBegun (stage_text (Stage.Journal ends n entries)) in
    subst P same
    (λ q.
    let next = next_end ends entries q in
    begun_before (stage_text (Stage.Journal ends (length entries) entries)) (line_text end_fields) (report_text ends entries) next.1 (whole_begun ends entries next.0))
    p
journal_begun (suc left) ends count entries p all =
    let below : length entries < count = omega (arith, all) in
    let next = next_entry ends count entries idle p below idle_printable in
    let more : length (entries ++ idle ∷ []) + left ≡ count = omega (arith, all, length-append entries (idle ∷ [])) in
    begun_before (stage_text (Stage.Journal ends count entries)) (entry_text (length entries + 1) idle) (stage_text (Stage.Journal ends count (entries ++ idle ∷ []))) next.1
    (journal_begun left ends count (entries ++ idle ∷ []) next.0 more)

thread_begun : (ends : List (List CommandEnd)) (commands : List CommandEnd) → IsThread ends commands [] → IsBegun (stage_text (Stage.Thread ends commands []))
thread_begun ends commands p =
    let fits : 0 < 2 ^ 32 = omega arith in
    let none : length {A = Entry} [] + 0 ≡ 0 = refl in
    let next = next_journal ends commands 0 p fits in
    begun_before (stage_text (Stage.Thread ends commands [])) (line_text (journal_fields 0)) (stage_text (Stage.Journal (ends ++ commands ∷ []) 0 [])) next.1
    (journal_begun 0 (ends ++ commands ∷ []) 0 [] next.0 none)

start_begun : IsBegun (stage_text Stage.Start)
start_begun =
    let fits : 0 < 2 ^ 32 = omega arith in
    let none : length {A = Entry} [] + 0 ≡ 0 = refl in
    let next = no_thread 0 fits in
    begun_before (stage_text Stage.Start) (line_text (journal_fields 0)) (stage_text (Stage.Journal [] 0 [])) next.1 (journal_begun 0 [] 0 [] next.0 none)

void_printable : IsPrintableOutcome outcomes.Void
void_printable = ((tt, (tt, tt)), tt)

-- with what leads to a stage some report begins
pub stage_begun : (stage : Stage) → IsSound stage → IsBegun (stage_text stage)
stage_begun Stage.Head s = begun_before [] (stage_text Stage.Start) (stage_text Stage.Start) refl start_begun
stage_begun Stage.Start s = start_begun
stage_begun (Stage.Thread ends commands printed) s =
    let end : CommandEnd = record { lines = printed; outcome = outcomes.Void } in
    let next = next_outcome ends commands printed outcomes.Void s void_printable in
    begun_before (stage_text (Stage.Thread ends commands printed)) (line_text (outcome_fields outcomes.Void)) (stage_text (Stage.Thread ends (commands ++ end ∷ []) [])) next.1
    (thread_begun ends (commands ++ end ∷ []) next.0)
stage_begun (Stage.Journal ends count entries) s =
    let within : length entries ≤ count = s.within in
    let left : length entries + (count - length entries) ≡ count = omega arith in
    journal_begun (count - length entries) ends count entries s left
stage_begun (Stage.Whole ends journal) s = whole_begun ends journal s
