-- An accepted script has no more images, threads and commands than a script may have.
use Rattle.std.proofs.Common.{◌≡◌, ℕ, zero, suc, ◌+◌, ◌<◌, ◌≤◌, Bool, true, false, cond, List, [], ◌∷◌, ◌++◌, length, Option, Some, None, Result, Ok, Err, refl, sym, ap, subst, ◌∙◌, append_assoc, sum_by, arith}
use Rattle.std.specs.Prelude.{nat_lt}
use Rattle.std.specs.List.{filter_map, cons_option}
use Rattle.std.proofs.lemmas.Bool.{lt-ltb}
use Rattle.std.proofs.lemmas.List.{append-nil, length-append}
use Rattle.std.proofs.lemmas.List.Elements.{filter_map-append}
use Rattle.std.proofs.lemmas.List.Sums.{sum_by_push}
use Rattle.host_script.specs.LineForm.{before, line_reading, first_of}
use Rattle.host_script.specs.Lines.{lines}
use Rattle.host_script.specs.Laws.{IsSmall, AcceptedIsSmall}
use Rattle.host_script.specs.Script.{numbered_from, cause_of, line_causes, end_causes, script_of, Accepts}
use Rattle.host_script.specs.State.{Kept, before_in, with_form, all_blocks, script_in, CanTake, IsStateOf}
use Rattle.host_script.specs.Words.{words}
use Rattle.host_script.specs.declared.cause.LineCause.{LineCause}
use Rattle.host_script.specs.declared.command.CommandLine.{CommandLine}
use Rattle.host_script.specs.declared.first_word.FirstWord.{FirstWord}
use Rattle.host_script.specs.declared.line_form.LineForm.{LineForm}
use Rattle.host_script.specs.declared.line_form.LineForm.TheVariants.{Image, App, Thread, Command}
use Rattle.host_script.specs.declared.script.Script.{Script}
use Rattle.host_script.proofs.SaidLemmas.{Says, says, can_take}
use Rattle.host_script.proofs.ScriptLemmas.{end_cause, whole_script}
use Rattle.host_script.proofs.StateLemmas.{numbered_from-append, taken, taken_none}

-- how many there are of what is kept
record IsCounted (kept : Kept) : Type 0 where
  few_images : length kept.images ≤ 256
  few_threads : kept.threads ≤ 8
  few_commands : kept.commands ≤ 1024
  threads : length (all_blocks kept.threads kept.done kept.block) ≡ kept.threads
  commands : sum_by length (all_blocks kept.threads kept.done kept.block) ≡ kept.commands

blocks-begun : (threads : ℕ) (done : List (List CommandLine)) (block : List CommandLine) → 0 < threads →
    all_blocks threads done block ≡ done ++ block ∷ []
blocks-begun threads done block some = let is = lt-ltb 0 threads some in rw is refl

counted_thread : (kept : Kept) (n : ℕ) → IsCounted kept → kept.threads < 8 → IsCounted (with_form kept n Thread)
counted_thread kept n counted room =
    let done = all_blocks kept.threads kept.done kept.block in
    let now : all_blocks (kept.threads + 1) done [] ≡ done ++ [] ∷ [] = blocks-begun (kept.threads + 1) done [] (omega arith) in
    record {
      few_images = counted.few_images;
      few_threads = omega arith;
      few_commands = counted.few_commands;
      threads = omega (arith, ap length now, length-append done ([] ∷ []), counted.threads);
      commands = omega (arith, ap (sum_by length) now, sum_by_push length done [], counted.commands);
    }

counted_command : (kept : Kept) (n : ℕ) (line : CommandLine) → IsCounted kept → 0 < kept.threads → kept.commands < 1024 →
    IsCounted (record kept { block = kept.block ++ line ∷ []; commands = kept.commands + 1 })
counted_command kept n line counted some room =
    let was = blocks-begun kept.threads kept.done kept.block some in
    let now = blocks-begun kept.threads kept.done (kept.block ++ line ∷ []) some in
    record {
      few_images = counted.few_images;
      few_threads = counted.few_threads;
      few_commands = omega arith;
      threads = omega (
        arith,
        ap length was,
        ap length now,
        length-append kept.done (kept.block ∷ []),
        length-append kept.done ((kept.block ++ line ∷ []) ∷ []),
        counted.threads,
      );
      commands = omega (
        arith,
        ap (sum_by length) was,
        ap (sum_by length) now,
        sum_by_push length kept.done kept.block,
        sum_by_push length kept.done (kept.block ++ line ∷ []),
        length-append kept.block (line ∷ []),
        counted.commands,
      );
    }

nil_cons : {X : Type 0} (xs ys : List X) (x : X) → xs ++ x ∷ ys ≡ [] → ⊥
nil_cons [] ys x e = cc
nil_cons (z ∷ zs) ys x e = cc

module _ (above : List (List ℕ)) (line : List ℕ) (more : List (List ℕ)) where
  abbrev later : List (ℕ × LineCause)
  later = filter_map (λ l. cause_of l.number l.reading) (numbered_from (above ++ line ∷ []) more)

  causes-line : line_causes (above ++ line ∷ more)
      ≡ line_causes above ++ cons_option (cause_of (length above + 1) (line_reading (before above) line)) later
  causes-line =
      ap (filter_map (λ l. cause_of l.number l.reading)) (numbered_from-append [] above (line ∷ more))
      ∙ filter_map-append (λ l. cause_of l.number l.reading) (numbered_from [] above) (numbered_from above (line ∷ more))

  -- a line of a script without causes has none
  has_no_cause : (cause : LineCause) → line_reading (before above) line ≡ Err cause → line_causes (above ++ line ∷ more) ≡ [] → ⊥
  has_no_cause cause is none =
      nil_cons (line_causes above) later (length above + 1, cause)
      (sym (ap (λ r. line_causes above ++ cons_option (cause_of (length above + 1) r) later) is) ∙ sym causes-line ∙ none)

-- one more is counted
counted_form : (kept : Kept) (n : ℕ) (f : Option FirstWord) (ws : List (List ℕ)) (form : LineForm) → IsCounted kept →
    Says (before_in kept) f ws form → CanTake kept form → IsCounted (with_form kept n form)
counted_form kept n f ws (Image name path) counted said can = record {
  few_images = omega (arith, length-append kept.images ((name, record { line = n; path = path }) ∷ []), can.0);
  few_threads = counted.few_threads;
  few_commands = counted.few_commands;
  threads = counted.threads;
  commands = counted.commands;
}
counted_form kept n f ws (App name image) counted said can = record {
  few_images = counted.few_images;
  few_threads = counted.few_threads;
  few_commands = counted.few_commands;
  threads = counted.threads;
  commands = counted.commands;
}
counted_form kept n f ws Thread counted said can = counted_thread kept n counted can
counted_form kept n f ws (Command command) counted said can =
    counted_command kept n (record { line = n; command = command }) counted said.2 can

-- what is kept of lines, counted
record IsKeptOf (lines : List (List ℕ)) : Type 0 where
  kept : Kept
  state : IsStateOf kept lines
  counted : IsCounted kept

counted_each : (above rest : List (List ℕ)) → IsKeptOf above → line_causes (above ++ rest) ≡ [] → IsKeptOf (above ++ rest)
counted_each above [] so_far none = subst IsKeptOf (sym (append-nil above)) so_far
counted_each above (line ∷ more) so_far none =
    let joined = append_assoc above (line ∷ []) more in
    let next : IsKeptOf (above ++ line ∷ []) = one (line_reading (before above) line) refl in
    subst IsKeptOf joined (counted_each (above ++ line ∷ []) more next (ap line_causes joined ∙ none))
  where
    kept : Kept
    kept = so_far.kept

    at_kept : {r : Result (Option LineForm) LineCause} → line_reading (before above) line ≡ r → line_reading (before_in kept) line ≡ r
    at_kept is = ap (λ b. line_reading b line) so_far.state.above ∙ is

    one : (r : Result (Option LineForm) LineCause) → line_reading (before above) line ≡ r → IsKeptOf (above ++ line ∷ [])
    one (Err cause) is = absurd (has_no_cause above line more cause is none)
    one (Ok None) is = record { kept = kept; state = taken_none above line kept so_far.state is; counted = so_far.counted }
    one (Ok (Some form)) is =
        let said = says (before_in kept) line form (at_kept is) in
        record {
          kept = with_form kept (length above + 1) form;
          state = taken above line kept so_far.state form is;
          counted = counted_form kept (length above + 1) (first_of line) (words line) form so_far.counted said
              (can_take kept (first_of line) (words line) form said);
        }

abbrev none_kept : Kept
none_kept = record { images = []; listed = []; app = []; done = []; block = []; threads = 0; commands = 0 }

at_first : IsKeptOf []
at_first = record {
  kept = none_kept;
  state = record { faultless = refl; above = refl; images = refl; app = refl; blocks = refl };
  counted = record { few_images = omega arith; few_threads = omega arith; few_commands = omega arith; threads = refl; commands = refl };
}

append_nil_parts : {X : Type 0} (xs ys : List X) → xs ++ ys ≡ [] → (xs ≡ []) × (ys ≡ [])
append_nil_parts [] ys e = (refl, e)
append_nil_parts (x ∷ xs) ys e = cc

small_in : (ls : List (List ℕ)) (k : IsKeptOf ls) → end_causes ls ≡ [] → IsSmall (script_of ls)
small_in ls k none = some_threads k.kept.threads refl
  where
    kept : Kept
    kept = k.kept

    some_threads : (n : ℕ) → kept.threads ≡ n → IsSmall (script_of ls)
    some_threads zero is = absurd (cc (end_cause ls kept k.state is, none))
    some_threads (suc n) is =
        let some : 0 < kept.threads = omega arith in
        let begun = blocks-begun kept.threads kept.done kept.block some in
        let counted = k.counted in
        subst (λ (s : Script). IsSmall s) (whole_script ls kept k.state some) (record {
          some = omega (arith, counted.threads, ap length begun);
          threads = omega (arith, counted.threads, ap length begun, counted.few_threads);
          commands = omega (arith, counted.commands, ap (sum_by length) begun, counted.few_commands);
          images = counted.few_images;
        })

pub accepted_is_small_each : AcceptedIsSmall
accepted_is_small_each bytes script accepted =
    let parts = append_nil_parts (line_causes (lines bytes)) (end_causes (lines bytes)) accepted.faultless in
    subst (λ (s : Script). IsSmall s) (sym accepted.said)
    (small_in (lines bytes) (counted_each [] (lines bytes) at_first parts.0) parts.1)
