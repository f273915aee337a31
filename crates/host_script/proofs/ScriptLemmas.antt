-- Scripts from all their lines.
use Rattle.std.proofs.Common.{◌≡◌, ℕ, suc, ◌+◌, ◌<◌, Bool, true, false, ◌||◌, List, [], ◌∷◌, ◌++◌, length, map, Option, Some, Result, Ok, Err, ◌⊎◌, inl, inr, refl, sym, ap, subst, ◌∙◌, append_assoc, arith}
use Rattle.std.specs.Prelude.{filter, slice_get, MatchResult, IfOk, IfErr}
use Rattle.std.specs.List.{filter_map, flat_map, cons_option, list_any}
use Rattle.std.proofs.lemmas.Bool.{lt-ltb}
use Rattle.std.proofs.lemmas.List.{append-nil}
use Rattle.std.proofs.lemmas.List.Elements.{filter_map-append}
use Rattle.host_script.specs.LineForm.{before, line_reading, first_of, is_thread}
use Rattle.host_script.specs.Lines.{lines}
use Rattle.host_script.specs.Outcome.{GivesFault}
use Rattle.host_script.specs.Script.{numbered, numbered_from, block_in, cause_of, line_causes, end_causes, causes, until_thread, blocks, script_of, fault_at, Accepts, Refuses, IsRefusal, IsAtOrMemory}
use Rattle.host_script.specs.State.{Kept, block_lines, script_in, IsStateOf, IsAnswer}
use Rattle.host_script.specs.declared.cause.LineCause.{LineCause}
use Rattle.host_script.specs.declared.cause.LineCause.TheVariants.{NoThread}
use Rattle.host_script.specs.declared.cause.LineFault.{LineFault}
use Rattle.host_script.specs.declared.cause.LineFault.TheVariants.{Cause, OutOfMemory}
use Rattle.host_script.specs.declared.cause.ScriptFault.{ScriptFault}
use Rattle.host_script.specs.declared.cause.ScriptFault.TheVariants.{At, OutOfMemory as NoMemory}
use Rattle.host_script.specs.declared.command.CommandLine.{CommandLine}
use Rattle.host_script.specs.declared.script.Script.{Script}
use Rattle.host_script.proofs.StateLemmas.{numbered_from-append}

-- a thread's lines end at the next thread
until_spelled : (commands : List CommandLine) (more : List (Option CommandLine)) → until_thread more ≡ [] →
    until_thread (map Some commands ++ more) ≡ commands
until_spelled [] more none = none
until_spelled (c ∷ commands) more none = ap (λ rest. c ∷ rest) (until_spelled commands more none)

blocks_past : (commands : List CommandLine) (more : List (Option CommandLine)) → blocks (map Some commands ++ more) ≡ blocks more
blocks_past [] more = refl
blocks_past (c ∷ commands) more = blocks_past commands more

next_begins : (done : List (List CommandLine)) (block : List CommandLine) →
    until_thread (flat_map block_lines done ++ block_lines block) ≡ []
next_begins [] block = refl
next_begins (d ∷ done) block = refl

pub blocks_spelled : (done : List (List CommandLine)) (block : List CommandLine) →
    blocks (flat_map block_lines done ++ block_lines block) ≡ done ++ block ∷ []
blocks_spelled [] block =
    λ i. (ap until_thread (sym (append-nil (map Some block))) ∙ until_spelled block [] refl) i
    ∷ (ap blocks (sym (append-nil (map Some block))) ∙ blocks_past block []) i
blocks_spelled (d ∷ done) block =
    let rest = flat_map block_lines done ++ block_lines block in
    let joined : map Some d ++ flat_map block_lines done ++ block_lines block
    ≡ map Some d ++ (flat_map block_lines done ++ block_lines block) =
    append_assoc (map Some d) (flat_map block_lines done) (block_lines block) in
    λ i. (ap until_thread joined ∙ until_spelled d rest (next_begins done block)) i
    ∷ (ap blocks joined ∙ blocks_past d rest ∙ blocks_spelled done block) i

-- some line begins a thread where their count isn't 0
any_from_count : (p : List ℕ → Bool) (xs : List (List ℕ)) → 0 < length (filter p xs) → list_any p xs ≡ true
any_from_count p [] some = absurd (omega arith)
any_from_count p (x ∷ xs) some = one (p x) refl (any_from_count p xs)
  where
    one : (t : Bool) → p x ≡ t → (0 < length (filter p xs) → list_any p xs ≡ true) → (p x || list_any p xs) ≡ true
    one true is rest = rw is refl
    one false is rest =
        let more : 0 < length (filter p xs) = rw is at some in let there = rest more in rw (is, there) refl

none_from_count : (p : List ℕ → Bool) (xs : List (List ℕ)) → length (filter p xs) ≡ 0 → list_any p xs ≡ false
none_from_count p [] none = refl
none_from_count p (x ∷ xs) none = one (p x) refl (none_from_count p xs)
  where
    one : (t : Bool) → p x ≡ t → (length (filter p xs) ≡ 0 → list_any p xs ≡ false) → (p x || list_any p xs) ≡ false
    one true is rest = let more : suc (length (filter p xs)) ≡ 0 = rw is at none in absurd (omega arith)
    one false is rest =
        let more : length (filter p xs) ≡ 0 = rw is at none in let there = rest more in rw (is, there) refl

module _ (ls : List (List ℕ)) (kept : Kept) (state : IsStateOf kept ls) where
  counted : kept.threads ≡ length (filter (λ line. is_thread (first_of line)) ls)
  counted = ap (λ b. b.threads) state.above

  pub whole_script : 0 < kept.threads → script_in kept ≡ script_of ls
  whole_script some =
      let begun = lt-ltb 0 kept.threads some in
      let spelled : filter_map (λ l. block_in l.number l.reading) (numbered ls)
      ≡ flat_map block_lines kept.done ++ block_lines kept.block =
      state.blocks ∙ rw begun refl in
      λ i. record {
        images = state.images i;
        app = state.app i;
        threads = (sym (blocks_spelled kept.done kept.block) ∙ ap blocks (sym spelled)) i;
      }

  pub no_end_cause : 0 < kept.threads → end_causes ls ≡ []
  no_end_cause some =
      let any = any_from_count (λ line. is_thread (first_of line)) ls (subst (λ n. 0 < n) counted some) in rw any refl

  pub end_cause : kept.threads ≡ 0 → end_causes ls ≡ (length ls + 1, NoThread) ∷ []
  end_cause none =
      let any = none_from_count (λ line. is_thread (first_of line)) ls (sym counted ∙ none) in rw any refl

-- the bytes, of which some lines are read
module _ (bytes : List ℕ) (kept : Kept) (ls : List (List ℕ)) (state : IsStateOf kept ls) where
  pub all_accepted : lines bytes ≡ ls → 0 < kept.threads → Accepts bytes (script_in kept)
  all_accepted all some = record {
    faultless =
        ap (λ xs. line_causes xs ++ end_causes xs) all
        ∙ (λ i. state.faultless i ++ no_end_cause ls kept state some i);
    said = whole_script ls kept state some ∙ ap script_of (sym all);
  }

  pub without_thread : lines bytes ≡ ls → kept.threads ≡ 0 → Refuses bytes (length ls + 1) NoThread
  without_thread all none =
      ap (λ cs. slice_get cs 0)
      (ap (λ xs. line_causes xs ++ end_causes xs) all
      ∙ (λ i. state.faultless i ++ end_cause ls kept state none i))

  module _ (line : List ℕ) (more : List (List ℕ)) (all : lines bytes ≡ ls ++ line ∷ more) where
    refused_at : (cause : LineCause) → line_reading (before ls) line ≡ Err cause → Refuses bytes (length ls + 1) cause
    refused_at cause is =
        let parts : line_causes (ls ++ line ∷ more)
        ≡ line_causes ls ++ filter_map (λ l. cause_of l.number l.reading) (numbered_from ls (line ∷ more)) =
        ap (filter_map (λ l. cause_of l.number l.reading)) (numbered_from-append [] ls (line ∷ more))
        ∙ filter_map-append (λ l. cause_of l.number l.reading) (numbered ls) (numbered_from ls (line ∷ more)) in
        let here = ap (λ r. cons_option (cause_of (length ls + 1) r)
        (filter_map (λ l. cause_of l.number l.reading) (numbered_from (ls ++ line ∷ []) more))) is in
        ap (λ cs. slice_get cs 0)
        (ap (λ xs. line_causes xs ++ end_causes xs) all
        ∙ ap (λ cs. cs ++ end_causes (ls ++ line ∷ more)) (parts ∙ (λ i. state.faultless i ++ here i)))

    pub refused_line : (fault : LineFault) (n : ℕ) → n ≡ length ls + 1 → GivesFault fault (line_reading (before ls) line) →
        IsRefusal bytes (fault_at n fault)
    refused_line (Cause cause) n is gives = rw is (refused_at cause gives)
    refused_line OutOfMemory n is gives = tt

-- what is read of bytes is all that can be
module _ (bytes : List ℕ) where
  first_none : (xs : List (ℕ × LineCause)) (x : ℕ × LineCause) → xs ≡ [] → slice_get xs 0 ≡ Some x → ⊥
  first_none [] x none there = cc
  first_none (y ∷ xs) x none there = cc

  pub never_both : (script : Script) (line : ℕ) (cause : LineCause) → Accepts bytes script → Refuses bytes line cause → ⊥
  never_both script line cause accepts refuses = first_none (causes bytes) (line, cause) accepts.faultless refuses

some_is : {A : Type 0} {x y : A} → Some x ≡ Some y → x ≡ y
some_is e = cc

pair_is : {a c : ℕ} {b d : LineCause} → ◌≡◌ {A = Option (ℕ × LineCause)} (Some (a, b)) (Some (c, d)) → (a ≡ c) × (b ≡ d)
pair_is e = let p = some_is e in (ap (λ q. q.0) p, ap (λ q. q.1) p)

pub refusal_is : (bytes : List ℕ) (line other : ℕ) (cause another : LineCause) → Refuses bytes line cause →
    Refuses bytes other another → (line ≡ other) × (cause ≡ another)
refusal_is bytes line other cause another is too =
    pair_is (sym is ∙ too)

module _ (bytes : List ℕ) where
  pub only_script : (result : Result Script ScriptFault) → IsAnswer bytes result → (script : Script) → Accepts bytes script →
      MatchResult result (λ found. found ≡ script) (λ fault. fault ≡ NoMemory)
  only_script (Ok found) answer script accepts = answer.said ∙ sym accepts.said
  only_script (Err (At line cause)) answer script accepts = absurd (never_both bytes script line cause accepts answer)
  only_script (Err NoMemory) answer script accepts = refl

  pub only_refusal : (result : Result Script ScriptFault) → IsAnswer bytes result → (line : ℕ) (cause : LineCause) →
      Refuses bytes line cause → MatchResult result (λ _. ⊥) (IsAtOrMemory line cause)
  only_refusal (Ok found) answer line cause refuses = never_both bytes found line cause answer refuses
  only_refusal (Err (At found why)) answer line cause refuses = refusal_is bytes found line why cause answer refuses
  only_refusal (Err NoMemory) answer line cause refuses = tt

  pub told : (result : Result Script ScriptFault) → IsAnswer bytes result → IfOk result (Accepts bytes)
  told (Ok found) answer = answer
  told (Err fault) answer = tt

  pub told_at : (result : Result Script ScriptFault) → IsAnswer bytes result → IfErr result (IsRefusal bytes)
  told_at (Ok found) answer = tt
  told_at (Err fault) answer = answer

  either : (cs : List (ℕ × LineCause)) → causes bytes ≡ cs →
      ((script : Script) × Accepts bytes script) ⊎ ((line : ℕ) × ((cause : LineCause) × Refuses bytes line cause))
  either [] is = inl (script_of (lines bytes), record { faultless = is; said = refl })
  either ((line, cause) ∷ cs) is = inr (line, (cause, ap (λ xs. slice_get xs 0) is))

  pub one_of_both : ((script : Script) × Accepts bytes script) ⊎ ((line : ℕ) × ((cause : LineCause) × Refuses bytes line cause))
  one_of_both = either (causes bytes) refl
