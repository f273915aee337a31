-- What an operation was told of, as its thread goes on; and what the codes of a thread's steps tell of assemblies.
use Rattle.std.proofs.Common.{◌≡◌, ℕ, inl, inr, Bool, true, false, cond, eqb, List, [], ◌∷◌, ◌++◌, Some, refl, sym, ap, subst, ◌∙◌, append_assoc, arith}
use Rattle.std.specs.List.{Contains, cons_option}
use Rattle.std.specs.Option.{option_and_then}
use Rattle.std.proofs.lemmas.Bool.{eqb-true}
use Rattle.std.proofs.lemmas.List.Elements.{Contains-append_left, Contains-append_right}
use Rattle.host_events.specs.declared.event.Candidate.TheVariants as candidates
use Rattle.host_events.specs.declared.reply.Reply.TheVariants as replies
use Rattle.host_events.specs.declared.journal.Entry.{Entry}
use Rattle.host_events.specs.Assemblies.{assembly_in, assembly_of, code_of}
use Rattle.host_events.specs.Files.{Files}
use Rattle.host_events.specs.Journal.{IsProper, IsToldCandidate, IsToldContext}
use Rattle.host_events.specs.Operations.{IsWithin, begun_operation, contexts_told, ends, told_assemblies, told_contexts}
use Rattle.host_events.specs.Steps.{AgreeWith, Step, own_steps, step_of, steps_after}
use Rattle.host_events.proofs.Bound.{IsKnown, assemblies_stay_each}
use Rattle.host_events.proofs.Named.{named_are_made_each}
use Rattle.host_events.proofs.Push.{IsProper-prefix}
use Rattle.host_events.proofs.Since.{told_assemblies-other, told_assemblies-own, told_contexts-begun, told_contexts-other, told_contexts-own}
use Rattle.host_events.proofs.Within.{within-begun, within-stays}

-- an operation is told of the context in which it begins
pub entered-told : (files : Files) (journal : List Entry) (entry : Entry) (k c : ℕ) → IsProper files (journal ++ entry ∷ []) →
    entry.reply ≡ replies.Entered k c → IsToldContext (journal ++ entry ∷ []) entry.thread c
entered-told files journal entry k c proper entered =
    let begun : begun_operation entry.reply ≡ Some k = ap begun_operation entered in
    let told : told_contexts (journal ++ entry ∷ []) k ≡ 0 ∷ c ∷ [] =
    told_contexts-begun files journal entry k proper.legal begun ∙ ap (λ r. 0 ∷ contexts_told (journal ++ entry ∷ []) r) entered in
    (k, within-begun files journal entry k proper begun, subst (λ (cs : List ℕ). Contains cs c) (sym told) (1, omega arith, refl))

-- an operation that goes on is told of the contexts that the reply to its thread names
pub context-told : (files : Files) (journal : List Entry) (entry : Entry) (k c : ℕ) → IsProper files (journal ++ entry ∷ []) →
    IsWithin journal entry.thread k → ends k entry.event ≡ false → Contains (contexts_told (journal ++ entry ∷ []) entry.reply) c →
    IsToldContext (journal ++ entry ∷ []) entry.thread c
context-told files journal entry k c proper within on has = (
  k,
  within-stays files journal entry entry.thread k proper within on,
  subst (λ (cs : List ℕ). Contains cs c) (sym (told_contexts-own files journal entry k (IsProper-prefix files journal (entry ∷ []) proper) within))
      (Contains-append_right (told_contexts journal k) (contexts_told (journal ++ entry ∷ []) entry.reply) c has),
)

-- and of the assembly that it names
pub assembly-told : (files : Files) (journal : List Entry) (entry : Entry) (k a : ℕ) → IsProper files (journal ++ entry ∷ []) →
    IsWithin journal entry.thread k → ends k entry.event ≡ false → assembly_in entry.reply ≡ Some a →
    IsToldCandidate (journal ++ entry ∷ []) entry.thread (candidates.Assembly a)
assembly-told files journal entry k a proper within on is =
    let told : told_assemblies (journal ++ entry ∷ []) k ≡ told_assemblies journal k ++ a ∷ [] =
    told_assemblies-own files journal entry k (IsProper-prefix files journal (entry ∷ []) proper).legal within
    ∙ ap (λ o. told_assemblies journal k ++ cons_option o []) is in (
      k,
      within-stays files journal entry entry.thread k proper within on,
      subst (λ (assemblies : List ℕ). Contains assemblies a) (sym told) (Contains-append_right (told_assemblies journal k) (a ∷ []) a (0, omega arith, refl)),
    )

-- what an operation was told of it may name as long as it goes on, whatever any thread asks for
pub told_context-stays : (files : Files) (journal : List Entry) (entry : Entry) (thread k c : ℕ) → IsProper files (journal ++ entry ∷ []) →
    IsWithin journal thread k → Contains (told_contexts journal k) c → Contains (told_contexts (journal ++ entry ∷ []) k) c
told_context-stays files journal entry thread k c proper within has = at (eqb entry.thread thread) refl
  where
    before : IsProper files journal
    before = IsProper-prefix files journal (entry ∷ []) proper

    at : (b : Bool) → eqb entry.thread thread ≡ b → Contains (told_contexts (journal ++ entry ∷ []) k) c
    at true is =
        let own : IsWithin journal entry.thread k = subst (λ t. IsWithin journal t k) (sym (eqb-true entry.thread thread is)) within in
        subst (λ (cs : List ℕ). Contains cs c) (sym (told_contexts-own files journal entry k before own))
        (Contains-append_left (told_contexts journal k) (contexts_told (journal ++ entry ∷ []) entry.reply) c has)
    at false is = subst (λ (cs : List ℕ). Contains cs c) (sym (told_contexts-other files journal entry thread k before within is)) has

pub told_assembly-stays : (files : Files) (journal : List Entry) (entry : Entry) (thread k a : ℕ) → IsProper files (journal ++ entry ∷ []) →
    IsWithin journal thread k → Contains (told_assemblies journal k) a → Contains (told_assemblies (journal ++ entry ∷ []) k) a
told_assembly-stays files journal entry thread k a proper within has = at (eqb entry.thread thread) refl
  where
    before : IsProper files journal
    before = IsProper-prefix files journal (entry ∷ []) proper

    at : (b : Bool) → eqb entry.thread thread ≡ b → Contains (told_assemblies (journal ++ entry ∷ []) k) a
    at true is =
        let own : IsWithin journal entry.thread k = subst (λ t. IsWithin journal t k) (sym (eqb-true entry.thread thread is)) within in
        subst (λ (assemblies : List ℕ). Contains assemblies a) (sym (told_assemblies-own files journal entry k before.legal own))
        (Contains-append_left (told_assemblies journal k) (cons_option (assembly_in entry.reply) []) a has)
    at false is = subst (λ (assemblies : List ℕ). Contains assemblies a) (sym (told_assemblies-other files journal entry thread k before.legal within is)) has

-- where the code of an assembly comes from that an entry names is the same later
pub code_of-stays : (files : Files) (before : List Entry) (entry : Entry) (later : List Entry) (a : ℕ) →
    IsProper files ((before ++ entry ∷ []) ++ later) → assembly_in entry.reply ≡ Some a →
    code_of before entry ≡ assembly_of ((before ++ entry ∷ []) ++ later) a
code_of-stays files before entry later a proper is =
    ap (option_and_then (assembly_of (before ++ entry ∷ []))) is
    ∙ at (named_are_made_each files (before ++ entry ∷ []) before entry [] a (IsProper-prefix files (before ++ entry ∷ []) later proper) refl is)
  where
    at : IsKnown (before ++ entry ∷ []) a → assembly_of (before ++ entry ∷ []) a ≡ assembly_of ((before ++ entry ∷ []) ++ later) a
    at (inl platform) =
        ap (assembly_of (before ++ entry ∷ [])) platform ∙ sym (ap (assembly_of ((before ++ entry ∷ []) ++ later)) platform)
    at (inr (code, made)) = made ∙ sym (assemblies_stay_each (before ++ entry ∷ []) later a code made)

agree_after : (files : Files) (before rest : List Entry) (thread : ℕ) → IsProper files (before ++ rest) →
    AgreeWith (assembly_of (before ++ rest)) (steps_after code_of thread before rest)
agree_after files before [] thread proper = tt
agree_after files before (e ∷ rest) thread proper =
    at (eqb e.thread thread)
    (subst (λ (j : List Entry). AgreeWith (assembly_of j) (steps_after code_of thread (before ++ e ∷ []) rest)) joined
    (agree_after files (before ++ e ∷ []) rest thread proper_joined))
  where
    joined : (before ++ e ∷ []) ++ rest ≡ before ++ e ∷ rest
    joined = append_assoc before (e ∷ []) rest

    proper_joined : IsProper files ((before ++ e ∷ []) ++ rest)
    proper_joined = subst (IsProper files) (sym joined) proper

    later : List Step
    later = steps_after code_of thread (before ++ e ∷ []) rest

    at : (b : Bool) → AgreeWith (assembly_of (before ++ e ∷ rest)) later →
        AgreeWith (assembly_of (before ++ e ∷ rest)) (cond b (step_of e.event e.reply (code_of before e) ∷ []) [] ++ later)
    at true agree = (λ a is. code_of-stays files before e rest a proper_joined is ∙ ap (λ j. assembly_of j a) joined, agree)
    at false agree = agree

-- the codes of a thread's steps are those of the assemblies of its journal
pub own_steps-agree : (files : Files) (journal : List Entry) (thread : ℕ) → IsProper files journal →
    AgreeWith (assembly_of journal) (own_steps code_of journal thread)
own_steps-agree files journal thread proper = agree_after files [] journal thread proper
