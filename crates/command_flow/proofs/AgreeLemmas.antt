-- Where the codes of a thread's steps come from: there are assemblies with which they agree.
use Rattle.std.proofs.Common.{◌≡◌, ◌∙◌, ℕ, sym, ap, subst, refl, inl, inr, Bool, true, false, cond, eqb, List, [], ◌∷◌, ◌++◌, Option, Some, append_assoc}
use Rattle.std.specs.Option.{option_and_then}
use Rattle.host_events.specs.declared.event.Event.{Event}
use Rattle.host_events.specs.declared.journal.Entry.{Entry}
use Rattle.host_events.specs.declared.order.CodeOf.{CodeOf}
use Rattle.host_events.specs.declared.reply.Reply.{Reply}
use Rattle.host_events.specs.Assemblies.{assembly_in, assembly_of, code_of}
use Rattle.host_events.specs.Files.{Files}
use Rattle.host_events.specs.Journal.{IsProper}
use Rattle.host_events.specs.Steps.{Step, AgreeWith, entry_of, own_steps, step_of, steps_after}
use Rattle.host_events.proofs.Bound.{IsKnown, assemblies_stay_each}
use Rattle.host_events.proofs.Named.{named_are_made_each}
use Rattle.host_events.proofs.Push.{IsProper-prefix}
use Rattle.command_flow.proofs.WayLemmas.{agree_parts}

-- where the code of an assembly comes from that an entry names is the same whatever comes later
code_of-later : (files : Files) (before : List Entry) (entry : Entry) (later : List Entry) (a : ℕ) → IsProper files (before ++ entry ∷ []) → assembly_in entry.reply ≡ Some a →
    code_of before entry ≡ assembly_of ((before ++ entry ∷ []) ++ later) a
code_of-later files before entry later a proper is =
    ap (option_and_then (assembly_of (before ++ entry ∷ []))) is ∙ at (named_are_made_each files (before ++ entry ∷ []) before entry [] a proper refl is)
  where
    at : IsKnown (before ++ entry ∷ []) a → assembly_of (before ++ entry ∷ []) a ≡ assembly_of ((before ++ entry ∷ []) ++ later) a
    at (inl platform) = ap (assembly_of (before ++ entry ∷ [])) platform ∙ sym (ap (assembly_of ((before ++ entry ∷ []) ++ later)) platform)
    at (inr (code, made)) = made ∙ sym (assemblies_stay_each (before ++ entry ∷ []) later a code made)

agree_later : (files : Files) (before rest later : List Entry) (thread : ℕ) → IsProper files (before ++ rest) →
    AgreeWith (assembly_of ((before ++ rest) ++ later)) (steps_after code_of thread before rest)
agree_later files before [] later thread proper = tt
agree_later files before (e ∷ rest) later thread proper =
    at (eqb e.thread thread)
    (subst (λ (j : List Entry). AgreeWith (assembly_of (j ++ later)) (steps_after code_of thread (before ++ e ∷ []) rest)) joined
    (agree_later files (before ++ e ∷ []) rest later thread proper_joined))
  where
    joined : (before ++ e ∷ []) ++ rest ≡ before ++ e ∷ rest
    joined = append_assoc before (e ∷ []) rest

    proper_joined : IsProper files ((before ++ e ∷ []) ++ rest)
    proper_joined = subst (IsProper files) (sym joined) proper

    all : (before ++ e ∷ []) ++ (rest ++ later) ≡ (before ++ e ∷ rest) ++ later
    all = sym (append_assoc (before ++ e ∷ []) rest later) ∙ ap (λ j. j ++ later) joined

    steps : List Step
    steps = steps_after code_of thread (before ++ e ∷ []) rest

    at : (b : Bool) → AgreeWith (assembly_of ((before ++ e ∷ rest) ++ later)) steps →
        AgreeWith (assembly_of ((before ++ e ∷ rest) ++ later)) (cond b (step_of e.event e.reply (code_of before e) ∷ []) [] ++ steps)
    at true agree =
        (λ a is. code_of-later files before e (rest ++ later) a (IsProper-prefix files (before ++ e ∷ []) rest proper_joined) is ∙ ap (λ j. assembly_of j a) all, agree)
    at false agree = agree

agree_joined : (assemblies : ℕ → Option CodeOf) (trace : List Step) (step : Step) → AgreeWith assemblies trace →
    ((a : ℕ) → assembly_in step.reply ≡ Some a → step.code ≡ assemblies a) → AgreeWith assemblies (trace ++ step ∷ [])
agree_joined assemblies [] step agree here = (here, tt)
agree_joined assemblies (s ∷ trace) step agree here = (agree.0, agree_joined assemblies trace step agree.1 here)

-- what a thread has in a journal, and then one step more
pub agree-pushed : (files : Files) (journal : List Entry) (thread : ℕ) (before inner : List Step) (event : Event) (reply : Reply) (code : Option CodeOf) → IsProper files journal →
    own_steps code_of journal thread ≡ before ++ inner → code ≡ code_of journal (entry_of thread event reply) →
    (assemblies : ℕ → Option CodeOf) × AgreeWith assemblies (inner ++ step_of event reply code ∷ [])
agree-pushed files journal thread before inner event reply code proper own coded =
    let entry = entry_of thread event reply in
    let all : AgreeWith (assembly_of (journal ++ entry ∷ [])) (before ++ inner) =
    subst (AgreeWith (assembly_of (journal ++ entry ∷ []))) own (agree_later files [] journal (entry ∷ []) thread proper) in (
      assembly_of (journal ++ entry ∷ []),
      agree_joined (assembly_of (journal ++ entry ∷ [])) inner (step_of event reply code) (agree_parts (assembly_of (journal ++ entry ∷ [])) before inner all).1
          (λ a is. coded ∙ ap (option_and_then (assembly_of (journal ++ entry ∷ []))) is),
    )
