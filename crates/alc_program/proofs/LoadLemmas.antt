-- What a file holds as a script.
use Rattle.std.proofs.Common.{◌≡◌, ℕ, ◌<◌, ◌≤◌, List, [], ◌∷◌, length, Option, Some, None, IfSome, IfOk, IfErr, Result, Ok, Err, ◌⊎◌, inl, inr, refl, subst, sym, ap, ◌∙◌, arith}
use Rattle.std.specs.Prelude.{IsSomeAnd}
use Rattle.std.proofs.lemmas.Option.{IfSome_then}
use Rattle.plug_io.specs.Files.{held_at}
use Rattle.host_script.specs.declared.cause.LineCause.{LineCause}
use Rattle.host_script.specs.declared.cause.LineCause.TheVariants.{Absent, TooLong, NotBuilt}
use Rattle.host_script.specs.declared.script.Script.{Script}
use Rattle.host_script.specs.Script.{Accepts, Refuses}
use Rattle.host_script.proofs.ScriptLemmas.{never_both}
use Rattle.alc_program.specs.declared.status.Status.{Status}
use Rattle.alc_program.specs.declared.status.Status.TheVariants as statuses
use Rattle.alc_program.specs.Headline.{During, IsAnswerToSteps, WritesNothing}
use Rattle.alc_program.specs.Load.{HasUnbuilt, HoldsScript, IsBytesStatus, RefusesBytes, RefusesContent, RefusesFile, script_limit}
use Rattle.alc_program.specs.Unbuilt.{IsLeast, unbuilt_lines}

-- what the files told of the bytes that were read
abbrev pub Told : Option (List (List ℕ × List ℕ)) → List ℕ → List ℕ → Type 0
Told held file bytes = IfSome held (λ entries. (held_at entries file ≡ Some bytes) × (length bytes ≤ script_limit))

-- a script all of whose lines are run, and one of which one is not
pub built_script : (bytes : List ℕ) (script : Script) (result : Result Script Status) → Accepts bytes script →
    IfOk result (λ same. (same ≡ script) × (unbuilt_lines script ≡ [])) →
    IfOk result (λ found. Accepts bytes found × (unbuilt_lines found ≡ []))
built_script bytes script (Ok same) accepted is =
    (subst (λ (s : Script). Accepts bytes s) (sym is.0) accepted, subst (λ (s : Script). unbuilt_lines s ≡ []) (sym is.0) is.1)
built_script bytes script (Err status) accepted is = tt

bytes_status : (bytes : List ℕ) (script : Script) (status : Status) (line : ℕ) → Accepts bytes script → IsLeast (unbuilt_lines script) line →
    status ≡ statuses.Script line NotBuilt → IsBytesStatus bytes status
bytes_status bytes script status line accepted least is =
    subst (λ (s : Status). IsBytesStatus bytes s) (sym is) (inr (record { script = script; accepted = accepted; first = least }, refl))

pub unbuilt_status : (bytes : List ℕ) (script : Script) (result : Result Script Status) → Accepts bytes script →
    IfErr result (λ status. (line : ℕ) × IsLeast (unbuilt_lines script) line × (status ≡ statuses.Script line NotBuilt)) →
    IfErr result (IsBytesStatus bytes)
unbuilt_status bytes script (Ok same) accepted is = tt
unbuilt_status bytes script (Err status) accepted is = bytes_status bytes script status is.0 accepted is.1 is.2

-- a file of bytes that spell a script
pub loaded : (held : Option (List (List ℕ × List ℕ))) (file bytes seen : List ℕ) (result : Result Script Status) →
    Told held file bytes → length bytes ≤ script_limit → seen ≡ bytes →
    IfOk result (λ script. Accepts seen script × (unbuilt_lines script ≡ [])) → IfOk result (HoldsScript held file)
loaded held file bytes seen (Err status) told short same is = tt
loaded held file bytes seen (Ok script) told short same is = record {
  bytes = bytes;
  found = IfSome_then held told (λ entries there. there.0);
  short = short;
  accepted = subst (λ (b : List ℕ). Accepts b script) same is.0;
  built = is.1;
}

refuses_file : (held : Option (List (List ℕ × List ℕ))) (file bytes : List ℕ) (line : ℕ) (cause : LineCause) → Told held file bytes →
    (Refuses bytes line cause ⊎ (HasUnbuilt bytes line × (cause ≡ NotBuilt))) → RefusesFile held file line cause
refuses_file None file bytes line cause told why = tt
refuses_file (Some entries) file bytes line cause told why =
    subst (λ (c : Option (List ℕ)). RefusesContent c line cause) (sym told.0) (inr (told.1, why))

answers_status : (held : Option (List (List ℕ × List ℕ))) (file bytes schedule : List ℕ) (files : During (List (List ℕ × List ℕ))) (out : During (List ℕ)) (status : Status) →
    files.before ≡ held → Told held file bytes → IsBytesStatus bytes status → WritesNothing out → IsAnswerToSteps file schedule files out status
answers_status held file bytes schedule files out (statuses.Script line cause) is told refuses nothing =
    (subst (λ (h : Option (List (List ℕ × List ℕ))). RefusesFile h file line cause) (sym is) (refuses_file held file bytes line cause told refuses), nothing)
answers_status held file bytes schedule files out statuses.OutOfMemory is told refuses nothing = nothing
answers_status held file bytes schedule files out statuses.Done is told refuses nothing = absurd refuses
answers_status held file bytes schedule files out statuses.Usage is told refuses nothing = absurd refuses
answers_status held file bytes schedule files out statuses.ReadFault is told refuses nothing = absurd refuses
answers_status held file bytes schedule files out statuses.WriteFault is told refuses nothing = absurd refuses

-- a file of bytes that spell none that is run
pub refused : (held : Option (List (List ℕ × List ℕ))) (file bytes seen : List ℕ) (files : During (List (List ℕ × List ℕ))) (result : Result Script Status) →
    files.before ≡ held → Told held file bytes → seen ≡ bytes → IfErr result (IsBytesStatus seen) →
    IfErr result (λ status. (schedule : List ℕ) (out : During (List ℕ)) → WritesNothing out → IsAnswerToSteps file schedule files out status)
refused held file bytes seen files (Ok script) before told same is = tt
refused held file bytes seen files (Err status) before told same is =
    λ schedule out nothing. answers_status held file bytes schedule files out status before told (subst (λ (b : List ℕ). IsBytesStatus b status) same is) nothing

-- no file, and one that is too long
pub absent_file : (held : Option (List (List ℕ × List ℕ))) (file : List ℕ) →
    IfSome held (λ entries. held_at entries file ≡ None) → RefusesFile held file 0 Absent
absent_file None file told = tt
absent_file (Some entries) file told = subst (λ (c : Option (List ℕ)). RefusesContent c 0 Absent) (sym told) (refl, refl)

long_content : (content : Option (List ℕ)) → IsSomeAnd content (λ bytes. script_limit < length bytes) → RefusesContent content 0 TooLong
long_content None long = absurd long
long_content (Some bytes) long = inl (long, refl, refl)

pub long_file : (held : Option (List (List ℕ × List ℕ))) (file : List ℕ) →
    IfSome held (λ entries. IsSomeAnd (held_at entries file) (λ bytes. script_limit < length bytes)) → RefusesFile held file 0 TooLong
long_file None file told = tt
long_file (Some entries) file told = long_content (held_at entries file) told

some_least : (numbers : List ℕ) (n : ℕ) → numbers ≡ [] → IsLeast numbers n → ⊥
some_least [] n none least = let has = least.among in absurd (omega (arith, has.1))
some_least (x ∷ xs) n none least = cc

-- bytes of a script that is run are not refused
not_refused_bytes : (bytes : List ℕ) (script : Script) (line : ℕ) (cause : LineCause) →
    length bytes ≤ script_limit → Accepts bytes script → unbuilt_lines script ≡ [] → RefusesBytes bytes line cause → ⊥
not_refused_bytes bytes script line cause short accepted built (inl long) = let l = long.0 in omega arith
not_refused_bytes bytes script line cause short accepted built (inr (there, inl refuses)) = never_both bytes script line cause accepted refuses
not_refused_bytes bytes script line cause short accepted built (inr (there, inr (unbuilt, why))) =
    let same : script ≡ unbuilt.script = accepted.said ∙ sym unbuilt.accepted.said in
    some_least (unbuilt_lines unbuilt.script) line (ap unbuilt_lines (sym same) ∙ built) unbuilt.first

not_refused : (content : Option (List ℕ)) (bytes : List ℕ) (script : Script) (line : ℕ) (cause : LineCause) → content ≡ Some bytes →
    length bytes ≤ script_limit → Accepts bytes script → unbuilt_lines script ≡ [] → RefusesContent content line cause → ⊥
not_refused content bytes script line cause is short accepted built refuses =
    not_refused_bytes bytes script line cause short accepted built (subst (λ (c : Option (List ℕ)). RefusesContent c line cause) is refuses)

-- a file that the files tell to hold a script that is run is not refused
pub not_refused_file : (held : Option (List (List ℕ × List ℕ))) (file : List ℕ) (script : Script) (line : ℕ) (cause : LineCause) →
    Rattle.std.specs.Prelude.IsSome held → HoldsScript held file script → RefusesFile held file line cause → ⊥
not_refused_file (Some entries) file script line cause told holds refuses =
    not_refused (held_at entries file) holds.bytes script line cause holds.found holds.short holds.accepted holds.built refuses
not_refused_file None file script line cause told holds refuses = cc
