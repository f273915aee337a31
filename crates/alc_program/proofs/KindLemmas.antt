-- A script whose lines are all run begins no operation where it collects contexts.
use Rattle.std.proofs.Common.{◌≡◌, ◌∙◌, ℕ, zero, suc, ◌≤◌, Bool, true, false, not, ◌&&◌, ◌||◌, cond, List, [], ◌∷◌, ◌++◌, map, Some, refl, sym, ap, subst, inl, inr, arith}
use Rattle.std.specs.List.{AllByRecursion, Contains, filter, flat_map, list_any, slice_get}
use Rattle.std.proofs.lemmas.Bool.{and_parts, cases_lt, le-leb, or_left, or_right}
use Rattle.std.proofs.lemmas.List.Elements.{Contains-append_left, Contains-append_right}
use Rattle.host_events.proofs.Parts.{PartsAt, any_parts, parts_any}
use Rattle.host_script.specs.declared.command.Command.{Command}
use Rattle.host_script.specs.declared.command.Command.TheVariants as commands
use Rattle.host_script.specs.declared.command.CommandLine.{CommandLine}
use Rattle.host_script.specs.declared.script.Script.{Script}
use Rattle.command_flow.specs.Events.{is_built}
use Rattle.alc_program.specs.Unbuilt.{bars, bars_line, begins, collects, command_lines, is_collecting, is_run, unbuilt_lines}

-- a command of a run that collects begins no operation, and one of another run does not collect
abbrev pub KeepsKind : Bool → Command → Type 0
KeepsKind collecting command = (collecting ≡ true → begins command ≡ false) × (collecting ≡ false → collects command ≡ false)

-- an element, wherever the list is parted at it
parts_contained : {X : Type 0} (xs : List X) (x : X) → Contains xs x → PartsAt (λ y. y ≡ x) xs
parts_contained [] x has = absurd (omega (arith, has.1))
parts_contained (z ∷ xs) x (zero, within, is) = record { before = []; here = z; after = xs; parted = refl; holds = is }
parts_contained (z ∷ xs) x (suc i, within, is) =
    let later = parts_contained xs x (i, omega (arith, within), is) in
    record { before = z ∷ later.before; here = later.here; after = later.after; parted = ap (λ ys. z ∷ ys) later.parted; holds = later.holds }

-- an element that passes
any_contained : {X : Type 0} (p : X → Bool) (xs : List X) (x : X) → Contains xs x → p x ≡ true → list_any p xs ≡ true
any_contained p xs x has passes =
    let parts = parts_contained xs x has in
    any_parts p xs (record { before = parts.before; here = parts.here; after = parts.after; parted = parts.parted; holds = ap p parts.holds ∙ passes })

contained_parts : {X : Type 0} (before : List X) (x : X) (after : List X) → Contains (before ++ x ∷ after) x
contained_parts [] x after = (0, omega arith, refl)
contained_parts (b ∷ before) x after = let has = contained_parts before x after in (suc has.0, omega (arith, has.1), has.2)

-- where nothing is left out, each element passes
none_left : {X Y : Type 0} (f : X → Y) (p : X → Bool) (xs : List X) (x : X) → map f (filter (λ x. not (p x)) xs) ≡ [] → Contains xs x → p x ≡ true
none_left f p [] x none has = absurd (omega (arith, has.1))
none_left {X} {Y} f p (z ∷ xs) x none has = at (p z) refl (λ left there. none_left f p xs x left there) none has
  where
    at : (b : Bool) → p z ≡ b → (map f (filter (λ x. not (p x)) xs) ≡ [] → Contains xs x → p x ≡ true) → map f (cond (not b) (z ∷ filter (λ x. not (p x)) xs) (filter (λ x. not (p x)) xs)) ≡ [] → Contains (z ∷ xs) x → p x ≡ true
    at false is later none has = cc
    at true is later none (zero, within, same) = sym (ap p same) ∙ is
    at true is later none (suc i, within, same) = later none (i, omega (arith, within), same)

-- a command that begins an operation, and one that collects, bar each other
bars_begun : (command other : Command) → begins command ≡ true → collects other ≡ true → bars command other ≡ true
bars_begun command other begun is =
    ap (λ b. b && collects other || collects command && begins other) begun ∙ or_left (collects other) (collects command && begins other) is

bars_collected : (command other : Command) → collects command ≡ true → begins other ≡ true → bars command other ≡ true
bars_collected command other is begun =
    ap (λ b. begins command && collects other || b && begins other) is ∙ or_right (begins command && collects other) (begins other) begun

-- what stands no lower than a line that is run does not bar it
barred : (all : List CommandLine) (above line : CommandLine) → Contains all above → above.line ≤ line.line → bars above.command line.command ≡ true →
    is_run all line ≡ true → ⊥
barred all above line has stands bar run =
    let test : CommandLine → Bool = λ other. bars_line other line in
    let here : test above ≡ true = ap (λ b. b && bars above.command line.command) (le-leb above.line line.line stands) ∙ bar in
    let some : list_any test all ≡ true = any_contained test all above has here in
    let free = (and_parts (is_built line.command) (not (list_any test all)) run).1 in
    let no : not true ≡ true = ap not (sym some) ∙ free in
    cc no

-- a line that begins an operation, and one that collects, are not both run
not_both : (all : List CommandLine) → ((line : CommandLine) → Contains all line → is_run all line ≡ true) →
    (line other : CommandLine) → Contains all line → Contains all other → begins line.command ≡ true → collects other.command ≡ true → ⊥
not_both all run line other has holds begun is =
    elim (cases_lt line.line other.line) [
      | inl above ↦ barred all line other has (omega (arith, above)) (bars_begun line.command other.command begun is) (run other holds)
      | inr below ↦ barred all other line holds (omega (arith, below)) (bars_collected other.command line.command is begun) (run line has)
    ]

-- where no element passes, none does
none_passes : {X : Type 0} (p : X → Bool) (xs : List X) (x : X) → list_any p xs ≡ false → Contains xs x → p x ≡ false
none_passes p xs x none has = at (p x) refl
  where
    at : (b : Bool) → p x ≡ b → p x ≡ false
    at true is = let some : list_any p xs ≡ true = any_contained p xs x has is in absurd (cc (some, none))
    at false is = is

line_kept : (script : Script) → unbuilt_lines script ≡ [] → (line : CommandLine) → Contains (command_lines script) line →
    KeepsKind (is_collecting script) line.command
line_kept script built line has = (none_begins, λ none. none_passes (λ (l : CommandLine). collects l.command) (command_lines script) line none has)
  where
    all : List CommandLine
    all = command_lines script

    none_begins : is_collecting script ≡ true → begins line.command ≡ false
    none_begins some =
        let collected = parts_any (λ (l : CommandLine). collects l.command) all some in
        let there : Contains all collected.here =
        subst (λ (ls : List CommandLine). Contains ls collected.here) (sym collected.parted) (contained_parts collected.before collected.here collected.after) in
        at collected.here there collected.holds (begins line.command) refl
      where
        at : (other : CommandLine) → Contains all other → collects other.command ≡ true → (b : Bool) → begins line.command ≡ b → begins line.command ≡ false
        at other there is false begun = begun
        at other there is true begun =
            absurd (not_both all (λ l found. none_left (λ (l : CommandLine). l.line) (is_run all) all l built found) line other has there begun is)

-- each line of a thread is one of all
in_all : {X : Type 0} (P : X → Type 0) (xss : List (List X)) → ((x : X) → Contains (flat_map (λ xs. xs) xss) x → P x) → (i : ℕ) (xs : List X) →
    slice_get xss i ≡ Some xs → AllByRecursion P xs
in_all P [] each i xs found = cc
in_all {X} P (ys ∷ xss) each zero xs found =
    let same : ys ≡ xs = cc in
    subst (AllByRecursion P) same (all_of ys (λ y has. each y (Contains-append_left ys (flat_map (λ xs. xs) xss) y has)))
  where
    all_of : (zs : List X) → ((z : X) → Contains zs z → P z) → AllByRecursion P zs
    all_of [] each = tt
    all_of (z ∷ zs) each = (each z (0, omega arith, refl), all_of zs (λ w has. each w (suc has.0, omega (arith, has.1), has.2)))
in_all P (ys ∷ xss) each (suc i) xs found =
    in_all P xss (λ x has. each x (Contains-append_right ys (flat_map (λ xs. xs) xss) x has)) i xs found

-- Where all lines are run, the commands of each thread are of one kind of run.
pub lines_kept : (script : Script) → unbuilt_lines script ≡ [] → (i : ℕ) (given : List CommandLine) →
    slice_get script.threads i ≡ Some given → AllByRecursion (λ line. KeepsKind (is_collecting script) line.command) given
lines_kept script built i given found =
    in_all (λ (line : CommandLine). KeepsKind (is_collecting script) line.command) script.threads (line_kept script built) i given found
