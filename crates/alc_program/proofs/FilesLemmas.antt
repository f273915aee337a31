-- What a run reads of its image files.
use Rattle.std.proofs.Common.{◌≡◌, ℕ, zero, suc, ◌+◌, ◌-◌, ◌<◌, ◌≤◌, ◌==◌, Bool, true, false, cond, List, [], ◌∷◌, ◌++◌, length, take, get_or, Option, Some, None, refl, sym, ap, ◌∙◌, arith}
use Rattle.std.specs.Prelude.{nat_le}
use Rattle.std.specs.List.{AllByRecursion, cons_option, filter_map, list_any, slice_get}
use Rattle.std.specs.Option.{option_and_then, option_map, option_to_list}
use Rattle.std.proofs.lemmas.Bool.Decides.{nat_tests}
use Rattle.std.proofs.lemmas.List.{map-append, take_more}
use Rattle.std.proofs.lemmas.List.Elements.{filter_map-append}
use Rattle.assembly_image.specs.Reading.{FileReading}
use Rattle.assembly_name.specs.declared.version.Version.{Version}
use Rattle.bind_flow.specs.Images.{reading_at, version_read, versions_of}
use Rattle.host_events.specs.Files.{IsImage, IsNumbered}
use Rattle.host_script.specs.declared.images.ImageLine.{ImageLine}
use Rattle.host_script.specs.declared.script.AppLine.{AppLine}
use Rattle.host_script.specs.Images.{line_at}
use Rattle.alc_program.specs.Images.{app_file, file_name, last_part, slash}

-- something stands at each place of a list
pub some_at : {X : Type 0} (xs : List X) (i : ℕ) → i < length xs → (x : X) × (slice_get xs i ≡ Some x)
some_at [] i within = absurd (omega arith)
some_at (x ∷ xs) zero within = (x, refl)
some_at (x ∷ xs) (suc i) within = some_at xs i (omega arith)

-- what stands there is at a place of the list
pub at_within : {X : Type 0} (xs : List X) (i : ℕ) (x : X) → slice_get xs i ≡ Some x → i < length xs
at_within [] i x found = cc
at_within (y ∷ ys) zero x found = omega arith
at_within (y ∷ ys) (suc i) x found = let below = at_within ys i x found in omega arith

-- the first of a list, and one more
pub take_at : {X : Type 0} (xs : List X) (i : ℕ) (x : X) → slice_get xs i ≡ Some x → take (i + 1) xs ≡ take i xs ++ x ∷ []
take_at xs i x found = let next : i + 1 ≡ suc i = omega arith in ap (λ n. take n xs) next ∙ more xs i x found
  where
    more : {X : Type 0} (xs : List X) (i : ℕ) (x : X) → slice_get xs i ≡ Some x → take (suc i) xs ≡ take i xs ++ x ∷ []
    more [] i x found = cc
    more (y ∷ ys) zero x found = let same : y ≡ x = cc in ap (λ z. z ∷ []) same
    more (y ∷ ys) (suc i) x found = ap (λ zs. y ∷ zs) (more ys i x found)

counted_from_one : (i : ℕ) → nat_le 1 (suc i) ≡ true
counted_from_one i = grind (arith, nat_tests)

-- the line of an image is that at its place
line_of : (lines : List (List ℕ × ImageLine)) (i : ℕ) → line_at lines (suc i) ≡ option_map (λ (image : List ℕ × ImageLine). image.1) (slice_get lines i)
line_of lines i =
    let back : suc i - 1 ≡ i = omega arith in
    ap (λ b. cond b (option_map (λ (image : List ℕ × ImageLine). image.1) (slice_get lines (suc i - 1))) None) (counted_from_one i)
    ∙ ap (λ n. option_map (λ (image : List ℕ × ImageLine). image.1) (slice_get lines n)) back

pub line_next : (lines : List (List ℕ × ImageLine)) (i : ℕ) (line : List ℕ × ImageLine) → slice_get lines i ≡ Some line → line_at lines (i + 1) ≡ Some line.1
line_next lines i line found =
    let next : i + 1 ≡ suc i = omega arith in
    ap (line_at lines) next ∙ line_of lines i ∙ ap (option_map (λ (image : List ℕ × ImageLine). image.1)) found

-- a number that has a line is that of an image
line_within : (lines : List (List ℕ × ImageLine)) (n : ℕ) (line : ImageLine) → line_at lines n ≡ Some line → (1 ≤ n) × (n ≤ length lines)
line_within lines zero line found = cc
line_within lines (suc i) line found =
    let below = there (slice_get lines i) refl (sym (line_of lines i) ∙ found) in (omega arith, omega arith)
  where
    there : (o : Option (List ℕ × ImageLine)) → slice_get lines i ≡ o → option_map (λ (image : List ℕ × ImageLine). image.1) o ≡ Some line → i < length lines
    there None at is = cc
    there (Some image) at is = at_within lines i image at

-- the files of applications are those of images
pub are_numbered : (lines : List (List ℕ × ImageLine)) (app : List AppLine) (versions : List (Option Version)) →
    length lines ≤ 256 → length versions ≡ length lines → IsNumbered (filter_map (app_file lines) app) versions
are_numbered lines app versions few count = record { few = omega arith; each = each app }
  where
    each : (apps : List AppLine) → AllByRecursion (λ (file : List ℕ × ℕ). IsImage versions file.1) (filter_map (app_file lines) apps)
    each [] = tt
    each (a ∷ apps) = at (line_at lines a.image) refl (each apps)
      where
        at : (o : Option ImageLine) → line_at lines a.image ≡ o →
            AllByRecursion (λ (file : List ℕ × ℕ). IsImage versions file.1) (filter_map (app_file lines) apps) →
            AllByRecursion (λ (file : List ℕ × ℕ). IsImage versions file.1)
            (cons_option (option_map (λ (line : ImageLine). (file_name line.path, a.image)) o) (filter_map (app_file lines) apps))
        at None is rest = rest
        at (Some line) is rest =
            let within = line_within lines a.image line is in
            let low = within.0 in let high = within.1 in (record { counted = low; within = omega arith }, rest)

option_list : {Y : Type 0} (o : Option Y) → cons_option o [] ≡ option_to_list o
option_list None = refl
option_list (Some y) = refl

-- what the first of a list gives, and what one more gives
pub filter_map-next : {X Y : Type 0} (f : X → Option Y) (xs : List X) (i : ℕ) (d : X) (found : List Y) (one : Option Y) → i < length xs →
    found ≡ filter_map f (take i xs) → one ≡ f (get_or xs i d) → found ++ option_to_list one ≡ filter_map f (take (i + 1) xs)
filter_map-next f xs i d found one within so_far is =
    ap (λ ys. ys ++ option_to_list one) so_far ∙ ap (λ o. filter_map f (take i xs) ++ option_to_list o) is
    ∙ sym (ap (filter_map f) (take_more xs i d within) ∙ filter_map-append f (take i xs) (get_or xs i d ∷ [])
    ∙ ap (λ ys. filter_map f (take i xs) ++ ys) (option_list (f (get_or xs i d))))

-- a test of whether a unit is `/`
abbrev is_slash : ℕ → Bool
is_slash unit = unit == slash

-- the last part is what is left once no `/` follows
pub last_part-all : (units : List ℕ) → last_part units ≡ cond (list_any is_slash units) (last_part units) units
last_part-all [] = refl
last_part-all (u ∷ us) = at (list_any is_slash (u ∷ us))
  where
    at : (b : Bool) → cond b (last_part us) (u ∷ us) ≡ cond b (cond b (last_part us) (u ∷ us)) (u ∷ us)
    at true = refl
    at false = refl

-- the versions of the first images, and of one more
pub versions-next : (images : List FileReading) (i : ℕ) (versions : List (Option Version)) (version : Option Version) → i < length images →
    versions ≡ versions_of (take i images) → version ≡ option_and_then version_read (reading_at images (i + 1)) →
    versions ++ version ∷ [] ≡ versions_of (take (i + 1) images)
versions-next images i versions version within so_far is =
    let there = some_at images i within in
    let next : i + 1 ≡ suc i = omega arith in
    let read : version ≡ version_read there.0 = is ∙ ap (λ n. option_and_then version_read (reading_at images n)) next ∙ ap (option_and_then version_read) there.1 in
    ap (λ vs. vs ++ version ∷ []) so_far ∙ ap (λ v. versions_of (take i images) ++ v ∷ []) read
    ∙ sym (map-append version_read (take i images) (there.0 ∷ [])) ∙ sym (ap versions_of (take_at images i there.0 there.1))
