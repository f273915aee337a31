-- What a file reads as.
use Rattle.std.proofs.Common.{◌≡◌, ℕ, zero, suc, ◌+◌, ◌<◌, ◌≤◌, List, ◌∷◌, [], ◌++◌, length, take, Option, Some, None, IfSome, inl, inr, refl, sym, ◌∙◌, ap, subst, arith, lt-ltb, le-ltb}
use Rattle.std.specs.Prelude.{IsSomeAnd}
use Rattle.std.specs.List.{slice_get}
use Rattle.plug_io.specs.Faults.{HasRisen}
use Rattle.std.proofs.lemmas.Option.{IfSome_then}
use Rattle.plug_io.specs.Files.{held_at}
use Rattle.assembly_image.specs.Module.{Module}
use Rattle.assembly_image.specs.Names.{assembly_version}
use Rattle.assembly_image.specs.Reading.{FileReading, Reads, file_reading, image_limit, module_of, reading_by, reading_of}
use Rattle.assembly_image.specs.Reading.FileReading.{Good, TooLong}
use Rattle.host_script.specs.declared.images.ImageLine.{ImageLine}
use Rattle.host_script.specs.Images.{line_at}
use Rattle.host_script.specs.Worded.{IsWordedVersion}
use Rattle.alc_program.specs.declared.status.Status.{Status}
use Rattle.alc_program.specs.declared.status.Status.TheVariants.{Done, Usage, Script as NoScript, ReadFault, WriteFault, OutOfMemory}
use Rattle.alc_program.specs.Headline.{During, IsUnread}
use Rattle.alc_program.specs.Images.{AreRead, HasWordedVersion}
use Rattle.alc_program.specs.Inspect.{ReadsAs}
use Rattle.alc_program.proofs.FilesLemmas.{line_next, some_at, take_at}

-- bytes that are an image
pub reads_good : (bytes image : List ℕ) → image ≡ bytes → length bytes ≤ image_limit → Reads image (module_of image) → Good (module_of image) ≡ reading_of bytes
reads_good bytes image same short reads =
    let told : Reads bytes (module_of bytes) = subst (λ (b : List ℕ). Reads b (module_of b)) same reads in
    let good : Good (module_of bytes) ≡ reading_of bytes =
    rw (le-ltb image_limit (length bytes) short) (ap (reading_by bytes) (sym told.passes)) in
    ap (λ (b : List ℕ). Good (module_of b)) same ∙ good

-- bytes that were found
pub reads_bytes : (held : Option (List (List ℕ × List ℕ))) (file bytes : List ℕ) (reading : FileReading) →
    IfSome held (λ entries. (held_at entries file ≡ Some bytes) × (length bytes ≤ image_limit)) → reading ≡ reading_of bytes → ReadsAs held file reading
reads_bytes held file bytes reading told same = record {
  content = Some bytes;
  read = same;
  found = IfSome_then held told (λ entries there. there.0);
}

-- some bytes that are longer
longer : (n : ℕ) → (bytes : List ℕ) × (n < length bytes)
longer zero = (0 ∷ [], omega arith)
longer (suc n) = let rest = longer n in (0 ∷ rest.0, omega (arith, rest.1))

too_long : (bytes : List ℕ) → image_limit < length bytes → TooLong ≡ reading_of bytes
too_long bytes long = rw (lt-ltb image_limit (length bytes) long) refl

too_long_content : (content : Option (List ℕ)) → IsSomeAnd content (λ bytes. image_limit < length bytes) → TooLong ≡ file_reading content
too_long_content (Some bytes) long = too_long bytes long
too_long_content None long = absurd long

-- a file that is too long: where the files do not tell what they hold, it may hold any such bytes
pub reads_too_long : (held : Option (List (List ℕ × List ℕ))) (file : List ℕ) →
    IfSome held (λ entries. IsSomeAnd (held_at entries file) (λ bytes. image_limit < length bytes)) → ReadsAs held file TooLong
reads_too_long None file told =
    let long = longer image_limit in
    record { content = Some long.0; read = too_long long.0 long.1; found = tt }
reads_too_long (Some entries) file told = record {
  content = held_at entries file;
  read = too_long_content (held_at entries file) told;
  found = refl;
}

-- the file of a line reads so
pub record ReadsLine (held : Option (List (List ℕ × List ℕ))) (line : ImageLine) (reading : FileReading) : Type 0 where
  pub reads : ReadsAs held line.path reading
  pub version : HasWordedVersion reading

-- each file reads so
abbrev pub AllRead : Option (List (List ℕ × List ℕ)) → List (List ℕ × ImageLine) → List FileReading → Type 0
AllRead held [] [] = Unit {0}
AllRead held [] (reading ∷ readings) = ⊥
AllRead held (line ∷ lines) [] = ⊥
AllRead held (line ∷ lines) (reading ∷ readings) = ReadsLine held line.1 reading × AllRead held lines readings

AllRead-push : (held : Option (List (List ℕ × List ℕ))) (lines : List (List ℕ × ImageLine)) (images : List FileReading)
    (line : List ℕ × ImageLine) (reading : FileReading) → AllRead held lines images → ReadsLine held line.1 reading →
    AllRead held (lines ++ line ∷ []) (images ++ reading ∷ [])
AllRead-push held [] [] line reading read here = (here, tt)
AllRead-push held [] (r ∷ rs) line reading read here = absurd read
AllRead-push held (l ∷ ls) [] line reading read here = absurd read
AllRead-push held (l ∷ ls) (r ∷ rs) line reading read here = (read.0, AllRead-push held ls rs line reading read.1 here)

pub all_counted : (held : Option (List (List ℕ × List ℕ))) (lines : List (List ℕ × ImageLine)) (images : List FileReading) →
    AllRead held lines images → length images ≡ length lines
all_counted held [] [] read = refl
all_counted held [] (r ∷ rs) read = absurd read
all_counted held (l ∷ ls) [] read = absurd read
all_counted held (l ∷ ls) (r ∷ rs) read = ap suc (all_counted held ls rs read.1)

all_each : (held : Option (List (List ℕ × List ℕ))) (lines : List (List ℕ × ImageLine)) (images : List FileReading) → AllRead held lines images →
    (i : ℕ) (line : List ℕ × ImageLine) (reading : FileReading) → slice_get lines i ≡ Some line → slice_get images i ≡ Some reading →
    ReadsAs held line.1.path reading
all_each held [] images read i line reading at_line at_image = cc
all_each held (l ∷ ls) [] read i line reading at_line at_image = absurd read
all_each held (l ∷ ls) (r ∷ rs) read zero line reading at_line at_image =
    let here = read.0.reads in
    let same : l ≡ line = cc in
    let alike : r ≡ reading = cc in
    subst (λ (x : List ℕ × ImageLine). ReadsAs held x.1.path reading) same (subst (ReadsAs held l.1.path) alike here)
all_each held (l ∷ ls) (r ∷ rs) read (suc i) line reading at_line at_image = all_each held ls rs read.1 i line reading at_line at_image

all_versions : (held : Option (List (List ℕ × List ℕ))) (lines : List (List ℕ × ImageLine)) (images : List FileReading) → AllRead held lines images →
    (i : ℕ) (m : Module) → slice_get images i ≡ Some (Good m) → IsWordedVersion (assembly_version m)
all_versions held lines [] read i m at_image = cc
all_versions held [] (r ∷ rs) read i m at_image = absurd read
all_versions held (l ∷ ls) (r ∷ rs) read zero m at_image =
    let here = read.0.version in let same : r ≡ Good m = cc in subst HasWordedVersion same here
all_versions held (l ∷ ls) (r ∷ rs) read (suc i) m at_image = all_versions held ls rs read.1 i m at_image

pub all_are_read : (held : Option (List (List ℕ × List ℕ))) (lines : List (List ℕ × ImageLine)) (images : List FileReading) →
    AllRead held lines images → AreRead held lines images
all_are_read held lines images read = record {
  count = all_counted held lines images read;
  each = all_each held lines images read;
  versions = all_versions held lines images read;
}

-- the images of the first lines, and of one more
pub read_next : (held : Option (List (List ℕ × List ℕ))) (lines : List (List ℕ × ImageLine)) (i : ℕ) (images : List FileReading)
    (line : ImageLine) (reading : FileReading) → i < length lines → AllRead held (take i lines) images →
    Some line ≡ line_at lines (i + 1) → ReadsAs held line.path reading → HasWordedVersion reading →
    AllRead held (take (i + 1) lines) (images ++ reading ∷ [])
read_next held lines i images line reading within read here reads version =
    let there = some_at lines i within in
    let same : line ≡ there.0.1 = let is = here ∙ line_next lines i there.0 there.1 in cc in
    subst (λ ls. AllRead held ls (images ++ reading ∷ [])) (sym (take_at lines i there.0 there.1))
    (AllRead-push held (take i lines) images there.0 reading read
    (subst (λ (l : ImageLine). ReadsLine held l reading) same (record { reads = reads; version = version })))

-- there is a line for each image
pub line_there : (lines : List (List ℕ × ImageLine)) (i : ℕ) → i < length lines → line_at lines (i + 1) ≡ None → ⊥
line_there lines i within none = let there = some_at lines i within in let is = line_next lines i there.0 there.1 in cc

risen_later : (a b c : ℕ) → a ≤ b → HasRisen b c → HasRisen a c
risen_later a b c less (inl rose) = inl (omega arith)
risen_later a b c less (inr last) = inr last

-- what was not read later was not read
pub unread_later : (early late : During (List (List ℕ × List ℕ))) (status : Status) → early.faults_before ≤ late.faults_before →
    late.faults_after ≡ early.faults_after → IsUnread late status → IsUnread early status
unread_later early late Done less same is = absurd is
unread_later early late Usage less same is = absurd is
unread_later early late (NoScript line cause) less same is = absurd is
unread_later early late ReadFault less same is =
    subst (HasRisen early.faults_before) same (risen_later early.faults_before late.faults_before late.faults_after less is)
unread_later early late WriteFault less same is = absurd is
unread_later early late OutOfMemory less same is = tt

pub unread_memory : (files : During (List (List ℕ × List ℕ))) (status : Status) → status ≡ OutOfMemory → IsUnread files status
unread_memory files status is = subst (IsUnread files) (sym is) tt
