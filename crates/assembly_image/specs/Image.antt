-- What is kept of an image: its bytes, and what was read off them (own).
use Rattle.std.specs.Prelude.{◌≡◌, ℕ, ◌+◌, ◌-◌, ◌^◌, ◌<◌, ◌≤◌, ◌==◌, if◌then◌else◌, List, length, slice_get, slice_index, Some, None, unwrap_or}
use Rattle.std.specs.List.{find}
use Rattle.std.specs.Option.{option_and_then}
use Rattle.cli_words.specs.Check.{first_fault}
use Rattle.assembly_name.specs.declared.version.Version.{Version}
use Rattle.pe_image.specs.declared.pe.Pe.{Pe}
use Rattle.pe_image.specs.Reading.{pe_of}
use Rattle.meta_heaps.specs.declared.heap.Root.{Root}
use Rattle.meta_heaps.specs.Heaps.{IsWithin}
use Rattle.metadata_tables.specs.declared.layout.Layout.{Layout}
use Rattle.metadata_tables.specs.Tables as tables
use Rattle.metadata_tables.specs.Layout.{rows_end}
use Rattle.assembly_image.specs.Module.{Module, count, number}
use Rattle.assembly_image.specs.Names.{assembly_name, assembly_version, encloser, encloser_before}
use Rattle.assembly_image.specs.declared.index.Belongs.TheVariants.{Interface, Implementation, Parameter}
use Rattle.assembly_image.specs.declared.index.RowIndex.{RowIndex}
use Rattle.assembly_image.specs.Index.{IsIndexed}
use Rattle.assembly_image.specs.Cells.{value_at}
use Rattle.assembly_image.specs.Checks.{content_checks}
use Rattle.assembly_image.specs.Reading.{heaps_of, tables_of, image_checks, module_of}

-- the parts of an image that passes the checks
pub record ArePartsOf (bytes : List ℕ) (pe : Pe) (root : Root) (tables : Layout) : Type 0 where
  pub passes : first_fault (image_checks bytes) ≡ None
  pub headers : pe ≡ pe_of bytes
  pub heaps : root ≡ heaps_of bytes
  pub streams : tables ≡ tables_of bytes
  pub inside : IsWithin (length bytes) root
  pub rows : rows_end tables ≤ length bytes
  pub small : (i : ℕ) → slice_index bytes i < 2 ^ 8
  pub content : first_fault (content_checks bytes root tables) ≡ None

-- the four parts of the assembly's version
abbrev pub version_in : List ℕ → Layout → Version
version_in bytes layout = record {
  major = value_at bytes layout tables.assembly 1 tables.assembly_major;
  minor = value_at bytes layout tables.assembly 1 tables.assembly_minor;
  build = value_at bytes layout tables.assembly 1 tables.assembly_build;
  revision = value_at bytes layout tables.assembly 1 tables.assembly_revision;
}

-- the encloser that the first of these rows of NestedClass which names the type gives it, or 0
abbrev pub outer_among : Module → ℕ → List ℕ → ℕ
outer_among m row ns =
    unwrap_or (option_and_then (λ n. encloser_before row (number m tables.nested_class n tables.nested_class_enclosing))
    (find (λ n. number m tables.nested_class n tables.nested_class_nested == row) ns)) 0

-- the enclosers that these rows give to as many types
pub record AreOuter (m : Module) (ns outer : List ℕ) : Type 0 where
  pub long : length outer ≡ count m tables.type_def
  pub each : (row : ℕ) → row < count m tables.type_def → slice_index outer row ≡ outer_among m (row + 1) ns

-- one more row of NestedClass counts before those that were counted
pub record IsEnclosed (old new : List ℕ) (nested enclosing : ℕ) : Type 0 where
  pub long : length new ≡ length old
  pub each : (row : ℕ) → row < length old → slice_index new row
      ≡ (if nested == row + 1 then unwrap_or (encloser_before (row + 1) enclosing) 0 else slice_index old row)

-- the encloser of each type, or 0
abbrev pub AreEnclosers : List ℕ → List ℕ → Type 0
AreEnclosers bytes enclosers = let m = module_of bytes in
    (row : ℕ) → row < count m tables.type_def → slice_get enclosers row ≡ Some (unwrap_or (encloser m (row + 1)) 0)

-- what is read off the parts
pub record IsRestOf (bytes name : List ℕ) (version : Version) (enclosers : List ℕ)
    (interfaces implementations parameters : RowIndex) : Type 0 where
  pub named : name ≡ assembly_name (module_of bytes)
  pub versioned : version ≡ assembly_version (module_of bytes)
  pub enclosed : AreEnclosers bytes enclosers
  pub by_interface : IsIndexed (module_of bytes) Interface interfaces
  pub by_implementation : IsIndexed (module_of bytes) Implementation implementations
  pub by_parameter : IsIndexed (module_of bytes) Parameter parameters

pub record IsImage (bytes : List ℕ) (pe : Pe) (root : Root) (tables : Layout)
    (name : List ℕ) (version : Version) (enclosers : List ℕ)
    (interfaces implementations parameters : RowIndex) : Type 0 where
  pub short : length bytes < 2 ^ 32 - 1
  pub parts : ArePartsOf bytes pe root tables
  pub rest : IsRestOf bytes name version enclosers interfaces implementations parameters
