-- Bytes are read as what a module stands for, where each part of them is.
use Rattle.std.proofs.Common.{◌≡◌, ℕ, ◌+◌, ◌<◌, true, List, [], ◌∷◌, map, None, refl, sym, ap, subst, ◌∙◌, arith}
use Rattle.std.specs.List.{range_with_len}
use Rattle.cli_words.specs.Check.{check, first_fault}
use Rattle.cli_words.specs.declared.check.CheckCode.TheVariants as code
use Rattle.cli_words.proofs.FirstFault.{first_fault-none}
use Rattle.pe_image.specs.Checks.{pe_checks}
use Rattle.cli_words.specs.Span.{cut}
use Rattle.meta_heaps.specs.Reading.{root_checks}
use Rattle.metadata_tables.specs.Reading.{checks as stream_checks}
use Rattle.assembly_image.specs.Module as image
use Rattle.assembly_image.specs.Cells as cells
use Rattle.assembly_image.specs.Checks.{all_rows_checks, has_assembly}
use Rattle.assembly_image.specs.Reading.{Reads, image_checks, metadata_of, heaps_of, tables_of, module_of, module_in}
use Rattle.image_maker.specs.declared.module.Module.{Module}
use Rattle.image_maker.specs.Rows.{rows_of, image_of, held}
use Rattle.image_maker.proofs.RangeLemmas.{same_on_range}
use Rattle.image_maker.proofs.PassedChecks.{pass}

module _ (m : Module) (rva : ℕ → ℕ) (f : List ℕ)
    (headers : first_fault (pe_checks f) ≡ None)
    (root : first_fault (root_checks f (metadata_of f)) ≡ None)
    (stream : first_fault (stream_checks f (heaps_of f).tables) ≡ None)
    (content : first_fault (all_rows_checks f (heaps_of f) (tables_of f)) ≡ None)
    (assembly : has_assembly f (heaps_of f) (tables_of f) ≡ true)
    (rows : (t : ℕ) → t < 45 → cells.rows_of f (heaps_of f) (tables_of f) t ≡ map (map held) (rows_of m rva t))
    (user_strings : cut f (heaps_of f).user_strings ≡ m.user_strings)
    (guids : cut f (heaps_of f).guids ≡ m.guids)
  where
    assembly_passes : first_fault
        (check (has_assembly f (heaps_of f) (tables_of f)) code.NoAssembly (heaps_of f).tables.at ∷ []) ≡ None
    assembly_passes = pass _ code.NoAssembly (heaps_of f).tables.at [] assembly refl

    passes : first_fault (image_checks f) ≡ None
    passes =
        first_fault-none (pe_checks f) _ headers
        ∙ first_fault-none (root_checks f (metadata_of f)) _ root
        ∙ first_fault-none (stream_checks f (heaps_of f).tables) _ stream
        ∙ first_fault-none (all_rows_checks f (heaps_of f) (tables_of f)) _ content
        ∙ assembly_passes

    abbrev read : ℕ → List (List image.Cell)
    read = cells.rows_of f (heaps_of f) (tables_of f)

    abbrev own : ℕ → List (List image.Cell)
    own t = map (map held) (rows_of m rva t)

    same_rows : (i : ℕ) → i < 45 → own (0 + i) ≡ read (0 + i)
    same_rows i within =
        let same : i ≡ 0 + i = omega arith in
        subst (λ (k : ℕ). own k ≡ read k) same (sym (rows i within))

    same_tables : map own (range_with_len 0 45) ≡ map read (range_with_len 0 45)
    same_tables = same_on_range own read 0 45 same_rows

    abbrev held_as : List (List (List image.Cell)) → List ℕ → List ℕ → image.Module
    held_as tables user guid = record { tables = tables; user_strings = user; guids = guid }

    same_module : image_of m rva ≡ module_in f (heaps_of f) (tables_of f)
    same_module =
        ap (λ (ts : List (List (List image.Cell))). held_as ts m.user_strings m.guids) same_tables
        ∙ ap (λ (us : List ℕ). held_as (map read (range_with_len 0 45)) us m.guids) (sym user_strings)
        ∙ ap (λ (gs : List ℕ). held_as (map read (range_with_len 0 45)) (cut f (heaps_of f).user_strings) gs) (sym guids)

    pub reads_as : Reads f (image_of m rva)
    unfolding module_of
    reads_as = record { passes = passes; holds = same_module }
