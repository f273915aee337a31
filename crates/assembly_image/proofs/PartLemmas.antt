-- The checks of an image in its four parts, each of which speaks of what those before it found.
use Rattle.std.proofs.Common.{◌≡◌, ℕ, zero, suc, get_or, ◌≤◌, ◌<◌, ◌^◌, nat_le, Bool, true, false, slice_index, List, [], ◌∷◌, ◌++◌, length, Option, Some, None, refl, sym, ap, subst, ◌∙◌, arith}
use Rattle.cli_words.specs.declared.check.FailedCheck.{FailedCheck}
use Rattle.std.proofs.lemmas.Bool.Decides.{nat_tests}
use Rattle.cli_words.specs.Check.{check, first_fault}
use Rattle.cli_words.specs.declared.check.CheckCode.{CheckCode}
use Rattle.cli_words.specs.declared.check.CheckCode.TheVariants as code
use Rattle.cli_words.specs.declared.span.Span.{Span}
use Rattle.cli_words.proofs.FirstFault.{Checks, first_fault-none, first_fault-some}
use Rattle.pe_image.specs.declared.pe.Pe.{Pe}
use Rattle.pe_image.specs.Checks.{pe_checks}
use Rattle.pe_image.specs.Reading.{pe_of}
use Rattle.meta_heaps.specs.declared.heap.Root.{Root}
use Rattle.meta_heaps.specs.Heaps.{IsWithin}
use Rattle.meta_heaps.specs.Reading.{root_checks, root_of}
use Rattle.metadata_tables.specs.declared.layout.Layout.{Layout}
use Rattle.metadata_tables.specs.Layout.{rows_end}
use Rattle.metadata_tables.specs.Reading.{layout_of, checks as stream_checks}
use Rattle.assembly_image.specs.Checks.{content_checks}
use Rattle.assembly_image.specs.Reading.{metadata_of, heaps_of, tables_of, image_checks}
use Rattle.assembly_image.specs.Image.{ArePartsOf}

-- none of checks in order fails, so no one does
none_at : (checks : Checks) (k : ℕ) → first_fault checks ≡ None → get_or checks k None ≡ None
none_at [] k e = refl
none_at (Some failed ∷ checks) k e = absurd (cc)
none_at (None ∷ checks) zero e = refl
none_at (None ∷ checks) (suc k) e = none_at checks k e

passes : (b : Bool) (code : CheckCode) (at : ℕ) → check b code at ≡ None → b ≡ true
passes true code at e = refl
passes false code at e = absurd (cc)

-- the stream of the tables has its head
pub head_there : (bytes : List ℕ) (metadata : Span) (root : Root)
    → (first_fault (root_checks bytes metadata) ≡ None) × (root ≡ root_of bytes metadata) → 24 ≤ root.tables.len
head_there bytes metadata root heaps =
    let test : nat_le 24 (root_of bytes metadata).tables.len ≡ true =
    passes (nat_le 24 (root_of bytes metadata).tables.len) code.NoTables metadata.at (none_at (root_checks bytes metadata) 5 heaps.0) in
    let long : 24 ≤ (root_of bytes metadata).tables.len = grind (arith, nat_tests) in
    subst (λ (r : Root). 24 ≤ r.tables.len) (sym heaps.1) long

module _ (bytes : List ℕ) where
  abbrev Told : Option FailedCheck → Type 0
  Told o = first_fault (image_checks bytes) ≡ o

  pub headers_fail : (fault : FailedCheck) → first_fault (pe_checks bytes) ≡ Some fault → Told (Some fault)
  headers_fail fault e = first_fault-some (pe_checks bytes) _ fault e

  module _ (pe : Pe) (headers : (first_fault (pe_checks bytes) ≡ None) × (pe ≡ pe_of bytes)) where
    abbrev pub metadata : Span
    metadata = record { at = pe.root_at; len = pe.root_len }

    same_metadata : metadata ≡ metadata_of bytes
    unfolding metadata_of
    same_metadata = ap (λ (p : Pe). let span : Span = record { at = p.root_at; len = p.root_len } in span) headers.1

    -- what the checks after the headers tell
    after_headers : (o : Option FailedCheck)
        → first_fault (root_checks bytes metadata ++ (stream_checks bytes (heaps_of bytes).tables ++ content_checks bytes (heaps_of bytes) (tables_of bytes))) ≡ o
        → Told o
    after_headers o e =
        first_fault-none (pe_checks bytes) _ headers.0
        ∙ subst (λ (span : Span). first_fault (root_checks bytes span ++ (stream_checks bytes (heaps_of bytes).tables ++ content_checks bytes (heaps_of bytes) (tables_of bytes))) ≡ o) same_metadata e

    pub heaps_fail : (fault : FailedCheck) → first_fault (root_checks bytes metadata) ≡ Some fault → Told (Some fault)
    heaps_fail fault e = after_headers (Some fault) (first_fault-some (root_checks bytes metadata) _ fault e)

    module _ (root : Root) (heaps : (first_fault (root_checks bytes metadata) ≡ None) × (root ≡ root_of bytes metadata)) where
      pub same_heaps : root ≡ heaps_of bytes
      unfolding heaps_of
      same_heaps = heaps.1 ∙ ap (root_of bytes) same_metadata

      after_heaps : (o : Option FailedCheck)
          → first_fault (stream_checks bytes root.tables ++ content_checks bytes root (tables_of bytes)) ≡ o → Told o
      after_heaps o e =
          after_headers o (first_fault-none (root_checks bytes metadata) _ heaps.0
          ∙ subst (λ (r : Root). first_fault (stream_checks bytes r.tables ++ content_checks bytes r (tables_of bytes)) ≡ o) same_heaps e)

      pub stream_fails : (fault : FailedCheck) → first_fault (stream_checks bytes root.tables) ≡ Some fault → Told (Some fault)
      stream_fails fault e = after_heaps (Some fault) (first_fault-some (stream_checks bytes root.tables) _ fault e)

      module _ (tables : Layout) (stream : (first_fault (stream_checks bytes root.tables) ≡ None) × (tables ≡ layout_of bytes root.tables.at)) where
        pub same_tables : tables ≡ tables_of bytes
        unfolding tables_of
        same_tables = stream.1 ∙ ap (λ (r : Root). layout_of bytes r.tables.at) same_heaps

        pub content_tells : (o : Option FailedCheck) → first_fault (content_checks bytes root tables) ≡ o → Told o
        content_tells o e =
            after_heaps o (first_fault-none (stream_checks bytes root.tables) _ stream.0
            ∙ subst (λ (t : Layout). first_fault (content_checks bytes root t) ≡ o) same_tables e)

        pub are_parts : IsWithin (length bytes) root → rows_end tables ≤ length bytes → ((i : ℕ) → slice_index bytes i < 2 ^ 8)
            → first_fault (content_checks bytes root tables) ≡ None → ArePartsOf bytes pe root tables
        are_parts within rows small passes = record {
          passes = content_tells None passes;
          headers = headers.1;
          heaps = same_heaps;
          streams = same_tables;
          inside = within;
          rows = rows;
          small = small;
          content = passes;
        }
