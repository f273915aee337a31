-- A file with these headers passes the checks on a PE file (ECMA-335 II.25).
use Rattle.std.proofs.Common.{◌≡◌, ℕ, ◌+◌, ◌-◌, ◌≤◌, true, List, ◌++◌, length, drop, Some, None, nat_le, ◌==◌, ◌||◌, is_some, bit_and, not, ap₂, refl, sym, ap, ◌∙◌, arith, le-leb}
use Rattle.std.specs.Int.{w32, from_le_bytes}
use Rattle.std.proofs.lemmas.List.{drop-drop}
use Rattle.cli_words.specs.declared.check.CheckCode.TheVariants as code
use Rattle.cli_words.specs.Check.{first_fault}
use Rattle.cli_words.specs.Number.{number_at}
use Rattle.cli_words.proofs.FirstFault.{first_fault-none}
use Rattle.pe_image.specs.Section as section
use Rattle.pe_image.specs.Layout as layout
use Rattle.pe_image.specs.Checks.{header_checks, optional_checks, cli_checks, metadata_checks, pe_checks}
use Rattle.pe_image.specs.Reading.{pe_of}
use Rattle.image_maker.specs.File.{round_up}
use Rattle.image_maker.proofs.FilePlacesHeaders.{HasHeaders, HasCliHeader}
use Rattle.image_maker.proofs.PassedChecks.{pass}

module _ (text : ℕ) (bytes : List ℕ) (h : HasHeaders text bytes)
    (long : 0x600 + round_up 512 text ≤ length bytes) where
  pub signature_is : layout.signature_place bytes ≡ 0x80
  unfolding layout.signature_place
  signature_is = h.signature

  magic_is : layout.magic bytes 0x80 ≡ 0x10B
  magic_is = h.magic

  directory_is : layout.directory_place bytes 0x80 ≡ 360
  unfolding layout.directory_place
  directory_is = rw magic_is refl

  first_is : section.sections_place bytes 0x80 ≡ 376
  first_is = rw h.optional_size refl

  count_is : section.section_count bytes 0x80 ≡ 3
  count_is = h.sections

  -- bytes of memory that the section of code has
  module _ (rva len : ℕ) (from : 0x2000 ≤ rva) (to : rva + len ≤ 0x2000 + round_up 512 text) where
    held : section.holds bytes rva len 376 ≡ true
    held =
        rw (
          h.first.in_memory,
          h.first.long,
          le-leb (376 + 40) (length bytes) (omega arith),
          le-leb 0x2000 rva from,
          le-leb (rva + len) (0x2000 + round_up 512 text) to,
        ) refl

    pub text_span : section.span_of bytes 376 3 rva len ≡ Some (record { at = 0x200 + (rva - 0x2000); len = len })
    text_span = rw held (rw (h.first.in_memory, h.first.in_file) refl)

  header_pass : first_fault (header_checks bytes) ≡ None
  unfolding header_checks
  header_pass = rw signature_is (
      pass _ code.Cut _ _ (le-leb 2 (length bytes) (omega arith))
      (pass _ code.NoMz _ _ h.begins
      (pass _ code.Cut _ _ (le-leb 0x40 (length bytes) (omega arith))
      (pass _ code.Cut _ _ (le-leb (0x80 + 24) (length bytes) (omega arith))
      (pass _ code.NoPe _ _ h.signed refl)))))

  optional_length_is : layout.optional_length bytes 0x80 ≡ 216
  optional_length_is = rw magic_is refl

  directory_count_is : layout.directory_count_place bytes 0x80 ≡ 244
  directory_count_is = rw magic_is refl

  optional_pass : first_fault (optional_checks bytes 0x80) ≡ None
  unfolding optional_checks
  optional_pass =
      let goes = λ (n : ℕ). nat_le (152 + n) (length bytes) in
      let there = λ (at : ℕ). not (number_at w32 bytes at == 0) in
      pass _ code.Cut _ _ (le-leb 154 (length bytes) (omega arith))
      (pass _ code.Magic _ _ (ap (λ form. (form == 0x10B) || (form == 0x20B)) magic_is)
      (pass _ code.NoCli _ _ (ap₂ nat_le optional_length_is h.optional_size)
      (pass _ code.Cut _ _ (ap goes optional_length_is ∙ le-leb 368 (length bytes) (omega arith))
      (pass _ code.NoCli _ _ (ap (λ at. nat_le 15 (number_at w32 bytes at)) directory_count_is ∙ ap (nat_le 15) h.directories)
      (pass _ code.NoCli _ _ (ap there directory_is ∙ ap (λ rva. not (rva == 0)) h.directory) refl)))))

  -- the CLI header at the beginning of the section of code
  module _ (rva len : ℕ) (c : HasCliHeader (drop 0x200 bytes) rva len) (above : 72 ≤ text) (from : 0x2000 ≤ rva)
      (to : rva + len ≤ 0x2000 + round_up 512 text) where
    moved : (k : ℕ) → number_at w32 bytes (0x200 + k) ≡ number_at w32 (drop 0x200 bytes) k
    moved k = ap (from_le_bytes w32) (sym (drop-drop k 0x200 bytes))

    cli_header_is : layout.cli_header bytes 376 3 360 ≡ Some (record { at = 0x200; len = 24 })
    cli_header_is = rw h.directory (text_span 0x2000 24 (omega arith) (omega arith))

    cli_is : layout.cli_place bytes 376 3 360 ≡ 0x200
    unfolding layout.cli_place
    cli_is = ap (λ span. (layout.found span).at) cli_header_is

    metadata_is : layout.metadata bytes 376 3 0x200 ≡ Some (record { at = 0x200 + (rva - 0x2000); len = len })
    unfolding layout.metadata
    metadata_is =
        let begins : number_at w32 bytes (0x200 + 8) ≡ rva = moved 8 ∙ c.metadata_rva in
        let counts : number_at w32 bytes (0x200 + 12) ≡ len = moved 12 ∙ c.metadata_len in
        rw (begins, counts) (text_span rva len from to)

    cli_pass : first_fault (cli_checks bytes 376 3 360) ≡ None
    unfolding cli_checks
    cli_pass =
        pass _ code.Cut _ _ (le-leb 496 (length bytes) (omega arith))
        (pass _ code.Outside _ _ (ap is_some cli_header_is) refl)

    metadata_pass : first_fault (metadata_checks bytes 376 3 0x200) ≡ None
    unfolding metadata_checks
    metadata_pass =
        let flags : number_at w32 bytes (0x200 + 16) ≡ 1 = moved 16 ∙ c.flags in
        pass _ code.Cut _ _ (le-leb 536 (length bytes) (omega arith))
        (pass _ code.NotIlOnly _ _ (ap (λ flags. bit_and flags 1 == 1) flags)
        (pass _ code.Outside _ _ (ap is_some metadata_is) refl))

    stages : first_fault (header_checks bytes ++ (optional_checks bytes 0x80
        ++ (cli_checks bytes 376 3 360 ++ metadata_checks bytes 376 3 0x200))) ≡ None
    stages =
        first_fault-none (header_checks bytes) _ header_pass
        ∙ first_fault-none (optional_checks bytes 0x80) _ optional_pass
        ∙ first_fault-none (cli_checks bytes 376 3 360) _ cli_pass ∙ metadata_pass

    pub checks_pass : first_fault (pe_checks bytes) ≡ None
    checks_pass = rw (signature_is, first_is, count_is, directory_is, cli_is) stages

    pub pe_is : pe_of bytes
        ≡ record { sections_at = 376; sections = 3; root_at = 0x200 + (rva - 0x2000); root_len = len }
    pe_is = rw (signature_is, first_is, count_is, directory_is, cli_is, metadata_is) refl
