-- The sections of a file with these headers (ECMA-335 II.25.3).
use Rattle.std.proofs.Common.{◌≡◌, ℕ, ◌+◌, ◌-◌, ◌*◌, ◌≤◌, List, length, take, drop, replicate, sym, ap, ap₂, subst, ◌∙◌, arith}
use Rattle.std.proofs.lemmas.List.{take-replicate, drop-replicate, drop-drop}
use Rattle.pe_image.specs.Section as section
use Rattle.pe_image.specs.Layout.{magic}
use Rattle.pe_image.specs.Reading.{pe_of}
use Rattle.image_maker.specs.File.{round_up}
use Rattle.image_maker.specs.Made.{HasSections, IsBefore, header_at, section_bytes}
use Rattle.image_maker.proofs.FilePlacesHeaders.{HasHeaders, IsTextHeader, IsSecondHeader, IsThirdHeader}
use Rattle.image_maker.proofs.FilePlacesChecks.{signature_is}

module _ (text : ℕ) (bytes : List ℕ) (h : HasHeaders text bytes) (long : length bytes ≡ 0x600 + round_up 512 text)
    (first : (pe_of bytes).sections_at ≡ 376) (three : (pe_of bytes).sections ≡ 3)
    (empty : drop (0x200 + round_up 512 text) bytes ≡ replicate 1024 0) where
  place_is : (n : ℕ) → header_at bytes n ≡ 376 + 40 * n
  place_is n = ap (λ at. at + 40 * n) first

  empty_part : (n at : ℕ) → section.size bytes (header_at bytes n) ≡ 512
      → section.place bytes (header_at bytes n) ≡ 0x200 + round_up 512 text + at → at ≤ 512
      → section_bytes bytes n ≡ replicate 512 0
  empty_part n at e f within =
      ap₂ (λ size place. take size (drop place bytes)) e f
      ∙ ap (take 512)
      (sym (drop-drop at (0x200 + round_up 512 text) bytes) ∙ ap (drop at) empty ∙ drop-replicate at 1024 0)
      ∙ take-replicate 512 (1024 - at) 0 (omega arith)

  abbrev text_section : IsTextHeader text bytes (header_at bytes 0)
  text_section = subst (IsTextHeader text bytes) (sym (place_is 0)) h.first

  abbrev second_section : IsSecondHeader text bytes (header_at bytes 1)
  second_section = subst (IsSecondHeader text bytes) (sym (place_is 1)) h.second

  abbrev third_section : IsThirdHeader text bytes (header_at bytes 2)
  third_section = subst (IsThirdHeader text bytes) (sym (place_is 2)) h.third

  second_follows : IsBefore bytes 0 1
  second_follows = record {
    file = rw (text_section.in_file, text_section.long, second_section.in_file) (omega arith);
    memory = rw (text_section.in_memory, text_section.long, second_section.in_memory) (omega arith);
  }

  third_follows : IsBefore bytes 1 2
  third_follows = record {
    file = rw (second_section.in_file, second_section.long, third_section.in_file) (omega arith);
    memory = rw (second_section.in_memory, second_section.long, third_section.in_memory) (omega arith);
  }

  pub has_sections : HasSections bytes
  has_sections = record {
    form = ap (magic bytes) (signature_is text bytes h (omega (arith, long))) ∙ h.magic;
    count = three;
    first = text_section.named;
    second = second_section.named;
    third = third_section.named;
    second_is_empty = empty_part 1 0 second_section.long (second_section.in_file ∙ omega arith) (omega arith);
    third_is_empty = empty_part 2 512 third_section.long (third_section.in_file ∙ omega arith) (omega arith);
    second_follows = second_follows;
    third_follows = third_follows;
    ends = rw (third_section.in_file, third_section.long, long) (omega arith);
  }
