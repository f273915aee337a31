-- The header of a section and a body without its clauses, as the reader sees them (ECMA-335
-- II.25.4).
use Rattle.std.specs.Prelude.{ℕ, ◌+◌, false, if◌then◌else◌, List, Option, Some, None}
use Rattle.std.specs.Int.{w16, w32}
use Rattle.cli_words.specs.Number.{number_at}
use Rattle.il_reader.specs.declared.body.Head.{Head}
use Rattle.il_reader.specs.declared.section.Section.{Section}
use Rattle.il_reader.specs.Sections.{is_wide, has_more, section_len}
use Rattle.il_reader.specs.Bodies.{tiny_stack, header_bytes, is_tiny, tiny_len, is_fat, fat_len, has_sections, inits_locals}

abbrev pub section_of : List ℕ → ℕ → Section
section_of bytes at = record {
  at = at;
  len = section_len bytes at;
  is_wide = is_wide bytes at;
  has_more = has_more bytes at;
}

abbrev pub tiny_head : List ℕ → ℕ → Head
tiny_head bytes at = record {
  max_stack = tiny_stack;
  init_locals = false;
  locals = 0;
  code = record { at = at + 1; len = tiny_len bytes at };
  has_sections = false;
}

abbrev pub fat_head : List ℕ → ℕ → Head
fat_head bytes at = record {
  max_stack = number_at w16 bytes (at + 2);
  init_locals = inits_locals bytes at;
  locals = number_at w32 bytes (at + 8);
  code = record { at = at + header_bytes; len = fat_len bytes at };
  has_sections = has_sections bytes at;
}

abbrev pub head_at : List ℕ → ℕ → Option Head
head_at bytes at =
    if is_tiny bytes at then Some (tiny_head bytes at)
    else (if is_fat bytes at then Some (fat_head bytes at) else None)
