-- Method bodies (ECMA-335 II.25.4.1 to II.25.4.4). A byte past the end of the bytes counts as 0; a
-- body stands whole only where they go on to its end.
use Rattle.std.specs.Prelude.{◌≡◌, ℕ, ◌+◌, ◌/◌, ◌%◌, ◌==◌, ◌&&◌, ◌⊎◌, Bool, false, IsTrue, not}
use Rattle.std.specs.Prelude.{nat_le, bit_and, List, [], length, slice_index}
use Rattle.std.specs.Int.{w16, w32}
use Rattle.cli_words.specs.Number.{number_at}
use Rattle.il_reader.specs.declared.fault.IlFault.{IlFault}
use Rattle.il_reader.specs.declared.fault.IlFault.TheVariants.{Bad, OutOfMemory}
use Rattle.il_reader.specs.declared.body.Body.{Body}
use Rattle.il_reader.specs.Sections.{AreSections, clauses_in}

-- the two lowest bits of the first byte of a tiny body, and of a fat one (II.25.4.1)
abbrev pub tiny_form : ℕ
tiny_form = 2

abbrev pub fat_form : ℕ
fat_form = 3

-- how many forms these bits tell apart
abbrev pub forms : ℕ
forms = 4

-- the maximum stack of a tiny body (II.25.4.2)
abbrev pub tiny_stack : ℕ
tiny_stack = 8

-- how many bytes the header of a fat body has, and how many words of four bytes (II.25.4.3)
abbrev pub header_bytes : ℕ
header_bytes = 12

abbrev pub header_words : ℕ
header_words = 3

-- what its length in words is multiplied by in its first two bytes
abbrev pub words_unit : ℕ
words_unit = 0x1000

-- the flags that say that sections follow the code, and that the locals begin as zeros and nulls (II.25.4.4)
abbrev pub more_sections : ℕ
more_sections = 8

abbrev pub init_locals_flag : ℕ
init_locals_flag = 0x10

-- the two lowest bits of the first byte tell the forms apart (II.25.4.1)
abbrev pub form_bits : List ℕ → ℕ → ℕ
form_bits bytes at = slice_index bytes at % forms

-- a tiny body's other six bits are how many bytes its code has, which follows (II.25.4.2)
abbrev pub tiny_len : List ℕ → ℕ → ℕ
tiny_len bytes at = slice_index bytes at / forms

abbrev pub tiny_end : List ℕ → ℕ → ℕ
tiny_end bytes at = at + 1 + tiny_len bytes at

abbrev pub is_tiny : List ℕ → ℕ → Bool
is_tiny bytes at = (form_bits bytes at == tiny_form) && nat_le (tiny_end bytes at) (length bytes)

abbrev pub tiny_body : List ℕ → ℕ → Body
tiny_body bytes at = record {
  max_stack = tiny_stack;
  init_locals = false;
  locals = 0;
  code = record { at = at + 1; len = tiny_len bytes at };
  clauses = [];
}

-- a fat body's header has twelve bytes (II.25.4.3). The first two are flags (II.25.4.4) and, in the
-- four highest bits, the header's length in words of four bytes
unfoldable pub flags_at : List ℕ → ℕ → ℕ
flags_at bytes at = number_at w16 bytes at

-- sections follow the code
abbrev pub has_sections : List ℕ → ℕ → Bool
has_sections bytes at = not (bit_and (flags_at bytes at) more_sections == 0)

-- the locals begin as zeros and nulls
abbrev pub inits_locals : List ℕ → ℕ → Bool
inits_locals bytes at = not (bit_and (flags_at bytes at) init_locals_flag == 0)

abbrev pub fat_len : List ℕ → ℕ → ℕ
fat_len bytes at = number_at w32 bytes (at + 4)

-- the place after the code, which follows the header
abbrev pub fat_end : List ℕ → ℕ → ℕ
fat_end bytes at = at + header_bytes + fat_len bytes at

abbrev pub has_fat_head : List ℕ → ℕ → Bool
has_fat_head bytes at =
    nat_le (at + header_bytes) (length bytes)
    && ((flags_at bytes at / words_unit == header_words) && nat_le (fat_end bytes at) (length bytes))

abbrev pub is_fat : List ℕ → ℕ → Bool
is_fat bytes at = (form_bits bytes at == fat_form) && has_fat_head bytes at

-- what a fat body says, whose sections stand at these places
abbrev pub fat_body : List ℕ → ℕ → List ℕ → Body
fat_body bytes at sections = record {
  max_stack = number_at w16 bytes (at + 2);
  init_locals = inits_locals bytes at;
  locals = number_at w32 bytes (at + 8);
  code = record { at = at + header_bytes; len = fat_len bytes at };
  clauses = clauses_in bytes sections;
}

abbrev pub IsTinyBody : List ℕ → ℕ → Body → Type 0
IsTinyBody bytes at body = IsTrue (is_tiny bytes at) × (body ≡ tiny_body bytes at)

-- a fat header with its code, and the sections that the header says follow
abbrev pub IsFatBody : List ℕ → ℕ → Body → Type 0
IsFatBody bytes at body =
    IsTrue (is_fat bytes at) × (sections : List ℕ)
    × AreSections bytes (has_sections bytes at) (fat_end bytes at) sections
    × (body ≡ fat_body bytes at sections)

-- a body stands whole at a place
abbrev pub IsBody : List ℕ → ℕ → Body → Type 0
IsBody bytes at body = IsTinyBody bytes at body ⊎ IsFatBody bytes at body

-- the fault that no body stands whole at a place, which it names; want of memory says nothing
abbrev pub HasNoBody : List ℕ → ℕ → IlFault → Type 0
HasNoBody bytes at (Bad place) = (place ≡ at) × ((body : Body) → ¬ IsBody bytes at body)
HasNoBody bytes at OutOfMemory = Unit {0}
