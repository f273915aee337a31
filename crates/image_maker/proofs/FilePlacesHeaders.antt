-- The fields of the headers of a file, each at its place (ECMA-335 II.25.2, II.25.3).
use Rattle.std.proofs.Common.{◌≡◌, ℕ, ◌+◌, ◌<◌, ◌^◌, true, List, [], ◌∷◌, ◌++◌, take, drop, replicate, refl, arith}
use Rattle.std.proofs.lemmas.Nat.{from_le_bytes-to_le_bytes_4}
use Rattle.std.specs.Prelude.{codes, nat_eq}
use Rattle.std.specs.List.{starts_with}
use Rattle.std.specs.Int.{w16, w32}
use Rattle.cli_words.specs.Number.{number_at}
use Rattle.pe_image.specs.Section as section
use Rattle.image_maker.specs.File.{file_headers, cli_header, second_address, round_up}

-- the header of a section stands at a place
pub record HasSection (bytes : List ℕ) (header : ℕ) (name : List ℕ) (address size place : ℕ) : Type 0 where
  pub named : take 8 (drop header bytes) ≡ name
  pub in_memory : section.address bytes header ≡ address
  pub long : section.size bytes header ≡ size
  pub in_file : section.place bytes header ≡ place

-- the headers of the three sections, where that of code has this many bytes
abbrev pub IsTextHeader : ℕ → List ℕ → ℕ → Type 0
IsTextHeader text bytes header =
    HasSection bytes header (codes ".text" ++ replicate 3 0) 0x2000 (round_up 512 text) 0x200

abbrev pub IsSecondHeader : ℕ → List ℕ → ℕ → Type 0
IsSecondHeader text bytes header =
    HasSection bytes header (codes ".rsrc" ++ replicate 3 0) (second_address text) 512 (0x200 + round_up 512 text)

abbrev pub IsThirdHeader : ℕ → List ℕ → ℕ → Type 0
IsThirdHeader text bytes header =
    HasSection bytes header (codes ".reloc" ++ replicate 2 0) (second_address text + 0x2000) 512
    (0x400 + round_up 512 text)

-- what the headers say of a file
pub record HasHeaders (text : ℕ) (bytes : List ℕ) : Type 0 where
  pub begins : starts_with nat_eq bytes (codes "MZ") ≡ true
  pub signature : number_at w32 bytes 0x3C ≡ 0x80
  pub signed : starts_with nat_eq (drop 0x80 bytes) (0x50 ∷ 0x45 ∷ 0 ∷ 0 ∷ []) ≡ true
  pub sections : number_at w16 bytes 0x86 ≡ 3
  pub optional_size : number_at w16 bytes 0x94 ≡ 224
  pub magic : number_at w16 bytes 0x98 ≡ 0x10B
  pub directories : number_at w32 bytes 244 ≡ 16
  pub directory : number_at w32 bytes 360 ≡ 0x2000
  pub first : IsTextHeader text bytes 376
  pub second : IsSecondHeader text bytes 416
  pub third : IsThirdHeader text bytes 456

module _ (text : ℕ) (fits : text < 2 ^ 31) (rest : List ℕ) where
  pub headers_read : HasHeaders text (file_headers text ++ rest)
  headers_read = record {
    begins = refl;
    signature = refl;
    signed = refl;
    sections = refl;
    optional_size = refl;
    magic = refl;
    directories = refl;
    directory = refl;
    first = record {
      named = refl;
      in_memory = refl;
      long = from_le_bytes-to_le_bytes_4 (round_up 512 text) (omega arith);
      in_file = refl;
    };
    second = record {
      named = refl;
      in_memory = from_le_bytes-to_le_bytes_4 (second_address text) (omega arith);
      long = refl;
      in_file = from_le_bytes-to_le_bytes_4 (0x200 + round_up 512 text) (omega arith);
    };
    third = record {
      named = refl;
      in_memory = from_le_bytes-to_le_bytes_4 (second_address text + 0x2000) (omega arith);
      long = refl;
      in_file = from_le_bytes-to_le_bytes_4 (0x400 + round_up 512 text) (omega arith);
    };
  }

-- what the CLI header says, at a place
pub record HasCliHeader (bytes : List ℕ) (rva len : ℕ) : Type 0 where
  pub metadata_rva : number_at w32 bytes 8 ≡ rva
  pub metadata_len : number_at w32 bytes 12 ≡ len
  pub flags : number_at w32 bytes 16 ≡ 1

pub cli_header_read : (rva len : ℕ) (rest : List ℕ) → rva < 2 ^ 32 → len < 2 ^ 32
    → HasCliHeader (cli_header rva len ++ rest) rva len
cli_header_read rva len rest rva_fits len_fits = record {
  metadata_rva = from_le_bytes-to_le_bytes_4 rva rva_fits;
  metadata_len = from_le_bytes-to_le_bytes_4 len len_fits;
  flags = refl;
}
