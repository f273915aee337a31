-- Where the parts of a file stand that is made of a module (ECMA-335 II.24.2.1, II.24.2.2, II.24.2.6, II.25).
-- That the sections are these, and the order of all parts, is own.
use Rattle.std.specs.Prelude.{ℕ, ◌+◌, ◌-◌, ◌*◌, ◌/◌, ◌^◌, nat_lt, Option, Some, None, option_and_then, slice_get, List, [], ◌∷◌, ◌++◌, filter, length, take, codes, replicate}
use Rattle.std.specs.Int.{w16, w32, w64, to_le_bytes}
use Rattle.std.specs.List.{flat_map, range_with_len, sum_by}
use Rattle.image_maker.specs.declared.module.MethodRow.{MethodRow}

abbrev pub half : ℕ → List ℕ
half value = to_le_bytes w16 value

abbrev pub long : ℕ → List ℕ
long value = to_le_bytes w32 value

abbrev pub zeros : ℕ → List ℕ
zeros count = replicate count 0

-- the least multiple of a unit that is not below a number
abbrev pub round_up : ℕ → ℕ → ℕ
round_up unit n = (n + (unit - 1)) / unit * unit

-- bytes, and zeros up to a multiple of a unit
abbrev pub padded : ℕ → List ℕ → List ℕ
padded unit bytes = bytes ++ zeros (round_up unit (length bytes) - length bytes)

-- a stream: its name and its bytes
abbrev pub Stream : Type 0
Stream = List ℕ × List ℕ

-- the header of a stream that begins at a place: its name ends with one to four zeros (II.24.2.2)
abbrev pub stream_header : ℕ → Stream → List ℕ
stream_header place stream =
    long place ++ (long (length stream.1) ++ padded 4 (stream.0 ++ 0 ∷ []))

-- the headers of streams that stand one after the other from a place on
abbrev pub stream_headers : ℕ → List Stream → List ℕ
stream_headers place [] = []
stream_headers place (stream ∷ streams) =
    stream_header place stream ++ stream_headers (place + round_up 4 (length stream.1)) streams

-- how many bytes the headers of streams take
abbrev pub headers_len : List Stream → ℕ
headers_len streams = sum_by (λ s. 8 + round_up 4 (length s.0 + 1)) streams

-- the root (II.24.2.1): signature, versions, the reader's version in 12 bytes, flags, the count of streams, then the
-- headers and the streams, each from a multiple of four on
abbrev pub root_bytes : List Stream → List ℕ
root_bytes streams =
    (0x42 ∷ 0x53 ∷ 0x4A ∷ 0x42 ∷ []) ++ (half 1 ++ (half 1 ++ (long 0 ++ (long 12
    ++ (codes "v4.0.30319" ++ (zeros 2 ++ (half 0 ++ (half (length streams)
    ++ (stream_headers (32 + headers_len streams) streams
    ++ flat_map (λ s. padded 4 s.1) streams)))))))))

-- the tables that have rows, and their bits
abbrev pub present : (ℕ → ℕ) → List ℕ
present counts = filter (λ table. nat_lt 0 (counts table)) (range_with_len 0 45)

abbrev pub bits_of : List ℕ → ℕ
bits_of tables = sum_by (λ table. 2 ^ table) tables

-- the stream of tables with these counts (II.24.2.6): reserved, version 2.0, indexes of four bytes into all heaps,
-- 1, the tables that are present, none of them said to be sorted, their counts, the rows
abbrev pub tables_bytes : (ℕ → ℕ) → List ℕ → List ℕ
tables_bytes counts rows =
    long 0 ++ ((2 ∷ 0 ∷ 7 ∷ 1 ∷ []) ++ (to_le_bytes w64 (bits_of (present counts)) ++ (to_le_bytes w64 0
    ++ (flat_map (λ table. long (counts table)) (present counts) ++ rows))))

-- the five streams that a reader knows
abbrev pub known_parts : (tables strings user_strings guids blobs : List ℕ) → List Stream
known_parts tables strings user_strings guids blobs =
    (codes "#~", tables) ∷ (codes "#Strings", strings) ∷ (codes "#US", user_strings) ∷ (codes "#GUID", guids)
    ∷ (codes "#Blob", blobs) ∷ []

-- the bodies of methods, each from a multiple of four on
abbrev pub body_bytes : Option (List ℕ) → List ℕ
body_bytes None = []
body_bytes (Some body) = padded 4 body

abbrev pub bodies_bytes : List MethodRow → List ℕ
bodies_bytes methods = flat_map (λ m. body_bytes m.body) methods

-- where memory has the section of code, and in it the bodies, after the 72 bytes of the CLI header
abbrev pub text_address : ℕ
text_address = 0x2000

abbrev pub bodies_address : ℕ
bodies_address = 0x2048

-- the RVA of a method that comes after others: 0 where it has no body
abbrev pub rva_by : List MethodRow → Option (List ℕ) → ℕ
rva_by before None = 0
rva_by before (Some body) = bodies_address + length (bodies_bytes before)

-- the RVA of the method of a row
abbrev pub rva_of : List MethodRow → ℕ → ℕ
rva_of methods n = rva_by (take (n - 1) methods) (option_and_then (λ m. m.body) (slice_get methods (n - 1)))

-- the header of a section: its name, how many bytes memory has of it and where, the same of the file, and its
-- flags (II.25.3)
abbrev pub section_header : List ℕ → ℕ → ℕ → ℕ → ℕ → ℕ → List ℕ
section_header name virtual address size place flags =
    name ++ (long virtual ++ (long address ++ (long size ++ (long place ++ (zeros 12 ++ long flags)))))

-- where memory has the second section: after that of code
abbrev pub second_address : ℕ → ℕ
second_address text = text_address + round_up 0x2000 text

-- the MS-DOS header up to the place of the PE signature, and the program after it, which says that it cannot
-- be run (II.25.2.1)
abbrev pub dos_header : List ℕ
dos_header =
    codes "MZ" ++ (0x90 ∷ 0 ∷ 3 ∷ 0 ∷ 0 ∷ 0 ∷ 4 ∷ 0 ∷ 0 ∷ 0 ∷ 0xFF ∷ 0xFF ∷ 0 ∷ 0 ∷ 0xB8 ∷ [])
    ++ (zeros 7 ++ (0x40 ∷ zeros 35))

abbrev pub dos_program : List ℕ
dos_program =
    (0x0E ∷ 0x1F ∷ 0xBA ∷ 0x0E ∷ 0 ∷ 0xB4 ∷ 0x09 ∷ 0xCD ∷ 0x21 ∷ 0xB8 ∷ 0x01 ∷ 0x4C ∷ 0xCD ∷ 0x21 ∷ [])
    ++ (codes "This program cannot be run in DOS mode." ++ (0x0D ∷ 0x0D ∷ 0x0A ∷ 0x24 ∷ zeros 7))

-- the headers of the PE file, in 512 bytes, where the section of code has this many bytes (II.25.2, II.25.3)
abbrev pub file_headers : ℕ → List ℕ
file_headers text =
    let size = round_up 512 text in
    let second = second_address text in
    -- the MS-DOS header, the PE signature, the file header
    dos_header ++ (long 0x80 ++ (dos_program
    ++ (codes "PE" ++ (zeros 2 ++ (half 0x14C ++ (half 3 ++ (zeros 12 ++ (half 224 ++ (half 0x2002
    -- the optional header: standard fields, what Windows wants, 16 directories
    ++ (half 0x10B ++ (6 ∷ 0 ∷ [] ++ (long size ++ (long 1024 ++ (zeros 8 ++ (long text_address ++ (long second
    ++ (long 0x400000 ++ (long 0x2000 ++ (long 0x200 ++ (half 5 ++ (zeros 6 ++ (half 5 ++ (zeros 6
    ++ (long (second + 0x4000) ++ (long 0x200 ++ (zeros 4 ++ (half 3 ++ (half 0x8540
    ++ (long 0x100000 ++ (long 0x1000 ++ (long 0x100000 ++ (long 0x1000 ++ (zeros 4 ++ (long 16
    ++ (zeros 112 ++ (long text_address ++ (long 72 ++ (zeros 8
    -- the section headers
    ++ (section_header (codes ".text" ++ zeros 3) text text_address size 0x200 0x60000020
    ++ (section_header (codes ".rsrc" ++ zeros 3) 512 second 512 (0x200 + size) 0x40000040
    ++ (section_header (codes ".reloc" ++ zeros 2) 512 (second + 0x2000) 512 (0x400 + size) 0x42000040
    ++ zeros 16)))))))))))))))))))))))))))))))))))))))))

-- the CLI header, whose metadata has an RVA and a length (II.25.3.3)
abbrev pub cli_header : ℕ → ℕ → List ℕ
cli_header rva len =
    long 72 ++ (half 2 ++ (half 5 ++ (long rva ++ (long len ++ (long 1 ++ zeros 52)))))

-- the section of code: the CLI header, the bodies and the metadata
abbrev pub text_bytes : List ℕ → List ℕ → List ℕ
text_bytes bodies metadata =
    cli_header (bodies_address + length bodies) (length metadata) ++ (bodies ++ metadata)

-- the file: its headers, the section of code, and two sections of 512 zeros
abbrev pub file_bytes : List ℕ → List ℕ → List ℕ
file_bytes bodies metadata =
    file_headers (length (text_bytes bodies metadata))
    ++ (padded 512 (text_bytes bodies metadata) ++ zeros 1024)
