-- The text of an inspection (own).
use Rattle.std.specs.Prelude.{ℕ, List, ◌++◌, codes, decimal}
use Rattle.std.specs.List.{flat_map, range_with_len}
use Rattle.cli_words.specs.Check.{name_of}
use Rattle.cli_words.specs.declared.check.CheckCode.{CheckCode}
use Rattle.cli_words.specs.declared.check.CheckCode.TheVariants as code
use Rattle.assembly_name.specs.declared.version.Version.{Version}
use Rattle.metadata_tables.specs.Tables as tables
use Rattle.assembly_image.specs.declared.members.Member.{Member}
use Rattle.assembly_image.specs.declared.members.Member.TheVariants.{Field, Method}
use Rattle.assembly_image.specs.Members.{member_name, members_of}
use Rattle.assembly_image.specs.Module.{Module, count}
use Rattle.assembly_image.specs.Names.{assembly_name, assembly_version, reference_name, reference_version, full_name}
use Rattle.assembly_image.specs.Reading.{FileReading, image_limit}
use Rattle.assembly_image.specs.Reading.FileReading.{Absent, TooLong, Refused, Good}
use Rattle.host_report.specs.Quote.{quoted}

-- the check for which a file is no image, and the byte of which it speaks
abbrev pub bad_image_text : CheckCode → ℕ → List ℕ
bad_image_text code at = codes "BadImage " ++ name_of code ++ codes " " ++ decimal at ++ codes "\n"

-- the four parts of a version
abbrev pub version_text : Version → List ℕ
version_text v =
    decimal v.major ++ codes "." ++ decimal v.minor ++ codes "." ++ decimal v.build
    ++ codes "." ++ decimal v.revision

abbrev pub assembly_text : Module → List ℕ
assembly_text m =
    codes "assembly " ++ quoted (assembly_name m) ++ codes " " ++ version_text (assembly_version m)
    ++ codes "\n"

-- a reference to an assembly
abbrev pub reference_text : Module → ℕ → List ℕ
reference_text m n =
    codes "ref " ++ quoted (reference_name m n) ++ codes " " ++ version_text (reference_version m n)
    ++ codes "\n"

-- a word, the row of what it speaks of, and that one's name
abbrev pub row_text : List ℕ → ℕ → List ℕ → List ℕ
row_text word row name = word ++ decimal row ++ codes " " ++ quoted name ++ codes "\n"

abbrev pub member_word : Member → List ℕ
member_word Field = codes "field "
member_word Method = codes "method "

abbrev pub member_text : Module → Member → ℕ → List ℕ
member_text m kind n = row_text (member_word kind) n (member_name m kind n)

-- a type, its fields and its methods
abbrev pub type_text : Module → ℕ → List ℕ
type_text m row =
    row_text (codes "type ") row (full_name m row) ++ flat_map (member_text m Field) (members_of m Field row)
    ++ flat_map (member_text m Method) (members_of m Method row)

-- the assembly, the rows of AssemblyRef and those of TypeDef
abbrev pub module_text : Module → List ℕ
module_text m =
    assembly_text m ++ flat_map (reference_text m) (range_with_len 1 (count m tables.assembly_ref))
    ++ flat_map (type_text m) (range_with_len 1 (count m tables.type_def))

abbrev pub reading_text : FileReading → List ℕ
reading_text Absent = bad_image_text code.Absent 0
reading_text TooLong = bad_image_text code.TooLong image_limit
reading_text (Refused failed) = bad_image_text failed.code failed.at
reading_text (Good m) = module_text m

-- the inspection of a file that reads so
abbrev pub inspection_text : FileReading → List ℕ
inspection_text reading = codes "inspect 1\n" ++ reading_text reading ++ codes "end\n"
