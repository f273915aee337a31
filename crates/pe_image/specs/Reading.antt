-- What a PE file is read as: where its parts lie (own).
use Rattle.std.specs.Prelude.{ℕ, List}
use Rattle.pe_image.specs.declared.pe.Pe.{Pe}
use Rattle.pe_image.specs.Section.{section_count, sections_place}
use Rattle.pe_image.specs.Layout.{signature_place, directory_place, cli_place, metadata, found}

-- where the parts of a file lie that passes the checks
abbrev pub pe_of : List ℕ → Pe
pe_of bytes =
    let signature = signature_place bytes in
    let first = sections_place bytes signature in
    let count = section_count bytes signature in
    let cli = cli_place bytes first count (directory_place bytes signature) in
    let root = found (metadata bytes first count cli) in
    record { sections_at = first; sections = count; root_at = root.at; root_len = root.len }
