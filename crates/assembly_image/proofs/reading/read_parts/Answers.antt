use Rattle.std.proofs.Common.{◌≡◌, Err, sym, ◌∙◌, arith}
use Rattle.std.proofs.Math.Facts.{Fits-lt-pow}
use Rattle.std.proofs.lemmas.Grind.{common_steps}
use Rattle.cli_words.specs.Check.{first_fault}
use Rattle.cli_words.proofs.FirstFault.{answer-ok, answer-err}
use Rattle.pe_image.specs.Checks.{pe_checks}
use Rattle.pe_image.specs.Reading.{pe_of}
use Rattle.meta_heaps.specs.Reading.{root_checks, root_of}
use Rattle.metadata_tables.specs.Reading.{layout_of, checks as stream_checks}
use Rattle.assembly_image.proofs.PartLemmas.{metadata, head_there, headers_fail, heaps_fail, stream_fails, content_tells, are_parts}
use Rattle.assembly_image.proofs.reading.read_parts.Goals as goal

pub returns-in_err-pe : goal.returns-in_err-pe
returns-in_err-pe c =
    let handed : c.from_residual.result ≡ Err c.in_err-pe.field-0.0 = grind (arith, common_steps) in
    let bytes = c.args.bytes.now in
    rw handed (headers_fail bytes _ (answer-err (first_fault (pe_checks bytes)) _ (pe_of bytes) (sym c.in_err-pe.was ∙ c.read_pe.ensures)))

pub returns-in_err-root : goal.returns-in_err-root
returns-in_err-root c =
    let handed : c.from_residual-in_err-root.result ≡ Err c.in_err-root.field-0.0 = grind (arith, common_steps) in
    let bytes = c.args.bytes.now in
    let pe = c.in_ok-pe.pe in
    let headers = answer-ok (first_fault (pe_checks bytes)) pe (pe_of bytes) (sym c.in_ok-pe.was ∙ c.read_pe.ensures) in
    let found = metadata bytes pe headers in
    rw handed (heaps_fail bytes pe headers _ (answer-err (first_fault (root_checks bytes found)) _ (root_of bytes found) (sym c.in_err-root.was ∙ c.read_root.ensures.answer)))

pub read_tables-requires-clause-lies : goal.read_tables-requires-clause-lies
read_tables-requires-clause-lies c = c.in_ok-root.ensures.within.tables

pub read_tables-requires-clause-head : goal.read_tables-requires-clause-head
read_tables-requires-clause-head c =
    let bytes = c.args.bytes.now in
    let pe = c.in_ok-pe.pe in
    let headers = answer-ok (first_fault (pe_checks bytes)) pe (pe_of bytes) (sym c.in_ok-pe.was ∙ c.read_pe.ensures) in
    let found = metadata bytes pe headers in
    let heaps = answer-ok (first_fault (root_checks bytes found)) c.in_ok-root.root (root_of bytes found) (sym c.in_ok-root.was ∙ c.read_root.ensures.answer) in
    head_there bytes found c.in_ok-root.root heaps

pub returns-in_err-tables : goal.returns-in_err-tables
returns-in_err-tables c =
    let handed : c.from_residual-in_err-tables.result ≡ Err c.in_err-tables.field-0.0 = grind (arith, common_steps) in
    let bytes = c.args.bytes.now in
    let pe = c.in_ok-pe.pe in
    let root = c.in_ok-root.root in
    let headers = answer-ok (first_fault (pe_checks bytes)) pe (pe_of bytes) (sym c.in_ok-pe.was ∙ c.read_pe.ensures) in
    let found = metadata bytes pe headers in
    let heaps = answer-ok (first_fault (root_checks bytes found)) root (root_of bytes found) (sym c.in_ok-root.was ∙ c.read_root.ensures.answer) in
    rw handed (stream_fails bytes pe headers root heaps _
    (answer-err (first_fault (stream_checks bytes root.tables)) _ (layout_of bytes root.tables.at) (sym c.in_err-tables.was ∙ c.read_tables.ensures.tables)))

pub returns-in-None : goal.returns-in-None
returns-in-None c =
    let bytes = c.args.bytes.now in
    let pe = c.in_ok-pe.pe in
    let root = c.in_ok-root.root in
    let tables = c.in_ok-tables.tables in
    let headers = answer-ok (first_fault (pe_checks bytes)) pe (pe_of bytes) (sym c.in_ok-pe.was ∙ c.read_pe.ensures) in
    let found = metadata bytes pe headers in
    let heaps = answer-ok (first_fault (root_checks bytes found)) root (root_of bytes found) (sym c.in_ok-root.was ∙ c.read_root.ensures.answer) in
    let stream = answer-ok (first_fault (stream_checks bytes root.tables)) tables (layout_of bytes root.tables.at) (sym c.in_ok-tables.was ∙ c.read_tables.ensures.tables) in
    are_parts bytes pe headers root heaps tables stream c.in_ok-root.ensures.within c.in_ok-tables.ensures.rows
    (λ i. Fits-lt-pow (c.type_inv.bytes i)) (sym c.first_failed.ensures ∙ c.in-None.is)

pub returns-in-Some : goal.returns-in-Some
returns-in-Some c =
    let bytes = c.args.bytes.now in
    let pe = c.in_ok-pe.pe in
    let root = c.in_ok-root.root in
    let tables = c.in_ok-tables.tables in
    let headers = answer-ok (first_fault (pe_checks bytes)) pe (pe_of bytes) (sym c.in_ok-pe.was ∙ c.read_pe.ensures) in
    let found = metadata bytes pe headers in
    let heaps = answer-ok (first_fault (root_checks bytes found)) root (root_of bytes found) (sym c.in_ok-root.was ∙ c.read_root.ensures.answer) in
    let stream = answer-ok (first_fault (stream_checks bytes root.tables)) tables (layout_of bytes root.tables.at) (sym c.in_ok-tables.was ∙ c.read_tables.ensures.tables) in
    content_tells bytes pe headers root heaps tables stream _ (sym c.first_failed.ensures ∙ c.in-Some.is)
