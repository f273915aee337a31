use Rattle.std.proofs.Common.{◌≡◌, List, map, subst, sym, arith}
use Rattle.std.proofs.lemmas.List.{append-nil}
use Rattle.std.specs.List.{flat_map}
use Rattle.image_maker.specs.declared.module.Cell.{Cell}
use Rattle.image_maker.specs.Rows.{rows_of, type_ref_row, type_rows, field_row, member_row, spec_row, reference_row}
use Rattle.image_maker.specs.Rows.{given_rows}
use Rattle.image_maker.specs.Written.{Cells, Puts, table_cells}
use Rattle.image_maker.proofs.RowPutsMethods.{other_rows, puts_table}
use Rattle.image_maker.proofs.rows.put_table.Goals as goal

pub returns-in-0 : goal.returns-in-0
returns-in-0 c rva =
    let old = c.args.writer.now in
    let new = c.put_module.new.writer in
    puts_table c.args.source.now rva c.args.table 0x00 old new c.in-0.is
    (subst (λ (cells : Cells). Puts cells old new) (sym (append-nil _)) c.put_module.ensures)

pub returns-in-1 : goal.returns-in-1
returns-in-1 c rva =
    let old = c.args.writer.now in
    let new = c.put_all.new.writer in
    puts_table c.args.source.now rva c.args.table 0x01 old new c.in-1.is
    (subst (λ xs. Puts (table_cells 0x01 (map type_ref_row xs)) old new) c.items.ensures c.put_all.ensures)

pub returns-in-2 : goal.returns-in-2
returns-in-2 c rva =
    let old = c.args.writer.now in
    let new = c.put_types.new.writer in
    puts_table c.args.source.now rva c.args.table 0x02 old new c.in-2.is
    (subst (λ xs. Puts (table_cells 0x02 (type_rows 1 1 xs)) old new) c.items-in-2.ensures c.put_types.ensures)

pub returns-in-4 : goal.returns-in-4
returns-in-4 c rva =
    let old = c.args.writer.now in
    let new = c.put_fields.new.writer in
    puts_table c.args.source.now rva c.args.table 0x04 old new c.in-4.is
    (subst (λ xs. Puts (table_cells 0x04 (map field_row (flat_map (λ t. t.fields) xs))) old new)
    c.items-in-4.ensures c.put_fields.ensures)

pub returns-in-10 : goal.returns-in-10
returns-in-10 c rva =
    let old = c.args.writer.now in
    let new = c.put_all-in-10.new.writer in
    puts_table c.args.source.now rva c.args.table 0x0A old new c.in-10.is
    (subst (λ xs. Puts (table_cells 0x0A (map member_row xs)) old new) c.items-in-10.ensures c.put_all-in-10.ensures)

pub returns-in-27 : goal.returns-in-27
returns-in-27 c rva =
    let old = c.args.writer.now in
    let new = c.put_all-in-27.new.writer in
    puts_table c.args.source.now rva c.args.table 0x1B old new c.in-27.is
    (subst (λ xs. Puts (table_cells 0x1B (map spec_row xs)) old new) c.items-in-27.ensures c.put_all-in-27.ensures)

pub returns-in-32 : goal.returns-in-32
returns-in-32 c rva =
    let old = c.args.writer.now in
    let new = c.put_assembly.new.writer in
    puts_table c.args.source.now rva c.args.table 0x20 old new c.in-32.is
    (subst (λ (cells : Cells). Puts cells old new) (sym (append-nil _)) c.put_assembly.ensures)

pub returns-in-35 : goal.returns-in-35
returns-in-35 c rva =
    let old = c.args.writer.now in
    let new = c.put_all-in-35.new.writer in
    puts_table c.args.source.now rva c.args.table 0x23 old new c.in-35.is
    (subst (λ xs. Puts (table_cells 0x23 (map reference_row xs)) old new) c.items-in-35.ensures
    c.put_all-in-35.ensures)

pub returns-in_default : goal.returns-in_default
returns-in_default c rva =
    let table = c.args.table in
    let old = c.args.writer.now in
    let new = c.put_given.new.writer in
    let given : rows_of c.args.source.now rva table ≡ given_rows table c.args.source.now.rows =
    other_rows c.args.source.now rva table (λ is. omega arith) (λ is. omega arith) (λ is. omega arith)
    (λ is. omega arith) c.requires.other (λ is. omega arith) (λ is. omega arith) (λ is. omega arith)
    (λ is. omega arith) in
    subst (λ (rows : List (List Cell)). Puts (table_cells table rows) old new) (sym given)
    (subst (λ xs. Puts (table_cells table (given_rows table xs)) old new) c.items-in_default.ensures
    c.put_given.ensures)
