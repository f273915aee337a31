use Rattle.std.proofs.Common.{◌≡◌, List, [], subst, sym, ◌∙◌, refl, arith}
use Rattle.std.specs.List.{flat_map}
use Rattle.image_maker.specs.declared.module.TypeRow.{TypeRow}
use Rattle.image_maker.specs.File.{rva_of}
use Rattle.image_maker.specs.MethodsPut.{PutsMethods, Starts}
use Rattle.image_maker.specs.Rows.{all_methods, rows_of}
use Rattle.image_maker.specs.Written.{Holds, cells_below}
use Rattle.image_maker.proofs.RowPutsMethods.{methods_after, starts_from, table_after}
use Rattle.image_maker.proofs.rows.write_rows.Goals as goal

pub loop-table-init : goal.loop-table-init
loop-table-init c = record { layout = c.new-writer.ensures.layout; holds = c.new-writer.ensures.holds }

pub loop-table-preserved : goal.loop-table-preserved
loop-table-preserved c =
    let rva = rva_of (all_methods c.args.source.now) in
    record {
      layout = (c.put_table.ensures rva).0 ∙ c.loop-table.invariant.layout;
      holds = table_after (rows_of c.args.source.now rva) c.loop-table.table
          [] c.loop-table.writer c.put_table.new.writer
          (c.put_table.ensures rva) c.loop-table.invariant.holds;
    }

pub put_methods-requires : goal.put_methods-requires
put_methods-requires c =
    subst (λ (types : List TypeRow). Starts 1 (flat_map (λ t. t.methods) types)) (sym c.items.ensures)
    (starts_from 1 (all_methods c.args.source.now) (λ n within. omega (arith, c.requires.params n within)))

pub loop-table-2-init : goal.loop-table-2-init
loop-table-2-init c =
    let rows = rows_of c.args.source.now (rva_of (all_methods c.args.source.now)) in
    let last : c.loop-table.table ≡ 6 = omega arith in
    let puts : PutsMethods 1 (all_methods c.args.source.now) c.loop-table.writer c.put_methods.new.writer =
    subst (λ (types : List TypeRow). PutsMethods 1 (flat_map (λ t. t.methods) types) c.loop-table.writer
    c.put_methods.new.writer) c.items.ensures c.put_methods.ensures in
    record {
      layout = puts.0 ∙ c.loop-table.invariant.layout;
      holds = methods_after rows (all_methods c.args.source.now) c.loop-table.writer c.put_methods.new.writer
          refl puts
          c.requires.bodies (subst (λ n. Holds (cells_below rows n) [] c.loop-table.writer) last
          c.loop-table.invariant.holds);
    }

pub loop-table-2-preserved : goal.loop-table-2-preserved
loop-table-2-preserved c =
    let rva = rva_of (all_methods c.args.source.now) in
    record {
      layout = (c.put_table-in-loop-table-2.ensures rva).0 ∙ c.loop-table-2.invariant.layout;
      holds = table_after (rows_of c.args.source.now rva) c.loop-table-2.table (all_methods c.args.source.now)
          c.loop-table-2.writer c.put_table-in-loop-table-2.new.writer (c.put_table-in-loop-table-2.ensures rva)
          c.loop-table-2.invariant.holds;
    }

pub returns : goal.returns
returns c =
    let rows = rows_of c.args.source.now (rva_of (all_methods c.args.source.now)) in
    let last : c.loop-table-2.table ≡ 45 = omega arith in
    record {
      layout = c.loop-table-2.invariant.layout;
      holds = subst (λ n. Holds (cells_below rows n) (all_methods c.args.source.now) c.loop-table-2.writer) last
          c.loop-table-2.invariant.holds;
    }
