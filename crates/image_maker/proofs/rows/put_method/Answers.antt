use Rattle.image_maker.proofs.RowPutsMethods.{method_put}
use Rattle.image_maker.proofs.rows.put_method.Goals as goal

pub returns : goal.returns
returns c =
    method_put c.args.row.now c.args.param _ c.args.writer.now c.body-rva.new.self c.put_method_cells.new.writer
    c.body-rva.ensures.layout c.body-rva.ensures.holds c.body-rva.ensures.rva c.put_method_cells.ensures
