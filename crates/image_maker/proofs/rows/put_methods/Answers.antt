use Rattle.std.proofs.Common.{◌≡◌, ◌+◌, List, ◌++◌, ap, subst, sym, ◌∙◌, drop}
use Rattle.std.specs.List.{flat_map}
use Rattle.std.proofs.lemmas.List.{drop_all}
use Rattle.image_maker.specs.declared.module.MethodRow.{MethodRow}
use Rattle.image_maker.specs.declared.module.TypeRow.{TypeRow}
use Rattle.image_maker.specs.MethodsPut.{PutsMethods, Starts}
use Rattle.image_maker.proofs.RowPutsMethods.{type_methods, methods_all, methods_none, methods_next, starts_both}
use Rattle.image_maker.proofs.ParamRows.{params_of}
use Rattle.image_maker.proofs.rows.put_methods.Goals as goal

pub loop-row-init : goal.loop-row-init
loop-row-init c = record { left = methods_all 1 _ c.args.writer.now; starts = c.requires }

pub put_methods_of-param-requires : goal.put_methods_of-param-requires
put_methods_of-param-requires c =
    let types = c.args.types.now in
    let i = c.loop-row.row-index in
    let item = c.row-item.result in
    let starts : Starts c.loop-row.param (item.methods ++ flat_map (λ t. t.methods) (drop (i + 1) types)) =
    subst (λ (ms : List MethodRow). Starts c.loop-row.param ms)
    (type_methods types i item c.loop-row-test.true c.row-item.is) c.loop-row.invariant.starts in
    subst (λ (ms : List MethodRow). Starts c.loop-row.param ms) (sym c.items.ensures)
    (starts_both c.loop-row.param item.methods _ starts).0

pub loop-row-preserved : goal.loop-row-preserved
loop-row-preserved c =
    let types = c.args.types.now in
    let i = c.loop-row.row-index in
    let item = c.row-item.result in
    let rest = flat_map (λ t. t.methods) (drop (i + 1) types) in
    let parts = type_methods types i item c.loop-row-test.true c.row-item.is in
    let starts : Starts c.loop-row.param (item.methods ++ rest) =
    subst (λ (ms : List MethodRow). Starts c.loop-row.param ms) parts c.loop-row.invariant.starts in
    let next : c.put_methods_of-param.result ≡ c.loop-row.param + params_of item.methods =
    c.put_methods_of-param.ensures.next ∙ ap (λ ms. c.loop-row.param + params_of ms) c.items.ensures in
    record {
      left = methods_next 1 _ c.loop-row.param c.put_methods_of-param.result _ item.methods rest c.args.writer.now
          c.loop-row.writer c.put_methods_of-param.new.writer parts next c.loop-row.invariant.left
          (subst (λ (ms : List MethodRow). PutsMethods c.loop-row.param ms c.loop-row.writer
          c.put_methods_of-param.new.writer)
          c.items.ensures c.put_methods_of-param.ensures.puts);
      starts = subst (λ n. Starts n rest) (sym next) (starts_both c.loop-row.param item.methods rest starts).1;
    }

pub returns : goal.returns
returns c =
    methods_none 1 _ c.loop-row.param _ c.args.writer.now c.loop-row.writer
    (ap (λ (types : List TypeRow). flat_map (λ t. t.methods) types)
    (drop_all c.loop-row.row-index c.args.types.now c.loop-row-test.false)) c.loop-row.invariant.left
