use Rattle.std.proofs.Common.{◌≡◌, ◌+◌, [], ◌∷◌, ap, subst, sym, ◌∙◌, refl, drop, arith}
use Rattle.std.proofs.lemmas.List.{drop_more, drop_all}
use Rattle.image_maker.specs.declared.module.MethodRow.{MethodRow}
use Rattle.image_maker.specs.MethodsPut.{Starts}
use Rattle.image_maker.proofs.RowPutsMethods.{params_next, methods_all, methods_none, methods_next, starts_next}
use Rattle.image_maker.proofs.ParamRows.{params_of, params_cons}
use Rattle.image_maker.proofs.rows.put_methods_of.Goals as goal

pub loop-row-init : goal.loop-row-init
loop-row-init c = record {
  left = methods_all c.args.first c.args.methods.now c.args.writer.now;
  starts =
      c.requires;
  sum = refl;
}

pub loop-row-preserved : goal.loop-row-preserved
loop-row-preserved c =
    let methods = c.args.methods.now in
    let i = c.loop-row.row-index in
    let item = c.row-item.result in
    let starts = starts_next c.loop-row.param methods i item c.loop-row-test.true c.row-item.is
    c.loop-row.invariant.starts in
    let same : c.from-param.result ≡ item.params = c.from-param.ensures in
    record {
      left = methods_next c.args.first methods c.loop-row.param (c.loop-row.param + c.from-param.result) _ (item ∷ [])
          (drop (i + 1) methods) c.args.writer.now c.loop-row.writer c.put_method.new.writer
          (drop_more methods i item c.loop-row-test.true
          ∙ ap (λ (m : MethodRow). m ∷ drop (i + 1) methods) (sym c.row-item.is))
          (omega (arith, same, params_cons item [])) c.loop-row.invariant.left
          c.put_method.ensures;
      starts = subst (λ n. Starts (c.loop-row.param + n) (drop (i + 1) methods)) (sym same) starts.1;
      sum = omega (
        arith,
        same,
        c.loop-row.invariant.sum,
        params_next methods i item c.loop-row-test.true
            c.row-item.is,
      );
    }

pub returns : goal.returns
returns c =
    let none = drop_all c.loop-row.row-index c.args.methods.now c.loop-row-test.false in
    record {
      puts = methods_none c.args.first c.args.methods.now c.loop-row.param _ c.args.writer.now c.loop-row.writer none
          c.loop-row.invariant.left;
      next = omega (arith, c.loop-row.invariant.sum, ap params_of none);
    }
