use Rattle.std.proofs.Common.{◌≡◌, ℕ, ◌+◌, ap, ◌∙◌, take, get_or, arith}
use Rattle.std.specs.List.{sum_by}
use Rattle.std.proofs.lemmas.List.Sums.{sum_by_more}
use Rattle.image_maker.specs.declared.module.MethodRow.{MethodRow}
use Rattle.image_maker.specs.Params.{left_of}
use Rattle.image_maker.proofs.sound.left_after.Goals as goal

pub loop-method-preserved : goal.loop-method-preserved
loop-method-preserved c = λ rows before e.
    let methods = c.args.methods.now in
    let i = c.loop-method.method-index in
    let item = c.method-item.result in
    let params : MethodRow → ℕ = λ m. m.params in
    let more = sum_by_more params methods i item c.loop-method-test.true in
    let here : params item ≡ params (get_or methods i item) = ap params c.method-item.is in
    let total : before + sum_by params (take i methods) + params item
    ≡ before + sum_by params (take (i + 1) methods) = omega arith in
    c.less-left.ensures rows _ (c.loop-method.invariant rows before e) ∙ ap (left_of rows) total
