use Rattle.std.proofs.Common.{◌+◌, ap, ◌∙◌}
use Rattle.std.specs.List.{sum_by}
use Rattle.image_maker.specs.Params.{are_within, left_of}
use Rattle.image_maker.proofs.ParamRows.{types_stop, types_go_on}
use Rattle.image_maker.proofs.sound.are_types_within.Goals as goal

pub returns-then-not-are_params_within : goal.returns-then-not-are_params_within
returns-then-not-are_params_within c = λ rows e.
    let told = c.loop-item.invariant rows e in
    types_stop rows c.args.types.now c.loop-item.left c.loop-item.item-index c.item-item.result c.loop-item-test.true
    c.item-item.is told
    c.are_params_within.result (c.are_params_within.ensures rows told.before told.left_is
    ∙ ap (are_within rows told.before) c.items.ensures)
    c.if-not-are_params_within.true

pub loop-item-preserved : goal.loop-item-preserved
loop-item-preserved c = λ rows e.
    let told = c.loop-item.invariant rows e in
    types_go_on rows c.args.types.now c.loop-item.left c.loop-item.item-index c.item-item.result c.loop-item-test.true
    c.item-item.is told
    c.are_params_within.result c.left_after-left.result
    (c.are_params_within.ensures rows told.before told.left_is ∙ ap (are_within rows told.before) c.items.ensures)
    c.if-not-are_params_within.false
    (c.left_after-left.ensures rows told.before told.left_is
    ∙ ap (λ methods. left_of rows (told.before + sum_by (λ m. m.params) methods)) c.items-in-loop-item.ensures)
