use Rattle.std.proofs.Common.{sym, ◌∙◌}
use Rattle.image_maker.proofs.LimitPassed.{too_large, within}
use Rattle.image_maker.proofs.module.Module.limit.Goals as goal

pub returns-then-size-gt-SIZE_LIMIT : goal.returns-then-size-gt-SIZE_LIMIT
returns-then-size-gt-SIZE_LIMIT c =
    too_large c.args.self.now c.long_table-long.result c.long_table-long.ensures
    (sym c.is_some.ensures ∙ c.if-is_some.false) c.tally.result.is_short c.tally.ensures.short c.if-not-tally.false
    c.size.result c.size.ensures c.if-size-gt-SIZE_LIMIT.true

pub returns : goal.returns
returns c =
    within c.args.self.now c.long_table-long.result c.long_table-long.ensures
    (sym c.is_some.ensures ∙ c.if-is_some.false) c.tally.result.is_short c.tally.ensures.short c.if-not-tally.false
    c.size.result c.size.ensures c.if-size-gt-SIZE_LIMIT.false
