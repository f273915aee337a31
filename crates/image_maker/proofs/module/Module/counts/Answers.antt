use Rattle.std.proofs.Common.{◌≤◌, ◌∙◌, arith}
use Rattle.image_maker.specs.Sound.{count}
use Rattle.image_maker.proofs.RowCounts.{not_long, told}
use Rattle.image_maker.proofs.WrittenParts.{same_counts}
use Rattle.image_maker.proofs.module.Module.counts.Goals as goal

pub returns-clause-tells : goal.returns-clause-tells
returns-clause-tells c =
    told c.args.self.now c.loop-table.counts c.loop-table.invariant.0
    (λ t within. c.loop-table.invariant.1 t (omega arith))

pub returns-clause-all : goal.returns-clause-all
returns-clause-all c = λ none.
    same_counts c.loop-table.counts (count c.args.self.now) c.loop-table.invariant.0
    (λ t below. c.loop-table.invariant.1 t (omega arith)
    ∙ (let few : count c.args.self.now t ≤ 65534 = not_long c.args.self.now none t below in omega arith))
