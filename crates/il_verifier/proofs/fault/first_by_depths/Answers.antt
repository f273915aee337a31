use Rattle.std.proofs.Common.{◌≡◌, ℕ, length, subst, sym, arith}
use Rattle.il_verifier.specs.Faults.{FailsDepths, depth_rules}
use Rattle.il_verifier.specs.Search.{AreClearBelow}
use Rattle.il_verifier.proofs.Firsts.{IsSought, none-at, first-at-place, clear-more, none-past}
use Rattle.il_verifier.proofs.fault.first_by_depths.Goals as goal

pub loop-at-init : goal.loop-at-init
loop-at-init c = λ at less. absurd (omega (arith, less))

pub loop-at-preserved : goal.loop-at-preserved
loop-at-preserved c =
    let s : IsSought c.args.max c.args.lines.now c.args.depths.now c.args.others.now =
    record { reached = c.requires.depths; marked = c.requires.marked } in
    clear-more (FailsDepths c.args.max c.args.lines.now) depth_rules c.loop-at.at c.loop-at.invariant
    (none-at c.args.max c.args.lines.now c.args.depths.now c.args.others.now s c.loop-at.at (sym c.in_default.ensures))

pub returns-in-Some : goal.returns-in-Some
returns-in-Some c =
    let s : IsSought c.args.max c.args.lines.now c.args.depths.now c.args.others.now =
    record { reached = c.requires.depths; marked = c.requires.marked } in
    first-at-place c.args.max c.args.lines.now c.args.depths.now c.args.others.now s c.loop-at.at c.in-Some.rule
    (sym c.in-Some.ensures) c.loop-at.invariant

pub returns : goal.returns
returns c =
    let s : IsSought c.args.max c.args.lines.now c.args.depths.now c.args.others.now =
    record { reached = c.requires.depths; marked = c.requires.marked } in
    let all : c.loop-at.at ≡ length c.args.depths.now = omega arith in
    none-past c.args.max c.args.lines.now c.args.depths.now c.args.others.now s
    (subst (λ (n : ℕ). AreClearBelow (FailsDepths c.args.max c.args.lines.now) depth_rules n) all c.loop-at.invariant)
