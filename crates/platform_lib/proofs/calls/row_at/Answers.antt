use Rattle.std.proofs.Common.{◌≡◌, ◌⊎◌, ◌<◌, inl, inr, length, sym}
use Rattle.platform_lib.proofs.Rows.{nth-at, nth-past}
use Rattle.platform_lib.proofs.calls.row_at.Goals.{then-number-eq0-via-then-number-eq0, then-number-eq0-via-else-number-eq0+then-number-rows}
use Rattle.platform_lib.proofs.calls.row_at.Goals as goal

pub returns-then-number-eq0 : goal.returns-then-number-eq0
returns-then-number-eq0 c =
    let out : (c.args.number ≡ 0) ⊎ (length c.args.rows.now < c.args.number) =
    elim c.then-number-eq0.branch [
      | then-number-eq0-via-then-number-eq0 w ↦ inl (w.if-number-eq0.true)
      | then-number-eq0-via-else-number-eq0+then-number-rows w ↦ inr (w.if-number-rows.true)
    ] in
    sym (nth-past c.args.rows.now c.args.number out)

pub returns : goal.returns
returns c = sym (nth-at c.args.rows.now c.args.number _ c.if-number-eq0.false c.if-number-rows.false)
