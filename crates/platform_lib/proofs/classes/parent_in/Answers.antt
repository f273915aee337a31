use Rattle.std.proofs.Common.{◌≡◌, ◌⊎◌, ◌<◌, inl, inr, length, sym, ap, None}
use Rattle.std.specs.Option.{option_and_then}
use Rattle.platform_lib.specs.declared.names.Name.TheVariants.{Object}
use Rattle.platform_lib.proofs.Rows.{nth-at, nth-past}
use Rattle.platform_lib.proofs.classes.parent_in.Goals.{then-row-eq0-via-then-row-eq0, then-row-eq0-via-else-row-eq0+then-row-rows}
use Rattle.platform_lib.proofs.classes.parent_in.Goals as goal

pub returns-then-row-eq0 : goal.returns-then-row-eq0
returns-then-row-eq0 c =
    let out : (c.args.row ≡ 0) ⊎ (length c.args.rows.now < c.args.row) =
    elim c.then-row-eq0.branch [
      | then-row-eq0-via-then-row-eq0 w ↦ inl (w.if-row-eq0.true)
      | then-row-eq0-via-else-row-eq0+then-row-rows w ↦ inr (w.if-row-rows.true)
    ] in
    sym (ap (λ o. option_and_then (λ t. t.1) o) (nth-past c.args.rows.now c.args.row out))

pub returns : goal.returns
returns c =
    sym (ap (λ o. option_and_then (λ t. t.1) o)
    (nth-at c.args.rows.now c.args.row (Object, None) c.if-row-eq0.false c.if-row-rows.false))
