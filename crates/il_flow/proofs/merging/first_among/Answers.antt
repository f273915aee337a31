use Rattle.std.proofs.Common.{Bool, true, false, List, Some, sym, ap, ◌∙◌}
use Rattle.std.specs.List.{find, list_any}
use Rattle.std.proofs.lemmas.List.{drop_all}
use Rattle.signatures.specs.SameKeys.{same_key}
use Rattle.il_flow.proofs.Order.{Key}
use Rattle.il_flow.proofs.Finding.{find-next}
use Rattle.il_flow.proofs.merging.first_among.Goals as goal

pub returns-then-is_among : goal.returns-then-is_among
returns-then-is_among c =
    let p : Key → Bool = λ key. list_any (same_key key) c.args.others.now in
    ap (λ (key : Key). Some key) c.in_ok-share.ensures
    ∙ (sym (find-next p c.args.keys.now c.loop-key.key-index c.key-item.result true c.loop-key-test.true
    c.key-item.is (sym c.is_among.ensures.test ∙ c.if-is_among.true))
    ∙ c.loop-key.invariant)

pub loop-key-preserved : goal.loop-key-preserved
loop-key-preserved c =
    let p : Key → Bool = λ key. list_any (same_key key) c.args.others.now in
    sym (find-next p c.args.keys.now c.loop-key.key-index c.key-item.result false c.loop-key-test.true
    c.key-item.is (sym c.is_among.ensures.test ∙ c.if-is_among.false))
    ∙ c.loop-key.invariant

pub returns : goal.returns
returns c =
    let p : Key → Bool = λ key. list_any (same_key key) c.args.others.now in
    sym (ap (λ (keys : List Key). find p keys) (drop_all c.loop-key.key-index c.args.keys.now c.loop-key-test.false))
    ∙ c.loop-key.invariant
