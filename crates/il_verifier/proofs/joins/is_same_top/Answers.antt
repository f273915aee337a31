use Rattle.std.proofs.Common.{◌≡◌, inr, Bool, true, false, not}
use Rattle.il_verifier.proofs.joins.is_same_top.Goals as goal

pub returns-then-below-other-clause-yes : goal.returns-then-below-other-clause-yes
returns-then-below-other-clause-yes c = λ h. (c.if-below-other.true, c.is_same_held.ensures.0 h)

pub returns-then-below-other-clause-no : goal.returns-then-below-other-clause-no
returns-then-below-other-clause-no c = λ h. inr (λ e. no c.is_same_held.result h (c.is_same_held.ensures.1 e))
  where
    no : (b : Bool) → not b ≡ true → b ≡ true → ⊥
    no true h e = cc h
    no false h e = cc e
