-- The first key of a list that passes a test.
use Rattle.std.proofs.Common.{◌≡◌, ℕ, suc, ◌+◌, ◌<◌, Bool, cond, List, ◌∷◌, length, drop, get_or, Some, sym, ap, ◌∙◌, add-one}
use Rattle.std.specs.List.{find}
use Rattle.std.proofs.Math.Seq.{drop-cons}
use Rattle.il_flow.proofs.Order.{Key}

pub find-next : (p : Key → Bool) (keys : List Key) (i : ℕ) (key : Key) (b : Bool) → i < length keys →
    key ≡ get_or keys i key → p key ≡ b →
    find p (drop i keys) ≡ cond b (Some key) (find p (drop (i + 1) keys))
find-next p keys i key b less is test =
    let front : drop i keys ≡ key ∷ drop (i + 1) keys =
    drop-cons keys i key less
    ∙ (ap (λ first. first ∷ drop (suc i) keys) (sym is)
    ∙ ap (λ n. key ∷ drop n keys) (sym (add-one i))) in
    ap (λ rest. find p rest) front ∙ ap (λ t. cond t (Some key) (find p (drop (i + 1) keys))) test
