-- How the stack at a place is handed on, place by place.
use Rattle.std.proofs.Common.{◌≡◌, ℕ, zero, suc, ◌+◌, ◌<◌, ◌≤◌, IsTrue, Option, Some, None, List, [], ◌∷◌, ◌++◌, length, drop, get_or, refl, sym, ap, subst, ◌∙◌, arith, eq-eqb}
use Rattle.std.proofs.Math.Seq.{drop-cons}
use Rattle.il_flow.specs.Families.{Family}
use Rattle.il_flow.specs.Merging.{Held}
use Rattle.il_verifier.specs.declared.line.Line.{Line}
use Rattle.il_verifier.specs.Effects.{stack_after, depth_after}
use Rattle.il_verifier.specs.Lines.{line_at}
use Rattle.il_verifier.specs.Depths.{goes_to, is_place}
use Rattle.il_verifier.specs.Search.{LeadsInside}
use Rattle.il_verifier.specs.Pools.{stack_by, Grows, Noted}
use Rattle.il_verifier.specs.Worklist.{Stacks, stack_at, stacks_by, weights, AreIds, IsSound, HasMet, AreStacks, AreHandedBut, AreSought}
use Rattle.il_verifier.specs.Laws.{Rises}
use Rattle.il_verifier.proofs.Order.{IsMerging}
use Rattle.il_verifier.proofs.Notes.{place-among}
use Rattle.il_verifier.proofs.Pools.{Pool, grows-on, grows-same}
use Rattle.il_verifier.proofs.Ways.{noted-grow}
use Rattle.il_verifier.proofs.Meeting.{CanMeet, stacks-met, handed-met}
use Rattle.il_verifier.proofs.Reaching.{IsClean, deep-after, one-depth}
use Rattle.il_verifier.proofs.Weights.{AreRanks, met-lighter}
use Rattle.il_verifier.proofs.Turns.{by-some, by-length, grown-at, ids-grow, IsTurn, turn-length, can-meet, begin-turn, skip-place, end-turn}

-- what is known while it is
pub record IsGoing (family : Family) (max : ℕ) (lines : List (Option Line)) (at : ℕ) (own : List Held) (pending : List (Option ℕ))
    (base pool : Pool) (joins : Noted) (ids : List (Option ℕ)) (list : List ℕ) (before : ℕ) : Type 0 where
  pub sound : IsSound family pool joins ids
  pub grows : Grows base pool
  pub sized : length ids ≡ length lines
  pub found : AreStacks family max lines (stacks_by pool ids) list
  pub but : AreHandedBut family lines at own pending (stacks_by pool ids) list
  pub lighter : weights family max (stacks_by pool ids) + length list ≤ before

lists-same : {A : Type 0} (a b : List A) (d : A) → length a ≡ length b → ((i : ℕ) → get_or a i d ≡ get_or b i d) → a ≡ b
lists-same [] [] d size same = refl
lists-same {A} (x ∷ a) (y ∷ b) d size same =
    ap (λ z. z ∷ a) (same 0) ∙ ap (λ (t : List A). y ∷ t) (lists-same a b d (omega (arith, size)) (λ i. same (suc i)))
lists-same [] (y ∷ b) d size same = absurd (omega (arith, size))
lists-same (x ∷ a) [] d size same = absurd (omega (arith, size))

-- where there are more stacks, places have the ones that they had
pub stacks-grow : (old new : Pool) (ids : List (Option ℕ)) → Grows old new → AreIds old ids → stacks_by new ids ≡ stacks_by old ids
stacks-grow old new ids grows numbered =
    lists-same (stacks_by new ids) (stacks_by old ids) None (by-length new ids ∙ sym (by-length old ids))
    (λ at. grown-at old new ids at grows numbered)

pub turn-of : (family : Family) (max : ℕ) (lines : List (Option Line)) (at id : ℕ) (line : Line) (after : List Held) (pool : Pool)
    (ids : List (Option ℕ)) (list : List ℕ) → IsMerging family → Rises family → IsClean max lines → line_at lines at ≡ Some line →
    get_or ids at None ≡ Some id → AreSought family max lines (stacks_by pool ids) (list ++ at ∷ []) →
    after ≡ stack_after line.effect (stack_by pool id) → IsTurn family max lines at (stack_by pool id) after line
turn-of family max lines at id line after pool ids list merging rises clean here some sought is =
    let has = by-some pool ids at id some in
    record {
      merging = merging;
      rises = rises;
      clean = clean;
      is_at = record { here = here; reached = sought.found.shape at (stack_by pool id) has };
      is = is;
      under = λ other closed. sought.found.below at (stack_by pool id) has other closed;
    }

-- no place was handed a stack yet
pub going-first : (family : Family) (max : ℕ) (lines : List (Option Line)) (at id : ℕ) (line : Line) (goes : List (Option ℕ))
    (old new : Pool) (joins : Noted) (ids : List (Option ℕ)) (list : List ℕ) → line_at lines at ≡ Some line →
    goes ≡ line.goes → get_or ids at None ≡ Some id → Grows old new → IsSound family old joins ids →
    AreSought family max lines (stacks_by old ids) (list ++ at ∷ []) →
    IsGoing family max lines at (stack_by old id) (drop 0 goes) new new joins ids list
    (weights family max (stacks_by old ids) + length list)
going-first family max lines at id line goes old new joins ids list here same some grows sound sought =
    let e = stacks-grow old new ids grows sound.numbered in
    let begun = begin-turn family max lines (stacks_by old ids) list at (stack_by old id) line sought (by-some old ids at id some) here in
    let w : weights family max (stacks_by new ids) ≡ weights family max (stacks_by old ids) =
    ap (λ (s : Stacks). weights family max s) e in
    record {
      sound = record {
        numbered = ids-grow old new ids grows sound.numbered;
        noted = noted-grow family old new joins grows sound.noted;
      };
      grows = grows-same new;
      sized = sym (by-length old ids) ∙ sought.sized;
      found = subst (λ (s : Stacks). AreStacks family max lines s list) (sym e) begun.0;
      but = subst (λ (gs : List (Option ℕ)). AreHandedBut family lines at (stack_by old id) gs (stacks_by new ids) list) (sym same)
          (subst (λ (s : Stacks). AreHandedBut family lines at (stack_by old id) line.goes s list) (sym e) begun.1);
      lighter = omega (arith, w);
    }

drop-more : (goes : List (Option ℕ)) (i : ℕ) → i < length goes → drop i goes ≡ get_or goes i None ∷ drop (i + 1) goes
drop-more goes i less =
    let next : suc i ≡ i + 1 = omega arith in
    drop-cons goes i None less ∙ ap (λ n. get_or goes i None ∷ drop n goes) next

-- no instruction begins at a place
pub going-skip : (family : Family) (max : ℕ) (lines : List (Option Line)) (at : ℕ) (own : List Held) (goes : List (Option ℕ)) (i : ℕ)
    (base pool : Pool) (joins : Noted) (ids : List (Option ℕ)) (list : List ℕ) (before : ℕ) → i < length goes →
    get_or goes i None ≡ None → IsGoing family max lines at own (drop i goes) base pool joins ids list before →
    IsGoing family max lines at own (drop (i + 1) goes) base pool joins ids list before
going-skip family max lines at own goes i base pool joins ids list before less none going = record {
  sound = going.sound;
  grows = going.grows;
  sized = going.sized;
  found = going.found;
  but = skip-place family lines at own (drop (i + 1) goes) (stacks_by pool ids) list
      (subst (λ (gs : List (Option ℕ)). AreHandedBut family lines at own gs (stacks_by pool ids) list)
      (drop-more goes i less ∙ ap (λ (o : Option ℕ). o ∷ drop (i + 1) goes) none) going.but);
  lighter = going.lighter;
}

-- control passes to a place
pub going-to : (line : Line) (goes : List (Option ℕ)) (i to : ℕ) → goes ≡ line.goes → i < length goes → get_or goes i None ≡ Some to →
    IsTrue (goes_to line to)
going-to line goes i to same less is =
    subst (λ (gs : List (Option ℕ)). IsTrue (goes_to (record { effect = line.effect; goes = gs; is_there = line.is_there; is_proper = line.is_proper }) to)) same
    (place-among goes i less to (ap (λ (o : Option ℕ). is_place to o) is ∙ eq-eqb to to refl))

pub going-within : (lines : List (Option Line)) (at to : ℕ) (line : Line) (ids : List (Option ℕ)) → LeadsInside lines →
    line_at lines at ≡ Some line → IsTrue (goes_to line to) → length ids ≡ length lines → to < length ids
going-within lines at to line ids inside here goes sized =
    let less = inside at to line here goes in
    omega (arith, less, sized)

pub going-even : (family : Family) (max : ℕ) (lines : List (Option Line)) (at to id : ℕ) (own after : List Held) (line : Line) (pool : Pool)
    (ids : List (Option ℕ)) (list : List ℕ) → IsTurn family max lines at own after line → IsTrue (goes_to line to) →
    AreStacks family max lines (stacks_by pool ids) list → get_or ids to None ≡ Some id → length (stack_by pool id) ≡ length after
going-even family max lines at to id own after line pool ids list turn goes found some =
    one-depth max lines at (length own) to line turn.clean turn.is_at goes (length (stack_by pool id))
    (found.shape to (stack_by pool id) (by-some pool ids to id some))
    ∙ sym (turn-length family max lines at own after line turn)

-- one more place has met the stack
pub going-next : (family : Family) (max : ℕ) (lines : List (Option Line)) (at to id : ℕ) (own after : List Held) (line : Line)
    (goes : List (Option ℕ)) (i : ℕ) (base old new : Pool) (joins new-joins : Noted) (ids new-ids : List (Option ℕ))
    (listed list : List ℕ) (before : ℕ) → IsTurn family max lines at own after line → AreRanks family → LeadsInside lines →
    goes ≡ line.goes → i < length goes → get_or goes i None ≡ Some to → stack_by base id ≡ after → id < length base →
    IsGoing family max lines at own (drop i goes) base old joins ids listed before → IsSound family new new-joins new-ids →
    Grows old new → length new-ids ≡ length ids →
    HasMet family (stack_by old id) to (stacks_by old ids) (stacks_by new new-ids) listed list →
    IsGoing family max lines at own (drop (i + 1) goes) base new new-joins new-ids list before
going-next family max lines at to id own after line goes i base old new joins new-joins ids new-ids listed list before turn ranks inside same less
    is made within going sound grows sized met =
    let lighter = met-lighter family max turn.merging ranks after to (stacks_by old ids) (stacks_by new new-ids) listed list there
    (by-length old ids ∙ (sym sized ∙ sym (by-length new new-ids)))
    (subst (λ (n : ℕ). to < n) (sym (by-length old ids)) (going-within lines at to line ids inside turn.is_at.here control going.sized))
    deep even in
    let first = going.lighter in
    record {
      sound = sound;
      grows = grows-on base old new going.grows grows;
      sized = sized ∙ going.sized;
      found = stacks-met family max lines at to own after line (stacks_by old ids) (stacks_by new new-ids) listed list can there going.found;
      but = handed-met family max lines at to own after line (drop (i + 1) goes) (stacks_by old ids) (stacks_by new new-ids) listed list can
          there going.found
          (subst (λ (gs : List (Option ℕ)). AreHandedBut family lines at own gs (stacks_by old ids) listed)
          (drop-more goes i less ∙ ap (λ (o : Option ℕ). o ∷ drop (i + 1) goes) is) going.but);
      lighter = omega (arith, lighter, first);
    }
  where
    control : IsTrue (goes_to line to)
    control = going-to line goes i to same less is

    can : CanMeet family max lines at to own after line
    can = can-meet family max lines at to own after line turn control

    there : HasMet family after to (stacks_by old ids) (stacks_by new new-ids) listed list
    there = subst (λ (s : List Held). HasMet family s to (stacks_by old ids) (stacks_by new new-ids) listed list)
        (going.grows.stays id within ∙ made) met

    size : length after ≡ depth_after line.effect (length own)
    size = turn-length family max lines at own after line turn

    deep : length after ≤ max
    deep = let all = deep-after max lines at (length own) line turn.clean turn.is_at in omega (arith, size, all)

    even : (s : List Held) → stack_at (stacks_by old ids) to ≡ Some s → length s ≡ length after
    even s has =
        one-depth max lines at (length own) to line turn.clean turn.is_at control (length s) (going.found.shape to s has) ∙ sym size

-- each place has met it
pub going-last : (family : Family) (max : ℕ) (lines : List (Option Line)) (at : ℕ) (own : List Held) (goes : List (Option ℕ)) (i : ℕ)
    (base pool : Pool) (joins : Noted) (ids : List (Option ℕ)) (list : List ℕ) (before : ℕ) → length goes ≤ i →
    IsGoing family max lines at own (drop i goes) base pool joins ids list before → AreSought family max lines (stacks_by pool ids) list
going-last family max lines at own goes i base pool joins ids list before past going = record {
  sized = by-length pool ids ∙ going.sized;
  found = going.found;
  handed = end-turn family lines at own (stacks_by pool ids) list
      (subst (λ (gs : List (Option ℕ)). AreHandedBut family lines at own gs (stacks_by pool ids) list) (none goes i past) going.but);
}
  where
    none : (goes : List (Option ℕ)) (i : ℕ) → length goes ≤ i → drop i goes ≡ []
    none [] zero less = refl
    none [] (suc i) less = refl
    none (g ∷ goes) zero less = absurd (omega (arith, less))
    none (g ∷ goes) (suc i) less = none goes i (omega (arith, less))
