use Rattle.std.proofs.Common.{◌≡◌, ℕ, ◌+◌, ◌<◌, ◌≤◌, Option, Some, None, List, [], ◌∷◌, length, max, min, vec_len, suc, subst, sym, ap, ◌∙◌, arith, Bool, true, false, eqb, cond}
use Rattle.std.specs.Prelude.{replicate}
use Rattle.std.specs.List.{All}
use Rattle.std.proofs.lemmas.List.{length-replicate, nil_from_length}
use Rattle.std.proofs.lemmas.List.Elements.{All-cons, All-nil}
use Rattle.std.proofs.lemmas.Bool.{eqb-true, eqb-false}
use Rattle.il_verifier.specs.Depths.{start}
use Rattle.il_verifier.specs.Search.{depth_at, found_at, AreLow, HasSought, missing}
use Rattle.il_verifier.proofs.Notes.{Best}
use Rattle.il_verifier.proofs.Rounds.{sought-first, all-sought}
use Rattle.il_verifier.proofs.Starts.{nothing-at}
use Rattle.il_verifier.proofs.depth.depths.Goals as goal

start-low : (max : ℕ) (depths : List (Option ℕ)) → ((at : ℕ) → depth_at depths at ≡ start at) → AreLow max depths
start-low max depths is at d has = by (eqb at 0) (sym (is at) ∙ has)
  where
    by : (b : Bool) → cond {A = Option ℕ} b (Some 0) None ≡ Some d → d ≤ max
    by true e = let zero : 0 ≡ d = cc e in omega (arith, zero)
    by false e = absurd (cc e)

pub rounds-init : goal.rounds-init
rounds-init c =
    let depths : List (Option ℕ) = c.in_ok-depths.depths.items in
    let found : List Best = c.in_ok-found.found.items in
    let newest : List ℕ = c.in_ok-newest.newest.items in
    let all : found ≡ replicate {A = Best} c.max-size.result None = c.in_ok-found.ensures in
    let size : length found ≡ c.max-size.result = ap length all ∙ length-replicate c.max-size.result None in
    let one : newest ≡ 0 ∷ [] = c.in_ok-newest.ensures.items in
    record {
      long = omega (arith, c.in_ok-depths.ensures.len, c.max-size.ensures);
      sized = size ∙ sym c.in_ok-depths.ensures.len;
      low = start-low c.args.max depths c.in_ok-depths.ensures.start;
      clear = λ to none. ap (λ (fs : List Best). found_at fs to) all ∙ nothing-at c.max-size.result to;
      within = subst (λ (xs : List ℕ). All (λ to. to < length depths) xs) (sym one)
          (All-cons (λ to. to < length depths) 0 [] (omega (arith, c.in_ok-depths.ensures.len, c.max-size.ensures))
          (All-nil (λ to. to < length depths)));
      sought = (
        0,
        subst (λ (xs : List ℕ). HasSought c.args.max c.args.lines.now 0 depths xs) (sym one)
            (sought-first c.args.max c.args.lines.now depths c.in_ok-depths.ensures.start),
      );
    }

pub advance-requires : goal.advance-requires
advance-requires c = record {
  inside = c.requires;
  long = c.rounds.invariant.long;
  low = c.rounds.invariant.low;
  within = subst (λ (xs : List ℕ). All (λ to. to < length c.rounds.depths.items) xs) (sym c.deref.ensures.value)
      c.rounds.invariant.within;
  sized = c.rounds.invariant.sized;
  clear = c.rounds.invariant.clear;
}

pub rounds-smaller : goal.rounds-smaller
rounds-smaller c =
    let some : vec_len c.rounds.newest ≡ 0 → ⊥ =
    eqb-false (vec_len c.rounds.newest) 0 (sym c.is_empty.ensures ∙ c.rounds-test.true) in
    let less : missing c.advance.new.depths.items + min 1 (length c.in_ok-newest-2.newest.items)
    < missing c.rounds.depths.items + min 1 (length c.rounds.newest.items) =
    omega (arith, c.in_ok-newest-2.ensures.fewer, some, c.rounds.newest.ok) in
    less

pub rounds-preserved : goal.rounds-preserved
rounds-preserved c = record {
  long = omega (arith, c.in_ok-newest-2.ensures.kept, c.rounds.invariant.long);
  sized = c.in_ok-newest-2.ensures.sized;
  low = c.in_ok-newest-2.ensures.low;
  clear = c.in_ok-newest-2.ensures.clear;
  within = c.in_ok-newest-2.ensures.within;
  sought = (
    suc c.rounds.invariant.sought.0,
    c.in_ok-newest-2.ensures.sought c.rounds.invariant.sought.0
        (subst (λ (xs : List ℕ). HasSought c.args.max c.args.lines.now c.rounds.invariant.sought.0 c.rounds.depths.items xs)
        (sym c.deref.ensures.value) c.rounds.invariant.sought.1),
  );
}

pub returns : goal.returns
returns c =
    let empty : vec_len c.rounds.newest ≡ 0 =
    eqb-true (vec_len c.rounds.newest) 0 (sym c.is_empty.ensures ∙ c.rounds-test.false) in
    let none : c.rounds.newest.items ≡ [] =
    nil_from_length c.rounds.newest.items (omega (arith, empty, c.rounds.newest.ok)) in
    record {
      depths = all-sought c.args.max c.args.lines.now c.rounds.invariant.sought.0 c.rounds.depths.items
          (subst (λ (xs : List ℕ). HasSought c.args.max c.args.lines.now c.rounds.invariant.sought.0 c.rounds.depths.items xs)
          none c.rounds.invariant.sought.1);
      low = c.rounds.invariant.low;
      long = c.rounds.invariant.long;
    }
