use Rattle.std.proofs.Common.{◌≡◌, ℕ, ◌<◌, ◌++◌, ◌∷◌, [], Bool, true, false, not, cond, Some, None, List, is_some, is_none, length, set, refl, sym, ap, subst, ◌∙◌, length-set, arith}
use Rattle.std.proofs.lemmas.List.{get_or_read}
use Rattle.il_verifier.specs.Depths.{is_place}
use Rattle.il_verifier.specs.Search.{depth_at, found_at, lesser, AreNoted, AreListed}
use Rattle.il_verifier.proofs.Oks.{on-ok, on-then}
use Rattle.il_verifier.proofs.Notes.{Best, noted-kept, listed-kept, noted-set, listed-set}
use Rattle.il_verifier.proofs.depth.note.Goals as goal

pub returns-then-is_some : goal.returns-then-is_some
returns-then-is_some c =
    let depths = c.args.depths.now in
    let found = c.args.found.now.items in
    let some : is_some (depth_at depths c.args.to) ≡ true = cc in
    record {
      kept = refl;
      noted = noted-kept depths c.args.to c.args.from c.args.depth found some;
      listed = listed-kept depths c.args.to found c.args.next.now.items some;
    }

is-none : (o : Best) (b : Bool) → is_some o ≡ not b → b ≡ is_none o
is-none None true e = refl
is-none None false e = absurd (cc e)
is-none (Some x) true e = absurd (cc e)
is-none (Some x) false e = refl

pub returns : goal.returns
returns c =
    let depths = c.args.depths.now in
    let found = c.args.found.now.items in
    let next = c.args.next.now.items in
    let to = c.args.to in
    let none : is_some (depth_at depths to) ≡ false = cc in
    let within : to < length found = omega (arith, c.requires.within, c.requires.sized) in
    let read : c.index.result.now ≡ found_at found to = get_or_read found to c.index.result.now within c.index.ensures None in
    let new : lesser (found_at found to) c.args.from c.args.depth ≡ c.lesser.result =
    sym (c.lesser.ensures ∙ ap (λ (b : Best). lesser b c.args.from c.args.depth) read) in
    let tested : c.is_none.result ≡ is_none (found_at found to) =
    is-none c.index.result.now c.is_none.result c.is_none.ensures ∙ ap (λ (b : Best). is_none b) read in
    record {
      kept = length-set found to c.lesser.result;
      noted = on-ok c.push_new.result
          (subst (λ (b : Best). AreNoted depths (λ k. is_place k (Some to)) c.args.from c.args.depth found (set found to b)) new
          (noted-set depths to c.args.from c.args.depth found within none));
      listed = on-then c.push_new.result
          (λ is.
          subst (λ (xs : List ℕ). AreListed depths (λ k. is_place k (Some to)) found next xs)
          (sym (is ∙ ap (λ (b : Bool). cond b (next ++ to ∷ []) next) tested))
          (listed-set depths to found next none))
          c.push_new.ensures;
    }
