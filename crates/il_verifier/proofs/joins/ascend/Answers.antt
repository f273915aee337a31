use Rattle.std.proofs.Common.{◌≡◌, ◌++◌, ◌∷◌, [], Option, List, sym, ap, subst}
use Rattle.il_verifier.specs.declared.joins.Pair.{Pair}
use Rattle.il_verifier.specs.declared.joins.Join.{Join}
use Rattle.il_flow.specs.Merging.{Held}
use Rattle.il_verifier.specs.declared.pairs.Entry.{Entry}
use Rattle.il_verifier.specs.Pools.{IsWay, IsStep, AreJoins, AreMerges, Noted}
use Rattle.il_verifier.proofs.Pools.{Pool, grows-on}
use Rattle.il_verifier.proofs.Ways.{way-last, way-grows, joins-grow, joins-noted}
use Rattle.il_verifier.proofs.joins.ascend.Goals as goal

-- the way above the pair that was taken, and the step to the one below it
last : (pool : Pool) (path rest : List Pair) (start pair end : Pair) → path ≡ rest ++ pair ∷ [] → IsWay pool start path end →
    IsWay pool start rest pair × IsStep pool pair end
last pool path rest start pair end is way =
    way-last pool rest start pair end (subst (λ (ps : List Pair). IsWay pool start ps end) is way)

pub raise-requires-clause-step : goal.raise-requires-clause-step
raise-requires-clause-step g c =
    (last c.up.pool c.up.path.items c.pop.new.self.items c.args.start c.in-Some.pair c.up.join.pair c.in-Some.ensures.items
    c.up.invariant.way).1

pub raise-requires-clause-merges : goal.raise-requires-clause-merges
raise-requires-clause-merges g c =
    subst (λ (es : List (Entry Held)). AreMerges (g.P.Parents.family c.args.parents.now) es)
    (sym (ap (λ (n : Noted). n.merges) c.joins.view_is)) c.up.invariant.joins.merges

pub up-preserved : goal.up-preserved
up-preserved g c =
    let family = g.P.Parents.family c.args.parents.now in
    let new = c.raise.new.pool in
    let above : IsWay c.up.pool c.args.start c.pop.new.self.items c.in-Some.pair =
    (last c.up.pool c.up.path.items c.pop.new.self.items c.args.start c.in-Some.pair c.up.join.pair c.in-Some.ensures.items
    c.up.invariant.way).0 in
    let joins = subst (λ (js : List (Option Join)). AreJoins family new js)
    (sym (ap (λ (n : Noted). n.joins) c.joins.view_is))
    (joins-grow family c.up.pool new c.up.joins.joins c.in_ok-join.ensures.grows c.up.invariant.joins.joins) in
    record {
      grows = grows-on c.args.pool.now c.up.pool new c.up.invariant.grows c.in_ok-join.ensures.grows;
      way = subst (λ (p : Pair). IsWay new c.args.start c.pop.new.self.items p) (sym c.in_ok-join.ensures.pair)
          (way-grows c.up.pool new c.pop.new.self.items c.args.start c.in-Some.pair c.in_ok-join.ensures.grows above);
      join = c.in_ok-join.ensures.join;
      joins = record {
        joins = joins-noted family new c.joins.inside.kept.items c.note.new.self.joins c.in_ok-join.join c.note.ensures.joins joins c.in_ok-join.ensures.join;
        merges = subst (λ (es : List (Entry Held)). AreMerges family es) (sym c.note.ensures.merges) c.in_ok-join.ensures.merges;
      };
    }
