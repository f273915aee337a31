use Rattle.std.proofs.Common.{◌≡◌, ◌-◌, ◌+◌, ◌++◌, [], ◌∷◌, List, sym, ap, ◌∙◌, arith}
use Rattle.il_flow.specs.Merging.{chain, chain_of}
use Rattle.il_flow.proofs.Order.{Key}
use Rattle.il_flow.proofs.Chains.{one-more, no-more, spent}
use Rattle.il_flow.proofs.classes.chain.Goals.{else-loop-test, then-loop-test+in_ok-next+in_default}
use Rattle.il_flow.proofs.classes.chain.Goals as goal

pub loop-init : goal.loop-init
loop-init g c =
    let family = g.P.Parents.family c.args.parents.now in
    record {
      few = omega arith;
      made =
          ap (λ (keys : List Key). keys ++ chain family 65 c.in_ok-last.last) c.new-keys.ensures.items
          ∙ ap (λ (key : Key). chain family 65 key) c.in_ok-last.ensures;
    }

pub loop-preserved : goal.loop-preserved
loop-preserved g c =
    let family = g.P.Parents.family c.args.parents.now in
    let items : c.push.new.self.items ≡ c.loop.keys.items ++ c.loop.last ∷ [] =
    c.in_ok-push.ensures.items ∙ ap (λ (key : Key). c.loop.keys.items ++ key ∷ []) c.replace.ensures.value in
    record {
      few = omega arith;
      made =
          ap (λ (keys : List Key). keys ++ chain family (65 - (c.loop.counter + 1)) c.replace.new.dest) items
          ∙ (ap (λ (key : Key). (c.loop.keys.items ++ c.loop.last ∷ []) ++ chain family (65 - (c.loop.counter + 1)) key)
          c.replace.ensures.after
          ∙ one-more family c.loop.keys.items (chain_of family c.args.key.now) c.loop.counter c.loop.last
          c.in-Some.next c.loop-test.true (sym c.in_ok-next.ensures ∙ c.in-Some.is) c.loop.invariant.made);
    }

pub returns : goal.returns
returns g c =
    let family = g.P.Parents.family c.args.parents.now in
    c.in_ok-push-2.ensures.items ∙ elim c.loop-test.branch [
      | else-loop-test w ↦
          spent family c.loop.keys.items (chain_of family c.args.key.now) (65 - c.loop.counter) c.loop.last
          (omega (arith, c.loop.invariant.few, w.loop-test.false)) c.loop.invariant.made
      | then-loop-test+in_ok-next+in_default w ↦
          no-more family c.loop.keys.items (chain_of family c.args.key.now) (65 - c.loop.counter) c.loop.last
          (sym w.in_ok-next.ensures ∙ w.in_default.is) c.loop.invariant.made
    ]
