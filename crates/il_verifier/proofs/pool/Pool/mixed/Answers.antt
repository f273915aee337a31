use Rattle.std.proofs.Common.{◌≡◌, ◌<◌, Bool, false, ◌||◌, List, length, get_or, is_none, sym, subst, ◌∙◌}
use Rattle.il_verifier.specs.declared.pool.Node.{Node}
use Rattle.il_verifier.specs.Pools.{AreLaid}
use Rattle.il_verifier.proofs.Pools.{mixed-more, marks-length}
use Rattle.il_verifier.proofs.pool.Pool.mixed.Goals as goal

pub is_mixed-mark-requires : goal.is_mixed-mark-requires
is_mixed-mark-requires c =
    let nodes : List Node = c.deref-node-items.result.now in
    subst (λ (ms : List Bool). c.node-item.result.below < length ms) (sym c.deref.ensures.value)
    (marks-length nodes c.loop-node.node-index c.node-item.result c.loop-node.marks.items
    (subst (λ (ns : List Node). AreLaid 1 ns) (sym c.deref-node-items.ensures.value) c.self.invariant) c.loop-node-test.true c.node-item.is c.loop-node.invariant)

pub loop-node-preserved : goal.loop-node-preserved
loop-node-preserved c =
    let nodes : List Node = c.deref-node-items.result.now in
    c.in_ok-push.ensures.items
    ∙ mixed-more nodes c.loop-node.node-index c.node-item.result c.loop-node.marks.items c.is_mixed-mark.result
    (subst (λ (ns : List Node). AreLaid 1 ns) (sym c.deref-node-items.ensures.value) c.self.invariant) c.loop-node-test.true c.node-item.is c.loop-node.invariant
    (subst (λ (ms : List Bool). c.is_mixed-mark.result ≡ (get_or ms c.node-item.result.below false || is_none c.node-item.result.held)) c.deref.ensures.value c.is_mixed-mark.ensures)
