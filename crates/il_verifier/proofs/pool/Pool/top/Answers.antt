use Rattle.std.proofs.Common.{◌≡◌, ◌+◌, ◌-◌, ◌<◌, Some, None, List, length, sym, ap, subst, ◌∙◌, arith}
use Rattle.il_verifier.specs.declared.pool.Node.{Node}
use Rattle.il_verifier.specs.Pools.{IsTop}
use Rattle.il_verifier.proofs.Pools.{Pool, pool-length, top-none, top-some}
use Rattle.il_verifier.proofs.pool.Pool.top.Goals as goal

pub returns-then-id-eq0 : goal.returns-then-id-eq0
returns-then-id-eq0 c =
    subst (λ (pool : Pool). IsTop pool c.args.id None) c.self.view_is
    (top-none c.self.inside.nodes.items c.args.id c.if-id-eq0.true)

pub index-requires : goal.index-requires
index-requires c =
    let size = pool-length c.self.inside.nodes.items in
    let all : length c.args.self.now ≡ length c.self.inside.nodes.items + 1 =
    ap (λ (pool : Pool). length pool) (sym c.self.view_is) ∙ size in
    omega (arith, all, c.requires, c.self.inside.nodes.ok, c.if-id-eq0.false)

pub returns : goal.returns
returns c =
    let nodes : List Node = c.self.inside.nodes.items in
    let size = pool-length nodes in
    let all : length c.args.self.now ≡ length nodes + 1 =
    ap (λ (pool : Pool). length pool) (sym c.self.view_is) ∙ size in
    let e : c.args.id ≡ 1 + (c.args.id - 1) = omega (arith, c.if-id-eq0.false) in
    let less : c.args.id - 1 < length nodes = omega (arith, all, c.requires, c.if-id-eq0.false) in
    subst (λ (pool : Pool). IsTop pool c.args.id (Some c.index.result.now)) c.self.view_is
    (top-some nodes c.args.id (c.args.id - 1) c.index.result.now c.self.invariant e less c.index.ensures)
