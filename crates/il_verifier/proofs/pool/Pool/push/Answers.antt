use Rattle.std.proofs.Common.{◌≡◌, ℕ, ◌+◌, ◌++◌, ◌∷◌, [], List, length, sym, ap, subst, ◌∙◌, arith}
use Rattle.il_verifier.specs.declared.pool.Node.{Node}
use Rattle.il_verifier.specs.Pools.{pool_of, stack_by, AreLaid, IsMade}
use Rattle.il_verifier.proofs.Pools.{Pool, pool-length, laid-push, made-push}
use Rattle.il_verifier.proofs.pool.Pool.push.Goals as goal

pub invariant_of-self-2 : goal.invariant_of-self-2
invariant_of-self-2 c =
    let nodes : List Node = c.self.inside.nodes.items in
    let node : Node = record { held = c.args.held; below = c.args.below } in
    let all : length c.args.self.now ≡ length nodes + 1 =
    ap (λ (pool : Pool). length pool) (sym c.self.view_is) ∙ pool-length nodes in
    subst (λ (xs : List Node). AreLaid 1 xs) (sym c.in_ok-push.ensures.items)
    (laid-push nodes node 1 c.self.invariant (omega (arith, all, c.requires)))

pub returns : goal.returns
returns c =
    let nodes : List Node = c.self.inside.nodes.items in
    let node : Node = record { held = c.args.held; below = c.args.below } in
    let id : length nodes + 1 ≡ c.len.result =
    omega (arith, c.len.ensures, c.in_ok-push.ensures.len, c.self.inside.nodes.ok) in
    subst (λ (pool : Pool). IsMade pool (pool_of c.push.new.self.items) (stack_by pool c.args.below ++ c.args.held ∷ []) c.len.result)
    c.self.view_is
    (subst (λ (xs : List Node). IsMade (pool_of nodes) (pool_of xs) (stack_by (pool_of nodes) c.args.below ++ c.args.held ∷ []) c.len.result)
    (sym c.in_ok-push.ensures.items)
    (subst (λ (k : ℕ). IsMade (pool_of nodes) (pool_of (nodes ++ node ∷ [])) (stack_by (pool_of nodes) c.args.below ++ c.args.held ∷ []) k) id
    (made-push nodes node)))
