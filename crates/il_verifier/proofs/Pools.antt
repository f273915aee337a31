-- Stacks by their numbers.
use Rattle.std.proofs.Common.{◌≡◌, ◌⊎◌, inl, inr, ℕ, zero, suc, ◌+◌, ◌-◌, ◌<◌, ◌≤◌, Bool, true, false, ◌||◌, Option, Some, None, is_none, List, [], ◌∷◌, ◌++◌, length, map, take, drop, get_or, refl, sym, ap, subst, ◌∙◌, arith, append_assoc}
use Rattle.std.specs.List.{fold, list_any}
use Rattle.std.proofs.lemmas.List.{length-append, get_or_append_left, append-nil, length-take-le, take_all, take_more, map-append, get_or-map, length-map, reverse-append}
use mathlib.Core.List.{reverse}
use Rattle.std.proofs.Math.Seq.{get_or-append_seam, take-append_seam, drop-append_seam}
use Rattle.std.proofs.lemmas.List.Sums.{fold_push}
use Rattle.std.proofs.lemmas.List.Folds.{list_any-append}
use Rattle.il_flow.specs.Merging.{Held}
use Rattle.il_verifier.specs.declared.pool.Node.{Node}
use Rattle.il_verifier.specs.Pools.{stack_by, with_node, pool_of, AreLaid, IsOn, IsTop, Grows, IsMade}

abbrev pub Pool : Type 0
Pool = List (List Held)

-- one node more
pub pool-push : (nodes : List Node) (node : Node) → pool_of (nodes ++ node ∷ []) ≡ with_node (pool_of nodes) node
pool-push nodes node = fold_push with_node ([] ∷ []) nodes node

longer : (pool : Pool) (node : Node) → length (with_node pool node) ≡ length pool + 1
longer pool node = length-append pool ((stack_by pool node.below ++ node.held ∷ []) ∷ [])

fold-length : (nodes : List Node) (pool : Pool) → length (fold with_node pool nodes) ≡ length pool + length nodes
fold-length [] pool = omega arith
fold-length (node ∷ nodes) pool =
    let rest = fold-length nodes (with_node pool node) in
    let one = longer pool node in
    omega (arith, rest, one)

pub pool-length : (nodes : List Node) → length (pool_of nodes) ≡ length nodes + 1
pool-length nodes = let all = fold-length nodes ([] ∷ []) in omega (arith, all)

-- what is there stays
with-stays : (pool : Pool) (node : Node) (id : ℕ) → id < length pool → stack_by (with_node pool node) id ≡ stack_by pool id
with-stays pool node id less =
    get_or_append_left pool ((stack_by pool node.below ++ node.held ∷ []) ∷ []) [] id less

pub fold-stays : (nodes : List Node) (pool : Pool) (id : ℕ) → id < length pool →
    stack_by (fold with_node pool nodes) id ≡ stack_by pool id
fold-stays [] pool id less = refl
fold-stays (node ∷ nodes) pool id less =
    fold-stays nodes (with_node pool node) id (omega (arith, longer pool node, less))
    ∙ with-stays pool node id less

with-last : (pool : Pool) (node : Node) →
    stack_by (with_node pool node) (length pool) ≡ stack_by pool node.below ++ node.held ∷ []
with-last pool node = get_or-append_seam pool (stack_by pool node.below ++ node.held ∷ []) [] []

-- the stack that a node makes
fold-at : (nodes : List Node) (pool : Pool) (n i : ℕ) (d : Node) → n ≡ length pool → AreLaid n nodes → i < length nodes →
    ((get_or nodes i d).below < n + i)
    × (stack_by (fold with_node pool nodes) (n + i)
    ≡ stack_by (fold with_node pool nodes) (get_or nodes i d).below ++ (get_or nodes i d).held ∷ [])
fold-at [] pool n i d size laid less = absurd (omega (arith, less))
fold-at (node ∷ nodes) pool n zero d size laid less =
    let in-pool : node.below < length pool = omega (arith, laid.0, size) in
    let last-in : length pool < length (with_node pool node) = omega (arith, longer pool node) in
    let below-in : node.below < length (with_node pool node) = omega (arith, longer pool node, in-pool) in
    let here : n + 0 ≡ length pool = omega (arith, size) in (
      omega (arith, laid.0),
      ap (λ k. stack_by (fold with_node (with_node pool node) nodes) k) here
          ∙ (fold-stays nodes (with_node pool node) (length pool) last-in
          ∙ (with-last pool node
          ∙ ap (λ s. s ++ node.held ∷ [])
          (sym (fold-stays nodes (with_node pool node) node.below below-in ∙ with-stays pool node node.below in-pool)))),
    )
fold-at (node ∷ nodes) pool n (suc i) d size laid less =
    let more : suc n ≡ length (with_node pool node) = omega (arith, longer pool node, size) in
    let rest = fold-at nodes (with_node pool node) (suc n) i d more laid.1 (omega (arith, less)) in
    let e : n + suc i ≡ suc n + i = omega arith in (
      omega (arith, rest.0),
      ap (λ k. stack_by (fold with_node (with_node pool node) nodes) k) e ∙ rest.1,
    )

pub pool-at : (nodes : List Node) (i : ℕ) (d : Node) → AreLaid 1 nodes → i < length nodes →
    ((get_or nodes i d).below < 1 + i)
    × (stack_by (pool_of nodes) (1 + i)
    ≡ stack_by (pool_of nodes) (get_or nodes i d).below ++ (get_or nodes i d).held ∷ [])
pool-at nodes i d laid less = fold-at nodes ([] ∷ []) 1 i d refl laid less

pub pool-zero : (nodes : List Node) → stack_by (pool_of nodes) 0 ≡ []
pool-zero nodes = fold-stays nodes ([] ∷ []) 0 (omega arith)

-- the top of a stack
pub top-none : (nodes : List Node) (id : ℕ) → id ≡ 0 → IsTop (pool_of nodes) id None
top-none nodes id e = (e, ap (λ k. stack_by (pool_of nodes) k) e ∙ pool-zero nodes)

pub top-some : (nodes : List Node) (id i : ℕ) (node : Node) → AreLaid 1 nodes → id ≡ 1 + i → i < length nodes →
    node ≡ get_or nodes i node → IsTop (pool_of nodes) id (Some node)
top-some nodes id i node laid e less is =
    let at = pool-at nodes i node laid less in
    record {
      within = omega (arith, pool-length nodes, e, less);
      lesser = subst (λ k. k.below < id) (sym is) (omega (arith, at.0, e));
      is = ap (λ k. stack_by (pool_of nodes) k) e
          ∙ (at.1 ∙ ap (λ (k : Node). stack_by (pool_of nodes) k.below ++ k.held ∷ []) (sym is));
    }

-- one more node is laid
pub laid-push : (nodes : List Node) (node : Node) (n : ℕ) → AreLaid n nodes → node.below < n + length nodes →
    AreLaid n (nodes ++ node ∷ [])
laid-push [] node n laid less = (omega (arith, less), tt)
laid-push (x ∷ nodes) node n laid less = (laid.0, laid-push nodes node (suc n) laid.1 (omega (arith, less)))

pub laid-take : (nodes : List Node) (i n : ℕ) → AreLaid n nodes → AreLaid n (take i nodes)
laid-take nodes zero n laid = tt
laid-take [] (suc i) n laid = tt
laid-take (x ∷ nodes) (suc i) n laid = (laid.0, laid-take nodes i (suc n) laid.1)

pub laid-at : (nodes : List Node) (i n : ℕ) (d : Node) → AreLaid n nodes → i < length nodes → (get_or nodes i d).below < n + i
laid-at [] i n d laid less = absurd (omega (arith, less))
laid-at (x ∷ nodes) zero n d laid less = omega (arith, laid.0)
laid-at (x ∷ nodes) (suc i) n d laid less =
    let rest = laid-at nodes i (suc n) d laid.1 (omega (arith, less)) in
    omega (arith, rest)

-- what is made
pub grows-same : (pool : Pool) → Grows pool pool
grows-same pool = record { more = omega arith; stays = λ id less. refl }

pub grows-on : (a b c : Pool) → Grows a b → Grows b c → Grows a c
grows-on a b c ab bc = record {
  more = omega (arith, ab.more, bc.more);
  stays = λ id less. bc.stays id (omega (arith, ab.more, less)) ∙ ab.stays id less;
}

pub made-push : (nodes : List Node) (node : Node) →
    IsMade (pool_of nodes) (pool_of (nodes ++ node ∷ [])) (stack_by (pool_of nodes) node.below ++ node.held ∷ []) (length nodes + 1)
made-push nodes node =
    let is = pool-push nodes node in
    let size = pool-length nodes in
    let one = longer (pool_of nodes) node in
    let more = ap (λ (p : Pool). length p) is in
    record {
      grows = record {
        more = omega (arith, one, more);
        stays = λ id less. ap (λ (p : Pool). stack_by p id) is ∙ with-stays (pool_of nodes) node id less;
      };
      within = omega (arith, one, more, size);
      is = ap (λ (p : Pool). stack_by p (length nodes + 1)) is
          ∙ (ap (λ k. stack_by (with_node (pool_of nodes) node) k) (sym size) ∙ with-last (pool_of nodes) node);
    }

pub made-none : (pool : Pool) (id : ℕ) → id < length pool → IsMade pool pool (stack_by pool id ++ []) id
made-none pool id less = record {
  grows = grows-same pool;
  within = less;
  is = sym (append-nil (stack_by pool id));
}

-- one gift more
pub made-more : {G : Type 0} (f : G → Held) (gives : List G) (i : ℕ) (d : G) (a b c : Pool) (s : List Held) (id next : ℕ) (held : Held) →
    i < length gives → held ≡ f (get_or gives i d) → IsMade a b (s ++ map f (take i gives)) id →
    IsMade b c (stack_by b id ++ held ∷ []) next → IsMade a c (s ++ map f (take (i + 1) gives)) next
made-more f gives i d a b c s id next held less is first then = record {
  grows = grows-on a b c first.grows then.grows;
  within = then.within;
  is = then.is
      ∙ (ap (λ (t : List Held). t ++ held ∷ []) first.is
      ∙ (append_assoc s (map f (take i gives)) (held ∷ [])
      ∙ ap (λ (t : List Held). s ++ t) (sym all)));
}
  where
    all : map f (take (i + 1) gives) ≡ map f (take i gives) ++ held ∷ []
    all = ap (λ t. map f t) (take_more gives i d less)
        ∙ (map-append f (take i gives) (get_or gives i d ∷ [])
        ∙ ap (λ (h : Held). map f (take i gives) ++ h ∷ []) (sym is))

-- the lower part of a stack and the upper one
pub top-off : (s low : List Held) (held : Held) → s ≡ low ++ held ∷ [] → low ≡ take (length s - 1) s
top-off s low held is =
    let size : length s ≡ length low + 1 = ap length is ∙ length-append low (held ∷ []) in
    let k : length s - 1 ≡ length low = omega (arith, size) in
    sym (ap (λ n. take n s) k ∙ (ap (λ (t : List Held). take (length low) t) is ∙ take-append_seam low (held ∷ [])))

pub none-off : (s : List Held) → s ≡ [] → s ≡ take (length s - 1) s
none-off s is = subst (λ (t : List Held). t ≡ take (length t - 1) t) (sym is) refl

take-in-take : {A : Type 0} (s : List A) (k n : ℕ) → k ≤ n → take k (take n s) ≡ take k s
take-in-take s zero n less = refl
take-in-take [] (suc k) zero less = refl
take-in-take [] (suc k) (suc n) less = refl
take-in-take (x ∷ s) (suc k) zero less = absurd (omega (arith, less))
take-in-take (x ∷ s) (suc k) (suc n) less = ap (λ t. x ∷ t) (take-in-take s k n (omega (arith, less)))

pub take-less : (s low next : List Held) (i : ℕ) → low ≡ take (length s - i) s → next ≡ take (length low - 1) low →
    next ≡ take (length s - (i + 1)) s
take-less s low next i is then =
    let size : length low ≡ length s - i = ap length is ∙ length-take-le (length s - i) s (omega arith) in
    let k : length low - 1 ≡ length s - (i + 1) = omega (arith, size) in
    then ∙ (ap (λ n. take n low) k ∙ (ap (λ (t : List Held). take (length s - (i + 1)) t) is
    ∙ take-in-take s (length s - (i + 1)) (length s - i) (omega arith)))

pub take-none : (s : List Held) → s ≡ take (length s - 0) s
take-none s = sym (take_all (length s - 0) s (omega arith))

pub upper-is : (s low high : List Held) (n : ℕ) → s ≡ low ++ high →
    (length high ≡ n) ⊎ ((length high ≤ n) × (low ≡ [])) → high ≡ drop (length s - n) s
upper-is s low high n is (inl all) =
    let size : length s ≡ length low + length high = ap length is ∙ length-append low high in
    let k : length s - n ≡ length low = omega (arith, size, all) in
    sym (ap (λ m. drop m s) k ∙ (ap (λ (t : List Held). drop (length low) t) is ∙ drop-append_seam low high))
upper-is s low high n is (inr few) =
    let whole : s ≡ high = is ∙ ap (λ (t : List Held). t ++ high) few.1 in
    let size : length s ≡ length high = ap length whole in
    let k : length s - n ≡ 0 = omega (arith, size, few.0) in
    sym (ap (λ m. drop m s) k ∙ whole)

-- one mark more
pub mixed-more : (nodes : List Node) (i : ℕ) (node : Node) (marks : List Bool) (mark : Bool) → AreLaid 1 nodes → i < length nodes →
    node ≡ get_or nodes i node → marks ≡ map (list_any is_none) (pool_of (take i nodes)) →
    mark ≡ (get_or marks node.below false || is_none node.held) →
    marks ++ mark ∷ [] ≡ map (list_any is_none) (pool_of (take (i + 1) nodes))
mixed-more nodes i node marks mark laid less is all e =
    ap (λ (ms : List Bool). ms ++ mark ∷ []) all
    ∙ (ap (λ b. map f before ++ b ∷ []) (e ∙ (ap (λ b. b || is_none node.held) there ∙ sym new))
    ∙ (sym (map-append f before ((stack_by before node.below ++ node.held ∷ []) ∷ []))
    ∙ ap (λ (p : Pool). map f p) (sym grown)))
  where
    f : List Held → Bool
    f s = list_any is_none s

    before : Pool
    before = pool_of (take i nodes)

    size : length before ≡ i + 1
    size = let all = pool-length (take i nodes) in
        let part = length-take-le i nodes (omega (arith, less)) in
        omega (arith, all, part)

    below-in : node.below < length before
    below-in = let here = laid-at nodes i 1 node laid less in
        let same : node.below ≡ (get_or nodes i node).below = ap (λ (n : Node). n.below) is in
        omega (arith, here, same, size)

    there : get_or marks node.below false ≡ f (stack_by before node.below)
    there = ap (λ (ms : List Bool). get_or ms node.below false) all ∙ get_or-map f before node.below [] false below-in

    or-false : (b : Bool) → (b || false) ≡ b
    or-false true = refl
    or-false false = refl

    new : f (stack_by before node.below ++ node.held ∷ []) ≡ (f (stack_by before node.below) || is_none node.held)
    new = list_any-append is_none (stack_by before node.below) (node.held ∷ [])
        ∙ ap (λ b. f (stack_by before node.below) || b) (or-false (is_none node.held))

    grown : pool_of (take (i + 1) nodes) ≡ before ++ (stack_by before node.below ++ node.held ∷ []) ∷ []
    grown = ap (λ (ns : List Node). pool_of ns) (take_more nodes i node less ∙ ap (λ (n : Node). take i nodes ++ n ∷ []) (sym is))
        ∙ pool-push (take i nodes) node

pub marks-length : (nodes : List Node) (i : ℕ) (node : Node) (marks : List Bool) → AreLaid 1 nodes → i < length nodes →
    node ≡ get_or nodes i node → marks ≡ map (list_any is_none) (pool_of (take i nodes)) → node.below < length marks
marks-length nodes i node marks laid less is all =
    let here = laid-at nodes i 1 node laid less in
    let same : node.below ≡ (get_or nodes i node).below = ap (λ (n : Node). n.below) is in
    let size : length marks ≡ length (pool_of (take i nodes)) = ap length all ∙ length-map (pool_of (take i nodes)) (list_any is_none) in
    let whole = pool-length (take i nodes) in
    let part = length-take-le i nodes (omega (arith, less)) in
    omega (arith, here, same, size, whole, part)

-- an empty stack is the one with the number 0
pub zero-of : (pool : Pool) (id : ℕ) (o : Option Node) → IsTop pool id o → length (stack_by pool id) ≡ 0 → id ≡ 0
zero-of pool id None top e = top.0
zero-of pool id (Some node) top e =
    let size : length (stack_by pool id) ≡ length (stack_by pool node.below) + 1 =
    ap (λ (s : List Held). length s) top.is ∙ length-append (stack_by pool node.below) (node.held ∷ []) in
    absurd (omega (arith, size, e))

-- the top of a stack is taken
pub taken-top : (pool : Pool) (id below : ℕ) (held : Held) (old new : List Held) → IsOn pool id below held → new ≡ old ++ held ∷ [] →
    stack_by pool id ++ reverse old ≡ stack_by pool below ++ reverse new
taken-top pool id below held old new on is =
    ap (λ (s : List Held). s ++ reverse old) on.is
    ∙ (append_assoc (stack_by pool below) (held ∷ []) (reverse old)
    ∙ ap (λ (s : List Held). stack_by pool below ++ s) (sym (ap (λ (s : List Held). reverse s) is ∙ reverse-append old (held ∷ []))))
