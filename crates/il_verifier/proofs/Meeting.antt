-- A stack that is handed on to a place.
use Rattle.std.proofs.Common.{◌≡◌, ◌≢◌, ◌⊎◌, inl, inr, ℕ, suc, ◌+◌, ◌-◌, Bool, true, false, ◌||◌, IsTrue, is_some, Option, Some, None, List, [], ◌∷◌, length, map, eqb, refl, sym, ap, subst, ◌∙◌, Contains, arith}
use Rattle.std.proofs.lemmas.Bool.{cases_eq, eqb-true}
use Rattle.std.proofs.lemmas.List.{length-append, length-take-le, length-map}
use Rattle.il_flow.specs.Families.{Family}
use Rattle.il_flow.specs.Merging.{Held, AreUnder}
use Rattle.il_verifier.specs.declared.effect.Effect.{Effect}
use Rattle.il_verifier.specs.declared.line.Line.{Line}
use Rattle.il_verifier.specs.Effects.{takes, given, operands_on, below_operands, stack_after, depth_after}
use Rattle.il_verifier.specs.Lines.{line_at}
use Rattle.il_verifier.specs.Depths.{goes_to, is_place, IsReached}
use Rattle.il_verifier.specs.Typings.{Typing, IsClosed}
use Rattle.il_verifier.specs.Search.{is_among}
use Rattle.il_verifier.specs.Worklist.{met as meeting}
use Rattle.il_verifier.specs.Pools.{joined_all}
use Rattle.il_verifier.specs.Worklist.{Stacks, stack_at, met, IsListed, HasMet, AreStacks, IsHanded, AreHandedBut}
use Rattle.il_verifier.specs.Laws.{Rises}
use Rattle.il_verifier.proofs.Order.{IsMerging}

-- place by place
pub zip-same : (family : Family) → IsMerging family → (a : List Held) → AreUnder family a a
zip-same family order [] = tt
zip-same family order (x ∷ a) = (order.same x, zip-same family order a)

pub zip-trans : (family : Family) → IsMerging family → (a b c : List Held) → AreUnder family a b → AreUnder family b c →
    AreUnder family a c
zip-trans family order [] [] [] ab bc = tt
zip-trans family order (x ∷ a) (y ∷ b) (z ∷ c) ab bc =
    (order.trans x y z ab.0 bc.0, zip-trans family order a b c ab.1 bc.1)
zip-trans family order [] (y ∷ b) c ab bc = absurd ab
zip-trans family order (x ∷ a) [] c ab bc = absurd ab
zip-trans family order [] [] (z ∷ c) ab bc = absurd bc
zip-trans family order (x ∷ a) (y ∷ b) [] ab bc = absurd bc

pub zip-upper : (family : Family) → IsMerging family → (a b : List Held) → length a ≡ length b →
    AreUnder family a (joined_all family a b) × AreUnder family b (joined_all family a b)
zip-upper family order [] [] same = (tt, tt)
zip-upper family order (x ∷ a) (y ∷ b) same =
    let here = order.upper x y in
    let rest = zip-upper family order a b (omega (arith, same)) in
    ((here.0, rest.0), (here.1, rest.1))
zip-upper family order [] (y ∷ b) same = absurd (omega (arith, same))
zip-upper family order (x ∷ a) [] same = absurd (omega (arith, same))

pub zip-least : (family : Family) → IsMerging family → (a b c : List Held) → AreUnder family a c → AreUnder family b c →
    AreUnder family (joined_all family a b) c
zip-least family order [] [] [] ac bc = tt
zip-least family order (x ∷ a) (y ∷ b) (z ∷ c) ac bc =
    (order.least x y z ac.0 bc.0, zip-least family order a b c ac.1 bc.1)
zip-least family order [] b (z ∷ c) ac bc = absurd ac
zip-least family order (x ∷ a) b [] ac bc = absurd ac
zip-least family order [] (y ∷ b) [] ac bc = absurd bc
zip-least family order (x ∷ a) [] (z ∷ c) ac bc = absurd bc

pub joined-length : (family : Family) (a b : List Held) → length a ≡ length b → length (joined_all family a b) ≡ length a
joined-length family [] [] same = refl
joined-length family (x ∷ a) (y ∷ b) same = ap (λ n. suc n) (joined-length family a b (omega (arith, same)))
joined-length family [] (y ∷ b) same = absurd (omega (arith, same))
joined-length family (x ∷ a) [] same = absurd (omega (arith, same))

-- the depth of a stack after an instruction
pub after-length : (effect : Effect) (stack : List Held) →
    length (stack_after effect stack) ≡ depth_after effect (length stack)
after-length effect stack =
    let n = takes effect.operands in
    length-append (below_operands effect stack) (map (given (operands_on effect stack)) effect.gives)
    ∙ (ap (λ k. k + length (map (given (operands_on effect stack)) effect.gives))
    (length-take-le (length stack - n) stack (omega arith))
    ∙ ap (λ k. length stack - n + k) (length-map effect.gives (given (operands_on effect stack))))

-- what is known where one more place has met a stack
pub record CanMeet (family : Family) (max : ℕ) (lines : List (Option Line)) (at to : ℕ) (own after : List Held) (line : Line) : Type 0 where
  pub order : IsMerging family
  pub rises : Rises family
  pub here : line_at lines at ≡ Some line
  pub goes : IsTrue (goes_to line to)
  pub reached : IsReached max lines at (length own)
  pub target : IsReached max lines to (length after)
  pub one : (depth : ℕ) → IsReached max lines to depth → depth ≡ length after
  pub is : after ≡ stack_after line.effect own
  pub below : (other : Typing) → IsClosed family max lines other → AreUnder family own (other at)

met-length : (family : Family) (max : ℕ) (lines : List (Option Line)) (at to : ℕ) (own after : List Held) (line : Line) →
    CanMeet family max lines at to own after line → (o : Option (List Held)) →
    ((s : List Held) → o ≡ Some s → IsReached max lines to (length s)) → IsReached max lines to (length (met family o after))
met-length family max lines at to own after line can None shape = can.target
met-length family max lines at to own after line can (Some s) shape =
    let reached = shape s refl in
    let same : length s ≡ length after = can.one (length s) reached in
    subst (λ (n : ℕ). IsReached max lines to n) (sym (joined-length family s after same)) reached

met-below : (family : Family) (max : ℕ) (lines : List (Option Line)) (at to : ℕ) (own after : List Held) (line : Line) →
    CanMeet family max lines at to own after line → Contains line.goes (Some to) → (o : Option (List Held)) →
    (other : Typing) → IsClosed family max lines other →
    ((s : List Held) → o ≡ Some s → AreUnder family s (other to)) → AreUnder family (met family o after) (other to)
met-below family max lines at to own after line can there o other closed below = by o below
  where
    after-under : AreUnder family after (other to)
    after-under = subst (λ (s : List Held). AreUnder family s (other to)) (sym can.is)
        (zip-trans family can.order (stack_after line.effect own) (stack_after line.effect (other at)) (other to)
        (can.rises line.effect own (other at) (can.below other closed))
        (closed.onward line at (length own) to can.here can.reached there))

    by : (o : Option (List Held)) → ((s : List Held) → o ≡ Some s → AreUnder family s (other to)) →
        AreUnder family (met family o after) (other to)
    by None below = after-under
    by (Some s) below = zip-least family can.order s after (other to) (below s refl) after-under

-- a place to which control passes is in the list
pub goes-contains : (goes : List (Option ℕ)) (to : ℕ) → is_among goes to ≡ true → Contains goes (Some to)
goes-contains [] to e = absurd (cc e)
goes-contains (g ∷ goes) to e = by g refl e (λ h. goes-contains goes to h)
  where
    later : Contains goes (Some to) → Contains (g ∷ goes) (Some to)
    later h = (suc h.0, omega (arith, h.1), h.2)

    by : (o : Option ℕ) → g ≡ o → (is_place to o || is_among goes to) ≡ true →
        (is_among goes to ≡ true → Contains goes (Some to)) → Contains (g ∷ goes) (Some to)
    by None is h rest = later (rest h)
    by (Some p) is h rest = at (eqb p to) refl h
      where
        at : (b : Bool) → eqb p to ≡ b → (b || is_among goes to) ≡ true → Contains (g ∷ goes) (Some to)
        at true e h = (0, omega arith, is ∙ ap (λ k. Some k) (eqb-true p to e))
        at false e h = later (rest h)

abbrev Can : Family → ℕ → List (Option Line) → ℕ → ℕ → List Held → List Held → Line → Type 0
Can family max lines at to own after line = CanMeet family max lines at to own after line

-- the stacks stay what they are
pub stacks-met : (family : Family) (max : ℕ) (lines : List (Option Line)) (at to : ℕ) (own after : List Held) (line : Line)
    (old new : Stacks) (listed list : List ℕ) → Can family max lines at to own after line →
    HasMet family after to old new listed list → AreStacks family max lines old listed →
    AreStacks family max lines new list
stacks-met family max lines at to own after line old new listed list can met stacks = record {
  start = start;
  shape = shape;
  below = below;
  visited = visited;
}
  where
    start : stack_at new 0 ≡ Some []
    start = elim (cases_eq 0 to) [
      | inl same ↦ subst (λ (k : ℕ). stack_at new k ≡ Some []) (sym same)
          (met.there ∙ ap (λ (o : Option (List Held)). Some (meeting family o after))
          (ap (λ (k : ℕ). stack_at old k) (sym same) ∙ stacks.start))
      | inr apart ↦ met.others 0 apart ∙ stacks.start
    ]

    shape : (p : ℕ) (stack : List Held) → stack_at new p ≡ Some stack → IsReached max lines p (length stack)
    shape p stack is = elim (cases_eq p to) [
      | inl same ↦
          let here : stack_at new to ≡ Some stack = ap (λ (k : ℕ). stack_at new k) (sym same) ∙ is in
          let value : meeting family (stack_at old to) after ≡ stack = cc (met.there, here) in
          subst (λ (k : ℕ). IsReached max lines k (length stack)) (sym same)
          (subst (λ (s : List Held). IsReached max lines to (length s)) value
          (met-length family max lines at to own after line can (stack_at old to) (λ s e. stacks.shape to s e)))
      | inr apart ↦ stacks.shape p stack (sym (met.others p apart) ∙ is)
    ]

    below : (p : ℕ) (stack : List Held) → stack_at new p ≡ Some stack → (other : Typing) →
        IsClosed family max lines other → AreUnder family stack (other p)
    below p stack is other closed = elim (cases_eq p to) [
      | inl same ↦
          let here : stack_at new to ≡ Some stack = ap (λ (k : ℕ). stack_at new k) (sym same) ∙ is in
          let value : meeting family (stack_at old to) after ≡ stack = cc (met.there, here) in
          subst (λ (k : ℕ). AreUnder family stack (other k)) (sym same)
          (subst (λ (s : List Held). AreUnder family s (other to)) value
          (met-below family max lines at to own after line can (goes-contains line.goes to can.goes) (stack_at old to) other
          closed (λ s e. stacks.below to s e other closed)))
      | inr apart ↦ stacks.below p stack (sym (met.others p apart) ∙ is) other closed
    ]

    kept : (p : ℕ) → Contains listed p → IsTrue (is_some (stack_at new p))
    kept p there = elim (cases_eq p to) [
      | inl same ↦ ap (λ (o : Option (List Held)). is_some o) (ap (λ (k : ℕ). stack_at new k) same ∙ met.there)
      | inr apart ↦ ap (λ (o : Option (List Held)). is_some o) (met.others p apart) ∙ stacks.visited p there
    ]

    visited : (p : ℕ) → Contains list p → IsTrue (is_some (stack_at new p))
    visited p there = elim met.todo [
      | inl same ↦ kept p (subst (λ (xs : List ℕ). Contains xs p) same.0 there)
      | inr more ↦ elim (more.0.only p there) [
        | inl before ↦ kept p before
        | inr here ↦ ap (λ (o : Option (List Held)). is_some o) (ap (λ (k : ℕ). stack_at new k) here ∙ met.there)
      ]
    ]

-- what was handed on stays so, and so is what is handed on now
abbrev Todo : List ℕ → List ℕ → ℕ → Type 0 → Type 0 → Type 0
Todo listed list to A B = ((list ≡ listed) × A) ⊎ (IsListed to listed list × B)

more-listed : (listed list : List ℕ) (to p : ℕ) (A B : Type 0) → Todo listed list to A B → Contains listed p → Contains list p
more-listed listed list to p A B todo there = elim todo [
  | inl same ↦ subst (λ (xs : List ℕ). Contains xs p) (sym same.0) there
  | inr more ↦ more.0.stays p there
]

same-listed : (listed list : List ℕ) (to : ℕ) (A B : Type 0) → Todo listed list to A B → A ⊎ Contains list to
same-listed listed list to A B todo = elim todo [
  | inl same ↦ inl same.1
  | inr more ↦ inr more.0.there
]

pub handed-met : (family : Family) (max : ℕ) (lines : List (Option Line)) (at to : ℕ) (own after : List Held) (line : Line)
    (pending : List (Option ℕ)) (old new : Stacks) (listed list : List ℕ) → Can family max lines at to own after line →
    HasMet family after to old new listed list → AreStacks family max lines old listed →
    AreHandedBut family lines at own (Some to ∷ pending) old listed →
    AreHandedBut family lines at own pending new list
handed-met family max lines at to own after line pending old new listed list can met stacks but = record {
  current = current;
  handed = handed;
}
  where
    Same : Type 0
    Same = stack_at new to ≡ stack_at old to

    stays : (p : ℕ) → (stack_at new p ≡ stack_at old p) ⊎ Contains list p
    stays p = elim (cases_eq p to) [
      | inl same ↦ elim (same-listed listed list to Same (stack_at new to ≢ stack_at old to) met.todo) [
        | inl kept ↦ inl (subst (λ (k : ℕ). stack_at new k ≡ stack_at old k) (sym same) kept)
        | inr there ↦ inr (subst (λ (k : ℕ). Contains list k) (sym same) there)
      ]
      | inr apart ↦ inl (met.others p apart)
    ]

    current : Contains list at ⊎ (stack_at new at ≡ Some own)
    current = elim but.current [
      | inl there ↦ inl (more-listed listed list to at Same (stack_at new to ≢ stack_at old to) met.todo there)
      | inr is ↦ elim (stays at) [
        | inl kept ↦ inr (kept ∙ is)
        | inr there ↦ inl there
      ]
    ]

    upper : (o : Option (List Held)) → ((s : List Held) → o ≡ Some s → IsReached max lines to (length s)) →
        AreUnder family after (meeting family o after)
    upper None shape = zip-same family can.order after
    upper (Some s) shape = (zip-upper family can.order s after (can.one (length s) (shape s refl))).1

    lower : (s : List Held) → stack_at old to ≡ Some s → AreUnder family s (meeting family (stack_at old to) after)
    lower s is = subst (λ (o : Option (List Held)). AreUnder family s (meeting family o after)) (sym is)
        (zip-upper family can.order s after (can.one (length s) (stacks.shape to s is))).0

    onward : (q : ℕ) (l : Line) (s : List Held) → IsHanded family old l s q → IsHanded family new l s q
    onward q l s h = elim (cases_eq q to) [
      | inl same ↦
          let there : stack_at old to ≡ Some h.0 = ap (λ (k : ℕ). stack_at old k) (sym same) ∙ h.1 in (
            meeting family (stack_at old to) after,
            ap (λ (k : ℕ). stack_at new k) same ∙ met.there,
            zip-trans family can.order (stack_after l.effect s) h.0 (meeting family (stack_at old to) after) h.2 (lower h.0 there),
          )
      | inr apart ↦ (h.0, met.others q apart ∙ h.1, h.2)
    ]

    now : (p q : ℕ) (s : List Held) (l : Line) → p ≡ at → to ≡ q → stack_at old p ≡ Some s → line_at lines p ≡ Some l →
        Contains list p ⊎ (((p ≡ at) × IsTrue (is_among pending q)) ⊎ IsHanded family new l s q)
    now p q s l is goal has line-is = elim but.current [
      | inl there ↦ inl (subst (λ (k : ℕ). Contains list k) (sym is)
          (more-listed listed list to at Same (stack_at new to ≢ stack_at old to) met.todo there))
      | inr current ↦
          let s-is : s ≡ own = cc (subst (λ (k : ℕ). stack_at old k ≡ Some s) is has, current) in
          let l-is : l ≡ line = cc (subst (λ (k : ℕ). line_at lines k ≡ Some l) is line-is, can.here) in
          let value : after ≡ stack_after l.effect s =
          can.is ∙ (ap (λ (m : Line). stack_after m.effect own) (sym l-is) ∙ ap (λ (t : List Held). stack_after l.effect t) (sym s-is)) in
          inr (inr (
            meeting family (stack_at old to) after,
            ap (λ (k : ℕ). stack_at new k) (sym goal) ∙ met.there,
            subst (λ (t : List Held). AreUnder family t (meeting family (stack_at old to) after)) value
                (upper (stack_at old to) (λ t e. stacks.shape to t e)),
          ))
    ]

    before : (p q : ℕ) (s : List Held) (l : Line) → stack_at old p ≡ Some s → line_at lines p ≡ Some l → IsTrue (goes_to l q) →
        Contains list p ⊎ (((p ≡ at) × IsTrue (is_among pending q)) ⊎ IsHanded family new l s q)
    before p q s l has line-is goes = elim (but.handed p q s l has line-is goes) [
      | inl there ↦ inl (more-listed listed list to p Same (stack_at new to ≢ stack_at old to) met.todo there)
      | inr rest ↦ elim rest [
        | inl due ↦ which (eqb to q) refl due.0 due.1
        | inr h ↦ inr (inr (onward q l s h))
      ]
    ]
      where
        which : (b : Bool) → eqb to q ≡ b → p ≡ at → (b || is_among pending q) ≡ true →
            Contains list p ⊎ (((p ≡ at) × IsTrue (is_among pending q)) ⊎ IsHanded family new l s q)
        which true e is h = now p q s l is (eqb-true to q e) has line-is
        which false e is h = inr (inl (is, h))

    handed : (p q : ℕ) (s : List Held) (l : Line) → stack_at new p ≡ Some s → line_at lines p ≡ Some l → IsTrue (goes_to l q) →
        Contains list p ⊎ (((p ≡ at) × IsTrue (is_among pending q)) ⊎ IsHanded family new l s q)
    handed p q s l has line-is goes = elim (stays p) [
      | inl kept ↦ before p q s l (sym kept ∙ has) line-is goes
      | inr there ↦ inl there
    ]
