-- Two stacks as one, by the way down to where that is known.
use Rattle.std.proofs.Common.{◌≡◌, ◌≢◌, ◌⊎◌, inl, inr, ℕ, zero, suc, ◌+◌, ◌<◌, Option, Some, List, [], ◌∷◌, ◌++◌, length, get_or, set, refl, sym, ap, subst, ◌∙◌, arith, Contains}
use Rattle.std.proofs.lemmas.Bool.{cases_eq}
use Rattle.std.proofs.lemmas.List.{length-append}
use Rattle.std.proofs.Common.{get_or-set_other, get_or-set_same}
use Rattle.il_flow.specs.Families.{Family}
use Rattle.il_flow.specs.Merging.{Held, joined}
use Rattle.il_verifier.specs.declared.joins.Pair.{Pair}
use Rattle.il_verifier.specs.declared.joins.Join.{Join}
use Rattle.il_verifier.specs.Pools.{stack_by, joined_all, IsOn, Grows, IsMade, IsEven, IsJoin, AreJoins, Noted, AreNoted, IsKnown, IsStep, IsWay}
use Rattle.il_verifier.proofs.Order.{IsMerging}
use Rattle.il_verifier.proofs.Pools.{Pool}

-- the last values of two lists
pub last-one : {A : Type 0} (a b : List A) (x y : A) → a ++ x ∷ [] ≡ b ++ y ∷ [] → (a ≡ b) × (x ≡ y)
last-one [] [] x y e = (refl, cc e)
last-one [] (c ∷ b) x y e = absurd (no (length-append b (y ∷ [])) (ap length e))
  where
    no : length (b ++ y ∷ []) ≡ length b + 1 → suc 0 ≡ suc (length (b ++ y ∷ [])) → ⊥
    no p q = omega (arith, p, q)
last-one (c ∷ a) [] x y e = absurd (no (length-append a (x ∷ [])) (ap length e))
  where
    no : length (a ++ x ∷ []) ≡ length a + 1 → suc (length (a ++ x ∷ [])) ≡ suc 0 → ⊥
    no p q = omega (arith, p, q)
last-one {A} (c ∷ a) (d ∷ b) x y e =
    let heads : c ≡ d = cc e in
    let tails : a ++ x ∷ [] ≡ b ++ y ∷ [] = cc e in
    let rest = last-one a b x y tails in
    (ap (λ z. z ∷ a) heads ∙ ap (λ (t : List A). d ∷ t) rest.0, rest.1)

-- one value on two stacks
pub joined-push : (family : Family) (a b : List Held) (x y : Held) → length a ≡ length b →
    joined_all family (a ++ x ∷ []) (b ++ y ∷ []) ≡ joined_all family a b ++ joined family x y ∷ []
joined-push family [] [] x y same = refl
joined-push family (c ∷ a) (d ∷ b) x y same =
    ap (λ t. joined family c d ∷ t) (joined-push family a b x y (omega (arith, same)))
joined-push family [] (d ∷ b) x y same = absurd (omega (arith, same))
joined-push family (c ∷ a) [] x y same = absurd (omega (arith, same))

-- a type with itself
pub joined-self : (family : Family) → IsMerging family → (a : Held) → joined family a a ≡ a
joined-self family order a =
    order.anti (joined family a a) a (order.least a a a (order.same a) (order.same a)) (order.upper a a).0

pub all-self : (family : Family) → IsMerging family → (a : List Held) → joined_all family a a ≡ a
all-self family order [] = refl
all-self family order (x ∷ a) =
    ap (λ y. y ∷ joined_all family a a) (joined-self family order x) ∙ ap (λ t. x ∷ t) (all-self family order a)

-- what stays where there are more stacks
pub on-grows : (old new : Pool) (id below : ℕ) (held : Held) → Grows old new → IsOn old id below held → IsOn new id below held
on-grows old new id below held grows on = record {
  within = omega (arith, on.within, grows.more);
  lesser = on.lesser;
  is = grows.stays id on.within
      ∙ (on.is ∙ ap (λ s. s ++ held ∷ []) (sym (grows.stays below (omega (arith, on.lesser, on.within)))));
}

pub step-grows : (old new : Pool) (pair next : Pair) → Grows old new → IsStep old pair next → IsStep new pair next
step-grows old new pair next grows step = (
  step.0,
  step.1,
  on-grows old new pair.own next.own step.0 grows step.2,
  on-grows old new pair.after next.after step.1 grows step.3,
)

pub way-grows : (old new : Pool) (path : List Pair) (start end : Pair) → Grows old new → IsWay old start path end →
    IsWay new start path end
way-grows old new [] start end grows way = way
way-grows old new (pair ∷ path) start end grows way = (
  way.0,
  way.1,
  step-grows old new pair way.1 grows way.2,
  way-grows old new path way.1 end grows way.3,
)

pub even-grows : (old new : Pool) (pair : Pair) → Grows old new → IsEven old pair → IsEven new pair
even-grows old new pair grows even = record {
  own = omega (arith, even.own, grows.more);
  after = omega (arith, even.after, grows.more);
  even = ap (λ (s : List Held). length s) (grows.stays pair.own even.own)
      ∙ (even.even ∙ ap (λ (s : List Held). length s) (sym (grows.stays pair.after even.after)));
}

pub join-grows : (family : Family) (old new : Pool) (join : Join) → Grows old new → IsJoin family old join →
    IsJoin family new join
join-grows family old new join grows is = record {
  pair = even-grows old new join.pair grows is.pair;
  within = omega (arith, is.within, grows.more);
  is = both ∙ (is.is ∙ (ap (λ (s : List Held). joined_all family s (stack_by old join.pair.after)) (sym own)
      ∙ ap (λ (s : List Held). joined_all family (stack_by new join.pair.own) s) (sym after)));
  same = elim is.same [
    | inl e ↦ inl e
    | inr other ↦ inr (λ e. other (sym both ∙ (e ∙ own)))
  ];
}
  where
    both : stack_by new join.both ≡ stack_by old join.both
    both = grows.stays join.both is.within

    own : stack_by new join.pair.own ≡ stack_by old join.pair.own
    own = grows.stays join.pair.own is.pair.own

    after : stack_by new join.pair.after ≡ stack_by old join.pair.after
    after = grows.stays join.pair.after is.pair.after

pub joins-grow : (family : Family) (old new : Pool) (joins : List (Option Join)) → Grows old new →
    AreJoins family old joins → AreJoins family new joins
joins-grow family old new joins grows all join there = join-grows family old new join grows (all join there)

pub noted-grow : (family : Family) (old new : Pool) (joins : Noted) → Grows old new →
    AreNoted family old joins → AreNoted family new joins
noted-grow family old new joins grows all = record {
  joins = joins-grow family old new joins.joins grows all.joins;
  merges = all.merges;
}

-- one pair more on the way
pub way-push : (pool : Pool) (path : List Pair) (start pair next : Pair) → IsWay pool start path pair → IsStep pool pair next →
    IsWay pool start (path ++ pair ∷ []) next
way-push pool [] start pair next way step = (way, next, step, refl)
way-push pool (p ∷ path) start pair next way step = (way.0, way.1, way.2, way-push pool path way.1 pair next way.3 step)

-- the last pair of a way
pub way-last : (pool : Pool) (path : List Pair) (start pair end : Pair) → IsWay pool start (path ++ pair ∷ []) end →
    IsWay pool start path pair × IsStep pool pair end
way-last pool [] start pair end way = (way.0, subst (λ (p : Pair). IsStep pool pair p) way.3 way.2)
way-last pool (p ∷ path) start pair end way =
    let rest = way-last pool path way.1 pair end way.3 in
    ((way.0, way.1, way.2, rest.0), rest.1)

-- a pair that is known
pub known-join : (family : Family) → IsMerging family → (pool : Pool) (joins : List (Option Join)) (pair : Pair) (both : ℕ) →
    IsEven pool pair → AreJoins family pool joins → IsKnown joins pair (Some both) →
    IsJoin family pool (record { pair = pair; both = both })
known-join family order pool joins pair both even all (inr there) = all (record { pair = pair; both = both }) there
known-join family order pool joins pair both even all (inl same) = record {
  pair = even;
  within = subst (λ (k : ℕ). k < length pool) (sym same.0) even.own;
  is = ap (λ (k : ℕ). stack_by pool k) same.0
      ∙ (sym (all-self family order (stack_by pool pair.own))
      ∙ ap (λ (k : ℕ). joined_all family (stack_by pool pair.own) (stack_by pool k)) same.1);
  same = inl same.0;
}

-- what a join is noted among
pub noted : (joins : List (Option Join)) (slot : ℕ) (join other : Join) → slot < length joins →
    Contains (set joins slot (Some join)) (Some other) → Contains joins (Some other) ⊎ (other ≡ join)
noted joins slot join other less there = elim (cases_eq there.0 slot) [
  | inl same ↦
      let is : get_or (set joins slot (Some join)) slot (Some other) ≡ Some other =
      subst (λ (k : ℕ). get_or (set joins slot (Some join)) k (Some other) ≡ Some other) same there.2 in
      let new : get_or (set joins slot (Some join)) slot (Some other) ≡ Some join =
      get_or-set_same joins slot (Some join) (Some other) less in
      inr (cc (is, new))
  | inr apart ↦ inl (
    there.0,
    subst (λ (n : ℕ). there.0 < n) (length-kept joins slot (Some join)) there.1,
    sym (get_or-set_other joins slot there.0 (Some join) (Some other) apart) ∙ there.2,
  )
]
  where
    length-kept : (xs : List (Option Join)) (k : ℕ) (x : Option Join) → length (set xs k x) ≡ length xs
    length-kept [] k x = refl
    length-kept (y ∷ xs) zero x = refl
    length-kept (y ∷ xs) (suc k) x = ap (λ n. suc n) (length-kept xs k x)

pub joins-noted : (family : Family) (pool : Pool) (old new : List (Option Join)) (join : Join) →
    ((other : Join) → Contains new (Some other) → Contains old (Some other) ⊎ (other ≡ join)) →
    AreJoins family pool old → IsJoin family pool join → AreJoins family pool new
joins-noted family pool old new join noted all is other there = elim (noted other there) [
  | inl before ↦ all other before
  | inr same ↦ subst (λ (j : Join). IsJoin family pool j) (sym same) is
]

-- the depth of a stack that is one value on another
pub on-length : (pool : Pool) (id below : ℕ) (held : Held) → IsOn pool id below held →
    length (stack_by pool id) ≡ length (stack_by pool below) + 1
on-length pool id below held on =
    ap (λ (s : List Held). length s) on.is ∙ length-append (stack_by pool below) (held ∷ [])

-- what is known one step above a join
pub record CanRaise (family : Family) (pool : Pool) (pair : Pair) (own after : Held) (low : Join) : Type 0 where
  pub first : IsOn pool pair.own low.pair.own own
  pub second : IsOn pool pair.after low.pair.after after
  pub below : IsJoin family pool low

pub can-raise : (family : Family) (pool : Pool) (pair : Pair) (low : Join) (own-below after-below : ℕ) (own after : Held) →
    IsStep pool pair low.pair → IsJoin family pool low → IsOn pool pair.own own-below own →
    IsOn pool pair.after after-below after → CanRaise family pool pair own after low
can-raise family pool pair low own-below after-below own after step is on-own on-after = record {
  first = same pair.own low.pair.own own-below step.0 own step.2 on-own;
  second = same pair.after low.pair.after after-below step.1 after step.3 on-after;
  below = is;
}
  where
    same : (id below other : ℕ) (held its : Held) → IsOn pool id below held → IsOn pool id other its → IsOn pool id below its
    same id below other held its a b =
        subst (λ (h : Held). IsOn pool id below h)
        (last-one (stack_by pool below) (stack_by pool other) held its (sym a.is ∙ b.is)).1 a

raised : (family : Family) (pool : Pool) (pair : Pair) (own after : Held) (low : Join) → CanRaise family pool pair own after low →
    stack_by pool low.both ++ joined family own after ∷ []
    ≡ joined_all family (stack_by pool pair.own) (stack_by pool pair.after)
raised family pool pair own after low can =
    ap (λ (s : List Held). s ++ joined family own after ∷ []) can.below.is
    ∙ (sym (joined-push family (stack_by pool low.pair.own) (stack_by pool low.pair.after) own after can.below.pair.even)
    ∙ (ap (λ (s : List Held). joined_all family s (stack_by pool low.pair.after ++ after ∷ [])) (sym can.first.is)
    ∙ ap (λ (s : List Held). joined_all family (stack_by pool pair.own) s) (sym can.second.is)))

raised-even : (family : Family) (pool : Pool) (pair : Pair) (own after : Held) (low : Join) → CanRaise family pool pair own after low →
    IsEven pool pair
raised-even family pool pair own after low can = record {
  own = can.first.within;
  after = can.second.within;
  even = omega (
    arith,
    on-length pool pair.own low.pair.own own can.first,
    on-length pool pair.after low.pair.after after can.second,
    can.below.pair.even,
  );
}

-- where nothing changes it is the own stack
pub raise-own : (family : Family) (pool : Pool) (pair : Pair) (own after : Held) (low : Join) → CanRaise family pool pair own after low →
    low.both ≡ low.pair.own → joined family own after ≡ own → IsJoin family pool (record { pair = pair; both = pair.own })
raise-own family pool pair own after low can e h = record {
  pair = raised-even family pool pair own after low can;
  within = can.first.within;
  is = can.first.is
      ∙ (ap (λ (k : ℕ). stack_by pool k ++ own ∷ []) (sym e)
      ∙ (ap (λ (x : Held). stack_by pool low.both ++ x ∷ []) (sym h) ∙ raised family pool pair own after low can));
  same = inl refl;
}

-- it is another one than the own stack
other-stack : (family : Family) (pool : Pool) (pair : Pair) (own after : Held) (low : Join) → CanRaise family pool pair own after low →
    (low.both ≢ low.pair.own) ⊎ (joined family own after ≢ own) →
    stack_by pool low.both ++ joined family own after ∷ [] ≢ stack_by pool pair.own
other-stack family pool pair own after low can differs e =
    let both = last-one (stack_by pool low.both) (stack_by pool low.pair.own) (joined family own after) own (e ∙ can.first.is) in
    elim differs [
      | inl below ↦ elim can.below.same [
        | inl same ↦ below same
        | inr other ↦ other both.0
      ]
      | inr held ↦ held both.1
    ]

pub raise-after : (family : Family) (pool : Pool) (pair : Pair) (own after : Held) (low : Join) → CanRaise family pool pair own after low →
    (low.both ≢ low.pair.own) ⊎ (joined family own after ≢ own) → low.both ≡ low.pair.after → joined family own after ≡ after →
    IsJoin family pool (record { pair = pair; both = pair.after })
raise-after family pool pair own after low can differs e h =
    let is : stack_by pool pair.after ≡ stack_by pool low.both ++ joined family own after ∷ [] =
    can.second.is ∙ (ap (λ (k : ℕ). stack_by pool k ++ after ∷ []) (sym e)
    ∙ ap (λ (x : Held). stack_by pool low.both ++ x ∷ []) (sym h)) in
    record {
      pair = raised-even family pool pair own after low can;
      within = can.second.within;
      is = is ∙ raised family pool pair own after low can;
      same = inr (λ (same : stack_by pool pair.after ≡ stack_by pool pair.own).
          other-stack family pool pair own after low can differs (sym is ∙ same));
    }

pub raise-new : (family : Family) (old new : Pool) (pair : Pair) (own after held : Held) (low : Join) (both : ℕ) →
    CanRaise family old pair own after low → (low.both ≢ low.pair.own) ⊎ (joined family own after ≢ own) →
    held ≡ joined family own after → IsMade old new (stack_by old low.both ++ held ∷ []) both →
    IsJoin family new (record { pair = pair; both = both })
raise-new family old new pair own after held low both can differs h made =
    let even = raised-even family old pair own after low can in
    let is : stack_by new both ≡ stack_by old low.both ++ joined family own after ∷ [] =
    made.is ∙ ap (λ (x : Held). stack_by old low.both ++ x ∷ []) h in
    record {
      pair = even-grows old new pair made.grows even;
      within = made.within;
      is = is ∙ (raised family old pair own after low can
          ∙ (ap (λ (s : List Held). joined_all family s (stack_by old pair.after)) (sym (made.grows.stays pair.own even.own))
          ∙ ap (λ (s : List Held). joined_all family (stack_by new pair.own) s) (sym (made.grows.stays pair.after even.after))));
      same = inr (λ (same : stack_by new both ≡ stack_by new pair.own).
          other-stack family old pair own after low can differs
          (sym is ∙ (same ∙ made.grows.stays pair.own even.own)));
    }
