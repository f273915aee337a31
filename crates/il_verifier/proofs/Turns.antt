-- One turn of the search for the least typing, and its end.
use Rattle.std.proofs.Common.{◌≡◌, ◌≢◌, ◌⊎◌, inl, inr, ℕ, zero, suc, ◌<◌, Bool, true, false, ◌||◌, cond, IsTrue, is_some, Option, Some, None, option_map, List, [], ◌∷◌, ◌++◌, length, get_or, set, eqb, refl, sym, ap, subst, ◌∙◌, arith, Contains}
use Rattle.std.specs.Prelude.{unwrap_or}
use Rattle.std.proofs.lemmas.Bool.{cases_eq, eqb-true, eq-eqb}
use Rattle.std.proofs.lemmas.List.{length-map}
use Rattle.std.proofs.lemmas.List.Elements.{Contains-push, Contains-append_left, Contains-push_cases}
use Rattle.std.proofs.Common.{get_or-set_other, get_or-set_same}
use Rattle.il_flow.specs.Families.{Family}
use Rattle.il_flow.specs.Merging.{Held, AreUnder}
use Rattle.il_verifier.specs.declared.line.Line.{Line}
use Rattle.il_verifier.specs.declared.joins.Join.{Join}
use Rattle.il_verifier.specs.Effects.{stack_after, depth_after}
use Rattle.il_verifier.specs.Lines.{line_at}
use Rattle.il_verifier.specs.Depths.{goes_to, is_place, start, least, brought, brought_by, round, IsReached}
use Rattle.il_verifier.specs.Typings.{Typing, IsClosed, IsLeast}
use Rattle.il_verifier.specs.Search.{is_among, depth_at}
use Rattle.il_verifier.specs.Pools.{stack_by, joined_all, Grows, IsJoin}
use Rattle.il_verifier.specs.Worklist.{Stacks, stack_at, stacks_by, met, typing_of, AreIds, IsListed, IsWithout, HasMet, AreStacks, IsHanded, AreHanded, AreHandedBut, AreSought, ArePlaced}
use Rattle.il_verifier.specs.Laws.{Rises}
use Rattle.il_verifier.proofs.Order.{IsMerging}
use Rattle.il_verifier.proofs.Meeting.{CanMeet, after-length}
use Rattle.il_verifier.proofs.Pools.{Pool}
use Rattle.il_verifier.proofs.Reaching.{IsClean, IsAt, least-gives, brought-from, reached-to, one-depth}

-- stacks by their numbers
pub by-at : (pool : Pool) (ids : List (Option ℕ)) (at : ℕ) →
    stack_at (stacks_by pool ids) at ≡ option_map (stack_by pool) (get_or ids at None)
by-at pool [] at = refl
by-at pool (o ∷ ids) zero = refl
by-at pool (o ∷ ids) (suc at) = by-at pool ids at

pub by-length : (pool : Pool) (ids : List (Option ℕ)) → length (stacks_by pool ids) ≡ length ids
by-length pool ids = length-map ids (option_map (stack_by pool))

-- what a number stands for
pub by-some : (pool : Pool) (ids : List (Option ℕ)) (at id : ℕ) → get_or ids at None ≡ Some id →
    stack_at (stacks_by pool ids) at ≡ Some (stack_by pool id)
by-some pool ids at id is = by-at pool ids at ∙ ap (λ (o : Option ℕ). option_map (stack_by pool) o) is

pub by-none : (pool : Pool) (ids : List (Option ℕ)) (at : ℕ) → get_or ids at None ≡ None → stack_at (stacks_by pool ids) at ≡ None
by-none pool ids at is = by-at pool ids at ∙ ap (λ (o : Option ℕ). option_map (stack_by pool) o) is

pub id-of : (pool : Pool) (ids : List (Option ℕ)) (at : ℕ) (stack : List Held) → stack_at (stacks_by pool ids) at ≡ Some stack →
    (id : ℕ) × (get_or ids at None ≡ Some id) × (stack_by pool id ≡ stack)
id-of pool ids at stack has = by (get_or ids at None) refl
  where
    by : (o : Option ℕ) → get_or ids at None ≡ o → (id : ℕ) × (get_or ids at None ≡ Some id) × (stack_by pool id ≡ stack)
    by None is = absurd (cc (by-none pool ids at is, has))
    by (Some id) is = (id, is, cc (by-some pool ids at id is, has))

pub grown-at : (old new : Pool) (ids : List (Option ℕ)) (at : ℕ) → Grows old new → AreIds old ids →
    stack_at (stacks_by new ids) at ≡ stack_at (stacks_by old ids) at
grown-at old new ids at grows numbered = by (get_or ids at None) refl
  where
    by : (o : Option ℕ) → get_or ids at None ≡ o → stack_at (stacks_by new ids) at ≡ stack_at (stacks_by old ids) at
    by None is = by-none new ids at is ∙ sym (by-none old ids at is)
    by (Some id) is =
        by-some new ids at id is
        ∙ (ap (λ (s : List Held). Some s) (grows.stays id (numbered at id is)) ∙ sym (by-some old ids at id is))

pub ids-grow : (old new : Pool) (ids : List (Option ℕ)) → Grows old new → AreIds old ids → AreIds new ids
ids-grow old new ids grows numbered at id is = omega (arith, numbered at id is, grows.more)

pub ids-set : (pool : Pool) (ids : List (Option ℕ)) (to id : ℕ) → to < length ids → id < length pool → AreIds pool ids →
    AreIds pool (set ids to (Some id))
ids-set pool ids to id less within numbered at other is = elim (cases_eq at to) [
  | inl same ↦
      let there : get_or (set ids to (Some id)) to None ≡ Some other =
      subst (λ (k : ℕ). get_or (set ids to (Some id)) k None ≡ Some other) same is in
      let new : get_or (set ids to (Some id)) to None ≡ Some id = get_or-set_same ids to (Some id) None less in
      let e : id ≡ other = cc (there, new) in
      omega (arith, within, e)
  | inr apart ↦ numbered at other (sym (get_or-set_other ids to at (Some id) None apart) ∙ is)
]

-- another stack at one place
set-there : (pool : Pool) (ids : List (Option ℕ)) (to id : ℕ) → to < length ids →
    stack_at (stacks_by pool (set ids to (Some id))) to ≡ Some (stack_by pool id)
set-there pool ids to id less = by-some pool (set ids to (Some id)) to id (get_or-set_same ids to (Some id) None less)

set-others : (old new : Pool) (ids : List (Option ℕ)) (to id at : ℕ) → Grows old new → AreIds old ids → at ≢ to →
    stack_at (stacks_by new (set ids to (Some id))) at ≡ stack_at (stacks_by old ids) at
set-others old new ids to id at grows numbered apart =
    by-at new (set ids to (Some id)) at
    ∙ (ap (λ (o : Option ℕ). option_map (stack_by new) o) (get_or-set_other ids to at (Some id) None apart)
    ∙ (sym (by-at new ids at) ∙ grown-at old new ids at grows numbered))

pub met-new : (family : Family) (pool : Pool) (ids : List (Option ℕ)) (after to : ℕ) (listed list : List ℕ) →
    to < length ids → AreIds pool ids → get_or ids to None ≡ None → IsListed to listed list →
    HasMet family (stack_by pool after) to (stacks_by pool ids) (stacks_by pool (set ids to (Some after))) listed list
met-new family pool ids after to listed list less numbered none all = record {
  there = set-there pool ids to after less
      ∙ ap (λ (o : Option (List Held)). Some (met family o (stack_by pool after))) (sym (by-none pool ids to none));
  others = λ at apart. set-others pool pool ids to after at (record { more = omega arith; stays = λ id less. refl }) numbered apart;
  todo = inr (
    all,
    λ (e : stack_at (stacks_by pool (set ids to (Some after))) to ≡ stack_at (stacks_by pool ids) to).
        cc (set-there pool ids to after less, e, by-none pool ids to none),
  );
}

joined-there : (family : Family) (old new : Pool) (ids : List (Option ℕ)) (own after to : ℕ) (join : Join) →
    get_or ids to None ≡ Some own → own < length old → after < length old → Grows old new →
    join.pair.own ≡ own → join.pair.after ≡ after → IsJoin family new join →
    Some (stack_by new join.both) ≡ Some (met family (stack_at (stacks_by old ids) to) (stack_by old after))
joined-there family old new ids own after to join is own-in after-in grows p q joined =
    ap (λ (s : List Held). Some s) (joined.is
    ∙ (ap (λ (k : ℕ). joined_all family (stack_by new k) (stack_by new join.pair.after)) p
    ∙ (ap (λ (k : ℕ). joined_all family (stack_by new own) (stack_by new k)) q
    ∙ (ap (λ (s : List Held). joined_all family s (stack_by new after)) (grows.stays own own-in)
    ∙ ap (λ (s : List Held). joined_all family (stack_by old own) s) (grows.stays after after-in)))))
    ∙ ap (λ (o : Option (List Held)). Some (met family o (stack_by old after))) (sym (by-some old ids to own is))

pub met-same : (family : Family) (old new : Pool) (ids : List (Option ℕ)) (own after to : ℕ) (join : Join) (list : List ℕ) →
    AreIds old ids → get_or ids to None ≡ Some own → after < length old → Grows old new →
    join.pair.own ≡ own → join.pair.after ≡ after → IsJoin family new join → join.both ≡ own →
    HasMet family (stack_by old after) to (stacks_by old ids) (stacks_by new ids) list list
met-same family old new ids own after to join list numbered is after-in grows p q joined e =
    let there : stack_at (stacks_by new ids) to ≡ Some (stack_by new join.both) =
    by-some new ids to own is ∙ ap (λ (k : ℕ). Some (stack_by new k)) (sym e) in
    record {
      there = there ∙ joined-there family old new ids own after to join is (numbered to own is) after-in grows p q joined;
      others = λ at apart. grown-at old new ids at grows numbered;
      todo = inl (refl, grown-at old new ids to grows numbered);
    }

pub met-other : (family : Family) (old new : Pool) (ids : List (Option ℕ)) (own after to : ℕ) (join : Join) (listed list : List ℕ) →
    to < length ids → AreIds old ids → get_or ids to None ≡ Some own → after < length old → Grows old new →
    join.pair.own ≡ own → join.pair.after ≡ after → IsJoin family new join → join.both ≢ own → IsListed to listed list →
    HasMet family (stack_by old after) to (stacks_by old ids) (stacks_by new (set ids to (Some join.both))) listed list
met-other family old new ids own after to join listed list less numbered is after-in grows p q joined other all = record {
  there = set-there new ids to join.both less
      ∙ joined-there family old new ids own after to join is (numbered to own is) after-in grows p q joined;
  others = λ at apart. set-others old new ids to join.both at grows numbered apart;
  todo = inr (
    all,
    λ (e : stack_at (stacks_by new (set ids to (Some join.both))) to ≡ stack_at (stacks_by old ids) to).
        no joined.same (stacks e),
  );
}
  where
    stacks : stack_at (stacks_by new (set ids to (Some join.both))) to ≡ stack_at (stacks_by old ids) to →
        stack_by new join.both ≡ stack_by new join.pair.own
    stacks e =
        let both : Some (stack_by new join.both) ≡ Some (stack_by old own) =
        sym (set-there new ids to join.both less) ∙ (e ∙ by-some old ids to own is) in
        let same : stack_by new join.both ≡ stack_by old own = cc both in
        same ∙ (sym (grows.stays own (numbered to own is)) ∙ ap (λ (k : ℕ). stack_by new k) (sym p))

    no : (join.both ≡ join.pair.own) ⊎ (stack_by new join.both ≢ stack_by new join.pair.own) →
        stack_by new join.both ≡ stack_by new join.pair.own → ⊥
    no (inl same) e = other (same ∙ p)
    no (inr apart) e = apart e

-- what is known while the stack at a place is handed on
pub record IsTurn (family : Family) (max : ℕ) (lines : List (Option Line)) (at : ℕ) (own after : List Held) (line : Line) : Type 0 where
  pub merging : IsMerging family
  pub rises : Rises family
  pub clean : IsClean max lines
  pub is_at : IsAt max lines at (length own) line
  pub is : after ≡ stack_after line.effect own
  pub under : (other : Typing) → IsClosed family max lines other → AreUnder family own (other at)

pub turn-length : (family : Family) (max : ℕ) (lines : List (Option Line)) (at : ℕ) (own after : List Held) (line : Line) →
    IsTurn family max lines at own after line → length after ≡ depth_after line.effect (length own)
turn-length family max lines at own after line turn = ap (λ (s : List Held). length s) turn.is ∙ after-length line.effect own

pub can-meet : (family : Family) (max : ℕ) (lines : List (Option Line)) (at to : ℕ) (own after : List Held) (line : Line) →
    IsTurn family max lines at own after line → IsTrue (goes_to line to) → CanMeet family max lines at to own after line
can-meet family max lines at to own after line turn goes =
    let size = turn-length family max lines at own after line turn in
    record {
      order = turn.merging;
      rises = turn.rises;
      here = turn.is_at.here;
      goes = goes;
      reached = turn.is_at.reached;
      target = subst (λ (n : ℕ). IsReached max lines to n) (sym size)
          (reached-to max lines at (length own) to line turn.clean turn.is_at goes);
      one = λ depth reached. one-depth max lines at (length own) to line turn.clean turn.is_at goes depth reached ∙ sym size;
      is = turn.is;
      below = turn.under;
    }

-- a place was taken off the list
pub taken-sought : (family : Family) (max : ℕ) (lines : List (Option Line)) (stacks : Stacks) (old new : List ℕ) (at : ℕ) →
    IsWithout at old new → AreSought family max lines stacks old → AreSought family max lines stacks (new ++ at ∷ [])
taken-sought family max lines stacks old new at without sought = record {
  sized = sought.sized;
  found = record {
    start = sought.found.start;
    shape = sought.found.shape;
    below = sought.found.below;
    visited = λ p there. sought.found.visited p (back p there);
  };
  handed = λ p to stack line has here goes. elim (sought.handed p to stack line has here goes) [
    | inl there ↦ inl (forth p there)
    | inr done ↦ inr done
  ];
}
  where
    back : (p : ℕ) → Contains (new ++ at ∷ []) p → Contains old p
    back p there = elim (Contains-push_cases new at p there) [
      | inl left ↦ without.only p left
      | inr same ↦ subst (λ (k : ℕ). Contains old k) same without.was
    ]

    forth : (p : ℕ) → Contains old p → Contains (new ++ at ∷ []) p
    forth p there = elim (without.left p there) [
      | inl left ↦ Contains-append_left new (at ∷ []) p left
      | inr same ↦ subst (λ (k : ℕ). Contains (new ++ at ∷ []) k) (sym same) (Contains-push new at)
    ]

-- a place is left out of the list
less-listed : (family : Family) (max : ℕ) (lines : List (Option Line)) (stacks : Stacks) (list : List ℕ) (at : ℕ) →
    AreStacks family max lines stacks (list ++ at ∷ []) → AreStacks family max lines stacks list
less-listed family max lines stacks list at found = record {
  start = found.start;
  shape = found.shape;
  below = found.below;
  visited = λ p there. found.visited p (Contains-append_left list (at ∷ []) p there);
}

pub nothing-handed : (family : Family) (max : ℕ) (lines : List (Option Line)) (stacks : Stacks) (list : List ℕ) (at : ℕ) →
    (line_at lines at ≡ None) ⊎ (stack_at stacks at ≡ None) → AreSought family max lines stacks (list ++ at ∷ []) →
    AreSought family max lines stacks list
nothing-handed family max lines stacks list at none sought = record {
  sized = sought.sized;
  found = less-listed family max lines stacks list at sought.found;
  handed = handed;
}
  where
    handed : (p to : ℕ) (stack : List Held) (line : Line) → stack_at stacks p ≡ Some stack → line_at lines p ≡ Some line →
        IsTrue (goes_to line to) → Contains list p ⊎ IsHanded family stacks line stack to
    handed p to stack line has here goes = elim (sought.handed p to stack line has here goes) [
      | inl there ↦ elim (Contains-push_cases list at p there) [
        | inl before ↦ inl before
        | inr same ↦ absurd (elim none [
          | inl out ↦ cc (subst (λ (k : ℕ). line_at lines k ≡ None) same out, here)
          | inr out ↦ cc (subst (λ (k : ℕ). stack_at stacks k ≡ None) same out, has)
        ])
      ]
      | inr done ↦ inr done
    ]

pub begin-turn : (family : Family) (max : ℕ) (lines : List (Option Line)) (stacks : Stacks) (list : List ℕ) (at : ℕ) (own : List Held)
    (line : Line) → AreSought family max lines stacks (list ++ at ∷ []) → stack_at stacks at ≡ Some own → line_at lines at ≡ Some line →
    AreStacks family max lines stacks list × AreHandedBut family lines at own line.goes stacks list
begin-turn family max lines stacks list at own line sought has here = (
  less-listed family max lines stacks list at sought.found,
  record { current = inr has; handed = handed },
)
  where
    handed : (p to : ℕ) (stack : List Held) (l : Line) → stack_at stacks p ≡ Some stack → line_at lines p ≡ Some l →
        IsTrue (goes_to l to) → Contains list p ⊎ (((p ≡ at) × IsTrue (is_among line.goes to)) ⊎ IsHanded family stacks l stack to)
    handed p to stack l its there goes = elim (sought.handed p to stack l its there goes) [
      | inl listed ↦ elim (Contains-push_cases list at p listed) [
        | inl before ↦ inl before
        | inr same ↦
            let is : l ≡ line = cc (subst (λ (k : ℕ). line_at lines k ≡ Some line) same here, there) in
            inr (inl (sym same, subst (λ (m : Line). IsTrue (goes_to m to)) is goes))
      ]
      | inr done ↦ inr (inr done)
    ]

pub skip-place : (family : Family) (lines : List (Option Line)) (at : ℕ) (own : List Held) (pending : List (Option ℕ)) (stacks : Stacks)
    (list : List ℕ) → AreHandedBut family lines at own (None ∷ pending) stacks list → AreHandedBut family lines at own pending stacks list
skip-place family lines at own pending stacks list but = record {
  current = but.current;
  handed = λ p to stack line has here goes. but.handed p to stack line has here goes;
}

pub end-turn : (family : Family) (lines : List (Option Line)) (at : ℕ) (own : List Held) (stacks : Stacks) (list : List ℕ) →
    AreHandedBut family lines at own [] stacks list → AreHanded family lines stacks list
end-turn family lines at own stacks list but p to stack line has here goes = elim (but.handed p to stack line has here goes) [
  | inl there ↦ inl there
  | inr rest ↦ elim rest [
    | inl due ↦ absurd (cc due.1)
    | inr done ↦ inr done
  ]
]

-- each place that is reached has a stack, when nothing is listed
visited-by : (family : Family) (max : ℕ) (lines : List (Option Line)) (stacks : Stacks) → AreSought family max lines stacks [] →
    (k at d : ℕ) → (round max lines k).fresh at ≡ Some d → is_some (stack_at stacks at) ≡ true
unfolding round
visited-by family max lines stacks sought zero at d is = by (eqb at 0) refl is
  where
    by : (b : Bool) → eqb at 0 ≡ b → cond {A = Option ℕ} b (Some 0) None ≡ Some d → is_some (stack_at stacks at) ≡ true
    by true e h =
        ap (λ (o : Option (List Held)). is_some o) (ap (λ (k : ℕ). stack_at stacks k) (eqb-true at 0 e) ∙ sought.found.start)
    by false e h = absurd (cc h)
visited-by family max lines stacks sought (suc k) at d is =
    let found = least-gives gives (length lines) d (fresh (is_some ((round max lines k).seen at)) is) in
    let from : ℕ = found.0 in
    let source = brought-from max (line_at lines from) ((round max lines k).fresh from) at d found.2 in
    handed from source.0 source.2 source.4 (stack_at stacks from) refl (visited-by family max lines stacks sought k from source.1 source.3)
  where
    gives : ℕ → Option ℕ
    gives from = brought_by max (line_at lines from) ((round max lines k).fresh from) at

    fresh : (b : Bool) → cond {A = Option ℕ} b None (brought max lines (round max lines k).fresh at) ≡ Some d →
        least gives (length lines) ≡ Some d
    fresh true h = absurd (cc h)
    fresh false h = h

    handed : (from : ℕ) (line : Line) → line_at lines from ≡ Some line → IsTrue (goes_to line at) → (o : Option (List Held)) →
        stack_at stacks from ≡ o → is_some o ≡ true → is_some (stack_at stacks at) ≡ true
    handed from line here goes None e some = absurd (cc some)
    handed from line here goes (Some s) e some = elim (sought.handed from at s line e here goes) [
      | inl there ↦ absurd (omega (arith, there.1))
      | inr done ↦ ap (λ (o : Option (List Held)). is_some o) done.1
    ]

pub all-placed : (family : Family) (max : ℕ) (lines : List (Option Line)) (stacks : Stacks) → AreSought family max lines stacks [] →
    ArePlaced max lines stacks
all-placed family max lines stacks sought = record {
  deep = sought.found.shape;
  reached = λ at depth reached. visited-by family max lines stacks sought reached.0 at depth reached.1;
}

contains-goes : (goes : List (Option ℕ)) (to : ℕ) → Contains goes (Some to) → is_among goes to ≡ true
contains-goes [] to there = absurd (omega (arith, there.1))
contains-goes (g ∷ goes) to there = at (λ h. contains-goes goes to h) there.0 there.1 there.2
  where
    first : (a b : Bool) → a ≡ true → (a || b) ≡ true
    first true b e = refl
    first false b e = absurd (cc e)

    second : (a b : Bool) → b ≡ true → (a || b) ≡ true
    second true b e = refl
    second false b e = e

    at : (Contains goes (Some to) → is_among goes to ≡ true) → (i : ℕ) → i < length (g ∷ goes) →
        get_or (g ∷ goes) i (Some to) ≡ Some to → is_among (g ∷ goes) to ≡ true
    at rest zero less is =
        first (is_place to g) (is_among goes to) (ap (λ (o : Option ℕ). is_place to o) is ∙ eq-eqb to to refl)
    at rest (suc i) less is =
        second (is_place to g) (is_among goes to) (rest (i, omega (arith, less), is))

typing-is : (stacks : Stacks) (at : ℕ) (stack : List Held) → stack_at stacks at ≡ Some stack → typing_of stacks at ≡ stack
typing-is stacks at stack has = ap (λ (o : Option (List Held)). unwrap_or o []) has

has-stack : (family : Family) (max : ℕ) (lines : List (Option Line)) (stacks : Stacks) → AreSought family max lines stacks [] →
    (at depth : ℕ) → IsReached max lines at depth → (stack : List Held) × (stack_at stacks at ≡ Some stack)
has-stack family max lines stacks sought at depth reached =
    by (stack_at stacks at) refl (visited-by family max lines stacks sought reached.0 at depth reached.1)
  where
    by : (o : Option (List Held)) → stack_at stacks at ≡ o → is_some o ≡ true → (stack : List Held) × (stack_at stacks at ≡ Some stack)
    by None e some = absurd (cc some)
    by (Some s) e some = (s, e)

pub all-least : (family : Family) (max : ℕ) (lines : List (Option Line)) (stacks : Stacks) → AreSought family max lines stacks [] →
    IsLeast family max lines (typing_of stacks)
all-least family max lines stacks sought = record {
  closed = record { start = typing-is stacks 0 [] sought.found.start; onward = onward };
  least = least-one;
}
  where
    onward : (line : Line) (at depth to : ℕ) → line_at lines at ≡ Some line → IsReached max lines at depth → Contains line.goes (Some to) →
        AreUnder family (stack_after line.effect (typing_of stacks at)) (typing_of stacks to)
    onward line at depth to here reached there =
        let own = has-stack family max lines stacks sought at depth reached in
        elim (sought.handed at to own.0 line own.1 here (contains-goes line.goes to there)) [
          | inl listed ↦ absurd (omega (arith, listed.1))
          | inr done ↦
              subst (λ (s : List Held). AreUnder family (stack_after line.effect s) (typing_of stacks to))
              (sym (typing-is stacks at own.0 own.1))
              (subst (λ (s : List Held). AreUnder family (stack_after line.effect own.0) s)
              (sym (typing-is stacks to done.0 done.1)) done.2)
        ]

    least-one : (other : Typing) (at depth : ℕ) → IsClosed family max lines other → IsReached max lines at depth →
        AreUnder family (typing_of stacks at) (other at)
    least-one other at depth closed reached =
        let own = has-stack family max lines stacks sought at depth reached in
        subst (λ (s : List Held). AreUnder family s (other at)) (sym (typing-is stacks at own.0 own.1))
        (sought.found.below at own.0 own.1 other closed)

-- where the search begins
first-at : (ids : List (Option ℕ)) → ((at : ℕ) → depth_at ids at ≡ start at) → (at : ℕ) →
    ((at ≡ 0) × (get_or ids at None ≡ Some 0)) ⊎ (get_or ids at None ≡ None)
first-at ids is at = by (eqb at 0) refl (is at)
  where
    by : (b : Bool) → eqb at 0 ≡ b → get_or ids at None ≡ cond {A = Option ℕ} b (Some 0) None →
        ((at ≡ 0) × (get_or ids at None ≡ Some 0)) ⊎ (get_or ids at None ≡ None)
    by true e h = inl (eqb-true at 0 e, h)
    by false e h = inr h

pub first-ids : (ids : List (Option ℕ)) → ((at : ℕ) → depth_at ids at ≡ start at) → AreIds ([] ∷ []) ids
first-ids ids is at id has = elim (first-at ids is at) [
  | inl it ↦
      let e : 0 ≡ id = cc (it.1, has) in
      omega (arith, e)
  | inr none ↦ absurd (cc (none, has))
]

pub first-sought : (family : Family) (max : ℕ) (lines : List (Option Line)) (ids : List (Option ℕ)) → length ids ≡ length lines →
    ((at : ℕ) → depth_at ids at ≡ start at) → AreSought family max lines (stacks_by ([] ∷ []) ids) (0 ∷ [])
unfolding round
first-sought family max lines ids size is = record {
  sized = by-length ([] ∷ []) ids ∙ size;
  found = record { start = first; shape = shape; below = below; visited = visited };
  handed = λ p to stack line has here goes. inl (0, omega arith, sym (alone p stack has).0);
}
  where
    stacks : Stacks
    stacks = stacks_by ([] ∷ []) ids

    first : stack_at stacks 0 ≡ Some []
    first = by-some ([] ∷ []) ids 0 0 (is 0)

    alone : (p : ℕ) (stack : List Held) → stack_at stacks p ≡ Some stack → (p ≡ 0) × (stack ≡ [])
    alone p stack has = elim (first-at ids is p) [
      | inl it ↦ (it.0, cc (by-some ([] ∷ []) ids p 0 it.1, has))
      | inr none ↦ absurd (cc (by-none ([] ∷ []) ids p none, has))
    ]

    shape : (p : ℕ) (stack : List Held) → stack_at stacks p ≡ Some stack → IsReached max lines p (length stack)
    shape p stack has =
        let it = alone p stack has in
        subst (λ (k : ℕ). IsReached max lines k (length stack)) (sym it.0)
        (subst (λ (s : List Held). IsReached max lines 0 (length s)) (sym it.1) (0, refl))

    below : (p : ℕ) (stack : List Held) → stack_at stacks p ≡ Some stack → (other : Typing) → IsClosed family max lines other →
        AreUnder family stack (other p)
    below p stack has other closed =
        let it = alone p stack has in
        subst (λ (k : ℕ). AreUnder family stack (other k)) (sym it.0)
        (subst (λ (s : List Held). AreUnder family s (other 0)) (sym it.1)
        (subst (λ (s : List Held). AreUnder family [] s) (sym closed.start) tt))

    visited : (p : ℕ) → Contains (0 ∷ []) p → IsTrue (is_some (stack_at stacks p))
    visited p there = at there.0 there.1 there.2
      where
        at : (i : ℕ) → i < 1 → get_or (0 ∷ []) i p ≡ p → IsTrue (is_some (stack_at stacks p))
        at zero less e =
            ap (λ (o : Option (List Held)). is_some o) (ap (λ (k : ℕ). stack_at stacks k) (sym e) ∙ first)
        at (suc i) less e = absurd (omega (arith, less))
