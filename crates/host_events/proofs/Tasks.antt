-- Laws of tasks: what is put together of exact tasks is exact, what is put together of tasks that can stop
-- before each step can stop, and more ways of the parts are more ways.
use Rattle.std.proofs.Common.{◌≡◌, ◌⊎◌, ◌∙◌, sym, ap, subst, refl, inl, inr, List, [], ◌∷◌, ◌++◌, Bool, true, false, Option, Some, None, Result, Ok, Err}
use Rattle.std.proofs.lemmas.List.{append_assoc, append_cancel_left}
use Rattle.host_events.specs.declared.event.Event.{Event}
use Rattle.host_events.specs.declared.reply.Reply.{Reply}
use Rattle.host_events.specs.Asking.{Asking, Ending, IsDue, IsWay, asks}
use Rattle.host_events.specs.Task.{Task, Why, never, look, change, ◌>>=◌, Both, Fails, undone, pick, if_some, for_each, or_else, first_of}
use Rattle.host_events.specs.Task.Why.{Refused, Stopped}
use Rattle.host_events.specs.TaskLaws.{EndsTrace, IsExact, CanStop, IsWithin}

same_head : {T : Type 0} (x y : T) (xs ys : List T) → x ∷ xs ≡ y ∷ ys → x ≡ y
same_head x y xs ys e = cc e

same_tail : {T : Type 0} (x y : T) (xs ys : List T) → x ∷ xs ≡ y ∷ ys → xs ≡ ys
same_tail x y xs ys e = cc e

same_ok : {A E : Type 0} (x y : A) → ◌≡◌ {A = Result A E} (Ok x) (Ok y) → x ≡ y
same_ok x y e = cc e

same_err : {A E : Type 0} (x y : E) → ◌≡◌ {A = Result A E} (Err x) (Err y) → x ≡ y
same_err x y e = cc e

ok_no_err : {A E B : Type 0} (x : A) (y : E) → ◌≡◌ {A = Result A E} (Ok x) (Err y) → B
ok_no_err x y e = absurd (cc e)

-- an end with the same reason ends the trace in the same way
ends_as : (A B : Type 0) {R P T : Type 0} (why : Why R P) (rest : List T) →
    EndsTrace {A = A} (Err why) rest → EndsTrace {A = B} (Err why) rest
ends_as A B (Refused refusal) rest h = h
ends_as A B (Stopped stop) rest h = h

ends_by : {R P T A : Type 0} (a b : Result A (Why R P)) (rest : List T) → a ≡ b → EndsTrace a rest → EndsTrace b rest
ends_by a b rest e h = let Q : Result _ _ → Type 0 = λ r. EndsTrace r rest in subst Q e h

pub exact-never : {S T R P A : Type 0} → IsExact {S = S} {T = T} {R = R} {P = P} {A = A} never
unfolding never
exact-never = record { one = λ before x y own other rest more end last h k same ends lasts. absurd h }

pub exact-look : {S T R P A : Type 0} (f : S → Result A (Why R P)) → IsExact {T = T} (look f)
unfolding look
exact-look f = record {
  one = λ before x y own other rest more end last h k same ends lasts.
      (h.0 ∙ sym k.0, h.1 ∙ sym k.1, h.2 ∙ sym k.2);
}

pub exact-change : {S T R P : Type 0} (f : S → S) → IsExact {T = T} {R = R} {P = P} (change f)
unfolding change
exact-change f = record {
  one = λ before x y own other rest more end last h k same ends lasts.
      (h.0 ∙ sym k.0, h.1 ∙ sym k.1, h.2 ∙ sym k.2);
}

pub exact-pick : {S T R P A : Type 0} (b : Bool) (first second : Task S T (Why R P) A) →
    IsExact first → IsExact second → IsExact (pick b first second)
unfolding pick
exact-pick true first second h k = h
exact-pick false first second h k = k

pub exact-if_some : {S T R P X A : Type 0} (x : Option X) (task : X → Task S T (Why R P) A) (other : Task S T (Why R P) A) →
    ((value : X) → IsExact (task value)) → IsExact other → IsExact (if_some x task other)
unfolding if_some
exact-if_some (Some value) task other h k = h value
exact-if_some None task other h k = k

module _ {S T R P A B : Type 0} (first : Task S T (Why R P) A) (next : A → Task S T (Why R P) B)
    (exact_first : IsExact first) (exact_next : (value : A) → IsExact (next value)) where
  both_both : (before x y : S) (own other rest more : List T) (end last : Result B (Why R P)) →
      Both first next before own x end → Both first next before other y last → own ++ rest ≡ other ++ more →
      EndsTrace end rest → EndsTrace last more → (own ≡ other) × (x ≡ y) × (end ≡ last)
  both_both before x y own other rest more end last (v, b, o, m, hf, hn, e) (w, c, p, n, kf, kn, d) same ends lasts =
      let tails : o ++ (m ++ rest) ≡ p ++ (n ++ more) =
      sym (append_assoc o m rest) ∙ ap (λ t. t ++ rest) (sym e) ∙ same ∙ ap (λ t. t ++ more) d ∙ append_assoc p n more in
      let one : (o ≡ p) × (b ≡ c) × (◌≡◌ {A = Result A (Why R P)} (Ok v) (Ok w)) =
      exact_first.one before b c o p (m ++ rest) (n ++ more) (Ok v) (Ok w) hf kf tails tt tt in
      let Q : S → A → Type 0 = λ s a. next a s n y last in
      let kn' : next v b n y last = subst (λ s. Q s v) (sym one.1) (subst (λ a. Q c a) (sym (same_ok v w one.2)) kn) in
      let cut : m ++ rest ≡ n ++ more = append_cancel_left p _ _ (ap (λ t. t ++ (m ++ rest)) (sym one.0) ∙ tails) in
      let two : (m ≡ n) × (x ≡ y) × (end ≡ last) = (exact_next v).one b x y m n rest more end last hn kn' cut ends lasts in
      (e ∙ ap (λ t. t ++ m) one.0 ∙ ap (λ t. p ++ t) two.0 ∙ sym d, two.1, two.2)

  both_fails : (before x y : S) (own other rest more : List T) (end last : Result B (Why R P)) →
      Both first next before own x end → Fails {B = B} first before other y last → own ++ rest ≡ other ++ more →
      EndsTrace end rest → EndsTrace last more → ⊥
  both_fails before x y own other rest more end last (v, b, o, m, hf, hn, e) (why, kf, d) same ends lasts =
      let tails : o ++ (m ++ rest) ≡ other ++ more =
      sym (append_assoc o m rest) ∙ ap (λ t. t ++ rest) (sym e) ∙ same in
      let one : (o ≡ other) × (b ≡ y) × (◌≡◌ {A = Result A (Why R P)} (Ok v) (Err why)) =
      exact_first.one before b y o other (m ++ rest) more (Ok v) (Err why) hf kf tails tt (ends_as B A why more (ends_by last (Err why) more d lasts)) in
      ok_no_err v why one.2

  fails_fails : (before x y : S) (own other rest more : List T) (end last : Result B (Why R P)) →
      Fails {B = B} first before own x end → Fails {B = B} first before other y last → own ++ rest ≡ other ++ more →
      EndsTrace end rest → EndsTrace last more → (own ≡ other) × (x ≡ y) × (end ≡ last)
  fails_fails before x y own other rest more end last (why, hf, e) (because, kf, d) same ends lasts =
      let one : (own ≡ other) × (x ≡ y) × (◌≡◌ {A = Result A (Why R P)} (Err why) (Err because)) =
      exact_first.one before x y own other rest more (Err why) (Err because) hf kf same
      (ends_as B A why rest (ends_by end (Err why) rest e ends)) (ends_as B A because more (ends_by last (Err because) more d lasts)) in
      (one.0, one.1, e ∙ ap (λ w. Err w) (same_err why because one.2) ∙ sym d)

  then_one : (before x y : S) (own other rest more : List T) (end last : Result B (Why R P)) →
      (Both first next before own x end ⊎ Fails {B = B} first before own x end) →
      (Both first next before other y last ⊎ Fails {B = B} first before other y last) → own ++ rest ≡ other ++ more →
      EndsTrace end rest → EndsTrace last more → (own ≡ other) × (x ≡ y) × (end ≡ last)
  then_one before x y own other rest more end last (inl h) (inl k) same ends lasts =
      both_both before x y own other rest more end last h k same ends lasts
  then_one before x y own other rest more end last (inl h) (inr k) same ends lasts =
      absurd (both_fails before x y own other rest more end last h k same ends lasts)
  then_one before x y own other rest more end last (inr h) (inl k) same ends lasts =
      absurd (both_fails before y x other own more rest last end k h (sym same) lasts ends)
  then_one before x y own other rest more end last (inr h) (inr k) same ends lasts =
      fails_fails before x y own other rest more end last h k same ends lasts

  pub exact-then : IsExact (first >>= next)
  unfolding ◌>>=◌
  exact-then = record { one = then_one }

pub exact-for_each : {S T R P X Y : Type 0} (task : X → Task S T (Why R P) Y) (xs : List X) →
    ((x : X) → IsExact (task x)) → IsExact (for_each task xs)
unfolding for_each
exact-for_each task [] h = exact-look _
exact-for_each task (x ∷ xs) h =
    exact-then (task x) _ (h x) (λ y. exact-then (for_each task xs) _ (exact-for_each task xs h) (λ ys. exact-look _))

pub exact-or_else : {S T R P A : Type 0} (other : Task S T (Why R P) (Option A)) (found : Option A) →
    IsExact other → IsExact (or_else other found)
unfolding or_else
exact-or_else other (Some found) h = exact-look _
exact-or_else other None h = h

pub exact-first_of : {S T R P X Y : Type 0} (task : X → Task S T (Why R P) (Option Y)) (xs : List X) →
    ((x : X) → IsExact (task x)) → IsExact (first_of task xs)
unfolding first_of
exact-first_of task [] h = exact-look _
exact-first_of task (x ∷ xs) h =
    exact-then (task x) _ (h x) (λ found. exact-or_else (first_of task xs) found (exact-first_of task xs h))

module _ {S T R P A : Type 0} (back : S → S → S) (task : Task S T (Why R P) A) (exact : IsExact task) where
  Undone : S → List T → S → Result A (Why R P) → Type 0
  Undone before trace after end =
      ((value : A) × task before trace after (Ok value) × (end ≡ Ok value))
      ⊎ ((why : Why R P) × (there : S) × task before trace there (Err why) × (after ≡ back before there) × (end ≡ Err why))

  undone_one : (before x y : S) (own other rest more : List T) (end last : Result A (Why R P)) →
      (((value : A) × task before own x (Ok value) × (end ≡ Ok value))
      ⊎ ((why : Why R P) × (there : S) × task before own there (Err why) × (x ≡ back before there) × (end ≡ Err why))) →
      (((value : A) × task before other y (Ok value) × (last ≡ Ok value))
      ⊎ ((why : Why R P) × (there : S) × task before other there (Err why) × (y ≡ back before there) × (last ≡ Err why))) →
      own ++ rest ≡ other ++ more → EndsTrace end rest → EndsTrace last more → (own ≡ other) × (x ≡ y) × (end ≡ last)
  undone_one before x y own other rest more end last (inl (v, h, e)) (inl (w, k, d)) same ends lasts =
      let one : (own ≡ other) × (x ≡ y) × (◌≡◌ {A = Result A (Why R P)} (Ok v) (Ok w)) = exact.one before x y own other rest more (Ok v) (Ok w) h k same tt tt in
      (one.0, one.1, e ∙ one.2 ∙ sym d)
  undone_one before x y own other rest more end last (inl (v, h, e)) (inr (why, there, k, f, d)) same ends lasts =
      let one : (own ≡ other) × (x ≡ there) × (◌≡◌ {A = Result A (Why R P)} (Ok v) (Err why)) = exact.one before x there own other rest more (Ok v) (Err why) h k same tt (ends_by last (Err why) more d lasts) in
      ok_no_err v why one.2
  undone_one before x y own other rest more end last (inr (why, there, h, f, e)) (inl (w, k, d)) same ends lasts =
      let one : (own ≡ other) × (there ≡ y) × (◌≡◌ {A = Result A (Why R P)} (Err why) (Ok w)) = exact.one before there y own other rest more (Err why) (Ok w) h k same (ends_by end (Err why) rest e ends) tt in
      ok_no_err w why (sym one.2)
  undone_one before x y own other rest more end last (inr (why, there, h, f, e)) (inr (because, here, k, g, d)) same ends lasts =
      let one : (own ≡ other) × (there ≡ here) × (◌≡◌ {A = Result A (Why R P)} (Err why) (Err because)) = exact.one before there here own other rest more (Err why) (Err because) h k same (ends_by end (Err why) rest e ends) (ends_by last (Err because) more d lasts) in
      (one.0, f ∙ ap (back before) one.1 ∙ sym g, e ∙ one.2 ∙ sym d)

  pub exact-undone : IsExact (undone back task)
  unfolding undone
  exact-undone = record { one = undone_one }

-- Of two ways with the whole trace, or with none, the ends are the same.
ends_all : (A T : Type 0) {R P : Type 0} (end : Result A (Why R P)) → EndsTrace {T = T} end []
ends_all A T (Ok value) = tt
ends_all A T (Err (Refused refusal)) = tt
ends_all A T (Err (Stopped stop)) = refl

pub one_end : {S T R P A : Type 0} (task : Task S T (Why R P) A) → IsExact task →
    (before first second : S) (trace : List T) (a b : Result A (Why R P)) →
    task before trace first a → task before trace second b → (first ≡ second) × (a ≡ b)
one_end {T = T} {A = A} task exact before first second trace a b h k =
    let one : (trace ≡ trace) × (first ≡ second) × (a ≡ b) = exact.one before first second trace trace [] [] a b h k refl (ends_all A T a) (ends_all A T b) in
    (one.1, one.2)

-- one event has one reply, or is what is due
asks_one : (event : Event) (own other rest more : List (Event × Reply)) (end last : Ending Reply) →
    (((reply : Reply) × (own ≡ (event, reply) ∷ []) × (end ≡ Ok reply)) ⊎ ((own ≡ []) × (end ≡ Err (Stopped event)))) →
    (((reply : Reply) × (other ≡ (event, reply) ∷ []) × (last ≡ Ok reply)) ⊎ ((other ≡ []) × (last ≡ Err (Stopped event)))) →
    own ++ rest ≡ other ++ more → EndsTrace end rest → EndsTrace last more → (own ≡ other) × (end ≡ last)
asks_one event own other rest more end last (inl (r, o, e)) (inl (s, p, d)) same ends lasts =
    let heads : (event, r) ∷ rest ≡ (event, s) ∷ more = ap (λ t. t ++ rest) (sym o) ∙ same ∙ ap (λ t. t ++ more) p in
    let one : r ≡ s = ap (λ step. step.1) (same_head (event, r) (event, s) rest more heads) in
    (o ∙ ap (λ x. (event, x) ∷ []) one ∙ sym p, e ∙ ap (λ x. Ok x) one ∙ sym d)
asks_one event own other rest more end last (inl (r, o, e)) (inr (p, d)) same ends lasts =
    let none : more ≡ [] = ends_by last (Err (Stopped event)) more d lasts in
    let heads : (event, r) ∷ rest ≡ [] = ap (λ t. t ++ rest) (sym o) ∙ same ∙ ap (λ t. t ++ more) p ∙ none in
    absurd (cc heads)
asks_one event own other rest more end last (inr (o, e)) (inl (s, p, d)) same ends lasts =
    let none : rest ≡ [] = ends_by end (Err (Stopped event)) rest e ends in
    let heads : [] ≡ (event, s) ∷ more = sym none ∙ ap (λ t. t ++ rest) (sym o) ∙ same ∙ ap (λ t. t ++ more) p in
    absurd (cc heads)
asks_one event own other rest more end last (inr (o, e)) (inr (p, d)) same ends lasts = (o ∙ sym p, e ∙ sym d)

pub exact-asks : (event : Event) → IsExact (asks event)
unfolding asks
exact-asks event = record {
  one = λ before x y own other rest more end last h k same ends lasts.
      let each = asks_one event own other rest more end last h.1 k.1 same ends lasts in
      (each.0, h.0 ∙ sym k.0, each.1);
}

-- what asks nothing has no step to stop before
no_step : {T : Type 0} (own more : List T) (step : T) → own ++ step ∷ more ≡ [] → ⊥
no_step [] more step e = absurd (cc e)
no_step (x ∷ own) more step e = absurd (cc e)

pub stops-never : {S T R P A : Type 0} (asked : T → P) → CanStop {S = S} {R = R} {A = A} asked never
unfolding never
stops-never asked = record { stops = λ before after own more step end h. absurd h }

pub stops-look : {S T R P A : Type 0} (asked : T → P) (f : S → Result A (Why R P)) → CanStop asked (look f)
unfolding look
stops-look asked f = record { stops = λ before after own more step end h. absurd (no_step own more step h.0) }

pub stops-change : {S T R P : Type 0} (asked : T → P) (f : S → S) → CanStop {R = R} asked (change f)
unfolding change
stops-change asked f = record { stops = λ before after own more step end h. absurd (no_step own more step h.0) }

pub stops-pick : {S T R P A : Type 0} (asked : T → P) (b : Bool) (first second : Task S T (Why R P) A) →
    CanStop asked first → CanStop asked second → CanStop asked (pick b first second)
unfolding pick
stops-pick asked true first second h k = h
stops-pick asked false first second h k = k

pub stops-if_some : {S T R P X A : Type 0} (asked : T → P) (x : Option X) (task : X → Task S T (Why R P) A) (other : Task S T (Why R P) A) →
    ((value : X) → CanStop asked (task value)) → CanStop asked other → CanStop asked (if_some x task other)
unfolding if_some
stops-if_some asked (Some value) task other h k = h value
stops-if_some asked None task other h k = k

-- a step of two traces joined is a step of the first, or one of the second
cut_at : {T : Type 0} (o m own more : List T) (step : T) → o ++ m ≡ own ++ step ∷ more →
    ((k : List T) × (o ≡ own ++ step ∷ k)) ⊎ ((k : List T) × (own ≡ o ++ k) × (m ≡ k ++ step ∷ more))
cut_at [] m own more step e = inr (own, refl, e)
cut_at (x ∷ o) m [] more step e = inl (o, ap (λ y. y ∷ o) (same_head x step _ _ e))
cut_at {T} (x ∷ o) m (y ∷ own) more step e =
    cut_next x y o m own more step (same_head x y _ _ e) (cut_at o m own more step (same_tail x y _ _ e))
  where
    cut_next : (x y : T) (o m own more : List T) (step : T) → x ≡ y →
        (((k : List T) × (o ≡ own ++ step ∷ k)) ⊎ ((k : List T) × (own ≡ o ++ k) × (m ≡ k ++ step ∷ more))) →
        ((k : List T) × (x ∷ o ≡ (y ∷ own) ++ step ∷ k)) ⊎ ((k : List T) × (y ∷ own ≡ (x ∷ o) ++ k) × (m ≡ k ++ step ∷ more))
    cut_next x y o m own more step same (inl (k, a)) = inl (k, ap (λ z. z ∷ o) same ∙ ap (λ t. y ∷ t) a)
    cut_next x y o m own more step same (inr (k, a, b)) = inr (k, ap (λ z. z ∷ own) (sym same) ∙ ap (λ t. x ∷ t) a, b)

module _ {S T R P A B : Type 0} (asked : T → P) (first : Task S T (Why R P) A) (next : A → Task S T (Why R P) B)
    (stop_first : CanStop asked first) (stop_next : (value : A) → CanStop asked (next value)) where
  failed : (before there : S) (own : List T) (stop : P) → first before own there (Err (Stopped stop)) →
      (Both first next before own there (Err (Stopped stop)) ⊎ Fails {B = B} first before own there (Err (Stopped stop)))
  failed before there own stop h = inr (Stopped stop, h, refl)

  both_stops : (before after : S) (own more : List T) (step : T) (end : Result B (Why R P)) (v : A) (b : S) (o m : List T) →
      first before o b (Ok v) → next v b m after end →
      (((k : List T) × (o ≡ own ++ step ∷ k)) ⊎ ((k : List T) × (own ≡ o ++ k) × (m ≡ k ++ step ∷ more))) →
      (there : S) × (Both first next before own there (Err (Stopped (asked step))) ⊎ Fails {B = B} first before own there (Err (Stopped (asked step))))
  both_stops before after own more step end v b o m hf hn (inl (k, a)) =
      let Q : List T → Type 0 = λ t. first before t b (Ok v) in
      let s : (there : S) × first before own there (Err (Stopped (asked step))) = stop_first.stops before b own k step (Ok v) (subst Q a hf) in
      (s.0, failed before s.0 own (asked step) s.1)
  both_stops before after own more step end v b o m hf hn (inr (k, a, d)) =
      let Q : List T → Type 0 = λ t. next v b t after end in
      let s : (there : S) × next v b k there (Err (Stopped (asked step))) = (stop_next v).stops b after k more step end (subst Q d hn) in
      (s.0, inl (v, b, o, k, hf, s.1, a))

  then_stops : (before after : S) (own more : List T) (step : T) (end : Result B (Why R P)) →
      (Both first next before (own ++ step ∷ more) after end ⊎ Fails {B = B} first before (own ++ step ∷ more) after end) →
      (there : S) × (Both first next before own there (Err (Stopped (asked step))) ⊎ Fails {B = B} first before own there (Err (Stopped (asked step))))
  then_stops before after own more step end (inl (v, b, o, m, hf, hn, e)) =
      both_stops before after own more step end v b o m hf hn (cut_at o m own more step (sym e))
  then_stops before after own more step end (inr (why, hf, e)) =
      let s : (there : S) × first before own there (Err (Stopped (asked step))) = stop_first.stops before after own more step (Err why) hf in
      (s.0, failed before s.0 own (asked step) s.1)

  pub stops-then : CanStop asked (first >>= next)
  unfolding ◌>>=◌
  stops-then = record { stops = then_stops }

pub stops-for_each : {S T R P X Y : Type 0} (asked : T → P) (task : X → Task S T (Why R P) Y) (xs : List X) →
    ((x : X) → CanStop asked (task x)) → CanStop asked (for_each task xs)
unfolding for_each
stops-for_each asked task [] h = stops-look asked _
stops-for_each asked task (x ∷ xs) h =
    stops-then asked (task x) _ (h x) (λ y. stops-then asked (for_each task xs) _ (stops-for_each asked task xs h) (λ ys. stops-look asked _))

pub stops-or_else : {S T R P A : Type 0} (asked : T → P) (other : Task S T (Why R P) (Option A)) (found : Option A) →
    CanStop asked other → CanStop asked (or_else other found)
unfolding or_else
stops-or_else asked other (Some found) h = stops-look asked _
stops-or_else asked other None h = h

pub stops-first_of : {S T R P X Y : Type 0} (asked : T → P) (task : X → Task S T (Why R P) (Option Y)) (xs : List X) →
    ((x : X) → CanStop asked (task x)) → CanStop asked (first_of task xs)
unfolding first_of
stops-first_of asked task [] h = stops-look asked _
stops-first_of asked task (x ∷ xs) h =
    stops-then asked (task x) _ (h x) (λ found. stops-or_else asked (first_of task xs) found (stops-first_of asked task xs h))

-- the event of a step is what was asked
abbrev pub event_asked : Event × Reply → Event
event_asked step = step.0

asks_stops : (event : Event) (own more : List (Event × Reply)) (step : Event × Reply) (end : Ending Reply) →
    (((reply : Reply) × (own ++ step ∷ more ≡ (event, reply) ∷ []) × (end ≡ Ok reply)) ⊎ ((own ++ step ∷ more ≡ []) × (end ≡ Err (Stopped event)))) →
    (own ≡ []) × (event_asked step ≡ event)
asks_stops event [] more step end (inl (reply, o, e)) = (refl, ap (λ x. x.0) (same_head step (event, reply) more [] o))
asks_stops event (x ∷ own) more step end (inl (reply, o, e)) = absurd (no_step own more step (same_tail x (event, reply) (own ++ step ∷ more) [] o))
asks_stops event own more step end (inr (o, e)) = absurd (no_step own more step o)

pub stops-asks : (event : Event) → CanStop event_asked (asks event)
unfolding asks
stops-asks event = record {
  stops = λ before after own more step end h.
      let first = asks_stops event own more step end h.1 in
      (before, (refl, inr (first.0, ap (λ x. Err (Stopped x)) first.1)));
}

pub within-then : {S T E A B : Type 0} (first wider : Task S T E A) (next further : A → Task S T E B) →
    IsWithin first wider → ((value : A) → IsWithin (next value) (further value)) → IsWithin (first >>= next) (wider >>= further)
unfolding ◌>>=◌
within-then {S} {T} {E} {A} {B} first wider next further h k = record { ways = go }
  where
    go : (before after : S) (trace : List T) (end : Result B E) →
        (Both first next before trace after end ⊎ Fails {B = B} first before trace after end) →
        (Both wider further before trace after end ⊎ Fails {B = B} wider before trace after end)
    go before after trace end (inl (v, b, o, m, hf, hn, e)) = inl (v, b, o, m, h.ways before b o (Ok v) hf, (k v).ways b after m end hn, e)
    go before after trace end (inr (why, hf, e)) = inr (why, h.ways before after trace (Err why) hf, e)

-- what is due after a trace is one event
pub one_due : {A : Type 0} (task : Asking A) → IsExact task → (trace : List (Event × Reply)) (event other : Event) →
    IsDue task trace event → IsDue task trace other → event ≡ other
one_due {A} task exact trace event other h k =
    let same : ◌≡◌ {A = Ending A} (Err (Stopped event)) (Err (Stopped other)) =
    (one_end task exact tt tt tt trace (Err (Stopped event)) (Err (Stopped other)) h k).1 in
    cc same

-- a whole way gives a trace one end
pub one_ending : {A : Type 0} (task : Asking A) → IsExact task → (trace : List (Event × Reply)) (end last : Ending A) →
    IsWay task trace end → IsWay task trace last → end ≡ last
one_ending task exact trace end last h k = (one_end task exact tt tt tt trace end last h k).1

-- each event of a way was due after the trace before it
pub due_before : {A : Type 0} (task : Asking A) → CanStop event_asked task → (own more : List (Event × Reply)) (step : Event × Reply) (end : Ending A) →
    IsWay task (own ++ step ∷ more) end → IsDue task own (event_asked step)
due_before task stop own more step end h = (stop.stops tt tt own more step end h).1
