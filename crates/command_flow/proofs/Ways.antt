-- What the ways of a task come to, word by word: with a value, refused, or stopped before the event that is due.
use Rattle.std.proofs.Common.{◌≡◌, ◌⊎◌, ◌∙◌, sym, ap, subst, refl, inl, inr, List, [], ◌∷◌, ◌++◌, Bool, true, false, Option, Some, None, Ok, Err}
use Rattle.std.proofs.lemmas.List.{append-nil, append_assoc}
use Rattle.host_events.specs.declared.event.Event.{Event}
use Rattle.host_events.specs.declared.outcome.Outcome.{Outcome}
use Rattle.host_events.specs.declared.reply.Reply.{Reply}
use Rattle.host_events.specs.Asking.{Asking, Ending, asks, refuses}
use Rattle.host_events.specs.Task.{Both, Fails, Why, give, if_some, look, never, pick, ◌>>=◌}
use Rattle.host_events.specs.Task.Why.{Refused, Stopped}

-- what holds of a trace
abbrev pub Fact : Type 1
Fact = List (Event × Reply) → Type 0

-- what holds of a trace that gave a value, after which a task was refused, or an event is due
abbrev pub Comes : {A : Type 0} → (A → Fact) → (Outcome → Fact) → (Event → Fact) → Ending A → Fact
Comes Gives Refuses Dues (Ok value) trace = Gives value trace
Comes Gives Refuses Dues (Err (Refused outcome)) trace = Refuses outcome trace
Comes Gives Refuses Dues (Err (Stopped event)) trace = Dues event trace

-- Where the one holds of the trace before the task, the others hold of the trace after it.
pub record Goes {A : Type 0} (Before : Fact) (task : Asking A) (Gives : A → Fact) (Refuses : Outcome → Fact) (Dues : Event → Fact) : Type 0 where
  pub ways : (here there : Unit {0}) (front trace : List (Event × Reply)) (end : Ending A) → Before front → task here trace there end →
      Comes Gives Refuses Dues end (front ++ trace)

-- what ends with nothing asked
comes_at : {A : Type 0} (Gives : A → Fact) (Refuses : Outcome → Fact) (Dues : Event → Fact) (end last : Ending A) (front trace : List (Event × Reply)) →
    trace ≡ [] → end ≡ last → Comes Gives Refuses Dues last front → Comes Gives Refuses Dues end (front ++ trace)
comes_at Gives Refuses Dues end last front trace none is comes =
    let P : Ending _ → Type 0 = λ e. Comes Gives Refuses Dues e (front ++ trace) in
    let Q : List (Event × Reply) → Type 0 = λ t. Comes Gives Refuses Dues last t in
    subst P (sym is) (subst Q (sym (ap (λ t. front ++ t) none ∙ append-nil front)) comes)

module _ (Refuses : Outcome → Fact) (Dues : Event → Fact) where
  pub goes-never : {A : Type 0} (Before : Fact) (Gives : A → Fact) → Goes Before never Gives Refuses Dues
  unfolding never
  goes-never Before Gives = record { ways = λ here there front trace end before way. absurd way }

  pub goes-give : {A : Type 0} (Before : Fact) (Gives : A → Fact) (value : A) →
      ((front : List (Event × Reply)) → Before front → Gives value front) → Goes Before (give value) Gives Refuses Dues
  unfolding look
  goes-give Before Gives value h = record {
    ways = λ here there front trace end before way. comes_at Gives Refuses Dues end (Ok value) front trace way.0 way.2 (h front before);
  }

  pub goes-refuses : {A : Type 0} (Before : Fact) (Gives : A → Fact) (outcome : Outcome) →
      ((front : List (Event × Reply)) → Before front → Refuses outcome front) → Goes Before (refuses outcome) Gives Refuses Dues
  unfolding look
  goes-refuses Before Gives outcome h = record {
    ways = λ here there front trace end before way. comes_at Gives Refuses Dues end (Err (Refused outcome)) front trace way.0 way.2 (h front before);
  }

  -- an event is due, or its reply came
  pub goes-asks : (Before : Fact) (Gives : Reply → Fact) (event : Event) →
      ((front : List (Event × Reply)) → Before front → Dues event front) →
      ((front : List (Event × Reply)) (reply : Reply) → Before front → Gives reply (front ++ (event, reply) ∷ [])) →
      Goes Before (asks event) Gives Refuses Dues
  unfolding asks
  goes-asks Before Gives event due given = record { ways = λ here there front trace end before way. at front trace end before way.1 }
    where
      at : (front trace : List (Event × Reply)) (end : Ending Reply) → Before front →
          (((reply : Reply) × (trace ≡ (event, reply) ∷ []) × (end ≡ Ok reply)) ⊎ ((trace ≡ []) × (end ≡ Err (Stopped event)))) →
          Comes Gives Refuses Dues end (front ++ trace)
      at front trace end before (inl (reply, asked, is)) =
          let P : Ending Reply → Type 0 = λ e. Comes Gives Refuses Dues e (front ++ trace) in
          let Q : List (Event × Reply) → Type 0 = λ t. Gives reply (front ++ t) in
          subst P (sym is) (subst Q (sym asked) (given front reply before))
      at front trace end before (inr (none, is)) = comes_at Gives Refuses Dues end (Err (Stopped event)) front trace none is (due front before)

  -- one task, and another after each value that the first gives
  pub goes-then : {A B : Type 0} (Before : Fact) (Between : A → Fact) (Gives : B → Fact) (first : Asking A) (next : A → Asking B) →
      Goes Before first Between Refuses Dues → ((value : A) → Goes (Between value) (next value) Gives Refuses Dues) →
      Goes Before (first >>= next) Gives Refuses Dues
  unfolding ◌>>=◌
  goes-then {A} {B} Before Between Gives first next h k = record { ways = at }
    where
      failed : (front trace : List (Event × Reply)) (why : Why Outcome Event) → Comes {A = A} Between Refuses Dues (Err why) (front ++ trace) →
          Comes {A = B} Gives Refuses Dues (Err why) (front ++ trace)
      failed front trace (Refused outcome) comes = comes
      failed front trace (Stopped event) comes = comes

      at : (here there : Unit {0}) (front trace : List (Event × Reply)) (end : Ending B) → Before front →
          (Both first next here trace there end ⊎ Fails {B = B} first here trace there end) → Comes Gives Refuses Dues end (front ++ trace)
      at here there front trace end before (inl (value, between, own, more, asked, rest, parted)) =
          let given = h.ways here between front own (Ok value) before asked in
          let comes = (k value).ways between there (front ++ own) more end given rest in
          let Q : List (Event × Reply) → Type 0 = λ t. Comes Gives Refuses Dues end t in
          subst Q (append_assoc front own more ∙ ap (λ t. front ++ t) (sym parted)) comes
      at here there front trace end before (inr (why, asked, is)) =
          let P : Ending B → Type 0 = λ e. Comes Gives Refuses Dues e (front ++ trace) in
          subst P (sym is) (failed front trace why (h.ways here there front trace (Err why) before asked))

  pub goes-pick : {A : Type 0} (Before : Fact) (Gives : A → Fact) (b : Bool) (first second : Asking A) →
      (b ≡ true → Goes Before first Gives Refuses Dues) → (b ≡ false → Goes Before second Gives Refuses Dues) →
      Goes Before (pick b first second) Gives Refuses Dues
  unfolding pick
  goes-pick Before Gives true first second h k = h refl
  goes-pick Before Gives false first second h k = k refl

  -- a task on what there is; without it no way leads on
  pub goes-if_some : {X A : Type 0} (Before : Fact) (Gives : A → Fact) (found : Option X) (task : X → Asking A) →
      ((value : X) → found ≡ Some value → Goes Before (task value) Gives Refuses Dues) → Goes Before (if_some found task never) Gives Refuses Dues
  unfolding if_some
  goes-if_some Before Gives (Some value) task h = h value refl
  goes-if_some Before Gives None task h = goes-never Before Gives
