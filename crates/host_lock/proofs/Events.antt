-- What the steps of one event come to.
use Rattle.std.proofs.Common.{◌≡◌, ℕ, cond, List, [], ◌∷◌, ◌++◌, Option, Some, None, refl, ap, sym, subst, ◌∙◌, eq-eqb}
use mathlib.Core.List.{IsPrefix}
use Rattle.std.proofs.lemmas.List.Elements.{All-head}
use Rattle.atomic_table.specs.Seated.{TableId}
use Rattle.host_events.specs.declared.event.Event.{Event}
use Rattle.host_events.specs.declared.reply.Reply.{Reply}
use Rattle.host_events.specs.declared.journal.Entry.{Entry}
use Rattle.host_events.specs.Journal.{own_entries}
use Rattle.host_lock.specs.declared.view.Begun.{Begun}
use Rattle.host_events.specs.Steps.{entry_of}
use Rattle.host_lock.specs.Views.{Pair, own, seated, with_ticket, in_turn, after_turn}
use Rattle.host_lock.specs.Steps.{Seated, Takes, takes_out, puts_in, passes, MayPass}
use Rattle.host_lock.specs.Known.{lock_of, known_lock, seat_view, first_mine, IsSeated, IsPossible, HasHappened}
use Rattle.host_lock.proofs.Lists.{prefix_self}
use Rattle.host_lock.proofs.Journals.{own_push_same}
use Rattle.host_lock.proofs.Waiting.{some_inj}
use Rattle.host_lock.proofs.Turns.{held_is}

module _ {S F : Type 0} (journal : S → List Entry) (fixed : S → F) (allows : F → List Entry → Type 0) where
  -- the seat is in its turn, with this state
  pub record Turn (b : Begun S) (t n : ℕ) (seen : List Entry) (mine : List Pair) (handed : Option ℕ) (state : S) (m : Seated S) : Type 0 where
    pub is : m ≡ (in_turn (journal state) (with_ticket n (seated b t seen mine handed)), (0, Some state) ∷ [])
    pub fixed_part : fixed state ≡ fixed b.state.value
    pub allowed : allows (fixed b.state.value) (journal state)
    pub begins : IsPrefix seen (journal state)
    pub own_are : own_entries (journal state) t ≡ mine

  pub turn_of : (b : Begun S) (t n : ℕ) (seen : List Entry) (mine : List Pair) (handed : Option ℕ) (drawn waited after : Seated S) (state : S) →
      drawn ≡ (with_ticket n (seated b t seen mine handed), []) → Takes journal fixed allows drawn waited → takes_out state waited after →
      Turn b t n seen mine handed state waited
  turn_of b t n seen mine handed drawn waited after state is took outs =
      let got = subst (λ m. Takes journal fixed allows m waited) is took in
      let same : got.state ≡ state = held_is got.state state (ap (λ (m : Seated S). m.1) (sym got.takes) ∙ outs.0) in
      let begun_is : got.begun ≡ b = sym (some_inj b got.begun got.begins) in
      record {
        is = got.takes ∙ (λ k. (in_turn (journal (same k)) (with_ticket n (seated b t seen mine handed)), (0, Some (same k)) ∷ []));
        fixed_part = ap fixed (sym same) ∙ got.fixed_part ∙ ap (λ (x : Begun S). fixed x.state.value) begun_is;
        allowed = subst (λ (p : F × List Entry). allows p.0 p.1) (λ k. (fixed (begun_is k).state.value, journal (same k))) got.allowed;
        begins = subst (IsPrefix seen) (ap journal same) got.seen;
        own_are = ap (λ s. own_entries (journal s) t) (sym same) ∙ All-head (λ o. own_entries (journal got.state) o.thread ≡ o.mine) (own t mine) [] got.mine;
      }

  pub possible_in : (table : TableId) {b : Begun S} {t n : ℕ} {seen : List Entry} {mine : List Pair} {handed : Option ℕ} {state : S} {m : Seated S} →
      Turn b t n seen mine handed state m → IsPossible fixed allows (lock_of table b) (seat_view table t (seated b t seen mine handed)) (journal state)
  possible_in table turn = record { allowed = turn.allowed; begins = turn.begins; own = turn.own_are }

  -- the steps from the turn on: the state comes out, has one entry more, and goes in
  pub record Stepped (b : Begun S) (t n : ℕ) (seen : List Entry) (mine : List Pair) (handed : Option ℕ) (state next : S) (event : Event) (reply : Reply) (waited held : Seated S) : Type 0 where
    pub turn : Turn b t n seen mine handed state waited
    pub is : held ≡ (in_turn (journal state) (with_ticket n (seated b t seen mine handed)), (0, Some next) ∷ [])
    pub grew : journal next ≡ journal state ++ entry_of t event reply ∷ []
    pub fixed_part : fixed next ≡ fixed state
    pub allowed : allows (fixed next) (journal next)

  pub stepped_in : {b : Begun S} {t n : ℕ} {seen : List Entry} {mine : List Pair} {handed : Option ℕ} {state : S} {waited : Seated S} (next : S) (event : Event) (reply : Reply) (out held : Seated S) →
      Turn b t n seen mine handed state waited → takes_out state waited out → puts_in next out held →
      journal next ≡ journal state ++ entry_of t event reply ∷ [] → fixed next ≡ fixed state → allows (fixed next) (journal next) →
      Stepped b t n seen mine handed state next event reply waited held
  stepped_in next event reply out held turn outs ins grew part allowed = record {
    turn = turn;
    is = ins ∙ ap (λ (m : Seated S). (m.0, (0, Some next) ∷ [])) (outs.1 ∙ ap (λ (m : Seated S). (m.0, (0, None) ∷ [])) turn.is);
    grew = grew;
    fixed_part = part;
    allowed = allowed;
  }

  pub may_pass : {b : Begun S} {t n : ℕ} {seen : List Entry} {mine : List Pair} {handed : Option ℕ} {state next : S} {event : Event} {reply : Reply} {waited held : Seated S} →
      Stepped b t n seen mine handed state next event reply waited held → MayPass journal fixed allows held
  may_pass {b} {t} {n} {seen} {mine} {handed} {state} {next} {event} {reply} did = record {
    state = next;
    before = journal state;
    entry = entry_of t event reply;
    ticket = n;
    begun = b;
    thread = t;
    seen = seen;
    mine = mine;
    handed = handed;
    is = did.is;
    by = refl;
    grew = did.grew;
    fixed_part = did.fixed_part ∙ did.turn.fixed_part;
    allowed = subst (λ (p : F × List Entry). allows p.0 p.1) (λ k. ((did.fixed_part ∙ did.turn.fixed_part) k, did.grew k)) did.allowed;
  }

  abbrev Ended : Begun S → ℕ → ℕ → List Entry → List Pair → Option ℕ → S → Event → Reply → Seated S
  Ended b t n seen mine handed state event reply =
      (after_turn (journal state) (entry_of t event reply) (in_turn (journal state) (with_ticket n (seated b t seen mine handed))), [])

  ends : {b : Begun S} {t n : ℕ} {seen : List Entry} {mine : List Pair} {handed : Option ℕ} {state next : S} {event : Event} {reply : Reply} {waited held : Seated S} (last : Seated S) →
      Stepped b t n seen mine handed state next event reply waited held → passes journal held last →
      last ≡ Ended b t n seen mine handed state event reply
  ends {b} {t} {n} {seen} {mine} {handed} {state} {next} {event} {reply} last did pass =
      pass next (journal state) (entry_of t event reply) (ap (λ (m : Seated S). m.1) did.is) (ap (λ (m : Seated S). m.0.taken) did.is) did.grew
      ∙ ap (λ (m : Seated S). (after_turn (journal state) (entry_of t event reply) m.0, [])) did.is

  pub stays_seated : {b : Begun S} {t n : ℕ} {seen : List Entry} {mine : List Pair} {handed : Option ℕ} {state next : S} {event : Event} {reply : Reply} {waited held : Seated S} (last : Seated S) →
      Stepped b t n seen mine handed state next event reply waited held → passes journal held last →
      IsSeated t last
  stays_seated {b} {t} last did pass =
      let is = ends last did pass in
      (b, is ∙ ap (λ (m : Seated S). (seated b t m.0.seen (first_mine m.0.threads) m.0.handed, [])) (sym is))

  pub happened : (table : TableId) {b : Begun S} {t n : ℕ} {seen : List Entry} {mine : List Pair} {handed : Option ℕ} {state next : S} {event : Event} {reply : Reply} {waited held : Seated S} (last : Seated S) →
      Stepped b t n seen mine handed state next event reply waited held → passes journal held last →
      HasHappened fixed allows (lock_of table b) (seat_view table t (seated b t seen mine handed)) (journal state) event reply (seat_view table t last.0)
  happened table {b} {t} {n} {seen} {mine} {handed} {state} {next} {event} {reply} last did pass =
      let is = ends last did pass in
      let mine_is : first_mine last.0.threads ≡ mine ++ (event, reply) ∷ [] =
      ap (λ (m : Seated S). first_mine m.0.threads) is ∙ ap (λ c. cond c (mine ++ (event, reply) ∷ []) mine) (eq-eqb t t refl) in
      let seen_is : last.0.seen ≡ journal state ++ entry_of t event reply ∷ [] = ap (λ (m : Seated S). m.0.seen) is in
      record {
        possible = possible_in table did.turn;
        seat = (ap (λ (m : Seated S). known_lock table m.0.begun) is, refl);
        seen = seen_is;
        mine = mine_is;
        allowed = record {
          allowed = subst (λ (p : F × List Entry). allows p.0 p.1) (λ k. ((did.fixed_part ∙ did.turn.fixed_part) k, (did.grew ∙ sym seen_is) k)) did.allowed;
          begins = prefix_self last.0.seen;
          own = ap (λ es. own_entries es t) seen_is ∙ own_push_same (journal state) (entry_of t event reply) t refl
              ∙ ap (λ ms. ms ++ (event, reply) ∷ []) did.turn.own_are ∙ sym mine_is;
        };
      }
