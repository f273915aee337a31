use Rattle.std.proofs.Common.{◌≡◌, ◌≢◌, ◌<◌, ◌-◌, ◌+◌, ◌%◌, [], ℕ, not, eqb, length, get_or, set, Some, inl, inr, refl, sym, ap, subst, ◌∙◌, arith}
use Rattle.std.specs.List.{filter, slice_get}
use Rattle.std.specs.Option.{option_map}
use Rattle.std.proofs.lemmas.Option.{slice_get-map, slice_get_within}
use Rattle.std.proofs.lemmas.List.{length-set}
use Rattle.host_events.specs.declared.flow.Next.TheVariants as nexts
use Rattle.host_events.specs.Flows.{stand_after, Gives}
use Rattle.host_events.specs.Steps.{own_steps}
use Rattle.host_threads.specs.declared.seat.Seat.{Seat}
use Rattle.host_threads.specs.Drive.{CanDrive}
use Rattle.host_threads.specs.Seats.{asks, IfGoesOn, asks_at, asking, given}
use Rattle.host_threads.specs.Turns.{IsOfThreads, TakesTurns}
use Rattle.host_threads.proofs.OwnSteps.{IfGoesOn-always}
use Rattle.host_threads.proofs.Rounds.{HasTurn-at, in_turn, HasTaken-round, HasTaken-none, AllGoOn-ended, asking-after_ask, asking-after_end, at_place, digit_at_place, schedule_some, none_from_length, mod-below, AllGoOn, slice_get-set_cases, slice_get-map_some}
use Rattle.host_threads.proofs.Turns.{HasTaken, TakesTurns-from_so_far, length-given}
use Rattle.host_threads.proofs.seed.run_by_seed.Goals as goal
use Rattle.host_threads.proofs.seed.run_by_seed.Goals.{then-not-asks, else-not-asks}

pub overflow_sub-digit : goal.overflow_sub-digit
overflow_sub-digit g c = digit_at_place c.args.schedule.now c.loop-digit.turn c.requires.schedule c.loop-digit.invariant.within

pub overflow_sub-thread : goal.overflow_sub-thread
overflow_sub-thread g c =
    let l = c.loop-digit in
    let t = in_turn l.seats.items l.waiting.items c.len.result (get_or c.args.schedule.now l.turn 0 - 48) c.index-thread.result.now
    (cc (c.len.ensures, l.waiting.ok.0)) (c.loop-digit-test.ensures ∙ ap (λ n. eqb n 0) (sym c.len.ensures)) l.invariant.waiting c.index-thread.ensures in
    omega (arith, t.2)

pub index_mut-seat-requires : goal.index_mut-seat-requires
index_mut-seat-requires g c =
    let l = c.loop-digit in
    let t = in_turn l.seats.items l.waiting.items c.len.result (get_or c.args.schedule.now l.turn 0 - 48) c.index-thread.result.now
    (cc (c.len.ensures, l.waiting.ok.0)) (c.loop-digit-test.ensures ∙ ap (λ n. eqb n 0) (sym c.len.ensures)) l.invariant.waiting c.index-thread.ensures in
    omega (arith, t.2, t.3, length-given l.seats.items, l.seats.ok.0)

pub take_turn-requires : goal.take_turn-requires
take_turn-requires g c =
    let l = c.loop-digit in
    let seat = c.index_mut-seat.result.now in
    let thread = c.index-thread.result.now in
    let t = HasTurn-at l.seats.items l.waiting.items c.len.result (get_or c.args.schedule.now l.turn 0 - 48) thread seat
    (cc (c.len.ensures, l.waiting.ok.0)) (c.loop-digit-test.ensures ∙ ap (λ n. eqb n 0) (sym c.len.ensures)) l.invariant.waiting c.index-thread.ensures c.index_mut-seat.ensures.value in
    let flow = at_place c.args.flows.items t.place (omega (arith, t.within, l.invariant.count)) in
    let seated = l.invariant.seated t.place seat t.at in
    let fixed = sym l.invariant.fixed in
    let plan = sym (l.invariant.plan t.place flow.0 seat flow.1 t.at) in
    let drives = c.requires.drives t.place flow.0 flow.1 in
    let own : own_steps g.K.Kept.code_of (g.K.Kept.journal l.state) (t.place + 1) ≡ g.L.Flow.trace seat.flow =
    subst (λ n. IfGoesOn n (own_steps g.K.Kept.code_of (g.K.Kept.journal l.state) (t.place + 1) ≡ g.L.Flow.trace seat.flow)) t.next_is seated.2 in
    record {
      drives =
          subst (λ (n : ℕ). CanDrive g.K.Order.HasEvent.event (g.K.Kept.Allows (g.K.Kept.fixed l.state)) (g.K.Kept.Accepts (g.K.Kept.fixed l.state)) g.K.Kept.code_of
          (g.L.Flow.Asks (g.L.Flow.plan seat.flow)) (g.L.Flow.Leaves (g.L.Flow.plan seat.flow)) (g.L.Flow.Takes (g.L.Flow.plan seat.flow)) n) (sym t.thread_is)
          (subst (λ p. CanDrive g.K.Order.HasEvent.event (g.K.Kept.Allows (g.K.Kept.fixed l.state)) (g.K.Kept.Accepts (g.K.Kept.fixed l.state)) g.K.Kept.code_of
          (g.L.Flow.Asks p) (g.L.Flow.Leaves p) (g.L.Flow.Takes p) (t.place + 1)) plan
          (subst (λ f. CanDrive g.K.Order.HasEvent.event (g.K.Kept.Allows f) (g.K.Kept.Accepts f) g.K.Kept.code_of
          (g.L.Flow.Asks (g.L.Flow.plan flow.0)) (g.L.Flow.Leaves (g.L.Flow.plan flow.0)) (g.L.Flow.Takes (g.L.Flow.plan flow.0)) (t.place + 1)) fixed drives));
      suits = record {
        allowed = l.invariant.allowed;
        own = ap (λ n. own_steps g.K.Kept.code_of (g.K.Kept.journal l.state) n) t.thread_is ∙ own;
      };
      stand = seated.0;
      gives = seated.1;
      asked = ap (λ n. asks n) t.next_is;
    }

pub loop-digit-init : goal.loop-digit-init
loop-digit-init g c =
    let seats = c.in_ok-seats.seats.items in
    let begun = c.in_ok-seats.ensures.begun in
    let count : length seats ≡ length c.args.flows.items = c.in_ok-seats.ensures.count in
    record {
      fixed = refl;
      allowed = c.keeps.ensures;
      count = count;
      plan = λ i flow seat at_flow at_seat. (begun i flow seat at_flow at_seat).0;
      seated = λ i seat at_seat.
          let within : i < length seats = slice_get_within seats i seat at_seat in
          let flow = at_place c.args.flows.items i (omega arith) in
          let b = begun i flow.0 seat flow.1 at_seat in (
            b.2,
            subst (λ t. Gives (g.L.Flow.Asks (g.L.Flow.plan seat.flow) t) (g.L.Flow.Ends (g.L.Flow.plan seat.flow) t) seat.next) (sym b.1)
                (subst (λ p. Gives (g.L.Flow.Asks p []) (g.L.Flow.Ends p []) seat.next) (sym b.0) b.3),
            IfGoesOn-always seat.next (own_steps g.K.Kept.code_of (g.K.Kept.journal c.args.state) (i + 1) ≡ g.L.Flow.trace seat.flow)
                (ap (λ j. own_steps g.K.Kept.code_of j (i + 1)) c.requires.empty ∙ sym b.1),
          );
      waiting = c.in_ok-waiting.ensures ∙ ap (λ ss. asking (given ss)) c.as_slice.ensures.value;
      within = schedule_some c.args.schedule.now c.requires.schedule;
      taken = λ all. HasTaken-none (given seats) (g.K.Kept.journal c.args.state) c.args.schedule.now c.requires.empty;
    }

pub loop-digit-smaller : goal.loop-digit-smaller
loop-digit-smaller g c =
    let few = g.K.Kept.few (g.K.Kept.fixed c.loop-digit.state) (g.K.Kept.journal c.loop-digit.state) c.loop-digit.invariant.allowed in
    omega (arith, c.take_turn.ensures.longer)

pub loop-digit-preserved : goal.loop-digit-preserved
loop-digit-preserved g c =
    let l = c.loop-digit in
    let seats = l.seats.items in
    let seat = c.index_mut-seat.result.now in
    let thread = c.index-thread.result.now in
    let place = thread - 1 in
    let after = c.take_turn.new.seat in
    let journal = g.K.Kept.journal c.take_turn.new.state in
    let turn = c.take_turn.ensures in
    let t = HasTurn-at seats l.waiting.items c.len.result (get_or c.args.schedule.now l.turn 0 - 48) thread seat
    (cc (c.len.ensures, l.waiting.ok.0)) (c.loop-digit-test.ensures ∙ ap (λ n. eqb n 0) (sym c.len.ensures)) l.invariant.waiting c.index-thread.ensures c.index_mut-seat.ensures.value in
    let is : t.place ≡ place = omega (arith, t.thread_is) in
    let within : place < length seats = omega (arith, t.within) in
    let own : (i : ℕ) → i ≡ place → IfGoesOn after.next (own_steps g.K.Kept.code_of journal (i + 1) ≡ g.L.Flow.trace after.flow) =
    λ i here. let n : thread ≡ i + 1 = omega (arith, t.thread_is) in
    subst (λ (k : ℕ). IfGoesOn after.next (own_steps g.K.Kept.code_of journal k ≡ g.L.Flow.trace after.flow)) n turn.own in
    record {
      fixed = turn.fixed ∙ l.invariant.fixed;
      allowed = turn.allowed;
      count = length-set seats place after ∙ l.invariant.count;
      plan = λ i flow other at_flow at_other. elim (slice_get-set_cases seats place i after other within at_other) [
        | inl p ↦
            let flow_here : slice_get c.args.flows.items t.place ≡ Some flow = ap (λ j. slice_get c.args.flows.items j) (is ∙ sym p.0) ∙ at_flow in
            ap (λ s. g.L.Flow.plan s.flow) (sym p.1) ∙ turn.plan ∙ l.invariant.plan t.place flow seat flow_here t.at
        | inr p ↦ l.invariant.plan i flow other at_flow p.1
      ];
      seated = λ i other at_other. elim (slice_get-set_cases seats place i after other within at_other) [
        | inl p ↦
            subst (λ (s : Seat g.row.L.Denot g.row.K-Order.Denot g.row.L-End.Denot). (g.L.Flow.stand s.flow ≡ stand_after s.next)
            × Gives (g.L.Flow.Asks (g.L.Flow.plan s.flow) (g.L.Flow.trace s.flow)) (g.L.Flow.Ends (g.L.Flow.plan s.flow) (g.L.Flow.trace s.flow)) s.next
            × IfGoesOn s.next (own_steps g.K.Kept.code_of journal (i + 1) ≡ g.L.Flow.trace s.flow)) p.1
            (turn.stand, turn.gives, own i p.0)
        | inr p ↦
            let before = l.invariant.seated i other p.1 in
            let differs : thread ≢ i + 1 = λ e. p.0 (omega (arith, t.thread_is)) in (
              before.0,
              before.1,
              subst (λ steps. IfGoesOn other.next (steps ≡ g.L.Flow.trace other.flow)) (sym (turn.others (i + 1) differs)) before.2,
            )
      ];
      waiting = elim c.if-not-asks.branch [
        | then-not-asks w ↦
            ap (λ v. v.items) w.waiting-is ∙ w.remove.ensures ∙ ap (filter (λ other. not (eqb other thread))) l.invariant.waiting
            ∙ asking-after_end seats (get_or c.args.schedule.now l.turn 0 - 48) thread seat after t (sym c.asks.ensures ∙ cc w.if-not-asks.true)
            ∙ ap (λ k. asking (given (set seats k after))) is
        | else-not-asks w ↦
            ap (λ v. v.items) w.waiting-is ∙ l.invariant.waiting
            ∙ asking-after_ask seats (get_or c.args.schedule.now l.turn 0 - 48) thread seat after t (sym c.asks.ensures ∙ cc w.if-not-asks.false)
            ∙ ap (λ k. asking (given (set seats k after))) is
      ];
      within = mod-below (l.turn + 1) (length c.args.schedule.now) (schedule_some c.args.schedule.now c.requires.schedule);
      taken = λ all.
          subst (λ (k : ℕ). HasTaken (given (set seats k after)) journal c.args.schedule.now ((l.turn + 1) % length c.args.schedule.now)) is
          (HasTaken-round seats (g.K.Kept.journal l.state) journal c.args.schedule.now l.turn thread seat after t l.invariant.taken turn.entry
          (subst (λ (k : ℕ). AllGoOn (set seats k after)) (sym is) all));
    }

pub returns-clause-threads : goal.returns-clause-threads
returns-clause-threads g c =
    let l = c.loop-digit in
    let taken = l.invariant.taken (AllGoOn-ended l.seats.items c.in_ok-ends.ends.items c.in_ok-ends.ensures) in
    subst (λ n. IsOfThreads n (g.K.Kept.journal l.state)) (length-given l.seats.items ∙ l.invariant.count) taken.threads

pub returns-clause-turns : goal.returns-clause-turns
returns-clause-turns g c =
    let l = c.loop-digit in
    let taken = l.invariant.taken (AllGoOn-ended l.seats.items c.in_ok-ends.ends.items c.in_ok-ends.ensures) in
    let none : asking (given l.seats.items) ≡ [] = sym l.invariant.waiting ∙ none_from_length l.waiting.items _ l.waiting.ok.0 c.loop-digit-test.ensures in
    subst (λ n. TakesTurns n (g.K.Kept.journal l.state) c.args.schedule.now) (length-given l.seats.items ∙ l.invariant.count)
    (TakesTurns-from_so_far (length (given l.seats.items)) (asks_at (given l.seats.items)) (g.K.Kept.journal l.state) c.args.schedule.now taken.turns none)

pub returns-clause-ends : goal.returns-clause-ends
returns-clause-ends g c = λ i flow end at_flow at_end.
    let l = c.loop-digit in
    let next : slice_get (given l.seats.items) i ≡ Some (nexts.End end) =
    ap (λ ns. slice_get ns i) c.in_ok-ends.ensures ∙ slice_get-map nexts.End c.in_ok-ends.ends.items i ∙ ap (option_map nexts.End) at_end in
    let seat = slice_get-map_some (λ (s : Seat g.row.L.Denot g.row.K-Order.Denot g.row.L-End.Denot). s.next) l.seats.items i (nexts.End end) next in
    let seated = l.invariant.seated i seat.0 seat.1 in
    let ends : g.L.Flow.Ends (g.L.Flow.plan seat.0.flow) (g.L.Flow.trace seat.0.flow) end =
    subst (λ n. Gives (g.L.Flow.Asks (g.L.Flow.plan seat.0.flow) (g.L.Flow.trace seat.0.flow)) (g.L.Flow.Ends (g.L.Flow.plan seat.0.flow) (g.L.Flow.trace seat.0.flow)) n) seat.2 seated.1 in
    let own : own_steps g.K.Kept.code_of (g.K.Kept.journal l.state) (i + 1) ≡ g.L.Flow.trace seat.0.flow =
    subst (λ n. IfGoesOn n (own_steps g.K.Kept.code_of (g.K.Kept.journal l.state) (i + 1) ≡ g.L.Flow.trace seat.0.flow)) seat.2 seated.2 in
    subst (λ t. g.L.Flow.Ends (g.L.Flow.plan flow) t end) (sym own)
    (subst (λ p. g.L.Flow.Ends p (g.L.Flow.trace seat.0.flow) end) (l.invariant.plan i flow seat.0 at_flow seat.1) ends)
