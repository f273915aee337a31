-- How many events of a kind a thread asks for.
use Rattle.std.proofs.Common.{◌≡◌, ◌⊎◌, ◌∙◌, ◌<◌, ◌≤◌, ◌+◌, ℕ, suc, refl, sym, ap, subst, inl, inr, Bool, true, false, cond, List, [], ◌∷◌, ◌++◌, length, Option, Some, None, Ok, Err, arith, length-append}
use Rattle.std.specs.Prelude.{sum_by}
use Rattle.std.specs.List.{filter}
use Rattle.std.specs.Option.{option_map_or}
use Rattle.std.proofs.lemmas.List.Elements.{filter-append}
use Rattle.std.proofs.lemmas.List.Sums.{sum_by-cons}
use Rattle.host_events.specs.declared.event.Event.{Event}
use Rattle.host_events.specs.declared.event.Event.TheVariants as events
use Rattle.host_events.specs.declared.outcome.CommandEnd.{CommandEnd}
use Rattle.host_events.specs.declared.outcome.Outcome.{Outcome}
use Rattle.host_events.specs.declared.outcome.Outcome.TheVariants as outcomes
use Rattle.host_events.specs.declared.reply.Reply.{Reply}
use Rattle.host_events.specs.declared.reply.Reply.TheVariants as replies
use Rattle.host_events.specs.Asking.{Asking, Ending, IsDue, IsWay, asks}
use Rattle.host_events.specs.Task.{Both, Fails, Why, for_each, give, look, never, ◌>>=◌}
use Rattle.host_events.specs.Task.Why.{Refused, Stopped}
use Rattle.host_events.specs.TaskLaws.{CanStop}
use Rattle.host_events.proofs.Tasks.{event_asked}
use Rattle.bind_flow.specs.Binds.{binds}
use Rattle.bind_flow.specs.Images.{World}
use Rattle.bind_flow.proofs.OrderLemmas.{order-binds}
use Rattle.host_script.specs.declared.command.Command.{Command}
use Rattle.host_script.specs.declared.command.Command.TheVariants as commands
use Rattle.command_flow.specs.Events.{event_of}
use Rattle.command_flow.specs.Flow.{most_events}
use Rattle.command_flow.specs.Run.{ComesTo, with_end, entered, loads, most_within, operates, runs, runs_all, runs_event, within_limit}
use Rattle.command_flow.specs.State.{is_inner}
use Rattle.command_flow.proofs.Inner.{IsNamed, Scope, Works, inner_is, works-binds, works-loads}
use Rattle.command_flow.proofs.OrderLemmas.{order-loads}
use Rattle.command_flow.proofs.Places.{AreInner, are_inner, scope_of}
use Rattle.command_flow.proofs.Ways.{Fact}

-- how many events of a trace pass
abbrev pub count_of : (Event → Bool) → List (Event × Reply) → ℕ
count_of test trace = length (filter (λ step. test step.0) trace)

-- one more where the event that is due passes
abbrev pub due_count : {A : Type 0} → (Event → Bool) → Ending A → ℕ
due_count test (Ok value) = 0
due_count test (Err (Refused outcome)) = 0
due_count test (Err (Stopped event)) = cond (test event) 1 0

-- So many events at most that pass are asked for, with the one that is due.
pub record IsAtMost {A : Type 0} (test : Event → Bool) (most : ℕ) (task : Asking A) : Type 0 where
  pub ways : (here there : Unit {0}) (trace : List (Event × Reply)) (end : Ending A) → task here trace there end → count_of test trace + due_count test end ≤ most

count-append : (test : Event → Bool) (trace more : List (Event × Reply)) → count_of test (trace ++ more) ≡ count_of test trace + count_of test more
count-append test trace more =
    ap length (filter-append (λ (step : Event × Reply). test step.0) trace more)
    ∙ length-append (filter (λ (step : Event × Reply). test step.0) trace) (filter (λ (step : Event × Reply). test step.0) more)

count-le : (test : Event → Bool) (trace : List (Event × Reply)) → count_of test trace ≤ length trace
count-le test [] = omega arith
count-le test (step ∷ trace) = at (test step.0) (count-le test trace)
  where
    passed : List (Event × Reply)
    passed = filter (λ step. test step.0) trace

    at : (b : Bool) → length passed ≤ length trace → length (cond b (step ∷ passed) passed) ≤ length (step ∷ trace)
    at true below = omega arith
    at false below = omega arith

one-le : (b : Bool) → cond b 1 0 ≤ 1
one-le true = omega arith
one-le false = omega arith

none_le : (b : Bool) → b ≡ false → cond b 1 0 ≤ 0
none_le true is = cc is
none_le false is = omega arith

due-le : {A : Type 0} (test : Event → Bool) (end : Ending A) → due_count test end ≤ 1
due-le test (Ok value) = omega arith
due-le test (Err (Refused outcome)) = omega arith
due-le test (Err (Stopped event)) = one-le (test event)

module _ (test : Event → Bool) where
  most-more : {A : Type 0} (few many : ℕ) (task : Asking A) → few ≤ many → IsAtMost test few task → IsAtMost test many task
  most-more few many task below most = record { ways = λ here there trace end way. omega (arith, below, most.ways here there trace end way) }

  most-never : {A : Type 0} (most : ℕ) → IsAtMost {A = A} test most never
  unfolding never
  most-never most = record { ways = λ here there trace end way. absurd way }

  most-give : {A : Type 0} (value : A) → IsAtMost test 0 (give value)
  unfolding look
  most-give {A} value = record {
    ways = λ here there trace end way.
        let P : List (Event × Reply) → Ending A → Type 0 = λ t e. count_of test t + due_count test e ≤ 0 in
        subst (λ (t : List (Event × Reply)). P t end) (sym way.0) (subst (P []) (sym way.2) (omega arith));
  }

  most-asks : (event : Event) → IsAtMost test (cond (test event) 1 0) (asks event)
  unfolding asks
  most-asks event = record { ways = λ here there trace end way. at trace end way.1 }
    where
      counted : (b : Bool) (reply : Reply) → length {A = Event × Reply} (cond b ((event, reply) ∷ []) []) + 0 ≤ cond b 1 0
      counted true reply = omega arith
      counted false reply = omega arith

      at : (trace : List (Event × Reply)) (end : Ending Reply) →
          (((reply : Reply) × (trace ≡ (event, reply) ∷ []) × (end ≡ Ok reply)) ⊎ ((trace ≡ []) × (end ≡ Err (Stopped event)))) →
          count_of test trace + due_count test end ≤ cond (test event) 1 0
      at trace end (inl (reply, asked, is)) =
          let P : List (Event × Reply) → Ending Reply → Type 0 = λ t e. count_of test t + due_count test e ≤ cond (test event) 1 0 in
          subst (λ (t : List (Event × Reply)). P t end) (sym asked) (subst (P ((event, reply) ∷ [])) (sym is) (counted (test event) reply))
      at trace end (inr (none, is)) =
          let P : List (Event × Reply) → Ending Reply → Type 0 = λ t e. count_of test t + due_count test e ≤ cond (test event) 1 0 in
          subst (λ (t : List (Event × Reply)). P t end) (sym none) (subst (P []) (sym is) (omega arith))

  most-then : {A B : Type 0} (few more : ℕ) (first : Asking A) (next : A → Asking B) → IsAtMost test few first → ((value : A) → IsAtMost test more (next value)) →
      IsAtMost test (few + more) (first >>= next)
  unfolding ◌>>=◌
  most-then {A} {B} few more first next f n = record { ways = at }
    where
      same_due : (why : Why Outcome Event) → due_count {A = A} test (Err why) ≡ due_count {A = B} test (Err why)
      same_due (Refused outcome) = refl
      same_due (Stopped event) = refl

      at : (here there : Unit {0}) (trace : List (Event × Reply)) (end : Ending B) →
          (Both first next here trace there end ⊎ Fails {B = B} first here trace there end) → count_of test trace + due_count test end ≤ few + more
      at here there trace end (inl (value, between, own, rest, asked, left, parted)) =
          let before = f.ways here between own (Ok value) asked in
          let after = (n value).ways between there rest end left in
          let counted = ap (count_of test) parted ∙ count-append test own rest in
          omega (arith, before, after, counted)
      at here there trace end (inr (why, asked, is)) =
          let before = f.ways here there trace (Err why) asked in
          let due = ap (due_count test) is in
          omega (arith, before, due, same_due why)

  most-for_each : {X Y : Type 0} (most : X → ℕ) (task : X → Asking Y) (xs : List X) → ((x : X) → IsAtMost test (most x) (task x)) →
      IsAtMost test (sum_by most xs) (for_each task xs)
  unfolding for_each
  most-for_each most task [] each = most-give []
  most-for_each most task (x ∷ xs) each =
      most-more (most x + (sum_by most xs + 0)) (sum_by most (x ∷ xs)) _ (omega (arith, sum_by-cons most x xs))
      (most-then (most x) (sum_by most xs + 0) (task x) _ (each x)
      (λ y. most-then (sum_by most xs) 0 (for_each task xs) _ (most-for_each most task xs each) (λ ys. most-give (y ∷ ys))))

  -- within its limit an operation makes no more events than that, whatever they are
  most-limit : (work : Asking ℕ) → IsAtMost test most_within (within_limit work)
  unfolding within_limit
  most-limit work = record { ways = λ here there trace end way. at trace way.0 end way.2 }
    where
      at : (trace : List (Event × Reply)) (last : Ending ℕ) (end : Ending Outcome) → ComesTo trace last end → count_of test trace + due_count test end ≤ most_within
      at trace (Ok a) end told = let none : due_count test end ≡ 0 = ap (due_count test) told.1 in omega (arith, told.0, none, count-le test trace)
      at trace (Err (Refused outcome)) end told =
          let none : due_count test end ≡ 0 = ap (due_count test) told.1 in omega (arith, told.0, none, count-le test trace)
      at trace (Err (Stopped event)) end (inl told) = let fewer = told.0 in omega (arith, fewer, due-le test end, count-le test trace)
      at trace (Err (Stopped event)) end (inr told) =
          let all = told.0 in
          let none : due_count test end ≡ 0 = ap (due_count test) told.1 in
          omega (arith, all, none, count-le test trace)

  -- nor more than its work
  most-within : (most : ℕ) (work : Asking ℕ) → IsAtMost test most work → IsAtMost test most (within_limit work)
  unfolding within_limit
  most-within most work m = record { ways = λ here there trace end way. at trace way.0 end (m.ways here there trace way.0 way.1) way.2 }
    where
      at : (trace : List (Event × Reply)) (last : Ending ℕ) (end : Ending Outcome) → count_of test trace + due_count test last ≤ most → ComesTo trace last end →
          count_of test trace + due_count test end ≤ most
      at trace (Ok a) end below told = let none : due_count test end ≡ 0 = ap (due_count test) told.1 in omega arith
      at trace (Err (Refused outcome)) end below told = let none : due_count test end ≡ 0 = ap (due_count test) told.1 in omega arith
      at trace (Err (Stopped event)) end below (inl told) =
          let same : due_count test end ≡ cond (test event) 1 0 = ap (due_count test) told.1 in omega arith
      at trace (Err (Stopped event)) end below (inr told) = let none : due_count test end ≡ 0 = ap (due_count test) told.1 in omega arith

  most-entered : (most last : ℕ) (work : ℕ → Asking ℕ) (reply : Reply) → ((c : ℕ) → IsAtMost test most (within_limit (work c))) →
      ((k : ℕ) → cond (test (events.Leave k)) 1 0 ≤ last) → IsAtMost test (most + last) (entered work reply)
  most-entered most last work (replies.Entered k c) works leaves =
      most-then most last (within_limit (work c)) _ (works c)
      (λ outcome. most-more (cond (test (events.Leave k)) 1 0 + 0) last _ (omega (arith, leaves k))
      (most-then (cond (test (events.Leave k)) 1 0) 0 (asks (events.Leave k)) _ (most-asks (events.Leave k)) (λ left. most-give outcome)))
  most-entered most last work reply works leaves = most-more 0 (most + last) _ (omega arith) (most-give (outcomes.Replied reply))

  most-operates : (first most last : ℕ) (name : List ℕ) (work : ℕ → Asking ℕ) → cond (test (events.Enter name)) 1 0 ≤ first →
      ((c : ℕ) → IsAtMost test most (within_limit (work c))) → ((k : ℕ) → cond (test (events.Leave k)) 1 0 ≤ last) →
      IsAtMost test (first + (most + last)) (operates name work)
  most-operates first most last name work enters works leaves =
      most-then first (most + last) (asks (events.Enter name)) (entered work)
      (most-more (cond (test (events.Enter name)) 1 0) first _ enters (most-asks (events.Enter name)))
      (λ reply. most-entered most last work reply works leaves)

  most-event : (found : Option Event) → IsAtMost test (cond (option_map_or test found false) 1 0) (runs_event found)
  most-event None = most-never 0
  most-event (Some event) =
      most-more (cond (test event) 1 0 + 0) (cond (test event) 1 0) _ (omega arith)
      (most-then (cond (test event) 1 0) 0 (asks event) _ (most-asks event) (λ reply. most-give (outcomes.Replied reply)))

  most-ends : (most : ℕ) (command : Asking Outcome) → IsAtMost test most command → IsAtMost test most (with_end command)
  most-ends most command m =
      most-more (most + 0) most _ (omega arith) (most-then most 0 command _ m (λ outcome. most-give _))

  -- work whose events do not pass
  most-none : {A : Type 0} (scope : Scope) (work : Asking A) (Gives : A → Fact) → Works scope (λ trace. Unit {0}) work Gives → CanStop event_asked work →
      ((event : Event) → is_inner event ≡ true → test event ≡ false) → IsAtMost test 0 work
  most-none {A} scope work Gives works stops none = record {
    ways = λ here there trace end way.
        let all = counts_none trace (are_inner scope work Gives works stops here there trace end way) in
        let last = due_none here there trace end way in
        omega (arith, all, last);
  }
    where
      counts_none : (trace : List (Event × Reply)) → AreInner trace → count_of test trace ≡ 0
      counts_none [] are = refl
      counts_none (step ∷ trace) are =
          ap (λ b. length (cond b (step ∷ filter (λ (s : Event × Reply). test s.0) trace) (filter (λ (s : Event × Reply). test s.0) trace))) (none step.0 are.0)
          ∙ counts_none trace are.1

      due_none : (here there : Unit {0}) (trace : List (Event × Reply)) (end : Ending A) → work here trace there end → due_count test end ≡ 0
      due_none here there trace (Ok value) way = refl
      due_none here there trace (Err (Refused outcome)) way = refl
      due_none here there trace (Err (Stopped event)) way =
          ap (λ b. cond b 1 0) (none event (inner_is scope event trace (works.ways here there [] trace (Err (Stopped event)) tt way)))

-- each event of a command, whatever it is
most-command : (test : Event → Bool) (world : World) (command : Command) → IsAtMost test (most_events command) (runs world command)
most-command test world (commands.Load context image) =
    most-more test (1 + (most_within + 1)) (most_within + 2) _ (omega arith)
    (most-operates test 1 most_within 1 context (loads world image) (one-le (test (events.Enter context)))
    (λ c. most-limit test (loads world image c)) (λ k. one-le (test (events.Leave k))))
most-command test world (commands.Bind context name version) =
    most-more test (1 + (most_within + 1)) (most_within + 2) _ (omega arith)
    (most-operates test 1 most_within 1 context (λ c. binds world (record { context = c; name = name; version = version })) (one-le (test (events.Enter context)))
    (λ c. most-limit test (binds world (record { context = c; name = name; version = version }))) (λ k. one-le (test (events.Leave k))))
most-command test world (commands.Call context name type_name method args) = most-never test (most_within + 2)
most-command test world (commands.Hold handle context name type_name method) = most-never test (most_within + 2)
most-command test world (commands.Invoke handle args) = most-never test (most_within + 2)
most-command test world (commands.DropHandle handle) = most-never test 1
most-command test world command = most-more test (cond (option_map_or test (event_of command) false) 1 0) 1 _ (one-le (option_map_or test (event_of command) false)) (most-event test (event_of command))

-- the command has an event that passes
abbrev pub asks_for : (Event → Bool) → Command → Bool
asks_for test command = option_map_or test (event_of command) false

-- A test that no event of an operation passes.
pub record PassesNone (test : Event → Bool) : Type 0 where
  pub enter : (name : List ℕ) → test (events.Enter name) ≡ false
  pub inner : (event : Event) → is_inner event ≡ true → test event ≡ false
  pub leave : (k : ℕ) → test (events.Leave k) ≡ false

-- of events that no operation makes a command asks for the one that it is
most-asked : (test : Event → Bool) (world : World) (command : Command) → PassesNone test → IsAtMost test (cond (asks_for test command) 1 0) (runs world command)
most-asked test world (commands.Load context image) none =
    most-operates test 0 0 0 context (loads world image) (none_le (test (events.Enter context)) (none.enter context))
    (λ c. most-within test 0 (loads world image c)
    (most-none test (scope_of world.images (commands.Load context image) c) (loads world image c) IsNamed (works-loads world image c (λ trace. Unit {0}))
    (order-loads world image c).stops none.inner))
    (λ k. none_le (test (events.Leave k)) (none.leave k))
most-asked test world (commands.Bind context name version) none =
    most-operates test 0 0 0 context (λ c. binds world (record { context = c; name = name; version = version })) (none_le (test (events.Enter context)) (none.enter context))
    (λ c. most-within test 0 (binds world (record { context = c; name = name; version = version }))
    (most-none test (scope_of world.images (commands.Bind context name version) c) (binds world (record { context = c; name = name; version = version })) IsNamed
    (works-binds world (record { context = c; name = name; version = version }) (λ trace. Unit {0}))
    (order-binds world (record { context = c; name = name; version = version })).stops none.inner))
    (λ k. none_le (test (events.Leave k)) (none.leave k))
most-asked test world command none = most-event test (event_of command)

sum_count : {X : Type 0} (p : X → Bool) (xs : List X) → sum_by (λ x. cond (p x) 1 0) xs ≡ length (filter p xs)
sum_count p [] = refl
sum_count {X} p (x ∷ xs) = sum_by-cons (λ x. cond (p x) 1 0) x xs ∙ at (p x) (sum_count p xs)
  where
    at : (b : Bool) → sum_by (λ x. cond (p x) 1 0) xs ≡ length (filter p xs) → cond b 1 0 + sum_by (λ x. cond (p x) 1 0) xs ≡ length (cond b (x ∷ filter p xs) (filter p xs))
    at true same = omega (arith, same)
    at false same = omega (arith, same)

all-pass : (trace : List (Event × Reply)) → count_of (λ event. true) trace ≡ length trace
all-pass [] = refl
all-pass (step ∷ trace) = ap suc (all-pass trace)

-- where an event is due there is room for one more
pub fewer_events : (world : World) (given : List Command) (trace : List (Event × Reply)) (event : Event) → IsDue (runs_all world given) trace event →
    length trace < sum_by most_events given
fewer_events world given trace event due =
    let test : Event → Bool = λ event. true in
    let most = most-for_each test most_events (λ command. with_end (runs world command)) given
    (λ command. most-ends test (most_events command) (runs world command) (most-command test world command)) in
    omega (arith, most.ways tt tt trace (Err (Stopped event)) due, all-pass trace)

-- where an event is due that passes, fewer that pass came before it than there are commands that ask for one
pub fewer_of : (test : Event → Bool) (world : World) (given : List Command) (trace : List (Event × Reply)) (event : Event) → PassesNone test →
    IsDue (runs_all world given) trace event → test event ≡ true → count_of test trace < length (filter (asks_for test) given)
fewer_of test world given trace event none due passes =
    let most = most-for_each test (λ command. cond (asks_for test command) 1 0) (λ command. with_end (runs world command)) given
    (λ command. most-ends test (cond (asks_for test command) 1 0) (runs world command) (most-asked test world command none)) in
    let one : ◌≡◌ {A = ℕ} (cond (test event) 1 0) 1 = ap (λ b. cond b 1 0) passes in
    omega (arith, most.ways tt tt trace (Err (Stopped event)) due, one, sum_count (asks_for test) given)

-- a thread makes no more events than its commands can make
pub most_of : (world : World) (given : List Command) (trace : List (Event × Reply)) (end : Ending (List CommandEnd)) → IsWay (runs_all world given) trace end →
    length trace ≤ sum_by most_events given
most_of world given trace end way =
    let test : Event → Bool = λ event. true in
    let most = most-for_each test most_events (λ command. with_end (runs world command)) given
    (λ command. most-ends test (most_events command) (runs world command) (most-command test world command)) in
    omega (arith, most.ways tt tt trace end way, all-pass trace)
