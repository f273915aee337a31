-- What holds of tasks whichever way they are put together (own).
use Rattle.std.specs.Prelude.{◌≡◌, List, [], ◌∷◌, ◌++◌, Result, Ok, Err}
use Rattle.host_events.specs.Task.{Task, Why}
use Rattle.host_events.specs.Task.Why.{Refused, Stopped}

-- a way that was stopped has the whole trace; nothing comes after it
abbrev pub EndsTrace : {R P T A : Type 0} → Result A (Why R P) → List T → Type 0
EndsTrace (Ok value) rest = Unit {0}
EndsTrace (Err (Refused refusal)) rest = Unit {0}
EndsTrace (Err (Stopped stop)) rest = rest ≡ []

-- From one state, of two traces one of which goes on as the other, there is just one way.
pub record IsExact {S T R P A : Type 0} (task : Task S T (Why R P) A) : Type 0 where
  pub one : (before first second : S) (own other rest more : List T) (end last : Result A (Why R P)) →
      task before own first end → task before other second last → own ++ rest ≡ other ++ more →
      EndsTrace end rest → EndsTrace last more →
      (own ≡ other) × (first ≡ second) × (end ≡ last)

-- What was asked so far, and what is asked next, is settled by the answers so far: a way is stopped there.
pub record CanStop {S T R P A : Type 0} (asked : T → P) (task : Task S T (Why R P) A) : Type 0 where
  pub stops : (before after : S) (own more : List T) (step : T) (end : Result A (Why R P)) →
      task before (own ++ step ∷ more) after end →
      (there : S) × task before own there (Err (Stopped (asked step)))

-- Each way of one task is one of another.
pub record IsWithin {S T E A : Type 0} (task wider : Task S T E A) : Type 0 where
  pub ways : (before after : S) (trace : List T) (end : Result A E) → task before trace after end → wider before trace after end

-- the state only gains
abbrev pub Gains : {S T E A : Type 0} → (S → S → Type 0) → Task S T E A → Type 0
Gains {S} {T} {E} {A} HasMore task =
    (before after : S) (own : List T) (end : Result A E) → task before own after end → HasMore before after

-- What was done once is done: from every state with more it asks nothing, changes nothing and gives the same.
abbrev pub IsKept : {S T E A : Type 0} → (S → S → Type 0) → Task S T E A → Type 0
IsKept {S} {T} {E} {A} HasMore task =
    (before after later : S) (own : List T) (value : A) → task before own after (Ok value) →
    HasMore after later → task later [] later (Ok value)

-- Whatever was stopped is done by beginning anew once the answer is told.
abbrev pub IsResumed : {S T R P A : Type 0} →
    (P → T → S → S → Type 0) → Task S T (Why R P) A → Type 0
IsResumed {S} {T} {R} {P} {A} Tells task =
    (before there told after : S) (stop : P) (step : T) (more : List T) (end : Result A (Why R P)) →
    task before [] there (Err (Stopped stop)) → Tells stop step there told →
    task before (step ∷ more) after end → task told more after end
