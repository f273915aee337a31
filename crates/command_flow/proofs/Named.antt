-- A thread's run depends on the assemblies that its replies name, and on no others.
use Rattle.std.proofs.Common.{◌≡◌, ◌⊎◌, ◌∙◌, ℕ, zero, suc, inl, inr, refl, sym, ap, subst, Bool, true, false, List, [], ◌∷◌, ◌++◌, Option, Some, None, Result, Ok, Err}
use Rattle.std.specs.List.{AllByRecursion}
use Rattle.std.specs.Option.{option_and_then}
use Rattle.assembly_name.specs.declared.version.Version.{Version}
use Rattle.assembly_name.specs.Version.{is_at_least}
use Rattle.assembly_image.specs.Module.{Module}
use Rattle.assembly_image.specs.Names.{assembly_version}
use Rattle.assembly_image.specs.Reading.{FileReading}
use Rattle.assembly_image.specs.Reading.FileReading.{Absent, TooLong, Refused as NoImage, Good}
use Rattle.host_events.specs.declared.event.AskStep.{AskStep}
use Rattle.host_events.specs.declared.event.AskStep.TheVariants.{Load, Default, Resolving, Resolve}
use Rattle.host_events.specs.declared.event.Candidate.{Candidate}
use Rattle.host_events.specs.declared.event.Candidate.TheVariants as candidates
use Rattle.host_events.specs.declared.event.Event.{Event}
use Rattle.host_events.specs.declared.order.CodeOf.{CodeOf}
use Rattle.host_events.specs.declared.outcome.CommandEnd.{CommandEnd}
use Rattle.host_events.specs.declared.outcome.Outcome.{Outcome}
use Rattle.host_events.specs.declared.reply.Reply.{Reply}
use Rattle.host_events.specs.declared.reply.Reply.TheVariants as replies
use Rattle.host_events.specs.Assemblies.{assembly_in}
use Rattle.host_events.specs.Asking.{Asking, Ending, IsWay, asks}
use Rattle.host_events.specs.Steps.{AgreeWith, Step, without_codes}
use Rattle.host_events.specs.Task.{Both, Fails, for_each, give, if_some, look, never, pick, ◌>>=◌}
use Rattle.bind_flow.specs.Binds.{Wanted, answered, asked_in_order, binds, if_assembly_serves, if_fits, if_module, if_serves, image_published, looked_up, published, publishes, publishes_default, publishes_image, steps_in}
use Rattle.bind_flow.specs.Flow.{world_of}
use Rattle.bind_flow.specs.Images.{assembly_version_in, reading_at, version_read}
use Rattle.host_script.specs.declared.command.Command.{Command}
use Rattle.host_script.specs.declared.command.Command.TheVariants as commands
use Rattle.command_flow.specs.Run.{with_end, entered, operates, runs, runs_all, within_limit}

-- two maps say the same of the assembly that a reply names
abbrev pub SameFor : (ℕ → Option CodeOf) → (ℕ → Option CodeOf) → Reply → Type 0
SameFor map other reply = (a : ℕ) → assembly_in reply ≡ Some a → map a ≡ other a

-- two maps say the same of each assembly that a reply of the trace names
abbrev pub SameAlong : (ℕ → Option CodeOf) → (ℕ → Option CodeOf) → List (Event × Reply) → Type 0
SameAlong map other trace = AllByRecursion (λ step. SameFor map other step.1) trace

same_parts : (map other : ℕ → Option CodeOf) (own more : List (Event × Reply)) → SameAlong map other (own ++ more) →
    SameAlong map other own × SameAlong map other more
same_parts map other [] more same = (tt, same)
same_parts map other (step ∷ own) more same = let later = same_parts map other own more same.1 in ((same.0, later.0), later.1)

-- maps that both agree with the codes of the steps say the same along them
pub agree_same : (map other : ℕ → Option CodeOf) (steps : List Step) → AgreeWith map steps → AgreeWith other steps → SameAlong map other (without_codes steps)
agree_same map other [] agree also = tt
agree_same map other (step ∷ steps) agree also =
    (λ a names. sym (agree.0 a names) ∙ also.0 a names, agree_same map other steps agree.1 also.1)

same_ok : {X E : Type 0} (x y : X) → ◌≡◌ {A = Result X E} (Ok x) (Ok y) → x ≡ y
same_ok x y e = cc e

-- the images are those of both worlds, whose assemblies are these maps
module _ (map other : ℕ → Option CodeOf) (images : List FileReading) where
  -- A way of one task is one of the other, where the maps say the same along its trace.
  record Carries {X : Type 0} (task carried : Asking X) : Type 0 where
    ways : (before after : Unit {0}) (trace : List (Event × Reply)) (end : Ending X) → SameAlong map other trace →
        task before trace after end → carried before trace after end

  carries-same : {X : Type 0} (task : Asking X) → Carries task task
  carries-same task = record { ways = λ before after trace end same h. h }

  carries-pick : {X : Type 0} (b : Bool) (first second third fourth : Asking X) → Carries first third → Carries second fourth →
      Carries (pick b first second) (pick b third fourth)
  unfolding pick
  carries-pick true first second third fourth h k = h
  carries-pick false first second third fourth h k = k

  carries-on_some : {X Y : Type 0} (x : Option Y) (task carried : Y → Asking X) → ((value : Y) → Carries (task value) (carried value)) →
      Carries (if_some x task never) (if_some x carried never)
  unfolding if_some
  carries-on_some (Some value) task carried each = each value
  carries-on_some None task carried each = carries-same never

  carries-if_some : {X Y : Type 0} (x y : Option Y) (task carried : Y → Asking X) → x ≡ y → ((value : Y) → Carries (task value) (carried value)) →
      Carries (if_some x task never) (if_some y carried never)
  carries-if_some x y task carried same each = subst (λ o. Carries (if_some x task never) (if_some o carried never)) same (carries-on_some x task carried each)

  module _ {X Y : Type 0} (first third : Asking X) (next further : X → Asking Y)
      (carries_first : Carries first third) (carries_next : (value : X) → Carries (next value) (further value)) where
    then_ways : (before after : Unit {0}) (trace : List (Event × Reply)) (end : Ending Y) → SameAlong map other trace →
        (Both first next before trace after end ⊎ Fails {B = Y} first before trace after end) →
        (Both third further before trace after end ⊎ Fails {B = Y} third before trace after end)
    then_ways before after trace end same (inl (value, between, own, more, way, left, parts)) =
        let each = same_parts map other own more (subst (SameAlong map other) parts same) in
        inl (
          value,
          between,
          own,
          more,
          carries_first.ways before between own (Ok value) each.0 way,
          (carries_next value).ways between after more end each.1 left,
          parts,
        )
    then_ways before after trace end same (inr (why, way, failed)) = inr (why, carries_first.ways before after trace (Err why) same way, failed)

    carries-then : Carries (first >>= next) (third >>= further)
    unfolding ◌>>=◌
    carries-then = record { ways = then_ways }

  module _ {X : Type 0} (event : Event) (next further : Reply → Asking X)
      (carries_next : (reply : Reply) → SameFor map other reply → Carries (next reply) (further reply)) where
    asks_ways : (before after : Unit {0}) (trace : List (Event × Reply)) (end : Ending X) → SameAlong map other trace →
        (Both (asks event) next before trace after end ⊎ Fails {B = X} (asks event) before trace after end) →
        (Both (asks event) further before trace after end ⊎ Fails {B = X} (asks event) before trace after end)
    unfolding asks
    asks_ways before after trace end same (inl (value, between, own, more, (stays, inl (reply, asked, given)), left, parts)) =
        let all : trace ≡ (event, reply) ∷ more = parts ∙ ap (λ t. t ++ more) asked in
        let each : SameFor map other reply × SameAlong map other more = subst (SameAlong map other) all same in
        let is : value ≡ reply = same_ok value reply given in
        let told : SameFor map other value = subst (SameFor map other) (sym is) each.0 in
        inl (value, between, own, more, (stays, inl (reply, asked, given)), (carries_next value told).ways between after more end each.1 left, parts)
    asks_ways before after trace end same (inl (value, between, own, more, (stays, inr (none, waits)), left, parts)) = absurd (cc waits)
    asks_ways before after trace end same (inr failed) = inr failed

    carries-asks : Carries (asks event >>= next) (asks event >>= further)
    unfolding ◌>>=◌
    carries-asks = record { ways = asks_ways }

  -- what is given goes on as that value alone
  carries-given : {X Y : Type 0} (value : X) (next further : X → Asking Y) → Carries (next value) (further value) →
      Carries (give value >>= next) (give value >>= further)
  unfolding ◌>>=◌ look
  carries-given {X} {Y} value next further carries = record { ways = ways }
    where
      ways : (before after : Unit {0}) (trace : List (Event × Reply)) (end : Ending Y) → SameAlong map other trace →
          (Both (give value) next before trace after end ⊎ Fails {B = Y} (give value) before trace after end) →
          (Both (give value) further before trace after end ⊎ Fails {B = Y} (give value) before trace after end)
      ways before after trace end same (inl (given, between, own, more, way, left, parts)) =
          let all : trace ≡ more = parts ∙ ap (λ t. t ++ more) way.0 in
          let is : given ≡ value = same_ok given value way.2 in
          let went : next value between more after end = subst (λ (v : X). next v between more after end) is left in
          let goes : further value between more after end = carries.ways between after more end (subst (SameAlong map other) all same) went in
          inl (given, between, own, more, way, subst (λ (v : X). further v between more after end) (sym is) goes, parts)
      ways before after trace end same (inr failed) = inr failed

  -- nothing goes on after no way
  carries-no_way : {X Y : Type 0} (next further : X → Asking Y) → Carries (never >>= next) (never >>= further)
  unfolding ◌>>=◌ never
  carries-no_way {X} {Y} next further = record { ways = ways }
    where
      ways : (before after : Unit {0}) (trace : List (Event × Reply)) (end : Ending Y) → SameAlong map other trace →
          (Both never next before trace after end ⊎ Fails {A = X} {B = Y} never before trace after end) →
          (Both never further before trace after end ⊎ Fails {A = X} {B = Y} never before trace after end)
      ways before after trace end same (inl (value, between, own, more, way, left, parts)) = absurd way
      ways before after trace end same (inr (why, way, failed)) = absurd way

  carries-for_each : {X Y : Type 0} (task carried : X → Asking Y) (xs : List X) → ((x : X) → Carries (task x) (carried x)) →
      Carries (for_each task xs) (for_each carried xs)
  unfolding for_each
  carries-for_each task carried [] each = carries-same (give [])
  carries-for_each task carried (x ∷ xs) each =
      carries-then (task x) (carried x) _ _ (each x)
      (λ y. carries-then (for_each task xs) (for_each carried xs) _ _ (carries-for_each task carried xs each) (λ ys. carries-same (give (y ∷ ys))))

  -- the version of an assembly of which the maps say the same
  same_version : (a : ℕ) → map a ≡ other a → assembly_version_in (world_of map images) a ≡ assembly_version_in (world_of other images) a
  same_version zero same = refl
  same_version (suc a) same = ap (option_and_then (λ (code : CodeOf). option_and_then version_read (reading_at images code.image))) same

  carries-if_serves : (wanted : Wanted) (next further : Asking ℕ) (found found_too : Option Version) → found ≡ found_too → Carries next further →
      Carries (if_serves wanted next found) (if_serves wanted further found_too)
  carries-if_serves wanted next further found found_too same carries =
      carries-if_some found found_too _ _ same (λ version. carries-pick (is_at_least version wanted.version) next _ further _ carries (carries-same _))

  carries-if_assembly_serves : (wanted : Wanted) (a : ℕ) (next further : Asking ℕ) → map a ≡ other a → Carries next further →
      Carries (if_assembly_serves (world_of map images) wanted a next) (if_assembly_serves (world_of other images) wanted a further)
  carries-if_assembly_serves wanted a next further same carries = carries-if_serves wanted next further _ _ (same_version a same) carries

  carries-published : (wanted : Wanted) (reply : Reply) → SameFor map other reply →
      Carries (published (world_of map images) wanted reply) (published (world_of other images) wanted reply)
  carries-published wanted (replies.Lost a) same = carries-if_assembly_serves wanted a _ _ (same a refl) (carries-same (give a))
  carries-published wanted reply same = carries-same _

  carries-publishes : (wanted : Wanted) (candidate : Candidate) →
      Carries (publishes (world_of map images) wanted candidate) (publishes (world_of other images) wanted candidate)
  carries-publishes wanted candidate = carries-asks _ _ _ (carries-published wanted)

  -- what is published in the context once an image was published in context 0
  carries-shared : (wanted : Wanted) (reply : Reply) → SameFor map other reply →
      Carries (image_published reply >>= (λ a. if_assembly_serves (world_of map images) wanted a (publishes (world_of map images) wanted (candidates.Assembly a))))
      (image_published reply >>= (λ a. if_assembly_serves (world_of other images) wanted a (publishes (world_of other images) wanted (candidates.Assembly a))))
  carries-shared wanted (replies.Bound a) same =
      carries-given a _ _ (carries-if_assembly_serves wanted a _ _ (same a refl) (carries-publishes wanted (candidates.Assembly a)))
  carries-shared wanted (replies.Lost a) same =
      carries-given a _ _ (carries-if_assembly_serves wanted a _ _ (same a refl) (carries-publishes wanted (candidates.Assembly a)))
  carries-shared wanted reply same = carries-no_way _ _

  carries-publishes_default : (wanted : Wanted) (image : ℕ) →
      Carries (publishes_default (world_of map images) wanted image) (publishes_default (world_of other images) wanted image)
  carries-publishes_default wanted image = carries-asks _ _ _ (carries-shared wanted)

  carries-publishes_image : (wanted : Wanted) (step : AskStep) (image : ℕ) →
      Carries (publishes_image (world_of map images) wanted step image) (publishes_image (world_of other images) wanted step image)
  carries-publishes_image wanted Load image = carries-publishes wanted (candidates.Image image)
  carries-publishes_image wanted Resolving image = carries-publishes wanted (candidates.Image image)
  carries-publishes_image wanted Resolve image = carries-publishes wanted (candidates.Image image)
  carries-publishes_image wanted Default image =
      carries-pick _ _ _ _ _ (carries-publishes wanted (candidates.Image image)) (carries-publishes_default wanted image)

  carries-if_fits : (wanted : Wanted) (next further : Asking ℕ) (m : Module) → Carries next further → Carries (if_fits wanted next m) (if_fits wanted further m)
  carries-if_fits wanted next further m carries =
      carries-pick _ _ _ _ _ (carries-if_serves wanted next further (Some (assembly_version m)) _ refl carries) (carries-same _)

  carries-if_module : (next further : Module → Asking ℕ) (reading : FileReading) → ((m : Module) → Carries (next m) (further m)) →
      Carries (if_module next reading) (if_module further reading)
  carries-if_module next further Absent each = carries-same _
  carries-if_module next further TooLong each = carries-same _
  carries-if_module next further (NoImage failed) each = carries-same _
  carries-if_module next further (Good m) each = each m

  carries-answered : (wanted : Wanted) (step : AskStep) (later later_too : Asking ℕ) (reply : Reply) → SameFor map other reply → Carries later later_too →
      Carries (answered (world_of map images) wanted step later reply) (answered (world_of other images) wanted step later_too reply)
  carries-answered wanted step later later_too replies.Nothing same carries = carries
  carries-answered wanted step later later_too (replies.Image i) same carries =
      carries-if_some (reading_at images i) _ _ _ refl
      (λ reading. carries-if_module _ _ reading (λ m. carries-if_fits wanted _ _ m (carries-publishes_image wanted step i)))
  carries-answered wanted step later later_too (replies.Foreign a) same carries =
      carries-if_assembly_serves wanted a _ _ (same a refl) (carries-publishes wanted (candidates.Assembly a))
  carries-answered wanted step later later_too reply same carries = carries-same never

  carries-asked : (wanted : Wanted) (steps : List AskStep) →
      Carries (asked_in_order (world_of map images) wanted steps) (asked_in_order (world_of other images) wanted steps)
  carries-asked wanted [] = carries-same _
  carries-asked wanted (step ∷ steps) =
      carries-asks _ _ _ (λ reply same. carries-answered wanted step _ _ reply same (carries-asked wanted steps))

  carries-looked_up : (wanted : Wanted) (reply : Reply) → SameFor map other reply →
      Carries (looked_up (world_of map images) wanted reply) (looked_up (world_of other images) wanted reply)
  carries-looked_up wanted replies.Miss same = carries-asked wanted (steps_in wanted.context)
  carries-looked_up wanted (replies.Low a) same = carries-if_some _ _ _ _ (same_version a (same a refl)) (λ version. carries-same _)
  carries-looked_up wanted reply same = carries-same _

  carries-binds : (wanted : Wanted) → Carries (binds (world_of map images) wanted) (binds (world_of other images) wanted)
  unfolding binds
  carries-binds wanted = carries-asks _ _ _ (carries-looked_up wanted)

  carries-within_limit : (work carried : Asking ℕ) → Carries work carried → Carries (within_limit work) (within_limit carried)
  unfolding within_limit
  carries-within_limit work carried carries = record {
    ways = λ before after trace end same h. (h.0, carries.ways before after trace h.0 same h.1, h.2);
  }

  carries-entered : (work carried : ℕ → Asking ℕ) (reply : Reply) → ((c : ℕ) → Carries (work c) (carried c)) → Carries (entered work reply) (entered carried reply)
  carries-entered work carried (replies.Entered k c) each =
      carries-then _ _ _ _ (carries-within_limit (work c) (carried c) (each c)) (λ outcome. carries-same _)
  carries-entered work carried reply each = carries-same _

  carries-operates : (context : List ℕ) (work carried : ℕ → Asking ℕ) → ((c : ℕ) → Carries (work c) (carried c)) →
      Carries (operates context work) (operates context carried)
  carries-operates context work carried each = carries-asks _ _ _ (λ reply same. carries-entered work carried reply each)

  -- A `load` reads no assembly.
  carries-runs : (command : Command) → Carries (runs (world_of map images) command) (runs (world_of other images) command)
  carries-runs (commands.Bind context name version) = carries-operates context _ _ (λ c. carries-binds _)
  carries-runs command = carries-same _

  carries-with_end : (command carried : Asking Outcome) → Carries command carried → Carries (with_end command) (with_end carried)
  carries-with_end command carried carries = carries-then command carried _ _ carries (λ outcome. carries-same _)

  carries-runs_all : (given : List Command) → Carries (runs_all (world_of map images) given) (runs_all (world_of other images) given)
  carries-runs_all given = carries-for_each _ _ given (λ command. carries-with_end _ _ (carries-runs command))

  -- Whichever way the commands go, they go where the assemblies that the replies name are the same.
  pub named_alone : (given : List Command) (trace : List (Event × Reply)) (end : Ending (List CommandEnd)) → SameAlong map other trace →
      IsWay (runs_all (world_of map images) given) trace end → IsWay (runs_all (world_of other images) given) trace end
  named_alone given trace end same way = (carries-runs_all given).ways tt tt trace end same way
