-- Ways of tasks that ask for events, and what is left of a thread after its trace.
use Rattle.std.proofs.Common.{◌≡◌, ◌⊎◌, ◌∙◌, ◌<◌, ◌≤◌, ℕ, sym, ap, subst, refl, inl, inr, List, [], ◌∷◌, ◌++◌, length, Option, Some, Ok, Err, append_assoc}
use Rattle.std.proofs.lemmas.List.{append-nil, map-append}
use Rattle.assembly_image.specs.Module.{Module}
use Rattle.assembly_image.specs.Reading.{FileReading}
use Rattle.assembly_image.specs.Reading.FileReading.{Absent, TooLong, Refused as NoImage, Good}
use Rattle.cli_words.specs.declared.check.FailedCheck.{FailedCheck}
use Rattle.host_events.specs.declared.event.Event.{Event}
use Rattle.host_events.specs.declared.order.CodeOf.{CodeOf}
use Rattle.host_events.specs.declared.outcome.CommandEnd.{CommandEnd}
use Rattle.host_events.specs.declared.outcome.Outcome.{Outcome}
use Rattle.host_events.specs.declared.outcome.Outcome.TheVariants as outcomes
use Rattle.host_events.specs.declared.reply.Reply.{Reply}
use Rattle.host_events.specs.declared.reply.Reply.TheVariants as replies
use Rattle.host_events.specs.Asking.{Asking, Ending, IsDue, IsWay, asks}
use Rattle.host_events.specs.Steps.{Step, AgreeWith, without_codes}
use Rattle.host_events.specs.Task.{Both, Fails, for_each, give, if_some, look, never, ◌>>=◌}
use Rattle.host_events.specs.Task.Why.{Refused, Stopped}
use Rattle.bind_flow.specs.Binds.{EndsWith, if_module, image_published}
use Rattle.bind_flow.specs.Flow.{world_of}
use Rattle.bind_flow.specs.Images.{World, reading_at}
use Rattle.host_script.specs.declared.command.Command.{Command}
use Rattle.command_flow.specs.Flow.{Plan}
use Rattle.command_flow.specs.Run.{end_of, with_end, loads, most_within, runs_all, within_limit}
use Rattle.command_flow.specs.State.{IsLeft, ends_later, goes_on}
use Rattle.command_flow.specs.Turns.{loaded, publication, refused}

-- Once these events have their replies, just the one task is left of the other.
pub record IsAfter {A : Type 0} (own : List (Event × Reply)) (task wider : Asking A) : Type 0 where
  pub ways : (before after : Unit {0}) (more : List (Event × Reply)) (end : Ending A) → task before more after end → wider before (own ++ more) after end

after-within : {A : Type 0} (own : List (Event × Reply)) (task between wider : Asking A) → IsAfter [] task between → IsAfter own between wider → IsAfter own task wider
after-within own task between wider h k = record { ways = λ before after more end way. k.ways before after more end (h.ways before after more end way) }

pub after-then : {A B : Type 0} (own : List (Event × Reply)) (first wider : Asking A) (next : A → Asking B) → IsAfter own first wider →
    IsAfter own (first >>= next) (wider >>= next)
unfolding ◌>>=◌
after-then {A} {B} own first wider next h = record { ways = go }
  where
    go : (before after : Unit {0}) (more : List (Event × Reply)) (end : Ending B) →
        (Both first next before more after end ⊎ Fails {B = B} first before more after end) →
        (Both wider next before (own ++ more) after end ⊎ Fails {B = B} wider before (own ++ more) after end)
    go before after more end (inl (v, b, o, m, hf, hn, e)) =
        inl (v, b, own ++ o, m, h.ways before b o (Ok v) hf, hn, ap (λ t. own ++ t) e ∙ sym (append_assoc own o m))
    go before after more end (inr (why, hf, e)) = inr (why, h.ways before after more (Err why) hf, e)

-- an event has its reply
pub after-asks : {A : Type 0} (event : Event) (reply : Reply) (next : Reply → Asking A) → IsAfter ((event, reply) ∷ []) (next reply) (asks event >>= next)
unfolding ◌>>=◌ asks
after-asks event reply next = record {
  ways = λ before after more end h. inl (reply, before, (event, reply) ∷ [], more, (refl, inl (reply, refl, refl)), h, refl);
}

-- a task has given its value
pub after-given : {A B : Type 0} (task : Asking A) (next : A → Asking B) (value : A) (own : List (Event × Reply)) → IsWay task own (Ok value) →
    IsAfter own (next value) (task >>= next)
unfolding ◌>>=◌
after-given task next value own way = record { ways = λ before after more end h. inl (value, before, own, more, way, h, refl) }

-- what is due in a task is due in one that goes on after it
pub due-then : {A B : Type 0} (first : Asking A) (next : A → Asking B) (own : List (Event × Reply)) (event : Event) → IsDue first own event → IsDue (first >>= next) own event
unfolding ◌>>=◌
due-then first next own event h = inr (Stopped event, h, refl)

pub due-asks : {A : Type 0} (event : Event) (next : Reply → Asking A) → IsDue (asks event >>= next) [] event
unfolding ◌>>=◌ asks
due-asks event next = inr (Stopped event, (refl, inr (refl, refl)), refl)

-- an event is due, and more of the events within may be made
pub within-due : (work : Asking ℕ) (own : List (Event × Reply)) (event : Event) → IsDue work own event → length own < most_within → IsDue (within_limit work) own event
unfolding within_limit
within-due work own event due below = (Err (Stopped event), due, inl (below, refl))

-- an event is due, and all events within were made
pub within-limited : (work : Asking ℕ) (own : List (Event × Reply)) (event : Event) → IsDue work own event → length own ≡ most_within →
    IsWay (within_limit work) own (Ok outcomes.EventLimit)
unfolding within_limit
within-limited work own event due all = (Err (Stopped event), due, inr (all, refl))

-- the work within has ended so
pub within-ended : (work : Asking ℕ) (own : List (Event × Reply)) (end : Ending ℕ) (outcome : Outcome) → IsWay work own end → EndsWith end outcome →
    length own ≤ most_within → IsWay (within_limit work) own (Ok outcome)
unfolding within_limit
within-ended work own (Ok a) outcome way is few = (Ok a, way, (few, ap Ok is))
within-ended work own (Err (Refused refusal)) outcome way is few = (Err (Refused refusal), way, (few, ap Ok is))
within-ended work own (Err (Stopped event)) outcome way is few = absurd is

-- the work of `load` over an image that is one
loads-good : (world : World) (image c : ℕ) (m : Module) (own : List (Event × Reply)) (end : Ending ℕ) → reading_at world.images image ≡ Some (Good m) →
    IsWay (asks (publication m c image) >>= image_published) own end → IsWay (loads world image c) own end
unfolding if_some
loads-good world image c m own end good way =
    let next : Module → Asking ℕ = λ n. asks (publication n c image) >>= image_published in
    subst (λ (o : Option FileReading). IsWay (if_some o (if_module next) never) own end) (sym good) way

pub loads-due : (world : World) (image c : ℕ) (m : Module) → reading_at world.images image ≡ Some (Good m) → IsDue (loads world image c) [] (publication m c image)
loads-due world image c m good = loads-good world image c m [] (Err (Stopped (publication m c image))) good (due-asks (publication m c image) image_published)

published-way : (reply : Reply) (a : ℕ) → loaded reply ≡ Some a → IsWay (image_published reply) [] (Ok a)
unfolding look
published-way (replies.Bound b) a is = let same : b ≡ a = cc is in (refl, refl, ap Ok (sym same))
published-way (replies.Lost b) a is = let same : b ≡ a = cc is in (refl, refl, ap Ok (sym same))
published-way reply a is = cc

pub loads-given : (world : World) (image c : ℕ) (m : Module) (reply : Reply) (a : ℕ) → reading_at world.images image ≡ Some (Good m) → loaded reply ≡ Some a →
    IsWay (loads world image c) ((publication m c image, reply) ∷ []) (Ok a)
loads-given world image c m reply a good is =
    loads-good world image c m ((publication m c image, reply) ∷ []) (Ok a) good
    ((after-asks (publication m c image) reply image_published).ways tt tt [] (Ok a) (published-way reply a is))

-- the work of `load` over a file that is no image
pub loads-refused : (world : World) (image c : ℕ) (reading : FileReading) (failed : FailedCheck) → reading_at world.images image ≡ Some reading →
    refused reading ≡ Some failed → IsWay (loads world image c) [] (Err (Refused (outcomes.BadImage failed)))
unfolding if_some look
loads-refused world image c reading failed at is =
    let next : Module → Asking ℕ = λ n. asks (publication n c image) >>= image_published in
    subst (λ (o : Option FileReading). IsWay (if_some o (if_module next) never) [] (Err (Refused (outcomes.BadImage failed)))) (sym at) (by_reading reading is)
  where
    of : (f : FailedCheck) → f ≡ failed → ◌≡◌ {A = Ending ℕ} (Err (Refused (outcomes.BadImage failed))) (Err (Refused (outcomes.BadImage f)))
    of f same = ap (λ (x : FailedCheck). Err (Refused (outcomes.BadImage x))) (sym same)

    by_reading : (r : FileReading) → refused r ≡ Some failed →
        IsWay (if_module (λ n. asks (publication n c image) >>= image_published) r) [] (Err (Refused (outcomes.BadImage failed)))
    by_reading Absent is = (refl, refl, of _ (cc is))
    by_reading TooLong is = (refl, refl, of _ (cc is))
    by_reading (NoImage f) is = (refl, refl, of f (cc is))
    by_reading (Good m) is = cc

-- the ends that a thread goes on to have those before them in front
abbrev JoinedTo : List CommandEnd → Ending (List CommandEnd) → Ending (List CommandEnd) → Type 0
JoinedTo ends (Ok later) end = end ≡ Ok (ends ++ later)
JoinedTo ends (Err why) end = end ≡ Err why

goes_on-each : (world : World) (commands : List Command) (ends : List CommandEnd) (trace : List (Event × Reply)) (end : Ending (List CommandEnd)) →
    IsWay (goes_on world commands ends) trace end →
    (last : Ending (List CommandEnd)) × IsWay (runs_all world commands) trace last × JoinedTo ends last end
unfolding ◌>>=◌ for_each look
goes_on-each world [] ends trace end way = (Ok [], (way.0, refl, refl), way.2 ∙ ap Ok (sym (append-nil ends)))
goes_on-each world (command ∷ later) ends trace end (inr (why, first, e)) = (Err why, inr (why, first, refl), e)
goes_on-each world (command ∷ later) ends trace end (inl (one, b, o, m, first, next, parted)) =
    by_last (goes_on-each world later (ends ++ one ∷ []) m end next)
  where
    by_last : (last : Ending (List CommandEnd)) × IsWay (runs_all world later) m last × JoinedTo (ends ++ one ∷ []) last end →
        (last : Ending (List CommandEnd)) × IsWay (runs_all world (command ∷ later)) trace last × JoinedTo ends last end
    by_last (Ok others, rest, joined) =
        (Ok (one ∷ others), inl (one, b, o, m, first, inl (others, b, m, [], rest, (refl, refl, refl), sym (append-nil m)), parted), joined ∙ ap Ok (append_assoc ends (one ∷ []) others))
    by_last (Err why, rest, joined) = (Err why, inl (one, b, o, m, first, inr (why, rest, refl), parted), joined)

-- at first a whole thread is left
pub IsLeft-first : (plan : Plan) → IsLeft plan [] (λ world. goes_on world plan.commands [])
IsLeft-first plan assemblies agree more end way =
    let world = world_of assemblies plan.images in
    by_last (goes_on-each world plan.commands [] more end way)
  where
    by_last : (last : Ending (List CommandEnd)) × IsWay (runs_all (world_of assemblies plan.images) plan.commands) more last × JoinedTo [] last end →
        IsWay (runs_all (world_of assemblies plan.images) plan.commands) more end
    by_last (Ok others, rest, joined) = subst (λ (e : Ending (List CommandEnd)). IsWay (runs_all (world_of assemblies plan.images) plan.commands) more e) (sym joined) rest
    by_last (Err why, rest, joined) = subst (λ (e : Ending (List CommandEnd)). IsWay (runs_all (world_of assemblies plan.images) plan.commands) more e) (sym joined) rest

pub agree_parts : (assemblies : ℕ → Option CodeOf) (trace own : List Step) → AgreeWith assemblies (trace ++ own) → AgreeWith assemblies trace × AgreeWith assemblies own
agree_parts assemblies [] own agree = (tt, agree)
agree_parts assemblies (s ∷ trace) own agree = let rest = agree_parts assemblies trace own agree.1 in ((agree.0, rest.0), rest.1)

-- What is left after a trace goes on with steps of its own.
pub IsLeft-after : (plan : Plan) (trace own : List Step) (left later : World → Asking (List CommandEnd)) → IsLeft plan trace left →
    ((assemblies : ℕ → Option CodeOf) → AgreeWith assemblies own →
    IsAfter (without_codes own) (later (world_of assemblies plan.images)) (left (world_of assemblies plan.images))) →
    IsLeft plan (trace ++ own) later
IsLeft-after plan trace own left later is after assemblies agree more end way =
    let parts = agree_parts assemblies trace own agree in
    let whole = is assemblies parts.0 (without_codes own ++ more) end ((after assemblies parts.1).ways tt tt more end way) in
    let same : without_codes trace ++ (without_codes own ++ more) ≡ without_codes (trace ++ own) ++ more =
    sym (append_assoc (without_codes trace) (without_codes own) more) ∙ ap (λ t. t ++ more) (sym (map-append (λ (s : Step). (s.event, s.reply)) trace own)) in
    subst (λ t. IsWay (runs_all (world_of assemblies plan.images) plan.commands) t end) same whole

-- an event that is due in what is left is due in the thread
pub due-left : (plan : Plan) (trace own : List Step) (left : World → Asking (List CommandEnd)) (event : Event) → IsLeft plan trace left →
    ((assemblies : ℕ → Option CodeOf) → AgreeWith assemblies own → IsDue (left (world_of assemblies plan.images)) (without_codes own) event) →
    (assemblies : ℕ → Option CodeOf) → AgreeWith assemblies (trace ++ own) →
    IsDue (runs_all (world_of assemblies plan.images) plan.commands) (without_codes (trace ++ own)) event
due-left plan trace own left event is due assemblies agree =
    let parts = agree_parts assemblies trace own agree in
    subst (λ t. IsDue (runs_all (world_of assemblies plan.images) plan.commands) t event)
    (sym (map-append (λ (s : Step). (s.event, s.reply)) trace own))
    (is assemblies parts.0 (without_codes own) (Err (Stopped event)) (due assemblies parts.1))

ends-given : (outcome : Outcome) → IsWay (with_end (give outcome)) [] (Ok (end_of outcome))
unfolding ◌>>=◌ look
ends-given outcome = inl (outcome, tt, [], [], (refl, refl, refl), (refl, refl, refl), refl)

-- a command goes on
pub after-command : (world : World) (later : List Command) (ends : List CommandEnd) (own : List (Event × Reply)) (first wider : Asking Outcome) → IsAfter own first wider →
    IsAfter own (ends_later world later ends first) (ends_later world later ends wider)
after-command world later ends own first wider h =
    after-then own (with_end first) (with_end wider) (λ end. goes_on world later (ends ++ end ∷ [])) (after-then own first wider (λ outcome. give (end_of outcome)) h)

-- a command goes on to its end
pub after-end : (world : World) (later : List Command) (ends : List CommandEnd) (own : List (Event × Reply)) (outcome : Outcome) (wider : Asking Outcome) →
    IsAfter own (give outcome) wider → IsAfter own (goes_on world later (ends ++ end_of outcome ∷ [])) (ends_later world later ends wider)
after-end world later ends own outcome wider h =
    after-within own (goes_on world later (ends ++ end_of outcome ∷ [])) (ends_later world later ends (give outcome)) (ends_later world later ends wider)
    (after-given (with_end (give outcome)) (λ end. goes_on world later (ends ++ end ∷ [])) (end_of outcome) [] (ends-given outcome))
    (after-command world later ends own (give outcome) wider h)

-- what is due in a command
pub due-command : (world : World) (later : List Command) (ends : List CommandEnd) (own : List (Event × Reply)) (command : Asking Outcome) (event : Event) →
    IsDue command own event → IsDue (ends_later world later ends command) own event
due-command world later ends own command event h =
    due-then (with_end command) (λ end. goes_on world later (ends ++ end ∷ [])) own event (due-then command (λ outcome. give (end_of outcome)) own event h)
