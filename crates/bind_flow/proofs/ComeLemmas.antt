-- What can come for an event of a bind.
use Rattle.std.proofs.Common.{◌≡◌, ◌∙◌, ◌<◌, ◌+◌, ◌==◌, ◌&&◌, ◌++◌, [], ◌∷◌, not, cond, ℕ, zero, suc, Bool, true, false, if◌then◌else◌, List, length, Option, Some, None, IsSome, inl, inr, sym, ap, subst, refl, arith}
use Rattle.std.specs.List.{slice_get}
use Rattle.std.specs.Option.{option_and_then, option_map}
use Rattle.std.specs.declared.snapshot.Snapshot.{Snapshot}
use Rattle.std.proofs.lemmas.List.{length-map}
use Rattle.assembly_image.specs.Reading.{FileReading}
use Rattle.host_events.specs.declared.event.AskStep.{AskStep}
use Rattle.host_events.specs.declared.event.Candidate.{Candidate}
use Rattle.host_events.specs.declared.event.Candidate.TheVariants as candidates
use Rattle.host_events.specs.declared.event.Event.{Event}
use Rattle.host_events.specs.declared.journal.Entry.{Entry}
use Rattle.host_events.specs.declared.order.Answer.{Answer}
use Rattle.host_events.specs.declared.order.CodeOf.{CodeOf}
use Rattle.host_events.specs.declared.order.Order.{Order}
use Rattle.host_events.specs.declared.reply.Reply.{Reply}
use Rattle.host_events.specs.declared.reply.Reply.TheVariants as replies
use Rattle.host_events.specs.Assemblies.{assembly_of, bound_count, code_of, code_published}
use Rattle.host_events.specs.Bindings.{binding, platform_version}
use Rattle.host_events.specs.Contexts.{is_collectible}
use Rattle.host_events.specs.Files.{Files, IsImage, version_at, version_of}
use Rattle.host_events.specs.Flows.{IsResumable}
use Rattle.host_events.specs.Images.{KnowsImages}
use Rattle.host_events.specs.Journal.{IsProper}
use Rattle.host_events.specs.Reply.{IsReply, is_of_collectible, reply_to_lookup, reply_to_publish}
use Rattle.host_events.specs.Rules.{reply_to_ask}
use Rattle.host_events.specs.Steps.{Step, entry_of}
use Rattle.host_events.proofs.Bound.{IsKnown, assemblies_stay_each, assembly_of-made}
use Rattle.host_events.proofs.Cases.{ask-each, lookup-each}
use Rattle.host_events.proofs.Images.{GivesImage, asked_image, assembly_version-there}
use Rattle.host_events.proofs.Named.{NamesOf, ask_names, bound_named, lookup_names, named_known}
use Rattle.host_events.proofs.Push.{IsLegal-push}
use Rattle.bind_flow.specs.declared.flow.At.{At}
use Rattle.bind_flow.specs.declared.flow.At.TheVariants as places
use Rattle.bind_flow.specs.declared.images.ImageCode.{ImageCode}
use Rattle.bind_flow.specs.declared.turn.Wait.{Wait}
use Rattle.bind_flow.specs.declared.turn.Wait.TheVariants as waits
use Rattle.bind_flow.specs.Flow.{Plan, CanCome}
use Rattle.bind_flow.specs.Images.{reading_at, version_read, versions_of}
use Rattle.bind_flow.specs.State.{Bind, IsWaiting, StandsAt, stand_at, stand_of}
use Rattle.bind_flow.specs.Turns.{IsReady, event_at, image_version, turn_answered, turn_default, turn_looked_up, turn_published, turn_with, version_told}

some-map : {X Y : Type 0} (f : X → Y) (o : Option X) → IsSome o → IsSome (option_map f o)
some-map f None some = cc
some-map f (Some x) some = refl

-- an assembly that is bound to a name is known
binding-known : (files : Files) (journal : List Entry) → IsProper files journal → (c : ℕ) (n : List ℕ) (a : ℕ) → binding journal c n ≡ Some a → IsKnown journal a
binding-known files journal proper c n a bound = bound_named (IsKnown journal) journal (inl refl) (named_known files journal proper) c n a bound

version-images : (images : List FileReading) (image : ℕ) → version_at (versions_of images) image ≡ image_version images image
version-images images zero = refl
version-images images (suc image) = at images image
  where
    at : (rs : List FileReading) (i : ℕ) → version_at (versions_of rs) (suc i) ≡ image_version rs (suc i)
    at [] i = refl
    at (r ∷ rs) zero = refl
    at (r ∷ rs) (suc i) = at rs i

-- the version of an assembly whose image has one
version-known : (images : List FileReading) (a : ℕ) (code : Option CodeOf) (from : CodeOf) → code ≡ Some from → IsSome (image_version images from.image) →
    IsSome (version_told images a code)
version-known images a code from is some = at (a == 0)
  where
    at : (zeroth : Bool) → IsSome (if zeroth then Some platform_version else option_and_then (λ f. image_version images f.image) code)
    at true = refl
    at false = subst (λ (o : Option CodeOf). IsSome (option_and_then (λ (f : CodeOf). image_version images f.image) o)) (sym is) some

-- the version of an assembly that is known after the journal
version-there : (images : List FileReading) (files : Files) (journal later : List Entry) (a : ℕ) (code : Option CodeOf) → files.versions ≡ versions_of images →
    KnowsImages files journal → IsKnown journal a → code ≡ assembly_of (journal ++ later) a → IsSome (version_told images a code)
version-there images files journal later a code versions knows (inl platform) is =
    subst (λ (b : ℕ). IsSome (version_told images b code)) (sym platform) refl
version-there images files journal later a code versions knows (inr (from, made)) is =
    let some : IsSome (version_of files from.image) = assembly_version-there files journal a from knows made in
    version-known images a code from (is ∙ assemblies_stay_each journal later a from made)
    (subst IsSome (ap (λ vs. version_at vs from.image) versions ∙ version-images images from.image) some)

-- an image that is there reads in some way
reading-there : (images : List FileReading) (image : ℕ) → IsImage (versions_of images) image → IsSome (reading_at images image)
reading-there images zero there = absurd (omega (arith, there.counted))
reading-there images (suc image) there = at images image (omega (arith, there.within, length-map images version_read))
  where
    at : (rs : List FileReading) (i : ℕ) → i < length rs → IsSome (slice_get rs i)
    at [] i within = absurd (omega arith)
    at (r ∷ rs) zero within = refl
    at (r ∷ rs) (suc i) within = at rs i (omega arith)

-- what is known after a journal that fits, where the code comes for this event
module _ (plan : Plan) (thread : ℕ) (files : Files) (journal : List Entry) (proper : IsProper files journal) (versions : files.versions ≡ versions_of plan.images)
    (knows : KnowsImages files journal) (event : Event) (code : Option CodeOf) where
  version-named : (reply : Reply) (a : ℕ) → code ≡ assembly_of (journal ++ entry_of thread event reply ∷ []) a → IsKnown journal a → IsSome (version_told plan.images a code)
  version-named reply a coded known = version-there plan.images files journal (entry_of thread event reply ∷ []) a code versions knows known coded

  came-looked_up : (reply : Reply) → reply ≡ reply_to_lookup files journal plan.wanted.version (binding journal plan.wanted.context plan.wanted.name) →
      code ≡ code_of journal (entry_of thread event reply) → IsSome (turn_looked_up plan.wanted plan.images reply code)
  came-looked_up reply is coded =
      let P : Reply → Type 0 = λ r. NamesOf (IsKnown journal) r → code ≡ code_of journal (entry_of thread event r) → IsSome (turn_looked_up plan.wanted plan.images r code) in
      let found = binding journal plan.wanted.context plan.wanted.name in
      subst P (sym is)
      (lookup-each P files journal plan.wanted.version found (λ names coded. refl) (λ a names coded. refl)
      (λ a names coded. some-map _ (version_told plan.images a code) (version-named (replies.Low a) a coded (names a refl))))
      (subst (NamesOf (IsKnown journal)) (sym is)
      (lookup_names (IsKnown journal) files journal plan.wanted.version found (binding-known files journal proper plan.wanted.context plan.wanted.name)))
      coded

  came-answered : (step : AskStep) (reply : Reply) → reply ≡ reply_to_ask files journal step plan.wanted.context plan.wanted.name →
      code ≡ code_of journal (entry_of thread event reply) → IsSome (turn_answered plan.wanted plan.images step reply code)
  came-answered step reply is coded =
      let P : Reply → Type 0 = λ r. NamesOf (IsKnown journal) r → GivesImage files r → code ≡ code_of journal (entry_of thread event r) →
      IsSome (turn_answered plan.wanted plan.images step r code) in
      let n = plan.wanted.name in
      let c = plan.wanted.context in
      subst P (sym is)
      (ask-each P files journal step c n (λ names gives coded. refl)
      (λ i names gives coded. some-map _ (reading_at plan.images i) (reading-there plan.images i (subst (λ vs. IsImage vs i) versions (gives i refl))))
      (λ a names gives coded. some-map _ (version_told plan.images a code) (version-named (replies.Foreign a) a coded (names a refl))))
      (subst (NamesOf (IsKnown journal)) (sym is) (ask_names (IsKnown journal) files journal step c n (λ d a. binding-known files journal proper d n a)))
      (subst (GivesImage files) (sym is) (asked_image files journal step c n knows))
      coded

  came-published : (c : ℕ) (candidate : Candidate) (found : Option ℕ) → ((a : ℕ) → found ≡ Some a → IsKnown journal a) →
      code ≡ code_of journal (entry_of thread event (reply_to_publish journal c candidate found)) →
      IsSome (turn_published plan.wanted plan.images (reply_to_publish journal c candidate found) code)
  came-published c candidate (Some a) known coded = some-map _ (version_told plan.images a code) (version-named (replies.Lost a) a coded (known a refl))
  came-published c (candidates.Image image) None known coded = refl
  came-published c (candidates.Assembly b) None known coded = at (is_of_collectible journal b && not (is_collectible journal c))
    where
      at : (kept_out : Bool) → IsSome (turn_published plan.wanted plan.images (cond kept_out (replies.NotCollectible b) (replies.Shared b)) code)
      at true = refl
      at false = refl

  came-default : (image : ℕ) (found : Option ℕ) → ((a : ℕ) → found ≡ Some a → IsKnown journal a) → IsSome (image_version plan.images image) →
      code_published event ≡ Some (record { image = image; context = 0 }) → IsReply files journal event (reply_to_publish journal 0 (candidates.Image image) found) →
      code ≡ code_of journal (entry_of thread event (reply_to_publish journal 0 (candidates.Image image) found)) →
      IsSome (turn_default plan.wanted plan.images (reply_to_publish journal 0 (candidates.Image image) found) code)
  came-default image (Some a) known good published replied coded = some-map _ (version_told plan.images a code) (version-named (replies.Lost a) a coded (known a refl))
  came-default image None known good published replied coded =
      let a : ℕ = bound_count journal + 1 in
      let entry = entry_of thread event (replies.Bound a) in
      let made = assembly_of-made files journal entry a (IsLegal-push files journal entry proper.legal replied) refl in
      some-map _ (version_told plan.images a code) (version-known plan.images a code (record { image = image; context = 0 }) (coded ∙ made ∙ published) good)

-- a reply that can come leads somewhere
pub turn-came : (plan : Plan) (trace : List Step) (wait : Wait) (order : Order ImageCode) (reply : Reply) (code : Option CodeOf) →
    IsReady plan.images wait → order.event ≡ event_at plan.wanted wait → CanCome plan.images trace order reply code →
    IsSome (turn_with plan.wanted plan.images wait reply code)
turn-came plan trace wait order reply code ready asked come =
    by_wait wait ready (subst (λ (e : Event). IsReply come.files come.journal e reply) asked come.replied)
    (subst (λ (e : Event). code ≡ code_of come.journal (entry_of come.thread e reply)) asked come.coded)
  where
    known : (c : ℕ) (a : ℕ) → binding come.journal c plan.wanted.name ≡ Some a → IsKnown come.journal a
    known c a = binding-known come.files come.journal come.fitting.proper c plan.wanted.name a

    at_publish : (c : ℕ) (candidate : Candidate) (event : Event) →
        reply ≡ reply_to_publish come.journal c candidate (binding come.journal c plan.wanted.name) →
        code ≡ code_of come.journal (entry_of come.thread event reply) → IsSome (turn_published plan.wanted plan.images reply code)
    at_publish c candidate event is coded =
        subst (λ (r : Reply). code ≡ code_of come.journal (entry_of come.thread event r) → IsSome (turn_published plan.wanted plan.images r code)) (sym is)
        (came-published plan come.thread come.files come.journal come.fitting.proper come.fitting.versions come.fitting.known event code c candidate
        (binding come.journal c plan.wanted.name) (known c))
        coded

    by_wait : (w : Wait) → IsReady plan.images w → IsReply come.files come.journal (event_at plan.wanted w) reply →
        code ≡ code_of come.journal (entry_of come.thread (event_at plan.wanted w) reply) → IsSome (turn_with plan.wanted plan.images w reply code)
    by_wait waits.Lookup ready is coded =
        came-looked_up plan come.thread come.files come.journal come.fitting.proper come.fitting.versions come.fitting.known (event_at plan.wanted waits.Lookup) code reply is coded
    by_wait (waits.Ask step) ready is coded =
        came-answered plan come.thread come.files come.journal come.fitting.proper come.fitting.versions come.fitting.known (event_at plan.wanted (waits.Ask step)) code step reply is coded
    by_wait (waits.PublishDefault image) ready is coded =
        let event = event_at plan.wanted (waits.PublishDefault image) in
        subst (λ (r : Reply). IsReply come.files come.journal event r → code ≡ code_of come.journal (entry_of come.thread event r) →
        IsSome (turn_default plan.wanted plan.images r code)) (sym is)
        (came-default plan come.thread come.files come.journal come.fitting.proper come.fitting.versions come.fitting.known event code image
        (binding come.journal 0 plan.wanted.name) (known 0) ready refl)
        is coded
    by_wait (waits.Publish candidate) ready is coded = at_publish plan.wanted.context candidate (event_at plan.wanted (waits.Publish candidate)) is coded
    by_wait (waits.Share a) ready is coded = at_publish plan.wanted.context (candidates.Assembly a) (event_at plan.wanted (waits.Share a)) is coded

-- where a flow stands that waits
pub waits-now : (plan : Plan) (trace : List Step) (at : At) (wait : Wait) (order : Snapshot (Order ImageCode)) (count capacity : ℕ) → places.Waits wait order ≡ at →
    StandsAt plan trace at count capacity → IsWaiting plan trace wait order.value.event count capacity
waits-now plan trace at wait order count capacity is stands = subst (λ (a : At). StandsAt plan trace a count capacity) (sym is) stands

pub came-now : (flow : Bind) (at : At) (wait : Wait) (order : Snapshot (Order ImageCode)) (answer : Answer) (count capacity : ℕ) → places.Waits wait order ≡ at →
    flow.at ≡ at → StandsAt flow.plan flow.trace at count capacity →
    IsResumable (CanCome flow.plan.images flow.trace) (λ (a : Answer). a.reply) (λ (a : Answer). a.code) (stand_of flow) (Some answer) →
    IsSome (turn_with flow.plan.wanted flow.plan.images wait answer.reply answer.code)
came-now flow at wait order answer count capacity is here stands taken =
    let waiting = waits-now flow.plan flow.trace at wait order count capacity is stands in
    let come : CanCome flow.plan.images flow.trace order.value answer.reply answer.code =
    subst (λ (a : At). IsResumable (CanCome flow.plan.images flow.trace) (λ (a : Answer). a.reply) (λ (a : Answer). a.code) (stand_at a) (Some answer)) (here ∙ sym is) taken in
    turn-came flow.plan flow.trace wait order.value answer.reply answer.code waiting.can.ready waiting.asked come
