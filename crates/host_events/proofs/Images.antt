-- The images that a journal names are there.
use Rattle.std.proofs.Common.{◌≡◌, ℕ, Bool, true, false, ◌&&◌, cond, List, [], ◌∷◌, ◌++◌, map, Option, Some, None, IsSome, refl, ap, subst, ◌∙◌}
use Rattle.std.proofs.ByRecursion as all
use Rattle.std.specs.List.{AllByRecursion, cons_option, find, last_or}
use Rattle.std.specs.Option.{option_and_then, option_map, option_map_or}
use Rattle.cli_words.specs.Text.{are_alike}
use Rattle.assembly_name.specs.declared.version.Version.{Version}
use Rattle.host_events.specs.declared.event.AskStep.{AskStep}
use Rattle.host_events.specs.declared.event.AskStep.TheVariants as steps
use Rattle.host_events.specs.declared.event.Event.{Event}
use Rattle.host_events.specs.declared.event.Event.TheVariants as events
use Rattle.host_events.specs.declared.event.RuleAnswer.{RuleAnswer}
use Rattle.host_events.specs.declared.event.RuleAnswer.TheVariants as answers
use Rattle.host_events.specs.declared.journal.Entry.{Entry}
use Rattle.host_events.specs.declared.order.CodeOf.{CodeOf}
use Rattle.host_events.specs.declared.reply.Reply.{Reply}
use Rattle.host_events.specs.declared.reply.Reply.TheVariants as replies
use Rattle.host_events.specs.Assemblies.{assembly_of}
use Rattle.host_events.specs.Bindings.{binding}
use Rattle.host_events.specs.Contexts.{is_number, named}
use Rattle.host_events.specs.Files.{Files, IsImage, first_image, is_of_name, version_of}
use Rattle.host_events.specs.Images.{IsOfImages, KnowsImages, image_answered, image_ruled}
use Rattle.host_events.specs.Rules.{answer_set, asks_place, default_for, first_candidate, foreign, found_image, given_by, is_candidate, or_nothing, reply_to_ask, rule_by, rules_context, rules_for, set_context}
use Rattle.host_events.proofs.Bound.{assembly_parts}
use Rattle.host_events.proofs.Named.{all_at}

-- one more entry that names images that are there
pub KnowsImages-push : (files : Files) (journal : List Entry) (entry : Entry) → KnowsImages files journal → IsOfImages files entry →
    KnowsImages files (journal ++ entry ∷ [])
KnowsImages-push files journal entry knows here =
    record { numbered = knows.numbered; each = all.All-push (IsOfImages files) journal entry knows.each here }

-- the image of an assembly that was made has a version
pub assembly_version-there : (files : Files) (journal : List Entry) (a : ℕ) (code : CodeOf) → KnowsImages files journal →
    assembly_of journal a ≡ Some code → IsSome (version_of files code.image)
assembly_version-there files journal a code knows is =
    let p = assembly_parts journal a code is in
    (all_at (IsOfImages files) p.before p.here p.after (subst (AllByRecursion (IsOfImages files)) p.parted knows.each)).bound a code p.holds.0 p.holds.1

-- the reply names an image that is there, if it names one
abbrev pub GivesImage : Files → Reply → Type 0
GivesImage files reply = (i : ℕ) → reply ≡ replies.Image i → IsImage files.versions i

-- the rule answers an image that is there, if it answers one
abbrev pub AnswersImage : Files → RuleAnswer → Type 0
AnswersImage files answer = (i : ℕ) → image_answered answer ≡ Some i → IsImage files.versions i

foreign_image : (files : Files) (o : Option ℕ) → GivesImage files (foreign o)
foreign_image files None i is = cc is
foreign_image files (Some a) i is = cc is

given_image : (files : Files) (journal : List Entry) (n : List ℕ) (answer : RuleAnswer) → AnswersImage files answer → GivesImage files (given_by journal n answer)
given_image files journal n (answers.Image j) known = λ i is. let same : j ≡ i = cc is in known i (ap Some same)
given_image files journal n (answers.Share context) known = foreign_image files (option_and_then (λ c. binding journal c n) (named journal context))
given_image files journal n answers.Nothing known = λ i is. cc is

-- the answer that an event sets is its own
set_answer : (files : Files) (step : AskStep) (n : List ℕ) (event : Event) (answer : RuleAnswer) →
    ((i : ℕ) → image_ruled event ≡ Some i → IsImage files.versions i) → answer_set step n event ≡ Some answer → AnswersImage files answer
set_answer files step n (events.Rule place name given) answer known is = at (asks_place step place && are_alike name n) is
  where
    at : (b : Bool) → cond b (Some given) None ≡ Some answer → AnswersImage files answer
    at true e = λ i image. let same : given ≡ answer = cc e in known i (ap image_answered same ∙ image)
    at false e = cc e
set_answer files step n event answer known is = cc is

ruled_answer : (files : Files) (step : AskStep) (c : ℕ) (n : List ℕ) (e : Entry) (answer : RuleAnswer) → IsOfImages files e →
    rule_by step c n e.event e.reply ≡ Some answer → AnswersImage files answer
ruled_answer files step c n e answer known is = at (is_number (rules_context step c) (set_context e.reply)) is
  where
    at : (b : Bool) → cond b (answer_set step n e.event) None ≡ Some answer → AnswersImage files answer
    at true set = set_answer files step n e.event answer known.ruled set
    at false set = cc set

-- rules answer images that are there
pub rules_images : (files : Files) (journal : List Entry) (step : AskStep) (c : ℕ) (n : List ℕ) → AllByRecursion (IsOfImages files) journal →
    AllByRecursion (AnswersImage files) (rules_for journal step c n)
rules_images files [] step c n known = tt
rules_images files (e ∷ es) step c n known = at (rule_by step c n e.event e.reply) (λ answer. ruled_answer files step c n e answer known.0) (rules_images files es step c n known.1)
  where
    at : (o : Option RuleAnswer) → ((answer : RuleAnswer) → o ≡ Some answer → AnswersImage files answer) →
        AllByRecursion (AnswersImage files) (rules_for es step c n) → AllByRecursion (AnswersImage files) (cons_option o (rules_for es step c n))
    at None here later = later
    at (Some answer) here later = (here answer refl, later)

last_image : (files : Files) (journal : List Entry) (n : List ℕ) (o : Option RuleAnswer) (rules : List RuleAnswer) →
    GivesImage files (option_map_or (given_by journal n) o replies.Nothing) → AllByRecursion (AnswersImage files) rules →
    GivesImage files (option_map_or (given_by journal n) (last_or o rules) replies.Nothing)
last_image files journal n o [] first known = first
last_image files journal n o (rule ∷ rules) first known =
    last_image files journal n (Some rule) rules (given_image files journal n rule known.0) known.1

found_first : (files : Files) (journal : List Entry) (n : List ℕ) (rules : List RuleAnswer) → AllByRecursion (AnswersImage files) rules →
    GivesImage files (first_candidate (map (given_by journal n) rules))
found_first files journal n [] known = λ i is. cc is
found_first files journal n (rule ∷ rules) known = at (is_candidate (given_by journal n rule)) (found_first files journal n rules known.1)
  where
    at : (b : Bool) → GivesImage files (first_candidate (map (given_by journal n) rules)) →
        GivesImage files (or_nothing (cond b (Some (given_by journal n rule)) (find is_candidate (map (given_by journal n) rules))))
    at true later = given_image files journal n rule known.0
    at false later = later

file_image : (versions : List (Option Version)) (n : List ℕ) (app : List (List ℕ × ℕ)) → AllByRecursion (λ file. IsImage versions file.1) app → (i : ℕ) →
    option_map (λ file. file.1) (find (is_of_name n) app) ≡ Some i → IsImage versions i
file_image versions n [] known i is = cc is
file_image versions n (file ∷ app) known i is = at (is_of_name n file) (file_image versions n app known.1 i) is
  where
    at : (b : Bool) → (option_map (λ (f : List ℕ × ℕ). f.1) (find (is_of_name n) app) ≡ Some i → IsImage versions i) →
        option_map (λ (f : List ℕ × ℕ). f.1) (cond b (Some file) (find (is_of_name n) app)) ≡ Some i → IsImage versions i
    at true later e = let same : file.1 ≡ i = cc e in subst (IsImage versions) same known.0
    at false later e = later e

default_image : (files : Files) (n : List ℕ) (o : Option ℕ) → ((i : ℕ) → first_image files n ≡ Some i → IsImage files.versions i) →
    GivesImage files (default_for files n o)
default_image files n (Some a) known = λ i is. cc is
default_image files n None known = at (first_image files n) known
  where
    at : (found : Option ℕ) → ((i : ℕ) → found ≡ Some i → IsImage files.versions i) → GivesImage files (found_image found)
    at None there i is = cc is
    at (Some j) there i is = let same : j ≡ i = cc is in there i (ap Some same)

-- An image that a step of a bind is given is there.
pub asked_image : (files : Files) (journal : List Entry) (step : AskStep) (c : ℕ) (n : List ℕ) → KnowsImages files journal →
    GivesImage files (reply_to_ask files journal step c n)
asked_image files journal steps.Load c n knows =
    last_image files journal n None (rules_for journal steps.Load c n) (λ i is. cc is) (rules_images files journal steps.Load c n knows.each)
asked_image files journal steps.Default c n knows =
    default_image files n (binding journal 0 n) (file_image files.versions n files.app knows.numbered.each)
asked_image files journal steps.Resolving c n knows =
    found_first files journal n (rules_for journal steps.Resolving c n) (rules_images files journal steps.Resolving c n knows.each)
asked_image files journal steps.Resolve c n knows =
    found_first files journal n (rules_for journal steps.Resolve c n) (rules_images files journal steps.Resolve c n knows.each)
