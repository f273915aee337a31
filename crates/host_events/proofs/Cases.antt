-- The replies that each event can have, taken apart: what holds of each of them holds of the reply.
use Rattle.std.proofs.Common.{ℕ, Bool, true, false, not, ◌&&◌, cond, List, [], ◌∷◌, map, ◌+◌, Option, Some, None, ◌≡◌, refl, sym, subst}
use Rattle.std.specs.List.{find, last_or}
use Rattle.std.specs.Option.{option_map_or, option_and_then}
use Rattle.assembly_name.specs.declared.version.Version.{Version}
use Rattle.host_events.specs.declared.event.AskStep.{AskStep}
use Rattle.host_events.specs.declared.event.AskStep.TheVariants as steps
use Rattle.host_events.specs.declared.event.Candidate.{Candidate}
use Rattle.host_events.specs.declared.event.Candidate.TheVariants as candidates
use Rattle.host_events.specs.declared.event.RuleAnswer.{RuleAnswer}
use Rattle.host_events.specs.declared.event.RuleAnswer.TheVariants as answers
use Rattle.host_events.specs.declared.event.RuleAt.{RuleAt}
use Rattle.host_events.specs.declared.event.RuleAt.TheVariants as places
use Rattle.host_events.specs.declared.reply.Reply.{Reply}
use Rattle.host_events.specs.declared.reply.Reply.TheVariants as replies
use Rattle.host_events.specs.declared.journal.Entry.{Entry}
use Rattle.host_events.specs.Assemblies.{bound_count}
use Rattle.host_events.specs.Bindings.{binding, is_good}
use Rattle.host_events.specs.Files.{Files, first_image}
use Rattle.host_events.specs.Operations.{begun_count}
use Rattle.host_events.specs.Rules.{default_for, first_candidate, foreign, found_image, given_by, is_candidate, or_nothing, reply_to_ask, rules_for}
use Rattle.host_events.specs.Contexts.{made_count, is_live, is_unloaded, is_collectible, named}
use Rattle.host_events.specs.Reply.{reply_to_new, reply_to_rule_in, reply_to_rule, reply_to_weak, reply_to_alive, reply_to_unload, reply_to_enter, reply_to_lookup, reply_to_publish, is_of_collectible}

pub new-each : (P : Reply → Type 0) (journal : List Entry) (o : Option ℕ) →
    P (replies.Made (made_count journal + 1)) → ((c : ℕ) → P (replies.Exists c)) → P (reply_to_new journal o)
new-each P journal None made exists = made
new-each P journal (Some c) made exists = exists c

rule_in-each : (P : Reply → Type 0) (journal : List Entry) (o : Option ℕ) →
    P replies.NoContext → ((c : ℕ) → P (replies.Unloading c)) → ((c : ℕ) → P (replies.Set c)) → P (reply_to_rule_in journal o)
rule_in-each P journal None none unloading set = none
rule_in-each P journal (Some c) none unloading set = at (is_unloaded journal c)
  where
    at : (unloaded : Bool) → P (cond unloaded (replies.Unloading c) (replies.Set c))
    at true = unloading c
    at false = set c

pub rule-each : (P : Reply → Type 0) (journal : List Entry) (place : RuleAt) →
    P replies.NoContext → ((c : ℕ) → P (replies.Unloading c)) → ((c : ℕ) → P (replies.Set c)) → P (reply_to_rule journal place)
rule-each P journal (places.On name) none unloading set = rule_in-each P journal (named journal name) none unloading set
rule-each P journal (places.Resolving name) none unloading set = rule_in-each P journal (named journal name) none unloading set
rule-each P journal places.Resolve none unloading set = set 0

pub weak-each : (P : Reply → Type 0) (used context : Option ℕ) →
    P replies.InUse → P replies.NoContext → ((c : ℕ) → P (replies.Weakly c)) → P (reply_to_weak used context)
weak-each P (Some d) context in_use none weakly = in_use
weak-each P None None in_use none weakly = none
weak-each P None (Some c) in_use none weakly = weakly c

pub alive-each : (P : Reply → Type 0) (journal : List Entry) (o : Option ℕ) →
    P replies.NoHandle → ((c : ℕ) → P (replies.Alive c)) → ((c : ℕ) → P (replies.Gone c)) → P (reply_to_alive journal o)
alive-each P journal None none alive gone = none
alive-each P journal (Some c) none alive gone = at (is_live journal c)
  where
    at : (live : Bool) → P (cond live (replies.Alive c) (replies.Gone c))
    at true = alive c
    at false = gone c

pub unload-each : (P : Reply → Type 0) (journal : List Entry) (o : Option ℕ) →
    P replies.NoContext → ((c : ℕ) → P (replies.Fixed c)) → ((c : ℕ) → P (replies.Already c)) → ((c : ℕ) → P (replies.Unloading c)) →
    P (reply_to_unload journal o)
unload-each P journal None none fixed already unloading = none
unload-each P journal (Some c) none fixed already unloading = at (not (is_collectible journal c)) (is_unloaded journal c)
  where
    at : (stays before : Bool) → P (cond stays (replies.Fixed c) (cond before (replies.Already c) (replies.Unloading c)))
    at true before = fixed c
    at false true = already c
    at false false = unloading c

pub enter-each : (P : Reply → Type 0) (journal : List Entry) (o : Option ℕ) →
    P replies.NoContext → ((c : ℕ) → P (replies.Unloading c)) → ((c : ℕ) → P (replies.Entered (begun_count journal + 1) c)) →
    P (reply_to_enter journal o)
enter-each P journal None none unloading entered = none
enter-each P journal (Some c) none unloading entered = at (is_unloaded journal c)
  where
    at : (unloaded : Bool) → P (cond unloaded (replies.Unloading c) (replies.Entered (begun_count journal + 1) c))
    at true = unloading c
    at false = entered c

pub lookup-each : (P : Reply → Type 0) (files : Files) (journal : List Entry) (version : Version) (o : Option ℕ) →
    P replies.Miss → ((a : ℕ) → P (replies.Hit a)) → ((a : ℕ) → P (replies.Low a)) → P (reply_to_lookup files journal version o)
lookup-each P files journal version None miss hit low = miss
lookup-each P files journal version (Some a) miss hit low = at (is_good files journal a version)
  where
    at : (good : Bool) → P (cond good (replies.Hit a) (replies.Low a))
    at true = hit a
    at false = low a

pub publish-each : (P : Reply → Type 0) (journal : List Entry) (c : ℕ) (candidate : Candidate) (o : Option ℕ) →
    ((a : ℕ) → P (replies.Lost a)) → ((a : ℕ) → P (replies.NotCollectible a)) → ((a : ℕ) → P (replies.Shared a)) →
    P (replies.Bound (bound_count journal + 1)) → P (reply_to_publish journal c candidate o)
publish-each P journal c candidate (Some a) lost not_collectible shared bound = lost a
publish-each P journal c (candidates.Image image) None lost not_collectible shared bound = bound
publish-each P journal c (candidates.Assembly a) None lost not_collectible shared bound =
    at (is_of_collectible journal a && not (is_collectible journal c))
  where
    at : (kept_out : Bool) → P (cond kept_out (replies.NotCollectible a) (replies.Shared a))
    at true = not_collectible a
    at false = shared a

foreign-each : (P : Reply → Type 0) (o : Option ℕ) → P replies.Nothing → ((a : ℕ) → P (replies.Foreign a)) → P (foreign o)
foreign-each P None nothing given = nothing
foreign-each P (Some a) nothing given = given a

given-each : (P : Reply → Type 0) (journal : List Entry) (n : List ℕ) (answer : RuleAnswer) →
    P replies.Nothing → ((i : ℕ) → P (replies.Image i)) → ((a : ℕ) → P (replies.Foreign a)) → P (given_by journal n answer)
given-each P journal n (answers.Image i) nothing image given = image i
given-each P journal n (answers.Share q) nothing image given =
    foreign-each P (option_and_then (λ c. binding journal c n) (named journal q)) nothing given
given-each P journal n answers.Nothing nothing image given = nothing

pub found-each : (P : Reply → Type 0) (f : RuleAnswer → Reply) (rules : List RuleAnswer) →
    P replies.Nothing → ((answer : RuleAnswer) → P (f answer)) → P (first_candidate (map f rules))
found-each P f [] nothing each = nothing
found-each P f (rule ∷ rules) nothing each = at (is_candidate (f rule)) (found-each P f rules nothing each)
  where
    at : (b : Bool) → P (first_candidate (map f rules)) → P (or_nothing (cond b (Some (f rule)) (find is_candidate (map f rules))))
    at true later = each rule
    at false later = later

pub last-each : (P : Reply → Type 0) (f : RuleAnswer → Reply) (last : Option RuleAnswer) →
    P replies.Nothing → ((answer : RuleAnswer) → P (f answer)) → P (option_map_or f last replies.Nothing)
last-each P f None nothing each = nothing
last-each P f (Some answer) nothing each = each answer

default-each : (P : Reply → Type 0) (files : Files) (n : List ℕ) (bound found : Option ℕ) → first_image files n ≡ found →
    P replies.Nothing → ((i : ℕ) → P (replies.Image i)) → ((a : ℕ) → P (replies.Foreign a)) → P (default_for files n bound)
default-each P files n (Some a) found is nothing image given = given a
default-each P files n None None is nothing image given = subst (λ (o : Option ℕ). P (found_image o)) (sym is) nothing
default-each P files n None (Some i) is nothing image given = subst (λ (o : Option ℕ). P (found_image o)) (sym is) (image i)

-- what a step is given: nothing, an image or an assembly
pub ask-each : (P : Reply → Type 0) (files : Files) (journal : List Entry) (step : AskStep) (c : ℕ) (n : List ℕ) →
    P replies.Nothing → ((i : ℕ) → P (replies.Image i)) → ((a : ℕ) → P (replies.Foreign a)) → P (reply_to_ask files journal step c n)
ask-each P files journal steps.Load c n nothing image given =
    last-each P (given_by journal n) (last_or None (rules_for journal steps.Load c n)) nothing (λ answer. given-each P journal n answer nothing image given)
ask-each P files journal steps.Default c n nothing image given =
    default-each P files n (binding journal 0 n) (first_image files n) refl nothing image given
ask-each P files journal steps.Resolving c n nothing image given =
    found-each P (given_by journal n) (rules_for journal steps.Resolving c n) nothing (λ answer. given-each P journal n answer nothing image given)
ask-each P files journal steps.Resolve c n nothing image given =
    found-each P (given_by journal n) (rules_for journal steps.Resolve c n) nothing (λ answer. given-each P journal n answer nothing image given)
