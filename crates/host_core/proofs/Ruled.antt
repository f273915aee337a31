-- What the rules answer that were set.
use Rattle.std.proofs.Common.{◌≡◌, ℕ, Bool, true, false, ◌&&◌, cond, eqb, List, Option, Some, None, refl, sym, ap}
use Rattle.cli_words.specs.Text.{are_alike}
use Rattle.probing.specs.declared.rules.RulePlace.TheVariants as places
use Rattle.probing.specs.Rules.{answers, is_for}
use Rattle.host_events.specs.declared.event.AskStep.TheVariants as steps
use Rattle.host_events.specs.declared.event.Event.{Event}
use Rattle.host_events.specs.declared.event.Event.TheVariants as events
use Rattle.host_events.specs.declared.event.RuleAt.TheVariants as ats
use Rattle.host_events.specs.declared.journal.Entry.{Entry}
use Rattle.host_events.specs.declared.reply.Reply.{Reply}
use Rattle.host_events.specs.Rules.{answer_set, rule_by, rules_for, set_context}
use Rattle.host_events.specs.Files.{Files}
use Rattle.host_events.specs.Journal.{IsLegal}
use Rattle.host_events.specs.Reply.{IsReply}
use Rattle.host_core.specs.Tables.{rule_in, rule_set, rules_of}
use Rattle.host_core.proofs.Picked.{kept, filter_map-kept, none_either}

both : {X : Type 0} (a b : Bool) (x : X) → cond (a && b) (Some x) None ≡ cond a (cond b (Some x) None) None
both true b x = refl
both false b x = refl

at_load : (c d : ℕ) (n : List ℕ) (event : Event) →
    kept (is_for (places.Load c) n) (λ rule. rule.answer) (rule_in d event) ≡ cond (eqb d c) (answer_set steps.Load n event) None
at_load c d n (events.New name kind) = none_either (eqb d c)
at_load c d n (events.Rule (ats.On place) name answer) = both (eqb d c) (are_alike name n) answer
at_load c d n (events.Rule (ats.Resolving place) name answer) = none_either (eqb d c)
at_load c d n (events.Rule ats.Resolve name answer) = none_either (eqb d c)
at_load c d n (events.Enter name) = none_either (eqb d c)
at_load c d n (events.EnterHandle handle) = none_either (eqb d c)
at_load c d n (events.Lookup context name version) = none_either (eqb d c)
at_load c d n (events.Ask step context name) = none_either (eqb d c)
at_load c d n (events.Publish context name candidate) = none_either (eqb d c)
at_load c d n (events.Place user key) = none_either (eqb d c)
at_load c d n (events.LoadStatic key field kind) = none_either (eqb d c)
at_load c d n (events.StoreStatic key field value) = none_either (eqb d c)
at_load c d n (events.Hold handle assembly method) = none_either (eqb d c)
at_load c d n (events.DropHandle handle) = none_either (eqb d c)
at_load c d n (events.Weak handle name) = none_either (eqb d c)
at_load c d n (events.Alive handle) = none_either (eqb d c)
at_load c d n (events.Unload name) = none_either (eqb d c)
at_load c d n events.Collect = none_either (eqb d c)
at_load c d n (events.Leave operation) = none_either (eqb d c)

at_resolving : (c d : ℕ) (n : List ℕ) (event : Event) →
    kept (is_for (places.Resolving c) n) (λ rule. rule.answer) (rule_in d event) ≡ cond (eqb d c) (answer_set steps.Resolving n event) None
at_resolving c d n (events.New name kind) = none_either (eqb d c)
at_resolving c d n (events.Rule (ats.On place) name answer) = none_either (eqb d c)
at_resolving c d n (events.Rule (ats.Resolving place) name answer) = both (eqb d c) (are_alike name n) answer
at_resolving c d n (events.Rule ats.Resolve name answer) = none_either (eqb d c)
at_resolving c d n (events.Enter name) = none_either (eqb d c)
at_resolving c d n (events.EnterHandle handle) = none_either (eqb d c)
at_resolving c d n (events.Lookup context name version) = none_either (eqb d c)
at_resolving c d n (events.Ask step context name) = none_either (eqb d c)
at_resolving c d n (events.Publish context name candidate) = none_either (eqb d c)
at_resolving c d n (events.Place user key) = none_either (eqb d c)
at_resolving c d n (events.LoadStatic key field kind) = none_either (eqb d c)
at_resolving c d n (events.StoreStatic key field value) = none_either (eqb d c)
at_resolving c d n (events.Hold handle assembly method) = none_either (eqb d c)
at_resolving c d n (events.DropHandle handle) = none_either (eqb d c)
at_resolving c d n (events.Weak handle name) = none_either (eqb d c)
at_resolving c d n (events.Alive handle) = none_either (eqb d c)
at_resolving c d n (events.Unload name) = none_either (eqb d c)
at_resolving c d n events.Collect = none_either (eqb d c)
at_resolving c d n (events.Leave operation) = none_either (eqb d c)

load_each : (c : ℕ) (n : List ℕ) (event : Event) (o : Option ℕ) (reply : Reply) → set_context reply ≡ o →
    kept (is_for (places.Load c) n) (λ rule. rule.answer) (rule_set event (set_context reply)) ≡ rule_by steps.Load c n event reply
load_each c n event None reply is = cc
load_each c n event (Some d) reply is = cc (is, at_load c d n event)

pub rules-load : (journal : List Entry) (c : ℕ) (n : List ℕ) → answers (places.Load c) n (rules_of journal) ≡ rules_for journal steps.Load c n
rules-load journal c n =
    filter_map-kept (λ (e : Entry). rule_set e.event (set_context e.reply)) (is_for (places.Load c) n) (λ rule. rule.answer)
    (λ e. rule_by steps.Load c n e.event e.reply) journal (λ before e after is. load_each c n e.event (set_context e.reply) e.reply refl)

resolving_each : (c : ℕ) (n : List ℕ) (event : Event) (o : Option ℕ) (reply : Reply) → set_context reply ≡ o →
    kept (is_for (places.Resolving c) n) (λ rule. rule.answer) (rule_set event (set_context reply)) ≡ rule_by steps.Resolving c n event reply
resolving_each c n event None reply is = cc
resolving_each c n event (Some d) reply is = cc (is, at_resolving c d n event)

pub rules-resolving : (journal : List Entry) (c : ℕ) (n : List ℕ) →
    answers (places.Resolving c) n (rules_of journal) ≡ rules_for journal steps.Resolving c n
rules-resolving journal c n =
    filter_map-kept (λ (e : Entry). rule_set e.event (set_context e.reply)) (is_for (places.Resolving c) n) (λ rule. rule.answer)
    (λ e. rule_by steps.Resolving c n e.event e.reply) journal (λ before e after is. resolving_each c n e.event (set_context e.reply) e.reply refl)

-- rules of AssemblyResolve are set in context 0
at_resolve : (files : Files) (journal : List Entry) (d : ℕ) (n : List ℕ) (event : Event) (reply : Reply) → IsReply files journal event reply → set_context reply ≡ Some d →
    kept (is_for places.Resolve n) (λ rule. rule.answer) (rule_in d event) ≡ cond (eqb d 0) (answer_set steps.Resolve n event) None
at_resolve files journal d n (events.New name kind) reply is set = none_either (eqb d 0)
at_resolve files journal d n (events.Rule (ats.On place) name answer) reply is set = none_either (eqb d 0)
at_resolve files journal d n (events.Rule (ats.Resolving place) name answer) reply is set = none_either (eqb d 0)
at_resolve files journal d n (events.Rule ats.Resolve name answer) reply is set =
    let here : set_context reply ≡ Some 0 = ap set_context is in
    let zero : d ≡ 0 = cc in
    ap (λ (k : ℕ). cond (eqb k 0) (cond (are_alike name n) (Some answer) None) None) (sym zero)
at_resolve files journal d n (events.Enter name) reply is set = none_either (eqb d 0)
at_resolve files journal d n (events.EnterHandle handle) reply is set = none_either (eqb d 0)
at_resolve files journal d n (events.Lookup context name version) reply is set = none_either (eqb d 0)
at_resolve files journal d n (events.Ask step context name) reply is set = none_either (eqb d 0)
at_resolve files journal d n (events.Publish context name candidate) reply is set = none_either (eqb d 0)
at_resolve files journal d n (events.Place user key) reply is set = none_either (eqb d 0)
at_resolve files journal d n (events.LoadStatic key field kind) reply is set = none_either (eqb d 0)
at_resolve files journal d n (events.StoreStatic key field value) reply is set = none_either (eqb d 0)
at_resolve files journal d n (events.Hold handle assembly method) reply is set = none_either (eqb d 0)
at_resolve files journal d n (events.DropHandle handle) reply is set = none_either (eqb d 0)
at_resolve files journal d n (events.Weak handle name) reply is set = none_either (eqb d 0)
at_resolve files journal d n (events.Alive handle) reply is set = none_either (eqb d 0)
at_resolve files journal d n (events.Unload name) reply is set = none_either (eqb d 0)
at_resolve files journal d n events.Collect reply is set = none_either (eqb d 0)
at_resolve files journal d n (events.Leave operation) reply is set = none_either (eqb d 0)

resolve_each : (files : Files) (journal : List Entry) (n : List ℕ) (event : Event) (o : Option ℕ) (reply : Reply) →
    IsReply files journal event reply → set_context reply ≡ o →
    kept (is_for places.Resolve n) (λ rule. rule.answer) (rule_set event (set_context reply)) ≡ rule_by steps.Resolve 0 n event reply
resolve_each files journal n event None reply is set = cc
resolve_each files journal n event (Some d) reply is set = cc (set, at_resolve files journal d n event reply is set)

pub rules-resolve : (files : Files) (journal : List Entry) (c : ℕ) (n : List ℕ) → IsLegal files journal →
    answers places.Resolve n (rules_of journal) ≡ rules_for journal steps.Resolve c n
rules-resolve files journal c n legal =
    filter_map-kept (λ (e : Entry). rule_set e.event (set_context e.reply)) (is_for places.Resolve n) (λ rule. rule.answer)
    (λ e. rule_by steps.Resolve 0 n e.event e.reply) journal
    (λ before e after is. resolve_each files before n e.event (set_context e.reply) e.reply (legal before e after is) refl)
