-- Events that change no table.
use Rattle.std.proofs.Common.{◌≡◌, ℕ, List, append-nil, refl, sym, arith}
use Rattle.std.specs.Prelude.{Option}
use Rattle.host_events.specs.declared.event.Candidate.{Candidate}
use Rattle.host_events.specs.declared.event.ContextKind.{ContextKind}
use Rattle.host_events.specs.declared.event.Event.{Event}
use Rattle.host_events.specs.declared.event.Event.TheVariants as events
use Rattle.host_events.specs.declared.event.RuleAnswer.{RuleAnswer}
use Rattle.host_events.specs.declared.event.RuleAt.{RuleAt}
use Rattle.host_events.specs.declared.reply.Reply.{Reply}
use Rattle.host_core.specs.declared.tables.Tables.{Tables}
use Rattle.host_core.specs.After.{HaveFollowed}

pub followed_other : {C : Type 0} (tables : Tables C) (event : Event) (code : Option C) (reply : Reply) →
    ((name : List ℕ) (kind : ContextKind) → event ≡ events.New name kind → ⊥) →
    ((place : RuleAt) (name : List ℕ) (answer : RuleAnswer) → event ≡ events.Rule place name answer → ⊥) →
    ((name : List ℕ) → event ≡ events.Enter name → ⊥) →
    ((context : ℕ) (name : List ℕ) (candidate : Candidate) → event ≡ events.Publish context name candidate → ⊥) →
    ((name : List ℕ) → event ≡ events.Unload name → ⊥) →
    (event ≡ events.Collect → ⊥) →
    HaveFollowed tables tables event code reply
followed_other tables (events.New name kind) code reply new rule enter publish unload collect = absurd (new name kind refl)
followed_other tables (events.Rule place name answer) code reply new rule enter publish unload collect = absurd (rule place name answer refl)
followed_other tables (events.Enter name) code reply new rule enter publish unload collect = absurd (enter name refl)
followed_other tables (events.Publish context name candidate) code reply new rule enter publish unload collect = absurd (publish context name candidate refl)
followed_other tables (events.Unload name) code reply new rule enter publish unload collect = absurd (unload name refl)
followed_other tables events.Collect code reply new rule enter publish unload collect = absurd (collect refl)
followed_other tables event code reply new rule enter publish unload collect = record {
  contexts = refl;
  rules = refl;
  bindings = refl;
  codes = sym (append-nil tables.codes.items);
  capacity = omega arith;
  made = refl;
  begun = refl;
}
