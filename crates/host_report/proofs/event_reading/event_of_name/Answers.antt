use Rattle.std.proofs.Common.{ℕ, List, ap, refl}
use Rattle.std.specs.Prelude.{codes}
use Rattle.host_report.specs.EventReading.{event_of_name}
use Rattle.host_report.proofs.KeywordLemmas.{not_word}
use Rattle.host_report.proofs.event_reading.event_of_name.Goals as goal

pub returns-in-enter : goal.returns-in-enter
returns-in-enter c = ap (λ (verb : List ℕ). event_of_name verb c.args.name) c.in-enter.is

pub returns-in-text : goal.returns-in-text
returns-in-text c = ap (λ (verb : List ℕ). event_of_name verb c.args.name) c.in-text.is

pub returns-in-drop : goal.returns-in-drop
returns-in-drop c = ap (λ (verb : List ℕ). event_of_name verb c.args.name) c.in-drop.is

pub returns-in-alive : goal.returns-in-alive
returns-in-alive c = ap (λ (verb : List ℕ). event_of_name verb c.args.name) c.in-alive.is

pub returns-in-unload : goal.returns-in-unload
returns-in-unload c = ap (λ (verb : List ℕ). event_of_name verb c.args.name) c.in-unload.is

pub returns-in_default : goal.returns-in_default
returns-in_default c =
    rw (
      not_word c.args.verb.now (codes "enter") c.in_default.not-enter,
      not_word c.args.verb.now (codes "enter-handle") c.in_default.not-text,
      not_word c.args.verb.now (codes "drop") c.in_default.not-drop,
      not_word c.args.verb.now (codes "alive") c.in_default.not-alive,
      not_word c.args.verb.now (codes "unload") c.in_default.not-unload,
    ) refl
