use Rattle.std.proofs.Common.{◌∙◌, List, Vec, Global, refl, sym, subst, ap}
use Rattle.host_events.specs.declared.outcome.CommandEnd.{CommandEnd}
use Rattle.command_flow.specs.Flow.{IsEnd}
use Rattle.command_flow.specs.State.{Running}
use Rattle.command_flow.proofs.FlowLemmas.{ended-all}
use Rattle.command_flow.proofs.run.Run.end.Goals as goal

pub returns : goal.returns
returns c =
    let now = c.args.self.now in record {
      kept = ap (λ (run : Running). run.plan) c.self.view_is;
      told = ap (λ (run : Running). run.trace) c.self.view_is;
      stands = refl;
      gives = subst (λ (ends : List CommandEnd). IsEnd now.plan now.trace ends)
          (ap (λ (run : Running). run.ends) (sym c.self.view_is) ∙ ap (λ (v : Vec CommandEnd Global). v.items) (sym c.replace-ends.ensures.value) ∙ sym c.of.ensures)
          (ended-all now.plan now.trace now.ends c.requires.can c.requires.all);
    }
