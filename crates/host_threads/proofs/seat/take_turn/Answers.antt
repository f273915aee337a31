use Rattle.std.proofs.Common.{◌∙◌}
use Rattle.host_threads.proofs.OwnSteps.{IfGoesOn-always, longer_after}
use Rattle.host_threads.proofs.seat.take_turn.Goals as goal

pub returns-in-OutOfMemory-clause-others : goal.returns-in-OutOfMemory-clause-others
returns-in-OutOfMemory-clause-others g c = λ other differs.
    c.leave.ensures.others other differs ∙ c.ask.ensures.others other differs

pub returns-in_default-next : goal.returns-in_default-next
returns-in_default-next g c = record {
  fixed = c.ask.ensures.fixed;
  plan = c.ask.ensures.plan;
  allowed = c.ask.ensures.suits.allowed;
  own = IfGoesOn-always c.ask.result _ c.ask.ensures.suits.own;
  entry = IfGoesOn-always c.ask.result _ c.ask.ensures.entry;
  others = c.ask.ensures.others;
  longer = longer_after _ _ c.ask.ensures.entry.0 c.ask.ensures.entry.2;
  stand = c.ask.ensures.stand;
  gives = c.ask.ensures.gives;
}
