use Rattle.std.proofs.Common.{arith}
use Rattle.host_core.specs.Allowed.{makes_context_by, makes_handle_by, sets_rule_by}
use Rattle.alc_program.specs.Shares.{asks_for}
use Rattle.alc_program.proofs.RunLemmas.{count_more, counted, events_more, fits_events, fits_more}
use Rattle.alc_program.proofs.run.share_of.Goals as goal

pub overflow_add-events : goal.overflow_add-events
overflow_add-events c =
    omega (
      arith,
      fits_events c.args.commands.now c.loop-line.line-index c.line-item.result c.loop-line.events c.most_events-events.result
          c.loop-line-test.true c.requires c.loop-line.invariant.events c.most_events-events.ensures,
    )

pub overflow_add-contexts : goal.overflow_add-contexts
overflow_add-contexts c =
    let lt = c.loop-line-test.true in
    omega (
      arith,
      fits_more makes_context_by c.args.commands.now c.loop-line.line-index c.line-item.result c.loop-line.contexts c.one_if-contexts.result
          lt c.requires c.loop-line.invariant.contexts (counted (asks_for makes_context_by c.line-item.result.command) c.makes_context.result c.one_if-contexts.result c.makes_context.ensures c.one_if-contexts.ensures),
    )

pub overflow_add-handles : goal.overflow_add-handles
overflow_add-handles c =
    let lt = c.loop-line-test.true in
    omega (
      arith,
      fits_more makes_handle_by c.args.commands.now c.loop-line.line-index c.line-item.result c.loop-line.handles c.one_if-handles.result
          lt c.requires c.loop-line.invariant.handles (counted (asks_for makes_handle_by c.line-item.result.command) c.makes_handle.result c.one_if-handles.result c.makes_handle.ensures c.one_if-handles.ensures),
    )

pub overflow_add-rules : goal.overflow_add-rules
overflow_add-rules c =
    let lt = c.loop-line-test.true in
    omega (
      arith,
      fits_more sets_rule_by c.args.commands.now c.loop-line.line-index c.line-item.result c.loop-line.rules c.one_if-rules.result
          lt c.requires c.loop-line.invariant.rules (counted (asks_for sets_rule_by c.line-item.result.command) c.sets_rule.result c.one_if-rules.result c.sets_rule.ensures c.one_if-rules.ensures),
    )

pub loop-line-preserved : goal.loop-line-preserved
loop-line-preserved c = record {
  events = events_more c.args.commands.now c.loop-line.line-index c.line-item.result c.loop-line.events c.most_events-events.result
      c.loop-line-test.true c.line-item.is c.loop-line.invariant.events c.most_events-events.ensures;
  contexts = count_more makes_context_by c.args.commands.now c.loop-line.line-index c.line-item.result c.loop-line.contexts c.one_if-contexts.result
      c.loop-line-test.true c.line-item.is c.loop-line.invariant.contexts (counted (asks_for makes_context_by c.line-item.result.command) c.makes_context.result c.one_if-contexts.result c.makes_context.ensures c.one_if-contexts.ensures);
  handles = count_more makes_handle_by c.args.commands.now c.loop-line.line-index c.line-item.result c.loop-line.handles c.one_if-handles.result
      c.loop-line-test.true c.line-item.is c.loop-line.invariant.handles (counted (asks_for makes_handle_by c.line-item.result.command) c.makes_handle.result c.one_if-handles.result c.makes_handle.ensures c.one_if-handles.ensures);
  rules = count_more sets_rule_by c.args.commands.now c.loop-line.line-index c.line-item.result c.loop-line.rules c.one_if-rules.result
      c.loop-line-test.true c.line-item.is c.loop-line.invariant.rules (counted (asks_for sets_rule_by c.line-item.result.command) c.sets_rule.result c.one_if-rules.result c.sets_rule.ensures c.one_if-rules.ensures);
}
