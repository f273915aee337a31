use Rattle.std.specs.Prelude.{codes}
use Rattle.host_report.proofs.EventReadingLemmas.{event_at, event_other}
use Rattle.host_report.proofs.event_reading.event.Goals as goal

pub returns-in-new : goal.returns-in-new
returns-in-new c =
    rw (event_at c.args.rest.now c.in_ok-verb.verb.now c.in_ok-verb.rest.now (codes "new") c.in_ok-verb.ensures c.in-new.is) c.new.ensures

pub returns-in-on : goal.returns-in-on
returns-in-on c =
    rw (event_at c.args.rest.now c.in_ok-verb.verb.now c.in_ok-verb.rest.now (codes "on") c.in_ok-verb.ensures c.in-on.is) c.on.ensures

pub returns-in-resolving : goal.returns-in-resolving
returns-in-resolving c =
    rw (event_at c.args.rest.now c.in_ok-verb.verb.now c.in_ok-verb.rest.now (codes "resolving") c.in_ok-verb.ensures c.in-resolving.is) c.resolving.ensures

pub returns-in-resolve : goal.returns-in-resolve
returns-in-resolve c =
    rw (event_at c.args.rest.now c.in_ok-verb.verb.now c.in_ok-verb.rest.now (codes "resolve") c.in_ok-verb.ensures c.in-resolve.is) c.rule.ensures

pub returns-in-lookup : goal.returns-in-lookup
returns-in-lookup c =
    rw (event_at c.args.rest.now c.in_ok-verb.verb.now c.in_ok-verb.rest.now (codes "lookup") c.in_ok-verb.ensures c.in-lookup.is) c.lookup.ensures

pub returns-in-ask : goal.returns-in-ask
returns-in-ask c =
    rw (event_at c.args.rest.now c.in_ok-verb.verb.now c.in_ok-verb.rest.now (codes "ask") c.in_ok-verb.ensures c.in-ask.is) c.ask.ensures

pub returns-in-publish : goal.returns-in-publish
returns-in-publish c =
    rw (event_at c.args.rest.now c.in_ok-verb.verb.now c.in_ok-verb.rest.now (codes "publish") c.in_ok-verb.ensures c.in-publish.is) c.publish.ensures

pub returns-in-place : goal.returns-in-place
returns-in-place c =
    rw (event_at c.args.rest.now c.in_ok-verb.verb.now c.in_ok-verb.rest.now (codes "place") c.in_ok-verb.ensures c.in-place.is) c.place.ensures

pub returns-in-text : goal.returns-in-text
returns-in-text c =
    rw (event_at c.args.rest.now c.in_ok-verb.verb.now c.in_ok-verb.rest.now (codes "load-static") c.in_ok-verb.ensures c.in-text.is) c.load.ensures

pub returns-in-text-2 : goal.returns-in-text-2
returns-in-text-2 c =
    rw (event_at c.args.rest.now c.in_ok-verb.verb.now c.in_ok-verb.rest.now (codes "store-static") c.in_ok-verb.ensures c.in-text-2.is) c.store.ensures

pub returns-in-hold : goal.returns-in-hold
returns-in-hold c =
    rw (event_at c.args.rest.now c.in_ok-verb.verb.now c.in_ok-verb.rest.now (codes "hold") c.in_ok-verb.ensures c.in-hold.is) c.hold.ensures

pub returns-in-weak : goal.returns-in-weak
returns-in-weak c =
    rw (event_at c.args.rest.now c.in_ok-verb.verb.now c.in_ok-verb.rest.now (codes "weak") c.in_ok-verb.ensures c.in-weak.is) c.weak.ensures

pub returns-in-collect : goal.returns-in-collect
returns-in-collect c =
    event_at c.args.rest.now c.in_ok-verb.verb.now c.in_ok-verb.rest.now (codes "collect") c.in_ok-verb.ensures c.in-collect.is

pub returns-in-leave : goal.returns-in-leave
returns-in-leave c =
    rw (event_at c.args.rest.now c.in_ok-verb.verb.now c.in_ok-verb.rest.now (codes "leave") c.in_ok-verb.ensures c.in-leave.is) c.leave.ensures

pub returns-in_default : goal.returns-in_default
returns-in_default c =
    rw (event_other c.args.rest.now c.in_ok-verb.verb.now c.in_ok-verb.rest.now c.in_ok-verb.ensures
    c.in_default.not-new c.in_default.not-on c.in_default.not-resolving c.in_default.not-resolve c.in_default.not-lookup c.in_default.not-ask c.in_default.not-publish
    c.in_default.not-place c.in_default.not-text c.in_default.not-text-2 c.in_default.not-hold c.in_default.not-weak c.in_default.not-collect c.in_default.not-leave) c.of_name.ensures
