use Rattle.host_report.proofs.TextReadingLemmas.{within_on}
use Rattle.host_report.proofs.text_reading.within.Goals as goal

pub loop-rest-preserved : goal.loop-rest-preserved
loop-rest-preserved c =
    within_on c.args.text.now c.loop-rest.rest.now c.loop-rest.units.items c.push_code.new.units.items c.in_ok-code.code c.in_ok-code.length c.loop-rest.invariant c.if-rest-eq34.false c.in_ok-code.ensures.read c.in_ok-code.ensures.within.1 c.in_ok-push_code.ensures
