use Rattle.std.proofs.Common.{◌≡◌, [], length, refl, arith, rules}
use Rattle.std.proofs.lemmas.Bool.Decides.{nat_tests}
use Rattle.host_report.specs.Quote.{units_text}
use Rattle.host_report.proofs.LineLemmas.{puts_none}
use Rattle.host_report.proofs.QuoteLemmas.{puts_ended, puts_first}
use Rattle.host_report.proofs.quote.put_units.Goals as goal

pub loop-rest-init : goal.loop-rest-init
loop-rest-init g c = ([], refl, puts_none)

pub loop-rest-preserved : goal.loop-rest-preserved
loop-rest-preserved g c = puts_first c.args.units.now c.loop-rest.rest.now c.loop-rest.invariant c.put_first-taken.ensures.puts c.put_first-taken.ensures.taken

pub returns : goal.returns
returns g c =
    let none : length c.loop-rest.rest.now ≡ 0 = first_of (omega arith, grind (arith, nat_tests), search rules) in
    puts_ended units_text c.args.units.now c.loop-rest.rest.now refl none c.loop-rest.invariant
