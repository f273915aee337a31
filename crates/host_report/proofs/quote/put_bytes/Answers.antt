use Rattle.std.proofs.Common.{◌≡◌, [], length, refl, arith, rules}
use Rattle.std.proofs.lemmas.Bool.Decides.{nat_tests}
use Rattle.std.specs.List.{flat_map}
use Rattle.host_report.specs.Quote.{byte_text}
use Rattle.host_report.proofs.LineLemmas.{puts_none}
use Rattle.host_report.proofs.QuoteLemmas.{puts_ended}
use Rattle.host_report.proofs.PlainTexts.{bytes_next}
use Rattle.host_report.proofs.quote.put_bytes.Goals as goal

pub loop-rest-init : goal.loop-rest-init
loop-rest-init g c = ([], refl, puts_none)

pub loop-rest-preserved : goal.loop-rest-preserved
loop-rest-preserved g c = bytes_next c.put_front-taken.result c.args.bytes.now c.loop-rest.rest.now c.loop-rest.invariant c.put_front-taken.ensures.puts

pub returns : goal.returns
returns g c =
    let none : length c.loop-rest.rest.now ≡ 0 = first_of (omega arith, grind (arith, nat_tests), search rules) in
    puts_ended (flat_map byte_text) c.args.bytes.now c.loop-rest.rest.now refl none c.loop-rest.invariant
