use Rattle.std.proofs.Common.{ℕ, subst, sym, ◌≤◌, length}
use Rattle.std.specs.Prelude.{◌==◌}
use Rattle.host_report.proofs.FieldReadingLemmas.{place_is, place_within}
use Rattle.host_report.proofs.words.place_of.Goals as goal

pub returns : goal.returns
returns c =
    let test = λ (other : ℕ). other == c.args.byte in
    let place = place_is test c.args.rest.now c.first_such.result c.unwrap_or.result c.first_such.ensures c.unwrap_or.ensures in
    record {
      place = place;
      within = subst (λ n. n ≤ length c.args.rest.now) (sym place) (place_within test c.args.rest.now);
    }
