use Rattle.std.proofs.Common.{◌≡◌}
use Rattle.host_script.specs.Text.{end_place, units_from}
use Rattle.host_script.specs.declared.text.TextPlace.TheVariants.{Opening}
use Rattle.host_script.proofs.text.read_to_end.Given as goal

abbrev pub invariant-loop-character : goal.invariant-loop-character
invariant-loop-character l = record {
  place : l.place ≡ end_place Opening l.yielded;
  units : l.units.items ≡ units_from Opening l.yielded;
}
