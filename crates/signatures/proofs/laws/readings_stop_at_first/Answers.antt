use Rattle.signatures.proofs.Readers.{field-reader, method-reader, locals-reader, type-reader, stops-at-first}
use Rattle.signatures.proofs.laws.readings_stop_at_first.Goals as goal

pub returns : goal.returns
returns c = record {
  fields = stops-at-first field-reader;
  methods = stops-at-first method-reader;
  locals = stops-at-first locals-reader;
  types = stops-at-first type-reader;
}
