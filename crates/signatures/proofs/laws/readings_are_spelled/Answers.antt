use Rattle.signatures.proofs.Readers.{field-reader, method-reader, locals-reader, type-reader, reads-as-spelled}
use Rattle.signatures.proofs.laws.readings_are_spelled.Goals as goal

pub returns : goal.returns
returns c = record {
  fields = reads-as-spelled field-reader;
  methods = reads-as-spelled method-reader;
  locals = reads-as-spelled locals-reader;
  types = reads-as-spelled type-reader;
}
