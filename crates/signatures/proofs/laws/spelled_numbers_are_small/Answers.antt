use Rattle.signatures.proofs.Numbered.{parts-numbered, types-numbered, method-numbered}
use Rattle.signatures.proofs.laws.spelled_numbers_are_small.Goals as goal

pub returns : goal.returns
returns c = record {
  fields = λ sig bytes h. parts-numbered sig h.0 h.1.1;
  methods = method-numbered;
  locals = λ sigs bytes h. types-numbered sigs h.1 h.3;
  types = λ sig bytes h. parts-numbered sig bytes h.1;
}
