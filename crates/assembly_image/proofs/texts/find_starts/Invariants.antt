use Rattle.std.proofs.Common.{◌≡◌, ◌-◌, length, drop}
use Rattle.cli_words.specs.Span.{zero_after}
use Rattle.assembly_image.specs.Texts.{AreStartsFrom, near}
use Rattle.assembly_image.proofs.texts.find_starts.Given as goal

abbrev pub invariant-loop-after : goal.invariant-loop-after
invariant-loop-after l = record {
  found : AreStartsFrom l.heap l.starts.items (length l.heap - l.after);
  zero : l.len ≡ near (zero_after (drop (length l.heap - l.after) l.heap));
}
