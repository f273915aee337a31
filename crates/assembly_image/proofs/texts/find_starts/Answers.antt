use Rattle.std.proofs.Common.{◌≡◌, ◌-◌, ℕ, length, drop, sym, ap, ◌∙◌, arith}
use Rattle.cli_words.specs.Span.{zero_after}
use Rattle.assembly_image.specs.Texts.{near}
use Rattle.assembly_image.proofs.TextStarts.{near_end, near_at, starts_at}
use Rattle.assembly_image.proofs.texts.find_starts.Goals as goal

pub loop-after-init : goal.loop-after-init
loop-after-init c =
    let heap = c.args.heap.now in
    let long = c.in_ok-starts.ensures.len in
    let end : length c.args.heap.now ≡ length c.args.heap.now - 0 = omega arith in
    record {
      found = record { long = omega arith; each = λ k from below d. absurd (omega arith) };
      zero = sym (near_end heap) ∙ ap (λ (n : ℕ). near (zero_after (drop n heap))) end;
    }

pub loop-after-preserved : goal.loop-after-preserved
loop-after-preserved c = record {
  found = starts_at c.args.heap.now _ _ _ (omega arith) (omega arith) (omega arith) _ _
      c.loop-after.invariant.found c.begins_text-begins.ensures;
  zero = near_at c.args.heap.now (length c.args.heap.now - 1 - c.loop-after.after) _ _
      (omega arith) (omega arith) (omega arith) _ _ c.loop-after.invariant.zero c.nearer-len.ensures;
}
