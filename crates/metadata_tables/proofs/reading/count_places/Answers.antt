use Rattle.std.proofs.Common.{◌≡◌, ◌+◌, refl, sym, ◌∙◌, subst, get_or, arith}
use Rattle.std.specs.Prelude.{replicate}
use Rattle.std.proofs.Math.ListN.{length-set}
use Rattle.metadata_tables.specs.Layout.{is_set}
use Rattle.metadata_tables.specs.Reading.{count_at}
use Rattle.metadata_tables.proofs.LayoutLemmas.{filled_next}
use Rattle.metadata_tables.proofs.ReadingLemmas.{count_next, count_near, count_first, at_most_one}
use Rattle.metadata_tables.proofs.reading.count_places.Goals as goal

pub loop-table-init : goal.loop-table-init
loop-table-init c =
    let bytes = c.args.bytes.now in
    let at = c.args.at in
    record {
      filled = λ k h.
          let z : 0 ≡ k = omega arith in
          subst (λ j. get_or (replicate 65 (at + 24)) j 0 ≡ count_at bytes at j) z
          (sym (count_first bytes at));
      long = refl;
    }

pub overflow_add-places-in-loop-table : goal.overflow_add-places-in-loop-table
overflow_add-places-in-loop-table c =
    let near = count_near c.args.bytes.now c.args.at c.from-index.result (omega arith) in
    let here = c.loop-table.invariant.filled c.from-index.result (omega arith) in
    let one = at_most_one (is_set c.valid-valid.result c.loop-table.table) in
    omega arith

pub loop-table-preserved : goal.loop-table-preserved
loop-table-preserved c =
    let next = count_next c.args.bytes.now c.args.at c.loop-table.table in
    let here = c.loop-table.invariant.filled c.from-index.result (omega arith) in
    record {
      filled = filled_next (count_at c.args.bytes.now c.args.at) _ (c.loop-table.table + 1) _ _
          c.loop-table.invariant.filled (omega arith) (omega arith) (cc (next, here));
      long = length-set _ _ _ ∙ c.loop-table.invariant.long;
    }
