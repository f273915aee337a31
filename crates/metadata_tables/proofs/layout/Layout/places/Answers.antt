use Rattle.std.proofs.Common.{◌≡◌, ◌*◌, ◌^◌, ◌≤◌, sym, refl, ◌∙◌, arith}
use Rattle.std.proofs.Math.Nat.{mul-le-mul}
use Rattle.std.proofs.Math.ListN.{length-set}
use Rattle.metadata_tables.specs.Layout.{table_size_of}
use Rattle.metadata_tables.specs.Places.{IsPlaced}
use Rattle.metadata_tables.proofs.LayoutLemmas.{holds_next, table_next, table_first}
use Rattle.metadata_tables.proofs.layout.Layout.places.Goals as goal

pub loop-table-init : goal.loop-table-init
loop-table-init c = record {
  placed = λ t h d. absurd (omega arith);
  end = sym (table_first c.args.self.now);
  small = omega arith;
  long = refl;
}

pub loop-table-preserved : goal.loop-table-preserved
loop-table-preserved c =
    let layout = c.args.self.now in
    let table = c.loop-table.table in
    let count = c.count.result in
    let row = c.table_place-place.result.row_size in
    let next = table_next layout table in
    let long = c.table_place-place.ensures.placed.row_size in
    let size : count * row ≡ table_size_of layout table = cc in
    let most : count * row ≤ 2 ^ 32 * 36 =
    mul-le-mul {n₁ = count} {m₁ = row} {n₂ = 2 ^ 32} {m₂ = 36} (omega arith) (omega arith) in
    record {
      placed = λ t h d. holds_next (IsPlaced layout) _ table _ _ d
          (λ k below. c.loop-table.invariant.placed k below d) c.from.ensures (omega arith)
          c.table_place-place.ensures.placed t h;
      end = cc (next, size);
      small = omega arith;
      long = length-set _ _ _ ∙ c.loop-table.invariant.long;
    }
