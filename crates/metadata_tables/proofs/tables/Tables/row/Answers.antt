use Rattle.std.proofs.Common.{◌+◌, ◌∷◌, ◌++◌, [], List, ℕ, map, ap, length, sym, ◌∙◌, arith}
use Rattle.std.specs.List.{range_with_len}
use Rattle.std.proofs.lemmas.List.FromFn.{length-map-range_with_len, map-range_with_len_more}
use Rattle.metadata_tables.specs.declared.place.ColumnPlace.{ColumnPlace}
use Rattle.metadata_tables.specs.Layout.{value_of, number_of}
use Rattle.metadata_tables.proofs.tables.Tables.row.Goals as goal

pub push-requires : goal.push-requires
push-requires c =
    let value = value_of c.args.bytes.now c.args.self.now c.args.table c.in_ok-at.at in
    let long = ap length c.loop-k.invariant ∙ length-map-range_with_len value 0 c.loop-k.k in
    omega arith

pub loop-k-preserved : goal.loop-k-preserved
loop-k-preserved c =
    let bytes = c.args.bytes.now in
    let at = c.in_ok-at.at in
    let value = value_of bytes c.args.self.now c.args.table at in
    let here = c.number.ensures.value
    ∙ ap (λ (p : ColumnPlace). number_of p.width bytes (at + p.offset)) c.column.ensures in
    c.push.ensures
    ∙ ap (λ (row : List ℕ). row ++ c.number.result ∷ []) c.loop-k.invariant
    ∙ ap (λ (x : ℕ). map value (range_with_len 0 c.loop-k.k) ++ x ∷ []) here
    ∙ sym (map-range_with_len_more value 0 c.loop-k.k c.loop-k.k (omega arith))
