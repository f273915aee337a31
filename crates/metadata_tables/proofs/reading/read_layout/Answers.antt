use Rattle.std.proofs.Common.{◌≡◌, refl, ◌∙◌, ap, arith}
use Rattle.std.proofs.Math.ListN.{length-set}
use Rattle.metadata_tables.specs.Reading.{count_at, count_in, counts_of}
use Rattle.metadata_tables.proofs.LayoutLemmas.{filled_next}
use Rattle.metadata_tables.proofs.ReadingLemmas.{count_room, counted}
use Rattle.metadata_tables.proofs.reading.read_layout.Goals as goal

pub count-requires-clause-lies : goal.count-requires-clause-lies
count-requires-clause-lies c set =
    let bytes = c.args.bytes.now in
    let at = c.args.at in
    let room = count_room bytes at c.loop-table.table (omega arith) set in
    let here = c.requires.places c.from-index.result (omega arith) in
    let same : count_at bytes at c.from-index.result ≡ count_at bytes at c.loop-table.table =
    ap (count_at bytes at) c.from-index.ensures in
    omega (arith, here, same)

pub loop-table-preserved : goal.loop-table-preserved
loop-table-preserved c = record {
  filled = filled_next (count_in c.args.bytes.now c.args.at) _ c.loop-table.table _ _
      c.loop-table.invariant.filled c.from-index.ensures (omega arith) c.count.ensures;
  long = length-set _ _ _ ∙ c.loop-table.invariant.long;
}

pub returns : goal.returns
returns c =
    let bytes = c.args.bytes.now in
    let at = c.args.at in
    let first = c.requires.places 64 (omega arith) in
    let all : c.loop-table.counts ≡ counts_of bytes at =
    counted bytes at c.loop-table.counts 45 c.loop-table.invariant.long refl
    (λ k h. c.loop-table.invariant.filled k (omega arith)) in
    cc
