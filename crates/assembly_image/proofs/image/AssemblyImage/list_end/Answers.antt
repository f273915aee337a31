use Rattle.std.proofs.Common.{◌≡◌, List, ℕ, ◌+◌, false, nat_lt, ap, subst, ◌∙◌, arith}
use Rattle.std.proofs.lemmas.Bool.Decides.{nat_tests}
use Rattle.metadata_tables.specs.Layout.{count_of}
use Rattle.metadata_tables.specs.Tables as tables
use Rattle.assembly_image.specs.Module.{count}
use Rattle.assembly_image.specs.Members.{table_of}
use Rattle.assembly_image.specs.Reading.{module_of, Reads}
use Rattle.assembly_image.proofs.ImageLemmas.{counted, reads_of}
use Rattle.assembly_image.proofs.Facts.{few_rows}
use Rattle.assembly_image.proofs.FindLemmas.{fewer_rows}
use Rattle.assembly_image.proofs.MemberLemmas.{known_table, some_bytes}
use Rattle.assembly_image.proofs.image.AssemblyImage.list_end.Goals as goal

pub overflow_add-result : goal.overflow_add-result
overflow_add-result c =
    let layout = c.self.inside.tables in
    let fewer = fewer_rows layout (table_of c.args.kind) (known_table c.args.kind) (some_bytes layout c.args.kind) in
    let here = c.count.ensures ∙ ap (count_of layout) c.table.ensures in
    omega (arith, here, fewer, c.self.invariant.parts.rows, c.self.invariant.short)

pub returns-else-row-types-clause-value : goal.returns-else-row-types-clause-value
returns-else-row-types-clause-value c =
    let last : nat_lt c.args.row (count (module_of c.args.self.now) tables.type_def) ≡ false = grind (arith, nat_tests) in
    rw last (ap (λ n. n + 1) (c.count.ensures ∙ ap (count_of c.self.inside.tables) c.table.ensures
    ∙ counted _ _ _ _ c.self.invariant.parts (table_of c.args.kind) (known_table c.args.kind)
    ∙ ap (λ (bytes : List ℕ). count (module_of bytes) (table_of c.args.kind)) c.self.view_is))

pub returns-else-row-types-clause-few : goal.returns-else-row-types-clause-few
returns-else-row-types-clause-few c =
    let reads = subst (λ (bytes : List ℕ). Reads bytes (module_of bytes)) c.self.view_is (reads_of _ _ _ _ c.self.invariant.parts) in
    let few = few_rows c.args.self.now (module_of c.args.self.now) reads (table_of c.args.kind) (known_table c.args.kind) in
    let here = c.count.ensures ∙ ap (count_of c.self.inside.tables) c.table.ensures
    ∙ counted _ _ _ _ c.self.invariant.parts (table_of c.args.kind) (known_table c.args.kind)
    ∙ ap (λ (bytes : List ℕ). count (module_of bytes) (table_of c.args.kind)) c.self.view_is in
    omega (arith, here, few)
