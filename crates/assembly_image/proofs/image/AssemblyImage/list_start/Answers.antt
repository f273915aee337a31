use Rattle.std.proofs.Common.{◌≡◌, ◌<◌, ◌≤◌, ◌^◌, ℕ, length, sym, ap, subst, ◌∙◌}
use Rattle.metadata_tables.specs.Columns.{columns_of, column_of}
use Rattle.metadata_tables.specs.Tables as tables
use Rattle.assembly_image.specs.Cells.{holds_number}
use Rattle.assembly_image.specs.Members.{list_of_kind}
use Rattle.assembly_image.specs.Module.{number}
use Rattle.assembly_image.specs.Reading.{module_of}
use Rattle.assembly_image.proofs.ImageLemmas.{number_is}
use Rattle.assembly_image.proofs.MemberLemmas.{list_column, start_inside}
use Rattle.assembly_image.proofs.image.AssemblyImage.list_start.Goals as goal

pub index-requires : goal.index-requires
index-requires c =
    subst (λ (k : ℕ). k < length (columns_of tables.type_def)) (sym c.list.ensures) (list_column c.args.kind).0

held : (c : goal.After-index) → c.index.result
    ≡ number (module_of c.args.self.now) tables.type_def c.args.row (list_of_kind c.args.kind)
held c =
    c.index.ensures.value
    ∙ number_is c.args.self.now tables.type_def c.args.row c.list.result
    (subst (λ (k : ℕ). k < length (columns_of tables.type_def)) (sym c.list.ensures) (list_column c.args.kind).0)
    (ap (λ (k : ℕ). holds_number (column_of tables.type_def k)) c.list.ensures
    ∙ ap holds_number (list_column c.args.kind).1)
    ∙ ap (number (module_of c.args.self.now) tables.type_def c.args.row) c.list.ensures

pub returns-clause-value : goal.returns-clause-value
returns-clause-value c = held c

pub returns-clause-few : goal.returns-clause-few
returns-clause-few c =
    subst (λ (n : ℕ). n ≤ 2 ^ 24) (sym (held c))
    (start_inside c.args.self.now (module_of c.args.self.now) c.index.ensures.reads c.args.kind c.args.row
    c.requires.first c.requires.last)
