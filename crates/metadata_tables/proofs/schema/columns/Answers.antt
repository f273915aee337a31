use Rattle.std.proofs.Common.{[], ◌∙◌, ap, get_or}
use Rattle.metadata_tables.specs.Columns.{tables, columns_of}
use Rattle.metadata_tables.proofs.SchemaLemmas.{short}
use Rattle.metadata_tables.proofs.schema.columns.Goals as goal

pub returns-clause-value : goal.returns-clause-value
unfolding columns_of
returns-clause-value c = c.columns_at.ensures ∙ ap (λ i. get_or tables i []) c.from.ensures

pub returns-clause-short : goal.returns-clause-short
unfolding columns_of
returns-clause-short c =
    rw (c.columns_at.ensures ∙ ap (λ i. get_or tables i []) c.from.ensures) (short c.args.table)
