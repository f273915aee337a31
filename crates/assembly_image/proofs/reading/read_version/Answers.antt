use Rattle.std.proofs.Common.{ℕ, ◌^◌, ◌<◌, refl, subst, sym, ap, ◌∙◌, arith}
use Rattle.std.proofs.Math.Facts.{Fits-of_lt}
use Rattle.assembly_image.specs.Cells.{value_in}
use Rattle.assembly_image.proofs.VersionLemmas.{part_read, parts_fit}
use Rattle.assembly_image.proofs.reading.read_version.Goals as goal

pub overflow_cast-result : goal.overflow_cast-result
overflow_cast-result c =
    let fits = parts_fit c.args.bytes.now c.args.tables.now c.requires.one c.type_inv.bytes in
    let read = c.value_in.ensures ∙ ap (λ r. value_in r 1) c.row-row.ensures ∙ part_read c.args.bytes.now c.args.tables.now c.requires.one 1 (omega arith) in
    Fits-of_lt (subst (λ (n : ℕ). n < 2 ^ 16) (sym read) fits.0)

pub overflow_cast-result-2 : goal.overflow_cast-result-2
overflow_cast-result-2 c =
    let fits = parts_fit c.args.bytes.now c.args.tables.now c.requires.one c.type_inv.bytes in
    let read = c.value_in-2.ensures ∙ ap (λ r. value_in r 2) c.row-row.ensures ∙ part_read c.args.bytes.now c.args.tables.now c.requires.one 2 (omega arith) in
    Fits-of_lt (subst (λ (n : ℕ). n < 2 ^ 16) (sym read) fits.1)

pub overflow_cast-result-3 : goal.overflow_cast-result-3
overflow_cast-result-3 c =
    let fits = parts_fit c.args.bytes.now c.args.tables.now c.requires.one c.type_inv.bytes in
    let read = c.value_in-3.ensures ∙ ap (λ r. value_in r 3) c.row-row.ensures ∙ part_read c.args.bytes.now c.args.tables.now c.requires.one 3 (omega arith) in
    Fits-of_lt (subst (λ (n : ℕ). n < 2 ^ 16) (sym read) fits.2)

pub overflow_cast-result-4 : goal.overflow_cast-result-4
overflow_cast-result-4 c =
    let fits = parts_fit c.args.bytes.now c.args.tables.now c.requires.one c.type_inv.bytes in
    let read = c.value_in-4.ensures ∙ ap (λ r. value_in r 4) c.row-row.ensures ∙ part_read c.args.bytes.now c.args.tables.now c.requires.one 4 (omega arith) in
    Fits-of_lt (subst (λ (n : ℕ). n < 2 ^ 16) (sym read) fits.3)

pub returns : goal.returns
returns c =
    let bytes = c.args.bytes.now in
    let layout = c.args.tables.now in
    let one = c.requires.one in
    let first = c.value_in.ensures ∙ ap (λ r. value_in r 1) c.row-row.ensures ∙ part_read bytes layout one 1 (omega arith) in
    let second = c.value_in-2.ensures ∙ ap (λ r. value_in r 2) c.row-row.ensures ∙ part_read bytes layout one 2 (omega arith) in
    let third = c.value_in-3.ensures ∙ ap (λ r. value_in r 3) c.row-row.ensures ∙ part_read bytes layout one 3 (omega arith) in
    let fourth = c.value_in-4.ensures ∙ ap (λ r. value_in r 4) c.row-row.ensures ∙ part_read bytes layout one 4 (omega arith) in
    rw (first, second, third, fourth) refl
