use Rattle.std.proofs.Common.{◌≡◌, ◌+◌, ◌-◌, ◌<◌, ◌≤◌, nat_le, ℕ, List, length, get_or, sym, ap, subst, ◌∙◌, arith}
use Rattle.std.proofs.lemmas.Bool.{and_parts}
use Rattle.std.proofs.lemmas.Bool.Decides.{nat_tests}
use Rattle.std.specs.List.{range_with_len}
use Rattle.metadata_tables.specs.Tables as tables
use Rattle.assembly_image.specs.Index.{table_by, value_by, value_in_row, first_at}
use Rattle.assembly_image.specs.Module.{count}
use Rattle.assembly_image.specs.Reading.{module_of}
use Rattle.assembly_image.proofs.IndexLemmas.{IsWalked, value_small, walk_first, walk_next, walk_end, walk_shorter}
use Rattle.assembly_image.proofs.image.AssemblyImage.rows_of.Goals as goal

pub bounds-as_slice-value_of : goal.bounds-as_slice-value_of
bounds-as_slice-value_of c =
    let m = module_of c.args.self.now in
    let by = c.args.by in
    let row = c.args.row in
    let rows = count m (table_by by) in
    let types = count m tables.type_def in
    let last = (and_parts (nat_le 1 row) (nat_le row types) c.requires).1 in
    let within : row ≤ types = grind (arith, nat_tests) in
    let small = value_small by row types within in
    let index = c.index_by-index.ensures in
    subst (λ (xs : List ℕ). c.value_of.result < length xs) (sym c.as_slice.ensures.value)
    (subst (λ (l : ℕ). c.value_of.result < l) (sym index.values) (subst (λ (v : ℕ). v < value_by by types + 1) (sym c.value_of.ensures) small))

pub loop-n-init : goal.loop-n-init
loop-n-init c =
    let m = module_of c.args.self.now in
    let by = c.args.by in
    let row = c.args.row in
    let rows = count m (table_by by) in
    let types = count m tables.type_def in
    let last = (and_parts (nat_le 1 row) (nat_le row types) c.requires).1 in
    let within : row ≤ types = grind (arith, nat_tests) in
    let small = value_small by row types within in
    let index = c.index_by-index.ensures in
    let n = get_or c.as_slice.result.now c.value_of.result 0 in
    let is = ap (λ (xs : List ℕ). get_or xs c.value_of.result 0) c.as_slice.ensures.value
    ∙ ap (λ (v : ℕ). get_or c.index_by-index.result.now.first.items v 0) c.value_of.ensures ∙ index.firsts (value_by by row) small in
    subst (λ (xs : List ℕ). IsWalked (value_in_row m by) (value_by by row) rows xs n) (sym c.new-rows.ensures.items)
    (walk_first (value_in_row m by) (value_by by row) rows n is)

pub bounds-as_slice-n : goal.bounds-as_slice-n
bounds-as_slice-n c =
    let n = c.loop-n.n in
    let some = c.loop-n-test.true in
    let most = c.loop-n.invariant.most in
    subst (λ (xs : List ℕ). n - 1 < length xs) (sym c.as_slice-in-loop-n.ensures.value)
    (subst (λ (l : ℕ). n - 1 < l) (sym c.index_by-index.ensures.long) (omega (arith, most, some)))

pub loop-n-smaller : goal.loop-n-smaller
loop-n-smaller c =
    let m = module_of c.args.self.now in
    let by = c.args.by in
    let row = c.args.row in
    let rows = count m (table_by by) in
    let types = count m tables.type_def in
    let last = (and_parts (nat_le 1 row) (nat_le row types) c.requires).1 in
    let within : row ≤ types = grind (arith, nat_tests) in
    let small = value_small by row types within in
    let index = c.index_by-index.ensures in
    let n = c.loop-n.n in
    let some = c.loop-n-test.true in
    let above : 0 < n = omega (arith, some) in
    let most = c.loop-n.invariant.most in
    let next = get_or c.as_slice-in-loop-n.result.now (n - 1) 0 in
    let same : value_in_row m by n < value_by by types + 1 =
    subst (λ (v : ℕ). v < value_by by types + 1) (sym (c.loop-n.invariant.same above)) small in
    let next_is : next ≡ first_at (value_in_row m by) (value_in_row m by n) (range_with_len (n + 1) (rows - n)) =
    ap (λ (xs : List ℕ). get_or xs (n - 1) 0) c.as_slice-in-loop-n.ensures.value ∙ index.nexts n (omega (arith, above)) most same in
    let step = walk_next (value_in_row m by) (value_by by row) rows c.loop-n.rows.items n next above c.loop-n.invariant next_is in
    walk_shorter next n rows above most step.1 step.0.most

pub loop-n-preserved : goal.loop-n-preserved
loop-n-preserved c =
    let m = module_of c.args.self.now in
    let by = c.args.by in
    let row = c.args.row in
    let rows = count m (table_by by) in
    let types = count m tables.type_def in
    let last = (and_parts (nat_le 1 row) (nat_le row types) c.requires).1 in
    let within : row ≤ types = grind (arith, nat_tests) in
    let small = value_small by row types within in
    let index = c.index_by-index.ensures in
    let n = c.loop-n.n in
    let some = c.loop-n-test.true in
    let above : 0 < n = omega (arith, some) in
    let most = c.loop-n.invariant.most in
    let next = get_or c.as_slice-in-loop-n.result.now (n - 1) 0 in
    let same : value_in_row m by n < value_by by types + 1 =
    subst (λ (v : ℕ). v < value_by by types + 1) (sym (c.loop-n.invariant.same above)) small in
    let next_is : next ≡ first_at (value_in_row m by) (value_in_row m by n) (range_with_len (n + 1) (rows - n)) =
    ap (λ (xs : List ℕ). get_or xs (n - 1) 0) c.as_slice-in-loop-n.ensures.value ∙ index.nexts n (omega (arith, above)) most same in
    let step = walk_next (value_in_row m by) (value_by by row) rows c.loop-n.rows.items n next above c.loop-n.invariant next_is in
    subst (λ (xs : List ℕ). IsWalked (value_in_row m by) (value_by by row) rows xs next) (sym c.in_ok-push.ensures.items) step.0

pub returns : goal.returns
returns c =
    let m = module_of c.args.self.now in
    let by = c.args.by in
    walk_end (value_in_row m by) (value_by by c.args.row) (count m (table_by by)) c.loop-n.rows.items c.loop-n.n (omega (arith, c.loop-n-test.false)) c.loop-n.invariant
