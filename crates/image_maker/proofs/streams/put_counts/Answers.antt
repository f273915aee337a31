use Rattle.std.proofs.Common.{◌≡◌, ◌++◌, slice_index, sym, ap, ◌∙◌, arith, append-nil}
use Rattle.image_maker.proofs.TablePlacesSteps.{counts_below, count_next}
use Rattle.image_maker.proofs.streams.put_counts.Goals as goal

pub loop-table-init : goal.loop-table-init
loop-table-init c = sym (append-nil c.args.out.now.items)

pub loop-table-preserved : goal.loop-table-preserved
loop-table-preserved c =
    count_next (λ t. slice_index c.args.counts.now t) c.loop-table.table c.args.out.now.items
    c.loop-table.out.items c.put_count.new.out.items c.loop-table.invariant c.in_ok-put_count.ensures

pub returns : goal.returns
returns c =
    let all : c.loop-table.table ≡ 45 = omega arith in
    c.loop-table.invariant
    ∙ ap (λ n. c.args.out.now.items ++ counts_below (λ t. slice_index c.args.counts.now t) n) all
