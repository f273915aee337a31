use Rattle.std.proofs.Common.{◌≡◌, ◌++◌, ◌∙◌, ap, arith, sym, subst, drop, length, take}
use Rattle.std.proofs.Math.Seq.{take-append_seam}
use Rattle.std.proofs.lemmas.List.{length-map}
use Rattle.load_context.specs.Contexts.{IsTable, unloaded, unloaded_if}
use Rattle.load_context.proofs.Tables.{IsTable-unloaded}
use Rattle.load_context.proofs.contexts.Contexts.unload.Goals as goal

pub invariant_of-self : goal.invariant_of-self
invariant_of-self c =
    let items = c.self.inside.contexts.items in
    let new = c.unload.new.contexts in
    let given : c.as_mut_slice.result.now ≡ items = c.as_mut_slice.ensures.value in
    let after : new ≡ unloaded c.args.context items = c.unload.ensures ∙ ap (unloaded c.args.context) given in
    let same : length (unloaded c.args.context items) ≡ length items = length-map items (unloaded_if c.args.context) in
    let long : c.self.inside.contexts.len ≡ length new =
    omega (arith, ap length after, same, ap length given, c.as_mut_slice.ensures.len) in
    let list : take c.self.inside.contexts.len (new ++ drop (length new) items) ≡ unloaded c.args.context items =
    ap (λ n. take n (new ++ drop (length new) items)) long ∙ take-append_seam new (drop (length new) items) ∙ after in
    let table = IsTable-unloaded c.args.context items c.requires.other c.self.invariant.table in
    record {
      table = subst IsTable (sym list) table;
      room = omega (arith, ap length list, same, c.self.invariant.room);
      counted = omega (arith, ap length list, same, c.self.invariant.counted);
    }
