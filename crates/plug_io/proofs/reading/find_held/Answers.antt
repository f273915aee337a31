use Rattle.std.proofs.Common.{None, Some, ap, sym, ◌∙◌}
use Rattle.plug_io.proofs.Held.{held_at-found}
use Rattle.plug_io.proofs.reading.find_held.Goals as goal

pub returns-in-None-clause-found : goal.returns-in-None-clause-found
returns-in-None-clause-found c =
    held_at-found c.args.held.now c.args.path.now None c.in-None.ensures

pub returns-in-Some-clause-found : goal.returns-in-Some-clause-found
returns-in-Some-clause-found c =
    let entry = Some c.in-Some.entry.now in
    let found = held_at-found c.args.held.now c.args.path.now entry c.in-Some.ensures in
    rw (found ∙ ap Some (sym c.deref.ensures.value)) c.copy_within.ensures.found
