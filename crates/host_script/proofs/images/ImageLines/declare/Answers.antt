use Rattle.host_script.proofs.ImageLemmas.{declared}
use Rattle.host_script.proofs.images.ImageLines.declare.Goals as goal

pub returns-in-Ok : goal.returns-in-Ok
returns-in-Ok c =
    declared c.in_ok-key.key c.args.line c.args.name.now c.self.inside.by_name.entries c.insert.new.self.entries c.args.self.now
    c.in_ok-key.ensures.items c.self.view_is c.requires.undeclared c.in-Ok.ensures.entries
