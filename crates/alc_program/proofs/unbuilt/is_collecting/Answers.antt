use Rattle.std.proofs.Common.{◌∙◌, ap}
use Rattle.std.specs.List.{list_any}
use Rattle.alc_program.specs.Unbuilt.{collects}
use Rattle.alc_program.proofs.UnbuiltLemmas.{any_of_threads}
use Rattle.alc_program.proofs.unbuilt.is_collecting.Goals as goal

pub returns : goal.returns
returns c =
    c.some_collects.ensures ∙ ap (list_any (list_any (λ line. collects line.command))) c.items.ensures
    ∙ any_of_threads (λ line. collects line.command) c.args.script.now.threads
