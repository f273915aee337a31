use Rattle.std.proofs.Common.{◌≡◌, ◌∙◌, ◌&&◌, not, Bool, true, List, sym, ap}
use Rattle.std.specs.List.{flat_map, list_any}
use Rattle.host_script.specs.declared.command.CommandLine.{CommandLine}
use Rattle.command_flow.specs.Events.{is_built}
use Rattle.alc_program.specs.Unbuilt.{bars_line}
use Rattle.alc_program.proofs.UnbuiltLemmas.{any_of_threads}
use Rattle.alc_program.proofs.unbuilt.is_run.Goals as goal

pub returns-then-is_built : goal.returns-then-is_built
returns-then-is_built c =
    let line = c.args.line.now in
    let all = flat_map (λ (own : List CommandLine). own) c.args.threads.now in
    let barred : c.is_barred.result ≡ list_any (λ other. bars_line other line) all =
    c.is_barred.ensures ∙ any_of_threads (λ other. bars_line other line) c.args.threads.now in
    let built : true ≡ is_built line.command = sym c.if-is_built.true ∙ c.is_built.ensures in
    ap not barred ∙ ap (λ (b : Bool). b && not (list_any (λ other. bars_line other line) all)) built
