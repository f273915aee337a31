use Rattle.std.proofs.Common.{◌≡◌, true, List, map, All, sym, subst, ap, ◌∙◌, arith}
use Rattle.std.specs.Arc.{arc_value}
use Rattle.std.specs.List.{AllByRecursion}
use Rattle.assembly_image.specs.Reading.{FileReading}
use Rattle.host_core.specs.Core.{Core, fixed_by}
use Rattle.host_core.specs.Allowed.{IsAllowed}
use Rattle.host_core.specs.Bounds.{bounds_of}
use Rattle.host_events.specs.declared.journal.Entry.{Entry}
use Rattle.host_events.specs.Files.{Files}
use Rattle.host_script.specs.declared.command.CommandLine.{CommandLine}
use Rattle.host_script.specs.Worded.{AreWorded}
use Rattle.command_flow.specs.Events.{is_built}
use Rattle.command_flow.specs.Flow.{HasImage, fresh}
use Rattle.alc_program.specs.Good.{RunsScript, commands_of, plan_of}
use Rattle.alc_program.specs.Images.{files_of}
use Rattle.alc_program.specs.Shares.{share_for}
use Rattle.alc_program.specs.Unbuilt.{is_collecting}
use Rattle.alc_program.proofs.RunLemmas.{driven, few_contexts, flow_drives, flow_found, fresh_stand, mapped_at, script_built, script_images}
use Rattle.alc_program.proofs.run.run_script.Goals as goal

pub open-requires-clause-numbered : goal.open-requires-clause-numbered
open-requires-clause-numbered c =
    let threads = c.as_slice.ensures.value ∙ c.into_vec-threads.ensures in
    let bounds = c.in_ok-bounds.ensures ∙ ap (λ (ts : List (List CommandLine)). bounds_of (map share_for ts)) threads in
    omega (arith, ap (λ b. b.contexts) bounds, few_contexts c.args.script.threads c.requires.small.commands)

pub flows_for-requires-clause-built : goal.flows_for-requires-clause-built
flows_for-requires-clause-built c =
    subst (λ (ts : List (List CommandLine)). All (λ lines. All (λ command. is_built command ≡ true) (commands_of lines)) ts)
    (sym c.into_vec-threads.ensures) (script_built c.args.script c.requires.built)

pub flows_for-requires-clause-images : goal.flows_for-requires-clause-images
flows_for-requires-clause-images c =
    let images = arc_value c.args.images.now in
    let worded = subst (λ n. AllByRecursion (AreWorded n) c.args.script.threads) (sym c.requires.images) c.requires.worded in
    subst (λ (ts : List (List CommandLine)). All (λ lines. All (HasImage images) (commands_of lines)) ts)
    (sym c.into_vec-threads.ensures) (script_images images c.args.script.threads worded)

pub run_by_seed-requires-clause-fresh : goal.run_by_seed-requires-clause-fresh
run_by_seed-requires-clause-fresh c i flow found =
    let images = arc_value c.args.images.now in
    let begun = c.in_ok-flows.ensures ∙ ap (λ (ts : List (List CommandLine)). map (λ lines. fresh (plan_of images lines)) ts) c.into_vec-threads.ensures in
    let at = mapped_at (λ lines. fresh (plan_of images lines)) c.args.script.threads i flow (flow_found c.in_ok-flows.flows.items _ i flow begun found) in
    fresh_stand images at.0 flow at.2

pub run_by_seed-requires-clause-drives : goal.run_by_seed-requires-clause-drives
run_by_seed-requires-clause-drives c i flow found =
    let images = arc_value c.args.images.now in
    let threads = c.as_slice.ensures.value ∙ c.into_vec-threads.ensures in
    let bounds = c.in_ok-bounds.ensures ∙ ap (λ (ts : List (List CommandLine)). bounds_of (map share_for ts)) threads in
    let begun = c.in_ok-flows.ensures ∙ ap (λ (ts : List (List CommandLine)). map (λ lines. fresh (plan_of images lines)) ts) c.into_vec-threads.ensures in
    let fixed = ap (λ (h : Core). h.fixed) c.in_ok-host.ensures.host ∙ ap (λ (f : Files). fixed_by c.in_ok-bounds.bounds f c.is_collecting-collects.result) c.in_ok-app.ensures
    ∙ ap (fixed_by c.in_ok-bounds.bounds _) c.is_collecting-collects.ensures
    ∙ ap (λ (is : List FileReading). fixed_by c.in_ok-bounds.bounds (files_of c.args.script is) (is_collecting c.args.script)) c.deref.ensures in
    flow_drives c.args.script images c.requires.images c.requires.built c.requires.worded c.in_ok-bounds.bounds bounds
    c.in_ok-host.host.fixed c.in_ok-flows.flows.items i flow fixed begun found

pub returns : goal.returns
returns c =
    let images = arc_value c.args.images.now in
    let begun = c.in_ok-flows.ensures ∙ ap (λ (ts : List (List CommandLine)). map (λ lines. fresh (plan_of images lines)) ts) c.into_vec-threads.ensures in
    let fixed = ap (λ (h : Core). h.fixed) c.in_ok-host.ensures.host ∙ ap (λ (f : Files). fixed_by c.in_ok-bounds.bounds f c.is_collecting-collects.result) c.in_ok-app.ensures
    ∙ ap (fixed_by c.in_ok-bounds.bounds _) c.is_collecting-collects.ensures
    ∙ ap (λ (is : List FileReading). fixed_by c.in_ok-bounds.bounds (files_of c.args.script is) (is_collecting c.args.script)) c.deref.ensures in
    let run = c.in_ok-host-2.ensures in
    subst (λ (j : List Entry). RunsScript c.args.script images c.args.schedule.now j c.in_ok-host-2.ends.items) (sym c.into_journal.ensures.journal)
    (driven c.args.script images c.args.schedule.now c.in_ok-bounds.bounds c.in_ok-flows.flows.items c.in_ok-host-2.host.journal c.in_ok-host-2.ends.items
    begun (subst (λ f. IsAllowed f c.in_ok-host-2.host.journal) fixed run.allowed) run.threads run.turns run.one_end_each run.ends)
