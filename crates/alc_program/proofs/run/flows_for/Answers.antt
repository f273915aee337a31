use Rattle.std.proofs.Common.{◌≡◌, ◌++◌, ◌∷◌, [], length, map, refl, sym, ap, ◌∙◌, arith, rules}
use Rattle.std.proofs.lemmas.List.{map-append}
use Rattle.std.proofs.lemmas.Option.{slice_get_read}
use Rattle.std.proofs.lemmas.Iterator.Adapters.{YieldsList-from_vec}
use Rattle.std.proofs.lemmas.Iterator.Consumers.{YieldsList-turn}
use Rattle.std.specs.Arc.{arc_value}
use Rattle.command_flow.specs.Flow.{fresh}
use Rattle.alc_program.specs.Good.{plan_of}
use Rattle.alc_program.proofs.RunLemmas.{commands-length, found_length}
use Rattle.alc_program.proofs.run.flows_for.Goals as goal

pub new-requires-clause-few : goal.new-requires-clause-few
new-requires-clause-few c =
    let turn = YieldsList-turn (YieldsList-from_vec c.args.threads.items (cc) (cc c.args.threads.ok.0)) c.loop-lines.yielded c.loop-lines.lines-iterator c.loop-lines.yielded_by c.next.result c.next.new.self c.in-Some.lines c.in-Some.is c.next.ensures.steps in
    let at = slice_get_read c.args.threads.items (length c.args.threads.items) (length c.loop-lines.yielded) c.in-Some.lines refl turn.0 turn.1 in
    omega (
      arith,
      ap length c.in_ok-commands.ensures,
      commands-length c.in-Some.lines,
      found_length c.args.threads.items (length c.loop-lines.yielded) c.in-Some.lines at,
      c.requires.few,
    )

pub loop-lines-preserved : goal.loop-lines-preserved
loop-lines-preserved c =
    let images : arc_value c.in_ok-try_clone.field-0 ≡ arc_value c.args.images.now = search rules in
    let flow : c.in_ok-new.field-0 ≡ fresh (plan_of (arc_value c.args.images.now) c.in-Some.lines) =
    c.in_ok-new.ensures ∙ ap (λ cs. fresh (record { commands = cs; images = arc_value c.in_ok-try_clone.field-0 })) c.in_ok-commands.ensures
    ∙ ap (λ is. fresh (plan_of is c.in-Some.lines)) images in
    c.in_ok-push.ensures.items
    ∙ ap (λ fs. fs ++ c.in_ok-new.field-0 ∷ []) c.loop-lines.invariant
    ∙ ap (λ f. map (λ lines. fresh (plan_of (arc_value c.args.images.now) lines)) c.loop-lines.yielded ++ f ∷ []) flow
    ∙ sym (map-append (λ lines. fresh (plan_of (arc_value c.args.images.now) lines)) c.loop-lines.yielded (c.in-Some.lines ∷ []))
