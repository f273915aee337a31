use Rattle.std.proofs.Common.{◌++◌, sym, ap, ◌∙◌, map-id}
use Rattle.std.proofs.lemmas.Iterator.{YieldsList-from_chars}
use Rattle.std.proofs.lemmas.Iterator.Consumers.{YieldsList-end}
use Rattle.host_script.specs.Text.{end_place, units_from, place_after, spelled}
use Rattle.host_script.specs.declared.text.TextPlace.TheVariants.{Opening}
use Rattle.host_script.proofs.TextLemmas.{end_place-push, units_from-push}
use Rattle.host_script.proofs.text.read_to_end.Goals as goal

pub loop-character-preserved : goal.loop-character-preserved
loop-character-preserved c =
    let place = end_place-push Opening c.loop-character.yielded c.in-Some.character in
    let units = units_from-push Opening c.loop-character.yielded c.in-Some.character in
    let was = c.loop-character.invariant in
    record {
      place = c.place_after-place.ensures ∙ ap (λ p. place_after p c.in-Some.character) was.place ∙ sym place;
      units = c.in_ok-push_spelled.ensures
          ∙ ap (λ us. us ++ spelled c.loop-character.place c.in-Some.character) was.units
          ∙ ap (λ p. units_from Opening c.loop-character.yielded ++ spelled p c.in-Some.character) was.place
          ∙ sym units;
    }

pub returns-clause-place : goal.returns-clause-place
returns-clause-place c =
    let end = YieldsList-end (YieldsList-from_chars c.args.text.now c.utf8.text cc) c.loop-character.yielded _ c.loop-character.yielded_by _ _ c.in-None.is c.next.ensures.steps in
    c.loop-character.invariant.place ∙ ap (end_place Opening) (sym (map-id c.loop-character.yielded) ∙ end.0)

pub returns-clause-units : goal.returns-clause-units
returns-clause-units c =
    let end = YieldsList-end (YieldsList-from_chars c.args.text.now c.utf8.text cc) c.loop-character.yielded _ c.loop-character.yielded_by _ _ c.in-None.is c.next.ensures.steps in
    c.loop-character.invariant.units ∙ ap (units_from Opening) (sym (map-id c.loop-character.yielded) ∙ end.0)
