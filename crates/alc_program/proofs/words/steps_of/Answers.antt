use Rattle.std.proofs.Common.{◌≡◌, true, refl, sym, ap, ◌∙◌, ◌∷◌, [], arith, length, map, string_bytes, codes}
use Rattle.std.proofs.lemmas.Slice.Eq.{bytes_eq-Decides}
use Rattle.host_threads.specs.Turns.{is_schedule}
use Rattle.alc_program.proofs.WordsLemmas.{three, asks_steps}
use Rattle.alc_program.proofs.words.steps_of.Goals as goal

pub returns-then-is_schedule-clause-asked : goal.returns-then-is_schedule-clause-asked
returns-then-is_schedule-clause-asked c =
    let count : length c.args.words.now ≡ 3 = omega arith in
    let verb : c.as_str.result.now ≡ codes "steps" = (bytes_eq-Decides c.as_str.result.now (codes "steps")).0 (sym c.if-eq.ensures) in
    let words : c.args.words.now ≡ c.verb-item.result ∷ c.file-item.result ∷ c.schedule-item.result ∷ [] =
    three c.args.words.now c.verb-item.result c.file-item.result c.schedule-item.result count c.verb-item.is c.file-item.is c.schedule-item.is in
    let v : c.as_str.result.now ≡ string_bytes c.verb-item.result = c.as_str.ensures.value in
    let f : c.as_str-then-is_schedule.result.now ≡ string_bytes c.file-item.result = c.as_str-then-is_schedule.ensures.value in
    let s : c.as_bytes-then-is_schedule.result.now ≡ string_bytes c.schedule-item.result = c.as_bytes-then-is_schedule.ensures.value in
    let t : c.as_bytes.result.now ≡ string_bytes c.schedule-item.result = c.as_bytes.ensures.value in
    let digits : true ≡ is_schedule c.as_bytes.result.now = c.if-is_schedule.ensures in
    asks_steps _ c.as_str.result.now _ _ (ap (map string_bytes) words ∙ rw (← v, ← f, ← s) refl) verb (rw (s, ← t) digits)
