use Rattle.std.proofs.Common.{◌≡◌, refl, sym, ap, ◌∙◌, ◌∷◌, [], arith, length, map, string_bytes, codes}
use Rattle.std.proofs.lemmas.Slice.Eq.{bytes_eq-Decides}
use Rattle.alc_program.proofs.WordsLemmas.{two, asks_inspect}
use Rattle.alc_program.proofs.words.inspect_of.Goals as goal

pub returns-then-eq-clause-asked : goal.returns-then-eq-clause-asked
returns-then-eq-clause-asked c =
    let count : length c.args.words.now ≡ 2 = omega arith in
    let verb : c.as_str.result.now ≡ codes "inspect" = (bytes_eq-Decides c.as_str.result.now (codes "inspect")).0 (sym c.if-eq.ensures) in
    let words : c.args.words.now ≡ c.verb-item.result ∷ c.file-item.result ∷ [] =
    two c.args.words.now c.verb-item.result c.file-item.result count c.verb-item.is c.file-item.is in
    let v = c.as_str.ensures.value in
    let f = c.as_str-then-eq.ensures.value in
    asks_inspect _ c.as_str.result.now _ (ap (map string_bytes) words ∙ rw (← v, ← f) refl) verb
