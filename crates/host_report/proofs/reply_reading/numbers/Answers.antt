use Rattle.std.proofs.Common.{ℕ, ◌≡◌, ◌<◌, List, ◌++◌, length, Some, sym, ◌∙◌, ap, append-nil, arith, rules}
use Rattle.std.specs.Prelude.{option_map}
use Rattle.std.proofs.lemmas.Bool.Decides.{nat_tests}
use Rattle.host_report.specs.ReplyReading.{numbers_read}
use Rattle.host_report.proofs.ReplyReadingLemmas.{numbers_next, numbers_end, numbers_more}
use Rattle.host_report.proofs.reply_reading.numbers.Goals as goal

pub loop-rest-preserved : goal.loop-rest-preserved
loop-rest-preserved c =
    let before = c.loop-rest.numbers.items in
    let after = c.in_ok-next.after.now in
    let some : 0 < length c.loop-rest.rest.now = first_of (omega arith, grind (arith, nat_tests), search rules) in
    let next = numbers_next c.loop-rest.rest.now c.in_ok-next.next after some c.in_ok-next.ensures.read in
    ap (λ (items : List ℕ). option_map (λ more. items ++ more) (numbers_read after)) c.in_ok-push.ensures.items
    ∙ sym (numbers_more before c.in_ok-next.next (numbers_read after))
    ∙ ap (option_map (λ more. before ++ more)) (sym next)
    ∙ c.loop-rest.invariant

pub returns : goal.returns
returns c =
    let before = c.loop-rest.numbers.items in
    let none : length c.loop-rest.rest.now ≡ 0 = first_of (omega arith, grind (arith, nat_tests), search rules) in
    sym c.loop-rest.invariant
    ∙ ap (option_map (λ more. before ++ more)) (numbers_end c.loop-rest.rest.now none)
    ∙ ap (λ items. Some items) (append-nil before)
