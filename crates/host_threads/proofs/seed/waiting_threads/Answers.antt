use Rattle.std.proofs.Common.{◌≡◌, ◌+◌, ◌++◌, ◌∷◌, [], ℕ, cond, length, refl, ap, sym, ◌∙◌, arith}
use Rattle.std.specs.List.{filter, range_with_len}
use Rattle.std.proofs.lemmas.Option.{slice_get_read}
use Rattle.host_threads.specs.Seats.{asks, asks_at, given}
use Rattle.host_threads.proofs.Turns.{asking_more, given_at, length-given}
use Rattle.host_threads.proofs.seed.waiting_threads.Goals as goal

pub loop-before-preserved : goal.loop-before-preserved
loop-before-preserved g c =
    let seats = c.args.seats.now in
    let seat = c.index-seats-before.result in
    let before = c.loop-before.before in
    let at = slice_get_read seats (length seats) before seat refl c.loop-before-test.true c.index-seats-before.is in
    let more = asking_more (given seats) before seat.next (given_at seats before seat at) in
    let pushed : c.push_if.new.numbers.items ≡ c.loop-before.threads.items ++ cond c.asks.result ((before + 1) ∷ []) [] = c.in_ok-push_if.ensures in
    pushed
    ∙ ap (λ b. c.loop-before.threads.items ++ cond b ((before + 1) ∷ []) []) c.asks.ensures
    ∙ ap (λ ts. ts ++ cond (asks seat.next) ((before + 1) ∷ []) []) c.loop-before.invariant
    ∙ sym more

pub returns : goal.returns
returns g c =
    let seats = c.args.seats.now in
    let n : c.loop-before.before ≡ length (given seats) = omega (arith, length-given seats) in
    c.loop-before.invariant ∙ ap (λ (k : ℕ). filter (asks_at (given seats)) (range_with_len 1 k)) n
