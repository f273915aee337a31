use Rattle.std.proofs.Common.{◌≡◌, ◌++◌, ◌∷◌, [], Bool, true, false, List, ℕ, if◌then◌else◌, is_ok, Ok, subst, sym, ap, ◌∙◌, ◌<◌, ◌≤◌, length}
use Rattle.std.proofs.lemmas.List.{length-map}
use Rattle.host_script.specs.Outcome.{GivesFault}
use Rattle.host_script.specs.Slot.{argument_word}
use Rattle.host_script.specs.Words.{texts}
use Rattle.host_script.proofs.RowLemmas.{none_in_front, read_more, not_read, all_read}
use Rattle.host_script.proofs.row.arguments.Goals as goal

pushed : {A : Type 0} (t : Bool) (now before : List A) (x : A) → t ≡ true →
    now ≡ (if t then before ++ x ∷ [] else before) → now ≡ before ++ x ∷ []
pushed true now before x e is = is
pushed false now before x e is = cc

pub loop-at-init : goal.loop-at-init
loop-at-init c = rw c.new-arguments.ensures.items (none_in_front _)

pub loop-at-preserved : goal.loop-at-preserved
loop-at-preserved c =
    let within : c.loop-at.at < length (texts c.args.words.now) =
    rw (length-map c.args.words.now (λ w. w.now)) c.loop-at-test.true in
    let read = ap argument_word (sym c.word.ensures) ∙ c.in-Ok.ensures in
    let more = read_more (texts c.args.words.now) c.loop-at.at c.loop-at.arguments.items _ c.loop-at.invariant within
    c.in-Ok.next read in
    let items = pushed (is_ok c.push.result) c.push.new.self.items c.loop-at.arguments.items c.in-Ok.next
    c.if-is_err.ensures.negation c.push.ensures.items in
    rw items more

pub returns-in-Err : goal.returns-in-Err
returns-in-Err c =
    let within : c.loop-at.at < length (texts c.args.words.now) =
    rw (length-map c.args.words.now (λ w. w.now)) c.loop-at-test.true in
    let P : List ℕ → Type 0 = λ word. GivesFault c.in-Err.fault (argument_word word) in
    not_read (texts c.args.words.now) c.loop-at.at c.loop-at.arguments.items _ c.loop-at.invariant within c.in-Err.fault
    (subst P c.word.ensures c.in-Err.ensures)

pub returns : goal.returns
returns c =
    let past : length (texts c.args.words.now) ≤ c.loop-at.at =
    rw (length-map c.args.words.now (λ w. w.now)) c.loop-at-test.false in
    all_read (texts c.args.words.now) c.loop-at.at c.loop-at.arguments.items _ c.loop-at.invariant past
    ∙ ap Ok (sym c.of.ensures)
