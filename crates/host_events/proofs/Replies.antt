-- What the events of a legal journal determine.
use Rattle.std.proofs.Common.{◌≡◌, ℕ, List, [], ◌∷◌, ◌++◌, map, refl, sym, ap, subst, ◌∙◌, append_assoc}
use Rattle.host_events.specs.declared.event.Event.{Event}
use Rattle.host_events.specs.declared.event.Event.TheVariants as events
use Rattle.host_events.specs.declared.reply.Reply.TheVariants as replies
use Rattle.host_events.specs.declared.journal.Entry.{Entry}
use Rattle.host_events.specs.Files.{Files}
use Rattle.host_events.specs.Journal.{IsLegal}
use Rattle.host_events.specs.Laws.{HasOneReply}
use Rattle.host_events.specs.Reply.{IsReply}
use Rattle.host_events.specs.Reserved.{sealed}
use Rattle.host_events.proofs.Rising.{same_rising}

-- Two lists of the unkept contexts rise and have the same members, so they are one list.
pub one_reply_each : HasOneReply
one_reply_each files journal (events.New name kind) first second is_first is_second = is_first ∙ sym is_second
one_reply_each files journal (events.Rule place name answer) first second is_first is_second = is_first ∙ sym is_second
one_reply_each files journal (events.Enter name) first second is_first is_second = is_first ∙ sym is_second
one_reply_each files journal (events.EnterHandle handle) first second is_first is_second = absurd is_first
one_reply_each files journal (events.Lookup context name version) first second is_first is_second = is_first ∙ sym is_second
one_reply_each files journal (events.Ask step context name) first second is_first is_second = is_first ∙ sym is_second
one_reply_each files journal (events.Publish context name candidate) first second is_first is_second = is_first ∙ sym is_second
one_reply_each files journal (events.Place user key) first second is_first is_second = absurd is_first
one_reply_each files journal (events.LoadStatic key field kind) first second is_first is_second = absurd is_first
one_reply_each files journal (events.StoreStatic key field value) first second is_first is_second = absurd is_first
one_reply_each files journal (events.Hold handle assembly method) first second is_first is_second = absurd is_first
one_reply_each files journal (events.DropHandle handle) first second is_first is_second = absurd is_first
one_reply_each files journal (events.Weak handle name) first second is_first is_second = is_first ∙ sym is_second
one_reply_each files journal (events.Alive handle) first second is_first is_second = is_first ∙ sym is_second
one_reply_each files journal (events.Unload name) first second is_first is_second = is_first ∙ sym is_second
one_reply_each files journal events.Collect first second is_first is_second =
    let one = is_first.1 in
    let other = is_second.1 in
    is_first.2
    ∙ ap (λ contexts. replies.Freed (sealed contexts))
    (same_rising is_first.0 is_second.0 one.rising other.rising
    (λ c has. (other.each c).1 ((one.each c).0 has)) (λ c has. (one.each c).1 ((other.each c).0 has)))
    ∙ sym is_second.2
one_reply_each files journal (events.Leave operation) first second is_first is_second = is_first ∙ sym is_second

-- who asked for what
abbrev pub asked_of : Entry → ℕ × Event
asked_of entry = (entry.thread, entry.event)

same_entry : (x y : Entry) → x.thread ≡ y.thread → x.event ≡ y.event → x.reply ≡ y.reply → x ≡ y
same_entry x y thread event reply =
    ap (λ t. record { thread = t; event = x.event; reply = x.reply }) thread
    ∙ ap (λ e. record { thread = y.thread; event = e; reply = x.reply }) event
    ∙ ap (λ r. record { thread = y.thread; event = y.event; reply = r }) reply

-- legal journals that begin alike and go on with the same events of the same threads are equal
same_from : (files : Files) (before xs ys : List Entry) → IsLegal files (before ++ xs) → IsLegal files (before ++ ys) → map asked_of xs ≡ map asked_of ys → xs ≡ ys
same_from files before [] [] first second same = refl
same_from files before [] (y ∷ ys) first second same = cc
same_from files before (x ∷ xs) [] first second same = cc
same_from files before (x ∷ xs) (y ∷ ys) first second same =
    let heads : asked_of x ≡ asked_of y = cc in
    let rests : map asked_of xs ≡ map asked_of ys = cc in
    let event : x.event ≡ y.event = ap (λ p. p.1) heads in
    let replied : IsReply files before x.event y.reply =
    subst (λ (e : Event). IsReply files before e y.reply) (sym event) (second before y ys refl) in
    let entry : x ≡ y =
    same_entry x y (ap (λ p. p.0) heads) event (one_reply_each files before x.event x.reply y.reply (first before x xs refl) replied) in
    let tails : xs ≡ ys =
    same_from files (before ++ x ∷ []) xs ys
    (subst (IsLegal files) (sym (append_assoc before (x ∷ []) xs)) first)
    (subst (λ (e : Entry). IsLegal files ((before ++ e ∷ []) ++ ys)) (sym entry) (subst (IsLegal files) (sym (append_assoc before (y ∷ []) ys)) second)) rests in
    ap (λ e. e ∷ xs) entry ∙ ap (λ es. y ∷ es) tails

-- a legal journal is what its events determine
pub same_journal : (files : Files) (journal other : List Entry) → IsLegal files journal → IsLegal files other → map asked_of journal ≡ map asked_of other → journal ≡ other
same_journal files journal other first second same = same_from files [] journal other first second same
