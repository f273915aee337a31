-- Lemmas on texts that are put into a line.
use Rattle.std.proofs.Common.{◌≡◌, ℕ, ◌-◌, ◌<◌, ◌≤◌, Bool, true, false, List, [], ◌++◌, length, Option, Some, None, refl, sym, ◌∙◌, ap, subst, append_assoc, append-nil, arith, length-append, length-drop, take, drop, inl, inr, Result, Ok, Err, is_err, MatchResult, OnOk, OnErr}
use Rattle.std.proofs.Math.Seq.{take-length}
use Rattle.std.proofs.lemmas.List.{take-append-drop}
use Rattle.plug_io.specs.Faults.{HasRisen}
use Rattle.plug_io.specs.Sink.{HasAppended}
use Rattle.host_report.specs.declared.line.Line.{Line}
use Rattle.host_report.specs.Line.{HasStopped, IsUnsent, IsPut, Puts}

-- nothing was appended
pub appended_none : (old : Option (List ℕ)) → HasAppended old old []
appended_none None = refl
appended_none (Some w) = ap Some (sym (append-nil w))

-- one text was appended, and then another
pub appended_then : (old mid new : Option (List ℕ)) (a b : List ℕ) → HasAppended old mid a →
    HasAppended mid new b → HasAppended old new (a ++ b)
appended_then None mid new a b p q = rw p at q
appended_then (Some w) mid new a b p q = (rw p at q) ∙ ap Some (append_assoc w a b)

pub risen_since : (old mid new : ℕ) → old ≤ mid → HasRisen mid new → HasRisen old new
risen_since old mid new p (inl q) = inl (omega arith)
risen_since old mid new p (inr q) = inr q

-- a slice from n on
pub rest_from : (xs : List ℕ) (n : ℕ) → take (length xs - n) (drop n xs) ≡ drop n xs
rest_from xs n = rw (← length-drop n xs) (take-length (drop n xs))

-- a part of the rest was taken
pub sent_more : (old mid new : Option (List ℕ)) (piece rest : List ℕ) (n : ℕ) →
    (taken : List ℕ) × (piece ≡ taken ++ rest) × HasAppended old mid taken →
    HasAppended mid new (take n rest) →
    (taken : List ℕ) × (piece ≡ taken ++ take (length rest - n) (drop n rest)) × HasAppended old new taken
sent_more old mid new piece rest n (taken, whole, p) q = (
  taken ++ take n rest,
  whole ∙ ap (λ r. taken ++ r) (sym (take-append-drop n rest))
      ∙ sym (append_assoc taken (take n rest) (drop n rest))
      ∙ ap (λ r. (taken ++ take n rest) ++ r) (sym (rest_from rest n)),
  appended_then old mid new taken (take n rest) p q,
)

-- first one text was put, and then another
pub puts_then : {S : Type 0} {written : S → Option (List ℕ)} {faults : S → ℕ}
    {old mid new : Line} {from via to : S} {a b : List ℕ} →
    Puts written faults old from mid via a → Puts written faults mid via new to b →
    Puts written faults old from new to (a ++ b)
puts_then {S} {written} {faults} {old} {mid} {new} {from} {via} {to} {a} {b} p q = record {
  after = λ start count before put.
      let P : List ℕ → Type 0 = λ text. IsPut new (written to) (faults to) start count text in
      subst P (append_assoc before a b) (q.after start count (before ++ a) (p.after start count before put));
}

-- what came of the piece that was written: where the write failed, some of it is unsent
rest_of : {A B : Type 0} (r : Result A B) (old new : Option (List ℕ)) (piece : List ℕ) →
    OnOk r (HasAppended old new piece) → OnErr r (HasStopped old new piece) →
    (sent : List ℕ) × (unsent : List ℕ) × (piece ≡ sent ++ unsent) × HasAppended old new sent × MatchResult r (λ _. unsent ≡ []) (λ _. 0 < length unsent)
rest_of (Ok _) old new piece p _ = (piece, [], sym (append-nil piece), p, refl)
rest_of (Err _) old new piece _ p = (p.sent, p.unsent, p.whole, p.appended, p.some_unsent)

waits_after : {A B : Type 0} (r : Result A B) (count mid faults : ℕ) (unsent : List ℕ) →
    count ≤ mid → MatchResult r (λ _. unsent ≡ []) (λ _. 0 < length unsent) →
    OnErr r (HasRisen mid faults) → IsUnsent (is_err r) [] count faults unsent
waits_after (Ok _) count mid faults unsent le none risen = none
waits_after (Err _) count mid faults unsent le some risen = (some, risen_since count mid faults le risen)

unsent_none : (failed : Bool) (waiting unsent : List ℕ) (count faults : ℕ) → failed ≡ false →
    IsUnsent failed waiting count faults unsent → unsent ≡ waiting
unsent_none false waiting unsent count faults _ u = u
unsent_none true waiting unsent count faults e u = cc

-- all that waited and the text were written as one piece
pub puts_written : {S A B : Type 0} (written : S → Option (List ℕ)) (faults : S → ℕ) (old new : Line) (from to : S) (piece text : List ℕ) (r : Result A B) →
    old.failed ≡ false → new.failed ≡ is_err r → new.buffer.items ≡ [] →
    piece ≡ old.buffer.items ++ text →
    OnOk r (HasAppended (written from) (written to) piece) →
    OnErr r (HasStopped (written from) (written to) piece) →
    OnErr r (HasRisen (faults from) (faults to)) → faults from ≤ faults to →
    Puts written faults old from new to text
puts_written written faults old new from to piece text r fine failed empty e w stopped risen le = record {
  after = λ start count before put.
      let parts = rest_of r (written from) (written to) piece w stopped in
      let waited = unsent_none old.failed old.buffer.items put.unsent count (faults from) fine put.waits in
      record {
        sent = put.sent ++ parts.0;
        unsent = parts.1;
        whole = ap (λ t. t ++ text) (put.whole ∙ ap (λ u. put.sent ++ u) waited)
            ∙ append_assoc put.sent old.buffer.items text
            ∙ ap (λ u. put.sent ++ u) (sym e ∙ parts.2)
            ∙ sym (append_assoc put.sent parts.0 parts.1);
        appended = appended_then start (written from) (written to) put.sent parts.0 put.appended parts.3;
        counted = omega (arith, put.counted);
        waits = rw (failed, empty) (waits_after r count (faults from) (faults to) parts.1 put.counted parts.4 risen);
      };
}

-- an empty line, before anything is put
begun : (line : Line) (written : Option (List ℕ)) (faults : ℕ) → line.failed ≡ false →
    line.buffer.items ≡ [] → IsPut line written faults written faults []
begun line written faults fine empty = record {
  sent = [];
  unsent = [];
  whole = refl;
  appended = appended_none written;
  counted = omega arith;
  waits = rw (fine, empty) refl;
}

-- a text was put into an empty line, and then the line was flushed
pub put_whole : {S : Type 0} {written : S → Option (List ℕ)} {faults : S → ℕ} {old mid new : Line} {from via to : S} {put text : List ℕ} →
    old.failed ≡ false → old.buffer.items ≡ [] → Puts written faults old from mid via put →
    Puts written faults mid via new to [] → put ≡ text →
    IsPut new (written to) (faults to) (written from) (faults from) text
put_whole {S} {written} {faults} {old} {mid} {new} {from} {via} {to} {put} {text} fine empty p q same =
    let P : List ℕ →
    Type 0 = λ t. IsPut new (written to) (faults to) (written from) (faults from) t in
    subst P (append-nil put ∙ same) (q.after (written from) (faults from) put (p.after (written from) (faults from) [] (begun old (written from) (faults from) fine empty)))

-- where no fault came and nothing waits, the text was written
pub whole_appended : {line : Line} {written start : Option (List ℕ)} {faults count : ℕ} {text : List ℕ} → line.failed ≡ false → (line.failed ≡ false → line.buffer.items ≡ []) → IsPut line written faults start count text → HasAppended start written text
whole_appended {line} {written} {start} {faults} {count} {text} fine empty put =
    let none = unsent_none line.failed line.buffer.items put.unsent count faults fine put.waits
    ∙ empty fine in
    let P : List ℕ → Type 0 = λ t. HasAppended start written t in
    subst P (sym (put.whole ∙ ap (λ u. put.sent ++ u) none ∙ append-nil put.sent)) put.appended

after_fault : (failed : Bool) (waiting unsent : List ℕ) (count faults : ℕ) → failed ≡ true →
    IsUnsent failed waiting count faults unsent → (0 < length unsent) × HasRisen count faults
after_fault true waiting unsent count faults _ u = u
after_fault false waiting unsent count faults e u = cc

-- where a fault came, a proper prefix was written
pub some_stopped : {line : Line} {written start : Option (List ℕ)} {faults count : ℕ} {text : List ℕ} → line.failed ≡ true → IsPut line written faults start count text → HasStopped start written text × HasRisen count faults
some_stopped {line} {written} {start} {faults} {count} {text} failed put =
    let left = after_fault line.failed line.buffer.items put.unsent count faults failed put.waits in
    (record { sent = put.sent; unsent = put.unsent; whole = put.whole; some_unsent = left.0; appended = put.appended }, left.1)

-- a text is put by another name
pub puts_as : {S : Type 0} {written : S → Option (List ℕ)} {faults : S → ℕ} {old new : Line} {from to : S} {a b : List ℕ} →
    a ≡ b → Puts written faults old from new to a → Puts written faults old from new to b
puts_as {S} {written} {faults} {old} {new} {from} {to} {a} {b} same put =
    subst (λ t. Puts written faults old from new to t) same put

-- nothing was put
pub puts_none : {S : Type 0} {written : S → Option (List ℕ)} {faults : S → ℕ} {line : Line} {out : S} → Puts written faults line out line out []
puts_none {S} {written} {faults} {line} {out} = record {
  after = λ start count before put. subst (λ text. IsPut line (written out) (faults out) start count text) (sym (append-nil before)) put;
}

waits_kept : (failed : Bool) (old new unsent text : List ℕ) (count faults : ℕ) →
    (failed ≡ false → new ≡ old ++ text) → IsUnsent failed old count faults unsent →
    IsUnsent failed new count faults (unsent ++ text)
waits_kept false old new unsent text count faults more u = ap (λ waiting. waiting ++ text) u ∙ sym (more refl)
waits_kept true old new unsent text count faults more (some, risen) = (omega (arith, length-append unsent text), risen)

-- a text waits behind the others
pub puts_kept : {S : Type 0} {written : S → Option (List ℕ)} {faults : S → ℕ} {old new : Line} {out : S} {text : List ℕ} →
    new.failed ≡ old.failed → (old.failed ≡ false → new.buffer.items ≡ old.buffer.items ++ text) →
    Puts written faults old out new out text
puts_kept {S} {written} {faults} {old} {new} {out} {text} failed more = record {
  after = λ start count before put. record {
    sent = put.sent;
    unsent = put.unsent ++ text;
    whole = ap (λ told. told ++ text) put.whole ∙ append_assoc put.sent put.unsent text;
    appended = put.appended;
    counted = put.counted;
    waits = rw failed (waits_kept old.failed old.buffer.items new.buffer.items put.unsent text count (faults out) more put.waits);
  };
}
