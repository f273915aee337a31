-- What a text reads back as, and the line at which it is refused, from the stages that its lines lead to.
use Rattle.std.proofs.Common.{◌≡◌, ℕ, ◌+◌, ◌⊎◌, inl, inr, List, [], ◌∷◌, ◌++◌, Option, Some, None, length, refl, sym, ◌∙◌, ap, subst, append_assoc, append-nil, arith, length-append}
use Rattle.std.specs.Prelude.{codes, IfSome}
use Rattle.std.specs.List.{AllByRecursion}
use Rattle.std.specs.Option.{option_and_then}
use Rattle.std.proofs.lemmas.Option.{option_and_then_some}
use Rattle.host_events.specs.declared.journal.Entry.{Entry}
use Rattle.host_events.specs.declared.outcome.CommandEnd.{CommandEnd}
use Rattle.host_report.specs.LineStages.{Stage, stage_after, stages_after, IsReached}
use Rattle.host_report.specs.Laws.{ReadsInOneWay, RefusesOnce, RefusesNoReport}
use Rattle.host_report.specs.ReadBack.{IsAmiss, IsBegun, IsReadBack, IsRefusedAt, IsUnbroken, lines_text}
use Rattle.host_report.proofs.LineParts.{all_left, all_push, line_last, line_then, lines_both, lines_front, no_line, rest_none, same_line}
use Rattle.host_report.proofs.SoundStages.{IsAfter, stage_begun, stages_sound}
use Rattle.host_report.proofs.StageLemmas.{report_passes, stages_both}

-- lines with which some report begins lead somewhere
front_taken : (lines : List (List ℕ)) → AllByRecursion IsUnbroken lines → IsBegun (lines_text lines) →
    (stage : Stage) × (stages_after Stage.Head lines ≡ Some stage)
front_taken lines unbroken (ends, journal, rest, (printable, whole)) =
    let p = report_passes ends journal printable in
    let front = lines_front lines p.lines rest unbroken p.unbroken (whole ∙ p.whole) in
    let more = front.0 in
    let same : p.lines ≡ lines ++ more = front.1 in
    option_and_then_some (λ next. stages_after next more) (stages_after Stage.Head lines) (Stage.Whole ends journal)
    (sym (stages_both Stage.Head lines more) ∙ ap (stages_after Stage.Head) (sym same) ∙ p.reached)
    (λ stage e _. (stage, e))

-- lines and what follows them that are a report lead to all of it, and nothing follows
whole_taken : (lines : List (List ℕ)) (rest : List ℕ) (ends : List (List CommandEnd)) (journal : List Entry) →
    AllByRecursion IsUnbroken lines → IsUnbroken rest → IsReadBack (lines_text lines ++ rest) (ends, journal) →
    (stages_after Stage.Head lines ≡ Some (Stage.Whole ends journal)) × (rest ≡ [])
whole_taken lines rest ends journal unbroken last (printable, whole) =
    let p = report_passes ends journal printable in
    let front = lines_front lines p.lines rest unbroken p.unbroken (whole ∙ p.whole) in
    let none = rest_none rest front.0 last front.2 in (
      ap (stages_after Stage.Head) (sym (front.1 ∙ ap (λ more. lines ++ more) none.0 ∙ append-nil lines)) ∙ p.reached,
      none.1,
    )

-- nothing was read
pub reached_none : (text : List ℕ) → IsReached text text 1 Stage.Head
reached_none text = record { before = []; whole = refl; unbroken = tt; reached = refl; counted = refl }

-- a line more was read
pub reached_next : {text rest : List ℕ} {line : ℕ} {from : Stage} → IsReached text rest line from →
    (own after : List ℕ) (to : Stage) → rest ≡ own ++ codes "\n" ++ after → IsUnbroken own → stage_after from own ≡ Some to →
    IsReached text after (line + 1) to
reached_next {text} {rest} {line} {from} r own after to parted unbroken step =
    let counted : line ≡ length r.before + 1 = r.counted in
    record {
      before = r.before ++ own ∷ [];
      whole = r.whole ∙ ap (λ t. lines_text r.before ++ t) parted ∙ sym (append_assoc (lines_text r.before) (own ++ codes "\n") after)
          ∙ ap (λ t. t ++ after) (sym (line_last r.before own));
      unbroken = all_push IsUnbroken r.before own r.unbroken unbroken;
      reached = stages_both Stage.Head r.before (own ∷ []) ∙ ap (option_and_then (λ next. stages_after next (own ∷ []))) r.reached
          ∙ ap (option_and_then (λ next. stages_after next [])) step;
      counted = omega (arith, length-append r.before (own ∷ []));
    }

-- what was read so far
reached_sound : {text rest : List ℕ} {line : ℕ} {stage : Stage} (r : IsReached text rest line stage) → IsAfter Stage.Head (lines_text r.before) stage
reached_sound {text} {rest} {line} {stage} r =
    let P : Option Stage → Type 0 = λ o. IfSome o (IsAfter Stage.Head (lines_text r.before)) in
    subst P r.reached (stages_sound Stage.Head r.before tt)

reached_begun : {text rest : List ℕ} {line : ℕ} {stage : Stage} (r : IsReached text rest line stage) → IsBegun (lines_text r.before)
reached_begun {text} {rest} {line} {stage} r =
    let sound = reached_sound r in
    subst IsBegun sound.1 (stage_begun stage sound.0)

-- no report goes on with the line
pub refused_line : {text rest : List ℕ} {line : ℕ} {from : Stage} → IsReached text rest line from →
    (own after : List ℕ) → rest ≡ own ++ codes "\n" ++ after → IsUnbroken own → stage_after from own ≡ None → IsRefusedAt text line
refused_line {text} {rest} {line} {from} r own after parted unbroken none = record {
  before = r.before;
  rest = rest;
  whole = r.whole;
  unbroken = r.unbroken;
  begun = reached_begun r;
  amiss = inl (
    own,
    after,
    parted,
    unbroken,
    λ begun.
        let all = r.before ++ own ∷ [] in
        let spelled : lines_text all ≡ lines_text r.before ++ own ++ codes "\n" = line_last r.before own ∙ sym (append_assoc (lines_text r.before) own (codes "\n")) in
        let taken = front_taken all (all_push IsUnbroken r.before own r.unbroken unbroken) (subst IsBegun (sym spelled) begun) in
        let refused : stages_after Stage.Head all ≡ None =
        stages_both Stage.Head r.before (own ∷ []) ∙ ap (option_and_then (λ next. stages_after next (own ∷ []))) r.reached
        ∙ ap (option_and_then (λ next. stages_after next [])) none in
        let found : stages_after Stage.Head all ≡ Some taken.0 = taken.1 in
        (cc),
  );
  counted = r.counted;
}

-- what has no LF does not end a report
pub refused_last : {text rest : List ℕ} {line : ℕ} {stage : Stage} → IsReached text rest line stage → IsUnbroken rest →
    ((ends : List (List CommandEnd)) (journal : List Entry) → stage ≡ Stage.Whole ends journal → rest ≡ [] → ⊥) → IsRefusedAt text line
refused_last {text} {rest} {line} {stage} r last other = record {
  before = r.before;
  rest = rest;
  whole = r.whole;
  unbroken = r.unbroken;
  begun = reached_begun r;
  amiss = inr (
    last,
    λ ends journal read.
        let taken = whole_taken r.before rest ends journal r.unbroken last read in
        let found : stages_after Stage.Head r.before ≡ Some (Stage.Whole ends journal) = taken.0 in
        let reached : stages_after Stage.Head r.before ≡ Some stage = r.reached in
        other ends journal (cc) taken.1,
  );
  counted = r.counted;
}

-- all of it was read
pub read_whole : {text rest : List ℕ} {line : ℕ} (ends : List (List CommandEnd)) (journal : List Entry) →
    IsReached text rest line (Stage.Whole ends journal) → rest ≡ [] → IsReadBack text (ends, journal)
read_whole {text} {rest} {line} ends journal r none =
    let sound = reached_sound r in
    (sound.0, r.whole ∙ ap (λ t. lines_text r.before ++ t) none ∙ append-nil (lines_text r.before) ∙ sym sound.1)

-- a report reads back in one way
pub one_reading : ReadsInOneWay
one_reading text (ends, journal) (others, other) (p, e) (q, f) =
    let one = report_passes ends journal p in
    let two = report_passes others other q in
    let front = lines_front one.lines two.lines [] one.unbroken two.unbroken (append-nil (lines_text one.lines) ∙ sym one.whole ∙ sym e ∙ f ∙ two.whole) in
    let none = rest_none [] front.0 tt front.2 in
    let same : two.lines ≡ one.lines = front.1 ∙ ap (λ more. one.lines ++ more) none.0 ∙ append-nil one.lines in
    let both : Some (Stage.Whole ends journal) ≡ Some (Stage.Whole others other) =
    sym one.reached ∙ ap (stages_after Stage.Head) (sym same) ∙ two.reached in
    let first : ends ≡ others = cc in
    let second : journal ≡ other = cc in
    (cc)

-- some report begins with the first of lines with which one begins
begun_left : (lines others : List (List ℕ)) → IsBegun (lines_text (lines ++ others)) → IsBegun (lines_text lines)
begun_left lines others (ends, journal, rest, (printable, whole)) = (
  ends,
  journal,
  lines_text others ++ rest,
  (
    printable,
    sym (append_assoc (lines_text lines) (lines_text others) rest) ∙ ap (λ t. t ++ rest) (sym (lines_both lines others)) ∙ whole,
  ),
)

-- a line that is amiss stands in no front of a report
amiss_apart : (before : List (List ℕ)) (rest own after : List ℕ) → IsUnbroken own → rest ≡ own ++ 10 ∷ after → IsAmiss (lines_text before) rest →
    IsBegun (lines_text (before ++ own ∷ [])) → ⊥
amiss_apart before rest own after unbroken parted (inl (line, more, whole, own_unbroken, none)) begun =
    let same = same_line own line after more unbroken own_unbroken (sym parted ∙ whole ∙ append_assoc line (codes "\n") more) in
    let spelled : lines_text (before ++ own ∷ []) ≡ lines_text before ++ line ++ codes "\n" =
    line_last before own ∙ ap (λ l. lines_text before ++ (l ++ codes "\n")) same.0 ∙ sym (append_assoc (lines_text before) line (codes "\n")) in
    none (subst IsBegun spelled begun)
amiss_apart before rest own after unbroken parted (inr (last, none)) begun = no_line rest own after last parted

-- the lines of two fronts of a text: one are the first of the other
compared : (lines others : List (List ℕ)) (rest more : List ℕ) → AllByRecursion IsUnbroken lines → AllByRecursion IsUnbroken others →
    lines_text lines ++ rest ≡ lines_text others ++ more →
    ((next : List (List ℕ)) × (others ≡ lines ++ next) × (rest ≡ lines_text next ++ more))
    ⊎ ((next : List (List ℕ)) × (lines ≡ others ++ next) × (more ≡ lines_text next ++ rest))
compared [] others rest more p q e = inl (others, refl, e)
compared (line ∷ lines) [] rest more p q e = inr (line ∷ lines, refl, sym e)
compared (line ∷ lines) (other ∷ others) rest more p q e =
    let both = same_line line other (lines_text lines ++ rest) (lines_text others ++ more) p.0 q.0
    (sym (line_then line lines rest) ∙ e ∙ line_then other others more) in
    let same : line ≡ other = both.0 in
    joined same (compared lines others rest more p.1 q.1 both.1)
  where
    joined : line ≡ other →
        ((next : List (List ℕ)) × (others ≡ lines ++ next) × (rest ≡ lines_text next ++ more))
        ⊎ ((next : List (List ℕ)) × (lines ≡ others ++ next) × (more ≡ lines_text next ++ rest)) →
        ((next : List (List ℕ)) × (other ∷ others ≡ (line ∷ lines) ++ next) × (rest ≡ lines_text next ++ more))
        ⊎ ((next : List (List ℕ)) × (line ∷ lines ≡ (other ∷ others) ++ next) × (more ≡ lines_text next ++ rest))
    joined same (inl (next, f, g)) = inl (next, cc, g)
    joined same (inr (next, f, g)) = inr (next, cc, g)

-- the lines before a refused line are all the lines with which some report begins
refused_before : (before others : List (List ℕ)) (rest more : List ℕ) (next : List (List ℕ)) → AllByRecursion IsUnbroken others →
    others ≡ before ++ next → rest ≡ lines_text next ++ more → IsAmiss (lines_text before) rest → IsBegun (lines_text others) → next ≡ []
refused_before before others rest more [] p e f amiss begun = refl
refused_before before others rest more (own ∷ next) p e f amiss begun =
    let all : AllByRecursion IsUnbroken (before ++ own ∷ next) = subst (AllByRecursion IsUnbroken) e p in
    let longer : before ++ own ∷ next ≡ (before ++ own ∷ []) ++ next = sym (append_assoc before (own ∷ []) next) in
    let own_unbroken = last_of before own (all_left IsUnbroken (before ++ own ∷ []) next (subst (AllByRecursion IsUnbroken) longer all)) in
    let front = begun_left (before ++ own ∷ []) next (subst (λ ls. IsBegun (lines_text ls)) (e ∙ longer) begun) in
    absurd (amiss_apart before rest own (lines_text next ++ more) own_unbroken (f ∙ line_then own next more) amiss front)
  where
    last_of : (lines : List (List ℕ)) (line : List ℕ) → AllByRecursion IsUnbroken (lines ++ line ∷ []) → IsUnbroken line
    last_of [] line p = p.0
    last_of (first ∷ lines) line p = last_of lines line p.1

-- a text is refused at one line at most
pub one_refusal : RefusesOnce
one_refusal text m n p q = at_one (compared p.before q.before p.rest q.rest p.unbroken q.unbroken (sym p.whole ∙ q.whole))
  where
    at_one : ((next : List (List ℕ)) × (q.before ≡ p.before ++ next) × (p.rest ≡ lines_text next ++ q.rest))
        ⊎ ((next : List (List ℕ)) × (p.before ≡ q.before ++ next) × (q.rest ≡ lines_text next ++ p.rest)) → m ≡ n
    at_one (inl (next, e, f)) =
        let none = refused_before p.before q.before p.rest q.rest next q.unbroken e f p.amiss q.begun in
        p.counted ∙ ap (λ ls. length ls + 1) (sym (e ∙ ap (λ more. p.before ++ more) none ∙ append-nil p.before)) ∙ sym q.counted
    at_one (inr (next, e, f)) =
        let none = refused_before q.before p.before q.rest p.rest next p.unbroken e f q.amiss p.begun in
        p.counted ∙ ap (λ ls. length ls + 1) (e ∙ ap (λ more. q.before ++ more) none ∙ append-nil q.before) ∙ sym q.counted

-- what reads back is refused at no line
pub read_not_refused : RefusesNoReport
read_not_refused text (ends, journal) line (printable, e) r = apart r.amiss
  where
    apart : IsAmiss (lines_text r.before) r.rest → ⊥
    apart (inl (own, after, parted, unbroken, none)) =
        none (
          ends,
          journal,
          after,
          (
            printable,
            append_assoc (lines_text r.before ++ own) (codes "\n") after ∙ append_assoc (lines_text r.before) own (codes "\n" ++ after)
                ∙ ap (λ t. lines_text r.before ++ t) (sym (parted ∙ append_assoc own (codes "\n") after)) ∙ sym r.whole ∙ e,
          ),
        )
    apart (inr (last, none)) = none ends journal (printable, sym r.whole ∙ e)
