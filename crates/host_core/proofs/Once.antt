-- A context is made once, so its row says whether it is collectible.
use Rattle.std.proofs.Common.{◌≡◌, ℕ, ◌+◌, ◌≤◌, Bool, true, false, not, ◌&&◌, ◌||◌, cond, eqb, List, [], ◌∷◌, ◌++◌, length, Option, Some, None, refl, sym, ap, subst, ◌∙◌, append_assoc, arith, true≢false}
use Rattle.std.specs.List.{cons_option, filter_map, find, list_any, slice_get}
use Rattle.std.specs.Option.{is_some, option_map}
use Rattle.std.proofs.lemmas.Bool.{eqb-true}
use Rattle.std.proofs.lemmas.Bool.Decides.{nat_tests}
use Rattle.std.proofs.lemmas.List.{length-append}
use Rattle.std.proofs.lemmas.List.Elements.{filter_map-append}
use Rattle.load_context.specs.declared.contexts.Context.{Context}
use Rattle.load_context.specs.declared.contexts.ContextRow.{ContextRow}
use Rattle.load_context.specs.Contexts.{default_context, has_number}
use Rattle.load_context.specs.Contexts as table
use Rattle.host_events.specs.declared.journal.Entry.{Entry}
use Rattle.host_events.specs.Contexts.{is_collectible, is_collectible_kind, is_freed, is_live, is_made, is_new_collectible, is_number, made_context, made_count, makes, makes_collectible, new_of}
use Rattle.host_events.specs.Files.{Files}
use Rattle.host_events.specs.Journal.{IsLegal}
use Rattle.host_events.proofs.Numbers.{list_any-parts, made-from_makes, made-others, number-made, number_of_made}
use Rattle.host_events.proofs.Push.{made_count-push}
use Rattle.host_core.specs.Tables.{IsNotGone, contexts_of}
use Rattle.host_core.proofs.Seen.{Tells, and_none, made_collectible, new_at, row_first, row_now, rows_of, says_first}

pub made_count-front : (before more : List Entry) → made_count before ≤ made_count (before ++ more)
made_count-front before more =
    omega (
      arith,
      ap length (filter_map-append (λ e. made_context e.reply) before more),
      length-append (filter_map (λ e. made_context e.reply) before) (filter_map (λ e. made_context e.reply) more),
    )

-- a number that was given is not given again
none_later : (files : Files) (before after : List Entry) (c : ℕ) → IsLegal files (before ++ after) → c ≤ made_count before →
    list_any (λ e. makes c e.reply) after ≡ false
none_later files before after c legal past = at (list_any (λ e. makes c e.reply) after) refl
  where
    at : (b : Bool) → list_any (λ e. makes c e.reply) after ≡ b → b ≡ false
    at false is = refl
    at true is =
        let parts = list_any-parts (λ e. makes c e.reply) after is in
        let entry = parts.1 in
        let whole : before ++ after ≡ (before ++ parts.0) ++ entry ∷ parts.2 =
        ap (λ l. before ++ l) parts.3 ∙ sym (append_assoc before parts.0 (entry ∷ parts.2)) in
        let number : c ≡ made_count (before ++ parts.0) + 1 =
        number-made files (before ++ parts.0) entry.event entry.reply c (legal (before ++ parts.0) entry parts.2 whole) (made-from_makes c entry.reply parts.4) in
        absurd (omega (arith, number, past, made_count-front before parts.0))

none_collectible : (c : ℕ) (entries : List Entry) → list_any (λ e. makes c e.reply) entries ≡ false →
    list_any (λ e. makes_collectible c e.event e.reply) entries ≡ false
none_collectible c entries none = at (list_any (λ e. makes_collectible c e.event e.reply) entries) refl
  where
    at : (b : Bool) → list_any (λ e. makes_collectible c e.event e.reply) entries ≡ b → b ≡ false
    at false is = refl
    at true is = absurd (true≢false (sym (made_collectible c entries is) ∙ none))

and_false : (a : Bool) → (a && false) ≡ false
and_false true = refl
and_false false = refl

pub or_false : (a : Bool) → (a || false) ≡ a
or_false true = refl
or_false false = refl

and_true : (a : Bool) → (a && true) ≡ a
and_true true = refl
and_true false = refl

kind_first : (files : Files) (journal before after : List Entry) (c : ℕ) (row : ContextRow) → IsLegal files (before ++ after) → is_live journal c ≡ true →
    slice_get (filter_map (new_at journal c) after) 0 ≡ Some row → row.collectible ≡ list_any (λ e. makes_collectible c e.event e.reply) after
kind_first files journal before [] c row legal live is = cc
kind_first files journal before (e ∷ es) c row legal live is =
    let rest : IsLegal files ((before ++ e ∷ []) ++ es) = subst (IsLegal files) (sym (append_assoc before (e ∷ []) es)) legal in
    at (made_context e.reply) refl rest (kind_first files journal (before ++ e ∷ []) es c row rest live) is
  where
    rows : List ContextRow
    rows = filter_map (new_at journal c) es

    any : Bool
    any = list_any (λ x. makes_collectible c x.event x.reply) es

    skipped : makes c e.reply ≡ false → (slice_get rows 0 ≡ Some row → row.collectible ≡ any) →
        slice_get (cons_option (new_at journal c e) rows) 0 ≡ Some row → row.collectible ≡ (makes_collectible c e.event e.reply || any)
    skipped other later first =
        let out : new_at journal c e ≡ None =
        ap (λ b. cond (is_live journal c && b) (option_map (row_now journal c) (new_of e.event)) None) other ∙ sym (and_none (is_live journal c) (option_map (row_now journal c) (new_of e.event))) in
        let skip : makes_collectible c e.event e.reply ≡ false = ap (λ b. is_new_collectible e.event && b) other ∙ and_false (is_new_collectible e.event) in
        later (ap (λ o. slice_get (cons_option o rows) 0) (sym out) ∙ first) ∙ ap (λ b. b || any) (sym skip)

    here : (d : ℕ) → made_context e.reply ≡ Some d → d ≡ c → IsLegal files ((before ++ e ∷ []) ++ es) →
        slice_get (cons_option (new_at journal c e) rows) 0 ≡ Some row → row.collectible ≡ (makes_collectible c e.event e.reply || any)
    here d made same rest first =
        let is_reply = legal before e es refl in
        let new = made-others files before e.event e.reply d is_reply made in
        let number : d ≡ made_count before + 1 = number-made files before e.event e.reply d is_reply made in
        let count : made_count (before ++ e ∷ []) ≡ made_count before + 1 = made_count-push before e ∙ ap (λ o. made_count before + cond (is_some o) 1 0) made in
        let none : any ≡ false = none_collectible c es (none_later files (before ++ e ∷ []) es c rest (omega (arith, same, number, count))) in
        let own_number : eqb d c ≡ true = grind (arith, nat_tests) in
        let makes_it : makes c e.reply ≡ true = ap (is_number c) made ∙ own_number in
        let now : new_at journal c e ≡ Some (row_now journal c (new.0, new.1)) =
        ap (λ b. cond (b && makes c e.reply) (option_map (row_now journal c) (new_of e.event)) None) live
        ∙ ap (λ b. cond b (option_map (row_now journal c) (new_of e.event)) None) makes_it
        ∙ ap (λ v. option_map (row_now journal c) (new_of v)) new.2 in
        let row_is : Some (row_now journal c (new.0, new.1)) ≡ Some row = ap (λ o. slice_get (cons_option o rows) 0) (sym now) ∙ first in
        let kind : is_collectible_kind new.1 ≡ row.collectible = cc (row_is) in
        let own : makes_collectible c e.event e.reply ≡ is_collectible_kind new.1 =
        ap (λ b. is_new_collectible e.event && b) makes_it ∙ and_true (is_new_collectible e.event) ∙ ap is_new_collectible new.2 in
        sym kind ∙ sym own ∙ sym (or_false (makes_collectible c e.event e.reply)) ∙ ap (λ b. makes_collectible c e.event e.reply || b) (sym none)

    by : (d : ℕ) (b : Bool) → eqb d c ≡ b → made_context e.reply ≡ Some d → IsLegal files ((before ++ e ∷ []) ++ es) →
        (slice_get rows 0 ≡ Some row → row.collectible ≡ any) →
        slice_get (cons_option (new_at journal c e) rows) 0 ≡ Some row → row.collectible ≡ (makes_collectible c e.event e.reply || any)
    by d true same made rest later first = here d made (eqb-true d c same) rest first
    by d false other made rest later first = skipped (ap (is_number c) made ∙ other) later first

    at : (o : Option ℕ) → made_context e.reply ≡ o → IsLegal files ((before ++ e ∷ []) ++ es) →
        (slice_get rows 0 ≡ Some row → row.collectible ≡ any) →
        slice_get (cons_option (new_at journal c e) rows) 0 ≡ Some row → row.collectible ≡ (makes_collectible c e.event e.reply || any)
    at None none rest later first = skipped (ap (is_number c) none) later first
    at (Some d) made rest later first = by d (eqb d c) refl made rest later first

-- context 0 was not made
zero_not_made : (files : Files) (journal : List Entry) → IsLegal files journal → is_made journal 0 ≡ false
zero_not_made files journal legal = at (is_made journal 0) refl
  where
    at : (b : Bool) → is_made journal 0 ≡ b → b ≡ false
    at false is = refl
    at true is = absurd (omega (arith, (number_of_made files journal 0 legal is).0))

kind_of : (files : Files) (journal : List Entry) (c : ℕ) (row : ContextRow) → IsLegal files journal → table.row_of (contexts_of journal) c ≡ Some row →
    row.collectible ≡ is_collectible journal c
kind_of files journal c row legal = at (eqb 0 c) refl
  where
    at : (b : Bool) → eqb 0 c ≡ b → option_map (λ x. x.row) (cond b (Some default_context) (find (has_number c) (rows_of journal))) ≡ Some row →
        row.collectible ≡ is_collectible journal c
    at true is found =
        let zero : 0 ≡ c = eqb-true 0 c is in
        let default : default_context.row ≡ row = cc (found) in
        ap (λ r. r.collectible) (sym default) ∙ sym (none_collectible 0 journal (zero_not_made files journal legal)) ∙ ap (is_collectible journal) zero
    at false is found =
        let first : slice_get (filter_map (new_at journal c) journal) 0 ≡ Some row = sym (row_first journal c) ∙ found in
        kind_first files journal [] journal c row legal (says_first journal c row first).1 first

not_made : (zero made freed : Bool) → (zero || (made && not freed)) ≡ false → ((zero || (made && not freed)) || not freed) ≡ true → made ≡ false
not_made true made freed gone there = cc
not_made false true true gone there = cc
not_made false true false gone there = cc
not_made false false freed gone there = refl

-- what the table says of the kind of a context that was not freed
pub collectible_some : (files : Files) (journal now : List Entry) (list : List Context) (c : ℕ) (row : ContextRow) → list ≡ contexts_of journal → IsLegal files journal →
    journal ≡ now → Some row ≡ table.row_of list c → row.collectible ≡ is_collectible now c
collectible_some files journal now list c row is legal same found =
    kind_of files journal c row legal (ap (λ l. table.row_of l c) (sym is) ∙ sym found) ∙ ap (λ j. is_collectible j c) same

pub collectible_none : (journal : List Entry) (c : ℕ) (found : Option ContextRow) → Tells journal c found → None ≡ found → IsNotGone journal c →
    false ≡ is_collectible journal c
collectible_none journal c found tells is there =
    let gone : is_live journal c ≡ false = sym tells.there ∙ ap is_some (sym is) in
    sym (none_collectible c journal (not_made (eqb c 0) (is_made journal c) (is_freed journal c) gone there))
