-- What follows of a line from what it says.
use Rattle.std.proofs.Common.{◌≡◌, ℕ, ◌<◌, Bool, true, false, not, ◌==◌, List, length, Option, Some, None, Result, Ok, Err, if◌then◌else◌, refl, sym, ap, subst, ◌∙◌}
use Rattle.std.specs.Prelude.{nat_lt}
use Rattle.std.specs.Option.{option_map, is_some}
use Rattle.std.specs.List.{list_all}
use Rattle.std.specs.Str.{is_utf8}
use Rattle.std.proofs.lemmas.Bool.{ltb-true, and_parts}
use Rattle.std.proofs.lemmas.List.{length-map}
use Rattle.host_script.specs.FirstWord.{first_word}
use Rattle.host_script.specs.Form.{form_of, command_form}
use Rattle.host_script.specs.Images.{number}
use Rattle.host_script.specs.LineForm.{Before, line_reading, spoken, said, row, image_row, app_row, first_of, has_room, is_due, is_word}
use Rattle.host_script.specs.Lines.{is_passed_over}
use Rattle.host_script.specs.Outcome.{and_then, unless}
use Rattle.host_script.specs.Row.{command_row}
use Rattle.host_script.specs.Slot.{or_cause, new_image, app_image, path_word, context_name}
use Rattle.host_script.specs.State.{Kept, CanTake, before_in}
use Rattle.host_script.specs.Words.{words, word}
use Rattle.cli_words.specs.Name.{is_name}
use Rattle.host_script.specs.declared.cause.LineCause.{LineCause}
use Rattle.host_script.specs.declared.cause.LineCause.TheVariants as cause
use Rattle.host_script.specs.declared.first_word.CommandWord.{CommandWord}
use Rattle.host_script.specs.declared.first_word.FirstWord.{FirstWord}
use Rattle.host_script.specs.declared.first_word.FirstWord.TheVariants as first
use Rattle.host_script.specs.declared.form.CommandForm.{CommandForm}
use Rattle.host_script.specs.declared.form.Form.{Form}
use Rattle.host_script.specs.declared.form.Form.TheVariants as form
use Rattle.host_script.specs.declared.line_form.LineForm.{LineForm}
use Rattle.host_script.specs.declared.line_form.LineForm.TheVariants.{Image, App, Thread, Command}

pub unless_ok : {A : Type 0} (t : Bool) (why : LineCause) (next : Result A LineCause) (value : A) →
    unless t why next ≡ Ok value → (t ≡ true) × (next ≡ Ok value)
unless_ok true why next value e = (refl, e)
unless_ok false why next value e = cc

pub and_then_ok : {A B : Type 0} (reading : Result A LineCause) (next : A → Result B LineCause) (value : B) →
    and_then reading next ≡ Ok value → (a : A) × ((reading ≡ Ok a) × (next a ≡ Ok value))
and_then_ok (Ok a) next value e = (a, (refl, e))
and_then_ok (Err why) next value e = cc

pub or_cause_ok : {A : Type 0} (o : Option A) (why : LineCause) (a : A) → or_cause o why ≡ Ok a → o ≡ Some a
or_cause_ok None why a e = cc
or_cause_ok (Some x) why a e = cc

exactly_is : {A : Type 0} (t : Bool) (form found : A) → (if t then Some form else None) ≡ Some found → found ≡ form
exactly_is true form found e = cc
exactly_is false form found e = cc

mapped_is : {A B : Type 0} (f : A → B) (o : Option A) (found : B) → option_map f o ≡ Some found → (a : A) × (found ≡ f a)
mapped_is f None found e = cc
mapped_is f (Some a) found e = (a, cc)

not_there : {A : Type 0} (o : Option A) → not (is_some o) ≡ true → o ≡ None
not_there None e = refl
not_there (Some a) e = cc

pub ok_is : {A : Type 0} {a b : A} → ◌≡◌ {A = Result A LineCause} (Ok a) (Ok b) → a ≡ b
ok_is e = cc

pub some_is : {A : Type 0} {a b : A} → Some a ≡ Some b → a ≡ b
some_is e = cc

none_some : (found : LineForm) → ◌≡◌ {A = Result (Option LineForm) LineCause} (Ok None) (Ok (Some found)) → ⊥
none_some found e = cc

some_none : (found : LineForm) → Some found ≡ None → ⊥
some_none found e = cc

-- what a form says of its line
abbrev pub Says : Before → Option FirstWord → List (List ℕ) → LineForm → Type 0
Says above f ws (Image name path) =
    (f ≡ Some first.Image) × (word ws 1 ≡ name) × (number above.images name ≡ None) × (length above.images < 256)
Says above f ws (App name image) = (f ≡ Some first.App) × (word ws 1 ≡ name)
Says above f ws Thread = (f ≡ Some first.Thread) × (above.threads < 8)
Says above f ws (Command command) =
    ((w : CommandWord) × (f ≡ Some (first.Command w))) × (above.commands < 1024) × (0 < above.threads)

module _ (above : Before) (ws : List (List ℕ)) where
  in_image : (found : LineForm) → image_row above ws ≡ Ok found → length above.images < 256 →
      Says above (Some first.Image) ws found
  in_image found e few =
      let named = and_then_ok (new_image above.images (word ws 1)) _ found e in
      let path = and_then_ok (path_word (word ws 2)) _ found named.1.1 in
      let name = and_then_ok (context_name (word ws 1)) _ named.0 named.1.0 in
      let is_word = (unless_ok (is_name (word ws 1)) _ _ _ name.1.0).1 in
      let new = unless_ok (not (is_some (number above.images name.0))) _ _ _ name.1.1 in
      let none = not_there (number above.images name.0) new.0 in
      let P : LineForm → Type 0 = Says above (Some first.Image) ws in
      let whole : name.0 ≡ word ws 1 = ok_is (sym is_word) in
      let same : name.0 ≡ named.0 = ok_is new.1 in
      let undeclared : number above.images named.0 ≡ None = ap (number above.images) (sym same) ∙ none in
      subst P (ok_is path.1.1) (refl, sym whole ∙ same, undeclared, few)

  in_app : (found : LineForm) → app_row above ws ≡ Ok found → Says above (Some first.App) ws found
  in_app found e =
      let image = and_then_ok (app_image above.images above.listed (word ws 1)) _ found e in
      let P : LineForm → Type 0 = Says above (Some first.App) ws in
      subst P (ok_is image.1.1) (refl, refl)

  in_thread : (found : LineForm) → ◌≡◌ {A = Result LineForm LineCause} (Ok Thread) (Ok found) → above.threads < 8 → Says above (Some first.Thread) ws found
  in_thread found e few =
      let P : LineForm → Type 0 = Says above (Some first.Thread) ws in subst P (ok_is e) (refl, few)

  in_command : (w : CommandWord) (f : CommandForm) (found : LineForm) → row above (form.Command f) ws ≡ Ok found →
      above.commands < 1024 → 0 < above.threads → Says above (Some (first.Command w)) ws found
  in_command w f found e few some =
      let command = and_then_ok (command_row above.images f ws) _ found e in
      let P : LineForm → Type 0 = Says above (Some (first.Command w)) ws in
      subst P (ok_is command.1.1) ((w, refl), few, some)

  in_row : (f : FirstWord) (g : Form) (found : LineForm) → form_of f ws ≡ Some g → is_due above f ≡ true →
      has_room above g (length ws) ≡ true → row above g ws ≡ Ok found → Says above (Some f) ws found
  in_row first.Image g found is due room e =
      let image = exactly_is (length ws == 3) form.Image g is in
      in_image found (rw image at e) (ltb-true _ _ (rw image at room))
  in_row first.App g found is due room e =
      let app = exactly_is (length ws == 2) form.App g is in in_app found (rw app at e)
  in_row first.Thread g found is due room e =
      let thread = exactly_is (length ws == 1) form.Thread g is in
      in_thread found (rw thread at e) (ltb-true _ _ (rw thread at room))
  in_row (first.Command w) g found is due room e =
      let command = mapped_is form.Command (command_form w ws) g is in
      let few = and_parts (nat_lt above.commands 1024) _ (rw command.1 at room) in
      in_command w command.0 found (rw command.1 at e) (ltb-true _ _ few.0) (ltb-true _ _ due)

  in_spoken : (found : LineForm) → spoken above ws ≡ Ok found → Says above (first_word (word ws 0)) ws found
  in_spoken found e =
      let texts = unless_ok (list_all is_word ws) _ _ found e in
      let begun = and_then_ok (or_cause (first_word (word ws 0)) cause.UnknownWord) _ found texts.1 in
      let first = or_cause_ok (first_word (word ws 0)) _ begun.0 begun.1.0 in
      let due = unless_ok (is_due above begun.0) _ _ found begun.1.1 in
      let formed = and_then_ok (or_cause (form_of begun.0 ws) cause.Arity) _ found due.1 in
      let form = or_cause_ok (form_of begun.0 ws) _ formed.0 formed.1.0 in
      let line = and_then_ok (row above formed.0 ws) _ found formed.1.1 in
      let room = unless_ok (has_room above formed.0 (length ws)) _ _ found line.1.1 in
      let says = in_row begun.0 formed.0 line.0 form due.0 room.0 line.1.0 in
      let P : Option FirstWord → LineForm → Type 0 = λ f l. Says above f ws l in
      let Q : Option FirstWord → Type 0 = λ f. P f found in
      subst Q (sym first) (subst (P (Some begun.0)) (ok_is room.1) says)

module _ (above : Before) (line : List ℕ) where
  says_after : (t : Bool) → is_passed_over line ≡ t → (found : LineForm) → line_reading above line ≡ Ok (Some found) →
      Says above (first_of line) (words line) found
  unfolding line_reading
  says_after true passed found e = let none : Ok None ≡ Ok (Some found) = rw passed at e in absurd (none_some found none)
  says_after false passed found e =
      let read = unless_ok (is_utf8 line) cause.NotUtf8 _ (Some found) (rw passed at e) in
      let spoke = and_then_ok (spoken above (words line)) _ (Some found) read.1 in
      let says = in_spoken above (words line) found (spoke.1.0 ∙ ap Ok (some_is (ok_is spoke.1.1))) in
      let P : Option FirstWord → Type 0 = λ f. Says above f (words line) found in
      let first : first_word (word (words line) 0) ≡ first_of line = sym (rw passed refl) in
      subst P first says

  pub says : (found : LineForm) → line_reading above line ≡ Ok (Some found) → Says above (first_of line) (words line) found
  says found e = says_after (is_passed_over line) refl found e

  says_nothing_after : (t : Bool) → is_passed_over line ≡ t → line_reading above line ≡ Ok None → first_of line ≡ None
  unfolding line_reading
  says_nothing_after true passed e = rw passed refl
  says_nothing_after false passed e =
      let read = unless_ok (is_utf8 line) cause.NotUtf8 _ None (rw passed at e) in
      let spoke = and_then_ok (spoken above (words line)) _ None read.1 in
      absurd (some_none spoke.0 (ok_is spoke.1.1))

  pub says_nothing : line_reading above line ≡ Ok None → first_of line ≡ None
  says_nothing e = says_nothing_after (is_passed_over line) refl e

-- what is said of a line can be taken
pub can_take : (kept : Kept) (f : Option FirstWord) (ws : List (List ℕ)) (form : LineForm) →
    Says (before_in kept) f ws form → CanTake kept form
can_take kept f ws (Image name path) said = (subst (λ n. n < 256) (length-map kept.images (λ image. image.0)) said.3, said.2)
can_take kept f ws (App name image) said = tt
can_take kept f ws Thread said = said.1
can_take kept f ws (Command command) said = said.1
