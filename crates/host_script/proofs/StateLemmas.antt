-- What is kept of lines, with one line more.
use Rattle.std.proofs.Common.{◌≡◌, ℕ, ◌+◌, ◌<◌, Bool, true, false, cond, List, [], ◌∷◌, ◌++◌, length, Option, Some, None, Result, Ok, refl, sym, ap, subst, ◌∙◌, append_assoc, arith}
use Rattle.std.specs.Prelude.{nat_lt, filter}
use Rattle.std.specs.List.{filter_map, flat_map, cons_option}
use Rattle.std.proofs.lemmas.Bool.{lt-ltb}
use Rattle.std.proofs.lemmas.List.{append-nil, map-append, length-append}
use Rattle.std.proofs.lemmas.List.Elements.{filter_map-append, filter-append}
use Rattle.host_script.specs.Images.{names}
use Rattle.host_script.specs.LineForm.{Before, before, line_reading, first_of, name_if_image, name_if_app, is_thread, is_command}
use Rattle.host_script.specs.Script.{numbered, numbered_from, cause_of, line_causes, image_in, app_in, block_in}
use Rattle.host_script.specs.State.{Kept, before_in, with_form, all_blocks, block_lines, last_block, IsStateOf}
use Rattle.host_script.specs.Words.{words, word}
use Rattle.host_script.specs.declared.cause.LineCause.{LineCause}
use Rattle.host_script.specs.declared.command.Command.{Command as Commanded}
use Rattle.host_script.specs.declared.command.CommandLine.{CommandLine}
use Rattle.host_script.specs.declared.first_word.FirstWord.{FirstWord}
use Rattle.host_script.specs.declared.first_word.FirstWord.TheVariants as first
use Rattle.host_script.specs.declared.line_form.LineForm.{LineForm}
use Rattle.host_script.specs.declared.line_form.LineForm.TheVariants.{Image, App, Thread, Command}
use Rattle.host_script.proofs.SaidLemmas.{Says, says, says_nothing}

pub numbered_from-append : (above lines more : List (List ℕ)) →
    numbered_from above (lines ++ more) ≡ numbered_from above lines ++ numbered_from (above ++ lines) more
numbered_from-append above [] more = ap (λ a. numbered_from a more) (sym (append-nil above))
numbered_from-append above (line ∷ lines) more =
    ap (λ rest. record { number = length above + 1; reading = line_reading (before above) line } ∷ rest)
    (numbered_from-append (above ++ line ∷ []) lines more
    ∙ ap (λ a. numbered_from (above ++ line ∷ []) lines ++ numbered_from a more) (append_assoc above (line ∷ []) lines))

pub plus_none : (n : ℕ) → n ≡ n + 0
plus_none n = omega arith

flat_map-append : {A B : Type 0} (f : A → List B) (xs ys : List A) → flat_map f (xs ++ ys) ≡ flat_map f xs ++ flat_map f ys
flat_map-append f [] ys = refl
flat_map-append f (x ∷ xs) ys =
    ap (λ rest. f x ++ rest) (flat_map-append f xs ys) ∙ sym (append_assoc (f x) (flat_map f xs) (flat_map f ys))

-- a line `thread` after what is kept
thread_begun : (t : Bool) (threads : ℕ) (done : List (List CommandLine)) (block : List CommandLine) → nat_lt 0 threads ≡ t →
    (flat_map block_lines done ++ last_block threads block) ++ None ∷ []
    ≡ flat_map block_lines (all_blocks threads done block) ++ last_block (threads + 1) []
thread_begun true threads done block is =
    let next = lt-ltb 0 (threads + 1) (omega arith) in
    rw (is, next, flat_map-append block_lines done (block ∷ []), append-nil (block_lines block)) refl
thread_begun false threads done block is =
    let next = lt-ltb 0 (threads + 1) (omega arith) in
    rw (is, next, append-nil (flat_map block_lines done)) refl

-- a command after what is kept
command_put : (threads : ℕ) (done : List (List CommandLine)) (block : List CommandLine) (c : CommandLine) → 0 < threads →
    (flat_map block_lines done ++ last_block threads block) ++ Some c ∷ []
    ≡ flat_map block_lines done ++ last_block threads (block ++ c ∷ [])
command_put threads done block c some =
    let is = lt-ltb 0 threads some in
    rw (is, map-append {B = Option CommandLine} Some block (c ∷ []), append_assoc (flat_map block_lines done) (block_lines block) (Some c ∷ [])) refl

-- how one line more changes what bears on those below
abbrev with_line : Before → Option FirstWord → List ℕ → List ℕ → Before
with_line above f name line = record {
  images = above.images ++ cons_option (name_if_image f name) [];
  listed = above.listed ++ cons_option (name_if_app f name) [];
  threads = above.threads + length (cond (is_thread f) (line ∷ []) []);
  commands = above.commands + length (cond (is_command f) (line ∷ []) []);
}

module _ (lines : List (List ℕ)) (line : List ℕ) where
  abbrev more : List (List ℕ)
  more = lines ++ line ∷ []

  before-push : before more ≡ with_line (before lines) (first_of line) (word (words line) 1) line
  before-push = λ i. record {
    images = filter_map-append (λ l. name_if_image (first_of l) (word (words l) 1)) lines (line ∷ []) i;
    listed = filter_map-append (λ l. name_if_app (first_of l) (word (words l) 1)) lines (line ∷ []) i;
    threads = (ap length (filter-append (λ l. is_thread (first_of l)) lines (line ∷ []))
        ∙ length-append (filter (λ l. is_thread (first_of l)) lines) (filter (λ l. is_thread (first_of l)) (line ∷ []))) i;
    commands = (ap length (filter-append (λ l. is_command (first_of l)) lines (line ∷ []))
        ∙ length-append (filter (λ l. is_command (first_of l)) lines) (filter (λ l. is_command (first_of l)) (line ∷ []))) i;
  }

  forms-push : {A : Type 0} (h : ℕ → Result (Option LineForm) LineCause → Option A) (reading : Result (Option LineForm) LineCause) →
      line_reading (before lines) line ≡ reading →
      filter_map (λ l. h l.number l.reading) (numbered more)
      ≡ filter_map (λ l. h l.number l.reading) (numbered lines) ++ cons_option (h (length lines + 1) reading) []
  forms-push h reading is =
      ap (filter_map (λ l. h l.number l.reading)) (numbered_from-append [] lines (line ∷ []))
      ∙ filter_map-append (λ l. h l.number l.reading) (numbered lines) (numbered_from lines (line ∷ []))
      ∙ ap (λ r. filter_map (λ l. h l.number l.reading) (numbered lines) ++ cons_option (h (length lines + 1) r) []) is

  module _ (kept : Kept) (state : IsStateOf kept lines) where
    bears : before_in kept ≡ before lines
    bears = state.above

    -- what bears on the next line, by what bears on this one
    above-push : (f : Option FirstWord) → first_of line ≡ f → (now : Before) →
        now ≡ with_line (before_in kept) f (word (words line) 1) line → now ≡ before more
    above-push f is now step =
        step ∙ ap (λ b. with_line b f (word (words line) 1) line) bears
        ∙ ap (λ g. with_line (before lines) g (word (words line) 1) line) (sym is) ∙ sym before-push

    no_cause : (form : Option LineForm) → line_reading (before lines) line ≡ Ok form → line_causes more ≡ []
    no_cause form is = forms-push cause_of (Ok form) is ∙ append-nil (line_causes lines) ∙ state.faultless

    pub taken_none : line_reading (before lines) line ≡ Ok None → IsStateOf kept more
    taken_none is = record {
      faultless = no_cause None is;
      above = above-push None (says_nothing (before lines) line is) (before_in kept) (λ i. record {
        images = sym (append-nil (names kept.images)) i;
        listed = sym (append-nil kept.listed) i;
        threads = plus_none kept.threads i;
        commands = plus_none kept.commands i;
      });
      images = state.images ∙ sym (forms-push image_in (Ok None) is ∙ append-nil _);
      app = state.app ∙ sym (forms-push app_in (Ok None) is ∙ append-nil _);
      blocks = forms-push block_in (Ok None) is ∙ append-nil _ ∙ state.blocks;
    }

    abbrev Taken : LineForm → Type 0
    Taken form = IsStateOf (with_form kept (length lines + 1) form) more

    taken_image : (name path : List ℕ) → line_reading (before lines) line ≡ Ok (Some (Image name path)) →
        Says (before lines) (first_of line) (words line) (Image name path) → Taken (Image name path)
    taken_image name path is said = record {
      faultless = no_cause _ is;
      above = above-push (Some first.Image) said.0 _ (λ i. record {
        images = (map-append {B = List ℕ} (λ image. image.0) kept.images ((name, record { line = length lines + 1; path = path }) ∷ [])
            ∙ ap (λ n. names kept.images ++ n ∷ []) (sym said.1)) i;
        listed = sym (append-nil kept.listed) i;
        threads = plus_none kept.threads i;
        commands = plus_none kept.commands i;
      });
      images = ap (λ xs. xs ++ (name, record { line = length lines + 1; path = path }) ∷ []) state.images
          ∙ sym (forms-push image_in _ is);
      app = state.app ∙ sym (forms-push app_in _ is ∙ append-nil _);
      blocks = forms-push block_in _ is ∙ append-nil _ ∙ state.blocks;
    }

    taken_app : (name : List ℕ) (image : ℕ) → line_reading (before lines) line ≡ Ok (Some (App name image)) →
        Says (before lines) (first_of line) (words line) (App name image) → Taken (App name image)
    taken_app name image is said = record {
      faultless = no_cause _ is;
      above = above-push (Some first.App) said.0 _ (λ i. record {
        images = sym (append-nil (names kept.images)) i;
        listed = ap (λ n. kept.listed ++ n ∷ []) (sym said.1) i;
        threads = plus_none kept.threads i;
        commands = plus_none kept.commands i;
      });
      images = state.images ∙ sym (forms-push image_in _ is ∙ append-nil _);
      app = ap (λ xs. xs ++ record { line = length lines + 1; image = image } ∷ []) state.app ∙ sym (forms-push app_in _ is);
      blocks = forms-push block_in _ is ∙ append-nil _ ∙ state.blocks;
    }

    taken_thread : line_reading (before lines) line ≡ Ok (Some Thread) →
        Says (before lines) (first_of line) (words line) Thread → Taken Thread
    taken_thread is said = record {
      faultless = no_cause _ is;
      above = above-push (Some first.Thread) said.0 _ (λ i. record {
        images = sym (append-nil (names kept.images)) i;
        listed = sym (append-nil kept.listed) i;
        threads = kept.threads + 1;
        commands = plus_none kept.commands i;
      });
      images = state.images ∙ sym (forms-push image_in _ is ∙ append-nil _);
      app = state.app ∙ sym (forms-push app_in _ is ∙ append-nil _);
      blocks = forms-push block_in _ is ∙ ap (λ xs. xs ++ None ∷ []) state.blocks
          ∙ thread_begun (nat_lt 0 kept.threads) kept.threads kept.done kept.block refl;
    }

    taken_command : (command : Commanded) → line_reading (before lines) line ≡ Ok (Some (Command command)) →
        Says (before lines) (first_of line) (words line) (Command command) → Taken (Command command)
    taken_command command is said = record {
      faultless = no_cause _ is;
      above = above-push (Some (first.Command said.0.0)) said.0.1 _ (λ i. record {
        images = sym (append-nil (names kept.images)) i;
        listed = sym (append-nil kept.listed) i;
        threads = plus_none kept.threads i;
        commands = kept.commands + 1;
      });
      images = state.images ∙ sym (forms-push image_in _ is ∙ append-nil _);
      app = state.app ∙ sym (forms-push app_in _ is ∙ append-nil _);
      blocks = forms-push block_in _ is ∙ ap (λ xs. xs ++ Some (record { line = length lines + 1; command = command }) ∷ []) state.blocks
          ∙ command_put kept.threads kept.done kept.block _ (subst (λ n. 0 < n) (sym (ap (λ b. b.threads) bears)) said.2);
    }

    -- a line more is taken
    pub taken : (form : LineForm) → line_reading (before lines) line ≡ Ok (Some form) → Taken form
    taken (Image name path) is = taken_image name path is (says (before lines) line _ is)
    taken (App name image) is = taken_app name image is (says (before lines) line _ is)
    taken Thread is = taken_thread is (says (before lines) line _ is)
    taken (Command command) is = taken_command command is (says (before lines) line _ is)
