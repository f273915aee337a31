-- Arguments that are read one after another.
use Rattle.std.proofs.Common.{◌≡◌, ℕ, ◌+◌, ◌<◌, ◌≤◌, List, [], ◌∷◌, ◌++◌, length, drop, Result, Ok, Err, refl, sym, ap, ◌∙◌, append_assoc}
use Rattle.std.proofs.lemmas.List.{append-nil, drop_more, drop_all}
use Rattle.host_script.specs.Outcome.{and_then, GivesFault}
use Rattle.host_script.specs.Row.{argument_list}
use Rattle.host_script.specs.Slot.{argument_word}
use Rattle.host_script.specs.Words.{word}
use Rattle.host_script.specs.declared.cause.LineCause.{LineCause}
use Rattle.host_script.specs.declared.cause.LineFault.{LineFault}
use Rattle.host_script.specs.declared.cause.LineFault.TheVariants.{Cause, OutOfMemory}
use Rattle.host_script.specs.declared.command.Argument.{Argument}

-- those that were read, in front of those that are
abbrev pub with_front : List Argument → Result (List Argument) LineCause → Result (List Argument) LineCause
with_front front rest = and_then rest (λ more. Ok (front ++ more))

pub none_in_front : (rest : Result (List Argument) LineCause) → rest ≡ with_front [] rest
none_in_front (Ok more) = refl
none_in_front (Err cause) = refl

one_more : (front : List Argument) (a : Argument) (rest : Result (List Argument) LineCause) →
    with_front front (and_then rest (λ more. Ok (a ∷ more))) ≡ with_front (front ++ a ∷ []) rest
one_more front a (Ok more) = ap Ok (sym (append_assoc front (a ∷ []) more))
one_more front a (Err cause) = refl

module _ (ws : List (List ℕ)) (at : ℕ) (front : List Argument) (all : Result (List Argument) LineCause)
    (is : all ≡ with_front front (argument_list (drop at ws))) where
  -- the next word is an argument
  pub read_more : at < length ws → (a : Argument) → argument_word (word ws at) ≡ Ok a →
      all ≡ with_front (front ++ a ∷ []) (argument_list (drop (at + 1) ws))
  read_more lt a read =
      is ∙ ap (λ rest. with_front front (argument_list rest)) (drop_more ws at [] lt)
      ∙ ap (λ r. with_front front (and_then r (λ x. and_then (argument_list (drop (at + 1) ws)) (λ xs. Ok (x ∷ xs))))) read
      ∙ one_more front a (argument_list (drop (at + 1) ws))

  -- the next word is none
  pub not_read : at < length ws → (fault : LineFault) → GivesFault fault (argument_word (word ws at)) → GivesFault fault all
  not_read lt (Cause cause) refused =
      is ∙ ap (λ rest. with_front front (argument_list rest)) (drop_more ws at [] lt)
      ∙ ap (λ r. with_front front (and_then r (λ x. and_then (argument_list (drop (at + 1) ws)) (λ xs. Ok (x ∷ xs))))) refused
  not_read lt OutOfMemory refused = tt

  -- no word is left
  pub all_read : length ws ≤ at → all ≡ Ok front
  all_read past =
      is ∙ ap (λ rest. with_front front (argument_list rest)) (drop_all at ws past) ∙ ap Ok (append-nil front)
