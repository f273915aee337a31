-- The words of a line, with some of its bytes behind.
use Rattle.std.proofs.Common.{◌≡◌, ℕ, ◌+◌, ◌-◌, ◌<◌, ◌≤◌, Bool, true, false, not, cond, List, [], ◌∷◌, ◌++◌, length, take, drop, get_or, refl, sym, ap, ◌∙◌, append_assoc, arith}
use Rattle.std.specs.Prelude.{filter, if◌then◌else◌}
use Rattle.std.proofs.lemmas.List.{append-nil, drop_more, take_more, drop-append-le, length-take-le, drop_all, drop-take, take_rest, take_all}
use Rattle.host_script.specs.Bytes.{is_empty, put}
use Rattle.host_script.specs.Words.{words, pieces, after_byte, is_between, unless_empty}
use Rattle.host_script.specs.declared.words.Standing.{Standing}
use Rattle.host_script.specs.declared.words.Standing.TheVariants.{Between, Bare, Quoted, Escaped}

-- bytes in front of the first piece
abbrev pub onto : List ℕ → List (List ℕ) → List (List ℕ)
onto front [] = front ∷ []
onto front (piece ∷ more) = (front ++ piece) ∷ more

-- the words that are left, of which the first has begun
abbrev pub words_left : List ℕ → Standing → List ℕ → List (List ℕ)
words_left front standing rest = filter (λ piece. not (is_empty piece)) (onto front (pieces standing rest))

onto-put : (front : List ℕ) (b : ℕ) (ps : List (List ℕ)) → onto front (put b ps) ≡ onto (front ++ b ∷ []) ps
onto-put front b [] = refl
onto-put front b (p ∷ ps) = ap (λ first. first ∷ ps) (sym (append_assoc front (b ∷ []) p))

onto-nil_put : (b : ℕ) (ps : List (List ℕ)) → onto [] (put b ps) ≡ put b ps
onto-nil_put b [] = refl
onto-nil_put b (p ∷ ps) = refl

onto-nil_choice : (t : Bool) (b : ℕ) (ps qs : List (List ℕ)) →
    onto [] (if t then [] ∷ ps else put b qs) ≡ (if t then [] ∷ ps else put b qs)
onto-nil_choice true b ps qs = refl
onto-nil_choice false b ps qs = onto-nil_put b qs

pub onto-nil : (standing : Standing) (bs : List ℕ) → onto [] (pieces standing bs) ≡ pieces standing bs
onto-nil standing [] = refl
onto-nil standing (b ∷ bs) = onto-nil_choice (is_between (after_byte standing b)) b _ _

one_kept : (t : Bool) (w : List ℕ) (ps : List (List ℕ)) →
    cond (not t) (w ∷ ps) ps ≡ (if t then [] else w ∷ []) ++ ps
one_kept true w ps = refl
one_kept false w ps = refl

kept : (w : List ℕ) (ps : List (List ℕ)) →
    filter (λ piece. not (is_empty piece)) (w ∷ ps) ≡ unless_empty w ++ filter (λ piece. not (is_empty piece)) ps
kept w ps = one_kept (is_empty w) w (filter (λ piece. not (is_empty piece)) ps)

pub whole_line : (line : List ℕ) → words line ≡ words_left [] Between line
whole_line line = ap (filter (λ piece. not (is_empty piece))) (sym (onto-nil Between line))

-- no byte is left
pub none_left : (front : List ℕ) (standing : Standing) → words_left front standing [] ≡ unless_empty front
none_left front standing = rw append-nil (kept front [] ∙ append-nil (unless_empty front))

-- a byte that parts two words
pub parted : (front : List ℕ) (standing : Standing) (b : ℕ) (bs : List ℕ) → is_between (after_byte standing b) ≡ true →
    words_left front standing (b ∷ bs) ≡ unless_empty front ++ words_left [] Between bs
parted front standing b bs e =
    rw (e, append-nil, onto-nil Between bs) (kept front (pieces Between bs))

-- a byte of a word
pub not_parted : (front : List ℕ) (standing : Standing) (b : ℕ) (bs : List ℕ) →
    is_between (after_byte standing b) ≡ false →
    words_left front standing (b ∷ bs) ≡ words_left (front ++ b ∷ []) (after_byte standing b) bs
not_parted front standing b bs e =
    rw e (ap (filter (λ piece. not (is_empty piece))) (onto-put front b (pieces (after_byte standing b) bs)))

-- the bytes from one place up to another, with one more
pub longer : (line : List ℕ) (start at : ℕ) → start ≤ at → at < length line →
    drop start (take (at + 1) line) ≡ drop start (take at line) ++ get_or line at 0 ∷ []
longer line start at le lt =
    let len = length-take-le at line (omega arith) in
    let before : start ≤ length (take at line) = omega arith in
    rw (take_more line at 0 lt) (drop-append-le start (take at line) (get_or line at 0 ∷ []) before)

pub from_end : (line : List ℕ) (at : ℕ) → at ≤ length line → drop at (take at line) ≡ []
from_end line at le = let len = length-take-le at line le in drop_all at (take at line) (omega arith)

pub between_places : (line : List ℕ) (start at : ℕ) → start ≤ at →
    take (at - start) (drop start line) ≡ drop start (take at line)
between_places line start at le =
    let sum : start + (at - start) ≡ at = omega arith in
    sym (ap (λ n. drop start (take n line)) (sym sum) ∙ drop-take start (at - start) line)

is_Between : (standing : Standing) → is_between standing ≡ true → standing ≡ Between
is_Between Between e = refl
is_Between Bare e = cc
is_Between Quoted e = cc
is_Between Escaped e = cc

module _ (line : List ℕ) (before now : List (List ℕ)) (start at : ℕ) (standing : Standing) (le : start ≤ at) where
  abbrev front : List ℕ
  front = drop start (take at line)

  abbrev Left : Type 0
  Left = words line ≡ before ++ words_left front standing (drop at line)

  -- the byte at hand parts two words
  pub past_parting : at < length line → Left → (after : Standing) → after ≡ after_byte standing (get_or line at 0) →
      is_between after ≡ true → now ≡ before ++ unless_empty (take (at - start) (drop start line)) →
      words line ≡ now ++ words_left (drop (at + 1) (take (at + 1) line)) after (drop (at + 1) line)
  past_parting lt left after is parts pushed =
      let between = is_Between after parts in
      let parting : is_between (after_byte standing (get_or line at 0)) ≡ true = cc in
      let here = parted front standing (get_or line at 0) (drop (at + 1) line) parting in
      let step : words line ≡ before ++ (unless_empty front ++ words_left [] Between (drop (at + 1) line)) =
      left ∙ ap (λ rest. before ++ words_left front standing rest) (drop_more line at 0 lt) ∙ ap (λ ws. before ++ ws) here in
      let none = from_end line (at + 1) (omega arith) in
      rw (pushed, between_places line start at le, none, between)
      (step ∙ sym (append_assoc before (unless_empty front) (words_left [] Between (drop (at + 1) line))))

  -- the byte at hand belongs to a word
  pub past_byte : at < length line → Left → (after : Standing) → after ≡ after_byte standing (get_or line at 0) →
      is_between after ≡ false → now ≡ before →
      words line ≡ now ++ words_left (drop start (take (at + 1) line)) after (drop (at + 1) line)
  past_byte lt left after is parts same =
      let parting : is_between (after_byte standing (get_or line at 0)) ≡ false = cc in
      let here = not_parted front standing (get_or line at 0) (drop (at + 1) line) parting in
      let step : words line
      ≡ before ++ words_left (front ++ get_or line at 0 ∷ []) (after_byte standing (get_or line at 0)) (drop (at + 1) line) =
      left ∙ ap (λ rest. before ++ words_left front standing rest) (drop_more line at 0 lt) ∙ ap (λ ws. before ++ ws) here in
      rw (same, is, longer line start at le lt) step

  -- no byte is left
  pub at_end : length line ≤ at → Left → now ≡ before ++ unless_empty (take (length line - start) (drop start line)) →
      now ≡ words line
  at_end all left pushed =
      let none = drop_all at line all in
      let whole = take_all at line all in
      let last : words line ≡ before ++ unless_empty (drop start line) =
      left ∙ ap (λ rest. before ++ words_left front standing rest) none ∙ ap (λ ws. before ++ ws) (none_left front standing)
      ∙ ap (λ bs. before ++ unless_empty (drop start bs)) whole in
      pushed ∙ ap (λ bs. before ++ unless_empty bs) (take_rest line start) ∙ sym last
