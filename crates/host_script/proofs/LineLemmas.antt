-- Where lines end.
use Rattle.std.proofs.Common.{◌≡◌, ℕ, suc, ◌+◌, ◌<◌, ◌≤◌, Bool, true, false, ◌&&◌, ◌==◌, List, [], ◌∷◌, ◌++◌, length, take, drop, get_or, refl, sym, ap, ◌∙◌, arith}
use Rattle.std.proofs.lemmas.Bool.{and_parts, and_right, ne_eqb}
use Rattle.std.proofs.lemmas.List.{drop_more, drop_all}
use Rattle.std.specs.List.{position_or_len}
use Rattle.host_script.specs.Bytes.{begins_with}
use Rattle.host_script.specs.Lines.{lines, without_cr, is_passed_over}

abbrev pub is_end : ℕ → Bool
is_end b = b == 10

abbrev pub line_len : List ℕ → ℕ
line_len bs = position_or_len is_end bs

one_more : (n : ℕ) → 1 + n ≡ suc n
one_more n = omega arith

one_past : (n : ℕ) → suc n + 1 ≡ suc (n + 1)
one_past n = omega arith

pub without_cr-13 : (bs : List ℕ) → without_cr (bs ++ 13 ∷ []) ≡ bs
without_cr-13 [] = refl
without_cr-13 (b ∷ []) = refl
without_cr-13 (b ∷ c ∷ bs) = ap (λ xs. b ∷ xs) (without_cr-13 (c ∷ bs))

pub without_cr-other : (bs : List ℕ) (x : ℕ) → (x == 13) ≡ false → without_cr (bs ++ x ∷ []) ≡ bs ++ x ∷ []
without_cr-other [] x e = rw e refl
without_cr-other (b ∷ []) x e = rw e refl
without_cr-other (b ∷ c ∷ bs) x e = ap (λ xs. b ∷ xs) (without_cr-other (c ∷ bs) x e)

either_false : (t : Bool) → (t && true) ≡ false → t ≡ false
either_false true e = cc
either_false false e = refl

-- a byte that is no carriage return before a line's end stands in front of the first line
put-without_cr : (b : ℕ) (bs : List ℕ) → (b == 13 && begins_with 10 bs) ≡ false → line_len bs < length bs →
    without_cr (b ∷ take (line_len bs) bs) ≡ b ∷ without_cr (take (line_len bs) bs)
put-without_cr b [] none lt = absurd (omega arith)
put-without_cr b (x ∷ xs) none lt = by_end (x == 10) refl
  where
    by_end : (t : Bool) → (x == 10) ≡ t →
        without_cr (b ∷ take (line_len (x ∷ xs)) (x ∷ xs)) ≡ b ∷ without_cr (take (line_len (x ∷ xs)) (x ∷ xs))
    by_end true e = let ne = either_false (b == 13) (rw e at none) in rw (e, ne) refl
    by_end false e = rw (e, one_more (line_len xs)) refl

-- a carriage return before a line's end is no part of the line
cr_dropped : (b : ℕ) (bs : List ℕ) → (b == 13 && begins_with 10 bs) ≡ true →
    lines bs ≡ without_cr (b ∷ take (line_len bs) bs) ∷ lines (drop (line_len bs + 1) bs)
cr_dropped b [] e = let parts = and_parts (b == 13) false e in cc
cr_dropped b (x ∷ xs) e =
    let parts = and_parts (b == 13) (x == 10) e in rw (parts.1, parts.0) refl

module _ (b : ℕ) (bs : List ℕ) where
  abbrev Next : Type 0
  Next = lines bs ≡ without_cr (take (line_len bs) bs) ∷ lines (drop (line_len bs + 1) bs)

  past_cr : (t : Bool) → (b == 13 && begins_with 10 bs) ≡ t → (b == 10) ≡ false → line_len bs < length bs → Next →
      lines (b ∷ bs) ≡ without_cr (b ∷ take (line_len bs) bs) ∷ lines (drop (line_len bs + 1) bs)
  past_cr true cr e less next = rw (e, cr) (cr_dropped b bs cr)
  past_cr false cr e less next =
      rw (e, cr, next) (ap (λ line. line ∷ lines (drop (line_len bs + 1) bs)) (sym (put-without_cr b bs cr less)))

  past_byte : (t : Bool) → (b == 10) ≡ t → line_len (b ∷ bs) < length (b ∷ bs) → (line_len bs < length bs → Next) →
      lines (b ∷ bs) ≡ without_cr (take (line_len (b ∷ bs)) (b ∷ bs)) ∷ lines (drop (line_len (b ∷ bs) + 1) (b ∷ bs))
  past_byte true e lt next = rw e refl
  past_byte false e lt next =
      let long : 1 + line_len bs < length (b ∷ bs) = rw e at lt in
      let less : line_len bs < length bs = omega arith in
      let line = past_cr (b == 13 && begins_with 10 bs) refl e less (next less) in
      let len : line_len (b ∷ bs) ≡ suc (line_len bs) = rw e (one_more (line_len bs)) in
      line ∙ sym (rw (len, one_past (line_len bs)) refl)

pub line_at : (bs : List ℕ) → line_len bs < length bs →
    lines bs ≡ without_cr (take (line_len bs) bs) ∷ lines (drop (line_len bs + 1) bs)
line_at [] lt = absurd (omega arith)
line_at (b ∷ bs) lt = past_byte b bs (b == 10) refl lt (λ less. line_at bs less)

no_end : (b : ℕ) (bs : List ℕ) (t : Bool) → (b == 10) ≡ t → line_len (b ∷ bs) ≡ length (b ∷ bs) →
    ((b == 10) ≡ false) × (line_len bs ≡ length bs)
no_end b bs true e all = let none : 0 ≡ length (b ∷ bs) = rw e at all in absurd (omega arith)
no_end b bs false e all = let more : 1 + line_len bs ≡ length (b ∷ bs) = rw e at all in (e, omega arith)

pub last_line : (bs : List ℕ) → line_len bs ≡ length bs → 0 < length bs → lines bs ≡ bs ∷ []
last_line [] all some = absurd (omega arith)
last_line (b ∷ []) all some =
    let here = no_end b [] (b == 10) refl all in
    let cr = and_right (b == 13) false refl in rw (here.0, cr) refl
last_line (b ∷ c ∷ bs) all some =
    let here = no_end b (c ∷ bs) (b == 10) refl all in
    let there = no_end c bs (c == 10) refl here.1 in
    let cr = and_right (b == 13) (c == 10) there.0 in
    let next = last_line (c ∷ bs) here.1 (omega arith) in
    rw (here.0, cr, next) refl

module _ (line : List ℕ) (at : ℕ) (is : is_passed_over line ≡ is_passed_over (drop at line)) where
  pub past_space : at < length line → get_or line at 0 ≡ 32 → is_passed_over line ≡ is_passed_over (drop (at + 1) line)
  past_space lt space = is ∙ rw (drop_more line at 0 lt, space) refl

  pub at_other : at < length line → (get_or line at 0 ≡ 32 → ⊥) → (get_or line at 0 == 35) ≡ is_passed_over line
  at_other lt other =
      let no_space = ne_eqb (get_or line at 0) 32 other in sym (is ∙ rw (drop_more line at 0 lt, no_space) refl)

  pub only_spaces : length line ≤ at → true ≡ is_passed_over line
  only_spaces past = sym (is ∙ ap is_passed_over (drop_all at line past))
