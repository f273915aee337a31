-- The words of a line (own): spaces part them, but for those in a text, which begins with a quote that begins a word.
use Rattle.std.specs.Prelude.{ℕ, Bool, true, false, not, ◌==◌, List, [], ◌∷◌, map, filter, slice_index_or, if◌then◌else◌}
use denote.Ref.{Bor}
use Rattle.host_script.specs.Bytes.{is_empty, put}
use Rattle.host_script.specs.declared.words.Standing.{Standing}
use Rattle.host_script.specs.declared.words.Standing.TheVariants.{Between, Bare, Quoted, Escaped}

-- where the byte stands that follows one: a quote ends a text unless a backslash stands right before it
abbrev pub after_byte : Standing → ℕ → Standing
after_byte Between b = if b == 34 then Quoted else (if b == 32 then Between else Bare)
after_byte Bare b = if b == 32 then Between else Bare
after_byte Quoted b = if b == 34 then Bare else (if b == 92 then Escaped else Quoted)
after_byte Escaped b = Quoted

abbrev pub is_between : Standing → Bool
is_between Between = true
is_between Bare = false
is_between Quoted = false
is_between Escaped = false

-- the bytes parted at each space that stands in no text
abbrev pub pieces : Standing → List ℕ → List (List ℕ)
pieces standing [] = [] ∷ []
pieces standing (b ∷ bs) =
    if is_between (after_byte standing b) then [] ∷ pieces Between bs
    else put b (pieces (after_byte standing b) bs)

-- the word, unless it is empty
abbrev pub unless_empty : List ℕ → List (List ℕ)
unless_empty word = if is_empty word then [] else word ∷ []

-- the words of a line: the pieces that aren't empty
abbrev pub words : List ℕ → List (List ℕ)
words line = filter (λ piece. not (is_empty piece)) (pieces Between line)

-- the word at a place, the first at 0; empty where there is none
abbrev pub word : List (List ℕ) → ℕ → List ℕ
word words at = slice_index_or words at []

-- the bytes that references lead to
abbrev pub texts : List (Bor (List ℕ)) → List (List ℕ)
texts words = map (λ w. w.now) words
