-- Where texts begin: a text is a character, and the text after it.
use Rattle.std.proofs.Common.{◌≡◌, ℕ, zero, suc, ◌+◌, ◌-◌, ◌<◌, ◌≤◌, min, nat_le, nat_lt, Bool, true, false, ◌&&◌, ◌||◌, ◌==◌, cond, List, [], ◌∷◌, ◌++◌, length, take, drop, get_or, Option, Some, None, encode_utf8, encode_utf8_all, inl, inr, refl, sym, ap, subst, ◌∙◌, arith, lit≤, add-zero, add-one, set, get_or-set_other, ◌≢◌}
use Rattle.std.proofs.Math.ListN.{length-set}
use Rattle.std.proofs.lemmas.Grind.{get_or-set_at}
use Rattle.std.proofs.Math.Seq.{drop-cons, take-add, drop-length, take-append_seam, drop-append_seam}
use Rattle.std.proofs.lemmas.Bool.{cases_Bool, cases_lt, and_parts, or_cases, or_left, or_right, leb-true}
use Rattle.std.proofs.lemmas.Bool.Decides.{nat_tests}
use Rattle.std.proofs.lemmas.List.{length-take, length-append, drop-take, take-take, take-append-drop, get_or-drop, get_or_past, length-drop, drop-drop, drop_all}
use Rattle.std.proofs.lemmas.Str.{IsUtf8-nil, IsUtf8-append, IsUtf8-from_is_utf8, is_utf8-from_IsUtf8, IsUtf8-encode, IsUtf8-past_char, IsUtf8-from_ascii, length-encode, len_utf8_bounds, len_utf8_ascii, byte_from_char, char_from_byte}
use Rattle.std.proofs.lemmas.Str.Ascii.{IsAscii-nil, IsAscii-cons}
use Rattle.std.specs.Char.{IsScalar, len_utf8}
use Rattle.std.specs.List.{position_or_len}
use Rattle.std.specs.Str.{IsUtf8, is_utf8, all_scalars}
use Rattle.std.specs.Option.{option_map}
use Rattle.cli_words.specs.declared.span.Span.{Span}
use Rattle.cli_words.specs.Span.{cut, zero_after}
use Rattle.meta_heaps.specs.Heaps.{string_at}
use Rattle.assembly_image.specs.Checks.{is_string}
use Rattle.assembly_image.specs.Texts.{AreStartsFrom, is_text_to, begins_text, begins_wide, goes_on, near}

-- tests that hold alike are the same
same_test : (a b : Bool) → (a ≡ true → b ≡ true) → (b ≡ true → a ≡ true) → a ≡ b
same_test true b there back = sym (there refl)
same_test false true there back = back refl
same_test false false there back = refl

-- the zero, by the first byte and the bytes after it
abbrev later : Option ℕ → Option ℕ
later None = None
later (Some n) = Some (1 + n)

zero_here : (b : ℕ) (rest : List ℕ) → (b == 0) ≡ true → zero_after (b ∷ rest) ≡ Some 0
zero_here b rest e =
    let within : nat_lt 0 (suc (length rest)) ≡ true = grind (arith, nat_tests) in rw (e, within) refl

zero_later : (b : ℕ) (rest : List ℕ) → (b == 0) ≡ false → zero_after (b ∷ rest) ≡ later (zero_after rest)
zero_later b rest e =
    let far = position_or_len (λ (x : ℕ). x == 0) rest in
    elim (cases_lt far (length rest)) [
      | inl h ↦
          let whole : nat_lt (1 + far) (suc (length rest)) ≡ true = grind (arith, nat_tests) in
          let part : nat_lt far (length rest) ≡ true = grind (arith, nat_tests) in
          rw (e, whole, part) refl
      | inr h ↦
          let whole : nat_lt (1 + far) (suc (length rest)) ≡ false = grind (arith, nat_tests) in
          let part : nat_lt far (length rest) ≡ false = grind (arith, nat_tests) in
          rw (e, whole, part) refl
    ]

later_some : (o : Option ℕ) (n : ℕ) → later o ≡ Some n → (m : ℕ) × (o ≡ Some m) × (n ≡ 1 + m)
later_some None n e = absurd (cc)
later_some (Some m) n e = (m, refl, cc)

-- it is in the list
zero_within : (bytes : List ℕ) (n : ℕ) → zero_after bytes ≡ Some n → n < length bytes
zero_within [] n e = absurd (cc)
zero_within (b ∷ rest) n e =
    elim (cases_Bool (b == 0)) [
      | inl h ↦
          let same : Some 0 ≡ Some n = sym (zero_here b rest h) ∙ e in
          let none : 0 ≡ n = cc in omega arith
      | inr h ↦
          let found = later_some (zero_after rest) n (sym (zero_later b rest h) ∙ e) in
          let below = zero_within rest found.0 found.1 in
          omega (arith, below, found.2)
    ]

-- behind the first bytes it is nearer
zero_moved : (bytes : List ℕ) (n size : ℕ) → zero_after bytes ≡ Some n → size ≤ n
    → zero_after (drop size bytes) ≡ Some (n - size)
zero_moved bytes n zero e h = e ∙ ap Some (omega arith)
zero_moved [] n (suc size) e h = absurd (cc)
zero_moved (b ∷ rest) n (suc size) e h =
    elim (cases_Bool (b == 0)) [
      | inl z ↦
          let same : Some 0 ≡ Some n = sym (zero_here b rest z) ∙ e in
          let none : 0 ≡ n = cc in absurd (omega arith)
      | inr z ↦
          let found = later_some (zero_after rest) n (sym (zero_later b rest z) ∙ e) in
          let count = found.2 in
          zero_moved rest found.0 size found.1 (omega arith) ∙ ap Some (omega arith)
    ]

-- how far it is, as far as it matters
pub near_end : (heap : List ℕ) → near (zero_after (drop (length heap) heap)) ≡ 1024
near_end heap = ap (λ bytes. near (zero_after bytes)) (drop-length heap)

near_later : (o : Option ℕ) → near (later o) ≡ min 1024 (near o + 1)
near_later None = refl
near_later (Some n) = omega arith

-- a text that is empty, and one that is too long
empty_to : (bytes : List ℕ) (o : Option ℕ) → near o ≡ 0 → is_text_to bytes o ≡ true
empty_to bytes None e = absurd (omega arith)
empty_to bytes (Some n) e =
    let none : 0 ≡ n = omega arith in
    subst (λ (m : ℕ). is_text_to bytes (Some m) ≡ true) none (is_utf8-from_IsUtf8 [] IsUtf8-nil)

pub empty_text : (bytes : List ℕ) → near (zero_after bytes) ≡ 0 → begins_text bytes ≡ true
empty_text bytes = empty_to bytes (zero_after bytes)

long_to : (bytes : List ℕ) (o : Option ℕ) → near o ≡ 1024 → is_text_to bytes o ≡ false
long_to bytes None e = refl
long_to bytes (Some n) e =
    let over : nat_le n 1023 ≡ false = grind (arith, nat_tests) in rw over refl

pub long_text : (bytes : List ℕ) → near (zero_after bytes) ≡ 1024 → begins_text bytes ≡ false
long_text bytes = long_to bytes (zero_after bytes)

near_to : (o : Option ℕ) (len : ℕ) → len ≡ near o → ¬ (len ≡ 1024) → (o ≡ Some len) × (len ≤ 1023)
near_to None len e other = absurd (other e)
near_to (Some n) len e other =
    let below : n ≤ 1023 = omega arith in
    let same : n ≡ len = omega arith in
    (ap Some same, omega arith)

-- one byte of ASCII is UTF-8, and no other character has one byte
one_ascii : (bytes : List ℕ) → 0 < length bytes → get_or bytes 0 0 < 128 → is_utf8 (take 1 bytes) ≡ true
one_ascii [] some ascii = absurd (omega arith)
one_ascii (b ∷ rest) some ascii =
    is_utf8-from_IsUtf8 (b ∷ []) (IsUtf8-from_ascii (b ∷ []) (IsAscii-cons b [] ascii IsAscii-nil))

wide_len : (c : ℕ) → 128 ≤ c → 2 ≤ len_utf8 c
wide_len c over =
    let one : nat_lt c 0x80 ≡ false = grind (arith, nat_tests) in
    rw one (elim (cases_Bool (nat_lt c 0x800)) [
      | inl e ↦ rw e (lit≤ tt)
      | inr e ↦ rw e (elim (cases_Bool (nat_lt c 0x1_0000)) [ inl f ↦ rw f (lit≤ tt) | inr f ↦ rw f (lit≤ tt) ])
    ])

-- a text that is neither
module _ (bytes : List ℕ) (n : ℕ) (zero : zero_after bytes ≡ Some n) (short : n ≤ 1023) where
  whole : begins_text bytes ≡ is_utf8 (take n bytes)
  whole =
      let fits : nat_le n 1023 ≡ true = grind (arith, nat_tests) in
      ap (is_text_to bytes) zero ∙ rw fits refl

  part : (size : ℕ) → size ≤ n → begins_text (drop size bytes) ≡ is_utf8 (take (n - size) (drop size bytes))
  part size h =
      let fits : nat_le (n - size) 1023 ≡ true = grind (arith, nat_tests) in
      ap (is_text_to (drop size bytes)) (zero_moved bytes n size zero h) ∙ rw fits refl

  parted : (size : ℕ) → size ≤ n → take n bytes ≡ take size bytes ++ take (n - size) (drop size bytes)
  parted size h =
      let all : size + (n - size) ≡ n = omega arith in
      subst (λ m. take m bytes ≡ take size bytes ++ take (n - size) (drop size bytes)) all
      (take-add size (n - size) bytes)

  -- a first part and a text after it
  joined : (size : ℕ) → size ≤ n → begins_text (drop size bytes) ≡ true → is_utf8 (take size bytes) ≡ true
      → begins_text bytes ≡ true
  joined size h after front =
      let first = IsUtf8-from_is_utf8 (take size bytes) front in
      let next = IsUtf8-from_is_utf8 (take (n - size) (drop size bytes)) (sym (part size h) ∙ after) in
      let both = is_utf8-from_IsUtf8 _ (IsUtf8-append _ _ first next) in
      whole ∙ ap is_utf8 (parted size h) ∙ both

  -- the first character, and the text after it
  record First : Type 0 where
    c : ℕ
    scalar : IsScalar c
    fits : length (encode_utf8 c) ≤ n
    front : take (length (encode_utf8 c)) bytes ≡ encode_utf8 c
    after : begins_text (drop (length (encode_utf8 c)) bytes) ≡ true

  first_of : (cs : List ℕ) → all_scalars cs ≡ true → encode_utf8_all cs ≡ take n bytes → 0 < n → First
  first_of [] scalars e some =
      let long = length-take n bytes in
      let within = zero_within bytes n zero in
      let none : 0 ≡ length (take n bytes) = ap length e in
      absurd (omega arith)
  first_of (c ∷ cs) scalars e some =
      let size = length (encode_utf8 c) in
      let rest = encode_utf8_all cs in
      let each : IsScalar c × (all_scalars cs ≡ true) = and_parts _ _ scalars in
      let long = length-take n bytes in
      let both = length-append (encode_utf8 c) rest in
      let same : length (encode_utf8 c ++ rest) ≡ length (take n bytes) = ap length e in
      let fits : length (encode_utf8 c) ≤ n = omega arith in
      let all : length (encode_utf8 c) + (n - length (encode_utf8 c)) ≡ n = omega arith in
      let text : IsUtf8 (take n bytes) = (c ∷ cs, (scalars, e)) in
      let left : take (n - size) (drop size bytes) ≡ rest =
      sym (drop-take size (n - size) bytes)
      ∙ ap (λ m. drop size (take m bytes)) all
      ∙ ap (drop size) (sym e)
      ∙ drop-append_seam (encode_utf8 c) rest in
      let ok = is_utf8-from_IsUtf8 rest (IsUtf8-past_char (take n bytes) rest c text (sym e)) in
      record {
        c = c;
        scalar = each.0;
        fits = fits;
        front = sym (take-take size n bytes fits) ∙ ap (take size) (sym e) ∙ take-append_seam (encode_utf8 c) rest;
        after = part size fits ∙ ap is_utf8 left ∙ ok;
      }

  first : 0 < n → begins_text bytes ≡ true → First
  first some begins =
      let text = IsUtf8-from_is_utf8 (take n bytes) (sym whole ∙ begins) in
      first_of text.0 text.1.0 text.1.1 some

  begun_with : (begun : First) → bytes ≡ encode_utf8 begun.c ++ drop (length (encode_utf8 begun.c)) bytes
  begun_with begun =
      let rest = drop (length (encode_utf8 begun.c)) bytes in
      sym (take-append-drop (length (encode_utf8 begun.c)) bytes) ∙ ap (λ xs. xs ++ rest) begun.front

  -- which is one byte just where the first byte is ASCII
  first_ascii : (begun : First) → get_or bytes 0 0 < 128 → length (encode_utf8 begun.c) ≡ 1
  first_ascii begun ascii =
      let within = zero_within bytes n zero in
      let same = char_from_byte bytes _ begun.c (begun_with begun) ascii (omega arith) in
      length-encode begun.c ∙ len_utf8_ascii begun.c (omega arith)

  first_wide : (begun : First) → 128 ≤ get_or bytes 0 0 → 2 ≤ length (encode_utf8 begun.c)
  first_wide begun wide =
      let size = length-encode begun.c in
      elim (cases_lt begun.c 128) [
        | inl ascii ↦
            let same = byte_from_char bytes _ begun.c (begun_with begun) ascii in absurd (omega arith)
        | inr over ↦ (let two = wide_len begun.c over in omega arith)
      ]

  pub begins_ascii : 0 < n → get_or bytes 0 0 < 128 → begins_text (drop 1 bytes) ≡ begins_text bytes
  begins_ascii some ascii =
      let within = zero_within bytes n zero in
      same_test (begins_text (drop 1 bytes)) (begins_text bytes)
      (λ after. joined 1 (omega arith) after (one_ascii bytes (omega arith) ascii))
      (λ begins.
      let begun = first some begins in
      subst (λ m. begins_text (drop m bytes) ≡ true) (first_ascii begun ascii) begun.after)

  goes_text : (size : ℕ) → goes_on bytes n size ≡ true → begins_text bytes ≡ true
  goes_text size goes =
      let fits = and_parts _ _ goes in
      let parts = and_parts _ _ fits.1 in
      joined size (leb-true size n fits.0) parts.0 parts.1

  goes_first : (begun : First) (size : ℕ) → length (encode_utf8 begun.c) ≡ size → goes_on bytes n size ≡ true
  goes_first begun size e =
      let c = begun.c in
      let fits : nat_le (length (encode_utf8 c)) n ≡ true = (let le = begun.fits in grind (arith, nat_tests)) in
      let char = ap is_utf8 begun.front ∙ is_utf8-from_IsUtf8 _ (IsUtf8-encode c begun.scalar) in
      let after = begun.after in
      subst (λ m. goes_on bytes n m ≡ true) e (rw (fits, after, char) refl)

  pub begins_more : 0 < n → 128 ≤ get_or bytes 0 0 → begins_wide bytes n ≡ begins_text bytes
  begins_more some wide =
      same_test (begins_wide bytes n) (begins_text bytes)
      (λ any. elim (or_cases (goes_on bytes n 2 || goes_on bytes n 3) (goes_on bytes n 4) any) [
        | inl few ↦ elim (or_cases (goes_on bytes n 2) (goes_on bytes n 3) few) [
          | inl two ↦ goes_text 2 two
          | inr three ↦ goes_text 3 three
        ]
        | inr four ↦ goes_text 4 four
      ])
      (λ begins.
      let begun = first some begins in
      let size = length (encode_utf8 begun.c) in
      let least = first_wide begun wide in
      let long = length-encode begun.c in
      let most = len_utf8_bounds begun.c in
      elim (cases_lt (length (encode_utf8 begun.c)) 3) [
        | inl two ↦ or_left _ _ (or_left _ _ (goes_first begun 2 (omega arith)))
        | inr more ↦ elim (cases_lt (length (encode_utf8 begun.c)) 4) [
          | inl three ↦ or_left _ _ (or_right (goes_on bytes n 2) _ (goes_first begun 3 (omega arith)))
          | inr four ↦ or_right (goes_on bytes n 2 || goes_on bytes n 3) _ (goes_first begun 4 (omega arith))
        ]
      ])

-- a place of the heap whose zero is neither at it nor too far
module _ (heap : List ℕ) (at len : ℕ) (far : len ≡ near (zero_after (drop at heap))) (some : ¬ (len ≡ 0))
    (close : ¬ (len ≡ 1024)) where
  told : (zero_after (drop at heap) ≡ Some len) × (len ≤ 1023)
  told = near_to (zero_after (drop at heap)) len far close

  first_byte : get_or (drop at heap) 0 0 ≡ get_or heap at 0
  first_byte = get_or-drop at heap 0 0 ∙ ap (λ k. get_or heap k 0) (add-zero at)

  pub zero_inside : at + len < length heap
  zero_inside =
      let within = zero_within (drop at heap) len told.0 in
      let long = length-drop at heap in
      omega arith

  pub ascii_at : get_or heap at 0 < 128 → begins_text (drop (at + 1) heap) ≡ begins_text (drop at heap)
  ascii_at ascii =
      ap begins_text (sym (drop-drop 1 at heap))
      ∙ begins_ascii (drop at heap) len told.0 told.1 (omega arith)
      (subst (λ b. b < 128) (sym first_byte) ascii)

  pub more_at : 128 ≤ get_or heap at 0 → begins_wide (drop at heap) len ≡ begins_text (drop at heap)
  more_at wide =
      begins_more (drop at heap) len told.0 told.1 (omega arith)
      (subst (λ b. 128 ≤ b) (sym first_byte) wide)

-- one more place of the heap, from the place after it
module _ (heap : List ℕ) (at from next : ℕ) (inside : at < length heap) (before : from ≡ at + 1) (now : next ≡ at) where
  first_at : drop at heap ≡ get_or heap at 0 ∷ drop from heap
  first_at = rw (before, add-one) (drop-cons heap at 0 inside)

  near_by : (b : ℕ) (len : ℕ) → len ≡ near (zero_after (drop from heap))
      → cond (b == 0) 0 (min 1024 (len + 1)) ≡ near (zero_after (b ∷ drop from heap))
  near_by b len far =
      elim (cases_Bool (b == 0)) [
        | inl z ↦ ap (λ (t : Bool). cond t 0 (min 1024 (len + 1))) z ∙ sym (ap near (zero_here b (drop from heap) z))
        | inr z ↦
            let here = ap near (zero_later b (drop from heap) z) ∙ near_later (zero_after (drop from heap)) in
            ap (λ (t : Bool). cond t 0 (min 1024 (len + 1))) z ∙ ap (λ m. min 1024 (m + 1)) far ∙ sym here
      ]

  pub near_at : (len nearer : ℕ) → len ≡ near (zero_after (drop from heap))
      → nearer ≡ cond (get_or heap at 0 == 0) 0 (min 1024 (len + 1)) → nearer ≡ near (zero_after (drop next heap))
  near_at len nearer far e =
      e ∙ near_by (get_or heap at 0) len far
      ∙ ap (λ bytes. near (zero_after bytes)) (sym first_at ∙ ap (λ k. drop k heap) (sym now))

  pub starts_at : (starts : List Bool) (begins : Bool) → AreStartsFrom heap starts from
      → begins ≡ begins_text (drop at heap) → AreStartsFrom heap (set starts at begins) next
  starts_at starts begins found here =
      let long = found.long in
      record {
        long = length-set starts at begins ∙ long;
        each = λ k least below d. elim (cases_lt at k) [
          | inl above ↦
              let apart : k ≢ at = omega arith in
              get_or-set_other starts at k begins d apart ∙ found.each k (omega arith) below d
          | inr last ↦
              let same : k ≡ at = omega arith in
              get_or-set_at starts at k begins d same (omega arith)
              ∙ here ∙ ap (λ m. begins_text (drop m heap)) (sym same)
        ];
      }

-- what the flags say is what the check asks
module _ (bytes : List ℕ) (heap : Span) (index : ℕ) where
  same_bytes : (n : ℕ) → index + n ≤ heap.len → take n (drop index (cut bytes heap)) ≡ take n (drop (heap.at + index) bytes)
  same_bytes n within =
      let all : index + (heap.len - index) ≡ heap.len = omega arith in
      ap (λ m. take n (drop index (take m (drop heap.at bytes)))) (sym all)
      ∙ ap (take n) (drop-take index (heap.len - index) (drop heap.at bytes))
      ∙ take-take n (heap.len - index) (drop index (drop heap.at bytes)) (omega arith)
      ∙ ap (take n) (drop-drop index heap.at bytes)

  string_to : (o : Option ℕ) → zero_after (drop index (cut bytes heap)) ≡ o
      → is_text_to (drop index (cut bytes heap)) o
      ≡ is_string bytes (option_map (λ n. record { at = heap.at + index; len = n }) o)
  string_to None e = refl
  string_to (Some n) e =
      let within = zero_within (drop index (cut bytes heap)) n e in
      let long = length-drop index (cut bytes heap) in
      let most = length-take heap.len (drop heap.at bytes) in
      ap (λ text. nat_le n 1023 && is_utf8 text) (same_bytes n (omega arith))

  string_begins : begins_text (drop index (cut bytes heap)) ≡ is_string bytes (string_at bytes heap index)
  string_begins = string_to (zero_after (drop index (cut bytes heap))) refl

  pub string_told : (starts : List Bool) → AreStartsFrom (cut bytes heap) starts 0
      → get_or starts index false ≡ is_string bytes (string_at bytes heap index)
  string_told starts found =
      let long = found.long in
      elim (cases_lt index (length starts)) [
        | inl inside ↦ found.each index (omega arith) (omega arith) false ∙ string_begins
        | inr past ↦
            get_or_past starts index false past
            ∙ ap begins_text (sym (drop_all index (cut bytes heap) (omega arith))) ∙ string_begins
      ]
