-- The text of a key, part by part from the left, is that of the types that its parts spell.
use Rattle.std.proofs.Common.{◌≡◌, ℕ, zero, suc, ◌+◌, ◌-◌, ◌<◌, ◌≤◌, true, List, [], ◌∷◌, ◌++◌, length, take, drop, get_or, reverse, map, Option, refl, sym, ◌∙◌, ap, append_assoc, append-nil, arith, le-ltb, length-drop, drop-cons}
use Rattle.std.specs.Prelude.{codes, decimal, ◌==◌, if◌then◌else◌}
use Rattle.std.proofs.lemmas.Bool.{lt-ltb, ne_eqb, eq-eqb}
use Rattle.std.proofs.lemmas.List.{take-append-drop, length-take-le, take_more, reverse-append, nil_from_length}
use Rattle.signatures.specs.declared.key.KeyPart.{KeyPart}
use Rattle.signatures.specs.declared.key.KeyPart.TheVariants.{Prim, Class, Vector}
use Rattle.signatures.specs.Keys.{IsKey, key_arity}
use Rattle.signatures.specs.Types.{are_types}
use Rattle.host_report.specs.KeyText.{after_commas, arguments_text, array_texts, key_texts, key_text}
use Rattle.host_report.specs.declared.line.Line.{Line}
use Rattle.host_report.specs.Line.{Puts}
use Rattle.host_report.proofs.LineLemmas.{puts_as, puts_then}
use Rattle.host_report.specs.KeySteps.{opening, ending_of, endings, ending, comma, texts_from}

length-array_texts : (texts : List (List ℕ)) → length (array_texts texts) ≡ length texts
length-array_texts [] = refl
length-array_texts (text ∷ texts) = refl

-- parts that are n types spell n texts
pub length-key_texts : (n : ℕ) (parts : List KeyPart) → are_types n (map key_arity parts) ≡ true → length (key_texts parts) ≡ n
length-key_texts zero [] e = refl
length-key_texts (suc n) [] e = absurd cc
length-key_texts zero (part ∷ parts) e = absurd cc
length-key_texts (suc n) (Prim prim ∷ parts) e =
    let more = length-key_texts (n + 0) parts e in omega (arith, more)
length-key_texts (suc n) (Class assembly row args ∷ parts) e =
    let more = length-key_texts (n + args) parts e in
    let rest : length (drop args (key_texts parts)) ≡ n = length-drop args (key_texts parts) ∙ omega (arith, more) in
    ap (λ k. suc k) rest
length-key_texts (suc n) (Vector ∷ parts) e =
    let more = length-key_texts (n + 1) parts e in
    length-array_texts (key_texts parts) ∙ more ∙ omega arith

abbrev comma_more : List (List ℕ) → List ℕ
comma_more [] = []
comma_more (text ∷ texts) = codes ","

-- texts of types one after another, of which the k-th is next, with what stands behind each
abbrev sequence : ℕ → List KeyPart → List (List ℕ) → List ℕ
sequence k before [] = []
sequence k before (text ∷ texts) = text ++ endings k before ++ comma_more texts ++ sequence (k + 1) before texts

-- fewer types than a part is made of end nothing; just as many end it; more are those that stand beside it
endings_open : (part : KeyPart) (before : List KeyPart) (k : ℕ) → k < key_arity part → endings k (part ∷ before) ≡ []
endings_open part before k h = rw (lt-ltb k (key_arity part) h) refl

endings_closed : (part : KeyPart) (before : List KeyPart) (k : ℕ) → key_arity part ≡ k → endings k (part ∷ before) ≡ ending_of part ++ endings 1 before
endings_closed part before k h =
    let one : (k - key_arity part) + 1 ≡ 1 = omega (arith, h) in
    rw (le-ltb k (key_arity part) (omega (arith, h)), eq-eqb (key_arity part) k h, one) refl

endings_beside : (part : KeyPart) (before : List KeyPart) (k : ℕ) → key_arity part < k → endings k (part ∷ before) ≡ endings ((k - key_arity part) + 1) before
endings_beside part before k h =
    rw (le-ltb k (key_arity part) (omega (arith, h)), ne_eqb (key_arity part) k (λ e. omega (arith, h, e))) refl

sequence_beside : (part : KeyPart) (before : List KeyPart) (k m : ℕ) (texts : List (List ℕ)) → key_arity part < k → m ≡ (k - key_arity part) + 1 → sequence k (part ∷ before) texts ≡ sequence m before texts
sequence_beside part before k m [] h e = refl
sequence_beside part before k m (text ∷ texts) h e =
    let ends : endings k (part ∷ before) ≡ endings m before = endings_beside part before k h ∙ ap (λ j. endings j before) (sym e) in
    rw (ends, sequence_beside part before (k + 1) (m + 1) texts (omega (arith, h)) (omega (arith, h, e))) refl

next_argument : (t k u f e c s : List ℕ) →
    ((t ++ []) ++ k) ++ ((((u ++ f) ++ e) ++ c) ++ s) ≡ (((t ++ ((k ++ u) ++ f)) ++ e) ++ c) ++ s
next_argument t k u f e c s = rw (append-nil t) (simp append_assoc)

-- the arguments of a class from the k-th on, and what stands behind it
arguments_end : (assembly row args : ℕ) (before : List KeyPart) (k : ℕ) (text : List ℕ) (texts others : List (List ℕ)) → k + length texts ≡ args →
    sequence k (Class assembly row args ∷ before) (text ∷ (texts ++ others))
    ≡ (((text ++ after_commas texts) ++ (codes ">" ++ endings 1 before)) ++ comma_more others) ++ sequence 2 before others
arguments_end assembly row args before k text [] others e =
    let part : KeyPart = Class assembly row args in
    rw (
      endings_closed part before k (omega (arith, e)),
      sequence_beside part before (k + 1) 2 others (omega (arith, e)) (omega (arith, e)),
      append-nil text,
    ) refl
arguments_end assembly row args before k text (next ∷ texts) others e =
    let part : KeyPart = Class assembly row args in
    rw (
      endings_open part before k (omega (arith, e)),
      arguments_end assembly row args before (k + 1) next texts others (omega (arith, e)),
    ) (next_argument text (codes ",") next (after_commas texts) (codes ">" ++ endings 1 before) (comma_more others) (sequence 2 before others))

comma_none : (part : KeyPart) (parts : List KeyPart) (n : ℕ) → key_arity part ≡ suc n → comma part parts ≡ []
comma_none part [] n e = refl
comma_none part (next ∷ parts) n e = rw (e, ne_eqb (suc n) 0 (λ x. omega (arith, x))) refl

comma_some : (texts : List (List ℕ)) (n : ℕ) → length texts ≡ suc n → comma_more texts ≡ codes ","
comma_some [] n e = absurd cc
comma_some (text ∷ texts) n e = refl

-- a comma stands between parts where it stands between the texts that they spell
comma_same : (part : KeyPart) (parts : List KeyPart) (n : ℕ) → key_arity part ≡ 0 → are_types n (map key_arity parts) ≡ true → comma part parts ≡ comma_more (key_texts parts)
comma_same part [] n none e = refl
comma_same part (next ∷ parts) zero none e = absurd cc
comma_same part (next ∷ parts) (suc n) none e =
    rw none (sym (comma_some (key_texts (next ∷ parts)) n (length-key_texts (suc n) (next ∷ parts) e)))

-- a list that is not empty, taken apart
record Apart (texts : List (List ℕ)) : Type 0 where
  pub text : List ℕ
  pub others : List (List ℕ)
  pub is : texts ≡ text ∷ others

apart : (texts : List (List ℕ)) (n : ℕ) → length texts ≡ suc n → Apart texts
apart [] n e = absurd cc
apart (text ∷ texts) n e = record { text = text; others = texts; is = refl }

class_joined : (h t f e c s : List ℕ) →
    (((h ++ codes "<") ++ []) ++ []) ++ ((((t ++ f) ++ (codes ">" ++ e)) ++ c) ++ s) ≡ (((h ++ (((codes "<" ++ t) ++ f) ++ codes ">")) ++ e) ++ c) ++ s
class_joined h t f e c s = rw (append-nil ((h ++ codes "<") ++ []), append-nil (h ++ codes "<")) (simp append_assoc)

array_joined : (t e c s : List ℕ) → ((t ++ (codes "[]" ++ e)) ++ c) ++ s ≡ (((t ++ codes "[]") ++ e) ++ c) ++ s
array_joined t e c s = simp append_assoc

-- parts that are types one after another, from the left
texts_sequence : (n : ℕ) (parts before : List KeyPart) → are_types n (map key_arity parts) ≡ true →
    texts_from before parts ≡ sequence 1 before (key_texts parts)
texts_sequence n [] before e = refl
texts_sequence zero (part ∷ parts) before e = absurd cc
texts_sequence (suc n) (Prim prim ∷ parts) before e =
    rw (
      texts_sequence (n + 0) parts (Prim prim ∷ before) e,
      sequence_beside (Prim prim) before 1 2 (key_texts parts) (omega arith) (omega arith),
      comma_same (Prim prim) parts (n + 0) refl e,
    ) refl
texts_sequence (suc n) (Class assembly row zero ∷ parts) before e =
    rw (
      texts_sequence (n + 0) parts (Class assembly row 0 ∷ before) e,
      sequence_beside (Class assembly row 0) before 1 2 (key_texts parts) (omega arith) (omega arith),
      comma_same (Class assembly row 0) parts (n + 0) refl e,
    ) refl
texts_sequence (suc n) (Class assembly row (suc m) ∷ parts) before e =
    let part : KeyPart = Class assembly row (suc m) in
    let texts = key_texts parts in
    let count = length-key_texts (n + suc m) parts e in
    let front : length (take (suc m) texts) ≡ suc m = length-take-le (suc m) texts (omega (arith, count)) in
    let cut = apart (take (suc m) texts) m front in
    let others : length cut.others ≡ m = omega (arith, front, ap length cut.is) in
    let whole : texts ≡ cut.text ∷ (cut.others ++ drop (suc m) texts) = sym (take-append-drop (suc m) texts) ∙ ap (λ t. t ++ drop (suc m) texts) cut.is in
    let head : List ℕ = codes "[" ++ decimal assembly ++ codes "]" ++ decimal row in
    let rest : texts_from (part ∷ before) parts ≡ (((cut.text ++ after_commas cut.others) ++ (codes ">" ++ endings 1 before)) ++ comma_more (drop (suc m) texts)) ++ sequence 2 before (drop (suc m) texts) =
    texts_sequence (n + suc m) parts (part ∷ before) e
    ∙ ap (λ t. sequence 1 (part ∷ before) t) whole
    ∙ arguments_end assembly row (suc m) before 1 cut.text cut.others (drop (suc m) texts) (omega (arith, others)) in
    let left : texts_from before (part ∷ parts) ≡ sequence 1 before ((head ++ arguments_text (cut.text ∷ cut.others)) ∷ drop (suc m) texts) =
    rw (comma_none part parts m refl, rest, ne_eqb (suc m) 0 (λ x. omega (arith, x)))
    (class_joined head cut.text (after_commas cut.others) (endings 1 before) (comma_more (drop (suc m) texts)) (sequence 2 before (drop (suc m) texts))) in
    left ∙ ap (λ t. sequence 1 before ((head ++ arguments_text t) ∷ drop (suc m) texts)) (sym cut.is)
texts_sequence (suc n) (Vector ∷ parts) before e =
    let texts = key_texts parts in
    let count = length-key_texts (n + 1) parts e in
    let cut = apart texts n (omega (arith, count)) in
    let rest : texts_from (Vector ∷ before) parts ≡ ((cut.text ++ (codes "[]" ++ endings 1 before)) ++ comma_more cut.others) ++ sequence 2 before cut.others =
    texts_sequence (n + 1) parts (Vector ∷ before) e
    ∙ ap (λ t. sequence 1 (Vector ∷ before) t) cut.is
    ∙ rw (endings_closed Vector before 1 refl, sequence_beside Vector before 2 2 cut.others (omega arith) (omega arith)) refl in
    let left : texts_from before (Vector ∷ parts) ≡ sequence 1 before (array_texts (cut.text ∷ cut.others)) =
    rw (comma_none Vector parts 0 refl, rest)
    (array_joined cut.text (endings 1 before) (comma_more cut.others) (sequence 2 before cut.others)) in
    left ∙ ap (λ t. sequence 1 before (array_texts t)) (sym cut.is)

-- one text, with nothing behind it
one_text : (texts : List (List ℕ)) → length texts ≡ 1 → sequence 1 [] texts ≡ get_or texts 0 []
one_text [] e = absurd cc
one_text (text ∷ []) e = append-nil ((text ++ []) ++ []) ∙ append-nil (text ++ []) ∙ append-nil text
one_text (text ∷ next ∷ texts) e = absurd cc

-- the text of a key
pub texts_are : (key parts : List KeyPart) → IsKey key → parts ≡ key → texts_from [] parts ≡ key_text key
texts_are key parts whole e =
    ap (λ p. texts_from [] p) e
    ∙ texts_sequence 1 key [] whole
    ∙ one_text (key_texts key) (length-key_texts 1 key whole)

-- the parts before the next one, the nearest first
reverse_next : (parts : List KeyPart) (i : ℕ) (d : KeyPart) → i < length parts →
    reverse (take (i + 1) parts) ≡ get_or parts i d ∷ reverse (take i parts)
reverse_next parts i d h =
    ap reverse (take_more parts i d h) ∙ reverse-append (take i parts) (get_or parts i d ∷ [])

before_next : (parts : List KeyPart) (i types : ℕ) (d : KeyPart) → 0 < i → i ≤ length parts →
    endings types (reverse (take i parts)) ≡ endings types (get_or parts (i - 1) d ∷ reverse (take (i - 1) parts))
before_next parts i types d pos h =
    let j : i ≡ (i - 1) + 1 = omega (arith, pos) in
    ap (λ k. endings types (reverse (take k parts))) j
    ∙ ap (endings types) (reverse_next parts (i - 1) d (omega (arith, pos, h)))

-- the next of the parts before was looked at
endings_next : (parts : List KeyPart) (i types : ℕ) (part : KeyPart) → key_arity part ≤ types →
    endings types (part ∷ reverse (take (i - 1) parts))
    ≡ (if key_arity part == types then ending_of part else []) ++ endings ((types - key_arity part) + 1) (reverse (take (i - 1) parts))
endings_next parts i types part le = rw (le-ltb types (key_arity part) le) refl

pub puts_ending : {S : Type 0} {written : S → Option (List ℕ)} {faults : S → ℕ} {old mid new : Line} {from via to : S} (parts : List KeyPart) (i types arity : ℕ) (d : KeyPart) →
    0 < i → i ≤ length parts → arity ≡ key_arity (get_or parts (i - 1) d) → arity ≤ types →
    (done : List ℕ) × (endings 1 (reverse parts) ≡ done ++ endings types (reverse (take i parts))) × Puts written faults old from mid via done →
    Puts written faults mid via new to (if key_arity (get_or parts (i - 1) d) == types then ending_of (get_or parts (i - 1) d) else []) →
    (done : List ℕ) × (endings 1 (reverse parts) ≡ done ++ endings ((types - arity) + 1) (reverse (take (i - 1) parts))) × Puts written faults old from new to done
puts_ending parts i types arity d pos h is le (done, whole, p) q =
    let part = get_or parts (i - 1) d in
    let one : List ℕ = if key_arity part == types then ending_of part else [] in (
      done ++ one,
      whole
          ∙ ap (λ t. done ++ t) (before_next parts i types d pos h ∙ endings_next parts i types part (omega (arith, is, le)))
          ∙ sym (append_assoc done one (endings ((types - key_arity part) + 1) (reverse (take (i - 1) parts))))
          ∙ ap (λ a. (done ++ one) ++ endings ((types - a) + 1) (reverse (take (i - 1) parts))) (sym is),
      puts_then p q,
    )

-- a part that is made of more types ends nowhere here
pub puts_open : {S : Type 0} {written : S → Option (List ℕ)} {faults : S → ℕ} {old mid : Line} {from via : S} (parts : List KeyPart) (i types arity : ℕ) (d : KeyPart) →
    0 < i → i ≤ length parts → arity ≡ key_arity (get_or parts (i - 1) d) → types < arity →
    (done : List ℕ) × (endings 1 (reverse parts) ≡ done ++ endings types (reverse (take i parts))) × Puts written faults old from mid via done →
    Puts written faults old from mid via (endings 1 (reverse parts))
puts_open parts i types arity d pos h is lt (done, whole, p) =
    let part = get_or parts (i - 1) d in
    let none : endings types (reverse (take i parts)) ≡ [] =
    before_next parts i types d pos h ∙ endings_open part (reverse (take (i - 1) parts)) types (omega (arith, is, lt)) in
    puts_as (sym (whole ∙ ap (λ t. done ++ t) none ∙ append-nil done)) p

pub puts_all : {S : Type 0} {written : S → Option (List ℕ)} {faults : S → ℕ} {old mid : Line} {from via : S} (parts : List KeyPart) (i types : ℕ) →
    i ≤ 0 →
    (done : List ℕ) × (endings 1 (reverse parts) ≡ done ++ endings types (reverse (take i parts))) × Puts written faults old from mid via done →
    Puts written faults old from mid via (endings 1 (reverse parts))
puts_all parts i types none (done, whole, p) =
    let zero_left : i ≡ 0 = omega (arith, none) in
    puts_as (sym (whole ∙ ap (λ k. done ++ endings types (reverse (take k parts))) zero_left ∙ append-nil done)) p

-- the next part was put
texts_next : (parts : List KeyPart) (i : ℕ) (d : KeyPart) → i < length parts →
    texts_from (reverse (take i parts)) (drop i parts)
    ≡ ((opening (get_or parts i d) ++ ending (reverse (take i parts)) (get_or parts i d)) ++ comma (get_or parts i d) (drop (i + 1) parts)) ++ texts_from (reverse (take (i + 1) parts)) (drop (i + 1) parts)
texts_next parts i d h =
    let part = get_or parts i d in
    let next : suc i ≡ i + 1 = omega arith in
    let here : drop i parts ≡ part ∷ drop (i + 1) parts = drop-cons parts i d h ∙ ap (λ k. part ∷ drop k parts) next in
    ap (λ p. texts_from (reverse (take i parts)) p) here
    ∙ ap (λ before. ((opening part ++ ending (reverse (take i parts)) part) ++ comma part (drop (i + 1) parts)) ++ texts_from before (drop (i + 1) parts)) (sym (reverse_next parts i d h))

pub puts_part : {S : Type 0} {written : S → Option (List ℕ)} {faults : S → ℕ} {old mid next new : Line} {from via on to : S} (parts before : List KeyPart) (i following : ℕ) (d : KeyPart) →
    i < length parts → before ≡ take i parts → following ≡ (length parts - i) - 1 →
    (done : List ℕ) × (texts_from [] parts ≡ done ++ texts_from (reverse (take i parts)) (drop i parts)) × Puts written faults old from mid via done →
    Puts written faults mid via next on (opening (get_or parts i d) ++ ending (reverse before) (get_or parts i d)) →
    ((rest : List KeyPart) → following ≡ length rest → Puts written faults next on new to (comma (get_or parts i d) rest)) →
    (done : List ℕ) × (texts_from [] parts ≡ done ++ texts_from (reverse (take (i + 1) parts)) (drop (i + 1) parts)) × Puts written faults old from new to done
puts_part parts before i following d h front count (done, whole, p) q r =
    let part = get_or parts i d in
    let rest : following ≡ length (drop (i + 1) parts) = count ∙ sym (length-drop (i + 1) parts ∙ omega arith) in
    let one : List ℕ = (opening part ++ ending (reverse (take i parts)) part) ++ comma part (drop (i + 1) parts) in
    let put = puts_then (puts_as (ap (λ b. opening part ++ ending (reverse b) part) front) q) (r (drop (i + 1) parts) rest) in (
      done ++ one,
      whole
          ∙ ap (λ t. done ++ t) (texts_next parts i d h)
          ∙ sym (append_assoc done one (texts_from (reverse (take (i + 1) parts)) (drop (i + 1) parts))),
      puts_then p put,
    )

pub puts_texts : {S : Type 0} {written : S → Option (List ℕ)} {faults : S → ℕ} {old mid : Line} {from via : S} (parts : List KeyPart) (i : ℕ) →
    length parts ≤ i →
    (done : List ℕ) × (texts_from [] parts ≡ done ++ texts_from (reverse (take i parts)) (drop i parts)) × Puts written faults old from mid via done →
    Puts written faults old from mid via (texts_from [] parts)
puts_texts parts i le (done, whole, p) =
    let none : drop i parts ≡ [] = nil_from_length (drop i parts) (length-drop i parts ∙ omega (arith, le)) in
    puts_as (sym (whole ∙ ap (λ rest. done ++ texts_from (reverse (take i parts)) rest) none ∙ append-nil done)) p
