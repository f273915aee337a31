-- Lemmas on the texts of reports.
use Rattle.std.proofs.Common.{◌≡◌, ℕ, ◌+◌, ◌<◌, ◌≤◌, List, Option, [], ◌∷◌, ◌++◌, length, take, get_or, sym, ◌∙◌, ap, append_assoc, append-nil, arith}
use Rattle.std.specs.List.{flat_map}
use Rattle.std.proofs.lemmas.Grind.{flat_map-append}
use Rattle.std.proofs.lemmas.List.Concat.{flat_map-cons}
use Rattle.std.proofs.lemmas.List.{take_all, take_more, length-take-le}
use Rattle.host_report.specs.declared.line.Line.{Line}
use Rattle.host_report.specs.Line.{Puts}
use Rattle.host_report.specs.Report.{counted_texts}
use Rattle.host_report.proofs.LineLemmas.{puts_as, puts_then}

-- the texts of a list in two parts
pub counted_texts-append : {T : Type 0} (text : ℕ → T → List ℕ) (n : ℕ) (xs ys : List T) →
    counted_texts text n (xs ++ ys) ≡ counted_texts text n xs ++ counted_texts text (n + length xs) ys
counted_texts-append text n [] ys = ap (λ m. counted_texts text m ys) (omega arith)
counted_texts-append text n (x ∷ xs) ys =
    ap (λ t. text n x ++ t) (counted_texts-append text (n + 1) xs ys ∙ ap (λ m. counted_texts text (n + 1) xs ++ counted_texts text m ys) (omega arith))
    ∙ sym (append_assoc (text n x) (counted_texts text (n + 1) xs) (counted_texts text (n + length (x ∷ xs)) ys))

-- the texts of one element more
pub numbered_more : {T : Type 0} (text : ℕ → T → List ℕ) (n : ℕ) (xs : List T) (i : ℕ) (d : T) →
    i < length xs →
    counted_texts text n (take (i + 1) xs) ≡ counted_texts text n (take i xs) ++ text (n + i) (get_or xs i d)
numbered_more text n xs i d h =
    ap (counted_texts text n) (take_more xs i d h)
    ∙ counted_texts-append text n (take i xs) (get_or xs i d ∷ [])
    ∙ ap (λ t. counted_texts text n (take i xs) ++ t)
    (append-nil (text (n + length (take i xs)) (get_or xs i d)) ∙ ap (λ m. text (n + m) (get_or xs i d)) (length-take-le i xs (omega arith)))

-- the next of the elements was put
pub puts_numbered : {S T : Type 0} {written : S → Option (List ℕ)} {faults : S → ℕ} {old mid new : Line} {from via to : S} (text : ℕ → T → List ℕ) (n m : ℕ) (xs : List T) (i : ℕ) (x d : T) →
    i < length xs → m ≡ n + i → x ≡ get_or xs i d →
    Puts written faults old from mid via (counted_texts text n (take i xs)) →
    Puts written faults mid via new to (text m x) →
    Puts written faults old from new to (counted_texts text n (take (i + 1) xs))
puts_numbered {S} {T} {written} {faults} {old} {mid} {new} {from} {via} {to} text n m xs i x d h number item p q =
    rw (numbered_more text n xs i d h, ← number, ← item) (puts_then p q)

-- the same of texts that are not numbered
pub puts_each : {S T : Type 0} {written : S → Option (List ℕ)} {faults : S → ℕ} {old mid new : Line} {from via to : S} (text : T → List ℕ) (xs : List T) (i : ℕ) (x d : T) →
    i < length xs → x ≡ get_or xs i d →
    Puts written faults old from mid via (flat_map text (take i xs)) →
    Puts written faults mid via new to (text x) →
    Puts written faults old from new to (flat_map text (take (i + 1) xs))
puts_each {S} {T} {written} {faults} {old} {mid} {new} {from} {via} {to} text xs i x d h item p q =
    puts_as (sym (ap (flat_map text) (take_more xs i d h)
    ∙ flat_map-append text (take i xs) (get_or xs i d ∷ [])
    ∙ ap (λ t. flat_map text (take i xs) ++ t) (flat_map-cons text (get_or xs i d) [] ∙ append-nil (text (get_or xs i d)) ∙ ap text (sym item)))) (puts_then p q)

-- all of the elements were put
pub puts_numbered_all : {S T : Type 0} {written : S → Option (List ℕ)} {faults : S → ℕ} {old new : Line} {from to : S} (text : ℕ → T → List ℕ) (n : ℕ) (xs : List T) (i : ℕ) →
    length xs ≤ i →
    Puts written faults old from new to (counted_texts text n (take i xs)) →
    Puts written faults old from new to (counted_texts text n xs)
puts_numbered_all text n xs i h p = puts_as (ap (counted_texts text n) (take_all i xs h)) p

-- the same of texts that are not numbered
pub puts_each_all : {S T : Type 0} {written : S → Option (List ℕ)} {faults : S → ℕ} {old new : Line} {from to : S} (text : T → List ℕ) (xs : List T) (i : ℕ) →
    length xs ≤ i →
    Puts written faults old from new to (flat_map text (take i xs)) →
    Puts written faults old from new to (flat_map text xs)
puts_each_all text xs i h p = puts_as (ap (flat_map text) (take_all i xs h)) p
