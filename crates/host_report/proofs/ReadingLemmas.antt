-- Lemmas on what was read so far, and on the spelling of a line.
use Rattle.std.proofs.Common.{◌≡◌, ℕ, ◌+◌, ◌-◌, Bool, List, Some, None, [], ◌∷◌, ◌++◌, length, take, ◌∙◌, ap, append-nil, arith, length-append}
use Rattle.std.specs.Prelude.{if◌then◌else◌, codes}
use Rattle.std.specs.List.{flat_map}
use Rattle.std.specs.Str.{bytes_eq}
use Rattle.std.proofs.lemmas.Grind.{flat_map-append}
use Rattle.std.proofs.Math.Seq.{take-append_seam}
use Rattle.std.proofs.lemmas.List.Concat.{flat_map-cons}
use Rattle.plug_io.specs.Sink.{HasAppended}
use Rattle.host_report.specs.declared.told.Told.{Told}
use Rattle.host_report.specs.Fields.{front_text}
use Rattle.host_report.specs.LineStages.{spelled}
use Rattle.host_report.specs.Report.{counted_texts}
use Rattle.host_report.specs.Told.{told_fields}
use Rattle.host_report.proofs.ReportLemmas.{counted_texts-append}

pub counted_push : {T : Type 0} (text : ℕ → T → List ℕ) (n : ℕ) (xs : List T) (x : T) →
    counted_texts text n (xs ++ x ∷ []) ≡ counted_texts text n xs ++ text (n + length xs) x
counted_push text n xs x =
    counted_texts-append text n xs (x ∷ [])
    ∙ ap (λ t. counted_texts text n xs ++ t) (append-nil (text (n + length xs) x))

pub mapped_push : {T : Type 0} (text : T → List ℕ) (xs : List T) (x : T) → flat_map text (xs ++ x ∷ []) ≡ flat_map text xs ++ text x
mapped_push text xs x =
    flat_map-append text xs (x ∷ [])
    ∙ ap (λ t. flat_map text xs ++ t) (flat_map-cons text x [] ∙ append-nil (text x))

same_some : {T : Type 0} (a b : T) → Some a ≡ Some b → a ≡ b
same_some a b e = cc

-- a text that was put into an empty sink
pub put_alone : (from to text : List ℕ) → from ≡ [] → HasAppended (Some from) (Some to) text → to ≡ text
put_alone from to text empty put = same_some to (from ++ text) put ∙ ap (λ f. f ++ text) empty

-- a line without its LF
all_but_last : (front : List ℕ) → take (length (front ++ codes "\n") - 1) (front ++ codes "\n") ≡ front
all_but_last front =
    let n : length (front ++ codes "\n") - 1 ≡ length front = omega (arith, length-append front (codes "\n")) in
    ap (λ k. take k (front ++ codes "\n")) n ∙ take-append_seam front (codes "\n")

pub front_of : (text front : List ℕ) (n : ℕ) → text ≡ front ++ codes "\n" → n ≡ length text - 1 → take n text ≡ front
front_of text front n e last =
    ap (λ k. take k text) last ∙ ap (λ t. take (length t - 1) t) e ∙ all_but_last front

-- a line, compared with the one spelling of what it tells
pub compared : (told : Told) (line : List ℕ) (same : Bool) → bytes_eq (front_text (told_fields told)) line ≡ same →
    spelled line told ≡ (if same then Some told else None)
compared told line same e = ap (λ (test : Bool). if test then Some told else None) e
