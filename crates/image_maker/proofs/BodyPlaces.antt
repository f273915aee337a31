-- Where the bodies of methods stand among all bodies.
use Rattle.std.proofs.Common.{◌≡◌, ℕ, zero, suc, ◌+◌, ◌-◌, ◌*◌, ◌/◌, ◌%◌, ◌≤◌, List, [], ◌∷◌, ◌++◌, length, take, drop, Option, Some, slice_get, ap, ◌∙◌, arith, None, option_and_then, refl, sym, subst}
use Rattle.std.proofs.lemmas.List.{length-append, append_assoc}
use Rattle.std.proofs.Math.Seq.{drop-append_seam, take-append_seam}
use Rattle.std.proofs.lemmas.Grind.{flat_map-append}
use Rattle.cli_words.specs.declared.span.Span.{Span}
use Rattle.pe_image.specs.Section.{span_of}
use Rattle.pe_image.specs.Reading.{pe_of}
use Rattle.cli_words.specs.Span.{LiesIn, cut}
use Rattle.image_maker.specs.declared.module.MethodRow.{MethodRow}
use Rattle.image_maker.specs.File.{bodies_bytes, body_bytes, zeros, round_up, bodies_address, rva_of, rva_by}
use Rattle.image_maker.specs.Made.{AreAligned, ArePlaced, IsPlaced}
use Rattle.image_maker.proofs.LengthFile.{padded_4}

-- a method with those before it and after it
pub parted : (methods : List MethodRow) (n : ℕ) (method : MethodRow) → slice_get methods n ≡ Some method
    → methods ≡ take n methods ++ method ∷ drop (suc n) methods
parted [] n method e = absurd (cc)
parted (first ∷ rest) zero method e =
    let same : first ≡ method = cc in ap (λ (m : MethodRow). m ∷ rest) same
parted (first ∷ rest) (suc n) method e = ap (λ (ms : List MethodRow). first ∷ ms) (parted rest n method e)

module _ (methods : List MethodRow) (n : ℕ) (method : MethodRow) (there : slice_get methods n ≡ Some method) where
  -- the bodies before it, its own, and those after it
  pub bodies_parted : bodies_bytes methods
      ≡ bodies_bytes (take n methods) ++ (body_bytes method.body ++ bodies_bytes (drop (suc n) methods))
  bodies_parted =
      ap bodies_bytes (parted methods n method there)
      ∙ flat_map-append (λ (m : MethodRow). body_bytes m.body) (take n methods) (method ∷ drop (suc n) methods)

  module _ (code : List ℕ) (has : method.body ≡ Some code) where
    abbrev before : List ℕ
    before = bodies_bytes (take n methods)

    abbrev after : List ℕ
    after = zeros (round_up 4 (length code) - length code) ++ bodies_bytes (drop (suc n) methods)

    code_parted : bodies_bytes methods ≡ before ++ (code ++ after)
    code_parted =
        bodies_parted
        ∙ ap (λ (b : Option (List ℕ)). before ++ (body_bytes b ++ bodies_bytes (drop (suc n) methods))) has
        ∙ ap (λ (bs : List ℕ). before ++ bs) (append_assoc code _ (bodies_bytes (drop (suc n) methods)))

    pub code_within : length before + length code ≤ length (bodies_bytes methods)
    code_within =
        let whole : length (bodies_bytes methods) ≡ length before + length (code ++ after) =
        ap length code_parted ∙ length-append before (code ++ after) in
        let parts : length (code ++ after) ≡ length code + length after = length-append code after in
        omega arith

    pub code_stands : take (length code) (drop (length before) (bodies_bytes methods)) ≡ code
    code_stands =
        ap (λ (bs : List ℕ). take (length code) (drop (length before) bs)) code_parted
        ∙ ap (take (length code)) (drop-append_seam before (code ++ after))
        ∙ take-append_seam code after

-- the RVA of a method, by those before it
pub same_body : (methods : List MethodRow) (n : ℕ) (method : MethodRow) → slice_get methods n ≡ Some method
    → rva_of methods (n + 1) ≡ rva_by (take n methods) method.body
same_body methods n method there =
    let less : n + 1 - 1 ≡ n = omega arith in
    let body : option_and_then (λ (x : MethodRow). x.body) (slice_get methods n) ≡ method.body =
    ap (option_and_then (λ (x : MethodRow). x.body)) there in
    ap (λ (k : ℕ). rva_by (take k methods) (option_and_then (λ (x : MethodRow). x.body) (slice_get methods k))) less
    ∙ ap (rva_by (take n methods)) body

-- the bodies of methods have a multiple of four bytes
body_quads : (body : Option (List ℕ)) → (k : ℕ) × (length (body_bytes body) ≡ k * 4)
body_quads None = (0, refl)
body_quads (Some code) = ((length code + 3) / 4, padded_4 code)

quads : (methods : List MethodRow) → (k : ℕ) × (length (bodies_bytes methods) ≡ k * 4)
quads [] = (0, refl)
quads (m ∷ methods) =
    let (here, first) = body_quads m.body in
    let (there, rest) = quads methods in
    (here + there, omega (arith, first, rest, length-append (body_bytes m.body) (bodies_bytes methods)))

aligned_at : (methods : List MethodRow) (n : ℕ) → (bodies_address + length (bodies_bytes (take n methods))) % 4 ≡ 0
aligned_at methods n = let (k, whole) = quads (take n methods) in omega (arith, whole)

same_span : {a b : Option Span} {x y : Span} → a ≡ Some x → b ≡ Some y → a ≡ b → x ≡ y
same_span p q e = cc

-- the bodies are placed, where the section of code holds them in one piece
module _ (f : List ℕ) (methods : List MethodRow)
    (found : (k len : ℕ) → k + len ≤ length (bodies_bytes methods)
    → (span : Span)
    × (span_of f (pe_of f).sections_at (pe_of f).sections (bodies_address + k) len ≡ Some span)
    × LiesIn (length f) span × (cut f span ≡ take len (drop k (bodies_bytes methods))) × (span.at ≡ 0x248 + k))
  where
    placed_by : (n : ℕ) (method : MethodRow) → slice_get methods n ≡ Some method
        → (body : Option (List ℕ)) → method.body ≡ body → IsPlaced f (rva_by (take n methods) body) body
    placed_by n method there None has = refl
    placed_by n method there (Some code) has =
        let within = code_within methods n method there code has in
        let (span, at, lies, same, place) = found (length (bodies_bytes (take n methods))) (length code) within in
        ((λ zero_rva. absurd (omega arith)), span, at, lies, same ∙ code_stands methods n method there code has)

    pub are_placed : ArePlaced f (rva_of methods) methods
    are_placed n method there =
        subst (λ (r : ℕ). IsPlaced f r method.body) (sym (same_body methods n method there))
        (placed_by n method there method.body refl)

    pub are_aligned : AreAligned f (rva_of methods) methods
    are_aligned n method code span there has fat at_span =
        let before : ℕ = length (bodies_bytes (take n methods)) in
        let is : rva_of methods (n + 1) ≡ bodies_address + before =
        same_body methods n method there ∙ ap (rva_by (take n methods)) has in
        let (own, at, lies, same, place) = found before (length code) (code_within methods n method there code has) in
        let one : own ≡ span = same_span at at_span
        (ap (λ r. span_of f (pe_of f).sections_at (pe_of f).sections r (length code)) (sym is)) in
        let (k, whole) = quads (take n methods) in
        let there_in_file : span.at ≡ 0x248 + before = ap (λ (s : Span). s.at) (sym one) ∙ place in (
          ap (λ r. r % 4) is ∙ aligned_at methods n,
          omega (arith, there_in_file, whole),
        )
