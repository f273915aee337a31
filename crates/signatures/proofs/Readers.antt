-- What holds of each kind of signature: what is read is what is spelled, and where a reading halts.
use Rattle.std.proofs.Common.{◌≡◌, ℕ, ◌+◌, ◌-◌, ◌≤◌, List, [], ◌∷◌, ◌++◌, take, drop, length, Result, Ok, Err, refl, sym, ap, ◌∙◌, subst, append_assoc, length-append, arith}
use Rattle.std.specs.Prelude.{IfOk, IfErr}
use Rattle.std.proofs.lemmas.List.{append-nil, length-take}
use Rattle.cli_words.specs.declared.span.Span.{Span}
use Rattle.cli_words.specs.Span.{cut}
use Rattle.signatures.specs.declared.feature.Feature as feature
use Rattle.signatures.specs.declared.fault.Stop.{Stop}
use Rattle.signatures.specs.declared.fault.Stop.TheVariants.{Bad, Feature}
use Rattle.signatures.specs.declared.fault.SigFault.{SigFault}
use Rattle.signatures.specs.declared.fault.SigFault.TheVariants as fault
use Rattle.signatures.specs.Grammar.{Reading, ◌>>=◌, field_at, method_at, locals_at, type_at}
use Rattle.signatures.specs.Signatures.{IsIn, ended, whole, placed, GivesReading}
use Rattle.signatures.specs.Spelling.{SpellsField, SpellsMethod, SpellsLocals, SpellsType}
use Rattle.signatures.specs.Laws.{AreBytes, IsFront, OfTypes, OfMethods, ReadsAsSpelled, Stops, StopsAtFirst}
use Rattle.signatures.proofs.Found.{Takes, same_ok, bytes-cut, field-found, method-found, locals-found, type-found}
use Rattle.signatures.proofs.Again.{field-again, method-again, locals-again, type-again}
use Rattle.signatures.proofs.Halts.{Halts, Told, Ends, same_end, either_ends, bind-ends, bad_at, halts-after}
use Rattle.signatures.proofs.Halted.{field-halts, method-halts, locals-halt, type-halts}

pub record IsReader {A : Type 0} (LeavesOut : List ℕ → ℕ → feature.Feature → Type 0) (Spelled : A → List ℕ → Type 0) (read : List ℕ → Reading A) : Type 0 where
  pub found : (bytes rest : List ℕ) (value : A) → AreBytes bytes → read bytes ≡ Ok (value, rest) → Takes Spelled bytes value rest
  pub again : (front rest : List ℕ) (value : A) → Spelled value front → read (front ++ rest) ≡ Ok (value, rest)
  pub halts : (bytes : List ℕ) (end : Stop) → AreBytes bytes → read bytes ≡ Err end → Halts LeavesOut (IsFront Spelled) (Ends read) bytes end

pub field-reader : IsReader OfTypes SpellsField field_at
field-reader = record { found = field-found; again = field-again; halts = field-halts }

pub method-reader : IsReader OfMethods SpellsMethod method_at
method-reader = record { found = method-found; again = method-again; halts = method-halts }

pub locals-reader : IsReader OfTypes SpellsLocals locals_at
locals-reader = record { found = locals-found; again = locals-again; halts = locals-halt }

pub type-reader : IsReader OfTypes SpellsType type_at
type-reader = record { found = type-found; again = λ front rest sig h. type-again sig front rest h; halts = type-halts }

-- a reading that took its bytes whole
whole_ok : {A : Type 0} (reading : Reading A) (x : A) → whole reading ≡ Ok x → reading ≡ Ok (x, [])
whole_ok (Ok (y, [])) x h = ap (λ z. Ok (z, [])) (same_ok y x h)
whole_ok (Ok (y, byte ∷ rest)) x h = absurd cc
whole_ok (Err stop) x h = absurd cc

whole-found : {A : Type 0} {L : List ℕ → ℕ → feature.Feature → Type 0} {S : A → List ℕ → Type 0} {read : List ℕ → Reading A} → IsReader L S read
    → (bytes : List ℕ) (value : A) → AreBytes bytes → whole (read bytes) ≡ Ok value → S value bytes
whole-found {A} {L} {S} {read} reader bytes value small h =
    let t = reader.found bytes [] value small (whole_ok (read bytes) value h) in
    subst (λ front. S value front) (sym (t.2 ∙ append-nil t.0)) t.1

whole-again : {A : Type 0} {L : List ℕ → ℕ → feature.Feature → Type 0} {S : A → List ℕ → Type 0} {read : List ℕ → Reading A} → IsReader L S read
    → (bytes : List ℕ) (value : A) → S value bytes → whole (read bytes) ≡ Ok value
whole-again {A} {L} {S} {read} reader bytes value spelled =
    let t : read bytes ≡ Ok (value, []) = ap read (sym (append-nil bytes)) ∙ reader.again bytes [] value spelled in
    rw t refl

whole-halts : {A : Type 0} {L : List ℕ → ℕ → feature.Feature → Type 0} {S : A → List ℕ → Type 0} {read : List ℕ → Reading A} → IsReader L S read
    → (bytes : List ℕ) (end : Stop) → AreBytes bytes → whole (read bytes) ≡ Err end → Halts L (IsFront S) (Ends (λ blob. whole (read blob))) bytes end
whole-halts {A} {L} {S} {read} reader bytes end small h =
    either_ends (read bytes) (λ x. ended x.0 x.1) end Goal h
    (λ none. halts-after [] bytes bytes end refl (λ front byte name n. n) (λ front f. f) (λ others s same ends. bind-ends (read others) (λ x. ended x.0 x.1) s ends) (reader.halts bytes end small none))
    (λ x found later. left x.0 x.1 found later) where
      Goal : Type 0
      Goal = Halts L (IsFront S) (Ends (λ blob. whole (read blob))) bytes end

      over : (front others : List ℕ) (byte : ℕ) (value : A) → S value front → whole (read (front ++ byte ∷ others)) ≡ Err (Bad (length (byte ∷ others)))
      over front others byte value spelled = rw (reader.again front (byte ∷ others) value spelled) refl

      left : (value : A) (rest : List ℕ) → read bytes ≡ Ok (value, rest) → ended value rest ≡ Err end → Goal
      left value [] found h = absurd cc
      left value (byte ∷ rest) found h =
          let t = reader.found bytes (byte ∷ rest) value small found in
          record {
            front = t.0;
            rest = byte ∷ rest;
            split = t.2;
            goes = (value, [], subst (λ front. S value front) (sym (append-nil t.0)) t.1);
            told = bad_at L (Ends (λ blob. whole (read blob))) t.0 byte rest end (sym (same_end (Bad (length (byte ∷ rest))) end h)) (λ others. over t.0 others byte value t.1);
          }

pub reads-as-spelled : {A : Type 0} {L : List ℕ → ℕ → feature.Feature → Type 0} {S : A → List ℕ → Type 0} {read : List ℕ → Reading A} → IsReader L S read
    → ReadsAsSpelled S (λ blob. whole (read blob))
reads-as-spelled reader blob value small = (λ h. whole-found reader blob value small h, λ h. whole-again reader blob value h)

-- no spelling goes on where a reading ends whatever comes
pub stops-at-first : {A : Type 0} {L : List ℕ → ℕ → feature.Feature → Type 0} {S : A → List ℕ → Type 0} {read : List ℕ → Reading A} → IsReader L S read
    → StopsAtFirst L S (λ blob. whole (read blob))
stops-at-first {A} {L} {S} {read} reader blob end small h =
    let k = whole-halts reader blob end small h in
    (k.front, k.rest, k.split, k.goes, stops k.front k.rest end k.told) where
      none : (front : List ℕ) (byte : ℕ) (s : List ℕ → Stop) → ((others : List ℕ) → whole (read (front ++ byte ∷ others)) ≡ Err (s others)) → ¬ IsFront S (front ++ byte ∷ [])
      none front byte s ends f =
          let spelled : S f.0 (front ++ byte ∷ f.1) = subst (λ zs. S f.0 zs) (append_assoc front (byte ∷ []) f.1) f.2 in
          let read_whole = whole-again reader (front ++ byte ∷ f.1) f.0 spelled in
          let no = ends f.1 in
          absurd cc

      stops : (front rest : List ℕ) (end : Stop) → Told L (Ends (λ blob. whole (read blob))) front rest end → Stops L S front rest end
      stops front [] end t = t
      stops front (byte ∷ rest) (Bad n) t = (t.0, none front byte (λ others. Bad (length (byte ∷ others))) t.1)
      stops front (byte ∷ rest) (Feature name) t = (t.0, none front byte (λ others. Feature name) t.1)

-- no more bytes are left than these
abbrev EndsIn : {A : Type 0} → ℕ → Result A Stop → Type 0
EndsIn n (Ok x) = Unit {0}
EndsIn n (Err (Bad left)) = left ≤ n
EndsIn n (Err (Feature name)) = Unit {0}

whole-ends : {A : Type 0} {L : List ℕ → ℕ → feature.Feature → Type 0} {S : A → List ℕ → Type 0} {read : List ℕ → Reading A} → IsReader L S read
    → (bytes : List ℕ) → AreBytes bytes → EndsIn (length bytes) (whole (read bytes))
whole-ends {A} {L} {S} {read} reader bytes small = ends (whole (read bytes)) refl where
  within : (front rest : List ℕ) (left : ℕ) → bytes ≡ front ++ rest → Told L (Ends (λ blob. whole (read blob))) front rest (Bad left) → left ≤ length bytes
  within front [] left e t = let none : left ≡ 0 = cc in omega arith
  within front (byte ∷ rest) left e t =
      let size : length bytes ≡ length front + length (byte ∷ rest) = ap (λ (zs : List ℕ). length zs) e ∙ length-append front (byte ∷ rest) in
      omega (arith, size, t.0)

  ends : (reading : Result A Stop) → whole (read bytes) ≡ reading → EndsIn (length bytes) reading
  ends (Ok x) h = tt
  ends (Err (Feature name)) h = tt
  ends (Err (Bad left)) h = let k = whole-halts reader bytes (Bad left) small h in within k.front k.rest left k.split k.told

-- what a call says besides that it gives the reading of a span's bytes
pub record Tells {X Y : Type 0} (view : X → Y) (Spelled : Y → List ℕ → Type 0) (bytes : List ℕ) (blob : Span) (result : Result X SigFault) : Type 0 where
  pub spelled : IfOk result (λ x. Spelled (view x) (cut bytes blob))
  pub only : (value : Y) → Spelled value (cut bytes blob) → GivesReading view result (Ok value)
  pub place : IfErr result (λ fault. IsIn blob fault)

pub tells : {X Y : Type 0} {L : List ℕ → ℕ → feature.Feature → Type 0} {S : Y → List ℕ → Type 0} {read : List ℕ → Reading Y} → IsReader L S read
    → (view : X → Y) (bytes : List ℕ) (blob : Span) (result : Result X SigFault) → AreBytes bytes → GivesReading view result (placed blob (whole (read (cut bytes blob)))) → Tells view S bytes blob result
tells {X} {Y} {L} {S} {read} reader view bytes blob result small gives = record {
  spelled = spelled (whole (read (cut bytes blob))) result refl gives;
  only = λ value s. subst (λ reading. GivesReading view result (placed blob reading)) (whole-again reader (cut bytes blob) value s) gives;
  place = place (whole (read (cut bytes blob))) result (shorter (whole (read (cut bytes blob))) (whole-ends reader (cut bytes blob) small_blob)) gives;
} where
  small_blob : AreBytes (cut bytes blob)
  small_blob = bytes-cut bytes blob.at blob.len small

  spelled : (reading : Result Y Stop) (result : Result X SigFault) → whole (read (cut bytes blob)) ≡ reading → GivesReading view result (placed blob reading) → IfOk result (λ x. S (view x) (cut bytes blob))
  spelled reading (Err why) e gives = tt
  spelled (Err stop) (Ok x) e gives = absurd cc
  spelled (Ok y) (Ok x) e gives =
      let value : Result Y SigFault → Y = λ r. elim r [ Ok z ↦ z | Err fault ↦ y ] in
      whole-found reader (cut bytes blob) (view x) small_blob (e ∙ ap (λ z. Ok z) (ap value gives))

  shorter : (reading : Result Y Stop) → EndsIn (length (cut bytes blob)) reading → EndsIn blob.len reading
  shorter (Ok x) h = tt
  shorter (Err (Bad left)) h = omega (arith, length-take blob.len (drop blob.at bytes))
  shorter (Err (Feature name)) h = tt

  place : (reading : Result Y Stop) (result : Result X SigFault) → EndsIn blob.len reading → GivesReading view result (placed blob reading) → IfErr result (λ fault. IsIn blob fault)
  place reading (Ok x) ends gives = tt
  place reading (Err fault.OutOfMemory) ends gives = tt
  place reading (Err (fault.Feature name)) ends gives = tt
  place (Ok y) (Err (fault.Bad at)) ends gives = absurd cc
  place (Err (Feature name)) (Err (fault.Bad at)) ends gives = absurd cc
  place (Err (Bad left)) (Err (fault.Bad at)) ends gives =
      let e : blob.at + blob.len - left ≡ at = cc in
      (omega arith, omega arith)
