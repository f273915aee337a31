-- Checks in stages: the first stage that has a fault gives the answer of them all.
use Rattle.std.proofs.Common.{◌≡◌, ℕ, List, ◌++◌, Result, Ok, Err, sym, ap, subst}
use Rattle.cli_words.specs.Check.{first_fault, answer}
use Rattle.cli_words.specs.declared.check.FailedCheck.{FailedCheck}
use Rattle.cli_words.specs.declared.span.Span.{Span}
use Rattle.cli_words.proofs.FirstFault.{Checks, answer-ok, answer-err, answer-refuses, answer-goes_on, answer-carries}
use Rattle.pe_image.specs.declared.pe.Pe.{Pe}
use Rattle.pe_image.specs.Section.{section_count, sections_place}
use Rattle.pe_image.specs.Layout.{signature_place, directory_place, cli_place, metadata, found}
use Rattle.pe_image.specs.Checks.{header_checks, optional_checks, cli_checks, metadata_checks, pe_checks}
use Rattle.pe_image.specs.Reading.{pe_of}

value : {A : Type 0} (xs : Checks) (v a : A) → Ok v ≡ answer (first_fault xs) a → v ≡ a
value xs v a e = (answer-ok (first_fault xs) v a e).1

module _ (bytes : List ℕ) where
  abbrev pe_with : ℕ → ℕ → Span → Pe
  pe_with first count root = record { sections_at = first; sections = count; root_at = root.at; root_len = root.len }

  -- the answer of the last stage, and of the last two, three and four
  abbrev pub Last : ℕ → ℕ → ℕ → Result Pe FailedCheck → Type 0
  Last first count cli r =
      r ≡ answer (first_fault (metadata_checks bytes first count cli)) (pe_with first count (found (metadata bytes first count cli)))

  abbrev pub LastTwo : ℕ → ℕ → ℕ → Result Pe FailedCheck → Type 0
  LastTwo first count directory r =
      r ≡ answer (first_fault (cli_checks bytes first count directory ++ metadata_checks bytes first count (cli_place bytes first count directory)))
      (pe_with first count (found (metadata bytes first count (cli_place bytes first count directory))))

  abbrev pub LastThree : ℕ → Result Pe FailedCheck → Type 0
  LastThree signature r =
      let directory = directory_place bytes signature in
      let first = sections_place bytes signature in
      let count = section_count bytes signature in
      let cli = cli_place bytes first count directory in
      r ≡ answer (first_fault (optional_checks bytes signature ++ (cli_checks bytes first count directory ++ metadata_checks bytes first count cli)))
      (pe_with first count (found (metadata bytes first count cli)))

  abbrev pub All : Result Pe FailedCheck → Type 0
  All r = r ≡ answer (first_fault (pe_checks bytes)) (pe_of bytes)

  pub fails_last : (first count cli : ℕ) (fault : FailedCheck)
      → Err fault ≡ answer (first_fault (metadata_checks bytes first count cli)) (found (metadata bytes first count cli)) → Last first count cli (Err fault)
  fails_last first count cli fault e = sym (ap (λ o. answer o (pe_with first count (found (metadata bytes first count cli)))) (answer-err (first_fault (metadata_checks bytes first count cli)) fault _ e))

  pub reads_last : (first count cli : ℕ) (root : Span)
      → Ok root ≡ answer (first_fault (metadata_checks bytes first count cli)) (found (metadata bytes first count cli))
      → Last first count cli (Ok (pe_with first count root))
  reads_last first count cli root e = answer-carries (pe_with first count) _ root _ e

  pub fails_cli : (first count directory : ℕ) (fault : FailedCheck)
      → Err fault ≡ answer (first_fault (cli_checks bytes first count directory)) (cli_place bytes first count directory) → LastTwo first count directory (Err fault)
  fails_cli first count directory fault e = answer-refuses (cli_checks bytes first count directory) _ fault _ _ e

  pub after_cli : (first count directory cli : ℕ) (r : Result Pe FailedCheck)
      → Ok cli ≡ answer (first_fault (cli_checks bytes first count directory)) (cli_place bytes first count directory) → Last first count cli r
      → LastTwo first count directory r
  after_cli first count directory cli r e told =
      answer-goes_on (cli_checks bytes first count directory) _ cli _ _ r e
      (subst (λ (at : ℕ). Last first count at r) (value (cli_checks bytes first count directory) cli _ e) told)

  pub fails_optional : (signature : ℕ) (fault : FailedCheck)
      → Err fault ≡ answer (first_fault (optional_checks bytes signature)) (directory_place bytes signature) → LastThree signature (Err fault)
  fails_optional signature fault e = answer-refuses (optional_checks bytes signature) _ fault _ _ e

  pub after_optional : (signature first count directory : ℕ) (r : Result Pe FailedCheck)
      → first ≡ sections_place bytes signature → count ≡ section_count bytes signature
      → Ok directory ≡ answer (first_fault (optional_checks bytes signature)) (directory_place bytes signature) → LastTwo first count directory r
      → LastThree signature r
  after_optional signature first count directory r f n e told =
      answer-goes_on (optional_checks bytes signature) _ directory _ _ r e
      (subst (λ (at : ℕ). LastTwo (sections_place bytes signature) (section_count bytes signature) at r) (value (optional_checks bytes signature) directory _ e)
      (subst (λ (many : ℕ). LastTwo (sections_place bytes signature) many directory r) n
      (subst (λ (at : ℕ). LastTwo at count directory r) f told)))

  pub fails_headers : (fault : FailedCheck) → Err fault ≡ answer (first_fault (header_checks bytes)) (signature_place bytes) → All (Err fault)
  fails_headers fault e = answer-refuses (header_checks bytes) _ fault _ _ e

  pub after_headers : (signature : ℕ) (r : Result Pe FailedCheck)
      → Ok signature ≡ answer (first_fault (header_checks bytes)) (signature_place bytes) → LastThree signature r → All r
  after_headers signature r e told =
      answer-goes_on (header_checks bytes) _ signature _ _ r e (subst (λ (at : ℕ). LastThree at r) (value (header_checks bytes) signature _ e) told)
