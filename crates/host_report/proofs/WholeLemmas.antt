-- What a call that reads a report gives back, from what it read.
use Rattle.std.proofs.Common.{◌≡◌, ℕ, ◌+◌, ◌≤◌, ◌++◌, List, [], Option, Some, None, Result, Err, length, sym, ◌∙◌, ap, subst, arith, length-append}
use Rattle.std.specs.Prelude.{codes, IfOk, IfSome, IfNone}
use Rattle.std.specs.Option.{ok_or}
use Rattle.host_report.specs.declared.reading.ReadBack.{ReadBack}
use Rattle.host_report.specs.declared.reading.ReportFault.{ReportFault}
use Rattle.host_report.specs.declared.reading.ReportFault.TheVariants as faults
use Rattle.host_report.specs.declared.unread.Unread.{Unread}
use Rattle.host_report.specs.declared.unread.Unread.TheVariants.{Differs}
use Rattle.host_report.specs.LineStages.{Stage, stage_after, IsReached, IsUnfinished}
use Rattle.host_report.specs.ReadBack.{IsReadBack, IsRefusedAt, IsUnbroken}
use Rattle.host_report.specs.Reading.{Reads}
use Rattle.host_report.proofs.RefusalLemmas.{read_whole, refused_last, refused_line}

-- nothing was read
pub none_read : {T V : Type 0} (view : T → V) (there : Option V) (unread : Unread) → Reads view (Err unread) there → unread ≡ Differs → there ≡ None
none_read {T} {V} view there unread read differs = subst (λ e. Reads view (Err e) there) differs read

-- how long a line and its rest are
pub line_length : (rest own after : List ℕ) → rest ≡ own ++ codes "\n" ++ after → length after + 1 ≤ length rest
line_length rest own after parted =
    let long : length rest ≡ length own + 1 + length after = ap length parted ∙ length-append (own ++ codes "\n") after ∙ ap (λ n. n + length after) (length-append own (codes "\n")) in
    omega (arith, long)

-- the text is refused at the line that was read last
pub refused_at : {text rest : List ℕ} {line : ℕ} {from : Stage} → IsReached text rest line from →
    (own after : List ℕ) → rest ≡ own ++ codes "\n" ++ after → IsUnbroken own → stage_after from own ≡ None →
    (other : ℕ) → line ≡ other → IsRefusedAt text other
refused_at {text} {rest} {line} {from} r own after parted unbroken none other same =
    subst (IsRefusedAt text) same (refused_line r own after parted unbroken none)

-- what is given back where no whole line follows
pub ended : {text rest : List ℕ} {line : ℕ} {stage : Stage} → IsReached text rest line stage → IsUnbroken rest →
    (found : Option ReadBack) → IfSome found (λ read. stage ≡ Stage.Whole read.ends read.journal) → IfSome found (λ read. rest ≡ []) →
    IfNone found (IsUnfinished stage rest) → (result : Result ReadBack ReportFault) → result ≡ ok_or found (faults.At line) →
    IfOk result (λ read. IsReadBack text (read.ends, read.journal)) × ((other : ℕ) → result ≡ Err (faults.At other) → IsRefusedAt text other)
ended {text} {rest} {line} {stage} r last None some all none result e = (
  subst (λ res. IfOk res (λ read. IsReadBack text (read.ends, read.journal))) (sym e) tt,
  λ other f.
      let same : line ≡ other = cc in
      subst (IsRefusedAt text) same (refused_last r last none),
)
ended {text} {rest} {line} {stage} r last (Some read) some all none result e = (
  subst (λ res. IfOk res (λ read. IsReadBack text (read.ends, read.journal))) (sym e)
      (read_whole read.ends read.journal (subst (IsReached text rest line) some r) all),
  λ other f. absurd (cc),
)
