use Rattle.std.proofs.Common.{◌≡◌, ◌+◌, ◌≤◌, ◌<◌, ◌∙◌, ℕ, List, sym, ap, subst, arith}
use Rattle.metadata_tables.specs.Tables as tables
use Rattle.assembly_image.specs.Module.{count, number}
use Rattle.assembly_image.specs.Members.{list_of_kind}
use Rattle.assembly_image.specs.Reading.{module_of, Reads}
use Rattle.assembly_image.proofs.ImageLemmas.{reads_of, counted}
use Rattle.assembly_image.proofs.MemberLemmas.{has_member, has_no_member}
use Rattle.assembly_image.proofs.image.AssemblyImage.type_of.Goals as goal
use Rattle.assembly_image.proofs.image.AssemblyImage.type_of.Goals.{then-low-eq0-via-then-low-eq0, then-low-eq0-via-else-low-eq0+then-list_end-n}

pub loop-low-init : goal.loop-low-init
loop-low-init c =
    let all : c.count-high.result ≡ count (module_of c.args.self.now) tables.type_def =
    c.count-high.ensures ∙ counted _ _ _ _ c.self.invariant.parts tables.type_def (omega arith)
    ∙ ap (λ (bytes : List ℕ). count (module_of bytes) tables.type_def) c.self.view_is in
    record {
      within = omega arith;
      most = omega (arith, all);
      before = λ h. absurd (omega (arith, h));
      past = λ h. absurd (omega (arith, h, all));
    }

pub returns-then-low-eq0 : goal.returns-then-low-eq0
returns-then-low-eq0 c =
    let held = c.args.self.now in
    let m = module_of held in
    let kind = c.args.kind in
    let n = c.args.n in
    let low = c.loop-low.low in
    let reads = subst (λ (bytes : List ℕ). Reads bytes (module_of bytes)) c.self.view_is (reads_of _ _ _ _ c.self.invariant.parts) in
    let within = c.loop-low.invariant.within in
    let same : c.loop-low.high ≡ low = omega (arith, within, c.loop-low-test.false) in
    let most : low ≤ count m tables.type_def = subst (λ (h : ℕ). h ≤ count m tables.type_def) same c.loop-low.invariant.most in
    let past = subst (λ (h : ℕ). h < count m tables.type_def → n < number m tables.type_def (h + 1) (list_of_kind kind)) same c.loop-low.invariant.past in
    elim c.then-low-eq0.branch [
      | then-low-eq0-via-then-low-eq0 w ↦
          sym (has_no_member held m reads kind n low most c.loop-low.invariant.before
          (λ h. absurd (omega (arith, h, w.if-low-eq0.true))) past)
      | then-low-eq0-via-else-low-eq0+then-list_end-n w ↦
          sym (has_no_member held m reads kind n low most c.loop-low.invariant.before
          (λ _. subst (λ (e : ℕ). e ≤ n) w.list_end.ensures.value w.if-list_end-n.true) past)
    ]

pub returns : goal.returns
returns c =
    let held = c.args.self.now in
    let m = module_of held in
    let kind = c.args.kind in
    let n = c.args.n in
    let low = c.loop-low.low in
    let reads = subst (λ (bytes : List ℕ). Reads bytes (module_of bytes)) c.self.view_is (reads_of _ _ _ _ c.self.invariant.parts) in
    let within = c.loop-low.invariant.within in
    let same : c.loop-low.high ≡ low = omega (arith, within, c.loop-low-test.false) in
    let most : low ≤ count m tables.type_def = subst (λ (h : ℕ). h ≤ count m tables.type_def) same c.loop-low.invariant.most in
    let some = c.if-low-eq0.false in
    sym (has_member held m reads kind n low (omega (arith, some)) most (c.loop-low.invariant.before (omega (arith, some)))
    (subst (λ (e : ℕ). n < e) c.list_end.ensures.value c.if-list_end-n.false))
