use Rattle.std.proofs.Common.{◌∙◌, ap, arith, Some}
use Rattle.host_core.specs.Core.{Core}
use Rattle.host_core.proofs.Codes.{code_none, code_some}
use Rattle.host_core.proofs.host.HostCore.assembly_of.Goals as goal

pub returns-in_err-loaded : goal.returns-in_err-loaded
returns-in_err-loaded g c =
    c.from_residual-in_err-loaded.ensures
    ∙ code_none c.self.inside.app c.args.self.now.journal c.in_ok-index.index c.args.assembly c.deref.result.now c.self.invariant.represents
    c.self.invariant.allowed.proper.legal (ap (λ (v : Core). v.journal) c.self.view_is) (omega (arith, c.in_ok-index.ensures)) c.deref.ensures.value c.in_err-loaded.ensures.lookup.3

pub returns : goal.returns
returns g c =
    ap Some c.code_of.ensures
    ∙ code_some c.self.inside.app c.args.self.now.journal c.in_ok-index.index c.args.assembly c.deref.result.now c.in_ok-loaded.loaded.now c.self.invariant.represents
    c.self.invariant.allowed.proper.legal (ap (λ (v : Core). v.journal) c.self.view_is) (omega (arith, c.in_ok-index.ensures)) c.deref.ensures.value
    c.in_ok-loaded.ensures.lookup.3.0 c.in_ok-loaded.ensures.lookup.1
