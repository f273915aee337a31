use Rattle.std.proofs.Common.{◌≡◌, ◌+◌, length, sym, ap, subst, arith, true}
use Rattle.std.specs.List.{list_all}
use Rattle.host_events.specs.Contexts.{made_count}
use Rattle.host_events.specs.Reply.{ListsUnkept}
use Rattle.host_core.specs.Allowed.{IsAllowed, keeps_to}
use Rattle.host_core.specs.Core.{Core}
use Rattle.host_core.proofs.Calm.{none_edge, none_open}
use Rattle.host_core.proofs.Collected.{IsCollectedBelow, IsCollectedBelow-none, IsCollectedBelow-more, ListsUnkept-from_collected}
use Rattle.host_core.proofs.host.HostCore.unkept.Goals as goal

pub loop-context-init : goal.loop-context-init
loop-context-init g c = record {
  collected = subst (λ l. IsCollectedBelow c.args.self.now.journal 0 l) (sym c.requires.empty) (IsCollectedBelow-none c.args.self.now.journal);
  room = omega arith;
}

pub loop-context-preserved : goal.loop-context-preserved
loop-context-preserved g c = record {
  collected =
      IsCollectedBelow-more c.args.self.now.journal c.loop-context.context c.loop-context.freed.list c.put_if.new.list.list
      c.is_unkept.result c.loop-context.invariant.collected c.is_unkept.ensures c.put_if.ensures.list;
  room = omega (arith, c.put_if.ensures.spare);
}

pub returns : goal.returns
returns g c =
    let now = c.args.self.now in
    let allowed : IsAllowed now.fixed now.journal = subst (λ (v : Core). IsAllowed v.fixed v.journal) c.self.view_is c.self.invariant.allowed in
    let kind = subst (λ b. list_all (λ e. keeps_to b e.event) now.journal ≡ true) c.requires.collects allowed.kind in
    let list : c.sealed.result.list ≡ c.loop-context.freed.list = ap (λ s. s.list) c.sealed.ensures in
    let made : made_count c.self.inside.journal.items ≡ made_count now.journal = ap (λ (v : Core). made_count v.journal) c.self.view_is in
    let all : c.loop-context.context ≡ made_count now.journal + 1 = omega (arith, c.self.invariant.represents.made, made) in
    record {
      unkept = subst (λ l. ListsUnkept now.journal l) (sym list)
          (ListsUnkept-from_collected now.fixed.files now.journal c.loop-context.context c.loop-context.freed.list allowed.proper.legal
          (none_edge now.fixed.files now.journal allowed.proper kind) (none_open now.fixed.files now.journal allowed.proper.legal kind) (omega arith) c.loop-context.invariant.collected);
      few = omega (arith, ap length list, c.loop-context.invariant.collected.few);
      sealed = cc;
    }
