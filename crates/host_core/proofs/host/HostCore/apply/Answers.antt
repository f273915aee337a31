-- What the order brings, and what the host keeps, at the fields.
use Rattle.std.proofs.Common.{◌∙◌, List, length, ap, arith}
use Rattle.std.specs.Result.{is_ok}
use Rattle.std.specs.Vec.{vec_capacity}
use Rattle.std.proofs.lemmas.Bool.{cond-true}
use Rattle.host_events.specs.declared.journal.Entry.{Entry}
use Rattle.host_core.specs.Core.{Core}
use Rattle.host_core.proofs.Applied.{IsKeptUp-push, allowed-at, allowed-seen, follow-fits, is_reply-inside, next-le, numbers-fit, retell-fits}
use Rattle.host_core.proofs.Keeps.{IsAccepted-same}
use Rattle.host_core.proofs.host.HostCore.apply.Goals as goal

pub reply_to-reply-requires-clause-short : goal.reply_to-reply-requires-clause-short
reply_to-reply-requires-clause-short g c =
    omega (
      arith,
      next-le c.self.invariant.allowed (IsAccepted-same c.self.view_is c.requires),
      c.self.invariant.events,
      ap (λ (v : Core). length v.journal) c.self.view_is,
    )

pub reply_to-reply-requires-clause-room : goal.reply_to-reply-requires-clause-room
reply_to-reply-requires-clause-room g c = numbers-fit (allowed-seen c.self.view_is c.self.invariant.allowed) c.requires

pub retold-told-requires : goal.retold-told-requires
retold-told-requires g c =
    retell-fits c.reply_to-reply.result (allowed-seen c.self.view_is c.self.invariant.allowed) c.requires c.reply_to-reply.ensures.reply c.reply_to-reply.ensures.few

pub follow-requires : goal.follow-requires
follow-requires g c =
    follow-fits c.reply_to-reply.result c.self.invariant (IsAccepted-same c.self.view_is c.requires)
    (is_reply-inside c.args.order.event c.reply_to-reply.result c.self.view_is c.reply_to-reply.ensures.reply)

pub unwrap-requires : goal.unwrap-requires
unwrap-requires g c =
    c.push.ensures.succeeds (omega (arith, next-le c.self.invariant.allowed (IsAccepted-same c.self.view_is c.requires), c.self.invariant.room))

pub invariant_of-self : goal.invariant_of-self
invariant_of-self g c =
    let accepted = IsAccepted-same c.self.view_is c.requires in
    let pushed = c.push.ensures.succeeds (omega (arith, next-le c.self.invariant.allowed accepted, c.self.invariant.room)) in
    IsKeptUp-push c.reply_to-reply.result c.self.invariant accepted
    (is_reply-inside c.args.order.event c.reply_to-reply.result c.self.view_is c.reply_to-reply.ensures.reply)
    c.follow.new.self c.follow.ensures c.push.new.self.items (vec_capacity c.push.new.self)
    (◌∙◌ {A = List Entry} c.push.ensures.items (cond-true {A = List Entry} (is_ok c.push.result) _ _ pushed)) c.push.ensures.capacity

pub returns-clause-allowed : goal.returns-clause-allowed
returns-clause-allowed g c =
    let accepted = IsAccepted-same c.self.view_is c.requires in
    let pushed = c.push.ensures.succeeds (omega (arith, next-le c.self.invariant.allowed accepted, c.self.invariant.room)) in
    allowed-at c.reply_to-reply.result c.self.invariant accepted
    (is_reply-inside c.args.order.event c.reply_to-reply.result c.self.view_is c.reply_to-reply.ensures.reply)
    c.push.new.self.items (◌∙◌ {A = List Entry} c.push.ensures.items (cond-true {A = List Entry} (is_ok c.push.result) _ _ pushed))
