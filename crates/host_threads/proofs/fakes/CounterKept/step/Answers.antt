use Rattle.std.proofs.Common.{◌≡◌, ◌<◌, ◌*◌, ◌++◌, ◌∷◌, [], cond, length, subst, sym, ap, ◌∙◌, arith}
use Rattle.std.specs.Result.{is_ok}
use Rattle.host_events.specs.declared.journal.Entry.{Entry}
use Rattle.host_threads.specs.Counted.{IsCounted, MayCount, few_counted}
use Rattle.host_threads.proofs.CountedLemmas.{IsCounted-push, counted_room}
use Rattle.host_threads.proofs.fakes.CounterKept.step.Goals as goal

pub reply_of-reply-requires : goal.reply_of-reply-requires
reply_of-reply-requires c =
    omega (arith, few_counted c.self.inside.share c.self.inside.entries.items c.self.invariant.0, c.self.inside.entries.ok.0)

pub reply_of-again-requires : goal.reply_of-again-requires
reply_of-again-requires c =
    omega (arith, few_counted c.self.inside.share c.self.inside.entries.items c.self.invariant.0, c.self.inside.entries.ok.0)

pub unwrap-requires : goal.unwrap-requires
unwrap-requires c =
    let inside = c.self.inside in
    let may : MayCount inside.share inside.entries.items c.args.thread = subst (λ v. MayCount v.0 v.1 c.args.thread) (sym c.self.view_is) c.requires in
    let room : length inside.entries.items < 3 * inside.share = counted_room inside.share inside.entries.items c.args.thread c.self.invariant.0 may in
    c.push.ensures.succeeds (omega (arith, inside.entries.ok.0, c.self.invariant.1))

pub returns-clause-allowed : goal.returns-clause-allowed
returns-clause-allowed c =
    let inside = c.self.inside in
    let entry : Entry = record { thread = c.args.thread; event = c.args.order.event; reply = c.reply_of-reply.result } in
    let may : MayCount inside.share inside.entries.items c.args.thread = subst (λ v. MayCount v.0 v.1 c.args.thread) (sym c.self.view_is) c.requires in
    let pushed : c.push.new.self.items ≡ inside.entries.items ++ entry ∷ [] = c.push.ensures.items ∙ ap (λ b. cond b (inside.entries.items ++ entry ∷ []) inside.entries.items) (ap (λ r. is_ok r) c.unwrap.ensures) in
    let count : length inside.entries.items ≡ c.len-count.result = sym inside.entries.ok.0 ∙ sym c.len-count.ensures in
    subst (IsCounted inside.share) (sym pushed)
    (IsCounted-push inside.share inside.entries.items entry c.self.invariant.0 may (c.reply_of-reply.ensures inside.entries.items count))

pub invariant_of-self : goal.invariant_of-self
invariant_of-self c =
    let inside = c.self.inside in
    let entry : Entry = record { thread = c.args.thread; event = c.args.order.event; reply = c.reply_of-reply.result } in
    let may : MayCount inside.share inside.entries.items c.args.thread = subst (λ v. MayCount v.0 v.1 c.args.thread) (sym c.self.view_is) c.requires in
    let pushed : c.push.new.self.items ≡ inside.entries.items ++ entry ∷ [] = c.push.ensures.items ∙ ap (λ b. cond b (inside.entries.items ++ entry ∷ []) inside.entries.items) (ap (λ r. is_ok r) c.unwrap.ensures) in
    let count : length inside.entries.items ≡ c.len-count.result = sym inside.entries.ok.0 ∙ sym c.len-count.ensures in (
      subst (IsCounted inside.share) (sym pushed)
          (IsCounted-push inside.share inside.entries.items entry c.self.invariant.0 may (c.reply_of-reply.ensures inside.entries.items count)),
      omega (arith, c.self.invariant.1, c.push.ensures.capacity),
    )
