use Rattle.std.proofs.Common.{arith, ap, sym, ◌∙◌}
use Rattle.host_script.specs.Words.{texts}
use Rattle.host_script.proofs.WordLemmas.{past_parting, past_byte, at_end}
use Rattle.host_script.proofs.words.words.Goals as goal
use Rattle.host_script.proofs.words.words.Goals.{then-is_between+in_ok-push_word, else-is_between}

pub loop-at-preserved : goal.loop-at-preserved
loop-at-preserved c =
    elim c.if-is_between.branch [
      | then-is_between+in_ok-push_word w ↦ record {
        behind = rw w.start-is (omega arith);
        left = rw w.start-is (past_parting c.args.line.now (texts c.loop-at.found.items) (texts c.if-is_between.found.items)
            c.loop-at.start c.loop-at.at c.loop-at.standing c.loop-at.invariant.behind c.loop-at-test.true
            c.loop-at.invariant.left c.after-standing.result c.after-standing.ensures
            (sym c.is_between.ensures ∙ w.if-is_between.true)
            (ap (λ v. texts v.items) w.found-is ∙ w.in_ok-push_word.ensures));
      }
      | else-is_between w ↦ record {
        behind = let was = c.loop-at.invariant.behind in rw w.start-is (omega arith);
        left = rw w.start-is (past_byte c.args.line.now (texts c.loop-at.found.items) (texts c.if-is_between.found.items)
            c.loop-at.start c.loop-at.at c.loop-at.standing c.loop-at.invariant.behind c.loop-at-test.true
            c.loop-at.invariant.left c.after-standing.result c.after-standing.ensures
            (sym c.is_between.ensures ∙ w.if-is_between.false)
            (ap (λ v. texts v.items) w.found-is));
      }
    ]

pub returns : goal.returns
returns c =
    at_end c.args.line.now (texts c.loop-at.found.items) (texts c.push_word-2.new.words.items) c.loop-at.start c.loop-at.at
    c.loop-at.standing c.loop-at.invariant.behind c.loop-at-test.false c.loop-at.invariant.left c.in_ok-push_word-2.ensures
