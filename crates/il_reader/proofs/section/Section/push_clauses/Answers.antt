use Rattle.std.proofs.Common.{◌∙◌, ◌<◌, ℕ, ◌∷◌, [], ◌++◌, map, subst, sym, ap}
use Rattle.std.specs.List.{range_with_len}
use Rattle.il_reader.specs.declared.section.Clause.{Clause}
use Rattle.il_reader.specs.Sections.{clause_of, clause_count, is_known}
use Rattle.il_reader.proofs.Runs.{pushed, known_more, unknown_at, count_is, clause_is}
use Rattle.il_reader.proofs.section.Section.push_clauses.Goals as goal

pub returns-then-not-is_known-clause-known : goal.returns-then-not-is_known-clause-known
returns-then-not-is_known-clause-known c =
    let bytes = c.args.bytes.now in
    let section = c.args.self in
    let n : ℕ = c.loop-n.n in
    let len = c.clause_len-len.result in
    let header = c.requires.read in
    let count = count_is bytes section section.at len header c.clause_len-len.ensures in
    let clause =
    clause_is bytes section section.at len n c.read_clause-clause.result header
    c.clause_len-len.ensures c.read_clause-clause.ensures in
    let below = subst (λ (k : ℕ). n < k) count c.loop-n-test.true in
    let unknown =
    sym (ap is_known clause) ∙ (sym c.is_known.ensures ∙ c.if-not-is_known.true) in
    sym (unknown_at (clause_of bytes section.at) n (clause_count bytes section.at) below unknown)

pub loop-n-preserved : goal.loop-n-preserved
loop-n-preserved c =
    let bytes = c.args.bytes.now in
    let section = c.args.self in
    let n : ℕ = c.loop-n.n in
    let old = c.args.clauses.now.items in
    let clauses : ℕ → Clause = clause_of bytes section.at in
    let clause =
    clause_is bytes section section.at c.clause_len-len.result n c.read_clause-clause.result
    c.requires.read c.clause_len-len.ensures c.read_clause-clause.ensures in
    record {
      pushed = c.in_ok-push.ensures.items
          ∙ (ap (λ cs. cs ++ c.read_clause-clause.result ∷ []) c.loop-n.invariant.pushed
          ∙ (ap (λ (k : Clause). (old ++ map clauses (range_with_len 0 n)) ++ k ∷ []) clause
          ∙ pushed clauses old n));
      known = known_more clauses n c.loop-n.invariant.known
          (sym (ap is_known clause) ∙ (sym c.is_known.ensures ∙ c.if-not-is_known.false));
    }
