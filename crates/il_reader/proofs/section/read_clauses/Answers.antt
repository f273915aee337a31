use Rattle.std.proofs.Common.{◌≡◌, ◌∙◌, ◌&&◌, true, false, sym, ap}
use Rattle.std.specs.List.{list_all}
use Rattle.il_reader.specs.declared.section.Section.{Section}
use Rattle.il_reader.specs.Sections.{has_header, clauses_of, is_known, is_section}
use Rattle.il_reader.specs.Reading.{section_of}
use Rattle.il_reader.proofs.Chains.{one_more, all_read, none_whole}
use Rattle.il_reader.proofs.Choices.{absent, present}
use Rattle.il_reader.proofs.section.read_clauses.Goals as goal

pub returns-in_default : goal.returns-in_default
returns-in_default c =
    let bytes = c.args.bytes.now in
    let at = c.next_multiple_of.result in
    let no_header = absent (has_header bytes at) (section_of bytes at) c.in_default.ensures.found in
    let fails : is_section bytes at ≡ false =
    ap (λ b. b && list_all is_known (clauses_of bytes at)) no_header in
    none_whole bytes c.args.due c.args.end c.loop-due.due c.loop-due.end c.loop-due.clauses.items at
    c.loop-due.invariant.behind c.loop-due-test.true c.next_multiple_of.ensures.value fails

pub returns-then-not-branch : goal.returns-then-not-branch
returns-then-not-branch c =
    let bytes = c.args.bytes.now in
    let at = c.next_multiple_of.result in
    let read =
    present (has_header bytes at) (section_of bytes at) c.in-Some.section c.in-Some.ensures.found in
    let unknown : list_all is_known (clauses_of bytes at) ≡ false =
    ap (λ (s : Section). list_all is_known (clauses_of bytes s.at)) (sym read.1)
    ∙ (sym c.in_ok-push_clauses.ensures.known ∙ c.if-not-branch.true) in
    let fails : is_section bytes at ≡ false =
    ap (λ b. b && list_all is_known (clauses_of bytes at)) read.0 ∙ unknown in
    none_whole bytes c.args.due c.args.end c.loop-due.due c.loop-due.end c.loop-due.clauses.items at
    c.loop-due.invariant.behind c.loop-due-test.true c.next_multiple_of.ensures.value fails

pub loop-due-preserved : goal.loop-due-preserved
loop-due-preserved c =
    let bytes = c.args.bytes.now in
    let at = c.next_multiple_of.result in
    let read =
    present (has_header bytes at) (section_of bytes at) c.in-Some.section c.in-Some.ensures.found in
    let all = c.if-not-branch.false in
    let known : list_all is_known (clauses_of bytes at) ≡ true =
    ap (λ (s : Section). list_all is_known (clauses_of bytes s.at)) (sym read.1)
    ∙ (sym c.in_ok-push_clauses.ensures.known ∙ all) in
    let stands : is_section bytes at ≡ true =
    ap (λ b. b && list_all is_known (clauses_of bytes at)) read.0 ∙ known in
    record {
      within = c.in-Some.ensures.within;
      behind = one_more bytes c.args.due c.args.end c.loop-due.due c.loop-due.end
          c.loop-due.clauses.items at c.in-Some.section c.push_clauses.new.clauses.items
          c.loop-due.invariant.behind c.loop-due-test.true c.next_multiple_of.ensures.value
          read.1 stands
          (c.in_ok-push_clauses.ensures.clauses all);
    }

pub returns : goal.returns
returns c =
    let all =
    all_read c.args.bytes.now c.args.due c.args.end c.loop-due.due c.loop-due.end
    c.loop-due.clauses.items c.loop-due.invariant.behind c.loop-due-test.false in
    (all.0, all.1, c.of.ensures ∙ all.2)
