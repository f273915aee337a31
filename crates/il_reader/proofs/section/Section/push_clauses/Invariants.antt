use Rattle.std.proofs.Common.{◌≡◌, ◌++◌, true, map}
use Rattle.std.specs.List.{list_all, range_with_len}
use Rattle.il_reader.specs.Sections.{clause_of, is_known}
use Rattle.il_reader.proofs.section.Section.push_clauses.Given as goal

abbrev pub invariant-loop-n : goal.invariant-loop-n
invariant-loop-n l = record {
  pushed : l.clauses.items
      ≡ l.fn.clauses.items ++ map (clause_of l.bytes l.self.at) (range_with_len 0 l.n);
  known : list_all is_known (map (clause_of l.bytes l.self.at) (range_with_len 0 l.n)) ≡ true;
}
