use Rattle.std.proofs.Common.{ℕ, ◌<◌, ◌≤◌}
use Rattle.il_flow.specs.Families.{Leads}
use Rattle.il_flow.specs.Assigning.{AreJust}
use Rattle.il_flow.proofs.level.leads.Given as goal

-- the level has just the types so many steps above, and fewer steps do not lead there
abbrev pub invariant-loop : goal.invariant-loop
invariant-loop g l = record {
  few : l.counter ≤ 64;
  here : AreJust l.level.items (λ key. Leads (g.P.Parents.family l.parents) l.counter l.low key);
  before : (n : ℕ) → n < l.counter → Leads (g.P.Parents.family l.parents) n l.low l.high → ⊥;
}
