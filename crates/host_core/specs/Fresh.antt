-- The tables before the first event (own).
use Rattle.std.specs.Prelude.{ℕ, ◌≡◌, ◌-◌, ◌≤◌, [], ◌∷◌}
use Rattle.load_context.specs.Contexts.{default_context}
use Rattle.host_core.specs.declared.bounds.Bounds.{Bounds}
use Rattle.host_core.specs.declared.tables.Tables.{Tables}

-- nothing but `default`, with room for all that the bounds allow
pub record IsFresh {C : Type 0} (bounds : Bounds) (tables : Tables C) (capacity : ℕ) : Type 0 where
  pub contexts : tables.contexts ≡ record { list = default_context ∷ []; spare = bounds.contexts - 1 }
  pub rules : tables.rules ≡ record { list = []; spare = bounds.rules }
  pub bindings : tables.bindings ≡ record { list = []; spare = bounds.events }
  pub codes : tables.codes.items ≡ []
  pub made : tables.made ≡ 0
  pub begun : tables.begun ≡ 0
  pub room : bounds.events ≤ capacity
