-- The host as contracts see it (own).
use Rattle.std.specs.Prelude.{ℕ, Bool, ◌≤◌, ◌<◌, ◌^◌, List}
use Rattle.host_events.specs.declared.journal.Entry.{Entry}
use Rattle.host_events.specs.Files.{Files}
use Rattle.host_core.specs.declared.bounds.Bounds.{Bounds}
use Rattle.host_core.specs.declared.tables.Tables.{Tables}
use Rattle.host_core.specs.Allowed.{Fixed, IsAllowed}
use Rattle.host_core.specs.Tables.{HaveRoom, Represents}

-- what never changes, and the entries so far, the oldest first
pub record Core : Type 0 where
  pub fixed : Fixed
  pub journal : List Entry

-- what is fixed of a host with these bounds and images
abbrev pub fixed_by : Bounds → Files → Bool → Fixed
fixed_by bounds files collects = record { bounds = bounds; files = files; collects = collects }

-- what the host's type keeps, where its list of entries and that of its codes have room for so many in all
pub record IsKeptUp {C : Type 0} (image : C → ℕ) (fixed : Fixed) (journal : List Entry) (tables : Tables C) (capacity codes : ℕ) : Type 0 where
  pub allowed : IsAllowed fixed journal
  pub represents : Represents image tables journal
  pub events : fixed.bounds.events < 2 ^ 32
  pub room : fixed.bounds.events ≤ capacity
  pub tables_room : HaveRoom fixed.bounds tables journal codes
