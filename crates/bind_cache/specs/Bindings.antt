-- Bindings of names in contexts (own). Names are compared without regard to ASCII case.
use Rattle.std.specs.Prelude.{ℕ, ◌≡◌, ◌+◌, ◌-◌, ◌≤◌, Bool, ◌&&◌, not, ◌==◌, if◌then◌else◌, List, [], ◌∷◌, ◌++◌, length, Option, Some, None, is_some, ⊤}
use Rattle.std.specs.List.{find}
use Rattle.std.specs.Option.{option_map}
use Rattle.cli_words.specs.Text.{are_alike}
use Rattle.bind_cache.specs.declared.bindings.Binding.{Binding}

-- the bindings in the order in which they were published, and how many more can be
pub record Bindings : Type 0 where
  pub list : List Binding
  pub spare : ℕ

-- a test of whether a binding is one of this context and this name
abbrev pub binds : ℕ → List ℕ → Binding → Bool
binds context name binding = binding.context == context && are_alike binding.name name

-- the assembly that was published first for a context under a name
abbrev pub bound : List Binding → ℕ → List ℕ → Option ℕ
bound bindings context name = option_map (λ binding. binding.assembly) (find (binds context name) bindings)

-- the bindings with one more behind them
abbrev pub with_one : Bindings → ℕ → List ℕ → ℕ → Bindings
with_one bindings context name assembly = record {
  list = bindings.list ++ record { context = context; name = name; assembly = assembly } ∷ [];
  spare = bindings.spare - 1;
}

-- the bindings after a publication: the first one of a context and a name stands
abbrev pub published : Bindings → ℕ → List ℕ → ℕ → Bindings
published bindings context name assembly =
    if is_some (bound bindings.list context name) then bindings else with_one bindings context name assembly

-- no two bindings are of the same context and the same name
abbrev pub AreSingle : List Binding → Type 0
AreSingle [] = ⊤
AreSingle (binding ∷ bindings) = (bound bindings binding.context binding.name ≡ None) × AreSingle bindings

-- single bindings that have room for themselves and the spare
pub record IsRoomy (bindings : List Binding) (spare capacity : ℕ) : Type 0 where
  pub single : AreSingle bindings
  pub room : length bindings + spare ≤ capacity

-- a test of whether two contexts and names are the same
abbrev pub is_same : ℕ → List ℕ → ℕ → List ℕ → Bool
is_same context name other text = context == other && are_alike name text

-- After a publication the context has, under the name, what it had before, else the assembly that is
-- published; all else is as it was.
abbrev pub ChangesOneName : Type 0
ChangesOneName =
    (bindings : Bindings) (context : ℕ) (name : List ℕ) (assembly other : ℕ) (text : List ℕ) →
    bound (published bindings context name assembly).list other text
    ≡ (if is_same context name other text && not (is_some (bound bindings.list other text)) then Some assembly
    else bound bindings.list other text)
