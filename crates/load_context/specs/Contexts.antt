-- A table of the contexts that are there, and what a name means among them (own).
use Rattle.std.specs.Prelude.{ℕ, ◌≡◌, ◌+◌, ◌≤◌, ◌^◌, Bool, true, false, not, ◌==◌, if◌then◌else◌, List, [], ◌∷◌, map, length, Option, Some, None, codes, ⊤}
use Rattle.std.specs.List.{filter, filter_map, find, last_or}
use Rattle.std.specs.Option.{option_map}
use Rattle.std.specs.Str.{bytes_eq}
use Rattle.load_context.specs.declared.contexts.ContextRow.{ContextRow}
use Rattle.load_context.specs.declared.contexts.Context.{Context}

-- the contexts that are there, and how many more can be added
pub record Contexts : Type 0 where
  pub list : List Context
  pub spare : ℕ

-- a context as it is added
abbrev pub added : ℕ → List ℕ → Bool → Context
added number name collectible =
    record { number = number; row = record { name = name; collectible = collectible; unloaded = false } }

-- the context that is there from the start
abbrev pub default_context : Context
default_context = added 0 (codes "default") false

abbrev pub has_number : ℕ → Context → Bool
has_number number context = context.number == number

-- what is known of the context of a number
abbrev pub row_of : List Context → ℕ → Option ContextRow
row_of contexts number = option_map (λ context. context.row) (find (has_number number) contexts)

-- the number of a context, if it has this name
abbrev pub number_under : List ℕ → Context → Option ℕ
number_under name context = if bytes_eq context.row.name name then Some context.number else None

-- what a name means: context 0 for `default`, else the context that was added last under the name
abbrev pub named : List Context → List ℕ → Option ℕ
named contexts name =
    if bytes_eq name (codes "default") then Some 0
    else last_or None (filter_map (number_under name) contexts)

-- a context, unloaded if it has this number
abbrev pub unloaded_if : ℕ → Context → Context
unloaded_if number context =
    if has_number number context then record context { row = record context.row { unloaded = true } } else context

-- the contexts, with the one of this number unloaded
abbrev pub unloaded : ℕ → List Context → List Context
unloaded number contexts = map (unloaded_if number) contexts

-- the contexts without the one of this number
abbrev pub taken : ℕ → List Context → List Context
taken number contexts = filter (λ context. not (has_number number context)) contexts

-- the numbers rise, and the first is not below low
abbrev pub RisesFrom : ℕ → List Context → Type 0
RisesFrom low [] = ⊤
RisesFrom low (context ∷ contexts) = (low ≤ context.number) × RisesFrom (context.number + 1) contexts

-- context 0 as it was at the start, and then others in rising order of their numbers
abbrev pub IsTable : List Context → Type 0
IsTable [] = ⊥
IsTable (first ∷ others) = (first ≡ default_context) × RisesFrom 1 others

-- a table that has room for its contexts and the spare, no more than a number of 32 bits can count beside
-- context 0
pub record IsRoomy (contexts : List Context) (spare capacity : ℕ) : Type 0 where
  pub table : IsTable contexts
  pub room : length contexts + spare ≤ capacity
  pub counted : length contexts + spare ≤ 2 ^ 32
