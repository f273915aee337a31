-- How many there can be.
use Rattle.std.proofs.Common.{◌≡◌, ℕ, ◌+◌, ◌<◌, ◌≤◌, ◌^◌, List, [], ◌∷◌, length, Option, Some, None, ap, arith}
use Rattle.std.specs.List.{cons_option, filter_map}
use Rattle.host_events.specs.declared.journal.Entry.{Entry}
use Rattle.host_events.specs.Assemblies.{bound_assembly, bound_count}
use Rattle.host_events.specs.Contexts.{made_count}
use Rattle.host_events.specs.Operations.{begun_operation}
use Rattle.host_core.specs.declared.tables.Tables.{Tables}
use Rattle.host_core.specs.Allowed.{Fixed, IsAllowed}
use Rattle.host_core.specs.Tables.{Represents}
use Rattle.host_core.proofs.Shares.{contexts-le}

length-filter_map-le : {X Y : Type 0} (f : X → Option Y) (xs : List X) → length (filter_map f xs) ≤ length xs
length-filter_map-le f [] = omega arith
length-filter_map-le {X} {Y} f (x ∷ xs) = at (f x) (length-filter_map-le f xs)
  where
    at : (o : Option Y) → length (filter_map f xs) ≤ length xs → length (cons_option o (filter_map f xs)) ≤ length (x ∷ xs)
    at None rest = omega (arith, rest)
    at (Some y) rest = omega (arith, rest)

pub made-le : (fixed : Fixed) (journal : List Entry) → IsAllowed fixed journal → made_count journal + 1 ≤ fixed.bounds.contexts
made-le fixed journal allowed = omega (arith, contexts-le fixed.bounds.shares journal allowed.contexts, ap (λ b. b.contexts) allowed.made_up)

pub begun-few : {C : Type 0} {image : C → ℕ} {tables : Tables C} {journal : List Entry} (now : List Entry) → Represents image tables journal → journal ≡ now →
    length now + 1 < 2 ^ 32 → tables.begun + 1 < 2 ^ 32
begun-few {C} {image} {tables} {journal} now represents same short =
    omega (arith, short, represents.begun, ap length same, length-filter_map-le (λ (e : Entry). begun_operation e.reply) journal)

pub bound-few : (journal : List Entry) → length journal + 1 < 2 ^ 32 → bound_count journal + 1 < 2 ^ 32
bound-few journal short = omega (arith, short, length-filter_map-le (λ (e : Entry). bound_assembly e.reply) journal)

pub bound-le : (journal : List Entry) → bound_count journal ≤ length journal
bound-le journal = length-filter_map-le (λ (e : Entry). bound_assembly e.reply) journal
