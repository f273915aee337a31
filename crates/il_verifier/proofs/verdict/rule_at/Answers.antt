use Rattle.std.proofs.Common.{◌≡◌, ◌<◌, ℕ, Bool, Option, Some, None, List, length, get_or, is_none, sym, ap, ◌∙◌, arith}
use Rattle.std.specs.List.{list_any}
use Rattle.std.proofs.lemmas.List.{get_or_read, length-map}
use Rattle.il_flow.specs.Merging.{Held}
use Rattle.il_verifier.specs.Worklist.{AreIds}
use Rattle.il_verifier.proofs.verdict.rule_at.Goals as goal

-- the number that was read is that of a stack
numbered : (pool : List (List Held)) (ids : List (Option ℕ)) (at id : ℕ) (read : Option ℕ) → AreIds pool ids →
    at < length ids → read ≡ get_or ids at read → read ≡ Some id → id < length pool
numbered pool ids at id read all within is some = all at id (sym (get_or_read ids at read within is None) ∙ some)

pub bounds-mixed-id : goal.bounds-mixed-id
bounds-mixed-id g c =
    let pool : List (List Held) = c.args.typing.now.pool in
    let marks : List Bool = c.args.mixed.now in
    let less : c.in-Some-index.id < length pool =
    numbered pool c.args.typing.now.stacks.items c.args.at c.in-Some-index.id c.index.result.now c.requires.ids c.requires.within
    c.index.ensures c.in-Some-index.is in
    let size : length marks ≡ length pool = ap length c.requires.mixed ∙ length-map pool (λ (s : List Held). list_any is_none s) in
    omega (arith, less, size)

pub seek_operands-requires : goal.seek_operands-requires
seek_operands-requires g c =
    numbered c.args.typing.now.pool c.args.typing.now.stacks.items c.args.at c.in-Some-index.id c.index.result.now c.requires.ids
    c.requires.within c.index.ensures c.in-Some-index.is

pub type_rule-requires-clause-within : goal.type_rule-requires-clause-within
type_rule-requires-clause-within g c =
    numbered c.args.typing.now.pool c.args.typing.now.stacks.items c.args.at c.in-Some-index.id c.index.result.now c.requires.ids
    c.requires.within c.index.ensures c.in-Some-index.is
