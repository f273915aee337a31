use Rattle.std.proofs.Common.{◌≡◌, ◌++◌, ◌∷◌, [], ℕ, List, length, sym, ap, subst, ◌∙◌, arith}
use Rattle.std.proofs.lemmas.Bool.Decides.{nat_tests}
use Rattle.std.specs.Result.{IfOk}
use Rattle.cli_words.specs.Text.{units_of}
use Rattle.assembly_image.specs.Names.{qualified, namespace_of, name_of}
use Rattle.assembly_image.specs.Reading.{module_of}
use Rattle.assembly_image.proofs.TextEnds.{empty_units, not_empty}
use Rattle.assembly_image.proofs.NameLemmas.{qualified_is_alone, qualified_is_dotted, three_joined}
use Rattle.assembly_image.proofs.image.AssemblyImage.push_qualified.Goals as goal

pub returns-then-is_empty : goal.returns-then-is_empty
returns-then-is_empty c =
    let m = module_of c.args.self.now in
    let namespace = namespace_of m c.args.kind c.args.row in
    let name = name_of m c.args.kind c.args.row in
    let text = c.namespace_of-namespace.result.now in
    let empty : length text ≡ 0 = grind (arith, nat_tests) in
    let none : length namespace ≡ 0 =
    subst (λ (us : List ℕ). length us ≡ 0) c.namespace_of-namespace.ensures ((empty_units text c.namespace_of-namespace.utf8).0 empty) in
    subst (λ (us : List ℕ). IfOk c.push_text.result (λ _. c.push_text.new.units.items ≡ c.args.units.now.items ++ us))
    (c.name_of.ensures ∙ sym (qualified_is_alone namespace name none)) c.push_text.ensures

pub returns : goal.returns
returns c =
    let m = module_of c.args.self.now in
    let namespace = namespace_of m c.args.kind c.args.row in
    let name = name_of m c.args.kind c.args.row in
    let text = c.namespace_of-namespace.result.now in
    let old = c.args.units.now.items in
    let full : ¬ (length text ≡ 0) = grind (arith, nat_tests) in
    let some = not_empty text namespace c.namespace_of-namespace.utf8 c.namespace_of-namespace.ensures full in
    let before : c.push.new.self.items ≡ (old ++ units_of text) ++ 46 ∷ [] =
    c.in_ok-push.ensures.items ∙ ap (λ (us : List ℕ). us ++ 46 ∷ []) c.in_ok-push_text.ensures in
    let whole : c.push.new.self.items ++ units_of c.name_of-2.result.now ≡ old ++ qualified namespace name =
    ap (λ (us : List ℕ). us ++ units_of c.name_of-2.result.now) before
    ∙ three_joined old (units_of text) (units_of c.name_of-2.result.now) 46
    ∙ ap (λ (us : List ℕ). old ++ (us ++ (46 ∷ units_of c.name_of-2.result.now))) c.namespace_of-namespace.ensures
    ∙ ap (λ (us : List ℕ). old ++ (namespace ++ (46 ∷ us))) c.name_of-2.ensures
    ∙ ap (λ (us : List ℕ). old ++ us) (sym (qualified_is_dotted namespace name some)) in
    subst (λ (us : List ℕ). IfOk c.push_text-3.result (λ _. c.push_text-3.new.units.items ≡ us)) whole c.push_text-3.ensures
