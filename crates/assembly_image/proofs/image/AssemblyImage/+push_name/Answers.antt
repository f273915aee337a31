use Rattle.std.proofs.Common.{◌≡◌, ◌++◌, ◌∷◌, [], ◌-◌, ℕ, List, None, sym, ap, subst, ◌∙◌, arith, rules}
use Rattle.std.specs.Result.{IfOk}
use Rattle.cli_words.specs.Text.{units_of}
use Rattle.assembly_image.specs.Names.{qualified, outer_of, namespace_of, name_of, name_within}
use Rattle.assembly_image.specs.Reading.{module_of}
use Rattle.assembly_image.proofs.NameLemmas.{nested_first, nested_alone, nested_inside, three_joined}
use Rattle.assembly_image.proofs.image.AssemblyImage.+push_name.Goals as goal
use Rattle.assembly_image.proofs.image.AssemblyImage.+push_name.Goals.{in_default-via-in-Some+else-most-gt0, in_default-via-in_default}

pub returns-in_ok-push-in-Some : goal.returns-in_ok-push-in-Some
returns-in_ok-push-in-Some t c =
    let m = module_of c.args.self.now in
    let kind = c.args.kind in
    let row = c.args.row in
    let outer = c.in-Some.outer in
    let old = c.args.units.now.items in
    let front = name_within m kind (c.args.most - 1) outer in
    let text = c.name_of.result.now in
    let before : c.push.new.self.items ≡ (old ++ front) ++ 47 ∷ [] =
    c.in_ok-push-in-Some.ensures.items ∙ ap (λ (us : List ℕ). us ++ 47 ∷ []) c.in_ok-push_name-in-Some.ensures in
    let inside = nested_inside (outer_of m kind) (namespace_of m kind) (name_of m kind) row c.args.most outer (omega arith)
    (sym c.outer_of.ensures ∙ c.in-Some.is) in
    let joined : c.push.new.self.items ++ units_of text ≡ old ++ (front ++ (47 ∷ units_of text)) =
    ap (λ (us : List ℕ). us ++ units_of text) before ∙ three_joined old front (units_of text) 47 in
    let named : old ++ (front ++ (47 ∷ units_of text)) ≡ old ++ (front ++ (47 ∷ name_of m kind row)) =
    ap (λ (us : List ℕ). old ++ (front ++ (47 ∷ us))) c.name_of.ensures in
    let whole : c.push.new.self.items ++ units_of text ≡ old ++ name_within m kind c.args.most row =
    joined ∙ named ∙ ap (λ (us : List ℕ). old ++ us) (sym inside) in
    subst (λ (us : List ℕ). IfOk c.push_text.result (λ _. c.push_text.new.units.items ≡ us)) whole c.push_text.ensures

pub returns-in_default : goal.returns-in_default
returns-in_default t c =
    let m = module_of c.args.self.now in
    let kind = c.args.kind in
    let row = c.args.row in
    let alone : name_within m kind c.args.most row ≡ qualified (namespace_of m kind row) (name_of m kind row) =
    elim c.in_default.branch [
      | in_default-via-in-Some+else-most-gt0 w ↦ nested_first (outer_of m kind) (namespace_of m kind) (name_of m kind) row c.args.most (omega arith)
      | in_default-via-in_default w ↦ (let none : outer_of m kind row ≡ None = search rules in
          nested_alone (outer_of m kind) (namespace_of m kind) (name_of m kind) row c.args.most none)
    ] in
    subst (λ (us : List ℕ). IfOk c.push_qualified.result (λ _. c.push_qualified.new.units.items ≡ c.args.units.now.items ++ us))
    (sym alone) c.push_qualified.ensures
