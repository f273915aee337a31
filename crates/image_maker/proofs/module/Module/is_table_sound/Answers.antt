use Rattle.std.proofs.Common.{◌≡◌, ◌==◌, false, inl, inr, sym, ap, ◌∙◌, arith}
use Rattle.std.proofs.lemmas.Bool.Decides.{nat_tests}
use Rattle.image_maker.specs.Sound.{is_table_sound}
use Rattle.image_maker.proofs.TablesSound.{is_00, is_01, is_02, is_04, is_06, is_0A, is_1B, is_20, is_23, table_is, rows_given}
use Rattle.image_maker.proofs.module.Module.is_table_sound.Goals as goal

pub returns-in-0 : goal.returns-in-0
returns-in-0 c =
    let m = c.args.self.now in
    elim c.in-0.is [
      | inl e ↦ sym (ap (is_table_sound m) e ∙ is_00 m)
      | inr f ↦ elim f [
        | inl e ↦ sym (ap (is_table_sound m) e ∙ is_04 m)
        | inr e ↦ sym (ap (is_table_sound m) e ∙ is_1B m)
      ]
    ]

pub returns-in-32 : goal.returns-in-32
returns-in-32 c =
    let m = c.args.self.now in
    elim c.in-32.is [
      | inl e ↦ sym (ap (is_table_sound m) e ∙ is_20 m)
      | inr e ↦ sym (ap (is_table_sound m) e ∙ is_23 m)
    ]

pub returns-in-1 : goal.returns-in-1
returns-in-1 c = c.are_scopes_sound.ensures
    ∙ sym (ap (is_table_sound c.args.self.now) c.in-1.is ∙ is_01 c.args.self.now)

pub returns-in-2 : goal.returns-in-2
returns-in-2 c = c.are_parents_sound.ensures
    ∙ sym (ap (is_table_sound c.args.self.now) c.in-2.is ∙ is_02 c.args.self.now)

pub returns-in-6 : goal.returns-in-6
returns-in-6 c = c.are_params_sound.ensures
    ∙ sym (ap (is_table_sound c.args.self.now) c.in-6.is ∙ is_06 c.args.self.now)

pub returns-in-10 : goal.returns-in-10
returns-in-10 c = c.are_classes_sound.ensures
    ∙ sym (ap (is_table_sound c.args.self.now) c.in-10.is ∙ is_0A c.args.self.now)

pub returns-in_default : goal.returns-in_default
returns-in_default c =
    let m = c.args.self.now in
    let t = c.args.table in
    let zero : (t == 0x00) ≡ false = grind (arith, nat_tests) in
    c.are_given_sound.ensures ∙ sym (table_is m t _ (rows_given m (λ n. 0) t zero
    (grind (arith, nat_tests)) (grind (arith, nat_tests)) (grind (arith, nat_tests)) (grind (arith, nat_tests))
    (grind (arith, nat_tests))
    (grind (arith, nat_tests)) (grind (arith, nat_tests)) (grind (arith, nat_tests))))
