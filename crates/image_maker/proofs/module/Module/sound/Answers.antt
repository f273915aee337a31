use Rattle.std.proofs.Common.{◌≡◌, ℕ, Bool, not, ◌&&◌, ◌==◌, length, ap, ◌∙◌, arith}
use Rattle.std.specs.Prelude.{nat_lt}
use Rattle.std.specs.List.{list_all}
use Rattle.std.proofs.Math.Bool.{and_assoc}
use Rattle.std.proofs.lemmas.Bool.Decides.{nat_tests}
use Rattle.image_maker.specs.Sound.{are_rising, has_fitting, is_whole, is_stream_name}
use Rattle.image_maker.proofs.module.Module.sound.Goals as goal

is_some : (n : ℕ) → not (n == 0) ≡ nat_lt 0 n
is_some n = grind (arith, nat_tests)

regroup : (a b c d e f g h a' b' c' d' e' f' g' h' : Bool) → a ≡ a' → b ≡ b' → c ≡ c' → d ≡ d' → e ≡ e' → f ≡ f'
    → g ≡ g' → h ≡ h'
    → ((((a && b) && (c && d)) && e) && ((f && g) && h)) ≡ (a' && (b' && ((c' && d') && (e' && (f' && (g' && h'))))))
regroup a b c d e f g h a' b' c' d' e' f' g' h' sa sb sc sd se sf sg sh =
    rw (sa, sb, sc, sd, se, sf, sg, sh) (simp and_assoc)

pub returns : goal.returns
returns c =
    let m = c.args.self.now in
    regroup _ _ _ _ _ _ _ _ _ _ _ _ _ _ _ _
    (ap not (c.is_empty-has_name.ensures ∙ ap (λ text. length text == 0) c.as_str.ensures) ∙ is_some (length m.name))
    (ap not (c.is_empty-has_type.ensures ∙ ap (λ types. length types == 0) c.items.ensures)
    ∙ is_some (length m.types))
    (c.are_rising-are_rising.ensures ∙ ap (are_rising 0) c.items-2.ensures)
    (c.are_fitting-are_fitting.ensures ∙ ap (list_all has_fitting) c.items-3.ensures)
    c.are_tables_sound-are_tables_sound.ensures
    c.tally-has_no_zero.ensures.no_zero
    (c.are_whole-are_whole.ensures ∙ ap (λ refs. list_all (λ r. is_whole r.name) refs) c.items-4.ensures)
    (c.are_stream_names-are_streams.ensures ∙ ap
    (λ streams. list_all (λ s. is_stream_name s.0) streams) c.items-5.ensures)
