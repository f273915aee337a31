-- Which contexts a collection frees, found number by number.
use Rattle.std.proofs.Common.{◌≡◌, ℕ, ◌+◌, ◌<◌, ◌≤◌, Bool, true, false, ◌&&◌, cond, List, [], ◌∷◌, ◌++◌, length, get_or, refl, sym, ap, subst, ◌∙◌, inl, inr, arith}
use Rattle.std.specs.Prelude.{Contains}
use Rattle.std.specs.List.Sorted.{IsStrictlyIncreasing}
use Rattle.std.proofs.lemmas.Bool.{and_from, and_parts, cases_Bool, cases_lt}
use Rattle.host_events.proofs.Numbers.{number_of_live}
use Rattle.std.proofs.lemmas.List.{length_push, get_or_append_left, get_or_push}
use Rattle.std.proofs.lemmas.List.Elements.{Contains-push, Contains-push_cases, Contains-append_left, Contains-get_or}
use Rattle.host_events.specs.declared.journal.Entry.{Entry}
use Rattle.host_events.specs.Contexts.{is_live, is_unloaded, made_count, IsUnloaded}
use Rattle.host_events.specs.Files.{Files}
use Rattle.host_events.specs.Journal.{IsLegal}
use Rattle.host_events.specs.Reachable.{HasCause, IsRoot, IsPath, IsEdge}
use Rattle.host_events.specs.Operations.{IsOpen}
use Rattle.host_events.specs.Reachable.HasCause.{loaded, pinned}
use Rattle.host_events.specs.Reachable.IsPath.{here, along}
use Rattle.host_events.specs.Reply.{ListsUnkept}

-- the live contexts below a number that were given up, in rising order
pub record IsCollectedBelow (entries : List Entry) (n : ℕ) (list : List ℕ) : Type 0 where
  pub rising : IsStrictlyIncreasing list
  pub has : (c : ℕ) → Contains list c → (c < n) × ((is_unloaded entries c && is_live entries c) ≡ true)
  pub each : (c : ℕ) → c < n → (is_unloaded entries c && is_live entries c) ≡ true → Contains list c
  pub few : length list ≤ n

pub IsCollectedBelow-none : (entries : List Entry) → IsCollectedBelow entries 0 []
IsCollectedBelow-none entries = record {
  rising = λ k h. absurd (omega arith);
  has = λ c h. absurd (omega (arith, h.1));
  each = λ c h p. absurd (omega arith);
  few = omega arith;
}

IsStrictlyIncreasing-push : (list : List ℕ) (n : ℕ) → IsStrictlyIncreasing list →
    ((c : ℕ) → Contains list c → c < n) → IsStrictlyIncreasing (list ++ n ∷ [])
IsStrictlyIncreasing-push list n rising below k h =
    let long : length (list ++ n ∷ []) ≡ length list + 1 = length_push list n in
    let here : k < length list = omega arith in
    let same : get_or (list ++ n ∷ []) k 0 ≡ get_or list k 0 = get_or_append_left list (n ∷ []) 0 k here in
    elim (cases_lt (k + 1) (length list)) [
      | inl within ↦
          let next : get_or (list ++ n ∷ []) (k + 1) 0 ≡ get_or list (k + 1) 0 = get_or_append_left list (n ∷ []) 0 (k + 1) within in
          let risen : get_or list k 0 < get_or list (k + 1) 0 = rising k within in
          omega arith
      | inr past ↦
          let at_end : length list ≡ k + 1 = omega arith in
          let next : get_or (list ++ n ∷ []) (k + 1) 0 ≡ n = get_or_push list n 0 (k + 1) at_end in
          let risen : get_or list k 0 < n = below (get_or list k 0) (Contains-get_or list k 0 here) in
          omega arith
    ]

pub IsCollectedBelow-more : (entries : List Entry) (n : ℕ) (old new : List ℕ) (belongs : Bool) →
    IsCollectedBelow entries n old → belongs ≡ (is_unloaded entries n && is_live entries n) →
    new ≡ cond belongs (old ++ n ∷ []) old → IsCollectedBelow entries (n + 1) new
IsCollectedBelow-more entries n old new true collected is now =
    let pushed : IsCollectedBelow entries (n + 1) (old ++ n ∷ []) = record {
      rising = IsStrictlyIncreasing-push old n collected.rising (λ c has. (collected.has c has).0);
      has = λ c has. elim (Contains-push_cases old n c has) [
        | inl before ↦ let b = collected.has c before in (omega (arith, b.0), b.1)
        | inr same ↦ (omega arith, subst (λ k. (is_unloaded entries k && is_live entries k) ≡ true) same (sym is))
      ];
      each = λ c below passes. elim (cases_lt c n) [
        | inl before ↦ Contains-append_left old (n ∷ []) c (collected.each c before passes)
        | inr above ↦
            let same : n ≡ c = omega arith in
            subst (λ k. Contains (old ++ n ∷ []) k) same (Contains-push old n)
      ];
      few = omega (arith, length_push old n, collected.few);
    }
    in
    subst (λ l. IsCollectedBelow entries (n + 1) l) (sym now) pushed
IsCollectedBelow-more entries n old new false collected is now =
    let kept : IsCollectedBelow entries (n + 1) old = record {
      rising = collected.rising;
      has = λ c has. let b = collected.has c has in (omega (arith, b.0), b.1);
      each = λ c below passes. elim (cases_lt c n) [
        | inl before ↦ collected.each c before passes
        | inr above ↦
            let same : c ≡ n = omega arith in
            let fails : (is_unloaded entries c && is_live entries c) ≡ false =
            ap (λ k. is_unloaded entries k && is_live entries k) same ∙ sym is in
            absurd (cc (passes, fails))
      ];
      few = omega (arith, collected.few);
    }
    in
    subst (λ l. IsCollectedBelow entries (n + 1) l) (sym now) kept

-- where no context refers to another, a path leads from a context to itself alone
path_here : (entries : List Entry) {x y : ℕ} → ((a b : ℕ) → IsEdge entries a b → ⊥) → IsPath entries x y → x ≡ y
path_here entries apart here = refl
path_here entries apart (along {x = a} {y = b} edge path) = absurd (apart a b edge)

not_unloaded : (entries : List Entry) (c : ℕ) → ((k : ℕ) → IsOpen entries k → ⊥) → HasCause entries c → ¬ IsUnloaded entries c
not_unloaded entries c none (loaded stays) = stays
not_unloaded entries c none (pinned k is_open pins) = absurd (none k is_open)

pub ListsUnkept-from_collected : (files : Files) (entries : List Entry) (n : ℕ) (list : List ℕ) → IsLegal files entries →
    ((a b : ℕ) → IsEdge entries a b → ⊥) → ((k : ℕ) → IsOpen entries k → ⊥) →
    made_count entries + 1 ≤ n → IsCollectedBelow entries n list → ListsUnkept entries list
ListsUnkept-from_collected files entries n list legal apart none all collected = record {
  rising = collected.rising;
  each = λ c. (
    (λ has.
        let tests = and_parts (is_unloaded entries c) (is_live entries c) (collected.has c has).1 in (
          tests.1,
          λ kept.
              let root = subst (λ k. IsRoot entries k) (path_here entries apart kept.2) kept.1 in
              not_unloaded entries c none root.cause tests.0,
        )),
    (λ both. elim (cases_Bool (is_unloaded entries c)) [
      | inl unloaded ↦
          let within = number_of_live files entries c legal both.0 in
          collected.each c (omega arith) (and_from (is_unloaded entries c) (is_live entries c) unloaded both.0)
      | inr stays ↦
          absurd (both.1 (c, record { live = both.0; cause = loaded (λ unloaded. cc (unloaded, stays)) }, here))
    ]),
  );
}
