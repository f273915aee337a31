-- Lemmas on the tests' states.
use Rattle.std.proofs.Common.{◌≡◌, ◌≢◌, ℕ, zero, suc, ◌+◌, ◌≤◌, ◌<◌, ◌^◌, eqb, cond, Bool, true, false, List, [], ◌∷◌, ◌++◌, length, map, refl, ap, sym, subst, ◌∙◌, arith, eq-eqb, ne_eqb, length-append}
use mathlib.Core.Logic.{dite}
use native.Mathlib.Decide.{ℕ_discrete}
use Rattle.std.specs.List.{filter, range_with_len}
use Rattle.std.proofs.lemmas.List.{length-map}
use Rattle.std.proofs.lemmas.List.FromFn.{map-range_with_len_more, length-map-range_with_len}
use Rattle.host_events.specs.declared.event.Event.TheVariants.{Collect}
use Rattle.host_events.specs.declared.reply.Reply.TheVariants.{Made}
use Rattle.host_events.specs.declared.journal.Entry.{Entry}
use Rattle.host_events.specs.Journal.{own_entries}
use Rattle.host_events.specs.Steps.{entry_of}
use Rattle.host_lock.specs.Tallies.{ticks, IsCounted, share_of, IsTallied, MayTick}
use Rattle.host_lock.specs.Views.{pair_of}
use Rattle.host_lock.proofs.Journals.{own_push_same, own_push_other}

length_cond : {X : Type 0} (b : Bool) (x : X) (xs : List X) → length (cond b (x ∷ xs) xs) ≡ cond b 1 0 + length xs
length_cond true x xs = omega arith
length_cond false x xs = omega arith

length-own : (es : List Entry) (t : ℕ) → length (own_entries es t) ≡ length (filter (λ e. eqb e.thread t) es)
length-own es t = length-map (filter (λ e. eqb e.thread t) es) (λ (e : Entry). pair_of e)

own-cons : (e : Entry) (es : List Entry) (t : ℕ) → length (own_entries (e ∷ es) t) ≡ cond (eqb e.thread t) 1 0 + length (own_entries es t)
own-cons e es t = omega (arith, length-own (e ∷ es) t, length-own es t, length_cond (eqb e.thread t) e (filter (λ x. eqb x.thread t) es))

-- where only threads 1 and 2 have entries, these are all
two_threads : (es : List Entry) → ((t : ℕ) → t ≢ 1 → t ≢ 2 → length (own_entries es t) ≤ 0) →
    length es ≡ length (own_entries es 1) + length (own_entries es 2)
two_threads [] none = refl
two_threads (e ∷ es) none =
    let later = two_threads es (λ t a b. let here = none t a b in omega (arith, own-cons e es t)) in
    dite (ℕ_discrete e.thread 1)
    (λ is. let yes = ap (λ b. cond {A = ℕ} b 1 0) (eq-eqb e.thread 1 is) in
    let no = ap (λ b. cond {A = ℕ} b 1 0) (ne_eqb e.thread 2 (λ h. omega arith)) in
    omega (arith, later, own-cons e es 1, own-cons e es 2, yes, no))
    (λ not. dite (ℕ_discrete e.thread 2)
    (λ is. let yes = ap (λ b. cond {A = ℕ} b 1 0) (eq-eqb e.thread 2 is) in
    let no = ap (λ b. cond {A = ℕ} b 1 0) (ne_eqb e.thread 1 not) in
    omega (arith, later, own-cons e es 1, own-cons e es 2, yes, no))
    (λ nor. let here = none e.thread not nor in
    let yes = ap (λ b. cond {A = ℕ} b 1 0) (eq-eqb e.thread e.thread refl) in
    absurd (omega (arith, own-cons e es e.thread, yes, here))))

pub length-tallied : (shares : ℕ × ℕ) (entries : List Entry) → ((t : ℕ) → length (own_entries entries t) ≤ share_of shares t) → length entries ≤ shares.0 + shares.1
length-tallied shares entries within =
    let all = two_threads entries (λ t a b. let w = within t in
    let none : share_of shares t ≡ 0 = ap (λ z. cond z shares.0 (cond (eqb t 2) shares.1 0)) (ne_eqb t 1 a) ∙ ap (λ z. cond z shares.1 0) (ne_eqb t 2 b) in omega arith) in
    let one = within 1 in let two = within 2 in omega arith

-- one entry more within the share
pub tallied_push : (shares : ℕ × ℕ) (entries : List Entry) (e : Entry) → IsTallied shares entries → MayTick shares entries e.thread →
    IsTallied shares (entries ++ e ∷ [])
tallied_push shares entries e tallied may =
    let within : (t : ℕ) → length (own_entries (entries ++ e ∷ []) t) ≤ share_of shares t =
    λ t. dite (ℕ_discrete e.thread t)
    (λ is. let own = ap length (own_push_same entries e t is) in
    let more = length-append (own_entries entries t) (pair_of e ∷ []) in
    let may' = subst (MayTick shares entries) is may in omega arith)
    (λ not. let own = ap length (own_push_other entries e t not) in let w = tallied.within t in omega arith) in
    record {
      within = within;
      few = tallied.few;
      short = let le = length-tallied shares (entries ++ e ∷ []) within in let few = tallied.few in omega arith;
    }

-- there is room for one entry more
pub tallied_room : (shares : ℕ × ℕ) (entries : List Entry) (thread : ℕ) → IsTallied shares entries → MayTick shares entries thread →
    (length entries + 1 ≤ shares.0 + shares.1) × (shares.0 + shares.1 < 2 ^ 32)
tallied_room shares entries thread tallied may =
    let e : Entry = entry_of thread Collect (Made 0) in
    let more = tallied_push shares entries e tallied may in
    let le = length-tallied shares (entries ++ e ∷ []) more.within in
    (omega (arith, length-append entries (e ∷ [])), tallied.few)

-- all entries of the state that counts are of thread 1
pub own-ticks : (a n : ℕ) → length (own_entries (map (λ k. entry_of 1 Collect (Made k)) (range_with_len a n)) 1) ≡ n
own-ticks a zero = refl
own-ticks a (suc n) = let later = own-ticks (a + 1) n in omega arith

pub length-ticks : (n : ℕ) → length (ticks n) ≡ n
length-ticks n = length-map-range_with_len (λ k. entry_of 1 Collect (Made k)) 1 n

-- the journal of so many ticks is one that the state's type allows
pub counted_ticks : (n : ℕ) → n < 2 ^ 32 → IsCounted (ticks n)
counted_ticks n few = (ap ticks (sym (length-ticks n)), let same = length-ticks n in omega arith)

pub ticks_more : (n : ℕ) → ticks (n + 1) ≡ ticks n ++ entry_of 1 Collect (Made (n + 1)) ∷ []
ticks_more n = map-range_with_len_more (λ k. entry_of 1 Collect (Made k)) 1 n (n + 1) (omega arith)
