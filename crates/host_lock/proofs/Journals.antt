-- The entries of a thread in a journal that grows.
use Rattle.std.proofs.Common.{◌≡◌, ◌≢◌, ℕ, eqb, cond, List, [], ◌∷◌, ◌++◌, map, refl, ap, subst, ◌∙◌, eq-eqb, ne_eqb}
use Rattle.std.specs.List.{All, filter}
use Rattle.std.proofs.lemmas.List.{map-append, append-nil}
use Rattle.std.proofs.lemmas.List.Elements.{filter-append, All-head, All-tail}
use Rattle.host_events.specs.declared.journal.Entry.{Entry}
use Rattle.host_events.specs.Journal.{own_entries}
use Rattle.host_lock.specs.Views.{pair_of}
use Rattle.host_lock.specs.Rule.{IsHandedOut}

own-append : (j k : List Entry) (t : ℕ) → own_entries (j ++ k) t ≡ own_entries j t ++ own_entries k t
own-append j k t =
    ap (λ (es : List Entry). map (λ e. (e.event, e.reply)) es) (filter-append (λ e. eqb e.thread t) j k)
    ∙ map-append (λ (e : Entry). (e.event, e.reply)) (filter (λ e. eqb e.thread t) j) (filter (λ e. eqb e.thread t) k)

-- an entry of the thread comes last among its own
pub own_push_same : (j : List Entry) (e : Entry) (t : ℕ) → e.thread ≡ t → own_entries (j ++ e ∷ []) t ≡ own_entries j t ++ pair_of e ∷ []
own_push_same j e t same =
    own-append j (e ∷ []) t
    ∙ ap (λ b. own_entries j t ++ map (λ (x : Entry). (x.event, x.reply)) (cond b (e ∷ []) [])) (eq-eqb e.thread t same)

-- an entry of another thread is none of its own
pub own_push_other : (j : List Entry) (e : Entry) (t : ℕ) → e.thread ≢ t → own_entries (j ++ e ∷ []) t ≡ own_entries j t
own_push_other j e t other =
    own-append j (e ∷ []) t
    ∙ ap (λ b. own_entries j t ++ map (λ (x : Entry). (x.event, x.reply)) (cond b (e ∷ []) [])) (ne_eqb e.thread t other)
    ∙ append-nil (own_entries j t)

-- a thread that was not handed out has no entry
pub own_none : (handed t : ℕ) → ¬ IsHandedOut handed t → (j : List Entry) → All (λ e. IsHandedOut handed e.thread) j → own_entries j t ≡ []
own_none handed t never [] all = refl
own_none handed t never (e ∷ es) all =
    let first : IsHandedOut handed e.thread = All-head (λ (x : Entry). IsHandedOut handed x.thread) e es all in
    let other : e.thread ≢ t = λ h. never (subst (IsHandedOut handed) h first) in
    ap (λ b. map (λ (x : Entry). (x.event, x.reply)) (cond b (e ∷ filter (λ x. eqb x.thread t) es) (filter (λ x. eqb x.thread t) es))) (ne_eqb e.thread t other)
    ∙ own_none handed t never es (All-tail (λ (x : Entry). IsHandedOut handed x.thread) e es all)
