-- What a table of the contexts that are there says of them.
use Rattle.std.proofs.Common.{◌≡◌, ℕ, Bool, true, false, not, ◌&&◌, ◌||◌, inl, inr, arith, append_assoc, cond, eqb, codes, List, [], ◌∷◌, ◌++◌, Option, Some, None, refl, sym, ap, subst, ◌∙◌, true≢false}
use Rattle.std.specs.List.{cons_option, filter, filter_map, find, last_or, list_any, slice_get}
use Rattle.std.specs.Prelude.{IfSome}
use Rattle.std.specs.Option.{is_some, option_map}
use Rattle.std.specs.Str.{bytes_eq}
use Rattle.std.proofs.lemmas.Bool.{and_parts, eqb-true, or_cases}
use Rattle.std.proofs.lemmas.Slice.Eq.{bytes_eq-Decides}
use Rattle.load_context.specs.declared.contexts.Context.{Context}
use Rattle.load_context.specs.declared.contexts.ContextRow.{ContextRow}
use Rattle.load_context.specs.Contexts.{default_context, has_number, number_under}
use Rattle.load_context.specs.Contexts as table
use Rattle.host_events.specs.declared.event.ContextKind.{ContextKind}
use Rattle.host_events.specs.declared.event.Event.{Event}
use Rattle.host_events.specs.declared.event.Event.TheVariants as events
use Rattle.host_events.specs.declared.journal.Entry.{Entry}
use Rattle.host_events.specs.declared.reply.Reply.{Reply}
use Rattle.host_events.specs.declared.reply.Reply.TheVariants as replies
use Rattle.host_events.specs.Contexts.{is_collectible, is_freed, is_live, is_made, is_new_collectible, is_new_of, is_number, is_unloaded, made_context, made_under, makes, makes_collectible, named, new_of, unloading_context, unloads}
use Rattle.host_events.specs.Files.{Files}
use Rattle.host_events.specs.Journal.{IsLegal}
use Rattle.host_events.specs.Reply.{IsReply, reply_to_unload}
use Rattle.host_events.proofs.Numbers.{is_number-some, list_any-parts, made-from_makes, made-others, number_of_made}
use Rattle.host_core.specs.Tables.{context_made, context_now, contexts_of}
use Rattle.host_core.proofs.Picked.{kept, find-kept, none_either}

abbrev then : {Y Z : Type 0} → (Y → Option Z) → Option Y → Option Z
then k None = None
then k (Some y) = k y

abbrev passing : {Z : Type 0} → (Z → Bool) → Option Z → Option Z
passing p None = None
passing p (Some z) = cond (p z) (Some z) None

filter_map-then : {X Y Z : Type 0} (f : X → Option Y) (k : Y → Option Z) (p : Z → Bool) (h : X → Option Z) (xs : List X) →
    ((x : X) → then k (f x) ≡ passing p (h x)) → filter_map k (filter_map f xs) ≡ filter p (filter_map h xs)
filter_map-then f k p h [] same = refl
filter_map-then {X} {Y} {Z} f k p h (x ∷ xs) same =
    first (f x) ∙ ap (λ o. cons_option o (filter_map k (filter_map f xs))) (same x)
    ∙ ap (cons_option (passing p (h x))) (filter_map-then f k p h xs same) ∙ sym (second (h x))
  where
    first : (o : Option Y) → filter_map k (cons_option o (filter_map f xs)) ≡ cons_option (then k o) (filter_map k (filter_map f xs))
    first None = refl
    first (Some y) = refl

    picked : (b : Bool) (z : Z) (zs : List Z) → cond b (z ∷ zs) zs ≡ cons_option (cond b (Some z) None) zs
    picked true z zs = refl
    picked false z zs = refl

    second : (o : Option Z) → filter p (cons_option o (filter_map h xs)) ≡ cons_option (passing p o) (filter p (filter_map h xs))
    second None = refl
    second (Some z) = picked (p z) z (filter p (filter_map h xs))

then_cond : {Y Z : Type 0} (k : Y → Option Z) (l : Bool) (y : Y) → then k (cond l (Some y) None) ≡ cond l (k y) None
then_cond k true y = refl
then_cond k false y = refl

passing_cond : {Z : Type 0} (p : Z → Bool) (b : Bool) (z : Z) → passing p (cond b (Some z) None) ≡ cond b (cond (p z) (Some z) None) None
passing_cond p true z = refl
passing_cond p false z = refl

passing_none : {Z : Type 0} (p : Z → Bool) (b : Bool) → None ≡ passing p (cond b None None)
passing_none p true = refl
passing_none p false = refl

turned : {Z : Type 0} (l b : Bool) (z : Z) → cond l (cond b (Some z) None) None ≡ cond b (cond l (Some z) None) None
turned true true z = refl
turned true false z = refl
turned false true z = refl
turned false false z = refl

under_new : (journal : List Entry) (name other : List ℕ) (kind : ContextKind) (made : Option ℕ) →
    then (number_under name) (context_made journal (Some (other, kind)) made) ≡ passing (is_live journal) (cond (bytes_eq other name) made None)
under_new journal name other kind None = passing_none (is_live journal) (bytes_eq other name)
under_new journal name other kind (Some c) =
    then_cond (number_under name) (is_live journal c) (context_now journal c (other, kind))
    ∙ turned (is_live journal c) (bytes_eq other name) c ∙ sym (passing_cond (is_live journal) (bytes_eq other name) c)

under_each : (journal : List Entry) (name : List ℕ) (event : Event) (made : Option ℕ) →
    then (number_under name) (context_made journal (new_of event) made) ≡ passing (is_live journal) (cond (is_new_of name event) made None)
under_each journal name (events.New other kind) made = under_new journal name other kind made
under_each journal name (events.Rule place n answer) made = refl
under_each journal name (events.Enter n) made = refl
under_each journal name (events.EnterHandle handle) made = refl
under_each journal name (events.Lookup context n version) made = refl
under_each journal name (events.Ask step context n) made = refl
under_each journal name (events.Publish context n candidate) made = refl
under_each journal name (events.Place user key) made = refl
under_each journal name (events.LoadStatic key field kind) made = refl
under_each journal name (events.StoreStatic key field value) made = refl
under_each journal name (events.Hold handle assembly method) made = refl
under_each journal name (events.DropHandle handle) made = refl
under_each journal name (events.Weak handle n) made = refl
under_each journal name (events.Alive handle) made = refl
under_each journal name (events.Unload n) made = refl
under_each journal name events.Collect made = refl
under_each journal name (events.Leave operation) made = refl

other_way : (a b : List ℕ) → bytes_eq a b ≡ false → bytes_eq b a ≡ false
other_way a b differs = at (bytes_eq b a) refl
  where
    at : (t : Bool) → bytes_eq b a ≡ t → t ≡ false
    at true is = absurd (true≢false (sym ((bytes_eq-Decides a b).1 (sym ((bytes_eq-Decides b a).0 is))) ∙ differs))
    at false is = refl

-- a name means the same in the table
pub named-contexts_of : (journal : List Entry) (name : List ℕ) → table.named (contexts_of journal) name ≡ named journal name
named-contexts_of journal name = at (bytes_eq name (codes "default")) refl
  where
    rows : List Context
    rows = filter_map (λ e. context_made journal (new_of e.event) (made_context e.reply)) journal

    same : filter_map (number_under name) rows ≡ filter (is_live journal) (filter_map (λ e. made_under name e.event e.reply) journal)
    same = filter_map-then (λ (e : Entry). context_made journal (new_of e.event) (made_context e.reply)) (number_under name) (is_live journal)
        (λ e. made_under name e.event e.reply) journal (λ e. under_each journal name e.event (made_context e.reply))

    at : (b : Bool) → bytes_eq name (codes "default") ≡ b →
        cond b (Some 0) (last_or None (filter_map (number_under name) (default_context ∷ rows)))
        ≡ cond b (Some 0) (last_or None (filter (is_live journal) (filter_map (λ e. made_under name e.event e.reply) journal)))
    at true is = refl
    at false is =
        ap (λ t. last_or None (cons_option (cond t (Some 0) None) (filter_map (number_under name) rows))) (other_way name (codes "default") is)
        ∙ ap (last_or None) same

-- what the journal says of a context that an entry asked for
abbrev pub row_now : List Entry → ℕ → List ℕ × ContextKind → ContextRow
row_now journal c new = (context_now journal c new).row

abbrev pub new_at : List Entry → ℕ → Entry → Option ContextRow
new_at journal c entry = cond (is_live journal c && makes c entry.reply) (option_map (row_now journal c) (new_of entry.event)) None

pub and_none : {X : Type 0} (a : Bool) (x : Option X) → None ≡ cond (a && false) x None
and_none true x = refl
and_none false x = refl

and_true : {X : Type 0} (a : Bool) (x : X) → cond a (Some x) None ≡ cond (a && true) (Some x) None
and_true true x = refl
and_true false x = refl

kept_cond : {Y Z : Type 0} (p : Y → Bool) (g : Y → Z) (l : Bool) (y : Y) → kept p g (cond l (Some y) None) ≡ cond l (cond (p y) (Some (g y)) None) None
kept_cond p g true y = refl
kept_cond p g false y = refl

row_number : (journal : List Entry) (c d : ℕ) (new : List ℕ × ContextKind) →
    kept (has_number c) (λ x. x.row) (context_made journal (Some new) (Some d))
    ≡ cond (is_live journal c && eqb d c) (Some (row_now journal c new)) None
row_number journal c d new =
    kept_cond (has_number c) (λ x. x.row) (is_live journal d) (context_now journal d new) ∙ at (eqb d c) refl
  where
    at : (b : Bool) → eqb d c ≡ b →
        cond (is_live journal d) (cond b (Some (row_now journal d new)) None) None
        ≡ cond (is_live journal c && b) (Some (row_now journal c new)) None
    at true is =
        subst (λ (k : ℕ). cond (is_live journal k) (Some (row_now journal k new)) None ≡ cond (is_live journal c && true) (Some (row_now journal c new)) None)
        (sym (eqb-true d c is)) (and_true (is_live journal c) (row_now journal c new))
    at false is = sym (none_either (is_live journal d)) ∙ and_none (is_live journal c) (Some (row_now journal c new))

row_each : (journal : List Entry) (c : ℕ) (new : Option (List ℕ × ContextKind)) (made : Option ℕ) →
    kept (has_number c) (λ x. x.row) (context_made journal new made)
    ≡ cond (is_live journal c && is_number c made) (option_map (row_now journal c) new) None
row_each journal c None made = none_either (is_live journal c && is_number c made)
row_each journal c (Some new) None = and_none (is_live journal c) (Some (row_now journal c new))
row_each journal c (Some new) (Some d) = row_number journal c d new

abbrev pub rows_of : List Entry → List Context
rows_of journal = filter_map (λ entry. context_made journal (new_of entry.event) (made_context entry.reply)) journal

pub row_first : (journal : List Entry) (c : ℕ) →
    option_map (λ x. x.row) (find (has_number c) (rows_of journal)) ≡ slice_get (filter_map (new_at journal c) journal) 0
row_first journal c =
    find-kept (λ (e : Entry). context_made journal (new_of e.event) (made_context e.reply)) (has_number c) (λ x. x.row)
    (new_at journal c) journal (λ before e after is. row_each journal c (new_of e.event) (made_context e.reply))

-- what is given first was given by one of the elements
first_from : {X Y : Type 0} (f : X → Option Y) (P : Y → Type 0) (xs : List X) → ((x : X) (y : Y) → f x ≡ Some y → P y) →
    (y : Y) → slice_get (filter_map f xs) 0 ≡ Some y → P y
first_from f P [] each y is = cc
first_from {X} {Y} f P (x ∷ xs) each y is = at (first_from f P xs each y) (f x) refl is
  where
    at : (slice_get (filter_map f xs) 0 ≡ Some y → P y) → (o : Option Y) → f x ≡ o → slice_get (cons_option o (filter_map f xs)) 0 ≡ Some y → P y
    at rest None none later = rest later
    at rest (Some z) gives here = let same : z ≡ y = cc in each x y (gives ∙ ap Some same)

-- where one of the elements gives something, something is given first
first_some : {X Y : Type 0} (f : X → Option Y) (before : List X) (x : X) (after : List X) → is_some (f x) ≡ true →
    is_some (slice_get (filter_map f (before ++ x ∷ after)) 0) ≡ true
first_some {X} {Y} f [] x after gives = at (f x) gives
  where
    at : (o : Option Y) → is_some o ≡ true → is_some (slice_get (cons_option o (filter_map f after)) 0) ≡ true
    at None some = cc
    at (Some y) some = refl
first_some {X} {Y} f (z ∷ zs) x after gives = at (f z) (first_some f zs x after gives)
  where
    at : (o : Option Y) → is_some (slice_get (filter_map f (zs ++ x ∷ after)) 0) ≡ true →
        is_some (slice_get (cons_option o (filter_map f (zs ++ x ∷ after))) 0) ≡ true
    at None rest = rest
    at (Some y) rest = refl

-- what a row says that is there
abbrev pub SaysOf : List Entry → ℕ → ContextRow → Type 0
SaysOf journal c row = (row.unloaded ≡ is_unloaded journal c) × (is_live journal c ≡ true)

says_new : (journal : List Entry) (c : ℕ) (new : Option (List ℕ × ContextKind)) (live makes : Bool) (row : ContextRow) → is_live journal c ≡ live →
    cond (live && makes) (option_map (row_now journal c) new) None ≡ Some row → SaysOf journal c row
says_new journal c new false makes row live is = cc
says_new journal c new true false row live is = cc
says_new journal c None true true row live is = cc
says_new journal c (Some new) true true row live is =
    let same : row_now journal c new ≡ row = cc in (ap (λ r. r.unloaded) (sym same), live)

pub says_first : (journal : List Entry) (c : ℕ) (row : ContextRow) → slice_get (filter_map (new_at journal c) journal) 0 ≡ Some row → SaysOf journal c row
says_first journal c =
    first_from (new_at journal c) (SaysOf journal c) journal
    (λ e row is. says_new journal c (new_of e.event) (is_live journal c) (makes c e.reply) row refl is)

and_back : (a b : Bool) → a ≡ true → b ≡ true → (a && b) ≡ true
and_back a b p q = cc

there_new : (journal : List Entry) (c : ℕ) (entry : Entry) (live makes : Bool) (name : List ℕ) (kind : ContextKind) → entry.event ≡ events.New name kind →
    live ≡ true → makes ≡ true → is_some (cond (live && makes) (option_map (row_now journal c) (new_of entry.event)) None) ≡ true
there_new journal c entry live makes name kind new is_live is_made = cc (ap new_of new)

-- a live context that is not `default` has a row
there_first : (files : Files) (journal : List Entry) (c : ℕ) → IsLegal files journal → is_made journal c ≡ true → is_live journal c ≡ true →
    is_some (slice_get (filter_map (new_at journal c) journal) 0) ≡ true
there_first files journal c legal made live =
    let parts = list_any-parts (λ e. makes c e.reply) journal made in
    let entry = parts.1 in
    let makes_it : made_context entry.reply ≡ Some c = made-from_makes c entry.reply parts.4 in
    let new = made-others files parts.0 entry.event entry.reply c (legal parts.0 entry parts.2 parts.3) makes_it in
    subst (λ (j : List Entry). is_some (slice_get (filter_map (new_at journal c) j) 0) ≡ true) (sym parts.3)
    (first_some (new_at journal c) parts.0 entry parts.2
    (there_new journal c entry (is_live journal c) (makes c entry.reply) new.0 new.1 new.2 live parts.4))

or_right : (a b : Bool) → b ≡ true → (a || b) ≡ true
or_right true b h = refl
or_right false b h = h

-- what was made as a collectible context was made
pub made_collectible : (c : ℕ) (entries : List Entry) → list_any (λ e. makes_collectible c e.event e.reply) entries ≡ true →
    list_any (λ e. makes c e.reply) entries ≡ true
made_collectible c [] h = cc
made_collectible c (e ∷ es) h = elim (or_cases (makes_collectible c e.event e.reply) (list_any (λ x. makes_collectible c x.event x.reply) es) h) [
  | inl here ↦ cc ((and_parts (is_new_collectible e.event) (makes c e.reply) here).1)
  | inr later ↦ or_right (makes c e.reply) (list_any (λ x. makes c x.reply) es) (made_collectible c es later)
]

-- a context that is there and is not `default` was made
made_live : (journal : List Entry) (c : ℕ) → eqb 0 c ≡ false → is_live journal c ≡ true → is_made journal c ≡ true
made_live journal c other live = elim (or_cases (eqb c 0) (is_made journal c && not (is_freed journal c)) live) [
  | inl zero ↦ let same : c ≡ 0 = eqb-true c 0 zero in absurd (true≢false (ap (λ (k : ℕ). eqb 0 k) (sym same) ∙ other))
  | inr there ↦ (and_parts (is_made journal c) (not (is_freed journal c)) there).0
]

-- a front of a legal journal is legal
legal_front : (files : Files) (front rest : List Entry) → IsLegal files (front ++ rest) → IsLegal files front
legal_front files front rest legal before entry after is =
    legal before entry (after ++ rest) (ap (λ l. l ++ rest) is ∙ append_assoc before (entry ∷ after) rest)

-- context 0 was not given up
pub not_unloaded_by : (files : Files) (journal : List Entry) (o : Option ℕ) (reply : Reply) → IsLegal files journal → reply ≡ reply_to_unload journal o →
    unloading_context reply ≡ Some 0 → ⊥
not_unloaded_by files journal None reply legal is unloading = cc
not_unloaded_by files journal (Some c) reply legal is unloading = at (is_collectible journal c) (is_unloaded journal c) refl (ap unloading_context (sym is) ∙ unloading)
  where
    at : (collectible unloaded : Bool) → is_collectible journal c ≡ collectible →
        unloading_context (cond (not collectible) (replies.Fixed c) (cond unloaded (replies.Already c) (replies.Unloading c))) ≡ Some 0 → ⊥
    at false unloaded is none = cc
    at true true is none = cc
    at true false is zero =
        let here : c ≡ 0 = cc in
        let numbers = number_of_made files journal c legal (made_collectible c journal is) in
        absurd (omega (arith, here, numbers.0))

unloads_zero : (files : Files) (journal : List Entry) (event : Event) (reply : Reply) → IsLegal files journal → IsReply files journal event reply →
    unloads 0 event reply ≡ true → ⊥
unloads_zero files journal (events.New name kind) reply legal is unloads = cc
unloads_zero files journal (events.Rule place name answer) reply legal is unloads = cc
unloads_zero files journal (events.Enter name) reply legal is unloads = cc
unloads_zero files journal (events.EnterHandle handle) reply legal is unloads = cc
unloads_zero files journal (events.Lookup context name version) reply legal is unloads = cc
unloads_zero files journal (events.Ask step context name) reply legal is unloads = cc
unloads_zero files journal (events.Publish context name candidate) reply legal is unloads = cc
unloads_zero files journal (events.Place user key) reply legal is unloads = cc
unloads_zero files journal (events.LoadStatic key field kind) reply legal is unloads = cc
unloads_zero files journal (events.StoreStatic key field value) reply legal is unloads = cc
unloads_zero files journal (events.Hold handle assembly method) reply legal is unloads = cc
unloads_zero files journal (events.DropHandle handle) reply legal is unloads = cc
unloads_zero files journal (events.Weak handle name) reply legal is unloads = cc
unloads_zero files journal (events.Alive handle) reply legal is unloads = cc
unloads_zero files journal (events.Unload name) reply legal is unloads =
    not_unloaded_by files journal (named journal name) reply legal is (is_number-some 0 (unloading_context reply) unloads)
unloads_zero files journal events.Collect reply legal is unloads = cc
unloads_zero files journal (events.Leave operation) reply legal is unloads = cc

pub zero_stays : (files : Files) (journal : List Entry) → IsLegal files journal → is_unloaded journal 0 ≡ false
zero_stays files journal legal = at (is_unloaded journal 0) refl
  where
    at : (b : Bool) → is_unloaded journal 0 ≡ b → b ≡ false
    at false is = refl
    at true is =
        let parts = list_any-parts (λ e. unloads 0 e.event e.reply) journal is in
        absurd (unloads_zero files parts.0 parts.1.event parts.1.reply (legal_front files parts.0 (parts.1 ∷ parts.2) (subst (IsLegal files) parts.3 legal))
        (legal parts.0 parts.1 parts.2 parts.3) parts.4)

-- what the table says of a context
pub record Tells (journal : List Entry) (c : ℕ) (found : Option ContextRow) : Type 0 where
  pub there : is_some found ≡ is_live journal c
  pub unloaded : (row : ContextRow) → found ≡ Some row → row.unloaded ≡ is_unloaded journal c

pub row-contexts_of : (files : Files) (journal : List Entry) (c : ℕ) → IsLegal files journal → Tells journal c (table.row_of (contexts_of journal) c)
row-contexts_of files journal c legal = at (eqb 0 c) refl
  where
    none_of : (o : Option ContextRow) → slice_get (filter_map (new_at journal c) journal) 0 ≡ o → (live : Bool) → is_live journal c ≡ live →
        eqb 0 c ≡ false → is_some o ≡ live
    none_of (Some row) is live live_is other = sym (says_first journal c row is).1 ∙ live_is
    none_of None is false live_is other = refl
    none_of None is true live_is other =
        let made : is_made journal c ≡ true = made_live journal c other live_is in
        cc (there_first files journal c legal made live_is, is)

    others : Tells journal c (slice_get (filter_map (new_at journal c) journal) 0) → Tells journal c (option_map (λ x. x.row) (find (has_number c) (rows_of journal)))
    others tells = subst (λ (o : Option ContextRow). Tells journal c o) (sym (row_first journal c)) tells

    at : (b : Bool) → eqb 0 c ≡ b → Tells journal c (option_map (λ x. x.row) (cond b (Some default_context) (find (has_number c) (rows_of journal))))
    at true is =
        let zero : 0 ≡ c = eqb-true 0 c is in
        subst (λ (k : ℕ). Tells journal k (Some default_context.row)) zero (record {
          there = refl;
          unloaded = λ row same. let default : default_context.row ≡ row = cc in ap (λ r. r.unloaded) (sym default) ∙ sym (zero_stays files journal legal);
        })
    at false is = others (record {
      there = none_of (slice_get (filter_map (new_at journal c) journal) 0) refl (is_live journal c) refl is;
      unloaded = λ row same. (says_first journal c row same).0;
    })

last_passes : {X : Type 0} (p : X → Bool) (o : Option X) (xs : List X) → IfSome o (λ x. p x ≡ true) → IfSome (last_or o (filter p xs)) (λ x. p x ≡ true)
last_passes p o [] holds = holds
last_passes {X} p o (x ∷ xs) holds = at (p x) refl (λ e. last_passes p (Some x) xs e) (last_passes p o xs holds)
  where
    at : (b : Bool) → p x ≡ b → (p x ≡ true → IfSome (last_or (Some x) (filter p xs)) (λ y. p y ≡ true)) →
        IfSome (last_or o (filter p xs)) (λ y. p y ≡ true) → IfSome (last_or o (cond b (x ∷ filter p xs) (filter p xs))) (λ y. p y ≡ true)
    at true passes here rest = here passes
    at false fails here rest = rest

-- what a name means is there
pub named_live : (journal : List Entry) (name : List ℕ) → IfSome (named journal name) (λ c. is_live journal c ≡ true)
named_live journal name = at (bytes_eq name (codes "default"))
  where
    at : (b : Bool) → IfSome (cond b (Some 0) (last_or None (filter (is_live journal) (filter_map (λ e. made_under name e.event e.reply) journal)))) (λ c. is_live journal c ≡ true)
    at true = refl
    at false = last_passes (is_live journal) None (filter_map (λ e. made_under name e.event e.reply) journal) tt

pub row-told : (files : Files) (journal now : List Entry) (list : List Context) (c : ℕ) → list ≡ contexts_of journal → IsLegal files journal →
    journal ≡ now → Tells now c (table.row_of list c)
row-told files journal now list c is legal same =
    subst (λ (j : List Entry). Tells j c (table.row_of list c)) same
    (subst (λ (l : List Context). Tells journal c (table.row_of l c)) (sym is) (row-contexts_of files journal c legal))

pub some_map : {A B : Type 0} (f : A → B) (o : Option A) → is_some o ≡ is_some (option_map f o)
some_map f None = refl
some_map f (Some x) = refl

and_true-right : (a b : Bool) → true ≡ b → a ≡ (a && b)
and_true-right true b is = is
and_true-right false b is = refl

and_false-right : (a b : Bool) → false ≡ b → false ≡ (a && b)
and_false-right true b is = is
and_false-right false b is = refl

pub unloaded_some : {journal : List Entry} {c : ℕ} {found : Option ContextRow} (row : ContextRow) → Tells journal c found → Some row ≡ found →
    row.unloaded ≡ is_unloaded journal c
unloaded_some row tells is = tells.unloaded row (sym is)

pub unloaded_none : {journal : List Entry} {c : ℕ} {found : Option ContextRow} → Tells journal c found → None ≡ found →
    is_live journal c ≡ true → false ≡ is_unloaded journal c
unloaded_none tells is live = absurd (true≢false (sym live ∙ sym tells.there ∙ ap is_some (sym is)))

pub unkept_some : {journal : List Entry} {c : ℕ} {found : Option ContextRow} (row : ContextRow) → Tells journal c found → Some row ≡ found →
    row.unloaded ≡ (is_unloaded journal c && is_live journal c)
unkept_some {journal} {c} row tells is =
    unloaded_some row tells is ∙ and_true-right (is_unloaded journal c) (is_live journal c) (ap is_some is ∙ tells.there)

pub unkept_none : {journal : List Entry} {c : ℕ} {found : Option ContextRow} → Tells journal c found → None ≡ found →
    false ≡ (is_unloaded journal c && is_live journal c)
unkept_none {journal} {c} tells is = and_false-right (is_unloaded journal c) (is_live journal c) (ap is_some is ∙ tells.there)
