-- The assemblies that were made, by their numbers.
use Rattle.std.proofs.Common.{◌≡◌, ℕ, ◌+◌, ◌<◌, ◌≤◌, get_or, Bool, true, false, not, ◌&&◌, cond, eqb, zero, suc, List, [], ◌∷◌, ◌++◌, length, map, Option, Some, None, refl, sym, ap, subst, ◌∙◌, append_assoc, arith}
use Rattle.std.specs.List.{cons_option, filter_map, slice_get}
use Rattle.std.specs.Option.{option_map}
use Rattle.std.proofs.lemmas.Bool.Decides.{nat_tests}
use Rattle.std.proofs.lemmas.List.{length-append, length-map}
use Rattle.std.proofs.lemmas.List.Elements.{filter_map-append}
use Rattle.host_events.specs.declared.event.Candidate.{Candidate}
use Rattle.host_events.specs.declared.event.Candidate.TheVariants as candidates
use Rattle.host_events.specs.declared.event.Event.{Event}
use Rattle.host_events.specs.declared.event.Event.TheVariants as events
use Rattle.host_events.specs.declared.journal.Entry.{Entry}
use Rattle.host_events.specs.declared.order.CodeOf.{CodeOf}
use Rattle.host_events.specs.declared.reply.Reply.{Reply}
use Rattle.host_events.specs.declared.reply.Reply.TheVariants as replies
use Rattle.host_events.specs.Assemblies.{assembly_of, bound_assembly, bound_count, code_bound, code_published}
use Rattle.host_events.specs.Bindings.{binding}
use Rattle.host_events.specs.Contexts.{is_collectible, is_number, named}
use Rattle.host_events.specs.Files.{Files}
use Rattle.host_events.specs.Handles.{weakly}
use Rattle.host_events.specs.Journal.{IsLegal}
use Rattle.host_events.specs.Reply.{IsReply, is_of_collectible, reply_to_publish}
use Rattle.host_events.proofs.Cases.{alive-each, ask-each, enter-each, lookup-each, new-each, rule-each, unload-each, weak-each}
use Rattle.host_core.specs.declared.tables.Loaded.{Loaded}
use Rattle.host_core.specs.declared.tables.Tables.{Tables}
use Rattle.host_core.specs.Tables.{Represents, code_made, codes_of, loaded_of}

-- an assembly that is made: its number, and where its code comes from
abbrev pub MakesAssembly : List Entry → Event → ℕ → Type 0
MakesAssembly journal event a = (a ≡ bound_count journal + 1) × (code : CodeOf) × (code_published event ≡ Some code)

made_by_publish : (journal : List Entry) (context : ℕ) (name : List ℕ) (candidate : Candidate) (bound : Option ℕ) (reply : Reply) (a : ℕ) →
    reply ≡ reply_to_publish journal context candidate bound → bound_assembly reply ≡ Some a →
    MakesAssembly journal (events.Publish context name candidate) a
made_by_publish journal context name candidate (Some b) reply a is made = cc
made_by_publish journal context name (candidates.Image image) None reply a is made =
    let number : bound_count journal + 1 ≡ a = cc in
    (sym number, record { image = image; context = context }, refl)
made_by_publish journal context name (candidates.Assembly b) None reply a is made =
    absurd (at (is_of_collectible journal b && not (is_collectible journal context)) (ap bound_assembly (sym is) ∙ made))
  where
    at : (t : Bool) → bound_assembly (cond t (replies.NotCollectible b) (replies.Shared b)) ≡ Some a → ⊥
    at true none = cc
    at false none = cc

pub made_assembly : (files : Files) (journal : List Entry) (event : Event) (reply : Reply) (a : ℕ) → IsReply files journal event reply →
    bound_assembly reply ≡ Some a → MakesAssembly journal event a
made_assembly files journal (events.New name kind) reply a is made =
    cc (ap bound_assembly is, new-each (λ r. bound_assembly r ≡ None) journal (named journal name) refl (λ c. refl))
made_assembly files journal (events.Rule place name answer) reply a is made =
    cc (ap bound_assembly is, rule-each (λ r. bound_assembly r ≡ None) journal place refl (λ c. refl) (λ c. refl))
made_assembly files journal (events.Enter name) reply a is made =
    cc (ap bound_assembly is, enter-each (λ r. bound_assembly r ≡ None) journal (named journal name) refl (λ c. refl) (λ c. refl))
made_assembly files journal (events.EnterHandle handle) reply a is made = absurd is
made_assembly files journal (events.Lookup context name version) reply a is made =
    cc (ap bound_assembly is, lookup-each (λ r. bound_assembly r ≡ None) files journal version (binding journal context name) refl (λ a. refl) (λ a. refl))
made_assembly files journal (events.Ask step context name) reply a is made =
    cc (ap bound_assembly is, ask-each (λ r. bound_assembly r ≡ None) files journal step context name refl (λ i. refl) (λ a. refl))
made_assembly files journal (events.Publish context name candidate) reply a is made = made_by_publish journal context name candidate (binding journal context name) reply a is made
made_assembly files journal (events.Place user key) reply a is made = absurd is
made_assembly files journal (events.LoadStatic key field kind) reply a is made = absurd is
made_assembly files journal (events.StoreStatic key field value) reply a is made = absurd is
made_assembly files journal (events.Hold handle assembly method) reply a is made = absurd is
made_assembly files journal (events.DropHandle handle) reply a is made = absurd is
made_assembly files journal (events.Weak handle name) reply a is made =
    cc (ap bound_assembly is, weak-each (λ r. bound_assembly r ≡ None) (weakly journal handle) (named journal name) refl refl (λ c. refl))
made_assembly files journal (events.Alive handle) reply a is made =
    cc (ap bound_assembly is, alive-each (λ r. bound_assembly r ≡ None) journal (weakly journal handle) refl (λ c. refl) (λ c. refl))
made_assembly files journal (events.Unload name) reply a is made =
    cc (ap bound_assembly is, unload-each (λ r. bound_assembly r ≡ None) journal (named journal name) refl (λ c. refl) (λ c. refl) (λ c. refl))
made_assembly files journal events.Collect reply a is made = cc (ap bound_assembly is.2)
made_assembly files journal (events.Leave operation) reply a is made = cc (ap bound_assembly is)

-- how many assemblies were made, of one entry more
bound_count-more : (before : List Entry) (entry : Entry) (o : Option ℕ) → bound_assembly entry.reply ≡ o →
    bound_count (before ++ entry ∷ []) ≡ bound_count before + length (cons_option o [])
bound_count-more before entry o is =
    ap length (filter_map-append (λ e. bound_assembly e.reply) before (entry ∷ []))
    ∙ length-append (filter_map (λ e. bound_assembly e.reply) before) (filter_map (λ e. bound_assembly e.reply) (entry ∷ []))
    ∙ ap (λ t. bound_count before + length (cons_option t [])) is

code_at : (rest : List CodeOf) (next : ℕ → Option CodeOf) (n b k : ℕ) (code : CodeOf) → b ≡ n + 1 →
    ((j : ℕ) → slice_get rest j ≡ next (suc ((n + 1) + j))) →
    slice_get (code ∷ rest) k ≡ cond (eqb b (suc (n + k))) (Some code) (next (suc (n + k)))
code_at rest next n b zero code is later =
    let here : eqb b (suc (n + 0)) ≡ true = grind (arith, nat_tests) in
    ap (λ t. cond t (Some code) (next (suc (n + 0)))) (sym here)
code_at rest next n b (suc k) code is later =
    let other : eqb b (suc (n + suc k)) ≡ false = grind (arith, nat_tests) in
    let same : suc ((n + 1) + k) ≡ suc (n + suc k) = omega arith in
    later k ∙ ap next same ∙ ap (λ t. cond t (Some code) (next (suc (n + suc k)))) (sym other)

bound_ahead : (a : ℕ) (event : Event) (reply : Reply) (b : ℕ) (code : CodeOf) (rest : List CodeOf) → bound_assembly reply ≡ Some b → code_published event ≡ Some code →
    slice_get (cons_option (code_bound a event reply) rest) 0 ≡ cond (eqb b a) (Some code) (slice_get rest 0)
bound_ahead a event reply b code rest is published = ap₂' ∙ at (eqb b a)
  where
    ap₂' : slice_get (cons_option (code_bound a event reply) rest) 0 ≡ slice_get (cons_option (cond (eqb b a) (Some code) None) rest) 0
    ap₂' = ap (λ o. slice_get (cons_option (cond (is_number a o) (code_published event) None) rest) 0) is
        ∙ ap (λ o. slice_get (cons_option (cond (eqb b a) o None) rest) 0) published

    at : (t : Bool) → slice_get (cons_option (cond t (Some code) None) rest) 0 ≡ cond t (Some code) (slice_get rest 0)
    at true = refl
    at false = refl

none_ahead : (a : ℕ) (event : Event) (reply : Reply) (rest : List CodeOf) → bound_assembly reply ≡ None →
    slice_get rest 0 ≡ slice_get (cons_option (code_bound a event reply) rest) 0
none_ahead a event reply rest is = ap (λ o. slice_get (cons_option (cond (is_number a o) (code_published event) None) rest) 0) (sym is)

codes_from : (files : Files) (before after : List Entry) (k : ℕ) → IsLegal files (before ++ after) →
    slice_get (codes_of after) k ≡ slice_get (filter_map (λ e. code_bound (suc (bound_count before + k)) e.event e.reply) after) 0
codes_from files before [] k legal = refl
codes_from files before (e ∷ es) k legal =
    at (bound_assembly e.reply) refl (λ j. codes_from files (before ++ e ∷ []) es j (subst (IsLegal files) (sym (append_assoc before (e ∷ []) es)) legal))
  where
    n : ℕ
    n = bound_count before

    next : ℕ → Option CodeOf
    next a = slice_get (filter_map (λ x. code_bound a x.event x.reply) es) 0

    at : (o : Option ℕ) → bound_assembly e.reply ≡ o →
        ((j : ℕ) → slice_get (codes_of es) j ≡ slice_get (filter_map (λ x. code_bound (suc (bound_count (before ++ e ∷ []) + j)) x.event x.reply) es) 0) →
        slice_get (codes_of (e ∷ es)) k ≡ slice_get (filter_map (λ x. code_bound (suc (n + k)) x.event x.reply) (e ∷ es)) 0
    at None is later =
        let count : bound_count (before ++ e ∷ []) ≡ n = bound_count-more before e None is ∙ omega arith in
        ap (λ o. slice_get (cons_option (code_made e.event o) (codes_of es)) k) is ∙ later k ∙ ap (λ m. next (suc (m + k))) count
        ∙ none_ahead (suc (n + k)) e.event e.reply (filter_map (λ x. code_bound (suc (n + k)) x.event x.reply) es) is
    at (Some b) is later =
        let makes = made_assembly files before e.event e.reply b (legal before e es refl) is in
        let count : bound_count (before ++ e ∷ []) ≡ n + 1 = bound_count-more before e (Some b) is in
        ap (λ o. slice_get (cons_option (code_made e.event o) (codes_of es)) k) is
        ∙ ap (λ o. slice_get (cons_option o (codes_of es)) k) makes.2
        ∙ code_at (codes_of es) next n b k makes.1 makes.0 (λ j. later j ∙ ap (λ m. next (suc (m + j))) count)
        ∙ sym (bound_ahead (suc (n + k)) e.event e.reply b makes.1 (filter_map (λ x. code_bound (suc (n + k)) x.event x.reply) es) is makes.2)

-- the codes stand in the order of the assemblies
pub assembly_of-codes : (files : Files) (journal : List Entry) (a : ℕ) → IsLegal files journal → slice_get (codes_of journal) a ≡ assembly_of journal (suc a)
assembly_of-codes files journal a legal =
    let from_zero : 0 + a ≡ a = omega arith in
    codes_from files [] journal a legal ∙ ap (λ m. slice_get (filter_map (λ e. code_bound (suc m) e.event e.reply) journal) 0) from_zero

made_codes : (files : Files) (before after : List Entry) → IsLegal files (before ++ after) →
    length (codes_of after) ≡ length (filter_map (λ e. bound_assembly e.reply) after)
made_codes files before [] legal = refl
made_codes files before (e ∷ es) legal =
    at (bound_assembly e.reply) refl (made_codes files (before ++ e ∷ []) es (subst (IsLegal files) (sym (append_assoc before (e ∷ []) es)) legal))
  where
    at : (o : Option ℕ) → bound_assembly e.reply ≡ o → length (codes_of es) ≡ length (filter_map (λ x. bound_assembly x.reply) es) →
        length (codes_of (e ∷ es)) ≡ length (filter_map (λ x. bound_assembly x.reply) (e ∷ es))
    at None is later = cc (is, later)
    at (Some b) is later =
        let makes = made_assembly files before e.event e.reply b (legal before e es refl) is in
        cc (is, later, makes.2)

pub length-codes : (files : Files) (journal : List Entry) → IsLegal files journal → length (codes_of journal) ≡ bound_count journal
length-codes files journal legal = made_codes files [] journal legal

slice_get-map : {X Y : Type 0} (f : X → Y) (xs : List X) (k : ℕ) → option_map f (slice_get xs k) ≡ slice_get (map f xs) k
slice_get-map f [] k = refl
slice_get-map f (x ∷ xs) zero = refl
slice_get-map f (x ∷ xs) (suc k) = slice_get-map f xs k

-- the code of an assembly, where the codes that are held are those of a journal
pub code_held : {L : Type 0} (image : L → CodeOf) (items : List L) (files : Files) (journal now : List Entry) (index assembly : ℕ) →
    map image items ≡ codes_of journal → IsLegal files journal → journal ≡ now → assembly ≡ index + 1 →
    option_map image (slice_get items index) ≡ assembly_of now assembly
code_held image items files journal now index assembly is legal same number =
    let next : suc index ≡ assembly = omega (arith, number) in
    slice_get-map image items index ∙ ap (λ l. slice_get l index) is ∙ assembly_of-codes files journal index legal
    ∙ ap (λ j. assembly_of j (suc index)) same ∙ ap (assembly_of now) next

-- how many codes are held
pub codes_counted : {C : Type 0} {image : C → ℕ} {tables : Tables C} {journal : List Entry} (files : Files) (now : List Entry) → Represents image tables journal →
    IsLegal files journal → journal ≡ now → length tables.codes.items ≡ bound_count now
codes_counted {C} {image} {tables} {journal} files now represents legal same =
    sym (length-map tables.codes.items (loaded_of image)) ∙ ap length represents.codes ∙ length-codes files journal legal ∙ ap bound_count same

-- the code that is held of an assembly, if one is
pub code_told : {C : Type 0} {image : C → ℕ} {tables : Tables C} {journal : List Entry} (files : Files) (now : List Entry) (index assembly : ℕ) →
    Represents image tables journal → IsLegal files journal → journal ≡ now → assembly ≡ index + 1 →
    option_map (loaded_of image) (slice_get tables.codes.items index) ≡ assembly_of now assembly
code_told {C} {image} {tables} {journal} files now index assembly represents legal same number =
    code_held (loaded_of image) tables.codes.items files journal now index assembly represents.codes legal same number

slice_at : {X : Type 0} (xs : List X) (i : ℕ) (x : X) → i < length xs → x ≡ get_or xs i x → slice_get xs i ≡ Some x
slice_at [] i x lt is = absurd (omega arith)
slice_at (y ∷ ys) zero x lt is = ap Some (sym is)
slice_at (y ∷ ys) (suc i) x lt is = slice_at ys i x (omega arith) is

slice_past : {X : Type 0} (xs : List X) (i : ℕ) → length xs ≤ i → slice_get xs i ≡ None
slice_past [] i past = refl
slice_past (y ∷ ys) zero past = absurd (omega arith)
slice_past (y ∷ ys) (suc i) past = slice_past ys i (omega arith)

pub code_some : {C : Type 0} {image : C → ℕ} {tables : Tables C} {journal : List Entry} (files : Files) (now : List Entry) (index assembly : ℕ) (items : List (Loaded C)) (loaded : Loaded C) →
    Represents image tables journal → IsLegal files journal → journal ≡ now → assembly ≡ index + 1 → items ≡ tables.codes.items →
    index < length items → loaded ≡ get_or items index loaded → Some (loaded_of image loaded) ≡ assembly_of now assembly
code_some {C} {image} files now index assembly items loaded represents legal same number are lt is =
    ap (option_map (loaded_of image)) (sym (slice_at items index loaded lt is)) ∙ ap (λ l. option_map (loaded_of image) (slice_get l index)) are
    ∙ code_told files now index assembly represents legal same number

pub code_none : {C : Type 0} {image : C → ℕ} {tables : Tables C} {journal : List Entry} (files : Files) (now : List Entry) (index assembly : ℕ) (items : List (Loaded C)) →
    Represents image tables journal → IsLegal files journal → journal ≡ now → assembly ≡ index + 1 → items ≡ tables.codes.items →
    length items ≤ index → None ≡ assembly_of now assembly
code_none {C} {image} files now index assembly items represents legal same number are past =
    ap (option_map (loaded_of image)) (sym (slice_past items index past)) ∙ ap (λ l. option_map (loaded_of image) (slice_get l index)) are
    ∙ code_told files now index assembly represents legal same number
