-- What is bound by the bindings that were published.
use Rattle.std.proofs.Common.{◌≡◌, ℕ, true, false, cond, List, Option, Some, None, refl, sym, ap, ◌∙◌}
use Rattle.std.specs.List.{filter_map, slice_get}
use Rattle.bind_cache.specs.Bindings.{binds, bound}
use Rattle.host_events.specs.declared.event.Event.{Event}
use Rattle.host_events.specs.declared.event.Event.TheVariants as events
use Rattle.host_events.specs.declared.journal.Entry.{Entry}
use Rattle.host_events.specs.Bindings.{assembly_published, binding, binds_by, is_platform_name, publishes}
use Rattle.host_core.specs.Tables.{binding_made, binding_to, bindings_of}
use Rattle.host_core.proofs.Picked.{kept, find-kept, none_either}

to_each : (c : ℕ) (n : List ℕ) (a : ℕ) (event : Event) → kept (binds c n) (λ b. b.assembly) (binding_to a event) ≡ cond (publishes c n event) (Some a) None
to_each c n a (events.New name kind) = refl
to_each c n a (events.Rule place name answer) = refl
to_each c n a (events.Enter name) = refl
to_each c n a (events.EnterHandle handle) = refl
to_each c n a (events.Lookup context name version) = refl
to_each c n a (events.Ask step context name) = refl
to_each c n a (events.Publish context name candidate) = refl
to_each c n a (events.Place user key) = refl
to_each c n a (events.LoadStatic key field kind) = refl
to_each c n a (events.StoreStatic key field value) = refl
to_each c n a (events.Hold handle assembly method) = refl
to_each c n a (events.DropHandle handle) = refl
to_each c n a (events.Weak handle name) = refl
to_each c n a (events.Alive handle) = refl
to_each c n a (events.Unload name) = refl
to_each c n a events.Collect = refl
to_each c n a (events.Leave operation) = refl

made_each : (c : ℕ) (n : List ℕ) (event : Event) (o : Option ℕ) → kept (binds c n) (λ b. b.assembly) (binding_made event o) ≡ cond (publishes c n event) o None
made_each c n event None = none_either (publishes c n event)
made_each c n event (Some a) = to_each c n a event

pub bound-first : (journal : List Entry) (c : ℕ) (n : List ℕ) →
    bound (bindings_of journal) c n ≡ slice_get (filter_map (λ entry. binds_by c n entry.event entry.reply) journal) 0
bound-first journal c n =
    find-kept (λ (e : Entry). binding_made e.event (assembly_published e.reply)) (binds c n) (λ b. b.assembly)
    (λ e. binds_by c n e.event e.reply) journal (λ before e after is. made_each c n e.event (assembly_published e.reply))

-- a platform name is bound to the platform, another one as the table says
pub binding-platform : (journal : List Entry) (c : ℕ) (n : List ℕ) → is_platform_name n ≡ true → Some 0 ≡ binding journal c n
binding-platform journal c n is = ap (λ b. cond b (Some 0) (slice_get (filter_map (λ e. binds_by c n e.event e.reply) journal) 0)) (sym is)

pub binding-other : (journal : List Entry) (c : ℕ) (n : List ℕ) → is_platform_name n ≡ false → bound (bindings_of journal) c n ≡ binding journal c n
binding-other journal c n is =
    bound-first journal c n ∙ ap (λ b. cond b (Some 0) (slice_get (filter_map (λ e. binds_by c n e.event e.reply) journal) 0)) (sym is)
