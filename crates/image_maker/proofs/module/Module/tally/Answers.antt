use Rattle.std.proofs.Common.{ℕ, List, ◌∷◌, ◌+◌, [], length, map, subst}
use Rattle.std.specs.List.{flat_map, sum_by}
use Rattle.assembly_name.specs.declared.version.AssemblyRef.{AssemblyRef}
use Rattle.cli_words.specs.Text.{bytes_of}
use Rattle.image_maker.specs.declared.module.TypeRefRow.{TypeRefRow}
use Rattle.image_maker.specs.declared.module.TypeRow.{TypeRow}
use Rattle.image_maker.specs.declared.module.FieldRow.{FieldRow}
use Rattle.image_maker.specs.declared.module.MethodRow.{MethodRow}
use Rattle.image_maker.specs.declared.module.MemberRow.{MemberRow}
use Rattle.image_maker.specs.declared.module.Cell.{Cell}
use Rattle.image_maker.specs.Sound.{all_texts}
use Rattle.image_maker.specs.Tally.{Adds, cell_texts, cell_bytes, method_bytes, module_bytes}
use Rattle.image_maker.proofs.TallySums.{tally_is}
use Rattle.image_maker.proofs.module.Module.tally.Goals as goal

pub returns : goal.returns
returns c =
    let m = c.args.self.now in
    let refs = subst (λ xs. Adds (flat_map (λ (r : AssemblyRef). bytes_of r.name ∷ []) xs)
    (sum_by (λ (r : AssemblyRef). 0) xs) c.text.new.self c.count_all.new.tally)
    c.items.ensures c.count_all.ensures in
    let type_refs = subst (λ xs. Adds (flat_map (λ (t : TypeRefRow). t.name ∷ t.space ∷ []) xs)
    (sum_by (λ (t : TypeRefRow). 0) xs) c.count_all.new.tally c.count_all-2.new.tally)
    c.items-2.ensures c.count_all-2.ensures in
    let types = subst (λ xs. Adds (flat_map (λ (t : TypeRow). t.name ∷ t.space ∷ []) xs)
    (sum_by (λ (t : TypeRow). 0) xs) c.count_all-2.new.tally c.count_all-3.new.tally)
    c.items-3.ensures c.count_all-3.ensures in
    let fields = subst (λ xs. Adds (map (λ (f : FieldRow). f.name) (flat_map (λ (t : TypeRow). t.fields) xs))
    (sum_by (λ (f : FieldRow). length f.sig + 4) (flat_map (λ (t : TypeRow). t.fields) xs)) c.count_all-3.new.tally
    c.count_fields.new.tally)
    c.items-4.ensures c.count_fields.ensures in
    let methods = subst (λ xs. Adds (map (λ (f : MethodRow). f.name) (flat_map (λ (t : TypeRow). t.methods) xs))
    (sum_by method_bytes (flat_map (λ (t : TypeRow). t.methods) xs)) c.count_fields.new.tally
    c.count_methods.new.tally)
    c.items-5.ensures c.count_methods.ensures in
    let members = subst (λ xs. Adds (flat_map (λ (r : MemberRow). r.name ∷ []) xs)
    (sum_by (λ (r : MemberRow). length r.sig + 4) xs) c.count_methods.new.tally c.count_all-4.new.tally)
    c.items-6.ensures c.count_all-4.ensures in
    let rows = subst (λ xs. Adds (flat_map (λ (r : ℕ × List Cell). flat_map cell_texts r.1) xs)
    (sum_by (λ (r : ℕ × List Cell). sum_by cell_bytes r.1) xs) c.count_all-4.new.tally c.count_all-5.new.tally)
    c.items-7.ensures c.count_all-5.ensures in
    let specs = subst (λ xs. Adds (flat_map (λ (s : List ℕ). []) xs)
    (sum_by (λ (s : List ℕ). length s + 4) xs) c.count_all-5.new.tally c.count_all-6.new.tally)
    c.items-8.ensures c.count_all-6.ensures in
    let streams = subst (λ xs. Adds (flat_map (λ (s : List ℕ × List ℕ). []) xs)
    (sum_by (λ (s : List ℕ × List ℕ). length s.1 + 64) xs) c.count_all-6.new.tally c.count_all-7.new.tally)
    c.items-9.ensures c.count_all-7.ensures in
    let user_strings = subst (λ xs. Adds [] (length xs + 0) c.count_all-7.new.tally c.blob.new.self)
    c.items-10.ensures c.blob.ensures in
    let guids = subst (λ xs. Adds [] (length xs + 0) c.blob.new.self c.blob-2.new.self)
    c.items-11.ensures c.blob-2.ensures in
    subst (λ old. Adds (all_texts m) (module_bytes m) old c.blob-2.new.self) c.new-tally.ensures
    (tally_is m c.new-tally.result c.text.new.self c.count_all.new.tally c.count_all-2.new.tally
    c.count_all-3.new.tally c.count_fields.new.tally
    c.count_methods.new.tally c.count_all-4.new.tally c.count_all-5.new.tally c.count_all-6.new.tally
    c.count_all-7.new.tally c.blob.new.self c.blob-2.new.self
    c.text.ensures refs type_refs types fields methods members rows specs streams user_strings guids)
