use Rattle.std.proofs.Common.{◌≡◌, ℕ, ◌+◌, ◌<◌, List, length, map, IfOk, sym, ap, subst, ◌∙◌, arith}
use Rattle.std.proofs.lemmas.List.{length-map}
use Rattle.image_maker.specs.File.{Stream, root_bytes, file_bytes}
use Rattle.image_maker.specs.Headers.{part_of}
use Rattle.image_maker.specs.Whole.{streams_of, bodies_in}
use Rattle.image_maker.proofs.LengthBounds.{root_small, streams_few, text_small}
use Rattle.image_maker.proofs.WrittenParts.{same_streams}
use Rattle.image_maker.proofs.maker.write_parts.Goals as goal

pub write_root-requires-clause-short : goal.write_root-requires-clause-short
write_root-requires-clause-short c =
    let all : map part_of c.deref-3.result.now ≡ streams_of c.args.source.now =
    ap (map part_of) c.deref-3.ensures.value ∙ c.in_ok-parts.ensures
    ∙ same_streams c.args.source.now c.args.written.now c.requires.ready c.deref.result.now c.deref-2.result.now
    c.deref.ensures.value (c.deref-2.ensures.value ∙ c.in_ok-tables.ensures) in
    subst (λ (ss : List Stream). length (root_bytes ss) < 2147483648) (sym all)
    (root_small c.args.source.now c.requires.within c.requires.sound)

pub write_root-requires-clause-few : goal.write_root-requires-clause-few
write_root-requires-clause-few c =
    let all : map part_of c.deref-3.result.now ≡ streams_of c.args.source.now =
    ap (map part_of) c.deref-3.ensures.value ∙ c.in_ok-parts.ensures
    ∙ same_streams c.args.source.now c.args.written.now c.requires.ready c.deref.result.now c.deref-2.result.now
    c.deref.ensures.value (c.deref-2.ensures.value ∙ c.in_ok-tables.ensures) in
    let few = streams_few c.args.source.now c.requires.within in
    omega (arith, ap length all, length-map c.deref-3.result.now part_of)

pub write_file-requires : goal.write_file-requires
write_file-requires c =
    let all : map part_of c.deref-3.result.now ≡ streams_of c.args.source.now =
    ap (map part_of) c.deref-3.ensures.value ∙ c.in_ok-parts.ensures
    ∙ same_streams c.args.source.now c.args.written.now c.requires.ready c.deref.result.now c.deref-2.result.now
    c.deref.ensures.value (c.deref-2.ensures.value ∙ c.in_ok-tables.ensures) in
    let root = c.deref-5.ensures.value ∙ c.in_ok-root.ensures ∙ ap root_bytes all in
    let bodies = c.deref-4.ensures.value ∙ c.requires.ready.bodies in
    subst (λ (bs : List ℕ). 72 + length c.deref-4.result.now + length bs < 2147483648) (sym root)
    (subst (λ (bs : List ℕ). 72 + length bs + length (root_bytes (streams_of c.args.source.now)) < 2147483648)
    (sym bodies)
    (text_small c.args.source.now c.requires.within c.requires.sound))

pub returns : goal.returns
returns c =
    let all : map part_of c.deref-3.result.now ≡ streams_of c.args.source.now =
    ap (map part_of) c.deref-3.ensures.value ∙ c.in_ok-parts.ensures
    ∙ same_streams c.args.source.now c.args.written.now c.requires.ready c.deref.result.now c.deref-2.result.now
    c.deref.ensures.value (c.deref-2.ensures.value ∙ c.in_ok-tables.ensures) in
    let root = c.deref-5.ensures.value ∙ c.in_ok-root.ensures ∙ ap root_bytes all in
    let bodies = c.deref-4.ensures.value ∙ c.requires.ready.bodies in
    subst (λ (r : List ℕ). IfOk c.write_file.result (λ file. file.items ≡ file_bytes (bodies_in c.args.source.now) r))
    root
    (subst (λ (b : List ℕ). IfOk c.write_file.result (λ file. file.items ≡ file_bytes b c.deref-5.result.now)) bodies
    c.write_file.ensures)
