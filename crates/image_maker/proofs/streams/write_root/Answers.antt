use Rattle.std.proofs.Common.{◌+◌, map, arith}
use Rattle.std.proofs.lemmas.List.{length-map}
use Rattle.image_maker.specs.Headers.{part_of}
use Rattle.image_maker.proofs.LengthFile.{root_length}
use Rattle.image_maker.proofs.RootPlacesSteps.{front_put, root_put}
use Rattle.image_maker.proofs.streams.write_root.Goals as goal

pub headers_len_of-requires : goal.headers_len_of-requires
headers_len_of-requires c = omega (arith, root_length (map part_of c.args.parts.now))

pub overflow_add-headers_len_of : goal.overflow_add-headers_len_of
overflow_add-headers_len_of c = omega (arith, root_length (map part_of c.args.parts.now))

pub put_headers-requires-clause-names : goal.put_headers-requires-clause-names
put_headers-requires-clause-names c = omega (arith, root_length (map part_of c.args.parts.now))

pub put_headers-requires-clause-places : goal.put_headers-requires-clause-places
put_headers-requires-clause-places c = omega (arith, root_length (map part_of c.args.parts.now))

pub returns : goal.returns
returns c =
    root_put (map part_of c.args.parts.now) c.extend_from_slice-2.new.self.items c.put_headers.new.out.items
    c.put_streams.new.out.items (32 + c.headers_len_of.result)
    (front_put c.new-root.result.items c.extend_from_slice.new.self.items c.extend_from_slice-2.new.self.items
    c.to_le_bytes.result _ _ c.new-root.ensures.items
    c.in_ok-extend_from_slice.ensures.items c.to_le_bytes.ensures c.in_ok-extend_from_slice-2.ensures.items
    (omega (arith, length-map c.args.parts.now part_of)))
    (omega arith) c.in_ok-put_headers.ensures c.in_ok-put_streams.ensures
