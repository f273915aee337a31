use Rattle.std.proofs.Common.{arith}
use Rattle.std.specs.Io.Take.{take_inner, take_limit}
use Rattle.plug_io.proofs.Front.{known_whole}
use Rattle.plug_io.proofs.devices.read_front.Goals as goal

pub returns-in-Ok-2-clause-found : goal.returns-in-Ok-2-clause-found
returns-in-Ok-2-clause-found g c =
    let bytes = c.read_to_end.new.buf in
    known_whole (g.F.Read.remaining (take_inner c.args.front)) (take_limit c.args.front)
    c.args.limit c.new-bytes.result.items bytes.items c.requires c.new-bytes.ensures.items
    (omega (arith, bytes.ok, bytes.small))
    (omega (arith, bytes.ok, c.len.ensures, c.if-len-limit.false)) c.in-Ok-2.ensures.bytes
