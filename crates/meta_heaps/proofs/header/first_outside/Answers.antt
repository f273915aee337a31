use Rattle.std.proofs.Common.{ℕ, ◌+◌, ◌-◌, Bool, not, sym, ap, ◌∙◌}
use Rattle.std.specs.List.{find}
use Rattle.meta_heaps.specs.Streams.{headers_from, fits}
use Rattle.meta_heaps.specs.Headers.{header_of}
use Rattle.meta_heaps.proofs.Walk.{find_here, find_past, absent, present}
use Rattle.meta_heaps.proofs.header.first_outside.Goals as goal

pub returns-in-None-clause-found : goal.returns-in-None-clause-found
returns-in-None-clause-found c =
    let m = c.args.metadata.now in
    let at = c.loop.at in
    let outside = ap not (absent (fits m at) (header_of m at) c.in-None.ensures.found) in
    let here =
    find_here (λ at. not (fits m at)) m at c.stream_count-end.result c.loop.counter
    c.loop-test.true outside in
    sym (c.loop.invariant.1 ∙ here)

pub loop-preserved : goal.loop-preserved
loop-preserved c =
    let m = c.args.metadata.now in
    let at = c.loop.at in
    let p : ℕ → Bool = λ at. not (fits m at) in
    let left : ℕ = c.stream_count-end.result - (c.loop.counter + 1) in
    let found = present (fits m at) (header_of m at) c.in-Some.header c.in-Some.ensures.found in
    let past =
    find_past p m at c.stream_count-end.result c.loop.counter c.loop-test.true
    (ap not found.0) in (
      c.in-Some.ensures.within.has_header,
      c.loop.invariant.1 ∙ past ∙ sym (ap (λ h. find p (headers_from m h.end left)) found.1),
    )
