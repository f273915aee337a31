use Rattle.std.proofs.Common.{refl, subst, ◌+◌}
use Rattle.il_reader.specs.Sections.{HasClauses}
use Rattle.il_reader.proofs.Heads.{stands, none_stands, one_body, body_of}
use Rattle.il_reader.proofs.body.read_body.Goals as goal

pub returns-in-Ok-Some-clause-body : goal.returns-in-Ok-Some-clause-body
returns-in-Ok-Some-clause-body c =
    let bytes = c.args.bytes.now in
    let head = c.in-Some.head in
    let sections =
    subst (HasClauses bytes head.has_sections (head.code.at + head.code.len))
    c.in-Ok-Some.field-0-is c.in-Ok-Some.ensures in
    stands bytes c.args.at head c.in-Ok-Some.clauses c.in-Some.ensures.found sections

pub returns-in-Ok-None-clause-fault : goal.returns-in-Ok-None-clause-fault
returns-in-Ok-None-clause-fault c =
    let bytes = c.args.bytes.now in
    let head = c.in-Some.head in
    let none =
    subst (HasClauses bytes head.has_sections (head.code.at + head.code.len))
    c.in-Ok-None.field-0-is c.in-Ok-None.ensures in
    (refl, none_stands bytes c.args.at head c.in-Some.ensures.found none)

pub returns-in-Ok-Some-clause-only : goal.returns-in-Ok-Some-clause-only
returns-in-Ok-Some-clause-only c other is =
    let bytes = c.args.bytes.now in
    let head = c.in-Some.head in
    let sections =
    subst (HasClauses bytes head.has_sections (head.code.at + head.code.len))
    c.in-Ok-Some.field-0-is c.in-Ok-Some.ensures in
    one_body bytes c.args.at other (body_of head c.in-Ok-Some.clauses) is
    (stands bytes c.args.at head c.in-Ok-Some.clauses c.in-Some.ensures.found sections)
