use Rattle.assembly_image.specs.Members.{member_range}
use Rattle.assembly_image.specs.Reading.{module_of}
use Rattle.assembly_image.proofs.FindLemmas.{NoneBetween}
use Rattle.assembly_image.proofs.MemberLemmas.{is_member_sought}
use Rattle.assembly_image.proofs.image.AssemblyImage.find_member.Given as goal

abbrev pub invariant-loop-n : goal.invariant-loop-n
invariant-loop-n l = NoneBetween (is_member_sought (module_of l.self) l.kind l.from l.name) (member_range (module_of l.self) l.kind l.row).start l.n
