use Rattle.assembly_image.proofs.MemberLemmas.{field_flags_word}
use Rattle.assembly_image.proofs.image.AssemblyImage.field_flags.Goals as goal

pub word-requires : goal.word-requires
word-requires c = field_flags_word
