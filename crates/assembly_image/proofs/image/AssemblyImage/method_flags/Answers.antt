use Rattle.assembly_image.proofs.MemberLemmas.{method_def_flags_word}
use Rattle.assembly_image.proofs.image.AssemblyImage.method_flags.Goals as goal

pub word-requires : goal.word-requires
word-requires c = method_def_flags_word
