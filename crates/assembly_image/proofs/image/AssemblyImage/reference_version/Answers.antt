use Rattle.assembly_image.proofs.VersionLemmas.{reference_words}
use Rattle.assembly_image.proofs.image.AssemblyImage.reference_version.Goals as goal

pub word-major-requires : goal.word-major-requires
word-major-requires c = reference_words.0

pub word-minor-requires : goal.word-minor-requires
word-minor-requires c = reference_words.1

pub word-build-requires : goal.word-build-requires
word-build-requires c = reference_words.2

pub word-revision-requires : goal.word-revision-requires
word-revision-requires c = reference_words.3
