use Rattle.std.proofs.Common.{◌≡◌, List, ℕ, sym, subst, rules}
use Rattle.std.specs.Arc.{arc_value}
use Rattle.assembly_image.specs.Names.{assembly_version}
use Rattle.assembly_image.specs.Reading.{module_of}
use Rattle.host_script.specs.Worded.{IsWordedVersion}
use Rattle.alc_program.proofs.images.shared_image.Goals as goal

pub returns-clause-version : goal.returns-clause-version
returns-clause-version c =
    let told = subst IsWordedVersion c.version.ensures c.tell_words.ensures in
    let same : arc_value c.in_ok-image.image ≡ c.args.image = search rules in
    subst (λ (bytes : List ℕ). IsWordedVersion (assembly_version (module_of bytes))) (sym same) told
