use Rattle.std.proofs.Common.{◌∙◌, List, Option, sym, ap, subst}
use Rattle.std.specs.List.{filter_map}
use Rattle.std.proofs.lemmas.List.{length-map}
use Rattle.assembly_name.specs.declared.version.Version.{Version}
use Rattle.bind_flow.specs.Images.{version_read, versions_of}
use Rattle.host_events.specs.Files.{IsNumbered}
use Rattle.alc_program.specs.Images.{app_file}
use Rattle.alc_program.proofs.FilesLemmas.{are_numbered}
use Rattle.alc_program.proofs.files.files_of.Goals as goal

pub of-requires : goal.of-requires
of-requires c =
    let script = c.args.script.now in
    let images = c.args.images.now in
    let files = c.in_ok-files.ensures ∙ ap (filter_map (app_file script.images)) c.items.ensures in
    subst (λ fs. IsNumbered fs c.in_ok-versions.versions.items) (sym files)
    (subst (λ (vs : List (Option Version)). IsNumbered (filter_map (app_file script.images) script.app) vs) (sym c.in_ok-versions.ensures)
    (are_numbered script.images script.app (versions_of images) c.requires.few (length-map images version_read ∙ c.requires.count)))
