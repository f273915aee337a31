use Rattle.std.proofs.Common.{◌∙◌}
use Rattle.assembly_image.proofs.VersionLemmas.{one_assembly, version_held}
use Rattle.assembly_image.proofs.reading.read_rest.Goals as goal

pub read_version-version-requires-clause-one : goal.read_version-version-requires-clause-one
read_version-version-requires-clause-one c =
    one_assembly c.args.bytes.now c.args.parts.now.root c.args.parts.now.tables c.requires.content

pub returns : goal.returns
returns c = record {
  named = c.in_ok-name.ensures;
  versioned = c.read_version-version.ensures
      ∙ version_held c.args.bytes.now c.args.parts.now.pe c.args.parts.now.root c.args.parts.now.tables c.requires;
  enclosed = c.in_ok-enclosers.ensures;
  by_interface = c.in_ok-interface_impls.ensures;
  by_implementation = c.in_ok-method_impls.ensures;
  by_parameter = c.in_ok-type_params.ensures;
}
