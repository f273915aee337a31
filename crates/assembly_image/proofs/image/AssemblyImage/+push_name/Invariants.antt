use Rattle.assembly_image.proofs.image.AssemblyImage.+push_name.Given as goal

abbrev pub decreases-push_name : goal.decreases-push_name
decreases-push_name l = l.most
