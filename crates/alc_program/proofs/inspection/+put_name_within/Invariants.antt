use Rattle.alc_program.proofs.inspection.+put_name_within.Given as goal

abbrev pub decreases-put_name_within : goal.decreases-put_name_within
decreases-put_name_within g l = l.most
