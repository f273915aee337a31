-- The names under which causes are printed (own).
use Rattle.std.specs.Prelude.{ℕ, List, codes}
use Rattle.host_script.specs.declared.cause.LineCause.{LineCause}
use Rattle.host_script.specs.declared.cause.LineCause.TheVariants as cause

abbrev pub cause_name : LineCause → List ℕ
cause_name cause.NotUtf8 = codes "NotUtf8"
cause_name cause.BadText = codes "BadText"
cause_name cause.UnknownWord = codes "UnknownWord"
cause_name cause.Place = codes "Place"
cause_name cause.Arity = codes "Arity"
cause_name cause.BadName = codes "BadName"
cause_name cause.BadNumber = codes "BadNumber"
cause_name cause.NoImage = codes "NoImage"
cause_name cause.Twice = codes "Twice"
cause_name cause.TooMany = codes "TooMany"
cause_name cause.NoThread = codes "NoThread"
cause_name cause.Absent = codes "Absent"
cause_name cause.TooLong = codes "TooLong"
cause_name cause.NotBuilt = codes "NotBuilt"
