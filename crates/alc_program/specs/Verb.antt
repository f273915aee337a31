-- What the program found the words to ask for (own).
use Rattle.alc_program.specs.declared.words.Verb.{Verb}
use Rattle.alc_program.specs.declared.words.Verb.TheVariants.{Steps, Inspect}
use Rattle.alc_program.specs.Words.{Request}
use Rattle.alc_program.specs.Words.Request.{steps, inspect}

-- the request that a verb with its words stands for
abbrev pub request_of : Verb → Request
request_of (Steps file schedule) = steps file.now schedule.now
request_of (Inspect file) = inspect file.now
