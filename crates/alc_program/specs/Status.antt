-- What a status comes to on the command line (own).
use Rattle.std.specs.Prelude.{ℕ, List, [], ◌++◌, codes, decimal}
use Rattle.std.specs.declared.io.ErrorKind.{ErrorKind}
use Rattle.std.specs.declared.io.ErrorKind.TheVariants as kind
use Rattle.host_script.specs.Cause.{cause_name}
use Rattle.alc_program.specs.declared.status.Status.{Status}
use Rattle.alc_program.specs.declared.status.Status.TheVariants.{Done, Usage, Script, ReadFault, WriteFault, OutOfMemory}

-- what an error of the system in place of the words comes to: words that are no text ask for nothing
abbrev pub unread_status : ErrorKind → Status
unread_status kind.OutOfMemory = OutOfMemory
unread_status _ = Usage

-- the exit status of the program
abbrev pub exit_status : Status → ℕ
exit_status Done = 0
exit_status Usage = 1
exit_status (Script line cause) = 2
exit_status ReadFault = 3
exit_status WriteFault = 4
exit_status OutOfMemory = 5

-- the line on standard error, without its line feed: there is none where all is done
abbrev pub status_line : Status → List ℕ
status_line Done = []
status_line Usage = codes "usage: alc steps F N | inspect F"
status_line (Script line cause) = codes "script: line " ++ decimal line ++ codes ": " ++ cause_name cause
status_line ReadFault = codes "read fault"
status_line WriteFault = codes "write fault"
status_line OutOfMemory = codes "out of memory"
