-- What an answer of the system comes to (own).
use Rattle.std.specs.Prelude.{◌&&◌, Bool, true, false, is_none, if◌then◌else◌}
use Rattle.std.specs.IoError.{error_kind, raw_os_error}
use Rattle.std.specs.declared.io.Error.{Error}
use Rattle.std.specs.declared.io.ErrorKind.{ErrorKind}
use Rattle.std.specs.declared.io.ErrorKind.TheVariants.{NotFound, NotADirectory}
use Rattle.std.specs.declared.io.ErrorKind.TheVariants.{OutOfMemory as OutOfMemoryKind}
use Rattle.plug_io.specs.declared.reading.Found.{Found}
use Rattle.plug_io.specs.declared.reading.Found.TheVariants.{Absent, Failed, OutOfMemory}

-- nothing stands at a path, also where it leads through what is no folder
abbrev pub is_absent : ErrorKind → Bool
is_absent NotFound = true
is_absent NotADirectory = true
is_absent _ = false

abbrev pub is_out_of_memory : ErrorKind → Bool
is_out_of_memory OutOfMemoryKind = true
is_out_of_memory _ = false

-- the allocator refused memory; an error that the system gives has a number
abbrev pub lacks_memory : Error → Bool
lacks_memory error = is_out_of_memory (error_kind error) && is_none (raw_os_error error)

-- what a failed read comes to
abbrev pub unread : Error → Found
unread error = if lacks_memory error then OutOfMemory else Failed

-- what a failed opening comes to
abbrev pub unopened : Error → Found
unopened error = if is_absent (error_kind error) then Absent else unread error
