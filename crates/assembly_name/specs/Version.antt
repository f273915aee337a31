-- Versions of assemblies, and which are good enough (own).
use Rattle.std.specs.Prelude.{Bool, ◌&&◌, ◌||◌, ◌==◌, nat_lt, nat_le}
use Rattle.assembly_name.specs.declared.version.Version.{Version}

-- the found version is the wanted one or a later one: the four parts are compared from the left
abbrev pub is_at_least : Version → Version → Bool
is_at_least found wanted =
    nat_lt wanted.major found.major || (found.major == wanted.major
    && (nat_lt wanted.minor found.minor || (found.minor == wanted.minor
    && (nat_lt wanted.build found.build || (found.build == wanted.build
    && nat_le wanted.revision found.revision)))))
