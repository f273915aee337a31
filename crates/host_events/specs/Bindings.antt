-- What a name is bound to in a context, and which versions serve (own). Names are compared without regard
-- to ASCII case.
use Rattle.std.specs.Prelude.{ℕ, Bool, false, ◌&&◌, ◌==◌, List, [], ◌∷◌, codes, Option, Some, None, zero, suc, if◌then◌else◌}
use Rattle.std.specs.List.{filter_map, list_any, slice_get}
use Rattle.std.specs.Option.{option_and_then, option_map_or}
use Rattle.cli_words.specs.Text.{are_alike}
use Rattle.assembly_name.specs.declared.version.Version.{Version}
use Rattle.assembly_name.specs.Version.{is_at_least}
use Rattle.host_events.specs.declared.event.Event.{Event}
use Rattle.host_events.specs.declared.event.Event.TheVariants as events
use Rattle.host_events.specs.declared.journal.Entry.{Entry}
use Rattle.host_events.specs.declared.reply.Reply.{Reply}
use Rattle.host_events.specs.declared.reply.Reply.TheVariants as replies
use Rattle.host_events.specs.Assemblies.{assembly_of}
use Rattle.host_events.specs.Files.{Files, version_of}

-- the names of the platform's one assembly
abbrev pub platform_names : List (List ℕ)
platform_names =
    codes "System.Runtime" ∷ codes "System.Console" ∷ codes "System.Private.CoreLib" ∷ codes "mscorlib" ∷ codes "netstandard" ∷ []

unfoldable pub is_platform_name : List ℕ → Bool
is_platform_name name = list_any (are_alike name) platform_names

-- the platform's version serves whatever version is wanted
abbrev pub platform_version : Version
platform_version = record { major = 65535; minor = 65535; build = 65535; revision = 65535 }

-- the assembly that a reply says is bound to a name now
abbrev pub assembly_published : Reply → Option ℕ
assembly_published (replies.Exists c) = None
assembly_published (replies.Made c) = None
assembly_published replies.NoContext = None
assembly_published (replies.Unloading c) = None
assembly_published (replies.Set c) = None
assembly_published (replies.Entered k c) = None
assembly_published replies.NoHandle = None
assembly_published (replies.EnteredAt k c a m) = None
assembly_published replies.Miss = None
assembly_published (replies.Hit a) = None
assembly_published (replies.Low a) = None
assembly_published (replies.Image i) = None
assembly_published (replies.Foreign a) = None
assembly_published replies.Nothing = None
assembly_published (replies.Lost a) = None
assembly_published (replies.NotCollectible a) = None
assembly_published (replies.Shared a) = Some a
assembly_published (replies.Bound a) = Some a
assembly_published (replies.Placed c) = None
assembly_published (replies.Value value) = None
assembly_published replies.Stored = None
assembly_published replies.InUse = None
assembly_published (replies.Held c) = None
assembly_published replies.Dropped = None
assembly_published (replies.Weakly c) = None
assembly_published (replies.Alive c) = None
assembly_published (replies.Gone c) = None
assembly_published (replies.Fixed c) = None
assembly_published (replies.Already c) = None
assembly_published (replies.Freed contexts) = None
assembly_published replies.Left = None

-- a test of whether the event publishes something in this context under this name
abbrev pub publishes : ℕ → List ℕ → Event → Bool
publishes c n (events.New name kind) = false
publishes c n (events.Rule place name answer) = false
publishes c n (events.Enter name) = false
publishes c n (events.EnterHandle handle) = false
publishes c n (events.Lookup context name version) = false
publishes c n (events.Ask step context name) = false
publishes c n (events.Publish context name candidate) = context == c && are_alike name n
publishes c n (events.Place user key) = false
publishes c n (events.LoadStatic key field kind) = false
publishes c n (events.StoreStatic key field value) = false
publishes c n (events.Hold handle assembly method) = false
publishes c n (events.DropHandle handle) = false
publishes c n (events.Weak handle name) = false
publishes c n (events.Alive handle) = false
publishes c n (events.Unload name) = false
publishes c n events.Collect = false
publishes c n (events.Leave operation) = false

-- the assembly that an event with its reply bound to the name n in context c
abbrev pub binds_by : ℕ → List ℕ → Event → Reply → Option ℕ
binds_by c n event reply = if publishes c n event then assembly_published reply else None

-- What a name is bound to in a context: a platform name to the platform, another one to the assembly that
-- was published first.
abbrev pub binding : List Entry → ℕ → List ℕ → Option ℕ
binding journal c n =
    if is_platform_name n then Some 0
    else slice_get (filter_map (λ entry. binds_by c n entry.event entry.reply) journal) 0

-- the version of an assembly: that of its image
abbrev pub version_of_assembly : Files → List Entry → ℕ → Option Version
version_of_assembly files journal zero = Some platform_version
version_of_assembly files journal (suc a) =
    option_and_then (λ code. version_of files code.image) (assembly_of journal (suc a))

-- a test of whether there is a version, and it is the wanted one or a later one
abbrev pub serves : Version → Option Version → Bool
serves wanted found = option_map_or (λ version. is_at_least version wanted) found false

-- a test of whether the version of an assembly is the wanted one or a later one
abbrev pub is_good : Files → List Entry → ℕ → Version → Bool
is_good files journal a wanted = serves wanted (version_of_assembly files journal a)
