use Rattle.std.proofs.Common.{rules}
use Rattle.host_events.specs.Bindings.{is_platform_name}
use Rattle.host_core.proofs.platform.is_platform_name.Goals as goal

pub returns-then-mscorlib : goal.returns-then-mscorlib
unfolding is_platform_name
returns-then-mscorlib c = search rules

pub returns-else-mscorlib : goal.returns-else-mscorlib
unfolding is_platform_name
returns-else-mscorlib c = search rules
