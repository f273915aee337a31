-- Each word with which a line can begin is read where it is spelled.
use Rattle.std.proofs.Common.{refl}
use Rattle.host_script.specs.Laws.{EachFirstWordIsRead}
use Rattle.host_script.specs.declared.first_word.FirstWord.TheVariants as first
use Rattle.host_script.specs.declared.first_word.CommandWord.TheVariants.{On, Resolving, Resolve, Load, Bind, Call, Hold, Invoke, DropHandle, Weak, Alive, New, Unload, Collect}

pub each_is_read : EachFirstWordIsRead
each_is_read first.Image = refl
each_is_read first.App = refl
each_is_read first.Thread = refl
each_is_read (first.Command On) = refl
each_is_read (first.Command Resolving) = refl
each_is_read (first.Command Resolve) = refl
each_is_read (first.Command Load) = refl
each_is_read (first.Command Bind) = refl
each_is_read (first.Command Call) = refl
each_is_read (first.Command Hold) = refl
each_is_read (first.Command Invoke) = refl
each_is_read (first.Command DropHandle) = refl
each_is_read (first.Command Weak) = refl
each_is_read (first.Command Alive) = refl
each_is_read (first.Command New) = refl
each_is_read (first.Command Unload) = refl
each_is_read (first.Command Collect) = refl
