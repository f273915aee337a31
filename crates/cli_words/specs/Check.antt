-- Checks that are made in order, of which the first that fails is the fault (own).
use Rattle.std.specs.Prelude.{ℕ, Bool, List, [], ◌∷◌, Option, Some, None, Result, Ok, Err, if◌then◌else◌, codes}
use Rattle.cli_words.specs.declared.check.CheckCode.{CheckCode}
use Rattle.cli_words.specs.declared.check.CheckCode.TheVariants as code
use Rattle.cli_words.specs.declared.check.FailedCheck.{FailedCheck}

-- a check: its test, and what is told where the test fails
abbrev pub check : Bool → CheckCode → ℕ → Option FailedCheck
check passes code at = if passes then None else Some (record { code = code; at = at })

-- the first of checks in order that fails
abbrev pub first_fault : List (Option FailedCheck) → Option FailedCheck
first_fault [] = None
first_fault (Some fault ∷ checks) = Some fault
first_fault (None ∷ checks) = first_fault checks

-- a value, unless a check fails
abbrev pub answer : {A : Type 0} → Option FailedCheck → A → Result A FailedCheck
answer None value = Ok value
answer (Some fault) value = Err fault

-- the name under which a check is printed
abbrev pub name_of : CheckCode → List ℕ
name_of code.Cut = codes "cut"
name_of code.NoMz = codes "no-mz"
name_of code.NoPe = codes "no-pe"
name_of code.Magic = codes "magic"
name_of code.NoCli = codes "no-cli"
name_of code.Outside = codes "outside"
name_of code.NotIlOnly = codes "not-il-only"
name_of code.RootSignature = codes "root-signature"
name_of code.Bounds = codes "bounds"
name_of code.EditStream = codes "edit-stream"
name_of code.NoTables = codes "no-tables"
name_of code.Table = codes "table"
name_of code.Index = codes "index"
name_of code.List = codes "list"
name_of code.Text = codes "text"
name_of code.NoAssembly = codes "no-assembly"
name_of code.TooLong = codes "too-long"
name_of code.Absent = codes "absent"
