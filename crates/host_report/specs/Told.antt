-- What one line of a report tells (own).
use Rattle.std.specs.Prelude.{◌^◌, ◌<◌, List}
use Rattle.cli_words.specs.Text.{AreUnits}
use Rattle.host_report.specs.declared.told.Told.{Told}
use Rattle.host_report.specs.declared.told.Told.TheVariants as lines
use Rattle.host_report.specs.Fields.{Field}
use Rattle.host_report.specs.Printable.{IsPrintableEntry, IsPrintableOutcome}
use Rattle.host_report.specs.Report.{thread_fields, print_fields, journal_fields, entry_fields, end_fields}
use Rattle.host_report.specs.Table.{outcome_fields}

abbrev pub told_fields : Told → List Field
told_fields (lines.Thread thread) = thread_fields thread
told_fields (lines.Print units) = print_fields units
told_fields (lines.Outcome outcome) = outcome_fields outcome
told_fields (lines.Journal count) = journal_fields count
told_fields (lines.Entry number entry) = entry_fields number entry
told_fields lines.End = end_fields

-- a line that some report has
abbrev pub IsPrintableTold : Told → Type 0
IsPrintableTold (lines.Thread thread) = thread < 2 ^ 32
IsPrintableTold (lines.Print units) = AreUnits units
IsPrintableTold (lines.Outcome outcome) = IsPrintableOutcome outcome
IsPrintableTold (lines.Journal count) = count < 2 ^ 32
IsPrintableTold (lines.Entry number entry) = (number < 2 ^ 32) × IsPrintableEntry entry
IsPrintableTold lines.End = Unit {0}
