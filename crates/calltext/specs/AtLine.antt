-- A line's fault, told with the line's number.
use Rattle.std.specs.Prelude.{ℕ}
use Rattle.calltext.specs.declared.line.CallLineFault.{CallLineFault}
use Rattle.calltext.specs.declared.line.CallLineFault.TheVariants as wrong
use Rattle.calltext.specs.declared.fault.ReadFault.{ReadFault}
use Rattle.calltext.specs.declared.fault.ReadFault.TheVariants as faults

-- The fault of a text whose line of this number has that fault.
abbrev pub at_line : CallLineFault → ℕ → ReadFault
at_line wrong.Memory line = faults.Memory
at_line wrong.NotAscii line = faults.NotAscii line
at_line wrong.Syntax line = faults.Syntax line
at_line (wrong.OutOfProfile place) line = faults.OutOfProfile line place
at_line wrong.Range line = faults.Range line
