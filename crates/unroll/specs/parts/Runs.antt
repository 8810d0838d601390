-- What inner functions promise one another, beside `specs/Runs.antt`.
use Rattle.std.specs.Prelude.{◌≡◌, ℕ, Result, Ok, Err}
use Rattle.unroll.specs.declared.value.FaultReason.{FaultReason}
use Rattle.unroll.specs.declared.machine.Scope.{Scope}
use Rattle.unroll.specs.declared.machine.Machine.{Machine}
use Rattle.unroll.specs.declared.machine.Stop.{Stop}
use Rattle.unroll.specs.declared.machine.Stop.TheVariants.{Memory, Faulty}
use Rattle.unroll.specs.Runs.{Done, Failed, Outcome, TextRun, fault_on_line}

abbrev pub seen_run : Machine → TextRun
seen_run m = record { values = m.values.items; left_out = m.left_out.items; opened = m.opened.entries; meetings = m.meetings.keys; attended = m.attended.items; calls = m.calls.items; turns = m.turns.items; turn = m.turn }

abbrev pub faulty : Scope → ℕ → FaultReason → TextRun → Stop
faulty scope line why run = Faulty (fault_on_line scope line why run)

-- stopping so, with this run left, is this outcome; out of memory nothing is said
abbrev pub Stops : Stop → Outcome → TextRun → Type 0
Stops Memory outcome run = Unit {0}
Stops (Faulty fault) outcome run = outcome ≡ Failed fault run

-- what was answered, and the run that is left, are this outcome
abbrev pub HasOutcome : {A : Type 0} → Result A Stop → Outcome → TextRun → Type 0
HasOutcome (Ok x) outcome run = outcome ≡ Done run
HasOutcome (Err stop) outcome run = Stops stop outcome run
