-- What an SPMD text is unrolled to, from its bytes: the text of a program and its map, or what is
-- wrong.
use Rattle.std.specs.Prelude.{codes, ◌≡◌, ◌⊎◌, ℕ, Bool, true, false, List, ◌++◌, Option, Some, None, Ok, Err}
use Rattle.plaintext.specs.Plain.{numeral}
use Rattle.spmd_text.specs.declared.reading.SpmdText.{SpmdText}
use Rattle.spmd_text.specs.declared.fault.ParseFault.{ParseFault}
use Rattle.spmd_text.specs.declared.fault.ParseReason.TheVariants as why
use Rattle.spmd_text.specs.declared.fault.TextFault.{TextFault}
use Rattle.spmd_text.specs.declared.fault.TextFault.TheVariants as reading
use Rattle.spmd_text.specs.Faults.{reason_words}
use Rattle.spmd_text.specs.Texts.{HasTextFault, IsSpmdText}
use Rattle.unroll.specs.declared.value.Value.{Value}
use Rattle.unroll.specs.declared.call.Fault.{Fault}
use Rattle.unroll.specs.Runs.{TextRun, Outcome, Done, Failed}
use Rattle.unroll.specs.Statements.{text_run}
use Rattle.spmd_program.specs.declared.settings.SettingFault.{SettingFault}
use Rattle.spmd_program.specs.declared.settings.SettingFault.TheVariants as setting
use Rattle.spmd_program.specs.declared.unrolling.NotUnrolled.{NotUnrolled}
use Rattle.spmd_program.specs.declared.unrolling.NotUnrolled.TheVariants.{Memory, Refused}
use Rattle.spmd_program.specs.Maps.{program_map}
use Rattle.spmd_program.specs.Programs.{IsProgramText}
use Rattle.spmd_program.specs.Requests.{AreOrdered, AreUnordered}
use Rattle.spmd_program.specs.Settings.{Unset, values_of_settings}
use Rattle.spmd_program.specs.Told.{fault_text}

-- ---- the meaning

-- The bytes are this text; with these settings and for so many ranks, where collective calls are
-- barriers or not, it has this outcome: the calls of each rank, or the first fault. Calls are as
-- many as memory holds, turns of loops 10,000,000.
pub record MeansOutcome (bytes : List ℕ) (ranks : ℕ) (settings : List (List ℕ)) (barriers : Bool) (text : SpmdText) (outcome : Outcome) : Type 0 where
  pub values : List (Option Value)
  pub is_text : IsSpmdText text bytes
  pub set : values_of_settings text settings ≡ Ok values
  pub run : text_run text.program values ranks barriers 18446744073709551615 10000000 ≡ outcome

-- Some bytes mean one thing: whatever text is read from them, the outcome is the same.
abbrev pub OutcomesAreOne : Type 0
OutcomesAreOne =
    (bytes : List ℕ) (ranks : ℕ) (settings : List (List ℕ)) (barriers : Bool) (t u : SpmdText) (one other : Outcome)
    → MeansOutcome bytes ranks settings barriers t one → MeansOutcome bytes ranks settings barriers u other → one ≡ other

-- the map, where it is wanted
abbrev pub IsMapWanted : Bool → List ℕ → Option (List ℕ) → Type 0
IsMapWanted true wanted made = made ≡ Some wanted
IsMapWanted false wanted made = made ≡ None

-- this outcome of a text is done, requests and handles of its calls are right, and these are the
-- text of its program and its map
pub record IsUnrollingOf (outcome : Outcome) (path bytes : List ℕ) (ranks : ℕ) (text : SpmdText) (mapped : Bool) (program : List ℕ) (map : Option (List ℕ)) : Type 0 where
  pub run : TextRun
  pub done : outcome ≡ Done run
  pub is_program : IsProgramText text.policy text.names.items ranks run.calls program
  pub ordered : AreOrdered text.policy text.names.items ranks run.calls
  pub is_map : IsMapWanted mapped (program_map path text.names.items bytes run.turns run.calls program) map

-- these are the text of the program of the meaning, and its map
pub record IsUnrolling (path bytes : List ℕ) (ranks : ℕ) (settings : List (List ℕ)) (barriers mapped : Bool) (program : List ℕ) (map : Option (List ℕ)) : Type 0 where
  pub text : SpmdText
  pub outcome : Outcome
  pub means : MeansOutcome bytes ranks settings barriers text outcome
  pub made : IsUnrollingOf outcome path bytes ranks text mapped program map

-- ---- what is told

-- the text at a path is told by its line and what is wrong there
abbrev pub told_at : List ℕ → ParseFault → List ℕ
told_at path fault = path ++ (codes ":" ++ (numeral fault.line ++ (codes ": " ++ reason_words fault.reason)))

-- what is told of bytes that are no text
abbrev pub IsToldUnread : List ℕ → TextFault → List ℕ → Type 0
IsToldUnread path reading.Memory told = ⊥
IsToldUnread path reading.TooLarge told = told ≡ told_at path (record { line = 1; reason = why.TextTooLarge })
IsToldUnread path (reading.Pieces fault) told = told ≡ told_at path fault
IsToldUnread path (reading.Grammar fault) told = told ≡ told_at path fault

abbrev pub setting_words : SettingFault → List ℕ
setting_words setting.NoEquals = codes "it is not written NAME=VALUE"
setting_words setting.NoNumber = codes "the value is no number"
setting_words setting.NoParameter = codes "the text has no such parameter"
setting_words setting.Twice = codes "the parameter is set twice"

-- what is told of a setting that is wrong
abbrev pub setting_text : List ℕ → Unset → List ℕ
setting_text path bad = path ++ (codes ", --set " ++ (bad.word ++ (codes ": " ++ setting_words bad.why)))

-- out of memory nothing is said; else this is told
abbrev pub TellsRefusal : (List ℕ → Type 0) → NotUnrolled → Type 0
TellsRefusal IsTold Memory = Unit {0}
TellsRefusal IsTold (Refused told) = IsTold told.items

-- a setting of the text is wrong
pub record IsMissetOf (path : List ℕ) (settings : List (List ℕ)) (text : SpmdText) (told : List ℕ) : Type 0 where
  pub bad : Unset
  pub set : values_of_settings text settings ≡ Err bad
  pub words : told ≡ setting_text path bad

-- this outcome of a text has a fault
pub record IsFaultyOf (outcome : Outcome) (path : List ℕ) (ranks : ℕ) (text : SpmdText) (told : List ℕ) : Type 0 where
  pub fault : Fault
  pub run : TextRun
  pub failed : outcome ≡ Failed fault run
  pub words : told ≡ fault_text path text.names.items ranks run.turns fault

-- this outcome of a text is done, and a request or handle of its calls is wrong
pub record IsUnorderedOf (outcome : Outcome) (path : List ℕ) (ranks : ℕ) (text : SpmdText) (told : List ℕ) : Type 0 where
  pub run : TextRun
  pub done : outcome ≡ Done run
  pub unordered : AreUnordered path text.policy text.names.items ranks run.turns run.calls told

-- what is told of an outcome of a text that no program's text is printed for
abbrev pub IsWrongOf : Outcome → List ℕ → ℕ → SpmdText → List ℕ → Type 0
IsWrongOf outcome path ranks text told = IsFaultyOf outcome path ranks text told ⊎ IsUnorderedOf outcome path ranks text told

-- What is told is a fault of the bytes, which are no text; or the first setting that is wrong; or
-- the fault of the meaning; or, where that has none, the first request or handle that is wrong.
abbrev pub IsRefusal : List ℕ → List ℕ → ℕ → List (List ℕ) → Bool → List ℕ → Type 0
IsRefusal path bytes ranks settings barriers told =
    ((fault : TextFault) × HasTextFault bytes fault × IsToldUnread path fault told)
    ⊎ (((text : SpmdText) × IsSpmdText text bytes × IsMissetOf path settings text told)
    ⊎ ((text : SpmdText) × (outcome : Outcome) × MeansOutcome bytes ranks settings barriers text outcome × IsWrongOf outcome path ranks text told))
