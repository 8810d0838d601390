-- What inner functions promise one another, beside `specs/Tokens.antt`.
use Rattle.std.specs.Prelude.{◌≡◌, ℕ, ℤ, map, Result, Ok, Err}
use Rattle.spmd_text.specs.declared.fault.ParseFault.{ParseFault}
use Rattle.spmd_text.specs.declared.fault.ParseReason.{ParseReason}
use Rattle.spmd_text.specs.declared.fault.TextFault.{TextFault}
use Rattle.spmd_text.specs.declared.fault.TextFault.TheVariants as fault
use Rattle.spmd_text.specs.declared.fault.ParseReason.TheVariants as reason
use Rattle.spmd_text.specs.declared.piece.Pieces.{Pieces}
use Rattle.spmd_text.specs.declared.lexer.Lexer.{Lexer}
use Rattle.spmd_text.specs.declared.lexer.Halt.{Halt}
use Rattle.spmd_text.specs.declared.lexer.Halt.TheVariants.{Memory, Wrong}
use Rattle.spmd_text.specs.Tokens.{Cutting, Step}

abbrev pub seen : Lexer → Cutting
seen l = record { tokens = l.tokens.items; names = map (λ n. n.items) l.names.items; word = l.word.items; sign = l.sign; line = l.line; comment = l.comment; brackets = l.brackets; goes_on = l.goes_on }

abbrev pub Halts : {A : Type 0} → Halt → Result A ParseReason → Type 0
Halts Memory step = Unit {0}
Halts (Wrong why) step = step ≡ Err why

abbrev pub Steps : {A : Type 0} → Result A Halt → Step → Cutting → Type 0
Steps (Ok x) step new = step ≡ Ok new
Steps (Err h) step new = Halts {A = Cutting} h step

abbrev pub GivesNumber : Result ℤ Halt → Result ℤ ParseReason → Type 0
GivesNumber (Ok x) wanted = wanted ≡ Ok x
GivesNumber (Err h) wanted = Halts {A = ℤ} h wanted

abbrev pub GivesPlace : Result ℕ Halt → Result ℕ ParseReason → Type 0
GivesPlace (Ok x) wanted = wanted ≡ Ok x
GivesPlace (Err h) wanted = Halts {A = ℕ} h wanted

abbrev pub fault_of_halt : Halt → ℕ → TextFault
fault_of_halt Memory line = fault.Memory
fault_of_halt (Wrong why) line = fault.Pieces (record { line = line; reason = why })

-- the tokens and names are these
pub record ArePieces (pieces : Pieces) (wanted : Result Cutting ParseFault) : Type 0 where
  pub state : Cutting
  pub done : wanted ≡ Ok state
  pub tokens : pieces.tokens.items ≡ state.tokens
  pub names : map (λ n. n.items) pieces.names.items ≡ state.names

-- where memory lasts, a fault is the first one; no other fault is told
abbrev pub IsFirstPieceFault : TextFault → Result Cutting ParseFault → Type 0
IsFirstPieceFault fault.Memory wanted = Unit {0}
IsFirstPieceFault fault.TooLarge wanted = ⊥
IsFirstPieceFault (fault.Pieces f) wanted = wanted ≡ Err f
IsFirstPieceFault (fault.Grammar f) wanted = ⊥

abbrev pub GivesPieces : Result Pieces TextFault → Result Cutting ParseFault → Type 0
GivesPieces (Ok pieces) wanted = ArePieces pieces wanted
GivesPieces (Err why) wanted = IsFirstPieceFault why wanted
