-- What a text says.
use Rattle.std.specs.Prelude.{◌≡◌, ◌⊎◌, ℕ, ◌<◌, ◌≤◌, Bool, true, false, List, [], length, map, Some, Ok, Err, if◌then◌else◌}
use Rattle.spmd_tree.specs.Plain.{Place, plain}
use Rattle.spmd_text.specs.declared.reading.SpmdText.{SpmdText}
use Rattle.spmd_text.specs.declared.fault.ParseFault.{ParseFault}
use Rattle.spmd_text.specs.declared.fault.ParseReason.{ParseReason}
use Rattle.spmd_text.specs.declared.fault.ParseReason.TheVariants as reason
use Rattle.spmd_text.specs.declared.fault.TextFault.{TextFault}
use Rattle.spmd_text.specs.declared.fault.TextFault.TheVariants.{Memory, TooLarge, Pieces, Grammar}
use Rattle.std.specs.Global.{Vec}
use Rattle.spmd_text.specs.Tokens.{Cutting, pieces_of}
use Rattle.spmd_text.specs.FirstFaults.{IsFirstWrongLine}
use Rattle.spmd_text.specs.Spelling.{after_text}
use Rattle.spmd_text.specs.Labels.{all_fit}
use Rattle.spmd_text.specs.Programs.{ObeysText, parameters_of}

-- The bytes are at most 65,536. They are cut into pieces, and the text is written as these pieces
-- and no others; its names are those that stand in them, those of requests and handles are spelled
-- as they have to be, it keeps the rules and limits, and its parameters are those that are written.
pub record IsSpmdText (text : SpmdText) (bytes : List ℕ) : Type 0 where
  pub small : length bytes ≤ 65536
  pub state : Cutting
  pub cut : pieces_of bytes ≡ Ok state
  pub names : map (λ n. n.items) text.names.items ≡ state.names
  pub spelled : after_text text.policy text.program (Some state.tokens) ≡ Some []
  pub labels : all_fit text.names.items text.program ≡ true
  pub obeys : ObeysText text.names.items text.program
  pub parameters : text.parameters.items ≡ parameters_of text.program

abbrev pub is_memory_reason : ParseReason → Bool
is_memory_reason reason.Memory = true
is_memory_reason _ = false

-- The text has pieces, and the line of this number is the first that is wrong in them.
pub record HasFirstFault (bytes : List ℕ) (number : ℕ) : Type 0 where
  pub state : Cutting
  pub cut : pieces_of bytes ≡ Ok state
  pub names : List (Vec ℕ)
  pub named : map (λ n. n.items) names ≡ state.names
  pub first : IsFirstWrongLine names state.tokens number

-- A text is refused for what is told: it is too large; or it can't be cut into pieces, and this is
-- the first fault of it; or it has pieces, no tree is written as them, and the line that is told is
-- the first that is wrong. So a fault of the pieces is told exactly where there is one, unless
-- memory runs out or the text is too large; and want of memory is told as that alone. Which fault
-- of the grammar is told of the line isn't said.
abbrev pub HasTextFault : List ℕ → TextFault → Type 0
HasTextFault bytes Memory = Unit {0}
HasTextFault bytes TooLarge = 65536 < length bytes
HasTextFault bytes (Pieces fault) = (length bytes ≤ 65536) × (pieces_of bytes ≡ Err fault)
HasTextFault bytes (Grammar fault) =
    (length bytes ≤ 65536) × HasFirstFault bytes fault.line × (is_memory_reason fault.reason ≡ false) × ((text : SpmdText) → IsSpmdText text bytes → ⊥)

-- what is told of a text that has pieces and was not read: its fault, or want of memory as that
abbrev pub grammar_fault : ParseFault → TextFault
grammar_fault fault = if is_memory_reason fault.reason then Memory else Grammar fault

-- A fault of the pieces is told, whatever else is wrong: the text is not read, and no other fault
-- is told but want of memory.
abbrev pub PieceFaultsAreTold : Type 0
PieceFaultsAreTold = (bytes : List ℕ) (fault : ParseFault) → length bytes ≤ 65536 → pieces_of bytes ≡ Err fault
    → ((text : SpmdText) → IsSpmdText text bytes → ⊥) × ((e : TextFault) → HasTextFault bytes e → (e ≡ Memory) ⊎ (e ≡ Pieces fault))

-- Both say the same: they have the same policy, names and parameters, and their trees differ at
-- most in where boxes stand and in how statements one after another are put into pairs.
pub record AreOneText (t u : SpmdText) : Type 0 where
  pub policy : t.policy ≡ u.policy
  pub program : (p : Place) → plain p t.program ≡ plain p u.program
  pub names : map (λ n. n.items) t.names.items ≡ map (λ n. n.items) u.names.items
  pub parameters : t.parameters.items ≡ u.parameters.items

-- What bytes say is one text: the grammar is not ambiguous.
abbrev pub TextsAreOne : Type 0
TextsAreOne = (bytes : List ℕ) (t u : SpmdText) → IsSpmdText t bytes → IsSpmdText u bytes → AreOneText t u
