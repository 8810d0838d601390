-- Parameters and whole texts, and which of them may be read.
use Rattle.std.specs.Prelude.{◌≡◌, ℕ, true, false, List, [], ◌∷◌, ◌++◌, Some}
use Rattle.std.specs.Global.{Vec}
use Rattle.spmd_tree.specs.declared.tree.SpmdStatement.{SpmdStatement}
use Rattle.spmd_tree.specs.declared.tree.SpmdStatement.TheVariants as statement
use Rattle.spmd_text.specs.declared.piece.Token.{Token}
use Rattle.spmd_text.specs.declared.reading.SpmdPolicy.{SpmdPolicy}
use Rattle.spmd_text.specs.Limits.{IsTreeWithin}
use Rattle.spmd_text.specs.Spelling.{after_text}
use Rattle.spmd_text.specs.Rules.{IfThere}
use Rattle.spmd_text.specs.Statements.{Obeys, Scope, is_one_of}

-- ---- rules

-- the names of the parameters in a statement, which stands in no block
abbrev pub parameters_of : SpmdStatement → List ℕ
parameters_of (statement.Sequence' p a q b) = parameters_of a ++ parameters_of b
parameters_of (statement.Parameter line name e) = name ∷ []
parameters_of _ = []

-- Parameters behind those of these names: no name is given twice, and a value is within the limits
-- and the same on all ranks.
abbrev pub ObeyParameters : List ℕ → SpmdStatement → Type 0
ObeyParameters names statement.Nothing = Unit {0}
ObeyParameters names (statement.Sequence' p a q b) = ObeyParameters names a × ObeyParameters (names ++ parameters_of a) b
ObeyParameters names (statement.Parameter line name e) = (is_one_of names name ≡ false) × IfThere (IsTreeWithin 32 true) e
ObeyParameters names _ = ⊥

-- what is known behind the parameters of a text
abbrev pub behind_parameters : List (Vec ℕ) → SpmdStatement → Scope
behind_parameters names heads = record { in_parameter = false; names = names; parameters = parameters_of heads; loops = [] }

-- The parameters and the statements of a text keep the rules and limits: at most 32 blocks stand
-- within one another.
abbrev pub ObeysText : List (Vec ℕ) → SpmdStatement → Type 0
ObeysText names (statement.Sequence' p a q b) = ObeyParameters [] a × Obeys (behind_parameters names a) 32 b
ObeysText names _ = ⊥

-- ---- whole texts

-- these pieces, of these names, are written as this policy and these statements, which keep the
-- rules and limits
pub record SaysProgram (names : List (Vec ℕ)) (tokens : List Token) (policy : SpmdPolicy) (program : SpmdStatement) : Type 0 where
  pub spelled : after_text policy program (Some tokens) ≡ Some []
  pub obeys : ObeysText names program
