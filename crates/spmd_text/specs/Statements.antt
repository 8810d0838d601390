-- Parts of a text that are statements, and which statements may be read.
use Rattle.std.specs.Prelude.{◌≡◌, ℕ, ◌-◌, ◌≤◌, Bool, true, ◌&&◌, not, nat_eq, List, [], ◌∷◌, ◌++◌}
use Rattle.std.specs.List.{list_any}
use Rattle.std.specs.Global.{Vec}
use Rattle.spmd_tree.specs.declared.tree.SpmdStatement.{SpmdStatement}
use Rattle.spmd_tree.specs.declared.tree.SpmdStatement.TheVariants as statement
use Rattle.spmd_text.specs.declared.piece.Token.{Token}
use Rattle.spmd_text.specs.Limits.{IsTreeWithin}
use Rattle.spmd_text.specs.Rules.{MayCall, MayLabels, count_labels}

-- ---- where statements stand

-- what is known where a statement stands: the names of the text, its parameters, the variables of
-- the loops round it, and whether the value of a parameter is read
pub record Scope : Type 0 where
  pub in_parameter : Bool
  pub names : List (Vec ℕ)
  pub parameters : List ℕ
  pub loops : List ℕ

-- in a loop of this variable
abbrev pub within_loop : ℕ → Scope → Scope
within_loop name scope =
    record { in_parameter = scope.in_parameter; names = scope.names; parameters = scope.parameters; loops = scope.loops ++ name ∷ [] }

abbrev pub is_one_of : List ℕ → ℕ → Bool
is_one_of places name = list_any (λ place. nat_eq place name) places

-- the name may be given a value: it is no parameter, and no variable of a loop round it
abbrev pub may_give : Scope → ℕ → Bool
may_give scope name = not (is_one_of scope.parameters name) && not (is_one_of scope.loops name)

-- ---- rules

-- a step is 1 to 2^32 - 1
pub record IsLoopStep (step : ℕ) : Type 0 where
  pub some : 1 ≤ step
  pub most : step ≤ 4294967295

-- The statement keeps the rules and limits: at most so many blocks stand within one another, and no
-- parameter stands among them.
abbrev pub Obeys : Scope → ℕ → SpmdStatement → Type 0
Obeys scope depth statement.Nothing = Unit {0}
Obeys scope depth (statement.Sequence' p a q b) = Obeys scope depth a × Obeys scope depth b
Obeys scope depth (statement.Parameter line name e) = ⊥
Obeys scope depth (statement.Assign line name e) = (may_give scope name ≡ true) × IsTreeWithin 32 scope.in_parameter e
Obeys scope depth (statement.When' line chained c p a q b) =
    (1 ≤ depth) × IsTreeWithin 32 scope.in_parameter c × Obeys scope (depth - 1) a × Obeys scope (depth - 1) b
Obeys scope depth (statement.Otherwise' p a) = Obeys scope depth a
Obeys scope depth (statement.Repeat' line name first last step p a) =
    (1 ≤ depth) × (may_give scope name ≡ true) × IsTreeWithin 32 scope.in_parameter first × IsTreeWithin 32 scope.in_parameter last × IsLoopStep step
    × Obeys (within_loop name scope) (depth - 1) a
Obeys scope depth (statement.Call line c) = MayCall scope.in_parameter scope.names c
Obeys scope depth (statement.WaitAll line requests) = MayLabels scope.in_parameter scope.names requests × (count_labels requests ≤ 1024)
Obeys scope depth (statement.Unreached line) = Unit {0}

-- ---- putting together

-- the line of the first piece; 1, where none is left
abbrev pub line_of_first_piece : List Token → ℕ
line_of_first_piece [] = 1
line_of_first_piece (t ∷ ts) = t.line
