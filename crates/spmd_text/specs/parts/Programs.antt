-- What inner functions promise one another, beside `specs/Programs.antt`.
use Rattle.std.specs.Prelude.{◌≡◌, ◌⊎◌, ℕ, ◌≤◌, Bool, true, false, ◌&&◌, List, [], ◌∷◌, ◌++◌, length, Option, Some, None}
use Rattle.std.specs.Global.{Vec}
use Rattle.spmd_tree.specs.declared.tree.Expression.{Expression}
use Rattle.spmd_tree.specs.declared.tree.SpmdStatement.{SpmdStatement}
use Rattle.spmd_tree.specs.declared.tree.SpmdStatement.TheVariants as statement
use Rattle.spmd_text.specs.declared.fault.ParseReason.TheVariants.{Memory}
use Rattle.spmd_text.specs.declared.parser.Parser.{Parser}
use Rattle.spmd_text.specs.declared.piece.Word.TheVariants as word
use Rattle.spmd_text.specs.declared.piece.Piece.TheVariants as piece
use Rattle.spmd_text.specs.declared.piece.Token.{Token}
use Rattle.spmd_text.specs.declared.reading.SpmdPolicy.{SpmdPolicy}
use Rattle.spmd_text.specs.parts.Joints.{stops}
use Rattle.spmd_text.specs.Limits.{IsTreeWithin}
use Rattle.spmd_text.specs.parts.Reading.{Finds, Sticks, first_noted}
use Rattle.spmd_text.specs.Spelling.{after_optional, after_statement, is_piece}
use Rattle.spmd_text.specs.parts.Parts.{SyntaxPart, Unknown, any_end, lacks}
use Rattle.spmd_text.specs.Rules.{IfThere}
use Rattle.spmd_text.specs.parts.Statements.{heading_part, put_back}
use Rattle.spmd_text.specs.Programs.{ObeyParameters, ObeysText, parameters_of}

-- As `Keeps`, where these names of parameters are added, unless something is wrong.
pub record GrowsByParameters (old new : Parser) (names : List ℕ) : Type 0 where
  pub names_same : new.names.now ≡ old.names.now
  pub in_parameter : new.in_parameter ≡ old.in_parameter
  pub parameters : new.fault ≡ None → new.parameters.items ≡ old.parameters.items ++ names
  pub loops : new.loops.items ≡ old.loops.items
  pub shorter : length new.rest.now ≤ length old.rest.now
  pub sticks : Sticks old new

-- As `Reads`, but for what is kept.
pub record Meets {X : Type 0} (part : SyntaxPart X) (old new : Parser) (found : X) : Type 0 where
  pub finds : (x : X) (rest : List Token) → old.fault ≡ None → part.behind x (Some old.rest.now) ≡ Some rest → part.May x → part.ends rest ≡ true
      → Finds new rest (part.Same found x)
  pub stands : new.fault ≡ None → part.behind found (Some old.rest.now) ≡ Some new.rest.now
  pub may : new.fault ≡ None → part.May found

-- an `=` and the value, which is the same on all ranks; or none
abbrev pub otherwise_part : SyntaxPart (Option Expression)
otherwise_part = record {
  behind = after_optional piece.Equals;
  May = IfThere (IsTreeWithin 32 true);
  Same = Unknown;
  ends = λ rest. stops 4 rest && lacks piece.Equals rest;
}

-- a name is added to those of parameters, unless memory ran out, which is noted
abbrev pub AddsParameter : Parser → Parser → ℕ → Type 0
AddsParameter old new name =
    ((new ≡ record old { parameters = new.parameters }) × (new.parameters.items ≡ old.parameters.items ++ name ∷ []))
    ⊎ (new ≡ record old { parameters = new.parameters; fault = first_noted old.fault Memory })

abbrev pub is_parameter : SpmdStatement → Bool
is_parameter (statement.Parameter line name e) = true
is_parameter _ = false

-- one parameter, behind those of these names
pub record MayParameter (names : List ℕ) (s : SpmdStatement) : Type 0 where
  pub one : is_parameter s ≡ true
  pub obeys : ObeyParameters names s

-- a parameter behind its word, which stands on this line
abbrev pub parameter_part : List ℕ → ℕ → SyntaxPart SpmdStatement
parameter_part names line = record {
  behind = λ s rest. after_statement s (put_back line word.Param rest);
  May = MayParameter names;
  Same = λ a b. parameters_of a ≡ parameters_of b;
  ends = any_end;
}

-- The parameter is read, and its name is added.
pub record ReadsParameter (old new : Parser) (line : ℕ) (found : SpmdStatement) : Type 0 where
  pub goes : GrowsByParameters old new (parameters_of found)
  pub meets : Meets (parameter_part old.parameters.items line) old new found

-- parameters behind those of these names, and which names they add
abbrev pub parameters_part : List ℕ → SyntaxPart SpmdStatement
parameters_part names = record {
  behind = after_statement;
  May = ObeyParameters names;
  Same = λ a b. parameters_of a ≡ parameters_of b;
  ends = lacks (piece.Word word.Param);
}

-- The parameters are read, and their names are added.
pub record ReadsParameters (old new : Parser) (found : SpmdStatement) : Type 0 where
  pub goes : GrowsByParameters old new (parameters_of found)
  pub meets : Meets (parameters_part old.parameters.items) old new found

-- the end of the text is all that is left
abbrev pub is_all_read : List Token → Bool
is_all_read (t ∷ []) = is_piece piece.TextEnd t.piece
is_all_read _ = false

-- the whole text, up to its end
abbrev pub text_part : List (Vec ℕ) → SyntaxPart (SpmdPolicy × SpmdStatement)
text_part names = record {
  behind = λ both rest. after_statement both.1 (heading_part.behind both.0 rest);
  May = λ both. ObeysText names both.1;
  Same = λ a b. Unit {0};
  ends = is_all_read;
}
