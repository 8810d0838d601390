-- What inner functions promise one another, beside `specs/Statements.antt`.
use Rattle.std.specs.Prelude.{◌≡◌, ◌⊎◌, ℕ, Bool, true, false, ◌||◌, not, pos, List, [], ◌∷◌, ◌++◌, Option, Some, None, map}
use Rattle.std.specs.declared.alloc.Global.{Global}
use Rattle.std.specs.declared.boxed.Box.{Box}
use Rattle.spmd_tree.specs.declared.tree.Expression.{Expression}
use Rattle.spmd_tree.specs.declared.tree.LabelForm.{LabelForm}
use Rattle.spmd_tree.specs.declared.tree.Labels.{Labels}
use Rattle.spmd_tree.specs.declared.tree.Labels.TheVariants.{More}
use Rattle.spmd_tree.specs.declared.tree.SpmdStatement.{SpmdStatement, Sequence, Otherwise, When, Repeat}
use Rattle.spmd_tree.specs.declared.tree.SpmdStatement.TheVariants as statement
use Rattle.spmd_text.specs.declared.fault.ParseReason.TheVariants.{Memory}
use Rattle.spmd_text.specs.declared.lines.Span.{Span}
use Rattle.spmd_text.specs.declared.reading.SpmdPolicy.{SpmdPolicy}
use Rattle.spmd_text.specs.declared.reading.SpmdPolicy.TheVariants as policy
use Rattle.spmd_text.specs.declared.parser.Parser.{Parser}
use Rattle.spmd_text.specs.declared.piece.Word.{Word}
use Rattle.spmd_text.specs.declared.piece.Word.TheVariants as word
use Rattle.spmd_text.specs.declared.piece.Piece.{Piece}
use Rattle.spmd_text.specs.declared.piece.Piece.TheVariants as piece
use Rattle.spmd_text.specs.declared.piece.Token.{Token}
use Rattle.spmd_text.specs.Limits.{IsTreeWithin}
use Rattle.spmd_text.specs.parts.Reading.{first_noted}
use Rattle.spmd_text.specs.Spelling.{Rest, after_piece, after_end, after_gap, after_policy, after_statement, after_value, piece_begins, branch_word, call_word, is_branch, is_tail, word_of_policy}
use Rattle.spmd_text.specs.parts.Parts.{Keeps, SyntaxPart, HasRead, any_end}
use Rattle.spmd_text.specs.Statements.{IsLoopStep, Obeys, Scope, may_give}

abbrev pub scope_of : Parser → Scope
scope_of s = record { in_parameter = s.in_parameter; names = s.names.now; parameters = s.parameters.items; loops = s.loops.items }

-- one statement, or a branch behind others: neither a row of statements nor a parameter
abbrev pub is_one : SpmdStatement → Bool
is_one statement.Nothing = false
is_one (statement.Sequence' p a q b) = false
is_one (statement.Parameter line name e) = false
is_one _ = true

-- the word that it begins with
abbrev pub first_word : SpmdStatement → Word
first_word (statement.Assign line name e) = word.Let
first_word (statement.When' line chained c p a q b) = branch_word chained
first_word (statement.Otherwise' p a) = word.Else
first_word (statement.Repeat' line name first last step p a) = word.For
first_word (statement.Call line c) = call_word c
first_word (statement.WaitAll line requests) = word.Waitall
first_word (statement.Unreached line) = word.Error
first_word _ = word.Param

-- no branch behind others begins with the word
abbrev pub is_first : Word → Bool
is_first word.Elif = false
is_first word.Else = false
is_first _ = true

-- what ends the statements before it
abbrev pub is_end : Piece → Bool
is_end (piece.Word word.End) = true
is_end (piece.Word word.Else) = true
is_end (piece.Word word.Elif) = true
is_end piece.TextEnd = true
is_end _ = false

-- the word that a statement begins with
abbrev pub keyword_of : Piece → Option Word
keyword_of (piece.Word word.End) = None
keyword_of (piece.Word word.Else) = None
keyword_of (piece.Word word.Elif) = None
keyword_of (piece.Word w) = Some w
keyword_of _ = None

-- no loop, and no branch
abbrev pub is_simple : Word → Bool
is_simple word.For = false
is_simple word.If = false
is_simple word.Elif = false
is_simple word.Else = false
is_simple _ = true

-- a word that no statement but a call begins with
abbrev pub is_call_word : Word → Bool
is_call_word word.Let = false
is_call_word word.Error = false
is_call_word word.Waitall = false
is_call_word w = is_simple w

-- the pieces with this word before them
abbrev pub put_back : ℕ → Word → Rest → Rest
put_back line w None = None
put_back line w (Some ts) = Some (record { line = line; piece = piece.Word w } ∷ ts)

pub record Begins (scope : Scope) (depth : ℕ) (w : Word) (s : SpmdStatement) : Type 0 where
  pub one : is_one s ≡ true
  pub begins : first_word s ≡ w
  pub obeys : Obeys scope depth s

-- a branch behind others is read up to the end of its `if`
abbrev pub ends_behind : Word → List Token → Bool
ends_behind word.Elif rest = piece_begins (piece.Word word.End) (Some rest)
ends_behind word.Else rest = piece_begins (piece.Word word.End) (Some rest)
ends_behind _ rest = true

-- a statement behind its first word, which stands on this line
abbrev pub begun_part : Scope → ℕ → ℕ → Word → SyntaxPart SpmdStatement
begun_part scope depth line w = record {
  behind = λ s rest. after_statement s (put_back line w rest);
  May = Begins scope depth w;
  Same = λ a b. Unit {0};
  ends = ends_behind w;
}

-- a statement from its first word on
abbrev pub one_part : Scope → ℕ → Word → SyntaxPart SpmdStatement
one_part scope depth w = record { behind = after_statement; May = Begins scope depth w; Same = λ a b. Unit {0}; ends = ends_behind w }

-- what ends statements comes next
abbrev pub ends_statements : List Token → Bool
ends_statements rest =
    (piece_begins (piece.Word word.End) (Some rest) || piece_begins (piece.Word word.Else) (Some rest))
    || (piece_begins (piece.Word word.Elif) (Some rest) || piece_begins piece.TextEnd (Some rest))

pub record MayStatements (scope : Scope) (depth : ℕ) (s : SpmdStatement) : Type 0 where
  pub plain : is_branch s ≡ false
  pub obeys : Obeys scope depth s

abbrev pub statements_part : Scope → ℕ → SyntaxPart SpmdStatement
statements_part scope depth = record { behind = after_statement; May = MayStatements scope depth; Same = λ a b. Unit {0}; ends = ends_statements }

pub record MayTail (scope : Scope) (depth : ℕ) (s : SpmdStatement) : Type 0 where
  pub tail : is_tail s ≡ true
  pub obeys : Obeys scope depth s

-- what stands behind the statements of a branch
abbrev pub tail_part : Scope → ℕ → SyntaxPart SpmdStatement
tail_part scope depth =
    record { behind = after_statement; May = MayTail scope depth; Same = λ a b. Unit {0}; ends = λ rest. piece_begins (piece.Word word.End) (Some rest) }

-- the end of a block, or nothing
abbrev pub end_part : Bool → SyntaxPart (Unit {0})
end_part chained = record {
  behind = λ none rest. after_end chained rest;
  May = λ none. Unit {0};
  Same = λ a b. Unit {0};
  ends = λ rest. not chained || piece_begins (piece.Word word.End) (Some rest);
}

-- the variable that is given a value, and its `=`
abbrev pub variable_part : Scope → SyntaxPart ℕ
variable_part scope =
    record { behind = λ k rest. after_piece piece.Equals (after_piece (piece.Name k) rest); May = λ k. may_give scope k ≡ true; Same = λ a b. a ≡ b; ends = any_end }

-- the step of a loop, up to the end of its line
abbrev pub gap_part : SyntaxPart ℕ
gap_part = record { behind = λ n rest. after_gap (pos n) rest; May = IsLoopStep; Same = λ a b. Unit {0}; ends = any_end }

pub record MaySpan (in_parameter : Bool) (span : Span) : Type 0 where
  pub first : IsTreeWithin 32 in_parameter span.first
  pub last : IsTreeWithin 32 in_parameter span.last
  pub step : IsLoopStep span.step

-- the values of a loop
abbrev pub span_part : Bool → SyntaxPart Span
span_part in_parameter = record {
  behind = λ span rest. after_gap (pos span.step) (after_value span.last (after_piece (piece.Word word.To) (after_value span.first rest)));
  May = MaySpan in_parameter;
  Same = λ a b. Unit {0};
  ends = λ rest. piece_begins piece.LineEnd (Some rest);
}

-- the number of a step
abbrev pub step_part : SyntaxPart ℕ
step_part = record { behind = λ n rest. after_piece (piece.Number (pos n)) rest; May = IsLoopStep; Same = λ a b. Unit {0}; ends = any_end }

abbrev pub policy_of : Piece → Option SpmdPolicy
policy_of (piece.Word word.Any) = Some policy.Any
policy_of (piece.Word word.Never) = Some policy.Never
policy_of (piece.Word word.Always) = Some policy.Always
policy_of _ = None

abbrev pub policy_part : SyntaxPart SpmdPolicy
policy_part = record { behind = λ p rest. after_piece (piece.Word (word_of_policy p)) rest; May = λ p. Unit {0}; Same = λ a b. Unit {0}; ends = any_end }

-- the line of the policy, or none
abbrev pub policy_line_part : SyntaxPart SpmdPolicy
policy_line_part = record { behind = after_policy; May = λ p. Unit {0}; Same = λ a b. Unit {0}; ends = any_end }

-- the line of the heading
abbrev pub heading_line_part : SyntaxPart (Unit {0})
heading_line_part = record { behind = λ none rest. after_piece piece.LineEnd (after_piece (piece.Word word.Spmd) rest); May = λ none. Unit {0}; Same = λ a b. Unit {0}; ends = any_end }

-- the heading, and the line of the policy
abbrev pub heading_part : SyntaxPart SpmdPolicy
heading_part = record {
  behind = λ p rest. after_policy p (after_piece piece.LineEnd (after_piece (piece.Word word.Spmd) rest));
  May = λ p. Unit {0};
  Same = λ a b. Unit {0};
  ends = any_end;
}

-- The statements of a loop are read; then the loop that was opened last is no more, and all else is
-- as behind the statements.
pub record IsInside (old new : Parser) (depth : ℕ) (s : SpmdStatement) : Type 0 where
  pub mid : Parser
  pub reads : HasRead (statements_part (scope_of old) depth) old mid s
  pub frame : new ≡ record mid { loops = new.loops }
  pub loops : (outer : List ℕ) (name : ℕ) → mid.loops.items ≡ outer ++ name ∷ [] → new.loops.items ≡ outer

-- what is to be is made, unless memory ran out, which is noted
abbrev pub MakesOrLacksMemory : Parser → Parser → Type 0 → Type 0
MakesOrLacksMemory old new Made = ((new ≡ old) × Made) ⊎ (new ≡ record old { fault = first_noted old.fault Memory })

-- a statement in memory of its own, or none
abbrev pub KeptStatement : Type 0
KeptStatement = Option (Box SpmdStatement Global)

-- the statement that is kept; `Nothing`, which means nothing then, where there is none
abbrev pub held : KeptStatement → SpmdStatement
held None = statement.Nothing
held (Some made) = made.value

abbrev pub held_all : List KeptStatement → List SpmdStatement
held_all list = map held list

-- a request before the others of a list
pub record IsMore (f : LabelForm) (others made : Labels) : Type 0 where
  pub box : Box Labels Global
  pub holds : box.value ≡ others
  pub is : made ≡ More f box

-- one statement, and then the other one
pub record IsInTurn (a b made : SpmdStatement) : Type 0 where
  pub first : Box SpmdStatement Global
  pub second : Box SpmdStatement Global
  pub first_holds : first.value ≡ a
  pub second_holds : second.value ≡ b
  pub is : made ≡ Sequence first second

pub record IsOtherwise (a made : SpmdStatement) : Type 0 where
  pub box : Box SpmdStatement Global
  pub holds : box.value ≡ a
  pub is : made ≡ Otherwise box

pub record IsWhen (line : ℕ) (chained : Bool) (c : Expression) (a b made : SpmdStatement) : Type 0 where
  pub first : Box SpmdStatement Global
  pub second : Box SpmdStatement Global
  pub first_holds : first.value ≡ a
  pub second_holds : second.value ≡ b
  pub is : made ≡ When line chained c first second

pub record IsRepeat (line name : ℕ) (span : Span) (a made : SpmdStatement) : Type 0 where
  pub box : Box SpmdStatement Global
  pub holds : box.value ≡ a
  pub is : made ≡ Repeat line name span.first span.last span.step box

-- the statements one after another
abbrev pub flat : SpmdStatement → List SpmdStatement
flat statement.Nothing = []
flat (statement.Sequence' p a q b) = flat a ++ flat b
flat s = s ∷ []

abbrev pub flat_all : List SpmdStatement → List SpmdStatement
flat_all [] = []
flat_all (s ∷ ss) = flat s ++ flat_all ss

-- what is left behind statements
abbrev pub behind_all : List SpmdStatement → Rest → Rest
behind_all [] rest = rest
behind_all (s ∷ ss) rest = behind_all ss (after_statement s rest)

-- each of them may be read on its own
pub record MayOne (scope : Scope) (depth : ℕ) (s : SpmdStatement) : Type 0 where
  pub one : is_one s ≡ true
  pub plain : is_branch s ≡ false
  pub obeys : Obeys scope depth s

abbrev pub MayAll : Scope → ℕ → List SpmdStatement → Type 0
MayAll scope depth [] = Unit {0}
MayAll scope depth (s ∷ ss) = MayOne scope depth s × MayAll scope depth ss

-- nothing is wrong, and what is left is spelled as these statements, up to these pieces
pub record Left (s : Parser) (scope : Scope) (depth : ℕ) (rest : List Token) : Type 0 where
  pub sound : s.fault ≡ None
  pub row : List SpmdStatement
  pub spelled : behind_all row (Some s.rest.now) ≡ Some rest
  pub may : MayAll scope depth row

-- What was read so far of statements: where some of them stood, the others of them are left, unless
-- memory ran out; and where nothing is wrong, those that were read stood.
pub record RowSoFar (old s : Parser) (depth : ℕ) (list : List SpmdStatement) : Type 0 where
  pub goes : Keeps old s
  pub finds : (row : List SpmdStatement) (rest : List Token) → old.fault ≡ None → behind_all row (Some old.rest.now) ≡ Some rest → MayAll (scope_of old) depth row
      → ends_statements rest ≡ true → (s.fault ≡ Some Memory) ⊎ Left s (scope_of old) depth rest
  pub stands : s.fault ≡ None → behind_all (flat_all list) (Some old.rest.now) ≡ Some s.rest.now
  pub may : s.fault ≡ None → MayAll (scope_of old) depth (flat_all list)
