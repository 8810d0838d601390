-- What inner functions promise one another, beside `specs/Lines.antt`.
use Rattle.std.specs.Prelude.{◌≡◌, ℕ, ◌-◌, ◌≤◌, pos, Bool, true, false, not, List, [], ◌∷◌, ◌++◌, Option, Some, None}
use Rattle.std.specs.List.{list_all, list_any}
use Rattle.std.specs.Global.{Vec}
use Rattle.spmd_tree.specs.declared.tree.Expression.{Expression}
use Rattle.spmd_tree.specs.declared.tree.SpmdStatement.{SpmdStatement}
use Rattle.spmd_tree.specs.declared.tree.SpmdStatement.TheVariants as statement
use Rattle.spmd_text.specs.declared.fault.ParseReason.{ParseReason}
use Rattle.spmd_text.specs.declared.fault.ParseReason.TheVariants.{Memory}
use Rattle.spmd_text.specs.declared.lines.Span.{Span}
use Rattle.spmd_text.specs.declared.parser.Parser.{Parser}
use Rattle.spmd_text.specs.declared.piece.Word.{Word}
use Rattle.spmd_text.specs.declared.piece.Word.TheVariants as word
use Rattle.spmd_text.specs.declared.piece.Piece.{Piece}
use Rattle.spmd_text.specs.declared.piece.Piece.TheVariants as piece
use Rattle.spmd_text.specs.declared.piece.Token.{Token}
use Rattle.spmd_text.specs.declared.reading.SpmdPolicy.{SpmdPolicy}
use Rattle.spmd_text.specs.Limits.{IsTreeWithin}
use Rattle.spmd_text.specs.Spelling.{after_piece, after_end, after_head, after_parameter, after_span, after_statement, after_variable, word_of_policy}
use Rattle.spmd_text.specs.Rules.{IfThere}
use Rattle.spmd_text.specs.parts.Reading.{next}
use Rattle.spmd_text.specs.parts.Statements.{MayOne, MaySpan, first_word, is_end, is_simple, scope_of}
use Rattle.spmd_text.specs.Statements.{Scope, is_one_of, line_of_first_piece, may_give, within_loop}
use Rattle.spmd_text.specs.Lines.{is_line}

abbrev pub is_text_end : Piece → Bool
is_text_end piece.TextEnd = true
is_text_end _ = false

-- the text ends in these pieces
abbrev pub has_text_end : List Token → Bool
has_text_end ts = list_any (λ t. is_text_end t.piece) ts

-- the text ends at the end of these pieces, and not before
pub record IsEnded (ts : List Token) : Type 0 where
  pub front : List Token
  pub token : Token
  pub split : ts ≡ front ++ token ∷ []
  pub ends : token.piece ≡ piece.TextEnd
  pub once : list_all (λ (t : Token). not (is_text_end t.piece)) front ≡ true

-- between what a line stands
pub data Block : Type 0 where
  start : Block
  headed : Block
  listed : Block
  plain : Block
  loop : Block
  branch : Block
  last : Block

-- a statement may stand there: the text has begun
abbrev pub takes_statement : Block → Bool
takes_statement start = false
takes_statement _ = true

-- a parameter may stand there: no statement came before
abbrev pub lists : Block → Bool
lists headed = true
lists listed = true
lists _ = false

-- in a loop or a branch, which an `end` ends
abbrev pub is_inner : Block → Bool
is_inner loop = true
is_inner branch = true
is_inner last = true
is_inner _ = false

-- a statement, and neither the policy nor a parameter
abbrev pub is_settled : Block → Bool
is_settled plain = true
is_settled b = is_inner b

-- behind a statement neither the policy nor a parameter may stand
abbrev pub settled : Block → Block
settled headed = plain
settled listed = plain
settled b = b

-- where a line stands: between what, in which scope, and how many blocks may stand within one
-- another there
pub record Level : Type 0 where
  pub block : Block
  pub scope : Scope
  pub depth : ℕ

abbrev pub level_at : Block → Parser → ℕ → Level
level_at block s depth = record { block = block; scope = scope_of s; depth = depth }

abbrev pub begin : List (Vec ℕ) → Level
begin names = record { block = start; scope = record { in_parameter = false; names = names; parameters = []; loops = [] }; depth = 32 }

-- behind a statement at this level
abbrev pub behind_one : Level → Level
behind_one l = record { block = settled l.block; scope = l.scope; depth = l.depth }

abbrev pub in_block : Block → Level → Level
in_block block l = record { block = block; scope = l.scope; depth = l.depth - 1 }

abbrev pub in_loop : ℕ → Level → Level
in_loop name l = record { block = loop; scope = within_loop name l.scope; depth = l.depth - 1 }

abbrev pub with_block : Block → Level → Level
with_block block l = record { block = block; scope = l.scope; depth = l.depth }

-- one parameter more
abbrev pub with_parameter : ℕ → Level → Level
with_parameter name l = record {
  block = listed;
  scope = record { in_parameter = l.scope.in_parameter; names = l.scope.names; parameters = l.scope.parameters ++ name ∷ []; loops = l.scope.loops };
  depth = l.depth;
}

pub record IsHeading (levels : List Level) (line : List Token) (next : List Level) : Type 0 where
  pub level : Level
  pub outer : List Level
  pub here : levels ≡ level ∷ outer
  pub first : level.block ≡ start
  pub spelled : after_piece piece.LineEnd (after_piece (piece.Word word.Spmd) (Some line)) ≡ Some []
  pub is : next ≡ with_block headed level ∷ outer

pub record IsSpmdPolicyLine (levels : List Level) (line : List Token) (next : List Level) : Type 0 where
  pub level : Level
  pub outer : List Level
  pub here : levels ≡ level ∷ outer
  pub second : level.block ≡ headed
  pub policy : SpmdPolicy
  pub spelled : after_piece piece.LineEnd (after_piece (piece.Word (word_of_policy policy)) (after_piece (piece.Word word.Policy) (Some line))) ≡ Some []
  pub is : next ≡ with_block listed level ∷ outer

pub record IsParameterLine (levels : List Level) (line : List Token) (next : List Level) : Type 0 where
  pub level : Level
  pub outer : List Level
  pub here : levels ≡ level ∷ outer
  pub early : lists level.block ≡ true
  pub number : ℕ
  pub name : ℕ
  pub value : Option Expression
  pub other : is_one_of level.scope.parameters name ≡ false
  pub within : IfThere (IsTreeWithin 32 true) value
  pub spelled : after_parameter number name value (Some line) ≡ Some []
  pub is : next ≡ with_parameter name level ∷ outer

-- a statement of one line
pub record IsSimpleLine (levels : List Level) (line : List Token) (next : List Level) : Type 0 where
  pub level : Level
  pub outer : List Level
  pub here : levels ≡ level ∷ outer
  pub begun : takes_statement level.block ≡ true
  pub statement : SpmdStatement
  pub simple : is_simple (first_word statement) ≡ true
  pub may : MayOne level.scope level.depth statement
  pub spelled : after_statement statement (Some line) ≡ Some []
  pub is : next ≡ behind_one level ∷ outer

pub record IsLoopLine (levels : List Level) (line : List Token) (next : List Level) : Type 0 where
  pub level : Level
  pub outer : List Level
  pub here : levels ≡ level ∷ outer
  pub begun : takes_statement level.block ≡ true
  pub number : ℕ
  pub name : ℕ
  pub span : Span
  pub deep : 1 ≤ level.depth
  pub free : may_give level.scope name ≡ true
  pub may : MaySpan level.scope.in_parameter span
  pub spelled : after_span span.first span.last (pos span.step) (after_variable number word.For name (Some line)) ≡ Some []
  pub is : next ≡ in_loop name level ∷ behind_one level ∷ outer

pub record IsIfLine (levels : List Level) (line : List Token) (next : List Level) : Type 0 where
  pub level : Level
  pub outer : List Level
  pub here : levels ≡ level ∷ outer
  pub begun : takes_statement level.block ≡ true
  pub number : ℕ
  pub condition : Expression
  pub deep : 1 ≤ level.depth
  pub within : IsTreeWithin 32 level.scope.in_parameter condition
  pub spelled : after_head number false condition (Some line) ≡ Some []
  pub is : next ≡ in_block branch level ∷ behind_one level ∷ outer

-- an `elif` ends with its `if`: it takes the place of the branch before it
pub record IsElifLine (levels : List Level) (line : List Token) (next : List Level) : Type 0 where
  pub level : Level
  pub outer : List Level
  pub here : levels ≡ level ∷ outer
  pub open_branch : level.block ≡ branch
  pub number : ℕ
  pub condition : Expression
  pub deep : 1 ≤ level.depth
  pub within : IsTreeWithin 32 level.scope.in_parameter condition
  pub spelled : after_head number true condition (Some line) ≡ Some []
  pub is : next ≡ in_block branch level ∷ outer

pub record IsElseLine (levels : List Level) (line : List Token) (next : List Level) : Type 0 where
  pub level : Level
  pub outer : List Level
  pub here : levels ≡ level ∷ outer
  pub open_branch : level.block ≡ branch
  pub spelled : after_piece piece.LineEnd (after_piece (piece.Word word.Else) (Some line)) ≡ Some []
  pub is : next ≡ with_block last level ∷ outer

pub record IsEndLine (levels : List Level) (line : List Token) (next : List Level) : Type 0 where
  pub level : Level
  pub outer : List Level
  pub here : levels ≡ level ∷ outer
  pub inner : is_inner level.block ≡ true
  pub spelled : after_end false (Some line) ≡ Some []
  pub is : next ≡ outer

-- the text ends where no block is open
pub record IsTextEnd (levels : List Level) (line : List Token) (next : List Level) : Type 0 where
  pub level : Level
  pub here : levels ≡ level ∷ []
  pub begun : takes_statement level.block ≡ true
  pub outermost : is_inner level.block ≡ false
  pub spelled : after_piece piece.TextEnd (Some line) ≡ Some []
  pub is : next ≡ []

pub data Steps (levels : List Level) (line : List Token) (next : List Level) : Type 0 where
  heading : IsHeading levels line next → Steps levels line next
  policy : IsSpmdPolicyLine levels line next → Steps levels line next
  parameter : IsParameterLine levels line next → Steps levels line next
  simple : IsSimpleLine levels line next → Steps levels line next
  repeat : IsLoopLine levels line next → Steps levels line next
  when : IsIfLine levels line next → Steps levels line next
  chained : IsElifLine levels line next → Steps levels line next
  otherwise : IsElseLine levels line next → Steps levels line next
  end : IsEndLine levels line next → Steps levels line next
  text_end : IsTextEnd levels line next → Steps levels line next

-- the first line of these pieces may stand at these levels
pub record Moves (levels : List Level) (pieces : List Token) : Type 0 where
  pub line : List Token
  pub rest : List Token
  pub next : List Level
  pub split : pieces ≡ line ++ rest
  pub steps : Steps levels line next

-- the pieces are lines that may stand at these levels one after another, up to the levels `reached`
pub data Runs (reached : List Level) : List Level → List Token → Type 0 where
  done : {levels : List Level} {pieces : List Token} → levels ≡ reached → pieces ≡ [] → Runs reached levels pieces
  more : {levels : List Level} {pieces : List Token} → (one : Moves levels pieces) → Runs reached one.next one.rest → Runs reached levels pieces

-- From these levels on, this is the number of the first line that may not stand behind the lines
-- before it.
pub record IsStuckAt (levels : List Level) (pieces : List Token) (number : ℕ) : Type 0 where
  pub before : List Token
  pub bad : List Token
  pub beyond : List Token
  pub reached : List Level
  pub split : pieces ≡ before ++ bad ++ beyond
  pub runs : Runs reached levels before
  pub one : is_line bad ≡ true
  pub stuck : (next : List Level) → Steps reached bad next → ⊥
  pub told : number ≡ line_of_first_piece bad

-- Where a fault of the grammar comes up, its line is told. The pieces `here` are those from the
-- beginning of the line on.
abbrev pub TellsLine : List Level → Parser → Parser → List Token → ℕ → Type 0
TellsLine levels old new here number =
    (why : ParseReason) → old.fault ≡ None → new.fault ≡ Some why → (why ≡ Memory → ⊥) → has_text_end here ≡ true → IsStuckAt levels here number

-- the pieces from a word on that stands on this line
abbrev pub from_word : ℕ → Word → Parser → List Token
from_word number w s = record { line = number; piece = piece.Word w } ∷ s.rest.now

-- an `if` may stand there; or an `elif`, which stands in a branch
abbrev pub may_hold : Bool → Block → Bool
may_hold true branch = true
may_hold true _ = false
may_hold false block = is_settled block

-- an `elif` or an `else`
abbrev pub goes_on : Piece → Bool
goes_on (piece.Word word.Elif) = true
goes_on (piece.Word word.Else) = true
goes_on _ = false

-- an `elif` or `else` may stand behind this one
abbrev pub is_open_tail : SpmdStatement → Bool
is_open_tail (statement.When' line k c p a q b) = is_open_tail b
is_open_tail (statement.Otherwise' p a) = false
is_open_tail s = true

-- The statements of a branch, and this behind them, end here: no `elif` or `else` comes that might
-- stand there.
pub record EndsBranch (s : Parser) (tail : SpmdStatement) : Type 0 where
  pub ends : is_end (next s) ≡ true
  pub closed : is_open_tail tail ≡ true → goes_on (next s) ≡ false

-- What stands at this level ends here: no `elif` or `else` comes that might stand there.
pub record EndsBlock (level : Level) (s : Parser) : Type 0 where
  pub inner : is_inner level.block ≡ true
  pub ends : is_end (next s) ≡ true
  pub closed : level.block ≡ branch → goes_on (next s) ≡ false
