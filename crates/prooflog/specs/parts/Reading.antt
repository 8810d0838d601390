-- What inner functions promise one another, beside `specs/Reading.antt`.
use Rattle.std.specs.Prelude.{codes, ◌≡◌, ◌≢◌, ◌↔◌, ℕ, ◌+◌, ◌≤◌, Bool, IsTrue, List, [], ◌∷◌, ◌++◌, length, map, drop, min, Option, Some, None, IfSome, slice_get, ◌==◌}
use Rattle.std.specs.List.{slice_split, slice_range, AllByRecursion, list_all, flat_map}
use Rattle.plaintext.specs.Plain.{numeral, text_lines}
use Rattle.plaintext.specs.Fronts.{to_end, IsFirstFaultyLine}
use Rattle.clauses.specs.Clauses.{Literal}
use Rattle.refutations.specs.Proofs.{ProofLine}
use Rattle.refutations.specs.declared.tree.Node.{Node}
use Rattle.refutations.specs.declared.tree.Node.TheVariants.{Split, Leaf}
use Rattle.prooflog.specs.declared.fault.EvidenceFault.{EvidenceFault}
use Rattle.prooflog.specs.declared.fault.EvidenceFault.TheVariants.{Memory}
use Rattle.prooflog.specs.declared.proof_line.Unread.{Unread}
use Rattle.prooflog.specs.declared.proof_line.Unread.TheVariants as unread
use Rattle.prooflog.specs.declared.ahead.TextPart.{TextPart}
use Rattle.prooflog.specs.declared.reader.EvidenceKind.{EvidenceKind}
use Rattle.prooflog.specs.declared.reader.EvidenceKind.TheVariants.{Schedule, Refutation}
use Rattle.prooflog.specs.declared.refutation.Version.{Version}
use Rattle.prooflog.specs.declared.refutation.Version.TheVariants.{One}
use Rattle.prooflog.specs.declared.step.WrittenStep.{WrittenStep}
use Rattle.prooflog.specs.declared.step.WrittenStep.TheVariants.{Issue, Match, See}
use Rattle.prooflog.specs.Refutations.{proof_words, is_line_in_range, item_line, a_proof, the_tree, ClaimedRefutation, a_node}
use Rattle.prooflog.specs.Steps.{schedule_line}
use Rattle.prooflog.specs.Grammar.{heading_line, refutation_line}
use Rattle.prooflog.specs.Fault.{CanGoOnAsEvidence, IsWhy}
use Rattle.prooflog.specs.declared.portions.WrittenPortion.{WrittenPortion}
use Rattle.prooflog.specs.declared.portions.Portions.{Portions}

-- the two headings
abbrev pub front_text : ClaimedRefutation → List ℕ
front_text r = heading_line r.version ++ refutation_line r.variables r.clauses

-- the text of proof lines
abbrev pub lines_text : List ProofLine → List ℕ
lines_text lines = flat_map item_line (map a_proof lines)

-- the tree with its line
abbrev pub tree_text : List Node → List ℕ
tree_text nodes = flat_map item_line (the_tree ∷ map a_node nodes)

-- the text of a portion of the proof lines: what is written of it, and then that of the lines that
-- aren't
abbrev pub portion_text : WrittenPortion → List ℕ
portion_text part = part.text.items ++ lines_text part.lines.items

-- the lines of portions
abbrev pub portions_lines : Portions → List ProofLine
portions_lines portions = flat_map (λ portion. portion.items) portions.full.items ++ portions.last.items

-- what stands between the spaces of a line
abbrev pub words_of : List ℕ → List (List ℕ)
words_of line = slice_split (λ byte. byte == 32) line

-- the words after a word, where a space and more words follow it
abbrev pub words_after : Option (List ℕ) → List (List ℕ)
words_after None = []
words_after (Some others) = words_of others

-- a number as it is first read: each above 2,147,483,647 as 2,147,483,648
abbrev pub capped : ℕ → ℕ
capped n = min n 2147483648

abbrev pub capped_step : WrittenStep → WrittenStep
capped_step (Issue rank buffered) = Issue (capped rank) buffered
capped_step (Match send taker) = Match (capped send) (capped taker)
capped_step (See send probe) = See (capped send) (capped probe)

abbrev pub capped_node : Node → Node
capped_node (Split variable) = Split (capped variable)
capped_node (Leaf number) = Leaf (capped number)

-- the variable is one that a literal may have
abbrev pub IsVariable : Literal → Type 0
IsVariable l = (1 ≤ l.variable) × (l.variable ≤ 2147483647)

-- a literal as it is first read: none where its variable is out of range
abbrev pub IsReadLiteral : Option Literal → Literal → Type 0
IsReadLiteral None l = IsVariable l → ⊥
IsReadLiteral (Some found) l = (found ≡ l) × IsVariable l

-- literals as they are first read: whether all are in range, and themselves where they are
abbrev pub AreRead : Bool → List Literal → List Literal → Type 0
AreRead in_range found ls = (IsTrue in_range ↔ AllByRecursion IsVariable ls) × (IsTrue in_range → found ≡ ls)

-- why the words are no proof line within the limits
abbrev pub IsUnread : List (List ℕ) → Unread → Type 0
IsUnread words unread.Memory = Unit {0}
IsUnread words unread.Syntax = (l : ProofLine) → proof_words l ≢ words
IsUnread words unread.Range = (l : ProofLine) × (proof_words l ≡ words) × (IsTrue (is_line_in_range l) → ⊥)

-- the words of a refutation's heading
abbrev pub counts_words : ℕ → ℕ → List (List ℕ)
counts_words variables clauses = codes "refutation" ∷ numeral variables ∷ numeral clauses ∷ []

-- the fault of bytes that follow these lines of an evidence's text
abbrev pub HasFaultAfter : List (List ℕ) → List ℕ → EvidenceFault → Type 0
HasFaultAfter above bytes Memory = Unit {0}
HasFaultAfter above bytes fault =
    (before : List (List ℕ)) × (line : List ℕ) × IsFirstFaultyLine (λ front. CanGoOnAsEvidence (above ++ front)) bytes before line × IsWhy fault (above ++ before) line

-- the lines above the proof lines of a refutation
abbrev pub opening_lines : Version → ℕ → ℕ → List (List ℕ)
opening_lines version variables clauses = heading_line version ∷ refutation_line variables clauses ∷ []

-- the lines above the nodes of a refutation
abbrev pub above_tree : Version → ℕ → ℕ → List ProofLine → List (List ℕ)
above_tree version variables clauses lines = opening_lines version variables clauses ++ map item_line (map a_proof lines ++ the_tree ∷ [])

-- what stands above the nodes is within the limits
pub record FitsAbove (variables clauses : ℕ) (lines : List ProofLine) : Type 0 where
  pub variables_in_range : variables ≤ 2147483647
  pub clauses_in_range : clauses ≤ 2147483647
  pub lines_in_range : IsTrue (list_all is_line_in_range lines)
  pub few : length lines ≤ 1000000

-- The text's lines are these proof lines, and then those of the rest.
pub record LinesSoFar (bytes rest : List ℕ) (number : ℕ) (lines : List ProofLine) : Type 0 where
  pub cut : text_lines bytes ≡ map item_line (map a_proof lines) ++ text_lines rest
  pub in_range : IsTrue (list_all is_line_in_range lines)
  pub few : length lines ≤ 1000000
  -- the number of the rest's first line, where the first of these is the third
  pub place : number ≡ 3 + length lines

-- The proof lines stand in the text up to this place.
pub record HaveReached (bytes : List ℕ) (place : ℕ) (lines : List ProofLine) : Type 0 where
  pub within : place ≤ length bytes
  pub so_far : LinesSoFar bytes (drop place bytes) (3 + length lines) lines

-- the text is all of these proof lines
pub record AreWhole (bytes : List ℕ) (lines : List ProofLine) : Type 0 where
  pub cut : text_lines bytes ≡ to_end (map item_line (map a_proof lines))
  pub in_range : IsTrue (list_all is_line_in_range lines)

-- a part of the text, and the proof lines that are all of it
pub record IsTextPart (bytes : List ℕ) (part : TextPart) : Type 0 where
  pub forward : part.start ≤ part.end
  pub within : part.end ≤ length bytes
  pub whole : AreWhole (slice_range bytes part.start part.end) part.lines.items

-- parts of the text, some of them missing
abbrev pub AreParts : List ℕ → List (Option TextPart) → Type 0
AreParts bytes parts = (place : ℕ) (part : Option TextPart) → slice_get parts place ≡ Some part → IfSome part (IsTextPart bytes)

-- the text begins with the two headings of this kind of evidence
abbrev pub IsOpened : List ℕ → EvidenceKind → List ℕ → Type 0
IsOpened bytes Schedule rest = text_lines bytes ≡ (heading_line One ∷ schedule_line ∷ []) ++ text_lines rest
IsOpened bytes (Refutation version v c) rest = (text_lines bytes ≡ opening_lines version v c ++ text_lines rest) × (v ≤ 2147483647) × (c ≤ 2147483647)
