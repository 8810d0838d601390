-- What is wrong with bytes that are no program's text: the first faulty line, and on it the first
-- of these that holds: a byte that is not ASCII, a word that is refused by name or a line of the
-- wrong shape, a number out of range.
use Rattle.std.specs.Prelude.{◌≡◌, ◌≢◌, ℕ, ◌+◌, ◌<◌, ◌≤◌, List, [], ◌∷◌, ◌++◌, length, ⊤}
use Rattle.std.specs.Str.{IsAscii, IsNotAscii}
use Rattle.plaintext.specs.Plain.{line_of}
use Rattle.plaintext.specs.Fronts.{CanBegin, IsFirstFaultyLine}
use Rattle.calltext.specs.Readable.{AllHaveNames}
use Rattle.calltext.specs.Grammar.{ProgramText, Fits, IsTextWithin, program_lines, short}
use Rattle.calltext.specs.WiderLimits.{IsWithin}
use Rattle.calltext.specs.declared.limits.Limits.{Limits}
use Rattle.calltext.specs.RefusedWords.{refused_word, refused_words}
use Rattle.calltext.specs.declared.fault.ReadFault.{ReadFault}
use Rattle.calltext.specs.declared.fault.ReadFault.TheVariants as faults

-- The lines have a shape if some program begins so whose names are names and whose numbers are of
-- any size.
abbrev pub HasShape : List (List ℕ) → Type 0
HasShape = CanBegin ProgramText AllHaveNames program_lines

-- The lines can go on if some program within the limits begins so.
abbrev pub CanGoOn : Limits → List (List ℕ) → Type 0
CanGoOn l = CanBegin ProgramText (Fits l) program_lines

-- The line's first word is the one at this place, from 0, of the list of words that are refused by
-- name, and it stands where a call may stand: after the two headings and the first rank's.
abbrev pub IsOutOfProfile : List (List ℕ) → List ℕ → ℕ → Type 0
IsOutOfProfile before line place = (3 ≤ length before) × (place < length refused_words) × (others : List (List ℕ)) × (line ≡ line_of (refused_word place ∷ others))

-- Why the line can't follow those before it. Lines are numbered from 1.
abbrev pub Why : ReadFault → List (List ℕ) → List ℕ → Type 0
Why (faults.NotAscii k) before line = (k ≡ length before + 1) × IsNotAscii line
Why (faults.Syntax k) before line = (k ≡ length before + 1) × IsAscii line × ((place : ℕ) → IsOutOfProfile before line place → ⊥) × (HasShape (before ++ line ∷ []) → ⊥)
Why (faults.OutOfProfile k place) before line = (k ≡ length before + 1) × IsAscii line × IsOutOfProfile before line place × (HasShape (before ++ line ∷ []) → ⊥)
Why (faults.Range k) before line = (k ≡ length before + 1) × IsAscii line × HasShape (before ++ line ∷ [])
Why other before line = ⊥

-- The bytes have the fault within the limits: they are more than these allow, or they are not and
-- their first faulty line has it. Want of memory is no matter of the bytes.
abbrev pub HasFaultWithin : Limits → List ℕ → ReadFault → Type 0
HasFaultWithin l bytes faults.Memory = ⊤
HasFaultWithin l bytes faults.TooLarge = l.bytes < length bytes
HasFaultWithin l bytes fault = (length bytes ≤ l.bytes) × (before : List (List ℕ)) × (line : List ℕ) × IsFirstFaultyLine (CanGoOn l) bytes before line × Why fault before line

-- The bytes have the fault within the short limits.
abbrev pub HasFault : List ℕ → ReadFault → Type 0
HasFault = HasFaultWithin short

-- ---- the laws

-- Bytes are the text of one program at most.
abbrev pub OneValue : Type 0
OneValue = (l : Limits) (bytes : List ℕ) (p q : ProgramText) → IsTextWithin l bytes p → IsTextWithin l bytes q → p ≡ q

-- A program's text has no fault.
abbrev pub TextHasNoFault : Type 0
TextHasNoFault = (l : Limits) (bytes : List ℕ) (p : ProgramText) (fault : ReadFault) → IsTextWithin l bytes p → HasFaultWithin l bytes fault → fault ≡ faults.Memory

-- Bytes have one fault at most.
abbrev pub OneFault : Type 0
OneFault = (l : Limits) (bytes : List ℕ) (a b : ReadFault) → HasFaultWithin l bytes a → HasFaultWithin l bytes b → a ≢ faults.Memory → b ≢ faults.Memory → a ≡ b

-- Bytes that are a text within some limits are the same program's text within any wider ones, and
-- no other's.
abbrev pub SameTextWithin : Type 0
SameTextWithin = (l m : Limits) (bytes : List ℕ) (p : ProgramText) → IsWithin l m → IsTextWithin l bytes p → IsTextWithin m bytes p × ((q : ProgramText) → IsTextWithin m bytes q → q ≡ p)
