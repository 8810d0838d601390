-- The marks and numbers of the code as texts.
use Rattle.std.specs.Prelude.{◌≡◌, ◌++◌, List, ℕ}
use Rattle.std.specs.List.{flat_map}
use Rattle.reports.specs.declared.counts.NamedCount.{NamedCount}
use Rattle.reports.specs.declared.counts.CountMarks.{CountMarks}
use Rattle.reports.specs.Explanations.{Marks as MarkTexts, count_line}

abbrev pub texts_of : CountMarks → MarkTexts
texts_of m = record { begin = m.begin.now; front = m.front.now; middle = m.middle.now; back = m.back.now; foot = m.foot.now }

-- a name and a number with these marks
abbrev pub line_of_count : MarkTexts → NamedCount → List ℕ
line_of_count m count = count_line m count.name.now count.number

abbrev pub lines_of : MarkTexts → List NamedCount → List ℕ
lines_of m counts = flat_map (line_of_count m) counts

-- with any marks, the text of a number
abbrev pub IsLineOfCount : NamedCount → (MarkTexts → List ℕ) → Type 0
IsLineOfCount count line = (m : MarkTexts) → line_of_count m count ≡ line m

-- with any marks, the text of numbers
abbrev pub AreLinesOfCounts : List NamedCount → (MarkTexts → List ℕ) → Type 0
AreLinesOfCounts counts text = (m : MarkTexts) → lines_of m counts ≡ text m

-- the text of three groups of numbers
abbrev pub marked_text : MarkTexts → List NamedCount → List NamedCount → List NamedCount → List ℕ
marked_text m sizes choices claim = m.begin ++ (lines_of m sizes ++ (lines_of m choices ++ (lines_of m claim ++ m.foot)))
