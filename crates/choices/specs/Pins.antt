-- The words of a line that pins a choice, and texts with other words in the place of one line.
use Rattle.std.specs.Prelude.{◌≡◌, ℕ, ◌+◌, List, [], ◌∷◌, ◌++◌, length, ◌-◌, ◌==◌, if◌then◌else◌, Bool, codes, get_or, take, drop}
use Rattle.std.specs.List.{flat_map, slice_split, starts_with}
use Rattle.plaintext.specs.Plain.{text_lines, numeral}
use Rattle.narrowing.specs.declared.taken.ChoiceTaken.{ChoiceTaken}
use Rattle.std.specs.Cmp.Lexicographic.{pointwise}
use Rattle.narrowing.specs.declared.taken.ChoiceTaken.TheVariants as taken

abbrev pub are_same_bytes : List ℕ → List ℕ → Bool
are_same_bytes = pointwise (λ x y. x == y)

-- how many letters stand before the `send` of a line
abbrev pub front_letters : List ℕ → ℕ
front_letters line = if starts_with (λ x y. x == y) line (codes "i") then 1 else 0

-- whether a line is a `sendrecv`
abbrev pub is_joined : List ℕ → Bool
is_joined line = starts_with (λ x y. x == y) line (codes "sendrecv")

-- the line of a send with a letter before its `send`
abbrev pub letter_line : ℕ → List ℕ → List ℕ
letter_line letter line = take (front_letters line) line ++ letter ∷ drop (front_letters line) line

-- the place, from 0, of the word that names the source: the one before the tag, with which the line
-- ends, unless ` comm C` follows
abbrev pub source_place : List (List ℕ) → ℕ
source_place words = if are_same_bytes (get_or words (length words - 2) []) (codes "comm") then length words - 4 else length words - 2

-- the word at a place, or what stands for it: the source or the tag for a star
abbrev pub told_word : ℕ → ℕ → ℕ → ℕ → List ℕ → List ℕ
told_word source tag at place word = if are_same_bytes word (codes "*") then numeral (if place == at then source else tag) else word

-- a blank before each word but the first
abbrev pub blank_before : ℕ → List ℕ
blank_before place = if place == 0 then [] else codes " "

-- the words from a place on
abbrev pub told_words_from : ℕ → ℕ → ℕ → ℕ → List (List ℕ) → List ℕ
told_words_from source tag at place [] = []
told_words_from source tag at place (word ∷ words) =
    (blank_before place ++ told_word source tag at place word) ++ told_words_from source tag at (place + 1) words

-- the line of a call that finds messages, with this source and this tag in the place of stars
abbrev pub message_line : ℕ → ℕ → List ℕ → List ℕ
message_line source tag line =
    told_words_from source tag (source_place (slice_split (λ b. b == 32) line)) 0 (slice_split (λ b. b == 32) line)

-- a blank and the word at a place, from 0
abbrev pub spaced_word : List (List ℕ) → ℕ → List ℕ
spaced_word words place = codes " " ++ get_or words place []

-- ` comm C`, where it follows the five words of a `sendrecv`
abbrev pub communicator_ending : List (List ℕ) → List ℕ
communicator_ending words = if are_same_bytes (get_or words 5 []) (codes "comm") then spaced_word words 5 ++ spaced_word words 6 else []

-- the end of a line of one part of a `sendrecv`: the words at these places, for its rank and its
-- tag, and its communicator
abbrev pub part_ending : List (List ℕ) → ℕ → ℕ → List ℕ
part_ending words rank tag = spaced_word words rank ++ spaced_word words tag ++ communicator_ending words ++ codes "\n"

-- The four calls that `sendrecv D T S U` stands for, with this letter before the `send`:
-- `isend sendofsendrecv D T`, `irecv recvofsendrecv S U`, and a wait for each.
abbrev pub four_lines : ℕ → List (List ℕ) → List ℕ
four_lines letter words =
    codes "i" ++ letter ∷ codes "send sendofsendrecv" ++ part_ending words 1 2 ++ codes "irecv recvofsendrecv" ++ part_ending words 3 4
    ++ codes "wait sendofsendrecv\nwait recvofsendrecv"

-- the line of a send with this letter before its `send`; of a `sendrecv`, its four calls
abbrev pub mode_line : ℕ → List ℕ → List ℕ
mode_line letter line = if is_joined line then four_lines letter (slice_split (λ b. b == 32) line) else letter_line letter line

-- the line with words that leave open no more than what a run did: a buffered send is one in
-- buffered mode, another one is synchronous
abbrev pub line_with : ChoiceTaken → List ℕ → List ℕ
line_with taken.Buffered line = mode_line 98 line
line_with taken.NotBuffered line = mode_line 115 line
line_with (taken.Message source tag) line = message_line source tag line

-- lines, one after another
abbrev pub concatenated_lines : List (List ℕ) → List ℕ
concatenated_lines lines = flat_map (λ line. line) lines

-- The pinned text has the lines of the text, but in place of that of this number, from 1, it has
-- words that say that what is taken is taken: one line, or the four calls of a `sendrecv`.
pub record IsPinned (text : List ℕ) (number : ℕ) (taken : ChoiceTaken) (pinned : List ℕ) : Type 0 where
  pub before : List (List ℕ)
  pub old : List ℕ
  pub after : List (List ℕ)
  pub cut : text_lines text ≡ before ++ (old ++ 10 ∷ []) ∷ after
  pub place : number ≡ length before + 1
  pub is : pinned ≡ concatenated_lines (before ++ (line_with taken old ++ 10 ∷ []) ∷ after)
