-- The pages of `decide` and `explain` for an SPMD text.
use Rattle.std.specs.Prelude.{◌≡◌, ◌⊎◌, ◌+◌, ◌==◌, ℕ, suc, Bool, true, false, List, [], ◌∷◌, ◌++◌, codes, drop, length, nat_lt, if◌then◌else◌, Option, Some, None, Result}
use Rattle.std.specs.List.{fold}
use Rattle.std.specs.Str.Lossy.{utf8_lossy}
use Rattle.files.specs.Contents.{AreAll}
use Rattle.plaintext.specs.Plain.{numeral}
use Rattle.deciding.specs.Decisions.{IsDecided}
use Rattle.deciding.specs.declared.decision.Decision.{Decision}
use Rattle.deciding.specs.declared.texts.Undecided.{Undecided}
use Rattle.options.specs.declared.form.Form.{Form}
use Rattle.options.specs.declared.form.Form.TheVariants.{Brief, Object}
use Rattle.places.specs.Woven.{HasPlaces}
use Rattle.spmd_program.specs.Ranges.{IsRange}
use Rattle.spmd_program.specs.Unrolling.{IsRefusal, IsUnrolling}
use Rattle.session.specs.Explaining.{IsDecisionExplained, is_object}
use Rattle.session.specs.Lines.{line_text}
use Rattle.session.specs.Pages.{IsDecisionPage}
use Rattle.session.specs.Unrolling.{refused_text}

-- ---- the numbers of ranks

-- the text that follows `--ranks` gives these numbers, from the first to the last, of which there
-- may be several, and no word stands beside it that doesn't go with it
pub record IsRanked (ranks : Option (List ℕ)) (beside several : Bool) (first last : ℕ) : Type 0 where
  pub text : List ℕ
  pub given : ranks ≡ Some text
  pub alone : beside ≡ false
  pub is_range : IsRange text first last
  pub one : several ≡ false → last ≡ first

abbrev pub needs_ranks : List ℕ
needs_ranks = codes "error: --set and --collectives need --ranks\n"

-- by whether there may be several numbers: so with `decide`, and not with `explain`
abbrev pub beside_ranks : Bool → List ℕ
beside_ranks true = codes "error: --out, --progress and --phases don't go with --ranks\n"
beside_ranks false = codes "error: an evidence and --map don't go with --ranks\n"

abbrev pub no_ranks : Bool → List ℕ
no_ranks true = codes "error: --ranks takes a number of ranks, as 4, or the first and the last, as 2..16, from 1 to 2147483647\n"
no_ranks false = codes "error: --ranks takes one number of ranks here, from 1 to 2147483647\n"

-- why there are no such numbers is told so
abbrev pub IsUnranked : Option (List ℕ) → Bool → Bool → List ℕ → Type 0
IsUnranked None beside several told = told ≡ needs_ranks
IsUnranked (Some text) true several told = told ≡ beside_ranks several
IsUnranked (Some text) false several told =
    ((first last : ℕ) → IsRanked (Some text) false several first last → ⊥) × (told ≡ no_ranks several)

-- ---- one number of ranks

-- the line that tells what is wrong with an SPMD text, plain or as a JSON object
abbrev pub refused_line : Bool → List ℕ → List ℕ
refused_line false told = refused_text told
refused_line true told = line_text true (codes "refused " ++ utf8_lossy told) 3

-- the page is of the program, by its text and its map, that the SPMD text is unrolled to for so
-- many ranks; or it tells what is wrong with the SPMD text
abbrev pub IsPageFor : List ℕ → List ℕ → List (List ℕ) → Bool → Bool → (List ℕ → List ℕ → List ℕ → ℕ → Type 0) → ℕ → List ℕ → ℕ → Type 0
IsPageFor path source settings barriers json IsPage ranks text status =
    ((program : List ℕ) × (map : List ℕ) × IsUnrolling path source ranks settings barriers true program (Some map) × IsPage program map text status)
    ⊎ ((told : List ℕ) × IsRefusal path source ranks settings barriers told × (text ≡ refused_line json told) × (status ≡ 3))

-- the form of an answer
abbrev pub form_of_answer : Bool → Form
form_of_answer false = Brief
form_of_answer true = Object

-- the page of what one run decides of the program, with the places of its lines in the SPMD text
abbrev pub IsDecidedFor : Bool → List ℕ → List ℕ → List ℕ → ℕ → Type 0
IsDecidedFor json program map text status =
    (d : Result Decision Undecided) × (plain : List ℕ) × IsDecided program d × IsDecisionPage json program d plain status
    × HasPlaces (form_of_answer json) map plain text

-- and the page that explains it
abbrev pub IsExplainedFor : ℕ → Form → List ℕ → List ℕ → List ℕ → ℕ → Type 0
IsExplainedFor budget form program map text status =
    (d : Result Decision Undecided) × (plain : List ℕ) × IsDecided program d × IsDecisionExplained budget form program d plain status
    × HasPlaces form map plain text

-- the page of `explain` for an SPMD text and a number of ranks
abbrev pub IsExplainedUnrolled : Option (List ℕ) → List ℕ → List (List ℕ) → Bool → ℕ → Form → ℕ → List ℕ → ℕ → Type 0
IsExplainedUnrolled file path settings barriers budget form ranks text status =
    (source : List ℕ) × AreAll file source
    × IsPageFor path source settings barriers (is_object form) (IsExplainedFor budget form) ranks text status

-- ---- a table of numbers of ranks

-- the page of a number of ranks, and its status
pub record Row : Type 0 where
  pub page : List ℕ
  pub status : ℕ

-- the rows are of such pages, for numbers of ranks that rise by one
abbrev pub AreRowsForRanks : (ℕ → List ℕ → ℕ → Type 0) → ℕ → List Row → Type 0
AreRowsForRanks IsPage ranks [] = Unit {0}
AreRowsForRanks IsPage ranks (row ∷ rows) = IsPage ranks row.page row.status × AreRowsForRanks IsPage (suc ranks) rows

-- a row: the number of ranks stands before its page, in a JSON object as the first member
abbrev pub row_text : Bool → ℕ → List ℕ → List ℕ
row_text false ranks page = codes "ranks " ++ (numeral ranks ++ (codes ": " ++ page))
row_text true ranks page = codes "{\"ranks\":" ++ (numeral ranks ++ (codes "," ++ drop 1 page))

abbrev pub rows_text : Bool → ℕ → List Row → List ℕ
rows_text json ranks [] = []
rows_text json ranks (row ∷ rows) = row_text json ranks row.page ++ rows_text json (suc ranks) rows

-- how grave a status is: from no deadlock by a text that is refused, an answer that isn't known and
-- want of memory to a deadlock
abbrev pub gravity : ℕ → ℕ
gravity status =
    if status == 0 then 0 else (if status == 1 then 4 else (if status == 2 then 2 else (if status == 3 then 1 else 3)))

abbrev pub graver : ℕ → ℕ → ℕ
graver one other = if nat_lt (gravity one) (gravity other) then other else one

-- the gravest status of all rows
abbrev pub gravest : List Row → ℕ
gravest rows = fold (λ status row. graver status row.status) 0 rows

-- the table of pages for numbers of ranks from a first to a last: a row each, and the gravest
-- status
pub record IsPageTable (IsPage : ℕ → List ℕ → ℕ → Type 0) (json : Bool) (first last : ℕ) (text : List ℕ) (status : ℕ) : Type 0 where
  pub rows : List Row
  pub are : AreRowsForRanks IsPage first rows
  pub all : first + length rows ≡ last + 1
  pub is_text : text ≡ rows_text json first rows
  pub is_status : status ≡ gravest rows

-- the page of `decide` for an SPMD text and numbers of ranks
abbrev pub IsDecidedUnrolled : Option (List ℕ) → List ℕ → List (List ℕ) → Bool → Bool → ℕ → ℕ → List ℕ → ℕ → Type 0
IsDecidedUnrolled file path settings barriers json first last text status =
    (source : List ℕ) × AreAll file source × IsPageTable (IsPageFor path source settings barriers json (IsDecidedFor json)) json first last text status
