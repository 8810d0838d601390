-- Marks from the last line to the first tell which lines are needed.
use Rattle.std.proofs.Common.{◌≡◌, ℕ, zero, suc, ◌+◌, ◌-◌, ◌<◌, ◌≤◌, inl, inr, Bool, true, false, ◌&&◌, ◌||◌, ◌==◌, nat_lt, if◌then◌else◌, List, [], ◌∷◌, Some, drop, set, replicate, length, slice_get, refl, sym, ap, ◌∙◌, arith}
use Rattle.std.specs.List.{list_any, list_all}
use Rattle.std.proofs.lemmas.Bool.{cases_lt, cases_eq, eq-eqb, ne_eqb}
use Rattle.std.proofs.lemmas.Bool.Decides.{nat_tests}
use Rattle.std.proofs.lemmas.List.{length-set, length-replicate, drop_all}
use Rattle.refutations.specs.declared.tree.Node.{Node}
use Rattle.refutations.specs.declared.tree.Node.TheVariants.{Split, Leaf}
use Rattle.refutations.specs.Proofs.{ProofLine}
use Rattle.trimming.specs.Needed.{names_leaf, is_hinted, needed, Needed, IsFirstUnneeded}
use Rattle.trimming.specs.parts.Marks.{mark, mark_all, mark_leaves, AreMarked}

-- ---- one mark

get-set_other : (marks : List Bool) (place j : ℕ) → (j ≡ place → ⊥) → slice_get (set marks place true) j ≡ slice_get marks j
get-set_other [] place j other = refl
get-set_other (k ∷ marks) zero zero other = absurd (other refl)
get-set_other (k ∷ marks) zero (suc j) other = refl
get-set_other (k ∷ marks) (suc place) zero other = refl
get-set_other (k ∷ marks) (suc place) (suc j) other = get-set_other marks place j (λ e. other (ap suc e))

get-set_same : (marks : List Bool) (place : ℕ) (b : Bool) → slice_get marks place ≡ Some b → slice_get (set marks place true) place ≡ Some true
get-set_same [] place b at = absurd (cc)
get-set_same (k ∷ marks) zero b at = refl
get-set_same (k ∷ marks) (suc place) b at = get-set_same marks place b at

drop-set : (marks : List Bool) (below place : ℕ) → place < below → drop below (set marks place true) ≡ drop below marks
drop-set [] below place h = refl
drop-set (k ∷ marks) zero place h = absurd (omega arith)
drop-set (k ∷ marks) (suc below) zero h = refl
drop-set (k ∷ marks) (suc below) (suc place) h = drop-set marks below place (omega (arith, h))

set_past : (marks : List Bool) (place : ℕ) → length marks ≤ place → set marks place true ≡ marks
set_past [] place h = refl
set_past (k ∷ marks) zero h = absurd (omega arith)
set_past (k ∷ marks) (suc place) h = ap (λ (l : List Bool). k ∷ l) (set_past marks place (omega (arith, h)))

or_nothing : (b : Bool) → (b || false) ≡ b
or_nothing true = refl
or_nothing false = refl

or_true : (b : Bool) → (b || true) ≡ true
or_true true = refl
or_true false = refl

or_more : (a b c : Bool) → ((a || b) || c) ≡ (a || (b || c))
or_more true b c = refl
or_more false b c = refl

or_moved : (a b c : Bool) → ((a || b) || c) ≡ (a || (c || b))
or_moved true b c = refl
or_moved false true true = refl
or_moved false true false = refl
or_moved false false true = refl
or_moved false false false = refl

-- the place is marked, where it is one before the limit
abbrev is_meant : ℕ → ℕ → ℕ → Bool
is_meant clauses below number = nat_lt clauses number && nat_lt (number - clauses - 1) below

pub mark_first : (clauses below number : ℕ) (marks : List Bool) → number ≤ clauses → marks ≡ mark clauses below marks number
mark_first clauses below number marks h =
    let off : nat_lt clauses number ≡ false = grind (arith, nat_tests) in
    sym (ap (λ (b : Bool). if b && nat_lt (number - clauses - 1) below then set marks (number - clauses - 1) true else marks) off)

pub mark_late : (clauses below number place : ℕ) (marks : List Bool) → clauses < number → place ≡ number - clauses - 1 → below ≤ place → marks ≡ mark clauses below marks number
mark_late clauses below number place marks above at late =
    let on : nat_lt clauses number ≡ true = grind (arith, nat_tests) in
    let off : nat_lt (number - clauses - 1) below ≡ false = grind (arith, nat_tests) in
    sym (ap (λ (b : Bool). if b && nat_lt (number - clauses - 1) below then set marks (number - clauses - 1) true else marks) on
    ∙ ap (λ (b : Bool). if b then set marks (number - clauses - 1) true else marks) off)

pub mark_set : (clauses below number place : ℕ) (marks : List Bool) → clauses < number → place ≡ number - clauses - 1 → place < below → set marks place true ≡ mark clauses below marks number
mark_set clauses below number place marks above at early =
    let on : nat_lt clauses number ≡ true = grind (arith, nat_tests) in
    let also : nat_lt (number - clauses - 1) below ≡ true = grind (arith, nat_tests) in
    ap (λ (n : ℕ). set marks n true) at
    ∙ sym (ap (λ (b : Bool). if b && nat_lt (number - clauses - 1) below then set marks (number - clauses - 1) true else marks) on
    ∙ ap (λ (b : Bool). if b then set marks (number - clauses - 1) true else marks) also)

pub mark_past : (clauses below number place : ℕ) (marks : List Bool) → clauses < number → place ≡ number - clauses - 1 → place < below → length marks ≤ place → marks ≡ mark clauses below marks number
mark_past clauses below number place marks above at early past =
    sym (set_past marks place past) ∙ mark_set clauses below number place marks above at early

data MarkCases (clauses below number : ℕ) (marks : List Bool) : Type 0 where
  nothing : ((j : ℕ) → j < below → number ≡ clauses + 1 + j → ⊥) → mark clauses below marks number ≡ marks → MarkCases clauses below number marks
  one : (place : ℕ) → place < below → number ≡ clauses + 1 + place → mark clauses below marks number ≡ set marks place true → MarkCases clauses below number marks

mark_cases : (clauses below number : ℕ) (marks : List Bool) → MarkCases clauses below number marks
mark_cases clauses below number marks =
    elim (cases_lt clauses number) [
      | inr first ↦ nothing (λ j h e. omega (arith, first, e)) (sym (mark_first clauses below number marks (omega (arith, first))))
      | inl above ↦
          elim (cases_lt (number - clauses - 1) below) [
            | inl early ↦ one (number - clauses - 1) early (omega (arith, above)) (sym (mark_set clauses below number (number - clauses - 1) marks above refl early))
            | inr late ↦ nothing (λ j h e. omega (arith, late, h, e)) (sym (mark_late clauses below number (number - clauses - 1) marks above refl (omega (arith, late))))
          ]
    ]

get-mark : (clauses below number j : ℕ) (marks : List Bool) (b : Bool) → j < below → slice_get marks j ≡ Some b → slice_get (mark clauses below marks number) j ≡ Some (b || number == clauses + 1 + j)
get-mark clauses below number j marks b h at =
    elim (mark_cases clauses below number marks) [
      | nothing none same ↦
          ap (λ (l : List Bool). slice_get l j) same ∙ at ∙ ap Some (sym (ap (λ (x : Bool). b || x) (ne_eqb number (clauses + 1 + j) (none j h)) ∙ or_nothing b))
      | one place early is set_is ↦
          elim (cases_eq j place) [
            | inl same ↦
                ap (λ (l : List Bool). slice_get l j) set_is
                ∙ ap (slice_get (set marks place true)) same
                ∙ get-set_same marks place b (ap (slice_get marks) (sym same) ∙ at)
                ∙ ap Some (sym (ap (λ (x : Bool). b || x) (eq-eqb number (clauses + 1 + j) (is ∙ ap (λ (n : ℕ). clauses + 1 + n) (sym same))) ∙ or_true b))
            | inr other ↦
                ap (λ (l : List Bool). slice_get l j) set_is
                ∙ get-set_other marks place j other
                ∙ at
                ∙ ap Some (sym (ap (λ (x : Bool). b || x) (ne_eqb number (clauses + 1 + j) (λ e. other (omega (arith, e, is)))) ∙ or_nothing b))
          ]
    ]

drop-mark : (clauses below number : ℕ) (marks : List Bool) → drop below (mark clauses below marks number) ≡ drop below marks
drop-mark clauses below number marks =
    elim (mark_cases clauses below number marks) [
      | nothing none same ↦ ap (drop below) same
      | one place early is set_is ↦ ap (drop below) set_is ∙ drop-set marks below place early
    ]

length-mark : (clauses below number : ℕ) (marks : List Bool) → length (mark clauses below marks number) ≡ length marks
length-mark clauses below number marks =
    elim (mark_cases clauses below number marks) [ nothing none same ↦ ap length same | one place early is set_is ↦ ap length set_is ∙ length-set marks place true ]

-- ---- the marks of hints and leaves

get-mark_all : (clauses below j : ℕ) (numbers : List ℕ) (marks : List Bool) (b : Bool) → j < below → slice_get marks j ≡ Some b → slice_get (mark_all clauses below marks numbers) j ≡ Some (b || list_any (λ n. n == clauses + 1 + j) numbers)
get-mark_all clauses below j [] marks b h at = at ∙ ap Some (sym (or_nothing b))
get-mark_all clauses below j (number ∷ numbers) marks b h at =
    get-mark_all clauses below j numbers (mark clauses below marks number) (b || number == clauses + 1 + j) h (get-mark clauses below number j marks b h at)
    ∙ ap Some (or_more b (number == clauses + 1 + j) (list_any (λ n. n == clauses + 1 + j) numbers))

drop-mark_all : (clauses below : ℕ) (numbers : List ℕ) (marks : List Bool) → drop below (mark_all clauses below marks numbers) ≡ drop below marks
drop-mark_all clauses below [] marks = refl
drop-mark_all clauses below (number ∷ numbers) marks = drop-mark_all clauses below numbers (mark clauses below marks number) ∙ drop-mark clauses below number marks

length-mark_all : (clauses below : ℕ) (numbers : List ℕ) (marks : List Bool) → length (mark_all clauses below marks numbers) ≡ length marks
length-mark_all clauses below [] marks = refl
length-mark_all clauses below (number ∷ numbers) marks = length-mark_all clauses below numbers (mark clauses below marks number) ∙ length-mark clauses below number marks

get-mark_leaves : (clauses below j : ℕ) (nodes : List Node) (marks : List Bool) (b : Bool) → j < below → slice_get marks j ≡ Some b → slice_get (mark_leaves clauses below marks nodes) j ≡ Some (b || names_leaf nodes (clauses + 1 + j))
get-mark_leaves clauses below j [] marks b h at = at ∙ ap Some (sym (or_nothing b))
get-mark_leaves clauses below j (Split v ∷ nodes) marks b h at = get-mark_leaves clauses below j nodes marks b h at
get-mark_leaves clauses below j (Leaf k ∷ nodes) marks b h at =
    get-mark_leaves clauses below j nodes (mark clauses below marks k) (b || k == clauses + 1 + j) h (get-mark clauses below k j marks b h at)
    ∙ ap Some (or_more b (k == clauses + 1 + j) (names_leaf nodes (clauses + 1 + j)))

length-mark_leaves : (clauses below : ℕ) (nodes : List Node) (marks : List Bool) → length (mark_leaves clauses below marks nodes) ≡ length marks
length-mark_leaves clauses below [] marks = refl
length-mark_leaves clauses below (Split v ∷ nodes) marks = length-mark_leaves clauses below nodes marks
length-mark_leaves clauses below (Leaf k ∷ nodes) marks = length-mark_leaves clauses below nodes (mark clauses below marks k) ∙ length-mark clauses below k marks

-- ---- from the last line to the first

get-replicate : (n j : ℕ) → j < n → slice_get (replicate n false) j ≡ Some false
get-replicate zero j h = absurd (omega arith)
get-replicate (suc n) zero h = refl
get-replicate (suc n) (suc j) h = get-replicate n j (omega (arith, h))

pub marked_leaves : (clauses : ℕ) (lines : List ProofLine) (nodes : List Node) (marks : List Bool) → marks ≡ mark_leaves clauses (length lines) (replicate (length lines) false) nodes → AreMarked clauses lines nodes marks (length lines)
marked_leaves clauses lines nodes marks is =
    let none : drop (length lines) lines ≡ [] = drop_all (length lines) lines (omega arith) in
    let size : length marks ≡ length lines = ap length is ∙ length-mark_leaves clauses (length lines) nodes (replicate (length lines) false) ∙ length-replicate (length lines) false in
    record {
      size = size;
      before = λ j h.
          ap (λ (l : List Bool). slice_get l j) is
          ∙ get-mark_leaves clauses (length lines) j nodes (replicate (length lines) false) false h (get-replicate (length lines) j h)
          ∙ ap Some (sym (ap (λ (l : List ProofLine). names_leaf nodes (clauses + 1 + j) || is_hinted (clauses + 1 + j) l (needed nodes (clauses + 1 + length lines) l)) none ∙ or_nothing (names_leaf nodes (clauses + 1 + j))));
      from = drop_all (length lines) marks (omega (arith, size)) ∙ sym (ap (needed nodes (clauses + 1 + length lines)) none);
    }

drop_line : {X : Type 0} (xs : List X) (place : ℕ) (x : X) → slice_get xs place ≡ Some x → drop place xs ≡ x ∷ drop (suc place) xs
drop_line [] place x at = absurd (cc)
drop_line (y ∷ xs) zero x at = let same : x ≡ y = cc in ap (λ (z : _). z ∷ xs) (sym same)
drop_line (y ∷ xs) (suc place) x at = drop_line xs place x at

line_there : {X : Type 0} (xs : List X) (place : ℕ) → place < length xs → (x : X) × (slice_get xs place ≡ Some x)
line_there [] place h = absurd (omega arith)
line_there (x ∷ xs) zero h = (x, refl)
line_there (x ∷ xs) (suc place) h = line_there xs place (omega (arith, h))

marked_one_more : (clauses : ℕ) (lines : List ProofLine) (nodes : List Node) (marks now : List Bool) (place : ℕ) (line : ProofLine) (flag : Bool) → AreMarked clauses lines nodes marks (suc place) → slice_get lines place ≡ Some line → slice_get marks place ≡ Some flag
    → length now ≡ length marks → drop place now ≡ drop place marks
    → ((j : ℕ) (b : Bool) → j < place → slice_get marks j ≡ Some b → slice_get now j ≡ Some (b || (flag && list_any (λ n. n == clauses + 1 + j) line.hints)))
    → AreMarked clauses lines nodes now place
marked_one_more clauses lines nodes marks now place line flag w at is size dropped each =
    let rest = drop (suc place) lines in
    let later = needed nodes (clauses + 1 + suc place) rest in
    let next : clauses + 1 + suc place ≡ clauses + 1 + place + 1 = omega arith in
    let lines_are : drop place lines ≡ line ∷ rest = drop_line lines place line at in
    let flag_is : flag ≡ (names_leaf nodes (clauses + 1 + place) || is_hinted (clauses + 1 + place) rest later) =
    let both : Some flag ≡ Some (names_leaf nodes (clauses + 1 + place) || is_hinted (clauses + 1 + place) rest later) = sym is ∙ w.before place (omega arith) in cc in
    let needed_are : needed nodes (clauses + 1 + place) (line ∷ rest) ≡ flag ∷ later =
    ap (λ (n : ℕ). (names_leaf nodes (clauses + 1 + place) || is_hinted (clauses + 1 + place) rest (needed nodes n rest)) ∷ needed nodes n rest) (sym next)
    ∙ ap (λ (b : Bool). b ∷ later) (sym flag_is) in
    record {
      size = size ∙ w.size;
      before = λ j h.
          each j (names_leaf nodes (clauses + 1 + j) || is_hinted (clauses + 1 + j) rest later) h (w.before j (omega (arith, h)))
          ∙ ap Some (or_moved (names_leaf nodes (clauses + 1 + j)) (is_hinted (clauses + 1 + j) rest later) (flag && list_any (λ n. n == clauses + 1 + j) line.hints)
          ∙ sym (ap (λ (l : List ProofLine). names_leaf nodes (clauses + 1 + j) || is_hinted (clauses + 1 + j) l (needed nodes (clauses + 1 + place) l)) lines_are
          ∙ ap (λ (l : List Bool). names_leaf nodes (clauses + 1 + j) || is_hinted (clauses + 1 + j) (line ∷ rest) l) needed_are));
      from = dropped ∙ drop_line marks place flag is ∙ ap (λ (l : List Bool). flag ∷ l) w.from ∙ sym (ap (needed nodes (clauses + 1 + place)) lines_are ∙ needed_are);
    }

pub marked_needed : (clauses : ℕ) (lines : List ProofLine) (nodes : List Node) (marks : List Bool) (place : ℕ) (line : ProofLine) → AreMarked clauses lines nodes marks (suc place) → slice_get lines place ≡ Some line → slice_get marks place ≡ Some true → AreMarked clauses lines nodes (mark_all clauses place marks line.hints) place
marked_needed clauses lines nodes marks place line w at is =
    marked_one_more clauses lines nodes marks (mark_all clauses place marks line.hints) place line true w at is (length-mark_all clauses place line.hints marks) (drop-mark_all clauses place line.hints marks)
    (λ j b h there. get-mark_all clauses place j line.hints marks b h there)

marked_unneeded : (clauses : ℕ) (lines : List ProofLine) (nodes : List Node) (marks : List Bool) (place : ℕ) (line : ProofLine) → AreMarked clauses lines nodes marks (suc place) → slice_get lines place ≡ Some line → slice_get marks place ≡ Some false → AreMarked clauses lines nodes marks place
marked_unneeded clauses lines nodes marks place line w at is =
    marked_one_more clauses lines nodes marks marks place line false w at is refl refl (λ j b h there. there ∙ ap Some (sym (or_nothing b)))

-- the same of the line that stands there
pub marked_unneeded_at : (clauses : ℕ) (lines : List ProofLine) (nodes : List Node) (marks : List Bool) (place : ℕ) → AreMarked clauses lines nodes marks (suc place) → place < length lines → slice_get marks place ≡ Some false → AreMarked clauses lines nodes marks place
marked_unneeded_at clauses lines nodes marks place w below is =
    let there = line_there lines place below in
    marked_unneeded clauses lines nodes marks place there.0 w there.1 is

pub marked_all : (clauses : ℕ) (lines : List ProofLine) (nodes : List Node) (marks : List Bool) → AreMarked clauses lines nodes marks 0 → marks ≡ needed nodes (clauses + 1) lines
marked_all clauses lines nodes marks w =
    let none : clauses + 1 + 0 ≡ clauses + 1 = omega arith in
    w.from ∙ ap (λ (n : ℕ). needed nodes n lines) none

-- ---- the first that is not needed

pub all_needed : (flags : List Bool) → ((j : ℕ) → j < length flags → slice_get flags j ≡ Some true) → list_all (λ flag. flag) flags ≡ true
all_needed [] each = refl
all_needed (true ∷ flags) each = all_needed flags (λ j h. each (suc j) (omega (arith, h)))
all_needed (false ∷ flags) each = let no : Some false ≡ Some true = each 0 (omega arith) in absurd (cc)

flag_at : (flags : List Bool) (place : ℕ) (b : Bool) → list_all (λ flag. flag) flags ≡ true → slice_get flags place ≡ Some b → b ≡ true
flag_at [] place b all at = absurd (cc)
flag_at (true ∷ flags) zero b all at = cc
flag_at (true ∷ flags) (suc place) b all at = flag_at flags place b all at
flag_at (false ∷ flags) place b all at = absurd (cc)

-- where each line is needed there is no first one that isn't
pub needed_have_none : (clauses : ℕ) (lines : List ProofLine) (nodes : List Node) (number : ℕ) → Needed clauses lines nodes → IsFirstUnneeded clauses lines nodes number → ⊥
needed_have_none clauses lines nodes number all w =
    let never : false ≡ true = flag_at (needed nodes (clauses + 1) lines) w.place false all w.unneeded in
    cc

one_place : (clauses : ℕ) (lines : List ProofLine) (nodes : List Node) (a b : ℕ) (v : IsFirstUnneeded clauses lines nodes a) (w : IsFirstUnneeded clauses lines nodes b) → v.place < w.place → ⊥
one_place clauses lines nodes a b v w h =
    let both : Some false ≡ Some true = sym v.unneeded ∙ w.before v.place h in
    cc

-- there is one first line that isn't needed
pub one_unneeded : (clauses : ℕ) (lines : List ProofLine) (nodes : List Node) (a b : ℕ) → IsFirstUnneeded clauses lines nodes a → IsFirstUnneeded clauses lines nodes b → a ≡ b
one_unneeded clauses lines nodes a b v w =
    elim (cases_lt v.place w.place) [
      | inl less ↦ absurd (one_place clauses lines nodes a b v w less)
      | inr no_less ↦
          elim (cases_lt w.place v.place) [
            | inl more ↦ absurd (one_place clauses lines nodes b a w v more)
            | inr no_more ↦ omega (arith, v.numbered, w.numbered, no_less, no_more)
          ]
    ]
