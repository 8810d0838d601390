-- What is accepted stays so without the lines that are not needed, and then each line is needed.
use Rattle.std.proofs.Common.{◌≡◌, ℕ, zero, suc, ◌+◌, ◌-◌, ◌<◌, ◌≤◌, inl, inr, Bool, true, false, ◌&&◌, ◌||◌, ◌==◌, nat_lt, if◌then◌else◌, List, [], ◌∷◌, ◌++◌, Option, Some, None, map, take, length, slice_get, refl, sym, ap, ◌∙◌, subst, arith}
use Rattle.std.specs.Option.{option_map}
use Rattle.std.specs.List.{list_any, list_all}
use Rattle.std.proofs.lemmas.Bool.{cases_lt, or_left, or_right, or_cases, and_from, eq-eqb, eqb-true}
use Rattle.std.proofs.lemmas.Bool.Decides.{nat_tests}
use Rattle.std.proofs.lemmas.List.{map-append, take_all}
use Rattle.std.proofs.lemmas.Option.{slice_get-map, slice_get_within}
use Rattle.clauses.specs.Clauses.{Literal, Conjunction}
use Rattle.refutations.specs.declared.tree.Node.{Node}
use Rattle.refutations.specs.declared.tree.Node.TheVariants.{Split, Leaf}
use Rattle.refutations.specs.Proofs.{ProofLine}
use Rattle.refutations.specs.Propagation.{PartialValues, assign}
use Rattle.refutations.specs.Derivations.{clauses_before, clause_numbered, Propagates, Derives}
use Rattle.refutations.specs.BinaryTrees.{Tree, leaf, split, preorder}
use Rattle.refutations.specs.Trees.{Refutes, branch}
use Rattle.refutations.specs.Refutations.{Accepts}
use Rattle.trimming.specs.Needed.{names_leaf, is_hinted, needed, Needed, kept, count_first, renumber, renumbered_line, renumbered_node, trimmed_lines, trimmed_nodes, TrimmedAreAccepted, TrimmedAreNeeded}
use Rattle.refutations.proofs.Numbered.{clause_numbered-line}

-- ---- which lines are needed

hinted_from : (number : ℕ) (lines : List ProofLine) (flags : List Bool) (k : ℕ) (line : ProofLine) → slice_get lines k ≡ Some line → slice_get flags k ≡ Some true → list_any (λ h. h == number) line.hints ≡ true → is_hinted number lines flags ≡ true
hinted_from number [] flags k line at on named = absurd (cc)
hinted_from number (x ∷ lines) [] k line at on named = absurd (cc)
hinted_from number (x ∷ lines) (b ∷ flags) zero line at on named =
    let same : line ≡ x = cc in
    let flag : b ≡ true = cc in
    or_left (b && list_any (λ h. h == number) x.hints) (is_hinted number lines flags) (and_from b (list_any (λ h. h == number) x.hints) flag (subst (λ (z : ProofLine). list_any (λ h. h == number) z.hints ≡ true) same named))
hinted_from number (x ∷ lines) (b ∷ flags) (suc k) line at on named =
    or_right (b && list_any (λ h. h == number) x.hints) (is_hinted number lines flags) (hinted_from number lines flags k line at on named)

-- what a hint of a needed line names is needed
named_earlier : (nodes : List Node) (number : ℕ) (lines : List ProofLine) (j k : ℕ) (line : ProofLine) → slice_get lines k ≡ Some line → slice_get (needed nodes number lines) k ≡ Some true → j < k → list_any (λ h. h == number + j) line.hints ≡ true → slice_get (needed nodes number lines) j ≡ Some true
named_earlier nodes number [] j k line at on below named = absurd (cc)
named_earlier nodes number (x ∷ lines) j zero line at on below named = absurd (omega arith)
named_earlier nodes number (x ∷ lines) zero (suc k) line at on below named =
    let same : number + 0 ≡ number = omega arith in
    ap Some (or_right (names_leaf nodes number) (is_hinted number lines (needed nodes (number + 1) lines)) (hinted_from number lines (needed nodes (number + 1) lines) k line at on (subst (λ (z : ℕ). list_any (λ h. h == z) line.hints ≡ true) same named)))
named_earlier nodes number (x ∷ lines) (suc j) (suc k) line at on below named =
    let same : number + suc j ≡ number + 1 + j = omega arith in
    named_earlier nodes (number + 1) lines j k line at on (omega (arith, below)) (subst (λ (z : ℕ). list_any (λ h. h == z) line.hints ≡ true) same named)

-- what a leaf names is needed
leaf_needed : (nodes : List Node) (number : ℕ) (lines : List ProofLine) (j : ℕ) → j < length lines → names_leaf nodes (number + j) ≡ true → slice_get (needed nodes number lines) j ≡ Some true
leaf_needed nodes number [] j below named = absurd (omega arith)
leaf_needed nodes number (x ∷ lines) zero below named =
    let same : number + 0 ≡ number = omega arith in
    ap Some (or_left (names_leaf nodes number) (is_hinted number lines (needed nodes (number + 1) lines)) (subst (λ (z : ℕ). names_leaf nodes z ≡ true) same named))
leaf_needed nodes number (x ∷ lines) (suc j) below named =
    let same : number + suc j ≡ number + 1 + j = omega arith in
    leaf_needed nodes (number + 1) lines j (omega (arith, below)) (subst (λ (z : ℕ). names_leaf nodes z ≡ true) same named)

pub length_needed : (nodes : List Node) (number : ℕ) (lines : List ProofLine) → length (needed nodes number lines) ≡ length lines
length_needed nodes number [] = refl
length_needed nodes number (x ∷ lines) = ap suc (length_needed nodes (number + 1) lines)

-- ---- what is kept

kept_at : {X : Type 0} (flags : List Bool) (xs : List X) (k : ℕ) (x : X) → slice_get flags k ≡ Some true → slice_get xs k ≡ Some x → slice_get (kept flags xs) (count_first k flags) ≡ Some x
kept_at [] xs k x on at = absurd (cc)
kept_at (b ∷ flags) [] k x on at = absurd (cc)
kept_at (true ∷ flags) (y ∷ xs) zero x on at = at
kept_at (false ∷ flags) (y ∷ xs) zero x on at = absurd (cc)
kept_at (true ∷ flags) (y ∷ xs) (suc k) x on at = kept_at flags xs k x on at
kept_at (false ∷ flags) (y ∷ xs) (suc k) x on at = kept_at flags xs k x on at

record Kept (X : Type 0) (flags : List Bool) (xs : List X) (place : ℕ) (x : X) : Type 0 where
  from : ℕ
  on : slice_get flags from ≡ Some true
  at : slice_get xs from ≡ Some x
  count : count_first from flags ≡ place
  front : take place (kept flags xs) ≡ kept (take from flags) (take from xs)

from_kept : {X : Type 0} (flags : List Bool) (xs : List X) (place : ℕ) (x : X) → slice_get (kept flags xs) place ≡ Some x → Kept X flags xs place x
from_kept [] xs place x at = absurd (cc)
from_kept (b ∷ flags) [] place x at = absurd (cc)
from_kept (true ∷ flags) (y ∷ xs) zero x at = record { from = 0; on = refl; at = at; count = refl; front = refl }
from_kept (true ∷ flags) (y ∷ xs) (suc place) x at =
    let w = from_kept flags xs place x at in
    record { from = suc w.from; on = w.on; at = w.at; count = ap suc w.count; front = ap (λ (l : List _). y ∷ l) w.front }
from_kept (false ∷ flags) (y ∷ xs) place x at =
    let w = from_kept flags xs place x at in
    record { from = suc w.from; on = w.on; at = w.at; count = w.count; front = w.front }

count_take : (k j : ℕ) (flags : List Bool) → j ≤ k → count_first j (take k flags) ≡ count_first j flags
count_take k zero flags h = refl
count_take zero (suc j) flags h = absurd (omega arith)
count_take (suc k) (suc j) [] h = refl
count_take (suc k) (suc j) (true ∷ flags) h = ap suc (count_take k j flags (omega (arith, h)))
count_take (suc k) (suc j) (false ∷ flags) h = count_take k j flags (omega (arith, h))

get_take : {X : Type 0} (k j : ℕ) (xs : List X) → j < k → slice_get (take k xs) j ≡ slice_get xs j
get_take zero j xs h = absurd (omega arith)
get_take (suc k) j [] h = refl
get_take (suc k) zero (x ∷ xs) h = refl
get_take (suc k) (suc j) (x ∷ xs) h = get_take k j xs (omega (arith, h))

take_within : {X : Type 0} (k j : ℕ) (xs : List X) (x : X) → slice_get (take k xs) j ≡ Some x → j < k
take_within zero j [] x h = absurd (cc)
take_within zero j (y ∷ xs) x h = absurd (cc)
take_within (suc k) j [] x h = absurd (cc)
take_within (suc k) zero (y ∷ xs) x h = omega arith
take_within (suc k) (suc j) (y ∷ xs) x h = omega (arith, take_within k j xs x h)

take_map : {X Y : Type 0} (f : X → Y) (k : ℕ) (xs : List X) → take k (map f xs) ≡ map f (take k xs)
take_map f zero [] = refl
take_map f zero (x ∷ xs) = refl
take_map f (suc k) [] = refl
take_map f (suc k) (x ∷ xs) = ap (λ (l : List _). f x ∷ l) (take_map f k xs)

some_mapped : {X Y : Type 0} (f : X → Y) (o : Option X) (y : Y) → option_map f o ≡ Some y → (x : X) × (o ≡ Some x) × (f x ≡ y)
some_mapped f None y h = absurd (cc)
some_mapped f (Some x) y h = (x, refl, let same : f x ≡ y = cc in same)

-- ---- clauses by their new numbers

get_front : (xs ys : List (List Literal)) (n : ℕ) → n < length xs → slice_get (xs ++ ys) n ≡ slice_get xs n
get_front [] ys n h = absurd (omega arith)
get_front (x ∷ xs) ys zero h = refl
get_front (x ∷ xs) ys (suc n) h = get_front xs ys n (omega (arith, h))

numbered_front : (xs ys : List (List Literal)) (n : ℕ) → n ≤ length xs → clause_numbered (xs ++ ys) n ≡ clause_numbered xs n
numbered_front xs ys zero h = refl
numbered_front xs ys (suc n) h = get_front xs ys n (omega (arith, h))

renumber_clause : (clauses : ℕ) (flags : List Bool) (n : ℕ) → n ≤ clauses → renumber clauses flags n ≡ n
renumber_clause clauses flags n h =
    let off : nat_lt clauses n ≡ false = grind (arith, nat_tests) in
    ap (λ (b : Bool). if b then clauses + count_first (n - clauses - 1) flags + 1 else n) off

renumber_line : (clauses : ℕ) (flags : List Bool) (n j : ℕ) → n ≡ clauses + j + 1 → renumber clauses flags n ≡ clauses + count_first j flags + 1
renumber_line clauses flags n j e =
    let on : nat_lt clauses n ≡ true = grind (arith, nat_tests) in
    let place : n - clauses - 1 ≡ j = omega (arith, e) in
    ap (λ (b : Bool). if b then clauses + count_first (n - clauses - 1) flags + 1 else n) on ∙ ap (λ (z : ℕ). clauses + count_first z flags + 1) place

-- among the first so many lines, and those of them that are kept, a clause or a kept line has its
-- old and its new number
same_clause : (f : Conjunction) (lines : List ProofLine) (flags : List Bool) (k h : ℕ) (c : List Literal) → ((j : ℕ) → h ≡ length f.clauses + j + 1 → j < k → slice_get flags j ≡ Some true) → clause_numbered (clauses_before f (take k lines)) h ≡ Some c → clause_numbered (clauses_before f (map (renumbered_line (renumber (length f.clauses) flags)) (kept (take k flags) (take k lines)))) (renumber (length f.clauses) flags h) ≡ Some c
same_clause f lines flags k h c flagged e =
    let new = renumber (length f.clauses) flags in
    let then_lines = map (renumbered_line new) (kept (take k flags) (take k lines)) in
    elim (cases_lt (length f.clauses) h) [
      | inr not_above ↦
          let most : h ≤ length f.clauses = omega (arith, not_above) in
          ap (clause_numbered (clauses_before f then_lines)) (renumber_clause (length f.clauses) flags h most)
          ∙ numbered_front f.clauses (map (λ line. line.literals) then_lines) h most
          ∙ sym (numbered_front f.clauses (map (λ line. line.literals) (take k lines)) h most)
          ∙ e
      | inl above ↦
          let j = h - length f.clauses - 1 in
          let at : h ≡ length f.clauses + j + 1 = omega (arith, above) in
          let found = some_mapped (λ (line : ProofLine). line.literals) (slice_get (take k lines) j) c (sym (clause_numbered-line f (take k lines) h j at) ∙ e) in
          let below = take_within k j lines found.0 found.1 in
          let on : slice_get (take k flags) j ≡ Some true = get_take k j flags below ∙ flagged j at below in
          let stays = kept_at (take k flags) (take k lines) j found.0 on found.1 in
          let counted : count_first j (take k flags) ≡ count_first j flags = count_take k j flags (omega (arith, below)) in
          let there : slice_get then_lines (count_first j flags) ≡ Some (renumbered_line new found.0) =
          slice_get-map (renumbered_line new) (kept (take k flags) (take k lines)) (count_first j flags)
          ∙ ap (λ (z : ℕ). option_map (renumbered_line new) (slice_get (kept (take k flags) (take k lines)) z)) (sym counted)
          ∙ ap (option_map (renumbered_line new)) stays in
          clause_numbered-line f then_lines (new h) (count_first j flags) (renumber_line (length f.clauses) flags h j at)
          ∙ ap (option_map (λ (line : ProofLine). line.literals)) there
          ∙ ap Some found.2
    ]

-- ---- lines

abbrev EachOf : (ℕ → Type 0) → List ℕ → Type 0
EachOf P [] = Unit {0}
EachOf P (x ∷ xs) = P x × EachOf P xs

each_member : (P : ℕ → Type 0) (xs : List ℕ) → ((x : ℕ) → list_any (λ h. h == x) xs ≡ true → P x) → EachOf P xs
each_member P [] h = tt
each_member P (x ∷ xs) h =
    (h x (or_left (x == x) (list_any (λ y. y == x) xs) (eq-eqb x x refl)), each_member P xs (λ y m. h y (or_right (x == y) (list_any (λ z. z == y) xs) m)))

each_split : (P : ℕ → Type 0) (xs ys : List ℕ) → EachOf P (xs ++ ys) → EachOf P xs × EachOf P ys
each_split P [] ys h = (tt, h)
each_split P (x ∷ xs) ys h = let parts = each_split P xs ys h.1 in ((h.0, parts.0), parts.1)

-- the number names the same clause as the new number
abbrev IsSame : (ℕ → ℕ) → List (List Literal) → List (List Literal) → ℕ → Type 0
IsSame new before after h = (c : List Literal) → clause_numbered before h ≡ Some c → clause_numbered after (new h) ≡ Some c

propagates_by : (new : ℕ → ℕ) (variables : ℕ) (before after : List (List Literal)) (known : PartialValues) (hints : List ℕ) (end : PartialValues) → EachOf (IsSame new before after) hints → Propagates variables before known hints end → Propagates variables after known (map new hints) end
propagates_by new variables before after known [] end each p = p
propagates_by new variables before after known (h ∷ hints) end each p =
    let u = p.1 in
    (p.0, record { clause = u.clause; named = each.0 u.clause u.named; others_false = u.others_false; unassigned = u.unassigned }, propagates_by new variables before after (assign known p.0) hints end each.1 p.2)

derives_by : (new : ℕ → ℕ) (f : Conjunction) (before after : List ProofLine) (line : ProofLine) → EachOf (IsSame new (clauses_before f before) (clauses_before f after)) line.hints → Derives f before line → Derives f after (renumbered_line new line)
derives_by new f before after line each d =
    let r = d.reached in
    let parts = each_split (IsSame new (clauses_before f before) (clauses_before f after)) r.front (r.hint ∷ r.others) (subst (EachOf (IsSame new (clauses_before f before) (clauses_before f after))) r.cut each) in
    record {
      within = d.within;
      reached = record {
        front = map new r.front;
        hint = new r.hint;
        others = map new r.others;
        known = r.known;
        cut = ap (map new) r.cut ∙ map-append new r.front (r.hint ∷ r.others);
        units = propagates_by new f.variables (clauses_before f before) (clauses_before f after) _ r.front r.known parts.0 r.units;
      };
      conflict = record { clause = d.conflict.clause; named = parts.1.0 d.conflict.clause d.conflict.named; all_false = d.conflict.all_false };
      is_last = ap (map new) d.is_last;
    }

-- ---- trees

abbrev renumbered_tree : (ℕ → ℕ) → Tree → Tree
renumbered_tree new (leaf k) = leaf (new k)
renumbered_tree new (split v first second) = split v (renumbered_tree new first) (renumbered_tree new second)

preorder_renumbered : (new : ℕ → ℕ) (tree : Tree) → preorder (renumbered_tree new tree) ≡ map (renumbered_node new) (preorder tree)
preorder_renumbered new (leaf k) = refl
preorder_renumbered new (split v first second) =
    ap (λ (l : List Node). Split v ∷ l)
    (ap (λ (l : List Node). l ++ preorder (renumbered_tree new second)) (preorder_renumbered new first)
    ∙ (ap (λ (l : List Node). map (renumbered_node new) (preorder first) ++ l) (preorder_renumbered new second)
    ∙ sym (map-append (renumbered_node new) (preorder first) (preorder second))))

names_left : (xs ys : List Node) (n : ℕ) → names_leaf xs n ≡ true → names_leaf (xs ++ ys) n ≡ true
names_left [] ys n h = absurd (cc)
names_left (Split v ∷ xs) ys n h = names_left xs ys n h
names_left (Leaf k ∷ xs) ys n h =
    elim (or_cases (k == n) (names_leaf xs n) h) [ inl here ↦ or_left (k == n) _ here | inr rest ↦ or_right (k == n) _ (names_left xs ys n rest) ]

names_right : (xs ys : List Node) (n : ℕ) → names_leaf ys n ≡ true → names_leaf (xs ++ ys) n ≡ true
names_right [] ys n h = h
names_right (Split v ∷ xs) ys n h = names_right xs ys n h
names_right (Leaf k ∷ xs) ys n h = or_right (k == n) _ (names_right xs ys n h)

refutes_by : (new : ℕ → ℕ) (variables : ℕ) (before after : List (List Literal)) (path : List Literal) (tree : Tree) → ((n : ℕ) → names_leaf (preorder tree) n ≡ true → IsSame new before after n) → Refutes variables before path tree → Refutes variables after path (renumbered_tree new tree)
refutes_by new variables before after path (leaf k) same r =
    record { clause = r.clause; named = same k (or_left (k == k) false (eq-eqb k k refl)) r.clause r.named; refuted = r.refuted }
refutes_by new variables before after path (split v first second) same r = (
  r.0,
  refutes_by new variables before after (branch v true path) first (λ n h. same n (names_left (preorder first) (preorder second) n h)) r.1,
  refutes_by new variables before after (branch v false path) second (λ n h. same n (names_right (preorder first) (preorder second) n h)) r.2,
)

-- ---- what is accepted stays so

module _ (f : Conjunction) (lines : List ProofLine) (nodes : List Node) where
  abbrev flags : List Bool
  flags = needed nodes (length f.clauses + 1) lines

  abbrev new : ℕ → ℕ
  new = renumber (length f.clauses) flags

  line_derives : (k : ℕ) (line : ProofLine) → slice_get flags k ≡ Some true → slice_get lines k ≡ Some line → Derives f (take k lines) line → Derives f (map (renumbered_line new) (kept (take k flags) (take k lines))) (renumbered_line new line)
  line_derives k line on at d =
      derives_by new f (take k lines) (map (renumbered_line new) (kept (take k flags) (take k lines))) line
      (each_member (IsSame new (clauses_before f (take k lines)) (clauses_before f (map (renumbered_line new) (kept (take k flags) (take k lines))))) line.hints (λ h named c e.
      same_clause f lines flags k h c (λ j place below.
      let same : h ≡ length f.clauses + 1 + j = omega (arith, place) in
      named_earlier nodes (length f.clauses + 1) lines j k line at on below (subst (λ (z : ℕ). list_any (λ x. x == z) line.hints ≡ true) same named)) e)) d

  place_derives : Accepts f lines nodes → (place : ℕ) (line : ProofLine) → slice_get (map (renumbered_line new) (kept flags lines)) place ≡ Some line → Derives f (take place (map (renumbered_line new) (kept flags lines))) line
  place_derives accepted place line at =
      let found = some_mapped (renumbered_line new) (slice_get (kept flags lines) place) line (sym (slice_get-map (renumbered_line new) (kept flags lines) place) ∙ at) in
      let w = from_kept flags lines place found.0 found.1 in
      let d = accepted.lines_derived w.from found.0 (omega arith) (slice_get_within lines w.from found.0 w.at) w.at in
      let there = line_derives w.from found.0 w.on w.at d in
      let front : take place (map (renumbered_line new) (kept flags lines)) ≡ map (renumbered_line new) (kept (take w.from flags) (take w.from lines)) = take_map (renumbered_line new) place (kept flags lines) ∙ ap (map (renumbered_line new)) w.front in
      subst (λ (z : ProofLine). Derives f (take place (map (renumbered_line new) (kept flags lines))) z) found.2 (subst (λ (l : List ProofLine). Derives f l (renumbered_line new found.0)) (sym front) there)

  leaf_same : (n : ℕ) → names_leaf nodes n ≡ true → IsSame new (clauses_before f lines) (clauses_before f (map (renumbered_line new) (kept flags lines))) n
  leaf_same n named c e =
      let all : take (length lines) lines ≡ lines = take_all (length lines) lines (omega arith) in
      let all_flags : take (length lines) flags ≡ flags = take_all (length lines) flags (omega (arith, length_needed nodes (length f.clauses + 1) lines)) in
      let here = same_clause f lines flags (length lines) n c (λ j place below.
      let same : n ≡ length f.clauses + 1 + j = omega (arith, place) in
      leaf_needed nodes (length f.clauses + 1) lines j below (subst (λ (z : ℕ). names_leaf nodes z ≡ true) same named)) (ap (λ (l : List ProofLine). clause_numbered (clauses_before f l) n) all ∙ e) in
      ap (λ (l : List ProofLine). clause_numbered (clauses_before f (map (renumbered_line new) (kept flags l))) (new n)) (sym all)
      ∙ ap (λ (l : List Bool). clause_numbered (clauses_before f (map (renumbered_line new) (kept l (take (length lines) lines)))) (new n)) (sym all_flags)
      ∙ here

  accepted_trimmed : Accepts f lines nodes → Accepts f (map (renumbered_line new) (kept flags lines)) (map (renumbered_node new) nodes)
  accepted_trimmed accepted =
      let tree = accepted.tree.0 in
      let is = accepted.tree.1 in
      record {
        lines_derived = λ place line from below at. place_derives accepted place line at;
        tree = (
          renumbered_tree new tree,
          preorder_renumbered new tree ∙ ap (map (renumbered_node new)) is,
          refutes_by new f.variables (clauses_before f lines) (clauses_before f (map (renumbered_line new) (kept flags lines))) [] tree (λ n h. leaf_same n (subst (λ (l : List Node). names_leaf l n ≡ true) is h)) accepted.tree.2,
        );
      }

pub trimmed_are_accepted : TrimmedAreAccepted
trimmed_are_accepted f lines nodes accepted = accepted_trimmed f lines nodes accepted

-- ---- then each line is needed

any_renumbered : (new : ℕ → ℕ) (n : ℕ) (hints : List ℕ) → list_any (λ h. h == n) hints ≡ true → list_any (λ h. h == new n) (map new hints) ≡ true
any_renumbered new n [] h = absurd (cc)
any_renumbered new n (x ∷ hints) h =
    elim (or_cases (x == n) (list_any (λ h. h == n) hints) h) [
      | inl here ↦ or_left (new x == new n) _ (eq-eqb (new x) (new n) (ap new (eqb-true x n here)))
      | inr rest ↦ or_right (new x == new n) _ (any_renumbered new n hints rest)
    ]

leaf_renumbered : (new : ℕ → ℕ) (n : ℕ) (nodes : List Node) → names_leaf nodes n ≡ true → names_leaf (map (renumbered_node new) nodes) (new n) ≡ true
leaf_renumbered new n [] h = absurd (cc)
leaf_renumbered new n (Split v ∷ nodes) h = leaf_renumbered new n nodes h
leaf_renumbered new n (Leaf k ∷ nodes) h =
    elim (or_cases (k == n) (names_leaf nodes n) h) [
      | inl here ↦ or_left (new k == new n) _ (eq-eqb (new k) (new n) (ap new (eqb-true k n here)))
      | inr rest ↦ or_right (new k == new n) _ (leaf_renumbered new n nodes rest)
    ]

abbrev trues : List ProofLine → List Bool
trues lines = map (λ line. true) lines

hinted_kept : (new : ℕ → ℕ) (n : ℕ) (lines : List ProofLine) (flags : List Bool) → is_hinted n lines flags ≡ true → is_hinted (new n) (map (renumbered_line new) (kept flags lines)) (trues (map (renumbered_line new) (kept flags lines))) ≡ true
hinted_kept new n [] flags h = absurd (cc)
hinted_kept new n (x ∷ lines) [] h = absurd (cc)
hinted_kept new n (x ∷ lines) (false ∷ flags) h = hinted_kept new n lines flags h
hinted_kept new n (x ∷ lines) (true ∷ flags) h =
    elim (or_cases (list_any (λ z. z == n) x.hints) (is_hinted n lines flags) h) [
      | inl here ↦ or_left (list_any (λ z. z == new n) (map new x.hints)) _ (any_renumbered new n x.hints here)
      | inr rest ↦ or_right (list_any (λ z. z == new n) (map new x.hints)) _ (hinted_kept new n lines flags rest)
    ]

all_true : (lines : List ProofLine) → list_all (λ flag. flag) (trues lines) ≡ true
all_true [] = refl
all_true (x ∷ lines) = all_true lines

needed_step : (new : ℕ → ℕ) (nodes then_nodes : List Node) → ((n : ℕ) → names_leaf nodes n ≡ true → names_leaf then_nodes (new n) ≡ true) → (lines : List ProofLine) (n m : ℕ) → ((j : ℕ) → new (n + j) ≡ m + count_first j (needed nodes n lines)) → needed then_nodes m (map (renumbered_line new) (kept (needed nodes n lines) lines)) ≡ trues (map (renumbered_line new) (kept (needed nodes n lines) lines))
needed_step new nodes then_nodes leaves [] n m place = refl
needed_step new nodes then_nodes leaves (x ∷ lines) n m place =
    by (names_leaf nodes n || is_hinted n lines later) refl place (λ k at. needed_step new nodes then_nodes leaves lines (n + 1) k at)
  where
    later : List Bool
    later = needed nodes (n + 1) lines

    by : (b : Bool) → (names_leaf nodes n || is_hinted n lines later) ≡ b → ((j : ℕ) → new (n + j) ≡ m + count_first j (b ∷ later)) → ((k : ℕ) → ((j : ℕ) → new (n + 1 + j) ≡ k + count_first j later) → needed then_nodes k (map (renumbered_line new) (kept later lines)) ≡ trues (map (renumbered_line new) (kept later lines))) → needed then_nodes m (map (renumbered_line new) (kept (b ∷ later) (x ∷ lines))) ≡ trues (map (renumbered_line new) (kept (b ∷ later) (x ∷ lines)))
    by false e place others =
        others m (λ j. let same : n + 1 + j ≡ n + suc j = omega arith in ap new same ∙ place (suc j))
    by true e place others =
        let rest = map (renumbered_line new) (kept later lines) in
        let more = others (m + 1) (λ j. let same : n + 1 + j ≡ n + suc j = omega arith in ap new same ∙ place (suc j) ∙ (let sum : m + suc (count_first j later) ≡ m + 1 + count_first j later = omega arith in sum)) in
        let here : new n ≡ m = (let same : n ≡ n + 0 = omega arith in ap new same) ∙ place 0 ∙ (let zero_more : m + 0 ≡ m = omega arith in zero_more) in
        let head : (names_leaf then_nodes m || is_hinted m rest (trues rest)) ≡ true =
        elim (or_cases (names_leaf nodes n) (is_hinted n lines later) e) [
          | inl named ↦ or_left (names_leaf then_nodes m) _ (subst (λ (z : ℕ). names_leaf then_nodes z ≡ true) here (leaves n named))
          | inr hinted ↦ or_right (names_leaf then_nodes m) _ (subst (λ (z : ℕ). is_hinted z rest (trues rest) ≡ true) here (hinted_kept new n lines later hinted))
        ] in
        ap (λ (l : List Bool). (names_leaf then_nodes m || is_hinted m rest l) ∷ l) more ∙ ap (λ (b : Bool). b ∷ trues rest) head

pub trimmed_are_needed : TrimmedAreNeeded
trimmed_are_needed clauses lines nodes =
    let flags = needed nodes (clauses + 1) lines in
    let new = renumber clauses flags in
    let same = needed_step new nodes (map (renumbered_node new) nodes) (λ n h. leaf_renumbered new n nodes h) lines (clauses + 1) (clauses + 1) (λ j.
    let at : clauses + 1 + j ≡ clauses + j + 1 = omega arith in
    renumber_line clauses flags (clauses + 1 + j) j at ∙ (let sum : clauses + count_first j flags + 1 ≡ clauses + 1 + count_first j flags = omega arith in sum)) in
    ap (list_all (λ flag. flag)) same ∙ all_true (map (renumbered_line new) (kept flags lines))

-- ---- the same of lists that are these

pub accepted_as : (clauses : ℕ) (lines made : List ProofLine) (nodes made_nodes : List Node) → made ≡ trimmed_lines clauses lines nodes → made_nodes ≡ trimmed_nodes clauses lines nodes
    → (f : Conjunction) → length f.clauses ≡ clauses → Accepts f lines nodes → Accepts f made made_nodes
accepted_as clauses lines made nodes made_nodes is are f count accepts =
    let now = subst (λ (c : ℕ). Accepts f (trimmed_lines c lines nodes) (trimmed_nodes c lines nodes)) count (trimmed_are_accepted f lines nodes accepts) in
    subst (λ (ns : List Node). Accepts f made ns) (sym are) (subst (λ (ls : List ProofLine). Accepts f ls (trimmed_nodes clauses lines nodes)) (sym is) now)

pub needed_as : (clauses : ℕ) (lines made : List ProofLine) (nodes made_nodes : List Node) → made ≡ trimmed_lines clauses lines nodes → made_nodes ≡ trimmed_nodes clauses lines nodes
    → Needed clauses made made_nodes
needed_as clauses lines made nodes made_nodes is are =
    subst (λ (ns : List Node). Needed clauses made ns) (sym are)
    (subst (λ (ls : List ProofLine). Needed clauses ls (trimmed_nodes clauses lines nodes)) (sym is) (trimmed_are_needed clauses lines nodes))
