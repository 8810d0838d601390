-- Lines that are added, and the numbers of clauses before and after.
use Rattle.std.proofs.Common.{◌≡◌, ℕ, zero, suc, ◌+◌, ◌-◌, ◌<◌, ◌≤◌, Bool, true, false, IsTrue, List, [], ◌∷◌, ◌++◌, length, map, take, get_or, slice_get, Option, Some, None, refl, ap, subst, sym, ◌∙◌, arith, inl, inr}
use Rattle.std.specs.Option.{option_map}
use Rattle.std.proofs.lemmas.Bool.{cases_lt, false≢true}
use Rattle.std.proofs.lemmas.List.{append-nil, append_assoc, length-append, map-append}
use Rattle.std.proofs.lemmas.Option.{slice_get_within, slice_get_read}
use Rattle.clauses.specs.Clauses.{Literal, Conjunction, rises, is_within}
use Rattle.refutations.specs.Proofs.{ProofLine, is_proof_number}
use Rattle.refutations.specs.Propagation.{no_values}
use Rattle.refutations.specs.Derivations.{clauses_before, clause_numbered, Derives}
use Rattle.refutations.specs.Refutations.{AreDerived}
use Rattle.refutations.proofs.Covers.{derivations-follow}
use Rattle.refutations.proofs.Numbered.{clause_numbered-line}
use Rattle.tree_lines.specs.declared.joining.Entry.{Entry}
use Rattle.tree_lines.specs.parts.LiteralSets.{are_sorted, IsTautology}
use Rattle.tree_lines.specs.parts.Entries.{HasClauseNumber, IsEntry, GoesOn, IsAddedEntry}
use Rattle.tree_lines.proofs.LiteralLaws.{sorted_from_rises, tautology_from_order}
use Rattle.tree_lines.specs.Joining.{HasEmptyLine, Joins, JoinedRefute}

-- an empty line that derives leaves no assignment
pub joined_refute : JoinedRefute
joined_refute f lines added joins a all =
    let follows = derivations-follow f (lines ++ added) joins.empty.0 joins.empty.1 joins.derived joins.empty.2 a all in
    let none = rw joins.empty.3 at follows in
    cc

-- ---- places in longer lists

front_get : {A : Type 0} → (xs ys : List A) (i : ℕ) → i < length xs → slice_get (xs ++ ys) i ≡ slice_get xs i
front_get [] ys i below = absurd (omega arith)
front_get (x ∷ xs) ys zero below = refl
front_get (x ∷ xs) ys (suc i) below = front_get xs ys i (omega arith)

front_take : {A : Type 0} → (xs ys : List A) (i : ℕ) → i ≤ length xs → take i (xs ++ ys) ≡ take i xs
front_take [] ys zero below = refl
front_take [] ys (suc i) below = absurd (omega arith)
front_take (x ∷ xs) ys zero below = refl
front_take (x ∷ xs) ys (suc i) below = ap (λ zs. x ∷ zs) (front_take xs ys i (omega arith))

seam_get : {A : Type 0} → (xs : List A) (y : A) → slice_get (xs ++ y ∷ []) (length xs) ≡ Some y
seam_get [] y = refl
seam_get (x ∷ xs) y = seam_get xs y

seam_take : {A : Type 0} → (xs ys : List A) → take (length xs) (xs ++ ys) ≡ xs
seam_take [] [] = refl
seam_take [] (y ∷ ys) = refl
seam_take (x ∷ xs) ys = ap (λ zs. x ∷ zs) (seam_take xs ys)

-- ---- numbers of clauses

numbered_front : (clauses more : List (List Literal)) (number : ℕ) (c : List Literal) → clause_numbered clauses number ≡ Some c → clause_numbered (clauses ++ more) number ≡ Some c
numbered_front clauses more zero c e = absurd (cc)
numbered_front clauses more (suc place) c e = front_get clauses more place (slice_get_within clauses place c e) ∙ e

before_more : (f : Conjunction) (lines more : List ProofLine) → clauses_before f (lines ++ more) ≡ clauses_before f lines ++ map (λ line. line.literals) more
before_more f lines more =
    ap (λ (cs : List (List Literal)). f.clauses ++ cs) (map-append (λ (line : ProofLine). line.literals) lines more)
    ∙ sym (append_assoc f.clauses (map (λ line. line.literals) lines) (map (λ line. line.literals) more))

-- a number names the same clause before more lines
pub numbered_more : (f : Conjunction) (lines more : List ProofLine) (number : ℕ) (c : List Literal) → clause_numbered (clauses_before f lines) number ≡ Some c → clause_numbered (clauses_before f (lines ++ more)) number ≡ Some c
numbered_more f lines more number c e =
    subst (λ (cs : List (List Literal)). clause_numbered cs number ≡ Some c) (sym (before_more f lines more)) (numbered_front (clauses_before f lines) (map (λ line. line.literals) more) number c e)

still_numbered : (f : Conjunction) (lines more : List ProofLine) (literals : List Literal) (number : Option ℕ) → HasClauseNumber (clauses_before f lines) literals number → HasClauseNumber (clauses_before f (lines ++ more)) literals number
still_numbered f lines more literals None numbered = numbered
still_numbered f lines more literals (Some number) numbered = (numbered_more f lines more number literals numbered.0, numbered.1)

pub entry_more : (f : Conjunction) (lines more : List ProofLine) (entry : Entry) → IsEntry f lines entry → IsEntry f (lines ++ more) entry
entry_more f lines more entry is =
    record { sorted = is.sorted; within = is.within; numbered = still_numbered f lines more entry.literals.items entry.number is.numbered }

-- an entry stays one where lines are added
pub entry_goes_on : (f : Conjunction) (lines old new : List ProofLine) (entry : Entry) → GoesOn f lines old new → IsEntry f (lines ++ old) entry → IsEntry f (lines ++ new) entry
entry_goes_on f lines old new entry on is =
    let same : (lines ++ old) ++ on.more ≡ lines ++ new = append_assoc lines old on.more ∙ ap (λ (ls : List ProofLine). lines ++ ls) (sym on.whole) in
    subst (λ (ls : List ProofLine). IsEntry f ls entry) same (entry_more f (lines ++ old) on.more entry is)

-- the line that is read at a place has this number
pub line_numbered : (f : Conjunction) (lines : List ProofLine) (number size place : ℕ) (line : ProofLine) (literals : List Literal) → size ≡ length f.clauses → size < number → place ≡ number - size - 1 → place < length lines → line ≡ get_or lines place line → literals ≡ line.literals → Some literals ≡ clause_numbered (clauses_before f lines) number
line_numbered f lines number size place line literals counted above is below read same =
    ap Some same ∙ sym (clause_numbered-line f lines number place (omega arith) ∙ ap (option_map (λ l. l.literals)) (slice_get_read lines (length lines) place line refl below read))

pub line_within : (f : Conjunction) (lines : List ProofLine) (place : ℕ) (line : ProofLine) (literals : List Literal) → AreDerived f lines → place < length lines → line ≡ get_or lines place line → literals ≡ line.literals → is_within f.variables literals ≡ true
line_within f lines place line literals derived below read same =
    ap (is_within f.variables) same ∙ (derived place line (omega arith) below (slice_get_read lines (length lines) place line refl below read)).within

-- ---- one more line

pub goes_on_none : (f : Conjunction) (lines old : List ProofLine) → AreDerived f (lines ++ old) → GoesOn f lines old old
goes_on_none f lines old derived = record { more = []; whole = sym (append-nil old); derived = derived }

derived_push : (f : Conjunction) (lines : List ProofLine) (line : ProofLine) → AreDerived f lines → Derives f lines line → AreDerived f (lines ++ line ∷ [])
derived_push f lines line derived derives place found low high got =
    elim (cases_lt place (length lines)) [
      | inl below ↦
          subst (λ (ls : List ProofLine). Derives f ls found) (sym (front_take lines (line ∷ []) place (omega arith))) (derived place found low below (sym (front_get lines (line ∷ []) place below) ∙ got))
      | inr above ↦
          let size = length-append lines (line ∷ []) in
          let last : place ≡ length lines = omega arith in
          let there = subst (λ (p : ℕ). slice_get (lines ++ line ∷ []) p ≡ Some found) last got in
          let seam = seam_get lines line in
          let same : line ≡ found = cc in
          let before : take place (lines ++ line ∷ []) ≡ lines = ap (λ (p : ℕ). take p (lines ++ line ∷ [])) last ∙ seam_take lines (line ∷ []) in
          subst (λ (ls : List ProofLine). Derives f ls found) (sym before) (subst (λ (l : ProofLine). Derives f lines l) same derives)
    ]

pub goes_on_push : (f : Conjunction) (lines old new : List ProofLine) (line : ProofLine) → new ≡ old ++ line ∷ [] → AreDerived f (lines ++ old) → Derives f (lines ++ old) line → GoesOn f lines old new
goes_on_push f lines old new line pushed derived derives =
    let whole : (lines ++ old) ++ line ∷ [] ≡ lines ++ new = append_assoc lines old (line ∷ []) ∙ ap (λ (ls : List ProofLine). lines ++ ls) (sym pushed) in
    record { more = line ∷ []; whole = pushed; derived = subst (λ (ls : List ProofLine). AreDerived f ls) whole (derived_push f (lines ++ old) line derived derives) }

-- the number of the line that comes next
pub numbered_push : (f : Conjunction) (lines old new : List ProofLine) (line : ProofLine) (number : ℕ) → new ≡ old ++ line ∷ [] → number ≡ length f.clauses + length lines + length old + 1 → clause_numbered (clauses_before f (lines ++ new)) number ≡ Some line.literals
numbered_push f lines old new line number pushed is =
    let whole : (lines ++ old) ++ line ∷ [] ≡ lines ++ new = append_assoc lines old (line ∷ []) ∙ ap (λ (ls : List ProofLine). lines ++ ls) (sym pushed) in
    let size = length-append lines old in
    let place : number ≡ length f.clauses + length (lines ++ old) + 1 = omega arith in
    subst (λ (ls : List ProofLine). clause_numbered (clauses_before f ls) number ≡ Some line.literals) whole
    (clause_numbered-line f ((lines ++ old) ++ line ∷ []) number (length (lines ++ old)) place ∙ ap (option_map (λ l. l.literals)) (seam_get (lines ++ old) line))

-- ---- the end

-- a line of an empty clause of the formula
empty_derives : (f : Conjunction) (earlier : List ProofLine) (number : ℕ) → clause_numbered (clauses_before f earlier) number ≡ Some [] → Derives f earlier (record { literals = []; hints = number ∷ [] })
empty_derives f earlier number named =
    record {
      within = refl;
      reached = record { front = []; hint = number; others = []; known = no_values; cut = refl; units = refl };
      conflict = record { clause = []; named = named; all_false = refl };
      is_last = refl;
    }

pub joins_push : (f : Conjunction) (lines old new : List ProofLine) (line : ProofLine) (number : ℕ) → clause_numbered (clauses_before f (lines ++ old)) number ≡ Some [] → AreDerived f (lines ++ old) → line ≡ record { literals = []; hints = number ∷ [] } → new ≡ old ++ line ∷ [] → Joins f lines new
joins_push f lines old new line number named derived is pushed =
    let on = goes_on_push f lines old new line pushed derived (subst (λ (l : ProofLine). Derives f (lines ++ old) l) (sym is) (empty_derives f (lines ++ old) number named)) in
    let whole : (lines ++ old) ++ line ∷ [] ≡ lines ++ new = append_assoc lines old (line ∷ []) ∙ ap (λ (ls : List ProofLine). lines ++ ls) (sym pushed) in
    record { derived = on.derived; empty = subst (λ (ls : List ProofLine). HasEmptyLine ls) whole (length (lines ++ old), line, seam_get (lines ++ old) line, ap (λ (l : ProofLine). l.literals) is) }

got_empty : (lines : List ProofLine) (place : ℕ) (o : Option ProofLine) → slice_get lines place ≡ o → option_map (λ line. line.literals) o ≡ Some [] → HasEmptyLine lines
got_empty lines place None got e = absurd (cc)
got_empty lines place (Some line) got e =
    let none : line.literals ≡ [] = cc in
    (place, line, got, none)

-- a number past the formula's clauses that names the empty clause names a line
pub joins_line : (f : Conjunction) (lines added : List ProofLine) (number : ℕ) → clause_numbered (clauses_before f (lines ++ added)) number ≡ Some [] → length f.clauses < number → AreDerived f (lines ++ added) → Joins f lines added
joins_line f lines added number named above derived =
    let place = number - length f.clauses - 1 in
    let got = clause_numbered-line f (lines ++ added) number place (omega arith) in
    record { derived = derived; empty = got_empty (lines ++ added) place (slice_get (lines ++ added) place) refl (sym got ∙ named) }

-- ---- entries

-- a clause's entry
pub clause_entry : (f : Conjunction) (lines : List ProofLine) (entry : Entry) (literals : List Literal) (number : ℕ) → entry.literals.items ≡ literals → entry.number ≡ Some number → rises literals ≡ true → is_within f.variables literals ≡ true → clause_numbered (clauses_before f lines) number ≡ Some literals → IsTrue (is_proof_number number) → IsEntry f lines entry
clause_entry f lines entry literals number same found rising within named small =
    record {
      sorted = ap are_sorted same ∙ sorted_from_rises literals rising;
      within = ap (is_within f.variables) same ∙ within;
      numbered = subst (λ (o : Option ℕ). HasClauseNumber (clauses_before f lines) entry.literals.items o) (sym found) (named ∙ ap Some (sym same), small);
    }

no_line_made : (rising numbers : Bool) → (IsTrue rising × IsTrue numbers → false ≡ true) → numbers ≡ true → rising ≡ false
no_line_made true numbers never all = absurd (false≢true (never (refl, all)))
no_line_made false numbers never all = refl

-- a set for which no line was made is a tautology
pub tautology_entry : (f : Conjunction) (lines old : List ProofLine) (literals copy : List Literal) (entry : Entry) (numbers : Bool) → entry.literals.items ≡ literals → entry.number ≡ None → copy ≡ literals → (IsTrue (rises copy) × IsTrue numbers → false ≡ true) → numbers ≡ true → are_sorted literals ≡ true → is_within f.variables literals ≡ true → AreDerived f (lines ++ old) → IsAddedEntry f lines old old literals entry
tautology_entry f lines old literals copy entry numbers same none copied never all sorted within derived =
    let tautology = tautology_from_order literals sorted (ap rises (sym copied) ∙ no_line_made (rises copy) numbers never all) in
    record {
      added = goes_on_none f lines old derived;
      is_entry = record {
        sorted = ap are_sorted same ∙ sorted;
        within = ap (is_within f.variables) same ∙ within;
        numbered = subst (λ (o : Option ℕ). HasClauseNumber (clauses_before f (lines ++ old)) entry.literals.items o) (sym none) (subst (λ (ls : List Literal). IsTautology ls) (sym same) tautology);
      };
      same = same;
    }

-- the entry of a line that was added
pub line_entry : (f : Conjunction) (lines old new : List ProofLine) (literals : List Literal) (entry : Entry) (line : ProofLine) (number : ℕ) → entry.literals.items ≡ literals → entry.number ≡ Some number → line.literals ≡ literals → new ≡ old ++ line ∷ [] → number ≡ length f.clauses + length lines + length old + 1 → IsTrue (is_proof_number number) → are_sorted literals ≡ true → is_within f.variables literals ≡ true → AreDerived f (lines ++ old) → Derives f (lines ++ old) line → IsAddedEntry f lines old new literals entry
line_entry f lines old new literals entry line number same found of_line pushed is small sorted within derived derives =
    let named = numbered_push f lines old new line number pushed is in
    record {
      added = goes_on_push f lines old new line pushed derived derives;
      is_entry = record {
        sorted = ap are_sorted same ∙ sorted;
        within = ap (is_within f.variables) same ∙ within;
        numbered = subst (λ (o : Option ℕ). HasClauseNumber (clauses_before f (lines ++ new)) entry.literals.items o) (sym found) (named ∙ ap Some (of_line ∙ sym same), small);
      };
      same = same;
    }
