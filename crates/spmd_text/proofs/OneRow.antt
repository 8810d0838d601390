-- Of what stands at one place one row of statements is read, however it is put into pairs.
use Rattle.std.proofs.Common.{◌≡◌, ℕ, pos, Bool, true, false, ◌&&◌, not, List, [], ◌∷◌, ◌++◌, Some, None, refl, ap, sym, ◌∙◌, arith}
use Rattle.std.proofs.lemmas.Bool.{and_parts, false≢true}
use Rattle.std.proofs.lemmas.List.{append-nil, append_assoc}
use Rattle.std.proofs.lemmas.Option.{same_Some}
use Rattle.spmd_tree.specs.declared.tree.Expression.{Expression}
use Rattle.spmd_tree.specs.declared.tree.SpmdStatement.{SpmdStatement}
use Rattle.spmd_tree.specs.declared.tree.SpmdStatement.TheVariants as statement
use Rattle.spmd_text.specs.declared.piece.Word.TheVariants as word
use Rattle.spmd_text.specs.declared.piece.Piece.{Piece}
use Rattle.spmd_text.specs.declared.piece.Piece.TheVariants as piece
use Rattle.spmd_text.specs.declared.piece.Token.{Token}
use Rattle.spmd_text.specs.Spelling.{Rest, after_end, after_head, after_piece, after_span, after_statement, after_variable, branch_word, is_branch, is_tail}
use Rattle.spmd_text.proofs.BlockWords.{statement_strict}
use Rattle.spmd_text.proofs.NoStar.{only_left}
use Rattle.spmd_tree.specs.Plain.{Place, in_a_row, statements}
use Rattle.spmd_text.proofs.OneCall.{only_meet}
use Rattle.spmd_text.proofs.OneExpression.{between_parts, next}
use Rattle.spmd_text.proofs.OnePart.{Flows, Meets, any, flows_as, meet_as, meet_within, never_meet, nothing_flows, nothing_meets, piece_flows, piece_meets, then_flows, then_meet}
use Rattle.spmd_text.proofs.OneStatement.{closing, closing_over, ends_meet, heads_meet, leaves_meet, is_leaf, spans_meet, variables_meet}
use Rattle.spmd_text.proofs.FirstWords.{begins_on, is_one, loose, not_so, over, piece_sort, sort_begins, statement_flows, statement_sort}

statement_loose : (s : SpmdStatement) → Flows (after_statement s) any any
statement_loose s = loose (after_statement s) (statement_strict s)

-- ---- what is still to come, in a list of trees

after_all : List SpmdStatement → Rest → Rest
after_all [] z = z
after_all (s ∷ ss) z = after_all ss (after_statement s z)

all_statements : Place → List SpmdStatement → List SpmdStatement
all_statements n [] = []
all_statements n (s ∷ ss) = statements n s ++ all_statements n ss

Branchless : List SpmdStatement → Type 0
Branchless [] = Unit {0}
Branchless (s ∷ ss) = (is_branch s ≡ false) × Branchless ss

all_strict : (ss : List SpmdStatement) → after_all ss None ≡ None
unfolding after_all
all_strict [] = refl
all_strict (s ∷ ss) = ap (after_all ss) (statement_strict s) ∙ all_strict ss

-- the first statement of a row, and what is still to come behind it
record IsFirst (n : Place) (row : List SpmdStatement) (ts rest : List Token) : Type 0 where
  first : SpmdStatement
  others : List SpmdStatement
  one : is_one first ≡ true
  plain : is_branch first ≡ false
  branchless : Branchless others
  row_is : row ≡ statements n first ++ all_statements n others
  stands : after_all others (after_statement first (Some ts)) ≡ Some rest

data Headed (n : Place) (row : List SpmdStatement) (ts rest : List Token) : Type 0 where
  empty : row ≡ [] → ts ≡ rest → Headed n row ts rest
  headed : IsFirst n row ts rest → Headed n row ts rest

first_is : (n : Place) (s : SpmdStatement) (ss : List SpmdStatement) (ts rest : List Token) → is_one s ≡ true → is_branch s ≡ false → Branchless ss → after_all ss (after_statement s (Some ts)) ≡ Some rest
    → Headed n (statements n s ++ all_statements n ss) ts rest
first_is n s ss ts rest one plain less e = headed (record { first = s; others = ss; one = one; plain = plain; branchless = less; row_is = refl; stands = e })

same_row : (n : Place) (row other : List SpmdStatement) (ts rest : List Token) → row ≡ other → Headed n row ts rest → Headed n other ts rest
same_row n row other ts rest is (empty none e) = empty (sym is ∙ none) e
same_row n row other ts rest is (headed h) =
    headed (record { first = h.first; others = h.others; one = h.one; plain = h.plain; branchless = h.branchless; row_is = sym is ∙ h.row_is; stands = h.stands })

tree_head : (n : Place) (s : SpmdStatement) (ss : List SpmdStatement) (ts rest : List Token) → is_branch s ≡ false → Branchless ss
    → (after_all ss (Some ts) ≡ Some rest → Headed n (all_statements n ss) ts rest) → after_all ss (after_statement s (Some ts)) ≡ Some rest
    → Headed n (statements n s ++ all_statements n ss) ts rest
unfolding after_all all_statements Branchless
tree_head n statement.Nothing ss ts rest plain less behind e = behind e
tree_head n (statement.Sequence' p a q b) ss ts rest plain less behind e =
    let m = between_parts (after_all ss) (all_strict ss) (after_statement (statement.Sequence' p a q b) (Some ts)) rest e in
    let o = only_left (not (is_branch a) && not (is_branch b)) (after_statement b (after_statement a (Some ts))) m.here m.is in
    let tests = and_parts (not (is_branch a)) (not (is_branch b)) o.0 in
    let plain_b = not_so (is_branch b) tests.1 in
    same_row n (statements n a ++ (statements n b ++ all_statements n ss)) _ ts rest (sym (append_assoc (statements n a) (statements n b) (all_statements n ss)))
    (tree_head n a (b ∷ ss) ts rest (not_so (is_branch a) tests.0) (plain_b, less) (λ f. tree_head n b ss ts rest plain_b less behind f) (ap (after_all ss) o.1 ∙ m.so))
tree_head n s ss ts rest plain less behind e = first_is n s ss ts rest refl plain less e

list_head : (n : Place) (ss : List SpmdStatement) (ts rest : List Token) → Branchless ss → after_all ss (Some ts) ≡ Some rest → Headed n (all_statements n ss) ts rest
unfolding after_all all_statements Branchless
list_head n [] ts rest less e = empty refl (same_Some ts rest e)
list_head n (s ∷ ss) ts rest less e = tree_head n s ss ts rest less.0 less.1 (λ f. list_head n ss ts rest less.1 f) e

-- ---- what a tree takes of a list that stands at its place

record IsTaken (n : Place) (s : SpmdStatement) (ss : List SpmdStatement) (behind rest : List Token) : Type 0 where
  others : List SpmdStatement
  branchless : Branchless others
  row_is : all_statements n ss ≡ statements n s ++ all_statements n others
  stands : after_all others (Some behind) ≡ Some rest

-- the list begins with the statements of the tree
Takes : Place → SpmdStatement → Type 0
Takes n s =
    (ss : List SpmdStatement) (ts behind rest : List Token) → is_branch s ≡ false → Branchless ss → after_statement s (Some ts) ≡ Some behind → after_all ss (Some ts) ≡ Some rest → over (next rest) ≡ true
    → IsTaken n s ss behind rest

-- the statements of a block
Blocks : Place → SpmdStatement → Type 0
Blocks n s = (u : SpmdStatement) → is_branch s ≡ false → is_branch u ≡ false → Meets (after_statement s) (after_statement u) any over (statements n s ≡ statements n u)

-- what may stand behind the statements of an `if`
Tails : Place → SpmdStatement → Type 0
Tails n s = (u : SpmdStatement) → is_tail s ≡ true → is_tail u ≡ true → Meets (after_statement s) (after_statement u) over closing (statements n s ≡ statements n u)

block_of : (n : Place) (s : SpmdStatement) → Takes n s → Blocks n s
unfolding Takes Blocks after_all all_statements Branchless
block_of n s takes u plain plain' = record {
  left = flows_as (λ q h. h) (λ q h. refl) (statement_loose s);
  right = flows_as (λ q h. h) (λ q h. refl) (statement_loose u);
  one = λ ts r r' e e' h h'. ended r r' (takes (u ∷ []) ts r r' plain (plain', tt) e e' h') h;
}
  where
    at_its_end : (r r' : List Token) (t : IsTaken n s (u ∷ []) r r') → over (next r) ≡ true → Headed n (all_statements n t.others) r r' → (statements n s ≡ statements n u) × (r ≡ r')
    at_its_end r r' t h (empty none same) =
        (sym (append-nil (statements n s)) ∙ (sym (ap (λ (l : List SpmdStatement). statements n s ++ l) none) ∙ (sym t.row_is ∙ append-nil (statements n u))), same)
    at_its_end r r' t h (headed f) =
        let m = between_parts (after_all f.others) (all_strict f.others) (after_statement f.first (Some r)) r' f.stands in
        absurd (begins_on f.first f.one f.plain r m.here m.is h)

    ended : (r r' : List Token) → IsTaken n s (u ∷ []) r r' → over (next r) ≡ true → (statements n s ≡ statements n u) × (r ≡ r')
    ended r r' t h = at_its_end r r' t h (list_head n t.others r r' t.branchless t.stands)

-- a single statement is the first of a list that stands at its place
one_takes : (n : Place) (s : SpmdStatement) → is_one s ≡ true
    → ((u : SpmdStatement) → is_one u ≡ true → is_branch u ≡ false → statement_sort s ≡ statement_sort u → Meets (after_statement s) (after_statement u) any any (statements n s ≡ statements n u)) → Takes n s
unfolding Takes
one_takes n s one meets ss ts behind rest plain less e e' h = by (list_head n ss ts rest less e')
  where
    by : Headed n (all_statements n ss) ts rest → IsTaken n s ss behind rest
    by (empty none same) = absurd (begins_on s one plain ts behind e (ap (λ (l : List Token). over (next l)) same ∙ h))
    by (headed f) =
        let m = between_parts (after_all f.others) (all_strict f.others) (after_statement f.first (Some ts)) rest f.stands in
        let sorts = sym (sort_begins s one ts behind e) ∙ sort_begins f.first f.one ts m.here m.is in
        let both = (meets f.first f.one f.plain sorts).one ts behind m.here e m.is refl refl in
        record {
          others = f.others;
          branchless = f.branchless;
          row_is = f.row_is ∙ ap (λ (l : List SpmdStatement). l ++ all_statements n f.others) (sym both.0);
          stands = ap (λ (l : List Token). after_all f.others (Some l)) both.1 ∙ m.so;
        }

leaf_one : (s : SpmdStatement) → is_leaf s ≡ true → is_one s ≡ true
leaf_one statement.Nothing leaf = leaf
leaf_one (statement.Sequence' p a q b) leaf = leaf
leaf_one s leaf = refl

leaf_takes : (n : Place) (s : SpmdStatement) → is_leaf s ≡ true → Takes n s
leaf_takes n s leaf = one_takes n s (leaf_one s leaf) (λ u one plain sorts. leaves_meet n s u leaf sorts)

two_rows : (xs ys zs others all : List SpmdStatement) → all ≡ xs ++ others → others ≡ ys ++ zs → all ≡ (xs ++ ys) ++ zs
two_rows xs ys zs others all e f = e ∙ (ap (λ (l : List SpmdStatement). xs ++ l) f ∙ sym (append_assoc xs ys zs))

pair_takes : (n : Place) (p : Place) (a : SpmdStatement) (q : Place) (b : SpmdStatement) → Takes n a → Takes n b → Takes n (statement.Sequence' p a q b)
unfolding Takes
pair_takes n p a q b first second ss ts behind rest plain less e e' h =
    let o = only_left (not (is_branch a) && not (is_branch b)) (after_statement b (after_statement a (Some ts))) behind e in
    let tests = and_parts (not (is_branch a)) (not (is_branch b)) o.0 in
    let m = between_parts (after_statement b) (statement_strict b) (after_statement a (Some ts)) behind o.1 in
    let x = first ss ts m.here rest (not_so (is_branch a) tests.0) less m.is e' h in
    let y = second x.others m.here behind rest (not_so (is_branch b) tests.1) x.branchless m.so x.stands h in
    record {
      others = y.others;
      branchless = y.branchless;
      row_is = two_rows (statements n a) (statements n b) (all_statements n y.others) (all_statements n x.others) (all_statements n ss) x.row_is y.row_is;
      stands = y.stands;
    }

-- ---- branches and loops

abbrev behind_branch : Bool → Piece → Bool
behind_branch true p = closing p
behind_branch false p = true

branch_ends : (chained : Bool) → Meets (after_end chained) (after_end chained) closing (behind_branch chained) (Unit {0})
branch_ends true = nothing_meets closing closing (λ q h. h)
branch_ends false = meet_as (λ x. tt) ends_meet

branch_flows : (n : Place) (line : ℕ) (chained : Bool) (c : Expression) (a b : SpmdStatement) (before : Piece → Bool) → before (piece.Word (branch_word chained)) ≡ true
    → Flows (λ z. after_end chained (after_statement b (after_statement a (after_head line chained c z)))) before (behind_branch chained)
branch_flows n line chained c a b before so =
    then_flows (flows_as (λ q h. h) (λ q h. refl) (then_flows (then_flows (heads_meet n line line chained c c before so).left (statement_loose a)) (statement_loose b))) (branch_ends chained).left

branches_meet : (n : Place) (chained : Bool) (before : Piece → Bool) (line : ℕ) (c : Expression) (p : Place) (a : SpmdStatement) (q : Place) (b : SpmdStatement) (k : ℕ) (d : Expression) (p' : Place) (a' : SpmdStatement) (q' : Place) (b' : SpmdStatement)
    → before (piece.Word (branch_word chained)) ≡ true → Blocks n a → Tails n b
    → Meets (after_statement (statement.When' line chained c p a q b)) (after_statement (statement.When' k chained d p' a' q' b')) before (behind_branch chained)
    (statements n (statement.When' line chained c p a q b) ≡ statements n (statement.When' k chained d p' a' q' b'))
unfolding Blocks Tails
branches_meet n chained before line c p a q b k d p' a' q' b' so blocks tails =
    only_meet (not (is_branch a) && is_tail b) (not (is_branch a') && is_tail b') (branch_flows n line chained c a b before so) (branch_flows n k chained d a' b' before so)
    (λ e e'.
    let tests = and_parts (not (is_branch a)) (is_tail b) e in
    let tests' = and_parts (not (is_branch a')) (is_tail b') e' in
    meet_as (λ x. λ i. statement.When' (x.0.0.0.0 i) chained (x.0.0.0.1 i) n (in_a_row n (x.0.0.1 i)) n (in_a_row n (x.0.1 i)) ∷ [])
    (then_meet (then_meet (then_meet (heads_meet n line k chained c d before so) (blocks a' (not_so (is_branch a) tests.0) (not_so (is_branch a') tests'.0))) (tails b' tests.1 tests'.1)) (branch_ends chained)))

loop_flows : (n : Place) (line name : ℕ) (first last : Expression) (step : ℕ) (a : SpmdStatement) → Flows (λ z. after_end false (after_statement a (after_span first last (pos step) (after_variable line word.For name z)))) any any
loop_flows n line name first last step a =
    then_flows (then_flows (then_flows (variables_meet line line word.For name name).left (spans_meet n first last step first last step).left) (flows_as (λ q h. h) (λ q h. refl) (statement_loose a))) ends_meet.left

loops_meet : (n : Place) (line name : ℕ) (first last : Expression) (step : ℕ) (p : Place) (a : SpmdStatement) (k other : ℕ) (first' last' : Expression) (step' : ℕ) (p' : Place) (a' : SpmdStatement) → Blocks n a
    → Meets (after_statement (statement.Repeat' line name first last step p a)) (after_statement (statement.Repeat' k other first' last' step' p' a')) any any
    (statements n (statement.Repeat' line name first last step p a) ≡ statements n (statement.Repeat' k other first' last' step' p' a'))
unfolding Blocks
loops_meet n line name first last step p a k other first' last' step' p' a' blocks =
    only_meet (not (is_branch a)) (not (is_branch a')) (loop_flows n line name first last step a) (loop_flows n k other first' last' step' a')
    (λ e e'.
    meet_as (λ x. λ i. statement.Repeat' (x.0.0.0.0 i) (x.0.0.0.1 i) (x.0.0.1.0 i) (x.0.0.1.1 i) (x.0.0.1.2 i) n (in_a_row n (x.0.1 i)) ∷ [])
    (then_meet (then_meet (then_meet (variables_meet line k word.For name other) (spans_meet n first last step first' last' step'))
    (meet_within (λ q h. h) closing_over (blocks a' (not_so (is_branch a) e) (not_so (is_branch a') e')))) ends_meet))

branch_takes : (n : Place) (line : ℕ) (c : Expression) (p : Place) (a : SpmdStatement) (q : Place) (b : SpmdStatement) → Blocks n a → Tails n b → Takes n (statement.When' line false c p a q b)
branch_takes n line c p a q b blocks tails = one_takes n (statement.When' line false c p a q b) refl meets
  where
    meets : (u : SpmdStatement) → is_one u ≡ true → is_branch u ≡ false → 3 ≡ statement_sort u → Meets (after_statement (statement.When' line false c p a q b)) (after_statement u) any any (statements n (statement.When' line false c p a q b) ≡ statements n u)
    meets (statement.When' k false d p' a' q' b') one plain sorts = branches_meet n false any line c p a q b k d p' a' q' b' refl blocks tails
    meets (statement.When' k true d p' a' q' b') one plain sorts = absurd (omega (arith, sorts))
    meets u one plain sorts = absurd (omega (arith, sorts))

loop_takes : (n : Place) (line name : ℕ) (first last : Expression) (step : ℕ) (p : Place) (a : SpmdStatement) → Blocks n a → Takes n (statement.Repeat' line name first last step p a)
loop_takes n line name first last step p a blocks = one_takes n (statement.Repeat' line name first last step p a) refl meets
  where
    meets : (u : SpmdStatement) → is_one u ≡ true → is_branch u ≡ false → 4 ≡ statement_sort u
        → Meets (after_statement (statement.Repeat' line name first last step p a)) (after_statement u) any any (statements n (statement.Repeat' line name first last step p a) ≡ statements n u)
    meets (statement.Repeat' k other first' last' step' p' a') one plain sorts = loops_meet n line name first last step p a k other first' last' step' p' a' blocks
    meets (statement.When' k false d p' a' q' b') one plain sorts = absurd (omega (arith, sorts))
    meets (statement.When' k true d p' a' q' b') one plain sorts = absurd (omega (arith, sorts))
    meets u one plain sorts = absurd (omega (arith, sorts))

-- ---- what stands behind the statements of an `if`

closing_sort : (p : Piece) → closing p ≡ true → piece_sort p ≡ 9
closing_sort (piece.Word word.End) h = refl
closing_sort p h = absurd (false≢true h)

tail_begins : (s : SpmdStatement) → is_tail s ≡ true → (ts rest : List Token) → after_statement s (Some ts) ≡ Some rest → closing (next rest) ≡ true → piece_sort (next ts) ≡ statement_sort s
unfolding is_tail
tail_begins statement.Nothing tail ts rest e h = ap (λ (l : List Token). piece_sort (next l)) (same_Some ts rest e) ∙ closing_sort (next rest) h
tail_begins (statement.Sequence' p a q b) tail ts rest e h = absurd (false≢true tail)
tail_begins s tail ts rest e h = sort_begins s refl ts rest e

tail_flows : (s : SpmdStatement) → is_tail s ≡ true → Flows (after_statement s) over closing
unfolding is_tail
tail_flows statement.Nothing tail = nothing_flows over closing closing_over
tail_flows (statement.Otherwise' p a) tail = flows_as (λ q h. h) (λ q h. refl) (statement_flows (statement.Otherwise' p a) refl over refl)
tail_flows (statement.When' line true c p a q b) tail = flows_as (λ x h. h) (λ x h. refl) (statement_flows (statement.When' line true c p a q b) refl over refl)
tail_flows (statement.When' line false c p a q b) tail = absurd (false≢true tail)
tail_flows s tail = absurd (false≢true tail)

tails_apart : (n : Place) (s u : SpmdStatement) → is_tail s ≡ true → is_tail u ≡ true → (statement_sort s ≡ statement_sort u → ⊥) → Meets (after_statement s) (after_statement u) over closing (statements n s ≡ statements n u)
tails_apart n s u tail tail' differ =
    never_meet (tail_flows s tail) (tail_flows u tail') (λ ts r r' e e' h h'. differ (sym (tail_begins s tail ts r e h) ∙ tail_begins u tail' ts r' e' h'))

no_pair : (p : Place) (a : SpmdStatement) (q : Place) (b : SpmdStatement) → is_tail (statement.Sequence' p a q b) ≡ true → ⊥
unfolding is_tail
no_pair p a q b tail = false≢true tail

nothing_tails : (n : Place) → Tails n statement.Nothing
unfolding Tails
nothing_tails n statement.Nothing tail tail' = meet_as (λ x. refl) (nothing_meets over closing closing_over)
nothing_tails n (statement.When' k false d p' a' q' b') tail tail' = tails_apart n statement.Nothing _ tail tail' (λ h. omega (arith, h))
nothing_tails n (statement.When' k true d p' a' q' b') tail tail' = tails_apart n statement.Nothing _ tail tail' (λ h. omega (arith, h))
nothing_tails n (statement.Sequence' p a q b) tail tail' = absurd (no_pair p a q b tail')
nothing_tails n u tail tail' = tails_apart n statement.Nothing u tail tail' (λ h. omega (arith, h))

otherwise_tails : (n : Place) (p : Place) (a : SpmdStatement) → Blocks n a → Tails n (statement.Otherwise' p a)
unfolding Tails Blocks
otherwise_tails n p a blocks (statement.Otherwise' p' a') tail tail' =
    only_meet (not (is_branch a)) (not (is_branch a')) (flows a) (flows a')
    (λ e e'. meet_as (λ x. λ i. statement.Otherwise' n (in_a_row n (x.1 i)) ∷ [])
    (then_meet (then_meet (piece_meets (piece.Word word.Else) over refl) (piece_meets piece.LineEnd any refl)) (meet_within (λ q h. h) closing_over (blocks a' (not_so (is_branch a) e) (not_so (is_branch a') e')))))
  where
    flows : (b : SpmdStatement) → Flows (λ z. after_statement b (after_piece piece.LineEnd (after_piece (piece.Word word.Else) z))) over closing
    flows b = then_flows (then_flows (piece_flows (piece.Word word.Else) over refl) (piece_flows piece.LineEnd any refl)) (flows_as (λ q h. h) (λ q h. refl) (statement_loose b))
otherwise_tails n p a blocks (statement.When' k false d p' a' q' b') tail tail' = tails_apart n (statement.Otherwise' p a) _ tail tail' (λ h. omega (arith, h))
otherwise_tails n p a blocks (statement.When' k true d p' a' q' b') tail tail' = tails_apart n (statement.Otherwise' p a) _ tail tail' (λ h. omega (arith, h))
otherwise_tails n p a blocks u tail tail' = tails_apart n (statement.Otherwise' p a) u tail tail' (λ h. omega (arith, h))

branch_tails : (n : Place) (line : ℕ) (c : Expression) (p : Place) (a : SpmdStatement) (q : Place) (b : SpmdStatement) → Blocks n a → Tails n b → Tails n (statement.When' line true c p a q b)
unfolding Tails
branch_tails n line c p a q b blocks tails (statement.When' k true d p' a' q' b') tail tail' = branches_meet n true over line c p a q b k d p' a' q' b' refl blocks tails
branch_tails n line c p a q b blocks tails (statement.When' k false d p' a' q' b') tail tail' = tails_apart n (statement.When' line true c p a q b) _ tail tail' (λ h. omega (arith, h))
branch_tails n line c p a q b blocks tails u tail tail' = tails_apart n (statement.When' line true c p a q b) u tail tail' (λ h. omega (arith, h))

-- ---- all statements

record IsRead (n : Place) (s : SpmdStatement) : Type 0 where
  takes : Takes n s
  tails : Tails n s

no_tails : (n : Place) (s : SpmdStatement) → is_tail s ≡ false → Tails n s
unfolding Tails
no_tails n s other u tail tail' = absurd (false≢true (sym other ∙ tail))

no_block : (n : Place) (s : SpmdStatement) → is_branch s ≡ true → Takes n s
unfolding Takes
no_block n s branch ss ts behind rest plain less e e' h = absurd (false≢true (sym plain ∙ branch))

nothing_takes : (n : Place) → Takes n statement.Nothing
unfolding Takes
nothing_takes n ss ts behind rest plain less e e' h =
    record { others = ss; branchless = less; row_is = refl; stands = ap (after_all ss) (sym e) ∙ e' }

is_read : (n : Place) (s : SpmdStatement) → IsRead n s
unfolding is_tail
is_read n statement.Nothing = record { takes = nothing_takes n; tails = nothing_tails n }
is_read n (statement.Sequence' p a q b) = record { takes = pair_takes n p a q b (is_read n a).takes (is_read n b).takes; tails = no_tails n _ refl }
is_read n (statement.When' line true c p a q b) =
    record { takes = no_block n _ refl; tails = branch_tails n line c p a q b (block_of n a (is_read n a).takes) (is_read n b).tails }
is_read n (statement.When' line false c p a q b) =
    record { takes = branch_takes n line c p a q b (block_of n a (is_read n a).takes) (is_read n b).tails; tails = no_tails n _ refl }
is_read n (statement.Otherwise' p a) = record { takes = no_block n _ refl; tails = otherwise_tails n p a (block_of n a (is_read n a).takes) }
is_read n (statement.Repeat' line name first last step p a) =
    record { takes = loop_takes n line name first last step p a (block_of n a (is_read n a).takes); tails = no_tails n _ refl }
is_read n s = record { takes = leaf_takes n s refl; tails = no_tails n s refl }

-- Of what stands at one place, up to what ends statements, one row of statements is read.
pub rows_meet : (n : Place) (s u : SpmdStatement) → is_branch s ≡ false → is_branch u ≡ false → Meets (after_statement s) (after_statement u) any over (statements n s ≡ statements n u)
unfolding Blocks
rows_meet n s = block_of n s (is_read n s).takes
