-- What some bytes say is one text.
use Rattle.std.proofs.Common.{◌≡◌, ℕ, Bool, true, false, if◌then◌else◌, List, [], ◌∷◌, ◌++◌, Some, Result, Ok, Err, refl, ap, sym, ◌∙◌}
use Rattle.std.proofs.lemmas.Bool.{false≢true}
use Rattle.std.proofs.lemmas.List.{append_assoc}
use Rattle.std.proofs.lemmas.Option.{same_Some}
use Rattle.spmd_tree.specs.declared.tree.SpmdStatement.{SpmdStatement}
use Rattle.spmd_tree.specs.declared.tree.SpmdStatement.TheVariants as statement
use Rattle.spmd_text.specs.declared.fault.ParseFault.{ParseFault}
use Rattle.spmd_text.specs.declared.reading.SpmdPolicy.{SpmdPolicy}
use Rattle.spmd_text.specs.declared.reading.SpmdPolicy.TheVariants as policy
use Rattle.spmd_text.specs.declared.piece.Word.{Word}
use Rattle.spmd_text.specs.declared.piece.Word.TheVariants as word
use Rattle.spmd_text.specs.declared.piece.Piece.TheVariants as piece
use Rattle.spmd_text.specs.declared.piece.Token.{Token}
use Rattle.spmd_text.specs.Programs.{parameters_of}
use Rattle.spmd_text.specs.Spelling.{Rest, after_piece, after_policy, after_statement, after_text, is_any, is_branch, is_ordered, only, piece_begins, word_of_policy}
use Rattle.spmd_text.specs.Tokens.{Cutting}
use Rattle.spmd_text.proofs.BlockWords.{statement_strict}
use Rattle.spmd_text.proofs.NoStar.{only_left}
use Rattle.spmd_text.proofs.Strict.{only_none}
use Rattle.spmd_tree.specs.Plain.{Place, in_a_row, plain, statements}
use Rattle.spmd_text.specs.Texts.{TextsAreOne}
use Rattle.spmd_text.proofs.OneCall.{only_meet, same_words}
use Rattle.spmd_text.proofs.OnePart.{Flows, Meets, any, meet_as, piece_flows, piece_meets, pieces_meet, then_flows, then_meet}
use Rattle.spmd_text.proofs.OneRow.{rows_meet}
use Rattle.spmd_text.proofs.OneStatement.{Which, is_not, is_so, which}
use Rattle.spmd_text.proofs.FirstWords.{loose, over}

-- ---- the policy, whose line may be left out

policy_of : Word → SpmdPolicy
policy_of word.Never = policy.Never
policy_of word.Always = policy.Always
policy_of _ = policy.Any

policy_back : (p : SpmdPolicy) → policy_of (word_of_policy p) ≡ p
unfolding policy_of
policy_back policy.Any = refl
policy_back p = refl

any_policy : (p : SpmdPolicy) → is_any p ≡ true → p ≡ policy.Any
any_policy policy.Any e = refl
any_policy p e = absurd (false≢true e)

after_written : SpmdPolicy → Rest → Rest
after_written p z = after_piece piece.LineEnd (after_piece (piece.Word (word_of_policy p)) (after_piece (piece.Word word.Policy) z))

written : (p : SpmdPolicy) (z : Rest) → piece_begins (piece.Word word.Policy) z ≡ true → after_policy p z ≡ after_written p z
unfolding after_written
written p z e = ap (λ (b : Bool). if b then after_written p z else only (is_any p) z) e

unwritten : (p : SpmdPolicy) (z : Rest) → piece_begins (piece.Word word.Policy) z ≡ false → after_policy p z ≡ only (is_any p) z
unfolding after_written
unwritten p z e = ap (λ (b : Bool). if b then after_written p z else only (is_any p) z) e

written_meet : (p q : SpmdPolicy) → Meets (after_written p) (after_written q) any any (p ≡ q)
unfolding after_written
written_meet p q =
    meet_as (λ x. sym (policy_back p) ∙ (ap policy_of (same_words (word_of_policy p) (word_of_policy q) x.0.1) ∙ policy_back q))
    (then_meet (then_meet (piece_meets (piece.Word word.Policy) any refl) (pieces_meet (piece.Word (word_of_policy p)) (piece.Word (word_of_policy q)) any refl refl)) (piece_meets piece.LineEnd any refl))

policies_meet : (p q : SpmdPolicy) → Meets (after_policy p) (after_policy q) any any (p ≡ q)
policies_meet p q = record {
  left = loose (after_policy p) (only_none (is_any p));
  right = loose (after_policy q) (only_none (is_any q));
  one = λ ts r s e e' h h'. by ts r s e e' (which (piece_begins (piece.Word word.Policy) (Some ts)));
}
  where
    by : (ts r s : List Token) → after_policy p (Some ts) ≡ Some r → after_policy q (Some ts) ≡ Some s → Which (piece_begins (piece.Word word.Policy) (Some ts)) → (p ≡ q) × (r ≡ s)
    by ts r s e e' (is_so b) = (written_meet p q).one ts r s (sym (written p (Some ts) b) ∙ e) (sym (written q (Some ts) b) ∙ e') refl refl
    by ts r s e e' (is_not b) =
        let x = only_left (is_any p) (Some ts) r (sym (unwritten p (Some ts) b) ∙ e) in
        let y = only_left (is_any q) (Some ts) s (sym (unwritten q (Some ts) b) ∙ e') in
        (any_policy p x.0 ∙ sym (any_policy q y.0), sym (same_Some ts r x.1) ∙ same_Some ts s y.1)

-- ---- the whole text

ordered_plain : (s : SpmdStatement) → is_ordered s ≡ true → is_branch s ≡ false
ordered_plain (statement.Sequence' p a q b) e = refl
ordered_plain s e = absurd (false≢true e)

body_flows : (p : SpmdPolicy) (s : SpmdStatement) → Flows (λ z. after_piece piece.TextEnd (after_statement s (after_policy p (after_piece piece.LineEnd (after_piece (piece.Word word.Spmd) z))))) any any
body_flows p s =
    then_flows (then_flows (then_flows (then_flows (piece_flows (piece.Word word.Spmd) any refl) (piece_flows piece.LineEnd any refl)) (policies_meet p p).left) (loose (after_statement s) (statement_strict s))) (piece_flows piece.TextEnd any refl)

texts_meet : (n : Place) (p : SpmdPolicy) (s : SpmdStatement) (q : SpmdPolicy) (u : SpmdStatement) → Meets (after_text p s) (after_text q u) any any ((p ≡ q) × (statements n s ≡ statements n u))
texts_meet n p s q u =
    only_meet (is_ordered s) (is_ordered u) (body_flows p s) (body_flows q u)
    (λ e e'. meet_as (λ x. (x.0.0.1, x.0.1))
    (then_meet (then_meet (then_meet (then_meet (piece_meets (piece.Word word.Spmd) any refl) (piece_meets piece.LineEnd any refl)) (policies_meet p q))
    (rows_meet n s u (ordered_plain s e) (ordered_plain u e'))) (piece_meets piece.TextEnd over refl)))

-- ---- parameters

row_parameters : (n : Place) (xs ys : List SpmdStatement) → parameters_of (in_a_row n (xs ++ ys)) ≡ parameters_of (in_a_row n xs) ++ parameters_of (in_a_row n ys)
row_parameters n [] ys = refl
row_parameters n (x ∷ xs) ys =
    ap (λ (l : List ℕ). parameters_of x ++ l) (row_parameters n xs ys) ∙ sym (append_assoc (parameters_of x) (parameters_of (in_a_row n xs)) (parameters_of (in_a_row n ys)))

plain_parameters : (n : Place) (s : SpmdStatement) → parameters_of s ≡ parameters_of (plain n s)
plain_parameters n (statement.Sequence' p a q b) =
    (λ i. plain_parameters n a i ++ plain_parameters n b i) ∙ sym (row_parameters n (statements n a) (statements n b))
plain_parameters n s = refl

-- ---- the law

same_Ok : (a b : Cutting) → ◌≡◌ {A = Result Cutting ParseFault} (Ok a) (Ok b) → a ≡ b
same_Ok a b e = ap inner e
  where
    inner : Result Cutting ParseFault → Cutting
    inner (Ok c) = c
    inner (Err why) = a

pub texts_are_one : TextsAreOne
texts_are_one bytes t u is is' =
    record {
      policy = (both place).0;
      program = λ n. ap (in_a_row n) (both n).1;
      names = is.names ∙ (ap (λ (c : Cutting). c.names) state ∙ sym is'.names);
      parameters = is.parameters ∙ (plain_parameters place t.program ∙ (ap (λ (l : List SpmdStatement). parameters_of (in_a_row place l)) (both place).1 ∙ (sym (plain_parameters place u.program) ∙ sym is'.parameters)));
    }
  where
    place : Place
    place = record { ptr = t.names.ptr; alloc = t.names.alloc; value = tt }

    state : is.state ≡ is'.state
    state = same_Ok is.state is'.state (sym is.cut ∙ is'.cut)

    both : (n : Place) → (t.policy ≡ u.policy) × (statements n t.program ≡ statements n u.program)
    both n = ((texts_meet n t.policy t.program u.policy u.program).one is.state.tokens [] [] is.spelled (ap (λ (c : Cutting). after_text u.policy u.program (Some c.tokens)) state ∙ is'.spelled) refl refl).0
