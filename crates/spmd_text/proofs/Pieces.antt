-- A piece that was taken is the one that has to stand there.
use Rattle.std.proofs.Common.{Option, None, nat_eq, ◌≡◌, ℕ, ℤ, ◌-◌, Bool, true, false, cond, nat_lt, int_le, List, [], ◌∷◌, get_or, Some, refl, ap, sym, ◌∙◌, arith, if◌then◌else◌}
use Rattle.std.proofs.lemmas.Bool.{eq-eqb, eqb-true, false≢true}
use Rattle.std.proofs.lemmas.Int.{ints}
use Rattle.spmd_text.specs.declared.piece.Word.{Word}
use Rattle.spmd_text.specs.declared.piece.Word.TheVariants as word
use Rattle.spmd_text.specs.declared.piece.Piece.{Piece}
use Rattle.spmd_text.specs.declared.piece.Piece.TheVariants as piece
use Rattle.spmd_text.specs.declared.piece.Token.{Token}
use Rattle.spmd_text.specs.Words.{word_code, code}
use Rattle.spmd_text.specs.declared.fault.ParseReason.{ParseReason}
use Rattle.spmd_text.specs.parts.Reading.{next_of, behind_next}
use Rattle.spmd_text.specs.Spelling.{is_name_piece, is_number_piece, same_number, is_piece, only, after_piece}

-- neither a name nor a number: its code tells it
unfoldable pub is_plain : Piece → Bool
is_plain (piece.Name k) = false
is_plain (piece.Number n) = false
is_plain _ = true

words : List Word
words =
    word.Spmd ∷ word.Policy ∷ word.Any ∷ word.Never ∷ word.Always ∷ word.Param ∷ word.Let ∷ word.For ∷ word.To ∷ word.Step ∷
    word.End ∷ word.If ∷ word.Then ∷ word.Elif ∷ word.Else ∷ word.Error ∷ word.Comm ∷ word.Among ∷ word.Rank ∷ word.Size ∷
    word.Null ∷ word.Not ∷ word.And ∷ word.Or ∷ word.Div ∷ word.Mod ∷ word.Shl ∷ word.Shr ∷ word.Xor ∷ word.Send ∷
    word.Ssend ∷ word.Bsend ∷ word.Isend ∷ word.Issend ∷ word.Ibsend ∷ word.Recv ∷ word.Irecv ∷ word.Probe ∷ word.Mprobe ∷ word.Mrecv ∷
    word.Imrecv ∷ word.Wait ∷ word.Waitall ∷ word.Sendrecv ∷ word.Barrier ∷ word.Bcast ∷ word.Reduce ∷ word.Allreduce ∷ word.Gather ∷ word.Scatter ∷
    word.Allgather ∷ word.Alltoall ∷ word.Scan ∷ []

signs : List Piece
signs =
    piece.Name 0 ∷ piece.Name 0 ∷ piece.Equals ∷ piece.Same ∷ piece.Other ∷ piece.Below ∷ piece.UpTo ∷ piece.Above ∷ piece.From ∷
    piece.Plus ∷ piece.Minus ∷ piece.Star ∷ piece.Open ∷ piece.Close ∷ piece.OpenIndex ∷ piece.CloseIndex ∷ piece.Comma ∷ piece.LineEnd ∷ piece.TextEnd ∷ []

-- the piece of a code
piece_of : ℕ → Piece
piece_of n = if nat_lt n 100 then piece.Word (get_or words n word.Spmd) else get_or signs (n - 100) piece.TextEnd

piece_back : (w : Word) → piece_of (word_code w) ≡ piece.Word w
unfolding piece_of words
piece_back word.Spmd = refl
piece_back w = refl

plain_back : (p : Piece) → is_plain p ≡ true → piece_of (code p) ≡ p
unfolding piece_of signs is_plain
plain_back (piece.Word w) e = piece_back w
plain_back (piece.Name k) e = absurd (false≢true e)
plain_back (piece.Number n) e = absurd (false≢true e)
plain_back p e = refl

other_back : (p : Piece) → is_plain p ≡ false → is_plain (piece_of (code p)) ≡ false
unfolding piece_of signs is_plain
other_back (piece.Name k) e = refl
other_back (piece.Number n) e = refl
other_back p e = absurd (false≢true (sym e))

pub same_code : (p q : Piece) (b : Bool) → is_plain q ≡ b → is_plain p ≡ true → code q ≡ code p → q ≡ p
same_code p q true e f same = sym (plain_back q e) ∙ (ap piece_of same ∙ plain_back p f)
same_code p q false e f same =
    absurd (false≢true (sym (other_back q e) ∙ (ap is_plain (ap piece_of same ∙ plain_back p f) ∙ f)))

same_name : (q : Piece) (k : ℕ) → is_name_piece q k ≡ true → q ≡ piece.Name k
same_name (piece.Name j) k e = ap piece.Name (eqb-true j k e)
same_name q k e = absurd (false≢true e)

cond_both : (a b : Bool) → cond a b false ≡ true → (a ≡ true) × (b ≡ true)
cond_both true b e = (refl, e)
cond_both false b e = absurd (false≢true e)

numbers_same : (a b : ℤ) → same_number a b ≡ true → a ≡ b
numbers_same a b e = let both = cond_both (int_le a b) (int_le b a) e in grind (arith, ints)

same_integer : (q : Piece) (n : ℤ) → is_number_piece q n ≡ true → q ≡ piece.Number n
same_integer (piece.Number m) n e = ap piece.Number (numbers_same m n e)
same_integer q n e = absurd (false≢true e)

-- the piece is the one that has to stand there
pub piece_is : (p q : Piece) → is_piece p q ≡ true → q ≡ p
unfolding is_plain
piece_is (piece.Name k) q e = same_name q k e
piece_is (piece.Number n) q e = same_integer q n e
piece_is p q e = same_code p q (is_plain q) refl refl (eqb-true (code q) (code p) e)

-- what stands first where a piece is taken, and what is left
pub record IsTaken (p : Piece) (here rest : List Token) : Type 0 where
  pub token : Token
  pub here_is : here ≡ token ∷ rest
  pub piece_so : token.piece ≡ p

only_some : (b : Bool) (xs ys : List Token) → only b (Some xs) ≡ Some ys → (b ≡ true) × (xs ≡ ys)
only_some true xs ys e = (refl, cc)
only_some false xs ys e = absurd cc

pub taken : (p : Piece) (here rest : List Token) → after_piece p (Some here) ≡ Some rest → IsTaken p here rest
taken p [] rest e = absurd cc
taken p (t ∷ ts) rest e =
    let both = only_some (is_piece p t.piece) ts rest e in
    record { token = t; here_is = ap (λ xs. t ∷ xs) both.1; piece_so = piece_is p t.piece both.0 }

piece_same : (p : Piece) → is_plain p ≡ true → is_piece p p ≡ true
unfolding is_plain
piece_same (piece.Word w) e = eq-eqb (word_code w) (word_code w) refl
piece_same (piece.Name k) e = absurd (false≢true e)
piece_same (piece.Number n) e = absurd (false≢true e)
piece_same p e = refl

-- the next piece is one that the end of the text is not, and was taken
pub passed : (fault : Option ParseReason) (here : List Token) (p : Piece) → is_plain p ≡ true → (p ≡ piece.TextEnd → ⊥) → next_of fault here ≡ p → after_piece p (Some here) ≡ Some (behind_next here)
passed (Some why) here p plain other is = absurd (other (sym is))
passed None [] p plain other is = absurd (other (sym is))
passed None (t ∷ ts) p plain other is =
    let same : is_piece p t.piece ≡ true = ap (is_piece p) is ∙ piece_same p plain in
    ap (λ (b : Bool). only b (Some ts)) same

-- the same, by the codes of the pieces
pub passed_code : (fault : Option ParseReason) (here : List Token) (p : Piece) → is_plain p ≡ true → (p ≡ piece.TextEnd → ⊥) → nat_eq (code (next_of fault here)) (code p) ≡ true → after_piece p (Some here) ≡ Some (behind_next here)
passed_code fault here p plain other is =
    passed fault here p plain other (same_code p (next_of fault here) (is_plain (next_of fault here)) refl plain (eqb-true (code (next_of fault here)) (code p) is))
