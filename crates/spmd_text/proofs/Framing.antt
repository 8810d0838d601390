-- What is read within a line: the same is read whatever stands behind it, and no line ends in it.
use Rattle.std.proofs.Common.{◌≡◌, ℕ, Bool, true, false, not, ◌&&◌, ◌||◌, nat_eq, List, [], ◌∷◌, ◌++◌, Option, Some, None, refl, ap, sym, subst, ◌∙◌}
use Rattle.std.proofs.lemmas.Bool.{false≢true}
use Rattle.std.proofs.lemmas.List.{append_assoc}
use Rattle.std.proofs.lemmas.Option.{same_Some}
use Rattle.spmd_tree.specs.declared.tree.Comparison.{Comparison}
use Rattle.spmd_tree.specs.declared.tree.Comparison.TheVariants as comparison
use Rattle.spmd_tree.specs.declared.tree.Operator.{Operator}
use Rattle.spmd_tree.specs.declared.tree.Operator.TheVariants as operator
use Rattle.spmd_tree.specs.declared.tree.Expression.{Expression}
use Rattle.spmd_tree.specs.declared.tree.Expression.TheVariants as form
use Rattle.spmd_tree.specs.declared.tree.LabelForm.{LabelForm}
use Rattle.spmd_tree.specs.declared.tree.GroupForm.{GroupForm}
use Rattle.spmd_tree.specs.declared.tree.Labels.{Labels}
use Rattle.spmd_tree.specs.declared.tree.Labels.TheVariants.{Last, More'}
use Rattle.spmd_tree.specs.declared.tree.Arguments.{Arguments}
use Rattle.spmd_tree.specs.declared.tree.Arguments.TheVariants as call
use Rattle.spmd_text.specs.declared.piece.Word.{Word}
use Rattle.spmd_text.specs.declared.piece.Word.TheVariants as word
use Rattle.spmd_text.specs.declared.piece.Piece.{Piece}
use Rattle.spmd_text.specs.declared.piece.Piece.TheVariants as piece
use Rattle.spmd_text.specs.declared.piece.Token.{Token}
use Rattle.spmd_text.specs.Spelling.{Rest, after_piece, after_arguments, after_communicator, after_condition, after_expression, after_group, after_index, after_label, after_labels, after_optional, after_request, after_root, after_start, after_value, after_wild, comparison_piece, is_piece, only, operator_piece}
use Rattle.spmd_text.specs.parts.Lines.{has_text_end, is_text_end}
use Rattle.spmd_text.specs.Lines.{closes, is_line}
use Rattle.spmd_text.proofs.NoStar.{left_before, only_left}
use Rattle.spmd_text.proofs.Parts.{none_some}
use Rattle.spmd_text.proofs.Pieces.{piece_is}
use Rattle.spmd_text.proofs.Strict.{only_none}

-- ---- pieces before the end of a line

-- a line in a text: it ends with the end of a line
pub record IsFull (line : List Token) : Type 0 where
  pub one : is_line line ≡ true
  pub inner : has_text_end line ≡ false

-- with these pieces before it, each such line is one still
abbrev pub Opens : List Token → Type 0
Opens read = (line : List Token) → IsFull line → IsFull (read ++ line)

-- what closes no line ends no text
pub open_piece : (p : Piece) → closes p ≡ false → is_text_end p ≡ false
open_piece piece.LineEnd e = refl
open_piece piece.TextEnd e = absurd (false≢true (sym e))
open_piece p e = refl

pub longer_line : (t : Token) → closes t.piece ≡ false → (line : List Token) → is_line line ≡ true → is_line (t ∷ line) ≡ true
longer_line t opens [] one = absurd (false≢true one)
longer_line t opens (u ∷ us) one = ap (λ (b : Bool). not b && is_line (u ∷ us)) opens ∙ one

pub one_before : (t : Token) → closes t.piece ≡ false → (line : List Token) → IsFull line → IsFull (t ∷ line)
one_before t opens line full = record {
  one = longer_line t opens line full.one;
  inner = ap (λ (b : Bool). b || has_text_end line) (open_piece t.piece opens) ∙ full.inner;
}

opens_on : (xs ys : List Token) → Opens xs → Opens ys → Opens (xs ++ ys)
opens_on xs ys one other line full = subst IsFull (sym (append_assoc xs ys line)) (one (ys ++ line) (other line full))

-- ---- what is read within a line

-- these pieces it reads, whatever stands behind them
pub record Held (f : Rest → Rest) (here rest : List Token) : Type 0 where
  pub read : List Token
  pub split : here ≡ read ++ rest
  pub opens : Opens read
  pub alone : (other : List Token) → f (Some (read ++ other)) ≡ Some other

pub record Framed (f : Rest → Rest) : Type 0 where
  pub strict : f None ≡ None
  pub held : (here rest : List Token) → f (Some here) ≡ Some rest → Held f here rest

pub framed_same : Framed (λ z. z)
framed_same = record {
  strict = refl;
  held = λ here rest e. record { read = []; split = same_Some here rest e; opens = λ line full. full; alone = λ other. refl };
}

-- first the one, then the other
pub framed_on : {f g : Rest → Rest} → Framed f → Framed g → Framed (λ z. g (f z))
framed_on {f} {g} one other = record { strict = ap g one.strict ∙ other.strict; held = held }
  where
    held : (here rest : List Token) → g (f (Some here)) ≡ Some rest → Held (λ z. g (f z)) here rest
    held here rest e =
        let b = left_before g other.strict (f (Some here)) rest e in
        let a = one.held here b.0 b.1 in
        let c = other.held b.0 rest (ap g (sym b.1) ∙ e) in
        record {
          read = a.read ++ c.read;
          split = a.split ∙ (ap (λ (xs : List Token). a.read ++ xs) c.split ∙ sym (append_assoc a.read c.read rest));
          opens = opens_on a.read c.read a.opens c.opens;
          alone = λ more.
              ap (λ (xs : List Token). g (f (Some xs))) (append_assoc a.read c.read more) ∙ (ap g (a.alone (c.read ++ more)) ∙ c.alone more);
        }

pub framed_only : {f : Rest → Rest} (b : Bool) → Framed f → Framed (λ z. only b (f z))
framed_only {f} b one = record { strict = ap (only b) one.strict ∙ only_none b; held = held }
  where
    held : (here rest : List Token) → only b (f (Some here)) ≡ Some rest → Held (λ z. only b (f z)) here rest
    held here rest e =
        let o = only_left b (f (Some here)) rest e in
        let a = one.held here rest o.1 in
        record {
          read = a.read;
          split = a.split;
          opens = a.opens;
          alone = λ other. ap (λ (k : Bool). only k (f (Some (a.read ++ other)))) o.0 ∙ a.alone other;
        }

-- a piece that ends no line
pub framed_piece : (p : Piece) → closes p ≡ false → Framed (after_piece p)
framed_piece p opens = record { strict = refl; held = held }
  where
    held : (here rest : List Token) → after_piece p (Some here) ≡ Some rest → Held (after_piece p) here rest
    held [] rest e = absurd (none_some rest e)
    held (t ∷ ts) rest e =
        let o = only_left (is_piece p t.piece) (Some ts) rest e in
        record {
          read = t ∷ [];
          split = ap (λ (xs : List Token). t ∷ xs) (same_Some ts rest o.1);
          opens = one_before t (ap closes (piece_is p t.piece o.0) ∙ opens);
          alone = λ other. ap (λ (b : Bool). only b (Some other)) o.0;
        }

-- a word on this line
pub framed_start : (line : ℕ) (w : Word) → Framed (after_start line w)
framed_start line w = record { strict = refl; held = held }
  where
    held : (here rest : List Token) → after_start line w (Some here) ≡ Some rest → Held (after_start line w) here rest
    held [] rest e = absurd (none_some rest e)
    held (t ∷ ts) rest e =
        let b = left_before (after_piece (piece.Word w)) refl (only (nat_eq t.line line) (Some (t ∷ ts))) rest e in
        let l = only_left (nat_eq t.line line) (Some (t ∷ ts)) b.0 b.1 in
        let o = only_left (is_piece (piece.Word w) t.piece) (Some ts) rest (ap (after_piece (piece.Word w)) (l.1 ∙ sym b.1) ∙ e) in
        record {
          read = t ∷ [];
          split = ap (λ (xs : List Token). t ∷ xs) (same_Some ts rest o.1);
          opens = one_before t (ap closes (piece_is (piece.Word w) t.piece o.0));
          alone = λ other.
              ap (λ (k : Bool). after_piece (piece.Word w) (only k (Some (t ∷ other)))) l.0 ∙ ap (λ (k : Bool). only k (Some other)) o.0;
        }

-- ---- expressions

operator_open : (o : Operator) → closes (operator_piece o) ≡ false
operator_open operator.Plus = refl
operator_open operator.Minus = refl
operator_open operator.Times = refl
operator_open operator.Quotient = refl
operator_open operator.Remainder = refl
operator_open operator.Left = refl
operator_open operator.Right = refl
operator_open operator.Exclusive = refl

comparison_open : (c : Comparison) → closes (comparison_piece c) ≡ false
comparison_open comparison.Same = refl
comparison_open comparison.Other = refl
comparison_open comparison.Below = refl
comparison_open comparison.UpTo = refl
comparison_open comparison.Above = refl
comparison_open comparison.From = refl

pub framed_word : (w : Word) → Framed (after_piece (piece.Word w))
framed_word w = framed_piece (piece.Word w) refl

pub framed_expression : (e : Expression) → Framed (after_expression e)
framed_expression (form.Literal n) = framed_piece (piece.Number n) refl
framed_expression form.Null = framed_word word.Null
framed_expression form.Rank = framed_word word.Rank
framed_expression form.Size = framed_word word.Size
framed_expression (form.Named k) = framed_piece (piece.Name k) refl
framed_expression (form.Binary' o p a q b) =
    framed_only _ (framed_on (framed_on (framed_expression a) (framed_piece (operator_piece o) (operator_open o))) (framed_expression b))
framed_expression (form.Compare' c p a q b) =
    framed_only _ (framed_on (framed_on (framed_expression a) (framed_piece (comparison_piece c) (comparison_open c))) (framed_expression b))
framed_expression (form.Negative' p a) = framed_only _ (framed_on (framed_piece piece.Minus refl) (framed_expression a))
framed_expression (form.Grouped' p a) = framed_on (framed_on (framed_piece piece.Open refl) (framed_expression a)) (framed_piece piece.Close refl)
framed_expression (form.Negation' p a) = framed_only _ (framed_on (framed_word word.Not) (framed_expression a))
framed_expression (form.Both' p a q b) = framed_only _ (framed_on (framed_on (framed_expression a) (framed_word word.And)) (framed_expression b))
framed_expression (form.Either' p a q b) = framed_only _ (framed_on (framed_on (framed_expression a) (framed_word word.Or)) (framed_expression b))
framed_expression (form.Choice' p c q a s b) =
    framed_only _
    (framed_on (framed_on (framed_on (framed_on (framed_on (framed_word word.If) (framed_expression c)) (framed_word word.Then)) (framed_expression a)) (framed_word word.Else)) (framed_expression b))

pub framed_value : (e : Expression) → Framed (after_value e)
framed_value e = framed_only _ (framed_expression e)

pub framed_condition : (e : Expression) → Framed (after_condition e)
framed_condition e = framed_only _ (framed_expression e)

pub framed_optional : (p : Piece) → closes p ≡ false → (e : Option Expression) → Framed (after_optional p e)
framed_optional p opens None = framed_same
framed_optional p opens (Some e) = framed_on (framed_piece p opens) (framed_value e)

-- ---- calls

framed_comma : Framed (after_piece piece.Comma)
framed_comma = framed_piece piece.Comma refl

framed_index : (e : Option Expression) → Framed (after_index e)
framed_index None = framed_same
framed_index (Some e) = framed_on (framed_on (framed_piece piece.OpenIndex refl) (framed_value e)) (framed_piece piece.CloseIndex refl)

pub framed_label : (f : LabelForm) → Framed (after_label f)
framed_label f = framed_on (framed_piece (piece.Name f.name) refl) (framed_index f.index)

pub framed_request : (r : Option LabelForm) → Framed (after_request r)
framed_request None = framed_same
framed_request (Some f) = framed_on (framed_label f) framed_comma

pub framed_wild : (e : Option Expression) → Framed (after_wild e)
framed_wild None = framed_piece piece.Star refl
framed_wild (Some e) = framed_value e

pub framed_communicator : (c : Option Expression) → Framed (after_communicator c)
framed_communicator c = framed_optional (piece.Word word.Comm) refl c

framed_root : (e : Option Expression) → Framed (after_root e)
framed_root None = framed_same
framed_root (Some e) = framed_value e

framed_group : (g : Option GroupForm) → Framed (after_group g)
framed_group None = framed_same
framed_group (Some g) =
    framed_on (framed_on (framed_on (framed_on (framed_word word.Among) (framed_value g.first)) (framed_word word.To)) (framed_value g.last))
    (framed_optional (piece.Word word.Step) refl g.step)

pub framed_labels : (labels : Labels) → Framed (after_labels labels)
framed_labels (Last f) = framed_label f
framed_labels (More' f p others) = framed_on (framed_on (framed_label f) framed_comma) (framed_labels others)

-- two parts with a comma between them
pub framed_pair : {f g : Rest → Rest} → Framed f → Framed g → Framed (λ z. g (after_piece piece.Comma (f z)))
framed_pair one other = framed_on (framed_on one framed_comma) other

pub framed_arguments : (c : Arguments) → Framed (after_arguments c)
framed_arguments (call.Send mode request d t c) =
    framed_on (framed_pair (framed_on (framed_request request) (framed_value d)) (framed_value t)) (framed_communicator c)
framed_arguments (call.Receive request s t c) =
    framed_on (framed_pair (framed_on (framed_request request) (framed_wild s)) (framed_wild t)) (framed_communicator c)
framed_arguments (call.MatchedProbe handle s t c) =
    framed_on (framed_pair (framed_pair (framed_label handle) (framed_wild s)) (framed_wild t)) (framed_communicator c)
framed_arguments (call.Probe s t c) = framed_on (framed_pair (framed_wild s) (framed_wild t)) (framed_communicator c)
framed_arguments (call.MatchedReceive request handle) = framed_on (framed_request request) (framed_label handle)
framed_arguments (call.Wait request) = framed_label request
framed_arguments (call.SendReceive d t s u c) =
    framed_on (framed_pair (framed_pair (framed_pair (framed_value d) (framed_value t)) (framed_wild s)) (framed_wild u)) (framed_communicator c)
framed_arguments (call.Collective k root g c) =
    framed_only _ (framed_on (framed_on (framed_root root) (framed_group g)) (framed_communicator c))
