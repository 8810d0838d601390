-- Only the names that stand in the pieces matter: with others in the place of all the rest, lines
-- may stand where they could before.
use Rattle.std.proofs.Common.{◌≡◌, ℕ, Bool, true, false, List, [], ◌∷◌, ◌++◌, Option, Some, None, slice_get, refl, ap, sym, subst, ◌∙◌}
use Rattle.std.proofs.lemmas.Bool.{false≢true}
use Rattle.std.proofs.lemmas.Option.{same_Some}
use Rattle.std.specs.Global.{Vec}
use Rattle.spmd_tree.specs.declared.tree.LabelForm.{LabelForm}
use Rattle.spmd_tree.specs.declared.tree.Labels.{Labels}
use Rattle.spmd_tree.specs.declared.tree.Labels.TheVariants.{Last, More'}
use Rattle.spmd_tree.specs.declared.tree.Arguments.{Arguments}
use Rattle.spmd_tree.specs.declared.tree.Arguments.TheVariants as call
use Rattle.spmd_tree.specs.declared.tree.SpmdStatement.{SpmdStatement}
use Rattle.spmd_tree.specs.declared.tree.SpmdStatement.TheVariants as statement
use Rattle.spmd_text.specs.declared.piece.Piece.{Piece}
use Rattle.spmd_text.specs.declared.piece.Piece.TheVariants as piece
use Rattle.spmd_text.specs.declared.piece.Word.TheVariants as word
use Rattle.spmd_text.specs.declared.piece.Token.{Token}
use Rattle.spmd_text.specs.FirstFaults.{AreAlike, IsAlike, letters_if_there}
use Rattle.spmd_text.specs.Labels.{has_index, is_label, label_fits, name_fits}
use Rattle.spmd_text.specs.parts.Lines.{Level, Runs, Steps}
use Rattle.spmd_text.specs.parts.Lines as lines
use Rattle.spmd_text.specs.Rules.{IfThere, MayCall, MayLabel, MayLabels}
use Rattle.spmd_text.specs.Spelling.{Rest, after_piece, after_arguments, after_index, after_label, after_labels, after_request, after_start, after_statement, call_word}
use Rattle.spmd_text.specs.parts.Statements.{first_word, is_one, is_simple}
use Rattle.spmd_text.specs.Statements.{Obeys, Scope}
use Rattle.spmd_text.proofs.Framing.{Framed, framed_communicator, framed_label, framed_on, framed_pair, framed_piece, framed_request, framed_start, framed_value, framed_wild}
use Rattle.spmd_text.proofs.NoStar.{left_before}
use Rattle.spmd_text.proofs.Parts.{none_some}
use Rattle.spmd_text.proofs.Pieces.{taken}
use Rattle.spmd_text.proofs.Strict.{arguments_strict, index_strict, label_strict, labels_strict}

-- ---- the names in some pieces

pub alike_first : (names others : List (Vec ℕ)) (a b : List Token) → AreAlike names others (a ++ b) → AreAlike names others a
alike_first names others [] b h = tt
alike_first names others (t ∷ a) b h = (h.0, alike_first names others a b h.1)

pub alike_second : (names others : List (Vec ℕ)) (a b : List Token) → AreAlike names others (a ++ b) → AreAlike names others b
alike_second names others [] b h = h
alike_second names others (t ∷ a) b h = alike_second names others a b h.1

piece_back : (names others : List (Vec ℕ)) (p : Piece) → IsAlike names others p → IsAlike others names p
piece_back names others (piece.Name k) h = sym h
piece_back names others p h = tt

pub alike_back : (names others : List (Vec ℕ)) (pieces : List Token) → AreAlike names others pieces → AreAlike others names pieces
alike_back names others [] h = tt
alike_back names others (t ∷ ts) h = (piece_back names others t.piece h.0, alike_back names others ts h.1)

alike_behind : {f : Rest → Rest} (names others : List (Vec ℕ)) (here rest : List Token) → Framed f → f (Some here) ≡ Some rest → AreAlike names others here → AreAlike names others rest
alike_behind names others here rest framed e h =
    let a = framed.held here rest e in alike_second names others a.read rest (subst (AreAlike names others) a.split h)

-- ---- labels

fits_alike : (a b : Option (Vec ℕ)) (indexed : Bool) → letters_if_there a ≡ letters_if_there b → name_fits a indexed ≡ name_fits b indexed
fits_alike None None indexed e = refl
fits_alike None (Some b) indexed e = absurd (none_some b.items e)
fits_alike (Some a) None indexed e = absurd (none_some a.items (sym e))
fits_alike (Some a) (Some b) indexed e = ap (λ (w : List ℕ). is_label w indexed) (same_Some a.items b.items e)

label_alike : (names others : List (Vec ℕ)) (f : LabelForm) (here rest : List Token) → after_label f (Some here) ≡ Some rest → AreAlike names others here → label_fits names f ≡ label_fits others f
label_alike names others f here rest e h =
    let m = left_before (after_index f.index) (index_strict f.index) (after_piece (piece.Name f.name) (Some here)) rest e in
    let t = taken (piece.Name f.name) here m.0 m.1 in
    let named : AreAlike names others (t.token ∷ m.0) = subst (AreAlike names others) t.here_is h in
    fits_alike (slice_get names f.name) (slice_get others f.name) (has_index f.index) (subst (IsAlike names others) t.piece_so named.0)

may_label : (flag : Bool) (names others : List (Vec ℕ)) (f : LabelForm) (here rest : List Token) → after_label f (Some here) ≡ Some rest → AreAlike names others here
    → MayLabel flag names f → MayLabel flag others f
may_label flag names others f here rest e h may = record { fits = sym (label_alike names others f here rest e h) ∙ may.fits; index = may.index }

may_request : (flag : Bool) (names others : List (Vec ℕ)) (r : Option LabelForm) (here rest : List Token) → after_request r (Some here) ≡ Some rest → AreAlike names others here
    → IfThere (MayLabel flag names) r → IfThere (MayLabel flag others) r
may_request flag names others None here rest e h may = tt
may_request flag names others (Some f) here rest e h may =
    let m = left_before (after_piece piece.Comma) refl (after_label f (Some here)) rest e in may_label flag names others f here m.0 m.1 h may

may_labels : (flag : Bool) (names others : List (Vec ℕ)) (labels : Labels) (here rest : List Token) → after_labels labels (Some here) ≡ Some rest → AreAlike names others here
    → MayLabels flag names labels → MayLabels flag others labels
may_labels flag names others (Last f) here rest e h may = may_label flag names others f here rest e h may
may_labels flag names others (More' f p more) here rest e h may =
    let second = left_before (after_labels more) (labels_strict more) (after_piece piece.Comma (after_label f (Some here))) rest e in
    let first = left_before (after_piece piece.Comma) refl (after_label f (Some here)) second.0 second.1 in
    let behind = alike_behind names others here second.0 (framed_on (framed_label f) (framed_piece piece.Comma refl)) second.1 h in
    (may_label flag names others f here first.0 first.1 h may.0, may_labels flag names others more second.0 rest (ap (after_labels more) (sym second.1) ∙ e) behind may.1)

-- ---- calls

before_framed : {f : Rest → Rest} → Framed f → (z : Rest) (rest : List Token) → f z ≡ Some rest → (before : List Token) × (z ≡ Some before)
before_framed {f} framed z rest e = left_before f framed.strict z rest e

may_call : (flag : Bool) (names others : List (Vec ℕ)) (c : Arguments) (here rest : List Token) → after_arguments c (Some here) ≡ Some rest → AreAlike names others here
    → MayCall flag names c → MayCall flag others c
may_call flag names others (call.Send mode request d t c) here rest e h may =
    let m = before_framed (framed_on (framed_pair (framed_value d) (framed_value t)) (framed_communicator c)) (after_request request (Some here)) rest e in
    (may_request flag names others request here m.0 m.1 h may.0, may.1, may.2, may.3)
may_call flag names others (call.Receive request s t c) here rest e h may =
    let m = before_framed (framed_on (framed_pair (framed_wild s) (framed_wild t)) (framed_communicator c)) (after_request request (Some here)) rest e in
    (may_request flag names others request here m.0 m.1 h may.0, may.1, may.2, may.3)
may_call flag names others (call.MatchedProbe handle s t c) here rest e h may =
    let m = before_framed (framed_on (framed_on (framed_piece piece.Comma refl) (framed_pair (framed_wild s) (framed_wild t))) (framed_communicator c)) (after_label handle (Some here)) rest e in
    (may_label flag names others handle here m.0 m.1 h may.0, may.1, may.2, may.3)
may_call flag names others (call.Probe s t c) here rest e h may = may
may_call flag names others (call.MatchedReceive request handle) here rest e h may =
    let m = left_before (after_label handle) (label_strict handle) (after_request request (Some here)) rest e in (
      may_request flag names others request here m.0 m.1 h may.0,
      may_label flag names others handle m.0 rest (ap (after_label handle) (sym m.1) ∙ e) (alike_behind names others here m.0 (framed_request request) m.1 h) may.1,
    )
may_call flag names others (call.Wait request) here rest e h may = may_label flag names others request here rest e h may
may_call flag names others (call.SendReceive d t s u c) here rest e h may = may
may_call flag names others (call.Collective k root g c) here rest e h may = may

-- ---- statements of one line

abbrev scope_renamed : List (Vec ℕ) → Scope → Scope
scope_renamed others scope = record { in_parameter = scope.in_parameter; names = others; parameters = scope.parameters; loops = scope.loops }

simple_obeys : (others : List (Vec ℕ)) (scope : Scope) (depth : ℕ) (s : SpmdStatement) (line rest : List Token) → is_one s ≡ true → is_simple (first_word s) ≡ true
    → after_statement s (Some line) ≡ Some rest → AreAlike scope.names others line → Obeys scope depth s → Obeys (scope_renamed others scope) depth s
simple_obeys others scope depth statement.Nothing line rest one simple e h o = absurd (false≢true one)
simple_obeys others scope depth (statement.Sequence' p a q b) line rest one simple e h o = absurd (false≢true one)
simple_obeys others scope depth (statement.Parameter number name v) line rest one simple e h o = absurd (false≢true one)
simple_obeys others scope depth (statement.Assign number name v) line rest one simple e h o = o
simple_obeys others scope depth (statement.When' number true c p a q b) line rest one simple e h o = absurd (false≢true simple)
simple_obeys others scope depth (statement.When' number false c p a q b) line rest one simple e h o = absurd (false≢true simple)
simple_obeys others scope depth (statement.Otherwise' p a) line rest one simple e h o = absurd (false≢true simple)
simple_obeys others scope depth (statement.Repeat' number name first final step p a) line rest one simple e h o = absurd (false≢true simple)
simple_obeys others scope depth (statement.Call number c) line rest one simple e h o =
    let begun : Rest = after_start number (call_word c) (Some line) in
    let second = left_before (after_piece piece.LineEnd) refl (after_arguments c begun) rest e in
    let first = left_before (after_arguments c) (arguments_strict c) begun second.0 second.1 in
    may_call scope.in_parameter scope.names others c first.0 second.0 (ap (after_arguments c) (sym first.1) ∙ second.1)
    (alike_behind scope.names others line first.0 (framed_start number (call_word c)) first.1 h) o
simple_obeys others scope depth (statement.WaitAll number requests) line rest one simple e h o =
    let begun : Rest = after_start number word.Waitall (Some line) in
    let second = left_before (after_piece piece.LineEnd) refl (after_labels requests begun) rest e in
    let first = left_before (after_labels requests) (labels_strict requests) begun second.0 second.1 in (
      may_labels scope.in_parameter scope.names others requests first.0 second.0 (ap (after_labels requests) (sym first.1) ∙ second.1)
          (alike_behind scope.names others line first.0 (framed_start number word.Waitall) first.1 h) o.0,
      o.1,
    )
simple_obeys others scope depth (statement.Unreached number) line rest one simple e h o = tt

-- ---- levels that differ in their names alone

abbrev renamed : List (Vec ℕ) → Level → Level
renamed others l = record { block = l.block; scope = scope_renamed others l.scope; depth = l.depth }

abbrev pub all_renamed : List (Vec ℕ) → List Level → List Level
all_renamed others [] = []
all_renamed others (l ∷ ls) = renamed others l ∷ all_renamed others ls

abbrev pub HaveNames : List (Vec ℕ) → List Level → Type 0
HaveNames names [] = Unit {0}
HaveNames names (l ∷ ls) = (l.scope.names ≡ names) × HaveNames names ls

renamed_have : (others : List (Vec ℕ)) (levels : List Level) → HaveNames others (all_renamed others levels)
renamed_have others [] = tt
renamed_have others (l ∷ ls) = (refl, renamed_have others ls)

renamed_back : (names others : List (Vec ℕ)) (levels : List Level) → HaveNames names levels → all_renamed names (all_renamed others levels) ≡ levels
renamed_back names others [] have = refl
renamed_back names others (l ∷ ls) have =
    ap (λ (n : List (Vec ℕ)). renamed n l ∷ all_renamed names (all_renamed others ls)) (sym have.0) ∙ ap (λ (ms : List Level). l ∷ ms) (renamed_back names others ls have.1)

-- a line leads from levels with these names to such levels
step_have : (names : List (Vec ℕ)) (levels : List Level) (line : List Token) (next : List Level) → HaveNames names levels → Steps levels line next → HaveNames names next
step_have names levels line next have (lines.heading s) = let h = subst (HaveNames names) s.here have in subst (HaveNames names) (sym s.is) (h.0, h.1)
step_have names levels line next have (lines.policy s) = let h = subst (HaveNames names) s.here have in subst (HaveNames names) (sym s.is) (h.0, h.1)
step_have names levels line next have (lines.parameter s) = let h = subst (HaveNames names) s.here have in subst (HaveNames names) (sym s.is) (h.0, h.1)
step_have names levels line next have (lines.simple s) = let h = subst (HaveNames names) s.here have in subst (HaveNames names) (sym s.is) (h.0, h.1)
step_have names levels line next have (lines.repeat s) = let h = subst (HaveNames names) s.here have in subst (HaveNames names) (sym s.is) (h.0, (h.0, h.1))
step_have names levels line next have (lines.when s) = let h = subst (HaveNames names) s.here have in subst (HaveNames names) (sym s.is) (h.0, (h.0, h.1))
step_have names levels line next have (lines.chained s) = let h = subst (HaveNames names) s.here have in subst (HaveNames names) (sym s.is) (h.0, h.1)
step_have names levels line next have (lines.otherwise s) = let h = subst (HaveNames names) s.here have in subst (HaveNames names) (sym s.is) (h.0, h.1)
step_have names levels line next have (lines.end s) = let h = subst (HaveNames names) s.here have in subst (HaveNames names) (sym s.is) h.1
step_have names levels line next have (lines.text_end s) = subst (HaveNames names) (sym s.is) tt

-- the same line may stand at the other levels
step_alike : (names others : List (Vec ℕ)) (levels : List Level) (line : List Token) (next : List Level) → HaveNames names levels → AreAlike names others line
    → Steps levels line next → Steps (all_renamed others levels) line (all_renamed others next)
step_alike names others levels line next have alike (lines.heading s) = lines.heading (record {
  level = renamed others s.level;
  outer = all_renamed others s.outer;
  here = ap (all_renamed others) s.here;
  first = s.first;
  spelled = s.spelled;
  is = ap (all_renamed others) s.is;
})
step_alike names others levels line next have alike (lines.policy s) = lines.policy (record {
  level = renamed others s.level;
  outer = all_renamed others s.outer;
  here = ap (all_renamed others) s.here;
  second = s.second;
  policy = s.policy;
  spelled = s.spelled;
  is = ap (all_renamed others) s.is;
})
step_alike names others levels line next have alike (lines.parameter s) = lines.parameter (record {
  level = renamed others s.level;
  outer = all_renamed others s.outer;
  here = ap (all_renamed others) s.here;
  early = s.early;
  number = s.number;
  name = s.name;
  value = s.value;
  other = s.other;
  within = s.within;
  spelled = s.spelled;
  is = ap (all_renamed others) s.is;
})
step_alike names others levels line next have alike (lines.simple s) =
    let here : HaveNames names (s.level ∷ s.outer) = subst (HaveNames names) s.here have in
    lines.simple (record {
      level = renamed others s.level;
      outer = all_renamed others s.outer;
      here = ap (all_renamed others) s.here;
      begun = s.begun;
      statement = s.statement;
      simple = s.simple;
      may = record {
        one = s.may.one;
        plain = s.may.plain;
        obeys = simple_obeys others s.level.scope s.level.depth s.statement line [] s.may.one s.simple s.spelled
            (subst (λ (n : List (Vec ℕ)). AreAlike n others line) (sym here.0) alike) s.may.obeys;
      };
      spelled = s.spelled;
      is = ap (all_renamed others) s.is;
    })
step_alike names others levels line next have alike (lines.repeat s) = lines.repeat (record {
  level = renamed others s.level;
  outer = all_renamed others s.outer;
  here = ap (all_renamed others) s.here;
  begun = s.begun;
  number = s.number;
  name = s.name;
  span = s.span;
  deep = s.deep;
  free = s.free;
  may = s.may;
  spelled = s.spelled;
  is = ap (all_renamed others) s.is;
})
step_alike names others levels line next have alike (lines.when s) = lines.when (record {
  level = renamed others s.level;
  outer = all_renamed others s.outer;
  here = ap (all_renamed others) s.here;
  begun = s.begun;
  number = s.number;
  condition = s.condition;
  deep = s.deep;
  within = s.within;
  spelled = s.spelled;
  is = ap (all_renamed others) s.is;
})
step_alike names others levels line next have alike (lines.chained s) = lines.chained (record {
  level = renamed others s.level;
  outer = all_renamed others s.outer;
  here = ap (all_renamed others) s.here;
  open_branch = s.open_branch;
  number = s.number;
  condition = s.condition;
  deep = s.deep;
  within = s.within;
  spelled = s.spelled;
  is = ap (all_renamed others) s.is;
})
step_alike names others levels line next have alike (lines.otherwise s) = lines.otherwise (record {
  level = renamed others s.level;
  outer = all_renamed others s.outer;
  here = ap (all_renamed others) s.here;
  open_branch = s.open_branch;
  spelled = s.spelled;
  is = ap (all_renamed others) s.is;
})
step_alike names others levels line next have alike (lines.end s) = lines.end (record {
  level = renamed others s.level;
  outer = all_renamed others s.outer;
  here = ap (all_renamed others) s.here;
  inner = s.inner;
  spelled = s.spelled;
  is = ap (all_renamed others) s.is;
})
step_alike names others levels line next have alike (lines.text_end s) = lines.text_end (record {
  level = renamed others s.level;
  here = ap (all_renamed others) s.here;
  begun = s.begun;
  outermost = s.outermost;
  spelled = s.spelled;
  is = ap (all_renamed others) s.is;
})

-- and so may lines one after another
pub runs_alike : (names others : List (Vec ℕ)) (reached levels : List Level) (pieces : List Token) → HaveNames names levels → AreAlike names others pieces → Runs reached levels pieces
    → HaveNames names reached × Runs (all_renamed others reached) (all_renamed others levels) pieces
runs_alike names others reached levels pieces have alike (lines.done is none) = (subst (HaveNames names) is have, lines.done (ap (all_renamed others) is) none)
runs_alike names others reached levels pieces have alike (lines.more m r) =
    let both : AreAlike names others (m.line ++ m.rest) = subst (AreAlike names others) m.split alike in
    let behind = runs_alike names others reached m.next m.rest (step_have names levels m.line m.next have m.steps) (alike_second names others m.line m.rest both) r in
    let first = step_alike names others levels m.line m.next have (alike_first names others m.line m.rest both) m.steps in
    (behind.0, lines.more (record { line = m.line; rest = m.rest; next = all_renamed others m.next; split = m.split; steps = first }) behind.1)

-- a line that may not stand at the ones may not stand at the others
pub stuck_alike : (names others : List (Vec ℕ)) (levels : List Level) (line : List Token) → HaveNames names levels → AreAlike names others line
    → ((next : List Level) → Steps levels line next → ⊥) → (next : List Level) → Steps (all_renamed others levels) line next → ⊥
stuck_alike names others levels line have alike stuck next s =
    stuck (all_renamed names next)
    (subst (λ (ls : List Level). Steps ls line (all_renamed names next)) (renamed_back names others levels have)
    (step_alike others names (all_renamed others levels) line next (renamed_have others levels) (alike_back names others line alike) s))
