-- Whether a text keeps the rules depends on its names, and not on where they stand; and what keeps
-- them has labels that can be ones, and its parameters first.
use Rattle.std.proofs.Common.{◌≡◌, ℕ, ◌-◌, Bool, true, false, map, List, [], ◌∷◌, ◌++◌, Option, Some, None, refl, ap, sym, ◌∙◌}
use Rattle.std.specs.Global.{Vec}
use Rattle.std.specs.List.{slice_get}
use Rattle.std.specs.Option.{option_map}
use Rattle.std.proofs.lemmas.Option.{slice_get-map}
use Rattle.spmd_tree.specs.declared.tree.LabelForm.{LabelForm}
use Rattle.spmd_tree.specs.declared.tree.Labels.{Labels}
use Rattle.spmd_tree.specs.declared.tree.Labels.TheVariants.{Last, More'}
use Rattle.spmd_tree.specs.declared.tree.Arguments.{Arguments}
use Rattle.spmd_tree.specs.declared.tree.Arguments.TheVariants as call
use Rattle.spmd_tree.specs.declared.tree.SpmdStatement.{SpmdStatement}
use Rattle.spmd_tree.specs.declared.tree.SpmdStatement.TheVariants as statement
use Rattle.spmd_text.specs.Labels.{all_fit, call_fits, has_index, is_label, label_fits, labels_fit, name_fits, request_fits}
use Rattle.spmd_text.specs.Spelling.{are_parameters, has_none, is_ordered}
use Rattle.spmd_text.specs.Rules.{IfThere, MayCall, MayLabel, MayLabels}
use Rattle.spmd_text.specs.Statements.{Obeys, Scope, within_loop}
use Rattle.spmd_text.specs.Programs.{ObeyParameters, ObeysText, behind_parameters, parameters_of}
use Rattle.spmd_text.proofs.Following.{both_true}

-- ---- the same names

abbrev pub spelled_names : List (Vec ℕ) → List (List ℕ)
spelled_names names = map (λ n. n.items) names

word_fits : Option (List ℕ) → Bool → Bool
word_fits None indexed = false
word_fits (Some w) indexed = is_label w indexed

by_word : (o : Option (Vec ℕ)) (indexed : Bool) → name_fits o indexed ≡ word_fits (option_map (λ n. n.items) o) indexed
unfolding word_fits
by_word None indexed = refl
by_word (Some n) indexed = refl

by_names : (names : List (Vec ℕ)) (f : LabelForm) → label_fits names f ≡ word_fits (slice_get (spelled_names names) f.name) (has_index f.index)
by_names names f =
    by_word (slice_get names f.name) (has_index f.index)
    ∙ ap (λ (o : Option (List ℕ)). word_fits o (has_index f.index)) (sym (slice_get-map (λ (n : Vec ℕ). n.items) names f.name))

label_same : (xs ys : List (Vec ℕ)) → spelled_names xs ≡ spelled_names ys → (f : LabelForm) → label_fits xs f ≡ label_fits ys f
label_same xs ys same f =
    by_names xs f ∙ (ap (λ (ws : List (List ℕ)). word_fits (slice_get ws f.name) (has_index f.index)) same ∙ sym (by_names ys f))

may_label : (flag : Bool) (xs ys : List (Vec ℕ)) → spelled_names xs ≡ spelled_names ys → (f : LabelForm) → MayLabel flag xs f → MayLabel flag ys f
may_label flag xs ys same f m = record { fits = sym (label_same xs ys same f) ∙ m.fits; index = m.index }

may_request : (flag : Bool) (xs ys : List (Vec ℕ)) → spelled_names xs ≡ spelled_names ys → (o : Option LabelForm) → IfThere (MayLabel flag xs) o → IfThere (MayLabel flag ys) o
may_request flag xs ys same None m = tt
may_request flag xs ys same (Some f) m = may_label flag xs ys same f m

may_labels : (flag : Bool) (xs ys : List (Vec ℕ)) → spelled_names xs ≡ spelled_names ys → (labels : Labels) → MayLabels flag xs labels → MayLabels flag ys labels
may_labels flag xs ys same (Last f) m = may_label flag xs ys same f m
may_labels flag xs ys same (More' f p others) m = (may_label flag xs ys same f m.0, may_labels flag xs ys same others m.1)

may_call : (flag : Bool) (xs ys : List (Vec ℕ)) → spelled_names xs ≡ spelled_names ys → (c : Arguments) → MayCall flag xs c → MayCall flag ys c
may_call flag xs ys same (call.Send mode request d t c) m = (may_request flag xs ys same request m.0, m.1, m.2, m.3)
may_call flag xs ys same (call.Receive request s t c) m = (may_request flag xs ys same request m.0, m.1, m.2, m.3)
may_call flag xs ys same (call.MatchedProbe handle s t c) m = (may_label flag xs ys same handle m.0, m.1, m.2, m.3)
may_call flag xs ys same (call.Probe s t c) m = m
may_call flag xs ys same (call.MatchedReceive request handle) m = (may_request flag xs ys same request m.0, may_label flag xs ys same handle m.1)
may_call flag xs ys same (call.Wait request) m = may_label flag xs ys same request m
may_call flag xs ys same (call.SendReceive d t s u c) m = m
may_call flag xs ys same (call.Collective k root g c) m = m

abbrev pub with_names : Bool → List ℕ → List ℕ → List (Vec ℕ) → Scope
with_names flag parameters loops names = record { in_parameter = flag; names = names; parameters = parameters; loops = loops }

obeys_same : (flag : Bool) (parameters loops : List ℕ) (xs ys : List (Vec ℕ)) → spelled_names xs ≡ spelled_names ys → (depth : ℕ) (s : SpmdStatement)
    → Obeys (with_names flag parameters loops xs) depth s → Obeys (with_names flag parameters loops ys) depth s
obeys_same flag parameters loops xs ys same depth statement.Nothing o = tt
obeys_same flag parameters loops xs ys same depth (statement.Sequence' p a q b) o =
    (obeys_same flag parameters loops xs ys same depth a o.0, obeys_same flag parameters loops xs ys same depth b o.1)
obeys_same flag parameters loops xs ys same depth (statement.Parameter line name e) o = o
obeys_same flag parameters loops xs ys same depth (statement.Assign line name e) o = o
obeys_same flag parameters loops xs ys same depth (statement.When' line chained c p a q b) o =
    (o.0, o.1, obeys_same flag parameters loops xs ys same (depth - 1) a o.2, obeys_same flag parameters loops xs ys same (depth - 1) b o.3)
obeys_same flag parameters loops xs ys same depth (statement.Otherwise' p a) o = obeys_same flag parameters loops xs ys same depth a o
obeys_same flag parameters loops xs ys same depth (statement.Repeat' line name first last step p a) o =
    (o.0, o.1, o.2, o.3, o.4, obeys_same flag parameters (loops ++ name ∷ []) xs ys same (depth - 1) a o.5)
obeys_same flag parameters loops xs ys same depth (statement.Call line c) o = may_call flag xs ys same c o
obeys_same flag parameters loops xs ys same depth (statement.WaitAll line requests) o = (may_labels flag xs ys same requests o.0, o.1)
obeys_same flag parameters loops xs ys same depth (statement.Unreached line) o = tt

pub text_same : (xs ys : List (Vec ℕ)) → spelled_names xs ≡ spelled_names ys → (s : SpmdStatement) → ObeysText xs s → ObeysText ys s
text_same xs ys same (statement.Sequence' p a q b) o = (o.0, obeys_same false (parameters_of a) [] xs ys same 32 b o.1)
text_same xs ys same s o = absurd o

-- ---- labels

request_so : (flag : Bool) (names : List (Vec ℕ)) (o : Option LabelForm) → IfThere (MayLabel flag names) o → request_fits names o ≡ true
request_so flag names None m = refl
request_so flag names (Some f) m = m.fits

labels_so : (flag : Bool) (names : List (Vec ℕ)) (labels : Labels) → MayLabels flag names labels → labels_fit names labels ≡ true
labels_so flag names (Last f) m = m.fits
labels_so flag names (More' f p others) m = both_true (label_fits names f) (labels_fit names others) m.0.fits (labels_so flag names others m.1)

call_so : (flag : Bool) (names : List (Vec ℕ)) (c : Arguments) → MayCall flag names c → call_fits names c ≡ true
call_so flag names (call.Send mode request d t c) m = request_so flag names request m.0
call_so flag names (call.Receive request s t c) m = request_so flag names request m.0
call_so flag names (call.MatchedProbe handle s t c) m = m.0.fits
call_so flag names (call.Probe s t c) m = refl
call_so flag names (call.MatchedReceive request handle) m = both_true (request_fits names request) (label_fits names handle) (request_so flag names request m.0) m.1.fits
call_so flag names (call.Wait request) m = m.fits
call_so flag names (call.SendReceive d t s u c) m = refl
call_so flag names (call.Collective k root g c) m = refl

all_so : (flag : Bool) (parameters loops : List ℕ) (names : List (Vec ℕ)) (depth : ℕ) (s : SpmdStatement) → Obeys (with_names flag parameters loops names) depth s → all_fit names s ≡ true
all_so flag parameters loops names depth statement.Nothing o = refl
all_so flag parameters loops names depth (statement.Sequence' p a q b) o =
    both_true (all_fit names a) (all_fit names b) (all_so flag parameters loops names depth a o.0) (all_so flag parameters loops names depth b o.1)
all_so flag parameters loops names depth (statement.Parameter line name e) o = absurd o
all_so flag parameters loops names depth (statement.Assign line name e) o = refl
all_so flag parameters loops names depth (statement.When' line chained c p a q b) o =
    both_true (all_fit names a) (all_fit names b) (all_so flag parameters loops names (depth - 1) a o.2) (all_so flag parameters loops names (depth - 1) b o.3)
all_so flag parameters loops names depth (statement.Otherwise' p a) o = all_so flag parameters loops names depth a o
all_so flag parameters loops names depth (statement.Repeat' line name first last step p a) o = all_so flag parameters (loops ++ name ∷ []) names (depth - 1) a o.5
all_so flag parameters loops names depth (statement.Call line c) o = call_so flag names c o
all_so flag parameters loops names depth (statement.WaitAll line requests) o = labels_so flag names requests o.0
all_so flag parameters loops names depth (statement.Unreached line) o = refl

heads_so : (before : List ℕ) (names : List (Vec ℕ)) (s : SpmdStatement) → ObeyParameters before s → all_fit names s ≡ true
heads_so before names statement.Nothing o = refl
heads_so before names (statement.Sequence' p a q b) o =
    both_true (all_fit names a) (all_fit names b) (heads_so before names a o.0) (heads_so (before ++ parameters_of a) names b o.1)
heads_so before names (statement.Parameter line name e) o = refl
heads_so before names s o = absurd o

pub text_fits : (names : List (Vec ℕ)) (s : SpmdStatement) → ObeysText names s → all_fit names s ≡ true
text_fits names (statement.Sequence' p a q b) o =
    both_true (all_fit names a) (all_fit names b) (heads_so [] names a o.0) (all_so false (parameters_of a) [] names 32 b o.1)
text_fits names s o = absurd o

-- ---- parameters first

none_so : (scope : Scope) (depth : ℕ) (s : SpmdStatement) → Obeys scope depth s → has_none s ≡ true
none_so scope depth (statement.Sequence' p a q b) o = both_true (has_none a) (has_none b) (none_so scope depth a o.0) (none_so scope depth b o.1)
none_so scope depth (statement.Parameter line name e) o = absurd o
none_so scope depth (statement.When' line chained c p a q b) o = both_true (has_none a) (has_none b) (none_so scope (depth - 1) a o.2) (none_so scope (depth - 1) b o.3)
none_so scope depth (statement.Otherwise' p a) o = none_so scope depth a o
none_so scope depth (statement.Repeat' line name first last step p a) o = none_so (within_loop name scope) (depth - 1) a o.5
none_so scope depth s o = refl

parameters_so : (names : List ℕ) (s : SpmdStatement) → ObeyParameters names s → are_parameters s ≡ true
parameters_so names statement.Nothing o = refl
parameters_so names (statement.Sequence' p a q b) o =
    both_true (are_parameters a) (are_parameters b) (parameters_so names a o.0) (parameters_so (names ++ parameters_of a) b o.1)
parameters_so names (statement.Parameter line name e) o = refl
parameters_so names s o = absurd o

pub text_ordered : (names : List (Vec ℕ)) (s : SpmdStatement) → ObeysText names s → is_ordered s ≡ true
text_ordered names (statement.Sequence' p a q b) o =
    both_true (are_parameters a) (has_none b) (parameters_so [] a o.0) (none_so (behind_parameters names a) 32 b o.1)
text_ordered names s o = absurd o
