-- How requests and handles are named, so that a name with its index has a spelling of its own: q[3]
-- is spelled qix3.
use Rattle.std.specs.Prelude.{ℕ, codes, Bool, true, false, ◌&&◌, ◌||◌, not, nat_le, nat_lt, List, [], ◌∷◌, length, take, drop, Option, Some, None, slice_get}
use Rattle.std.specs.Str.{bytes_eq}
use Rattle.std.specs.Global.{Vec}
use Rattle.spmd_tree.specs.declared.tree.Expression.{Expression}
use Rattle.spmd_tree.specs.declared.tree.LabelForm.{LabelForm}
use Rattle.spmd_tree.specs.declared.tree.Labels.{Labels}
use Rattle.spmd_tree.specs.declared.tree.Labels.TheVariants.{Last, More'}
use Rattle.spmd_tree.specs.declared.tree.Arguments.{Arguments}
use Rattle.spmd_tree.specs.declared.tree.Arguments.TheVariants as call
use Rattle.spmd_tree.specs.declared.tree.SpmdStatement.{SpmdStatement}
use Rattle.spmd_tree.specs.declared.tree.SpmdStatement.TheVariants as statement

abbrev pub is_digit_byte : ℕ → Bool
is_digit_byte c = nat_le 48 c && nat_le c 57

abbrev pub are_digits : List ℕ → Bool
are_digits [] = true
are_digits (c ∷ cs) = is_digit_byte c && are_digits cs

-- a to z, and 0 to 9
abbrev pub are_letters : List ℕ → Bool
are_letters [] = true
are_letters (c ∷ cs) = ((nat_le 97 c && nat_le c 122) || is_digit_byte c) && are_letters cs

-- `ix` and digits, one or more
abbrev pub is_index : List ℕ → Bool
is_index w = bytes_eq (take 2 w) (codes "ix") && nat_lt 2 (length w) && are_digits (drop 2 w)

-- the word ends in `ix` and digits
abbrev pub ends_in_index : List ℕ → Bool
ends_in_index [] = false
ends_in_index (c ∷ cs) = is_index (c ∷ cs) || ends_in_index cs

-- the name of a label that has an index or not
abbrev pub is_label : List ℕ → Bool → Bool
is_label w true = are_letters w && nat_le (length w) 9
is_label w false = are_letters w && nat_le (length w) 16 && not (ends_in_index w)

abbrev pub has_index : Option Expression → Bool
has_index None = false
has_index (Some e) = true

abbrev pub name_fits : Option (Vec ℕ) → Bool → Bool
name_fits None indexed = false
name_fits (Some name) indexed = is_label name.items indexed

abbrev pub label_fits : List (Vec ℕ) → LabelForm → Bool
label_fits names f = name_fits (slice_get names f.name) (has_index f.index)

abbrev pub request_fits : List (Vec ℕ) → Option LabelForm → Bool
request_fits names None = true
request_fits names (Some f) = label_fits names f

abbrev pub call_fits : List (Vec ℕ) → Arguments → Bool
call_fits names (call.Send mode request d t c) = request_fits names request
call_fits names (call.Receive request s t c) = request_fits names request
call_fits names (call.MatchedProbe handle s t c) = label_fits names handle
call_fits names (call.MatchedReceive request handle) = request_fits names request && label_fits names handle
call_fits names (call.Wait request) = label_fits names request
call_fits names _ = true

abbrev pub labels_fit : List (Vec ℕ) → Labels → Bool
labels_fit names (Last f) = label_fits names f
labels_fit names (More' f p others) = label_fits names f && labels_fit names others

-- each label of the text is one
abbrev pub all_fit : List (Vec ℕ) → SpmdStatement → Bool
all_fit names (statement.Sequence' p a q b) = all_fit names a && all_fit names b
all_fit names (statement.When' line chained c p a q b) = all_fit names a && all_fit names b
all_fit names (statement.Otherwise' p a) = all_fit names a
all_fit names (statement.Repeat' line name first last step p a) = all_fit names a
all_fit names (statement.Call line c) = call_fits names c
all_fit names (statement.WaitAll line requests) = labels_fit names requests
all_fit names _ = true
