-- The call lines of the calls of a rank.
use Rattle.std.specs.Prelude.{codes, ℕ, Bool, true, false, nat_eq, List, [], ◌∷◌, ◌++◌, Option, Some, None, slice_get, if◌then◌else◌}
use Rattle.std.specs.Global.{Vec}
use Rattle.plaintext.specs.Plain.{numeral}
use Rattle.calltext.specs.declared.call.CallLine.{CallLine}
use Rattle.calltext.specs.declared.call.CallLine.TheVariants as line
use Rattle.calltext.specs.declared.call.Mode.{Mode}
use Rattle.calltext.specs.declared.call.Mode.TheVariants as mode
use Rattle.spmd_tree.specs.declared.tree.SendMode.{SendMode}
use Rattle.spmd_tree.specs.declared.tree.SendMode.TheVariants as manner
use Rattle.unroll.specs.declared.call.Label.{Label}
use Rattle.unroll.specs.declared.call.UnrolledCall.{UnrolledCall}
use Rattle.unroll.specs.declared.call.UnrolledCall.TheVariants as call
use Rattle.unroll.specs.declared.call.Placed.{Placed}

-- ---- names

abbrev pub letters_of_name : Option (Vec ℕ) → List ℕ
letters_of_name None = []
letters_of_name (Some name) = name.items

-- the letters of the name at a place of the list of the text's names
abbrev pub name_at : List (Vec ℕ) → ℕ → List ℕ
name_at names place = letters_of_name (slice_get names place)

abbrev pub index_text : Option ℕ → List ℕ
index_text None = []
index_text (Some i) = codes "ix" ++ numeral i

-- a request or handle is spelled as its name, with its index behind `ix`, where it has one
abbrev pub spelled : List (Vec ℕ) → Label → List ℕ
spelled names l = name_at names l.name ++ index_text l.index

abbrev pub spelled_request : List (Vec ℕ) → Option Label → Option (List ℕ)
spelled_request names None = None
spelled_request names (Some l) = Some (spelled names l)

-- ---- parts of a line

abbrev pub mode_of : SendMode → Mode
mode_of manner.Standard = mode.Standard
mode_of manner.Synchronous = mode.Synchronous
mode_of manner.Buffered = mode.Buffered

-- communicator 0 is not written
abbrev pub shown_communicator : ℕ → Option ℕ
shown_communicator c = if nat_eq c 0 then None else Some c

abbrev pub also_of : UnrolledCall → Option Label
also_of (call.WaitAlso r) = Some r
also_of _ = None

abbrev pub also_named : List (Vec ℕ) → Option Label → List (List ℕ) → List (List ℕ)
also_named names None others = []
also_named names (Some r) others = spelled names r ∷ others

-- the further requests of a `waitall` line, which stand first among these calls
abbrev pub further : List (Vec ℕ) → List Placed → List (List ℕ)
further names [] = []
further names (p ∷ ps) = also_named names (also_of p.call) (further names ps)

-- the line that begins with a call, where these calls stand behind it
abbrev pub line_of_call : List (Vec ℕ) → UnrolledCall → List Placed → CallLine
line_of_call names (call.Send m r d t c) rest = line.Send (mode_of m) (spelled_request names r) d t (shown_communicator c)
line_of_call names (call.Receive r s t c) rest = line.Receive (spelled_request names r) s t (shown_communicator c)
line_of_call names (call.MatchedProbe h s t c) rest = line.MatchedProbe (spelled names h) s t (shown_communicator c)
line_of_call names (call.Probe s t c) rest = line.Probe s t (shown_communicator c)
line_of_call names (call.MatchedReceive r h) rest = line.MatchedReceive (spelled_request names r) (spelled names h)
line_of_call names (call.Wait r) rest = line.Wait (spelled names r)
line_of_call names (call.WaitAll r) rest = line.WaitAll (spelled names r ∷ further names rest)
line_of_call names (call.WaitAlso r) rest = line.WaitAll (spelled names r ∷ further names rest)
line_of_call names (call.SendReceive d t s u c) rest = line.SendReceive d t s u (shown_communicator c)

-- ---- lines

-- a line begins with the call; a further request of a `waitall` is on the line of the call before
abbrev pub begins_line : UnrolledCall → Bool
begins_line (call.WaitAlso r) = false
begins_line _ = true

abbrev pub lines_at : List (Vec ℕ) → Placed → List Placed → List CallLine
lines_at names p rest = if begins_line p.call then line_of_call names p.call rest ∷ [] else []

-- the lines of these calls
abbrev pub lines_of_calls : List (Vec ℕ) → List Placed → List CallLine
lines_of_calls names [] = []
lines_of_calls names (p ∷ ps) = lines_at names p ps ++ lines_of_calls names ps
