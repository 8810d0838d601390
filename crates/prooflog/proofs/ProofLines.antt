-- What the loop over the lines of proof lines keeps, and where it stops.
use Rattle.std.proofs.Common.{◌≡◌, ◌≢◌, ℕ, ◌+◌, ◌-◌, ◌<◌, ◌≤◌, true, ◌&&◌, IsTrue, List, [], ◌∷◌, ◌++◌, length, map, refl, sym, ap, subst, ◌∙◌, append_assoc, arith, inl, inr}
use Rattle.std.specs.Prelude.{codes}
use Rattle.std.specs.List.{list_all}
use Rattle.std.proofs.lemmas.Bool.{and_parts}
use Rattle.std.proofs.lemmas.List.{append_cancel_right, map_push, length-append, length-map, length-take}
use Rattle.std.proofs.lemmas.List.Folds.{list_all-append}
use Rattle.plaintext.specs.Plain.{text_lines}
use Rattle.plaintext.specs.Fronts.{to_end, BeginsWith}
use Rattle.plaintext.proofs.Cuts.{no_line_of, words_are, line_is}
use Rattle.refutations.specs.Proofs.{ProofLine}
use Rattle.refutations.specs.declared.tree.Node.TheVariants.{Leaf}
use Rattle.prooflog.specs.declared.fault.EvidenceFault.TheVariants.{Syntax, Range, TooLarge}
use Rattle.prooflog.specs.declared.refutation.Version.{Version}
use Rattle.prooflog.specs.Refutations.{ClaimedRefutation, proof_words, item_words, item_line, a_proof, a_node, the_tree, is_line_in_range, IsInRangeRefutation, IsSmallRefutation}
use Rattle.prooflog.specs.Grammar.{as_refutation, written_lines}
use Rattle.prooflog.specs.Fault.{IsRanged, IsFew, CanGoOnAsEvidence}
use Rattle.prooflog.specs.parts.Reading.{words_of, HasFaultAfter, opening_lines, LinesSoFar}
use Rattle.prooflog.proofs.ProofWords.{plain_item, some_item_words, item_line_injective, item_line_nonempty}
use Rattle.prooflog.proofs.Items.{next_of_lines, tree_missing}
use Rattle.prooflog.proofs.Fronts.{stops_syntax, stops_range, stops_large, small_front}
use Rattle.prooflog.proofs.Claims.{begins_items, next_item}

-- the lines, and a tree of one leaf
abbrev claim : Version → ℕ → ℕ → List ProofLine → ClaimedRefutation
claim version v c lines = record { version = version; variables = v; clauses = c; lines = lines; nodes = Leaf 1 ∷ [] }

in_range_claim : (version : Version) (v c : ℕ) (lines : List ProofLine) → v ≤ 2147483647 → c ≤ 2147483647 → IsTrue (list_all is_line_in_range lines) → IsInRangeRefutation (claim version v c lines)
in_range_claim version v c lines v_fits c_fits fits = record { variables = v_fits; clauses = c_fits; lines = fits; numbered = refl; is_tree = refl }

pub all_push : (lines : List ProofLine) (line : ProofLine) → IsTrue (list_all is_line_in_range lines) → IsTrue (is_line_in_range line) → IsTrue (list_all is_line_in_range (lines ++ line ∷ []))
all_push lines line all one = list_all-append is_line_in_range lines (line ∷ []) ∙ rw (all, one) refl

-- one of the lines is in range where all are
line_in_all : (all done : List ProofLine) (line : ProofLine) (others : List ProofLine) → all ≡ done ++ line ∷ others → IsTrue (list_all is_line_in_range all) → IsTrue (is_line_in_range line)
line_in_all all done line others cut in_range =
    let split : (list_all is_line_in_range done && list_all is_line_in_range (line ∷ others)) ≡ true = sym (list_all-append is_line_in_range done (line ∷ others)) ∙ ap (list_all is_line_in_range) (sym cut) ∙ in_range in
    (and_parts (is_line_in_range line) (list_all is_line_in_range others) (and_parts (list_all is_line_in_range done) (list_all is_line_in_range (line ∷ others)) split).1).0

push_line : (lines : List ProofLine) (p : ProofLine) → map item_line (map a_proof (lines ++ p ∷ [])) ≡ map item_line (map a_proof lines) ++ item_line (a_proof p) ∷ []
push_line lines p = ap (map item_line) (map_push a_proof lines p) ∙ map_push item_line (map a_proof lines) (a_proof p)

pub one_more_line : (bytes rest after : List ℕ) (number : ℕ) (lines : List ProofLine) (p : ProofLine) (line : List ℕ) → LinesSoFar bytes rest number lines → text_lines rest ≡ line ∷ text_lines after
    → item_line (a_proof p) ≡ line → IsTrue (is_line_in_range p) → length lines < 1000000 → LinesSoFar bytes after (number + 1) (lines ++ p ∷ [])
one_more_line bytes rest after number lines p line so next spelled fits few = record {
  cut = so.cut ∙ ap (λ (ls : List (List ℕ)). map item_line (map a_proof lines) ++ ls) (next ∙ ap (λ (l : List ℕ). l ∷ text_lines after) (sym spelled))
      ∙ sym (append_assoc (map item_line (map a_proof lines)) (item_line (a_proof p) ∷ []) (text_lines after))
      ∙ ap (λ (ls : List (List ℕ)). ls ++ text_lines after) (sym (push_line lines p));
  in_range = all_push lines p so.in_range fits;
  few = omega (arith, few, length-append lines (p ∷ []));
  place = omega (arith, so.place, length-append lines (p ∷ []));
}

module _ (bytes rest : List ℕ) (number : ℕ) (lines : List ProofLine) (so : LinesSoFar bytes rest number lines) (line : List ℕ) (after : List (List ℕ)) (next : text_lines rest ≡ line ∷ after) (version : Version) (v c : ℕ) (v_fits : v ≤ 2147483647) (c_fits : c ≤ 2147483647) where
  cut : text_lines bytes ≡ map item_line (map a_proof lines) ++ line ∷ after
  cut = so.cut ∙ ap (λ (ls : List (List ℕ)). map item_line (map a_proof lines) ++ ls) next

  good : CanGoOnAsEvidence (opening_lines version v c ++ map item_line (map a_proof lines))
  good =
      let front : List (List ℕ) = opening_lines version v c ++ map item_line (map a_proof lines) in
      let small : IsSmallRefutation lines (Leaf 1 ∷ []) = record { few_lines = so.few; few_nodes = omega arith; shallow = refl } in
      (as_refutation (claim version v c lines), (in_range_claim version v c lines v_fits c_fits so.in_range, small_front lines (Leaf 1 ∷ []) (length front - 2) (length front - (3 + length lines)) small), begins_items (claim version v c lines) (map a_proof lines) (the_tree ∷ a_node (Leaf 1) ∷ []) refl)

  at : number ≡ length (opening_lines version v c) + length (map item_line (map a_proof lines)) + 1
  at = omega (arith, so.place, length-map (map a_proof lines) item_line, length-map lines a_proof)

  with_line : (p : ProofLine) → item_line (a_proof p) ≡ line → BeginsWith ((opening_lines version v c ++ map item_line (map a_proof lines)) ++ line ∷ []) (to_end (written_lines (as_refutation (claim version v c (lines ++ p ∷ [])))))
  with_line p spelled =
      subst (λ (ls : List (List ℕ)). BeginsWith (opening_lines version v c ++ ls) (to_end (written_lines (as_refutation (claim version v c (lines ++ p ∷ [])))))) (push_line lines p ∙ ap (λ (l : List ℕ). map item_line (map a_proof lines) ++ l ∷ []) spelled)
      (begins_items (claim version v c (lines ++ p ∷ [])) (map a_proof (lines ++ p ∷ [])) (the_tree ∷ a_node (Leaf 1) ∷ []) refl)

  pub lines_stop_syntax : ((p : ProofLine) → item_line (a_proof p) ≢ line) → item_line the_tree ≢ line → HasFaultAfter (opening_lines version v c) bytes (Syntax number)
  lines_stop_syntax no_line no_tree = stops_syntax (opening_lines version v c) bytes (map item_line (map a_proof lines)) line after cut good number at (λ (w, keeps, begins).
      let found = next_item w version v c (map a_proof lines) line begins in
      elim found.next [
        | inl x ↦ elim (next_of_lines found.all.lines lines (map a_node found.all.nodes) x.value x.others x.cut) [
          | inl y ↦ no_line y.0 (ap item_line (sym y.2) ∙ x.spelled)
          | inr y ↦ no_tree (ap item_line (sym y.0) ∙ x.spelled)
        ]
        | inr x ↦ tree_missing found.all.lines lines (map a_node found.all.nodes) x.1
      ])

  pub lines_stop_range : (p : ProofLine) → item_line (a_proof p) ≡ line → (IsTrue (is_line_in_range p) → ⊥) → HasFaultAfter (opening_lines version v c) bytes (Range number)
  lines_stop_range p spelled over = stops_range (opening_lines version v c) bytes (map item_line (map a_proof lines)) line after cut good number at (as_refutation (claim version v c (lines ++ p ∷ [])), refl, with_line p spelled) (λ (w, keeps, begins).
      let found = next_item w version v c (map a_proof lines) line begins in
      let ranged : IsInRangeRefutation found.all = subst IsRanged found.is keeps in
      elim found.next [
        | inl x ↦ elim (next_of_lines found.all.lines lines (map a_node found.all.nodes) x.value x.others x.cut) [
          | inl y ↦
              let same : a_proof y.0 ≡ a_proof p = sym y.2 ∙ item_line_injective x.value (a_proof p) (x.spelled ∙ sym spelled) in
              let one : y.0 ≡ p = cc in
              over (subst (λ (l : ProofLine). IsTrue (is_line_in_range l)) one (line_in_all found.all.lines lines y.0 y.1 y.3 ranged.lines))
          | inr y ↦ (let same : the_tree ≡ a_proof p = sym y.0 ∙ item_line_injective x.value (a_proof p) (x.spelled ∙ sym spelled) in cc)
        ]
        | inr x ↦ item_line_nonempty (a_proof p) (spelled ∙ x.0)
      ])

  pub lines_stop_large : (p : ProofLine) → item_line (a_proof p) ≡ line → IsTrue (is_line_in_range p) → 1000000 ≤ length lines → HasFaultAfter (opening_lines version v c) bytes TooLarge
  lines_stop_large p spelled fits full = stops_large (opening_lines version v c) bytes (map item_line (map a_proof lines)) line after cut good (as_refutation (claim version v c (lines ++ p ∷ [])), in_range_claim version v c (lines ++ p ∷ []) v_fits c_fits (all_push lines p so.in_range fits), with_line p spelled) (λ (w, keeps, begins).
      let found = next_item w version v c (map a_proof lines) line begins in
      let front : List (List ℕ) = (opening_lines version v c ++ map item_line (map a_proof lines)) ++ line ∷ [] in
      let few : IsFew (length front) (as_refutation found.all) = subst (IsFew (length front)) found.is keeps.1 in
      elim found.next [
        | inl x ↦ elim (next_of_lines found.all.lines lines (map a_node found.all.nodes) x.value x.others x.cut) [
          | inl y ↦ omega (arith, few.few_lines, full, length-take (length front - 2) found.all.lines, ap length y.3, length-append lines (y.0 ∷ y.1), length-append (map item_line (map a_proof lines)) (line ∷ []), length-map (map a_proof lines) item_line, length-map lines a_proof)
          | inr y ↦ (let same : the_tree ≡ a_proof p = sym y.0 ∙ item_line_injective x.value (a_proof p) (x.spelled ∙ sym spelled) in cc)
        ]
        | inr x ↦ item_line_nonempty (a_proof p) (spelled ∙ x.0)
      ])

-- a last line that lacks its LF, or none
pub lines_unended : (bytes rest : List ℕ) (number : ℕ) (lines : List ProofLine) → LinesSoFar bytes rest number lines → text_lines rest ≡ rest ∷ [] → (version : Version) (v c : ℕ) → v ≤ 2147483647 → c ≤ 2147483647 → HasFaultAfter (opening_lines version v c) bytes (Syntax number)
lines_unended bytes rest number lines so one version v c v_fits c_fits =
    lines_stop_syntax bytes rest number lines so rest [] one version v c v_fits c_fits (λ p e. no_line_of rest (item_words (a_proof p)) one e) (λ e. no_line_of rest (item_words the_tree) one e)

-- ---- a proof line's line

pub no_proof_line : (line : List ℕ) → ((p : ProofLine) → proof_words p ≢ words_of line) → (p : ProofLine) → item_line (a_proof p) ≢ line ++ 10 ∷ []
no_proof_line line none p e = none p (words_are (proof_words p) line (some_item_words (a_proof p)) (plain_item (a_proof p)) e)

pub proof_line_is : (line : List ℕ) (p : ProofLine) → proof_words p ≡ words_of line → item_line (a_proof p) ≡ line ++ 10 ∷ []
proof_line_is line p e = line_is (proof_words p) line e

pub no_tree_line : (line : List ℕ) → line ≢ codes "tree" → item_line the_tree ≢ line ++ 10 ∷ []
no_tree_line line other e = other (sym (append_cancel_right (codes "tree") line (10 ∷ []) e))
