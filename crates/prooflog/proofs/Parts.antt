-- Texts that are cut into parts, each of which is proof lines.
use Rattle.std.proofs.Common.{◌≡◌, ℕ, ◌≤◌, IsTrue, List, [], ◌∷◌, ◌++◌, length, map, drop, refl, sym, ap, ◌∙◌, append_assoc, arith}
use Rattle.std.specs.List.{AllByRecursion, flat_map, slice_range, list_all}
use Rattle.std.proofs.lemmas.List.Concat.{flat_map-cons}
use Rattle.std.proofs.lemmas.List.{map-append}
use Rattle.std.proofs.lemmas.List.Folds.{list_all-append, drop_split}
use Rattle.plaintext.specs.Plain.{text_lines}
use Rattle.plaintext.specs.Fronts.{to_end}
use Rattle.plaintext.proofs.Cuts.{text_lines_first}
use Rattle.plaintext.proofs.Texts.{IsLine, is_line, text_joined}
use Rattle.refutations.specs.Proofs.{ProofLine}
use Rattle.prooflog.specs.Refutations.{item_line, item_words, a_proof, is_line_in_range}
use Rattle.prooflog.specs.parts.Reading.{HaveReached, AreWhole}
use Rattle.prooflog.proofs.ProofWords.{plain_item}
use Rattle.prooflog.proofs.ProofLines.{all_push}

-- lines, and a text after them
lines_then : (lines : List (List ℕ)) (rest : List ℕ) → AllByRecursion IsLine lines → text_lines (flat_map (λ line. line) lines ++ rest) ≡ lines ++ text_lines rest
lines_then [] rest all = refl
lines_then (line ∷ lines) rest (is, others) =
    let w : List ℕ = is.content in
    let bytes : List ℕ = flat_map (λ line. line) lines ++ rest in
    ap (λ (x : List ℕ). text_lines (x ++ rest)) (flat_map-cons (λ line. line) line lines ∙ ap (λ (x : List ℕ). x ++ flat_map (λ line. line) lines) is.ended)
    ∙ ap text_lines (append_assoc (w ++ 10 ∷ []) (flat_map (λ line. line) lines) rest ∙ append_assoc w (10 ∷ []) bytes)
    ∙ text_lines_first w bytes is.one
    ∙ ap (λ (x : List ℕ). x ∷ text_lines bytes) (sym is.ended)
    ∙ ap (λ (ls : List (List ℕ)). line ∷ ls) (lines_then lines rest others)

are_lines : (lines : List ProofLine) → AllByRecursion IsLine (map item_line (map a_proof lines))
are_lines [] = tt
are_lines (line ∷ lines) = (is_line (item_words (a_proof line)) (plain_item (a_proof line)), are_lines lines)

-- a text that begins with a part that is all proof lines
whole_then : (bytes rest : List ℕ) (lines : List ProofLine) → text_lines bytes ≡ to_end (map item_line (map a_proof lines)) → text_lines (bytes ++ rest) ≡ map item_line (map a_proof lines) ++ text_lines rest
whole_then bytes rest lines cut =
    ap (λ (x : List ℕ). text_lines (x ++ rest)) (text_joined bytes (map item_line (map a_proof lines)) cut)
    ∙ lines_then (map item_line (map a_proof lines)) rest (are_lines lines)

mapped : (one other : List ProofLine) → map item_line (map a_proof (one ++ other)) ≡ map item_line (map a_proof one) ++ map item_line (map a_proof other)
mapped one other = ap (map item_line) (map-append a_proof one other) ∙ map-append item_line (map a_proof one) (map a_proof other)

-- the lines up to a place, and those of the part that starts there
pub one_more_part : (bytes : List ℕ) (start end : ℕ) (lines more : List ProofLine) → HaveReached bytes start lines → start ≤ end → end ≤ length bytes → AreWhole (slice_range bytes start end) more
    → length (lines ++ more) ≤ 1000000 → HaveReached bytes end (lines ++ more)
one_more_part bytes start end lines more reached forward within whole few = record {
  within = within;
  so_far = record {
    cut = reached.so_far.cut
        ∙ ap (λ (ls : List (List ℕ)). map item_line (map a_proof lines) ++ ls) (ap text_lines (drop_split bytes start end forward) ∙ whole_then (slice_range bytes start end) (drop end bytes) more whole.cut)
        ∙ sym (append_assoc (map item_line (map a_proof lines)) (map item_line (map a_proof more)) (text_lines (drop end bytes)))
        ∙ ap (λ (ls : List (List ℕ)). ls ++ text_lines (drop end bytes)) (sym (mapped lines more));
    in_range = list_all-append is_line_in_range lines more ∙ rw (reached.so_far.in_range, whole.in_range) refl;
    few = few;
    place = refl;
  };
}

-- no line, up to the text's beginning
pub none_reached : (bytes : List ℕ) → HaveReached bytes 0 []
none_reached bytes = record { within = omega arith; so_far = record { cut = refl; in_range = refl; few = omega arith; place = refl } }

-- ---- one part

-- the lines of a part so far, and what is left of it
pub record WholeSoFar (bytes rest : List ℕ) (lines : List ProofLine) : Type 0 where
  pub cut : text_lines bytes ≡ map item_line (map a_proof lines) ++ text_lines rest
  pub in_range : IsTrue (list_all is_line_in_range lines)

pub one_more_whole : (bytes rest after : List ℕ) (lines : List ProofLine) (p : ProofLine) (line : List ℕ) → WholeSoFar bytes rest lines → text_lines rest ≡ line ∷ text_lines after
    → item_line (a_proof p) ≡ line → IsTrue (is_line_in_range p) → WholeSoFar bytes after (lines ++ p ∷ [])
one_more_whole bytes rest after lines p line so next spelled fits = record {
  cut = so.cut ∙ ap (λ (ls : List (List ℕ)). map item_line (map a_proof lines) ++ ls) (next ∙ ap (λ (l : List ℕ). l ∷ text_lines after) (sym spelled))
      ∙ sym (append_assoc (map item_line (map a_proof lines)) (item_line (a_proof p) ∷ []) (text_lines after))
      ∙ ap (λ (ls : List (List ℕ)). ls ++ text_lines after) (sym (mapped lines (p ∷ [])));
  in_range = all_push lines p so.in_range fits;
}

pub whole_at_end : (bytes rest : List ℕ) (lines : List ProofLine) → WholeSoFar bytes rest lines → rest ≡ [] → AreWhole bytes lines
whole_at_end bytes rest lines so ended = record { cut = so.cut ∙ ap (λ (r : List ℕ). map item_line (map a_proof lines) ++ text_lines r) ended; in_range = so.in_range }
