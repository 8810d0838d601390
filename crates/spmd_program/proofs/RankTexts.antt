-- Ranks that are written one behind the other make the text of a program.
use Rattle.std.proofs.Common.{◌≡◌, ℕ, ◌+◌, ◌≤◌, List, [], ◌∷◌, ◌++◌, length, length-append, map, refl, sym, ap, subst, ◌∙◌, append_assoc, arith}
use Rattle.std.proofs.lemmas.List.{append-nil, map_push, length-map}
use Rattle.std.proofs.lemmas.Grind.{flat_map-append}
use Rattle.std.proofs.lemmas.List.FromFn.{length-map-range_with_len}
use Rattle.std.specs.List.{flat_map, AllByRecursion}
use Rattle.std.specs.Global.{Vec}
use Rattle.plaintext.proofs.Ascii.{all_append}
use Rattle.calltext.specs.declared.call.CallLine.{CallLine}
use Rattle.calltext.specs.Grammar.{CallFits, long}
use Rattle.calltext.specs.parts.Body.{heads, rank_text, ranks_text}
use Rattle.calltext.proofs.PrintLaws.{ranks_text-push, text_is}
use Rattle.spmd_text.specs.declared.reading.SpmdPolicy.{SpmdPolicy}
use Rattle.unroll.specs.declared.call.Placed.{Placed}
use Rattle.spmd_program.specs.Lines.{lines_of_calls}
use Rattle.spmd_program.specs.parts.Programs.{AreRanksWritten, IsRankWritten}
use Rattle.spmd_program.specs.Programs.{IsProgramText, calls_of_rank, policy_of_buffering, program_of}
use Rattle.spmd_program.proofs.Parts.{of_each, of_ranks_push}

-- the first ranks are written, with all calls but these
pub record AreRanksBegun (names : List (Vec ℕ)) (calls left : List Placed) (rank : ℕ) (old new : List ℕ) : Type 0 where
  pub parts : List (List Placed)
  pub whole : flat_map (λ part. part) parts ++ left ≡ calls
  pub count : length parts ≡ rank
  pub written : AreRanksWritten names parts old new

pub no_rank_begun : (names : List (Vec ℕ)) (calls : List Placed) (old : List ℕ) → AreRanksBegun names calls calls 0 old old
no_rank_begun names calls old = record {
  parts = [];
  whole = refl;
  count = refl;
  written = record { own = tt; text = sym (append-nil old); fit = tt };
}

rank_written : (names : List (Vec ℕ)) (parts : List (List Placed)) (part : List Placed) (rank : ℕ) (old mid new : List ℕ) → length parts ≡ rank
    → AreRanksWritten names parts old mid → AllByRecursion (λ p. p.rank ≡ rank) part → IsRankWritten rank (lines_of_calls names part) mid new → AreRanksWritten names (parts ++ part ∷ []) old new
rank_written names parts part rank old mid new count so own wrote =
    let f : List Placed → List CallLine = λ x. lines_of_calls names x in
    let place : 0 + length (map f parts) ≡ rank = omega (arith, length-map parts f, count) in
    record {
      own = of_ranks_push 0 parts part so.own (subst (λ (k : ℕ). AllByRecursion (λ p. p.rank ≡ k) part) (omega (arith, count)) own);
      text =
          wrote.text
          ∙ ap (λ (t : List ℕ). t ++ rank_text rank (f part)) so.text
          ∙ append_assoc old (ranks_text 0 (map f parts)) (rank_text rank (f part))
          ∙ ap (λ (k : ℕ). old ++ (ranks_text 0 (map f parts) ++ rank_text k (f part))) (sym place)
          ∙ ap (λ (t : List ℕ). old ++ t) (sym (ranks_text-push 0 (map f parts) (f part)))
          ∙ ap (λ (ls : List (List CallLine)). old ++ ranks_text 0 ls) (sym (map_push f parts part));
      fit = all_append (λ x. AllByRecursion (CallFits long) (lines_of_calls names x)) parts (part ∷ []) so.fit (wrote.fit, tt);
    }

pub one_rank_begun : (names : List (Vec ℕ)) (calls left own others : List Placed) (rank : ℕ) (old mid new : List ℕ) → left ≡ own ++ others → AllByRecursion (λ p. p.rank ≡ rank) own
    → AreRanksBegun names calls left rank old mid → IsRankWritten rank (lines_of_calls names own) mid new → AreRanksBegun names calls others (rank + 1) old new
one_rank_begun names calls left own others rank old mid new cut of_rank begun wrote =
    let parts : List (List Placed) = begun.parts in
    let before : List Placed = flat_map (λ part. part) parts in
    record {
      parts = parts ++ own ∷ [];
      whole =
          ap (λ (xs : List Placed). xs ++ others) (flat_map-append (λ part. part) parts (own ∷ []) ∙ ap (λ (xs : List Placed). before ++ xs) (append-nil own))
          ∙ append_assoc before own others
          ∙ ap (λ (xs : List Placed). before ++ xs) (sym cut)
          ∙ begun.whole;
      count = omega (arith, length-append parts (own ∷ []), begun.count);
      written = rank_written names parts own rank old mid new begun.count begun.written of_rank wrote;
    }

all_fit : (names : List (Vec ℕ)) (parts : List (List Placed)) → AllByRecursion (λ part. AllByRecursion (CallFits long) (lines_of_calls names part)) parts
    → AllByRecursion (AllByRecursion (CallFits long)) (map (λ part. lines_of_calls names part) parts)
all_fit names [] h = tt
all_fit names (part ∷ parts) h = (h.0, all_fit names parts h.1)

-- all ranks are written behind the headings
pub all_ranks_begun : (p : SpmdPolicy) (names : List (Vec ℕ)) (calls left : List Placed) (size : ℕ) (old new : List ℕ) → old ≡ heads size (policy_of_buffering p) → left ≡ []
    → 1 ≤ size → size ≤ 2147483647 → length new ≤ 9223372036854775807 → AreRanksBegun names calls left size old new → IsProgramText p names size calls new
all_ranks_begun p names calls left size old new head over some most small begun =
    let f : List Placed → List CallLine = λ x. lines_of_calls names x in
    let parts : List (List Placed) = begun.parts in
    let before : List Placed = flat_map (λ part. part) parts in
    let whole : before ≡ calls = sym (append-nil before) ∙ ap (λ (xs : List Placed). before ++ xs) (sym over) ∙ begun.whole in
    let ranks : map f parts ≡ (program_of p names size calls).ranks = of_each f parts calls size begun.written.own whole begun.count in
    let count : length (program_of p names size calls).ranks ≡ size = length-map-range_with_len (λ r. lines_of_calls names (calls_of_rank r calls)) 0 size in
    record {
      fits = record {
        some = omega (arith, some, count);
        ranks = omega (arith, most, count);
        calls = subst (λ (rs : List (List CallLine)). AllByRecursion (AllByRecursion (CallFits long)) rs) ranks (all_fit names parts begun.written.fit);
      };
      small = small;
      text =
          begun.written.text
          ∙ ap (λ (t : List ℕ). t ++ ranks_text 0 (map f parts)) head
          ∙ ap (λ (rs : List (List CallLine)). heads size (policy_of_buffering p) ++ ranks_text 0 rs) ranks
          ∙ ap (λ (n : ℕ). heads n (policy_of_buffering p) ++ ranks_text 0 (program_of p names size calls).ranks) (sym count)
          ∙ text_is (program_of p names size calls);
    }
