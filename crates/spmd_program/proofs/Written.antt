-- Lines that are written one behind the other.
use Rattle.std.proofs.Common.{◌≡◌, ℕ, ◌+◌, ◌-◌, ◌<◌, List, [], ◌∷◌, ◌++◌, length, get_or, take, drop, refl, sym, ap, subst, ◌∙◌, append_assoc, add-one, arith}
use Rattle.std.proofs.lemmas.List.{append-nil, length-drop, take_all}
use Rattle.std.proofs.lemmas.Grind.{flat_map-append}
use Rattle.std.proofs.Math.Seq.{drop-cons}
use Rattle.std.specs.List.{flat_map}
use Rattle.std.specs.Global.{Vec}
use Rattle.plaintext.specs.Plain.{line_of, spaced}
use Rattle.plaintext.proofs.Ascii.{all_append}
use Rattle.calltext.specs.declared.call.CallLine.{CallLine}
use Rattle.calltext.specs.Grammar.{CallFits, HasNames, IsInRange, call_words, long}
use Rattle.calltext.specs.parts.Verbs.{name_words, number_words}
use Rattle.calltext.specs.Verbs.{verb_of, verb_word}
use Rattle.calltext.proofs.PrintLaws.{call_line}
use Rattle.unroll.specs.declared.call.Placed.{Placed}
use Rattle.spmd_program.specs.Lines.{lines_at, lines_of_calls}
use Rattle.spmd_program.specs.Programs.{AreLinesWritten}

-- a line is its verb, its names and its numbers with a space before each, and an LF
pub line_written : (line : CallLine) (old mid new : List ℕ) → mid ≡ ((old ++ verb_word (verb_of line)) ++ spaced (name_words line)) ++ spaced (number_words line) → new ≡ mid ++ 10 ∷ []
    → HasNames line → IsInRange long line → AreLinesWritten (line ∷ []) old new
line_written line old mid new begun ended names range = record {
  text =
      ended
      ∙ ap (λ (t : List ℕ). t ++ 10 ∷ []) begun
      ∙ call_line old line
      ∙ ap (λ (t : List ℕ). old ++ t) (sym (append-nil (line_of (call_words line))));
  fit = ((names, range), tt);
}

pub none_written : (old : List ℕ) → AreLinesWritten [] old old
none_written old = record { text = sym (append-nil old); fit = tt }

pub both_written : (xs ys : List CallLine) (old mid new : List ℕ) → AreLinesWritten xs old mid → AreLinesWritten ys mid new → AreLinesWritten (xs ++ ys) old new
both_written xs ys old mid new first second = record {
  text =
      second.text
      ∙ ap (λ (t : List ℕ). t ++ flat_map (λ c. line_of (call_words c)) ys) first.text
      ∙ append_assoc old (flat_map (λ c. line_of (call_words c)) xs) (flat_map (λ c. line_of (call_words c)) ys)
      ∙ ap (λ (t : List ℕ). old ++ t) (sym (flat_map-append (λ c. line_of (call_words c)) xs ys));
  fit = all_append (CallFits long) xs ys first.fit second.fit;
}

-- the lines of the first calls are written; what is left makes the others
pub record AreBegun (names : List (Vec ℕ)) (calls : List Placed) (place : ℕ) (old new : List ℕ) : Type 0 where
  pub front : List CallLine
  pub whole : front ++ lines_of_calls names (drop place calls) ≡ lines_of_calls names calls
  pub written : AreLinesWritten front old new

pub none_begun : (names : List (Vec ℕ)) (calls : List Placed) (old : List ℕ) → AreBegun names calls 0 old old
none_begun names calls old = record { front = []; whole = refl; written = none_written old }

pub one_begun : (names : List (Vec ℕ)) (calls rest : List Placed) (place : ℕ) (d : Placed) (old mid new : List ℕ) → place < length calls → rest ≡ drop (place + 1) calls
    → AreBegun names calls place old mid → AreLinesWritten (lines_at names (get_or calls place d) rest) mid new → AreBegun names calls (place + 1) old new
one_begun names calls rest place d old mid new lt is begun wrote =
    let p : Placed = get_or calls place d in
    let cut : drop place calls ≡ p ∷ rest =
    drop-cons calls place d lt ∙ ap (λ (k : ℕ). p ∷ drop k calls) (sym (add-one place)) ∙ ap (λ (ps : List Placed). p ∷ ps) (sym is) in
    record {
      front = begun.front ++ lines_at names p rest;
      whole =
          ap (λ (ps : List Placed). (begun.front ++ lines_at names p rest) ++ lines_of_calls names ps) (sym is)
          ∙ append_assoc begun.front (lines_at names p rest) (lines_of_calls names rest)
          ∙ ap (λ (xs : List Placed). begun.front ++ lines_of_calls names xs) (sym cut)
          ∙ begun.whole;
      written = both_written begun.front (lines_at names p rest) old mid new begun.written wrote;
    }

pub all_begun : (names : List (Vec ℕ)) (calls : List Placed) (place : ℕ) (old new : List ℕ) → drop place calls ≡ [] → AreBegun names calls place old new → AreLinesWritten (lines_of_calls names calls) old new
all_begun names calls place old new over begun =
    let whole : begun.front ≡ lines_of_calls names calls =
    sym (append-nil begun.front) ∙ ap (λ (xs : List Placed). begun.front ++ lines_of_calls names xs) (sym over) ∙ begun.whole in
    subst (λ (lines : List CallLine). AreLinesWritten lines old new) whole begun.written

-- a slice to the end is what is left
pub to_end : (calls : List Placed) (place : ℕ) → take (length calls - place) (drop place calls) ≡ drop place calls
to_end calls place = take_all (length calls - place) (drop place calls) (omega (arith, length-drop place calls))
