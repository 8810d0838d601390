-- Where a line of a text stands, and the text with another one in its place.
use Rattle.std.proofs.Common.{◌≡◌, ℕ, ◌+◌, ◌-◌, ◌≤◌, List, [], ◌∷◌, ◌++◌, length, take, sym, ◌∙◌, ap, append_assoc, length-append, arith}
use Rattle.std.proofs.Math.Seq.{take-append_seam}
use Rattle.std.proofs.lemmas.Grind.{flat_map-append}
use Rattle.std.proofs.lemmas.List.Concat.{flat_map-cons}
use Rattle.plaintext.specs.Plain.{text_lines}
use Rattle.plaintext.proofs.Texts.{joined-lines}
use Rattle.choices.specs.parts.Pins.{AreAround, IsPastLines}
use Rattle.choices.specs.Pins.{IsPinned, concatenated_lines, line_with}
use Rattle.narrowing.specs.declared.taken.ChoiceTaken.{ChoiceTaken}

-- past one more line
pub past_more : (text : List ℕ) (count : ℕ) (rest line next : List ℕ) → IsPastLines text count rest → text_lines rest ≡ (line ++ 10 ∷ []) ∷ text_lines next → IsPastLines text (count + 1) next
past_more text count rest line next past e = record {
  before = past.before ++ (line ++ 10 ∷ []) ∷ [];
  cut = past.cut ∙ ap (λ (x : List (List ℕ)). past.before ++ x) e ∙ sym (append_assoc past.before ((line ++ 10 ∷ []) ∷ []) (text_lines next));
  many = omega (arith, length-append past.before ((line ++ 10 ∷ []) ∷ []), past.many);
}

-- the text is the lines before the rest, and the rest
text_is : (text : List ℕ) (count : ℕ) (rest : List ℕ) (past : IsPastLines text count rest) → text ≡ concatenated_lines past.before ++ rest
text_is text count rest past =
    sym (joined-lines text) ∙ ap concatenated_lines past.cut ∙ flat_map-append (λ (line : List ℕ). line) past.before (text_lines rest) ∙ ap (λ (x : List ℕ). concatenated_lines past.before ++ x) (joined-lines rest)

shorter : (text front rest : List ℕ) → text ≡ front ++ rest → length rest ≤ length text
shorter text front rest is = omega (arith, ap length is, length-append front rest)

-- the rest is no longer than the text
pub rest_within : (text : List ℕ) (count : ℕ) (rest : List ℕ) → IsPastLines text count rest → length rest ≤ length text
rest_within text count rest past = shorter text (concatenated_lines past.before) rest (text_is text count rest past)

front_of : (text front rest : List ℕ) → text ≡ front ++ rest → take (length text - length rest) text ≡ front
front_of text front rest is =
    let size : length text - length rest ≡ length front = omega (arith, ap length is, length-append front rest) in
    ap (λ (n : ℕ). take n text) size ∙ ap (take (length front)) is ∙ take-append_seam front rest

-- what stands around the line after those lines
pub around_next : (text : List ℕ) (number count : ℕ) (rest old after : List ℕ) → IsPastLines text count rest → text_lines rest ≡ (old ++ 10 ∷ []) ∷ text_lines after → number ≡ count + 1
    → AreAround text number (take (length text - length rest) text) old after
around_next text number count rest old after past e at = record {
  before = past.before;
  after = text_lines after;
  cut = past.cut ∙ ap (λ (x : List (List ℕ)). past.before ++ x) e;
  place = omega (arith, past.many, at);
  front_is = front_of text (concatenated_lines past.before) rest (text_is text count rest past);
  back_is = sym (joined-lines after);
}

regroup : (a b c d : List ℕ) → ((a ++ b) ++ c) ++ d ≡ a ++ ((b ++ c) ++ d)
regroup a b c d = simp append_assoc

-- what stands around a line, with other words between, is the pinned text
pub pinned_of : (text : List ℕ) (number : ℕ) (taken : ChoiceTaken) (front old back pinned : List ℕ) → AreAround text number front old back
    → pinned ≡ ((front ++ line_with taken old) ++ 10 ∷ []) ++ back → IsPinned text number taken pinned
pinned_of text number taken front old back pinned around is =
    let line = line_with taken old in record {
      before = around.before;
      old = old;
      after = around.after;
      cut = around.cut;
      place = around.place;
      is =
          is ∙ regroup front line (10 ∷ []) back
          ∙ ap (λ (x : List ℕ). x ++ ((line ++ 10 ∷ []) ++ back)) around.front_is
          ∙ ap (λ (x : List ℕ). concatenated_lines around.before ++ ((line ++ 10 ∷ []) ++ x)) around.back_is
          ∙ ap (λ (x : List ℕ). concatenated_lines around.before ++ x) (sym (flat_map-cons (λ (l : List ℕ). l) (line ++ 10 ∷ []) around.after))
          ∙ sym (flat_map-append (λ (l : List ℕ). l) around.before ((line ++ 10 ∷ []) ∷ around.after));
    }
