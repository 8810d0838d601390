-- Lines of steps: a line has one step, and after the lines of some steps comes a step's line or the
-- end.
use Rattle.std.proofs.Common.{◌≡◌, ◌≢◌, ℕ, ◌<◌, Bool, true, false, List, [], ◌∷◌, ◌++◌, length, get_or, refl, sym, ap, subst, ◌∙◌, arith}
use Rattle.std.specs.Prelude.{codes}
use Rattle.std.specs.List.{AllByRecursion}
use Rattle.plaintext.specs.Plain.{numeral, IsPlain}
use Rattle.plaintext.proofs.Numerals.{IsPlain-numeral, numeral_injective}
use Rattle.plaintext.proofs.Ascii.{plain_by_test}
use Rattle.plaintext.proofs.Cuts.{words_are, line_is}
use Rattle.plaintext.proofs.Texts.{line_of_injective, capped_small}
use Rattle.plaintext.proofs.FirstFaults.{heads}
use Rattle.prooflog.specs.declared.step.WrittenStep.{WrittenStep}
use Rattle.prooflog.specs.declared.step.WrittenStep.TheVariants.{Issue, Match, See}
use Rattle.prooflog.specs.Steps.{buffered_words, step_words, step_line, IsStepInRange, AreCallsInRange}
use Rattle.prooflog.specs.parts.Reading.{words_of, capped, capped_step}
use Rattle.prooflog.specs.Reading.{find_word, written_find_step}

-- ---- one line

plain_buffered : (b : Bool) → AllByRecursion IsPlain (buffered_words b)
plain_buffered true = (plain_by_test (codes "buffered") refl, tt)
plain_buffered false = tt

pub plain_step : (s : WrittenStep) → AllByRecursion IsPlain (step_words s)
plain_step (Issue r b) = (plain_by_test (codes "issue") refl, (IsPlain-numeral r, plain_buffered b))
plain_step (Match s t) = (plain_by_test (codes "match") refl, (IsPlain-numeral s, (IsPlain-numeral t, tt)))
plain_step (See s f) = (plain_by_test (codes "see") refl, (IsPlain-numeral s, (IsPlain-numeral f, tt)))

pub some_words : (s : WrittenStep) → 0 < length (step_words s)
some_words (Issue r b) = omega arith
some_words (Match s t) = omega arith
some_words (See s f) = omega arith

buffered_injective : (a b : Bool) → buffered_words a ≡ buffered_words b → a ≡ b
buffered_injective true true e = refl
buffered_injective true false e = absurd cc
buffered_injective false true e = absurd cc
buffered_injective false false e = refl

-- two numbers of calls behind one word
same_calls : (word : List ℕ) (s f s' f' : ℕ) → word ∷ numeral s ∷ numeral f ∷ [] ≡ word ∷ numeral s' ∷ numeral f' ∷ [] → (s ≡ s') × (f ≡ f')
same_calls word s f s' f' e =
    let w = heads _ _ _ _ e in
    let v = heads (numeral s) (numeral s') _ _ w.1 in
    let u = heads (numeral f) (numeral f') _ _ v.1 in
    (numeral_injective s s' v.0, numeral_injective f f' u.0)

-- two lines of words whose first words differ in their first letters
other_word : (word word' : List ℕ) (words words' : List (List ℕ)) → word ∷ words ≡ word' ∷ words' → get_or word 0 0 ≡ get_or word' 0 0
other_word word word' words words' e = ap (λ (l : List ℕ). get_or l 0 0) (heads word word' words words' e).0

step_injective : (a b : WrittenStep) → step_words a ≡ step_words b → a ≡ b
step_injective (Issue r b) (Issue r' b') e =
    let w = heads _ _ _ _ e in
    let v = heads (numeral r) (numeral r') (buffered_words b) (buffered_words b') w.1 in
    let p = numeral_injective r r' v.0 in
    let q = buffered_injective b b' v.1 in
    cc
step_injective (Issue r b) (Match s t) e = absurd (omega (arith, other_word _ _ _ _ e))
step_injective (Issue r b) (See s f) e = absurd (omega (arith, other_word _ _ _ _ e))
step_injective (Match s t) (Issue r b) e = absurd (omega (arith, other_word _ _ _ _ e))
step_injective (Match s t) (Match s' t') e = let same = same_calls (codes "match") s t s' t' e in λ i. Match (same.0 i) (same.1 i)
step_injective (Match s t) (See s' f) e = absurd (omega (arith, other_word _ _ _ _ e))
step_injective (See s f) (Issue r b) e = absurd (omega (arith, other_word _ _ _ _ e))
step_injective (See s f) (Match s' t) e = absurd (omega (arith, other_word _ _ _ _ e))
step_injective (See s f) (See s' f') e = let same = same_calls (codes "see") s f s' f' e in λ i. See (same.0 i) (same.1 i)

pub step_line_injective : (a b : WrittenStep) → step_line a ≡ step_line b → a ≡ b
step_line_injective a b e = step_injective a b (line_of_injective (step_words a) (step_words b) (some_words a) (some_words b) (plain_step a) (plain_step b) e)

pub step_line_nonempty : (s : WrittenStep) → step_line s ≡ [] → ⊥
step_line_nonempty (Issue r b) e = cc
step_line_nonempty (Match s t) e = cc
step_line_nonempty (See s f) e = cc

-- a finder's step has its word and the numbers of its calls
pub find_words : (sees : Bool) (s f : ℕ) → step_words (written_find_step sees s f) ≡ find_word sees ∷ numeral s ∷ numeral f ∷ []
find_words true s f = refl
find_words false s f = refl

-- ---- a step that is read up to a limit

same_capped : (s f : ℕ) → AreCallsInRange (capped s) (capped f) → (capped s ≡ s) × (capped f ≡ f)
same_capped s f fits = (capped_small s 2147483647 (omega arith) fits.1, capped_small f 2147483647 (omega arith) fits.3)

pub capped_find : (sees : Bool) (s f : ℕ) → capped_step (written_find_step sees s f) ≡ written_find_step sees (capped s) (capped f)
capped_find true s f = refl
capped_find false s f = refl

pub capped_same : (s : WrittenStep) → IsStepInRange (capped_step s) → capped_step s ≡ s
capped_same (Issue r b) fits = ap (λ (x : ℕ). Issue x b) (capped_small r 2147483647 (omega arith) fits)
capped_same (Match s t) fits = let same = same_capped s t fits in λ i. Match (same.0 i) (same.1 i)
capped_same (See s f) fits = let same = same_capped s f fits in λ i. See (same.0 i) (same.1 i)

pub capped_fits : (s : WrittenStep) → IsStepInRange s → IsStepInRange (capped_step s)
capped_fits (Issue r b) fits = omega arith
capped_fits (Match s t) fits = (omega arith, omega arith, omega arith, omega arith)
capped_fits (See s f) fits = (omega arith, omega arith, omega arith, omega arith)

-- ---- what the words of a line say

pub no_step_line : (line : List ℕ) → ((s : WrittenStep) → step_words s ≢ words_of line) → (s : WrittenStep) → step_line s ≢ line ++ 10 ∷ []
no_step_line line none s e = none s (words_are (step_words s) line (some_words s) (plain_step s) e)

pub step_line_of : (line : List ℕ) (s : WrittenStep) → step_words s ≡ words_of line → step_line s ≡ line ++ 10 ∷ []
step_line_of line s e = line_is (step_words s) line e

-- a step that is read out of range is out of range
pub over_range : (s read : WrittenStep) → read ≡ capped_step s → (IsStepInRange read → ⊥) → IsStepInRange s → ⊥
over_range s read e over fits = over (subst IsStepInRange (sym e) (capped_fits s fits))

-- a step that is read in range is the line's
pub read_step : (s read : WrittenStep) → read ≡ capped_step s → IsStepInRange read → read ≡ s
read_step s read e fits = e ∙ capped_same s (subst IsStepInRange e fits)
