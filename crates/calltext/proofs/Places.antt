-- The words of the list differ: the place of a word in it is the word's own.
use Rattle.std.proofs.Common.{◌≡◌, ℕ, zero, suc, ◌<◌, Bool, true, length, refl, sym, ap, subst, ◌∙◌, arith, inl, inr}
use Rattle.std.specs.Prelude.{◌&&◌, nat_eq}
use Rattle.std.proofs.lemmas.Bool.{eqb-true, cases_lt}
use Rattle.calltext.specs.RefusedWords.{refused_words, refused_word, place_of}
use Rattle.calltext.proofs.Conjunctions.{and_true}

-- the test passes each number below n
all_below : ℕ → (ℕ → Bool) → Bool
all_below zero test = true
all_below (suc n) test = test n && all_below n test

below : (n : ℕ) (test : ℕ → Bool) → all_below n test ≡ true → (i : ℕ) → i < n → test i ≡ true
unfolding all_below
below zero test e i lt = absurd (omega arith)
below (suc n) test e i lt =
    let both = and_true (test n) (all_below n test) e in
    elim (cases_lt i n) [
      | inl less ↦ below n test both.1 i less
      | inr more ↦ subst (λ (k : ℕ). test k ≡ true) (omega arith) both.0
    ]

in_place : ℕ → Bool
in_place i = nat_eq (place_of (refused_word i)) i

place_of-refused_word : (i : ℕ) → i < length refused_words → place_of (refused_word i) ≡ i
unfolding refused_words in_place all_below
place_of-refused_word i lt = eqb-true (place_of (refused_word i)) i (below (length refused_words) in_place refl i lt)

-- one word stands at one place
pub refused_word_injective : (i j : ℕ) → i < length refused_words → j < length refused_words → refused_word i ≡ refused_word j → i ≡ j
refused_word_injective i j p q e = sym (place_of-refused_word i p) ∙ ap place_of e ∙ place_of-refused_word j q
