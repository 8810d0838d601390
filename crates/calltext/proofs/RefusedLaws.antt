-- The list of refused words: its words are plain, and the table of the code holds them.
use Rattle.std.proofs.Common.{◌≡◌, ℕ, ◌<◌, Bool, true, List, [], ◌∷◌, length, refl}
use Rattle.std.specs.Prelude.{nat_le, nat_lt, ◌&&◌}
use Rattle.std.specs.List.{AllByRecursion, list_all}
use Rattle.std.proofs.lemmas.List.Elements.{All-from_recursion, All-contains, Contains-get_or}
use Rattle.plaintext.specs.Plain.{IsPlain}
use Rattle.plaintext.proofs.Ascii.{plain_by_test}
use Rattle.calltext.specs.RefusedWords.{refused_words, refused_word}
use Rattle.calltext.proofs.Conjunctions.{and_true}

plain_test : List ℕ → Bool
plain_test word = list_all (λ b. nat_le 33 b && nat_lt b 128) word

all_plain : (words : List (List ℕ)) → list_all plain_test words ≡ true → AllByRecursion IsPlain words
unfolding plain_test
all_plain [] e = tt
all_plain (w ∷ words) e =
    let x = and_true (plain_test w) (list_all plain_test words) e in
    (plain_by_test w x.0, all_plain words x.1)

pub plain_refused : (place : ℕ) → place < length refused_words → IsPlain (refused_word place)
unfolding refused_words plain_test
plain_refused place lt = All-contains IsPlain refused_words (refused_word place) (All-from_recursion IsPlain refused_words (all_plain refused_words refl)) (Contains-get_or refused_words place [] lt)
