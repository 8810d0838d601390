-- What the loops over the words of a proof line keep, and where they stop.
use Rattle.std.proofs.Common.{◌≡◌, ℕ, ◌+◌, ◌<◌, ◌⊎◌, inl, inr, Bool, false, List, [], ◌∷◌, ◌++◌, Option, Some, None, length, map, IfSome, refl, sym, ap, ◌∙◌, append_assoc, arith, Bor}
use Rattle.std.specs.Prelude.{codes}
use Rattle.std.specs.Option.{option_copied}
use Rattle.std.specs.List.{AllByRecursion}
use Rattle.std.proofs.lemmas.List.{map_push}
use Rattle.plaintext.specs.Plain.{numeral}
use Rattle.plaintext.proofs.Ascii.{all_append}
use Rattle.plaintext.proofs.FirstFaults.{heads}
use Rattle.clauses.specs.Clauses.{Literal}
use Rattle.prooflog.specs.Refutations.{literal_word}
use Rattle.prooflog.specs.parts.Reading.{words_after, capped, IsVariable, IsReadLiteral, AreRead}
use Rattle.prooflog.proofs.ProofWords.{no_colon}

-- how many bytes are left, and one more where there are words
abbrev pub bytes_left : Option (List ℕ) → ℕ
bytes_left None = 0
bytes_left (Some bytes) = length bytes + 1

-- the words of what was read, and one more word
one_word : {A : Type 0} (spell : A → List ℕ) (done : List A) (x : A) (word : List ℕ) (rest after whole : List (List ℕ)) → map spell done ++ rest ≡ whole → rest ≡ word ∷ after → spell x ≡ word
    → map spell (done ++ x ∷ []) ++ after ≡ whole
one_word spell done x word rest after whole cut next is =
    ap (λ (ws : List (List ℕ)). ws ++ after) (map_push spell done x ∙ ap (λ (w : List ℕ). map spell done ++ w ∷ []) is)
    ∙ append_assoc (map spell done) (word ∷ []) after ∙ ap (λ (ws : List (List ℕ)). map spell done ++ ws) (sym next) ∙ cut

-- ---- numbers

pub record NumbersSoFar (whole rest : Option (List ℕ)) (read : List ℕ) : Type 0 where
  pub numbers : List ℕ
  pub cut : map numeral numbers ++ words_after rest ≡ words_after whole
  pub are : read ≡ map capped numbers

pub no_numbers : (whole : Option (List ℕ)) → NumbersSoFar whole whole []
no_numbers whole = record { numbers = []; cut = refl; are = refl }

pub one_number : (whole rest after : Option (List ℕ)) (read : List ℕ) (word : List ℕ) (n found : ℕ) → NumbersSoFar whole rest read → words_after rest ≡ word ∷ words_after after → numeral n ≡ word → found ≡ capped n
    → NumbersSoFar whole after (read ++ found ∷ [])
one_number whole rest after read word n found so next is caps = record {
  numbers = so.numbers ++ n ∷ [];
  cut = one_word numeral so.numbers n word (words_after rest) (words_after after) (words_after whole) so.cut next is;
  are = (λ i. so.are i ++ caps i ∷ []) ∙ sym (map_push capped so.numbers n);
}

next_numeral : (ns done : List ℕ) (word : List ℕ) (more : List (List ℕ)) → map numeral ns ≡ map numeral done ++ word ∷ more → (n : ℕ) × (numeral n ≡ word)
next_numeral [] [] word more e = absurd cc
next_numeral [] (d ∷ done) word more e = absurd cc
next_numeral (n ∷ ns) [] word more e = (n, (heads (numeral n) word (map numeral ns) more e).0)
next_numeral (n ∷ ns) (d ∷ done) word more e = next_numeral ns done word more (heads (numeral n) (numeral d) (map numeral ns) (map numeral done ++ word ∷ more) e).1

pub no_number : (whole rest after : Option (List ℕ)) (read : List ℕ) (word : List ℕ) → NumbersSoFar whole rest read → words_after rest ≡ word ∷ words_after after → ((n : ℕ) → numeral n ≡ word → ⊥)
    → (ns : List ℕ) → map numeral ns ≡ words_after whole → ⊥
no_number whole rest after read word so next none ns e =
    let n = next_numeral ns so.numbers word (words_after after) (e ∙ sym so.cut ∙ ap (λ (ws : List (List ℕ)). map numeral so.numbers ++ ws) next) in
    none n.0 n.1

-- ---- literals

pub record LiteralsSoFar (whole rest : Option (List ℕ)) (in_range : Bool) (read : List Literal) : Type 0 where
  pub literals : List Literal
  pub cut : map literal_word literals ++ words_after rest ≡ words_after whole
  pub are : AreRead in_range read literals

all_front : {A : Type 0} (P : A → Type 0) (xs ys : List A) → AllByRecursion P (xs ++ ys) → AllByRecursion P xs × AllByRecursion P ys
all_front P [] ys all = (tt, all)
all_front P (x ∷ xs) ys all = let both = all_front P xs ys all.1 in ((all.0, both.0), both.1)

pub one_literal : (whole rest after : Option (List ℕ)) (in_range : Bool) (read : List Literal) (word : List ℕ) (l found : Literal) → LiteralsSoFar whole rest in_range read → words_after rest ≡ word ∷ words_after after → literal_word l ≡ word
    → IsReadLiteral (Some found) l → LiteralsSoFar whole after in_range (read ++ found ∷ [])
one_literal whole rest after in_range read word l found so next is reads = record {
  literals = so.literals ++ l ∷ [];
  cut = one_word literal_word so.literals l word (words_after rest) (words_after after) (words_after whole) so.cut next is;
  are = (
    (λ t. all_append IsVariable so.literals (l ∷ []) (so.are.0.0 t) (reads.1, tt), λ all. so.are.0.1 (all_front IsVariable so.literals (l ∷ []) all).0),
    λ t i. so.are.1 t i ++ reads.0 i ∷ [],
  );
}

pub one_out_of_range : (whole rest after : Option (List ℕ)) (in_range : Bool) (read : List Literal) (word : List ℕ) (l : Literal) → LiteralsSoFar whole rest in_range read → words_after rest ≡ word ∷ words_after after → literal_word l ≡ word
    → IsReadLiteral None l → LiteralsSoFar whole after false read
one_out_of_range whole rest after in_range read word l so next is reads = record {
  literals = so.literals ++ l ∷ [];
  cut = one_word literal_word so.literals l word (words_after rest) (words_after after) (words_after whole) so.cut next is;
  are = ((λ t. absurd cc, λ all. absurd (reads (all_front IsVariable so.literals (l ∷ []) all).1.0)), λ t. absurd cc);
}

-- after some literals of those that stand before a colon comes another literal, or the colon
next_word : (ls done : List Literal) (hints rest : List (List ℕ)) → map literal_word ls ++ codes ":" ∷ hints ≡ map literal_word done ++ rest
    → (word : List ℕ) × (more : List (List ℕ)) × (rest ≡ word ∷ more) × ((word ≡ codes ":") ⊎ ((l : Literal) × (literal_word l ≡ word)))
next_word [] [] hints rest e = (codes ":", hints, sym e, inl refl)
next_word [] (d ∷ done) hints rest e = absurd (no_colon d (sym (heads (codes ":") (literal_word d) hints (map literal_word done ++ rest) e).0))
next_word (l ∷ ls) [] hints rest e = (literal_word l, map literal_word ls ++ codes ":" ∷ hints, sym e, inr (l, refl))
next_word (l ∷ ls) (d ∷ done) hints rest e = next_word ls done hints rest (heads (literal_word l) (literal_word d) (map literal_word ls ++ codes ":" ∷ hints) (map literal_word done ++ rest) e).1

pub no_literal : (whole rest after : Option (List ℕ)) (in_range : Bool) (read : List Literal) (word : List ℕ) → LiteralsSoFar whole rest in_range read → words_after rest ≡ word ∷ words_after after → (word ≡ codes ":" → ⊥)
    → ((l : Literal) → literal_word l ≡ word → ⊥) → (ls : List Literal) (hints : List (List ℕ)) → map literal_word ls ++ codes ":" ∷ hints ≡ words_after whole → ⊥
no_literal whole rest after in_range read word so next colon none ls hints e =
    let n = next_word ls so.literals hints (words_after rest) (e ∙ sym so.cut) in
    let same = heads word n.0 (words_after after) n.1 (sym next ∙ n.2) in
    elim n.3 [ inl is ↦ colon (same.0 ∙ is) | inr is ↦ none is.0 (is.1 ∙ sym same.0) ]

pub no_more_words : (whole rest : Option (List ℕ)) (in_range : Bool) (read : List Literal) → LiteralsSoFar whole rest in_range read → rest ≡ None
    → (ls : List Literal) (hints : List (List ℕ)) → map literal_word ls ++ codes ":" ∷ hints ≡ words_after whole → ⊥
no_more_words whole rest in_range read so none ls hints e =
    let n = next_word ls so.literals hints (words_after rest) (e ∙ sym so.cut) in
    let empty : [] ≡ n.0 ∷ n.1 = ap (λ (o : Option (List ℕ)). words_after o) (sym none) ∙ n.2 in
    cc

-- fewer bytes are left after a word
pub fewer_left : (after : Option (Bor (List ℕ))) (words : List ℕ) → IfSome after (λ rest. length rest.now < length words) → bytes_left (option_copied after) < length words + 1
fewer_left None words shorter = omega arith
fewer_left (Some rest) words shorter = omega (arith, shorter)
