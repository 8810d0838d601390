-- Steps of reading a call from its words.
use Rattle.std.proofs.Common.{◌≡◌, ℕ, zero, suc, ◌<◌, Bool, true, false, List, [], ◌∷◌, ◌++◌, Option, Some, None, length, get_or, sym, ap, subst, ◌∙◌, ◌≢◌, arith}
use Rattle.std.specs.Prelude.{IfSome, IfNone}
use Rattle.std.specs.List.{AllByRecursion}
use Rattle.calltext.specs.Names.{is_name}
use Rattle.calltext.specs.declared.call.CallLine.{CallLine}
use Rattle.calltext.specs.declared.verb.Verb.{Verb}
use Rattle.calltext.specs.Grammar.{call_words, HasNames}
use Rattle.calltext.specs.parts.Capped.{capped_call}
use Rattle.calltext.specs.parts.Verbs.{operands, request_words, IsReadAs}
use Rattle.calltext.specs.Verbs.{is_started, verb_word}
use Rattle.calltext.proofs.Verbs.{call_words_are, no_call}
use Rattle.calltext.proofs.Once.{request_injective}

pub some_of : {A : Type 0} (P : A → Type 0) (found : Option A) (x : A) → found ≡ Some x → IfSome found P → P x
some_of P found x e h = subst (λ f. IfSome f P) e h

pub none_of : {A : Type 0} (P : Type 0) (found : Option A) → found ≡ None → IfNone found P → P
none_of P found e h = subst (λ f. IfNone f P) e h

-- what follows one request follows each
pub others_are : (q r : Option (List ℕ)) (started : Bool) (xs ys words : List (List ℕ)) → is_started q ≡ started → is_started r ≡ started → request_words q ++ xs ≡ words → request_words r ++ ys ≡ words → xs ≡ ys
others_are q r started xs ys words p s e f = (request_injective q r xs ys (p ∙ sym s) (e ∙ sym f)).1

-- a word that is no name is none among names
pub not_names : (words : List (List ℕ)) (i : ℕ) → i < length words → is_name (get_or words i []) ≡ false → AllByRecursion (λ name. is_name name ≡ true) words → ⊥
not_names [] i lt e h = omega arith
not_names (w ∷ words) zero lt e h = let f : true ≡ false = sym h.0 ∙ e in cc
not_names (w ∷ words) (suc i) lt e h = not_names words i (omega arith) e h.1

-- where the first word is a verb's, what its operands are read as is what all the words are read as
pub read_none : (v : Verb) (words whole : List (List ℕ)) (found : Option CallLine) → IsReadAs v words found → whole ≡ verb_word v ∷ words → IfNone found ((c : CallLine) → HasNames c → call_words c ≢ whole)
read_none v words whole None h e = λ c names s. no_call v words h c names (s ∙ e)
read_none v words whole (Some x) h e = tt

pub read_some : (v : Verb) (words whole : List (List ℕ)) (found : Option CallLine) → IsReadAs v words found → whole ≡ verb_word v ∷ words
    → IfSome found (λ call. (c : CallLine) × HasNames c × (call_words c ≡ whole) × (call ≡ capped_call c))
read_some v words whole None h e = tt
read_some v words whole (Some x) (c, names, verb, rest, capped) e =
    (c, names, call_words_are c ∙ ap (λ (u : Verb). verb_word u ∷ operands c) verb ∙ ap (λ (ws : List (List ℕ)). verb_word v ∷ ws) rest ∙ sym e, capped)
