-- The words of a line that is cut at its spaces.
use Rattle.std.proofs.Common.{◌≡◌, ℕ, List, [], ◌∷◌, length, eqb, sym, ap, ◌∙◌, arith}
use Rattle.std.specs.List.{join_with_byte}
use Rattle.std.proofs.lemmas.List.Splits.{join_with_byte-slice_split, length-slice_split}
use Rattle.plaintext.specs.Plain.{numeral, IsPlain}
use Rattle.plaintext.proofs.Numerals.{IsPlain-numeral}
use Rattle.plaintext.proofs.Cuts.{parts_joined}
use Rattle.prooflog.specs.parts.Reading.{words_of}

-- a line of one word is that word
pub only_word : (word line : List ℕ) → word ∷ [] ≡ words_of line → word ≡ line
only_word word line e = ap (join_with_byte 32) e ∙ join_with_byte-slice_split 32 line

pub words_of-plain : (word : List ℕ) → IsPlain word → words_of word ≡ word ∷ []
words_of-plain word plain = parts_joined (word ∷ []) (omega arith) (plain, tt)

-- a line has a word, if only an empty one
pub no_words : (line : List ℕ) → [] ≡ words_of line → ⊥
no_words line e = omega (arith, length-slice_split (λ byte. eqb byte 32) line, ap length e)

pub numeral_only : (n : ℕ) (word : List ℕ) → numeral n ≡ word → numeral n ∷ [] ≡ words_of word
numeral_only n word e = sym (words_of-plain (numeral n) (IsPlain-numeral n)) ∙ ap words_of e
