-- Where a mark stands in a text.
use Rattle.std.specs.Prelude.{◌≡◌, ◌≤◌, ◌<◌, ◌-◌, ◌⊎◌, ℕ, List, ◌∷◌, ◌++◌, codes, length, slice_index}
use Rattle.places.specs.Maps.{IsDigit}

-- the mark stands nowhere in the text
abbrev pub Lacks : List ℕ → List ℕ → Type 0
Lacks mark text = (front behind : List ℕ) → text ≡ front ++ (mark ++ behind) → ⊥

-- the text is what stands before the mark, the mark, and what stands behind it; and the mark stands
-- nowhere before that
pub record IsAround (mark text front behind : List ℕ) : Type 0 where
  pub parts : text ≡ front ++ (mark ++ behind)
  pub first : (a b : List ℕ) → text ≡ a ++ (mark ++ b) → length front ≤ length a

-- a letter, a to z, or a digit: what names of requests and handles are made of
abbrev pub IsOfName : ℕ → Type 0
IsOfName byte = ((97 ≤ byte) × (byte ≤ 122)) ⊎ IsDigit byte

-- what is left of a text without the letters and digits that it ends with
pub record IsStem (text stem : List ℕ) : Type 0 where
  pub name : List ℕ
  pub parts : text ≡ stem ++ name
  pub letters : (k : ℕ) → length stem ≤ k → k < length text → IsOfName (slice_index text k)
  pub last : 0 < length stem → IsOfName (slice_index text (length stem - 1)) → ⊥

abbrev pub EndsWith : List ℕ → List ℕ → Type 0
EndsWith end text = (front : List ℕ) × (text ≡ front ++ end)

-- the text ends with a verb behind which a name and a number stand: `isend `, `issend `, `ibsend `,
-- `irecv `, `mprobe `; or with one like these
abbrev pub EndsWithVerb : List ℕ → Type 0
EndsWithVerb text = EndsWith (codes "send ") text ⊎ (EndsWith (codes "recv ") text ⊎ EndsWith (codes "probe ") text)

-- behind such a verb the text has nothing but letters and digits, so a name begins there and may go
-- on behind the text
abbrev pub EndsInName : List ℕ → Type 0
EndsInName text = (stem : List ℕ) × IsStem text stem × EndsWithVerb stem

-- the text is what stands before the mark, the mark, and what stands behind it, and the mark is no
-- part of a name
pub record IsNaming (mark text front behind : List ℕ) : Type 0 where
  pub parts : text ≡ front ++ (mark ++ behind)
  pub free : EndsInName front → ⊥

-- so, and not before that
pub record IsFirstNaming (mark text front behind : List ℕ) : Type 0 where
  pub names : IsNaming mark text front behind
  pub first : (a b : List ℕ) → IsNaming mark text a b → length front ≤ length a

-- wherever the mark stands in the text, it is a part of a name
abbrev pub NamesNone : List ℕ → List ℕ → Type 0
NamesNone mark text = (front behind : List ℕ) → IsNaming mark text front behind → ⊥

abbrev pub BeginsWithNoDigit : List ℕ → Type 0
BeginsWithNoDigit bytes = (byte : ℕ) (more : List ℕ) → bytes ≡ byte ∷ more → IsDigit byte → ⊥
