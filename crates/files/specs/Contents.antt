-- What loading and storing do to the bytes that a reader has left and a writer holds, where those
-- are known.
use Rattle.std.specs.Prelude.{◌≡◌, ◌≢◌, ◌⊎◌, ℕ, ◌<◌, ltb, leb, nat_eq, Bool, ◌&&◌, not, IsTrue, List, ◌++◌, length, Option, None, Some}
use Rattle.std.specs.List.{starts_with}
use Rattle.std.specs.Io.KnownBytes.{Appends}
use Rattle.files.specs.declared.extent.Extent.{Extent}
use Rattle.files.specs.declared.extent.Extent.TheVariants.{Most, Begins}

-- these are all the bytes that were known
abbrev pub AreAll : Option (List ℕ) → List ℕ → Type 0
AreAll None bytes = Unit {0}
AreAll (Some known) bytes = bytes ≡ known

-- so much was read that the rest isn't needed: more than so many bytes, or as many as a beginning
-- has, and they aren't that
abbrev pub is_enough : Extent → List ℕ → Bool
is_enough (Most most) bytes = ltb most (length bytes)
is_enough (Begins front) bytes = leb (length front.now) (length bytes) && not (starts_with nat_eq bytes front.now)

-- these are all the bytes that were known, or a beginning of them that is enough
abbrev pub AreEnough : Extent → Option (List ℕ) → List ℕ → Type 0
AreEnough extent None bytes = Unit {0}
AreEnough extent (Some known) bytes = (bytes ≡ known) ⊎ (IsTrue (is_enough extent bytes) × ((rest : List ℕ) × (known ≡ bytes ++ rest)))

-- known bytes grow by a beginning of these, which lacks a byte at least
abbrev pub AppendsPart : Option (List ℕ) → Option (List ℕ) → List ℕ → Type 0
AppendsPart old new bytes = (written : List ℕ) × (rest : List ℕ) × (bytes ≡ written ++ rest) × (0 < length rest) × Appends old new written

-- every file but the one at this path holds what it held
abbrev pub KeepsOthers : List ℕ → (List ℕ → Option (List ℕ)) → (List ℕ → Option (List ℕ)) → Type 0
KeepsOthers path old new = (other : List ℕ) → other ≢ path → new other ≡ old other
