-- Rows of calls, one for each slot.
use Rattle.std.specs.Prelude.{◌≡◌, ℕ, ◌+◌, ◌≤◌, ◌⊎◌, ◌++◌, ◌==◌, true, false, List, [], ◌∷◌, length, Option, Some, None, slice_get, nat_eq}
use Rattle.std.specs.HashMap.{get}
use Rattle.std.specs.declared.collections.VecDeque.{VecDeque}
use Rattle.semantics.specs.Machine.{Configuration, is_matched}
use Rattle.leastrun.specs.declared.rows.SlotRows.{SlotRows}

abbrev pub row_of : {Z : Type 0} → Option (VecDeque ℕ Z) → List ℕ
row_of None = []
row_of (Some row) = row.items

-- the slot's row
abbrev pub row : SlotRows → ℕ → List ℕ
row rows q = row_of (get nat_eq rows.rows q)

abbrev pub StandsIn : SlotRows → ℕ → ℕ → Type 0
StandsIn rows q c = (i : ℕ) × (slice_get (row rows q) i ≡ Some c)

-- the call is added at the end of the slot's row, and the other rows stay
pub record IsAdded (old new : SlotRows) (slot c : ℕ) : Type 0 where
  pub here : row new slot ≡ row old slot ++ c ∷ []
  pub elsewhere : (q : ℕ) → (slot == q) ≡ false → row new q ≡ row old q

-- each row stays, but for the call, which may be added at its end
pub record IsGrown (old new : SlotRows) (c : ℕ) : Type 0 where
  pub stays : (q i e : ℕ) → slice_get (row old q) i ≡ Some e → slice_get (row new q) i ≡ Some e
  pub more : (q i e : ℕ) → slice_get (row new q) i ≡ Some e → (slice_get (row old q) i ≡ Some e) ⊎ ((length (row old q) ≤ i) × (e ≡ c))

-- the new row is the old one without a front of matched calls
abbrev pub IsSkipped : Configuration → List ℕ → List ℕ → Type 0
IsSkipped m old new = (gone : List ℕ) × (old ≡ gone ++ new) × ((i e : ℕ) → slice_get gone i ≡ Some e → is_matched m e ≡ true)

-- each row has lost a front, in which all are matched
pub record IsPassed (m : Configuration) (old new : SlotRows) : Type 0 where
  pub stays : (q c : ℕ) → is_matched m c ≡ false → StandsIn old q c → StandsIn new q c
  pub behind : (q : ℕ) → (n : ℕ) × ((i e : ℕ) → slice_get (row new q) i ≡ Some e → slice_get (row old q) (n + i) ≡ Some e)
