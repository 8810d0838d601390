-- Things that stand at places, from 0, of a list, and where each stood before. A place may hold
-- none.
use Rattle.std.specs.Prelude.{◌≡◌, ◌↔◌, ℕ, ◌<◌, Bool, true, false, List, length, Option, Some, None, slice_get, get_or}
use Rattle.interning.specs.LastPlaces.{last_below, holds}

-- this is the greatest place below n that passes the test, or none passes
abbrev pub IsLast : (ℕ → Bool) → ℕ → Option ℕ → Type 0
IsLast test n None = (q : ℕ) → q < n → test q ≡ false
IsLast test n (Some p) = (p < n) × (test p ≡ true) × ((q : ℕ) → p < q → q < n → test q ≡ false)

-- one answer is the last place below n that passes the test: the greatest that passes
abbrev pub LastBelowIsLast : Type 0
LastBelowIsLast = (test : ℕ → Bool) (n : ℕ) (last : Option ℕ) → (last_below test n ≡ last) ↔ IsLast test n last

-- the place holds this one
abbrev pub holds_at : List (Option ℕ) → ℕ → ℕ → Bool
holds_at list number place = holds (get_or list place None) number

-- the last place below this one that holds it
abbrev pub last_before : List (Option ℕ) → Option ℕ → ℕ → Option ℕ
last_before list None place = None
last_before list (Some number) place = last_below (holds_at list number) place

-- where what stands at the place stood the last time before
abbrev pub previous_of : List (Option ℕ) → ℕ → Option ℕ
previous_of list place = last_before list (get_or list place None) place

-- every number in the list is below the bound
abbrev pub AreBelow : ℕ → List (Option ℕ) → Type 0
AreBelow bound list = (place number : ℕ) → slice_get list place ≡ Some (Some number) → number < bound

-- a table of one entry for each number below the bound
pub record IsTable (bound : ℕ) (entry : ℕ → Option ℕ) (table : List (Option ℕ)) : Type 0 where
  pub size : length table ≡ bound
  pub entries : (number : ℕ) → number < bound → get_or table number None ≡ entry number

-- The numbers of the names: a name has a number, below how many places there are; two names have
-- the same number exactly where they are equal; and numbers are given in the order of first use, so
-- that each smaller number stands before.
pub record IsNumbering {K : Type 0} (eq : K → K → Bool) (names : List (Option K)) (numbers : List (Option ℕ)) : Type 0 where
  pub size : length numbers ≡ length names
  pub below : AreBelow (length names) numbers
  pub unnamed : (place : ℕ) → slice_get names place ≡ Some None → slice_get numbers place ≡ Some None
  pub named : (place : ℕ) (name : K) → slice_get names place ≡ Some (Some name) → (number : ℕ) × (slice_get numbers place ≡ Some (Some number))
  pub same : (i j : ℕ) (a b : K) (m n : ℕ) → slice_get names i ≡ Some (Some a) → slice_get names j ≡ Some (Some b) → slice_get numbers i ≡ Some (Some m) → slice_get numbers j ≡ Some (Some n) → (m ≡ n) ↔ (eq a b ≡ true)
  pub in_order : (place number smaller : ℕ) → slice_get numbers place ≡ Some (Some number) → smaller < number → (earlier : ℕ) × (earlier < place) × (slice_get numbers earlier ≡ Some (Some smaller))
