-- The order in which texts follow one another.
use Rattle.std.specs.Prelude.{◌≡◌, ℕ, ◌<◌, List, Some, slice_get}

-- Each number of the order is that of one of so many texts, from 0, and each of the texts is in the
-- order.
pub record IsOrder (count : ℕ) (order : List ℕ) : Type 0 where
  pub known : (place number : ℕ) → slice_get order place ≡ Some number → number < count
  pub used : (number : ℕ) → number < count → (place : ℕ) × (slice_get order place ≡ Some number)
