-- The sends and the takers of each channel, by the channel's number.
use Rattle.std.specs.Prelude.{◌≡◌, ℕ, false, IsTrue, List, length, Option, Some, slice_get}
use Rattle.callorder.specs.Programs.{MpiProgram}
use Rattle.balance.specs.declared.counting.Imbalance.{Imbalance}
use Rattle.balance.specs.Balance.{is_send_at, ArePlacesWhere, Rise}

abbrev pub IsSendNumbered : MpiProgram → List (Option ℕ) → ℕ → ℕ → Type 0
IsSendNumbered p numbers number c = (slice_get numbers c ≡ Some (Some number)) × IsTrue (is_send_at p c)

abbrev pub IsTakerNumbered : MpiProgram → List (Option ℕ) → ℕ → ℕ → Type 0
IsTakerNumbered p numbers number c = (slice_get numbers c ≡ Some (Some number)) × (is_send_at p c ≡ false)

-- all sends and all other calls that have this number, in rising order
pub record AreNumberedSides (p : MpiProgram) (numbers : List (Option ℕ)) (number : ℕ) (sides : Imbalance) : Type 0 where
  pub sends : ArePlacesWhere (IsSendNumbered p numbers number) sides.sends.items
  pub takers : ArePlacesWhere (IsTakerNumbered p numbers number) sides.takers.items
  pub sends_rise : Rise sides.sends.items
  pub takers_rise : Rise sides.takers.items

-- for each number below a bound all sends and all other calls that have it
pub record AreAllSides (p : MpiProgram) (bound : ℕ) (numbers : List (Option ℕ)) (table : List Imbalance) : Type 0 where
  pub size : length table ≡ bound
  pub each : (number : ℕ) (sides : Imbalance) → slice_get table number ≡ Some sides → AreNumberedSides p numbers number sides
