-- What inner functions promise one another, beside `specs/Views.antt`.
use Rattle.std.specs.Prelude.{◌≡◌, ℕ, ◌+◌, ◌<◌, true, List, [], ◌∷◌, ◌++◌}
use mathlib.Core.Option.{some}
use lib.ListN.{get_elem?}
use Rattle.pool.specs.declared.entry.LoggedCall.{LoggedCall}
use Rattle.sharedpool.specs.declared.room.View.{View}
use Rattle.sharedpool.specs.Views.{AllBelow, AreDifferent, IsNoneOf, items_of, knower, nobody}

abbrev pub sitting : ℕ → List LoggedCall → View
sitting worker mine = record nobody { sits = true; worker = worker; mine = mine }

abbrev pub one_more : View → View
one_more v = knower (v.workers + 1) v.all

abbrev pub next_seat : View → View
next_seat v = sitting v.workers []

-- the keeper, after the seats of these workers were taken back, the last one first
abbrev pub taker : ℕ → List LoggedCall → List ℕ → View
taker workers all taken = record (knower workers all) { taken = taken }

abbrev pub with_seat : View → View → View
with_seat v u = record v { sits = u.sits; worker = u.worker; mine = u.mine }

abbrev pub keeper_of : View → View
keeper_of v = taker v.workers v.all v.taken

abbrev pub seat_of : View → View
seat_of v = sitting v.worker v.mine

abbrev pub with_item : View → LoggedCall → View
with_item v item = record v { all = v.all ++ item ∷ []; mine = v.mine ++ item ∷ [] }

-- what the rule says of one pass
pub record IsFittingView (keeper workers : ℕ) (all : List LoggedCall) (taken : List ℕ) (place : ℕ → ℕ) (by : ℕ) (v : View) : Type 0 where
  pub keeps : v.keeps ≡ true → (by ≡ keeper) × (v.workers ≡ workers) × (v.all ≡ all) × (v.taken ≡ taken)
  pub sits : v.sits ≡ true → (by ≡ place v.worker) × (v.worker < workers) × (v.mine ≡ items_of v.worker all) × IsNoneOf taken v.worker

pub record Kept (words : List ℕ) (views : List View) : Type 0 where
  pub keeper : ℕ
  pub workers : ℕ
  pub all : List LoggedCall
  pub taken : List ℕ
  pub place : ℕ → ℕ
  pub below : AllBelow workers all
  pub different : AreDifferent taken
  pub each : (by : ℕ) (v : View) → get_elem? views by ≡ some v → IsFittingView keeper workers all taken place by v

-- the item was added, and the seat's list had been its worker's items
abbrev pub Added : LoggedCall → View → List ℕ → List ℕ → View → Type 0
Added item v before after w = (w ≡ with_item v item) × (v.mine ≡ items_of v.worker v.all)

-- the seat's list is its worker's items
abbrev pub Looked : View → List ℕ → List ℕ → View → Type 0
Looked v before after w = (w ≡ v) × (v.mine ≡ items_of v.worker v.all) × (v.worker < v.workers)

-- the seat is taken back, whose list is its worker's items
abbrev pub TakenBack : View → List ℕ → List ℕ → View → Type 0
TakenBack v before after w =
    (w ≡ taker v.workers v.all (v.worker ∷ v.taken)) × (v.mine ≡ items_of v.worker v.all) × (v.worker < v.workers) × AllBelow v.workers v.all × AreDifferent (v.worker ∷ v.taken)
