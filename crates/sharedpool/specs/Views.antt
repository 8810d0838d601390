-- The rule of the cell beside the lock. One pass at most knows all items. Each seat's list is, in
-- order, that worker's items among them, and there are no others. No worker has two seats, and none
-- whose seat was taken back has one
use Rattle.std.specs.Prelude.{◌≢◌, ℕ, ◌<◌, ◌==◌, true, false, if◌then◌else◌, List, [], ◌∷◌}
use Rattle.pool.specs.declared.entry.LoggedCall.{LoggedCall}
use Rattle.sharedpool.specs.declared.room.View.{View}

-- the items of one worker, in order
abbrev pub items_of : ℕ → List LoggedCall → List LoggedCall
items_of worker [] = []
items_of worker (item ∷ items) = if item.entry.worker == worker then item ∷ items_of worker items else items_of worker items

-- each item is of a worker below this number
abbrev pub AllBelow : ℕ → List LoggedCall → Type 0
AllBelow workers [] = Unit {0}
AllBelow workers (item ∷ items) = (item.entry.worker < workers) × AllBelow workers items

-- none of these workers is this one
abbrev pub IsNoneOf : List ℕ → ℕ → Type 0
IsNoneOf [] worker = Unit {0}
IsNoneOf (other ∷ others) worker = (other ≢ worker) × IsNoneOf others worker

-- no two of these workers are the same
abbrev pub AreDifferent : List ℕ → Type 0
AreDifferent [] = Unit {0}
AreDifferent (worker ∷ workers) = IsNoneOf workers worker × AreDifferent workers

abbrev pub nobody : View
nobody = record { keeps = false; workers = 0; all = []; taken = []; sits = false; worker = 0; mine = [] }

-- the keeper, after so many seats were made
abbrev pub knower : ℕ → List LoggedCall → View
knower workers all = record nobody { keeps = true; workers = workers; all = all }
