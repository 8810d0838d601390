-- What inner functions promise one another, beside `specs/Leaves.antt`.
use Rattle.std.specs.Prelude.{ℕ, zero, suc, ◌+◌, ◌-◌, ◌==◌, ◌&&◌, Bool, if◌then◌else◌, List}
use Rattle.std.specs.List.{list_any}
use Rattle.pool.specs.declared.entry.Entry.{Entry}
use Rattle.pool.specs.declared.entry.LoggedCall.{LoggedCall}
use Rattle.sharedpool.specs.Views.{items_of}
use Rattle.sharedpool.specs.Leaves.{has_left, is_leave}

-- one of the entries is a leave of this worker
abbrev pub has_entry : ℕ → List Entry → Bool
has_entry worker entries = list_any (λ (entry : Entry). (entry.worker == worker) && is_leave entry.operation) entries

-- how many of so many workers left
abbrev pub leavers : ℕ → List LoggedCall → ℕ
leavers zero items = 0
leavers (suc worker) items = (if has_left (items_of worker items) then 1 else 0) + leavers worker items

-- how many places are kept after a leave of a worker that had left before or not
abbrev pub places_after : Bool → ℕ → ℕ
places_after has_left places = if has_left then places else places - 1
