-- The ranks of collective calls.
use Rattle.std.specs.Prelude.{ℕ, ◌+◌, ◌-◌, ◌%◌, Bool, false, ◌&&◌, ◌==◌, nat_eq, nat_lt, not, Option, Some, None, List, [], ◌∷◌, ◌++◌, length, slice_get, slice_set, if◌then◌else◌}
use Rattle.std.specs.List.{filter, list_any, position_or_len, range_with_len}
use Rattle.unroll.specs.declared.call.Group.{Group}
use Rattle.unroll.specs.declared.call.Meeting.{Meeting}
use Rattle.unroll.specs.declared.call.Attendance.{Attendance}

-- the rank is the first one or a number of steps above it, and not above the last one
abbrev pub is_member : Group → ℕ → Bool
is_member g r = if nat_eq g.step 0 then false else if nat_lt r g.first then false else if nat_lt g.last r then false else nat_eq ((r - g.first) % g.step) 0

abbrev pub is_other_member : Group → ℕ → ℕ → Bool
is_other_member g rank r = is_member g r && not (nat_eq r rank)

-- the ranks of a group but one, rising, where there are so many ranks in all
abbrev pub others : Group → ℕ → ℕ → List ℕ
others g size rank = filter (λ r. is_other_member g rank r) (range_with_len 0 size)

-- the last one of a group's ranks
abbrev pub last_member : Group → ℕ
last_member g = g.last - (g.last - g.first) % g.step

-- the spelling that all groups with the same ranks have, of which there is one at least: up to the
-- last one, and by steps of 1 where there is one alone
abbrev pub alike : Group → Group
alike g = record { first = g.first; last = last_member g; step = if nat_eq (last_member g) g.first then 1 else g.step }

-- ---- who meets in collective calls

abbrev pub same_meeting : Meeting → Meeting → Bool
same_meeting a b = a.communicator == b.communicator && (a.group.first == b.group.first && (a.group.last == b.group.last && a.group.step == b.group.step))

-- those on this communicator and of this group meet
abbrev pub meeting_of : ℕ → Group → Meeting
meeting_of c g = record { communicator = c; group = alike g }

-- the number, from 0, of those who meet, in the order in which they first do so
abbrev pub meeting_number : List Meeting → Meeting → ℕ
meeting_number meetings m = position_or_len (same_meeting m) meetings

abbrev pub meetings_with : List Meeting → Meeting → List Meeting
meetings_with meetings m = if list_any (same_meeting m) meetings then meetings else meetings ++ m ∷ []

-- how many collective calls a rank made so far, by who attended last
abbrev pub calls_so_far : Option Attendance → ℕ → ℕ
calls_so_far None rank = 0
calls_so_far (Some last) rank = if nat_eq last.rank rank then last.calls else 0

-- so many of those with this number
abbrev pub earlier_calls : List Attendance → ℕ → ℕ → ℕ
earlier_calls attended number rank = calls_so_far (slice_get attended number) rank

abbrev pub attendance_put : List Attendance → ℕ → Attendance → List Attendance
attendance_put attended number a = if nat_lt number (length attended) then slice_set attended number a else attended ++ a ∷ []

-- the root that is named, or the first rank
abbrev pub root_in : Group → Option ℕ → ℕ
root_in g None = g.first
root_in g (Some r) = r

-- the rank of the group before one of it, and the one after it
abbrev pub before : Group → ℕ → Option ℕ
before g r = if nat_eq r g.first then None else Some (r - g.step)

abbrev pub member_after : Group → ℕ → Option ℕ
member_after g r = if nat_lt g.last r then None else if nat_lt (g.last - r) g.step then None else Some (r + g.step)
