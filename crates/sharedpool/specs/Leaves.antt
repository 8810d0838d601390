-- Which workers left.
use Rattle.std.specs.Prelude.{Bool, true, false, List}
use Rattle.std.specs.List.{list_any}
use Rattle.pool.specs.declared.entry.Operation.{Operation}
use Rattle.pool.specs.declared.entry.Operation.TheVariants.{Publish, Fetch, Close, Split, Found, Leave}
use Rattle.pool.specs.declared.entry.LoggedCall.{LoggedCall}

abbrev pub is_leave : Operation → Bool
is_leave (Publish count reply) = false
is_leave (Fetch from reply) = false
is_leave (Close leaf number reply) = false
is_leave (Split leaf variable reply) = false
is_leave (Found count reply) = false
is_leave (Leave why) = true

-- one of the calls is a leave
abbrev pub has_left : List LoggedCall → Bool
has_left items = list_any (λ (item : LoggedCall). is_leave item.entry.operation) items
