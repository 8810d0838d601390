-- Which limits allow what others do.
use Rattle.std.specs.Prelude.{◌≤◌}
use Rattle.calltext.specs.declared.limits.Limits.{Limits}
use Rattle.calltext.specs.Grammar.{long, short}

-- What is within the first limits is within the second ones.
pub record IsWithin (l m : Limits) : Type 0 where
  pub bytes : l.bytes ≤ m.bytes
  pub ranks : l.ranks ≤ m.ranks
  pub peer : l.peer ≤ m.peer
  pub tag : l.tag ≤ m.tag
  pub communicator : l.communicator ≤ m.communicator
  pub calls : l.calls ≤ m.calls

-- Limits that a text can be read within: they allow some rank, and nothing that isn't within the
-- long ones.
pub record AreLimits (l : Limits) : Type 0 where
  pub some : 1 ≤ l.ranks
  pub within : IsWithin l long

-- The law: what is within the short limits is within the long ones.
abbrev pub ShortIsWithinLong : Type 0
ShortIsWithinLong = IsWithin short long
