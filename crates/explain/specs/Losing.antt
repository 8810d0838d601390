-- Channels to which more messages are sent than are taken there: in each run that finishes, some
-- are never received.
use Rattle.std.specs.Prelude.{◌≡◌, codes, nat_lt, Bool, List, [], length, ℕ}
use Rattle.std.specs.List.{filter}
use Rattle.callorder.specs.Programs.{MpiProgram}
use Rattle.balance.specs.declared.counting.Imbalance.{Imbalance}
use Rattle.balance.specs.Balance.{AreImbalances}
use Rattle.explain.specs.Often.{BeginsWithBytes}

abbrev pub has_more_sends : Imbalance → Bool
has_more_sends sides = nat_lt (length sides.takers.items) (length sides.sends.items)

-- these are the channels that have more sends than takers
pub record AreLosing (p : MpiProgram) (losing : List Imbalance) : Type 0 where
  pub all : List Imbalance
  pub are : AreImbalances p all
  pub is : losing ≡ filter has_more_sends all

abbrev pub lost_heading : List ℕ
lost_heading = codes "messages that no receive takes:\n"

-- The text is empty where no channel has more sends than takers, and begins with its heading where
-- one has.
pub record TellsLosses (p : MpiProgram) (text : List ℕ) : Type 0 where
  pub losing : List Imbalance
  pub are : AreLosing p losing
  pub none : losing ≡ [] → text ≡ []
  pub some : (losing ≡ [] → ⊥) → BeginsWithBytes lost_heading text
