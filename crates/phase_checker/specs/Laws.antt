-- What phases show of the program that they make up.
use Rattle.std.specs.Prelude.{◌≡◌, ℕ, List}
use Rattle.calltext.specs.Grammar.{long}
use Rattle.semantics.specs.Headline.{IsNeverStuckWithin}
use Rattle.phase_checker.specs.declared.phase.Phase.{Phase}
use Rattle.phase_checker.specs.declared.reason.NotJoined.{NotJoined}
use Rattle.phase_checker.specs.Dealing.{AreJoined, HasJoinFault}

-- Where phases make up the program of a text, no run of it gets stuck.
abbrev pub JoinedAreNeverStuck : Type 0
JoinedAreNeverStuck = (text : List ℕ) (phases : List Phase) (order : List ℕ) → AreJoined text phases order → IsNeverStuckWithin long text

-- Nothing is wrong where phases make up the program of a text.
abbrev pub JoinedHaveNoFault : Type 0
JoinedHaveNoFault = (text : List ℕ) (phases : List Phase) (order : List ℕ) (why : NotJoined) → AreJoined text phases order → HasJoinFault text phases order why → ⊥

-- One thing alone is wrong first. So what is told of phases, the text's own faults and want of
-- memory aside, comes exactly where it is right.
abbrev pub OneJoinFault : Type 0
OneJoinFault = (text : List ℕ) (phases : List Phase) (order : List ℕ) (a b : NotJoined) → HasJoinFault text phases order a → HasJoinFault text phases order b → a ≡ b
