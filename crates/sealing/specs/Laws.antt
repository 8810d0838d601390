-- Laws of phases whose finders take messages of any source.
use Rattle.std.specs.Prelude.{◌≡◌, ℕ, List, Some}
use Rattle.callorder.specs.Programs.{MpiProgram}
use Rattle.semantics.specs.declared.state.Step.{Step}
use Rattle.semantics.specs.Headline.{NoStuckRun}
use Rattle.semantics.specs.Machine.{Configuration, opening, after_all, IsRun, partner_of}
use Rattle.races.specs.Tells.{Table, IsJustified}
use Rattle.phases.specs.Conditions.{LeavesNothing}
use Rattle.phases.specs.CallPlaces.{IsWellFormed}
use Rattle.phases.specs.Rests.{IsFront, behind}
use Rattle.sealing.specs.declared.loose.Loose.{Loose}
use Rattle.sealing.specs.Sealing.{IsFoundBeforeFinish, IsSealed, HasSurePartners, TellsFinish, IsLoose, IsLooseSend}

-- A program has no stuck run where a phase in front of it and what is left behind the phase have
-- none, and the phase leaves no message and keeps to itself before what is left.
abbrev pub OneSealedPhaseMore : Type 0
OneSealedPhaseMore =
    (q d : MpiProgram) → IsWellFormed q → IsWellFormed d → IsFront q d → NoStuckRun d → LeavesNothing d → IsSealed d (behind q d)
    → NoStuckRun (behind q d) → NoStuckRun q

-- In each run, a call that has found or been found has no other partner than one that is sure.
abbrev pub SurePartnersAreSo : Type 0
SurePartnersAreSo =
    (p : MpiProgram) (e : Configuration) → IsWellFormed p → HasSurePartners p e → (steps : List Step) → IsRun p (opening p) steps
    → (c x y : ℕ) → partner_of (after_all (opening p) steps) c ≡ Some x → partner_of e c ≡ Some y → x ≡ y

-- Where a table that partners justify which are sure tells so of a rank's end, the finder has found
-- wherever the rank is finished.
abbrev pub FinishTells : Type 0
FinishTells =
    (p : MpiProgram) (e : Configuration) (knows : Table) (rank f : ℕ) → IsWellFormed p → HasSurePartners p e → IsJustified p e knows
    → TellsFinish p e knows rank f → IsFoundBeforeFinish p f rank

-- A phase is sealed before what follows where that has no send that a loose entry stands for.
abbrev pub NoLooseSendSeals : Type 0
NoLooseSendSeals =
    (p following : MpiProgram) → IsWellFormed p → IsWellFormed following → following.ranks ≡ p.ranks
    → ((entry : Loose) → IsLoose p entry → IsLooseSend entry following → ⊥) → IsSealed p following
