-- Walks: runs that go on until no step is enabled.
use Rattle.std.specs.Prelude.{ℕ, Bool, true, false, not, ◌&&◌, ◌==◌, is_some, IsTrue, List, Option, Some, None}
use Rattle.callorder.specs.declared.calls.Call.{Call}
use Rattle.callorder.specs.declared.calls.Kind.{Kind}
use Rattle.callorder.specs.Calls.{message_of, pattern_of, is_probe_kind}
use Rattle.callorder.specs.Programs.{MpiProgram, call_at}
use Rattle.semantics.specs.declared.state.Step.{Step}
use Rattle.semantics.specs.Configurations.{is_open_call}
use Rattle.semantics.specs.Machine.{Configuration, opening, after_all, can_issue, IsEnabled, IsRun}
use Rattle.semantics.specs.StuckParts.{NoIssue}
use Rattle.run_laws.specs.Places.{find_step}

-- no step is enabled
abbrev pub NoStepEnabled : MpiProgram → Configuration → Type 0
NoStepEnabled p m = (step : Step) → IsEnabled p m step → ⊥

-- a run from the opening configuration after which no step is enabled
pub record IsWalk (p : MpiProgram) (steps : List Step) : Type 0 where
  pub run : IsRun p (opening p) steps
  pub ended : NoStepEnabled p (after_all (opening p) steps)

-- ---- parts of a walk's step

-- the rank isn't the one that is held back
abbrev pub is_other : Option ℕ → ℕ → Bool
is_other None rank = true
is_other (Some held) rank = not (held == rank)

-- no call of the rank can be issued
abbrev pub NoIssueBy : MpiProgram → Configuration → ℕ → Type 0
NoIssueBy p m rank = (buffered : Bool) → IsTrue (can_issue p m rank buffered) → ⊥

abbrev pub is_open_send_call : MpiProgram → Configuration → ℕ → Option Call → Bool
is_open_send_call p m c None = false
is_open_send_call p m c (Some call) = is_some (message_of call.kind) && is_open_call p m c

-- the call is a send that is issued and not matched
abbrev pub is_open_send : MpiProgram → Configuration → ℕ → Bool
is_open_send p m c = is_open_send_call p m c (call_at p c)

-- calls of this kind are probes, which see messages, or takers, which take them out
abbrev pub finds : Bool → Kind ℕ → Bool
finds true kind = is_probe_kind kind
finds false kind = is_some (pattern_of kind) && not (is_probe_kind kind)

abbrev pub is_open_finder_call : MpiProgram → Configuration → Bool → ℕ → Option Call → Bool
is_open_finder_call p m sees c None = false
is_open_finder_call p m sees c (Some call) = finds sees call.kind && is_open_call p m c

-- the call is a probe, or a taker, that is issued and has found no message
abbrev pub is_open_finder : MpiProgram → Configuration → Bool → ℕ → Bool
is_open_finder p m sees c = is_open_finder_call p m sees c (call_at p c)

-- no probe can see a message, or no taker can be matched
abbrev pub NoFindBy : MpiProgram → Configuration → Bool → Type 0
NoFindBy p m sees = (send finder : ℕ) → IsEnabled p m (find_step sees send finder) → ⊥

-- no call can be issued, and no taker can be matched
pub record NothingButSees (p : MpiProgram) (m : Configuration) : Type 0 where
  pub issues : NoIssue p m
  pub matches : NoFindBy p m false
