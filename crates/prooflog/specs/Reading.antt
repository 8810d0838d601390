-- What the reader's parts say of a line and of the rest of a text.
use Rattle.std.specs.Prelude.{codes, ℕ, Bool, List, true, false}
use Rattle.prooflog.specs.declared.step.WrittenStep.{WrittenStep}
use Rattle.prooflog.specs.declared.step.WrittenStep.TheVariants.{Match, See}

-- The step by which a finder finds a send: a probe sees it, a taker is matched with it.
abbrev pub written_find_step : Bool → ℕ → ℕ → WrittenStep
written_find_step true send probe = See send probe
written_find_step false send taker = Match send taker

-- The word of a finder's step is `see` for a probe, and `match` for a taker.
abbrev pub find_word : Bool → List ℕ
find_word true = codes "see"
find_word false = codes "match"
