-- Trees that mean the same.
use Rattle.std.specs.Prelude.{◌≡◌, ℕ, Bool, List, Option}
use Rattle.spmd_tree.specs.Plain.{Place, plain}
use Rattle.spmd_tree.specs.declared.tree.SpmdStatement.{SpmdStatement}
use Rattle.unroll.specs.declared.value.Value.{Value}
use Rattle.unroll.specs.Statements.{text_run}

-- Both mean the same for all settings, numbers of ranks, ways of collective calls and limits: the
-- same calls and turns of loops, or the same fault after them.
abbrev pub MeanTheSame : SpmdStatement → SpmdStatement → Type 0
MeanTheSame s u =
    (settings : List (Option Value)) (size : ℕ) (barriers : Bool) (most_calls most_turns : ℕ)
    → text_run s settings size barriers most_calls most_turns ≡ text_run u settings size barriers most_calls most_turns

-- Trees that differ at most in where boxes stand and in how statements one after another are put
-- into pairs mean the same.
abbrev pub PlainFormsMeanTheSame : Type 0
PlainFormsMeanTheSame = (p : Place) (s u : SpmdStatement) → plain p s ≡ plain p u → MeanTheSame s u
