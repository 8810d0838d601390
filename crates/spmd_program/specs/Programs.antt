-- The program that an SPMD text is unrolled to, its text, and lines that are written behind one.
use Rattle.std.specs.Prelude.{ℕ, nat_eq, List, map, filter, ◌≡◌, ◌++◌}
use Rattle.std.specs.List.{range_with_len, AllByRecursion, flat_map}
use Rattle.std.specs.Global.{Vec}
use Rattle.calltext.specs.declared.call.Policy.{Policy}
use Rattle.calltext.specs.declared.call.Policy.TheVariants as policy
use Rattle.calltext.specs.Grammar.{ProgramText, IsTextWithin, long, CallFits, call_words}
use Rattle.spmd_text.specs.declared.reading.SpmdPolicy.{SpmdPolicy}
use Rattle.spmd_text.specs.declared.reading.SpmdPolicy.TheVariants as buffering
use Rattle.unroll.specs.declared.call.Placed.{Placed}
use Rattle.spmd_program.specs.Lines.{lines_of_calls}
use Rattle.plaintext.specs.Plain.{line_of}
use Rattle.calltext.specs.declared.call.CallLine.{CallLine}

abbrev pub policy_of_buffering : SpmdPolicy → Policy
policy_of_buffering buffering.Any = policy.Any
policy_of_buffering buffering.Never = policy.Never
policy_of_buffering buffering.Always = policy.Always

-- the calls of a rank among those of all ranks
abbrev pub calls_of_rank : ℕ → List Placed → List Placed
calls_of_rank rank calls = filter (λ p. nat_eq p.rank rank) calls

-- the program of so many ranks with these calls, where names have these letters
abbrev pub program_of : SpmdPolicy → List (Vec ℕ) → ℕ → List Placed → ProgramText
program_of p names size calls = record { policy = policy_of_buffering p; ranks = map (λ rank. lines_of_calls names (calls_of_rank rank calls)) (range_with_len 0 size) }

-- the bytes are its text, which can be read again within the long limits: by calltext's laws as
-- this program and no other
abbrev pub IsProgramText : SpmdPolicy → List (Vec ℕ) → ℕ → List Placed → List ℕ → Type 0
IsProgramText p names size calls bytes = IsTextWithin long bytes (program_of p names size calls)

-- these lines are written behind a text, and can be read again
pub record AreLinesWritten (lines : List CallLine) (old new : List ℕ) : Type 0 where
  pub text : new ≡ old ++ flat_map (λ c. line_of (call_words c)) lines
  pub fit : AllByRecursion (CallFits long) lines
