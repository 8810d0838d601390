-- The ranks, one by one: what is left of a text, from a rank on, has this outcome.
use Rattle.std.proofs.Common.{◌≡◌, ℕ, suc, ◌+◌, Bool, List, Option, ap, sym, ◌∙◌}
use Rattle.spmd_tree.specs.declared.tree.SpmdStatement.{SpmdStatement}
use Rattle.unroll.specs.declared.machine.Scope.{Scope}
use Rattle.unroll.specs.declared.value.Value.{Value}
use Rattle.unroll.specs.declared.call.Fault.{Fault}
use Rattle.std.specs.Global.{Vec}
use Rattle.unroll.specs.declared.call.Turn.{Turn}
use Rattle.unroll.specs.declared.machine.Stop.{Stop}
use Rattle.unroll.specs.declared.machine.Stop.TheVariants.{Memory, Faulty}
use Rattle.unroll.specs.Whole.{IsFailure, refused}
use Rattle.unroll.specs.parts.Runs.{Stops}
use Rattle.unroll.specs.Runs.{TextRun, Outcome, Done, Failed, then_do}
use Rattle.unroll.specs.Statements.{ranks_from, rank_run}

abbrev pub scope_of : ℕ → ℕ → Bool → ℕ → ℕ → Scope
scope_of rank size barriers calls turns = record { rank = rank; size = size; barriers = barriers; most_calls = calls; most_turns = turns }

pub ranks_over : (n : ℕ) (p : SpmdStatement) (s : List (Option Value)) (rank size : ℕ) (barriers : Bool) (calls turns : ℕ) (run : TextRun) (o : Outcome)
    → ranks_from n p s rank size barriers calls turns run ≡ o → n ≡ 0 → o ≡ Done run
ranks_over n p s rank size barriers calls turns run o is none = sym is ∙ ap (λ k. ranks_from k p s rank size barriers calls turns run) none

pub rank_fails : (n m : ℕ) (p : SpmdStatement) (s : List (Option Value)) (rank size : ℕ) (barriers : Bool) (calls turns : ℕ) (run r : TextRun) (fault : Fault) (o : Outcome)
    → ranks_from n p s rank size barriers calls turns run ≡ o → n ≡ suc m → rank_run p s (scope_of rank size barriers calls turns) run ≡ Failed fault r → o ≡ Failed fault r
rank_fails n m p s rank size barriers calls turns run r fault o is more e =
    let go : TextRun → Outcome = λ x. ranks_from m p s (rank + 1) size barriers calls turns x in
    sym is ∙ ap (λ k. ranks_from k p s rank size barriers calls turns run) more ∙ ap (λ x. then_do x go) e

pub rank_done : (n m : ℕ) (p : SpmdStatement) (s : List (Option Value)) (rank size : ℕ) (barriers : Bool) (calls turns : ℕ) (run r : TextRun) (o : Outcome)
    → ranks_from n p s rank size barriers calls turns run ≡ o → n ≡ suc m → rank_run p s (scope_of rank size barriers calls turns) run ≡ Done r → ranks_from m p s (rank + 1) size barriers calls turns r ≡ o
rank_done n m p s rank size barriers calls turns run r o is more e =
    let go : TextRun → Outcome = λ x. ranks_from m p s (rank + 1) size barriers calls turns x in
    sym (ap (λ x. then_do x go) e) ∙ sym (ap (λ k. ranks_from k p s rank size barriers calls turns run) more) ∙ is

pub rank_refused : (n m : ℕ) (p : SpmdStatement) (s : List (Option Value)) (rank size : ℕ) (barriers : Bool) (calls turns : ℕ) (run r : TextRun) (stop : Stop) (log : Vec Turn) (o : Outcome)
    → ranks_from n p s rank size barriers calls turns run ≡ o → n ≡ suc m → Stops stop (rank_run p s (scope_of rank size barriers calls turns) run) r → log.items ≡ r.turns → IsFailure (refused stop log) o
rank_refused n m p s rank size barriers calls turns run r Memory log o is more e same = tt
rank_refused n m p s rank size barriers calls turns run r (Faulty fault) log o is more e same = (r, rank_fails n m p s rank size barriers calls turns run r fault o is more e, same)
