-- What is said of a send and one of its takers where a call is issued.
use Rattle.std.proofs.Common.{ℕ, List, [], ◌∷◌, ◌++◌}
use Rattle.formula.specs.declared.facts.RunEvent.TheVariants.{Issue as issue_of}
use Rattle.formula.specs.declared.facts.Fact.TheVariants.{Issued as issued, Matched as matched}
use Rattle.formula.specs.declared.facts.Statement.TheVariants.{Fails as is_false, Earlier as is_earlier}
use Rattle.callorder.specs.Programs.{MpiProgram}
use Rattle.formula.specs.Families.{SymbolicClause, fetch_of, receive_on_handle, handle_is_received_on}

abbrev pub fetched_earlier : MpiProgram → ℕ → ℕ → SymbolicClause → ℕ → List SymbolicClause
fetched_earlier p c send otherwise taker =
    ((is_false (issued c) ∷ is_false (matched send taker) ∷ is_earlier (fetch_of p taker) (issue_of c) ∷ []) ++ otherwise) ∷
    handle_is_received_on c send taker otherwise (receive_on_handle p taker)
