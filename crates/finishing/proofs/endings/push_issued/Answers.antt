use Rattle.std.proofs.Common.{◌≡◌, ℕ, ◌+◌, List, [], ◌∷◌, ◌++◌, map, sym, ap, ◌∙◌, append_assoc}
use Rattle.std.specs.List.{range_with_len}
use Rattle.std.proofs.lemmas.List.{map-append}
use Rattle.candidates.proofs.Ranges.{range_more}
use Rattle.formula.specs.declared.facts.Fact.TheVariants.{Issued as issued}
use Rattle.formula.specs.declared.facts.Statement.TheVariants.{Holds as is_true}
use Rattle.formula.specs.Families.{SymbolicClause}
use Rattle.finishing.proofs.endings.push_issued.Goals as goal

pub loop-call-preserved : goal.loop-call-preserved
loop-call-preserved c =
    let is_issued : ℕ → SymbolicClause = λ call. is_true (issued call) ∷ [] in
    let call = c.loop-call.call in
    let so_far : List SymbolicClause = map is_issued (range_with_len 0 call) in
    let more : so_far ++ is_issued call ∷ [] ≡ map is_issued (range_with_len 0 (call + 1)) =
    sym (ap (map is_issued) (range_more call) ∙ map-append is_issued (range_with_len 0 call) (call ∷ []))
    in
    c.in_ok-add.ensures ∙ (ap (λ (l : List SymbolicClause). l ++ is_issued call ∷ []) c.loop-call.invariant ∙
    (append_assoc c.args.clauses.now so_far (is_issued call ∷ []) ∙ ap (λ (l : List SymbolicClause). c.args.clauses.now ++ l) more))
