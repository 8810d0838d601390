use Rattle.std.proofs.Common.{◌≡◌, ◌≢◌, ℕ, List, ◌∷◌, Option, Some, None, arith, sym, subst}
use Rattle.std.specs.Prelude.{IfNone, MatchOption}
use Rattle.std.specs.Borrow.{Bor}
use Rattle.std.proofs.lemmas.Str.Pattern.{strip_prefix_char}
use Rattle.spmd_program.specs.Ranges.{AreRangeEnds}
use Rattle.spmd_program.specs.declared.ranges.Ranks.{Ranks}
use Rattle.spmd_program.proofs.ranges.several.Goals as goal

-- without a dot there is no second number
no_dot : (before behind : List ℕ) (r : Option (Bor (List ℕ))) → r ≡ None → MatchOption r ((rest : List ℕ) → behind ≢ 46 ∷ rest) (λ x. behind ≡ 46 ∷ x.now)
    → (first last : ℕ) → AreRangeEnds before behind first last → ⊥
no_dot before behind None is lacks first last ends = lacks ends.number ends.dot
no_dot before behind (Some x) is lacks first last ends = let never : Some x ≡ None = is in cc

pub returns-in_err-number-clause-none : goal.returns-in_err-number-clause-none
returns-in_err-number-clause-none c =
    subst (λ (r : Option Ranks). IfNone r ((first last : ℕ) → AreRangeEnds c.args.before.now c.args.behind.now first last → ⊥)) (sym c.from_residual.ensures)
    (no_dot c.args.before.now c.args.behind.now c.strip_prefix.result c.in_err-number.was
    (strip_prefix_char 46 c.args.behind.now c.strip_prefix.result c.strip_prefix.ensures.cases (omega arith)))
