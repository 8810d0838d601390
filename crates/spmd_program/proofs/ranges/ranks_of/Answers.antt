use Rattle.std.proofs.Common.{◌≡◌, ℕ, List, true, false, Option, Some, None, inl, inr, sym, ◌∙◌, subst}
use Rattle.std.specs.Prelude.{IfNone}
use Rattle.spmd_program.specs.Ranges.{AreRangeEnds, IsRange, has_dot, is_dot}
use Rattle.std.specs.List.{after_first, before_first}
use Rattle.spmd_program.specs.declared.ranges.Ranks.{Ranks}
use Rattle.spmd_program.proofs.ranges.ranks_of.Goals as goal

-- with a dot
several_told : (text before behind : List ℕ) (r : Option Ranks) → has_dot text ≡ true → before ≡ before_first is_dot text → behind ≡ after_first is_dot text
    → IfNone r ((first last : ℕ) → AreRangeEnds before behind first last → ⊥) → IfNone r ((first last : ℕ) → IsRange text first last → ⊥)
several_told text before behind (Some r) dot one other none = none
several_told text before behind None dot one other none = λ first last range. elim range [
  | inl (undotted, count, same) ↦ let never : true ≡ false = sym dot ∙ undotted in cc
  | inr (dotted, ends) ↦ none first last
      (subst (λ (a : List ℕ). AreRangeEnds a behind first last) (sym one) (subst (λ (b : List ℕ). AreRangeEnds (before_first is_dot text) b first last) (sym other) ends))
]

pub returns-clause-none : goal.returns-clause-none
returns-clause-none c = several_told c.args.text.now c.in-Some.before.now c.in-Some.behind.now c.several.result
    c.in-Some.ensures.some.0 c.in-Some.ensures.some.1 c.in-Some.ensures.some.2 c.several.ensures.none
