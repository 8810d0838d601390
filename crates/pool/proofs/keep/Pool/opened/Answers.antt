use Rattle.std.proofs.Common.{◌≡◌, ◌≤◌, length, replicate, arith, ap, sym, subst, ◌∙◌}
use Rattle.std.specs.Arc.{arc_value}
use Rattle.formula.specs.Numbering.{formula_of}
use Rattle.formula.specs.Families.{events}
use Rattle.encode.specs.Encodings.{EncodedProgram}
use Rattle.pool.specs.Counts.{open_count}
use Rattle.pool.proofs.Soundness.{sound_opening, sound_opened}
use Rattle.pool.proofs.keep.Pool.opened.Goals as goal

pub invariant_of-result : goal.invariant_of-result
invariant_of-result c =
    let e = arc_value c.args.encoded in
    let tree = c.args.tree in
    let zeros : c.in_ok-closed.closed.items ≡ replicate (length tree.nodes) 0 = c.in_ok-closed.ensures.closed in (
      sound_opened e tree c.in_ok-closed.closed.items c.new.result c.new-2.result.reasons zeros c.new.ensures c.new-2.ensures.reasons
          (sound_opening e tree
          (subst (λ (x : EncodedProgram). x.formula ≡ formula_of x.program) c.deref-2.ensures c.formula-formula.ensures.is)
          (subst (λ (x : EncodedProgram). length (events x.program) ≤ 1024) c.deref.ensures c.program-program.ensures.few)
          (subst (λ (x : EncodedProgram). length x.formula.clauses ≤ 4000000) c.deref-2.ensures c.formula-formula.ensures.few)
          c.variables-variables.ensures.grown c.requires),
      c.leaves_of-open_leaves.ensures ∙ ap (open_count tree.nodes) (sym zeros),
      omega (arith, c.in_ok-closed.ensures.known, ap (λ f. f.variables) c.formula-formula.ensures.same, ap (λ (x : EncodedProgram). x.formula.variables) c.deref-2.ensures),
    )
