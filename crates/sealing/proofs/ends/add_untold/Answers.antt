use Rattle.std.proofs.Common.{◌≡◌, ℕ, ◌+◌, List, sym, ap, subst, ◌∙◌, arith}
use Rattle.std.specs.Global.{Vec}
use Rattle.sealing.specs.declared.loose.Loose.{Loose}
use Rattle.sealing.specs.parts.Ends.{GainsEntries, IsUntoldBelow}
use Rattle.sealing.proofs.Untold.{told_passed, untold_added}
use Rattle.sealing.proofs.ends.add_untold.Goals as goal
use Rattle.sealing.proofs.ends.add_untold.Goals.{then-not-tells_finish+in_ok-push, else-not-tells_finish}

pub loop-source-preserved : goal.loop-source-preserved
loop-source-preserved c =
    let p = c.args.program.now in
    let findings = c.args.findings.now in
    let known = c.args.known.now in
    let finder = c.args.finder in
    let old = c.args.loose.now.items in
    let n = c.loop-source.source in
    let list = c.loop-source.loose.items in
    elim c.if-not-tells_finish.branch [
      | then-not-tells_finish+in_ok-push w ↦
          subst (λ (z : List Loose). GainsEntries old z (IsUntoldBelow p findings known finder (n + 1)))
          (sym (ap (λ (z : Vec Loose). z.items) w.loose-is ∙ w.in_ok-push.ensures.items))
          (untold_added p findings known finder old n list (sym c.tells_finish.ensures ∙ w.if-not-tells_finish.true) c.loop-source.invariant)
      | else-not-tells_finish w ↦
          subst (λ (z : Vec Loose). GainsEntries old z.items (IsUntoldBelow p findings known finder (n + 1))) (sym w.loose-is)
          (told_passed p findings known finder old n list (sym c.tells_finish.ensures ∙ w.if-not-tells_finish.false) c.loop-source.invariant)
    ]

pub returns : goal.returns
returns c =
    let p = c.args.program.now in
    let all : c.loop-source.source ≡ p.ranks = omega (arith, c.loop-source-test.false, c.loop-source.auto.source-end, c.ranks-source-end.ensures.value) in
    subst (λ (z : ℕ). GainsEntries c.args.loose.now.items c.loop-source.loose.items (IsUntoldBelow p c.args.findings.now c.args.known.now c.args.finder z)) all
    c.loop-source.invariant
