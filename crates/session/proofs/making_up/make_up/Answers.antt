use Rattle.std.proofs.Common.{ℕ, List, subst}
use Rattle.std.specs.Global.{Vec}
use Rattle.callorder.specs.Programs.{MpiProgram}
use Rattle.session.specs.Phasing.{AreApart, AreDealtInOrder, ArePrograms}
use Rattle.session.proofs.making_up.make_up.Goals as goal

pub returns : goal.returns
returns c =
    let p = c.args.program.now in
    let programs = c.in_ok-programs.programs.items in
    let (left, dealt, nothing) = c.in_ok-deal_all.ensures in
    record {
      programs = programs;
      left = left;
      texts = subst (λ (texts : List (Vec ℕ)). ArePrograms texts programs) c.deref.ensures.value c.in_ok-programs.ensures;
      dealt =
          subst (λ (order : List ℕ). AreDealtInOrder programs p order left) c.deref-3.ensures.value
          (subst (λ (parts : List MpiProgram). AreDealtInOrder parts p c.deref-3.result.now left) c.deref-2.ensures.value dealt);
      nothing = nothing;
      apart = subst AreApart c.deref-4.ensures.value c.in_ok-keep_apart.ensures;
    }
