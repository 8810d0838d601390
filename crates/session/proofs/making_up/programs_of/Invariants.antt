use Rattle.session.proofs.MadeUp.{AreSoMany}
use Rattle.session.proofs.making_up.programs_of.Given as goal

abbrev pub invariant-loop-text : goal.invariant-loop-text
invariant-loop-text l = AreSoMany l.texts l.text-index l.programs.items
