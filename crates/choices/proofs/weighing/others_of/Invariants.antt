use Rattle.std.proofs.Common.{◌≡◌, IsTrue, List, [], take}
use Rattle.choices.specs.Weights.{AreNever}
use Rattle.choices.proofs.weighing.others_of.Given as goal

abbrev pub invariant-loop-other : goal.invariant-loop-other
invariant-loop-other g l = record {
  some : IsTrue l.known → l.choice.others.items ≡ [] → ⊥;
  never : IsTrue l.known → AreNever l.text l.program l.choice (take l.other-index l.choice.others.items);
}
