use Rattle.std.proofs.Common.{◌≡◌, map, take}
use Rattle.std.specs.Prelude.{IsTrue}
use Rattle.std.specs.List.{AllByRecursion}
use Rattle.calltext.specs.Names.{is_name}
use Rattle.calltext.proofs.name.names_of.Given as goal

abbrev pub invariant-loop-word : goal.invariant-loop-word
invariant-loop-word l = record {
  read : l.names.items ≡ map (λ w. w.now) (take l.word-index l.words);
  lawful : AllByRecursion (λ name. IsTrue (is_name name)) l.names.items;
}
