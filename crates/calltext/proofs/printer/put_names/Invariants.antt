use Rattle.std.proofs.Common.{◌≡◌, ◌++◌, take}
use Rattle.plaintext.specs.Plain.{spaced}
use Rattle.calltext.proofs.printer.put_names.Given as goal

abbrev pub invariant-loop-name : goal.invariant-loop-name
invariant-loop-name l = l.out.items ≡ l.fn.out.items ++ spaced (take l.name-index l.names)
