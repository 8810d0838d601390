-- The ranks and their calls, from the line after the first rank's heading on.
use Rattle.std.specs.Prelude.{List, map}
use Rattle.std.specs.Global.{Vec}
use Rattle.calltext.specs.declared.call.CallLine.{CallLine}

-- The call lines of each rank, as lists.
abbrev pub views : List (Vec CallLine) → List (List CallLine)
views ranks = map (λ calls. calls.items) ranks
