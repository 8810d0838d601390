use Rattle.std.proofs.Common.{◌≡◌, ◌++◌, [], All, length}
use Rattle.std.specs.List.{AllZip}
use Rattle.std.specs.Vec.Iter.{into_iter_items}
use Rattle.steal.specs.declared.supply.Supply.{Supply}
use Rattle.steal.specs.parts.Rows.{thief_rows, AreFreshThieves}
use Rattle.steal.specs.Seats.{stolen_by, IsThiefOf}
use Rattle.steal.specs.Supplies.{owners_of}
use Rattle.steal.proofs.supply.dealt.Given as goal

abbrev pub invariant-loop-own : goal.invariant-loop-own
invariant-loop-own l =
    record {
      all : l.yielded ++ into_iter_items l.own-iterator ≡ l.fn.owners.items;
      owners : owners_of l.supplies.items ≡ l.yielded;
      thieves : All (λ (s : Supply). AllZip IsThiefOf l.fn.owners.items s.thieves.items × (stolen_by s.thieves.items ≡ [])) l.supplies.items;
      rows : AllZip (AreFreshThieves (length (into_iter_items l.own-iterator))) l.fn.owners.items (thief_rows l.rows.items);
    }
