-- What is written, and the parts that aren't yet, are the text.
use Rattle.std.specs.Prelude.{◌≡◌, ℕ, List, ◌++◌, drop}
use Rattle.std.specs.List.{flat_map}
use Rattle.std.specs.Io.KnownBytes.{Appends}
use Rattle.session.proofs.commands.store_text.Given as goal

abbrev pub invariant-loop-part : goal.invariant-loop-part
invariant-loop-part g l =
    (written : List ℕ) × (l.text ≡ written ++ flat_map (λ part. part.items) (drop l.part-index l.more))
    × Appends (g.W.Write.contents l.fn.writer) (g.W.Write.contents l.writer) written
