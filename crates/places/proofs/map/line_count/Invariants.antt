use Rattle.std.proofs.Common.{◌≡◌, ◌≤◌, ◌+◌, length, take}
use Rattle.plaintext.specs.Plain.{text_lines}
use Rattle.places.proofs.map.line_count.Given as goal

abbrev pub invariant-loop-byte : goal.invariant-loop-byte
invariant-loop-byte l = (l.count + 1 ≡ length (text_lines (take l.byte-index l.text))) × (l.count ≤ l.byte-index)
