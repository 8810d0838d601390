use Rattle.std.proofs.Common.{◌≡◌, ◌≤◌, length, map, vec_capacity, vec_len}
use Rattle.trimming.specs.Needed.{kept, renumber, renumbered_line}
use Rattle.trimming.proofs.renumbering.Renumbering.keep.Given as goal

abbrev pub invariant-loop-line : goal.invariant-loop-line
invariant-loop-line l =
    record {
      place : l.place ≡ length l.yielded;
      so_far : l.staying.items ≡ map (renumbered_line (renumber l.self.clauses l.self.flags)) (kept l.self.flags l.yielded);
      few : vec_len l.staying ≤ l.place;
      room : length l.fn.lines.items ≤ vec_capacity l.staying;
    }
