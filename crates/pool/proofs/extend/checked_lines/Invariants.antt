use Rattle.std.proofs.Common.{◌≡◌, ◌+◌, length, take}
use Rattle.pool.specs.Replies.{resolved_lines, DeriveFirst}
use Rattle.pool.proofs.extend.checked_lines.Given as goal

abbrev pub invariant-loop-place : goal.invariant-loop-place
invariant-loop-place l =
    record {
      so_far : l.lines.items ≡ resolved_lines l.base (take l.place l.batch);
      derive : DeriveFirst l.formula l.log (resolved_lines l.base l.batch) l.place;
      size : length l.known ≡ l.formula.variables + 1;
    }
