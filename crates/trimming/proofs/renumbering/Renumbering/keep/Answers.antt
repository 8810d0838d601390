use Rattle.std.proofs.Common.{◌<◌, ◌∙◌, ◌∷◌, [], refl, sym, ap, arith, map, length, length-append}
use Rattle.trimming.specs.Needed.{renumber, renumbered_line}
use Rattle.trimming.proofs.Ranges.{kept_none, one_more_line, taken_front}
use Rattle.trimming.proofs.renumbering.Renumbering.keep.Goals as goal

pub loop-line-init : goal.loop-line-init
loop-line-init c =
    let made = c.in_ok-staying.ensures in
    record {
      place = refl;
      so_far = made.items ∙ sym (ap (map (renumbered_line (renumber c.args.self.now.clauses c.args.self.now.flags))) (kept_none c.args.self.now.flags));
      few = omega (arith, made.len);
      room = omega (arith, made.capacity, c.len.ensures, c.args.lines.now.ok);
    }

pub loop-line-preserved : goal.loop-line-preserved
loop-line-preserved c =
    let i = c.loop-line.invariant in
    let put = c.put.ensures in
    let taken = taken_front c.into_iter-line-iterator.result c.loop-line.yielded c.loop-line.line-iterator c.loop-line.yielded_by in
    let low : c.loop-line.place < length c.args.self.now.flags =
    omega (arith, i.place, ap length taken, length-append c.loop-line.yielded c.loop-line.line-iterator.rest.items, ap length c.in-Some.ensures.steps.0, ap length c.into_iter-line-iterator.ensures.into_iter_gives.0, ap (λ v. length v.items) c.replace-line-items.ensures.value, c.requires) in
    record {
      place = omega (arith, i.place, length-append c.loop-line.yielded (c.in-Some.line ∷ []));
      so_far = one_more_line (renumbered_line (renumber c.args.self.now.clauses c.args.self.now.flags)) c.args.self.now.flags c.loop-line.yielded c.in-Some.line c.loop-line.staying.items c.put.new.staying.items c.loop-line.place
          i.place low i.so_far put.yes put.no;
      few = omega (arith, put.most, i.few);
      room = omega (arith, put.capacity, i.room);
    }
