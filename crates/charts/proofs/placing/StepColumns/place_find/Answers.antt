use Rattle.std.proofs.Common.{◌≡◌, ℕ, ◌≤◌, ◌++◌, ◌∷◌, [], List, slice_index, ap, ◌∙◌, arith}
use Rattle.std.specs.Global.{Vec}
use Rattle.charts.specs.declared.placing.Row.{Row}
use Rattle.charts.proofs.Placement.{acts_push, find_placed, same_placed}
use Rattle.charts.proofs.placing.StepColumns.place_find.Goals as goal

pub returns : goal.returns
returns c =
    let p = c.args.program.now in
    let calls = c.args.calls.now in
    let old = c.args.self.now in
    let pushed = c.in_ok-push.ensures in
    let column = c.max-column.result in
    let sent : c.issued_in.result ≡ slice_index old.issues.items c.args.send = c.issued_in.ensures ∙ ap (λ (l : List ℕ). slice_index l c.args.send) c.deref.ensures.value in
    let found : c.issued_in-2.result ≡ slice_index old.issues.items c.args.finder = c.issued_in-2.ensures ∙ ap (λ (l : List ℕ). slice_index l c.args.finder) c.deref-2.ensures.value in
    let one : slice_index old.issues.items c.args.send ≤ column = omega (arith, sent, c.max-column.ensures) in
    let other : slice_index old.issues.items c.args.finder ≤ column = omega (arith, found, c.max-column.ensures) in
    record {
      placed =
          same_placed p calls c.raise-2.new.rows.items c.push.new.self.rows.items old.issues.items c.push.new.self.issues.items c.push.new.self.count (old.steps.items ++ record { act = c.args.act; column = column } ∷ []) c.push.new.self.steps.items (ap (λ (v : Vec Row). v.items) pushed.1) (ap (λ (v : Vec ℕ). v.items) pushed.2) pushed.0 (find_placed p calls old.rows.items c.raise.new.rows.items c.raise-2.new.rows.items old.issues.items old.count old.steps.items c.args.send c.args.finder column c.args.act c.push.new.self.count c.requires.is_find one other c.in_ok-raise.ensures c.in_ok-raise-2.ensures c.requires.placed pushed.3 pushed.4);
      acts = acts_push old.steps.items c.push.new.self.steps.items (record { act = c.args.act; column = column }) pushed.0;
    }
