use Rattle.std.proofs.Common.{◌≡◌, ℕ, ◌<◌, ◌++◌, ◌∷◌, [], List, slice_set, sym, ap, ◌∙◌, subst}
use Rattle.std.specs.Global.{Vec}
use Rattle.scene.specs.declared.acts.Act.TheVariants.{Issue}
use Rattle.charts.specs.declared.placing.Row.{Row}
use Rattle.charts.specs.Columns.{wait_line}
use Rattle.charts.specs.parts.Placing.{column_in, row_at, row_behind}
use Rattle.charts.proofs.Placement.{acts_push, issue_placed, same_placed}
use Rattle.charts.proofs.placing.StepColumns.place_issue.Goals as goal

pub returns : goal.returns
returns c =
    let p = c.args.program.now in
    let calls = c.args.calls.now in
    let old = c.args.self.now in
    let known = c.in-Some.known in
    let pushed = c.in_ok-push.ensures in
    let column : ℕ = column_in (row_at old.rows.items known.rank) (wait_line p calls c.args.call) in
    let behind : Row = row_behind (row_at old.rows.items known.rank) (wait_line p calls c.args.call) in
    let row_is : c.row_at-row.result ≡ row_at old.rows.items known.rank = c.row_at-row.ensures ∙ ap (λ (l : List Row). row_at l known.rank) c.deref.ensures.value in
    let column_is : c.column_in-column.result ≡ column = c.column_in-column.ensures ∙ (λ i. column_in (row_is i) (c.wait_line-line.ensures i)) in
    let behind_is : c.in_ok-row_behind.field-0 ≡ behind = c.in_ok-row_behind.ensures ∙ (λ i. row_behind (row_is i) (c.wait_line-line.ensures i)) in
    let steps_are : c.push.new.self.steps.items ≡ old.steps.items ++ record { act = Issue c.args.call c.args.buffered; column = column } ∷ [] =
    pushed.0 ∙ ap (λ (v : ℕ). old.steps.items ++ record { act = Issue c.args.call c.args.buffered; column = v } ∷ []) column_is in
    record {
      placed =
          same_placed p calls (slice_set old.rows.items known.rank behind) c.push.new.self.rows.items (slice_set old.issues.items c.args.call column) c.push.new.self.issues.items c.push.new.self.count (old.steps.items ++ record { act = Issue c.args.call c.args.buffered; column = column } ∷ []) c.push.new.self.steps.items (ap (λ (v : Vec Row). v.items) pushed.1 ∙ c.set_row.ensures ∙ ap (λ (row : Row). slice_set old.rows.items known.rank row) behind_is) (ap (λ (v : Vec ℕ). v.items) pushed.2 ∙ c.set_issue.ensures ∙ ap (λ (v : ℕ). slice_set old.issues.items c.args.call v) column_is) steps_are (issue_placed p calls old.rows.items old.issues.items old.count old.steps.items c.args.call c.args.buffered known c.push.new.self.count (sym c.call.ensures ∙ c.in-Some.is) c.requires (subst (λ (v : ℕ). v < c.push.new.self.count) column_is pushed.3) pushed.4);
      acts = acts_push old.steps.items c.push.new.self.steps.items (record { act = Issue c.args.call c.args.buffered; column = column }) steps_are;
    }
