-- One row more, until the last.
use Rattle.std.proofs.Common.{◌∙◌, ap, arith, map, ℕ, List, ◌++◌}
use Rattle.session.specs.Sweeping.{IsDecidedFor, IsPageFor, row_text}
use Rattle.session.proofs.SweptPages.{one_more, whole_table}
use Rattle.session.proofs.swept.table.Goals as goal

pub returns-then-ranks-wanted : goal.returns-then-ranks-wanted
returns-then-ranks-wanted c =
    let IsPage : ℕ → List ℕ → ℕ → Type 0 = IsPageFor c.args.path.now c.args.source.now (map (λ s. s.now) c.args.settings.now) c.args.barriers c.args.json (IsDecidedFor c.args.json) in
    let page = c.in_ok-page.page in
    whole_table IsPage c.args.json c.args.wanted.first c.args.wanted.last c.loop-text.ranks c.put_row.new.text.items c.graver-status.result c.if-ranks-wanted.true
    (one_more IsPage c.args.json c.args.wanted.first c.loop-text.ranks c.loop-text.text.items c.loop-text.status page.text.items page.status c.put_row.new.text.items c.graver-status.result
    c.loop-text.invariant.1 c.in_ok-page.ensures
    (c.in_ok-put_row.ensures ∙ ap (λ (p : List ℕ). c.loop-text.text.items ++ row_text c.args.json c.loop-text.ranks p) c.deref.ensures.value) c.graver-status.ensures)

pub loop-text-preserved : goal.loop-text-preserved
loop-text-preserved c =
    let IsPage : ℕ → List ℕ → ℕ → Type 0 = IsPageFor c.args.path.now c.args.source.now (map (λ s. s.now) c.args.settings.now) c.args.barriers c.args.json (IsDecidedFor c.args.json) in
    let page = c.in_ok-page.page in (
      omega (arith, c.loop-text.invariant.0, c.if-ranks-wanted.false),
      one_more IsPage c.args.json c.args.wanted.first c.loop-text.ranks c.loop-text.text.items c.loop-text.status page.text.items page.status c.put_row.new.text.items c.graver-status.result
          c.loop-text.invariant.1 c.in_ok-page.ensures
          (c.in_ok-put_row.ensures ∙ ap (λ (p : List ℕ). c.loop-text.text.items ++ row_text c.args.json c.loop-text.ranks p) c.deref.ensures.value) c.graver-status.ensures,
    )
