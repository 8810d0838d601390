use Rattle.std.proofs.Common.{ℕ}
use Rattle.knowledge.specs.Knowledge.{with_partners}
use Rattle.clocks.specs.parts.Clocks.{tells_read}
use Rattle.clocks.proofs.Counts.{row_is_zeros}
use Rattle.clocks.proofs.rows.row_from.Goals as goal

pub returns : goal.returns
returns c = λ knows are.
    let told = λ (f : ℕ). tells_read (with_partners c.args.partners.now) knows c.args.read.now f in
    c.add_read.ensures knows told are (row_is_zeros c.args.columns.now told c.count.result c.in_ok-row.row.items (c.in_ok-row.ensures.items_if_clones_equal (λ y e. e))) (λ f h. h)
