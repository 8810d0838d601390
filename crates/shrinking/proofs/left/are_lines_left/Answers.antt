use Rattle.std.proofs.Common.{Bor, List, ℕ, ap, map, ◌∙◌}
use Rattle.shrinking.proofs.Words.{left_more, number_before}
use Rattle.shrinking.proofs.left.are_lines_left.Goals as goal

pub loop-place-preserved : goal.loop-place-preserved
loop-place-preserved c = (
  number_before c.args.numbers.now c.loop-place.place,
  left_more c.args.given.now c.args.text.now c.args.numbers.now _ _ c.loop-place.place c.loop-place.last c.count_lines-most.result
      (ap (λ (lines : List (Bor (List ℕ))). map (λ line. line.now) lines) c.deref.ensures.value ∙ c.in_ok-olds.ensures)
      (ap (λ (lines : List (Bor (List ℕ))). map (λ line. line.now) lines) c.deref-in-loop-place.ensures.value ∙ c.in_ok-news.ensures)
      c.loop-place.invariant.0 c.if-number-last.false c.count_lines-most.ensures c.if-number-most.false
      (c.in_ok-is_left_at.ensures c.if-not-branch.false) c.loop-place.invariant.1,
)
