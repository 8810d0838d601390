use Rattle.std.proofs.Common.{Bor, List, ℕ, [], map, arith}
use Rattle.std.proofs.lemmas.List.{get_or-map, length-map}
use Rattle.shrinking.specs.Left.{none}
use Rattle.shrinking.proofs.Words.{some_more}
use Rattle.shrinking.proofs.left.are_some.Goals as goal

pub loop-word-init : goal.loop-word-init
loop-word-init c = (omega arith, none)

pub loop-word-preserved : goal.loop-word-preserved
loop-word-preserved c = (
  c.place_behind-place.ensures.within,
  some_more (map (λ w. w.now) c.args.olds.now) (map (λ w. w.now) c.args.news.now) c.loop-word.word-index c.loop-word.place c.place_behind-place.result _
      (omega (arith, c.loop-word-test.true, length-map {A = Bor (List ℕ)} {B = List ℕ} c.args.olds.now (λ w. w.now))) (get_or-map (λ w. w.now) c.args.olds.now c.loop-word.word-index _ [] c.loop-word-test.true)
      c.loop-word.invariant.1 c.place_behind-place.ensures.behind,
)
