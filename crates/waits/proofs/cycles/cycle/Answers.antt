use Rattle.std.proofs.Common.{rules, ◌≤◌, length, refl, arith}
use Rattle.waits.proofs.SearchLaws.{opening, no_cycle}
use Rattle.waits.proofs.cycles.cycle.Goals as goal

pub loop-root-init : goal.loop-root-init
loop-root-init c =
    record {
      keeps = opening c.args.edges.now (length c.args.edges.now) c.in_ok-search.search.path.items c.in_ok-search.search.marks.items c.in_ok-search.search.looked.items refl c.in_ok-search.ensures.path c.in_ok-search.ensures.marks c.in_ok-search.ensures.looked;
      empty = c.in_ok-search.ensures.path;
      met = λ rank below. absurd (omega (arith, below));
    }

pub returns-clause-cycle : goal.returns-clause-cycle
returns-clause-cycle c =
    let all : length c.args.edges.now ≤ c.loop-root.root = search rules in
    no_cycle c.args.edges.now c.loop-root.search.marks.items c.loop-root.search.path.items c.loop-root.search.looked.items c.loop-root.invariant.empty c.loop-root.invariant.keeps
    (λ rank below. c.loop-root.invariant.met rank (omega (arith, below, all)))
