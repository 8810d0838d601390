use Rattle.std.proofs.Common.{◌≡◌, ℕ, List, map, ap, subst, sym, ◌∙◌}
use Rattle.std.proofs.lemmas.Result.{IfOk-weaker}
use Rattle.cubes.specs.Cubes.{IsBranchingOrder}
use Rattle.cubes.proofs.Orders.{order_made}
use Rattle.cubes.proofs.order.branching_order.Goals as goal

pub returns : goal.returns
returns c =
    let pairs = c.args.pairs.now in
    let made = order_made pairs c.args.count c.in_ok-ranks.ranks.items c.sort.new.self.items c.in_ok-ranks.ensures c.in_ok-sort.ensures.permutation c.in_ok-sort.ensures.sorted in
    IfOk-weaker c.numbers_of.result
    (λ numbers. numbers.items ≡ map (λ (r : ℕ × ℕ). r.1) c.deref.result.now)
    (λ numbers. IsBranchingOrder pairs c.args.count numbers.items)
    (λ numbers are. subst (λ (ns : List ℕ). IsBranchingOrder pairs c.args.count ns) (sym (are ∙ ap (map (λ (r : ℕ × ℕ). r.1)) c.deref.ensures.value)) made)
    c.numbers_of.ensures
