use Rattle.std.proofs.Common.{◌≡◌, IfOk, List, [], ◌∷◌, ◌++◌, ap, subst, ◌∙◌}
use Rattle.steal.specs.declared.supply.Supply.{Supply}
use Rattle.steal.specs.Supplies.{AreSupplies, IsSameSupply}
use Rattle.steal.proofs.Places.{AllZip-refl, AllZip-snoc}
use Rattle.steal.proofs.Supplies.{IsSameSupply-refl, supplies_stay}
use Rattle.test_workers.proofs.deques.two_take_each_cube_once.Goals as goal

-- the last two come back
together : (rest : List Supply) (first second one other : Supply) → IsSameSupply first one → IsSameSupply second other → AreSupplies ((rest ++ first ∷ []) ++ second ∷ []) → AreSupplies ((rest ++ one ∷ []) ++ other ∷ [])
together rest first second one other same same_other =
    supplies_stay ((rest ++ first ∷ []) ++ second ∷ []) ((rest ++ one ∷ []) ++ other ∷ [])
    (AllZip-snoc IsSameSupply (rest ++ first ∷ []) (rest ++ one ∷ []) second other (AllZip-snoc IsSameSupply rest rest first one (AllZip-refl IsSameSupply IsSameSupply-refl rest) same) same_other)

pub settle_all-requires : goal.settle_all-requires
settle_all-requires g c =
    let first = c.in-Some-pop.first in
    let second = c.in-Some.second in
    let rest = c.pop-2.new.self.items in
    let all : c.in_ok-supplies.supplies.items ≡ (rest ++ first ∷ []) ++ second ∷ [] = c.in-Some.ensures.items ∙ ap (λ (l : List Supply). l ++ second ∷ []) c.in-Some-pop.ensures.items in
    let dealt = subst (λ (l : List Supply). AreSupplies l) all c.in_ok-supplies.ensures.supplies in
    let same : IsSameSupply first c.in-Ok.one.0 = subst (λ r. IfOk r (λ v. IsSameSupply first v.0)) c.in-Ok.is c.join-one.ensures.first in
    let same_other : IsSameSupply second c.in-Ok-other.other.0 = subst (λ r. IfOk r (λ v. IsSameSupply second v.0)) c.in-Ok-other.is c.join-one.ensures.second in
    rw (c.in_ok-push-2.ensures.items, c.in_ok-push.ensures.items) (together rest first second c.in-Ok.one.0 c.in-Ok-other.other.0 same same_other dealt)
