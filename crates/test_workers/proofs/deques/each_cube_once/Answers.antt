use Rattle.std.proofs.Common.{◌≡◌, ◌-◌, ◌<◌, IfOk, All, List, [], ◌∷◌, ◌++◌, get_or, vec_len, subst, sym, ◌∙◌, arith}
use Rattle.std.proofs.lemmas.List.Elements.{All-push, All-take}
use Rattle.steal.specs.declared.seats.OwnerSeat.{OwnerSeat}
use Rattle.steal.specs.declared.seats.ThiefSeat.{ThiefSeat}
use Rattle.steal.specs.Seats.{IsSameOwner, IsSameThief, IsThiefOf}
use Rattle.test_workers.proofs.deques.each_cube_once.Goals as goal

-- a thief that comes back is one of the owner's
together : (owner later : OwnerSeat) (thief back : ThiefSeat) (others : List ThiefSeat) → All (λ t. IsThiefOf owner t) others → IsThiefOf owner thief → IsSameOwner owner later → IsSameThief thief back
    → All (λ t. IsThiefOf later t) (others ++ back ∷ [])
together owner later thief back others all one same same_thief =
    All-push (λ t. IsThiefOf later t) others back (λ k d lt. all k d lt ∙ sym same.0) (same_thief ∙ one ∙ sym same.0)

pub settle-requires : goal.settle-requires
settle-requires g c =
    let owner = c.in_ok-owner.owner in
    let made = c.in_ok-owner.thieves in
    let thief = c.in-Some.thief in
    let some : 0 < vec_len made = omega (arith, c.in-Some.ensures.len) in
    let last : thief ≡ get_or made.items (vec_len made - 1) thief = let e = c.in-Some.ensures.value thief some in cc in
    let of_owner : All (λ t. IsThiefOf owner t) made.items = λ k d lt. (c.in_ok-owner.ensures.thieves k d lt).0 in
    let is_of : IsThiefOf owner thief = subst (λ (t : ThiefSeat). IsThiefOf owner t) (sym last) (of_owner (vec_len made - 1) thief (omega arith)) in
    let same : IsSameOwner owner c.in-Ok.worked.0 = subst (λ r. IfOk r (λ v. IsSameOwner owner v.0)) c.in-Ok.is c.join-worked.ensures.first in
    let same_thief : IsSameThief thief c.in-Ok-robbed.robbed.0 = subst (λ r. IfOk r (λ v. IsSameThief thief v.0)) c.in-Ok-robbed.is c.join-worked.ensures.second in
    rw (c.in_ok-push.ensures.items, c.in-Some.ensures.rest)
    (together owner c.in-Ok.worked.0 thief c.in-Ok-robbed.robbed.0 _ (All-take (λ t. IsThiefOf owner t) (vec_len made - 1) made.items of_owner) is_of same same_thief)
