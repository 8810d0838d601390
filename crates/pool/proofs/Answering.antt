-- Runs of a pool grow by one call.
use Rattle.std.proofs.Common.{◌≡◌, ℕ, ◌+◌, ◌<◌, List, [], ◌∷◌, ◌++◌, length, take, get_or, sym, ap, subst}
use Rattle.std.proofs.lemmas.List.{take_more}
use Rattle.pool.specs.declared.events.Event.{Event}
use Rattle.pool.specs.declared.events.Reply.{Reply}
use Rattle.pool.specs.States.{PoolWithHistory}
use Rattle.pool.specs.Laws.{IsAnswered, after_event, AreAnswered}

one_more : (k : PoolWithHistory) (events : List Event) (pool : PoolWithHistory) (replies : List Reply) (event : Event) (given : Reply)
    → AreAnswered k events pool replies → IsAnswered pool.held event given
    → AreAnswered k (events ++ event ∷ []) (after_event pool event given) (replies ++ given ∷ [])
one_more k [] pool [] event given so_far here = (subst (λ (p : PoolWithHistory). IsAnswered p.held event given) so_far here, ap (λ (p : PoolWithHistory). after_event p event given) so_far)
one_more k [] pool (other ∷ replies) event given so_far here = absurd so_far
one_more k (first ∷ events) pool [] event given so_far here = absurd so_far
one_more k (first ∷ events) pool (other ∷ replies) event given so_far here =
    (so_far.0, one_more (after_event k first other) events pool replies event given so_far.1 here)

-- the calls before a place, and the one there
pub answered_more : (k : PoolWithHistory) (events : List Event) (place : ℕ) (event : Event) (pool next : PoolWithHistory) (replies more : List Reply) (given : Reply)
    → place < length events → event ≡ get_or events place event → AreAnswered k (take place events) pool replies → IsAnswered pool.held event given
    → next ≡ after_event pool event given → more ≡ replies ++ given ∷ [] → AreAnswered k (take (place + 1) events) next more
answered_more k events place event pool next replies more given within is so_far here then_pool then_replies =
    subst (λ (es : List Event). AreAnswered k es next more) (sym (take_more events place event within))
    (subst (λ (e : Event). AreAnswered k (take place events ++ e ∷ []) next more) is
    (subst (λ (p : PoolWithHistory). AreAnswered k (take place events ++ event ∷ []) p more) (sym then_pool)
    (subst (λ (rs : List Reply). AreAnswered k (take place events ++ event ∷ []) (after_event pool event given) rs) (sym then_replies)
    (one_more k (take place events) pool replies event given so_far here))))
