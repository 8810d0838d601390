use Rattle.std.proofs.Common.{◌≡◌, ℕ, ◌+◌, ◌<◌, List, [], ◌∷◌, ◌++◌, length, map, get_or, take, sym, ap, ◌∙◌}
use Rattle.std.proofs.lemmas.List.{map-append, take_all, take_more}
use Rattle.std.specs.HashMap.{get}
use Rattle.std.specs.HashSet.{contains}
use Rattle.sealing.specs.parts.Sides.{partner_in, same_occurrence, same_wanted}
use Rattle.sealing.proofs.partners.partners_in.Goals as goal

-- one more of what each item gives
one_more : {X Y : Type 0} (f : X → Y) (xs : List X) (i : ℕ) (d : X) (y : Y) (old new : List Y) → i < length xs → y ≡ f (get_or xs i d) → old ≡ map f (take i xs) → new ≡ old ++ y ∷ [] → new ≡ map f (take (i + 1) xs)
one_more {Y = Y} f xs i d y old new within is so_far grows =
    grows ∙ ap (λ (l : List Y). l ++ y ∷ []) so_far ∙ ap (λ (z : Y). map f (take i xs) ++ z ∷ []) is
    ∙ sym (map-append f (take i xs) (get_or xs i d ∷ [])) ∙ ap (map f) (sym (take_more xs i d within))

pub loop-occurrence-preserved : goal.loop-occurrence-preserved
loop-occurrence-preserved c =
    one_more (partner_in (contains same_wanted c.args.asked.now) (get same_occurrence c.args.places.now)) c.args.occurrences.now c.loop-occurrence.occurrence-index _ c.partner_in.result c.loop-occurrence.partners.items c.push.new.self.items
    c.loop-occurrence-test.true c.partner_in.ensures c.loop-occurrence.invariant c.in_ok-push.ensures.items

pub returns : goal.returns
returns c =
    c.loop-occurrence.invariant ∙ ap (map (partner_in (contains same_wanted c.args.asked.now) (get same_occurrence c.args.places.now))) (take_all c.loop-occurrence.occurrence-index c.args.occurrences.now c.loop-occurrence-test.false)
