use Rattle.std.proofs.Common.{◌≡◌, ℕ, ◌∷◌, [], ◌++◌, map, nat_lt, ap, subst, ◌∙◌}
use Rattle.std.specs.List.{filter, flat_map}
use Rattle.candidates.specs.Pairs.{pairs_of, pair_at}
use Rattle.nonovertake.specs.Earlier.{earlier_sends, earlier_takers}
use Rattle.formula.specs.declared.facts.Fact.TheVariants.{Matched as matched}
use Rattle.formula.specs.declared.facts.RunEvent.TheVariants.{Match as match_of}
use Rattle.formula.specs.declared.facts.Statement.TheVariants.{Fails as is_false, Earlier as is_earlier}
use Rattle.formula.specs.Families.{issued_before_match, seen_before_taken, without_later_sends, send_is_matched_before, taker_is_matched_before, pair_does_not_wait}
use Rattle.formula_families.proofs.Adding.{then_more}
use Rattle.formula_families.proofs.matches.see_clauses.Goals as goal

pub returns : goal.returns
returns c =
    let p = c.args.source.now in
    let is = c.pair-send.ensures in
    let s = c.pair-send.result.0 in
    let f = c.pair-send.result.1 in
    let old = c.args.clauses.now in
    let one = c.issued_before_match.new.clauses in
    let two = c.seen_before_taken.new.clauses in
    let three = c.without_later_sends.new.clauses in
    let four = c.sends_are_matched_before.new.clauses in
    let five = c.takers_are_matched_before.new.clauses in
    let six = c.pair_does_not_wait.new.clauses in
    let first = subst (λ (z : ℕ × ℕ). one ≡ old ++ issued_before_match z.0 z.1) is c.in_ok-issued_before_match.ensures in
    let second = subst (λ (z : ℕ × ℕ). two ≡ one ++ seen_before_taken p z.0 z.1) is (c.in_ok-seen_before_taken.ensures ∙ ap (λ l. one ++ map (λ t. is_false (matched s f) ∷ is_false (matched s t) ∷ is_earlier (match_of f) (match_of t) ∷ []) l) c.takers_of.ensures) in
    let third = subst (λ (z : ℕ × ℕ). three ≡ two ++ without_later_sends p z.0 z.1) is (c.in_ok-without_later_sends.ensures ∙ ap (λ l. two ++ map (λ o. is_false (matched s f) ∷ is_false (matched o f) ∷ []) (filter (nat_lt s) l)) c.sends_of.ensures) in
    let sixth = subst (λ (z : ℕ × ℕ). six ≡ five ++ pair_does_not_wait p z.0 z.1) is c.in_ok-pair_does_not_wait.ensures in
    then_more old one six _ _ first
    (then_more one two six _ _ second
    (then_more two three six _ _ third
    (then_more three four six _ _ c.in_ok-sends_are_matched_before.ensures
    (then_more four five six _ _ c.in_ok-takers_are_matched_before.ensures sixth))))
