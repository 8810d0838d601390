-- The match variable of each pair is one of the formula's.
use Rattle.std.proofs.Common.{◌≡◌, ℕ, ◌<◌, Bool, true, eqb, List, ◌++◌, length, map, refl, ap, sym, ◌∙◌, arith, inl, inr}
use Rattle.std.specs.List.{Contains, position_or_len}
use Rattle.std.proofs.lemmas.Bool.{cases_lt, and_from, eq-eqb, both_ways}
use Rattle.std.proofs.lemmas.List.{length-map, get_or-map}
use Rattle.std.proofs.lemmas.Option.{slice_get-get_or, get_or_from_slice_get}
use Rattle.std.proofs.lemmas.List.Elements.{Contains-append_left, Contains-append_right, Contains-append_cases}
use Rattle.std.proofs.lemmas.List.Sums.{fails_before_first}
use Rattle.candidates.specs.Pairs.{places, matching_pairs, seeing_pairs, pairs_of, pair_at}
use Rattle.formula.specs.declared.facts.Fact.{Fact}
use Rattle.formula.specs.declared.facts.Fact.TheVariants.{Issued as issued, Buffered as buffered, Matched as matched, Unfinished as unfinished}
use Rattle.formula.specs.declared.facts.Meaning.TheVariants.{OfFact as fact}
use Rattle.formula.specs.Families.{standard_sends, last_calls, rank_of}
use Rattle.formula.specs.Orders.{order_meanings}
use Rattle.formula.specs.Numbering.{facts, meanings, is_same_meaning}
use Rattle.cubes.specs.Laws.{MatchVariablesAreWithin}

Contains-map : {X Y : Type 0} (f : X → Y) (xs : List X) (x : X) → Contains xs x → Contains (map f xs) (f x)
Contains-map f xs x there =
    (there.0, omega (arith, length-map xs f, there.1), get_or-map f xs there.0 x (f x) there.1 ∙ ap f there.2)

position_below : {X : Type 0} (p : X → Bool) (xs : List X) (x : X) → Contains xs x → p x ≡ true → position_or_len p xs < length xs
position_below p xs x there passes =
    elim (cases_lt (position_or_len p xs) (length xs)) [
      | inl below ↦ below
      | inr past ↦
          let fails = fails_before_first p xs there.0 x (omega (arith, there.1)) in
          absurd (both_ways (p x) (sym (ap p there.2) ∙ fails) passes)
    ]

pub match_variables_within : MatchVariablesAreWithin
match_variables_within p k low =
    let pair : ℕ × ℕ = pair_at (pairs_of p) k in
    let told : Fact = matched pair.0 pair.1 in
    let of_pair : ℕ × ℕ → Fact = λ q. matched q.0 q.1 in
    let matches : List Fact = map of_pair (matching_pairs p) in
    let sights : List Fact = map of_pair (seeing_pairs p) in
    let before : List Fact = map issued (places p) ++ map buffered (standard_sends p) in
    let after : List Fact = map (λ c. unfinished (rank_of p c)) (last_calls p) in
    let among_pairs : Contains (matching_pairs p ++ seeing_pairs p) pair = (k, low, get_or_from_slice_get (pairs_of p) k pair pair (slice_get-get_or (pairs_of p) k (0, 0) low)) in
    let among_facts : Contains (facts p) told =
    elim (Contains-append_cases (matching_pairs p) (seeing_pairs p) pair among_pairs) [
      | inl may_match ↦
          Contains-append_left (before ++ matches ++ after) sights told
          (Contains-append_left (before ++ matches) after told
          (Contains-append_right before matches told (Contains-map of_pair (matching_pairs p) pair may_match)))
      | inr may_see ↦
          Contains-append_right (before ++ matches ++ after) sights told (Contains-map of_pair (seeing_pairs p) pair may_see)
    ]
    in
    let among : Contains (meanings p) (fact told) =
    Contains-append_left (map fact (facts p)) (order_meanings p) (fact told) (Contains-map fact (facts p) told among_facts)
    in
    let same : is_same_meaning (fact told) (fact told) ≡ true =
    and_from (eqb pair.0 pair.0) (eqb pair.1 pair.1) (eq-eqb pair.0 pair.0 refl) (eq-eqb pair.1 pair.1 refl)
    in
    let below = position_below (is_same_meaning (fact told)) (meanings p) (fact told) among same in
    (omega arith, omega (arith, below))
