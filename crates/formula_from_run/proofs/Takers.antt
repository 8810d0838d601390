-- What the world of a run says of takers, and that each call is matched once.
use Rattle.std.proofs.Common.{◌≡◌, ℕ, ◌<◌, inl, true, false, not, ◌==◌, ◌&&◌, nat_lt, List, [], ◌∷◌, map, refl, sym, ◌∙◌, arith}
use Rattle.std.specs.List.{filter, flat_map, list_any}
use Rattle.std.proofs.lemmas.Bool.Decides.{nat_tests}
use Rattle.std.proofs.lemmas.Option.{same_Some}
use Rattle.calltext.proofs.Conjunctions.{and_true}
use Rattle.callorder.specs.Programs.{MpiProgram, are_fit, takes, are_of_one_rank}
use Rattle.semantics.specs.declared.state.Step.{Step}
use Rattle.semantics.specs.Machine.{opening, IsRun}
use Rattle.run_laws.proofs.Matched.{matched_after}
use Rattle.run_laws.proofs.Descent.{takes_fit}
use Rattle.std.proofs.lemmas.List.{length-replicate}
use Rattle.candidates.specs.Pairs.{places, takers_of}
use Rattle.formula.specs.declared.facts.RunEvent.TheVariants.{Match as match_of}
use Rattle.formula.specs.declared.facts.Fact.TheVariants.{Matched as matched}
use Rattle.formula.specs.declared.facts.Statement.TheVariants.{Holds as is_true, Fails as is_false}
use Rattle.nonovertake.specs.Earlier.{earlier_takers}
use Rattle.formula.specs.Families.{sends_of, taker_is_matched_before, without_later_pairs, without_later_sends}
use Rattle.formula_from_run.specs.Worlds.{is_right, clause_holds, clauses_hold, clock_from, world_of}
use Rattle.formula_from_run.specs.Laws.{NoTakerOvertakes, CallsAreMatchedOnce}
use Rattle.formula.proofs.Elements.{and_both, all_append}
use Rattle.formula_from_run.proofs.Lists.{or_not, or_not_not, or_last, all_made_within, all_mapped_where, all_mapped_twice, in_filter, any_mapped, pairs_hold}
use Rattle.formula_from_run.proofs.Pairings.{Received, received}
use Rattle.formula_from_run.proofs.Matches.{Found, found, by_match, no_probe, paired, has_send, unlike, is_that-some, is_that-from}

-- ---- takers don't overtake

received_first : (p : MpiProgram) (steps : List Step) (s t e : ℕ) → IsRun p (opening p) steps → (w : Found p steps s t) → e < t → are_of_one_rank p e t ≡ true → takes p s e ≡ true → Received p steps e w.place
received_first p steps s t e run w below same taken = received p steps e s w.place run (takes_fit p s e taken) (w.pair.can.takers e below same taken)

-- another send, since this one is unmatched later
other_send : (p : MpiProgram) (steps : List Step) (s t e : ℕ) → IsRun p (opening p) steps → takes p s e ≡ true → (w : Found p steps s t) (v : Received p steps e w.place) → v.send ≡ s → ⊥
other_send p steps s t e run taken w v same =
    let there = by_match p steps v.send e v.place (no_probe p s e taken) v.pair in
    let matched = matched_after p (opening p) steps s v.place w.place (length-replicate _ _) run v.before (record { send = v.send; taker = e; there = there; which = inl (sym same) }) in
    let free = w.pair.can.send_open in
    cc

some_other_send : (p : MpiProgram) (steps : List Step) (s t e : ℕ) → IsRun p (opening p) steps → takes p s e ≡ true → (w : Found p steps s t) (v : Received p steps e w.place) → list_any (is_right (world_of p steps)) (map (λ u. is_true (matched u e)) (filter (λ u. not (u == s)) (sends_of p e))) ≡ true
some_other_send p steps s t e run taken w v =
    any_mapped (is_right (world_of p steps)) (λ u. is_true (matched u e)) _ v.send
    (in_filter (λ u. not (u == s)) (sends_of p e) v.send (unlike v.send s (other_send p steps s t e run taken w v)) (has_send p v.send e v.pair.can.fit))
    (is_that-from _ v.send v.pair.taker_kept)

taker_before_it : (p : MpiProgram) (steps : List Step) (s t e : ℕ) (w : Found p steps s t) (v : Received p steps e w.place) → nat_lt (clock_from p (opening p) steps (match_of e)) (clock_from p (opening p) steps (match_of t)) ≡ true
taker_before_it p steps s t e w v =
    let c = v.before in
    rw (v.pair.clock, w.pair.clock) (grind (arith, nat_tests))

pub taker_is_matched_before_holds : (p : MpiProgram) (steps : List Step) (s t e : ℕ) → IsRun p (opening p) steps → are_fit p s t ≡ true → e < t → are_of_one_rank p e t ≡ true → takes p s e ≡ true → clauses_hold (world_of p steps) (taker_is_matched_before p s t e) ≡ true
taker_is_matched_before_holds p steps s t e run fit below same fits =
    let at_end = λ (h : (world_of p steps).has (matched s t) ≡ true). found p steps s t run fit h in
    let first = λ (h : (world_of p steps).has (matched s t) ≡ true). received_first p steps s t e run (at_end h) below same fits in
    and_both _ _ (or_not _ _ (λ h. some_other_send p steps s t e run fits (at_end h) (first h)))
    (and_both _ _ (or_not _ _ (λ h. or_last _ (taker_before_it p steps s t e (at_end h) (first h)))) refl)

pub takers_do_not_overtake : NoTakerOvertakes
takers_do_not_overtake p steps program run =
    pairs_hold p (clause_holds (world_of p steps)) (λ s t. flat_map (taker_is_matched_before p s t) (earlier_takers p s t))
    (λ s t taken. all_made_within (clause_holds (world_of p steps)) (taker_is_matched_before p s t) (λ e. are_of_one_rank p e t && takes p s e) 0 t t (omega arith)
    (λ e below pass. taker_is_matched_before_holds p steps s t e run (takes_fit p s t taken) below (and_true _ _ pass).0 (and_true _ _ pass).1))

-- ---- calls are matched once

one_taker : (p : MpiProgram) (steps : List Step) (s t u : ℕ) → IsRun p (opening p) steps → nat_lt t u ≡ true → takes p s t ≡ true → takes p s u ≡ true → (world_of p steps).has (matched s t) ≡ true → (world_of p steps).has (matched s u) ≡ true → ⊥
one_taker p steps s t u run below taken also h g =
    let same : t ≡ u = same_Some _ _ (sym (paired p steps s t run taken h).pair.send_kept ∙ (paired p steps s u run also g).pair.send_kept) in
    let differ : t < u = grind (arith, nat_tests) in
    omega (arith, same, differ)

one_send : (p : MpiProgram) (steps : List Step) (s t u : ℕ) → nat_lt s u ≡ true → (world_of p steps).has (matched s t) ≡ true → (world_of p steps).has (matched u t) ≡ true → ⊥
one_send p steps s t u below h g =
    let same : s ≡ u = same_Some _ _ (sym (is_that-some _ s h) ∙ is_that-some _ u g) in
    let differ : s < u = grind (arith, nat_tests) in
    omega (arith, same, differ)

pub without_later_sends_holds : (p : MpiProgram) (steps : List Step) (s f : ℕ) → clauses_hold (world_of p steps) (without_later_sends p s f) ≡ true
without_later_sends_holds p steps s f =
    all_mapped_where (clause_holds (world_of p steps)) (λ u. is_false (matched s f) ∷ is_false (matched u f) ∷ []) (nat_lt s) (sends_of p f)
    (λ u below. or_not_not _ _ false (λ h g. absurd (one_send p steps s f u below h g)))

without_later_pairs_holds : (p : MpiProgram) (steps : List Step) (s t : ℕ) → IsRun p (opening p) steps → takes p s t ≡ true → clauses_hold (world_of p steps) (without_later_pairs p s t) ≡ true
without_later_pairs_holds p steps s t run taken =
    all_append (clause_holds (world_of p steps)) (map (λ u. is_false (matched s t) ∷ is_false (matched s u) ∷ []) (filter (nat_lt t) (takers_of p s))) _
    (all_mapped_twice (clause_holds (world_of p steps)) (λ u. is_false (matched s t) ∷ is_false (matched s u) ∷ []) (takes p s) (nat_lt t) (places p)
    (λ u below also. or_not_not _ _ false (λ h g. absurd (one_taker p steps s t u run below taken also h g))))
    (without_later_sends_holds p steps s t)

pub calls_are_matched_once : CallsAreMatchedOnce
calls_are_matched_once p steps program run =
    pairs_hold p (clause_holds (world_of p steps)) (without_later_pairs p) (λ s t taken. without_later_pairs_holds p steps s t run taken)
