-- What the world of a run says of probes.
use Rattle.std.proofs.Common.{◌≡◌, ℕ, ◌<◌, inl, inr, Bool, true, ◌&&◌, nat_lt, List, [], ◌∷◌, Some, slice_get, refl, sym, ◌∙◌, subst, arith}
use Rattle.std.specs.List.{flat_map}
use Rattle.std.proofs.lemmas.Bool.{cases_lt}
use Rattle.std.proofs.lemmas.Bool.Decides.{nat_tests}
use Rattle.std.proofs.lemmas.List.{length-replicate}
use Rattle.std.proofs.lemmas.Option.{same_Some}
use Rattle.calltext.proofs.Conjunctions.{and_true}
use Rattle.callorder.specs.ProgramRules.{IsProgram}
use Rattle.callorder.specs.Programs.{MpiProgram, are_fit, is_probe, takes, are_of_one_rank}
use Rattle.candidates.specs.Pairs.{places}
use Rattle.nonovertake.specs.Earlier.{earlier_sends, earlier_takers}
use Rattle.semantics.specs.declared.state.Step.{Step}
use Rattle.semantics.specs.declared.state.Step.TheVariants.{Match, See}
use Rattle.semantics.specs.Machine.{opening, after_all, IsRun}
use Rattle.run_laws.specs.Places.{find_step}
use Rattle.run_laws.proofs.Matched.{matched_after}
use Rattle.formula.specs.declared.facts.RunEvent.TheVariants.{Match as match_of}
use Rattle.formula.specs.declared.facts.Fact.TheVariants.{Matched as matched}
use Rattle.formula.specs.declared.facts.Statement.TheVariants.{Fails as is_false, Earlier as is_earlier}
use Rattle.formula.specs.Families.{issued_before_match, seen_before_taken, without_later_sends, send_is_matched_before, taker_is_matched_before, pair_does_not_wait, see_clauses}
use Rattle.formula_from_run.specs.Worlds.{HasNoEnabledStep, clause_holds, clauses_hold, clock_from, world_of}
use Rattle.formula_from_run.specs.Laws.{ProbesSeeMessages}
use Rattle.formula.proofs.Elements.{all_append}
use Rattle.formula_from_run.proofs.Lists.{or_not_not, or_last, all_mapped_where, all_made_within, seeing_pairs_hold}
use Rattle.formula_from_run.proofs.Matches.{Found, found, Paired, paired, issued_before_match_holds, send_is_matched_before_holds, pair_does_not_wait_holds}
use Rattle.formula_from_run.proofs.Takers.{taker_is_matched_before_holds, without_later_sends_holds}

-- a see and a match are two steps
apart : (steps : List Step) (s f t i : ℕ) → slice_get steps i ≡ Some (See s f) → slice_get steps i ≡ Some (Match s t) → ⊥
apart steps s f t i one other = let same : See s f ≡ Match s t = same_Some _ _ (sym one ∙ other) in cc

-- the send is seen before it is taken: at the see it is unmatched
seen_first : (p : MpiProgram) (steps : List Step) (s f t : ℕ) → IsRun p (opening p) steps → is_probe p f ≡ true → (w : Found p steps s f) (v : Paired p steps s t) → w.place < v.place
seen_first p steps s f t run probe w v =
    elim (cases_lt w.place v.place) [
      | inl below ↦ below
      | inr not_below ↦
          elim (cases_lt v.place w.place) [
            | inl above ↦
                absurd (
                let taken = matched_after p (opening p) steps s v.place w.place (length-replicate _ _) run above (record { send = s; taker = t; there = v.pair.there; which = inl refl }) in
                let free = w.pair.can.send_open in
                cc
                )
            | inr also ↦
                let one : v.place ≡ w.place = omega (arith, not_below, also) in
                let on : w.pair.sees ≡ true = sym w.pair.kind ∙ probe in
                let see : slice_get steps w.place ≡ Some (See s f) = subst (λ (b : Bool). slice_get steps w.place ≡ Some (find_step b s f)) on w.pair.there in
                absurd (apart steps s f t w.place see (subst (λ (z : ℕ). slice_get steps z ≡ Some (Match s t)) one v.pair.there))
          ]
    ]

seen_then_taken : (p : MpiProgram) (steps : List Step) (s f t : ℕ) → IsRun p (opening p) steps → is_probe p f ≡ true → (w : Found p steps s f) (v : Paired p steps s t) → nat_lt (clock_from p (opening p) steps (match_of f)) (clock_from p (opening p) steps (match_of t)) ≡ true
seen_then_taken p steps s f t run probe w v =
    let below = seen_first p steps s f t run probe w v in
    rw (w.pair.clock, v.pair.clock) (grind (arith, nat_tests))

seen_before_taken_holds : (p : MpiProgram) (steps : List Step) (s f : ℕ) → IsRun p (opening p) steps → are_fit p s f ≡ true → is_probe p f ≡ true → clauses_hold (world_of p steps) (seen_before_taken p s f) ≡ true
seen_before_taken_holds p steps s f run fit probe =
    all_mapped_where (clause_holds (world_of p steps)) (λ t. is_false (matched s f) ∷ is_false (matched s t) ∷ is_earlier (match_of f) (match_of t) ∷ []) (takes p s) (places p)
    (λ t taken. or_not_not _ _ _ (λ h g. or_last _ (seen_then_taken p steps s f t run probe (found p steps s f run fit h) (paired p steps s t run taken g))))

see_clauses_hold : (p : MpiProgram) (steps : List Step) (s f : ℕ) → IsProgram p → IsRun p (opening p) steps → HasNoEnabledStep p (after_all (opening p) steps) → are_fit p s f ≡ true → is_probe p f ≡ true → clauses_hold (world_of p steps) (see_clauses p s f) ≡ true
see_clauses_hold p steps s f program run ended fit probe =
    let test = clause_holds (world_of p steps) in
    all_append test (issued_before_match s f) _ (issued_before_match_holds p steps s f program.rank_order run fit)
    (all_append test (seen_before_taken p s f) _ (seen_before_taken_holds p steps s f run fit probe)
    (all_append test (without_later_sends p s f) _ (without_later_sends_holds p steps s f)
    (all_append test (flat_map (send_is_matched_before p s f) (earlier_sends p s f)) _
    (all_made_within test (send_is_matched_before p s f) (λ e. are_of_one_rank p e s && are_fit p e f) 0 s s (omega arith)
    (λ e below pass. send_is_matched_before_holds p steps s f e run fit below (and_true _ _ pass).0 (and_true _ _ pass).1))
    (all_append test (flat_map (taker_is_matched_before p s f) (earlier_takers p s f)) (pair_does_not_wait p s f)
    (all_made_within test (taker_is_matched_before p s f) (λ e. are_of_one_rank p e f && takes p s e) 0 f f (omega arith)
    (λ e below pass. taker_is_matched_before_holds p steps s f e run fit below (and_true _ _ pass).0 (and_true _ _ pass).1))
    (pair_does_not_wait_holds p steps s f run ended fit)))))

pub probes_see_messages : ProbesSeeMessages
probes_see_messages p steps program run ended =
    seeing_pairs_hold p (clause_holds (world_of p steps)) (see_clauses p)
    (λ s f seen. see_clauses_hold p steps s f program run ended (and_true _ _ seen).0 (and_true _ _ seen).1)
