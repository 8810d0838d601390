-- What the world of a run says of pairs: families of clauses over pairs hold.
use Rattle.std.proofs.Common.{◌≡◌, ℕ, ◌<◌, ◌⊎◌, inl, inr, Bool, true, false, not, ◌==◌, ◌&&◌, nat_lt, List, [], ◌∷◌, ◌++◌, Option, Some, None, slice_get, length, take, map, refl, sym, ap, ◌∙◌, subst, arith}
use Rattle.std.specs.List.{filter, flat_map, list_any}
use Rattle.std.proofs.lemmas.Bool.{cases_eq}
use Rattle.std.proofs.lemmas.Bool.Decides.{nat_tests}
use Rattle.std.proofs.lemmas.Option.{same_Some, slice_get_within}
use Rattle.calltext.proofs.Conjunctions.{and_true}
use Rattle.callorder.specs.declared.calls.Call.{Call}
use Rattle.callorder.specs.Programs.{MpiProgram, call_at, are_fit, is_probe, takes, are_of_one_rank}
use Rattle.callorder.specs.Calls.{both_hold, fits}
use Rattle.semantics.specs.declared.state.Step.{Step}
use Rattle.semantics.specs.declared.state.Step.TheVariants.{Match}
use Rattle.semantics.specs.Machine.{Configuration, opening, after_all, IsRun, is_matched, is_issued, partner_of}
use Rattle.run_laws.specs.Laws.{IsInRankOrder}
use Rattle.run_laws.proofs.Descent.{some_match_or_see_is_enabled, takes_fit}
use Rattle.run_laws.proofs.Matched.{not_true}
use Rattle.run_laws.specs.Places.{find_step}
use Rattle.candidates.specs.Pairs.{places, takers_of}
use Rattle.formula.specs.declared.facts.RunEvent.TheVariants.{Issue as issue_of, Match as match_of}
use Rattle.formula.specs.declared.facts.Fact.TheVariants.{Issued as issued, Matched as matched}
use Rattle.formula.specs.declared.facts.Statement.TheVariants.{Holds as is_true, Fails as is_false, Earlier as is_earlier}
use Rattle.nonovertake.specs.Earlier.{earlier_sends}
use Rattle.formula.specs.Families.{sends_of, issued_before_match, send_is_matched_before, pair_does_not_wait}
use Rattle.formula_from_run.specs.Worlds.{HasNoEnabledStep, is_that, is_right, clause_holds, clauses_hold, clock_from, world_of}
use Rattle.formula_from_run.specs.Laws.{MatchesComeAfterIssues, NoSendOvertakes, NoPairWaits}
use Rattle.formula.proofs.Elements.{and_both, any_append_left, any_append_right}
use Rattle.formula_from_run.proofs.Lists.{or_not, or_not_not, or_last, all_made_within, all_mapped_twice, has_number, in_range, in_filter, any_mapped, pairs_hold}
use Rattle.formula_from_run.proofs.Clocks.{issued_clock}
use Rattle.formula_from_run.proofs.Stays.{issued_later}
use Rattle.formula_from_run.proofs.Pairings.{Finding, Pairing, pairing, Sent, sent, received, take_all}

-- ---- pairs that fit, and pairs that are matched in the end

calls_within : (p : MpiProgram) (s t : ℕ) (x y : Option Call) → call_at p s ≡ x → call_at p t ≡ y → both_hold fits x y ≡ true → (s < length p.calls) × (t < length p.calls)
calls_within p s t None y e f h = absurd (cc)
calls_within p s t (Some x) None e f h = absurd (cc)
calls_within p s t (Some x) (Some y) e f h = (slice_get_within p.calls s x e, slice_get_within p.calls t y f)

pub fit_within : (p : MpiProgram) (s t : ℕ) → are_fit p s t ≡ true → (s < length p.calls) × (t < length p.calls)
fit_within p s t fit = calls_within p s t (call_at p s) (call_at p t) refl refl fit

pub has_taker : (p : MpiProgram) (s t : ℕ) → takes p s t ≡ true → has_number (takers_of p s) t ≡ true
has_taker p s t taken = in_filter (takes p s) (places p) t taken (in_range 0 (length p.calls) t (omega arith) (omega (arith, (fit_within p s t (takes_fit p s t taken)).1)))

pub has_send : (p : MpiProgram) (s t : ℕ) → are_fit p s t ≡ true → has_number (sends_of p t) s ≡ true
has_send p s t fit = in_filter (λ u. are_fit p u t) (places p) s fit (in_range 0 (length p.calls) s (omega arith) (omega (arith, (fit_within p s t fit).0)))

pub is_that-some : (o : Option ℕ) (c : ℕ) → is_that o c ≡ true → o ≡ Some c
is_that-some None c h = absurd (cc)
is_that-some (Some d) c h = ap Some (let e : d ≡ c = grind (arith, nat_tests) in e)

pub is_that-from : (o : Option ℕ) (c : ℕ) → o ≡ Some c → is_that o c ≡ true
is_that-from o c e = rw e (grind (arith, nat_tests))

found-from : (p : MpiProgram) (steps : List Step) (s f : ℕ) → (world_of p steps).has (matched s f) ≡ true → is_matched (after_all (opening p) (take (length steps) steps)) f ≡ true
found-from p steps s f h =
    let e = is_that-some (partner_of (after_all (opening p) steps) f) s h in
    rw (take_all steps, e) refl

-- the step by which the finder found the send that it has found at the end
pub record Found (p : MpiProgram) (steps : List Step) (s f : ℕ) : Type 0 where
  pub place : ℕ
  pub pair : Finding p steps s f place

pub found : (p : MpiProgram) (steps : List Step) (s f : ℕ) → IsRun p (opening p) steps → are_fit p s f ≡ true → (world_of p steps).has (matched s f) ≡ true → Found p steps s f
found p steps s f run fit h =
    let w = received p steps f s (length steps) run fit (found-from p steps s f h) in
    let same : w.send ≡ s = same_Some _ _ (sym w.pair.taker_kept ∙ is_that-some _ s h) in
    record { place = w.place; pair = subst (λ (z : ℕ). Finding p steps z f w.place) same w.pair }

-- the step that matched a pair that is matched at the end
pub record Paired (p : MpiProgram) (steps : List Step) (s t : ℕ) : Type 0 where
  pub place : ℕ
  pub pair : Pairing p steps s t place

-- a taker finds by a match
pub by_match : (p : MpiProgram) (steps : List Step) (s t i : ℕ) → is_probe p t ≡ false → (w : Finding p steps s t i) → slice_get steps i ≡ Some (Match s t)
by_match p steps s t i taker w =
    let off : w.sees ≡ false = sym w.kind ∙ taker in
    subst (λ (b : Bool). slice_get steps i ≡ Some (find_step b s t)) off w.there

pub no_probe : (p : MpiProgram) (s t : ℕ) → takes p s t ≡ true → is_probe p t ≡ false
no_probe p s t taken = not_true (is_probe p t) (and_true (are_fit p s t) (not (is_probe p t)) taken).1

pub paired : (p : MpiProgram) (steps : List Step) (s t : ℕ) → IsRun p (opening p) steps → takes p s t ≡ true → (world_of p steps).has (matched s t) ≡ true → Paired p steps s t
paired p steps s t run taken h =
    let w = found p steps s t run (takes_fit p s t taken) h in
    record { place = w.place; pair = pairing p steps s t w.place run (by_match p steps s t w.place (no_probe p s t taken) w.pair) }

-- ---- matches come after issues

issued_then : (p : MpiProgram) (steps : List Step) (s t c : ℕ) → IsInRankOrder p → (run : IsRun p (opening p) steps) → (w : Found p steps s t) → is_issued p (after_all (opening p) (take w.place steps)) c ≡ true → nat_lt (clock_from p (opening p) steps (issue_of c)) (clock_from p (opening p) steps (match_of t)) ≡ true
issued_then p steps s t c order run w h =
    let below = issued_clock p steps c w.place order run h in
    rw w.pair.clock (grind (arith, nat_tests))

pub issued_before_match_holds : (p : MpiProgram) (steps : List Step) (s t : ℕ) → IsInRankOrder p → IsRun p (opening p) steps → are_fit p s t ≡ true → clauses_hold (world_of p steps) (issued_before_match s t) ≡ true
issued_before_match_holds p steps s t order run fit =
    let at_end = λ (h : (world_of p steps).has (matched s t) ≡ true). found p steps s t run fit h in
    and_both _ _ (or_not _ _ (λ h. or_last _ (issued_later p (opening p) steps (at_end h).place s (at_end h).pair.can.send_issued)))
    (and_both _ _ (or_not _ _ (λ h. or_last _ (issued_later p (opening p) steps (at_end h).place t (at_end h).pair.can.finder_issued)))
    (and_both _ _ (or_not _ _ (λ h. or_last _ (issued_then p steps s t s order run (at_end h) (at_end h).pair.can.send_issued)))
    (and_both _ _ (or_not _ _ (λ h. or_last _ (issued_then p steps s t t order run (at_end h) (at_end h).pair.can.finder_issued))) refl)))

pub matches_come_after_issues : MatchesComeAfterIssues
matches_come_after_issues p steps program run =
    pairs_hold p (clause_holds (world_of p steps)) issued_before_match (λ s t taken. issued_before_match_holds p steps s t program.rank_order run (takes_fit p s t taken))

-- ---- sends don't overtake

pub unlike : (u t : ℕ) → (u ≡ t → ⊥) → not (u == t) ≡ true
unlike u t h =
    elim (cases_eq u t) [ inl e ↦ absurd (h e) | inr differ ↦ grind (arith, nat_tests) ]

sent_first : (p : MpiProgram) (steps : List Step) (s t e : ℕ) → IsRun p (opening p) steps → (w : Found p steps s t) → e < s → are_of_one_rank p e s ≡ true → are_fit p e t ≡ true → Sent p steps e w.place
sent_first p steps s t e run w below same fit = sent p steps e t w.place run fit (w.pair.can.sends e below same fit)

-- another taker, since this one is matched later
other_taker : (p : MpiProgram) (steps : List Step) (s t e : ℕ) (w : Found p steps s t) (v : Sent p steps e w.place) → v.taker ≡ t → ⊥
other_taker p steps s t e w v same =
    let a = v.pair.clock in
    let b = w.pair.clock in
    let c : clock_from p (opening p) steps (match_of v.taker) ≡ clock_from p (opening p) steps (match_of t) = ap (λ (z : ℕ). clock_from p (opening p) steps (match_of z)) same in
    omega (arith, a, b, c, v.before)

some_other_taker : (p : MpiProgram) (steps : List Step) (s t e : ℕ) (w : Found p steps s t) (v : Sent p steps e w.place) → list_any (is_right (world_of p steps)) (map (λ u. is_true (matched e u)) (filter (λ u. not (u == t)) (takers_of p e))) ≡ true
some_other_taker p steps s t e w v =
    any_mapped (is_right (world_of p steps)) (λ u. is_true (matched e u)) _ v.taker
    (in_filter (λ u. not (u == t)) (takers_of p e) v.taker (unlike v.taker t (other_taker p steps s t e w v)) (has_taker p e v.taker v.pair.taken))
    (is_that-from _ e v.pair.taker_kept)

before_it : (p : MpiProgram) (steps : List Step) (s t e u : ℕ) → IsRun p (opening p) steps → (w : Found p steps s t) (v : Sent p steps e w.place) → takes p e u ≡ true → (world_of p steps).has (matched e u) ≡ true → nat_lt (clock_from p (opening p) steps (match_of u)) (clock_from p (opening p) steps (match_of t)) ≡ true
before_it p steps s t e u run w v taken h =
    let same : v.taker ≡ u = same_Some _ _ (sym v.pair.send_kept ∙ (paired p steps e u run taken h).pair.send_kept) in
    let a : clock_from p (opening p) steps (match_of u) ≡ v.place = subst (λ (z : ℕ). clock_from p (opening p) steps (match_of z) ≡ v.place) same v.pair.clock in
    let b = w.pair.clock in
    let c = v.before in
    rw (a, b) (grind (arith, nat_tests))

pub send_is_matched_before_holds : (p : MpiProgram) (steps : List Step) (s t e : ℕ) → IsRun p (opening p) steps → are_fit p s t ≡ true → e < s → are_of_one_rank p e s ≡ true → are_fit p e t ≡ true → clauses_hold (world_of p steps) (send_is_matched_before p s t e) ≡ true
send_is_matched_before_holds p steps s t e run fit below same fits =
    let at_end = λ (h : (world_of p steps).has (matched s t) ≡ true). found p steps s t run fit h in
    let first = λ (h : (world_of p steps).has (matched s t) ≡ true). sent_first p steps s t e run (at_end h) below same fits in
    and_both _ _ (or_not _ _ (λ h. some_other_taker p steps s t e (at_end h) (first h)))
    (all_mapped_twice (clause_holds (world_of p steps)) (λ u. is_false (matched s t) ∷ is_false (matched e u) ∷ is_earlier (match_of u) (match_of t) ∷ []) (takes p e) (λ u. not (u == t)) (places p)
    (λ u _ taken. or_not_not _ _ _ (λ h g. or_last _ (before_it p steps s t e u run (at_end h) (first h) taken g))))

pub sends_do_not_overtake : NoSendOvertakes
sends_do_not_overtake p steps program run =
    pairs_hold p (clause_holds (world_of p steps)) (λ s t. flat_map (send_is_matched_before p s t) (earlier_sends p s t))
    (λ s t taken. all_made_within (clause_holds (world_of p steps)) (send_is_matched_before p s t) (λ e. are_of_one_rank p e s && are_fit p e t) 0 s s (omega arith)
    (λ e below pass. send_is_matched_before_holds p steps s t e run (takes_fit p s t taken) below (and_true _ _ pass).0 (and_true _ _ pass).1))

-- ---- no pair waits

-- of a send and a finder that fit and are issued, one is matched where no step is enabled
matched_at_end : (p : MpiProgram) (m : Configuration) (s t : ℕ) → HasNoEnabledStep p m → are_fit p s t ≡ true → is_issued p m s ≡ true → is_issued p m t ≡ true → (is_matched m s ≡ true) ⊎ (is_matched m t ≡ true)
matched_at_end p m s t ended fit i j = by (is_matched m s) (is_matched m t) refl refl
  where
    by : (a b : Bool) → is_matched m s ≡ a → is_matched m t ≡ b → (is_matched m s ≡ true) ⊎ (is_matched m t ≡ true)
    by true b x y = inl x
    by false true x y = inr y
    by false false x y =
        let w = some_match_or_see_is_enabled p m s t (record { send_issued = i; finder_issued = j; send_open = x; finder_open = y; fit = fit }) in
        absurd (ended (find_step (is_probe p w.finder) w.send w.finder) w.enabled)

pub one_is_matched : (p : MpiProgram) (steps : List Step) (s t : ℕ) → IsRun p (opening p) steps → HasNoEnabledStep p (after_all (opening p) steps) → are_fit p s t ≡ true → (world_of p steps).has (issued s) ≡ true → (world_of p steps).has (issued t) ≡ true → list_any (is_right (world_of p steps)) (map (λ u. is_true (matched s u)) (takers_of p s) ++ map (λ u. is_true (matched u t)) (sends_of p t)) ≡ true
one_is_matched p steps s t run ended fit i j =
    elim (matched_at_end p (after_all (opening p) steps) s t ended fit i j) [
      | inl h ↦
          let w = sent p steps s t (length steps) run fit (rw (take_all steps) h) in
          any_append_left (is_right (world_of p steps)) (map (λ u. is_true (matched s u)) (takers_of p s)) _ (any_mapped (is_right (world_of p steps)) (λ u. is_true (matched s u)) (takers_of p s) w.taker (has_taker p s w.taker w.pair.taken) (is_that-from _ s w.pair.taker_kept))
      | inr h ↦
          let w = received p steps t s (length steps) run fit (rw (take_all steps) h) in
          any_append_right (is_right (world_of p steps)) (map (λ u. is_true (matched s u)) (takers_of p s)) _ (any_mapped (is_right (world_of p steps)) (λ u. is_true (matched u t)) (sends_of p t) w.send (has_send p w.send t w.pair.can.fit) (is_that-from _ w.send w.pair.taker_kept))
    ]

pub pair_does_not_wait_holds : (p : MpiProgram) (steps : List Step) (s f : ℕ) → IsRun p (opening p) steps → HasNoEnabledStep p (after_all (opening p) steps) → are_fit p s f ≡ true → clauses_hold (world_of p steps) (pair_does_not_wait p s f) ≡ true
pair_does_not_wait_holds p steps s f run ended fit = and_both _ _ (or_not_not _ _ _ (one_is_matched p steps s f run ended fit)) refl

pub no_pair_waits : NoPairWaits
no_pair_waits p steps program run ended =
    pairs_hold p (clause_holds (world_of p steps)) (pair_does_not_wait p)
    (λ s t taken. pair_does_not_wait_holds p steps s t run ended (takes_fit p s t taken))
