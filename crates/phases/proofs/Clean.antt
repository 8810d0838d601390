-- Where the first part is balanced and has no stuck run, and no send comes in time from the second,
-- the cut is clean.
use Rattle.std.proofs.Common.{◌≡◌, ℕ, ◌+◌, ◌<◌, ◌⊎◌, inl, inr, Bool, true, false, List, [], ◌∷◌, ◌++◌, Option, Some, None, is_some, slice_index, refl, sym, ap, ◌∙◌, subst, arith}
use Rattle.std.proofs.lemmas.Bool.{eqb-true, eq-eqb, ltb-true}
use Rattle.std.proofs.lemmas.List.FromFn.{get_or-map-range_with_len}
use Rattle.std.proofs.lemmas.Option.{same_Some}
use Rattle.callorder.specs.declared.calls.Call.{Call}
use Rattle.callorder.specs.declared.calls.Kind.{Kind}
use Rattle.callorder.specs.declared.calls.Kind.TheVariants.{Send, Receive, MatchedProbe, Probe, MatchedReceive, Wait}
use Rattle.callorder.specs.declared.calls.Pattern.{Pattern}
use Rattle.callorder.specs.Calls.{pattern_of, covers, both_hold, holds_of, fits}
use Rattle.callorder.specs.Programs.{MpiProgram, call_at, is_of_rank, are_fit, are_of_one_rank, have_one_rank}
use Rattle.semantics.specs.declared.state.Step.{Step}
use Rattle.semantics.specs.declared.state.Step.TheVariants.{Issue, Match, See}
use Rattle.semantics.specs.Machine.{Configuration, first_call, opening, after, after_all, CanFind, IsEnabled, IsRun, is_issued, is_issued_call, is_matched, is_rank_finished}
use Rattle.semantics.proofs.Runs.{after_all-push, IsRun-push}
use Rattle.semantics.specs.Headline.{NoStuckRun}
use Rattle.races.specs.Races.{names_source}
use Rattle.phases.specs.CallPlaces.{IsPart, IsFrom, IsWellFormed, moved_kind, moved_call}
use Rattle.phases.specs.Cuts.{Cut, IsCutInTwo, IsClean, StayInParts, StaysInPart, AreOfOnePart}
use Rattle.phases.specs.Conditions.{IsBalanced, HasFinder, IsOfOnlySender, ComesAfter, is_send_to, is_taker_at, goes_to}
use Rattle.phases.specs.Order.{IsFinder, Needs}
use Rattle.phases.specs.Laws.{BalancedIsClean, NamedIsTimely}
use Rattle.phases.proofs.Parts.{pattern_moved, message_moved, fit_moved, matched_moved, fit_calls_there, IsSeen}
use Rattle.phases.proofs.Walks.{Both, one_step, seen_first, opening_both}
use Rattle.phases.proofs.Waiting.{IsWaited, HasNextBelow, waiter, found_where_finished, runs_are_waited, below_all, run_append, after_append, goes_on, found_later}
use Rattle.phases.proofs.Counting.{ArePaired, Fit, fit_parts, no_both, send_made, taker_parts, runs_are_paired, all_sends_matched}

-- ---- configurations that a run leads to

pub record Reached (p : MpiProgram) (m : Configuration) : Type 0 where
  pub steps : List Step
  pub run : IsRun p (opening p) steps
  pub is : after_all (opening p) steps ≡ m

pub reached_opening : (p : MpiProgram) → Reached p (opening p)
reached_opening p = record { steps = []; run = tt; is = refl }

pub reached_step : (p : MpiProgram) (m : Configuration) (step : Step) → Reached p m → IsEnabled p m step → Reached p (after m step)
reached_step p m step reached enabled =
    record {
      steps = reached.steps ++ step ∷ [];
      run = IsRun-push p (opening p) reached.steps step reached.run (subst (λ (z : Configuration). IsEnabled p z step) (sym reached.is) enabled);
      is = after_all-push (opening p) reached.steps step ∙ ap (λ (z : Configuration). after z step) reached.is;
    }

pub reached_more : (p : MpiProgram) (m : Configuration) (more : List Step) → Reached p m → IsRun p m more → Reached p (after_all m more)
reached_more p m more reached run =
    record {
      steps = reached.steps ++ more;
      run = run_append p (opening p) reached.steps more reached.run (subst (λ (z : Configuration). IsRun p z more) (sym reached.is) run);
      is = after_append (opening p) reached.steps more ∙ ap (λ (z : Configuration). after_all z more) reached.is;
    }

reached_waited : (p : MpiProgram) → IsWellFormed p → (m : Configuration) → Reached p m → IsWaited p m
reached_waited p is m reached = subst (IsWaited p) reached.is (runs_are_waited p is reached.steps reached.run)

reached_paired : (p : MpiProgram) (r c : ℕ) (m : Configuration) → Reached p m → ArePaired p (is_send_to r c) (is_taker_at r c) m
reached_paired p r c m reached = subst (ArePaired p (is_send_to r c) (is_taker_at r c)) reached.is (runs_are_paired p r c reached.steps reached.run)

pub reached_goes_on : (p : MpiProgram) (m : Configuration) → Reached p m → ((more : List Step) → IsRun p m more → ((step : Step) → IsEnabled p (after_all m more) step → ⊥) → ⊥) → ⊥
reached_goes_on p m reached never =
    goes_on p reached.steps reached.run (subst (λ (z : Configuration). (more : List Step) → IsRun p z more → ((step : Step) → IsEnabled p (after_all z more) step → ⊥) → ⊥) (sym reached.is) never)

-- ---- finders

finder_of : (k : Kind ℕ) (h : Pattern) → pattern_of k ≡ Some h → IsFinder k
finder_of (Receive blocking pattern) h e = tt
finder_of (MatchedProbe pattern receive) h e = tt
finder_of (Probe pattern) h e = tt
finder_of kind h e = absurd (cc)

finder_moved : (d : ℕ) (k : Kind ℕ) → IsFinder k → IsFinder (moved_kind d k)
finder_moved d (Receive blocking pattern) f = tt
finder_moved d (MatchedProbe pattern receive) f = tt
finder_moved d (Probe pattern) f = tt
finder_moved d kind f = absurd f

-- what a part's call needs it needs in the whole
needs_moved : (p q : MpiProgram) (moved : ℕ → ℕ) → IsPart p q moved → (d c o : ℕ) (k : Kind ℕ) → ((other : Call) → call_at q o ≡ Some other → moved other.rank ≡ d) → Needs q c k o → Needs p (c + d) (moved_kind d k) (o + d)
needs_moved p q moved part d c o (Send mode blocking message) same needs = absurd needs
needs_moved p q moved part d c o (Receive blocking pattern) same needs = (needs.0, ap (λ (z : ℕ). z + d) needs.1)
needs_moved p q moved part d c o (MatchedProbe pattern receive) same needs = ap (λ (z : ℕ). z + d) needs
needs_moved p q moved part d c o (Probe pattern) same needs = ap (λ (z : ℕ). z + d) needs
needs_moved p q moved part d c o (MatchedReceive blocking) same needs = absurd needs
needs_moved p q moved part d c o (Wait operation) same needs =
    let e = same needs.1 needs.2 in
    (ap (λ (z : ℕ). z + d) needs.0, moved_call (moved needs.1.rank) needs.1, ap (λ (z : ℕ). call_at p (o + z)) (sym e) ∙ part.calls o needs.1 needs.2, finder_moved (moved needs.1.rank) needs.1.kind needs.3)

pub issued_below : (p : MpiProgram) (m : Configuration) (c : ℕ) (call : Call) → call_at p c ≡ Some call → is_issued p m c ≡ true → c < slice_index m.next call.rank
issued_below p m c call there issued = ltb-true c (slice_index m.next call.rank) (sym (ap (holds_of (is_issued_call m c)) there) ∙ issued)

pub both_ways : (t : Bool) → t ≡ true → t ≡ false → ⊥
both_ways t on off = cc

module _ (p : MpiProgram) (x : Cut) (whole : IsWellFormed p) (one : IsWellFormed x.first) (two : IsWellFormed x.second) (cut : IsCutInTwo p x) where
  -- where the call of a part stands in the whole
  pub at_first : (k : ℕ) → (w : IsFrom x.first x.moved_first k) → call_at p k ≡ Some (moved_call (x.moved_first w.call.rank) w.call)
  at_first k w = ap (call_at p) w.is ∙ cut.first.calls w.place w.call w.there

  pub at_second : (k : ℕ) → (w : IsFrom x.second x.moved_second k) → call_at p k ≡ Some (moved_call (x.moved_second w.call.rank) w.call)
  at_second k w = ap (call_at p) w.is ∙ cut.second.calls w.place w.call w.there

  module _ (m m1 m2 : Configuration) (reached : Reached p m) (reached_first : Reached x.first m1) (both : Both p x one two cut m m1 m2) where
    seen : IsSeen p x.first x.moved_first m m1
    seen = seen_first p x one two cut m m1 m2 both

    -- ---- no send is left for a finder of the second part

    module _ (s f : ℕ) (ws : IsFrom x.first x.moved_first s) (wf : IsFrom x.second x.moved_second f) (can : CanFind p m s f) where
      left_fit : Fit (moved_call (x.moved_first ws.call.rank) ws.call) (moved_call (x.moved_second wf.call.rank) wf.call)
      left_fit = fit_parts p s f _ _ (at_first s ws) (at_second f wf) can.fit

      -- a taker there has found a message: its rank has gone past the first part
      taker_matched : (t : ℕ) (b : Call) → call_at x.first t ≡ Some b → is_taker_at wf.call.rank left_fit.pattern.communicator b ≡ true → is_matched m1 t ≡ true
      taker_matched t b at_t takes =
          let parts = taker_parts wf.call.rank left_fit.pattern.communicator b takes in
          let w = waiter x.first one t b at_t (finder_of b.kind parts.1 parts.2) in
          let d = x.moved_first w.call.rank in
          let own : w.call.rank ≡ wf.call.rank = w.own ∙ parts.0 in
          let high = issued_below p m f _ (at_second f wf) can.finder_issued in
          let behind = cut.behind wf.place wf.call wf.there in
          let before = cut.before w.place w.call w.there in
          let past : (w.place + d) + 1 < slice_index m.next w.call.rank = omega (arith, before, behind, wf.is, high, ap x.bound own, ap (slice_index m.next) own) in
          let needs = needs_moved p x.first x.moved_first cut.first d w.place t w.call.kind
          (λ other at_o. ap x.moved_first (ap (λ (z : Call). z.rank) (same_Some other b (sym at_o ∙ at_t)) ∙ sym w.own)) w.needs in
          let found : is_matched m (t + d) ≡ true = reached_waited p whole m reached (w.place + d) (t + d) (moved_call d w.call) (cut.first.calls w.place w.call w.there) past needs in
          let place : t + x.moved_first b.rank ≡ t + d = ap (λ (z : ℕ). t + x.moved_first z) (sym w.own) in
          sym (matched_moved p x.first x.moved_first cut.first one m m1 seen t b at_t) ∙ ap (is_matched m) place ∙ found

      none_left : IsBalanced x.first x.second → ⊥
      none_left balanced =
          let r = wf.call.rank in
          let c = left_fit.pattern.communicator in
          let found : HasFinder x.second r c = record { place = wf.place; call = wf.call; pattern = left_fit.pattern; there = wf.there; own = refl; finds = sym (pattern_moved (x.moved_second wf.call.rank) wf.call.kind) ∙ left_fit.finds; on = refl } in
          let sends : is_send_to r c ws.call ≡ true =
          sym (ap (goes_to r c) (message_moved (x.moved_first ws.call.rank) ws.call.kind)) ∙ send_made _ _ left_fit in
          let free : is_matched m1 ws.place ≡ false =
          sym (matched_moved p x.first x.moved_first cut.first one m m1 seen ws.place ws.call ws.there) ∙ sym (ap (is_matched m) ws.is) ∙ can.send_open in
          all_sends_matched x.first r c m1 (reached_paired x.first r c m1 reached_first) (balanced r c found) taker_matched ws.place ws.call ws.there sends free

    -- ---- no send of the second part comes in time

    module _ (s f : ℕ) (ws : IsFrom x.second x.moved_second s) (wf : IsFrom x.first x.moved_first f) (can : CanFind p m s f) where
      early_fit : Fit (moved_call (x.moved_second ws.call.rank) ws.call) (moved_call (x.moved_first wf.call.rank) wf.call)
      early_fit = fit_parts p s f _ _ (at_second s ws) (at_first f wf) can.fit

      finds : pattern_of wf.call.kind ≡ Some early_fit.pattern
      finds = sym (pattern_moved (x.moved_first wf.call.rank) wf.call.kind) ∙ early_fit.finds

      free_finder : is_matched m1 wf.place ≡ false
      free_finder = sym (matched_moved p x.first x.moved_first cut.first one m m1 seen wf.place wf.call wf.there) ∙ sym (ap (is_matched m) wf.is) ∙ can.finder_open

      -- an earlier send of the same rank that fits is in the way
      in_the_way : IsOfOnlySender p x.first x.moved_first s f → (e : ℕ) (a : Call) → call_at x.first e ≡ Some a → are_fit x.first e wf.place ≡ true → is_matched m1 e ≡ false → ⊥
      in_the_way only e a at_e fit free =
          let E = e + x.moved_first a.rank in
          let w : IsFrom x.first x.moved_first E = record { place = e; call = a; there = at_e; is = refl } in
          let fits_there : are_fit p E f ≡ true = ap (are_fit p E) wf.is ∙ fit_moved p x.first x.moved_first cut.first e wf.place a wf.call at_e wf.there ∙ fit in
          let rank : a.rank ≡ ws.call.rank = only E w fits_there _ _ (at_first E w) (at_second s ws) in
          let below : E < s = omega (arith, cut.before e a at_e, cut.behind ws.place ws.call ws.there, ws.is, ap x.bound rank) in
          let of_one : are_of_one_rank p E s ≡ true =
          ap (λ (z : Option Call). both_hold have_one_rank z (call_at p s)) (at_first E w) ∙ ap (both_hold have_one_rank (Some (moved_call (x.moved_first a.rank) a))) (at_second s ws) ∙ eq-eqb ws.call.rank a.rank (sym rank) in
          both_ways (is_matched m1 e) (sym (matched_moved p x.first x.moved_first cut.first one m m1 seen e a at_e) ∙ can.sends E below of_one fits_there) free

      module _ (never : NoStuckRun x.first) where
        finished_as : (e : Configuration) → Reached x.first e → ((step : Step) → IsEnabled x.first e step → ⊥) → (r : ℕ) → r < x.first.ranks → (t : Bool) → is_rank_finished x.first e r ≡ t → is_rank_finished x.first e r ≡ true
        finished_as e end none r range true h = h
        finished_as e end none r range false h =
            absurd (never end.steps (record {
              run = end.run;
              stuck = record {
                rank = r;
                in_range = range;
                unfinished = ap (λ (z : Configuration). is_rank_finished x.first z r) end.is ∙ h;
                none_enabled = λ step enabled. none step (subst (λ (z : Configuration). IsEnabled x.first z step) end.is enabled);
              };
            }))

        none_early_at : HasNextBelow x.first (opening x.first) → IsOfOnlySender p x.first x.moved_first s f → (more : List Step) → IsRun x.first m1 more → ((step : Step) → IsEnabled x.first (after_all m1 more) step → ⊥) → ⊥
        none_early_at below only more go none =
            let end = reached_more x.first m1 more reached_first go in
            let e = after_all m1 more in
            let low : HasNextBelow x.first e = subst (HasNextBelow x.first) end.is (below_all x.first one (opening x.first) end.steps below end.run) in
            let finished = finished_as e end none wf.call.rank (one.in_range wf.place wf.call wf.there).own (is_rank_finished x.first e wf.call.rank) refl in
            let found = found_where_finished x.first one e (reached_waited x.first one e end) low wf.place wf.call wf.there (finder_of wf.call.kind early_fit.pattern finds) finished in
            elim (found_later x.first m1 more wf.place go free_finder found) [
              | inl w ↦ let there = fit_calls_there x.first w.0 wf.place w.1 in in_the_way only w.0 there.0.0 there.0.1 w.1 w.2
              | inr w ↦
                  let there = fit_calls_there x.first wf.place w.0 w.1 in
                  let fit = fit_parts x.first wf.place w.0 wf.call there.1.0 wf.there there.1.1 w.1 in
                  no_both wf.call.kind fit.message early_fit.pattern fit.sends finds
            ]

        pub none_early : HasNextBelow x.first (opening x.first) → IsOfOnlySender p x.first x.moved_first s f ⊎ ComesAfter p s f → ⊥
        none_early below (inl only) = reached_goes_on x.first m1 reached_first (none_early_at below only)
        none_early below (inr after) =
            let found = after reached.steps reached.run (ap (λ (z : Configuration). is_issued p z s) reached.is ∙ can.send_issued) in
            both_ways (is_matched m f) (sym (ap (λ (z : Configuration). is_matched z f) reached.is) ∙ found) can.finder_open

  -- As long as a run stays in its parts, no finder of the first part may find a send of the second.
  abbrev pub NoneEarly : Type 0
  NoneEarly =
      (m m1 m2 : Configuration) → Reached p m → Reached x.first m1 → Both p x one two cut m m1 m2
      → (s f : ℕ) → IsFrom x.second x.moved_second s → IsFrom x.first x.moved_first f → CanFind p m s f → ⊥

  module _ (balanced : IsBalanced x.first x.second) (early : NoneEarly) where
    of_one_part_as : (m m1 m2 : Configuration) → Reached p m → Reached x.first m1 → Both p x one two cut m m1 m2 → (s f : ℕ) → CanFind p m s f
        → IsFrom x.first x.moved_first s ⊎ IsFrom x.second x.moved_second s → IsFrom x.first x.moved_first f ⊎ IsFrom x.second x.moved_second f → AreOfOnePart x s f
    of_one_part_as m m1 m2 reached first both s f can (inl w) (inl v) = inl (w, v)
    of_one_part_as m m1 m2 reached first both s f can (inr w) (inr v) = inr (w, v)
    of_one_part_as m m1 m2 reached first both s f can (inl w) (inr v) = absurd (none_left m m1 m2 reached first both s f w v can balanced)
    of_one_part_as m m1 m2 reached first both s f can (inr w) (inl v) = absurd (early m m1 m2 reached first both s f w v can)

    of_one_part : (m m1 m2 : Configuration) → Reached p m → Reached x.first m1 → Both p x one two cut m m1 m2 → (s f : ℕ) → CanFind p m s f → AreOfOnePart x s f
    of_one_part m m1 m2 reached first both s f can =
        let there = fit_calls_there p s f can.fit in
        of_one_part_as m m1 m2 reached first both s f can (cut.each s there.0.0 there.0.1) (cut.each f there.1.0 there.1.1)

    step_stays : (m m1 m2 : Configuration) → Reached p m → Reached x.first m1 → Both p x one two cut m m1 m2 → (step : Step) → IsEnabled p m step → StaysInPart x step
    step_stays m m1 m2 reached first both (Issue r b) enabled = tt
    step_stays m m1 m2 reached first both (Match s t) enabled = of_one_part m m1 m2 reached first both s t enabled.1
    step_stays m m1 m2 reached first both (See s f) enabled = of_one_part m m1 m2 reached first both s f enabled.1

    all_stay : (m m1 m2 : Configuration) → Reached p m → Reached x.first m1 → Both p x one two cut m m1 m2 → (steps : List Step) → IsRun p m steps → StayInParts x steps
    all_stay m m1 m2 reached first both [] run = tt
    all_stay m m1 m2 reached first both (step ∷ steps) run =
        let stay = step_stays m m1 m2 reached first both step run.0 in
        let next = reached_step p m step reached run.0 in (
          stay,
          elim (one_step p x one two cut m m1 m2 both step run.0 stay) [
            | inl s ↦ all_stay (after m step) (after m1 s.0) m2 next (reached_step x.first m1 s.0 first s.1) s.2 steps run.1
            | inr s ↦ all_stay (after m step) m1 (after m2 s.0) next first s.2 steps run.1
          ],
        )

    pub clean_by : IsClean p x
    clean_by steps run =
        all_stay (opening p) (opening x.first) (opening x.second) (reached_opening p) (reached_opening x.first) (opening_both p x one two cut) steps run

-- in the opening configuration of the first part a rank with calls has a next one
pub opening_below : (p : MpiProgram) (x : Cut) → IsCutInTwo p x → IsWellFormed x.first → HasNextBelow x.first (opening x.first)
opening_below p x cut one r c range own low =
    let next : slice_index (opening x.first).next r ≡ first_call x.first r = get_or-map-range_with_len (first_call x.first) 0 x.first.ranks r r 0 range (omega arith) in
    by next (is_of_rank (call_at x.first (first_call x.first r)) r) refl
  where
    by : slice_index (opening x.first).next r ≡ first_call x.first r → (t : Bool) → is_of_rank (call_at x.first (first_call x.first r)) r ≡ t → is_of_rank (call_at x.first (slice_index (opening x.first).next r)) r ≡ true
    by next true e = ap (λ (z : ℕ). is_of_rank (call_at x.first z) r) next ∙ e
    by next false e = absurd (both_ways (is_of_rank (call_at x.first c) r) own (cut.none r c (omega (arith, range, cut.first.ranks)) e))

pub balanced_is_clean : BalancedIsClean
balanced_is_clean p x whole one two cut balanced timely never steps run =
    clean_by p x whole one two cut balanced
    (λ m m1 m2 reached first both s f ws wf can.
    none_early p x whole one two cut m m1 m2 reached first both s f ws wf can never (opening_below p x cut one) (timely s f ws wf can.fit)) steps run

-- ---- named sources

source_is : (source : Option ℕ) (v r : ℕ) → source ≡ Some v → covers source r ≡ true → v ≡ r
source_is source v r is covered = eqb-true v r (sym (ap (λ (z : Option ℕ). covers z r) is) ∙ covered)

-- what names its source has one
named_source : (o : Option Pattern) (pattern : Pattern) → o ≡ Some pattern → names_source o ≡ true → (source : Option ℕ) → pattern.source ≡ source → (v : ℕ) × (source ≡ Some v)
named_source o pattern is names None e = absurd (both_ways true refl (sym names ∙ ap names_source is ∙ ap is_some e))
named_source o pattern is names (Some v) e = (v, refl)

-- a send that fits a finder which names its source is of the only rank whose sends fit it
pub named_is_only : (p : MpiProgram) (x : Cut) → IsCutInTwo p x → (s f : ℕ) → (wf : IsFrom x.first x.moved_first f) → are_fit p s f ≡ true
    → names_source (pattern_of wf.call.kind) ≡ true → IsOfOnlySender p x.first x.moved_first s f
named_is_only p x cut s f wf fit names e we fits_e call other at_e at_s = only
  where
    at_f : call_at p f ≡ Some (moved_call (x.moved_first wf.call.rank) wf.call)
    at_f = ap (call_at p) wf.is ∙ cut.first.calls wf.place wf.call wf.there

    sender : (k : ℕ) (call : Call) → call_at p k ≡ Some call → are_fit p k f ≡ true → (v : ℕ) (pattern : Pattern) → pattern_of wf.call.kind ≡ Some pattern → pattern.source ≡ Some v → v ≡ call.rank
    sender k call at_k fits_k v pattern finds is =
        let g = fit_parts p k f call _ at_k at_f fits_k in
        let same : g.pattern ≡ pattern = same_Some g.pattern pattern (sym g.finds ∙ pattern_moved (x.moved_first wf.call.rank) wf.call.kind ∙ finds) in
        source_is g.pattern.source v call.rank (ap (λ (z : Pattern). z.source) same ∙ is) g.source

    only : call.rank ≡ other.rank
    only =
        let g = fit_parts p s f other _ at_s at_f fit in
        let finds : pattern_of wf.call.kind ≡ Some g.pattern = sym (pattern_moved (x.moved_first wf.call.rank) wf.call.kind) ∙ g.finds in
        let named = named_source (pattern_of wf.call.kind) g.pattern finds names g.pattern.source refl in
        sym (sender e call at_e fits_e named.0 g.pattern finds named.1) ∙ sender s other at_s fit named.0 g.pattern finds named.1

pub named_is_timely : NamedIsTimely
named_is_timely p x cut names s f ws wf fit =
    inl (λ e we fits_e call other at_e at_s. named_is_only p x cut s f wf fit (names wf.place wf.call wf.there) e we fits_e call other at_e at_s)
