-- Behind a phase that leaves nothing and is sealed, what is left may be judged alone.
use Rattle.std.proofs.Common.{◌≡◌, ℕ, ◌+◌, ◌<◌, inl, inr, true, false, not, Option, Some, slice_index, sym, ap, ◌∙◌, subst, arith}
use Rattle.calltext.proofs.Conjunctions.{and_both}
use Rattle.callorder.specs.declared.calls.Call.{Call}
use Rattle.callorder.specs.declared.calls.Message.{Message}
use Rattle.callorder.specs.Calls.{message_of, pattern_of, fits_between, both_hold, fits}
use Rattle.callorder.specs.Programs.{MpiProgram, call_at}
use Rattle.semantics.specs.Headline.{NoStuckRun}
use Rattle.semantics.specs.Machine.{Configuration, CanFind, is_matched, is_rank_finished, is_returned, has_next, has_returned_before}
use Rattle.races.proofs.Kept.{Kept}
use Rattle.races.proofs.Passing.{kept_run}
use Rattle.phases.specs.CallPlaces.{IsFrom, IsWellFormed, moved_call}
use Rattle.phases.specs.Cuts.{Cut, IsCutInTwo}
use Rattle.phases.specs.Joining.{cut_between}
use Rattle.phases.specs.Rests.{behind}
use Rattle.phases.proofs.Parts.{of_rank, before_from, matched_moved, message_moved, pattern_moved, returned_moved}
use Rattle.phases.proofs.Walks.{Both, InSecond, Stage, before_bound, seen_first, whole_is_never_stuck}
use Rattle.phases.proofs.Clean.{Reached, NoneEarly, at_first, at_second, both_ways, clean_by, issued_below, named_is_only, none_early, opening_below}
use Rattle.phases.proofs.Joined.{is_cut}
use Rattle.phases.proofs.Rests.{front_is_joined}
use Rattle.sealing.specs.Laws.{OneSealedPhaseMore}
use Rattle.sealing.specs.Sealing.{IsFoundBeforeFinish, IsSealed}

module _ (p : MpiProgram) (x : Cut) (whole : IsWellFormed p) (one : IsWellFormed x.first) (two : IsWellFormed x.second) (cut : IsCutInTwo p x) where
  -- a rank that has gone past the first part is in the second
  second_as : (r n a b : ℕ) → x.bound r < n → Stage p x one two cut r n a b → InSecond p x one two cut r n a b
  second_as r n a b past (inl at) = absurd (omega (arith, past, at.next, before_bound p x one two cut r a at.has))
  second_as r n a b past (inr at) = at

  -- A finder of the first part may find a send of the second, in a run that has stayed in its
  -- parts.
  module _ (m m1 m2 : Configuration) (reached : Reached p m) (first : Reached x.first m1) (both : Both p x one two cut m m1 m2)
      (s f : ℕ) (ws : IsFrom x.second x.moved_second s) (wf : IsFrom x.first x.moved_first f) (can : CanFind p m s f) where
    kept : Kept p m
    kept = subst (Kept p) reached.is (kept_run p reached.steps whole.rank_order reached.run)

    -- the send's rank has gone past the first part
    past : x.bound ws.call.rank < slice_index m.next ws.call.rank
    past =
        let high = issued_below p m s _ (at_second p x whole one two cut s ws) can.send_issued in
        omega (arith, high, ws.is, cut.behind ws.place ws.call ws.there)

    -- so it has finished the first part
    finished : is_rank_finished x.first m1 ws.call.rank ≡ true
    finished =
        let r = ws.call.rank in
        let a = slice_index m1.next r in
        let at = second_as r _ _ _ past (both.stage r (omega (arith, (two.in_range ws.place ws.call ws.there).own, cut.second.ranks))) in
        and_both (not (has_next x.first m1 r)) (has_returned_before x.first m1 r a) (ap not at.over)
        (before_from x.first m1 r a (λ k e own. let y = of_rank (call_at x.first k) r own in returned k y.0 y.1 y.2))
      where
        returned : (k : ℕ) (y : Call) → call_at x.first k ≡ Some y → y.rank ≡ ws.call.rank → is_returned x.first m1 k ≡ true
        returned k y there own =
            let below = cut.before k y there in
            sym (returned_moved p x.first x.moved_first cut.first one m m1 (seen_first p x one two cut m m1 m2 both) k y there)
            ∙ kept.returned (k + x.moved_first y.rank) (moved_call (x.moved_first y.rank) y) (cut.first.calls k y there)
            (omega (arith, below, past, ap x.bound own, ap (slice_index m.next) own))

    -- but then the finder has found already
    none_before : IsFoundBeforeFinish x.first wf.place ws.call.rank → ⊥
    none_before before =
        let matched = before first.steps first.run (ap (λ (z : Configuration). is_rank_finished x.first z ws.call.rank) first.is ∙ finished) in
        let free : is_matched m1 wf.place ≡ false =
        sym (matched_moved p x.first x.moved_first cut.first one m m1 (seen_first p x one two cut m m1 m2 both) wf.place wf.call wf.there)
        ∙ sym (ap (is_matched m) wf.is) ∙ can.finder_open in
        both_ways (is_matched m1 wf.place) (sym (ap (λ (z : Configuration). is_matched z wf.place) first.is) ∙ matched) free

    -- the calls of the parts fit too
    fit : both_hold fits (Some ws.call) (Some wf.call) ≡ true
    fit =
        let d = x.moved_second ws.call.rank in
        let e = x.moved_first wf.call.rank in
        sym (ap (λ (z : Option Call). both_hold fits z (call_at p f)) (at_second p x whole one two cut s ws)
        ∙ ap (both_hold fits (Some (moved_call d ws.call))) (at_first p x whole one two cut f wf)
        ∙ ap (λ (z : Option Message). fits_between ws.call.rank z wf.call.rank (pattern_of (moved_call e wf.call).kind)) (message_moved d ws.call.kind)
        ∙ ap (fits_between ws.call.rank (message_of ws.call.kind) wf.call.rank) (pattern_moved e wf.call.kind))
        ∙ can.fit

  sealed_none_early : IsSealed x.first x.second → NoStuckRun x.first → NoneEarly p x whole one two cut
  sealed_none_early sealed never m m1 m2 reached first both s f ws wf can =
      elim (sealed wf.place ws.place wf.call ws.call wf.there ws.there (fit m m1 m2 reached first both s f ws wf can)) [
        | inl names ↦
            none_early p x whole one two cut m m1 m2 reached first both s f ws wf can never (opening_below p x cut one)
            (inl (named_is_only p x cut s f wf can.fit names))
        | inr before ↦ none_before m m1 m2 reached first both s f ws wf can before
      ]

pub one_sealed_phase_more : OneSealedPhaseMore
one_sealed_phase_more q d is_q is_d front never even sealed never_behind =
    let j = front_is_joined q d is_q is_d front in
    let x = cut_between d (behind q d) in
    let cut = is_cut q d (behind q d) is_q.rank_order is_d j.1 j.0 in
    let clean = clean_by q x is_q is_d j.1 cut (λ rank communicator finder. even rank communicator) (sealed_none_early q x is_q is_d j.1 cut sealed never) in
    whole_is_never_stuck q x is_d j.1 cut clean never never_behind
