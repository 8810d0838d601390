-- A configuration that has no more than another one, and what a rank can do in it.
use Rattle.std.proofs.Common.{◌≡◌, ℕ, ◌+◌, ◌<◌, ◌≤◌, inl, inr, Bool, true, false, not, ◌&&◌, ◌==◌, List, [], ◌∷◌, Option, Some, length, slice_get, slice_set, slice_index, sym, ap, ◌∙◌, subst, arith, get_or-set_same, get_or-set_other}
use Rattle.std.proofs.lemmas.Bool.{cases_eq, cases_lt, eq-eqb}
use Rattle.std.proofs.lemmas.Option.{slice_get_within, slice_get-get_or}
use Rattle.calltext.proofs.Conjunctions.{and_true, and_both}
use Rattle.callorder.specs.declared.calls.Call.{Call}
use Rattle.callorder.specs.Programs.{MpiProgram, call_at, is_of_rank}
use Rattle.callorder.specs.Calls.{holds_of}
use Rattle.semantics.specs.declared.state.Step.{Step}
use Rattle.semantics.specs.declared.state.Step.TheVariants.{Issue, Match, See}
use Rattle.semantics.specs.Machine.{Configuration, opening, after, after_all, IsEnabled, IsRun, IsStuckRun, may_be, can_issue, can_issue_next, can_issue_call, has_next, is_rank_finished, has_returned_before}
use Rattle.semantics.proofs.Lengths.{Issues, issues}
use Rattle.run_laws.specs.Laws.{IsInRankOrder}
use Rattle.always.specs.Always.{HasEnded, IsEndedRun, SticksInEveryRun}
use Rattle.races.proofs.Steps.{not_true, is_or_not, next_is, allowed, returned_first}
use Rattle.races.proofs.Kept.{Kept}
use Rattle.races.proofs.Passing.{kept_opening, part_all}

-- Each rank has gone no farther in the first configuration, and a call that has returned in it has
-- in the second one.
pub record Behind (p : MpiProgram) (m e : Configuration) : Type 0 where
  pub next : (rank : ℕ) → slice_index m.next rank ≤ slice_index e.next rank
  pub returned : (rank c : ℕ) → has_returned_before p m rank c ≡ true → has_returned_before p e rank c ≡ true

-- ---- an issue

-- what can be issued here is issued where nothing is enabled
issued_there : (p : MpiProgram) (m e : Configuration) (r : ℕ) (b : Bool) → Kept p m → Kept p e → HasEnded p e → Behind p m e → can_issue p m r b ≡ true → (w : Issues p m r) → w.place < slice_index e.next r
issued_there p m e r b kept kept_e ended behind can w =
    elim (cases_lt w.place (slice_index e.next r)) [
      | inl below ↦ below
      | inr not_below ↦
          let within : r < length m.next = slice_get_within m.next r w.place w.next in
          let within_e : r < length e.next = omega (arith, within, kept.size.next, kept_e.size.next) in
          let same : slice_index e.next r ≡ w.place = omega (arith, not_below, behind.next r, next_is p m r w) in
          let there : slice_get e.next r ≡ Some w.place = slice_get-get_or e.next r 0 within_e ∙ ap Some same in
          let back : has_returned_before p e r w.place ≡ true = behind.returned r w.place (returned_first p m r b can w) in
          let all : holds_of (can_issue_call p e r b w.place) (Some w.call) ≡ true =
          and_both (w.call.rank == r && has_returned_before p e r w.place) (may_be p.policy w.call.kind b) (and_both (w.call.rank == r) (has_returned_before p e r w.place) (eq-eqb w.call.rank r w.own) back) (allowed p m r b can w) in
          absurd (ended (Issue r b) (subst (λ (z : Option ℕ). holds_of (can_issue_next p e r b) z ≡ true) (sym there) (subst (λ (z : Option Call). holds_of (can_issue_call p e r b w.place) z ≡ true) (sym w.there) all)))
    ]

-- behind an issue each rank has gone no farther than where nothing is enabled
pub next_there : (p : MpiProgram) (m e : Configuration) (r : ℕ) (b : Bool) → Kept p m → Kept p e → HasEnded p e → Behind p m e → can_issue p m r b ≡ true → (k : ℕ) → slice_index (after m (Issue r b)).next k ≤ slice_index e.next k
next_there p m e r b kept kept_e ended behind can k =
    let w = issues p m r b can in
    elim (cases_eq k r) [
      | inl is ↦
          let within : r < length m.next = slice_get_within m.next r w.place w.next in
          let moved : slice_index (slice_set m.next r (slice_index m.next r + 1)) r ≡ slice_index m.next r + 1 = get_or-set_same m.next r (slice_index m.next r + 1) 0 within in
          subst (λ (z : ℕ). slice_index (slice_set m.next r (slice_index m.next r + 1)) z ≤ slice_index e.next z) (sym is) (omega (arith, moved, issued_there p m e r b kept kept_e ended behind can w, next_is p m r w))
      | inr differ ↦ omega (arith, get_or-set_other m.next r k (slice_index m.next r + 1) 0 differ, behind.next k)
    ]

-- ---- what isn't finished

-- no run issues more calls of a rank than one that has issued all of them
no_more_step : (p : MpiProgram) (m n : Configuration) (x : Step) (k : ℕ) → IsEnabled p m x → has_next p n k ≡ false → slice_index m.next k ≤ slice_index n.next k → slice_index (after m x).next k ≤ slice_index n.next k
no_more_step p m n (Match s t) k enabled none upto = upto
no_more_step p m n (See s f) k enabled none upto = upto
no_more_step p m n (Issue r b) k enabled none upto =
    let w = issues p m r b enabled in
    let within : r < length m.next = slice_get_within m.next r w.place w.next in
    elim (cases_eq k r) [
      | inr differ ↦ omega (arith, get_or-set_other m.next r k (slice_index m.next r + 1) 0 differ, upto)
      | inl is ↦
          let moved : slice_index (slice_set m.next r (slice_index m.next r + 1)) r ≡ slice_index m.next r + 1 = get_or-set_same m.next r (slice_index m.next r + 1) 0 within in
          let upto_r : slice_index m.next r ≤ slice_index n.next r = subst (λ (z : ℕ). slice_index m.next z ≤ slice_index n.next z) is upto in
          let below : slice_index m.next r < slice_index n.next r =
          elim (cases_lt (slice_index m.next r) (slice_index n.next r)) [
            | inl inside ↦ inside
            | inr not_inside ↦
                let same : w.place ≡ slice_index n.next r = omega (arith, not_inside, upto_r, next_is p m r w) in
                let own : is_of_rank (call_at p w.place) r ≡ true = ap (λ (z : Option Call). is_of_rank z r) w.there ∙ eq-eqb w.call.rank r w.own in
                let some : has_next p n r ≡ true = subst (λ (z : ℕ). is_of_rank (call_at p z) r ≡ true) same own in
                let none_r : has_next p n r ≡ false = subst (λ (z : ℕ). has_next p n z ≡ false) is none in
                absurd (cc)
          ] in
          subst (λ (z : ℕ). slice_index (slice_set m.next r (slice_index m.next r + 1)) z ≤ slice_index n.next z) (sym is) (omega (arith, moved, below))
    ]

no_more : (p : MpiProgram) (m n : Configuration) (steps : List Step) (k : ℕ) → IsRun p m steps → has_next p n k ≡ false → slice_index m.next k ≤ slice_index n.next k → slice_index (after_all m steps).next k ≤ slice_index n.next k
no_more p m n [] k run none upto = upto
no_more p m n (x ∷ xs) k run none upto = no_more p (after m x) n xs k run.1 none (no_more_step p m n x k run.0 none upto)

finished_too : (p : MpiProgram) (m e : Configuration) (r : ℕ) → Behind p m e → slice_index e.next r ≤ slice_index m.next r → is_rank_finished p m r ≡ true → is_rank_finished p e r ≡ true
finished_too p m e r behind upto finished =
    let same : slice_index m.next r ≡ slice_index e.next r = omega (arith, behind.next r, upto) in
    let h = and_true (not (has_next p m r)) (has_returned_before p m r (slice_index m.next r)) finished in
    let none : not (is_of_rank (call_at p (slice_index e.next r)) r) ≡ true = subst (λ (z : ℕ). not (is_of_rank (call_at p z) r) ≡ true) same h.0 in
    let back : has_returned_before p e r (slice_index e.next r) ≡ true = subst (λ (z : ℕ). has_returned_before p e r z ≡ true) same (behind.returned r (slice_index m.next r) h.1) in
    and_both (not (has_next p e r)) (has_returned_before p e r (slice_index e.next r)) none back

-- a rank that a run doesn't finish isn't finished by another one that has no more
pub unfinished_too : (p : MpiProgram) (steps other : List Step) (rank : ℕ) → IsInRankOrder p → IsRun p (opening p) steps → IsRun p (opening p) other → Behind p (after_all (opening p) other) (after_all (opening p) steps) → is_rank_finished p (after_all (opening p) steps) rank ≡ false → is_rank_finished p (after_all (opening p) other) rank ≡ false
unfinished_too p steps other rank order run also behind off =
    let e = after_all (opening p) steps in
    let m = after_all (opening p) other in
    elim (is_or_not (is_rank_finished p m rank)) [
      | inr not_yet ↦ not_yet
      | inl on ↦
          let none : has_next p m rank ≡ false = not_true (has_next p m rank) (and_true (not (has_next p m rank)) (has_returned_before p m rank (slice_index m.next rank)) on).0 in
          let upto = no_more p (opening p) m steps rank run none ((part_all p (opening p) other (kept_opening p order) also).next rank) in
          let too : is_rank_finished p e rank ≡ true = finished_too p m e rank behind upto on in
          absurd (cc)
    ]

-- where a run is stuck, and no run has more, each run gets stuck
pub sticks_always : (p : MpiProgram) (steps : List Step) → IsInRankOrder p → IsStuckRun p steps → ((other : List Step) → IsRun p (opening p) other → Behind p (after_all (opening p) other) (after_all (opening p) steps)) → SticksInEveryRun p steps
sticks_always p steps order stuck behind =
    let rank = stuck.stuck.rank in
    record {
      stuck = stuck;
      ranks = λ k off other run. unfinished_too p steps other k order stuck.run run (behind other run) off;
      never_finishes = λ other finished. absurd (
          let off = unfinished_too p steps other rank order stuck.run finished.run (behind other finished.run) stuck.stuck.unfinished in
          let on = finished.finished rank stuck.stuck.in_range in
          cc);
      always_sticks = λ other ended. record {
        run = ended.run;
        stuck = record { rank = rank; in_range = stuck.stuck.in_range; unfinished = unfinished_too p steps other rank order stuck.run ended.run (behind other ended.run) stuck.stuck.unfinished; none_enabled = ended.ended };
      };
    }

pub ended_of : (p : MpiProgram) (steps : List Step) → IsStuckRun p steps → IsEndedRun p steps
ended_of p steps stuck = record { run = stuck.run; ended = stuck.stuck.none_enabled }
