-- The calls of a rank are issued in order.
use Rattle.std.proofs.Common.{◌≡◌, ℕ, zero, suc, ◌<◌, inl, inr, Bool, true, false, ◌==◌, nat_lt, if◌then◌else◌, List, Option, Some, None, length, take, slice_get, slice_index, refl, arith}
use Rattle.std.proofs.lemmas.Bool.{eqb-true}
use Rattle.std.proofs.lemmas.Bool.Decides.{nat_tests}
use Rattle.std.proofs.lemmas.Option.{slice_get_within}
use Rattle.callorder.specs.declared.calls.Call.{Call}
use Rattle.callorder.specs.Programs.{MpiProgram, call_at, are_of_one_rank, have_one_rank}
use Rattle.callorder.specs.Calls.{both_hold, holds_of}
use Rattle.semantics.specs.declared.state.Step.{Step}
use Rattle.semantics.specs.declared.state.Step.TheVariants.{Issue, Match, See}
use Rattle.semantics.specs.Machine.{Configuration, opening, after_all, IsRun, is_issued_call}
use Rattle.run_laws.specs.Places.{IsIssuedAt}
use Rattle.run_laws.specs.Laws.{IsInRankOrder}
use Rattle.run_laws.proofs.Issued.{earlier_calls_issue_first}
use Rattle.candidates.specs.Pairs.{places}
use Rattle.formula.specs.declared.facts.RunEvent.TheVariants.{Issue as issue_of}
use Rattle.formula.specs.Families.{previous_of_rank, issued_after}
use Rattle.formula_from_run.specs.Worlds.{is_event, clause_holds, clauses_hold, clock_from, world_of}
use Rattle.formula_from_run.specs.Laws.{CallsAreIssuedInOrder}
use Rattle.formula.proofs.Elements.{and_both}
use Rattle.formula_from_run.proofs.Lists.{or_not, or_last, all_made}
use Rattle.formula_from_run.proofs.Clocks.{HappensAt, happens, happens_or_never, clock_most, clock_before}
use Rattle.formula_from_run.proofs.Events.{place_of_issue}
use Rattle.formula_from_run.proofs.Matches.{is_that-some}

-- ---- calls of one rank

pub one_rank_issued : (m : Configuration) (q c : ℕ) (x y : Option Call) → q < c → both_hold have_one_rank x y ≡ true → holds_of (is_issued_call m c) y ≡ true → holds_of (is_issued_call m q) x ≡ true
one_rank_issued m q c None y below same issued = absurd (cc)
one_rank_issued m q c (Some x) None below same issued = absurd (cc)
one_rank_issued m q c (Some x) (Some y) below same issued = at m.next x.rank y.rank below same issued
  where
    at : (next : List ℕ) (a b : ℕ) → q < c → (b == a) ≡ true → nat_lt c (slice_index next b) ≡ true → nat_lt q (slice_index next a) ≡ true
    at next a b below same issued =
        let r : b ≡ a = eqb-true b a same in
        let i : nat_lt c (slice_index next a) ≡ true = rw r at issued in
        grind (arith, nat_tests)

one_rank_within : (p : MpiProgram) (q c : ℕ) (x y : Option Call) → call_at p q ≡ x → call_at p c ≡ y → both_hold have_one_rank x y ≡ true → (q < length p.calls) × (c < length p.calls)
one_rank_within p q c None y e f same = absurd (cc)
one_rank_within p q c (Some x) None e f same = absurd (cc)
one_rank_within p q c (Some x) (Some y) e f same = (slice_get_within p.calls q x e, slice_get_within p.calls c y f)

-- ---- the issue of an earlier call is earlier

issued_at : (m : Configuration) (steps : List Step) (c i : ℕ) (x : Step) → slice_get steps i ≡ Some x → is_event (after_all m (take i steps)) x (issue_of c) ≡ true → IsIssuedAt m steps c i
issued_at m steps c i (Match s t) there is = absurd (cc)
issued_at m steps c i (See s t) there is = absurd (cc)
issued_at m steps c i (Issue r b) there is =
    record { rank = r; buffered = b; there = there; next = is_that-some (slice_get (after_all m (take i steps)).next r) c is }

-- the issue that happens at a place
pub issue_happens : (m : Configuration) (steps : List Step) (c i : ℕ) → HappensAt m steps (issue_of c) i → IsIssuedAt m steps c i
issue_happens m steps c i w = issued_at m steps c i w.step w.there w.is

clock_in_order : (p : MpiProgram) (steps : List Step) (q c : ℕ) → IsInRankOrder p → IsRun p (opening p) steps → q < c → are_of_one_rank p q c ≡ true → clock_from p (opening p) steps (issue_of q) < clock_from p (opening p) steps (issue_of c)
clock_in_order p steps q c order run below same =
    elim (happens_or_never p (opening p) steps (issue_of c)) [
      | inl soon ↦
          let at = issue_happens (opening p) steps c _ (happens p (opening p) steps (issue_of c) soon) in
          clock_before p steps q _ (earlier_calls_issue_first p steps _ c q order run at below same)
      | inr never ↦
          let within = one_rank_within p q c (call_at p q) (call_at p c) refl refl same in
          omega (arith, never, clock_most p (opening p) steps (issue_of q), below, place_of_issue p q within.0, place_of_issue p c within.1)
    ]

earlier_holds : (p : MpiProgram) (steps : List Step) (c q : ℕ) → IsInRankOrder p → IsRun p (opening p) steps → q < c → are_of_one_rank p q c ≡ true → clauses_hold (world_of p steps) (issued_after c (Some q)) ≡ true
earlier_holds p steps c q order run below same =
    let first = clock_in_order p steps q c order run below same in
    and_both _ _ (or_not _ _ (λ h. or_last _ (one_rank_issued (after_all (opening p) steps) q c (call_at p q) (call_at p c) below same h)))
    (and_both _ _ (or_last _ (grind (arith, nat_tests))) refl)

previous_holds : (p : MpiProgram) (steps : List Step) (c : ℕ) (b : Bool) → IsInRankOrder p → IsRun p (opening p) steps → are_of_one_rank p c (suc c) ≡ b → clauses_hold (world_of p steps) (issued_after (suc c) (if b then Some c else None)) ≡ true
previous_holds p steps c true order run same = earlier_holds p steps (suc c) c order run (omega arith) same
previous_holds p steps c false order run same = refl

issued_after_holds : (p : MpiProgram) (steps : List Step) (c : ℕ) → IsInRankOrder p → IsRun p (opening p) steps → clauses_hold (world_of p steps) (issued_after c (previous_of_rank p c)) ≡ true
issued_after_holds p steps zero order run = refl
issued_after_holds p steps (suc c) order run = previous_holds p steps c (are_of_one_rank p c (suc c)) order run refl

pub calls_are_issued_in_order : CallsAreIssuedInOrder
calls_are_issued_in_order p steps program run =
    all_made (clause_holds (world_of p steps)) (λ c. issued_after c (previous_of_rank p c)) (places p) (λ c. issued_after_holds p steps c program.rank_order run)
