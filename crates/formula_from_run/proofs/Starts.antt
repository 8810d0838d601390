-- No issue waits.
use Rattle.std.proofs.Common.{◌≡◌, ℕ, zero, suc, ◌+◌, ◌<◌, ◌≤◌, Bool, true, false, cond, not, ◌==◌, nat_lt, if◌then◌else◌, List, [], ◌∷◌, Option, Some, None, length, slice_get, slice_index, get_or, refl, sym, ap, ◌∙◌, subst, arith}
use Rattle.std.specs.List.{count_by}
use Rattle.std.proofs.lemmas.Bool.{eqb-true, eq-eqb}
use Rattle.std.proofs.lemmas.Bool.Decides.{nat_tests}
use Rattle.std.proofs.lemmas.List.{length-set}
use Rattle.std.proofs.lemmas.List.FromFn.{length-map-range_with_len}
use Rattle.std.proofs.lemmas.List.Sums.{sum_by-cons}
use Rattle.std.proofs.lemmas.Option.{slice_get-get_or}
use Rattle.calltext.specs.declared.call.Mode.TheVariants.{Standard, Synchronous, Buffered}
use Rattle.calltext.specs.declared.call.Policy.{Policy}
use Rattle.calltext.specs.declared.call.Policy.TheVariants.{Any, Never, Always}
use Rattle.callorder.specs.declared.calls.Call.{Call}
use Rattle.callorder.specs.declared.calls.Kind.{Kind}
use Rattle.callorder.specs.declared.calls.Kind.TheVariants.{Send, Receive, MatchedProbe, Probe, MatchedReceive, Wait}
use Rattle.callorder.specs.ProgramRules.{IsProgram}
use Rattle.callorder.specs.Programs.{MpiProgram, call_at, is_of_rank, are_of_one_rank, have_one_rank}
use Rattle.callorder.specs.Calls.{both_hold, holds_of}
use Rattle.semantics.specs.declared.state.Step.{Step}
use Rattle.semantics.specs.declared.state.Step.TheVariants.{Issue, Match, See}
use Rattle.semantics.specs.Machine.{Configuration, first_call, opening, after, after_all, IsRun, is_issued, is_issued_call, is_returned, has_returned_before, may_be, can_issue, can_issue_next, can_issue_call}
use Rattle.semantics.proofs.MachineLaws.{next_counts_issues}
use Rattle.formula.specs.declared.facts.Fact.TheVariants.{Issued as issued}
use Rattle.formula.specs.declared.facts.Statement.TheVariants.{Holds as is_true}
use Rattle.formula.specs.Families.{previous_of_rank, issue_does_not_wait}
use Rattle.formula_from_run.specs.Worlds.{HasNoEnabledStep, clause_holds, clauses_hold, world_of}
use Rattle.formula_from_run.specs.Laws.{NoIssueWaits}
use Rattle.formula.proofs.Elements.{and_both, or_left, or_right}
use Rattle.formula_from_run.proofs.Lists.{or_last, all_made_range}
use Rattle.formula_from_run.proofs.Waits.{returned_holds}

-- some choice of buffering is allowed
choice : (policy : Policy) (k : Kind ℕ) → (b : Bool) × (may_be policy k b ≡ true)
choice Any (Send Standard blocking message) = (true, refl)
choice Never (Send Standard blocking message) = (false, refl)
choice Always (Send Standard blocking message) = (true, refl)
choice Any (Send Synchronous blocking message) = (false, refl)
choice Never (Send Synchronous blocking message) = (false, refl)
choice Always (Send Synchronous blocking message) = (false, refl)
choice Any (Send Buffered blocking message) = (false, refl)
choice Never (Send Buffered blocking message) = (false, refl)
choice Always (Send Buffered blocking message) = (false, refl)
choice Any (Receive blocking pattern) = (false, refl)
choice Never (Receive blocking pattern) = (false, refl)
choice Always (Receive blocking pattern) = (false, refl)
choice Any (MatchedProbe pattern receive) = (false, refl)
choice Any (Probe pattern) = (false, refl)
choice Never (MatchedProbe pattern receive) = (false, refl)
choice Never (Probe pattern) = (false, refl)
choice Always (MatchedProbe pattern receive) = (false, refl)
choice Always (Probe pattern) = (false, refl)
choice Any (MatchedReceive blocking) = (false, refl)
choice Never (MatchedReceive blocking) = (false, refl)
choice Always (MatchedReceive blocking) = (false, refl)
choice Any (Wait operation) = (false, refl)
choice Never (Wait operation) = (false, refl)
choice Always (Wait operation) = (false, refl)

-- a call that is next can't wait where nothing is enabled
next_goes : (p : MpiProgram) (m : Configuration) (c : ℕ) (call : Call) → HasNoEnabledStep p m → call_at p c ≡ Some call → slice_get m.next call.rank ≡ Some c → has_returned_before p m call.rank c ≡ true → ⊥
next_goes p m c call ended there next back =
    let b = choice p.policy call.kind in
    let one : holds_of (can_issue_call p m call.rank b.0 c) (Some call) ≡ true = and_both _ _ (and_both _ _ (eq-eqb call.rank call.rank refl) back) b.1 in
    let two : holds_of (can_issue_call p m call.rank b.0 c) (call_at p c) ≡ true = rw there one in
    let three : can_issue p m call.rank b.0 ≡ true = subst (λ (z : Option ℕ). holds_of (can_issue_next p m call.rank b.0) z ≡ true) (sym next) two in
    ended (Issue call.rank b.0) three

-- ---- the next call of a rank

next_size : (p : MpiProgram) (m : Configuration) (steps : List Step) → length (after_all m steps).next ≡ length m.next
next_size p m [] = refl
next_size p m (Issue r b ∷ xs) = next_size p (after m (Issue r b)) xs ∙ length-set m.next r (slice_index m.next r + 1)
next_size p m (Match s t ∷ xs) = next_size p (after m (Match s t)) xs
next_size p m (See s t ∷ xs) = next_size p (after m (See s t)) xs

-- where a call isn't issued, and its rank has come to it, the rank goes on, so the run hasn't ended
issued_at_end : (p : MpiProgram) (steps : List Step) (c : ℕ) (call : Call) → IsProgram p → IsRun p (opening p) steps → HasNoEnabledStep p (after_all (opening p) steps) → call_at p c ≡ Some call → c ≤ slice_index (after_all (opening p) steps).next call.rank → has_returned_before p (after_all (opening p) steps) call.rank c ≡ true → (b : Bool) → is_issued p (after_all (opening p) steps) c ≡ b → is_issued p (after_all (opening p) steps) c ≡ true
issued_at_end p steps c call program run ended there from back true e = e
issued_at_end p steps c call program run ended there from back false e =
    let m = after_all (opening p) steps in
    let open_yet : nat_lt c (slice_index m.next call.rank) ≡ false = subst (λ (z : Option Call). holds_of (is_issued_call m c) z ≡ false) there e in
    let same : get_or m.next call.rank 0 ≡ c = grind (arith, nat_tests) in
    let within : call.rank < length m.next = omega (arith, next_size p (opening p) steps, length-map-range_with_len (first_call p) 0 p.ranks, (program.in_range c call there).own) in
    let next : slice_get m.next call.rank ≡ Some c = slice_get-get_or m.next call.rank 0 within ∙ ap Some same in
    absurd (next_goes p m c call ended there next back)

pub there_within : (calls : List Call) (c : ℕ) → c < length calls → (call : Call) × (slice_get calls c ≡ Some call)
there_within [] c below = absurd (omega arith)
there_within (x ∷ xs) zero below = (x, refl)
there_within (x ∷ xs) (suc c) below = there_within xs c (omega arith)

-- ---- a call with one before it

pub one_rank : (x y : Option Call) (call : Call) → y ≡ Some call → both_hold have_one_rank x y ≡ true → (other : Call) × (x ≡ Some other) × (other.rank ≡ call.rank)
one_rank None y call e same = absurd (cc)
one_rank (Some x) y call e same =
    let is : is_of_rank (Some call) x.rank ≡ true = subst (λ (z : Option Call). is_of_rank z x.rank ≡ true) e same in
    (x, refl, sym (eqb-true call.rank x.rank is))

back_if_returned : (p : MpiProgram) (m : Configuration) (r c : ℕ) → is_returned p m c ≡ true → has_returned_before p m r (suc c) ≡ true
back_if_returned p m r c h = or_right (not (is_of_rank (call_at p c) r)) _ h

after_one : (p : MpiProgram) (steps : List Step) (c : ℕ) → IsProgram p → IsRun p (opening p) steps → HasNoEnabledStep p (after_all (opening p) steps) → suc c < length p.calls → are_of_one_rank p c (suc c) ≡ true → clauses_hold (world_of p steps) (issue_does_not_wait p (suc c) (Some c)) ≡ true
after_one p steps c program run ended within same =
    let m = after_all (opening p) steps in
    let call = there_within p.calls (suc c) within in
    let other = one_rank (call_at p c) (call_at p (suc c)) call.0 call.1 same in
    returned_holds p steps c other.0 (is_true (issued (suc c))) program run other.1
    (λ h r.
    let below : nat_lt c (slice_index m.next other.0.rank) ≡ true = subst (λ (z : Option Call). holds_of (is_issued_call m c) z ≡ true) other.1 h in
    let here : nat_lt c (slice_index m.next call.0.rank) ≡ true = subst (λ (z : ℕ). nat_lt c (slice_index m.next z) ≡ true) other.2 below in
    issued_at_end p steps (suc c) call.0 program run ended call.1 (grind (arith, nat_tests)) (back_if_returned p m call.0.rank c r) (is_issued p m (suc c)) refl)

-- ---- a first call

pub first_from : (r : ℕ) (calls : List Call) (c : ℕ) → c ≤ length calls → ((d : ℕ) (x : Call) → d < c → slice_get calls d ≡ Some x → x.rank < r) → c ≤ count_by (λ call. nat_lt call.rank r) calls
first_from r calls zero le lower = omega arith
first_from r [] (suc c) le lower = absurd (omega arith)
first_from r (x ∷ xs) (suc c) le lower =
    let first : x.rank < r = lower 0 x (omega arith) refl in
    let on : nat_lt x.rank r ≡ true = grind (arith, nat_tests) in
    let rest = first_from r xs c (omega arith) (λ d y below there. lower (suc d) y (omega (arith, below)) there) in
    rw (sum_by-cons (λ (y : Call). cond (nat_lt y.rank r) 1 0) x xs, on) (more _ rest)
  where
    more : (n : ℕ) → c ≤ n → suc c ≤ cond true 1 0 + n
    more n h = omega (arith, h)

reached : (p : MpiProgram) (steps : List Step) (c : ℕ) (call : Call) → IsProgram p → IsRun p (opening p) steps → call_at p c ≡ Some call → c ≤ length p.calls → ((d : ℕ) (x : Call) → d < c → slice_get p.calls d ≡ Some x → x.rank < call.rank) → c ≤ slice_index (after_all (opening p) steps).next call.rank
reached p steps c call program run there within lower =
    omega (arith, next_counts_issues p steps call.rank run (program.in_range c call there).own, first_from call.rank p.calls c within lower)

not_of_rank : (p : MpiProgram) (m : Configuration) (r c : ℕ) (x : Call) → call_at p c ≡ Some x → x.rank < r → has_returned_before p m r (suc c) ≡ true
not_of_rank p m r c x there below =
    let off : (x.rank == r) ≡ false = grind (arith, nat_tests) in
    let other : is_of_rank (call_at p c) r ≡ false = ap (λ (z : Option Call). is_of_rank z r) there ∙ off in
    or_left (not (is_of_rank (call_at p c) r)) _ (rw other refl)

pub first_one : (p : MpiProgram) (steps : List Step) (c : ℕ) → IsProgram p → IsRun p (opening p) steps → HasNoEnabledStep p (after_all (opening p) steps) → suc c < length p.calls → are_of_one_rank p c (suc c) ≡ false → is_issued p (after_all (opening p) steps) (suc c) ≡ true
first_one p steps c program run ended within apart =
    let m = after_all (opening p) steps in
    let call = there_within p.calls (suc c) within in
    let before = there_within p.calls c (omega (arith, within)) in
    let le = program.rank_order c (suc c) before.0 call.0 (omega arith) before.1 call.1 in
    let differ : (call.0.rank == before.0.rank) ≡ false = sym (ap (λ (z : Option Call). both_hold have_one_rank z (call_at p (suc c))) before.1 ∙ ap (λ (z : Option Call). is_of_rank z before.0.rank) call.1) ∙ apart in
    let less : before.0.rank < call.0.rank = grind (arith, nat_tests) in
    let from = reached p steps (suc c) call.0 program run call.1 (omega (arith, within)) (λ d x below there. let up = program.rank_order d c x before.0 (omega (arith, below)) there before.1 in omega (arith, up, less)) in
    issued_at_end p steps (suc c) call.0 program run ended call.1 from (not_of_rank p m call.0.rank c before.0 before.1 less) (is_issued p m (suc c)) refl

pub very_first : (p : MpiProgram) (steps : List Step) → IsProgram p → IsRun p (opening p) steps → HasNoEnabledStep p (after_all (opening p) steps) → 0 < length p.calls → is_issued p (after_all (opening p) steps) 0 ≡ true
very_first p steps program run ended within =
    let call = there_within p.calls 0 within in
    issued_at_end p steps 0 call.0 program run ended call.1 (omega arith) refl (is_issued p (after_all (opening p) steps) 0) refl

-- ---- the family

previous_holds : (p : MpiProgram) (steps : List Step) (c : ℕ) (b : Bool) → IsProgram p → IsRun p (opening p) steps → HasNoEnabledStep p (after_all (opening p) steps) → suc c < length p.calls → are_of_one_rank p c (suc c) ≡ b → clauses_hold (world_of p steps) (issue_does_not_wait p (suc c) (if b then Some c else None)) ≡ true
previous_holds p steps c true program run ended within same = after_one p steps c program run ended within same
previous_holds p steps c false program run ended within apart = and_both _ _ (or_last _ (first_one p steps c program run ended within apart)) refl

one_holds : (p : MpiProgram) (steps : List Step) (c : ℕ) → IsProgram p → IsRun p (opening p) steps → HasNoEnabledStep p (after_all (opening p) steps) → c < length p.calls → clauses_hold (world_of p steps) (issue_does_not_wait p c (previous_of_rank p c)) ≡ true
one_holds p steps zero program run ended within = and_both _ _ (or_last _ (very_first p steps program run ended within)) refl
one_holds p steps (suc c) program run ended within = previous_holds p steps c (are_of_one_rank p c (suc c)) program run ended within refl

pub no_issue_waits : NoIssueWaits
no_issue_waits p steps program run ended =
    all_made_range (clause_holds (world_of p steps)) (λ c. issue_does_not_wait p c (previous_of_rank p c)) 0 (length p.calls) (length p.calls) (omega arith) (λ c _ below. one_holds p steps c program run ended below)
