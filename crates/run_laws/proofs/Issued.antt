-- Which step of a run issues a call, that no second one does, and what holds where it is issued.
use Rattle.std.proofs.Common.{◌≡◌, ℕ, zero, suc, ◌+◌, ◌<◌, ◌≤◌, inl, inr, Bool, true, false, cond, not, ◌||◌, ◌==◌, nat_lt, List, [], ◌∷◌, Option, Some, None, length, take, slice_get, slice_set, slice_index, get_or, refl, sym, ap, ◌∙◌, subst, add-one, arith, get_or-set_other, get_or-set_same}
use Rattle.std.specs.List.{count_by}
use Rattle.std.proofs.lemmas.List.{get_or_past, take-take}
use Rattle.std.proofs.lemmas.List.Elements.{All-get_or}
use Rattle.std.proofs.lemmas.List.FromFn.{get_or-map-range_with_len, length-map-range_with_len}
use Rattle.std.proofs.lemmas.List.Sums.{sum_by-cons, count_by_more_yes, sum_by-take-le}
use Rattle.std.proofs.lemmas.Bool.{cases_eq, cases_lt, eqb-true, eq-eqb}
use Rattle.std.proofs.lemmas.Bool.Decides.{nat_tests}
use Rattle.std.proofs.lemmas.Option.{slice_get_within, slice_get-get_or, get_or_from_slice_get}
use Rattle.calltext.proofs.Conjunctions.{and_true}
use Rattle.callorder.specs.declared.calls.Call.{Call}
use Rattle.callorder.specs.declared.calls.Kind.{Kind}
use Rattle.callorder.specs.declared.calls.Kind.TheVariants.{Send, Receive, MatchedProbe, Probe, MatchedReceive, Wait}
use Rattle.callorder.specs.declared.calls.Pattern.{Pattern}
use Rattle.callorder.specs.Calls.{fits_between, message_of, pattern_of, is_probe_kind, both_hold, holds_of, fits}
use Rattle.callorder.specs.Programs.{MpiProgram, call_at, is_of_rank, kind_holds, have_one_rank}
use Rattle.semantics.specs.declared.state.Step.{Step}
use Rattle.semantics.specs.declared.state.Step.TheVariants.{Issue, Match, See}
use Rattle.semantics.specs.Machine.{Configuration, first_call, opening, after, after_all, IsRun, is_issued, is_issued_call, is_matched, is_done, is_done_kind, is_returned_kind, has_returned_before, may_be, can_issue, can_issue_next, can_issue_call}
use Rattle.semantics.proofs.Lengths.{issues, runs_name_the_program}
use Rattle.semantics.proofs.MachineLaws.{next_counts_issues}
use Rattle.semantics.specs.Laws.{NamesOfProgram, is_issue_of}
use Rattle.semantics.proofs.Runs.{IsRun-at}
use Rattle.run_laws.proofs.Matched.{IsRun-take, in_prefix, one_place, taker_before}
use Rattle.run_laws.specs.Places.{IsIssuedAt, IsIssuedBefore}
use Rattle.run_laws.specs.Laws.{IsInRankOrder, IssuedBeforeMatched, EarlierCallsIssueFirst, CallBeforeHasReturned, BlockingTakersMatchFirst, IssuedOnce, is_blocking_taker}

-- ---- in the opening configuration no call is issued

-- where all calls from a place on are of this rank or a higher one, no more than that place are of
-- a lower rank
pub lower_before : (r : ℕ) (calls : List Call) (c : ℕ) → ((d : ℕ) (x : Call) → c ≤ d → slice_get calls d ≡ Some x → r ≤ x.rank) → count_by (λ call. nat_lt call.rank r) calls ≤ c
lower_before r [] c from = omega arith
lower_before r (call ∷ calls) zero from =
    let first : r ≤ call.rank = from 0 call (omega arith) refl in
    let off : nat_lt call.rank r ≡ false = grind (arith, nat_tests) in
    let rest = lower_before r calls 0 (λ d x h there. from (suc d) x (omega arith) there) in
    rw (sum_by-cons (λ (y : Call). cond (nat_lt y.rank r) 1 0) call calls, off) (none _ rest)
  where
    none : (n : ℕ) → n ≤ 0 → cond false 1 0 + n ≤ 0
    none n h = omega (arith, h)
lower_before r (call ∷ calls) (suc c) from =
    let rest = lower_before r calls c (λ d x h there. from (suc d) x (omega (arith, h)) there) in
    rw (sum_by-cons (λ (y : Call). cond (nat_lt y.rank r) 1 0) call calls) (count_step (nat_lt call.rank r) _ c rest)
  where
    count_step : (b : Bool) (n c : ℕ) → n ≤ c → cond b 1 0 + n ≤ suc c
    count_step true n c h = omega arith
    count_step false n c h = omega arith

next_of_opening : (p : MpiProgram) (c r : ℕ) → first_call p r ≤ c → nat_lt c (slice_index (opening p).next r) ≡ false
next_of_opening p c r h =
    elim (cases_lt r p.ranks) [
      | inl l ↦
          let e : get_or (opening p).next r 0 ≡ first_call p r = get_or-map-range_with_len (first_call p) 0 p.ranks r r 0 l (omega arith) in
          rw e (grind (arith, nat_tests))
      | inr l ↦
          let e : get_or (opening p).next r 0 ≡ 0 = get_or_past (opening p).next r 0 (omega (arith, length-map-range_with_len (first_call p) 0 p.ranks)) in
          rw e (grind (arith, nat_tests))
    ]

not_issued : (p : MpiProgram) (c : ℕ) → IsInRankOrder p → is_issued p (opening p) c ≡ false
not_issued p c order = not_issued_call (call_at p c) refl
  where
    not_issued_call : (x : Option Call) → call_at p c ≡ x → holds_of (is_issued_call (opening p) c) x ≡ false
    not_issued_call None e = refl
    not_issued_call (Some x) e = next_of_opening p c x.rank (lower_before x.rank p.calls c (λ d y h there. order c d x y h e there))

-- ---- a call that is issued in the end is issued by a step

-- the next call of one rank goes up by one
newly_below : (next : List ℕ) (r q c : ℕ) → r < length next → nat_lt c (get_or next q 0) ≡ false → nat_lt c (get_or (slice_set next r (get_or next r 0 + 1)) q 0) ≡ true → slice_get next r ≡ Some c
newly_below next r q c in_range before now =
    elim (cases_eq q r) [
      | inl e ↦
          let b : nat_lt c (get_or next r 0) ≡ false = subst (λ (z : ℕ). nat_lt c (get_or next z 0) ≡ false) e before in
          let n : nat_lt c (get_or (slice_set next r (get_or next r 0 + 1)) r 0) ≡ true = subst (λ (z : ℕ). nat_lt c (get_or (slice_set next r (get_or next r 0 + 1)) z 0) ≡ true) e now in
          let k : nat_lt c (get_or next r 0 + 1) ≡ true = rw (get_or-set_same next r (get_or next r 0 + 1) 0 in_range) at n in
          let same : get_or next r 0 ≡ c = grind (arith, nat_tests) in
          slice_get-get_or next r 0 in_range ∙ ap Some same
      | inr differ ↦ absurd (let n : nat_lt c (get_or next q 0) ≡ true = rw (get_or-set_other next r q (get_or next r 0 + 1) 0 differ) at now in cc)
    ]

newly_issued_call : (m : Configuration) (r c : ℕ) (b : Bool) (x : Option Call) → r < length m.next → holds_of (is_issued_call m c) x ≡ false → holds_of (is_issued_call (after m (Issue r b)) c) x ≡ true → slice_get m.next r ≡ Some c
newly_issued_call m r c b None in_range before now = absurd (cc)
newly_issued_call m r c b (Some x) in_range before now = newly_below m.next r x.rank c in_range before now

-- some step issues the call
record IssuedSome (m : Configuration) (steps : List Step) (c : ℕ) : Type 0 where
  place : ℕ
  issued : IsIssuedAt m steps c place

later : (m : Configuration) (x : Step) (xs : List Step) (c : ℕ) → IssuedSome (after m x) xs c → IssuedSome m (x ∷ xs) c
later m x xs c w =
    let i = w.issued in
    record {
      place = suc w.place;
      issued = record { rank = i.rank; buffered = i.buffered; there = i.there; next = i.next };
    }

issuing_step_from : (p : MpiProgram) (m : Configuration) (x : Step) (xs : List Step) (c : ℕ) → IsRun p m (x ∷ xs) → is_issued p m c ≡ false → (is_issued p (after m x) c ≡ false → IssuedSome (after m x) xs c) → (b : Bool) → is_issued p (after m x) c ≡ b → IssuedSome m (x ∷ xs) c
issuing_step_from p m x xs c run free rest false e = later m x xs c (rest e)
issuing_step_from p m (Issue r b) xs c run free rest true e =
    let i = issues p m r b run.0 in
    record {
      place = 0;
      issued = record {
        rank = r;
        buffered = b;
        there = refl;
        next = newly_issued_call m r c b (call_at p c) (slice_get_within m.next r i.place i.next) free e;
      };
    }
issuing_step_from p m (Match s t) xs c run free rest true e = absurd (cc)
issuing_step_from p m (See s f) xs c run free rest true e = absurd (cc)

issuing_step : (p : MpiProgram) (m : Configuration) (steps : List Step) (c : ℕ) → IsRun p m steps → is_issued p m c ≡ false → is_issued p (after_all m steps) c ≡ true → IssuedSome m steps c
issuing_step p m [] c run free done = absurd (cc)
issuing_step p m (x ∷ xs) c run free done =
    issuing_step_from p m x xs c run free (λ e. issuing_step p (after m x) xs c run.1 e done) (is_issued p (after m x) c) refl

pub issued_before : (p : MpiProgram) (steps : List Step) (i c : ℕ) → IsInRankOrder p → IsRun p (opening p) steps → is_issued p (after_all (opening p) (take i steps)) c ≡ true → IsIssuedBefore (opening p) steps c i
issued_before p steps i c order run done =
    let found = issuing_step p (opening p) (take i steps) c (IsRun-take p (opening p) steps i run) (not_issued p c order) done in
    let w = found.issued in
    let k = in_prefix steps found.place i (Issue w.rank w.buffered) w.there in
    record {
      earlier = found.place;
      before = k.0;
      issued = record {
        rank = w.rank;
        buffered = w.buffered;
        there = k.1;
        next = rw (take-take found.place i steps (omega (arith, k.0))) at w.next;
      };
    }

pub issued_before_matched : IssuedBeforeMatched
issued_before_matched p steps i s t order run there =
    let can = (IsRun-at p (opening p) steps i (Match s t) run there).1 in
    (issued_before p steps i s order run can.send_issued, issued_before p steps i t order run can.finder_issued)

-- ---- what holds where a call is issued

-- the call that is next is one of the rank
own_call : (p : MpiProgram) (m : Configuration) (r : ℕ) (b : Bool) (c : ℕ) → can_issue p m r b ≡ true → slice_get m.next r ≡ Some c → (call : Call) × (call_at p c ≡ Some call) × (call.rank ≡ r)
own_call p m r b c can next =
    let i = issues p m r b can in
    let e : i.place ≡ c = cc (next, i.next) in
    (i.call, subst (λ (z : ℕ). call_at p z ≡ Some i.call) e i.there, i.own)

of_rank : (x y : Option Call) (call : Call) (r : ℕ) → y ≡ Some call → call.rank ≡ r → both_hold have_one_rank x y ≡ true → is_of_rank x r ≡ true
of_rank None y call r e own same = absurd (cc)
of_rank (Some x) y call r e own same =
    let s : is_of_rank (Some call) x.rank ≡ true = subst (λ (z : Option Call). is_of_rank z x.rank ≡ true) e same in
    let q : call.rank ≡ x.rank = eqb-true call.rank x.rank s in
    eq-eqb x.rank r (cc)

issued_below : (m : Configuration) (d c r : ℕ) (x : Option Call) → slice_get m.next r ≡ Some c → d < c → is_of_rank x r ≡ true → holds_of (is_issued_call m d) x ≡ true
issued_below m d c r None next below own = absurd (cc)
issued_below m d c r (Some x) next below own =
    let e : x.rank ≡ r = eqb-true x.rank r own in
    let n : slice_index m.next r ≡ c = get_or_from_slice_get m.next r c 0 next in
    rw (e, n) (grind (arith, nat_tests))

pub earlier_calls_issue_first : EarlierCallsIssueFirst
earlier_calls_issue_first p steps i c d order run w below same =
    let m = after_all (opening p) (take i steps) in
    let can = IsRun-at p (opening p) steps i (Issue w.rank w.buffered) run w.there in
    let own = own_call p m w.rank w.buffered c can w.next in
    let rank = of_rank (call_at p d) (call_at p c) own.0 w.rank own.1 own.2 same in
    issued_before p steps i d order run (issued_below m d c w.rank (call_at p d) w.next below rank)

pub or_right : (a b : Bool) → a ≡ true → (not a || b) ≡ true → b ≡ true
or_right true b e h = h
or_right false b e h = absurd (cc)

returned_before : (p : MpiProgram) (m : Configuration) (r c : ℕ) (b : Bool) → slice_get m.next r ≡ Some c → can_issue p m r b ≡ true → has_returned_before p m r c ≡ true
returned_before p m r c b e h =
    calls (call_at p c) (subst (λ (z : Option ℕ). holds_of (can_issue_next p m r b) z ≡ true) e h)
  where
    calls : (x : Option Call) → holds_of (can_issue_call p m r b c) x ≡ true → has_returned_before p m r c ≡ true
    calls None h = absurd (cc)
    calls (Some x) h = (and_true (x.rank == r) (has_returned_before p m r c) (and_true _ (may_be p.policy x.kind b) h).0).1

pub call_before_has_returned : CallBeforeHasReturned
call_before_has_returned p steps i c run w same =
    let m = after_all (opening p) (take i steps) in
    let can = IsRun-at p (opening p) steps i (Issue w.rank w.buffered) run w.there in
    let own = own_call p m w.rank w.buffered (c + 1) can w.next in
    let rank = of_rank (call_at p c) (call_at p (c + 1)) own.0 w.rank own.1 own.2 same in
    let back : has_returned_before p m w.rank (suc c) ≡ true = returned_before p m w.rank (suc c) w.buffered (rw add-one at w.next) can in
    or_right _ _ rank back

-- ---- blocking takers

-- a blocking taker that has returned is matched
returned_taker : (p : MpiProgram) (m : Configuration) (c : ℕ) (k : Kind ℕ) → is_blocking_taker k ≡ true → is_returned_kind p m c k ≡ true → (is_done p m c ≡ true → is_done_kind p m c k ≡ true) → is_matched m c ≡ true
returned_taker p m c (Send mode blocking message) b h done = absurd (cc)
returned_taker p m c (Receive true pattern) b h done = done h
returned_taker p m c (Receive false pattern) b h done = absurd (cc)
returned_taker p m c (MatchedProbe pattern receive) b h done = done h
returned_taker p m c (Probe pattern) b h done = absurd (cc)
returned_taker p m c (MatchedReceive blocking) b h done = absurd (cc)
returned_taker p m c (Wait operation) b h done = absurd (cc)

no_send : (r q : ℕ) (k : Kind ℕ) (pattern : Option Pattern) → is_blocking_taker k ≡ true → fits_between r (message_of k) q pattern ≡ true → ⊥
no_send r q (Wait operation) pattern b h = cc
no_send r q kind pattern b h = cc

no_send_call : (x : Call) (y : Option Call) → is_blocking_taker x.kind ≡ true → both_hold fits (Some x) y ≡ true → ⊥
no_send_call x None b h = cc
no_send_call x (Some y) b h = no_send x.rank y.rank x.kind (pattern_of y.kind) b h

blocking_no_probe : (k : Kind ℕ) → is_blocking_taker k ≡ true → is_probe_kind k ≡ false
blocking_no_probe (Probe pattern) b = absurd (cc)
blocking_no_probe kind b = refl

pub blocking_takers_match_first : BlockingTakersMatchFirst
blocking_takers_match_first p steps i c call run w there taker same =
    let m = after_all (opening p) (take i steps) in
    let returned : kind_holds (is_returned_kind p m c) (Some call) ≡ true = subst (λ (z : Option Call). kind_holds (is_returned_kind p m c) z ≡ true) there (call_before_has_returned p steps i c run w same) in
    let matched = returned_taker p m c call.kind taker returned (subst (λ (z : Option Call). kind_holds (is_done_kind p m c) z ≡ true) there) in
    taker_before p steps i c run matched
    (λ t fit. no_send_call call (call_at p t) taker (subst (λ (z : Option Call). both_hold fits z (call_at p t) ≡ true) there fit)) (ap (kind_holds is_probe_kind) there ∙ blocking_no_probe call.kind taker)

-- ---- no call is issued twice

-- a prefix has more of those that pass a test than one that ends where such a one stands
count_front : (f : Step → Bool) (steps : List Step) (i k : ℕ) (x : Step) → i < k → slice_get steps i ≡ Some x → f x ≡ true → count_by f (take i steps) < count_by f (take k steps)
count_front f steps i k x below there holds =
    let here : f (get_or steps i x) ≡ true = ap f (get_or_from_slice_get steps i x x there) ∙ holds in
    let more = count_by_more_yes f steps i x (slice_get_within steps i x there) here in
    let less = sum_by-take-le (λ (y : Step). cond (f y) 1 0) (take k steps) (i + 1) in
    let same : take (i + 1) (take k steps) ≡ take (i + 1) steps = take-take (i + 1) k steps (omega arith) in
    omega (arith, more, less, ap (count_by f) same)

-- the call that a step issues is one of its rank, and stands behind the first by the issues so far
record Counted (p : MpiProgram) (steps : List Step) (c i : ℕ) : Type 0 where
  call : Call
  there : call_at p c ≡ Some call
  place : c ≡ first_call p call.rank + count_by (is_issue_of call.rank) (take i steps)
  buffered : Bool
  step : slice_get steps i ≡ Some (Issue call.rank buffered)

counted : (p : MpiProgram) (steps : List Step) (c i : ℕ) → IsRun p (opening p) steps → IsIssuedAt (opening p) steps c i → Counted p steps c i
counted p steps c i run w =
    let m = after_all (opening p) (take i steps) in
    let x = Issue w.rank w.buffered in
    let own = own_call p m w.rank w.buffered c (IsRun-at p (opening p) steps i x run w.there) w.next in
    let names : NamesOfProgram p (get_or steps i x) = All-get_or (NamesOfProgram p) steps i x (slice_get_within steps i x w.there) (runs_name_the_program p steps run) in
    let within : w.rank < p.ranks = subst (λ (z : Step). NamesOfProgram p z) (get_or_from_slice_get steps i x x w.there) names in
    let count = next_counts_issues p (take i steps) w.rank (IsRun-take p (opening p) steps i run) within in
    let place : c ≡ first_call p w.rank + count_by (is_issue_of w.rank) (take i steps) = sym (get_or_from_slice_get m.next w.rank c 0 w.next) ∙ count in
    record {
      call = own.0;
      there = own.1;
      place = subst (λ (r : ℕ). c ≡ first_call p r + count_by (is_issue_of r) (take i steps)) (sym own.2) place;
      buffered = w.buffered;
      step = subst (λ (r : ℕ). slice_get steps i ≡ Some (Issue r w.buffered)) (sym own.2) w.there;
    }

not_twice : (p : MpiProgram) (steps : List Step) (c i k : ℕ) → i < k → Counted p steps c i → Counted p steps c k → ⊥
not_twice p steps c i k below w v =
    let e : v.call ≡ w.call = cc (w.there, v.there) in
    let later : c ≡ first_call p w.call.rank + count_by (is_issue_of w.call.rank) (take k steps) = subst (λ (z : Call). c ≡ first_call p z.rank + count_by (is_issue_of z.rank) (take k steps)) e v.place in
    let more = count_front (is_issue_of w.call.rank) steps i k _ below w.step (eq-eqb w.call.rank w.call.rank refl) in
    omega (arith, w.place, later, more)

pub issued_once : IssuedOnce
issued_once p steps c i k run w v =
    one_place (Counted p steps c) (not_twice p steps c) i k (counted p steps c i run w) (counted p steps c k run v)
