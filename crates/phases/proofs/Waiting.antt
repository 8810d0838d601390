-- Where a rank has gone past a call, what the call waits for has found a message; and a rank whose
-- calls are all over has gone past each.
use Rattle.std.proofs.Common.{◌≡◌, ◌≢◌, ℕ, zero, suc, ◌+◌, ◌*◌, ◌<◌, ◌≤◌, ◌⊎◌, inl, inr, Bool, true, false, not, ◌||◌, List, [], ◌∷◌, ◌++◌, Some, None, is_some, length, slice_set, slice_index, refl, sym, ap, ◌∙◌, subst, arith, get_or-set_other, get_or-set_same}
use Rattle.std.proofs.lemmas.Bool.{cases_eq, cases_lt}
use Rattle.std.proofs.lemmas.List.{length-append}
use Rattle.std.proofs.lemmas.List.FromFn.{get_or-map-range_with_len}
use Rattle.std.proofs.lemmas.Option.{same_Some, slice_get_within, get_or_from_slice_get}
use Rattle.calltext.proofs.Conjunctions.{and_true}
use Rattle.callorder.specs.declared.calls.Call.{Call}
use Rattle.callorder.specs.declared.calls.Kind.{Kind}
use Rattle.callorder.specs.declared.calls.Kind.TheVariants.{Send, Receive, MatchedProbe, Probe, MatchedReceive, Wait}
use Rattle.callorder.specs.Calls.{operation_of, is_start, fits}
use Rattle.callorder.specs.Programs.{MpiProgram, call_at, is_of_rank, are_fit, kind_holds}
use Rattle.semantics.specs.declared.state.Step.{Step}
use Rattle.semantics.specs.declared.state.Step.TheVariants.{Issue, Match, See}
use Rattle.semantics.specs.Machine.{Configuration, first_call, opening, after, after_all, IsEnabled, IsRun, is_matched, is_done, is_done_kind, is_returned, is_returned_kind, is_rank_finished, has_next, has_returned_before}
use Rattle.semantics.proofs.Lengths.{matched_grows, matched_is, runs_are_short}
use Rattle.phases.specs.CallPlaces.{IsWellFormed}
use Rattle.phases.specs.Order.{IsFinder, Needs}
use Rattle.phases.proofs.Parts.{rank_is, before_to, IssueParts, issue_parts, of_rank_between}
use Rattle.run_laws.proofs.Issued.{lower_before}
use Rattle.run_laws.proofs.Matched.{is_matched-other}

-- ---- what a call waits for

done_kind : (p : MpiProgram) (m : Configuration) (c : ℕ) (k : Kind ℕ) → IsFinder k → is_done_kind p m c k ≡ is_matched m c
done_kind p m c (Receive blocking pattern) f = refl
done_kind p m c (MatchedProbe pattern receive) f = refl
done_kind p m c (Probe pattern) f = refl
done_kind p m c kind f = absurd f

done_finder : (p : MpiProgram) (m : Configuration) (c : ℕ) (call : Call) → call_at p c ≡ Some call → IsFinder call.kind → is_done p m c ≡ is_matched m c
done_finder p m c call there f = ap (kind_holds (is_done_kind p m c)) there ∙ done_kind p m c call.kind f

or_done : (b d : Bool) → b ≡ true → (not b || d) ≡ true → d ≡ true
or_done true d e h = h
or_done false d e h = absurd (cc)

-- the finder that the returned call needs has found a message
returned_kind : (p : MpiProgram) (m : Configuration) (c o : ℕ) (call : Call) → call_at p c ≡ Some call → (k : Kind ℕ) → call.kind ≡ k → is_returned_kind p m c k ≡ true → Needs p c k o → is_matched m o ≡ true
returned_kind p m c o call there (Send mode blocking message) e h needs = absurd needs
returned_kind p m c o call there (Receive blocking pattern) e h needs =
    ap (is_matched m) needs.1 ∙ sym (done_finder p m c call there (subst IsFinder (sym e) tt)) ∙ or_done blocking (is_done p m c) needs.0 h
returned_kind p m c o call there (MatchedProbe pattern receive) e h needs =
    ap (is_matched m) needs ∙ sym (done_finder p m c call there (subst IsFinder (sym e) tt)) ∙ h
returned_kind p m c o call there (Probe pattern) e h needs =
    ap (is_matched m) needs ∙ sym (done_finder p m c call there (subst IsFinder (sym e) tt)) ∙ h
returned_kind p m c o call there (MatchedReceive blocking) e h needs = absurd needs
returned_kind p m c o call there (Wait operation) e h needs =
    sym (done_finder p m o needs.1 needs.2 needs.3) ∙ ap (is_done p m) needs.0 ∙ h

pub returned_finder : (p : MpiProgram) (m : Configuration) (c o : ℕ) (call : Call) → call_at p c ≡ Some call → is_returned p m c ≡ true → Needs p c call.kind o → is_matched m o ≡ true
returned_finder p m c o call there h needs =
    returned_kind p m c o call there call.kind refl (sym (ap (kind_holds (is_returned_kind p m c)) there) ∙ h) needs

-- ---- where a rank has gone past a call

-- what each call needs that isn't the last one issued of its rank has found a message
abbrev pub IsWaited : MpiProgram → Configuration → Type 0
IsWaited p m = (c o : ℕ) (call : Call) → call_at p c ≡ Some call → c + 1 < slice_index m.next call.rank → Needs p c call.kind o → is_matched m o ≡ true

waited_issue : (p : MpiProgram) (m : Configuration) (r : ℕ) (b : Bool) → IsWaited p m → IssueParts p m r b → IsWaited p (after m (Issue r b))
waited_issue p m r b waited i c o call there past needs =
    elim (cases_eq call.rank r) [
      | inl own ↦ here own
      | inr differ ↦ waited c o call there (subst (λ (z : ℕ). c + 1 < z) (get_or-set_other m.next r call.rank (slice_index m.next r + 1) 0 differ) past) needs
    ]
  where
    place : slice_index m.next r ≡ i.place
    place = get_or_from_slice_get m.next r i.place 0 i.next

    here : call.rank ≡ r → is_matched m o ≡ true
    here own =
        let now : c + 1 < slice_index m.next r + 1 =
        subst (λ (z : ℕ). c + 1 < z) (ap (slice_index (slice_set m.next r (slice_index m.next r + 1))) own ∙ get_or-set_same m.next r (slice_index m.next r + 1) 0 (slice_get_within m.next r i.place i.next)) past in
        elim (cases_lt (c + 1) (slice_index m.next r)) [
          | inl before ↦ waited c o call there (subst (λ (z : ℕ). c + 1 < slice_index m.next z) (sym own) before) needs
          | inr last ↦ returned_finder p m c o call there (before_to p m r i.place i.before c (omega (arith, place, now, last)) (rank_is (call_at p c) call r there own)) needs
        ]

waited_step : (p : MpiProgram) (m : Configuration) (step : Step) → IsWaited p m → IsEnabled p m step → IsWaited p (after m step)
waited_step p m (Issue r b) waited enabled = waited_issue p m r b waited (issue_parts p m r b enabled)
waited_step p m (Match s t) waited enabled = λ c o call there past needs. matched_grows m (Match s t) o (waited c o call there past needs)
waited_step p m (See s f) waited enabled = λ c o call there past needs. matched_grows m (See s f) o (waited c o call there past needs)

pub opening_low : (p : MpiProgram) → IsWellFormed p → (c : ℕ) (call : Call) → call_at p c ≡ Some call → slice_index (opening p).next call.rank ≤ c
opening_low p is c call there =
    let e : slice_index (opening p).next call.rank ≡ first_call p call.rank = get_or-map-range_with_len (first_call p) 0 p.ranks call.rank call.rank 0 (is.in_range c call there).own (omega arith) in
    omega (arith, e, lower_before call.rank p.calls c (λ d y h at. is.rank_order c d call y h there at))

opening_waited : (p : MpiProgram) → IsWellFormed p → IsWaited p (opening p)
opening_waited p is c o call there past needs = absurd (omega (arith, past, opening_low p is c call there))

waited_all : (p : MpiProgram) (m : Configuration) (steps : List Step) → IsWaited p m → IsRun p m steps → IsWaited p (after_all m steps)
waited_all p m [] waited run = waited
waited_all p m (step ∷ steps) waited run = waited_all p (after m step) steps (waited_step p m step waited run.0) run.1

pub runs_are_waited : (p : MpiProgram) → IsWellFormed p → (steps : List Step) → IsRun p (opening p) steps → IsWaited p (after_all (opening p) steps)
runs_are_waited p is steps run = waited_all p (opening p) steps (opening_waited p is) run

-- ---- where a rank's calls are all over

-- where a call of a rank isn't issued yet, the rank has a next call
abbrev pub HasNextBelow : MpiProgram → Configuration → Type 0
HasNextBelow p m = (r c : ℕ) → r < p.ranks → is_of_rank (call_at p c) r ≡ true → slice_index m.next r ≤ c → is_of_rank (call_at p (slice_index m.next r)) r ≡ true

below_step : (p : MpiProgram) → IsWellFormed p → (m : Configuration) (step : Step) → HasNextBelow p m → IsEnabled p m step → HasNextBelow p (after m step)
below_step p is m (Match s t) below enabled = below
below_step p is m (See s f) below enabled = below
below_step p is m (Issue r b) below enabled = λ q c range own low.
    elim (cases_eq q r) [
      | inl e ↦ at_rank q c own low e
      | inr differ ↦
          let same : slice_index (slice_set m.next r (slice_index m.next r + 1)) q ≡ slice_index m.next q = get_or-set_other m.next r q (slice_index m.next r + 1) 0 differ in
          subst (λ (z : ℕ). is_of_rank (call_at p z) q ≡ true) (sym same) (below q c range own (omega (arith, low, same)))
    ]
  where
    i : IssueParts p m r b
    i = issue_parts p m r b enabled

    at_rank : (q c : ℕ) → is_of_rank (call_at p c) q ≡ true → slice_index (slice_set m.next r (slice_index m.next r + 1)) q ≤ c → q ≡ r → is_of_rank (call_at p (slice_index (slice_set m.next r (slice_index m.next r + 1)) q)) q ≡ true
    at_rank q c own low e =
        let moved : slice_index (slice_set m.next r (slice_index m.next r + 1)) q ≡ slice_index m.next r + 1 =
        ap (slice_index (slice_set m.next r (slice_index m.next r + 1))) e ∙ get_or-set_same m.next r (slice_index m.next r + 1) 0 (slice_get_within m.next r i.place i.next) in
        let place : slice_index m.next r ≡ i.place = get_or_from_slice_get m.next r i.place 0 i.next in
        let first : is_of_rank (call_at p i.place) q ≡ true = rank_is (call_at p i.place) i.call q i.there (i.own ∙ sym e) in
        of_rank_between p is q i.place _ c (omega (arith, moved, place)) low first own

pub below_all : (p : MpiProgram) → IsWellFormed p → (m : Configuration) (steps : List Step) → HasNextBelow p m → IsRun p m steps → HasNextBelow p (after_all m steps)
below_all p is m [] below run = below
below_all p is m (step ∷ steps) below run = below_all p is (after m step) steps (below_step p is m step below run.0) run.1

-- a finder, or the wait for it
pub record Waiter (p : MpiProgram) (f : ℕ) (rank : ℕ) : Type 0 where
  pub place : ℕ
  pub call : Call
  pub there : call_at p place ≡ Some call
  pub own : call.rank ≡ rank
  pub needs : Needs p place call.kind f

pub waiter : (p : MpiProgram) → IsWellFormed p → (f : ℕ) (call : Call) → call_at p f ≡ Some call → IsFinder call.kind → Waiter p f call.rank
waiter p is f call there finder = by call.kind refl
  where
    by : (k : Kind ℕ) → call.kind ≡ k → Waiter p f call.rank
    by (Send mode blocking message) e = absurd (subst IsFinder e finder)
    by (Receive true pattern) e = record { place = f; call = call; there = there; own = refl; needs = subst (λ (z : Kind ℕ). Needs p f z f) (sym e) (refl, refl) }
    by (Receive false pattern) e =
        let w = is.waits.each f call there (ap is_start e) in
        let n = is.waits.named w.0 f w.1 w.2 w.3 in
        let same : n.0 ≡ call = same_Some n.0 call (sym n.1 ∙ there) in
        record {
          place = w.0;
          call = w.1;
          there = w.2;
          own = sym n.2 ∙ ap (λ (z : Call). z.rank) same;
          needs = waits w.0 w.1.kind w.3;
        }
      where
        waits : (c : ℕ) (k : Kind ℕ) → operation_of k ≡ Some f → Needs p c k f
        waits c (Wait operation) e = (sym (same_Some operation f e), call, there, finder)
        waits c kind e = absurd (cc)
    by (MatchedProbe pattern receive) e = record { place = f; call = call; there = there; own = refl; needs = subst (λ (z : Kind ℕ). Needs p f z f) (sym e) refl }
    by (Probe pattern) e = record { place = f; call = call; there = there; own = refl; needs = subst (λ (z : Kind ℕ). Needs p f z f) (sym e) refl }
    by (MatchedReceive blocking) e = absurd (subst IsFinder e finder)
    by (Wait operation) e = absurd (subst IsFinder e finder)

-- where a rank is finished each of its finders has found a message
pub found_where_finished : (p : MpiProgram) → IsWellFormed p → (m : Configuration) → IsWaited p m → HasNextBelow p m → (f : ℕ) (call : Call) → call_at p f ≡ Some call → IsFinder call.kind → is_rank_finished p m call.rank ≡ true → is_matched m f ≡ true
found_where_finished p is m waited below f call there finder finished =
    let w = waiter p is f call there finder in
    let r = call.rank in
    let parts = and_true (not (has_next p m r)) (has_returned_before p m r (slice_index m.next r)) finished in
    elim (cases_lt (w.place + 1) (slice_index m.next r)) [
      | inl past ↦ waited w.place f w.call w.there (subst (λ (z : ℕ). w.place + 1 < slice_index m.next z) (sym w.own) past) w.needs
      | inr high ↦ elim (cases_lt w.place (slice_index m.next r)) [
        | inl last ↦
            returned_finder p m w.place f w.call w.there
            (before_to p m r (slice_index m.next r) parts.1 w.place (omega (arith, high, last)) (rank_is (call_at p w.place) w.call r w.there w.own)) w.needs
        | inr ahead ↦ absurd (off_and_on (has_next p m r) parts.0 (below r w.place (is.in_range f call there).own (rank_is (call_at p w.place) w.call r w.there w.own) (omega (arith, ahead))))
      ]
    ]
  where
    off_and_on : (t : Bool) → not t ≡ true → t ≡ true → ⊥
    off_and_on true n e = cc
    off_and_on false n e = cc

-- ---- a run goes on to where nothing is enabled

pub run_append : (p : MpiProgram) (m : Configuration) (xs ys : List Step) → IsRun p m xs → IsRun p (after_all m xs) ys → IsRun p m (xs ++ ys)
run_append p m [] ys run more = more
run_append p m (x ∷ xs) ys run more = (run.0, run_append p (after m x) xs ys run.1 more)

pub after_append : (m : Configuration) (xs ys : List Step) → after_all m (xs ++ ys) ≡ after_all (after_all m xs) ys
after_append m [] ys = refl
after_append m (x ∷ xs) ys = after_append (after m x) xs ys

-- where each way to an end is excluded, there is none
go_on : (p : MpiProgram) (n : ℕ) (m : Configuration) → ((more : List Step) → IsRun p m more → length more ≤ n)
    → ((more : List Step) → IsRun p m more → ((step : Step) → IsEnabled p (after_all m more) step → ⊥) → ⊥) → ⊥
go_on p zero m short never = never [] tt (λ step enabled. absurd (let one = short (step ∷ []) (enabled, tt) in omega (arith, one)))
go_on p (suc n) m short never =
    never [] tt (λ step enabled. go_on p n (after m step)
    (λ more run. let one = short (step ∷ more) (enabled, run) in omega (arith, one))
    (λ more run none. never (step ∷ more) (enabled, run) none))

pub goes_on : (p : MpiProgram) (steps : List Step) → IsRun p (opening p) steps
    → ((more : List Step) → IsRun p (after_all (opening p) steps) more → ((step : Step) → IsEnabled p (after_all (after_all (opening p) steps) more) step → ⊥) → ⊥) → ⊥
goes_on p steps run never =
    go_on p (2 * length p.calls) (after_all (opening p) steps)
    (λ more go. let long = runs_are_short p (steps ++ more) (run_append p (opening p) steps more run go) in omega (arith, long, length-append steps more))
    never

-- ---- what a finder finds later

pub unseen : (m : Configuration) (s f c : ℕ) → c ≢ f → is_matched (after m (See s f)) c ≡ is_matched m c
unseen m s f c differ =
    matched_is (after m (See s f)) c ∙ ap is_some (get_or-set_other m.partner f c (Some s) None differ) ∙ sym (matched_is m c)

find_now : (p : MpiProgram) (m : Configuration) (x : Step) (c : ℕ) → IsEnabled p m x → is_matched m c ≡ false → is_matched (after m x) c ≡ true
    → ((s : ℕ) × (are_fit p s c ≡ true) × (is_matched m s ≡ false)) ⊎ ((t : ℕ) × (are_fit p c t ≡ true))
find_now p m (Issue r b) c enabled free found = absurd (cc)
find_now p m (Match s t) c enabled free found =
    elim (cases_eq c t) [
      | inl e ↦ inl (s, ap (are_fit p s) e ∙ enabled.1.fit, enabled.1.send_open)
      | inr differ ↦ elim (cases_eq c s) [
        | inl e ↦ inr (t, ap (λ (z : ℕ). are_fit p z t) e ∙ enabled.1.fit)
        | inr other ↦ absurd (not_both (is_matched m c) free (sym (is_matched-other m s t c other differ) ∙ found))
      ]
    ]
  where
    not_both : (b : Bool) → b ≡ false → b ≡ true → ⊥
    not_both b off on = cc
find_now p m (See s f) c enabled free found =
    elim (cases_eq c f) [
      | inl e ↦ inl (s, ap (are_fit p s) e ∙ enabled.1.fit, enabled.1.send_open)
      | inr differ ↦ absurd (not_both (is_matched m c) free (sym (unseen m s f c differ) ∙ found))
    ]
  where
    not_both : (b : Bool) → b ≡ false → b ≡ true → ⊥
    not_both b off on = cc

-- some send that fits the call and is unmatched, or a finder that the call fits
abbrev pub FindsOpen : MpiProgram → Configuration → ℕ → Type 0
FindsOpen p m c = ((s : ℕ) × (are_fit p s c ≡ true) × (is_matched m s ≡ false)) ⊎ ((t : ℕ) × (are_fit p c t ≡ true))

still_open : (m : Configuration) (x : Step) (s : ℕ) → is_matched (after m x) s ≡ false → (b : Bool) → is_matched m s ≡ b → is_matched m s ≡ false
still_open m x s later true e = absurd (let grown = matched_grows m x s e in cc)
still_open m x s later false e = e

found_earlier : (p : MpiProgram) (m : Configuration) (x : Step) (c : ℕ) → FindsOpen p (after m x) c → FindsOpen p m c
found_earlier p m x c (inl w) = inl (w.0, w.1, still_open m x w.0 w.2 (is_matched m w.0) refl)
found_earlier p m x c (inr w) = inr w

found_as : (p : MpiProgram) (m : Configuration) (x : Step) (c : ℕ) → IsEnabled p m x → is_matched m c ≡ false → (is_matched (after m x) c ≡ false → FindsOpen p (after m x) c) → (b : Bool) → is_matched (after m x) c ≡ b → FindsOpen p m c
found_as p m x c enabled free rest true e = find_now p m x c enabled free e
found_as p m x c enabled free rest false e = found_earlier p m x c (rest e)

pub found_later : (p : MpiProgram) (m : Configuration) (steps : List Step) (c : ℕ) → IsRun p m steps → is_matched m c ≡ false → is_matched (after_all m steps) c ≡ true → FindsOpen p m c
found_later p m [] c run free found = absurd (cc)
found_later p m (x ∷ xs) c run free found =
    found_as p m x c run.0 free (λ e. found_later p (after m x) xs c run.1 e found) (is_matched (after m x) c) refl
