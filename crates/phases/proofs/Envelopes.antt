-- Where all takers name an envelope, its messages are taken in the order in which they are sent; so
-- by messages calls come after others.
use Rattle.std.proofs.Common.{◌≡◌, ◌≢◌, ℕ, zero, suc, ◌+◌, ◌<◌, ◌≤◌, inl, inr, Bool, true, false, not, ◌&&◌, ◌==◌, nat_lt, List, [], ◌∷◌, Option, Some, None, take, slice_get, slice_index, refl, sym, ap, ◌∙◌, arith}
use Rattle.std.specs.List.{count_by}
use Rattle.std.proofs.lemmas.Bool.{cases_eq, cases_lt, eqb-true, eq-eqb, le-ltb, lt-ltb, ltb-true}
use Rattle.std.proofs.lemmas.List.Sums.{sum_by-cons}
use Rattle.std.proofs.lemmas.Option.{same_Some}
use Rattle.calltext.proofs.Conjunctions.{and_true, and_both}
use Rattle.callorder.specs.declared.calls.Call.{Call}
use Rattle.callorder.specs.declared.calls.Message.{Message}
use Rattle.callorder.specs.declared.calls.Pattern.{Pattern}
use Rattle.callorder.specs.Calls.{message_of, pattern_of, is_probe_kind, fits_between, covers, both_hold, holds_of, fits}
use Rattle.callorder.specs.Programs.{MpiProgram, call_at, are_fit, is_probe, are_of_one_rank, kind_holds, have_one_rank}
use Rattle.semantics.specs.declared.state.Step.{Step}
use Rattle.semantics.specs.declared.state.Step.TheVariants.{Issue, Match, See}
use Rattle.semantics.specs.Machine.{Configuration, opening, after, after_all, CanFind, IsEnabled, IsRun, is_issued, is_issued_call, is_matched}
use Rattle.semantics.proofs.Lengths.{matched_grows, issued_grows}
use Rattle.phases.specs.CallPlaces.{IsWellFormed}
use Rattle.phases.specs.Conditions.{ComesAfter}
use Rattle.phases.specs.Order.{Envelope, is_addressed, sends_with, is_number, is_named, takes_with, IsExact, AreCounterparts, StandsBehind}
use Rattle.phases.specs.Laws.{CounterpartsComeFirst, MessagesOrder, OrderedIsTimely}
use Rattle.phases.proofs.Parts.{fit_calls_there}
use Rattle.phases.proofs.Waiting.{unseen, runs_are_waited}
use Rattle.phases.proofs.Counting.{done_count, one_if, Each, each_tail, each_head, count_one, none_of, and_on, Fit, fit_parts, no_both, AreTests, tests_are_paired, none_matched}
use Rattle.phases.proofs.Clean.{issued_below, both_ways}
use Rattle.run_laws.proofs.Matched.{is_matched-other}

-- ---- more of counts

implied : (t a b : Bool) → (t ≡ true → a ≡ true → b ≡ true) → one_if (t && a) ≤ one_if (t && b)
implied true true true h = omega arith
implied true true false h = absurd (let e = h refl refl in cc)
implied true false b h = implied_zero (true && b)
  where
    implied_zero : (c : Bool) → 0 ≤ one_if c
    implied_zero true = omega arith
    implied_zero false = omega arith
implied false a b h = omega arith

count_mono : (test : Call → Bool) (f g : ℕ → Bool) (k : ℕ) (xs : List Call) → Each k xs (λ j x. test x ≡ true → f j ≡ true → g j ≡ true) → done_count test f k xs ≤ done_count test g k xs
count_mono test f g k [] each = omega arith
count_mono test f g k (x ∷ xs) each =
    let head = implied (test x) (f k) (g k) (each_head k x xs (λ j y. test y ≡ true → f j ≡ true → g j ≡ true) each) in
    let rest = count_mono test f g (k + 1) xs (each_tail k x xs (λ j y. test y ≡ true → f j ≡ true → g j ≡ true) each) in
    omega (arith, head, rest)

-- where the first ones are done and no others, they are the front of the list
count_front : (test : Call → Bool) (f : ℕ → Bool) (k c : ℕ) (xs : List Call) → ((j : ℕ) → k ≤ j → j < k + c → f j ≡ true) → ((j : ℕ) → k + c ≤ j → f j ≡ false) → done_count test f k xs ≡ count_by test (take c xs)
count_front test f k zero [] below above = refl
count_front test f k (suc c) [] below above = refl
count_front test f k zero (x ∷ xs) below above =
    let head = none_of (test x) (f k) (above k (omega arith)) in
    let rest = count_front test f (k + 1) zero xs (λ j low high. absurd (omega (arith, low, high))) (λ j low. above j (omega (arith, low))) in
    omega (arith, head, rest, none test xs)
  where
    none : (test : Call → Bool) (xs : List Call) → count_by test (take zero xs) ≡ 0
    none test [] = refl
    none test (x ∷ xs) = refl
count_front test f k (suc c) (x ∷ xs) below above =
    let head : one_if (test x && f k) ≡ one_if (test x) = ap one_if (and_on (test x) (f k) (λ e. below k (omega arith) (omega arith))) in
    let rest = count_front test f (k + 1) c xs (λ j low high. below j (omega (arith, low)) (omega (arith, high))) (λ j low. above j (omega (arith, low))) in
    omega (arith, head, rest, sum_by-cons (λ (y : Call). one_if (test y)) x (take c xs))

pub before_count : (test : Call → Bool) (c : ℕ) (xs : List Call) → done_count test (λ j. nat_lt j c) 0 xs ≡ count_by test (take c xs)
before_count test c xs = count_front test (λ j. nat_lt j c) 0 c xs (λ j low high. lt-ltb j c (omega (arith, high))) (λ j low. le-ltb j c (omega (arith, low)))

-- ---- calls of an envelope

record Sent (h : Envelope) (x : Call) : Type 0 where
  message : Message
  is : message_of x.kind ≡ Some message
  rank : x.rank ≡ h.source
  destination : message.destination ≡ h.destination
  tag : message.tag ≡ h.tag
  communicator : message.communicator ≡ h.communicator

sent_as : (h : Envelope) (x : Call) → x.rank ≡ h.source → (o : Option Message) → message_of x.kind ≡ o → is_addressed h o ≡ true → Sent h x
sent_as h x rank None is e = absurd (cc)
sent_as h x rank (Some g) is e =
    let outer = and_true (g.destination == h.destination && g.tag == h.tag) (g.communicator == h.communicator) e in
    let inner = and_true (g.destination == h.destination) (g.tag == h.tag) outer.0 in
    record { message = g; is = is; rank = rank; destination = eqb-true g.destination h.destination inner.0; tag = eqb-true g.tag h.tag inner.1; communicator = eqb-true g.communicator h.communicator outer.1 }

sent : (h : Envelope) (x : Call) → sends_with h x ≡ true → Sent h x
sent h x e =
    let parts = and_true (x.rank == h.source) (is_addressed h (message_of x.kind)) e in
    sent_as h x (eqb-true x.rank h.source parts.0) (message_of x.kind) refl parts.1

record Taken (h : Envelope) (x : Call) : Type 0 where
  pattern : Pattern
  is : pattern_of x.kind ≡ Some pattern
  rank : x.rank ≡ h.destination
  source : pattern.source ≡ Some h.source
  tag : pattern.tag ≡ Some h.tag
  communicator : pattern.communicator ≡ h.communicator
  taker : is_probe_kind x.kind ≡ false

pub number_is : (o : Option ℕ) (n : ℕ) → is_number o n ≡ true → o ≡ Some n
number_is None n e = absurd (cc)
number_is (Some k) n e = ap Some (eqb-true k n e)

off : (t : Bool) → not t ≡ true → t ≡ false
off true n = absurd (cc)
off false n = refl

taken_as : (h : Envelope) (x : Call) → x.rank ≡ h.destination → is_probe_kind x.kind ≡ false → (o : Option Pattern) → pattern_of x.kind ≡ o → is_named h o ≡ true → Taken h x
taken_as h x rank taker None is e = absurd (cc)
taken_as h x rank taker (Some q) is e =
    let outer = and_true (is_number q.source h.source && is_number q.tag h.tag) (q.communicator == h.communicator) e in
    let inner = and_true (is_number q.source h.source) (is_number q.tag h.tag) outer.0 in
    record { pattern = q; is = is; rank = rank; source = number_is q.source h.source inner.0; tag = number_is q.tag h.tag inner.1; communicator = eqb-true q.communicator h.communicator outer.1; taker = taker }

taken : (h : Envelope) (x : Call) → takes_with h x ≡ true → Taken h x
taken h x e =
    let outer = and_true (x.rank == h.destination && is_named h (pattern_of x.kind)) (not (is_probe_kind x.kind)) e in
    let inner = and_true (x.rank == h.destination) (is_named h (pattern_of x.kind)) outer.0 in
    taken_as h x (eqb-true x.rank h.destination inner.0) (off (is_probe_kind x.kind) outer.1) (pattern_of x.kind) refl inner.1

covers_as : (o : Option ℕ) (n k : ℕ) → o ≡ Some n → n ≡ k → covers o k ≡ true
covers_as o n k e f = ap (λ (z : Option ℕ). covers z k) e ∙ eq-eqb n k f

covered_is : (o : Option ℕ) (n k : ℕ) → o ≡ Some n → covers o k ≡ true → k ≡ n
covered_is o n k e c = sym (eqb-true n k (sym (ap (λ (z : Option ℕ). covers z k) e) ∙ c))

-- a message with an envelope fits each taker that names it
pub with_envelope_fit : (p : MpiProgram) (h : Envelope) (s t : ℕ) (a b : Call) → call_at p s ≡ Some a → call_at p t ≡ Some b → sends_with h a ≡ true → takes_with h b ≡ true → are_fit p s t ≡ true
with_envelope_fit p h s t a b at_s at_t sends takes' =
    let u = sent h a sends in
    let v = taken h b takes' in
    ap (λ (z : Option Call). both_hold fits z (call_at p t)) at_s ∙ ap (both_hold fits (Some a)) at_t
    ∙ ap (λ (z : Option Message). fits_between a.rank z b.rank (pattern_of b.kind)) u.is
    ∙ ap (fits_between a.rank (Some u.message) b.rank) v.is
    ∙ and_both ((u.message.destination == b.rank && u.message.communicator == v.pattern.communicator) && covers v.pattern.source a.rank) (covers v.pattern.tag u.message.tag)
    (and_both (u.message.destination == b.rank && u.message.communicator == v.pattern.communicator) (covers v.pattern.source a.rank)
    (and_both (u.message.destination == b.rank) (u.message.communicator == v.pattern.communicator) (eq-eqb u.message.destination b.rank (u.destination ∙ sym v.rank)) (eq-eqb u.message.communicator v.pattern.communicator (u.communicator ∙ sym v.communicator)))
    (covers_as v.pattern.source h.source a.rank v.source (sym u.rank)))
    (covers_as v.pattern.tag h.tag u.message.tag v.tag (sym u.tag))

-- and one that fits such a taker has the envelope
fit_has_envelope : (h : Envelope) (a b : Call) → Fit a b → takes_with h b ≡ true → sends_with h a ≡ true
fit_has_envelope h a b f takes' =
    let v = taken h b takes' in
    let same : f.pattern ≡ v.pattern = same_Some f.pattern v.pattern (sym f.finds ∙ v.is) in
    let rank : a.rank ≡ h.source = covered_is f.pattern.source h.source a.rank (ap (λ (z : Pattern). z.source) same ∙ v.source) f.source in
    let tag : f.message.tag ≡ h.tag = covered_is f.pattern.tag h.tag f.message.tag (ap (λ (z : Pattern). z.tag) same ∙ v.tag) f.tag in
    let on : f.message.communicator ≡ h.communicator = f.on ∙ ap (λ (z : Pattern). z.communicator) same ∙ v.communicator in
    and_both (a.rank == h.source) (is_addressed h (message_of a.kind)) (eq-eqb a.rank h.source rank)
    (ap (is_addressed h) f.sends ∙ and_both (f.message.destination == h.destination && f.message.tag == h.tag) (f.message.communicator == h.communicator)
    (and_both (f.message.destination == h.destination) (f.message.tag == h.tag) (eq-eqb f.message.destination h.destination (f.to ∙ v.rank)) (eq-eqb f.message.tag h.tag tag)) (eq-eqb f.message.communicator h.communicator on))

pub envelope_tests : (p : MpiProgram) (h : Envelope) → IsExact p h → AreTests p (sends_with h) (takes_with h)
envelope_tests p h exact =
    record {
      taker = λ s t a b at_s at_t fit taker e. exact s t a b at_s at_t fit taker e;
      send = λ s t a b at_s at_t fit e. fit_has_envelope h a b (fit_parts p s t a b at_s at_t fit) e;
      sends = λ x e. let u = sent h x e in (u.message, u.is);
      takes = λ x e. let v = taken h x e in (v.pattern, v.is, v.taker);
    }

-- ---- what holds of each run

-- what has been found or taken was issued
abbrev MatchedIsIssued : MpiProgram → Configuration → Type 0
MatchedIsIssued p m = (c : ℕ) → is_matched m c ≡ true → is_issued p m c ≡ true

matched_issued_step : (p : MpiProgram) (m : Configuration) (step : Step) → MatchedIsIssued p m → IsEnabled p m step → MatchedIsIssued p (after m step)
matched_issued_step p m (Issue r b) issued enabled = λ c e. issued_grows p m (Issue r b) c (issued c e)
matched_issued_step p m (Match s t) issued enabled = λ c e. issued_grows p m (Match s t) c (
    elim (cases_eq c s) [
      | inl is ↦ ap (is_issued p m) is ∙ enabled.1.send_issued
      | inr not_s ↦ elim (cases_eq c t) [
        | inl is ↦ ap (is_issued p m) is ∙ enabled.1.finder_issued
        | inr not_t ↦ issued c (sym (is_matched-other m s t c not_s not_t) ∙ e)
      ]
    ])
matched_issued_step p m (See s f) issued enabled = λ c e. issued_grows p m (See s f) c (
    elim (cases_eq c f) [
      | inl is ↦ ap (is_issued p m) is ∙ enabled.1.finder_issued
      | inr differ ↦ issued c (sym (unseen m s f c differ) ∙ e)
    ])

matched_issued_all : (p : MpiProgram) (m : Configuration) (steps : List Step) → MatchedIsIssued p m → IsRun p m steps → MatchedIsIssued p (after_all m steps)
matched_issued_all p m [] issued run = issued
matched_issued_all p m (step ∷ steps) issued run = matched_issued_all p (after m step) steps (matched_issued_step p m step issued run.0) run.1

-- takers of an envelope take in their order
abbrev TakesInOrder : MpiProgram → Envelope → Configuration → Type 0
TakesInOrder p h m =
    (t e : ℕ) (b d : Call) → call_at p t ≡ Some b → call_at p e ≡ Some d → takes_with h b ≡ true → takes_with h d ≡ true → e < t → is_matched m t ≡ true → is_matched m e ≡ true

in_order_step : (p : MpiProgram) (h : Envelope) (m : Configuration) (step : Step) → TakesInOrder p h m → IsEnabled p m step → TakesInOrder p h (after m step)
in_order_step p h m (Issue r b) order enabled = order
in_order_step p h m (Match s f) order enabled = λ t e b d at_t at_e on_t on_e below matched.
    matched_grows m (Match s f) e (by t e b d at_t at_e on_t on_e below matched)
  where
    can : CanFind p m s f
    can = enabled.1

    by : (t e : ℕ) (b d : Call) → call_at p t ≡ Some b → call_at p e ≡ Some d → takes_with h b ≡ true → takes_with h d ≡ true → e < t → is_matched (after m (Match s f)) t ≡ true → is_matched m e ≡ true
    by t e b d at_t at_e on_t on_e below matched =
        let there = fit_calls_there p s f can.fit in
        let a = there.0.0 in
        let at_s = there.0.1 in
        elim (cases_eq t f) [
          | inl is ↦
              let at_f : call_at p f ≡ Some b = ap (call_at p) (sym is) ∙ at_t in
              let fit = fit_parts p s f a b at_s at_f can.fit in
              let u = taken h b on_t in
              let v = taken h d on_e in
              let one : are_of_one_rank p e f ≡ true =
              ap (λ (z : Option Call). both_hold have_one_rank z (call_at p f)) at_e ∙ ap (both_hold have_one_rank (Some d)) at_f ∙ eq-eqb b.rank d.rank (u.rank ∙ sym v.rank) in
              can.takers e (omega (arith, below, is)) one
              (and_both (are_fit p s e) (not (is_probe p e)) (with_envelope_fit p h s e a d at_s at_e (fit_has_envelope h a b fit on_t) on_e) (ap not (ap (kind_holds is_probe_kind) at_e ∙ v.taker)))
          | inr not_f ↦ elim (cases_eq t s) [
            | inl is ↦
                let fit = fit_parts p s f a there.1.0 at_s there.1.1 can.fit in
                let same : a ≡ b = same_Some a b (sym at_s ∙ ap (call_at p) (sym is) ∙ at_t) in
                let v = taken h b on_t in
                absurd (no_both a.kind fit.message v.pattern fit.sends (ap (λ (z : Call). pattern_of z.kind) same ∙ v.is))
            | inr not_s ↦ order t e b d at_t at_e on_t on_e below (sym (is_matched-other m s f t not_s not_f) ∙ matched)
          ]
        ]
in_order_step p h m (See s f) order enabled = λ t e b d at_t at_e on_t on_e below matched.
    matched_grows m (See s f) e (
    elim (cases_eq t f) [
      | inl is ↦ absurd (both_ways (is_probe p f) enabled.0 (ap (is_probe p) (sym is) ∙ ap (kind_holds is_probe_kind) at_t ∙ (taken h b on_t).taker))
      | inr differ ↦ order t e b d at_t at_e on_t on_e below (sym (unseen m s f t differ) ∙ matched)
    ])

in_order_all : (p : MpiProgram) (h : Envelope) (m : Configuration) (steps : List Step) → TakesInOrder p h m → IsRun p m steps → TakesInOrder p h (after_all m steps)
in_order_all p h m [] order run = order
in_order_all p h m (step ∷ steps) order run = in_order_all p h (after m step) steps (in_order_step p h m step order run.0) run.1

-- ---- counterparts

-- an earlier call of the rank of an issued call is issued
issued_earlier : (p : MpiProgram) (m : Configuration) (e c : ℕ) (x y : Call) → call_at p e ≡ Some x → call_at p c ≡ Some y → x.rank ≡ y.rank → e < c → is_issued p m c ≡ true → is_issued p m e ≡ true
issued_earlier p m e c x y at_e at_c rank below issued =
    let high = issued_below p m c y at_c issued in
    ap (holds_of (is_issued_call m e)) at_e ∙ lt-ltb e (slice_index m.next x.rank) (omega (arith, below, high, ap (slice_index m.next) rank))

module _ (p : MpiProgram) (s t : ℕ) (w : AreCounterparts p s t) (m : Configuration) (order : TakesInOrder p w.envelope m) (issued : MatchedIsIssued p m) where
  up_to_taker : is_matched m t ≡ true → count_by (takes_with w.envelope) (take t p.calls) + 1 ≤ done_count (takes_with w.envelope) (is_matched m) 0 p.calls
  up_to_taker matched =
      let front = before_count (takes_with w.envelope) t p.calls in
      let z : 0 + t ≡ t = omega arith in
      let more = count_one (takes_with w.envelope) (λ j. nat_lt j t) (λ j. nat_lt j (t + 1)) 0 p.calls t w.taker w.at_taker w.takes
      (le-ltb (0 + t) t (omega arith)) (lt-ltb (0 + t) (t + 1) (omega arith)) (λ j y at_j differ test. same j differ) in
      let all = count_mono (takes_with w.envelope) (λ j. nat_lt j (t + 1)) (is_matched m) 0 p.calls (λ j y at_j test low. within j y at_j test (ltb-true (0 + j) (t + 1) low)) in
      omega (arith, front, more, all)
    where
      same : (j : ℕ) → 0 + j ≢ 0 + t → nat_lt (0 + j) t ≡ nat_lt (0 + j) (t + 1)
      same j differ =
          elim (cases_lt j t) [
            | inl low ↦ lt-ltb (0 + j) t (omega (arith, low)) ∙ sym (lt-ltb (0 + j) (t + 1) (omega (arith, low)))
            | inr high ↦ le-ltb (0 + j) t (omega (arith, high)) ∙ sym (le-ltb (0 + j) (t + 1) (above (λ e. differ (omega (arith, e))) high))
          ]
        where
          above : (j ≡ t → ⊥) → t ≤ j → t + 1 ≤ 0 + j
          above not_t high = elim (cases_eq j t) [ inl e ↦ absurd (not_t e) | inr d ↦ omega (arith, high, d) ]

      within : (j : ℕ) (y : Call) → slice_get p.calls j ≡ Some y → takes_with w.envelope y ≡ true → 0 + j < t + 1 → is_matched m (0 + j) ≡ true
      within j y at_j test low =
          let z : 0 + j ≡ j = omega arith in
          ap (is_matched m) z ∙ elim (cases_lt j t) [
            | inl below ↦ order t j w.taker y w.at_taker at_j w.takes test below matched
            | inr high ↦ ap (is_matched m) (let e : j ≡ t = omega (arith, low, high) in e) ∙ matched
          ]

  below_send : is_issued p m s ≡ false → done_count (sends_with w.envelope) (is_matched m) 0 p.calls ≤ count_by (sends_with w.envelope) (take s p.calls)
  below_send free =
      let front = before_count (sends_with w.envelope) s p.calls in
      let all = count_mono (sends_with w.envelope) (is_matched m) (λ j. nat_lt j s) 0 p.calls (λ j y at_j test matched. lt-ltb (0 + j) s (low j y at_j test matched)) in
      omega (arith, front, all)
    where
      low : (j : ℕ) (y : Call) → slice_get p.calls j ≡ Some y → sends_with w.envelope y ≡ true → is_matched m (0 + j) ≡ true → 0 + j < s
      low j y at_j test matched =
          let z : 0 + j ≡ j = omega arith in
          let there : is_issued p m j ≡ true = issued j (ap (is_matched m) (sym z) ∙ matched) in
          elim (cases_lt j s) [
            | inl below ↦ omega (arith, below)
            | inr high ↦ elim (cases_eq j s) [
              | inl e ↦ absurd (both_ways (is_issued p m s) (ap (is_issued p m) (sym e) ∙ there) free)
              | inr differ ↦
                  absurd (both_ways (is_issued p m s) (issued_earlier p m s j w.send y w.at_send at_j ((sent w.envelope w.send w.sends).rank ∙ sym (sent w.envelope y test).rank) (omega (arith, high, differ)) there) free)
            ]
          ]

  counterpart_as : done_count (sends_with w.envelope) (is_matched m) 0 p.calls ≡ done_count (takes_with w.envelope) (is_matched m) 0 p.calls → is_matched m t ≡ true → (q : Bool) → is_issued p m s ≡ q → is_issued p m s ≡ true
  counterpart_as paired matched true e = e
  counterpart_as paired matched false e = absurd (omega (arith, up_to_taker matched, below_send e, paired, w.same))

pub counterparts_come_first : CounterpartsComeFirst
counterparts_come_first p s t whole w steps run matched =
    let m = after_all (opening p) steps in
    counterpart_as p s t w m
    (in_order_all p w.envelope (opening p) steps (λ t e b d at_t at_e on_t on_e below found. absurd (both_ways (is_matched (opening p) t) found (none_matched p t))) run)
    (matched_issued_all p (opening p) steps (λ c found. absurd (both_ways (is_matched (opening p) c) found (none_matched p c))) run)
    (tests_are_paired p (sends_with w.envelope) (takes_with w.envelope) (envelope_tests p w.envelope w.exact) steps run) matched (is_issued p m s) refl

-- ---- messages

issued_there : (p : MpiProgram) (m : Configuration) (c : ℕ) (o : Option Call) → call_at p c ≡ o → is_issued p m c ≡ true → (call : Call) × (call_at p c ≡ Some call)
issued_there p m c None at_c issued = absurd (let e = ap (holds_of (is_issued_call m c)) at_c in cc)
issued_there p m c (Some call) at_c issued = (call, at_c)

behind_found : (p : MpiProgram) → IsWellFormed p → (c f : ℕ) → StandsBehind p c f → ComesAfter p c f
behind_found p whole c f w steps run issued =
    let m = after_all (opening p) steps in
    let there = issued_there p m c (call_at p c) refl issued in
    let rank : there.0.rank ≡ w.call.rank =
    eqb-true there.0.rank w.call.rank (sym (ap (λ (z : Option Call). both_hold have_one_rank z (call_at p c)) w.there ∙ ap (both_hold have_one_rank (Some w.call)) there.1) ∙ w.of_one_rank) in
    let high = issued_below p m c there.0 there.1 issued in
    runs_are_waited p whole steps run w.place f w.call w.there (omega (arith, w.earlier, high, ap (slice_index m.next) rank)) w.needs

pub messages_order : MessagesOrder
messages_order p c f [] whole w steps run issued = behind_found p whole c f w steps run issued
messages_order p c f (message ∷ messages) whole w steps run issued =
    messages_order p message.0 f messages whole w.2 steps run
    (counterparts_come_first p message.0 message.1 whole w.1 steps run (behind_found p whole c message.1 w.0 steps run issued))

pub ordered_is_timely : OrderedIsTimely
ordered_is_timely p x whole ordered s f ws wf fit =
    elim (ordered s f ws wf fit) [
      | inl only ↦ inl only
      | inr w ↦ inr (messages_order p s f w.0 whole w.1)
    ]
