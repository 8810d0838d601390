-- A run of the whole that stays in its parts is a run of each; and where it ends stuck, one of the
-- parts is stuck.
use Rattle.std.proofs.Common.{◌≡◌, ℕ, zero, suc, ◌+◌, ◌<◌, ◌≤◌, ◌⊎◌, inl, inr, Bool, true, false, not, nat_lt, List, [], ◌∷◌, replicate, Option, Some, None, length, get_or, slice_set, slice_index, refl, sym, ap, ◌∙◌, subst, arith, get_or-set_other, get_or-set_same}
use Rattle.std.proofs.lemmas.Bool.{cases_eq, cases_lt, le-ltb, lt-ltb}
use Rattle.std.proofs.lemmas.List.FromFn.{get_or-map-range_with_len}
use Rattle.std.proofs.lemmas.Option.{same_Some, slice_get_within, slice_get-get_or, get_or_from_slice_get}
use Rattle.calltext.proofs.Conjunctions.{and_true, and_both}
use Rattle.callorder.specs.declared.calls.Call.{Call}
use Rattle.callorder.specs.Programs.{MpiProgram, call_at, is_of_rank}
use Rattle.callorder.specs.Calls.{holds_of}
use Rattle.semantics.specs.declared.state.Step.{Step}
use Rattle.semantics.specs.declared.state.Step.TheVariants.{Issue, Match, See}
use Rattle.semantics.specs.Configurations.{IsConfigurationOf}
use Rattle.semantics.specs.Machine.{Configuration, first_call, opening, after, after_all, CanFind, CanMatch, CanSee, IsEnabled, IsRun, IsStuck, is_issued_call, is_rank_finished, has_next, has_returned_before, is_returned, can_issue}
use Rattle.semantics.proofs.Runs.{IsConfigurationOf-opening}
use Rattle.run_laws.specs.Laws.{IsOpenPair}
use Rattle.run_laws.proofs.Descent.{some_match_or_see_is_enabled}
use Rattle.phases.specs.CallPlaces.{IsFrom, IsWellFormed, moved_call}
use Rattle.phases.specs.Cuts.{Cut, IsCutInTwo, StayInParts, StaysInPart, AreOfOnePart}
use Rattle.phases.specs.Laws.{WholeIsNeverStuck}
use Rattle.phases.proofs.Parts.{of_rank, rank_is, before_to, before_from, IssueParts, issue_parts, issue_made, SamePartner, IsSeen, set_in_both, probe_moved, one_place, same_place, match_written, see_written, before_in_part, find_in_part, open_in_whole, fit_calls_there, of_rank_between, from_rank, may_in_part, may_in_whole, returned_from}
use Rattle.semantics.proofs.Lengths.{configuration_after}

-- ---- numbers

lt_shift : (a b d : ℕ) → nat_lt (a + d) (b + d) ≡ nat_lt a b
lt_shift a b d =
    elim (cases_lt a b) [
      | inl h ↦ lt-ltb (a + d) (b + d) (omega (arith, h)) ∙ sym (lt-ltb a b h)
      | inr h ↦ le-ltb (a + d) (b + d) (omega (arith, h)) ∙ sym (le-ltb a b (omega (arith, h)))
    ]

-- a list of one value has it everywhere, past its end too
none_yet : {A : Type 0} (d : A) (n c : ℕ) → get_or (replicate n d) c d ≡ d
none_yet d zero c = refl
none_yet d (suc n) zero = refl
none_yet d (suc n) (suc c) = none_yet d n c

nobody : (q : MpiProgram) (moved : ℕ → ℕ) (k n C c : ℕ) → SamePartner q moved (get_or (replicate k None) C None) (get_or (replicate n None) c None)
nobody q moved k n C c =
    subst (λ (z : Option ℕ). SamePartner q moved z (get_or (replicate n None) c None)) (sym (none_yet None k C))
    (subst (λ (z : Option ℕ). SamePartner q moved None z) (sym (none_yet None n c)) tt)

module _ (p : MpiProgram) (x : Cut) (one : IsWellFormed x.first) (two : IsWellFormed x.second) (cut : IsCutInTwo p x) where
  -- ---- where a rank is

  -- the rank's next call is of the first part: the places of its next calls in the whole and in the
  -- parts
  pub record InFirst (r n a b : ℕ) : Type 0 where
    pub next : n ≡ a + x.moved_first r
    pub has : is_of_rank (call_at x.first a) r ≡ true
    pub second : b ≡ first_call x.second r

  -- all calls of the rank in the first part are issued
  pub record InSecond (r n a b : ℕ) : Type 0 where
    pub next : n ≡ b + x.moved_second r
    pub past : x.bound r ≤ n
    pub over : is_of_rank (call_at x.first a) r ≡ false
    pub all : (c : ℕ) → is_of_rank (call_at x.first c) r ≡ true → c < a
    pub last : (c : ℕ) → is_of_rank (call_at x.first c) r ≡ true → is_of_rank (call_at x.first (c + 1)) r ≡ false → a ≡ c + 1

  abbrev pub Stage : ℕ → ℕ → ℕ → ℕ → Type 0
  Stage r n a b = InFirst r n a b ⊎ InSecond r n a b

  pub before_bound : (r c : ℕ) → is_of_rank (call_at x.first c) r ≡ true → c + x.moved_first r < x.bound r
  before_bound r c own =
      let y = of_rank (call_at x.first c) r own in
      subst (λ (z : ℕ). c + x.moved_first z < x.bound z) y.2 (cut.before c y.0 y.1)

  pub behind_bound : (r c : ℕ) → is_of_rank (call_at x.second c) r ≡ true → x.bound r ≤ c + x.moved_second r
  behind_bound r c own =
      let y = of_rank (call_at x.second c) r own in
      subst (λ (z : ℕ). x.bound z ≤ c + x.moved_second z) y.2 (cut.behind c y.0 y.1)

  last_bound : (r c : ℕ) → is_of_rank (call_at x.first c) r ≡ true → is_of_rank (call_at x.first (c + 1)) r ≡ false → (c + x.moved_first r) + 1 ≡ x.bound r
  last_bound r c own off =
      let y = of_rank (call_at x.first c) r own in
      subst (λ (z : ℕ). (c + x.moved_first z) + 1 ≡ x.bound z) y.2 (cut.last c y.0 y.1 (ap (is_of_rank (call_at x.first (c + 1))) y.2 ∙ off))

  -- no call of the first part stands where one of the second does
  pub apart : (c d : ℕ) (u v : Call) → call_at x.first c ≡ Some u → call_at x.second d ≡ Some v → c + x.moved_first u.rank ≡ d + x.moved_second v.rank → ⊥
  apart c d u v at_c at_d same =
      let r : u.rank ≡ v.rank = ap (λ (z : Call). z.rank) (same_Some (moved_call (x.moved_first u.rank) u) (moved_call (x.moved_second v.rank) v) (sym (cut.first.calls c u at_c) ∙ ap (call_at p) same ∙ cut.second.calls d v at_d)) in
      omega (arith, same, cut.before c u at_c, cut.behind d v at_d, ap x.bound r)

  pub no_two : {A : Type 0} (b : Bool) → b ≡ true → b ≡ false → A
  no_two b on off = absurd (cc)

  first_issued_as : (r n a b : ℕ) → r < p.ranks → InFirst r n a b → (t : Bool) → is_of_rank (call_at x.first (a + 1)) r ≡ t → Stage r (n + 1) (a + 1) b
  first_issued_as r n a b range s true e = inl (record { next = omega (arith, s.next); has = e; second = s.second })
  first_issued_as r n a b range s false e =
      inr (record {
        next = omega (arith, s.next, s.second, last_bound r a s.has e, cut.goes_on r range);
        past = omega (arith, s.next, last_bound r a s.has e);
        over = e;
        all = all;
        last = last;
      })
    where
      no_later : (c : ℕ) → a < c → is_of_rank (call_at x.first c) r ≡ true → ⊥
      no_later c later own = no_two (is_of_rank (call_at x.first (a + 1)) r) (of_rank_between x.first one r a (a + 1) c (omega arith) (omega (arith, later)) s.has own) e

      all : (c : ℕ) → is_of_rank (call_at x.first c) r ≡ true → c < a + 1
      all c own =
          elim (cases_lt a c) [
            | inl later ↦ absurd (no_later c later own)
            | inr h ↦ omega (arith, h)
          ]

      last : (c : ℕ) → is_of_rank (call_at x.first c) r ≡ true → is_of_rank (call_at x.first (c + 1)) r ≡ false → a + 1 ≡ c + 1
      last c own off =
          elim (cases_lt a c) [
            | inl later ↦ absurd (no_later c later own)
            | inr h ↦ elim (cases_lt c a) [
              | inl earlier ↦ no_two (is_of_rank (call_at x.first (c + 1)) r) (of_rank_between x.first one r c (c + 1) a (omega arith) (omega (arith, earlier)) own s.has) off
              | inr k ↦ omega (arith, h, k)
            ]
          ]

  first_issued : (r n a b : ℕ) → r < p.ranks → InFirst r n a b → Stage r (n + 1) (a + 1) b
  first_issued r n a b range s = first_issued_as r n a b range s (is_of_rank (call_at x.first (a + 1)) r) refl

  second_issued : (r n a b : ℕ) → InSecond r n a b → Stage r (n + 1) a (b + 1)
  second_issued r n a b s = inr (record { next = omega (arith, s.next); past = omega (arith, s.past); over = s.over; all = s.all; last = s.last })

  opening_stage_as : (r : ℕ) → r < p.ranks → (t : Bool) → is_of_rank (call_at x.first (first_call x.first r)) r ≡ t → Stage r (first_call p r) (first_call x.first r) (first_call x.second r)
  opening_stage_as r range true e = inl (record { next = cut.begins r range e; has = e; second = refl })
  opening_stage_as r range false e =
      inr (record {
        next = cut.empty r range e ∙ cut.goes_on r range;
        past = omega (arith, cut.empty r range e);
        over = e;
        all = λ c own. no_two (is_of_rank (call_at x.first c) r) own (cut.none r c range e);
        last = λ c own off. no_two (is_of_rank (call_at x.first c) r) own (cut.none r c range e);
      })

  opening_stage : (r : ℕ) → r < p.ranks → Stage r (first_call p r) (first_call x.first r) (first_call x.second r)
  opening_stage r range = opening_stage_as r range (is_of_rank (call_at x.first (first_call x.first r)) r) refl

  stage_is : (r n a b n' a' b' : ℕ) → n ≡ n' → a ≡ a' → b ≡ b' → Stage r n' a' b' → Stage r n a b
  stage_is r n a b n' a' b' e f g s =
      subst (λ (z : ℕ). Stage r z a b) (sym e) (subst (λ (z : ℕ). Stage r n' z b) (sym f) (subst (λ (z : ℕ). Stage r n' a' z) (sym g) s))

  issued_first : (r n a b c : ℕ) → Stage r n a b → is_of_rank (call_at x.first c) r ≡ true → nat_lt (c + x.moved_first r) n ≡ nat_lt c a
  issued_first r n a b c (inl s) own = ap (nat_lt (c + x.moved_first r)) s.next ∙ lt_shift c a (x.moved_first r)
  issued_first r n a b c (inr s) own = lt-ltb _ _ (omega (arith, before_bound r c own, s.past)) ∙ sym (lt-ltb c a (s.all c own))

  issued_second : (r n a b c : ℕ) → r < p.ranks → Stage r n a b → is_of_rank (call_at x.second c) r ≡ true → nat_lt (c + x.moved_second r) n ≡ nat_lt c b
  issued_second r n a b c range (inl s) own =
      let behind = behind_bound r c own in
      le-ltb _ _ (omega (arith, behind, s.next, before_bound r a s.has)) ∙ sym (le-ltb c b (omega (arith, behind, s.second, cut.goes_on r range)))
  issued_second r n a b c range (inr s) own = ap (nat_lt (c + x.moved_second r)) s.next ∙ lt_shift c b (x.moved_second r)

  -- ---- configurations of the whole and of the parts

  pub record Both (m m1 m2 : Configuration) : Type 0 where
    pub whole : IsConfigurationOf p m
    pub first : IsConfigurationOf x.first m1
    pub second : IsConfigurationOf x.second m2
    pub stage : (r : ℕ) → r < p.ranks → Stage r (slice_index m.next r) (slice_index m1.next r) (slice_index m2.next r)
    pub buffered_first : (c : ℕ) (call : Call) → call_at x.first c ≡ Some call → get_or m.buffered (c + x.moved_first call.rank) false ≡ get_or m1.buffered c false
    pub buffered_second : (c : ℕ) (call : Call) → call_at x.second c ≡ Some call → get_or m.buffered (c + x.moved_second call.rank) false ≡ get_or m2.buffered c false
    pub partner_first : (c : ℕ) (call : Call) → call_at x.first c ≡ Some call → SamePartner x.first x.moved_first (get_or m.partner (c + x.moved_first call.rank) None) (get_or m1.partner c None)
    pub partner_second : (c : ℕ) (call : Call) → call_at x.second c ≡ Some call → SamePartner x.second x.moved_second (get_or m.partner (c + x.moved_second call.rank) None) (get_or m2.partner c None)

  pub seen_first : (m m1 m2 : Configuration) → Both m m1 m2 → IsSeen p x.first x.moved_first m m1
  seen_first m m1 m2 both =
      record {
        issued = λ c call there.
            let range : call.rank < p.ranks = omega (arith, (one.in_range c call there).own, cut.first.ranks) in
            ap (holds_of (is_issued_call m (c + x.moved_first call.rank))) (cut.first.calls c call there)
            ∙ issued_first call.rank _ _ _ c (both.stage call.rank range) (rank_is (call_at x.first c) call call.rank there refl)
            ∙ sym (ap (holds_of (is_issued_call m1 c)) there);
        buffered = both.buffered_first;
        partner = both.partner_first;
      }

  pub seen_second : (m m1 m2 : Configuration) → Both m m1 m2 → IsSeen p x.second x.moved_second m m2
  seen_second m m1 m2 both =
      record {
        issued = λ c call there.
            let range : call.rank < p.ranks = omega (arith, (two.in_range c call there).own, cut.second.ranks) in
            ap (holds_of (is_issued_call m (c + x.moved_second call.rank))) (cut.second.calls c call there)
            ∙ issued_second call.rank _ _ _ c range (both.stage call.rank range) (rank_is (call_at x.second c) call call.rank there refl)
            ∙ sym (ap (holds_of (is_issued_call m2 c)) there);
        buffered = both.buffered_second;
        partner = both.partner_second;
      }

  -- ---- one step

  -- the step of the whole is one of the first part, or of the second
  abbrev pub OneStep : Configuration → Configuration → Configuration → Type 0
  OneStep m m1 m2 =
      ((step : Step) × IsEnabled x.first m1 step × Both m (after m1 step) m2) ⊎ ((step : Step) × IsEnabled x.second m2 step × Both m m1 (after m2 step))

  place_is : (m : Configuration) (r : ℕ) (b : Bool) → (i : IssueParts p m r b) → slice_index m.next r ≡ i.place
  place_is m r b i = get_or_from_slice_get m.next r i.place 0 i.next

  in_range : (m : Configuration) (r : ℕ) (b : Bool) → IsConfigurationOf p m → IssueParts p m r b → r < p.ranks
  in_range m r b of i = omega (arith, of.next, slice_get_within m.next r i.place i.next)

  -- the first part issues its call
  module _ (m m1 m2 : Configuration) (both : Both m m1 m2) (r : ℕ) (b : Bool) (i : IssueParts p m r b) (s : InFirst r (slice_index m.next r) (slice_index m1.next r) (slice_index m2.next r)) (y : Call) (at_y : call_at x.first (slice_index m1.next r) ≡ Some y) (own : y.rank ≡ r) where
    first_here : slice_index m.next r ≡ slice_index m1.next r + x.moved_first y.rank
    first_here = s.next ∙ ap (λ (z : ℕ). slice_index m1.next r + x.moved_first z) (sym own)

    first_enabled : can_issue x.first m1 r b ≡ true
    first_enabled =
        let range = in_range m r b both.whole i in
        issue_made x.first m1 r b (slice_index m1.next r) y (slice_get-get_or m1.next r 0 (omega (arith, both.first.next, cut.first.ranks, range))) at_y own
        (before_in_part p x.first x.moved_first cut.first one m m1 (seen_first m m1 m2 both) r (slice_index m1.next r) (subst (λ (z : ℕ). has_returned_before p m r z ≡ true) (sym (place_is m r b i) ∙ s.next) i.before))
        (may_in_part p x.first x.moved_first cut.first (slice_index m1.next r) y i.call b at_y (subst (λ (z : ℕ). call_at p z ≡ Some i.call) (sym (place_is m r b i) ∙ first_here) i.there) i.may)

    first_stage : (q : ℕ) → q < p.ranks → Stage q (slice_index (slice_set m.next r (slice_index m.next r + 1)) q) (slice_index (slice_set m1.next r (slice_index m1.next r + 1)) q) (slice_index m2.next q)
    first_stage q range =
        elim (cases_eq q r) [
          | inl e ↦
              let here : r < p.ranks = omega (arith, range, e) in
              stage_is q _ _ _ (slice_index m.next r + 1) (slice_index m1.next r + 1) (slice_index m2.next r)
              (ap (slice_index (slice_set m.next r (slice_index m.next r + 1))) e ∙ get_or-set_same m.next r (slice_index m.next r + 1) 0 (omega (arith, here, both.whole.next)))
              (ap (slice_index (slice_set m1.next r (slice_index m1.next r + 1))) e ∙ get_or-set_same m1.next r (slice_index m1.next r + 1) 0 (omega (arith, here, both.first.next, cut.first.ranks)))
              (ap (slice_index m2.next) e)
              (subst (λ (z : ℕ). Stage z (slice_index m.next r + 1) (slice_index m1.next r + 1) (slice_index m2.next r)) (sym e) (first_issued r _ _ _ here s))
          | inr differ ↦
              stage_is q _ _ _ (slice_index m.next q) (slice_index m1.next q) (slice_index m2.next q)
              (get_or-set_other m.next r q (slice_index m.next r + 1) 0 differ) (get_or-set_other m1.next r q (slice_index m1.next r + 1) 0 differ) refl (both.stage q range)
        ]

    pub first_both : Both (after m (Issue r b)) (after m1 (Issue r b)) m2
    first_both =
        record {
          whole = configuration_after p m (Issue r b) both.whole;
          first = configuration_after x.first m1 (Issue r b) both.first;
          second = both.second;
          stage = first_stage;
          buffered_first = λ c call there.
              set_in_both (λ (u v : Bool). u ≡ v) m.buffered m1.buffered (slice_index m.next r) (slice_index m1.next r) (c + x.moved_first call.rank) c b b false
              (omega (arith, both.whole.buffered, place_is m r b i, slice_get_within p.calls i.place i.call i.there)) (omega (arith, both.first.buffered, slice_get_within x.first.calls (slice_index m1.next r) y at_y))
              (λ e. one_place p x.first x.moved_first cut.first c (slice_index m1.next r) call y there at_y (e ∙ first_here))
              (λ e. same_place p x.first x.moved_first cut.first c (slice_index m1.next r) call y there at_y e ∙ sym first_here)
              (both.buffered_first c call there) refl;
          buffered_second = λ c call there.
              get_or-set_other m.buffered (slice_index m.next r) (c + x.moved_second call.rank) b false (λ e. apart (slice_index m1.next r) c y call at_y there (sym (e ∙ first_here)))
              ∙ both.buffered_second c call there;
          partner_first = both.partner_first;
          partner_second = both.partner_second;
        }

  -- the second part issues its call
  module _ (m m1 m2 : Configuration) (both : Both m m1 m2) (r : ℕ) (b : Bool) (i : IssueParts p m r b) (s : InSecond r (slice_index m.next r) (slice_index m1.next r) (slice_index m2.next r)) where
    pub second_call : (y : Call) × (call_at x.second (slice_index m2.next r) ≡ Some y) × (y.rank ≡ r)
    second_call =
        elim (cut.each i.place i.call i.there) [
          | inl f ↦
              let rank = from_rank p x.first x.moved_first cut.first i.place r f (rank_is (call_at p i.place) i.call r i.there i.own) in
              absurd (omega (arith, f.is, cut.before f.place f.call f.there, ap x.bound rank, place_is m r b i, s.past))
          | inr f ↦
              let rank = from_rank p x.second x.moved_second cut.second i.place r f (rank_is (call_at p i.place) i.call r i.there i.own) in
              let same : f.place ≡ slice_index m2.next r = omega (arith, f.is, ap x.moved_second rank, place_is m r b i, s.next) in
              (f.call, subst (λ (z : ℕ). call_at x.second z ≡ Some f.call) same f.there, rank)
        ]

    module _ (y : Call) (at_y : call_at x.second (slice_index m2.next r) ≡ Some y) (own : y.rank ≡ r) where
      second_here : slice_index m.next r ≡ slice_index m2.next r + x.moved_second y.rank
      second_here = s.next ∙ ap (λ (z : ℕ). slice_index m2.next r + x.moved_second z) (sym own)

      pub second_enabled : can_issue x.second m2 r b ≡ true
      second_enabled =
          let range = in_range m r b both.whole i in
          issue_made x.second m2 r b (slice_index m2.next r) y (slice_get-get_or m2.next r 0 (omega (arith, both.second.next, cut.second.ranks, range))) at_y own
          (before_in_part p x.second x.moved_second cut.second two m m2 (seen_second m m1 m2 both) r (slice_index m2.next r) (subst (λ (z : ℕ). has_returned_before p m r z ≡ true) (sym (place_is m r b i) ∙ s.next) i.before))
          (may_in_part p x.second x.moved_second cut.second (slice_index m2.next r) y i.call b at_y (subst (λ (z : ℕ). call_at p z ≡ Some i.call) (sym (place_is m r b i) ∙ second_here) i.there) i.may)

      second_stage : (q : ℕ) → q < p.ranks → Stage q (slice_index (slice_set m.next r (slice_index m.next r + 1)) q) (slice_index m1.next q) (slice_index (slice_set m2.next r (slice_index m2.next r + 1)) q)
      second_stage q range =
          elim (cases_eq q r) [
            | inl e ↦
                let here : r < p.ranks = omega (arith, range, e) in
                stage_is q _ _ _ (slice_index m.next r + 1) (slice_index m1.next r) (slice_index m2.next r + 1)
                (ap (slice_index (slice_set m.next r (slice_index m.next r + 1))) e ∙ get_or-set_same m.next r (slice_index m.next r + 1) 0 (omega (arith, here, both.whole.next)))
                (ap (slice_index m1.next) e)
                (ap (slice_index (slice_set m2.next r (slice_index m2.next r + 1))) e ∙ get_or-set_same m2.next r (slice_index m2.next r + 1) 0 (omega (arith, here, both.second.next, cut.second.ranks)))
                (subst (λ (z : ℕ). Stage z (slice_index m.next r + 1) (slice_index m1.next r) (slice_index m2.next r + 1)) (sym e) (second_issued r _ _ _ s))
            | inr differ ↦
                stage_is q _ _ _ (slice_index m.next q) (slice_index m1.next q) (slice_index m2.next q)
                (get_or-set_other m.next r q (slice_index m.next r + 1) 0 differ) refl (get_or-set_other m2.next r q (slice_index m2.next r + 1) 0 differ) (both.stage q range)
          ]

      pub second_both : Both (after m (Issue r b)) m1 (after m2 (Issue r b))
      second_both =
          record {
            whole = configuration_after p m (Issue r b) both.whole;
            first = both.first;
            second = configuration_after x.second m2 (Issue r b) both.second;
            stage = second_stage;
            buffered_first = λ c call there.
                get_or-set_other m.buffered (slice_index m.next r) (c + x.moved_first call.rank) b false (λ e. apart c (slice_index m2.next r) call y there at_y (e ∙ second_here))
                ∙ both.buffered_first c call there;
            buffered_second = λ c call there.
                set_in_both (λ (u v : Bool). u ≡ v) m.buffered m2.buffered (slice_index m.next r) (slice_index m2.next r) (c + x.moved_second call.rank) c b b false
                (omega (arith, both.whole.buffered, place_is m r b i, slice_get_within p.calls i.place i.call i.there)) (omega (arith, both.second.buffered, slice_get_within x.second.calls (slice_index m2.next r) y at_y))
                (λ e. one_place p x.second x.moved_second cut.second c (slice_index m2.next r) call y there at_y (e ∙ second_here))
                (λ e. same_place p x.second x.moved_second cut.second c (slice_index m2.next r) call y there at_y e ∙ sym second_here)
                (both.buffered_second c call there) refl;
            partner_first = both.partner_first;
            partner_second = both.partner_second;
          }

  issue_step : (m m1 m2 : Configuration) → Both m m1 m2 → (r : ℕ) (b : Bool) → can_issue p m r b ≡ true → OneStep (after m (Issue r b)) m1 m2
  issue_step m m1 m2 both r b can =
      let i = issue_parts p m r b can in
      elim (both.stage r (in_range m r b both.whole i)) [
        | inl s ↦
            let y = of_rank (call_at x.first (slice_index m1.next r)) r s.has in
            inl (Issue r b, first_enabled m m1 m2 both r b i s y.0 y.1 y.2, first_both m m1 m2 both r b i s y.0 y.1 y.2)
        | inr s ↦
            let y = second_call m m1 m2 both r b i s in
            inr (Issue r b, second_enabled m m1 m2 both r b i s y.0 y.1 y.2, second_both m m1 m2 both r b i s y.0 y.1 y.2)
      ]

  -- both calls of the first part
  module _ (m m1 m2 : Configuration) (both : Both m m1 m2) (s t : ℕ) (a b : Call) (at_s : call_at x.first s ≡ Some a) (at_t : call_at x.first t ≡ Some b) where
    pub match_first_both : Both (after m (Match (s + x.moved_first a.rank) (t + x.moved_first b.rank))) (after m1 (Match s t)) m2
    match_first_both =
        record {
          whole = configuration_after p m (Match (s + x.moved_first a.rank) (t + x.moved_first b.rank)) both.whole;
          first = configuration_after x.first m1 (Match s t) both.first;
          second = both.second;
          stage = both.stage;
          buffered_first = both.buffered_first;
          buffered_second = both.buffered_second;
          partner_first = λ c call there. match_written p x.first x.moved_first cut.first m m1 s t a b at_s at_t both.whole.partner both.first.partner c call there (both.partner_first c call there);
          partner_second = λ c call there.
              subst (λ (z : Option ℕ). SamePartner x.second x.moved_second z (get_or m2.partner c None))
              (sym (get_or-set_other (slice_set m.partner (s + x.moved_first a.rank) (Some (t + x.moved_first b.rank))) (t + x.moved_first b.rank) (c + x.moved_second call.rank) (Some (s + x.moved_first a.rank)) None (λ e. apart t c b call at_t there (sym e))
              ∙ get_or-set_other m.partner (s + x.moved_first a.rank) (c + x.moved_second call.rank) (Some (t + x.moved_first b.rank)) None (λ e. apart s c a call at_s there (sym e))))
              (both.partner_second c call there);
        }

    match_first : CanMatch p m (s + x.moved_first a.rank) (t + x.moved_first b.rank) → OneStep (after m (Match (s + x.moved_first a.rank) (t + x.moved_first b.rank))) m1 m2
    match_first can =
        inl (
          Match s t,
          (sym (ap not (probe_moved p x.first x.moved_first cut.first t b at_t)) ∙ can.0, find_in_part p x.first x.moved_first cut.first one m m1 (seen_first m m1 m2 both) s t a b at_s at_t can.1),
          match_first_both,
        )

    pub see_first_both : Both (after m (See (s + x.moved_first a.rank) (t + x.moved_first b.rank))) (after m1 (See s t)) m2
    see_first_both =
        record {
          whole = configuration_after p m (See (s + x.moved_first a.rank) (t + x.moved_first b.rank)) both.whole;
          first = configuration_after x.first m1 (See s t) both.first;
          second = both.second;
          stage = both.stage;
          buffered_first = both.buffered_first;
          buffered_second = both.buffered_second;
          partner_first = λ c call there. see_written p x.first x.moved_first cut.first m m1 s t a b at_s at_t both.whole.partner both.first.partner c call there (both.partner_first c call there);
          partner_second = λ c call there.
              subst (λ (z : Option ℕ). SamePartner x.second x.moved_second z (get_or m2.partner c None))
              (sym (get_or-set_other m.partner (t + x.moved_first b.rank) (c + x.moved_second call.rank) (Some (s + x.moved_first a.rank)) None (λ e. apart t c b call at_t there (sym e))))
              (both.partner_second c call there);
        }

    see_first : CanSee p m (s + x.moved_first a.rank) (t + x.moved_first b.rank) → OneStep (after m (See (s + x.moved_first a.rank) (t + x.moved_first b.rank))) m1 m2
    see_first can =
        inl (
          See s t,
          (sym (probe_moved p x.first x.moved_first cut.first t b at_t) ∙ can.0, find_in_part p x.first x.moved_first cut.first one m m1 (seen_first m m1 m2 both) s t a b at_s at_t can.1),
          see_first_both,
        )

  -- both calls of the second part
  module _ (m m1 m2 : Configuration) (both : Both m m1 m2) (s t : ℕ) (a b : Call) (at_s : call_at x.second s ≡ Some a) (at_t : call_at x.second t ≡ Some b) where
    pub match_second_both : Both (after m (Match (s + x.moved_second a.rank) (t + x.moved_second b.rank))) m1 (after m2 (Match s t))
    match_second_both =
        record {
          whole = configuration_after p m (Match (s + x.moved_second a.rank) (t + x.moved_second b.rank)) both.whole;
          first = both.first;
          second = configuration_after x.second m2 (Match s t) both.second;
          stage = both.stage;
          buffered_first = both.buffered_first;
          buffered_second = both.buffered_second;
          partner_first = λ c call there.
              subst (λ (z : Option ℕ). SamePartner x.first x.moved_first z (get_or m1.partner c None))
              (sym (get_or-set_other (slice_set m.partner (s + x.moved_second a.rank) (Some (t + x.moved_second b.rank))) (t + x.moved_second b.rank) (c + x.moved_first call.rank) (Some (s + x.moved_second a.rank)) None (λ e. apart c t call b there at_t e)
              ∙ get_or-set_other m.partner (s + x.moved_second a.rank) (c + x.moved_first call.rank) (Some (t + x.moved_second b.rank)) None (λ e. apart c s call a there at_s e)))
              (both.partner_first c call there);
          partner_second = λ c call there. match_written p x.second x.moved_second cut.second m m2 s t a b at_s at_t both.whole.partner both.second.partner c call there (both.partner_second c call there);
        }

    match_second : CanMatch p m (s + x.moved_second a.rank) (t + x.moved_second b.rank) → OneStep (after m (Match (s + x.moved_second a.rank) (t + x.moved_second b.rank))) m1 m2
    match_second can =
        inr (
          Match s t,
          (sym (ap not (probe_moved p x.second x.moved_second cut.second t b at_t)) ∙ can.0, find_in_part p x.second x.moved_second cut.second two m m2 (seen_second m m1 m2 both) s t a b at_s at_t can.1),
          match_second_both,
        )

    pub see_second_both : Both (after m (See (s + x.moved_second a.rank) (t + x.moved_second b.rank))) m1 (after m2 (See s t))
    see_second_both =
        record {
          whole = configuration_after p m (See (s + x.moved_second a.rank) (t + x.moved_second b.rank)) both.whole;
          first = both.first;
          second = configuration_after x.second m2 (See s t) both.second;
          stage = both.stage;
          buffered_first = both.buffered_first;
          buffered_second = both.buffered_second;
          partner_first = λ c call there.
              subst (λ (z : Option ℕ). SamePartner x.first x.moved_first z (get_or m1.partner c None))
              (sym (get_or-set_other m.partner (t + x.moved_second b.rank) (c + x.moved_first call.rank) (Some (s + x.moved_second a.rank)) None (λ e. apart c t call b there at_t e)))
              (both.partner_first c call there);
          partner_second = λ c call there. see_written p x.second x.moved_second cut.second m m2 s t a b at_s at_t both.whole.partner both.second.partner c call there (both.partner_second c call there);
        }

    see_second : CanSee p m (s + x.moved_second a.rank) (t + x.moved_second b.rank) → OneStep (after m (See (s + x.moved_second a.rank) (t + x.moved_second b.rank))) m1 m2
    see_second can =
        inr (
          See s t,
          (sym (probe_moved p x.second x.moved_second cut.second t b at_t) ∙ can.0, find_in_part p x.second x.moved_second cut.second two m m2 (seen_second m m1 m2 both) s t a b at_s at_t can.1),
          see_second_both,
        )

  match_step : (m m1 m2 : Configuration) → Both m m1 m2 → (s f : ℕ) → AreOfOnePart x s f → CanMatch p m s f → OneStep (after m (Match s f)) m1 m2
  match_step m m1 m2 both s f (inl w) =
      subst (λ (z : ℕ). CanMatch p m z f → OneStep (after m (Match z f)) m1 m2) (sym w.0.is)
      (subst (λ (z : ℕ). CanMatch p m (w.0.place + x.moved_first w.0.call.rank) z → OneStep (after m (Match (w.0.place + x.moved_first w.0.call.rank) z)) m1 m2) (sym w.1.is)
      (match_first m m1 m2 both w.0.place w.1.place w.0.call w.1.call w.0.there w.1.there))
  match_step m m1 m2 both s f (inr w) =
      subst (λ (z : ℕ). CanMatch p m z f → OneStep (after m (Match z f)) m1 m2) (sym w.0.is)
      (subst (λ (z : ℕ). CanMatch p m (w.0.place + x.moved_second w.0.call.rank) z → OneStep (after m (Match (w.0.place + x.moved_second w.0.call.rank) z)) m1 m2) (sym w.1.is)
      (match_second m m1 m2 both w.0.place w.1.place w.0.call w.1.call w.0.there w.1.there))

  see_step : (m m1 m2 : Configuration) → Both m m1 m2 → (s f : ℕ) → AreOfOnePart x s f → CanSee p m s f → OneStep (after m (See s f)) m1 m2
  see_step m m1 m2 both s f (inl w) =
      subst (λ (z : ℕ). CanSee p m z f → OneStep (after m (See z f)) m1 m2) (sym w.0.is)
      (subst (λ (z : ℕ). CanSee p m (w.0.place + x.moved_first w.0.call.rank) z → OneStep (after m (See (w.0.place + x.moved_first w.0.call.rank) z)) m1 m2) (sym w.1.is)
      (see_first m m1 m2 both w.0.place w.1.place w.0.call w.1.call w.0.there w.1.there))
  see_step m m1 m2 both s f (inr w) =
      subst (λ (z : ℕ). CanSee p m z f → OneStep (after m (See z f)) m1 m2) (sym w.0.is)
      (subst (λ (z : ℕ). CanSee p m (w.0.place + x.moved_second w.0.call.rank) z → OneStep (after m (See (w.0.place + x.moved_second w.0.call.rank) z)) m1 m2) (sym w.1.is)
      (see_second m m1 m2 both w.0.place w.1.place w.0.call w.1.call w.0.there w.1.there))

  pub one_step : (m m1 m2 : Configuration) → Both m m1 m2 → (step : Step) → IsEnabled p m step → StaysInPart x step → OneStep (after m step) m1 m2
  one_step m m1 m2 both (Issue r b) enabled stays = issue_step m m1 m2 both r b enabled
  one_step m m1 m2 both (Match s f) enabled stays = match_step m m1 m2 both s f stays enabled
  one_step m m1 m2 both (See s f) enabled stays = see_step m m1 m2 both s f stays enabled

  -- ---- all steps

  -- runs of both parts that lead to what the whole's run led to
  pub record Walked (m m1 m2 : Configuration) : Type 0 where
    pub firsts : List Step
    pub seconds : List Step
    pub run_first : IsRun x.first m1 firsts
    pub run_second : IsRun x.second m2 seconds
    pub both : Both m (after_all m1 firsts) (after_all m2 seconds)

  walk : (m m1 m2 : Configuration) (steps : List Step) → Both m m1 m2 → IsRun p m steps → StayInParts x steps → Walked (after_all m steps) m1 m2
  walk m m1 m2 [] both run stay = record { firsts = []; seconds = []; run_first = tt; run_second = tt; both = both }
  walk m m1 m2 (step ∷ steps) both run stay =
      elim (one_step m m1 m2 both step run.0 stay.0) [
        | inl s ↦
            let rest = walk (after m step) (after m1 s.0) m2 steps s.2 run.1 stay.1 in
            record { firsts = s.0 ∷ rest.firsts; seconds = rest.seconds; run_first = (s.1, rest.run_first); run_second = rest.run_second; both = rest.both }
        | inr s ↦
            let rest = walk (after m step) m1 (after m2 s.0) steps s.2 run.1 stay.1 in
            record { firsts = rest.firsts; seconds = s.0 ∷ rest.seconds; run_first = rest.run_first; run_second = (s.1, rest.run_second); both = rest.both }
      ]

  opening_next : (q : MpiProgram) (r : ℕ) → r < q.ranks → slice_index (opening q).next r ≡ first_call q r
  opening_next q r range = get_or-map-range_with_len (first_call q) 0 q.ranks r r 0 range (omega arith)

  pub opening_both : Both (opening p) (opening x.first) (opening x.second)
  opening_both =
      record {
        whole = IsConfigurationOf-opening p (opening p) refl;
        first = IsConfigurationOf-opening x.first (opening x.first) refl;
        second = IsConfigurationOf-opening x.second (opening x.second) refl;
        stage = λ r range.
            stage_is r _ _ _ (first_call p r) (first_call x.first r) (first_call x.second r) (opening_next p r range) (opening_next x.first r (omega (arith, range, cut.first.ranks))) (opening_next x.second r (omega (arith, range, cut.second.ranks)))
            (opening_stage r range);
        buffered_first = λ c call there. none_yet false (length p.calls) (c + x.moved_first call.rank) ∙ sym (none_yet false (length x.first.calls) c);
        buffered_second = λ c call there. none_yet false (length p.calls) (c + x.moved_second call.rank) ∙ sym (none_yet false (length x.second.calls) c);
        partner_first = λ c call there. nobody x.first x.moved_first (length p.calls) (length x.first.calls) (c + x.moved_first call.rank) c;
        partner_second = λ c call there. nobody x.second x.moved_second (length p.calls) (length x.second.calls) (c + x.moved_second call.rank) c;
      }

  -- ---- where the whole is stuck, one of the parts is

  module _ (m m1 m2 : Configuration) (both : Both m m1 m2) where
    -- the call before one of the first part has returned in the whole where it has there
    pub before_first : (r a : ℕ) → a + x.moved_first r ≤ x.bound r → has_returned_before x.first m1 r a ≡ true → has_returned_before p m r (a + x.moved_first r) ≡ true
    before_first r a low h =
        before_from p m r (a + x.moved_first r) (λ k e own. let z = of_rank (call_at p k) r own in by k e own (cut.each k z.0 z.1))
      where
        by : (k : ℕ) → a + x.moved_first r ≡ k + 1 → is_of_rank (call_at p k) r ≡ true → IsFrom x.first x.moved_first k ⊎ IsFrom x.second x.moved_second k → is_returned p m k ≡ true
        by k e own (inl f) =
            let rank = from_rank p x.first x.moved_first cut.first k r f own in
            returned_from p x.first x.moved_first cut.first one m m1 (seen_first m m1 m2 both) k f
            (before_to x.first m1 r a h f.place (omega (arith, e, f.is, ap x.moved_first rank)) (rank_is (call_at x.first f.place) f.call r f.there rank))
        by k e own (inr f) =
            let rank = from_rank p x.second x.moved_second cut.second k r f own in
            absurd (omega (arith, e, low, f.is, cut.behind f.place f.call f.there, ap x.bound rank))

    -- the same of a call of the second part, where the last of the first part has returned
    pub before_second : (r n a b : ℕ) → InSecond r n a b → has_returned_before x.first m1 r a ≡ true → has_returned_before x.second m2 r b ≡ true → has_returned_before p m r n ≡ true
    before_second r n a b s done h =
        before_from p m r n (λ k e own. let z = of_rank (call_at p k) r own in by k e own (cut.each k z.0 z.1))
      where
        at_last : (k : ℕ) → n ≡ k + 1 → (f : IsFrom x.first x.moved_first k) → f.call.rank ≡ r → (t : Bool) → is_of_rank (call_at x.first (f.place + 1)) r ≡ t → is_returned p m k ≡ true
        at_last k e f rank true next = absurd (omega (arith, e, f.is, s.past, before_bound r (f.place + 1) next, ap x.moved_first rank))
        at_last k e f rank false next =
            let own = rank_is (call_at x.first f.place) f.call r f.there rank in
            returned_from p x.first x.moved_first cut.first one m m1 (seen_first m m1 m2 both) k f
            (before_to x.first m1 r a done f.place (s.last f.place own next) own)

        by : (k : ℕ) → n ≡ k + 1 → is_of_rank (call_at p k) r ≡ true → IsFrom x.first x.moved_first k ⊎ IsFrom x.second x.moved_second k → is_returned p m k ≡ true
        by k e own (inl f) = at_last k e f (from_rank p x.first x.moved_first cut.first k r f own) (is_of_rank (call_at x.first (f.place + 1)) r) refl
        by k e own (inr f) =
            let rank = from_rank p x.second x.moved_second cut.second k r f own in
            returned_from p x.second x.moved_second cut.second two m m2 (seen_second m m1 m2 both) k f
            (before_to x.second m2 r b h f.place (omega (arith, e, s.next, f.is, ap x.moved_second rank)) (rank_is (call_at x.second f.place) f.call r f.there rank))

    module _ (stuck : IsStuck p m) where
      no_open : (s f : ℕ) → IsOpenPair p m s f → ⊥
      no_open s f pair =
          let some = some_match_or_see_is_enabled p m s f pair in
          stuck.none_enabled _ some.enabled

      no_find_first : (s f : ℕ) → CanFind x.first m1 s f → ⊥
      no_find_first s f can =
          let there = fit_calls_there x.first s f can.fit in
          no_open _ _ (open_in_whole p x.first x.moved_first cut.first one m m1 (seen_first m m1 m2 both) s f there.0.0 there.1.0 there.0.1 there.1.1 can)

      no_find_second : (s f : ℕ) → CanFind x.second m2 s f → ⊥
      no_find_second s f can =
          let there = fit_calls_there x.second s f can.fit in
          no_open _ _ (open_in_whole p x.second x.moved_second cut.second two m m2 (seen_second m m1 m2 both) s f there.0.0 there.1.0 there.0.1 there.1.1 can)

      no_issue_first_as : (r : ℕ) (b : Bool) → (i : IssueParts x.first m1 r b) → r < p.ranks → Stage r (slice_index m.next r) (slice_index m1.next r) (slice_index m2.next r) → ⊥
      no_issue_first_as r b i range (inl s) =
          let here : slice_index m1.next r ≡ i.place = get_or_from_slice_get m1.next r i.place 0 i.next in
          let moved : x.moved_first i.call.rank ≡ x.moved_first r = ap x.moved_first i.own in
          let next : slice_index m.next r ≡ i.place + x.moved_first i.call.rank = omega (arith, s.next, here, moved) in
          let low : i.place + x.moved_first r ≤ x.bound r = omega (arith, cut.before i.place i.call i.there, moved, ap x.bound i.own) in
          let before : has_returned_before p m r (i.place + x.moved_first i.call.rank) ≡ true = subst (λ (z : ℕ). has_returned_before p m r (i.place + z) ≡ true) (sym moved) (before_first r i.place low i.before) in
          stuck.none_enabled (Issue r b) (issue_made p m r b (i.place + x.moved_first i.call.rank) (moved_call (x.moved_first i.call.rank) i.call)
          (slice_get-get_or m.next r 0 (omega (arith, range, both.whole.next)) ∙ ap Some next) (cut.first.calls i.place i.call i.there) i.own before (may_in_whole p x.first x.moved_first cut.first i.call b i.may))
      no_issue_first_as r b i range (inr s) =
          let here : slice_index m1.next r ≡ i.place = get_or_from_slice_get m1.next r i.place 0 i.next in
          no_two (is_of_rank (call_at x.first (slice_index m1.next r)) r) (ap (λ (z : ℕ). is_of_rank (call_at x.first z) r) here ∙ rank_is (call_at x.first i.place) i.call r i.there i.own) s.over

      none_first : (step : Step) → IsEnabled x.first m1 step → ⊥
      none_first (Issue r b) enabled =
          let i = issue_parts x.first m1 r b enabled in
          let range : r < p.ranks = omega (arith, both.first.next, slice_get_within m1.next r i.place i.next, cut.first.ranks) in
          no_issue_first_as r b i range (both.stage r range)
      none_first (Match s t) enabled = no_find_first s t enabled.1
      none_first (See s f) enabled = no_find_first s f enabled.1

      module _ (never_first : IsStuck x.first m1 → ⊥) (never_second : IsStuck x.second m2 → ⊥) where
        finished_first_as : (r : ℕ) → r < p.ranks → (t : Bool) → is_rank_finished x.first m1 r ≡ t → is_rank_finished x.first m1 r ≡ true
        finished_first_as r range true e = e
        finished_first_as r range false e = absurd (never_first (record { rank = r; in_range = omega (arith, range, cut.first.ranks); unfinished = e; none_enabled = none_first }))

        finished_first : (r : ℕ) → r < p.ranks → is_rank_finished x.first m1 r ≡ true
        finished_first r range = finished_first_as r range (is_rank_finished x.first m1 r) refl

        done_first : (r : ℕ) → r < p.ranks → (not (has_next x.first m1 r) ≡ true) × (has_returned_before x.first m1 r (slice_index m1.next r) ≡ true)
        done_first r range = and_true (not (has_next x.first m1 r)) (has_returned_before x.first m1 r (slice_index m1.next r)) (finished_first r range)

        in_second_as : (r : ℕ) → r < p.ranks → Stage r (slice_index m.next r) (slice_index m1.next r) (slice_index m2.next r) → InSecond r (slice_index m.next r) (slice_index m1.next r) (slice_index m2.next r)
        in_second_as r range (inl s) = no_two (not (has_next x.first m1 r)) (done_first r range).0 (ap not s.has)
        in_second_as r range (inr s) = s

        in_second : (r : ℕ) → r < p.ranks → InSecond r (slice_index m.next r) (slice_index m1.next r) (slice_index m2.next r)
        in_second r range = in_second_as r range (both.stage r range)

        none_second : (step : Step) → IsEnabled x.second m2 step → ⊥
        none_second (Issue r b) enabled =
            let i = issue_parts x.second m2 r b enabled in
            let range : r < p.ranks = omega (arith, both.second.next, slice_get_within m2.next r i.place i.next, cut.second.ranks) in
            let s = in_second r range in
            let here : slice_index m2.next r ≡ i.place = get_or_from_slice_get m2.next r i.place 0 i.next in
            let next : slice_index m.next r ≡ i.place + x.moved_second i.call.rank = omega (arith, s.next, here, ap x.moved_second i.own) in
            let done : has_returned_before x.second m2 r (slice_index m2.next r) ≡ true = subst (λ (z : ℕ). has_returned_before x.second m2 r z ≡ true) (sym here) i.before in
            let before : has_returned_before p m r (i.place + x.moved_second i.call.rank) ≡ true = subst (λ (z : ℕ). has_returned_before p m r z ≡ true) next (before_second r _ _ _ s (done_first r range).1 done) in
            stuck.none_enabled (Issue r b) (issue_made p m r b (i.place + x.moved_second i.call.rank) (moved_call (x.moved_second i.call.rank) i.call)
            (slice_get-get_or m.next r 0 (omega (arith, range, both.whole.next)) ∙ ap Some next) (cut.second.calls i.place i.call i.there) i.own before (may_in_whole p x.second x.moved_second cut.second i.call b i.may))
        none_second (Match s t) enabled = no_find_second s t enabled.1
        none_second (See s f) enabled = no_find_second s f enabled.1

        finished_second_as : (r : ℕ) → r < p.ranks → (t : Bool) → is_rank_finished x.second m2 r ≡ t → is_rank_finished x.second m2 r ≡ true
        finished_second_as r range true e = e
        finished_second_as r range false e = absurd (never_second (record { rank = r; in_range = omega (arith, range, cut.second.ranks); unfinished = e; none_enabled = none_second }))

        no_next_as : (r : ℕ) → r < p.ranks → (t : Bool) → has_next p m r ≡ t → has_next x.second m2 r ≡ false → not (has_next p m r) ≡ true
        no_next_as r range false e off = ap not e
        no_next_as r range true e off =
            let z = of_rank (call_at p (slice_index m.next r)) r e in
            absurd (by (cut.each (slice_index m.next r) z.0 z.1))
          where
            by : IsFrom x.first x.moved_first (slice_index m.next r) ⊎ IsFrom x.second x.moved_second (slice_index m.next r) → ⊥
            by (inl f) =
                let rank = from_rank p x.first x.moved_first cut.first (slice_index m.next r) r f e in
                omega (arith, f.is, cut.before f.place f.call f.there, ap x.bound rank, (in_second r range).past)
            by (inr f) =
                let rank = from_rank p x.second x.moved_second cut.second (slice_index m.next r) r f e in
                let same : f.place ≡ slice_index m2.next r = omega (arith, f.is, (in_second r range).next, ap x.moved_second rank) in
                no_two (has_next x.second m2 r) (ap (λ (z : ℕ). is_of_rank (call_at x.second z) r) (sym same) ∙ rank_is (call_at x.second f.place) f.call r f.there rank) off

        off_from_not : (t : Bool) → not t ≡ true → t ≡ false
        off_from_not true e = absurd (cc)
        off_from_not false e = refl

        no_stuck_rank : ⊥
        no_stuck_rank =
            let r = stuck.rank in
            let range = stuck.in_range in
            let done = and_true (not (has_next x.second m2 r)) (has_returned_before x.second m2 r (slice_index m2.next r)) (finished_second_as r range (is_rank_finished x.second m2 r) refl) in
            let finished : is_rank_finished p m r ≡ true =
            and_both (not (has_next p m r)) (has_returned_before p m r (slice_index m.next r)) (no_next_as r range (has_next p m r) refl (off_from_not (has_next x.second m2 r) done.0))
            (before_second r _ _ _ (in_second r range) (done_first r range).1 done.1) in
            no_two (is_rank_finished p m r) finished stuck.unfinished

pub whole_is_never_stuck : WholeIsNeverStuck
whole_is_never_stuck p x one two cut clean never_first never_second steps run =
    let w = walk p x one two cut (opening p) (opening x.first) (opening x.second) steps (opening_both p x one two cut) run.run (clean steps run.run) in
    no_stuck_rank p x one two cut (after_all (opening p) steps) (after_all (opening x.first) w.firsts) (after_all (opening x.second) w.seconds) w.both run.stuck
    (λ stuck. never_first w.firsts (record { run = w.run_first; stuck = stuck }))
    (λ stuck. never_second w.seconds (record { run = w.run_second; stuck = stuck }))
