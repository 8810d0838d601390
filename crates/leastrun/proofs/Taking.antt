-- What waits once a step is taken, and once the fresh call waits too.
use Rattle.std.proofs.Common.{◌≡◌, ◌≢◌, ℕ, ◌+◌, ◌<◌, ◌≤◌, inl, inr, Bool, true, false, length, slice_get, slice_set, slice_index, Option, Some, None, sym, ◌∙◌, ap, subst, refl, arith, List}
use Rattle.std.proofs.lemmas.Bool.{cases_eq}
use Rattle.std.proofs.lemmas.Option.{slice_get_within}
use Rattle.callorder.specs.declared.calls.Call.{Call}
use Rattle.callorder.specs.Programs.{MpiProgram, call_at, are_of_one_rank}
use Rattle.callorder.specs.Calls.{holds_of}
use Rattle.semantics.specs.declared.state.Step.{Step}
use Rattle.semantics.specs.declared.state.Step.TheVariants.{Issue, Match, See}
use Rattle.semantics.specs.Configurations.{is_open_call}
use Rattle.semantics.specs.Machine.{Configuration, after, is_issued, is_issued_call, is_matched}
use Rattle.semantics.proofs.Lengths.{Issues, issues, issued_grows, matched_grows}
use Rattle.races.proofs.Steps.{is_or_not, next_is, now_issued, issued_within, one_rank, same_some}
use Rattle.races.proofs.Passing.{issued_call_before}
use Rattle.leastrun.specs.declared.rows.SlotRows.{SlotRows}
use Rattle.leastrun.specs.declared.tables.Tables.{Tables}
use Rattle.leastrun.specs.declared.slot.PatternForm.{PatternForm}
use Rattle.leastrun.specs.parts.Slots.{HasForms}
use Rattle.leastrun.specs.parts.Along.{IsAddedTo}
use Rattle.leastrun.specs.parts.Queues.{row, StandsIn, IsGrown, IsPassed}
use Rattle.leastrun.specs.declared.walk.Buffering.{Buffering}
use Rattle.leastrun.specs.parts.Waiting.{IsSendIn, AreInOrder, IsKept, NoOpenPair, IsFresh, fresh_after, IsSettled, IsNext}
use Rattle.leastrun.proofs.Queued.{grown_there}
use Rattle.leastrun.proofs.Openings.{open_made, open_parts, pair_made, pair_open}

-- ---- what was open before a step

free_before : (m : Configuration) (step : Step) (c : ℕ) → is_matched (after m step) c ≡ false → is_matched m c ≡ false
free_before m step c free =
    elim (is_or_not (is_matched m c)) [
      | inl matched ↦ let still : is_matched (after m step) c ≡ true = matched_grows m step c matched in absurd (cc)
      | inr h ↦ h
    ]

issued_call_same : (m : Configuration) (partner : List (Option ℕ)) (c : ℕ) (x : Option Call) → holds_of (is_issued_call (record m { partner = partner }) c) x ≡ holds_of (is_issued_call m c) x
issued_call_same m partner c None = refl
issued_call_same m partner c (Some x) = refl

issued_before_find : (p : MpiProgram) (m : Configuration) (step : Step) (c : ℕ) → ((rank : ℕ) (buffered : Bool) → step ≡ Issue rank buffered → ⊥) → is_issued p (after m step) c ≡ true → is_issued p m c ≡ true
issued_before_find p m (Issue r b) c other h = absurd (other r b refl)
issued_before_find p m (Match s t) c other h = sym (issued_call_same m (slice_set (slice_set m.partner s (Some t)) t (Some s)) c (call_at p c)) ∙ h
issued_before_find p m (See s f) c other h = sym (issued_call_same m (slice_set m.partner f (Some s)) c (call_at p c)) ∙ h

open_before_find : (p : MpiProgram) (m : Configuration) (step : Step) (c : ℕ) → ((rank : ℕ) (buffered : Bool) → step ≡ Issue rank buffered → ⊥) → is_open_call p (after m step) c ≡ true → is_open_call p m c ≡ true
open_before_find p m step c other h =
    let parts = open_parts p (after m step) c h in
    open_made p m c (issued_before_find p m step c other parts.0) (free_before m step c parts.1)

issued_before_issue : (p : MpiProgram) (m : Configuration) (r : ℕ) (b : Bool) (c : ℕ) → (w : Issues p m r) → c ≢ w.place → is_issued p (after m (Issue r b)) c ≡ true → is_issued p m c ≡ true
issued_before_issue p m r b c w differ h =
    issued_call_before m r w.place c b (call_at p c) (slice_get_within m.next r w.place w.next) (next_is p m r w) differ h

open_before_issue : (p : MpiProgram) (m : Configuration) (r : ℕ) (b : Bool) (c : ℕ) → (w : Issues p m r) → c ≢ w.place → is_open_call p (after m (Issue r b)) c ≡ true → is_open_call p m c ≡ true
open_before_issue p m r b c w differ h =
    let parts = open_parts p (after m (Issue r b)) c h in
    open_made p m c (issued_before_issue p m r b c w differ parts.0) (free_before m (Issue r b) c parts.1)

order_after : (p : MpiProgram) (m : Configuration) (rows : SlotRows) (step : Step) → AreInOrder p m rows → AreInOrder p (after m step) rows
order_after p m rows step order =
    record {
      issued = λ q i e there. issued_grows p m step e (order.issued q i e there);
      ordered = order.ordered;
    }

-- ---- a find

kept_by_find : (p : MpiProgram) (m : Configuration) (fresh : Option ℕ) (t : Tables) (step : Step) → IsKept p fresh m t → ((rank : ℕ) (buffered : Bool) → step ≡ Issue rank buffered → ⊥) → IsKept p fresh (after m step) t
kept_by_find p m fresh t step kept other =
    record {
      all_forms = kept.all_forms;
      sent = λ c call opened old there. kept.sent c call (open_before_find p m step c other opened) old there;
      sought = λ c call opened old there. kept.sought c call (open_before_find p m step c other opened) old there;
      send_order = order_after p m t.sends step kept.send_order;
      finder_order = order_after p m t.finders step kept.finder_order;
    }

fresh_by_find : (p : MpiProgram) (m : Configuration) (step : Step) (fresh : Option ℕ) → IsFresh p m fresh → ((rank : ℕ) (buffered : Bool) → step ≡ Issue rank buffered → ⊥) → IsFresh p (after m step) fresh
fresh_by_find p m step fresh new other =
    record {
      only = λ s f pair.
          let both = pair_open p (after m step) s f pair in
          new.only s f (pair_made p m s f (open_before_find p m step s other both.0) (open_before_find p m step f other both.1) pair.fit);
      issued = λ c is. issued_grows p m step c (new.issued c is);
      last = λ c d is issued one. new.last c d is (issued_before_find p m step d other issued) one;
    }

-- ---- an issue

before_next : (p : MpiProgram) (m : Configuration) (r d : ℕ) → (w : Issues p m r) → is_issued p m d ≡ true → are_of_one_rank p d w.place ≡ true → d < w.place
before_next p m r d w issued same =
    let o = one_rank p d w.place same in
    let both : ◌≡◌ {A = Option Call} (Some o.1) (Some w.call) = sym o.3 ∙ w.there in
    let call : o.1 ≡ w.call = cc in
    let rank : o.0.rank ≡ r = o.4 ∙ ap (λ (z : Call). z.rank) call ∙ w.own in
    let within : d < slice_index m.next o.0.rank = issued_within p m d o.0 o.2 issued in
    let there : d < slice_index m.next r = subst (λ (z : ℕ). d < slice_index m.next z) rank within in
    omega (arith, there, next_is p m r w)

kept_by_issue : (p : MpiProgram) (m : Configuration) (fresh : Option ℕ) (t : Tables) (r : ℕ) (b : Bool) → (w : Issues p m r) → IsKept p fresh m t → fresh ≡ None → IsKept p (slice_get m.next r) (after m (Issue r b)) t
kept_by_issue p m fresh t r b w kept none =
    record {
      all_forms = kept.all_forms;
      sent = λ c call opened old there. kept.sent c call (open_before_issue p m r b c w (not_new c old) opened) (nothing c) there;
      sought = λ c call opened old there. kept.sought c call (open_before_issue p m r b c w (not_new c old) opened) (nothing c) there;
      send_order = order_after p m t.sends (Issue r b) kept.send_order;
      finder_order = order_after p m t.finders (Issue r b) kept.finder_order;
    }
  where
    not_new : (c : ℕ) → (slice_get m.next r ≡ Some c → ⊥) → c ≢ w.place
    not_new c old same = old (w.next ∙ ap (λ (z : ℕ). Some z) (sym same))

    nothing : (c : ℕ) → fresh ≡ Some c → ⊥
    nothing c is = let both : ◌≡◌ {A = Option ℕ} None (Some c) = sym none ∙ is in absurd (cc)

fresh_by_issue : (p : MpiProgram) (m : Configuration) (r : ℕ) (b : Bool) → (w : Issues p m r) → NoOpenPair p m → IsFresh p (after m (Issue r b)) (slice_get m.next r)
fresh_by_issue p m r b w none_open =
    record {
      only = λ s f pair.
          let both = pair_open p (after m (Issue r b)) s f pair in
          elim (cases_eq s w.place) [
            | inl same ↦ inl (w.next ∙ ap (λ (z : ℕ). Some z) (sym same))
            | inr s_differs ↦ elim (cases_eq f w.place) [
              | inl same ↦ inr (w.next ∙ ap (λ (z : ℕ). Some z) (sym same))
              | inr f_differs ↦ absurd (none_open s f (pair_made p m s f (open_before_issue p m r b s w s_differs both.0) (open_before_issue p m r b f w f_differs both.1) pair.fit))
            ]
          ];
      issued = λ c is. subst (λ (z : ℕ). is_issued p (after m (Issue r b)) z ≡ true) (the_place c is) (now_issued p m r b w);
      last = λ c d is issued one.
          let one_there : are_of_one_rank p d w.place ≡ true = subst (λ (z : ℕ). are_of_one_rank p d z ≡ true) (sym (the_place c is)) one in
          elim (cases_eq d w.place) [
            | inl same ↦ omega (arith, same, the_place c is)
            | inr differ ↦
                let low : d < w.place = before_next p m r d w (issued_before_issue p m r b d w differ issued) one_there in
                omega (arith, low, the_place c is)
          ];
    }
  where
    the_place : (c : ℕ) → slice_get m.next r ≡ Some c → w.place ≡ c
    the_place c is = same_some w.place c (sym w.next ∙ is)

-- ---- a step

pub kept_after : (buffering : Buffering) (p : MpiProgram) (m : Configuration) (fresh : Option ℕ) (t : Tables) (step : Step) → IsKept p fresh m t → IsNext buffering p m step → IsSettled fresh step → IsKept p (fresh_after m fresh step) (after m step) t
kept_after buffering p m fresh t (Issue r b) kept next settled = kept_by_issue p m fresh t r b (issues p m r b next.enabled) kept (settled r b refl)
kept_after buffering p m fresh t (Match s f) kept next settled = kept_by_find p m fresh t (Match s f) kept (λ rank buffered is. absurd (cc))
kept_after buffering p m fresh t (See s f) kept next settled = kept_by_find p m fresh t (See s f) kept (λ rank buffered is. absurd (cc))

pub still_fresh : (buffering : Buffering) (p : MpiProgram) (m : Configuration) (fresh : Option ℕ) (step : Step) → IsFresh p m fresh → IsNext buffering p m step → IsFresh p (after m step) (fresh_after m fresh step)
still_fresh buffering p m fresh (Issue r b) new next = fresh_by_issue p m r b (issues p m r b next.enabled) (next.settled r b refl)
still_fresh buffering p m fresh (Match s f) new next = fresh_by_find p m (Match s f) fresh new (λ rank buffered is. absurd (cc))
still_fresh buffering p m fresh (See s f) new next = fresh_by_find p m (See s f) fresh new (λ rank buffered is. absurd (cc))

-- ---- the fresh call waits

pub order_grown : (p : MpiProgram) (m : Configuration) (old new : SlotRows) (c : ℕ) → is_issued p m c ≡ true → ((q i d : ℕ) → slice_get (row old q) i ≡ Some d → are_of_one_rank p d c ≡ true → d ≤ c) → IsGrown old new c → AreInOrder p m old → AreInOrder p m new
order_grown p m old new c issued last grown order =
    record {
      issued = λ q i e there. elim (grown.more q i e there) [
        | inl before ↦ order.issued q i e before
        | inr new_e ↦ subst (λ (z : ℕ). is_issued p m z ≡ true) (sym new_e.1) issued
      ];
      ordered = λ q i j d e first second below one. elim (grown.more q j e second) [
        | inl old_e ↦ elim (grown.more q i d first) [
          | inl old_d ↦ order.ordered q i j d e old_d old_e below one
          | inr new_d ↦
              let low : j < length (row old q) = slice_get_within (row old q) j e old_e in
              absurd (let never : ⊥ = omega (arith, low, new_d.0, below) in never)
        ]
        | inr new_e ↦ elim (grown.more q i d first) [
          | inl old_d ↦
              let low : d ≤ c = last q i d old_d (subst (λ (z : ℕ). are_of_one_rank p d z ≡ true) new_e.1 one) in
              omega (arith, low, new_e.1)
          | inr new_d ↦ omega (arith, new_d.1, new_e.1)
        ]
      ];
    }

not_some : (c d : ℕ) → (c ≡ d → ⊥) → ◌≡◌ {A = Option ℕ} (Some c) (Some d) → ⊥
not_some c d differ is = differ (same_some c d is)

pub kept_posted : (p : MpiProgram) (m : Configuration) (t new : Tables) (c : ℕ) → IsFresh p m (Some c) → IsKept p (Some c) m t → IsAddedTo p c t new → IsKept p None m new
kept_posted p m t new c fresh kept added =
    record {
      all_forms = subst (HasForms p) (sym added.forms) kept.all_forms;
      sent = λ d other opened old there. subst (λ (z : List PatternForm). IsSendIn z new.sends other d) (sym added.forms) (sent_there d other opened there);
      sought = λ d other opened old there q slot. elim (cases_eq c d) [
        | inl same ↦ subst (λ (z : ℕ). StandsIn new.finders q z) same (added.sought other (subst (λ (z : ℕ). call_at p z ≡ Some other) (sym same) there) q slot)
        | inr differ ↦ grown_there t.finders new.finders c q d added.finders (kept.sought d other opened (not_some c d differ) there q slot)
      ];
      send_order = order_grown p m t.sends new.sends c (fresh.issued c refl) (λ q i d there one. fresh.last c d refl (kept.send_order.issued q i d there) one) added.sends kept.send_order;
      finder_order = order_grown p m t.finders new.finders c (fresh.issued c refl) (λ q i d there one. fresh.last c d refl (kept.finder_order.issued q i d there) one) added.finders kept.finder_order;
    }
  where
    sent_there : (d : ℕ) (other : Call) → is_open_call p m d ≡ true → call_at p d ≡ Some other → IsSendIn t.forms.items new.sends other d
    sent_there d other opened there i q form listed slot = elim (cases_eq c d) [
      | inl same ↦ subst (λ (z : ℕ). StandsIn new.sends q z) same (added.sent other (subst (λ (z : ℕ). call_at p z ≡ Some other) (sym same) there) i q form listed slot)
      | inr differ ↦ grown_there t.sends new.sends c q d added.sends (kept.sent d other opened (not_some c d differ) there i q form listed slot)
    ]

-- a fresh call that isn't open needs no place
pub kept_closed : (p : MpiProgram) (m : Configuration) (t : Tables) (c : ℕ) → IsKept p (Some c) m t → is_open_call p m c ≡ false → IsKept p None m t
kept_closed p m t c kept closed =
    record {
      all_forms = kept.all_forms;
      sent = λ d call opened old there. kept.sent d call opened (not_some c d (not_this d opened)) there;
      sought = λ d call opened old there. kept.sought d call opened (not_some c d (not_this d opened)) there;
      send_order = kept.send_order;
      finder_order = kept.finder_order;
    }
  where
    not_this : (d : ℕ) → is_open_call p m d ≡ true → c ≡ d → ⊥
    not_this d opened same = let still : is_open_call p m c ≡ true = subst (λ (z : ℕ). is_open_call p m z ≡ true) (sym same) opened in absurd (cc)

-- ---- what is matched is taken off

order_passed : (p : MpiProgram) (m : Configuration) (old new : SlotRows) → IsPassed m old new → AreInOrder p m old → AreInOrder p m new
order_passed p m old new passed order =
    record {
      issued = λ q i e there. let w = passed.behind q in order.issued q (w.0 + i) e (w.1 i e there);
      ordered = λ q i j d e first second below one. let w = passed.behind q in order.ordered q (w.0 + i) (w.0 + j) d e (w.1 i d first) (w.1 j e second) (omega (arith, below)) one;
    }

pub kept_passed : (p : MpiProgram) (m : Configuration) (fresh : Option ℕ) (t : Tables) (sends finders : SlotRows) → IsPassed m t.sends sends → IsPassed m t.finders finders → IsKept p fresh m t → IsKept p fresh m (record t { sends = sends; finders = finders })
kept_passed p m fresh t sends finders one other kept =
    record {
      all_forms = kept.all_forms;
      sent = λ c call opened old there i q form listed slot. one.stays q c (open_parts p m c opened).1 (kept.sent c call opened old there i q form listed slot);
      sought = λ c call opened old there q slot. other.stays q c (open_parts p m c opened).1 (kept.sought c call opened old there q slot);
      send_order = order_passed p m t.sends sends one kept.send_order;
      finder_order = order_passed p m t.finders finders other kept.finder_order;
    }
