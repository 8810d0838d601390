-- The open calls of a state, had to wait one after another.
use Rattle.std.proofs.Common.{◌≡◌, ℕ, ◌+◌, ◌<◌, ◌≤◌, ◌⊎◌, inl, inr, true, false, List, [], ◌∷◌, ◌++◌, length, slice_get, Option, Some, None, refl, sym, ap, ◌∙◌, subst, arith}
use Rattle.std.proofs.lemmas.Bool.{cases_eq}
use Rattle.std.proofs.lemmas.Option.{slice_get_within}
use Rattle.calltext.specs.Grammar.{long}
use Rattle.callorder.specs.declared.calls.Call.{Call}
use Rattle.callorder.specs.ProgramRules.{IsProgramWithin}
use Rattle.callorder.specs.Programs.{MpiProgram, call_at}
use Rattle.semantics.specs.Configurations.{is_open_call}
use Rattle.semantics.specs.Machine.{Configuration, opening, is_issued, is_issued_call}
use Rattle.callorder.proofs.Lookups.{slice_get_of_append}
use Rattle.callorder.specs.Calls.{holds_of, fits}
use Rattle.races.proofs.Passing.{none_issued}
use Rattle.races.proofs.Steps.{same_some}
use Rattle.races.proofs.Telling.{programs_are_in_order}
use Rattle.leastrun.specs.declared.rows.SlotRows.{SlotRows}
use Rattle.leastrun.specs.declared.slot.PatternForm.{PatternForm}
use Rattle.leastrun.specs.declared.tables.Tables.{Tables}
use Rattle.leastrun.specs.parts.Slots.{HasForms}
use Rattle.leastrun.specs.parts.Queues.{row, StandsIn, IsGrown}
use Rattle.leastrun.specs.parts.Waiting.{AreInOrder, IsFinderIn, IsFresh, IsKept, IsSendIn, NoOpenPair}
use Rattle.leastrun.specs.parts.Along.{AreApart, AreOpenCalls, IsAddedTo}
use Rattle.leastrun.proofs.Entries.{get_front, get_end, only_one}
use Rattle.leastrun.proofs.Openings.{open_parts, pair_open}
use Rattle.leastrun.proofs.Queued.{grown_there}
use Rattle.leastrun.proofs.Taking.{order_grown}

-- what stands in the rows comes before each of the calls from this place on
abbrev pub StandBefore : SlotRows → List ℕ → ℕ → Type 0
StandBefore rows calls place = (q i e j c : ℕ) → slice_get (row rows q) i ≡ Some e → place ≤ j → slice_get calls j ≡ Some c → e ≤ c

-- the calls before this place wait
pub record ArePosted (p : MpiProgram) (m : Configuration) (calls : List ℕ) (place : ℕ) (t : Tables) : Type 0 where
  pub all_forms : HasForms p t.forms.items
  pub sent : (i c : ℕ) (call : Call) → i < place → slice_get calls i ≡ Some c → call_at p c ≡ Some call → IsSendIn t.forms.items t.sends call c
  pub sought : (i c : ℕ) (call : Call) → i < place → slice_get calls i ≡ Some c → call_at p c ≡ Some call → IsFinderIn t.finders call c
  pub send_order : AreInOrder p m t.sends
  pub finder_order : AreInOrder p m t.finders
  pub sends_before : StandBefore t.sends calls place
  pub finders_before : StandBefore t.finders calls place

-- ---- none yet

nothing_stands : (p : MpiProgram) (rows : SlotRows) (q i e : ℕ) → IsProgramWithin long p → AreInOrder p (opening p) rows → slice_get (row rows q) i ≡ Some e → ⊥
nothing_stands p rows q i e is order there = none_issued p e (programs_are_in_order long p is).0 (order.issued q i e there)

order_of_nothing : (p : MpiProgram) (m : Configuration) (rows : SlotRows) → IsProgramWithin long p → AreInOrder p (opening p) rows → AreInOrder p m rows
order_of_nothing p m rows is order =
    record {
      issued = λ q i e there. absurd (nothing_stands p rows q i e is order there);
      ordered = λ q i j d e first second below one. absurd (nothing_stands p rows q i d is order first);
    }

pub none_posted : (p : MpiProgram) (m : Configuration) (calls : List ℕ) (t : Tables) → IsProgramWithin long p → IsKept p None (opening p) t → ArePosted p m calls 0 t
none_posted p m calls t is kept =
    record {
      all_forms = kept.all_forms;
      sent = λ i c call low. absurd (let never : ⊥ = omega (arith, low) in never);
      sought = λ i c call low. absurd (let never : ⊥ = omega (arith, low) in never);
      send_order = order_of_nothing p m t.sends is kept.send_order;
      finder_order = order_of_nothing p m t.finders is kept.finder_order;
      sends_before = λ q i e j c there. absurd (nothing_stands p t.sends q i e is kept.send_order there);
      finders_before = λ q i e j c there. absurd (nothing_stands p t.finders q i e is kept.finder_order there);
    }

-- ---- one more

before_more : (old new : SlotRows) (calls : List ℕ) (place c : ℕ) → IsGrown old new c → slice_get calls place ≡ Some c → ((i j d e : ℕ) → i < j → slice_get calls i ≡ Some d → slice_get calls j ≡ Some e → d ≤ e) → StandBefore old calls place → StandBefore new calls (place + 1)
before_more old new calls place c grown here rise before q i e j d there above listed =
    elim (grown.more q i e there) [
      | inl was ↦ before q i e j d was (omega (arith, above)) listed
      | inr is ↦
          let low : c ≤ d = rise place j c d (omega (arith, above)) here listed in
          omega (arith, low, is.1)
    ]

pub posted_more : (p : MpiProgram) (m : Configuration) (calls : List ℕ) (place : ℕ) (t new : Tables) (c : ℕ) → AreOpenCalls p m calls → ArePosted p m calls place t → slice_get calls place ≡ Some c → IsAddedTo p c t new → ArePosted p m calls (place + 1) new
posted_more p m calls place t new c opens posted here added =
    let issued : is_issued p m c ≡ true = (open_parts p m c (opens.are place c here)).0 in
    record {
      all_forms = subst (HasForms p) (sym added.forms) posted.all_forms;
      sent = λ i d call low listed there. subst (λ (z : List PatternForm). IsSendIn z new.sends call d) (sym added.forms) (sent_there i d call low listed there);
      sought = λ i d call low listed there q slot. elim (cases_eq i place) [
        | inl same ↦
            let is : c ≡ d = the_call i d same listed in
            subst (λ (z : ℕ). StandsIn new.finders q z) is (added.sought call (subst (λ (z : ℕ). call_at p z ≡ Some call) (sym is) there) q slot)
        | inr differ ↦ grown_there t.finders new.finders c q d added.finders (posted.sought i d call (omega (arith, low, differ)) listed there q slot)
      ];
      send_order = order_grown p m t.sends new.sends c issued (λ q i d stands one. posted.sends_before q i d place c stands (omega arith) here) added.sends posted.send_order;
      finder_order = order_grown p m t.finders new.finders c issued (λ q i d stands one. posted.finders_before q i d place c stands (omega arith) here) added.finders posted.finder_order;
      sends_before = before_more t.sends new.sends calls place c added.sends here opens.rise posted.sends_before;
      finders_before = before_more t.finders new.finders calls place c added.finders here opens.rise posted.finders_before;
    }
  where
    the_call : (i d : ℕ) → i ≡ place → slice_get calls i ≡ Some d → c ≡ d
    the_call i d same listed = same_some c d (sym here ∙ ap (slice_get calls) (sym same) ∙ listed)

    sent_there : (i d : ℕ) (call : Call) → i < place + 1 → slice_get calls i ≡ Some d → call_at p d ≡ Some call → IsSendIn t.forms.items new.sends call d
    sent_there i d call low listed there k q form form_listed slot = elim (cases_eq i place) [
      | inl same ↦
          let is : c ≡ d = the_call i d same listed in
          subst (λ (z : ℕ). StandsIn new.sends q z) is (added.sent call (subst (λ (z : ℕ). call_at p z ≡ Some call) (sym is) there) k q form form_listed slot)
      | inr differ ↦ grown_there t.sends new.sends c q d added.sends (posted.sent i d call (omega (arith, low, differ)) listed there k q form form_listed slot)
    ]

-- ---- all

pub kept_posted_all : (p : MpiProgram) (m : Configuration) (calls : List ℕ) (place : ℕ) (t : Tables) → AreOpenCalls p m calls → length calls ≤ place → ArePosted p m calls place t → IsKept p None m t
kept_posted_all p m calls place t opens all posted =
    record {
      all_forms = posted.all_forms;
      sent = λ c call opened old there.
          let w = opens.all c opened in
          posted.sent w.0 c call (omega (arith, all, slice_get_within calls w.0 c w.1)) w.1 there;
      sought = λ c call opened old there.
          let w = opens.all c opened in
          posted.sought w.0 c call (omega (arith, all, slice_get_within calls w.0 c w.1)) w.1 there;
      send_order = posted.send_order;
      finder_order = posted.finder_order;
    }

-- ---- no open send fits an open finder

pub none_open_apart : (p : MpiProgram) (m : Configuration) (calls : List ℕ) → AreOpenCalls p m calls → AreApart p calls → NoOpenPair p m
none_open_apart p m calls opens apart s f pair =
    let both = pair_open p m s f pair in
    let send = opens.all s both.0 in
    let finder = opens.all f both.1 in
    apart send.0 s send.1 finder.0 f finder.1 pair.fit

pub none_fresh : (p : MpiProgram) (m : Configuration) (fresh : Option ℕ) → NoOpenPair p m → fresh ≡ None → IsFresh p m fresh
none_fresh p m fresh none_open none =
    record {
      only = λ s f pair. absurd (none_open s f pair);
      issued = λ c here. absurd (let both : ◌≡◌ {A = Option ℕ} None (Some c) = sym none ∙ here in cc);
      last = λ c d here issued one. absurd (let both : ◌≡◌ {A = Option ℕ} None (Some c) = sym none ∙ here in cc);
    }

-- ---- the open calls of a state

-- all open calls below this one, rising, and no other
pub record AreOpenBelow (p : MpiProgram) (m : Configuration) (end : ℕ) (calls : List ℕ) : Type 0 where
  pub all : (c : ℕ) → c < end → is_open_call p m c ≡ true → (i : ℕ) × (slice_get calls i ≡ Some c)
  pub are : (i c : ℕ) → slice_get calls i ≡ Some c → is_open_call p m c ≡ true
  pub below : (i c : ℕ) → slice_get calls i ≡ Some c → c < end
  pub rise : (i j c d : ℕ) → i < j → slice_get calls i ≡ Some c → slice_get calls j ≡ Some d → c ≤ d

pub none_below : (p : MpiProgram) (m : Configuration) (calls : List ℕ) → calls ≡ [] → AreOpenBelow p m 0 calls
none_below p m calls none =
    let nothing : (i c : ℕ) → slice_get calls i ≡ Some c → ⊥ = λ i c there.
    let low : i < length calls = slice_get_within calls i c there in
    omega (arith, low, ap length none) in
    record {
      all = λ c low. absurd (let never : ⊥ = omega (arith, low) in never);
      are = λ i c there. absurd (nothing i c there);
      below = λ i c there. absurd (nothing i c there);
      rise = λ i j c d low there. absurd (nothing i c there);
    }

-- a call that isn't open is passed
pub below_passed : (p : MpiProgram) (m : Configuration) (end : ℕ) (calls : List ℕ) → AreOpenBelow p m end calls → is_open_call p m end ≡ false → AreOpenBelow p m (end + 1) calls
below_passed p m end calls opens closed =
    record {
      all = λ c low opened. elim (cases_eq c end) [
        | inl same ↦ absurd (let still : is_open_call p m end ≡ true = subst (λ (z : ℕ). is_open_call p m z ≡ true) same opened in let never : ⊥ = cc in never)
        | inr differ ↦ opens.all c (omega (arith, low, differ)) opened
      ];
      are = opens.are;
      below = λ i c there. omega (arith, opens.below i c there);
      rise = opens.rise;
    }

-- an open call is put at the end
pub below_put : (p : MpiProgram) (m : Configuration) (end : ℕ) (calls new : List ℕ) → AreOpenBelow p m end calls → is_open_call p m end ≡ true → new ≡ calls ++ end ∷ [] → AreOpenBelow p m (end + 1) new
below_put p m end calls new opens opened more =
    record {
      all = λ c low is. elim (cases_eq c end) [
        | inl same ↦ (length calls, subst (λ (z : ℕ). slice_get new (length calls) ≡ Some z) (sym same) (subst (λ (z : List ℕ). slice_get z (length calls) ≡ Some end) (sym more) (get_end calls end)))
        | inr differ ↦ let w = opens.all c (omega (arith, low, differ)) is in (w.0, subst (λ (z : List ℕ). slice_get z w.0 ≡ Some c) (sym more) (get_front calls (end ∷ []) w.0 c w.1))
      ];
      are = λ i c there. elim (old_or_last i c there) [
        | inl old ↦ opens.are i c old.0
        | inr last ↦ subst (λ (z : ℕ). is_open_call p m z ≡ true) (sym last.1) opened
      ];
      below = λ i c there. elim (old_or_last i c there) [
        | inl old ↦ omega (arith, opens.below i c old.0)
        | inr last ↦ omega (arith, last.1)
      ];
      rise = λ i j c d low one other. elim (old_or_last j d other) [
        | inl old ↦ elim (old_or_last i c one) [
          | inl before ↦ opens.rise i j c d low before.0 old.0
          | inr last ↦ absurd (let never : ⊥ = omega (arith, low, last.0, old.1) in never)
        ]
        | inr last ↦ elim (old_or_last i c one) [
          | inl before ↦ omega (arith, last.1, opens.below i c before.0)
          | inr also ↦ omega (arith, last.1, also.1)
        ]
      ];
    }
  where
    old_or_last : (i c : ℕ) → slice_get new i ≡ Some c → ((slice_get calls i ≡ Some c) × (i < length calls)) ⊎ ((length calls ≤ i) × (c ≡ end))
    old_or_last i c there = elim (slice_get_of_append calls (end ∷ []) i c (subst (λ (z : List ℕ). slice_get z i ≡ Some c) more there)) [
      | inl front ↦ inl front
      | inr back ↦ inr (omega (arith, back.1), (only_one end c back.0 back.2).1)
    ]

opened_within : (p : MpiProgram) (m : Configuration) (c : ℕ) → is_open_call p m c ≡ true → c < length p.calls
opened_within p m c opened = by_call (call_at p c) refl (open_parts p m c opened).0
  where
    by_call : (x : Option Call) → call_at p c ≡ x → holds_of (is_issued_call m c) x ≡ true → c < length p.calls
    by_call None e h = absurd (cc)
    by_call (Some x) e h = slice_get_within p.calls c x e

pub all_open : (p : MpiProgram) (m : Configuration) (end : ℕ) (calls : List ℕ) → length p.calls ≤ end → AreOpenBelow p m end calls → AreOpenCalls p m calls
all_open p m end calls all opens =
    record {
      all = λ c opened. opens.all c (omega (arith, all, opened_within p m c opened)) opened;
      are = opens.are;
      rise = opens.rise;
    }
