-- The mates of the fresh call: where they stand, and which of them is the earliest.
use Rattle.std.proofs.Common.{◌≡◌, ℕ, ◌+◌, ◌<◌, ◌≤◌, ◌⊎◌, inl, inr, Bool, true, false, List, length, slice_get, Option, Some, None, cond, nat_lt, sym, ◌∙◌, ap, subst, arith}
use Rattle.std.specs.Prelude.{IfSome, IfNone}
use Rattle.std.proofs.lemmas.Bool.{cases_lt, cases_eq}
use Rattle.std.proofs.lemmas.Option.{slice_get_within}
use Rattle.std.proofs.lemmas.Bool.Decides.{nat_tests}
use Rattle.callorder.specs.declared.calls.Call.{Call}
use Rattle.callorder.specs.Programs.{MpiProgram, call_at, are_fit}
use Rattle.semantics.specs.Configurations.{is_open_call}
use Rattle.semantics.specs.Machine.{Configuration}
use Rattle.races.proofs.Steps.{is_or_not, same_some, one_rank_back}
use Rattle.leastrun.specs.declared.slot.PatternForm.{PatternForm}
use Rattle.leastrun.specs.declared.rows.SlotRows.{SlotRows}
use Rattle.leastrun.specs.declared.tables.Tables.{Tables}
use Rattle.leastrun.specs.parts.Slots.{send_slot, finder_slot, form_of}
use Rattle.leastrun.specs.parts.Queues.{row, StandsIn}
use Rattle.leastrun.specs.parts.Waiting.{IsKept, AreInOrder, is_mate, IsFirstMate, NoMateAmong, IsLeastIn, NoMateIn, lesser, IsLeastMate, NoFinder, NoSend, NoMate}
use Rattle.leastrun.proofs.Slotting.{fit_of, same_form, same_at, not_both, not_itself, one_receiver, no_send_slot, send_fits, finder_fits}
use Rattle.leastrun.proofs.Openings.{mate_made, mate_open, mate_fits}

-- ---- the first mate in a row

pub least_in : (p : MpiProgram) (m : Configuration) (rows : SlotRows) (q c x : ℕ) → AreInOrder p m rows → IsFirstMate p m (row rows q) c x → IsLeastIn p m rows q c x
least_in p m rows q c x order found =
    record {
      mate = found.mate;
      least = λ y mate stands one. elim (cases_lt stands.0 found.place) [
        | inl before ↦ let off : is_mate p m c y ≡ false = found.first stands.0 y before stands.1 in absurd (cc)
        | inr behind ↦ elim (cases_eq found.place stands.0) [
          | inl same ↦
              let is : x ≡ y = same_some x y (sym found.there ∙ ap (slice_get (row rows q)) same ∙ stands.1) in
              omega (arith, is)
          | inr differ ↦ order.ordered q found.place stands.0 x y found.there stands.1 (omega (arith, behind, differ)) (one_rank_back p y x one)
        ]
      ];
    }

pub none_in : (p : MpiProgram) (m : Configuration) (rows : SlotRows) (q c : ℕ) → NoMateAmong p m (row rows q) c → NoMateIn p m rows q c
none_in p m rows q c none y mate stands =
    let off : is_mate p m c y ≡ false = none stands.0 y stands.1 in
    absurd (cc)

-- ---- the sends that fit the fresh call

not_same : (c y : ℕ) → (c ≡ y → ⊥) → ◌≡◌ {A = Option ℕ} (Some c) (Some y) → ⊥
not_same c y differ is = differ (same_some c y is)

not_own : (p : MpiProgram) (c y : ℕ) → are_fit p c y ≡ true → c ≡ y → ⊥
not_own p c y fit same = not_itself p c (subst (λ (z : ℕ). are_fit p c z ≡ true) (sym same) fit)

send_stands : (p : MpiProgram) (m : Configuration) (t : Tables) (c y q : ℕ) (call : Call) → IsKept p (Some c) m t → call_at p c ≡ Some call → finder_slot call ≡ Some q → is_open_call p m y ≡ true → are_fit p y c ≡ true → StandsIn t.sends q y
send_stands p m t c y q call kept here slot opened fit =
    let a = fit_of p y c fit in
    let same : a.finder ≡ call = same_at p c a.finder call a.finder_there here in
    let listed = kept.all_forms c a.finder a.meet.wanted a.finder_there a.meet.asks in
    let is : a.meet.slot ≡ q = same_some a.meet.slot q (sym a.meet.finder_has ∙ ap finder_slot same ∙ slot) in
    subst (λ (z : ℕ). StandsIn t.sends z y) is
    (kept.sent y a.send opened (not_same c y (λ e. not_own p y c fit (sym e))) a.send_there listed.0 a.meet.slot (form_of a.meet.wanted) listed.1 a.meet.send_has)

pub least_send : (p : MpiProgram) (m : Configuration) (t : Tables) (c q x : ℕ) (call : Call) → IsKept p (Some c) m t → call_at p c ≡ Some call → finder_slot call ≡ Some q → IsLeastIn p m t.sends q c x → IsLeastMate p m c x
least_send p m t c q x call kept here slot found =
    record {
      mate = found.mate;
      least = λ y mate one. found.least y mate
          (elim (mate_fits p m c y mate) [
            | inl fits ↦ absurd (finder_fits p c y q call here slot fits)
            | inr fits ↦ send_stands p m t c y q call kept here slot (mate_open p m c y mate) fits
          ])
          one;
    }

pub no_send : (p : MpiProgram) (m : Configuration) (t : Tables) (c q : ℕ) (call : Call) → IsKept p (Some c) m t → call_at p c ≡ Some call → finder_slot call ≡ Some q → NoMateIn p m t.sends q c → NoSend p m c
no_send p m t c q call kept here slot none y opened fit =
    none y (mate_made p m c y opened (inr fit)) (send_stands p m t c y q call kept here slot opened fit)

-- what isn't a finder has no send
pub no_finder_slot : (p : MpiProgram) (m : Configuration) (c : ℕ) (call : Call) → call_at p c ≡ Some call → finder_slot call ≡ None → NoSend p m c
no_finder_slot p m c call here none y opened fit =
    let a = fit_of p y c fit in
    let same : a.finder ≡ call = same_at p c a.finder call a.finder_there here in
    let never : ◌≡◌ {A = Option ℕ} None (Some a.meet.slot) = sym none ∙ ap finder_slot (sym same) ∙ a.meet.finder_has in
    absurd (cc)

-- ---- the finders that the fresh call fits

-- the finder stands in the row of one of the first forms
abbrev pub IsMet : List PatternForm → SlotRows → Call → ℕ → ℕ → Type 0
IsMet forms finders call upto y = (i q : ℕ) × (form : PatternForm) × (i < upto) × (slice_get forms i ≡ Some form) × (send_slot form call ≡ Some q) × (StandsIn finders q y)

-- the earliest finder in these rows that the send fits
pub record IsBestOf (p : MpiProgram) (m : Configuration) (forms : List PatternForm) (finders : SlotRows) (call : Call) (c upto x : ℕ) : Type 0 where
  pub mate : is_mate p m c x ≡ true
  pub fit : are_fit p c x ≡ true
  pub least : (y : ℕ) → is_mate p m c y ≡ true → IsMet forms finders call upto y → x ≤ y

abbrev pub IsBest : MpiProgram → Configuration → List PatternForm → SlotRows → Call → ℕ → ℕ → Option ℕ → Type 0
IsBest p m forms finders call c upto None = (y : ℕ) → is_mate p m c y ≡ true → IsMet forms finders call upto y → ⊥
IsBest p m forms finders call c upto (Some x) = IsBestOf p m forms finders call c upto x

met_cases : (forms : List PatternForm) (finders : SlotRows) (call : Call) (place y q : ℕ) (form : PatternForm) → slice_get forms place ≡ Some form → send_slot form call ≡ Some q → IsMet forms finders call (place + 1) y → IsMet forms finders call place y ⊎ StandsIn finders q y
met_cases forms finders call place y q form here slot met =
    elim (cases_eq met.0 place) [
      | inl same ↦
          let alike : met.2 ≡ form = same_form met.2 form (sym met.4 ∙ ap (slice_get forms) same ∙ here) in
          let is : met.1 ≡ q = same_some met.1 q (sym met.5 ∙ ap (λ (z : PatternForm). send_slot z call) alike ∙ slot) in
          inr (subst (λ (z : ℕ). StandsIn finders z y) is met.6)
      | inr differ ↦ inl (met.0, met.1, met.2, omega (arith, met.3, differ), met.4, met.5, met.6)
    ]

-- a mate of a send is a finder that it fits
send_mate : (p : MpiProgram) (m : Configuration) (form : PatternForm) (c y q : ℕ) (call : Call) → call_at p c ≡ Some call → send_slot form call ≡ Some q → is_mate p m c y ≡ true → are_fit p c y ≡ true
send_mate p m form c y q call here slot mate =
    elim (mate_fits p m c y mate) [
      | inl fits ↦ fits
      | inr fits ↦ absurd (send_fits p form c y q call here slot fits)
    ]

module _ (p : MpiProgram) (m : Configuration) (forms : List PatternForm) (finders : SlotRows) (call : Call) (c place q : ℕ) (form : PatternForm) (known : call_at p c ≡ Some call) (here : slice_get forms place ≡ Some form) (slot : send_slot form call ≡ Some q) where
  new_least : (x y : ℕ) → IsLeastIn p m finders q c x → is_mate p m c y ≡ true → StandsIn finders q y → x ≤ y
  new_least x y found mate stands =
      found.least y mate stands (one_receiver p c x y (send_mate p m form c x q call known slot found.mate) (send_mate p m form c y q call known slot mate))

  first_best : (x : ℕ) → IsBest p m forms finders call c place None → IsLeastIn p m finders q c x → IsBestOf p m forms finders call c (place + 1) x
  first_best x none found =
      record {
        mate = found.mate;
        fit = send_mate p m form c x q call known slot found.mate;
        least = λ y mate met. elim (met_cases forms finders call place y q form here slot met) [
          | inl old ↦ absurd (none y mate old)
          | inr new ↦ new_least x y found mate new
        ];
      }

  old_best : (x : ℕ) → IsBestOf p m forms finders call c place x → ((y : ℕ) → is_mate p m c y ≡ true → StandsIn finders q y → x ≤ y) → IsBestOf p m forms finders call c (place + 1) x
  old_best x best fine =
      record {
        mate = best.mate;
        fit = best.fit;
        least = λ y mate met. elim (met_cases forms finders call place y q form here slot met) [
          | inl old ↦ best.least y mate old
          | inr new ↦ fine y mate new
        ];
      }

  new_best : (x z : ℕ) → IsBestOf p m forms finders call c place x → IsLeastIn p m finders q c z → z < x → IsBestOf p m forms finders call c (place + 1) z
  new_best x z best found below =
      record {
        mate = found.mate;
        fit = send_mate p m form c z q call known slot found.mate;
        least = λ y mate met. elim (met_cases forms finders call place y q form here slot met) [
          | inl old ↦ let low : x ≤ y = best.least y mate old in omega (arith, low, below)
          | inr new ↦ new_least z y found mate new
        ];
      }

  none_better : IsBest p m forms finders call c place None → NoMateIn p m finders q c → IsBest p m forms finders call c (place + 1) None
  none_better before none y mate met =
      elim (met_cases forms finders call place y q form here slot met) [
        | inl old ↦ before y mate old
        | inr new ↦ none y mate new
      ]

  pub best_more : (best found : Option ℕ) → IsBest p m forms finders call c place best → IfSome found (IsLeastIn p m finders q c) → IfNone found (NoMateIn p m finders q c) → IsBest p m forms finders call c (place + 1) (lesser best found)
  best_more None None before some none = none_better before none
  best_more None (Some x) before some none = first_best x before some
  best_more (Some x) None before some none = old_best x before (λ y mate stands. absurd (none y mate stands))
  best_more (Some x) (Some z) before some none =
      elim (is_or_not (nat_lt z x)) [
        | inl below ↦
            subst (λ (b : Bool). IsBest p m forms finders call c (place + 1) (cond b (Some z) (Some x))) (sym below)
            (new_best x z before some (grind (arith, nat_tests)))
        | inr above ↦
            subst (λ (b : Bool). IsBest p m forms finders call c (place + 1) (cond b (Some z) (Some x))) (sym above)
            (old_best x before (λ y mate stands. let low : z ≤ y = new_least z y some mate stands in let high : x ≤ z = grind (arith, nat_tests) in omega (arith, low, high)))
      ]

finder_met : (p : MpiProgram) (m : Configuration) (t : Tables) (c y upto : ℕ) (call : Call) → IsKept p (Some c) m t → call_at p c ≡ Some call → length t.forms.items ≤ upto → is_open_call p m y ≡ true → are_fit p c y ≡ true → IsMet t.forms.items t.finders call upto y
finder_met p m t c y upto call kept here all opened fit =
    let a = fit_of p c y fit in
    let same : a.send ≡ call = same_at p c a.send call a.send_there here in
    let listed = kept.all_forms y a.finder a.meet.wanted a.finder_there a.meet.asks in
    let within : listed.0 < length t.forms.items = slice_get_within t.forms.items listed.0 (form_of a.meet.wanted) listed.1 in (
      listed.0,
      a.meet.slot,
      form_of a.meet.wanted,
      omega (arith, within, all),
      listed.1,
      subst (λ (z : Call). send_slot (form_of a.meet.wanted) z ≡ Some a.meet.slot) same a.meet.send_has,
      kept.sought y a.finder opened (not_same c y (not_own p c y fit)) a.finder_there a.meet.slot a.meet.finder_has,
    )

pub least_finder : (p : MpiProgram) (m : Configuration) (t : Tables) (c upto : ℕ) (call : Call) (best : Option ℕ) → IsKept p (Some c) m t → call_at p c ≡ Some call → length t.forms.items ≤ upto → IsBest p m t.forms.items t.finders call c upto best → IfSome best (IsLeastMate p m c)
least_finder p m t c upto call None kept here all best = tt
least_finder p m t c upto call (Some x) kept here all best =
    record {
      mate = best.mate;
      least = λ y mate one. elim (mate_fits p m c y mate) [
        | inl fits ↦ best.least y mate (finder_met p m t c y upto call kept here all (mate_open p m c y mate) fits)
        | inr fits ↦ absurd (not_both p c x y best.fit fits)
      ];
    }

pub no_finder : (p : MpiProgram) (m : Configuration) (t : Tables) (c upto : ℕ) (call : Call) (best : Option ℕ) → IsKept p (Some c) m t → call_at p c ≡ Some call → length t.forms.items ≤ upto → IsBest p m t.forms.items t.finders call c upto best → IfNone best (NoFinder p m c)
no_finder p m t c upto call None kept here all best =
    λ y opened fit. best y (mate_made p m c y opened (inl fit)) (finder_met p m t c y upto call kept here all opened fit)
no_finder p m t c upto call (Some x) kept here all best = tt

-- what isn't a send fits nothing
pub no_send_form : (p : MpiProgram) (m : Configuration) (c : ℕ) (form : PatternForm) (call : Call) → call_at p c ≡ Some call → send_slot form call ≡ None → NoFinder p m c
no_send_form p m c form call here none y opened fit =
    let a = fit_of p c y fit in
    let same : a.send ≡ call = same_at p c a.send call a.send_there here in
    let off : send_slot (form_of a.meet.wanted) call ≡ None = no_send_slot form (form_of a.meet.wanted) call none in
    let never : ◌≡◌ {A = Option ℕ} None (Some a.meet.slot) = sym off ∙ ap (send_slot (form_of a.meet.wanted)) (sym same) ∙ a.meet.send_has in
    absurd (cc)

pub no_mate : (p : MpiProgram) (m : Configuration) (c : ℕ) → NoFinder p m c → NoSend p m c → NoMate p m c
no_mate p m c finders sends y mate =
    elim (mate_fits p m c y mate) [
      | inl fits ↦ finders y (mate_open p m c y mate) fits
      | inr fits ↦ sends y (mate_open p m c y mate) fits
    ]
