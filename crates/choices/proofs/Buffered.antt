-- Whether a send is buffered, step by step.
use Rattle.std.proofs.Common.{◌≡◌, ◌≢◌, ◌<◌, ◌==◌, ℕ, zero, suc, Bool, true, false, Option, inl, inr, length, get_or, replicate, slice_get, slice_set, slice_index, unwrap_or, if◌then◌else◌, refl, sym, ap, ◌∙◌, arith, get_or-set_same, get_or-set_other}
use Rattle.std.proofs.lemmas.Bool.{cases_eq, eqb-true, eq-eqb}
use Rattle.std.proofs.lemmas.Option.{unwrap_or-slice_get, get_or_from_slice_get, slice_get_within}
use Rattle.callorder.specs.Programs.{MpiProgram}
use Rattle.semantics.specs.declared.state.Step.{Step}
use Rattle.semantics.specs.declared.state.Step.TheVariants.{Issue, Match, See}
use Rattle.semantics.specs.Configurations.{IsConfigurationOf}
use Rattle.semantics.specs.Machine.{Configuration, IsEnabled, after, is_buffered, opening}
use Rattle.semantics.proofs.Lengths.{Issues, issues}
use Rattle.choices.specs.parts.Steps.{buffered_after, is_at}

-- the call that is issued is buffered as is chosen
now_buffered : (p : MpiProgram) (m : Configuration) (r : ℕ) (b : Bool) → (w : Issues p m r) → length m.buffered ≡ length p.calls → is_buffered (after m (Issue r b)) w.place ≡ b
now_buffered p m r b w size =
    let n : slice_index m.next r ≡ w.place = get_or_from_slice_get m.next r w.place 0 w.next in
    let within : slice_index m.next r < length m.buffered = omega (arith, n, size, slice_get_within p.calls w.place w.call w.there) in
    unwrap_or-slice_get (slice_set m.buffered (slice_index m.next r) b) w.place false ∙
    ap (λ (z : ℕ). get_or (slice_set m.buffered (slice_index m.next r) b) z false) (sym n) ∙
    get_or-set_same m.buffered (slice_index m.next r) b false within

-- others stay as they are
other_unmoved : (p : MpiProgram) (m : Configuration) (r : ℕ) (b : Bool) (c : ℕ) → (w : Issues p m r) → c ≢ w.place → is_buffered (after m (Issue r b)) c ≡ is_buffered m c
other_unmoved p m r b c w differ =
    unwrap_or-slice_get (slice_set m.buffered (slice_index m.next r) b) c false ∙
    get_or-set_other m.buffered (slice_index m.next r) c b false (λ e. differ (e ∙ get_or_from_slice_get m.next r w.place 0 w.next)) ∙
    sym (unwrap_or-slice_get m.buffered c false)

-- what the test of an issue comes to
chosen : (same b before : Bool) (there : Bool) → same ≡ there → (if same then b else before) ≡ (if there then b else before)
chosen same b before there e = ap (λ (z : Bool). if z then b else before) e

pub buffered_now : (p : MpiProgram) (m : Configuration) (x : Step) (c : ℕ) (before : Bool) → IsConfigurationOf p m → IsEnabled p m x → before ≡ is_buffered m c → buffered_after m x c before ≡ is_buffered (after m x) c
buffered_now p m (Match s t) c before of enabled e = e
buffered_now p m (See s f) c before of enabled e = e
buffered_now p m (Issue r b) c before of enabled e =
    let w : Issues p m r = issues p m r b enabled in
    let at : is_at _ c ≡ (w.place == c) = ap (λ (o : Option ℕ). is_at o c) w.next in
    elim (cases_eq w.place c) [
      | inl same ↦
          chosen _ b before true (at ∙ eq-eqb w.place c same) ∙ sym (now_buffered p m r b w of.buffered) ∙ ap (is_buffered (after m (Issue r b))) same
      | inr differ ↦
          chosen _ b before false (at ∙ differs w.place c differ) ∙ e ∙ sym (other_unmoved p m r b c w (λ q. differ (sym q)))
    ]
  where
    differs : (x y : ℕ) → (x ≡ y → ⊥) → (x == y) ≡ false
    differs x y not_same = of_value (x == y) refl
      where
        of_value : (v : Bool) → (x == y) ≡ v → (x == y) ≡ false
        of_value true is = absurd (not_same (eqb-true x y is))
        of_value false is = is

-- no call is a buffered send at the opening
pub opening_unbuffered : (p : MpiProgram) (m : Configuration) (c : ℕ) → m ≡ opening p → false ≡ is_buffered m c
opening_unbuffered p m c is = sym (ap (λ (n : Configuration). is_buffered n c) is ∙ none_yet (length p.calls) c)
  where
    none_yet : (n c : ℕ) → unwrap_or (slice_get (replicate n false) c) false ≡ false
    none_yet zero c = refl
    none_yet (suc n) zero = refl
    none_yet (suc n) (suc c) = none_yet n c
