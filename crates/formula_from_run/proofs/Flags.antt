-- What is buffered stays buffered.
use Rattle.std.proofs.Common.{◌≡◌, ◌≢◌, ℕ, zero, suc, ◌+◌, inl, inr, Bool, true, false, nat_lt, List, [], ◌∷◌, take, slice_set, slice_index, refl, sym, ap, ◌∙◌, arith, get_or-set_same, get_or-set_other}
use Rattle.std.proofs.lemmas.Bool.{cases_eq}
use Rattle.std.proofs.lemmas.Bool.Decides.{nat_tests}
use Rattle.std.proofs.lemmas.Option.{unwrap_or-slice_get, get_or_from_slice_get, slice_get_within}
use Rattle.callorder.specs.Programs.{MpiProgram}
use Rattle.callorder.specs.Calls.{holds_of}
use Rattle.semantics.specs.declared.state.Step.{Step}
use Rattle.semantics.specs.declared.state.Step.TheVariants.{Issue, Match, See}
use Rattle.semantics.specs.Machine.{Configuration, opening, after, after_all, IsEnabled, IsRun, is_buffered, is_issued, is_issued_call}
use Rattle.semantics.proofs.Lengths.{Issues, issues}
use Rattle.semantics.proofs.Lengths.{issued_grows}
use Rattle.formula_from_run.proofs.Buffers.{opening_unbuffered}
use Rattle.run_laws.proofs.Matched.{IsRun-take}

-- ---- the call that is next

pub next_is : (p : MpiProgram) (m : Configuration) (r : ℕ) → (w : Issues p m r) → slice_index m.next r ≡ w.place
next_is p m r w = get_or_from_slice_get m.next r w.place 0 w.next

pub not_yet : (p : MpiProgram) (m : Configuration) (r : ℕ) → (w : Issues p m r) → is_issued p m w.place ≡ false
not_yet p m r w =
    let n : slice_index m.next w.call.rank ≡ w.place = ap (slice_index m.next) w.own ∙ next_is p m r w in
    let same : is_issued p m w.place ≡ nat_lt w.place (slice_index m.next w.call.rank) = ap (holds_of (is_issued_call m w.place)) w.there in
    same ∙ rw n (grind (arith, nat_tests))

pub now_issued : (p : MpiProgram) (m : Configuration) (r : ℕ) (b : Bool) → (w : Issues p m r) → is_issued p (after m (Issue r b)) w.place ≡ true
now_issued p m r b w =
    let moved : slice_index (slice_set m.next r (slice_index m.next r + 1)) w.call.rank ≡ slice_index m.next r + 1 = ap (slice_index (slice_set m.next r (slice_index m.next r + 1))) w.own ∙ get_or-set_same m.next r (slice_index m.next r + 1) 0 (slice_get_within m.next r w.place w.next) in
    let same : is_issued p (after m (Issue r b)) w.place ≡ nat_lt w.place (slice_index (slice_set m.next r (slice_index m.next r + 1)) w.call.rank) = ap (holds_of (is_issued_call (after m (Issue r b)) w.place)) w.there in
    let n = next_is p m r w in
    same ∙ rw (moved, n) (grind (arith, nat_tests))

pub other_unmoved : (p : MpiProgram) (m : Configuration) (r : ℕ) (b : Bool) (c : ℕ) → (w : Issues p m r) → c ≢ w.place → is_buffered (after m (Issue r b)) c ≡ is_buffered m c
other_unmoved p m r b c w differ =
    unwrap_or-slice_get (slice_set m.buffered (slice_index m.next r) b) c false ∙
    get_or-set_other m.buffered (slice_index m.next r) c b false (λ e. differ (e ∙ next_is p m r w)) ∙
    sym (unwrap_or-slice_get m.buffered c false)

-- ---- what is buffered is issued

issued_step : (p : MpiProgram) (m : Configuration) (x : Step) (c : ℕ) → IsEnabled p m x → (is_buffered m c ≡ true → is_issued p m c ≡ true) → is_buffered (after m x) c ≡ true → is_issued p (after m x) c ≡ true
issued_step p m (Match s t) c enabled before h = issued_grows p m (Match s t) c (before h)
issued_step p m (See s t) c enabled before h = issued_grows p m (See s t) c (before h)
issued_step p m (Issue r b) c enabled before h =
    let w = issues p m r b enabled in
    elim (cases_eq c w.place) [
      | inl e ↦ ap (is_issued p (after m (Issue r b))) e ∙ now_issued p m r b w
      | inr differ ↦ issued_grows p m (Issue r b) c (before (sym (other_unmoved p m r b c w differ) ∙ h))
    ]

issued_from : (p : MpiProgram) (m : Configuration) (steps : List Step) (c : ℕ) → IsRun p m steps → (is_buffered m c ≡ true → is_issued p m c ≡ true) → is_buffered (after_all m steps) c ≡ true → is_issued p (after_all m steps) c ≡ true
issued_from p m [] c run before h = before h
issued_from p m (x ∷ xs) c run before h = issued_from p (after m x) xs c run.1 (issued_step p m x c run.0 before) h

-- ---- what is buffered stays so

flag_step : (p : MpiProgram) (m : Configuration) (x : Step) (c : ℕ) → IsEnabled p m x → is_issued p m c ≡ true → is_buffered (after m x) c ≡ is_buffered m c
flag_step p m (Match s t) c enabled issued = refl
flag_step p m (See s t) c enabled issued = refl
flag_step p m (Issue r b) c enabled issued =
    let w = issues p m r b enabled in
    other_unmoved p m r b c w (λ e. absurd (let free : is_issued p m c ≡ false = ap (is_issued p m) e ∙ not_yet p m r w in cc))

flag_kept : (p : MpiProgram) (m : Configuration) (steps : List Step) (c : ℕ) → IsRun p m steps → is_issued p m c ≡ true → is_buffered (after_all m steps) c ≡ is_buffered m c
flag_kept p m [] c run issued = refl
flag_kept p m (x ∷ xs) c run issued = flag_kept p (after m x) xs c run.1 (issued_grows p m x c issued) ∙ flag_step p m x c run.0 issued

flag_later : (p : MpiProgram) (m : Configuration) (steps : List Step) (i c : ℕ) → IsRun p m steps → is_issued p (after_all m (take i steps)) c ≡ true → is_buffered (after_all m steps) c ≡ is_buffered (after_all m (take i steps)) c
flag_later p m [] zero c run issued = refl
flag_later p m [] (suc i) c run issued = refl
flag_later p m (x ∷ xs) zero c run issued = flag_kept p m (x ∷ xs) c run issued
flag_later p m (x ∷ xs) (suc i) c run issued = flag_later p (after m x) xs i c run.1 issued

-- what is buffered before some place is buffered at the end
pub buffered_later : (p : MpiProgram) (steps : List Step) (i c : ℕ) → IsRun p (opening p) steps → is_buffered (after_all (opening p) (take i steps)) c ≡ true → is_buffered (after_all (opening p) steps) c ≡ true
buffered_later p steps i c run h =
    let none = opening_unbuffered p c in
    let issued = issued_from p (opening p) (take i steps) c (IsRun-take p (opening p) steps i run) (λ e. absurd (cc)) h in
    flag_later p (opening p) steps i c run issued ∙ h
