-- Open calls: which of them fit, and what may be found.
use Rattle.std.proofs.Common.{◌≡◌, ℕ, ◌<◌, ◌≤◌, ◌⊎◌, inl, inr, Bool, true, false, not, ◌||◌, Some, slice_index, cond, refl, sym, ap, subst, arith}
use Rattle.calltext.proofs.Conjunctions.{and_true, and_both}
use Rattle.callorder.specs.Programs.{MpiProgram, are_fit, is_probe, are_of_one_rank}
use Rattle.semantics.specs.declared.state.Step.{Step}
use Rattle.semantics.specs.declared.state.Step.TheVariants.{Issue}
use Rattle.semantics.specs.Configurations.{is_open_call}
use Rattle.semantics.specs.Machine.{Configuration, is_issued, is_matched, CanFind, IsEnabled}
use Rattle.run_laws.specs.Laws.{IsOpenPair}
use Rattle.run_laws.specs.Places.{find_step}
use Rattle.races.proofs.Steps.{not_true, is_or_not, issued_within, within_issued, one_rank, same_some}
use Rattle.races.proofs.Telling.{or_parts}
use Rattle.leastrun.specs.declared.walk.Buffering.{Buffering}
use Rattle.leastrun.specs.declared.walk.Buffering.TheVariants.{Least, Most}
use Rattle.leastrun.specs.parts.Waiting.{is_mate, IsLeastMate, NoMate, step_between, NoOpenPair, IsFresh, IsFind, IsNext}
use Rattle.leastrun.proofs.Slotting.{not_itself}

-- ---- open calls

pub open_made : (p : MpiProgram) (m : Configuration) (c : ℕ) → is_issued p m c ≡ true → is_matched m c ≡ false → is_open_call p m c ≡ true
open_made p m c issued free = and_both (is_issued p m c) (not (is_matched m c)) issued (ap not free)

pub open_parts : (p : MpiProgram) (m : Configuration) (c : ℕ) → is_open_call p m c ≡ true → (is_issued p m c ≡ true) × (is_matched m c ≡ false)
open_parts p m c h = let both = and_true (is_issued p m c) (not (is_matched m c)) h in (both.0, not_true (is_matched m c) both.1)

or_first : (a b : Bool) → a ≡ true → (a || b) ≡ true
or_first true b h = refl
or_first false b h = absurd (cc)

or_second : (a b : Bool) → b ≡ true → (a || b) ≡ true
or_second true b h = refl
or_second false b h = h

pub mate_made : (p : MpiProgram) (m : Configuration) (c y : ℕ) → is_open_call p m y ≡ true → (are_fit p c y ≡ true) ⊎ (are_fit p y c ≡ true) → is_mate p m c y ≡ true
mate_made p m c y opened fit =
    and_both (is_open_call p m y) (are_fit p c y || are_fit p y c) opened
    (elim fit [
      | inl h ↦ or_first (are_fit p c y) (are_fit p y c) h
      | inr h ↦ or_second (are_fit p c y) (are_fit p y c) h
    ])

pub mate_open : (p : MpiProgram) (m : Configuration) (c y : ℕ) → is_mate p m c y ≡ true → is_open_call p m y ≡ true
mate_open p m c y h = (and_true (is_open_call p m y) (are_fit p c y || are_fit p y c) h).0

pub mate_fits : (p : MpiProgram) (m : Configuration) (c y : ℕ) → is_mate p m c y ≡ true → (are_fit p c y ≡ true) ⊎ (are_fit p y c ≡ true)
mate_fits p m c y h = or_parts (are_fit p c y) (are_fit p y c) (and_true (is_open_call p m y) (are_fit p c y || are_fit p y c) h).1

-- ---- what may be found

earlier_issued : (p : MpiProgram) (m : Configuration) (e s : ℕ) → e < s → are_of_one_rank p e s ≡ true → is_issued p m s ≡ true → is_issued p m e ≡ true
earlier_issued p m e s below same issued =
    let w = one_rank p e s same in
    let within : s < slice_index m.next w.1.rank = issued_within p m s w.1 w.3 issued in
    let there : s < slice_index m.next w.0.rank = subst (λ (z : ℕ). s < slice_index m.next z) (sym w.4) within in
    within_issued p m e w.0 w.2 (omega (arith, there, below))

can_find : (p : MpiProgram) (m : Configuration) (s f : ℕ) → is_open_call p m s ≡ true → is_open_call p m f ≡ true → are_fit p s f ≡ true
    → ((e : ℕ) → e < s → are_of_one_rank p e s ≡ true → is_open_call p m e ≡ true → are_fit p e f ≡ true → ⊥)
    → ((g : ℕ) → g < f → are_of_one_rank p g f ≡ true → is_open_call p m g ≡ true → are_fit p s g ≡ true → ⊥) → CanFind p m s f
can_find p m s f send finder fit sends takers =
    let one = open_parts p m s send in
    let two = open_parts p m f finder in
    record {
      send_issued = one.0;
      finder_issued = two.0;
      send_open = one.1;
      finder_open = two.1;
      fit = fit;
      sends = λ e below same fits. elim (is_or_not (is_matched m e)) [
        | inl matched ↦ matched
        | inr free ↦ absurd (sends e below same (open_made p m e (earlier_issued p m e s below same one.0) free) fits)
      ];
      takers = λ g below same fits. elim (is_or_not (is_matched m g)) [
        | inl matched ↦ matched
        | inr free ↦ absurd (takers g below same (open_made p m g (earlier_issued p m g f below same two.0) free) (and_true (are_fit p s g) (not (is_probe p g)) fits).0)
      ];
    }

pub pair_made : (p : MpiProgram) (m : Configuration) (s f : ℕ) → is_open_call p m s ≡ true → is_open_call p m f ≡ true → are_fit p s f ≡ true → IsOpenPair p m s f
pair_made p m s f send finder fit =
    let one = open_parts p m s send in
    let two = open_parts p m f finder in
    record { send_issued = one.0; finder_issued = two.0; send_open = one.1; finder_open = two.1; fit = fit }

enabled_by : (p : MpiProgram) (m : Configuration) (s f : ℕ) (b : Bool) → is_probe p f ≡ b → CanFind p m s f → IsEnabled p m (find_step b s f)
enabled_by p m s f true e can = (e, can)
enabled_by p m s f false e can = (ap not e, can)

no_issue_step : (b : Bool) (s f rank : ℕ) (buffered : Bool) → find_step b s f ≡ Issue rank buffered → ⊥
no_issue_step true s f rank buffered e = absurd (cc)
no_issue_step false s f rank buffered e = absurd (cc)

is_find : (p : MpiProgram) (m : Configuration) (s f : ℕ) → CanFind p m s f → IsFind p m (find_step (is_probe p f) s f)
is_find p m s f can =
    record {
      enabled = enabled_by p m s f (is_probe p f) refl can;
      no_issue = λ rank buffered e. no_issue_step (is_probe p f) s f rank buffered e;
    }

-- a find is a next step, however sends are buffered
pub find_next : (buffering : Buffering) (p : MpiProgram) (m : Configuration) (step : Step) → IsFind p m step → IsNext buffering p m step
find_next Least p m step find = record { enabled = find.enabled; choice = λ rank e. absurd (find.no_issue rank true e); settled = λ rank buffered e. absurd (find.no_issue rank buffered e) }
find_next Most p m step find = record { enabled = find.enabled; choice = λ rank e can. absurd (find.no_issue rank false e); settled = λ rank buffered e. absurd (find.no_issue rank buffered e) }

by_send : (p : MpiProgram) (m : Configuration) (c x : ℕ) → IsFresh p m (Some c) → is_open_call p m c ≡ true → IsLeastMate p m c x → are_fit p c x ≡ true → CanFind p m c x
by_send p m c x fresh opened found fit =
    can_find p m c x opened (mate_open p m c x found.mate) fit
    (λ e below one free fits. elim (fresh.only e x (pair_made p m e x free (mate_open p m c x found.mate) fits)) [
      | inl is ↦ let same : c ≡ e = same_some c e is in absurd (omega (arith, same, below))
      | inr is ↦ let same : c ≡ x = same_some c x is in absurd (not_itself p c (subst (λ (z : ℕ). are_fit p c z ≡ true) (sym same) fit))
    ])
    (λ g below one free fits. let least : x ≤ g = found.least g (mate_made p m c g free (inl fits)) one in absurd (omega (arith, least, below)))

by_finder : (p : MpiProgram) (m : Configuration) (c x : ℕ) → IsFresh p m (Some c) → is_open_call p m c ≡ true → IsLeastMate p m c x → are_fit p x c ≡ true → CanFind p m x c
by_finder p m c x fresh opened found fit =
    can_find p m x c (mate_open p m c x found.mate) opened fit
    (λ e below one free fits. let least : x ≤ e = found.least e (mate_made p m c e free (inr fits)) one in absurd (omega (arith, least, below)))
    (λ g below one free fits. elim (fresh.only x g (pair_made p m x g (mate_open p m c x found.mate) free fits)) [
      | inl is ↦ let same : c ≡ x = same_some c x is in absurd (not_itself p c (subst (λ (z : ℕ). are_fit p z c ≡ true) (sym same) fit))
      | inr is ↦ let same : c ≡ g = same_some c g is in absurd (omega (arith, same, below))
    ])

where_not : (a b : Bool) → (a ≡ true) ⊎ (b ≡ true) → a ≡ false → b ≡ true
where_not a b (inl h) off = absurd (cc)
where_not a b (inr h) off = h

-- the step between the fresh call and its earliest mate may be taken
pub find_between : (p : MpiProgram) (m : Configuration) (c x : ℕ) → IsFresh p m (Some c) → is_open_call p m c ≡ true → IsLeastMate p m c x → IsFind p m (step_between p c x)
find_between p m c x fresh opened found =
    elim (is_or_not (are_fit p c x)) [
      | inl fits ↦ subst (λ (z : Bool). IsFind p m (cond z (find_step (is_probe p x) c x) (find_step (is_probe p c) x c))) (sym fits) (is_find p m c x (by_send p m c x fresh opened found fits))
      | inr off ↦ subst (λ (z : Bool). IsFind p m (cond z (find_step (is_probe p x) c x) (find_step (is_probe p c) x c))) (sym off) (is_find p m x c (by_finder p m c x fresh opened found (where_not (are_fit p c x) (are_fit p x c) (mate_fits p m c x found.mate) off)))
    ]

pub pair_open : (p : MpiProgram) (m : Configuration) (s f : ℕ) → IsOpenPair p m s f → (is_open_call p m s ≡ true) × (is_open_call p m f ≡ true)
pair_open p m s f pair = (open_made p m s pair.send_issued pair.send_open, open_made p m f pair.finder_issued pair.finder_open)

-- no pair is open where the fresh call is not
pub none_where_closed : (p : MpiProgram) (m : Configuration) (c : ℕ) → IsFresh p m (Some c) → is_open_call p m c ≡ false → NoOpenPair p m
none_where_closed p m c fresh off s f pair =
    let both = pair_open p m s f pair in
    elim (fresh.only s f pair) [
      | inl is ↦ let on : is_open_call p m c ≡ true = subst (λ (z : ℕ). is_open_call p m z ≡ true) (sym (same_some c s is)) both.0 in absurd (cc)
      | inr is ↦ let on : is_open_call p m c ≡ true = subst (λ (z : ℕ). is_open_call p m z ≡ true) (sym (same_some c f is)) both.1 in absurd (cc)
    ]

-- nor where it has no mate
pub none_where_no_mate : (p : MpiProgram) (m : Configuration) (c : ℕ) → IsFresh p m (Some c) → NoMate p m c → NoOpenPair p m
none_where_no_mate p m c fresh none s f pair =
    let both = pair_open p m s f pair in
    elim (fresh.only s f pair) [
      | inl is ↦ none f (mate_made p m c f both.1 (inl (subst (λ (z : ℕ). are_fit p z f ≡ true) (sym (same_some c s is)) pair.fit)))
      | inr is ↦ none s (mate_made p m c s both.0 (inr (subst (λ (z : ℕ). are_fit p s z ≡ true) (sym (same_some c f is)) pair.fit)))
    ]
