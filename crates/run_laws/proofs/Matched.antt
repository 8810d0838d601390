-- Which step of a run matches a call, and that no second one does.
use Rattle.std.proofs.Common.{◌≡◌, ◌≢◌, ℕ, zero, suc, ◌<◌, ◌⊎◌, inl, inr, Bool, true, false, not, List, [], ◌∷◌, Option, Some, None, is_some, length, take, replicate, get_or, slice_get, slice_set, refl, sym, ap, ◌∙◌, subst, arith, get_or-set_other}
use Rattle.std.specs.Option.{unwrap_or}
use Rattle.std.proofs.lemmas.Bool.{cases_eq, cases_lt}
use Rattle.std.proofs.lemmas.Grind.{get_or-set_at}
use Rattle.std.proofs.lemmas.List.{length-set, length-replicate}
use Rattle.callorder.specs.declared.calls.Call.{Call}
use Rattle.callorder.specs.declared.calls.Kind.{Kind}
use Rattle.callorder.specs.declared.calls.Kind.TheVariants.{Send, Receive, MatchedProbe, Probe, MatchedReceive, Wait}
use Rattle.callorder.specs.Calls.{fits_between, message_of, pattern_of, both_hold, fits}
use Rattle.callorder.specs.Programs.{MpiProgram, call_at, are_fit, is_probe, takes}
use Rattle.semantics.specs.declared.state.Step.{Step}
use Rattle.semantics.specs.declared.state.Step.TheVariants.{Issue, Match, See}
use Rattle.semantics.specs.Machine.{Configuration, opening, after, after_all, CanFind, IsEnabled, IsRun, is_matched}
use Rattle.semantics.proofs.Lengths.{matched_within, matched_is, some_set, matched_grows}
use Rattle.semantics.proofs.Runs.{IsRun-at}
use Rattle.run_laws.specs.Places.{IsMatchedAt, IsSendMatchedBefore, IsTakerMatchedBefore, IsFoundAt, IsFoundBefore, find_step}
use Rattle.run_laws.specs.Laws.{EarlierSendsMatchFirst, EarlierTakersMatchFirst, MatchedOnce, FoundOnce}
use Rattle.calltext.proofs.Conjunctions.{and_true}

-- ---- a call that is matched in the end is matched by a step

-- by the step at this place a finder finds a send that fits it, and the call is the finder, or the
-- send where it is matched
pub record FitFind (p : MpiProgram) (steps : List Step) (c : ℕ) : Type 0 where
  pub place : ℕ
  pub send : ℕ
  pub finder : ℕ
  pub sees : Bool
  pub there : slice_get steps place ≡ Some (find_step sees send finder)
  pub kind : is_probe p finder ≡ sees
  pub fit : are_fit p send finder ≡ true
  pub which : ((sees ≡ false) × (c ≡ send)) ⊎ (c ≡ finder)

abbrev some_at : List (Option ℕ) → ℕ → Bool
some_at partner c = is_some (get_or partner c None)

pub is_matched-other : (m : Configuration) (s t c : ℕ) → c ≢ s → c ≢ t → is_matched (after m (Match s t)) c ≡ is_matched m c
is_matched-other m s t c not_s not_t =
    matched_is (after m (Match s t)) c ∙ ap is_some (get_or-set_other (slice_set m.partner s (Some t)) t c (Some s) None not_t ∙ get_or-set_other m.partner s c (Some t) None not_s) ∙ sym (matched_is m c)

-- the call that a step matches is one of its two
newly : (m : Configuration) (s t c : ℕ) → is_matched m c ≡ false → is_matched (after m (Match s t)) c ≡ true → (c ≡ s) ⊎ (c ≡ t)
newly m s t c free done =
    elim (cases_eq c s) [
      | inl e ↦ inl e
      | inr not_s ↦
          elim (cases_eq c t) [
            | inl e ↦ inr e
            | inr not_t ↦ absurd (let same = is_matched-other m s t c not_s not_t in cc)
          ]
    ]

-- the call that a see changes is its probe
newly_seen : (m : Configuration) (s f c : ℕ) → is_matched m c ≡ false → is_matched (after m (See s f)) c ≡ true → c ≡ f
newly_seen m s f c free done =
    elim (cases_eq c f) [
      | inl e ↦ e
      | inr differ ↦ absurd (let same : is_matched (after m (See s f)) c ≡ is_matched m c = matched_is (after m (See s f)) c ∙ ap is_some (get_or-set_other m.partner f c (Some s) None differ) ∙ sym (matched_is m c) in cc)
    ]

pub not_true : (b : Bool) → not b ≡ true → b ≡ false
not_true true e = absurd (cc)
not_true false e = refl

later : (p : MpiProgram) (x : Step) (xs : List Step) (c : ℕ) → FitFind p xs c → FitFind p (x ∷ xs) c
later p x xs c w =
    record { place = suc w.place; send = w.send; finder = w.finder; sees = w.sees; there = w.there; kind = w.kind; fit = w.fit; which = w.which }

matching_step_from : (p : MpiProgram) (m : Configuration) (x : Step) (xs : List Step) (c : ℕ) → IsRun p m (x ∷ xs) → is_matched m c ≡ false → (is_matched (after m x) c ≡ false → FitFind p xs c) → (b : Bool) → is_matched (after m x) c ≡ b → FitFind p (x ∷ xs) c
matching_step_from p m x xs c run free rest false e = later p x xs c (rest e)
matching_step_from p m (Issue r b) xs c run free rest true e = absurd (cc)
matching_step_from p m (Match s t) xs c run free rest true e =
    record { place = 0; send = s; finder = t; sees = false; there = refl; kind = not_true (is_probe p t) run.0.0; fit = run.0.1.fit; which = elim (newly m s t c free e) [ inl is ↦ inl (refl, is) | inr is ↦ inr is ] }
matching_step_from p m (See s f) xs c run free rest true e =
    record { place = 0; send = s; finder = f; sees = true; there = refl; kind = run.0.0; fit = run.0.1.fit; which = inr (newly_seen m s f c free e) }

matching_step : (p : MpiProgram) (m : Configuration) (steps : List Step) (c : ℕ) → IsRun p m steps → is_matched m c ≡ false → is_matched (after_all m steps) c ≡ true → FitFind p steps c
matching_step p m [] c run free done = absurd (cc)
matching_step p m (x ∷ xs) c run free done =
    matching_step_from p m x xs c run free (λ e. matching_step p (after m x) xs c run.1 e done) (is_matched (after m x) c) refl

opening_free : (p : MpiProgram) (c : ℕ) → is_matched (opening p) c ≡ false
opening_free p c = ap is_some (none_yet (length p.calls) c)
  where
    none_yet : (n c : ℕ) → unwrap_or (slice_get (replicate n (let x : Option ℕ = None in x)) c) None ≡ None
    none_yet zero c = refl
    none_yet (suc n) zero = refl
    none_yet (suc n) (suc c) = none_yet n c

-- ---- prefixes

-- a prefix of a run is a run
pub IsRun-take : (p : MpiProgram) (m : Configuration) (steps : List Step) (k : ℕ) → IsRun p m steps → IsRun p m (take k steps)
IsRun-take p m [] zero run = tt
IsRun-take p m [] (suc k) run = tt
IsRun-take p m (x ∷ xs) zero run = tt
IsRun-take p m (x ∷ xs) (suc k) run = (run.0, IsRun-take p (after m x) xs k run.1)

-- a place in a prefix is one before its end, and has the same step
pub in_prefix : (steps : List Step) (k i : ℕ) (x : Step) → slice_get (take i steps) k ≡ Some x → (k < i) × (slice_get steps k ≡ Some x)
in_prefix [] k zero x h = absurd (cc)
in_prefix [] k (suc i) x h = absurd (cc)
in_prefix (y ∷ steps) k zero x h = absurd (cc)
in_prefix (y ∷ steps) zero (suc i) x h = (omega arith, h)
in_prefix (y ∷ steps) (suc k) (suc i) x h = let r = in_prefix steps k i x h in (omega (arith, r.0), r.1)

-- where nothing holds at two places, the places where it holds are one
pub one_place : (At : ℕ → Type 0) → ((i k : ℕ) → i < k → At i → At k → ⊥) → (i k : ℕ) → At i → At k → i ≡ k
one_place At never i k w v =
    elim (cases_lt i k) [
      | inl below ↦ absurd (never i k below w v)
      | inr not_below ↦ elim (cases_lt k i) [ inl above ↦ absurd (never k i above v w) | inr not_above ↦ omega (arith, not_below, not_above) ]
    ]

-- ---- a call that is matched as a send is no taker

fits_apart : (r q u v : ℕ) (k l j : Kind ℕ) → fits_between r (message_of k) q (pattern_of l) ≡ true → fits_between u (message_of j) v (pattern_of k) ≡ true → ⊥
fits_apart r q u v (Send mode blocking message) l (Send mode' blocking' message') f g = cc
fits_apart r q u v (Send mode blocking message) l (Receive b pattern) f g = cc
fits_apart r q u v (Send mode blocking message) l (MatchedProbe pattern c) f g = cc
fits_apart r q u v (Send mode blocking message) l (Probe pattern) f g = cc
fits_apart r q u v (Send mode blocking message) l (MatchedReceive b) f g = cc
fits_apart r q u v (Send mode blocking message) l (Wait o) f g = cc
fits_apart r q u v (Receive b pattern) l j f g = cc
fits_apart r q u v (MatchedProbe pattern c) l j f g = cc
fits_apart r q u v (Probe pattern) l j f g = cc
fits_apart r q u v (MatchedReceive b) l j f g = cc
fits_apart r q u v (Wait o) l j f g = cc

fits_apart_calls : (x y z : Option Call) → both_hold fits x y ≡ true → both_hold fits z x ≡ true → ⊥
fits_apart_calls None y z f g = cc
fits_apart_calls (Some x) None z f g = cc
fits_apart_calls (Some x) (Some y) None f g = cc
fits_apart_calls (Some x) (Some y) (Some z) f g = fits_apart x.rank y.rank z.rank x.rank x.kind y.kind z.kind f g

pub no_send_is_taker : (p : MpiProgram) (e t s : ℕ) → are_fit p e t ≡ true → are_fit p s e ≡ true → ⊥
no_send_is_taker p e t s f g = fits_apart_calls (call_at p e) (call_at p t) (call_at p s) f g

-- what is matched before a place, and is no finder or no send
pub send_before : (p : MpiProgram) (steps : List Step) (i c : ℕ) → IsRun p (opening p) steps → is_matched (after_all (opening p) (take i steps)) c ≡ true → ((s : ℕ) → are_fit p s c ≡ true → ⊥) → IsSendMatchedBefore steps c i
send_before p steps i c run done no_finder =
    let w = matching_step p (opening p) (take i steps) c (IsRun-take p (opening p) steps i run) (opening_free p c) done in
    let k = in_prefix steps w.place i (find_step w.sees w.send w.finder) w.there in
    elim w.which [
      | inl is ↦
          let there : slice_get steps w.place ≡ Some (Match w.send w.finder) = subst (λ (b : Bool). slice_get steps w.place ≡ Some (find_step b w.send w.finder)) is.0 k.1 in
          record { earlier = w.place; before = k.0; taker = w.finder; there = subst (λ (z : ℕ). slice_get steps w.place ≡ Some (Match z w.finder)) (sym is.1) there }
      | inr is ↦ absurd (no_finder w.send (subst (λ (z : ℕ). are_fit p w.send z ≡ true) (sym is) w.fit))
    ]

-- what has found a send before a place
pub found_before : (p : MpiProgram) (steps : List Step) (i c : ℕ) → IsRun p (opening p) steps → is_matched (after_all (opening p) (take i steps)) c ≡ true → ((t : ℕ) → are_fit p c t ≡ true → ⊥) → (w : IsFoundBefore steps c i) × (is_probe p c ≡ w.sees)
found_before p steps i c run done no_send =
    let w = matching_step p (opening p) (take i steps) c (IsRun-take p (opening p) steps i run) (opening_free p c) done in
    let k = in_prefix steps w.place i (find_step w.sees w.send w.finder) w.there in
    elim w.which [
      | inr is ↦ (record { earlier = w.place; before = k.0; sees = w.sees; send = w.send; there = subst (λ (z : ℕ). slice_get steps w.place ≡ Some (find_step w.sees w.send z)) (sym is) k.1 }, ap (is_probe p) is ∙ w.kind)
      | inl is ↦ absurd (no_send w.finder (subst (λ (z : ℕ). are_fit p z w.finder ≡ true) (sym is.1) w.fit))
    ]

pub taker_before : (p : MpiProgram) (steps : List Step) (i c : ℕ) → IsRun p (opening p) steps → is_matched (after_all (opening p) (take i steps)) c ≡ true → ((t : ℕ) → are_fit p c t ≡ true → ⊥) → is_probe p c ≡ false → IsTakerMatchedBefore steps c i
taker_before p steps i c run done no_send taker =
    let f = found_before p steps i c run done no_send in
    let w = f.0 in
    let off : w.sees ≡ false = sym f.1 ∙ taker in
    record { earlier = w.earlier; before = w.before; send = w.send; there = subst (λ (b : Bool). slice_get steps w.earlier ≡ Some (find_step b w.send c)) off w.there }

-- where by a step a finder finds a send, it can
pub can_find_at : (p : MpiProgram) (steps : List Step) (i s f : ℕ) (sees : Bool) → IsRun p (opening p) steps → slice_get steps i ≡ Some (find_step sees s f) → CanFind p (after_all (opening p) (take i steps)) s f
can_find_at p steps i s f true run there = (IsRun-at p (opening p) steps i (See s f) run there).1
can_find_at p steps i s f false run there = (IsRun-at p (opening p) steps i (Match s f) run there).1

pub earlier_sends_match_first : EarlierSendsMatchFirst
earlier_sends_match_first p steps i s f e sees run there below same fit =
    let can = can_find_at p steps i s f sees run there in
    send_before p steps i e run (can.sends e below same fit) (λ send. no_send_is_taker p e f send fit)

pub earlier_takers_match_first : EarlierTakersMatchFirst
earlier_takers_match_first p steps i s f e sees run there below same taken =
    let can = can_find_at p steps i s f sees run there in
    let parts = and_true (are_fit p s e) (not (is_probe p e)) taken in
    taker_before p steps i e run (can.takers e below same taken) (λ taker other. no_send_is_taker p e taker s other parts.0) (not_true (is_probe p e) parts.1)

-- ---- what is matched stays so, and isn't matched again

some_at-same : (partner : List (Option ℕ)) (i c x : ℕ) → c ≡ i → i < length partner → some_at (slice_set partner i (Some x)) c ≡ true
some_at-same partner i c x e within = ap is_some (get_or-set_at partner i c (Some x) None e within)

all_stay_matched : (m : Configuration) (xs : List Step) (c : ℕ) → is_matched m c ≡ true → is_matched (after_all m xs) c ≡ true
all_stay_matched m [] c holds = holds
all_stay_matched m (x ∷ xs) c holds = all_stay_matched (after m x) xs c (matched_grows m x c holds)

-- a step keeps the number of partners
pub same_size : (m : Configuration) (x : Step) → length (after m x).partner ≡ length m.partner
same_size m (Issue r b) = refl
same_size m (Match s t) = length-set (slice_set m.partner s (Some t)) t (Some s) ∙ length-set m.partner s (Some t)
same_size m (See s f) = length-set m.partner f (Some s)

now_matched : (p : MpiProgram) (m : Configuration) (s t c : ℕ) → length m.partner ≡ length p.calls → CanFind p m s t → (c ≡ s) ⊎ (c ≡ t) → is_matched (after m (Match s t)) c ≡ true
now_matched p m s t c size can which =
    let within = matched_within p m s t can in
    matched_is (after m (Match s t)) c ∙
    elim which [
      | inl e ↦ some_set (slice_set m.partner s (Some t)) t c s (some_at-same m.partner s c t e (omega (arith, size, within.0)))
      | inr e ↦ some_at-same (slice_set m.partner s (Some t)) t c s e (omega (arith, size, within.1, length-set m.partner s (Some t)))
    ]

-- behind the place where a step matches it a call is matched
pub matched_after : (p : MpiProgram) (m : Configuration) (steps : List Step) (c i k : ℕ) → length m.partner ≡ length p.calls → IsRun p m steps → i < k → IsMatchedAt steps c i → is_matched (after_all m (take k steps)) c ≡ true
matched_after p m [] c i k size run below w = absurd (let e = w.there in cc)
matched_after p m (x ∷ xs) c i zero size run below w = absurd (omega arith)
matched_after p m (x ∷ xs) c zero (suc k) size run below w =
    let e : x ≡ Match w.send w.taker = let there = w.there in cc in
    let can : CanFind p m w.send w.taker = (subst (λ (z : Step). IsEnabled p m z) e run.0).1 in
    all_stay_matched (after m x) (take k xs) c (ap (λ (z : Step). is_matched (after m z) c) e ∙ now_matched p m w.send w.taker c size can w.which)
matched_after p m (x ∷ xs) c (suc i) (suc k) size run below w =
    matched_after p (after m x) xs c i k (same_size m x ∙ size) run.1 (omega arith) (record { send = w.send; taker = w.taker; there = w.there; which = w.which })

not_twice : (p : MpiProgram) (steps : List Step) (c i k : ℕ) → IsRun p (opening p) steps → i < k → IsMatchedAt steps c i → IsMatchedAt steps c k → ⊥
not_twice p steps c i k run below w v =
    let m = after_all (opening p) (take k steps) in
    let matched = matched_after p (opening p) steps c i k (length-replicate _ _) run below w in
    let can = (IsRun-at p (opening p) steps k (Match v.send v.taker) run v.there).1 in
    let free : is_matched m c ≡ false = elim v.which [ inl e ↦ ap (is_matched m) e ∙ can.send_open | inr e ↦ ap (is_matched m) e ∙ can.finder_open ] in
    cc

pub matched_once : MatchedOnce
matched_once p steps c i k run w v =
    one_place (IsMatchedAt steps c) (λ i k below w v. not_twice p steps c i k run below w v) i k w v

-- ---- no finder finds twice

now_found : (p : MpiProgram) (m : Configuration) (s f : ℕ) (sees : Bool) → length m.partner ≡ length p.calls → CanFind p m s f → is_matched (after m (find_step sees s f)) f ≡ true
now_found p m s f true size can =
    matched_is (after m (See s f)) f ∙ some_at-same m.partner f f s refl (omega (arith, size, (matched_within p m s f can).1))
now_found p m s f false size can = now_matched p m s f f size can (inr refl)

enabled_find : (p : MpiProgram) (m : Configuration) (s f : ℕ) (sees : Bool) → IsEnabled p m (find_step sees s f) → CanFind p m s f
enabled_find p m s f true enabled = enabled.1
enabled_find p m s f false enabled = enabled.1

found_after : (p : MpiProgram) (m : Configuration) (steps : List Step) (f i k : ℕ) → length m.partner ≡ length p.calls → IsRun p m steps → i < k → IsFoundAt steps f i → is_matched (after_all m (take k steps)) f ≡ true
found_after p m [] f i k size run below w = absurd (let e = w.there in cc)
found_after p m (x ∷ xs) f i zero size run below w = absurd (omega arith)
found_after p m (x ∷ xs) f zero (suc k) size run below w =
    let e : x ≡ find_step w.sees w.send f = let there = w.there in cc in
    let can : CanFind p m w.send f = enabled_find p m w.send f w.sees (subst (λ (z : Step). IsEnabled p m z) e run.0) in
    all_stay_matched (after m x) (take k xs) f (ap (λ (z : Step). is_matched (after m z) f) e ∙ now_found p m w.send f w.sees size can)
found_after p m (x ∷ xs) f (suc i) (suc k) size run below w =
    found_after p (after m x) xs f i k (same_size m x ∙ size) run.1 (omega arith) (record { sees = w.sees; send = w.send; there = w.there })

not_found_twice : (p : MpiProgram) (steps : List Step) (f i k : ℕ) → IsRun p (opening p) steps → i < k → IsFoundAt steps f i → IsFoundAt steps f k → ⊥
not_found_twice p steps f i k run below w v =
    let found = found_after p (opening p) steps f i k (length-replicate _ _) run below w in
    let can = can_find_at p steps k v.send f v.sees run v.there in
    let free = can.finder_open in
    cc

pub found_once : FoundOnce
found_once p steps f i k run w v =
    one_place (IsFoundAt steps f) (λ i k below w v. not_found_twice p steps f i k run below w v) i k w v
