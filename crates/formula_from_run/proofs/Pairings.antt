-- What a step that matches a pair leaves at the end of its run.
use Rattle.std.proofs.Common.{◌≡◌, ◌≢◌, ℕ, zero, suc, ◌<◌, Bool, true, false, not, List, [], ◌∷◌, Some, None, is_some, length, take, slice_get, slice_set, refl, sym, ap, ◌∙◌, subst, arith, length-set, get_or-set_same, get_or-set_other}
use Rattle.std.proofs.lemmas.List.{length-replicate}
use Rattle.std.proofs.lemmas.Bool.Decides.{nat_tests}
use Rattle.std.proofs.lemmas.Option.{unwrap_or-slice_get, slice_get_within}
use Rattle.callorder.specs.Programs.{MpiProgram, are_fit, is_probe, takes}
use Rattle.semantics.specs.declared.state.Step.{Step}
use Rattle.semantics.specs.declared.state.Step.TheVariants.{Issue, Match, See}
use Rattle.semantics.specs.Machine.{Configuration, opening, after, after_all, IsEnabled, IsRun, CanFind, is_matched, partner_of}
use Rattle.semantics.proofs.Lengths.{matched_within}
use Rattle.semantics.proofs.Runs.{IsRun-at}
use Rattle.run_laws.proofs.Matched.{found_once, no_send_is_taker, send_before, found_before, can_find_at, not_true, same_size}
use Rattle.run_laws.specs.Places.{find_step, IsFoundAt}
use Rattle.formula.proofs.Elements.{and_both}
use Rattle.formula.specs.declared.facts.RunEvent.TheVariants.{Match as match_of}
use Rattle.formula_from_run.specs.Worlds.{is_event, clock_from}
use Rattle.formula_from_run.proofs.Clocks.{happens, clock_at_most}

-- ---- what is matched keeps its partner

is_matched-from : (m : Configuration) (c u : ℕ) → partner_of m c ≡ Some u → is_matched m c ≡ true
is_matched-from m c u e = ap is_some e

pub other_kept : (m : Configuration) (s t c : ℕ) → c ≢ s → c ≢ t → partner_of (after m (Match s t)) c ≡ partner_of m c
other_kept m s t c not_s not_t =
    unwrap_or-slice_get (slice_set (slice_set m.partner s (Some t)) t (Some s)) c None ∙
    get_or-set_other (slice_set m.partner s (Some t)) t c (Some s) None not_t ∙
    get_or-set_other m.partner s c (Some t) None not_s ∙
    sym (unwrap_or-slice_get m.partner c None)

-- a see changes its probe's entry alone
pub other_kept_by_see : (m : Configuration) (s f c : ℕ) → c ≢ f → partner_of (after m (See s f)) c ≡ partner_of m c
other_kept_by_see m s f c differ =
    unwrap_or-slice_get (slice_set m.partner f (Some s)) c None ∙ get_or-set_other m.partner f c (Some s) None differ ∙ sym (unwrap_or-slice_get m.partner c None)

keeps : (p : MpiProgram) (m : Configuration) (x : Step) (c u : ℕ) → IsEnabled p m x → partner_of m c ≡ Some u → partner_of (after m x) c ≡ Some u
keeps p m (Issue r b) c u enabled e = e
keeps p m (Match s t) c u enabled e =
    let matched = is_matched-from m c u e in
    let not_s : c ≢ s = λ same. absurd (let f : is_matched m c ≡ false = subst (λ (z : ℕ). is_matched m z ≡ false) (sym same) enabled.1.send_open in cc) in
    let not_t : c ≢ t = λ same. absurd (let f : is_matched m c ≡ false = subst (λ (z : ℕ). is_matched m z ≡ false) (sym same) enabled.1.finder_open in cc) in
    other_kept m s t c not_s not_t ∙ e
keeps p m (See s f) c u enabled e =
    let matched = is_matched-from m c u e in
    let differ : c ≢ f = λ same. absurd (let free : is_matched m c ≡ false = subst (λ (z : ℕ). is_matched m z ≡ false) (sym same) enabled.1.finder_open in cc) in
    other_kept_by_see m s f c differ ∙ e

keeps_all : (p : MpiProgram) (m : Configuration) (steps : List Step) (c u : ℕ) → IsRun p m steps → partner_of m c ≡ Some u → partner_of (after_all m steps) c ≡ Some u
keeps_all p m [] c u run e = e
keeps_all p m (x ∷ steps) c u run e = keeps_all p (after m x) steps c u run.1 (keeps p m x c u run.0 e)

-- what a step leaves is there at the end
later : (p : MpiProgram) (m : Configuration) (steps : List Step) (i : ℕ) (x : Step) (c u : ℕ) → IsRun p m steps → slice_get steps i ≡ Some x → partner_of (after (after_all m (take i steps)) x) c ≡ Some u → partner_of (after_all m steps) c ≡ Some u
later p m [] i x c u run there e = absurd (cc)
later p m (y ∷ steps) zero x c u run there e =
    let same : x ≡ y = cc in
    keeps_all p (after m y) steps c u run.1 (subst (λ (z : Step). partner_of (after m z) c ≡ Some u) same e)
later p m (y ∷ steps) (suc i) x c u run there e = later p (after m y) steps i x c u run.1 there e

-- and what is matched before some place is so at the end
pub partner_later : (p : MpiProgram) (m : Configuration) (steps : List Step) (i c u : ℕ) → IsRun p m steps → partner_of (after_all m (take i steps)) c ≡ Some u → partner_of (after_all m steps) c ≡ Some u
partner_later p m [] zero c u run e = e
partner_later p m [] (suc i) c u run e = e
partner_later p m (x ∷ steps) zero c u run e = keeps_all p m (x ∷ steps) c u run e
partner_later p m (x ∷ steps) (suc i) c u run e = partner_later p (after m x) steps i c u run.1 e

length_partner : (m : Configuration) (steps : List Step) → length (after_all m steps).partner ≡ length m.partner
length_partner m [] = refl
length_partner m (x ∷ steps) = length_partner (after m x) steps ∙ same_size m x

one_for_each_call : (p : MpiProgram) (steps : List Step) → length (after_all (opening p) steps).partner ≡ length p.calls
one_for_each_call p steps = length_partner (opening p) steps ∙ length-replicate (length p.calls) None

pub taker_set : (m : Configuration) (s t : ℕ) → t < length m.partner → partner_of (after m (Match s t)) t ≡ Some s
taker_set m s t below =
    unwrap_or-slice_get (slice_set (slice_set m.partner s (Some t)) t (Some s)) t None ∙ get_or-set_same (slice_set m.partner s (Some t)) t (Some s) None (rw (length-set m.partner s (Some t)) below)

pub send_set : (m : Configuration) (s t : ℕ) → s < length m.partner → s ≢ t → partner_of (after m (Match s t)) s ≡ Some t
send_set m s t below differ =
    unwrap_or-slice_get (slice_set (slice_set m.partner s (Some t)) t (Some s)) s None ∙ get_or-set_other (slice_set m.partner s (Some t)) t s (Some s) None differ ∙ get_or-set_same m.partner s (Some t) None below

pub probe_set : (m : Configuration) (s f : ℕ) → f < length m.partner → partner_of (after m (See s f)) f ≡ Some s
probe_set m s f below =
    unwrap_or-slice_get (slice_set m.partner f (Some s)) f None ∙ get_or-set_same m.partner f (Some s) None below

finder_set : (m : Configuration) (s f : ℕ) (sees : Bool) → f < length m.partner → partner_of (after m (find_step sees s f)) f ≡ Some s
finder_set m s f true below = probe_set m s f below
finder_set m s f false below = taker_set m s f below

-- ---- what is found

-- a step of a run by which the finder finds the send, and what it leaves at the end
pub record Finding (p : MpiProgram) (steps : List Step) (s f i : ℕ) : Type 0 where
  pub sees : Bool
  pub kind : is_probe p f ≡ sees
  pub there : slice_get steps i ≡ Some (find_step sees s f)
  pub can : CanFind p (after_all (opening p) (take i steps)) s f
  pub taker_kept : partner_of (after_all (opening p) steps) f ≡ Some s
  pub clock : clock_from p (opening p) steps (match_of f) ≡ i

-- a step of a run that matches the pair, and what it leaves at the end
pub record Pairing (p : MpiProgram) (steps : List Step) (s t i : ℕ) : Type 0 where
  pub there : slice_get steps i ≡ Some (Match s t)
  pub can : CanFind p (after_all (opening p) (take i steps)) s t
  pub taken : takes p s t ≡ true
  pub send_kept : partner_of (after_all (opening p) steps) s ≡ Some t
  pub taker_kept : partner_of (after_all (opening p) steps) t ≡ Some s
  pub clock : clock_from p (opening p) steps (match_of t) ≡ i

-- only a find of the finder is its event
find_event : (m : Configuration) (steps : List Step) (t k : ℕ) (x : Step) → slice_get steps k ≡ Some x → is_event m x (match_of t) ≡ true → IsFoundAt steps t k
find_event m steps t k (Issue r b) there is = absurd (cc)
find_event m steps t k (Match a u) there is =
    let same : u ≡ t = grind (arith, nat_tests) in
    record { sees = false; send = a; there = subst (λ (z : ℕ). slice_get steps k ≡ Some (Match a z)) same there }
find_event m steps t k (See a u) there is =
    let same : u ≡ t = grind (arith, nat_tests) in
    record { sees = true; send = a; there = subst (λ (z : ℕ). slice_get steps k ≡ Some (See a z)) same there }

is_find : (m : Configuration) (s t : ℕ) (sees : Bool) → is_event m (find_step sees s t) (match_of t) ≡ true
is_find m s t true = grind (arith, nat_tests)
is_find m s t false = grind (arith, nat_tests)

find_clock : (p : MpiProgram) (steps : List Step) (s t i : ℕ) (sees : Bool) → IsRun p (opening p) steps → slice_get steps i ≡ Some (find_step sees s t) → clock_from p (opening p) steps (match_of t) ≡ i
find_clock p steps s t i sees run there =
    let most = clock_at_most p (opening p) steps (match_of t) i (find_step sees s t) there (is_find (after_all (opening p) (take i steps)) s t sees) in
    let inside = slice_get_within steps i (find_step sees s t) there in
    let first = happens p (opening p) steps (match_of t) (omega (arith, most, inside)) in
    let w = find_event (after_all (opening p) (take (clock_from p (opening p) steps (match_of t)) steps)) steps t (clock_from p (opening p) steps (match_of t)) first.step first.there first.is in
    found_once p steps t _ i run w (record { sees = sees; send = s; there = there })

kind_of_find : (p : MpiProgram) (m : Configuration) (s f : ℕ) (sees : Bool) → IsEnabled p m (find_step sees s f) → is_probe p f ≡ sees
kind_of_find p m s f true enabled = enabled.0
kind_of_find p m s f false enabled = not_true (is_probe p f) enabled.0

pub finding : (p : MpiProgram) (steps : List Step) (s f i : ℕ) (sees : Bool) → IsRun p (opening p) steps → slice_get steps i ≡ Some (find_step sees s f) → Finding p steps s f i
finding p steps s f i sees run there =
    let m = after_all (opening p) (take i steps) in
    let can = can_find_at p steps i s f sees run there in
    let e = one_for_each_call p (take i steps) in
    let within = matched_within p m s f can in
    let range : f < length m.partner = rw e within.1 in
    record {
      sees = sees;
      kind = kind_of_find p m s f sees (IsRun-at p (opening p) steps i (find_step sees s f) run there);
      there = there;
      can = can;
      taker_kept = later p (opening p) steps i (find_step sees s f) f s run there (finder_set m s f sees range);
      clock = find_clock p steps s f i sees run there;
    }

pub pairing : (p : MpiProgram) (steps : List Step) (s t i : ℕ) → IsRun p (opening p) steps → slice_get steps i ≡ Some (Match s t) → Pairing p steps s t i
pairing p steps s t i run there =
    let m = after_all (opening p) (take i steps) in
    let found = finding p steps s t i false run there in
    let can = found.can in
    let e = one_for_each_call p (take i steps) in
    let within = matched_within p m s t can in
    let send_range : s < length m.partner = rw e within.0 in
    let differ : s ≢ t = λ same. no_send_is_taker p s t s can.fit (subst (λ (z : ℕ). are_fit p s z ≡ true) (sym same) can.fit) in
    record {
      there = there;
      can = can;
      taken = and_both (are_fit p s t) (not (is_probe p t)) can.fit (IsRun-at p (opening p) steps i (Match s t) run there).0;
      send_kept = later p (opening p) steps i (Match s t) s t run there (send_set m s t send_range differ);
      taker_kept = found.taker_kept;
      clock = found.clock;
    }

-- the send is matched by one of so many steps
pub record Sent (p : MpiProgram) (steps : List Step) (s i : ℕ) : Type 0 where
  pub taker : ℕ
  pub place : ℕ
  pub before : place < i
  pub pair : Pairing p steps s taker place

-- the finder finds a send by one of so many steps
pub record Received (p : MpiProgram) (steps : List Step) (f i : ℕ) : Type 0 where
  pub send : ℕ
  pub place : ℕ
  pub before : place < i
  pub pair : Finding p steps send f place

pub sent : (p : MpiProgram) (steps : List Step) (s v i : ℕ) → IsRun p (opening p) steps → are_fit p s v ≡ true → is_matched (after_all (opening p) (take i steps)) s ≡ true → Sent p steps s i
sent p steps s v i run fit matched =
    let w = send_before p steps i s run matched (λ send. no_send_is_taker p s v send fit) in
    record { taker = w.taker; place = w.earlier; before = w.before; pair = pairing p steps s w.taker w.earlier run w.there }

pub received : (p : MpiProgram) (steps : List Step) (f v i : ℕ) → IsRun p (opening p) steps → are_fit p v f ≡ true → is_matched (after_all (opening p) (take i steps)) f ≡ true → Received p steps f i
received p steps f v i run fit matched =
    let w = (found_before p steps i f run matched (λ taker other. no_send_is_taker p f taker v other fit)).0 in
    record { send = w.send; place = w.earlier; before = w.before; pair = finding p steps w.send f w.earlier w.sees run w.there }

pub take_all : (steps : List Step) → take (length steps) steps ≡ steps
take_all [] = refl
take_all (x ∷ steps) = ap (λ (l : List Step). x ∷ l) (take_all steps)
