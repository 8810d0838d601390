-- A match whose turn has come may be made, and what stands then.
use Rattle.std.proofs.Common.{◌≡◌, ◌≢◌, ℕ, ◌≤◌, ◌⊎◌, inl, inr, Bool, true, false, cond, not, ◌&&◌, ◌||◌, ◌==◌, List, [], ◌∷◌, Option, Some, None, is_some, get_or, slice_set, refl, sym, ap, ◌∙◌, subst, arith, length-set}
use Rattle.std.specs.List.{filter, list_any}
use Rattle.std.proofs.Math.Bool.{and-false}
use Rattle.std.proofs.lemmas.Bool.{cases_eq, eq-eqb, and_parts}
use Rattle.std.proofs.lemmas.Bool.Decides.{nat_tests}
use Rattle.std.proofs.lemmas.Option.{same_Some}
use Rattle.callorder.specs.declared.calls.Call.{Call}
use Rattle.callorder.specs.Programs.{MpiProgram, call_at, are_fit, is_probe, takes, sees}
use Rattle.callorder.specs.Calls.{holds_of, fits}
use Rattle.semantics.specs.declared.state.Step.TheVariants.{Match, See}
use Rattle.semantics.specs.Machine.{Configuration, CanFind, CanMatch, CanSee, after, is_issued_call, partner_of}
use Rattle.run_laws.proofs.Matched.{no_send_is_taker}
use Rattle.run_laws.proofs.Descent.{takes_fit}
use Rattle.formula.specs.declared.facts.RunEvent.{RunEvent}
use Rattle.formula.specs.declared.facts.RunEvent.TheVariants.{Match as match_of}
use Rattle.formula.specs.declared.facts.Fact.TheVariants.{Matched as matched}
use Rattle.formula.specs.Families.{sends_of}
use Rattle.formula.proofs.Elements.{Each, and_both, or_left}
use Rattle.formula_from_run.specs.Worlds.{World, is_that}
use Rattle.formula_from_run.proofs.Matches.{fit_within, is_that-from}
use Rattle.formula_from_run.proofs.Pairings.{other_kept, other_kept_by_see, send_set, taker_set, probe_set}
use Rattle.formula_from_run.proofs.Ranks.{not_false}
use Rattle.run_from_formula.specs.Schedules.{happens, sender_of}
use Rattle.run_from_formula.proofs.Along.{sends_fit}
use Rattle.run_from_formula.proofs.Consequences.{Consequences}
use Rattle.run_from_formula.proofs.Happening.{is_in}
use Rattle.run_from_formula.proofs.Stages.{IsStage, issued_by, sent_by, received_by, done_then, match_happens, fit_taker}

-- ---- the sender

first_step : (P : ℕ → Type 0) (test : ℕ → Bool) (x : ℕ) (xs : List ℕ) (b : Bool) → test x ≡ b → P x → (b || list_any test xs) ≡ true → (list_any test xs ≡ true → (test (get_or (filter test xs) 0 0) ≡ true) × P (get_or (filter test xs) 0 0)) → (test (get_or (cond b (x ∷ filter test xs) (filter test xs)) 0 0) ≡ true) × P (get_or (cond b (x ∷ filter test xs) (filter test xs)) 0 0)
first_step P test x xs true e h some rest = (e, h)
first_step P test x xs false e h some rest = rest some

-- the first of those that pass, and what holds of it
first_that : (P : ℕ → Type 0) (test : ℕ → Bool) (xs : List ℕ) → Each P xs → list_any test xs ≡ true → (test (get_or (filter test xs) 0 0) ≡ true) × P (get_or (filter test xs) 0 0)
first_that P test [] each some = absurd (cc)
first_that P test (x ∷ xs) each some = first_step P test x xs (test x) refl each.0 some (first_that P test xs each.1)

pub sender_is : (p : MpiProgram) (world : World) (t : ℕ) → happens p world (match_of t) ≡ true → (world.has (matched (sender_of p world t) t) ≡ true) × (are_fit p (sender_of p world t) t ≡ true)
sender_is p world t does = first_that (λ s. are_fit p s t ≡ true) (λ s. world.has (matched s t)) (sends_of p t) (sends_fit p t) does

-- ---- what the match changes

not_both_ways : (p : MpiProgram) (s t : ℕ) → are_fit p s t ≡ true → s ≢ t
not_both_ways p s t fit same = no_send_is_taker p s t s fit (subst (λ (z : ℕ). are_fit p s z ≡ true) (sym same) fit)

unmatched : (o : Option ℕ) → ((u : ℕ) → o ≡ Some u → ⊥) → is_some o ≡ false
unmatched None h = refl
unmatched (Some u) h = absurd (h u refl)

kept_out : (a b : Bool) → (a ≡ true → b ≡ false → ⊥) → false ≡ (a && not b)
kept_out true true h = refl
kept_out true false h = absurd (h refl refl)
kept_out false b h = refl

same_issued : (m : Configuration) (s t c : ℕ) (x : Option Call) → holds_of (is_issued_call (after m (Match s t)) c) x ≡ holds_of (is_issued_call m c) x
same_issued m s t c None = refl
same_issued m s t c (Some x) = refl

same_issued_by_see : (m : Configuration) (s t c : ℕ) (x : Option Call) → holds_of (is_issued_call (after m (See s t)) c) x ≡ holds_of (is_issued_call m c) x
same_issued_by_see m s t c None = refl
same_issued_by_see m s t c (Some x) = refl

never_both : (b : Bool) → not b ≡ true → b ≡ true → ⊥
never_both true h e = cc
never_both false h e = cc

module _ (p : MpiProgram) (world : World) (says : Consequences p world) (m : Configuration) (rest : List RunEvent) (s t : ℕ) (fit : are_fit p s t ≡ true) (does : world.has (matched s t) ≡ true) (stage : IsStage p world m (match_of t ∷ rest)) (later : Each (λ y. world.clock (match_of t) ≤ world.clock y) rest) where
  -- ---- it is enabled

  left_here : is_in (match_of t ∷ rest) (match_of t) ≡ true
  left_here = or_left (t == t) (is_in rest (match_of t)) (eq-eqb t t refl)

  taker_taken : (u : ℕ) → partner_of m t ≡ Some u → ⊥
  taker_taken u e =
      elim (stage.fits t u e) [
        | inl fits ↦ no_send_is_taker p t u s (takes_fit p t u fits) fit
        | inr fits ↦
            let parts = and_parts (world.has (matched u t)) (not (is_in (match_of t ∷ rest) (match_of t))) (sym (stage.takers u t fits) ∙ is_that-from (partner_of m t) u e) in
            never_both (is_in (match_of t ∷ rest) (match_of t)) parts.1 left_here
      ]

  find_enabled : ((u : ℕ) → partner_of m s ≡ Some u → ⊥) → CanFind p m s t
  find_enabled send_free =
      let all : Each (λ y. world.clock (match_of t) ≤ world.clock y) (match_of t ∷ rest) = (omega arith, later) in
      let within = fit_within p s t fit in
      let first = says.issues s t fit does in
      record {
        send_issued = issued_by p world m (match_of t ∷ rest) (match_of t) stage all s within.0 first.send first.send_before;
        finder_issued = issued_by p world m (match_of t ∷ rest) (match_of t) stage all t within.1 first.taker first.taker_before;
        send_open = unmatched (partner_of m s) send_free;
        finder_open = unmatched (partner_of m t) taker_taken;
        fit = fit;
        sends = λ e below same fits.
            let w = says.sends s t e fit does below same fits in
            ap is_some (sent_by p world m (match_of t ∷ rest) (match_of t) stage all e w.taker w.fits w.paired w.earlier);
        takers = λ e below same fits.
            let w = says.takers s t e fit does below same fits in
            ap is_some (received_by p world m (match_of t ∷ rest) (match_of t) stage all w.send e w.fits w.paired w.earlier);
      }

  -- the finder's pairs
  of_taker : is_in rest (match_of t) ≡ false → (u : ℕ) → are_fit p u t ≡ true → (s == u) ≡ (world.has (matched u t) && not (is_in rest (match_of t)))
  of_taker once u fits =
      elim (cases_eq s u) [
        | inl same ↦
            let said : (world.has (matched s t) && not (is_in rest (match_of t))) ≡ true = and_both _ _ does (not_false _ once) in
            eq-eqb s u same ∙ sym (subst (λ (z : ℕ). (world.has (matched z t) && not (is_in rest (match_of t))) ≡ true) same said)
        | inr differ ↦
            let unlike : (s == u) ≡ false = grind (arith, nat_tests) in
            unlike ∙ kept_out _ _ (λ h _. differ (says.one_send s u t fit fits does h))
      ]

module _ (p : MpiProgram) (world : World) (says : Consequences p world) (m : Configuration) (rest : List RunEvent) (s t : ℕ) (taken : takes p s t ≡ true) (does : world.has (matched s t) ≡ true) (stage : IsStage p world m (match_of t ∷ rest)) (later : Each (λ y. world.clock (match_of t) ≤ world.clock y) rest) where
  fit : are_fit p s t ≡ true
  fit = takes_fit p s t taken

  -- ---- a match is enabled

  send_taken : (u : ℕ) → partner_of m s ≡ Some u → ⊥
  send_taken u e =
      elim (stage.fits s u e) [
        | inl fits ↦
            let parts = and_parts (world.has (matched s u)) (not (is_in (match_of t ∷ rest) (match_of u))) (sym (stage.sends s u fits) ∙ is_that-from (partner_of m s) u e) in
            let same : u ≡ t = sym (says.one_taker s t u taken fits does parts.0) in
            never_both (is_in (match_of t ∷ rest) (match_of t)) (subst (λ (z : ℕ). not (is_in (match_of t ∷ rest) (match_of z)) ≡ true) same parts.1) (left_here p world says m rest s t fit does stage later)
        | inr fits ↦ no_send_is_taker p s t u fit fits
      ]

  pub match_enabled : CanMatch p m s t
  match_enabled = ((and_parts (are_fit p s t) (not (is_probe p t)) taken).1, find_enabled p world says m rest s t fit does stage later send_taken)

  -- ---- the stage after it

  send_now : partner_of (after m (Match s t)) s ≡ Some t
  send_now = send_set m s t (omega (arith, stage.size.partner, (fit_within p s t fit).0)) (not_both_ways p s t fit)

  taker_now : partner_of (after m (Match s t)) t ≡ Some s
  taker_now = taker_set m s t (omega (arith, stage.size.partner, (fit_within p s t fit).1))

  -- the send's pairs
  of_send : is_in rest (match_of t) ≡ false → (v : ℕ) → takes p s v ≡ true → (t == v) ≡ (world.has (matched s v) && not (is_in rest (match_of v)))
  of_send once v fits =
      elim (cases_eq t v) [
        | inl same ↦
            let said : (world.has (matched s t) && not (is_in rest (match_of t))) ≡ true = and_both _ _ does (not_false _ once) in
            eq-eqb t v same ∙ sym (subst (λ (z : ℕ). (world.has (matched s z) && not (is_in rest (match_of z))) ≡ true) same said)
        | inr differ ↦
            let unlike : (t == v) ≡ false = grind (arith, nat_tests) in
            unlike ∙ kept_out _ _ (λ h _. differ (says.one_taker s t v taken fits does h))
      ]

  -- pairs of another send
  of_others : (u v : ℕ) → are_fit p u v ≡ true → u ≢ s → (world.has (matched u v) && not (is_in (match_of t ∷ rest) (match_of v))) ≡ (world.has (matched u v) && not (is_in rest (match_of v)))
  of_others u v fits differ =
      elim (cases_eq v t) [
        | inl same ↦
            let gone : (world.has (matched u v) && not (is_in (match_of t ∷ rest) (match_of v))) ≡ false = ap (λ (b : Bool). world.has (matched u v) && not (b || is_in rest (match_of v))) (eq-eqb v t same) ∙ and-false (world.has (matched u v)) in
            let fits_it : are_fit p u t ≡ true = subst (λ (z : ℕ). are_fit p u z ≡ true) same fits in
            gone ∙ kept_out _ _ (λ h _. differ (says.one_send u s t fits_it fit (subst (λ (z : ℕ). world.has (matched u z) ≡ true) same h) does))
        | inr apart ↦
            let unlike : (v == t) ≡ false = grind (arith, nat_tests) in
            ap (λ (b : Bool). world.has (matched u v) && not (b || is_in rest (match_of v))) unlike
      ]

  sends_then : is_in rest (match_of t) ≡ false → (u v : ℕ) → takes p u v ≡ true → is_that (partner_of (after m (Match s t)) u) v ≡ (world.has (matched u v) && not (is_in rest (match_of v)))
  sends_then once u v fits =
      elim (cases_eq u s) [
        | inl e ↦
            let fits_it : takes p s v ≡ true = subst (λ (z : ℕ). takes p z v ≡ true) e fits in
            subst (λ (z : ℕ). is_that (partner_of (after m (Match s t)) z) v ≡ (world.has (matched z v) && not (is_in rest (match_of v)))) (sym e)
            (ap (λ (o : Option ℕ). is_that o v) send_now ∙ of_send once v fits_it)
        | inr differ ↦
            let not_taker : u ≢ t = λ same. no_send_is_taker p u v s (takes_fit p u v fits) (subst (λ (z : ℕ). are_fit p s z ≡ true) (sym same) fit) in
            ap (λ (o : Option ℕ). is_that o v) (other_kept m s t u differ not_taker) ∙ stage.sends u v fits ∙ of_others u v (takes_fit p u v fits) differ
      ]

  takers_then : is_in rest (match_of t) ≡ false → (u v : ℕ) → are_fit p u v ≡ true → is_that (partner_of (after m (Match s t)) v) u ≡ (world.has (matched u v) && not (is_in rest (match_of v)))
  takers_then once u v fits =
      elim (cases_eq v t) [
        | inl e ↦
            let fits_it : are_fit p u t ≡ true = subst (λ (z : ℕ). are_fit p u z ≡ true) e fits in
            subst (λ (z : ℕ). is_that (partner_of (after m (Match s t)) z) u ≡ (world.has (matched u z) && not (is_in rest (match_of z)))) (sym e)
            (ap (λ (o : Option ℕ). is_that o u) taker_now ∙ of_taker p world says m rest s t fit does stage later once u fits_it)
        | inr differ ↦
            let unlike : (v == t) ≡ false = grind (arith, nat_tests) in
            let not_send : v ≢ s = λ same. no_send_is_taker p s t u fit (subst (λ (z : ℕ). are_fit p u z ≡ true) same fits) in
            ap (λ (o : Option ℕ). is_that o u) (other_kept m s t v not_send differ) ∙ stage.takers u v fits ∙
            ap (λ (b : Bool). world.has (matched u v) && not (b || is_in rest (match_of v))) unlike
      ]

  fits_then : (x y : ℕ) → partner_of (after m (Match s t)) x ≡ Some y → (takes p x y ≡ true) ⊎ (are_fit p y x ≡ true)
  fits_then x y e =
      elim (cases_eq x s) [
        | inl is_s ↦
            let there : partner_of (after m (Match s t)) s ≡ Some y = subst (λ (z : ℕ). partner_of (after m (Match s t)) z ≡ Some y) is_s e in
            let same : t ≡ y = same_Some _ _ (sym send_now ∙ there) in
            inl (subst (λ (z : ℕ). takes p z y ≡ true) (sym is_s) (subst (λ (z : ℕ). takes p s z ≡ true) same taken))
        | inr not_s ↦
            elim (cases_eq x t) [
              | inl is_t ↦
                  let there : partner_of (after m (Match s t)) t ≡ Some y = subst (λ (z : ℕ). partner_of (after m (Match s t)) z ≡ Some y) is_t e in
                  let same : s ≡ y = same_Some _ _ (sym taker_now ∙ there) in
                  inr (subst (λ (z : ℕ). are_fit p y z ≡ true) (sym is_t) (subst (λ (z : ℕ). are_fit p z t ≡ true) same fit))
              | inr not_t ↦ stage.fits x y (sym (other_kept m s t x not_s not_t) ∙ e)
            ]
      ]

  pub stage_after_match : is_in rest (match_of t) ≡ false → IsStage p world (after m (Match s t)) rest
  stage_after_match once =
      record {
        size = record {
          next = stage.size.next;
          buffered = stage.size.buffered;
          partner = length-set (slice_set m.partner s (Some t)) t (Some s) ∙ length-set m.partner s (Some t) ∙ stage.size.partner;
        };
        started = stage.started;
        own = stage.own;
        issues = λ c below. same_issued m s t c (call_at p c) ∙ stage.issues c below;
        flags = λ c i standard. stage.flags c (sym (same_issued m s t c (call_at p c)) ∙ i) standard;
        sends = sends_then once;
        takers = takers_then once;
        fits = fits_then;
        done = done_then p world m (match_of t) rest stage later;
      }

-- ---- a see

module _ (p : MpiProgram) (world : World) (says : Consequences p world) (m : Configuration) (rest : List RunEvent) (s f : ℕ) (seen : sees p s f ≡ true) (does : world.has (matched s f) ≡ true) (stage : IsStage p world m (match_of f ∷ rest)) (later : Each (λ y. world.clock (match_of f) ≤ world.clock y) rest) where
  see_fit : are_fit p s f ≡ true
  see_fit = (and_parts (are_fit p s f) (is_probe p f) seen).0

  not_in : (b : Bool) → not b ≡ true → b ≡ false
  not_in true h = absurd (cc)
  not_in false h = refl

  -- the send is unmatched: what was matched is no later than what is left, and the see comes before
  -- its match
  send_unmatched : (u : ℕ) → partner_of m s ≡ Some u → ⊥
  send_unmatched u e =
      elim (stage.fits s u e) [
        | inl taken ↦
            let fits = takes_fit p s u taken in
            let parts = and_parts (world.has (matched s u)) (not (is_in (match_of f ∷ rest) (match_of u))) (sym (stage.sends s u taken) ∙ is_that-from (partner_of m s) u e) in
            let before = says.seen s f u seen taken does parts.0 in
            let out = not_in (is_in (match_of f ∷ rest) (match_of u)) parts.1 in
            let done = stage.done (match_of u) ((fit_within p s u fits).1, fit_taker p s u fits) (match_happens p world s u fits parts.0) out in
            omega (arith, before, done.0)
        | inr fits ↦ no_send_is_taker p s f u see_fit fits
      ]

  pub see_enabled : CanSee p m s f
  see_enabled = ((and_parts (are_fit p s f) (is_probe p f) seen).1, find_enabled p world says m rest s f see_fit does stage later send_unmatched)

  probe_now : partner_of (after m (See s f)) f ≡ Some s
  probe_now = probe_set m s f (omega (arith, stage.size.partner, (fit_within p s f see_fit).1))

  unlike_probe : (u v : ℕ) → takes p u v ≡ true → (v == f) ≡ false
  unlike_probe u v taken =
      elim (cases_eq v f) [
        | inl same ↦
            absurd (
            let off : not (is_probe p f) ≡ true = subst (λ (z : ℕ). not (is_probe p z) ≡ true) same (and_parts (are_fit p u v) (not (is_probe p v)) taken).1 in
            never_both (is_probe p f) off (and_parts (are_fit p s f) (is_probe p f) seen).1
            )
        | inr differ ↦ grind (arith, nat_tests)
      ]

  sends_kept : (u v : ℕ) → takes p u v ≡ true → is_that (partner_of (after m (See s f)) u) v ≡ (world.has (matched u v) && not (is_in rest (match_of v)))
  sends_kept u v taken =
      let apart : u ≢ f = λ same. no_send_is_taker p u v s (takes_fit p u v taken) (subst (λ (z : ℕ). are_fit p s z ≡ true) (sym same) see_fit) in
      ap (λ (o : Option ℕ). is_that o v) (other_kept_by_see m s f u apart) ∙ stage.sends u v taken ∙
      ap (λ (b : Bool). world.has (matched u v) && not (b || is_in rest (match_of v))) (unlike_probe u v taken)

  takers_kept : is_in rest (match_of f) ≡ false → (u v : ℕ) → are_fit p u v ≡ true → is_that (partner_of (after m (See s f)) v) u ≡ (world.has (matched u v) && not (is_in rest (match_of v)))
  takers_kept once u v fits =
      elim (cases_eq v f) [
        | inl e ↦
            let fits_it : are_fit p u f ≡ true = subst (λ (z : ℕ). are_fit p u z ≡ true) e fits in
            subst (λ (z : ℕ). is_that (partner_of (after m (See s f)) z) u ≡ (world.has (matched u z) && not (is_in rest (match_of z)))) (sym e)
            (ap (λ (o : Option ℕ). is_that o u) probe_now ∙ of_taker p world says m rest s f see_fit does stage later once u fits_it)
        | inr differ ↦
            let unlike : (v == f) ≡ false = grind (arith, nat_tests) in
            ap (λ (o : Option ℕ). is_that o u) (other_kept_by_see m s f v differ) ∙ stage.takers u v fits ∙
            ap (λ (b : Bool). world.has (matched u v) && not (b || is_in rest (match_of v))) unlike
      ]

  fits_kept : (x y : ℕ) → partner_of (after m (See s f)) x ≡ Some y → (takes p x y ≡ true) ⊎ (are_fit p y x ≡ true)
  fits_kept x y e =
      elim (cases_eq x f) [
        | inl is_f ↦
            let there : partner_of (after m (See s f)) f ≡ Some y = subst (λ (z : ℕ). partner_of (after m (See s f)) z ≡ Some y) is_f e in
            let same : s ≡ y = same_Some _ _ (sym probe_now ∙ there) in
            inr (subst (λ (z : ℕ). are_fit p y z ≡ true) (sym is_f) (subst (λ (z : ℕ). are_fit p z f ≡ true) same see_fit))
        | inr not_f ↦ stage.fits x y (sym (other_kept_by_see m s f x not_f) ∙ e)
      ]

  pub stage_after_see : is_in rest (match_of f) ≡ false → IsStage p world (after m (See s f)) rest
  stage_after_see once =
      record {
        size = record { next = stage.size.next; buffered = stage.size.buffered; partner = length-set m.partner f (Some s) ∙ stage.size.partner };
        started = stage.started;
        own = stage.own;
        issues = λ c below. same_issued_by_see m s f c (call_at p c) ∙ stage.issues c below;
        flags = λ c i standard. stage.flags c (sym (same_issued_by_see m s f c (call_at p c)) ∙ i) standard;
        sends = sends_kept;
        takers = takers_kept once;
        fits = fits_kept;
        done = done_then p world m (match_of f) rest stage later;
      }
