-- Calls that are sure to be partners are so in each run: messages of an envelope that all takers
-- name are taken in the order in which they are sent.
use Rattle.std.proofs.Common.{◌≡◌, ℕ, zero, suc, ◌+◌, ◌<◌, inl, inr, Bool, true, false, not, ◌&&◌, ◌==◌, nat_lt, List, [], ◌∷◌, Some, take, slice_get, refl, sym, ap, ◌∙◌, subst, arith}
use Rattle.std.specs.List.{count_by}
use Rattle.std.proofs.lemmas.Bool.{cases_eq, cases_lt, eqb-true, le-ltb, lt-ltb}
use Rattle.std.proofs.lemmas.List.Sums.{sum_by-cons}
use Rattle.std.proofs.lemmas.Option.{same_Some}
use Rattle.calltext.proofs.Conjunctions.{and_true}
use Rattle.callorder.specs.declared.calls.Call.{Call}
use Rattle.callorder.specs.Calls.{message_of, pattern_of, is_probe_kind}
use Rattle.callorder.specs.Programs.{MpiProgram, call_at, are_fit, is_probe, kind_holds}
use Rattle.semantics.specs.declared.state.Step.{Step}
use Rattle.semantics.specs.Machine.{Configuration, opening, after, after_all, CanFind, IsEnabled, IsRun, is_matched, partner_of}
use Rattle.run_laws.specs.Laws.{IsInRankOrder}
use Rattle.races.proofs.Steps.{one_rank_made, partner_from}
use Rattle.races.proofs.Kept.{Kept, New, new_or_old, takes_fit, takes_made, takes_no_probe}
use Rattle.races.proofs.Passing.{kept_run, no_partner}
use Rattle.phases.specs.Order.{AreCounterparts, Envelope, IsExact, is_addressed, is_named, sends_with, takes_with}
use Rattle.phases.proofs.Parts.{fit_calls_there}
use Rattle.phases.proofs.Counting.{ArePaired, AreTests, count_same, fit_parts, no_both, one_if, tests_are_paired}
use Rattle.phases.proofs.Clean.{Reached, both_ways, reached_opening, reached_step}
use Rattle.phases.proofs.Envelopes.{before_count, envelope_tests, with_envelope_fit}
use Rattle.sealing.specs.Laws.{SurePartnersAreSo}

-- ---- places of calls that pass a test

module _ (test : Call → Bool) where
  -- where one passes, more pass before a later place
  one_more : (x : Call) (xs : List Call) (j : ℕ) → test x ≡ true → count_by test (take (suc j) (x ∷ xs)) ≡ 1 + count_by test (take j xs)
  one_more x xs j on =
      let one : one_if (test x) ≡ 1 = ap one_if on in
      omega (arith, one, sum_by-cons (λ (y : Call). one_if (test y)) x (take j xs))

  none_first : (xs : List Call) → count_by test (take zero xs) ≡ 0
  none_first [] = refl
  none_first (x ∷ xs) = refl

  -- two that pass stand at one place where as many pass before the one as before the other
  one_place : (xs : List Call) (i j : ℕ) (x y : Call) → slice_get xs i ≡ Some x → slice_get xs j ≡ Some y → test x ≡ true → test y ≡ true
      → count_by test (take i xs) ≡ count_by test (take j xs) → i ≡ j
  one_place [] i j x y at_i at_j on_x on_y same = absurd (cc)
  one_place (z ∷ zs) zero zero x y at_i at_j on_x on_y same = refl
  one_place (z ∷ zs) zero (suc j) x y at_i at_j on_x on_y same =
      absurd (omega (arith, same, none_first (z ∷ zs), one_more z zs j (ap test (same_Some z x at_i) ∙ on_x)))
  one_place (z ∷ zs) (suc i) zero x y at_i at_j on_x on_y same =
      absurd (omega (arith, same, none_first (z ∷ zs), one_more z zs i (ap test (same_Some z y at_j) ∙ on_y)))
  one_place (z ∷ zs) (suc i) (suc j) x y at_i at_j on_x on_y same =
      let rest : count_by test (take i zs) ≡ count_by test (take j zs) =
      omega (arith, same, sum_by-cons (λ (y : Call). one_if (test y)) z (take i zs), sum_by-cons (λ (y : Call). one_if (test y)) z (take j zs)) in
      ap suc (one_place zs i j x y at_i at_j on_x on_y rest)

-- ---- calls of an envelope

sender : (h : Envelope) (x : Call) → sends_with h x ≡ true → x.rank ≡ h.source
sender h x on = eqb-true x.rank h.source (and_true (x.rank == h.source) (is_addressed h (message_of x.kind)) on).0

receiver : (h : Envelope) (x : Call) → takes_with h x ≡ true → x.rank ≡ h.destination
receiver h x on =
    let outer = and_true (x.rank == h.destination && is_named h (pattern_of x.kind)) (not (is_probe_kind x.kind)) on in
    eqb-true x.rank h.destination (and_true (x.rank == h.destination) (is_named h (pattern_of x.kind)) outer.0).0

module _ (p : MpiProgram) (h : Envelope) (exact : IsExact p h) where
  tests : AreTests p (sends_with h) (takes_with h)
  tests = envelope_tests p h exact

  -- neither a send that is a finder nor a taker that is a send
  no_send : (s f : ℕ) (b : Call) → call_at p f ≡ Some b → sends_with h b ≡ true → are_fit p s f ≡ true → ⊥
  no_send s f b at_f on fit =
      let there = fit_calls_there p s f fit in
      let message = tests.sends b on in
      let parts = fit_parts p s f there.0.0 b there.0.1 at_f fit in
      no_both b.kind message.0 parts.pattern message.1 parts.finds

  no_taker : (s f : ℕ) (a : Call) → call_at p s ≡ Some a → takes_with h a ≡ true → are_fit p s f ≡ true → ⊥
  no_taker s f a at_s on fit =
      let there = fit_calls_there p s f fit in
      let pattern = tests.takes a on in
      let parts = fit_parts p s f a there.1.0 at_s there.1.1 fit in
      no_both a.kind parts.message pattern.0 parts.sends pattern.1

  no_probe : (t : ℕ) (b : Call) → call_at p t ≡ Some b → takes_with h b ≡ true → is_probe p t ≡ false
  no_probe t b at_t on = ap (kind_holds is_probe_kind) at_t ∙ (tests.takes b on).2

  -- what a call of the envelope is matched with is one too
  taker_of : (m : Configuration) → Kept p m → (s t : ℕ) (a : Call) → call_at p s ≡ Some a → sends_with h a ≡ true → partner_of m s ≡ Some t
      → (b : Call) × (call_at p t ≡ Some b) × (takes_with h b ≡ true) × (partner_of m t ≡ Some s)
  taker_of m kept s t a at_s on partner =
      elim (kept.fit s t partner) [
        | inl taken ↦
            let fit = takes_fit p s t taken in
            let b = (fit_calls_there p s t fit).1 in
            (b.0, b.1, tests.taker s t a b.0 at_s b.1 fit (sym (ap (kind_holds is_probe_kind) b.1) ∙ takes_no_probe p s t taken) on, kept.both s t fit partner)
        | inr fit ↦ absurd (no_send t s a at_s on fit)
      ]

  send_of : (m : Configuration) → Kept p m → (s t : ℕ) (b : Call) → call_at p t ≡ Some b → takes_with h b ≡ true → partner_of m t ≡ Some s
      → (a : Call) × (call_at p s ≡ Some a) × (sends_with h a ≡ true)
  send_of m kept s t b at_t on partner =
      elim (kept.fit t s partner) [
        | inl taken ↦ absurd (no_taker t s b at_t on (takes_fit p t s taken))
        | inr fit ↦ let a = (fit_calls_there p s t fit).0 in (a.0, a.1, tests.send s t a.0 b a.1 at_t fit on)
      ]

  -- ---- where a send of the envelope may be matched with a taker of it

  module _ (m : Configuration) (kept : Kept p m) (s t : ℕ) (a b : Call) (at_s : call_at p s ≡ Some a) (at_t : call_at p t ≡ Some b)
      (on_s : sends_with h a ≡ true) (on_t : takes_with h b ≡ true) (can : CanFind p m s t) where
    -- no later send is matched
    later_send : (j : ℕ) (y : Call) → call_at p j ≡ Some y → sends_with h y ≡ true → s < j → (q : Bool) → is_matched m j ≡ q → is_matched m j ≡ false
    later_send j y at_j on later false e = e
    later_send j y at_j on later true e =
        let w = partner_from m j e in
        let u = taker_of m kept j w.0 y at_j on w.1 in
        let one = one_rank_made p s j a y at_s at_j (sender h a on_s ∙ sym (sender h y on)) in
        let fit = with_envelope_fit p h s w.0 a u.0 at_s u.1 on_s u.2 in
        absurd (both_ways (is_matched m s) (kept.sends j w.0 s u.3 (with_envelope_fit p h j w.0 y u.0 at_j u.1 on u.2) later one fit) can.send_open)

    sends_before : (j : ℕ) (y : Call) → call_at p j ≡ Some y → sends_with h y ≡ true → is_matched m j ≡ nat_lt j s
    sends_before j y at_j on =
        elim (cases_lt j s) [
          | inl before ↦
              can.sends j before (one_rank_made p j s y a at_j at_s (sender h y on ∙ sym (sender h a on_s))) (with_envelope_fit p h j t y b at_j at_t on on_t)
              ∙ sym (lt-ltb j s before)
          | inr high ↦ elim (cases_eq j s) [
            | inl is ↦ ap (is_matched m) is ∙ can.send_open ∙ sym (le-ltb j s high)
            | inr differ ↦ later_send j y at_j on (omega (arith, high, differ)) (is_matched m j) refl ∙ sym (le-ltb j s high)
          ]
        ]

    -- no later taker is matched
    later_taker : (j : ℕ) (y : Call) → call_at p j ≡ Some y → takes_with h y ≡ true → t < j → (q : Bool) → is_matched m j ≡ q → is_matched m j ≡ false
    later_taker j y at_j on later false e = e
    later_taker j y at_j on later true e =
        let w = partner_from m j e in
        let u = send_of m kept w.0 j y at_j on w.1 in
        let one = one_rank_made p t j b y at_t at_j (receiver h b on_t ∙ sym (receiver h y on)) in
        let taken = takes_made p w.0 t (with_envelope_fit p h w.0 t u.0 b u.1 at_t u.2 on_t) (no_probe t b at_t on_t) in
        absurd (both_ways (is_matched m t) (kept.takers w.0 j t w.1 (with_envelope_fit p h w.0 j u.0 y u.1 at_j u.2 on) later one taken) can.finder_open)

    takers_before : (j : ℕ) (y : Call) → call_at p j ≡ Some y → takes_with h y ≡ true → is_matched m j ≡ nat_lt j t
    takers_before j y at_j on =
        elim (cases_lt j t) [
          | inl before ↦
              can.takers j before (one_rank_made p j t y b at_j at_t (receiver h y on ∙ sym (receiver h b on_t)))
              (takes_made p s j (with_envelope_fit p h s j a y at_s at_j on_s on) (no_probe j y at_j on))
              ∙ sym (lt-ltb j t before)
          | inr high ↦ elim (cases_eq j t) [
            | inl is ↦ ap (is_matched m) is ∙ can.finder_open ∙ sym (le-ltb j t high)
            | inr differ ↦ later_taker j y at_j on (omega (arith, high, differ)) (is_matched m j) refl ∙ sym (le-ltb j t high)
          ]
        ]

    -- as many sends stand before the one as takers before the other
    even_now : ArePaired p (sends_with h) (takes_with h) m → count_by (sends_with h) (take s p.calls) ≡ count_by (takes_with h) (take t p.calls)
    even_now paired =
        sym (before_count (sends_with h) s p.calls)
        ∙ sym (count_same (sends_with h) (is_matched m) (λ j. nat_lt j s) 0 p.calls
        (λ j y at_j on. let z : 0 + j ≡ j = omega arith in ap (is_matched m) z ∙ sends_before j y at_j on ∙ ap (λ (k : ℕ). nat_lt k s) (sym z)))
        ∙ paired
        ∙ count_same (takes_with h) (is_matched m) (λ j. nat_lt j t) 0 p.calls
        (λ j y at_j on. let z : 0 + j ≡ j = omega arith in ap (is_matched m) z ∙ takers_before j y at_j on ∙ ap (λ (k : ℕ). nat_lt k t) (sym z))
        ∙ before_count (takes_with h) t p.calls

  -- ---- runs

  -- of each pair that is matched, as many sends stand before the send as takers before the taker
  abbrev ArePairedInOrder : Configuration → Type 0
  ArePairedInOrder m =
      (s t : ℕ) (a b : Call) → call_at p s ≡ Some a → call_at p t ≡ Some b → sends_with h a ≡ true → takes_with h b ≡ true → partner_of m t ≡ Some s
      → count_by (sends_with h) (take s p.calls) ≡ count_by (takes_with h) (take t p.calls)

  in_order_step : (m : Configuration) (x : Step) → Kept p m → ArePaired p (sends_with h) (takes_with h) m → IsEnabled p m x
      → ArePairedInOrder m → ArePairedInOrder (after m x)
  in_order_step m x kept paired enabled order s t a b at_s at_t on_s on_t partner =
      elim (new_or_old p m x t s kept.size enabled partner) [
        | inl old ↦ order s t a b at_s at_t on_s on_t old
        | inr new ↦ now new
      ]
    where
      now : New p m x t s → count_by (sends_with h) (take s p.calls) ≡ count_by (takes_with h) (take t p.calls)
      now new =
          elim new.which [
            | inl w ↦
                even_now m kept s t a b at_s at_t on_s on_t
                (subst (λ (z : ℕ). CanFind p m z t) (sym w.1) (subst (λ (z : ℕ). CanFind p m new.send z) (sym w.0) new.can)) paired
            | inr w ↦
                absurd (no_taker new.send new.finder b (ap (call_at p) (sym w.0) ∙ at_t) on_t new.can.fit)
          ]

  in_order_all : IsInRankOrder p → (m : Configuration) (steps : List Step) → Reached p m → ArePairedInOrder m → IsRun p m steps
      → ArePairedInOrder (after_all m steps)
  in_order_all ranks m [] reached order run = order
  in_order_all ranks m (x ∷ xs) reached order run =
      let kept : Kept p m = subst (Kept p) reached.is (kept_run p reached.steps ranks reached.run) in
      let paired : ArePaired p (sends_with h) (takes_with h) m =
      subst (ArePaired p (sends_with h) (takes_with h)) reached.is (tests_are_paired p (sends_with h) (takes_with h) tests reached.steps reached.run) in
      in_order_all ranks (after m x) xs (reached_step p m x reached run.0) (in_order_step m x kept paired run.0 order) run.1

  runs_are_in_order : IsInRankOrder p → (steps : List Step) → IsRun p (opening p) steps → ArePairedInOrder (after_all (opening p) steps)
  runs_are_in_order ranks steps run =
      in_order_all ranks (opening p) steps (reached_opening p) (λ s t a b at_s at_t on_s on_t partner. absurd (no_partner p t s partner)) run

pub sure_partners_are_so : SurePartnersAreSo
sure_partners_are_so p e is sure steps run c x y partner told =
    elim (sure c y told) [
      | inl w ↦ as_taker w
      | inr w ↦ as_send w
    ]
  where
    m : Configuration
    m = after_all (opening p) steps

    kept : Kept p m
    kept = kept_run p steps is.rank_order run

    as_taker : AreCounterparts p y c → x ≡ y
    as_taker w =
        let h = w.envelope in
        let a = send_of p h w.exact m kept x c w.taker w.at_taker w.takes partner in
        let even = runs_are_in_order p h w.exact is.rank_order steps run x c a.0 w.taker a.1 w.at_taker a.2 w.takes partner in
        one_place (sends_with h) p.calls x y a.0 w.send a.1 w.at_send a.2 w.sends (even ∙ sym w.same)

    as_send : AreCounterparts p c y → x ≡ y
    as_send w =
        let h = w.envelope in
        let b = taker_of p h w.exact m kept c x w.send w.at_send w.sends partner in
        let even = runs_are_in_order p h w.exact is.rank_order steps run c x w.send b.0 w.at_send b.1 w.sends b.2 b.3 in
        one_place (takes_with h) p.calls x y b.0 w.taker b.1 w.at_taker b.2 w.takes (sym even ∙ w.same)
