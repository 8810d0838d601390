-- As many sends to a rank on a communicator are matched as takers are there.
use Rattle.std.proofs.Common.{◌≡◌, ◌≢◌, ℕ, zero, suc, ◌+◌, ◌<◌, ◌≤◌, Bool, true, false, cond, not, ◌&&◌, ◌==◌, List, [], ◌∷◌, Option, Some, None, is_some, length, get_or, slice_get, slice_set, refl, sym, ap, ◌∙◌, subst, arith, replicate, get_or-set_same}
use Rattle.std.specs.List.{count_by}
use Rattle.std.proofs.lemmas.Bool.{eqb-true, eq-eqb}
use Rattle.std.proofs.lemmas.List.{length-set}
use Rattle.std.proofs.lemmas.List.Sums.{sum_by-cons}
use Rattle.std.proofs.lemmas.Option.{same_Some, slice_get_within}
use Rattle.calltext.proofs.Conjunctions.{and_true, and_both}
use Rattle.callorder.specs.declared.calls.Call.{Call}
use Rattle.callorder.specs.declared.calls.Kind.{Kind}
use Rattle.callorder.specs.declared.calls.Kind.TheVariants.{Wait}
use Rattle.callorder.specs.declared.calls.Message.{Message}
use Rattle.callorder.specs.declared.calls.Pattern.{Pattern}
use Rattle.callorder.specs.Calls.{message_of, pattern_of, is_probe_kind, fits_between, covers, both_hold, fits}
use Rattle.callorder.specs.Programs.{MpiProgram, call_at, are_fit, kind_holds}
use Rattle.semantics.specs.declared.state.Step.{Step}
use Rattle.semantics.specs.declared.state.Step.TheVariants.{Issue, Match, See}
use Rattle.semantics.specs.Configurations.{IsConfigurationOf}
use Rattle.semantics.specs.Machine.{Configuration, opening, after, after_all, CanFind, IsEnabled, IsRun, is_matched}
use Rattle.semantics.proofs.Lengths.{matched_is, some_set, configuration_after}
use Rattle.semantics.proofs.Runs.{IsConfigurationOf-opening}
use Rattle.phases.specs.Conditions.{goes_to, is_send_to, finds_on, is_taker_at}
use Rattle.phases.proofs.Parts.{fit_calls_there}
use Rattle.phases.proofs.Waiting.{unseen}
use Rattle.run_laws.proofs.Matched.{is_matched-other}

-- ---- counts of calls that pass a test and are done

abbrev pub one_if : Bool → ℕ
one_if b = cond b 1 0

abbrev pub done_count : (Call → Bool) → (ℕ → Bool) → ℕ → List Call → ℕ
done_count test done k [] = 0
done_count test done k (x ∷ xs) = one_if (test x && done k) + done_count test done (k + 1) xs

-- the calls of a list that begins at a place: what is known of each
abbrev pub Each : ℕ → List Call → (ℕ → Call → Type 0) → Type 0
Each k xs P = (j : ℕ) (x : Call) → slice_get xs j ≡ Some x → P (k + j) x

pub each_tail : (k : ℕ) (x : Call) (xs : List Call) (P : ℕ → Call → Type 0) → Each k (x ∷ xs) P → Each (k + 1) xs P
each_tail k x xs P each j y there = subst (λ (z : ℕ). P z y) (let e : k + suc j ≡ (k + 1) + j = omega arith in e) (each (suc j) y there)

pub each_head : (k : ℕ) (x : Call) (xs : List Call) (P : ℕ → Call → Type 0) → Each k (x ∷ xs) P → P k x
each_head k x xs P each = subst (λ (z : ℕ). P z x) (let e : k + 0 ≡ k = omega arith in e) (each 0 x refl)

and_same : (t a b : Bool) → (t ≡ true → a ≡ b) → (t && a) ≡ (t && b)
and_same true a b h = h refl
and_same false a b h = refl

pub count_same : (test : Call → Bool) (f g : ℕ → Bool) (k : ℕ) (xs : List Call) → Each k xs (λ j x. test x ≡ true → f j ≡ g j) → done_count test f k xs ≡ done_count test g k xs
count_same test f g k [] each = refl
count_same test f g k (x ∷ xs) each =
    let head : one_if (test x && f k) ≡ one_if (test x && g k) = ap (λ (b : Bool). one_if b) (and_same (test x) (f k) (g k) (each_head k x xs (λ j y. test y ≡ true → f j ≡ g j) each)) in
    let rest = count_same test f g (k + 1) xs (each_tail k x xs (λ j y. test y ≡ true → f j ≡ g j) each) in
    omega (arith, head, rest)

pub one_of : (t a : Bool) → t ≡ true → a ≡ true → one_if (t && a) ≡ 1
one_of true true h e = refl
one_of true false h e = absurd (cc)
one_of false a h e = absurd (cc)

pub none_of : (t a : Bool) → a ≡ false → one_if (t && a) ≡ 0
none_of true true e = absurd (cc)
none_of true false e = refl
none_of false a e = refl

-- one call that passes the test becomes done, and the others stay as they were
pub count_one : (test : Call → Bool) (f g : ℕ → Bool) (k : ℕ) (xs : List Call) (at : ℕ) (call : Call) → slice_get xs at ≡ Some call → test call ≡ true → f (k + at) ≡ false → g (k + at) ≡ true
    → Each k xs (λ j x. j ≢ k + at → test x ≡ true → f j ≡ g j) → done_count test g k xs ≡ done_count test f k xs + 1
count_one test f g k [] at call there sent off on each = absurd (cc)
count_one test f g k (x ∷ xs) zero call there sent off on each =
    let here : k + 0 ≡ k = omega arith in
    let same : x ≡ call = same_Some x call there in
    let before : one_if (test x && f k) ≡ 0 = none_of (test x) (f k) (ap f (sym here) ∙ off) in
    let now : one_if (test x && g k) ≡ 1 = one_of (test x) (g k) (ap test same ∙ sent) (ap g (sym here) ∙ on) in
    let rest = count_same test f g (k + 1) xs (λ j y at_y. each_tail k x xs (λ j y. j ≢ k + 0 → test y ≡ true → f j ≡ g j) each j y at_y (λ e. omega (arith, e))) in
    omega (arith, before, now, rest)
count_one test f g k (x ∷ xs) (suc at) call there sent off on each =
    let place : k + suc at ≡ (k + 1) + at = omega arith in
    let head : one_if (test x && f k) ≡ one_if (test x && g k) =
    ap (λ (b : Bool). one_if b) (and_same (test x) (f k) (g k) (each_head k x xs (λ j y. j ≢ k + suc at → test y ≡ true → f j ≡ g j) each (λ e. omega (arith, e)))) in
    let rest = count_one test f g (k + 1) xs at call there sent (ap f (sym place) ∙ off) (ap g (sym place) ∙ on)
    (λ j y at_y differ. each_tail k x xs (λ j y. j ≢ k + suc at → test y ≡ true → f j ≡ g j) each j y at_y (λ e. differ (e ∙ place))) in
    omega (arith, head, rest)

pub and_on : (t a : Bool) → (t ≡ true → a ≡ true) → (t && a) ≡ t
and_on true a h = h refl
and_on false a h = refl

-- where all that pass the test are done, they are counted
count_all : (test : Call → Bool) (f : ℕ → Bool) (k : ℕ) (xs : List Call) → Each k xs (λ j x. test x ≡ true → f j ≡ true) → done_count test f k xs ≡ count_by test xs
count_all test f k [] each = refl
count_all test f k (x ∷ xs) each =
    let head : one_if (test x && f k) ≡ one_if (test x) = ap (λ (b : Bool). one_if b) (and_on (test x) (f k) (each_head k x xs (λ j y. test y ≡ true → f j ≡ true) each)) in
    let rest = count_all test f (k + 1) xs (each_tail k x xs (λ j y. test y ≡ true → f j ≡ true) each) in
    omega (arith, head, rest, sum_by-cons (λ (y : Call). one_if (test y)) x xs)

cond_le : (t a : Bool) → one_if (t && a) ≤ one_if t
cond_le true true = omega arith
cond_le true false = omega arith
cond_le false a = omega arith

count_le : (test : Call → Bool) (f : ℕ → Bool) (k : ℕ) (xs : List Call) → done_count test f k xs ≤ count_by test xs
count_le test f k [] = omega arith
count_le test f k (x ∷ xs) = omega (arith, cond_le (test x) (f k), count_le test f (k + 1) xs, sum_by-cons (λ (y : Call). one_if (test y)) x xs)

cond_lt : (t a : Bool) → t ≡ true → a ≡ false → one_if (t && a) + 1 ≤ one_if t
cond_lt true true h e = absurd (cc)
cond_lt true false h e = omega arith
cond_lt false a h e = absurd (cc)

-- where one that passes the test isn't done, fewer are counted
count_lt : (test : Call → Bool) (f : ℕ → Bool) (k : ℕ) (xs : List Call) (at : ℕ) (call : Call) → slice_get xs at ≡ Some call → test call ≡ true → f (k + at) ≡ false → done_count test f k xs + 1 ≤ count_by test xs
count_lt test f k [] at call there sent off = absurd (cc)
count_lt test f k (x ∷ xs) zero call there sent off =
    let here : k + 0 ≡ k = omega arith in
    omega (arith, cond_lt (test x) (f k) (ap test (same_Some x call there) ∙ sent) (ap f (sym here) ∙ off), count_le test f (k + 1) xs, sum_by-cons (λ (y : Call). one_if (test y)) x xs)
count_lt test f k (x ∷ xs) (suc at) call there sent off =
    let place : k + suc at ≡ (k + 1) + at = omega arith in
    omega (arith, cond_le (test x) (f k), count_lt test f (k + 1) xs at call there sent (ap f (sym place) ∙ off), sum_by-cons (λ (y : Call). one_if (test y)) x xs)

-- ---- sends and takers that fit

-- a send that fits a finder: its message, the finder's pattern, and what they have in common
pub record Fit (a b : Call) : Type 0 where
  pub message : Message
  pub pattern : Pattern
  pub sends : message_of a.kind ≡ Some message
  pub finds : pattern_of b.kind ≡ Some pattern
  pub to : message.destination ≡ b.rank
  pub on : message.communicator ≡ pattern.communicator
  pub source : covers pattern.source a.rank ≡ true
  pub tag : covers pattern.tag message.tag ≡ true

fit_as : (a b : Call) (o : Option Message) (r : Option Pattern) → message_of a.kind ≡ o → pattern_of b.kind ≡ r → fits_between a.rank o b.rank r ≡ true → Fit a b
fit_as a b None r at_o at_r fit = absurd (cc)
fit_as a b (Some g) None at_o at_r fit = absurd (cc)
fit_as a b (Some g) (Some h) at_o at_r fit =
    let outer = and_true ((g.destination == b.rank && g.communicator == h.communicator) && covers h.source a.rank) (covers h.tag g.tag) fit in
    let inner = and_true (g.destination == b.rank && g.communicator == h.communicator) (covers h.source a.rank) outer.0 in
    let both = and_true (g.destination == b.rank) (g.communicator == h.communicator) inner.0 in
    record { message = g; pattern = h; sends = at_o; finds = at_r; to = eqb-true g.destination b.rank both.0; on = eqb-true g.communicator h.communicator both.1; source = inner.1; tag = outer.1 }

pub fit_parts : (p : MpiProgram) (s t : ℕ) (a b : Call) → call_at p s ≡ Some a → call_at p t ≡ Some b → are_fit p s t ≡ true → Fit a b
fit_parts p s t a b at_s at_t fit =
    fit_as a b (message_of a.kind) (pattern_of b.kind) refl refl
    (sym (ap (λ (z : Option Call). both_hold fits z (call_at p t)) at_s ∙ ap (both_hold fits (Some a)) at_t) ∙ fit)

-- no call is both
pub no_both : (k : Kind ℕ) (g : Message) (h : Pattern) → message_of k ≡ Some g → pattern_of k ≡ Some h → ⊥
no_both (Wait operation) g h e f = cc
no_both kind g h e f = cc

pub send_has : (r c : ℕ) (o : Option Message) → goes_to r c o ≡ true → (g : Message) × (o ≡ Some g) × (g.destination ≡ r) × (g.communicator ≡ c)
send_has r c None e = absurd (cc)
send_has r c (Some g) e = let both = and_true (g.destination == r) (g.communicator == c) e in (g, refl, eqb-true g.destination r both.0, eqb-true g.communicator c both.1)

pattern_has : (c : ℕ) (o : Option Pattern) → finds_on c o ≡ true → (h : Pattern) × (o ≡ Some h) × (h.communicator ≡ c)
pattern_has c None e = absurd (cc)
pattern_has c (Some h) e = (h, refl, eqb-true h.communicator c e)

pub taker_parts : (r c : ℕ) (b : Call) → is_taker_at r c b ≡ true → (b.rank ≡ r) × (h : Pattern) × (pattern_of b.kind ≡ Some h) × (h.communicator ≡ c) × (is_probe_kind b.kind ≡ false)
taker_parts r c b e =
    let outer = and_true (b.rank == r && finds_on c (pattern_of b.kind)) (not (is_probe_kind b.kind)) e in
    let inner = and_true (b.rank == r) (finds_on c (pattern_of b.kind)) outer.0 in
    let h = pattern_has c (pattern_of b.kind) inner.1 in
    (eqb-true b.rank r inner.0, h.0, h.1, h.2, off (is_probe_kind b.kind) outer.1)
  where
    off : (t : Bool) → not t ≡ true → t ≡ false
    off true n = absurd (cc)
    off false n = refl

no_send_takes : (r c q d : ℕ) (x : Call) → is_send_to r c x ≡ true → is_taker_at q d x ≡ true → ⊥
no_send_takes r c q d x e f =
    let g = send_has r c (message_of x.kind) e in
    let h = taker_parts q d x f in
    no_both x.kind g.0 h.1 g.1 h.2

pub send_made : (a b : Call) → (f : Fit a b) → is_send_to b.rank f.pattern.communicator a ≡ true
send_made a b f =
    ap (goes_to b.rank f.pattern.communicator) f.sends
    ∙ and_both (f.message.destination == b.rank) (f.message.communicator == f.pattern.communicator) (eq-eqb f.message.destination b.rank f.to) (eq-eqb f.message.communicator f.pattern.communicator f.on)

-- of two that fit, the one goes there as the other takes there
taker_as_send : (r c : ℕ) (a b : Call) → Fit a b → is_probe_kind b.kind ≡ false → is_send_to r c a ≡ true → is_taker_at r c b ≡ true
taker_as_send r c a b f taker e =
    let g = send_has r c (message_of a.kind) e in
    let same : g.0 ≡ f.message = same_Some g.0 f.message (sym g.1 ∙ f.sends) in
    let rank : b.rank ≡ r = sym f.to ∙ ap (λ (z : Message). z.destination) (sym same) ∙ g.2 in
    let comm : f.pattern.communicator ≡ c = sym f.on ∙ ap (λ (z : Message). z.communicator) (sym same) ∙ g.3 in
    and_both (b.rank == r && finds_on c (pattern_of b.kind)) (not (is_probe_kind b.kind))
    (and_both (b.rank == r) (finds_on c (pattern_of b.kind)) (eq-eqb b.rank r rank) (ap (finds_on c) f.finds ∙ eq-eqb f.pattern.communicator c comm)) (ap not taker)

send_as_taker : (r c : ℕ) (a b : Call) → Fit a b → is_taker_at r c b ≡ true → is_send_to r c a ≡ true
send_as_taker r c a b f e =
    let h = taker_parts r c b e in
    let same : h.1 ≡ f.pattern = same_Some h.1 f.pattern (sym h.2 ∙ f.finds) in
    ap (goes_to r c) f.sends
    ∙ and_both (f.message.destination == r) (f.message.communicator == c) (eq-eqb f.message.destination r (f.to ∙ h.0)) (eq-eqb f.message.communicator c (f.on ∙ ap (λ (z : Pattern). z.communicator) (sym same) ∙ h.3))

-- ---- tests of sends and takers

-- a test of sends and one of takers: of a send and a taker that fit both pass or none
pub record AreTests (p : MpiProgram) (st kt : Call → Bool) : Type 0 where
  pub taker : (s t : ℕ) (a b : Call) → call_at p s ≡ Some a → call_at p t ≡ Some b → are_fit p s t ≡ true → is_probe_kind b.kind ≡ false → st a ≡ true → kt b ≡ true
  pub send : (s t : ℕ) (a b : Call) → call_at p s ≡ Some a → call_at p t ≡ Some b → are_fit p s t ≡ true → kt b ≡ true → st a ≡ true
  pub sends : (x : Call) → st x ≡ true → (g : Message) × (message_of x.kind ≡ Some g)
  pub takes : (x : Call) → kt x ≡ true → (h : Pattern) × (pattern_of x.kind ≡ Some h) × (is_probe_kind x.kind ≡ false)

rank_tests : (p : MpiProgram) (r c : ℕ) → AreTests p (is_send_to r c) (is_taker_at r c)
rank_tests p r c =
    record {
      taker = λ s t a b at_s at_t fit off e. taker_as_send r c a b (fit_parts p s t a b at_s at_t fit) off e;
      send = λ s t a b at_s at_t fit e. send_as_taker r c a b (fit_parts p s t a b at_s at_t fit) e;
      sends = λ x e. let g = send_has r c (message_of x.kind) e in (g.0, g.1);
      takes = λ x e. let h = taker_parts r c x e in (h.1, h.2, h.4);
    }

-- ---- as many sends are matched as takers

abbrev pub ArePaired : MpiProgram → (Call → Bool) → (Call → Bool) → Configuration → Type 0
ArePaired p st kt m = done_count st (is_matched m) 0 p.calls ≡ done_count kt (is_matched m) 0 p.calls

matched_now : (m : Configuration) (s t : ℕ) → s < length m.partner → t < length m.partner → (is_matched (after m (Match s t)) s ≡ true) × (is_matched (after m (Match s t)) t ≡ true)
matched_now m s t in_s in_t = (
  matched_is (after m (Match s t)) s ∙ some_set (slice_set m.partner s (Some t)) t s s (ap is_some (get_or-set_same m.partner s (Some t) None in_s)),
  matched_is (after m (Match s t)) t ∙ ap is_some (get_or-set_same (slice_set m.partner s (Some t)) t (Some s) None (omega (arith, in_t, length-set m.partner s (Some t)))),
)

module _ (p : MpiProgram) (st kt : Call → Bool) (tests : AreTests p st kt) (m : Configuration) (of : IsConfigurationOf p m) (paired : ArePaired p st kt m) where
  module _ (s t : ℕ) (a b : Call) (at_s : call_at p s ≡ Some a) (at_t : call_at p t ≡ Some b) (can : CanFind p m s t) where
    fit_here : Fit a b
    fit_here = fit_parts p s t a b at_s at_t can.fit

    -- neither a taker at the send's place nor a send at the taker's
    no_taker_there : kt a ≡ true → ⊥
    no_taker_there e = let h = tests.takes a e in no_both a.kind fit_here.message h.0 fit_here.sends h.1

    no_send_there : st b ≡ true → ⊥
    no_send_there e = let g = tests.sends b e in no_both b.kind g.0 fit_here.pattern g.1 fit_here.finds

    in_size : (s < length m.partner) × (t < length m.partner)
    in_size = (omega (arith, of.partner, slice_get_within p.calls s a at_s), omega (arith, of.partner, slice_get_within p.calls t b at_t))

    call_is : (j : ℕ) (x y : Call) (k : ℕ) → slice_get p.calls j ≡ Some x → call_at p k ≡ Some y → j ≡ k → x ≡ y
    call_is j x y k at_j at_k e = same_Some x y (sym at_j ∙ ap (slice_get p.calls) e ∙ at_k)

    paired_match_yes : is_probe_kind b.kind ≡ false → st a ≡ true → ArePaired p st kt (after m (Match s t))
    paired_match_yes taker sent =
        let now = matched_now m s t in_size.0 in_size.1 in
        let zero_s : 0 + s ≡ s = omega arith in
        let zero_t : 0 + t ≡ t = omega arith in
        let sends = count_one st (is_matched m) (is_matched (after m (Match s t))) 0 p.calls s a at_s sent (ap (is_matched m) zero_s ∙ can.send_open) (ap (is_matched (after m (Match s t))) zero_s ∙ now.0)
        (λ j x at_j differ test. sym (is_matched-other m s t (0 + j) (λ e. differ (e ∙ sym zero_s)) (λ e. no_send_there (ap st (sym (call_is j x b t at_j at_t (let z : 0 + j ≡ j = omega arith in sym z ∙ e))) ∙ test)))) in
        let takers = count_one kt (is_matched m) (is_matched (after m (Match s t))) 0 p.calls t b at_t (tests.taker s t a b at_s at_t can.fit taker sent) (ap (is_matched m) zero_t ∙ can.finder_open) (ap (is_matched (after m (Match s t))) zero_t ∙ now.1)
        (λ j x at_j differ test. sym (is_matched-other m s t (0 + j) (λ e. no_taker_there (ap kt (sym (call_is j x a s at_j at_s (let z : 0 + j ≡ j = omega arith in sym z ∙ e))) ∙ test)) (λ e. differ (e ∙ sym zero_t)))) in
        omega (arith, sends, takers, paired)

    paired_match_no : st a ≡ false → ArePaired p st kt (after m (Match s t))
    paired_match_no no_send =
        sym (count_same st (is_matched m) (is_matched (after m (Match s t))) 0 p.calls
        (λ j x at_j test. sym (is_matched-other m s t (0 + j)
        (λ e. two_ways (st a) (ap st (sym (call_is j x a s at_j at_s (let z : 0 + j ≡ j = omega arith in sym z ∙ e))) ∙ test) no_send)
        (λ e. no_send_there (ap st (sym (call_is j x b t at_j at_t (let z : 0 + j ≡ j = omega arith in sym z ∙ e))) ∙ test)))))
        ∙ paired
        ∙ count_same kt (is_matched m) (is_matched (after m (Match s t))) 0 p.calls
        (λ j x at_j test. sym (is_matched-other m s t (0 + j)
        (λ e. no_taker_there (ap kt (sym (call_is j x a s at_j at_s (let z : 0 + j ≡ j = omega arith in sym z ∙ e))) ∙ test))
        (λ e. two_ways (st a) (tests.send s t a b at_s at_t can.fit (ap kt (sym (call_is j x b t at_j at_t (let z : 0 + j ≡ j = omega arith in sym z ∙ e))) ∙ test)) no_send)))
      where
        two_ways : (q : Bool) → q ≡ true → q ≡ false → ⊥
        two_ways q on off = cc

    paired_match_as : is_probe_kind b.kind ≡ false → (q : Bool) → st a ≡ q → ArePaired p st kt (after m (Match s t))
    paired_match_as taker true e = paired_match_yes taker e
    paired_match_as taker false e = paired_match_no e

    paired_see : is_probe_kind b.kind ≡ true → ArePaired p st kt (after m (See s t))
    paired_see probe =
        sym (count_same st (is_matched m) (is_matched (after m (See s t))) 0 p.calls
        (λ j x at_j test. sym (unseen m s t (0 + j) (λ e. no_send_there (ap st (sym (call_is j x b t at_j at_t (let z : 0 + j ≡ j = omega arith in sym z ∙ e))) ∙ test)))))
        ∙ paired
        ∙ count_same kt (is_matched m) (is_matched (after m (See s t))) 0 p.calls
        (λ j x at_j test. sym (unseen m s t (0 + j)
        (λ e. two_ways (is_probe_kind b.kind) probe (tests.takes b (ap kt (sym (call_is j x b t at_j at_t (let z : 0 + j ≡ j = omega arith in sym z ∙ e))) ∙ test)).2)))
      where
        two_ways : (q : Bool) → q ≡ true → q ≡ false → ⊥
        two_ways q on off = cc

  paired_step : (step : Step) → IsEnabled p m step → ArePaired p st kt (after m step)
  paired_step (Issue q b) enabled = paired
  paired_step (Match s t) enabled =
      let there = fit_calls_there p s t enabled.1.fit in
      paired_match_as s t there.0.0 there.1.0 there.0.1 there.1.1 enabled.1 (off (is_probe_kind there.1.0.kind) (ap not (sym (ap (kind_holds is_probe_kind) there.1.1)) ∙ enabled.0)) (st there.0.0) refl
    where
      off : (q : Bool) → not q ≡ true → q ≡ false
      off true n = absurd (cc)
      off false n = refl
  paired_step (See s f) enabled =
      let there = fit_calls_there p s f enabled.1.fit in
      paired_see s f there.0.0 there.1.0 there.0.1 there.1.1 enabled.1 (sym (ap (kind_holds is_probe_kind) there.1.1) ∙ enabled.0)

paired_all : (p : MpiProgram) (st kt : Call → Bool) → AreTests p st kt → (m : Configuration) (steps : List Step) → IsConfigurationOf p m → ArePaired p st kt m → IsRun p m steps → ArePaired p st kt (after_all m steps)
paired_all p st kt tests m [] of paired run = paired
paired_all p st kt tests m (x ∷ xs) of paired run = paired_all p st kt tests (after m x) xs (configuration_after p m x of) (paired_step p st kt tests m of paired x run.0) run.1

pub none_matched : (p : MpiProgram) (k : ℕ) → is_matched (opening p) k ≡ false
none_matched p k = matched_is (opening p) k ∙ ap is_some (none_yet (length p.calls) k)
  where
    none_yet : (n k : ℕ) → get_or (replicate n (let o : Option ℕ = None in o)) k None ≡ None
    none_yet zero k = refl
    none_yet (suc n) zero = refl
    none_yet (suc n) (suc k) = none_yet n k

none_counted : (test : Call → Bool) (f : ℕ → Bool) (k : ℕ) (xs : List Call) → ((j : ℕ) → f j ≡ false) → done_count test f k xs ≡ 0
none_counted test f k [] off = refl
none_counted test f k (x ∷ xs) off = omega (arith, none_of (test x) (f k) (off k), none_counted test f (k + 1) xs off)

pub tests_are_paired : (p : MpiProgram) (st kt : Call → Bool) → AreTests p st kt → (steps : List Step) → IsRun p (opening p) steps → ArePaired p st kt (after_all (opening p) steps)
tests_are_paired p st kt tests steps run =
    paired_all p st kt tests (opening p) steps (IsConfigurationOf-opening p (opening p) refl)
    (none_counted st (is_matched (opening p)) 0 p.calls (none_matched p) ∙ sym (none_counted kt (is_matched (opening p)) 0 p.calls (none_matched p))) run

pub runs_are_paired : (p : MpiProgram) (r c : ℕ) (steps : List Step) → IsRun p (opening p) steps → ArePaired p (is_send_to r c) (is_taker_at r c) (after_all (opening p) steps)
runs_are_paired p r c steps run = tests_are_paired p (is_send_to r c) (is_taker_at r c) (rank_tests p r c) steps run

-- Where as many messages are sent to a rank as it takes, and all its takers are matched, all sends
-- to it are.
pub all_sends_matched : (p : MpiProgram) (r c : ℕ) (m : Configuration) → ArePaired p (is_send_to r c) (is_taker_at r c) m → count_by (is_send_to r c) p.calls ≡ count_by (is_taker_at r c) p.calls
    → ((t : ℕ) (b : Call) → call_at p t ≡ Some b → is_taker_at r c b ≡ true → is_matched m t ≡ true) → (s : ℕ) (a : Call) → call_at p s ≡ Some a → is_send_to r c a ≡ true → is_matched m s ≡ false → ⊥
all_sends_matched p r c m paired balanced takers s a at_s sends free =
    let all = count_all (is_taker_at r c) (is_matched m) 0 p.calls (λ j x at_j test. let z : 0 + j ≡ j = omega arith in ap (is_matched m) z ∙ takers j x at_j test) in
    let zero_s : 0 + s ≡ s = omega arith in
    let fewer = count_lt (is_send_to r c) (is_matched m) 0 p.calls s a at_s sends (ap (is_matched m) zero_s ∙ free) in
    omega (arith, all, fewer, paired, balanced)
