-- From an open pair, down over the earlier calls that block its match, to one that nothing blocks.
use Rattle.std.proofs.Common.{◌≡◌, ℕ, zero, suc, ◌+◌, ◌<◌, ◌≤◌, ◌⊎◌, inl, inr, Bool, true, false, not, ◌==◌, nat_lt, List, Option, Some, None, slice_index, refl, sym, ap, subst, arith}
use Rattle.std.proofs.lemmas.Bool.{cases_eq, eqb-true, eq-eqb}
use Rattle.std.proofs.lemmas.Bool.Decides.{nat_tests}
use Rattle.callorder.specs.declared.calls.Call.{Call}
use Rattle.callorder.specs.Programs.{MpiProgram, call_at, are_fit, is_probe, takes, are_of_one_rank, have_one_rank}
use Rattle.callorder.specs.Calls.{both_hold, holds_of, fits}
use Rattle.calltext.proofs.Conjunctions.{and_true}
use Rattle.semantics.specs.Machine.{Configuration, IsEnabled, is_issued_call, is_matched}
use Rattle.semantics.proofs.Runs.{IsStuck-no_find}
use Rattle.run_laws.specs.Places.{find_step}
use Rattle.run_laws.specs.Laws.{IsOpenPair, SomeFindUpTo, SomeFindIsPossible, SomeMatchOrSee, SomeMatchOrSeeIsEnabled, NoOpenPairWhereStuck}

-- ---- calls of one rank

-- an earlier call of the rank of an issued call is issued
issued_earlier_call : (m : Configuration) (e s : ℕ) (x y : Option Call) → e < s → both_hold have_one_rank x y ≡ true → holds_of (is_issued_call m s) y ≡ true → holds_of (is_issued_call m e) x ≡ true
issued_earlier_call m e s None y below same issued = absurd (cc)
issued_earlier_call m e s (Some x) None below same issued = absurd (cc)
issued_earlier_call m e s (Some x) (Some y) below same issued = at m.next x.rank y.rank below same issued
  where
    at : (next : List ℕ) (a b : ℕ) → e < s → (b == a) ≡ true → nat_lt s (slice_index next b) ≡ true → nat_lt e (slice_index next a) ≡ true
    at next a b below same issued =
        let r : b ≡ a = eqb-true b a same in
        let i : nat_lt s (slice_index next a) ≡ true = rw r at issued in
        grind (arith, nat_tests)

one_rank_over : (x y z : Option Call) → both_hold have_one_rank x y ≡ true → both_hold have_one_rank y z ≡ true → both_hold have_one_rank x z ≡ true
one_rank_over None y z a b = absurd (cc)
one_rank_over (Some x) None z a b = absurd (cc)
one_rank_over (Some x) (Some y) None a b = absurd (cc)
one_rank_over (Some x) (Some y) (Some z) a b =
    let e : y.rank ≡ x.rank = eqb-true y.rank x.rank a in
    let f : z.rank ≡ y.rank = eqb-true z.rank y.rank b in
    eq-eqb z.rank x.rank (cc)

own_ranks : (x y : Option Call) → both_hold fits x y ≡ true → (both_hold have_one_rank x x ≡ true) × (both_hold have_one_rank y y ≡ true)
own_ranks None y fit = absurd (cc)
own_ranks (Some x) None fit = absurd (cc)
own_ranks (Some x) (Some y) fit = (eq-eqb x.rank x.rank refl, eq-eqb y.rank y.rank refl)

-- a send that a taker takes fits it
pub takes_fit : (p : MpiProgram) (s t : ℕ) → takes p s t ≡ true → are_fit p s t ≡ true
takes_fit p s t h = (and_true (are_fit p s t) (not (is_probe p t)) h).0

-- ---- what blocks a find

blocks_or_not : (G : Type 0) (same fit matched : Bool) → (same ≡ true → fit ≡ true → matched ≡ false → G) → G ⊎ (same ≡ true → fit ≡ true → matched ≡ true)
blocks_or_not G true true false found = inl (found refl refl refl)
blocks_or_not G true true true found = inr (λ s f. refl)
blocks_or_not G true false matched found = inr (λ s f. absurd (cc))
blocks_or_not G false fit matched found = inr (λ s f. absurd (cc))

-- where each call below that blocks brings to the goal, the goal is reached or none blocks
goal_or_none : (G : Type 0) (same fit matched : ℕ → Bool) (n : ℕ) → ((e : ℕ) → e < n → same e ≡ true → fit e ≡ true → matched e ≡ false → G) → G ⊎ ((e : ℕ) → e < n → same e ≡ true → fit e ≡ true → matched e ≡ true)
goal_or_none G same fit matched zero found = inr (λ e below s f. absurd (omega arith))
goal_or_none G same fit matched (suc n) found =
    elim (goal_or_none G same fit matched n (λ e below. found e (omega arith))) [
      | inl goal ↦ inl goal
      | inr none ↦
          elim (blocks_or_not G (same n) (fit n) (matched n) (found n (omega arith))) [
            | inl goal ↦ inl goal
            | inr here ↦ inr (λ e below. elim (cases_eq e n) [
              | inl is ↦ subst (λ (z : ℕ). same z ≡ true → fit z ≡ true → matched z ≡ true) (sym is) here
              | inr differ ↦ none e (omega arith)
            ])
          ]
    ]

-- what may be matched up to earlier calls of the ranks may be matched up to later ones
up : (p : MpiProgram) (m : Configuration) (s t e f : ℕ) → e ≤ s → f ≤ t → are_of_one_rank p e s ≡ true → are_of_one_rank p f t ≡ true → SomeFindUpTo p m e f → SomeFindUpTo p m s t
up p m s t e f sends takers send_rank finder_rank found =
    record {
      send = found.send;
      finder = found.finder;
      no_later_send = omega (arith, found.no_later_send, sends);
      no_later_finder = omega (arith, found.no_later_finder, takers);
      send_rank = one_rank_over (call_at p found.send) (call_at p e) (call_at p s) found.send_rank send_rank;
      finder_rank = one_rank_over (call_at p found.finder) (call_at p f) (call_at p t) found.finder_rank finder_rank;
      can = found.can;
    }

earlier_send : (p : MpiProgram) (m : Configuration) (s t e : ℕ) → IsOpenPair p m s t → e < s → are_of_one_rank p e s ≡ true → are_fit p e t ≡ true → is_matched m e ≡ false → IsOpenPair p m e t
earlier_send p m s t e pair below same fit free =
    record { send_issued = issued_earlier_call m e s (call_at p e) (call_at p s) below same pair.send_issued; finder_issued = pair.finder_issued; send_open = free; finder_open = pair.finder_open; fit = fit }

earlier_taker : (p : MpiProgram) (m : Configuration) (s t e : ℕ) → IsOpenPair p m s t → e < t → are_of_one_rank p e t ≡ true → takes p s e ≡ true → is_matched m e ≡ false → IsOpenPair p m s e
earlier_taker p m s t e pair below same fit free =
    record { send_issued = pair.send_issued; finder_issued = issued_earlier_call m e t (call_at p e) (call_at p t) below same pair.finder_issued; send_open = pair.send_open; finder_open = free; fit = takes_fit p s e fit }

descent : (fuel : ℕ) (p : MpiProgram) (m : Configuration) (s t : ℕ) → s + t < fuel → IsOpenPair p m s t → SomeFindUpTo p m s t
descent zero p m s t h pair = absurd (omega arith)
descent (suc n) p m s t h pair =
    let own = own_ranks (call_at p s) (call_at p t) pair.fit in
    elim (goal_or_none (SomeFindUpTo p m s t) (λ e. are_of_one_rank p e s) (λ e. are_fit p e t) (is_matched m) s (λ e below same fit free. up p m s t e t (omega arith) (omega arith) same own.1 (descent n p m e t (omega arith) (earlier_send p m s t e pair below same fit free)))) [
      | inl found ↦ found
      | inr sends ↦
          elim (goal_or_none (SomeFindUpTo p m s t) (λ e. are_of_one_rank p e t) (takes p s) (is_matched m) t (λ e below same fit free. up p m s t s e (omega arith) (omega arith) own.0 same (descent n p m s e (omega arith) (earlier_taker p m s t e pair below same fit free)))) [
            | inl found ↦ found
            | inr takers ↦ unblocked sends takers
          ]
    ]
  where
    unblocked : ((e : ℕ) → e < s → are_of_one_rank p e s ≡ true → are_fit p e t ≡ true → is_matched m e ≡ true) → ((e : ℕ) → e < t → are_of_one_rank p e t ≡ true → takes p s e ≡ true → is_matched m e ≡ true) → SomeFindUpTo p m s t
    unblocked sends takers =
        let own = own_ranks (call_at p s) (call_at p t) pair.fit in
        record {
          send = s;
          finder = t;
          no_later_send = omega arith;
          no_later_finder = omega arith;
          send_rank = own.0;
          finder_rank = own.1;
          can = record {
            send_issued = pair.send_issued;
            finder_issued = pair.finder_issued;
            send_open = pair.send_open;
            finder_open = pair.finder_open;
            fit = pair.fit;
            sends = sends;
            takers = takers;
          };
        }

pub some_find_is_possible : SomeFindIsPossible
some_find_is_possible p m s t pair = descent (suc (s + t)) p m s t (omega arith) pair

pub some_match_or_see_is_enabled : SomeMatchOrSeeIsEnabled
some_match_or_see_is_enabled p m s f pair =
    let found = some_find_is_possible p m s f pair in
    record { send = found.send; finder = found.finder; enabled = by found (is_probe p found.finder) refl }
  where
    by : (found : SomeFindUpTo p m s f) (b : Bool) → is_probe p found.finder ≡ b → IsEnabled p m (find_step b found.send found.finder)
    by found true e = (e, found.can)
    by found false e = (ap not e, found.can)

pub no_open_pair_where_stuck : NoOpenPairWhereStuck
no_open_pair_where_stuck p m s t stuck send_issued finder_issued fit = matched_or_not _ _ refl refl
  where
    matched_or_not : (a b : Bool) → is_matched m s ≡ a → is_matched m t ≡ b → (is_matched m s ≡ true) ⊎ (is_matched m t ≡ true)
    matched_or_not true b x y = inl x
    matched_or_not false true x y = inr y
    matched_or_not false false x y =
        let found = some_find_is_possible p m s t (record { send_issued = send_issued; finder_issued = finder_issued; send_open = x; finder_open = y; fit = fit }) in
        absurd (IsStuck-no_find p m stuck found.send found.finder found.can)
