-- Dealing the calls of a program to its parts.
use Rattle.std.proofs.Common.{◌≡◌, ℕ, zero, suc, ◌+◌, ◌-◌, ◌<◌, ◌≤◌, inl, inr, Bool, true, false, cond, ◌==◌, nat_lt, List, [], ◌∷◌, Some, length, take, get_or, slice_get, slice_set, refl, sym, ap, ◌∙◌, subst, arith, length-set, get_or-set_other, get_or-set_same}
use Rattle.std.proofs.lemmas.Bool.{cases_eq, cases_lt, eqb-true, eq-eqb}
use Rattle.std.proofs.lemmas.Bool.Decides.{nat_tests}
use Rattle.std.proofs.lemmas.List.{ext_get_or, take_all}
use Rattle.std.proofs.lemmas.List.Sums.{count_by_more_yes, count_by_more_no}
use Rattle.std.proofs.lemmas.Option.{same_Some, slice_get_within, slice_get-get_or, get_or_from_slice_get}
use Rattle.callorder.specs.declared.calls.Call.{Call}
use Rattle.callorder.specs.declared.calls.Kind.{Kind}
use Rattle.callorder.specs.declared.calls.Kind.TheVariants.{MatchedProbe, Wait}
use Rattle.callorder.specs.Programs.{MpiProgram, call_at, is_of_rank}
use Rattle.semantics.specs.Machine.{first_call}
use Rattle.phases.specs.CallPlaces.{IsWellFormed, moved_kind, moved_call}
use Rattle.phases.specs.parts.Moves.{IsMovedOn, StandFirst, StandsAt}
use Rattle.phases.specs.Rests.{IsFront, IsRest, behind, calls_by, lowered_kind}
use Rattle.phases.proofs.Clean.{both_ways}
use Rattle.phases.proofs.Parts.{of_rank, rank_is}
use Rattle.phases.proofs.Traffic.{unless, item_there}
use Rattle.phases.proofs.Joined.{among, before_first, of_next, ordered_firsts}
use Rattle.phases.proofs.Joining.{Rising, rising_low, lower, none_lower, passing_cons, rises_of}
use Rattle.phases.proofs.Rests.{fewer, sizes, second, well_formed}

-- ---- places that move on

-- what holds after so many calls
pub record HasMovedOn (p : MpiProgram) (calls : List Call) (old new : List ℕ) (count : ℕ) : Type 0 where
  pub moved : IsMovedOn (take count calls) old new
  pub stand : StandFirst p calls old count

differ : (a b : ℕ) → (a ≡ b → ⊥) → (a == b) ≡ false
differ a b h = unless (a == b) (λ on. h (eqb-true a b on))

more_here : (calls : List Call) (place : ℕ) (d : Call) (rank : ℕ) → place < length calls → (get_or calls place d).rank ≡ rank → calls_by rank (take (place + 1) calls) ≡ calls_by rank (take place calls) + 1
more_here calls place d rank below e = count_by_more_yes (λ (call : Call). call.rank == rank) calls place d below (eq-eqb (get_or calls place d).rank rank e)

more_elsewhere : (calls : List Call) (place : ℕ) (d : Call) (rank : ℕ) → place < length calls → ((get_or calls place d).rank ≡ rank → ⊥) → calls_by rank (take (place + 1) calls) ≡ calls_by rank (take place calls)
more_elsewhere calls place d rank below h = count_by_more_no (λ (call : Call). call.rank == rank) calls place d below (differ (get_or calls place d).rank rank h)

pub own_inside : (calls : List Call) (old new : List ℕ) (place : ℕ) (d : Call) → ((c : ℕ) (call : Call) → slice_get calls c ≡ Some call → call.rank < length old) → place < length calls → length new ≡ length old → (get_or calls place d).rank < length new
own_inside calls old new place d ranks below size =
    let own = ranks place (get_or calls place d) (slice_get-get_or calls place d below) in
    omega (arith, own, size)

-- the place of a call's rank moves by one
put_here : (next : List ℕ) (own value rank : ℕ) → own < length next → own ≡ rank → get_or (slice_set next own value) rank 0 ≡ value
put_here next own value rank below e = ap (λ (k : ℕ). get_or (slice_set next own value) k 0) (sym e) ∙ get_or-set_same next own value 0 below

put_elsewhere : (next : List ℕ) (own value rank : ℕ) → (own ≡ rank → ⊥) → get_or (slice_set next own value) rank 0 ≡ get_or next rank 0
put_elsewhere next own value rank h = get_or-set_other next own rank value 0 (λ e. h (sym e))

moved_more : (calls : List Call) (old new : List ℕ) (place : ℕ) (d : Call) → place < length calls → (get_or calls place d).rank < length old → IsMovedOn (take place calls) old new → IsMovedOn (take (place + 1) calls) old (slice_set new (get_or calls place d).rank (get_or new (get_or calls place d).rank 0 + 1))
moved_more calls old new place d below range is =
    record {
      size = length-set new own (get_or new own 0 + 1) ∙ is.size;
      each = λ rank inside. each rank inside;
    }
  where
    own : ℕ
    own = (get_or calls place d).rank

    each : (rank : ℕ) → rank < length old → get_or (slice_set new own (get_or new own 0 + 1)) rank 0 ≡ get_or old rank 0 + calls_by rank (take (place + 1) calls)
    each rank inside =
        elim (cases_eq own rank) [
          | inl e ↦ omega (arith, put_here new own (get_or new own 0 + 1) rank (omega (arith, range, is.size)) e, is.each rank inside, more_here calls place d rank below e, ap (λ (k : ℕ). get_or new k 0) e)
          | inr h ↦ omega (arith, put_elsewhere new own (get_or new own 0 + 1) rank h, is.each rank inside, more_elsewhere calls place d rank below h)
        ]

pub one_more : (p : MpiProgram) (calls : List Call) (old new : List ℕ) (place : ℕ) (d : Call) → place < length calls → (get_or calls place d).rank < length old → HasMovedOn p calls old new place → StandsAt p (get_or new (get_or calls place d).rank 0) (get_or calls place d) place
    → HasMovedOn p calls old (slice_set new (get_or calls place d).rank (get_or new (get_or calls place d).rank 0 + 1)) (place + 1)
one_more p calls old new place d below range has stands =
    record {
      moved = moved_more calls old new place d below range has.moved;
      stand = record { within = omega (arith, below); each = λ c call low there. each c call low there };
    }
  where
    each : (c : ℕ) (call : Call) → c < place + 1 → slice_get calls c ≡ Some call → StandsAt p (get_or old call.rank 0 + calls_by call.rank (take c calls)) call c
    each c call low there =
        elim (cases_lt c place) [
          | inl less ↦ has.stand.each c call less there
          | inr high ↦ here (omega (arith, low, high))
        ]
      where
        here : place ≡ c → StandsAt p (get_or old call.rank 0 + calls_by call.rank (take c calls)) call c
        here e =
            let is : get_or calls place d ≡ call = ap (λ (k : ℕ). get_or calls k d) e ∙ get_or_from_slice_get calls c call d there in
            let now = subst (λ (z : Call). StandsAt p (get_or old z.rank 0 + calls_by z.rank (take place calls)) z place) is (subst (λ (k : ℕ). StandsAt p k (get_or calls place d) place) (has.moved.each (get_or calls place d).rank range) stands) in
            subst (λ (k : ℕ). StandsAt p (get_or old call.rank 0 + calls_by call.rank (take k calls)) call k) e now

calls_by_within : (rank : ℕ) (calls : List Call) (place : ℕ) (call : Call) → slice_get calls place ≡ Some call → call.rank ≡ rank → calls_by rank (take place calls) + 1 ≤ calls_by rank calls
calls_by_within rank [] place call there own = absurd (cc)
calls_by_within rank (x ∷ xs) zero call there own =
    let first = ap (λ (b : Bool). cond {A = ℕ} b 1 0) (eq-eqb x.rank rank (ap (λ (z : Call). z.rank) (same_Some x call there) ∙ own)) in
    let none : calls_by rank (take zero (x ∷ xs)) ≡ 0 = refl in
    omega (arith, first, none, passing_cons (λ (z : Call). z.rank == rank) x xs)
calls_by_within rank (x ∷ xs) (suc place) call there own =
    let rest = calls_by_within rank xs place call there own in
    let front : calls_by rank (take (suc place) (x ∷ xs)) ≡ cond (x.rank == rank) 1 0 + calls_by rank (take place xs) = passing_cons (λ (z : Call). z.rank == rank) x (take place xs) in
    omega (arith, rest, front, passing_cons (λ (z : Call). z.rank == rank) x xs)

-- there is room to move back by a call
pub some_back : (calls : List Call) (old new : List ℕ) (place : ℕ) (d : Call) → place < length calls → (get_or calls place d).rank < length new → IsMovedOn (take place calls) new old → calls_by (get_or calls place d).rank calls ≤ get_or old (get_or calls place d).rank 0 → 1 ≤ get_or new (get_or calls place d).rank 0
some_back calls old new place d below range is room =
    omega (arith, room, is.each (get_or calls place d).rank range, calls_by_within (get_or calls place d).rank calls place (get_or calls place d) (slice_get-get_or calls place d below) refl)

pub in_take : (calls : List Call) (n c : ℕ) (call : Call) → slice_get (take n calls) c ≡ Some call → slice_get calls c ≡ Some call
in_take [] zero c call there = there
in_take [] (suc n) c call there = there
in_take (x ∷ xs) zero c call there = absurd (cc)
in_take (x ∷ xs) (suc n) zero call there = there
in_take (x ∷ xs) (suc n) (suc c) call there = in_take xs n c call there

-- what moved on and then back is as it was
pub back_again : (calls : List Call) (old new back : List ℕ) → IsMovedOn calls old new → IsMovedOn calls back new → back ≡ old
back_again calls old new back on off =
    let size : length back ≡ length old = sym off.size ∙ on.size in
    ext_get_or 0 back old size (λ rank inside. let a = off.each rank inside in let b = on.each rank (omega (arith, inside, size)) in omega (arith, a, b))

-- no place is past the program's calls
pub stands_below : (p : MpiProgram) (at : ℕ) (call : Call) (place : ℕ) → StandsAt p at call place → at < length p.calls
stands_below p at call place stands = slice_get_within p.calls at (moved_call (at - place) call) stands.there

-- ---- calls that move

lowered_moved : (n : ℕ) (k : Kind ℕ) → lowered_kind n (moved_kind n k) ≡ k
lowered_moved n (MatchedProbe pattern receive) = ap (λ (z : ℕ). MatchedProbe pattern z) (let e : (receive + n) - n ≡ receive = omega arith in e)
lowered_moved n (Wait operation) = ap (λ (z : ℕ). Wait z) (let e : (operation + n) - n ≡ operation = omega arith in e)
lowered_moved n kind = refl

abbrev of_kind : ℕ → Kind ℕ → Call
of_kind rank kind = record { rank = rank; kind = kind }

same_before : (n : ℕ) (x y : Call) → moved_call n x ≡ moved_call n y → x ≡ y
same_before n x y e =
    let rank : x.rank ≡ y.rank = ap (λ (z : Call). z.rank) e in
    let kind : x.kind ≡ y.kind = sym (lowered_moved n x.kind) ∙ ap (λ (z : Call). lowered_kind n z.kind) e ∙ lowered_moved n y.kind in
    ap (λ (r : ℕ). of_kind r x.kind) rank ∙ ap (of_kind y.rank) kind

moved_kind_twice : (n m : ℕ) (k : Kind ℕ) → moved_kind n (moved_kind m k) ≡ moved_kind (n + m) k
moved_kind_twice n m (MatchedProbe pattern receive) = ap (λ (z : ℕ). MatchedProbe pattern z) (let e : (receive + m) + n ≡ receive + (n + m) = omega arith in e)
moved_kind_twice n m (Wait operation) = ap (λ (z : ℕ). Wait z) (let e : (operation + m) + n ≡ operation + (n + m) = omega arith in e)
moved_kind_twice n m kind = refl

moved_twice : (n m k : ℕ) (call : Call) → n + m ≡ k → moved_call n (moved_call m call) ≡ moved_call k call
moved_twice n m k call e = ap (of_kind call.rank) (moved_kind_twice n m call.kind) ∙ ap (λ (z : ℕ). moved_call z call) e

-- ---- how many calls of a rank there are

pub by_lower : (rank : ℕ) (calls : List Call) → lower (rank + 1) calls ≡ lower rank calls + calls_by rank calls
by_lower rank [] = refl
by_lower rank (x ∷ xs) =
    let one : cond (nat_lt x.rank (rank + 1)) 1 0 ≡ cond (nat_lt x.rank rank) 1 0 + cond (x.rank == rank) 1 0 = grind (arith, nat_tests) in
    omega (arith, one, by_lower rank xs, passing_cons (λ (z : Call). nat_lt z.rank (rank + 1)) x xs, passing_cons (λ (z : Call). nat_lt z.rank rank) x xs, passing_cons (λ (z : Call). z.rank == rank) x xs)

-- where a call stands, by how many of its rank stand before it
before_rank : (low : ℕ) (calls : List Call) (c : ℕ) (call : Call) → Rising low calls → slice_get calls c ≡ Some call → c ≡ calls_by call.rank (take c calls) + lower call.rank calls
before_rank low [] c call rises there = absurd (cc)
before_rank low (x ∷ xs) zero call rises there =
    let same : x ≡ call = same_Some x call there in
    let none : calls_by call.rank (take zero (x ∷ xs)) ≡ 0 = refl in
    omega (arith, none, none_lower call.rank x.rank (x ∷ xs) (omega arith, rises.1) (omega (arith, ap (λ (z : Call). z.rank) same)))
before_rank low (x ∷ xs) (suc c) call rises there =
    let rest = before_rank x.rank xs c call rises.1 there in
    let high : x.rank ≤ call.rank = rising_low x.rank xs c call rises.1 there in
    let one : cond (nat_lt x.rank call.rank) 1 0 + cond (x.rank == call.rank) 1 0 ≡ 1 + 0 = grind (arith, nat_tests) in
    let front : calls_by call.rank (take (suc c) (x ∷ xs)) ≡ cond (x.rank == call.rank) 1 0 + calls_by call.rank (take c xs) = passing_cons (λ (z : Call). z.rank == call.rank) x (take c xs) in
    omega (arith, rest, one, front, passing_cons (λ (z : Call). nat_lt z.rank call.rank) x xs)

-- ---- what is left

module _ (p q : MpiProgram) (old : List ℕ) (rest : IsRest p old q) where
  abbrev from : ℕ → ℕ
  from rank = get_or old rank 0

  rest_lower : (rank : ℕ) → rank ≤ p.ranks → first_call q rank ≤ first_call p rank
  rest_lower zero inside = omega (arith, none_lower 0 0 q.calls (rises_of q rest.well_formed) (omega arith))
  rest_lower (suc rank) inside =
      let less = rest_lower rank (omega (arith, inside)) in
      let e : rank + 1 ≡ suc rank = omega arith in
      let low : first_call q (rank + 1) ≤ first_call p (rank + 1) = omega (arith, less, rest.sizes rank (omega (arith, inside)), rest.from rank (omega (arith, inside)), by_lower rank q.calls) in
      subst (λ (z : ℕ). first_call q z ≤ first_call p z) e low

  no_later : (rank : ℕ) → rank < p.ranks → first_call q rank ≤ from rank
  no_later rank inside = omega (arith, rest_lower rank (omega (arith, inside)), rest.from rank inside)

  module _ (d : MpiProgram) (is_p : IsWellFormed p) (is_d : IsWellFormed d) (policy : d.policy ≡ p.policy) (ranks : d.ranks ≡ p.ranks) (stand : StandFirst p d.calls old (length d.calls)) where
    own_rank : (c : ℕ) (call : Call) → call_at d c ≡ Some call → call.rank < p.ranks
    own_rank c call there = let h = is_d.in_range c call there in omega (arith, h.own, ranks)

    count : ℕ → Call → ℕ
    count c call = calls_by call.rank (take c d.calls)

    stands : (c : ℕ) (call : Call) → call_at d c ≡ Some call → StandsAt p (from call.rank + calls_by call.rank (take c d.calls)) call c
    stands c call there = stand.each c call (slice_get_within d.calls c call there) there

    -- as many calls of the rank are left, or more
    there_still : (c : ℕ) (call : Call) → call_at d c ≡ Some call → calls_by call.rank (take c d.calls) < calls_by call.rank q.calls
    there_still c call there =
        let low = before_first p is_p.rank_order (call.rank + 1) _ _ (stands c call there).there (omega arith) in
        omega (arith, low, rest.sizes call.rank (own_rank c call there))

    as_many : (rank : ℕ) → rank < p.ranks → calls_by rank d.calls ≤ calls_by rank q.calls
    as_many rank inside =
        elim (cases_lt (first_call d rank) (first_call d (rank + 1))) [
          | inl some ↦ last (first_call d (rank + 1)) refl some
          | inr none ↦ omega (arith, none, by_lower rank d.calls)
        ]
      where
        last : (k : ℕ) → first_call d (rank + 1) ≡ k → first_call d rank < k → calls_by rank d.calls ≤ calls_by rank q.calls
        last zero e some = absurd (omega (arith, some))
        last (suc k) e some =
            let y = of_rank (call_at d k) rank (of_next d is_d.rank_order rank k (omega (arith, some)) (omega (arith, e)) (call_at d k) refl) in
            let less = subst (λ (z : ℕ). calls_by z (take k d.calls) < calls_by z q.calls) y.2 (there_still k y.0 y.1) in
            let at = subst (λ (z : ℕ). k ≡ calls_by z (take k d.calls) + lower z d.calls) y.2 (before_rank 0 d.calls k y.0 (rises_of d is_d) y.1) in
            omega (arith, less, at, e, by_lower rank d.calls)

    part_lower : (rank : ℕ) → rank ≤ p.ranks → first_call d rank ≤ first_call q rank
    part_lower zero inside = omega (arith, none_lower 0 0 d.calls (rises_of d is_d) (omega arith))
    part_lower (suc rank) inside =
        let less = part_lower rank (omega (arith, inside)) in
        let e : rank + 1 ≡ suc rank = omega arith in
        let low : first_call d (rank + 1) ≤ first_call q (rank + 1) = omega (arith, less, as_many rank (omega (arith, inside)), by_lower rank q.calls, by_lower rank d.calls) in
        subst (λ (z : ℕ). first_call d z ≤ first_call q z) e low

    pub is_front : IsFront q d
    is_front =
        record {
          policy = policy ∙ sym rest.part.policy;
          ranks = ranks ∙ sym rest.part.ranks;
          calls = λ c call there. at c call there (own_rank c call there) (calls_by call.rank (take c d.calls)) (before_rank 0 d.calls c call (rises_of d is_d) there) (stands c call there) (there_still c call there);
        }
      where
        at : (c : ℕ) (call : Call) → call_at d c ≡ Some call → call.rank < p.ranks → (n : ℕ) → c ≡ n + first_call d call.rank → StandsAt p (from call.rank + n) call c → n < calls_by call.rank q.calls → call_at q (c + (first_call q call.rank - first_call d call.rank)) ≡ Some (moved_call (first_call q call.rank - first_call d call.rank) call)
        at c call there inside n is stands less =
            let r = call.rank in
            let low : first_call d r ≤ first_call q r = part_lower r (omega (arith, inside)) in
            let high : first_call q r ≤ from r = no_later r inside in
            let y = of_rank (call_at q (first_call q r + n)) r (of_next q rest.well_formed.rank_order r (first_call q r + n) (omega arith) (omega (arith, less, by_lower r q.calls)) (call_at q (first_call q r + n)) refl) in
            let whole = rest.part.calls (first_call q r + n) y.0 y.1 in
            let place : (first_call q r + n) + (from y.0.rank - first_call q y.0.rank) ≡ from r + n = ap (λ (z : ℕ). (first_call q r + n) + (from z - first_call q z)) y.2 ∙ (let e : (first_call q r + n) + (from r - first_call q r) ≡ from r + n = omega (arith, high) in e) in
            let same : moved_call (from y.0.rank - first_call q y.0.rank) y.0 ≡ moved_call ((from r + n) - c) call = same_Some _ _ (sym whole ∙ ap (call_at p) place ∙ stands.there) in
            let parts : (from r - first_call q r) + (first_call q r - first_call d r) ≡ (from r + n) - c = omega (arith, low, high, is) in
            let is_y : y.0 ≡ moved_call (first_call q r - first_call d r) call =
            same_before (from r - first_call q r) y.0 (moved_call (first_call q r - first_call d r) call)
            (ap (λ (z : ℕ). moved_call (from z - first_call q z) y.0) (sym y.2) ∙ same ∙ sym (moved_twice (from r - first_call q r) (first_call q r - first_call d r) ((from r + n) - c) call parts)) in
            let spot : c + (first_call q r - first_call d r) ≡ first_call q r + n = omega (arith, is, low) in
            ap (call_at q) spot ∙ y.1 ∙ ap Some is_y

  module _ (d : MpiProgram) (is_d : IsWellFormed d) (front : IsFront q d) where
    inside_of : (rank : ℕ) → rank < q.ranks → rank < p.ranks
    inside_of rank h = omega (arith, h, rest.part.ranks)

    -- the calls of a front stand in the program
    front_stands : (c : ℕ) (call : Call) → call_at d c ≡ Some call → StandsAt p (from call.rank + calls_by call.rank (take c d.calls)) call c
    front_stands c call there = at (calls_by call.rank (take c d.calls)) (before_rank 0 d.calls c call (rises_of d is_d) there)
      where
        at : (n : ℕ) → c ≡ n + first_call d call.rank → StandsAt p (from call.rank + n) call c
        at n is =
            let r = call.rank in
            let own = is_d.in_range c call there in
            let inside : r < p.ranks = inside_of r (omega (arith, own.own, front.ranks)) in
            let low : first_call d r ≤ first_call q r = fewer q d rest.well_formed is_d front r in
            let high : first_call q r ≤ from r = no_later r inside in
            let whole = rest.part.calls _ _ (front.calls c call there) in
            let place : (c + (first_call q r - first_call d r)) + (from r - first_call q r) ≡ from r + n = omega (arith, is, low, high) in
            let parts : (from r - first_call q r) + (first_call q r - first_call d r) ≡ (from r + n) - c = omega (arith, low, high, is) in
            record {
              no_earlier = omega (arith, is, low, high);
              there = ap (call_at p) (sym place) ∙ whole ∙ ap Some (moved_twice (from r - first_call q r) (first_call q r - first_call d r) ((from r + n) - c) call parts);
            }

    pub no_front : (new : List ℕ) (n : ℕ) → n < length d.calls → IsMovedOn (take n d.calls) old new → ((call : Call) → call_at d n ≡ Some call → StandsAt p (get_or new call.rank 0) call n → ⊥) → ⊥
    no_front new n below moved stops =
        let w = item_there d.calls n below in
        let own = is_d.in_range n w.0 w.1 in
        let inside : w.0.rank < p.ranks = inside_of w.0.rank (omega (arith, own.own, front.ranks)) in
        stops w.0 w.1 (subst (λ (z : ℕ). StandsAt p z w.0 n) (sym (moved.each w.0.rank (omega (arith, inside, rest.places)))) (front_stands n w.0 w.1))

    pub rest_behind : (new : List ℕ) → IsMovedOn d.calls old new → IsRest p new (behind q d)
    rest_behind new moved =
        record {
          well_formed = well_formed q d is_q is_d front;
          places = moved.size ∙ rest.places;
          from = λ rank inside. let at = moved.each rank (omega (arith, inside, rest.places)) in omega (arith, at, rest.from rank inside);
          sizes = λ rank inside.
              let at = moved.each rank (omega (arith, inside, rest.places)) in
              omega (arith, at, rest.sizes rank inside, by_lower rank b.calls, by_lower rank d.calls, by_lower rank q.calls, sizes q d is_q is_d front rank, sizes q d is_q is_d front (rank + 1));
          part = record { policy = rest.part.policy; ranks = rest.part.ranks; calls = λ c call there. at c call there };
        }
      where
        is_q : IsWellFormed q
        is_q = rest.well_formed

        b : MpiProgram
        b = behind q d

        at : (c : ℕ) (call : Call) → call_at b c ≡ Some call → call_at p (c + (get_or new call.rank 0 - first_call b call.rank)) ≡ Some (moved_call (get_or new call.rank 0 - first_call b call.rank) call)
        at c call there =
            let r = call.rank in
            let in_q = second q d is_q is_d front c call there in
            let own = is_q.in_range _ _ in_q in
            let inside : r < p.ranks = inside_of r own.own in
            let high : first_call q r ≤ from r = no_later r inside in
            let moved_r = moved.each r (omega (arith, inside, rest.places)) in
            let parts : (from r - first_call q r) + first_call d (r + 1) ≡ get_or new r 0 - first_call b r = omega (arith, moved_r, high, by_lower r d.calls, sizes q d is_q is_d front r) in
            let place : (c + first_call d (r + 1)) + (from r - first_call q r) ≡ c + (get_or new r 0 - first_call b r) = omega (arith, parts) in
            ap (call_at p) (sym place) ∙ rest.part.calls _ _ in_q ∙ ap Some (moved_twice (from r - first_call q r) (first_call d (r + 1)) (get_or new r 0 - first_call b r) call parts)

-- ---- a part that is taken off, or refused

pub calls_inside : (p d : MpiProgram) (calls : List Call) (next : List ℕ) → IsWellFormed d → calls ≡ d.calls → d.ranks ≡ p.ranks → length next ≡ p.ranks → (c : ℕ) (call : Call) → slice_get calls c ≡ Some call → call.rank < length next
calls_inside p d calls next is_d same ranks places c call there =
    let h = is_d.in_range c call (ap (λ (z : List Call). slice_get z c) (sym same) ∙ there) in
    omega (arith, h.own, ranks, places)

pub refused : (p q d : MpiProgram) (calls : List Call) (old new : List ℕ) (n : ℕ) → IsRest p old q → IsWellFormed d → calls ≡ d.calls → n < length calls → IsMovedOn (take n calls) old new → ((call : Call) → slice_get calls n ≡ Some call → StandsAt p (get_or new call.rank 0) call n → ⊥) → IsFront q d → ⊥
refused p q d calls old new n rest is_d same below moved stops front =
    no_front p q old rest d is_d front new n (subst (λ (z : List Call). n < length z) same below) (subst (λ (z : List Call). IsMovedOn (take n z) old new) same moved)
    (λ call there. stops call (ap (λ (z : List Call). slice_get z n) same ∙ there))

pub taken : (p q d : MpiProgram) (calls : List Call) (old : List ℕ) (n : ℕ) → IsRest p old q → IsWellFormed p → IsWellFormed d → d.policy ≡ p.policy → d.ranks ≡ p.ranks → calls ≡ d.calls → n ≡ length calls → StandFirst p calls old n → IsFront q d
taken p q d calls old n rest is_p is_d policy ranks same all stand =
    is_front p q old rest d is_p is_d policy ranks
    (subst (λ (z : List Call). StandFirst p z old (length z)) same (subst (λ (k : ℕ). StandFirst p calls old k) all stand))

pub taken_off : (p q d : MpiProgram) (calls : List Call) (old new : List ℕ) (n : ℕ) → IsRest p old q → IsWellFormed d → calls ≡ d.calls → n ≡ length calls → IsMovedOn (take n calls) old new → IsFront q d → IsRest p new (behind q d)
taken_off p q d calls old new n rest is_d same all moved front =
    rest_behind p q old rest d is_d front new
    (subst (λ (z : List Call). IsMovedOn z old new) (take_all n calls (omega (arith, all)) ∙ same) moved)

-- ---- from the first place to the last

-- what holds of the place behind some calls of a rank
pub record IsOnTheWay (p : MpiProgram) (rank end : ℕ) : Type 0 where
  pub low : first_call p rank ≤ end
  pub high : end ≤ first_call p (rank + 1)

pub way_in : (p : MpiProgram) (rank place : ℕ) → IsWellFormed p → place ≡ first_call p rank → IsOnTheWay p rank place
way_in p rank place is_p e = record { low = omega (arith, e); high = omega (arith, e, ordered_firsts p is_p.rank_order rank) }

pub one_on : (p : MpiProgram) (rank end : ℕ) → IsWellFormed p → IsOnTheWay p rank end → is_of_rank (call_at p end) rank ≡ true → IsOnTheWay p rank (end + 1)
one_on p rank end is_p way on =
    let y = of_rank (call_at p end) rank on in
    let bounds = among p is_p.rank_order rank end y.0 y.1 y.2 in
    record { low = omega (arith, way.low); high = omega (arith, bounds.1) }

pub at_the_end : (p : MpiProgram) (rank end : ℕ) → IsWellFormed p → IsOnTheWay p rank end → is_of_rank (call_at p end) rank ≡ false → end ≡ first_call p (rank + 1)
at_the_end p rank end is_p way off =
    elim (cases_lt end (first_call p (rank + 1))) [
      | inl more ↦ absurd (both_ways (is_of_rank (call_at p end) rank) (of_next p is_p.rank_order rank end way.low more (call_at p end) refl) off)
      | inr fine ↦ omega (arith, fine, way.high)
    ]

pub rank_below : (p : MpiProgram) (rank end : ℕ) → is_of_rank (call_at p end) rank ≡ true → end < length p.calls
rank_below p rank end on = let y = of_rank (call_at p end) rank on in slice_get_within p.calls end y.0 y.1

-- the first places of so many ranks
pub record AreFirst (p : MpiProgram) (next : List ℕ) (place rank : ℕ) : Type 0 where
  pub size : length next ≡ rank
  pub each : (k : ℕ) → k < rank → get_or next k 0 ≡ first_call p k
  pub at : place ≡ first_call p rank

pub none_yet : (p : MpiProgram) (next : List ℕ) → IsWellFormed p → next ≡ [] → AreFirst p next 0 0
none_yet p next is_p none =
    record {
      size = ap length none;
      each = λ k low. absurd (omega (arith, low));
      at = omega (arith, none_lower 0 0 p.calls (rises_of p is_p) (omega arith));
    }

unmoved_kind : (k : Kind ℕ) → moved_kind 0 k ≡ k
unmoved_kind (MatchedProbe pattern receive) = ap (λ (z : ℕ). MatchedProbe pattern z) (let e : receive + 0 ≡ receive = omega arith in e)
unmoved_kind (Wait operation) = ap (λ (z : ℕ). Wait z) (let e : operation + 0 ≡ operation = omega arith in e)
unmoved_kind kind = refl

pub all_left : (p : MpiProgram) (next : List ℕ) (place : ℕ) → IsWellFormed p → AreFirst p next place p.ranks → IsRest p next p
all_left p next place is_p are =
    record {
      well_formed = is_p;
      places = are.size;
      from = λ rank inside. let e = are.each rank inside in omega (arith, e);
      sizes = λ rank inside. let e = are.each rank inside in omega (arith, e, by_lower rank p.calls);
      part = record { policy = refl; ranks = refl; calls = λ c call there. here c call there };
    }
  where
    here : (c : ℕ) (call : Call) → call_at p c ≡ Some call → call_at p (c + (get_or next call.rank 0 - first_call p call.rank)) ≡ Some (moved_call (get_or next call.rank 0 - first_call p call.rank) call)
    here c call there =
        let own = is_p.in_range c call there in
        let e = are.each call.rank own.own in
        let none : 0 ≡ get_or next call.rank 0 - first_call p call.rank = omega (arith, e) in
        let same : c ≡ c + 0 = omega arith in
        subst (λ (z : ℕ). call_at p (c + z) ≡ Some (moved_call z call)) none
        (ap (call_at p) (sym same) ∙ there ∙ ap (λ (k : Kind ℕ). Some (of_kind call.rank k)) (sym (unmoved_kind call.kind)))

pub none_left : (p q : MpiProgram) (next : List ℕ) → IsRest p next q → ((rank : ℕ) → rank < p.ranks → is_of_rank (call_at p (get_or next rank 0)) rank ≡ false) → q.calls ≡ []
none_left p q next rest off = by q.calls refl
  where
    by : (calls : List Call) → q.calls ≡ calls → calls ≡ []
    by [] e = refl
    by (y ∷ ys) e =
        let there : call_at q 0 ≡ Some y = ap (λ (z : List Call). slice_get z 0) e in
        let own = rest.well_formed.in_range 0 y there in
        let at = before_rank 0 q.calls 0 y (rises_of q rest.well_formed) there in
        let place : 0 + (get_or next y.rank 0 - first_call q y.rank) ≡ get_or next y.rank 0 = omega (arith, at) in
        let on = rank_is (call_at p (get_or next y.rank 0)) _ y.rank (ap (call_at p) (sym place) ∙ rest.part.calls 0 y there) refl in
        absurd (both_ways (is_of_rank (call_at p (get_or next y.rank 0)) y.rank) on (off y.rank (omega (arith, own.own, rest.part.ranks))))

pub some_left : (p q : MpiProgram) (next : List ℕ) (rank : ℕ) → IsWellFormed p → IsRest p next q → rank < p.ranks → is_of_rank (call_at p (get_or next rank 0)) rank ≡ true → q.calls ≡ [] → ⊥
some_left p q next rank is_p rest inside on none =
    let y = of_rank (call_at p (get_or next rank 0)) rank on in
    let bounds = among p is_p.rank_order rank (get_or next rank 0) y.0 y.1 y.2 in
    let no_calls : calls_by rank q.calls ≡ 0 = ap (calls_by rank) none in
    omega (arith, bounds.1, no_calls, rest.sizes rank inside)
