-- Where the calls of joined programs stand, and that what is joined is well formed.
use Rattle.std.proofs.Common.{◌≡◌, ℕ, zero, suc, ◌+◌, ◌<◌, ◌≤◌, ◌⊎◌, inl, inr, Bool, true, false, cond, nat_lt, if◌then◌else◌, List, [], ◌∷◌, map, Option, Some, None, slice_get, refl, sym, ap, ◌∙◌, subst, arith}
use Rattle.std.specs.Prelude.{IfSome, option_map}
use Rattle.std.specs.List.{count_by}
use Rattle.std.proofs.lemmas.Bool.{cases_lt}
use Rattle.std.proofs.lemmas.Bool.Decides.{nat_tests}
use Rattle.std.proofs.lemmas.List.Sums.{sum_by-cons}
use Rattle.std.proofs.lemmas.Option.{same_Some}
use Rattle.callorder.specs.declared.calls.Call.{Call}
use Rattle.callorder.specs.declared.calls.Kind.{Kind}
use Rattle.callorder.specs.declared.calls.Kind.TheVariants.{Wait}
use Rattle.callorder.specs.declared.calls.Message.{Message}
use Rattle.callorder.specs.declared.calls.Pattern.{Pattern}
use Rattle.callorder.specs.Calls.{operation_of, is_start, receive_of, is_matched_receive}
use Rattle.callorder.specs.ProgramRules.{HasRanksBelow, IsPairing}
use Rattle.callorder.specs.Programs.{MpiProgram, call_at}
use Rattle.semantics.specs.Machine.{first_call}
use Rattle.phases.specs.CallPlaces.{IsFrom, IsPart, IsWellFormed, moved_kind, moved_call}
use Rattle.phases.specs.Cuts.{IsCutInTwo}
use Rattle.phases.specs.Joining.{IsJoinOf, cut_between, put, merge, join}
use Rattle.phases.specs.Laws.{JoinIsJoined}
use Rattle.phases.proofs.Parts.{message_moved, pattern_moved, one_place}
use Rattle.phases.proofs.Walks.{apart}
use Rattle.phases.proofs.Joined.{InOrder, is_cut}

-- ---- lists in rank order

abbrev pub Rising : ℕ → List Call → Type 0
Rising low [] = Unit {0}
Rising low (x ∷ xs) = (low ≤ x.rank) × Rising x.rank xs

pub rising_low : (low : ℕ) (xs : List Call) (c : ℕ) (x : Call) → Rising low xs → slice_get xs c ≡ Some x → low ≤ x.rank
rising_low low [] c x rises there = absurd (cc)
rising_low low (y ∷ ys) zero x rises there = subst (λ (z : Call). low ≤ z.rank) (same_Some y x there) rises.0
rising_low low (y ∷ ys) (suc c) x rises there = let rest = rising_low y.rank ys c x rises.1 there in omega (arith, rest, rises.0)

pub rising_lower : (low less : ℕ) (xs : List Call) → less ≤ low → Rising low xs → Rising less xs
rising_lower low less [] h rises = tt
rising_lower low less (x ∷ xs) h rises = (omega (arith, h, rises.0), rises.1)

pub rising_order : (low : ℕ) (xs : List Call) → Rising low xs → (c d : ℕ) (x y : Call) → c ≤ d → slice_get xs c ≡ Some x → slice_get xs d ≡ Some y → x.rank ≤ y.rank
rising_order low [] rises c d x y h at_c at_d = absurd (cc)
rising_order low (z ∷ zs) rises zero d x y h at_c at_d =
    rising_low x.rank (z ∷ zs) d y (let e : z ≡ x = same_Some z x at_c in (omega (arith, ap (λ (k : Call). k.rank) e), rises.1)) at_d
rising_order low (z ∷ zs) rises (suc c) zero x y h at_c at_d = absurd (omega (arith, h))
rising_order low (z ∷ zs) rises (suc c) (suc d) x y h at_c at_d = rising_order z.rank zs rises.1 c d x y (omega (arith, h)) at_c at_d

pub order_rises : (low : ℕ) (xs : List Call) → ((c : ℕ) (x : Call) → slice_get xs c ≡ Some x → low ≤ x.rank) → ((c d : ℕ) (x y : Call) → c ≤ d → slice_get xs c ≡ Some x → slice_get xs d ≡ Some y → x.rank ≤ y.rank) → Rising low xs
order_rises low [] above order = tt
order_rises low (x ∷ xs) above order =
    (above 0 x refl, order_rises x.rank xs (λ c y there. order 0 (suc c) x y (omega arith) refl there) (λ c d y z h at_c at_d. order (suc c) (suc d) y z (omega (arith, h)) at_c at_d))

-- how many are of lower ranks
abbrev pub lower : ℕ → List Call → ℕ
lower r xs = count_by (λ call. nat_lt call.rank r) xs

pub one_lower : (r : ℕ) (x : Call) (xs : List Call) → x.rank < r → lower r (x ∷ xs) ≡ suc (lower r xs)
one_lower r x xs h =
    let on : nat_lt x.rank r ≡ true = grind (arith, nat_tests) in
    let one : cond (nat_lt x.rank r) 1 0 ≡ 1 + 0 = ap (λ (b : Bool). cond b 1 0) on in
    omega (arith, one, sum_by-cons (λ (y : Call). cond (nat_lt y.rank r) 1 0) x xs)

pub none_lower : (r low : ℕ) (xs : List Call) → Rising low xs → r ≤ low → lower r xs ≡ 0
none_lower r low [] rises h = refl
none_lower r low (x ∷ xs) rises h =
    let high : r ≤ x.rank = omega (arith, h, rises.0) in
    let off : nat_lt x.rank r ≡ false = grind (arith, nat_tests) in
    let zero' : cond (nat_lt x.rank r) 1 0 ≡ 0 + 0 = ap (λ (b : Bool). cond b 1 0) off in
    omega (arith, zero', none_lower r x.rank xs rises.1 high, sum_by-cons (λ (y : Call). cond (nat_lt y.rank r) 1 0) x xs)

-- ---- merged lists

-- what `put` does, by whether the head of the list is of a lower rank
put_low : (x y : Call) (others : List Call → List Call) (ys : List Call) → y.rank < x.rank → put x others (y ∷ ys) ≡ y ∷ put x others ys
put_low x y others ys h =
    let on : nat_lt y.rank x.rank ≡ true = grind (arith, nat_tests) in
    ap (λ (b : Bool). if b then y ∷ put x others ys else x ∷ others (y ∷ ys)) on

put_high : (x y : Call) (others : List Call → List Call) (ys : List Call) → x.rank ≤ y.rank → put x others (y ∷ ys) ≡ x ∷ others (y ∷ ys)
put_high x y others ys h =
    let off : nat_lt y.rank x.rank ≡ false = grind (arith, nat_tests) in
    ap (λ (b : Bool). if b then y ∷ put x others ys else x ∷ others (y ∷ ys)) off

pub at_suc : (xs ys : List Call) (x y : Call) (k j : ℕ) → xs ≡ x ∷ ys → k ≡ suc j → slice_get ys j ≡ Some y → slice_get xs k ≡ Some y
at_suc xs ys x y k j e f there = ap (λ (z : List Call). slice_get z k) e ∙ ap (slice_get (x ∷ ys)) f ∙ there

pub at_zero : (xs ys : List Call) (x y : Call) (k : ℕ) → xs ≡ x ∷ ys → k ≡ 0 → x ≡ y → slice_get xs k ≡ Some y
at_zero xs ys x y k e f same = ap (λ (z : List Call). slice_get z k) e ∙ ap (slice_get (x ∷ ys)) f ∙ ap Some same

-- where a call of the first list stands
put_first : (x0 : Call) (others : List Call → List Call) (xs : List Call) (ys : List Call) (low : ℕ) (c : ℕ) (x : Call) → Rising low ys → Rising x0.rank xs → slice_get (x0 ∷ xs) c ≡ Some x
    → ((zs : List Call) (k : ℕ) (e : ℕ) → Rising k zs → slice_get xs e ≡ Some x → slice_get (others zs) (e + lower x.rank zs) ≡ Some x)
    → slice_get (put x0 others ys) (c + lower x.rank ys) ≡ Some x
put_first x0 others xs [] low zero x rises_y rises_x there rest = there
put_first x0 others xs [] low (suc c) x rises_y rises_x there rest =
    at_suc (x0 ∷ others []) (others []) x0 x (suc c + lower x.rank []) (c + lower x.rank []) refl (omega arith) (rest [] low c tt there)
put_first x0 others xs (y ∷ ys) low c x rises_y rises_x there rest =
    elim (cases_lt y.rank x0.rank) [
      | inl below ↦
          let high : x0.rank ≤ x.rank = rising_low x0.rank (x0 ∷ xs) c x (omega arith, rises_x) there in
          at_suc _ _ y x (c + lower x.rank (y ∷ ys)) (c + lower x.rank ys) (put_low x0 y others ys below) (omega (arith, one_lower x.rank y ys (omega (arith, below, high))))
          (put_first x0 others xs ys y.rank c x rises_y.1 rises_x there rest)
      | inr above ↦ placed c there above
    ]
  where
    placed : (c : ℕ) → slice_get (x0 ∷ xs) c ≡ Some x → x0.rank ≤ y.rank → slice_get (put x0 others (y ∷ ys)) (c + lower x.rank (y ∷ ys)) ≡ Some x
    placed zero there above =
        let same : x0 ≡ x = same_Some x0 x there in
        at_zero _ _ x0 x (0 + lower x.rank (y ∷ ys)) (put_high x0 y others ys above)
        (let none = none_lower x.rank x0.rank (y ∷ ys) (above, rises_y.1) (omega (arith, ap (λ (z : Call). z.rank) same)) in omega (arith, none)) same
    placed (suc c) there above =
        at_suc _ _ x0 x (suc c + lower x.rank (y ∷ ys)) (c + lower x.rank (y ∷ ys)) (put_high x0 y others ys above) (omega arith) (rest (y ∷ ys) low c rises_y there)

merge_first : (xs ys : List Call) (low less : ℕ) (c : ℕ) (x : Call) → Rising low xs → Rising less ys → slice_get xs c ≡ Some x → slice_get (merge xs ys) (c + lower x.rank ys) ≡ Some x
merge_first [] ys low less c x rises_x rises_y there = absurd (cc)
merge_first (x0 ∷ xs) ys low less c x rises_x rises_y there =
    put_first x0 (merge xs) xs ys less c x rises_y rises_x.1 there (λ zs k e rises at_e. merge_first xs zs x0.rank k e x rises_x.1 rises at_e)

-- where a call of the second list stands
put_second : (x0 : Call) (others : List Call → List Call) (xs : List Call) (ys : List Call) (low : ℕ) (d : ℕ) (y : Call) → Rising low ys → Rising x0.rank xs → slice_get ys d ≡ Some y
    → ((zs : List Call) (k : ℕ) (e : ℕ) → Rising k zs → slice_get zs e ≡ Some y → slice_get (others zs) (e + lower (y.rank + 1) xs) ≡ Some y)
    → slice_get (put x0 others ys) (d + lower (y.rank + 1) (x0 ∷ xs)) ≡ Some y
put_second x0 others xs [] low d y rises_y rises_x there rest = absurd (cc)
put_second x0 others xs (y0 ∷ ys) low d y rises_y rises_x there rest =
    elim (cases_lt y0.rank x0.rank) [
      | inl below ↦ placed (λ e at_e. put_second x0 others xs ys y0.rank e y rises_y.1 rises_x at_e rest) d there below
      | inr above ↦
          let high : y0.rank ≤ y.rank = rising_low y0.rank (y0 ∷ ys) d y (omega arith, rises_y.1) there in
          at_suc _ _ x0 y (d + lower (y.rank + 1) (x0 ∷ xs)) (d + lower (y.rank + 1) xs) (put_high x0 y0 others ys above) (omega (arith, one_lower (y.rank + 1) x0 xs (omega (arith, above, high))))
          (rest (y0 ∷ ys) low d rises_y there)
    ]
  where
    placed : ((e : ℕ) → slice_get ys e ≡ Some y → slice_get (put x0 others ys) (e + lower (y.rank + 1) (x0 ∷ xs)) ≡ Some y) → (d : ℕ) → slice_get (y0 ∷ ys) d ≡ Some y → y0.rank < x0.rank → slice_get (put x0 others (y0 ∷ ys)) (d + lower (y.rank + 1) (x0 ∷ xs)) ≡ Some y
    placed behind zero there below =
        let same : y0 ≡ y = same_Some y0 y there in
        at_zero _ _ y0 y (0 + lower (y.rank + 1) (x0 ∷ xs)) (put_low x0 y0 others ys below)
        (let none = none_lower (y.rank + 1) x0.rank (x0 ∷ xs) (omega arith, rises_x) (omega (arith, below, ap (λ (z : Call). z.rank) same)) in omega (arith, none)) same
    placed behind (suc d) there below =
        at_suc _ _ y0 y (suc d + lower (y.rank + 1) (x0 ∷ xs)) (d + lower (y.rank + 1) (x0 ∷ xs)) (put_low x0 y0 others ys below) (omega arith) (behind d there)

merge_second : (xs ys : List Call) (low less : ℕ) (d : ℕ) (y : Call) → Rising low xs → Rising less ys → slice_get ys d ≡ Some y → slice_get (merge xs ys) (d + lower (y.rank + 1) xs) ≡ Some y
merge_second [] ys low less d y rises_x rises_y there = ap (slice_get ys) (let e : d + 0 ≡ d = omega arith in e) ∙ there
merge_second (x0 ∷ xs) ys low less d y rises_x rises_y there =
    put_second x0 (merge xs) xs ys less d y rises_y rises_x.1 there (λ zs k e rises at_e. merge_second xs zs x0.rank k e y rises_x.1 rises at_e)

-- how many pass a test
abbrev pub passing : (Call → Bool) → List Call → ℕ
passing test xs = count_by test xs

pub passing_cons : (test : Call → Bool) (x : Call) (xs : List Call) → passing test (x ∷ xs) ≡ cond (test x) 1 0 + passing test xs
passing_cons test x xs = sum_by-cons (λ (y : Call). cond (test y) 1 0) x xs

put_count : (test : Call → Bool) (x : Call) (others : List Call → List Call) (ys : List Call) (n : ℕ) → ((zs : List Call) → passing test (others zs) ≡ n + passing test zs) → passing test (put x others ys) ≡ (cond (test x) 1 0 + n) + passing test ys
put_count test x others [] n rest = omega (arith, passing_cons test x (others []), rest [])
put_count test x others (y ∷ ys) n rest =
    elim (cases_lt y.rank x.rank) [
      | inl below ↦
          let e : passing test (put x others (y ∷ ys)) ≡ passing test (y ∷ put x others ys) = ap (passing test) (put_low x y others ys below) in
          omega (arith, e, passing_cons test y (put x others ys), passing_cons test y ys, put_count test x others ys n rest)
      | inr above ↦
          let e : passing test (put x others (y ∷ ys)) ≡ passing test (x ∷ others (y ∷ ys)) = ap (passing test) (put_high x y others ys above) in
          omega (arith, e, passing_cons test x (others (y ∷ ys)), rest (y ∷ ys))
    ]

merge_count : (test : Call → Bool) (xs ys : List Call) → passing test (merge xs ys) ≡ passing test xs + passing test ys
merge_count test [] ys = let none : passing test [] ≡ 0 + 0 = refl in omega (arith, none)
merge_count test (x ∷ xs) ys = omega (arith, put_count test x (merge xs) ys (passing test xs) (merge_count test xs), passing_cons test x xs)

put_rises : (x : Call) (others : List Call → List Call) (ys : List Call) (low : ℕ) → low ≤ x.rank → Rising low ys → ((zs : List Call) → Rising x.rank zs → Rising x.rank (others zs)) → Rising low (put x others ys)
put_rises x others [] low h rises rest = (h, rest [] tt)
put_rises x others (y ∷ ys) low h rises rest =
    elim (cases_lt y.rank x.rank) [
      | inl below ↦ subst (Rising low) (sym (put_low x y others ys below)) (rises.0, put_rises x others ys y.rank (omega (arith, below)) rises.1 rest)
      | inr above ↦ subst (Rising low) (sym (put_high x y others ys above)) (h, rest (y ∷ ys) (omega (arith, above), rises.1))
    ]

merge_rises : (xs ys : List Call) (low : ℕ) → Rising low xs → Rising low ys → Rising low (merge xs ys)
merge_rises [] ys low rises_x rises_y = rises_y
merge_rises (x ∷ xs) ys low rises_x rises_y = put_rises x (merge xs) ys low rises_x.0 rises_y (λ zs rises. merge_rises xs zs x.rank rises_x.1 rises)

-- ---- moved calls

moved_at : (f : Call → Call) (xs : List Call) (c : ℕ) (x : Call) → slice_get xs c ≡ Some x → slice_get (map f xs) c ≡ Some (f x)
moved_at f [] c x there = absurd (cc)
moved_at f (y ∷ ys) zero x there = ap Some (ap f (same_Some y x there))
moved_at f (y ∷ ys) (suc c) x there = moved_at f ys c x there

module _ (shift : Call → ℕ) where
  moved_rises : (low : ℕ) (xs : List Call) → Rising low xs → Rising low (map (λ call. moved_call (shift call) call) xs)
  moved_rises low [] rises = tt
  moved_rises low (x ∷ xs) rises = (rises.0, moved_rises x.rank xs rises.1)

  moved_lower : (r : ℕ) (xs : List Call) → lower r (map (λ call. moved_call (shift call) call) xs) ≡ lower r xs
  moved_lower r [] = refl
  moved_lower r (x ∷ xs) =
      omega (arith, moved_lower r xs, passing_cons (λ call. nat_lt call.rank r) x xs, passing_cons (λ call. nat_lt call.rank r) (moved_call (shift x) x) (map (λ call. moved_call (shift call) call) xs))

pub rises_of : (p : MpiProgram) → IsWellFormed p → Rising 0 p.calls
rises_of p is = order_rises 0 p.calls (λ c x there. omega arith) is.rank_order

module _ (first second : MpiProgram) where
  abbrev shift_first : Call → ℕ
  shift_first call = first_call second call.rank

  abbrev shift_second : Call → ℕ
  shift_second call = first_call first (call.rank + 1)

  abbrev firsts : List Call
  firsts = map (λ call. moved_call (shift_first call) call) first.calls

  abbrev seconds : List Call
  seconds = map (λ call. moved_call (shift_second call) call) second.calls

  join_joined : IsWellFormed first → IsWellFormed second → second.policy ≡ first.policy → second.ranks ≡ first.ranks → IsJoinOf (join first second) first second
  join_joined one two policy ranks =
      record {
        policy_first = refl;
        policy_second = policy;
        ranks_first = refl;
        ranks_second = ranks;
        sizes = λ rank. omega (arith, merge_count (λ call. nat_lt call.rank rank) firsts seconds, moved_lower shift_first rank first.calls, moved_lower shift_second rank second.calls);
        firsts = λ c call there.
            subst (λ (z : ℕ). slice_get (merge firsts seconds) (c + z) ≡ Some (moved_call (first_call second call.rank) call)) (moved_lower shift_second call.rank second.calls)
            (merge_first firsts seconds 0 0 c (moved_call (first_call second call.rank) call) rises_first rises_second (moved_at (λ x. moved_call (shift_first x) x) first.calls c call there));
        seconds = λ c call there.
            subst (λ (z : ℕ). slice_get (merge firsts seconds) (c + z) ≡ Some (moved_call (first_call first (call.rank + 1)) call)) (moved_lower shift_first (call.rank + 1) first.calls)
            (merge_second firsts seconds 0 0 c (moved_call (first_call first (call.rank + 1)) call) rises_first rises_second (moved_at (λ x. moved_call (shift_second x) x) second.calls c call there));
      }
    where
      rises_first : Rising 0 firsts
      rises_first = moved_rises shift_first 0 first.calls (rises_of first one)

      rises_second : Rising 0 seconds
      rises_second = moved_rises shift_second 0 second.calls (rises_of second two)

join_in_order : (first second : MpiProgram) → IsWellFormed first → IsWellFormed second → InOrder (join first second)
join_in_order first second one two =
    rising_order 0 (join first second).calls
    (merge_rises _ _ 0 (moved_rises (λ call. first_call second call.rank) 0 first.calls (rises_of first one)) (moved_rises (λ call. first_call first (call.rank + 1)) 0 second.calls (rises_of second two)))

-- ---- what is joined is well formed

-- a name moves with its call
abbrev pub MovesNames : (Kind ℕ → Option ℕ) → Type 0
MovesNames names = (d : ℕ) (k : Kind ℕ) → names (moved_kind d k) ≡ option_map (λ o. o + d) (names k)

abbrev pub KeepsTest : (Kind ℕ → Bool) → Type 0
KeepsTest test = (d : ℕ) (k : Kind ℕ) → test (moved_kind d k) ≡ test k

pub operation_moves : MovesNames operation_of
operation_moves d (Wait operation) = refl
operation_moves d kind = refl

pub receive_moves : MovesNames receive_of
receive_moves d (Wait operation) = refl
receive_moves d kind = refl

pub start_keeps : KeepsTest is_start
start_keeps d (Wait operation) = refl
start_keeps d kind = refl

pub matched_receive_keeps : KeepsTest is_matched_receive
matched_receive_keeps d (Wait operation) = refl
matched_receive_keeps d kind = refl

pub name_from : (o : Option ℕ) (d k : ℕ) → option_map (λ z. z + d) o ≡ Some k → (j : ℕ) × (o ≡ Some j) × (k ≡ j + d)
name_from None d k e = absurd (cc)
name_from (Some j) d k e = (j, refl, sym (same_Some (j + d) k e))

module _ (p q : MpiProgram) (moved : ℕ → ℕ) (part : IsPart p q moved) where
  in_range_from : (ranks : ℕ) → p.ranks ≡ ranks → (is : IsWellFormed q) → (c : ℕ) (call : Call) → call_at p c ≡ Some call → IsFrom q moved c → HasRanksBelow ranks call
  in_range_from ranks same is c call there w =
      let e : moved_call (moved w.call.rank) w.call ≡ call = same_Some (moved_call (moved w.call.rank) w.call) call (sym (ap (call_at p) w.is ∙ part.calls w.place w.call w.there) ∙ there) in
      let h = is.in_range w.place w.call w.there in
      subst (λ (z : ℕ). HasRanksBelow z call) (part.ranks ∙ same) (subst (HasRanksBelow q.ranks) e (record {
        own = h.own;
        destination = subst (λ (z : Option Message). IfSome z (λ message. message.destination < q.ranks)) (sym (message_moved (moved w.call.rank) w.call.kind)) h.destination;
        source = subst (λ (z : Option Pattern). IfSome z (λ pattern. IfSome pattern.source (λ rank. rank < q.ranks))) (sym (pattern_moved (moved w.call.rank) w.call.kind)) h.source;
      }))

  module _ (names : Kind ℕ → Option ℕ) (test : Kind ℕ → Bool) (moves : MovesNames names) (keeps : KeepsTest test) (pairing : IsPairing q.calls names test) where
    -- what a call of the part names in the whole
    pub record Named (c o : ℕ) : Type 0 where
      pub place : ℕ
      pub call : Call
      pub there : call_at q place ≡ Some call
      pub is : c ≡ place + moved call.rank
      pub name : ℕ
      pub names_it : names call.kind ≡ Some name
      pub other : Call
      pub at_name : call_at q name ≡ Some other
      pub rank : other.rank ≡ call.rank
      pub passes : test other.kind ≡ true
      pub name_is : o ≡ name + moved other.rank

    named_from : (c o : ℕ) (call : Call) → call_at p c ≡ Some call → names call.kind ≡ Some o → IsFrom q moved c → Named c o
    named_from c o call there e w =
        let same : moved_call (moved w.call.rank) w.call ≡ call = same_Some (moved_call (moved w.call.rank) w.call) call (sym (ap (call_at p) w.is ∙ part.calls w.place w.call w.there) ∙ there) in
        let n = name_from (names w.call.kind) (moved w.call.rank) o (sym (moves (moved w.call.rank) w.call.kind) ∙ ap (λ (z : Call). names z.kind) same ∙ e) in
        let other = pairing.named w.place n.0 w.call w.there n.1 in
        record { place = w.place; call = w.call; there = w.there; is = w.is; name = n.0; names_it = n.1; other = other.0; at_name = other.1; rank = other.2; passes = other.3; name_is = n.2 ∙ ap (λ (z : ℕ). n.0 + moved z) (sym other.2) }

    named_there : (c o : ℕ) (call : Call) → call_at p c ≡ Some call → Named c o → (other : Call) × (call_at p o ≡ Some other) × (other.rank ≡ call.rank) × (test other.kind ≡ true)
    named_there c o call there n =
        let same : moved_call (moved n.call.rank) n.call ≡ call = same_Some (moved_call (moved n.call.rank) n.call) call (sym (ap (call_at p) n.is ∙ part.calls n.place n.call n.there) ∙ there) in
        (moved_call (moved n.other.rank) n.other, ap (call_at p) n.name_is ∙ part.calls n.name n.other n.at_name, n.rank ∙ ap (λ (z : Call). z.rank) same, keeps (moved n.other.rank) n.other.kind ∙ n.passes)

    named_once : (c d o : ℕ) → Named c o → Named d o → c ≡ d
    named_once c d o n k =
        let name : n.name ≡ k.name = one_place p q moved part n.name k.name n.other k.other n.at_name k.at_name (sym n.name_is ∙ k.name_is) in
        let place : n.place ≡ k.place = pairing.once n.place k.place n.name n.call k.call n.there k.there n.names_it (k.names_it ∙ ap Some (sym name)) in
        let call : n.call ≡ k.call = same_Some n.call k.call (sym n.there ∙ ap (call_at q) place ∙ k.there) in
        omega (arith, n.is, k.is, place, ap (λ (z : Call). moved z.rank) call)

    each_named : (o : ℕ) (other : Call) → call_at p o ≡ Some other → test other.kind ≡ true → IsFrom q moved o → (c : ℕ) × (call : Call) × (call_at p c ≡ Some call) × (names call.kind ≡ Some o)
    each_named o other there passes w =
        let same : moved_call (moved w.call.rank) w.call ≡ other = same_Some (moved_call (moved w.call.rank) w.call) other (sym (ap (call_at p) w.is ∙ part.calls w.place w.call w.there) ∙ there) in
        let e = pairing.each w.place w.call w.there (sym (keeps (moved w.call.rank) w.call.kind) ∙ ap (λ (z : Call). test z.kind) same ∙ passes) in
        let n = pairing.named e.0 w.place e.1 e.2 e.3 in
        let twin : n.0 ≡ w.call = same_Some n.0 w.call (sym n.1 ∙ w.there) in
        let rank : e.1.rank ≡ w.call.rank = sym n.2 ∙ ap (λ (z : Call). z.rank) twin in (
          e.0 + moved e.1.rank,
          moved_call (moved e.1.rank) e.1,
          part.calls e.0 e.1 e.2,
          moves (moved e.1.rank) e.1.kind ∙ ap (option_map (λ z. z + moved e.1.rank)) e.3 ∙ ap Some (let sum : w.place + moved e.1.rank ≡ w.place + moved w.call.rank = ap (λ (z : ℕ). w.place + moved z) rank in sum ∙ sym w.is),
        )

  later_from : (is : IsWellFormed q) → (c o : ℕ) (call : Call) → call_at p c ≡ Some call → operation_of call.kind ≡ Some o → IsFrom q moved c → o < c
  later_from is c o call there e w =
      let n = named_from operation_of is_start operation_moves start_keeps is.waits c o call there e w in
      let low = is.waits_later n.place n.name n.call n.there n.names_it in
      omega (arith, low, n.is, n.name_is, ap moved n.rank)

module _ (p first second : MpiProgram) (order : InOrder p) (one : IsWellFormed first) (two : IsWellFormed second) (joined : IsJoinOf p first second) where
  cut : IsCutInTwo p (cut_between first second)
  cut = is_cut p first second order one two joined

  pairing_of : (names : Kind ℕ → Option ℕ) (test : Kind ℕ → Bool) → MovesNames names → KeepsTest test → IsPairing first.calls names test → IsPairing second.calls names test → IsPairing p.calls names test
  pairing_of names test moves keeps pair pair' =
      record {
        named = λ c o call there e. elim (cut.each c call there) [
          | inl w ↦ named_there p first (first_call second) cut.first names test moves keeps pair c o call there (named_from p first (first_call second) cut.first names test moves keeps pair c o call there e w)
          | inr w ↦ named_there p second _ cut.second names test moves keeps pair' c o call there (named_from p second _ cut.second names test moves keeps pair' c o call there e w)
        ];
        once = λ c d o call other at_c at_d e f. once c d o call other at_c at_d e f (cut.each c call at_c) (cut.each d other at_d);
        each = λ o other there passes. elim (cut.each o other there) [
          | inl w ↦ each_named p first (first_call second) cut.first names test moves keeps pair o other there passes w
          | inr w ↦ each_named p second _ cut.second names test moves keeps pair' o other there passes w
        ];
      }
    where
      once : (c d o : ℕ) (call other : Call) → call_at p c ≡ Some call → call_at p d ≡ Some other → names call.kind ≡ Some o → names other.kind ≡ Some o
          → IsFrom first (first_call second) c ⊎ IsFrom second (λ rank. first_call first (rank + 1)) c → IsFrom first (first_call second) d ⊎ IsFrom second (λ rank. first_call first (rank + 1)) d → c ≡ d
      once c d o call other at_c at_d e f (inl w) (inl v) =
          named_once p first (first_call second) cut.first names test moves keeps pair c d o (named_from p first (first_call second) cut.first names test moves keeps pair c o call at_c e w) (named_from p first (first_call second) cut.first names test moves keeps pair d o other at_d f v)
      once c d o call other at_c at_d e f (inr w) (inr v) =
          named_once p second _ cut.second names test moves keeps pair' c d o (named_from p second _ cut.second names test moves keeps pair' c o call at_c e w) (named_from p second _ cut.second names test moves keeps pair' d o other at_d f v)
      once c d o call other at_c at_d e f (inl w) (inr v) =
          let n = named_from p first (first_call second) cut.first names test moves keeps pair c o call at_c e w in
          let k = named_from p second _ cut.second names test moves keeps pair' d o other at_d f v in
          absurd (apart p (cut_between first second) one two cut n.name k.name n.other k.other n.at_name k.at_name (sym n.name_is ∙ k.name_is))
      once c d o call other at_c at_d e f (inr w) (inl v) =
          let n = named_from p second _ cut.second names test moves keeps pair' c o call at_c e w in
          let k = named_from p first (first_call second) cut.first names test moves keeps pair d o other at_d f v in
          absurd (apart p (cut_between first second) one two cut k.name n.name k.other n.other k.at_name n.at_name (sym k.name_is ∙ n.name_is))

  joined_well_formed : IsWellFormed p
  joined_well_formed =
      record {
        rank_order = order;
        in_range = λ c call there. elim (cut.each c call there) [
          | inl w ↦ in_range_from p first (first_call second) cut.first p.ranks refl one c call there w
          | inr w ↦ in_range_from p second _ cut.second p.ranks refl two c call there w
        ];
        waits = pairing_of operation_of is_start operation_moves start_keeps one.waits two.waits;
        waits_later = λ c o call there e. elim (cut.each c call there) [
          | inl w ↦ later_from p first (first_call second) cut.first one c o call there e w
          | inr w ↦ later_from p second _ cut.second two c o call there e w
        ];
        probes = pairing_of receive_of is_matched_receive receive_moves matched_receive_keeps one.probes two.probes;
      }

pub join_is_joined : JoinIsJoined
join_is_joined first second one two policy ranks =
    let joined = join_joined first second one two policy ranks in
    (joined, joined_well_formed (join first second) first second (join_in_order first second one two) one two joined)
