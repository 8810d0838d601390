-- What is sent to and taken at each address, counted in one pass.
use Rattle.std.proofs.Common.{◌≡◌, ◌↔◌, ◌≢◌, ℕ, zero, suc, ◌+◌, ◌<◌, ◌≤◌, ◌⊎◌, inl, inr, Bool, true, false, cond, not, ◌&&◌, ◌==◌, List, [], ◌∷◌, ◌++◌, Option, Some, None, Result, Ok, Err, IfOk, is_some, length, map, take, get_or, slice_get, slice_set, refl, sym, ap, ◌∙◌, subst, arith, length-set, get_or-set_same, get_or-set_other}
use Rattle.std.specs.List.{count_by, list_all}
use Rattle.std.specs.Option.{option_map}
use Rattle.std.proofs.lemmas.Bool.{cases_eq, eqb-true, eq-eqb}
use Rattle.std.proofs.lemmas.List.{take_more, length-map, length-take-le}
use Rattle.std.proofs.lemmas.List.Sums.{sum_by-append, sum_by-cons, count_by-le-length}
use Rattle.std.proofs.lemmas.Option.{same_Some, slice_get_within, slice_get-map, slice_get-get_or, get_or_from_slice_get}
use Rattle.calltext.proofs.Conjunctions.{and_true, and_both}
use Rattle.interning.specs.Places.{IsNumbering}
use Rattle.callorder.specs.declared.calls.Call.{Call}
use Rattle.callorder.specs.declared.calls.Kind.{Kind}
use Rattle.callorder.specs.declared.calls.Kind.TheVariants.{Send, Receive, MatchedProbe, Probe, MatchedReceive, Wait}
use Rattle.callorder.specs.declared.calls.Pattern.{Pattern}
use Rattle.callorder.specs.Calls.{message_of, pattern_of, is_probe_kind}
use Rattle.callorder.specs.Programs.{MpiProgram}
use Rattle.phases.specs.declared.leaving.Address.{Address}
use Rattle.phases.specs.declared.leaving.Traffic.{Traffic}
use Rattle.phases.specs.Conditions.{goes_to, finds_on, is_send_to, is_taker_at, LeavesNothing}
use Rattle.phases.specs.parts.Traffic.{address_of, address_sent, is_even, is_even_at, AreNumbers, AreTraffic, IsTraffic}

-- ---- equal addresses

abbrev address_at : ℕ → ℕ → Address
address_at communicator rank = record { rank = rank; communicator = communicator }

abbrev same_address : Address → Address → Bool
same_address a b = a.rank == b.rank && a.communicator == b.communicator

both_parts : (a b : Address) → a.rank ≡ b.rank → a.communicator ≡ b.communicator → a ≡ b
both_parts a b r k = ap (address_at a.communicator) r ∙ ap (λ (c : ℕ). address_at c b.rank) k

pub are_numbers : (test : Address → Address → Bool) → ((a b : Address) → test a b ≡ same_address a b) → (names : List (Option Address)) (numbers : List (Option ℕ)) → IsNumbering test names numbers → AreNumbers names numbers
are_numbers test is names numbers n =
    record {
      test = test;
      tests = λ a b. (λ on. same a b (sym (is a b) ∙ on), λ e. is a b ∙ alike a b e);
      numbering = n;
    }
  where
    same : (a b : Address) → same_address a b ≡ true → a ≡ b
    same a b on =
        let w = and_true (a.rank == b.rank) (a.communicator == b.communicator) on in
        both_parts a b (eqb-true a.rank b.rank w.0) (eqb-true a.communicator b.communicator w.1)

    alike : (a b : Address) → a ≡ b → same_address a b ≡ true
    alike a b e =
        and_both (a.rank == b.rank) (a.communicator == b.communicator) (eq-eqb a.rank b.rank (ap (λ (z : Address). z.rank) e)) (eq-eqb a.communicator b.communicator (ap (λ (z : Address). z.communicator) e))

pub ok_more : {A E : Type 0} (r : Result A E) (P Q : A → Type 0) → ((x : A) → P x → Q x) → IfOk r P → IfOk r Q
ok_more (Ok x) P Q f h = f x h
ok_more (Err e) P Q f h = tt

-- ---- what a call does at an address

abbrev takes_at : ℕ → ℕ → ℕ → Kind ℕ → Bool
takes_at rank communicator own kind = (own == rank && finds_on communicator (pattern_of kind)) && not (is_probe_kind kind)

never : (b : Bool) → (b && false) ≡ false
never true = refl
never false = refl

no_pattern : (b c : Bool) → ((b && false) && c) ≡ false
no_pattern true c = refl
no_pattern false c = refl

pub unless : (b : Bool) → (b ≡ true → ⊥) → b ≡ false
unless true h = absurd (h refl)
unless false h = refl

sends_here : (own : ℕ) (kind : Kind ℕ) (a : Address) → address_sent own kind (message_of kind) ≡ Some a → is_some (message_of kind) ≡ true → (goes_to a.rank a.communicator (message_of kind) ≡ true) × (takes_at a.rank a.communicator own kind ≡ false)
sends_here own (Send mode blocking message) a e on =
    let s = same_Some (address_at message.communicator message.destination) a e in (
      and_both (message.destination == a.rank) (message.communicator == a.communicator) (eq-eqb message.destination a.rank (ap (λ (z : Address). z.rank) s)) (eq-eqb message.communicator a.communicator (ap (λ (z : Address). z.communicator) s)),
      no_pattern (own == a.rank) true,
    )
sends_here own (Receive blocking pattern) a e on = absurd (cc)
sends_here own (MatchedProbe pattern receive) a e on = absurd (cc)
sends_here own (Probe pattern) a e on = absurd (cc)
sends_here own (MatchedReceive blocking) a e on = absurd (cc)
sends_here own (Wait operation) a e on = absurd (cc)

-- a taker of this pattern is at this address
here : (own : ℕ) (pattern : Pattern) (a : Address) → Some (address_at pattern.communicator own) ≡ Some a → ((own == a.rank && pattern.communicator == a.communicator) && true) ≡ true
here own pattern a e =
    let s = same_Some (address_at pattern.communicator own) a e in
    and_both (own == a.rank && pattern.communicator == a.communicator) true
    (and_both (own == a.rank) (pattern.communicator == a.communicator) (eq-eqb own a.rank (ap (λ (z : Address). z.rank) s)) (eq-eqb pattern.communicator a.communicator (ap (λ (z : Address). z.communicator) s))) refl

takes_here : (own : ℕ) (kind : Kind ℕ) (a : Address) → address_sent own kind (message_of kind) ≡ Some a → is_some (message_of kind) ≡ false → (goes_to a.rank a.communicator (message_of kind) ≡ false) × (takes_at a.rank a.communicator own kind ≡ true)
takes_here own (Receive blocking pattern) a e off = (refl, here own pattern a e)
takes_here own (MatchedProbe pattern receive) a e off = (refl, here own pattern a e)
takes_here own kind a e off = absurd (cc)

-- a taker of this pattern is at no other address
not_here : (own : ℕ) (pattern : Pattern) (a : Address) → (Some (address_at pattern.communicator own) ≡ Some a → ⊥) → ((own == a.rank && pattern.communicator == a.communicator) && true) ≡ false
not_here own pattern a elsewhere = unless ((own == a.rank && pattern.communicator == a.communicator) && true) (λ on.
    let w = and_true (own == a.rank) (pattern.communicator == a.communicator) (and_true (own == a.rank && pattern.communicator == a.communicator) true on).0 in
    elsewhere (ap Some (both_parts (address_at pattern.communicator own) a (eqb-true own a.rank w.0) (eqb-true pattern.communicator a.communicator w.1))))

nothing_here : (own : ℕ) (kind : Kind ℕ) (a : Address) → (address_sent own kind (message_of kind) ≡ Some a → ⊥) → (goes_to a.rank a.communicator (message_of kind) ≡ false) × (takes_at a.rank a.communicator own kind ≡ false)
nothing_here own (Send mode blocking message) a elsewhere = (
  unless (message.destination == a.rank && message.communicator == a.communicator) (λ on.
      let w = and_true (message.destination == a.rank) (message.communicator == a.communicator) on in
      elsewhere (ap Some (both_parts (address_at message.communicator message.destination) a (eqb-true message.destination a.rank w.0) (eqb-true message.communicator a.communicator w.1)))),
  no_pattern (own == a.rank) true,
)
nothing_here own (Receive blocking pattern) a elsewhere = (refl, not_here own pattern a elsewhere)
nothing_here own (MatchedProbe pattern receive) a elsewhere = (refl, not_here own pattern a elsewhere)
nothing_here own (Probe pattern) a elsewhere = (refl, never (own == a.rank && pattern.communicator == a.communicator))
nothing_here own (MatchedReceive blocking) a elsewhere = (refl, no_pattern (own == a.rank) true)
nothing_here own (Wait operation) a elsewhere = (refl, no_pattern (own == a.rank) true)

-- ---- one more call

pub one_more : (test : Call → Bool) (calls : List Call) (call : Call) → test call ≡ true → count_by test (calls ++ call ∷ []) ≡ count_by test calls + 1
one_more test calls call on =
    let all = sum_by-append (λ (z : Call). cond (test z) 1 0) calls (call ∷ []) in
    let one = sum_by-cons (λ (z : Call). cond (test z) 1 0) call [] in
    let last : cond (test call) 1 0 ≡ 1 + 0 = ap (λ (b : Bool). cond b 1 0) on in
    let none : count_by test [] ≡ 0 = refl in
    omega (arith, all, one, last, none)

pub no_more : (test : Call → Bool) (calls : List Call) (call : Call) → test call ≡ false → count_by test (calls ++ call ∷ []) ≡ count_by test calls
no_more test calls call off =
    let all = sum_by-append (λ (z : Call). cond (test z) 1 0) calls (call ∷ []) in
    let one = sum_by-cons (λ (z : Call). cond (test z) 1 0) call [] in
    let last : cond (test call) 1 0 ≡ 0 + 0 = ap (λ (b : Bool). cond b 1 0) off in
    let none : count_by test [] ≡ 0 = refl in
    omega (arith, all, one, last, none)

pub sent_more : (calls : List Call) (call : Call) (a : Address) (traffic : Traffic) → address_of call ≡ Some a → is_some (message_of call.kind) ≡ true → IsTraffic calls a traffic → IsTraffic (calls ++ call ∷ []) a (record { sent = traffic.sent + 1; taken = traffic.taken })
sent_more calls call a traffic at sends is =
    let w = sends_here call.rank call.kind a at sends in
    record {
      sent = ap (λ (n : ℕ). n + 1) is.sent ∙ sym (one_more (is_send_to a.rank a.communicator) calls call w.0);
      taken = is.taken ∙ sym (no_more (is_taker_at a.rank a.communicator) calls call w.1);
    }

pub taken_more : (calls : List Call) (call : Call) (a : Address) (traffic : Traffic) → address_of call ≡ Some a → is_some (message_of call.kind) ≡ false → IsTraffic calls a traffic → IsTraffic (calls ++ call ∷ []) a (record { sent = traffic.sent; taken = traffic.taken + 1 })
taken_more calls call a traffic at takes is =
    let w = takes_here call.rank call.kind a at takes in
    record {
      sent = is.sent ∙ sym (no_more (is_send_to a.rank a.communicator) calls call w.0);
      taken = ap (λ (n : ℕ). n + 1) is.taken ∙ sym (one_more (is_taker_at a.rank a.communicator) calls call w.1);
    }

other_more : (calls : List Call) (call : Call) (a : Address) (traffic : Traffic) → IsTraffic calls a traffic → (address_of call ≡ Some a → ⊥) → IsTraffic (calls ++ call ∷ []) a traffic
other_more calls call a traffic is elsewhere =
    let w = nothing_here call.rank call.kind a elsewhere in
    record {
      sent = is.sent ∙ sym (no_more (is_send_to a.rank a.communicator) calls call w.0);
      taken = is.taken ∙ sym (no_more (is_taker_at a.rank a.communicator) calls call w.1);
    }

-- ---- a step of the table

pub item_there : {X : Type 0} (xs : List X) (i : ℕ) → i < length xs → (x : X) × (slice_get xs i ≡ Some x)
item_there [] i below = absurd (omega (arith, below))
item_there (x ∷ xs) zero below = (x, refl)
item_there (x ∷ xs) (suc i) below = item_there xs i (omega (arith, below))

set_here : {X : Type 0} (xs : List X) (i : ℕ) (x : X) → i < length xs → slice_get (slice_set xs i x) i ≡ Some x
set_here xs i x below =
    slice_get-get_or (slice_set xs i x) i x (let size : length (slice_set xs i x) ≡ length xs = length-set xs i x in omega (arith, size, below)) ∙
    ap Some (get_or-set_same xs i x x below)

set_elsewhere : {X : Type 0} (xs : List X) (i k : ℕ) (x y : X) → k ≢ i → slice_get (slice_set xs i x) k ≡ Some y → slice_get xs k ≡ Some y
set_elsewhere xs i k x y differ h =
    let size : length (slice_set xs i x) ≡ length xs = length-set xs i x in
    let inside = slice_get_within (slice_set xs i x) k y h in
    slice_get-get_or xs k y (omega (arith, size, inside)) ∙
    ap Some (sym (get_or-set_other xs i k x y differ) ∙ get_or_from_slice_get (slice_set xs i x) k y y h)

front : (calls : List Call) (place : ℕ) (call : Call) → slice_get calls place ≡ Some call → take (place + 1) calls ≡ take place calls ++ call ∷ []
front calls place call there =
    take_more calls place call (slice_get_within calls place call there) ∙
    ap (λ (z : Call). take place calls ++ z ∷ []) (get_or_from_slice_get calls place call call there)

name_there : (calls : List Call) (place : ℕ) (call : Call) → slice_get calls place ≡ Some call → slice_get (map address_of calls) place ≡ Some (address_of call)
name_there calls place call there = slice_get-map address_of calls place ∙ ap (λ (o : Option Call). option_map address_of o) there

-- the address of a call that has a number
own_address : (calls : List Call) (numbers : List (Option ℕ)) (place number : ℕ) (call : Call) → AreNumbers (map address_of calls) numbers → slice_get calls place ≡ Some call → slice_get numbers place ≡ Some (Some number) → (o : Option Address) → address_of call ≡ o → (a : Address) × (address_of call ≡ Some a)
own_address calls numbers place number call n there num None is = absurd (let e = n.numbering.unnamed place (name_there calls place call there ∙ ap Some is) in cc)
own_address calls numbers place number call n there num (Some a) is = (a, is)

unnumbered : (calls : List Call) (numbers : List (Option ℕ)) (table : List Traffic) (place : ℕ) (call : Call) → AreNumbers (map address_of calls) numbers → AreTraffic (take place calls) (map address_of calls) numbers table → slice_get calls place ≡ Some call → slice_get numbers place ≡ Some None → AreTraffic (take (place + 1) calls) (map address_of calls) numbers table
unnumbered calls numbers table place call n are there none =
    record {
      size = are.size;
      each = λ c number a traffic at num is. subst (λ (z : List Call). IsTraffic z a traffic) (sym (front calls place call there))
          (other_more (take place calls) call a traffic (are.each c number a traffic at num is)
          (λ own. let w = n.numbering.named place a (name_there calls place call there ∙ ap Some own) in let e = w.1 in cc));
    }

numbered : (calls : List Call) (numbers : List (Option ℕ)) (table : List Traffic) (place : ℕ) (call : Call) (number : ℕ) (old new : Traffic) → AreNumbers (map address_of calls) numbers → AreTraffic (take place calls) (map address_of calls) numbers table → slice_get calls place ≡ Some call → slice_get numbers place ≡ Some (Some number) → slice_get table number ≡ Some old → ((some : List Call) (a : Address) → address_of call ≡ Some a → IsTraffic some a old → IsTraffic (some ++ call ∷ []) a new) → AreTraffic (take (place + 1) calls) (map address_of calls) numbers (slice_set table number new)
numbered calls numbers table place call number old new n are there num held more =
    record {
      size = length-set table number new ∙ are.size;
      each = λ c m a traffic at at_number is. subst (λ (z : List Call). IsTraffic z a traffic) (sym (front calls place call there)) (each c m a traffic at at_number is);
    }
  where
    same : (c m : ℕ) (a : Address) → slice_get (map address_of calls) c ≡ Some (Some a) → slice_get numbers c ≡ Some (Some m) → (m ≡ number) ↔ (address_of call ≡ Some a)
    same c m a at at_number =
        let own = own_address calls numbers place number call n there num (address_of call) refl in
        let tests = n.tests a own.0 in
        let both = n.numbering.same c place a own.0 m number at (name_there calls place call there ∙ ap Some own.1) at_number num in
        (λ e. own.1 ∙ ap Some (sym (tests.0 (both.0 e))), λ e. both.1 (tests.1 (let f : a ≡ own.0 = cc (e, own.1) in f)))

    each : (c m : ℕ) (a : Address) (traffic : Traffic) → slice_get (map address_of calls) c ≡ Some (Some a) → slice_get numbers c ≡ Some (Some m) → slice_get (slice_set table number new) m ≡ Some traffic → IsTraffic (take place calls ++ call ∷ []) a traffic
    each c m a traffic at at_number is =
        elim (cases_eq m number) [
          | inl e ↦
              let now : slice_get (slice_set table number new) m ≡ Some new = ap (slice_get (slice_set table number new)) e ∙ set_here table number new (slice_get_within table number old held) in
              let f : new ≡ traffic = cc in
              subst (λ (z : Traffic). IsTraffic (take place calls ++ call ∷ []) a z) f
              (more (take place calls) a ((same c m a at at_number).0 e) (are.each c m a old at at_number (ap (slice_get table) e ∙ held)))
          | inr differ ↦
              other_more (take place calls) call a traffic (are.each c m a traffic at at_number (set_elsewhere table number m new traffic differ is))
              (λ own. differ ((same c m a at at_number).1 own))
        ]

pub unnumbered_at : (calls : List Call) (numbers : List (Option ℕ)) (table : List Traffic) (place : ℕ) → AreNumbers (map address_of calls) numbers → AreTraffic (take place calls) (map address_of calls) numbers table → place < length numbers → get_or numbers place None ≡ None → AreTraffic (take (place + 1) calls) (map address_of calls) numbers table
unnumbered_at calls numbers table place n are below none =
    let at = item_there calls place (omega (arith, below, n.numbering.size, length-map calls address_of)) in
    unnumbered calls numbers table place at.0 n are at.1 (slice_get-get_or numbers place None below ∙ ap Some none)

pub numbered_at : (calls : List Call) (numbers : List (Option ℕ)) (table : List Traffic) (place : ℕ) (d : Call) (number : ℕ) (old new : Traffic) → AreNumbers (map address_of calls) numbers → AreTraffic (take place calls) (map address_of calls) numbers table → place < length numbers → get_or numbers place None ≡ Some number → old ≡ get_or table number old → ((some : List Call) (a : Address) → address_of (get_or calls place d) ≡ Some a → IsTraffic some a old → IsTraffic (some ++ get_or calls place d ∷ []) a new) → AreTraffic (take (place + 1) calls) (map address_of calls) numbers (slice_set table number new)
numbered_at calls numbers table place d number old new n are below num held more =
    let num_there : slice_get numbers place ≡ Some (Some number) = slice_get-get_or numbers place None below ∙ ap Some num in
    numbered calls numbers table place (get_or calls place d) number old new n are
    (slice_get-get_or calls place d (omega (arith, below, n.numbering.size, length-map calls address_of)))
    num_there
    (slice_get-get_or table number old (omega (arith, are.size, n.numbering.below place number num_there)) ∙ ap Some (sym held))
    more

-- no more than there are calls
pub few_so_far : (calls : List Call) (numbers : List (Option ℕ)) (table : List Traffic) (place number : ℕ) (old : Traffic) → AreNumbers (map address_of calls) numbers → AreTraffic (take place calls) (map address_of calls) numbers table → place < length numbers → get_or numbers place None ≡ Some number → old ≡ get_or table number old → (old.sent ≤ place) × (old.taken ≤ place)
few_so_far calls numbers table place number old n are below num held =
    let at = item_there calls place (omega (arith, below, n.numbering.size, length-map calls address_of)) in
    let num_there : slice_get numbers place ≡ Some (Some number) = slice_get-get_or numbers place None below ∙ ap Some num in
    let own = own_address calls numbers place number at.0 n at.1 num_there (address_of at.0) refl in
    let is = are.each place number own.0 old (name_there calls place at.0 at.1 ∙ ap Some own.1) num_there (slice_get-get_or table number old (omega (arith, are.size, n.numbering.below place number num_there)) ∙ ap Some (sym held)) in
    let size = length-take-le place calls (omega (arith, below, n.numbering.size, length-map calls address_of)) in (
      omega (arith, is.sent, size, count_by-le-length (is_send_to own.0.rank own.0.communicator) (take place calls)),
      omega (arith, is.taken, size, count_by-le-length (is_taker_at own.0.rank own.0.communicator) (take place calls)),
    )

-- ---- what the table tells

all_there : {X : Type 0} (test : X → Bool) (xs : List X) → list_all test xs ≡ true → (c : ℕ) (x : X) → slice_get xs c ≡ Some x → test x ≡ true
all_there test [] h c x there = absurd (cc)
all_there test (y ∷ ys) h zero x there = ap test (sym (same_Some y x there)) ∙ (and_true (test y) (list_all test ys) h).0
all_there test (y ∷ ys) h (suc c) x there = all_there test ys (and_true (test y) (list_all test ys) h).1 c x there

all_made : {X : Type 0} (test : X → Bool) (xs : List X) → ((c : ℕ) (x : X) → slice_get xs c ≡ Some x → test x ≡ true) → list_all test xs ≡ true
all_made test [] each = refl
all_made test (y ∷ ys) each = and_both (test y) (list_all test ys) (each 0 y refl) (all_made test ys (λ c x there. each (suc c) x there))

-- where a test is passed by some, one of them is there
some_there : (test : Call → Bool) (xs : List Call) → (count_by test xs ≡ 0) ⊎ ((c : ℕ) × (x : Call) × (slice_get xs c ≡ Some x) × (test x ≡ true))
some_there test [] = inl refl
some_there test (y ∷ ys) = by (test y) refl (some_there test ys)
  where
    by : (b : Bool) → test y ≡ b → (count_by test ys ≡ 0) ⊎ ((c : ℕ) × (x : Call) × (slice_get ys c ≡ Some x) × (test x ≡ true)) → (count_by test (y ∷ ys) ≡ 0) ⊎ ((c : ℕ) × (x : Call) × (slice_get (y ∷ ys) c ≡ Some x) × (test x ≡ true))
    by true e rest = inr (0, y, refl, e)
    by false e (inr w) = inr (suc w.0, w.1, w.2, w.3)
    by false e (inl none) =
        let off : cond (test y) 1 0 ≡ 0 + 0 = ap (λ (b : Bool). cond b 1 0) e in
        inl (omega (arith, off, none, sum_by-cons (λ (z : Call). cond (test z) 1 0) y ys))

-- a call that sends to an address, or takes there, has it
busy : (call : Call) (a : Address) → (is_send_to a.rank a.communicator call ≡ true) ⊎ (is_taker_at a.rank a.communicator call ≡ true) → (o : Option Address) → address_of call ≡ o → (o ≡ Some a → ⊥) → ⊥
busy call a acts o is elsewhere =
    let w = nothing_here call.rank call.kind a (λ own. elsewhere (sym is ∙ own)) in
    elim acts [
      | inl sends ↦ cc
      | inr takes ↦ cc
    ]

has_address : (call : Call) (a : Address) → (is_send_to a.rank a.communicator call ≡ true) ⊎ (is_taker_at a.rank a.communicator call ≡ true) → address_of call ≡ Some a
has_address call a acts = by (address_of call) refl
  where
    by : (o : Option Address) → address_of call ≡ o → address_of call ≡ Some a
    by None is = absurd (busy call a acts None is (λ e. cc))
    by (Some b) is = elim (cases_eq b.rank a.rank) [
      | inl r ↦ elim (cases_eq b.communicator a.communicator) [
        | inl k ↦ is ∙ ap Some (both_parts b a r k)
        | inr differ ↦ absurd (busy call a acts (Some b) is (λ e. differ (ap (λ (z : Address). z.communicator) (same_Some b a e))))
      ]
      | inr differ ↦ absurd (busy call a acts (Some b) is (λ e. differ (ap (λ (z : Address). z.rank) (same_Some b a e))))
    ]

pub leaves_nothing_as : (p : MpiProgram) (numbers : List (Option ℕ)) (table : List Traffic) → AreNumbers (map address_of p.calls) numbers → AreTraffic p.calls (map address_of p.calls) numbers table → (list_all (is_even_at table) numbers ≡ true) ↔ LeavesNothing p
leaves_nothing_as p numbers table n are = (even, all)
  where
    traffic_there : (c number : ℕ) → slice_get numbers c ≡ Some (Some number) → (t : Traffic) × (slice_get table number ≡ Some t)
    traffic_there c number num = item_there table number (omega (arith, are.size, n.numbering.below c number num))

    even_here : list_all (is_even_at table) numbers ≡ true → (a : Address) (c : ℕ) (call : Call) → slice_get p.calls c ≡ Some call → address_of call ≡ Some a → count_by (is_send_to a.rank a.communicator) p.calls ≡ count_by (is_taker_at a.rank a.communicator) p.calls
    even_here on a c call there own =
        let name = name_there p.calls c call there ∙ ap Some own in
        let num = n.numbering.named c a name in
        let t = traffic_there c num.0 num.1 in
        let is = are.each c num.0 a t.0 name num.1 t.1 in
        let same = eqb-true t.0.sent t.0.taken (sym (ap is_even t.1) ∙ all_there (is_even_at table) numbers on c (Some num.0) num.1) in
        sym is.sent ∙ same ∙ is.taken

    even : list_all (is_even_at table) numbers ≡ true → LeavesNothing p
    even on rank communicator =
        let a = address_at communicator rank in
        elim (some_there (is_send_to rank communicator) p.calls) [
          | inr w ↦ even_here on a w.0 w.1 w.2 (has_address w.1 a (inl w.3))
          | inl none ↦ elim (some_there (is_taker_at rank communicator) p.calls) [
            | inr w ↦ even_here on a w.0 w.1 w.2 (has_address w.1 a (inr w.3))
            | inl neither ↦ none ∙ sym neither
          ]
        ]

    one : LeavesNothing p → (c : ℕ) (o : Option ℕ) → slice_get numbers c ≡ Some o → is_even_at table o ≡ true
    one nothing c None num = refl
    one nothing c (Some number) num =
        let call = item_there p.calls c (omega (arith, slice_get_within numbers c (Some number) num, n.numbering.size, length-map p.calls address_of)) in
        let own = own_address p.calls numbers c number call.0 n call.1 num (address_of call.0) refl in
        let t = traffic_there c number num in
        let is = are.each c number own.0 t.0 (name_there p.calls c call.0 call.1 ∙ ap Some own.1) num t.1 in
        ap is_even t.1 ∙ eq-eqb t.0.sent t.0.taken (is.sent ∙ nothing own.0.rank own.0.communicator ∙ sym is.taken)

    all : LeavesNothing p → list_all (is_even_at table) numbers ≡ true
    all nothing = all_made (is_even_at table) numbers (one nothing)

-- a number is a place of the table
pub number_below : (calls : List Call) (numbers : List (Option ℕ)) (table : List Traffic) (place number : ℕ) → AreNumbers (map address_of calls) numbers → AreTraffic (take place calls) (map address_of calls) numbers table → place < length numbers → get_or numbers place None ≡ Some number → number < length table
number_below calls numbers table place number n are below num =
    omega (arith, are.size, n.numbering.below place number (slice_get-get_or numbers place None below ∙ ap Some num))

pub leaves_nothing_told : (p : MpiProgram) (calls : List Call) (names : List (Option Address)) (numbers : List (Option ℕ)) (table : List Traffic) (told : Bool) → calls ≡ p.calls → names ≡ map address_of calls → AreNumbers names numbers → AreTraffic calls (map address_of calls) numbers table → told ≡ list_all (is_even_at table) numbers → (told ≡ true) ↔ LeavesNothing p
leaves_nothing_told p calls names numbers table told same named n are is =
    let w =
    leaves_nothing_as p numbers table (subst (λ (z : List (Option Address)). AreNumbers z numbers) (named ∙ ap (map address_of) same) n)
    (subst (λ (z : List Call). AreTraffic z (map address_of z) numbers table) same are) in
    (λ on. w.0 (sym is ∙ on), λ nothing. is ∙ w.1 nothing)

pub all_numbered : (calls : List Call) (numbers : List (Option ℕ)) → AreNumbers (map address_of calls) numbers → length numbers ≡ length calls
all_numbered calls numbers n = n.numbering.size ∙ length-map calls address_of
