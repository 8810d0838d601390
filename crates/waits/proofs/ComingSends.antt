-- Which ranks have sends to a rank that aren't issued.
use Rattle.std.proofs.Common.{◌≡◌, ℕ, zero, suc, ◌+◌, ◌-◌, ◌<◌, ◌≤◌, ◌⊎◌, inl, inr, IsTrue, List, [], ◌∷◌, ◌++◌, Option, Some, None, length, get_or, slice_get, refl, sym, ◌∙◌, ap, subst, ◌↔◌, arith, false}
use Rattle.std.specs.Prelude.{IfSome, Contains}
use Rattle.std.specs.List.{AllPairs}
use Rattle.std.specs.Global.{Vec}
use Rattle.std.proofs.lemmas.Bool.{cases_eq, cases_lt, or_cases, and_parts, true≢false}
use Rattle.std.proofs.lemmas.Option.{slice_get-get_or, slice_get_within, same_Some}
use Rattle.std.proofs.lemmas.List.{length_push}
use Rattle.std.proofs.lemmas.List.Elements.{Contains-get_or, Contains-push, Contains-push_cases, Contains-append_left}
use Rattle.std.proofs.lemmas.List.Quantifiers.{all_pairs_push}
use Rattle.calltext.specs.declared.limits.Limits.{Limits}
use Rattle.callorder.specs.declared.calls.Call.{Call}
use Rattle.callorder.specs.declared.calls.Message.{Message}
use Rattle.callorder.specs.Calls.{message_of, pattern_of, fits_between, both_hold, fits}
use Rattle.callorder.specs.ProgramRules.{IsProgramWithin}
use Rattle.callorder.specs.Programs.{MpiProgram, call_at, are_fit}
use Rattle.semantics.specs.Machine.{Configuration, is_issued}
use Rattle.waits.specs.Cycles.{awaited_by}
use Rattle.waits.specs.Waiting.{IsMissing, LooksForSends}
use Rattle.waits.specs.parts.Senders.{AreEmpty, AreSenders, AreSendersBelow, IsAdded, IsAddedAt, IsComing, IsListed, IsRising, senders_at}
use Rattle.waits.proofs.NeededCalls.{own_rank}
use Rattle.waits.proofs.NeededRanks.{no_send_fit, sent_to}

-- ---- a list with one more

in_push : (xs : List ℕ) (y x i : ℕ) → slice_get (xs ++ y ∷ []) i ≡ Some x → (slice_get xs i ≡ Some x) ⊎ ((i ≡ length xs) × (y ≡ x))
in_push [] y x zero h = inr (refl, same_Some y x h)
in_push [] y x (suc i) h = absurd (cc)
in_push (z ∷ xs) y x zero h = inl h
in_push (z ∷ xs) y x (suc i) h = elim (in_push xs y x i h) [ inl old ↦ inl old | inr w ↦ inr (let e = w.0 in omega (arith, e), w.1) ]

still_there : (xs : List ℕ) (y x i : ℕ) → slice_get xs i ≡ Some x → slice_get (xs ++ y ∷ []) i ≡ Some x
still_there [] y x i h = absurd (cc)
still_there (z ∷ xs) y x zero h = h
still_there (z ∷ xs) y x (suc i) h = still_there xs y x i h

now_there : (xs : List ℕ) (y : ℕ) → slice_get (xs ++ y ∷ []) (length xs) ≡ Some y
now_there [] y = refl
now_there (z ∷ xs) y = now_there xs y

-- where none of a rising list is above the rank, and the last one isn't the rank, each is below it
below_last : (xs : List ℕ) (rank i x : ℕ) → IsRising xs → ((k y : ℕ) → slice_get xs k ≡ Some y → y ≤ rank) → ((y : ℕ) → slice_get xs (length xs - 1) ≡ Some y → y ≡ rank → ⊥) → slice_get xs i ≡ Some x → x < rank
below_last xs rank i x rise upto other at =
    let within : i < length xs = slice_get_within xs i x at in
    let top : ℕ = get_or xs (length xs - 1) 0 in
    let there : slice_get xs (length xs - 1) ≡ Some top = slice_get-get_or xs (length xs - 1) 0 (omega (arith, within)) in
    let most : top ≤ rank = upto (length xs - 1) top there in
    let below : top < rank = elim (cases_lt top rank) [ inl lt ↦ lt | inr ge ↦ absurd (other top there (omega (arith, most, ge))) ] in
    elim (cases_lt i (length xs - 1)) [
      | inl lt ↦ let less : x < top = rise i (length xs - 1) x top lt at there in omega (arith, less, below)
      | inr ge ↦
          let same : i ≡ length xs - 1 = omega (arith, ge, within) in
          let is : x ≡ top = same_Some x top (sym at ∙ ap (slice_get xs) same ∙ there) in
          omega (arith, is, below)
    ]

rising_pushed : (old : List ℕ) (rank : ℕ) → IsRising old → ((i x : ℕ) → slice_get old i ≡ Some x → x < rank) → IsRising (old ++ rank ∷ [])
rising_pushed old rank rise below i j x y lt a b =
    elim (in_push old rank y j b) [
      | inl later ↦ elim (in_push old rank x i a) [
        | inl before ↦ rise i j x y lt before later
        | inr w ↦ absurd (let at = w.0 in let within : j < length old = slice_get_within old j y later in omega (arith, at, within, lt))
      ]
      | inr v ↦ elim (in_push old rank x i a) [
        | inl before ↦ let less : x < rank = below i x before in let is = v.1 in omega (arith, less, is)
        | inr w ↦ absurd (let at = w.0 in let end = v.0 in omega (arith, at, end, lt))
      ]
    ]

rising_added : (old new : List ℕ) (rank : ℕ) → IsRising old → ((k y : ℕ) → slice_get old k ≡ Some y → y ≤ rank) → IsAdded old rank new → IsRising new
rising_added old new rank rise upto (inl w) = subst IsRising (sym w.0) rise
rising_added old new rank rise upto (inr w) = subst IsRising (sym w.grows) (rising_pushed old rank rise (λ i x at. below_last old rank i x rise upto w.other at))

listed_added : (old new : List ℕ) (rank x : ℕ) → IsAdded old rank new → IsListed old x → IsListed new x
listed_added old new rank x (inl w) known = subst (λ (xs : List ℕ). IsListed xs x) (sym w.0) known
listed_added old new rank x (inr w) known = subst (λ (xs : List ℕ). IsListed xs x) (sym w.grows) (record { place = known.place; there = still_there old rank x known.place known.there })

has_added : (old new : List ℕ) (rank : ℕ) → IsAdded old rank new → IsListed new rank
has_added old new rank (inl w) = subst (λ (xs : List ℕ). IsListed xs rank) (sym w.0) w.1
has_added old new rank (inr w) = subst (λ (xs : List ℕ). IsListed xs rank) (sym w.grows) (record { place = length old; there = now_there old rank })

upto_added : (old new : List ℕ) (rank bound : ℕ) → IsAdded old rank new → ((k y : ℕ) → slice_get old k ≡ Some y → y ≤ bound) → rank ≤ bound → (k y : ℕ) → slice_get new k ≡ Some y → y ≤ bound
upto_added old new rank bound (inl w) upto own k y at = upto k y (subst (λ (xs : List ℕ). slice_get xs k ≡ Some y) w.0 at)
upto_added old new rank bound (inr w) upto own k y at =
    elim (in_push old rank y k (subst (λ (xs : List ℕ). slice_get xs k ≡ Some y) w.grows at)) [
      | inl before ↦ upto k y before
      | inr v ↦ let is = v.1 in omega (arith, own, is)
    ]

-- ---- lists of all ranks

push_empty : (lists : List (Vec ℕ)) (v : Vec ℕ) → ((e : ℕ) → awaited_by lists e ≡ []) → v.items ≡ [] → (e : ℕ) → awaited_by (lists ++ v ∷ []) e ≡ []
push_empty [] v all none zero = none
push_empty [] v all none (suc e) = refl
push_empty (x ∷ xs) v all none zero = all zero
push_empty (x ∷ xs) v all none (suc e) = push_empty xs v (λ k. all (suc k)) none e

pub more_empty : (n : ℕ) (lists new : List (Vec ℕ)) (v : Vec ℕ) → AreEmpty n lists → v.items ≡ [] → new ≡ lists ++ v ∷ [] → AreEmpty (n + 1) new
more_empty n lists new v known is pushed =
    subst (AreEmpty (n + 1)) (sym pushed) (record { size = length_push lists v ∙ ap (λ (k : ℕ). k + 1) known.size; empty = push_empty lists v known.empty is })

pub none_below : (p : MpiProgram) (m : Configuration) (lists : List (Vec ℕ)) → AreEmpty p.ranks lists → AreSendersBelow p m 0 lists
none_below p m lists none =
    record {
      size = none.size;
      all = λ to from range w. absurd (let below = w.below in omega (arith, below));
      rising = λ to i j x y lt a b. absurd (let e = subst (λ (xs : List ℕ). slice_get xs i ≡ Some x) (none.empty to) a in cc (e));
      upto = λ to place x c call at le there. absurd (let e = subst (λ (xs : List ℕ). slice_get xs place ≡ Some x) (none.empty to) at in cc (e));
    }

lowered : (p : MpiProgram) (m : Configuration) (k n to from : ℕ) (w : IsComing p m k to from) → w.call < n → IsComing p m n to from
lowered p m k n to from w lt =
    record { call = w.call; below = lt; known = w.known; there = w.there; own = w.own; message = w.message; sends = w.sends; goes = w.goes; not_issued = w.not_issued }

same_call : (p : MpiProgram) (c : ℕ) (x y : Call) → call_at p c ≡ Some x → call_at p c ≡ Some y → x ≡ y
same_call p c x y a b = same_Some x y (sym a ∙ b)

-- the next call is no such send
pub not_coming : (p : MpiProgram) (m : Configuration) (n : ℕ) (lists : List (Vec ℕ)) → ((call : Call) (message : Message) → call_at p n ≡ Some call → message_of call.kind ≡ Some message → is_issued p m n ≡ false → ⊥) → AreSendersBelow p m n lists → AreSendersBelow p m (n + 1) lists
not_coming p m n lists never known =
    record {
      size = known.size;
      all = λ to from range w. elim (cases_lt w.call n) [
        | inl lt ↦ known.all to from range (lowered p m (n + 1) n to from w lt)
        | inr ge ↦
            absurd (let below = w.below in
            let at : w.call ≡ n = omega (arith, ge, below) in
            never w.known w.message (subst (λ (c : ℕ). call_at p c ≡ Some w.known) at w.there) w.sends (subst (λ (c : ℕ). is_issued p m c ≡ false) at w.not_issued))
      ];
      rising = known.rising;
      upto = λ to place x c call at le there. known.upto to place x c call at (omega (arith, le)) there;
    }

-- it is one, and its rank is added
pub one_coming : (l : Limits) (p : MpiProgram) (m : Configuration) (n : ℕ) (call : Call) (message : Message) (old new : List (Vec ℕ)) → IsProgramWithin l p → call_at p n ≡ Some call → message_of call.kind ≡ Some message → IsAddedAt old message.destination call.rank new → AreSendersBelow p m n old → AreSendersBelow p m (n + 1) new
one_coming l p m n call message old new is there sends added known =
    record {
      size = added.size ∙ known.size;
      all = λ to from range w. elim (cases_eq to message.destination) [
        | inl same ↦ subst (λ (e : ℕ). IsListed (awaited_by new e) from) (sym same) (here from (subst (λ (e : ℕ). IsComing p m (n + 1) e from) same w))
        | inr differ ↦
            subst (λ (xs : List ℕ). IsListed xs from) (sym (added.others to differ))
            (elim (cases_lt w.call n) [
              | inl lt ↦ known.all to from range (lowered p m (n + 1) n to from w lt)
              | inr ge ↦
                  absurd (let below = w.below in
                  let at : w.call ≡ n = omega (arith, ge, below) in
                  let one : w.known ≡ call = same_call p n w.known call (subst (λ (c : ℕ). call_at p c ≡ Some w.known) at w.there) there in
                  let told : w.message ≡ message = same_Some w.message message (sym w.sends ∙ ap (λ (x : Call). message_of x.kind) one ∙ sends) in
                  differ (sym w.goes ∙ ap (λ (x : Message). x.destination) told))
            ])
      ];
      rising = λ to. elim (cases_eq to message.destination) [
        | inl same ↦ subst (λ (e : ℕ). IsRising (awaited_by new e)) (sym same) (rising_added (awaited_by old message.destination) (awaited_by new message.destination) call.rank (known.rising message.destination) (λ k y at. known.upto message.destination k y n call at (omega arith) there) put)
        | inr differ ↦ subst IsRising (sym (added.others to differ)) (known.rising to)
      ];
      upto = λ to place x c later at le at_c. elim (cases_eq to message.destination) [
        | inl same ↦
            upto_added (awaited_by old message.destination) (awaited_by new message.destination) call.rank later.rank put
            (λ k y before. known.upto message.destination k y c later before (omega (arith, le)) at_c) (is.rank_order n c call later (omega (arith, le)) there at_c) place x
            (subst (λ (e : ℕ). slice_get (awaited_by new e) place ≡ Some x) same at)
        | inr differ ↦ known.upto to place x c later (subst (λ (xs : List ℕ). slice_get xs place ≡ Some x) (added.others to differ) at) (omega (arith, le)) at_c
      ];
    }
  where
    range : message.destination < p.ranks
    range = subst (λ (o : Option Message). IfSome o (λ x. x.destination < p.ranks)) sends (is.in_range n call there).destination

    put : IsAdded (awaited_by old message.destination) call.rank (awaited_by new message.destination)
    put = added.there (omega (arith, range, known.size))

    here : (from : ℕ) → IsComing p m (n + 1) message.destination from → IsListed (awaited_by new message.destination) from
    here from w = elim (cases_lt w.call n) [
      | inl lt ↦ listed_added (awaited_by old message.destination) (awaited_by new message.destination) call.rank from put (known.all message.destination from range (lowered p m (n + 1) n message.destination from w lt))
      | inr ge ↦
          let below = w.below in
          let at : w.call ≡ n = omega (arith, ge, below) in
          let one : w.known ≡ call = same_call p n w.known call (subst (λ (c : ℕ). call_at p c ≡ Some w.known) at w.there) there in
          subst (λ (r : ℕ). IsListed (awaited_by new message.destination) r) (ap (λ (x : Call). x.rank) (sym one) ∙ w.own) (has_added (awaited_by old message.destination) (awaited_by new message.destination) call.rank put)
    ]

-- ---- what looks for sends

none_sends : (known : Call) (o : Option Call) → message_of known.kind ≡ None → IsTrue (both_hold fits (Some known) o) → ⊥
none_sends known None none fit = true≢false (sym fit)
none_sends known (Some other) none fit = no_send_fit known.rank other.rank (message_of known.kind) (pattern_of other.kind) none fit

nobody_sends : (o : Option Call) → IsTrue (both_hold fits None o) → ⊥
nobody_sends o fit = true≢false (sym fit)

looks_if : (p : MpiProgram) (c : ℕ) → ((e : ℕ) → IsTrue (are_fit p c e) → ⊥) → LooksForSends p c
looks_if p c none e fit = elim (or_cases _ _ fit) [ inl sends ↦ absurd (none e (and_parts _ _ sends).0) | inr takes ↦ takes ]

pub looks_without_message : (p : MpiProgram) (c : ℕ) (known : Call) → call_at p c ≡ Some known → message_of known.kind ≡ None → LooksForSends p c
looks_without_message p c known there none = looks_if p c (λ e fit. none_sends known (call_at p e) none (subst (λ (x : Option Call). IsTrue (both_hold fits x (call_at p e))) there fit))

pub looks_without_call : (p : MpiProgram) (c : ℕ) → call_at p c ≡ None → LooksForSends p c
looks_without_call p c none = looks_if p c (λ e fit. nobody_sends (call_at p e) (subst (λ (x : Option Call). IsTrue (both_hold fits x (call_at p e))) none fit))

-- what a call sends to what takes it
record Sent (p : MpiProgram) (o : ℕ) (sender : Call) : Type 0 where
  pub taker : Call
  pub there : call_at p o ≡ Some taker
  pub message : Message
  pub sends : message_of sender.kind ≡ Some message
  pub goes : message.destination ≡ taker.rank

sent_with : (p : MpiProgram) (o : ℕ) (sender taker : Call) (message : Option Message) → call_at p o ≡ Some taker → message_of sender.kind ≡ message → IsTrue (fits_between sender.rank message taker.rank (pattern_of taker.kind)) → Sent p o sender
sent_with p o sender taker None there is fit = absurd (no_send_fit sender.rank taker.rank None (pattern_of taker.kind) refl fit)
sent_with p o sender taker (Some message) there is fit = record { taker = taker; there = there; message = message; sends = is; goes = sent_to sender.rank taker.rank message (pattern_of taker.kind) fit }

sent_from : (p : MpiProgram) (o e : ℕ) (sender : Call) → call_at p e ≡ Some sender → IsTrue (are_fit p e o) → Sent p o sender
sent_from p o e sender there fit = by (call_at p o) refl
  where
    fit_from : IsTrue (both_hold fits (Some sender) (call_at p o))
    fit_from = subst (λ (x : Option Call). IsTrue (both_hold fits x (call_at p o))) there fit

    by : (x : Option Call) → call_at p o ≡ x → Sent p o sender
    by None is = absurd (true≢false (sym (subst (λ (x : Option Call). IsTrue (both_hold fits (Some sender) x)) is fit_from)))
    by (Some taker) is =
        sent_with p o sender taker (message_of sender.kind) is refl (subst (λ (x : Option Call). IsTrue (both_hold fits (Some sender) x)) is fit_from)

-- a rank with a missing call is listed
missing_listed : (l : Limits) (p : MpiProgram) (m : Configuration) (o rank : ℕ) (lists : List (Vec ℕ)) (xs : List ℕ) → IsProgramWithin l p → AreSenders p m lists → LooksForSends p o → xs ≡ senders_at lists (call_at p o) → IsMissing p m o rank → IsListed xs rank
missing_listed l p m o rank lists xs is senders looks are w =
    let own = own_rank (call_at p w.call) rank w.own in
    let sent : Sent p o own.0 = sent_from p o w.call own.0 own.1 (looks w.call w.fit) in
    subst (λ (ys : List ℕ). IsListed ys rank) (sym (are ∙ ap (senders_at lists) sent.there))
    (senders.are.all sent.taker.rank rank (is.in_range o sent.taker sent.there).own (record {
      call = w.call;
      below = (let all = senders.all in let within : w.call < length p.calls = slice_get_within p.calls w.call own.0 own.1 in omega (arith, all, within));
      known = own.0;
      there = own.1;
      own = own.2;
      message = sent.message;
      sends = sent.sends;
      goes = sent.goes;
      not_issued = w.not_issued;
    }))

pub rising_at : (p : MpiProgram) (m : Configuration) (lists : List (Vec ℕ)) (xs : List ℕ) (o : Option Call) → AreSenders p m lists → xs ≡ senders_at lists o → IsRising xs
rising_at p m lists xs None senders is = subst IsRising (sym is) (λ i j x y lt a b. absurd (cc (a)))
rising_at p m lists xs (Some call) senders is = subst IsRising (sym is) (senders.are.rising call.rank)

-- ---- those of a list that have a missing call

-- the list has those of the first n
pub record HasMissingOf (p : MpiProgram) (m : Configuration) (o : ℕ) (xs : List ℕ) (n : ℕ) (ranks : List ℕ) : Type 0 where
  pub sound : (rank : ℕ) → Contains ranks rank → IsMissing p m o rank
  pub few : (rank j y : ℕ) → Contains ranks rank → n ≤ j → slice_get xs j ≡ Some y → rank < y
  pub whole : (i rank : ℕ) → i < n → slice_get xs i ≡ Some rank → IsMissing p m o rank → Contains ranks rank
  pub rising : AllPairs (λ (one other : ℕ). one < other) ranks

pub none_of : (p : MpiProgram) (m : Configuration) (o : ℕ) (xs ranks : List ℕ) → ranks ≡ [] → HasMissingOf p m o xs 0 ranks
none_of p m o xs ranks empty = subst (HasMissingOf p m o xs 0) (sym empty) (record {
  sound = λ rank there. absurd (omega (arith, there.1));
  few = λ rank j y there le at. absurd (omega (arith, there.1));
  whole = λ i rank below at missing. absurd (omega (arith, below));
  rising = λ i j d before within. absurd (omega (arith, within));
})

pub one_of : (p : MpiProgram) (m : Configuration) (o : ℕ) (xs : List ℕ) (n rank : ℕ) (old new : List ℕ) → IsRising xs → slice_get xs n ≡ Some rank → new ≡ old ++ rank ∷ [] → IsMissing p m o rank → HasMissingOf p m o xs n old → HasMissingOf p m o xs (n + 1) new
one_of p m o xs n rank old new rise at grows missing has = subst (HasMissingOf p m o xs (n + 1)) (sym grows) (record {
  sound = λ r there. elim (Contains-push_cases old rank r there) [
    | inl before ↦ has.sound r before
    | inr here ↦ subst (IsMissing p m o) here missing
  ];
  few = λ r j y there le at_j. elim (Contains-push_cases old rank r there) [
    | inl before ↦ has.few r j y before (omega (arith, le)) at_j
    | inr here ↦ let less : rank < y = rise n j rank y (omega (arith, le)) at at_j in omega (arith, less, here)
  ];
  whole = λ i r below at_i found. elim (cases_lt i n) [
    | inl lt ↦ Contains-append_left old (rank ∷ []) r (has.whole i r lt at_i found)
    | inr ge ↦
        let same : i ≡ n = omega (arith, ge, below) in
        subst (Contains (old ++ rank ∷ [])) (same_Some rank r (sym at ∙ ap (slice_get xs) (sym same) ∙ at_i)) (Contains-push old rank)
  ];
  rising = all_pairs_push (λ (one other : ℕ). one < other) old rank has.rising (λ k d within. has.few (get_or old k d) n rank (Contains-get_or old k d within) (omega arith) at);
})

pub past_of : (p : MpiProgram) (m : Configuration) (o : ℕ) (xs : List ℕ) (n rank : ℕ) (ranks : List ℕ) → slice_get xs n ≡ Some rank → (IsMissing p m o rank → ⊥) → HasMissingOf p m o xs n ranks → HasMissingOf p m o xs (n + 1) ranks
past_of p m o xs n rank ranks at none has = record {
  sound = has.sound;
  few = λ r j y there le at_j. has.few r j y there (omega (arith, le)) at_j;
  whole = λ i r below at_i found. elim (cases_lt i n) [
    | inl lt ↦ has.whole i r lt at_i found
    | inr ge ↦
        let same : i ≡ n = omega (arith, ge, below) in
        absurd (none (subst (IsMissing p m o) (same_Some r rank (sym at_i ∙ ap (slice_get xs) same ∙ at)) found))
  ];
  rising = has.rising;
}

pub all_of : (l : Limits) (p : MpiProgram) (m : Configuration) (o n : ℕ) (lists : List (Vec ℕ)) (xs ranks : List ℕ) → IsProgramWithin l p → AreSenders p m lists → LooksForSends p o → xs ≡ senders_at lists (call_at p o) → length xs ≤ n → HasMissingOf p m o xs n ranks → (rank : ℕ) → Contains ranks rank ↔ IsMissing p m o rank
all_of l p m o n lists xs ranks is senders looks are end has rank = (
  has.sound rank,
  λ missing.
      let w : IsListed xs rank = missing_listed l p m o rank lists xs is senders looks are missing in
      has.whole w.place rank (let within : w.place < length xs = slice_get_within xs w.place rank w.there in omega (arith, within, end)) w.there missing,
)
