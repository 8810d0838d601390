-- What one more call leaves open at each address.
use Rattle.std.proofs.Common.{◌≡◌, ◌↔◌, ℕ, ◌+◌, ◌<◌, inl, inr, Bool, true, false, ◌&&◌, ◌||◌, ◌==◌, List, [], ◌∷◌, ◌++◌, Option, Some, None, Result, Ok, Err, IfOk, is_some, length, map, take, get_or, slice_get, slice_set, refl, sym, ap, ◌∙◌, subst, arith, length-set, length-append}
use Rattle.std.specs.List.{list_any}
use Rattle.std.proofs.lemmas.Bool.{cases_eq, eqb-true, eq-eqb}
use Rattle.std.proofs.lemmas.List.{take_more}
use Rattle.std.proofs.lemmas.List.Folds.{list_any-append}
use Rattle.std.proofs.lemmas.List.{length-map}
use Rattle.std.proofs.lemmas.Option.{slice_get_within, slice_get-map, slice_get-get_or, get_or_from_slice_get}
use Rattle.calltext.proofs.Conjunctions.{and_true, and_both}
use Rattle.interning.specs.Places.{IsNumbering}
use Rattle.callorder.specs.declared.calls.Call.{Call}
use Rattle.callorder.specs.declared.calls.Message.{Message}
use Rattle.callorder.specs.declared.calls.Pattern.{Pattern}
use Rattle.callorder.specs.Calls.{message_of}
use Rattle.callorder.specs.Programs.{MpiProgram}
use Rattle.balance.specs.declared.channels.Channel.{Channel}
use Rattle.balance.specs.declared.channels.ChannelAddress.{ChannelAddress}
use Rattle.balance.specs.declared.channels.TakerWildcards.{TakerWildcards}
use Rattle.balance.specs.Balance.{channel_at, channel_of, channel_of_call, channel_sent, channel_taken, taken_by, leaves_source_open, takes_any_source_as, takes_any_tag, takes_any_tag_as}
use Rattle.balance.specs.parts.Wildcards.{channel_address_of, channel_address_sent, channel_address_taken, IsWild, AreWild, AreNumbersOfNames}
use Rattle.std.specs.Option.{option_map}
use Rattle.balance.proofs.Closing.{no_message, taker_kind}
use Rattle.balance.proofs.Lists.{item_there, front_or_end, set_here, set_elsewhere}

-- ---- equal addresses

abbrev address_at : ℕ → ℕ → ChannelAddress
address_at communicator destination = record { destination = destination; communicator = communicator }

pub are_numbers : (test : ChannelAddress → ChannelAddress → Bool) → ((a b : ChannelAddress) → test a b ≡ (a.destination == b.destination && a.communicator == b.communicator)) → (names : List (Option ChannelAddress)) (numbers : List (Option ℕ)) → IsNumbering test names numbers → AreNumbersOfNames names numbers
are_numbers test is names numbers n =
    record {
      test = test;
      tests = λ a b. (λ on. same a b (sym (is a b) ∙ on), λ e. is a b ∙ alike a b e);
      numbering = n;
    }
  where
    same : (a b : ChannelAddress) → (a.destination == b.destination && a.communicator == b.communicator) ≡ true → a ≡ b
    same a b on =
        let w = and_true (a.destination == b.destination) (a.communicator == b.communicator) on in
        let d : a.destination ≡ b.destination = eqb-true a.destination b.destination w.0 in
        let k : a.communicator ≡ b.communicator = eqb-true a.communicator b.communicator w.1 in
        ap (address_at a.communicator) d ∙ ap (λ (c : ℕ). address_at c b.destination) k

    alike : (a b : ChannelAddress) → a ≡ b → (a.destination == b.destination && a.communicator == b.communicator) ≡ true
    alike a b e =
        and_both (a.destination == b.destination) (a.communicator == b.communicator) (eq-eqb a.destination b.destination (ap (λ (z : ChannelAddress). z.destination) e)) (eq-eqb a.communicator b.communicator (ap (λ (z : ChannelAddress). z.communicator) e))

pub ok_more : {A E : Type 0} (r : Result A E) (P Q : A → Type 0) → ((x : A) → P x → Q x) → IfOk r P → IfOk r Q
ok_more (Ok x) P Q f h = f x h
ok_more (Err e) P Q f h = tt

-- ---- a call at another address leaves nothing open here

bool_cases : (b : Bool) → (b ≡ true → ⊥) → b ≡ false
bool_cases true h = absurd (h refl)
bool_cases false h = refl

-- a taker with this pattern is at this address
taker_address : (call : Call) (pattern : Pattern) (address : ChannelAddress) → taken_by call ≡ Some pattern → (call.rank == address.destination && pattern.communicator == address.communicator) ≡ true → channel_address_of call ≡ Some address
taker_address call pattern address taken on =
    let none : message_of call.kind ≡ None = no_message call.kind (taker_kind call.kind (ap is_some taken)).0 in
    let w = and_true (call.rank == address.destination) (pattern.communicator == address.communicator) on in
    let d : call.rank ≡ address.destination = eqb-true call.rank address.destination w.0 in
    let k : pattern.communicator ≡ address.communicator = eqb-true pattern.communicator address.communicator w.1 in
    ap (channel_address_sent call) none ∙ ap (channel_address_taken call.rank) taken ∙
    ap (λ (z : ℕ). Some (address_at pattern.communicator z)) d ∙ ap (λ (z : ℕ). Some (address_at z address.destination)) k

none_here : (call : Call) (address : ChannelAddress) → (channel_address_of call ≡ Some address → ⊥) → (leaves_source_open address.destination address.communicator call ≡ false) × (takes_any_tag address.destination address.communicator call ≡ false)
none_here call address elsewhere = by (taken_by call) refl
  where
    by : (o : Option Pattern) → taken_by call ≡ o → (takes_any_source_as address.destination address.communicator call.rank o ≡ false) × (takes_any_tag_as address.destination address.communicator call.rank o ≡ false)
    by None is = (refl, refl)
    by (Some pattern) is =
        let off : (call.rank == address.destination && pattern.communicator == address.communicator) ≡ false = bool_cases (call.rank == address.destination && pattern.communicator == address.communicator) (λ on. elsewhere (taker_address call pattern address is on)) in
        (rw off refl, rw off refl)

or_false : (b : Bool) → (b || false) ≡ b
or_false true = refl
or_false false = refl

one_more : (test : Call → Bool) (calls : List Call) (call : Call) → test call ≡ false → list_any test (calls ++ call ∷ []) ≡ list_any test calls
one_more test calls call off =
    list_any-append test calls (call ∷ []) ∙ ap (λ (b : Bool). list_any test calls || (b || false)) off ∙ or_false (list_any test calls)

loose_more : (calls : List Call) (call : Call) (address : ChannelAddress) (loose : TakerWildcards) → IsWild calls address loose → (channel_address_of call ≡ Some address → ⊥) → IsWild (calls ++ call ∷ []) address loose
loose_more calls call address loose is elsewhere =
    let none = none_here call address elsewhere in
    record {
      source = is.source ∙ sym (one_more (leaves_source_open address.destination address.communicator) calls call none.0);
      tag = is.tag ∙ sym (one_more (takes_any_tag address.destination address.communicator) calls call none.1);
    }

-- ---- a step of the table

front : (calls : List Call) (place : ℕ) (call : Call) → slice_get calls place ≡ Some call → take (place + 1) calls ≡ take place calls ++ call ∷ []
front calls place call there =
    take_more calls place call (slice_get_within calls place call there) ∙
    ap (λ (z : Call). take place calls ++ z ∷ []) (get_or_from_slice_get calls place call call there)

name_there : (calls : List Call) (place : ℕ) (call : Call) → slice_get calls place ≡ Some call → slice_get (map channel_address_of calls) place ≡ Some (channel_address_of call)
name_there calls place call there = slice_get-map channel_address_of calls place ∙ ap (λ (o : Option Call). option_map channel_address_of o) there

pub loose_none : (calls : List Call) (numbers : List (Option ℕ)) (table : List TakerWildcards) (place : ℕ) (call : Call) → AreNumbersOfNames (map channel_address_of calls) numbers → AreWild (take place calls) (map channel_address_of calls) numbers table → slice_get calls place ≡ Some call → slice_get numbers place ≡ Some None → AreWild (take (place + 1) calls) (map channel_address_of calls) numbers table
loose_none calls numbers table place call n are there none =
    record {
      size = are.size;
      each = λ c number address loose at num is. subst (λ (z : List Call). IsWild z address loose) (sym (front calls place call there))
          (loose_more (take place calls) call address loose (are.each c number address loose at num is)
          (λ here. let w = n.numbering.named place address (name_there calls place call there ∙ ap Some here) in let e = w.1 in cc));
    }

pub loose_some : (calls : List Call) (numbers : List (Option ℕ)) (table : List TakerWildcards) (place : ℕ) (call : Call) (number : ℕ) (old new : TakerWildcards) → AreNumbersOfNames (map channel_address_of calls) numbers → AreWild (take place calls) (map channel_address_of calls) numbers table → slice_get calls place ≡ Some call → slice_get numbers place ≡ Some (Some number) → slice_get table number ≡ Some old → ((some : List Call) (address : ChannelAddress) → channel_address_of call ≡ Some address → IsWild some address old → IsWild (some ++ call ∷ []) address new) → AreWild (take (place + 1) calls) (map channel_address_of calls) numbers (slice_set table number new)
loose_some calls numbers table place call number old new n are there num held more =
    record {
      size = length-set table number new ∙ are.size;
      each = λ c m address loose at at_number is. subst (λ (z : List Call). IsWild z address loose) (sym (front calls place call there)) (each c m address loose at at_number is);
    }
  where
    own : (o : Option ChannelAddress) → channel_address_of call ≡ o → (a : ChannelAddress) × (channel_address_of call ≡ Some a)
    own None is = absurd (let e = n.numbering.unnamed place (name_there calls place call there ∙ ap Some is) in cc)
    own (Some a) is = (a, is)

    same : (c m : ℕ) (address : ChannelAddress) → slice_get (map channel_address_of calls) c ≡ Some (Some address) → slice_get numbers c ≡ Some (Some m) → (m ≡ number) ↔ (channel_address_of call ≡ Some address)
    same c m address at at_number =
        let a = own (channel_address_of call) refl in
        let tests = n.tests address a.0 in
        let both = n.numbering.same c place address a.0 m number at (name_there calls place call there ∙ ap Some a.1) at_number num in
        (λ e. a.1 ∙ ap Some (sym (tests.0 (both.0 e))), λ e. both.1 (tests.1 (let f : address ≡ a.0 = cc (e, a.1) in f)))

    each : (c m : ℕ) (address : ChannelAddress) (loose : TakerWildcards) → slice_get (map channel_address_of calls) c ≡ Some (Some address) → slice_get numbers c ≡ Some (Some m) → slice_get (slice_set table number new) m ≡ Some loose → IsWild (take place calls ++ call ∷ []) address loose
    each c m address loose at at_number is =
        elim (cases_eq m number) [
          | inl e ↦
              let here : slice_get (slice_set table number new) m ≡ Some new = ap (slice_get (slice_set table number new)) e ∙ set_here table number new (slice_get_within table number old held) in
              let f : new ≡ loose = cc in
              subst (λ (z : TakerWildcards). IsWild (take place calls ++ call ∷ []) address z) f
              (more (take place calls) address ((same c m address at at_number).0 e) (are.each c m address old at at_number (ap (slice_get table) e ∙ held)))
          | inr differ ↦
              loose_more (take place calls) call address loose (are.each c m address loose at at_number (set_elsewhere table number m new loose differ is))
              (λ here. differ ((same c m address at at_number).1 here))
        ]

pub loose_none_at : (calls : List Call) (numbers : List (Option ℕ)) (table : List TakerWildcards) (place : ℕ) → AreNumbersOfNames (map channel_address_of calls) numbers → AreWild (take place calls) (map channel_address_of calls) numbers table → place < length numbers → get_or numbers place None ≡ None → AreWild (take (place + 1) calls) (map channel_address_of calls) numbers table
loose_none_at calls numbers table place n are below none =
    let at = item_there calls place (omega (arith, below, n.numbering.size, length-map calls channel_address_of)) in
    loose_none calls numbers table place at.0 n are at.1 (slice_get-get_or numbers place None below ∙ ap Some none)

pub loose_some_at : (calls : List Call) (numbers : List (Option ℕ)) (table : List TakerWildcards) (place : ℕ) (d : Call) (number : ℕ) (old new : TakerWildcards) → AreNumbersOfNames (map channel_address_of calls) numbers → AreWild (take place calls) (map channel_address_of calls) numbers table → place < length numbers → get_or numbers place None ≡ Some number → old ≡ get_or table number old → ((some : List Call) (address : ChannelAddress) → channel_address_of (get_or calls place d) ≡ Some address → IsWild some address old → IsWild (some ++ get_or calls place d ∷ []) address new) → AreWild (take (place + 1) calls) (map channel_address_of calls) numbers (slice_set table number new)
loose_some_at calls numbers table place d number old new n are below num held more =
    let num_there : slice_get numbers place ≡ Some (Some number) = slice_get-get_or numbers place None below ∙ ap Some num in
    loose_some calls numbers table place (get_or calls place d) number old new n are
    (slice_get-get_or calls place d (omega (arith, below, n.numbering.size, length-map calls channel_address_of)))
    num_there
    (slice_get-get_or table number old (omega (arith, are.size, n.numbering.below place number num_there)) ∙ ap Some (sym held))
    more

-- ---- the channel of a call, by what is left open at its address

no_channel_taken : (p : MpiProgram) (r : ℕ) (o : Option Pattern) → channel_address_taken r o ≡ None → channel_taken p r o ≡ None
no_channel_taken p r None h = refl
no_channel_taken p r (Some pattern) h = absurd (cc)

no_channel : (p : MpiProgram) (call : Call) (o : Option Message) → channel_address_sent call o ≡ None → channel_sent p call o ≡ None
no_channel p call None h = no_channel_taken p call.rank (taken_by call) h
no_channel p call (Some message) h = absurd (cc)

at_address : (calls : List Call) (numbers : List (Option ℕ)) (place number : ℕ) (call : Call) → AreNumbersOfNames (map channel_address_of calls) numbers → slice_get calls place ≡ Some call → slice_get numbers place ≡ Some (Some number) → (o : Option ChannelAddress) → channel_address_of call ≡ o → (a : ChannelAddress) × (channel_address_of call ≡ Some a)
at_address calls numbers place number call n there num None is = absurd (let e = n.numbering.unnamed place (name_there calls place call there ∙ ap Some is) in cc)
at_address calls numbers place number call n there num (Some a) is = (a, is)

at_none : (calls : List Call) (numbers : List (Option ℕ)) (place : ℕ) (call : Call) → AreNumbersOfNames (map channel_address_of calls) numbers → slice_get calls place ≡ Some call → slice_get numbers place ≡ Some None → (o : Option ChannelAddress) → channel_address_of call ≡ o → channel_address_of call ≡ None
at_none calls numbers place call n there none None is = is
at_none calls numbers place call n there none (Some a) is = absurd (let w = n.numbering.named place a (name_there calls place call there ∙ ap Some is) in let e = w.1 in cc)

pub none_at : (p : MpiProgram) (numbers : List (Option ℕ)) (place : ℕ) → AreNumbersOfNames (map channel_address_of p.calls) numbers → place < length numbers → get_or numbers place None ≡ None → channel_at p place ≡ None
none_at p numbers place n below none =
    let at = item_there p.calls place (omega (arith, below, n.numbering.size, length-map p.calls channel_address_of)) in
    ap (channel_of_call p) at.1 ∙
    no_channel p at.0 (message_of at.0.kind) (at_none p.calls numbers place at.0 n at.1 (slice_get-get_or numbers place None below ∙ ap Some none) (channel_address_of at.0) refl)

pub some_at : (p : MpiProgram) (numbers : List (Option ℕ)) (table : List TakerWildcards) (place : ℕ) (d : Call) (number : ℕ) (loose : TakerWildcards) (channel : Option Channel) → AreNumbersOfNames (map channel_address_of p.calls) numbers → AreWild p.calls (map channel_address_of p.calls) numbers table → place < length numbers → get_or numbers place None ≡ Some number → loose ≡ get_or table number loose → ((q : MpiProgram) (address : ChannelAddress) → channel_address_of (get_or p.calls place d) ≡ Some address → IsWild q.calls address loose → channel ≡ channel_of q (get_or p.calls place d)) → channel ≡ channel_at p place
some_at p numbers table place d number loose channel n are below num held is =
    let there : slice_get p.calls place ≡ Some (get_or p.calls place d) = slice_get-get_or p.calls place d (omega (arith, below, n.numbering.size, length-map p.calls channel_address_of)) in
    let at : slice_get numbers place ≡ Some (Some number) = slice_get-get_or numbers place None below ∙ ap Some num in
    let a = at_address p.calls numbers place number (get_or p.calls place d) n there at (channel_address_of (get_or p.calls place d)) refl in
    let holds : slice_get table number ≡ Some loose = slice_get-get_or table number loose (omega (arith, are.size, n.numbering.below place number at)) ∙ ap Some (sym held) in
    is p a.0 a.1 (are.each place number a.0 loose (name_there p.calls place (get_or p.calls place d) there ∙ ap Some a.1) at holds) ∙
    sym (ap (channel_of_call p) there)

-- one more channel is listed
pub record AreListed (p : MpiProgram) (channels : List (Option Channel)) (count : ℕ) : Type 0 where
  pub size : length channels ≡ count
  pub each : (c : ℕ) (channel : Option Channel) → slice_get channels c ≡ Some channel → channel ≡ channel_at p c

pub one_listed : (p : MpiProgram) (channels more : List (Option Channel)) (channel : Option Channel) (place : ℕ) → AreListed p channels place → more ≡ channels ++ channel ∷ [] → channel ≡ channel_at p place → AreListed p more (place + 1)
one_listed p channels more channel place are items is =
    record {
      size = ap length items ∙ length-append channels (channel ∷ []) ∙ ap (λ (n : ℕ). n + 1) are.size;
      each = λ c other at. elim (front_or_end channels channel other c (subst (λ (z : List (Option Channel)). slice_get z c ≡ Some other) items at)) [
        | inl old ↦ are.each c other old
        | inr last ↦ sym last.1 ∙ is ∙ ap (channel_at p) (sym (last.0 ∙ are.size))
      ];
    }
