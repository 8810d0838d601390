-- Sends and takers by the number of their channel, and what differs in number.
use Rattle.std.proofs.Common.{◌≡◌, ℕ, ◌+◌, ◌<◌, inl, inr, true, false, List, [], ◌∷◌, ◌++◌, Option, Some, None, length, get_or, take, slice_get, slice_set, sym, ap, ◌∙◌, subst, arith, length-set, length-take}
use Rattle.std.proofs.lemmas.Bool.{cases_eq}
use Rattle.std.proofs.lemmas.List.{take_more}
use Rattle.std.proofs.lemmas.Option.{slice_get_within, slice_get-get_or, get_or_from_slice_get}
use Rattle.interning.specs.Places.{AreBelow}
use Rattle.callorder.specs.Programs.{MpiProgram}
use Rattle.balance.specs.declared.counting.Imbalance.{Imbalance}
use Rattle.balance.specs.Balance.{is_send_at, ArePlacesWhere, Rise}
use Rattle.balance.specs.Sides.{IsSendNumbered, IsTakerNumbered, AreNumberedSides, AreAllSides}
use Rattle.balance.proofs.Lists.{in_front, at_end, front_or_end, set_here, set_elsewhere}

-- ---- places that have a number

abbrev IsNumbered : (ℕ → Type 0) → List (Option ℕ) → ℕ → ℕ → Type 0
IsNumbered test numbers number c = (slice_get numbers c ≡ Some (Some number)) × test c

same_number : (a b : ℕ) → ◌≡◌ {A = Option ℕ} (Some a) (Some b) → a ≡ b
same_number a b e = cc

places_more : (test : ℕ → Type 0) (numbers : List (Option ℕ)) (number place : ℕ) (places : List ℕ) → length numbers ≡ place → test place → ArePlacesWhere (IsNumbered test numbers number) places → ArePlacesWhere (IsNumbered test (numbers ++ Some number ∷ []) number) (places ++ place ∷ [])
places_more test numbers number place places size passes are =
    record {
      sound = λ i c at. elim (front_or_end places place c i at) [
        | inl old ↦ let w = are.sound i c old in (in_front numbers (Some number ∷ []) c (Some number) w.0, w.1)
        | inr last ↦
            (subst (λ (z : ℕ). slice_get (numbers ++ Some number ∷ []) z ≡ Some (Some number)) (size ∙ last.1) (at_end numbers (Some number)), subst test last.1 passes)
      ];
      all = λ c h. elim (front_or_end numbers (Some number) (Some number) c h.0) [
        | inl old ↦ let w = are.all c (old, h.1) in (w.0, in_front places (place ∷ []) w.0 c w.1)
        | inr last ↦ (length places, at_end places place ∙ ap Some (sym (last.0 ∙ size)))
      ];
      once = λ i j c at other. elim (front_or_end places place c i at) [
        | inl a ↦ elim (front_or_end places place c j other) [
          | inl b ↦ are.once i j c a b
          | inr b ↦ absurd (omega (arith, slice_get_within numbers c (Some number) (are.sound i c a).0, size, b.1))
        ]
        | inr a ↦ elim (front_or_end places place c j other) [
          | inl b ↦ absurd (omega (arith, slice_get_within numbers c (Some number) (are.sound j c b).0, size, a.1))
          | inr b ↦ a.0 ∙ sym b.0
        ]
      ];
    }

places_kept : (test : ℕ → Type 0) (numbers : List (Option ℕ)) (number : ℕ) (o : Option ℕ) (places : List ℕ) → (o ≡ Some number → test (length numbers) → ⊥) → ArePlacesWhere (IsNumbered test numbers number) places → ArePlacesWhere (IsNumbered test (numbers ++ o ∷ []) number) places
places_kept test numbers number o places none are =
    record {
      sound = λ i c at. let w = are.sound i c at in (in_front numbers (o ∷ []) c (Some number) w.0, w.1);
      all = λ c h. elim (front_or_end numbers o (Some number) c h.0) [
        | inl old ↦ are.all c (old, h.1)
        | inr last ↦ absurd (none last.1 (subst test last.0 h.1))
      ];
      once = are.once;
    }

rise_more : (test : ℕ → Type 0) (numbers : List (Option ℕ)) (number place : ℕ) (places : List ℕ) → length numbers ≡ place → ArePlacesWhere (IsNumbered test numbers number) places → Rise places → Rise (places ++ place ∷ [])
rise_more test numbers number place places size are rise i j c d before at later =
    elim (front_or_end places place c i at) [
      | inl a ↦ elim (front_or_end places place d j later) [
        | inl b ↦ rise i j c d before a b
        | inr b ↦ let below = slice_get_within numbers c (Some number) (are.sound i c a).0 in omega (arith, below, size, b.1)
      ]
      | inr a ↦ elim (front_or_end places place d j later) [
        | inl b ↦ let below = slice_get_within places j d b in absurd (omega (arith, below, a.0, before))
        | inr b ↦ absurd (omega (arith, a.0, b.0, before))
      ]
    ]

-- ---- the sides of a number

pub send_added : (p : MpiProgram) (numbers : List (Option ℕ)) (number place : ℕ) (old new : Imbalance) → length numbers ≡ place → is_send_at p place ≡ true → AreNumberedSides p numbers number old → new.sends.items ≡ old.sends.items ++ place ∷ [] → new.takers.items ≡ old.takers.items → AreNumberedSides p (numbers ++ Some number ∷ []) number new
send_added p numbers number place old new size on are sends takers =
    record {
      sends = subst (ArePlacesWhere (IsSendNumbered p (numbers ++ Some number ∷ []) number)) (sym sends)
          (places_more (λ (c : ℕ). is_send_at p c ≡ true) numbers number place old.sends.items size on are.sends);
      takers = subst (ArePlacesWhere (IsTakerNumbered p (numbers ++ Some number ∷ []) number)) (sym takers)
          (places_kept (λ (c : ℕ). is_send_at p c ≡ false) numbers number (Some number) old.takers.items (λ e off. let f : is_send_at p place ≡ false = ap (is_send_at p) (sym size) ∙ off in cc) are.takers);
      sends_rise = subst Rise (sym sends) (rise_more (λ (c : ℕ). is_send_at p c ≡ true) numbers number place old.sends.items size are.sends are.sends_rise);
      takers_rise = subst Rise (sym takers) are.takers_rise;
    }

pub taker_added : (p : MpiProgram) (numbers : List (Option ℕ)) (number place : ℕ) (old new : Imbalance) → length numbers ≡ place → is_send_at p place ≡ false → AreNumberedSides p numbers number old → new.sends.items ≡ old.sends.items → new.takers.items ≡ old.takers.items ++ place ∷ [] → AreNumberedSides p (numbers ++ Some number ∷ []) number new
taker_added p numbers number place old new size off are sends takers =
    record {
      sends = subst (ArePlacesWhere (IsSendNumbered p (numbers ++ Some number ∷ []) number)) (sym sends)
          (places_kept (λ (c : ℕ). is_send_at p c ≡ true) numbers number (Some number) old.sends.items (λ e on. let f : is_send_at p place ≡ true = ap (is_send_at p) (sym size) ∙ on in cc) are.sends);
      takers = subst (ArePlacesWhere (IsTakerNumbered p (numbers ++ Some number ∷ []) number)) (sym takers)
          (places_more (λ (c : ℕ). is_send_at p c ≡ false) numbers number place old.takers.items size off are.takers);
      sends_rise = subst Rise (sym sends) are.sends_rise;
      takers_rise = subst Rise (sym takers) (rise_more (λ (c : ℕ). is_send_at p c ≡ false) numbers number place old.takers.items size are.takers are.takers_rise);
    }

other_sides : (p : MpiProgram) (numbers : List (Option ℕ)) (number : ℕ) (o : Option ℕ) (sides : Imbalance) → (o ≡ Some number → ⊥) → AreNumberedSides p numbers number sides → AreNumberedSides p (numbers ++ o ∷ []) number sides
other_sides p numbers number o sides other are =
    record {
      sends = places_kept (λ (c : ℕ). is_send_at p c ≡ true) numbers number o sides.sends.items (λ e on. other e) are.sends;
      takers = places_kept (λ (c : ℕ). is_send_at p c ≡ false) numbers number o sides.takers.items (λ e off. other e) are.takers;
      sends_rise = are.sends_rise;
      takers_rise = are.takers_rise;
    }

-- ---- the table

pub nothing_yet : (p : MpiProgram) (number : ℕ) (sides : Imbalance) → sides.sends.items ≡ [] → sides.takers.items ≡ [] → AreNumberedSides p [] number sides
nothing_yet p number sides sends takers =
    record {
      sends = subst (ArePlacesWhere (IsSendNumbered p [] number)) (sym sends) (none (λ (c : ℕ). is_send_at p c ≡ true));
      takers = subst (ArePlacesWhere (IsTakerNumbered p [] number)) (sym takers) (none (λ (c : ℕ). is_send_at p c ≡ false));
      sends_rise = subst Rise (sym sends) (λ i j c d before at later. absurd (cc));
      takers_rise = subst Rise (sym takers) (λ i j c d before at later. absurd (cc));
    }
  where
    none : (test : ℕ → Type 0) → ArePlacesWhere (IsNumbered test [] number) []
    none test = record { sound = λ i c at. absurd (cc); all = λ c h. absurd (let e = h.0 in cc); once = λ i j c at other. absurd (cc) }

front : (numbers : List (Option ℕ)) (place : ℕ) (o : Option ℕ) → slice_get numbers place ≡ Some o → take (place + 1) numbers ≡ take place numbers ++ o ∷ []
front numbers place o there =
    take_more numbers place o (slice_get_within numbers place o there) ∙
    ap (λ (z : Option ℕ). take place numbers ++ z ∷ []) (get_or_from_slice_get numbers place o o there)

pub front_size : (numbers : List (Option ℕ)) (place : ℕ) (o : Option ℕ) → slice_get numbers place ≡ Some o → length (take place numbers) ≡ place
front_size numbers place o there = let inside = slice_get_within numbers place o there in omega (arith, inside, length-take place numbers)

pub table_unnumbered : (p : MpiProgram) (bound : ℕ) (numbers : List (Option ℕ)) (place : ℕ) (table : List Imbalance) → AreAllSides p bound (take place numbers) table → slice_get numbers place ≡ Some None → AreAllSides p bound (take (place + 1) numbers) table
table_unnumbered p bound numbers place table are there =
    record {
      size = are.size;
      each = λ number sides at. subst (λ (z : List (Option ℕ)). AreNumberedSides p z number sides) (sym (front numbers place None there))
          (other_sides p (take place numbers) number None sides (λ e. cc) (are.each number sides at));
    }

pub table_numbered : (p : MpiProgram) (bound : ℕ) (numbers : List (Option ℕ)) (place number : ℕ) (table : List Imbalance) (old new : Imbalance) → AreAllSides p bound (take place numbers) table → slice_get numbers place ≡ Some (Some number) → slice_get table number ≡ Some old → (AreNumberedSides p (take place numbers) number old → AreNumberedSides p (take place numbers ++ Some number ∷ []) number new) → AreAllSides p bound (take (place + 1) numbers) (slice_set table number new)
table_numbered p bound numbers place number table old new are there held added =
    record {
      size = length-set table number new ∙ are.size;
      each = λ other sides at. subst (λ (z : List (Option ℕ)). AreNumberedSides p z other sides) (sym (front numbers place (Some number) there)) (each other sides at);
    }
  where
    each : (other : ℕ) (sides : Imbalance) → slice_get (slice_set table number new) other ≡ Some sides → AreNumberedSides p (take place numbers ++ Some number ∷ []) other sides
    each other sides at =
        elim (cases_eq other number) [
          | inl e ↦
              let here : slice_get (slice_set table number new) other ≡ Some new = ap (slice_get (slice_set table number new)) e ∙ set_here table number new (slice_get_within table number old held) in
              let f : new ≡ sides = cc in
              subst (λ (z : Imbalance). AreNumberedSides p (take place numbers ++ Some number ∷ []) other z) f
              (subst (λ (z : ℕ). AreNumberedSides p (take place numbers ++ Some number ∷ []) z new) (sym e) (added (are.each number old held)))
          | inr differ ↦
              other_sides p (take place numbers) other (Some number) sides (λ e. differ (sym (same_number number other e))) (are.each other sides (set_elsewhere table number other new sides differ at))
        ]

pub table_unnumbered_at : (p : MpiProgram) (numbers : List (Option ℕ)) (place : ℕ) (table : List Imbalance) → AreAllSides p (length numbers) (take place numbers) table → place < length numbers → get_or numbers place None ≡ None → AreAllSides p (length numbers) (take (place + 1) numbers) table
table_unnumbered_at p numbers place table are below none =
    table_unnumbered p (length numbers) numbers place table are (slice_get-get_or numbers place None below ∙ ap Some none)

pub table_numbered_at : (p : MpiProgram) (numbers : List (Option ℕ)) (place number : ℕ) (table : List Imbalance) (old new : Imbalance) → AreBelow (length numbers) numbers → AreAllSides p (length numbers) (take place numbers) table → place < length numbers → get_or numbers place None ≡ Some number → old ≡ get_or table number old → ((some : List (Option ℕ)) (any : ℕ) → length some ≡ place → AreNumberedSides p some any old → AreNumberedSides p (some ++ Some any ∷ []) any new) → AreAllSides p (length numbers) (take (place + 1) numbers) (slice_set table number new)
table_numbered_at p numbers place number table old new bound are below num held added =
    let there : slice_get numbers place ≡ Some (Some number) = slice_get-get_or numbers place None below ∙ ap Some num in
    table_numbered p (length numbers) numbers place number table old new are there
    (slice_get-get_or table number old (omega (arith, are.size, bound place number there)) ∙ ap Some (sym held))
    (added (take place numbers) number (front_size numbers place (Some number) there))
