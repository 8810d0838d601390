-- Finders for which a send may race, in a list, and how far counts reach in it.
use Rattle.std.proofs.Common.{◌≡◌, ℕ, zero, suc, ◌+◌, ◌<◌, ◌≤◌, ◌⊎◌, inl, inr, Bool, true, false, get_or, ltb, not, ◌&&◌, ◌==◌, List, [], ◌∷◌, ◌++◌, length, slice_get, Option, Some, None, refl, sym, ap, ◌∙◌, subst, arith}
use Rattle.std.proofs.lemmas.Bool.{cases_lt, eq-eqb, eqb-true, ltb-false, ltb-true}
use Rattle.std.proofs.lemmas.List.{length_push}
use Rattle.std.specs.Option.{unwrap_or}
use Rattle.calltext.proofs.Conjunctions.{and_true}
use Rattle.callorder.specs.declared.calls.Call.{Call}
use Rattle.callorder.specs.declared.calls.Message.{Message}
use Rattle.callorder.specs.declared.calls.Pattern.{Pattern}
use Rattle.callorder.specs.Calls.{message_of, pattern_of, covers, fits_between, both_hold, fits}
use Rattle.callorder.specs.Programs.{MpiProgram, call_at, have_one_rank}
use Rattle.semantics.specs.Machine.{Configuration, partner_of}
use Rattle.races.specs.Blocks.{Blocks}
use Rattle.std.proofs.lemmas.Nat.{mod_below}
use Rattle.std.specs.List.Sorted.{IsNonDecreasingBy, IsPartitionPoint}
use Rattle.std.proofs.lemmas.Option.{get_or_from_slice_get, slice_get-get_or, slice_get_within}
use Rattle.std.specs.Global.{Vec}
use Rattle.clocks.specs.declared.finders.Cover.{Cover}
use Rattle.clocks.specs.declared.rows.Count.{Count}
use Rattle.clocks.proofs.Counts.{same_some}
use Rattle.clocks.specs.parts.Clocks.{Numbering, IsCount, IsSingle}
use Rattle.knowledge.specs.Knowledge.{with_partners}
use Rattle.clocks.specs.Spans.{AreSpans}
use Rattle.clocks.specs.parts.Finders.{CannotRace, mix, told, group_of_pattern, group_of_call, group_at, IsRising, IsPlaced, AreGroupedUpTo, AreEmptyGroups, IsPutIn, IsListing, IsNumbered, IsParting, IsCover, IsCountedAt, IsWider, AreCoversOf, AreCovers, covers_in, covers_at}
use Rattle.clocks.proofs.Shown.{no_fellow, fits_within}

-- ---- what no send races for

fits_nothing : (o : Option Call) → both_hold fits o None ≡ true → false ≡ true
fits_nothing None fit = fit
fits_nothing (Some o) fit = fit

pub nothing_cannot_race : (p : MpiProgram) (block : Blocks) (f : ℕ) → call_at p f ≡ None → CannotRace p block f
nothing_cannot_race p block f is own other mine fit which =
    absurd (let never = fits_nothing (call_at p other) (subst (λ (o : Option Call). both_hold fits (call_at p other) o ≡ true) is fit) in cc (never))

fits_no_finder : (o : Option Call) (call : Call) → pattern_of call.kind ≡ None → both_hold fits o (Some call) ≡ true → false ≡ true
fits_no_finder None call is fit = fit
fits_no_finder (Some o) call is fit = by (message_of o.kind) (subst (λ (b : Option Pattern). fits_between o.rank (message_of o.kind) call.rank b ≡ true) is fit)
  where
    by : (x : Option Message) → fits_between o.rank x call.rank None ≡ true → false ≡ true
    by None h = h
    by (Some x) h = h

pub no_finder_cannot_race : (p : MpiProgram) (block : Blocks) (f : ℕ) (call : Call) → call_at p f ≡ Some call → pattern_of call.kind ≡ None → CannotRace p block f
no_finder_cannot_race p block f call there is own other mine fit which =
    absurd (let never = fits_no_finder (call_at p other) call is (subst (λ (o : Option Call). both_hold fits (call_at p other) o ≡ true) there fit) in cc (never))

-- a send that fits a finder which names its source is of that rank
fits_source : (q u v : ℕ) (x : Option Message) (b : Pattern) → b.source ≡ Some q → fits_between u x v (Some b) ≡ true → u ≡ q
fits_source q u v None b e h = absurd (cc)
fits_source q u v (Some x) b e h =
    let covered : covers b.source u ≡ true = (and_true (x.destination == v && x.communicator == b.communicator) (covers b.source u) (and_true (x.destination == v && x.communicator == b.communicator && covers b.source u) (covers b.tag x.tag) h).0).1 in
    sym (eqb-true q u (subst (λ (z : Option ℕ). covers z u ≡ true) e covered))

fit_one_rank : (o u : Option Call) (call : Call) (b : Pattern) (q : ℕ) → pattern_of call.kind ≡ Some b → b.source ≡ Some q → both_hold fits o (Some call) ≡ true → both_hold fits u (Some call) ≡ true → both_hold have_one_rank o u ≡ true
fit_one_rank None u call b q is e one two = absurd (cc)
fit_one_rank (Some o) None call b q is e one two = absurd (cc)
fit_one_rank (Some o) (Some u) call b q is e one two =
    let first : o.rank ≡ q = fits_source q o.rank call.rank (message_of o.kind) b e (subst (λ (z : Option Pattern). fits_between o.rank (message_of o.kind) call.rank z ≡ true) is one) in
    let second : u.rank ≡ q = fits_source q u.rank call.rank (message_of u.kind) b e (subst (λ (z : Option Pattern). fits_between u.rank (message_of u.kind) call.rank z ≡ true) is two) in
    eq-eqb u.rank o.rank (second ∙ sym first)

pub named_cannot_race : (p : MpiProgram) (block : Blocks) (f : ℕ) (call : Call) (b : Pattern) (q : ℕ) → AreSpans p block → call_at p f ≡ Some call → pattern_of call.kind ≡ Some b → b.source ≡ Some q → IsSingle block f → CannotRace p block f
named_cannot_race p block f call b q spans there is e single own other mine fit (inl apart) =
    absurd (let one = fit_one_rank (call_at p own) (call_at p other) call b q is e (subst (λ (o : Option Call). both_hold fits (call_at p own) o ≡ true) there mine) (subst (λ (o : Option Call). both_hold fits (call_at p other) o ≡ true) there fit) in cc (one, apart))
named_cannot_race p block f call b q spans there is e single own other mine fit (inr w) = no_fellow p block f spans single w

-- ---- one call more

still_there : {X : Type 0} (xs : List X) (y x : X) (i : ℕ) → slice_get xs i ≡ Some x → slice_get (xs ++ y ∷ []) i ≡ Some x
still_there [] y x i h = absurd (cc)
still_there (z ∷ xs) y x zero h = h
still_there (z ∷ xs) y x (suc i) h = still_there xs y x i h

pushed_there : {X : Type 0} (xs : List X) (y : X) → slice_get (xs ++ y ∷ []) (length xs) ≡ Some y
pushed_there [] y = refl
pushed_there (x ∷ xs) y = pushed_there xs y

in_push : {X : Type 0} (xs : List X) (y x : X) (i : ℕ) → slice_get (xs ++ y ∷ []) i ≡ Some x → (slice_get xs i ≡ Some x) ⊎ ((i ≡ length xs) × (y ≡ x))
in_push [] y x zero h = inr (refl, cc (h))
in_push [] y x (suc i) h = absurd (cc (h))
in_push (z ∷ xs) y x zero h = inl h
in_push (z ∷ xs) y x (suc i) h = elim (in_push xs y x i h) [ inl old ↦ inl old | inr w ↦ inr (let e = w.0 in omega (arith, e), w.1) ]

which : (a b : ℕ) → (a ≡ b) ⊎ (a ≡ b → ⊥)
which a b =
    elim (cases_lt a b) [
      | inl lt ↦ inr (λ e. omega (arith, lt, e))
      | inr ge ↦
          elim (cases_lt b a) [
            | inl gt ↦ inr (λ e. omega (arith, gt, e))
            | inr le ↦ inl (omega (arith, ge, le))
          ]
    ]

rising_push : (xs : List ℕ) (n : ℕ) → IsRising xs → ((i f : ℕ) → slice_get xs i ≡ Some f → f < n) → IsRising (xs ++ n ∷ [])
rising_push xs n rise below i j x y lt a b =
    elim (in_push xs n y j b) [
      | inl there ↦
          elim (in_push xs n x i a) [
            | inl here ↦ rise i j x y lt here there
            | inr w ↦ let e = w.0 in let within : j < length xs = slice_get_within xs j y there in omega (arith, e, lt, within)
          ]
      | inr v ↦
          elim (in_push xs n x i a) [
            | inl here ↦ let e = v.1 in let small : x < n = below i x here in omega (arith, e, small)
            | inr w ↦ let e = w.0 in let d = v.0 in omega (arith, e, d, lt)
          ]
    ]

pub group_below : (n : ℕ) (o : Option Call) → 0 < n → group_of_call n o < n
group_below zero o some = omega (arith, some)
group_below (suc n) None some = some
group_below (suc n) (Some call) some = by (pattern_of call.kind)
  where
    by : (b : Option Pattern) → group_of_pattern (suc n) call.rank b < suc n
    by None = some
    by (Some b) = mod_below (mix (mix call.rank b.communicator) (told b.tag)) (suc n) some

module _ (old new : List (Vec ℕ)) (k n : ℕ) (put : IsPutIn old k n new) (small : k < length old) where
  content : (g : ℕ) → (group_at new g ≡ group_at old g) ⊎ ((g ≡ k) × (group_at new g ≡ group_at old g ++ n ∷ []))
  content g =
      elim (which g k) [
        | inl at ↦ inr (at, subst (λ (z : ℕ). group_at new z ≡ group_at old z ++ n ∷ []) (sym at) (put.there small))
        | inr off ↦ inl (put.others g off)
      ]

  kept : (g i f : ℕ) → slice_get (group_at old g) i ≡ Some f → slice_get (group_at new g) i ≡ Some f
  kept g i f h =
      elim (content g) [
        | inl same ↦ subst (λ (xs : List ℕ). slice_get xs i ≡ Some f) (sym same) h
        | inr w ↦ subst (λ (xs : List ℕ). slice_get xs i ≡ Some f) (sym w.1) (still_there (group_at old g) n f i h)
      ]

  pub new_below : ((g i f : ℕ) → slice_get (group_at old g) i ≡ Some f → f < n) → (g i f : ℕ) → slice_get (group_at new g) i ≡ Some f → f < n + 1
  new_below below g i f h =
      elim (content g) [
        | inl same ↦ let lt : f < n = below g i f (subst (λ (xs : List ℕ). slice_get xs i ≡ Some f) same h) in omega (arith, lt)
        | inr w ↦
            elim (in_push (group_at old g) n f i (subst (λ (xs : List ℕ). slice_get xs i ≡ Some f) w.1 h)) [
              | inl there ↦ let lt : f < n = below g i f there in omega (arith, lt)
              | inr v ↦ let e = v.1 in omega (arith, e)
            ]
      ]

  pub new_rising : ((g i f : ℕ) → slice_get (group_at old g) i ≡ Some f → f < n) → ((g : ℕ) → IsRising (group_at old g)) → (g : ℕ) → IsRising (group_at new g)
  new_rising below rise g =
      elim (content g) [
        | inl same ↦ subst IsRising (sym same) (rise g)
        | inr w ↦ subst IsRising (sym w.1) (rising_push (group_at old g) n (rise g) (below g))
      ]

  pub still_placed : (p : MpiProgram) (f : ℕ) → IsPlaced p old f → IsPlaced p new f
  still_placed p f w =
      record {
        place = w.place;
        there =
            subst (λ (z : ℕ). slice_get (group_at new (group_of_call z (call_at p f))) w.place ≡ Some f) (sym put.size)
            (kept (group_of_call (length old) (call_at p f)) w.place f w.there);
      }

  pub now_placed : (p : MpiProgram) → k ≡ group_of_call (length old) (call_at p n) → IsPlaced p new n
  now_placed p is =
      record {
        place = length (group_at old k);
        there =
            subst (λ (z : ℕ). slice_get (group_at new (group_of_call z (call_at p n))) (length (group_at old k)) ≡ Some n) (sym put.size)
            (subst (λ (z : ℕ). slice_get (group_at new z) (length (group_at old k)) ≡ Some n) is
            (subst (λ (xs : List ℕ). slice_get xs (length (group_at old k)) ≡ Some n) (sym (put.there small)) (pushed_there (group_at old k) n)));
      }

pub also_listed : (p : MpiProgram) (block : Blocks) (n k : ℕ) (old new : List (Vec ℕ)) → k ≡ group_of_call (length old) (call_at p n) → IsPutIn old k n new → AreGroupedUpTo p block n old → AreGroupedUpTo p block (n + 1) new
also_listed p block n k old new is put known =
    let small : k < length old = subst (λ (z : ℕ). z < length old) (sym is) (group_below (length old) (call_at p n) known.some) in
    record {
      some = (let some = known.some in let size = put.size in omega (arith, some, size));
      each = λ f lt.
          elim (cases_lt f n) [
            | inl below ↦
                elim (known.each f below) [
                  | inl never ↦ inl never
                  | inr w ↦ inr (still_placed old new k n put small p f w)
                ]
            | inr ge ↦ let at : n ≡ f = omega (arith, ge, lt) in inr (subst (IsPlaced p new) at (now_placed old new k n put small p is))
          ];
      below = new_below old new k n put small known.below;
      rising = new_rising old new k n put small known.below known.rising;
    }

pub not_listed : (p : MpiProgram) (block : Blocks) (n : ℕ) (groups : List (Vec ℕ)) → CannotRace p block n → AreGroupedUpTo p block n groups → AreGroupedUpTo p block (n + 1) groups
not_listed p block n groups never known =
    record {
      some = known.some;
      each = λ f lt.
          elim (cases_lt f n) [
            | inl below ↦ known.each f below
            | inr ge ↦ let at : n ≡ f = omega (arith, ge, lt) in inl (subst (CannotRace p block) at never)
          ];
      below = λ g i f h. let lt : f < n = known.below g i f h in omega (arith, lt);
      rising = known.rising;
    }

pub none_listed : (p : MpiProgram) (block : Blocks) (groups : List (Vec ℕ)) → AreEmptyGroups groups → AreGroupedUpTo p block 0 groups
none_listed p block groups none =
    record {
      some = none.some;
      each = λ f lt. absurd (omega (arith, lt));
      below = λ g i f h. absurd (let e = subst (λ (xs : List ℕ). slice_get xs i ≡ Some f) (none.empty g) h in cc (e));
      rising = λ g i j x y lt a b. absurd (let e = subst (λ (xs : List ℕ). slice_get xs i ≡ Some x) (none.empty g) a in cc (e));
    }

pub all_listed : (p : MpiProgram) (block : Blocks) (n : ℕ) (groups : List (Vec ℕ)) → length p.calls ≤ n → AreGroupedUpTo p block n groups → IsListing p block groups
all_listed p block n groups all known =
    record {
      each = λ f.
          elim (cases_lt f n) [
            | inl below ↦ known.each f below
            | inr ge ↦ inl (λ own other mine fit which. omega (arith, all, ge, fits_within p other f fit))
          ];
      rising = known.rising;
    }

-- ---- parting a list that rises

pub rising_sorted : (xs : List ℕ) → IsRising xs → IsNonDecreasingBy (λ y. y) xs
rising_sorted xs rise i j d le within =
    elim (cases_lt i j) [
      | inl lt ↦ let below : get_or xs i d < get_or xs j d = rise i j (get_or xs i d) (get_or xs j d) lt (slice_get-get_or xs i d (omega (arith, lt, within))) (slice_get-get_or xs j d within) in omega (arith, below)
      | inr ge ↦ let same : i ≡ j = omega (arith, le, ge) in subst (λ (z : ℕ). get_or xs i d ≤ get_or xs z d) same (omega arith)
    ]

pub parted : (xs : List ℕ) (call place : ℕ) → place ≤ length xs → IsPartitionPoint (λ y. ltb y call ≡ true) (λ y. ltb y call ≡ false) xs place → IsParting xs call place
parted xs call place bound point =
    record {
      before = λ i f below there. subst (λ (z : ℕ). z < call) (get_or_from_slice_get xs i f 0 there) (ltb-true (get_or xs i 0) call (point.0 i 0 (omega arith) below));
      behind = λ i f from there.
          subst (λ (z : ℕ). call ≤ z) (get_or_from_slice_get xs i f 0 there)
          (ltb-false (get_or xs i 0) call (point.1 i 0 from (slice_get_within xs i f there)));
    }

-- ---- covers

pub counted : (ns : Numbering) (known : ℕ → Bool) (calls : List ℕ) (own : List Cover) (m : ℕ) (count : Count) → AreCoversOf ns calls own → IsCountedAt own m count → IsCount ns known count.column count.count → (i f : ℕ) → i < m + 1 → slice_get calls i ≡ Some f → known f ≡ true
counted ns known calls own m count are at counts i f upto there =
    let w : IsNumbered ns count.column at.cover.last f = subst (λ (z : ℕ). IsNumbered ns z at.cover.last f) at.column (are m at.cover at.there at.is_one i f (omega (arith, upto)) there) in
    counts w.number f w.from (let upto = w.upto in let small = at.last in omega (arith, upto, small)) w.there

pub covers_push : (ns : Numbering) (calls : List ℕ) (covers new : List Cover) (cover : Cover) (n : ℕ) → length covers ≡ n → new ≡ covers ++ cover ∷ [] → IsCover ns calls n cover → AreCoversOf ns calls covers → AreCoversOf ns calls new
covers_push ns calls covers new cover n size is last are m c there =
    elim (in_push covers cover c m (subst (λ (z : List Cover). slice_get z m ≡ Some c) is there)) [
      | inl old ↦ are m c old
      | inr w ↦ subst (λ (z : Cover). IsCover ns calls m z) w.1 (subst (λ (z : ℕ). IsCover ns calls z cover) (sym size ∙ sym w.0) last)
    ]

pub numbered_more : (ns : Numbering) (column last more f : ℕ) → last ≤ more → IsNumbered ns column last f → IsNumbered ns column more f
numbered_more ns column last more f le w = record { number = w.number; from = w.from; upto = (let upto = w.upto in omega (arith, upto, le)); there = w.there }

wider : (ns : Numbering) (one wide : Cover) (f : ℕ) → IsWider one wide → IsNumbered ns one.column one.last f → IsNumbered ns wide.column wide.last f
wider ns one wide f w h = subst (λ (z : ℕ). IsNumbered ns z wide.last f) (sym w.column) (numbered_more ns one.column one.last wide.last f w.last h)

pub first_cover : (ns : Numbering) (calls : List ℕ) (place x : ℕ) (own : Cover) → place ≡ 0 → slice_get calls place ≡ Some x → (own.is_one ≡ true → IsNumbered ns own.column own.last x) → IsCover ns calls place own
first_cover ns calls place x own none at is one i f upto there =
    let same : i ≡ place = omega (arith, none, upto) in
    let e = subst (λ (k : ℕ). slice_get calls k ≡ Some f) same there in
    subst (IsNumbered ns own.column own.last) (same_some x f (sym at ∙ e)) (is one)

pub next_cover : (ns : Numbering) (calls : List ℕ) (place x : ℕ) (before own wide : Cover) → ((i : ℕ) → i + 1 ≡ place → IsCover ns calls i before) → (place ≡ 0 → ⊥) → slice_get calls place ≡ Some x → (own.is_one ≡ true → IsNumbered ns own.column own.last x) → (wide.is_one ≡ true → IsWider before wide × IsWider own wide) → IsCover ns calls place wide
next_cover ns calls zero x before own wide all some at is widens one i f upto there = absurd (some refl)
next_cover ns calls (suc k) x before own wide all some at is widens one i f upto there =
    let w = widens one in
    elim (cases_lt i (suc k)) [
      | inl lt ↦ wider ns before wide f w.0 (all k (omega arith) w.0.is_one i f (omega (arith, lt)) there)
      | inr ge ↦
          let same : i ≡ suc k = omega (arith, ge, upto) in
          let e = subst (λ (z : ℕ). slice_get calls z ≡ Some f) same there in
          subst (IsNumbered ns wide.column wide.last) (same_some x f (sym at ∙ e)) (wider ns own wide x w.1 (is w.1.is_one))
    ]

pub groups_push : (ns : Numbering) (groups : List (Vec ℕ)) (covers new : List (Vec Cover)) (v : Vec Cover) (n : ℕ) → length covers ≡ n → new ≡ covers ++ v ∷ [] → AreCoversOf ns (group_at groups n) v.items → AreCovers ns groups covers → AreCovers ns groups new
groups_push ns groups covers new v n size is last are m c there =
    elim (in_push covers v c m (subst (λ (z : List (Vec Cover)). slice_get z m ≡ Some c) is there)) [
      | inl old ↦ are m c old
      | inr w ↦ subst (λ (z : Vec Cover). AreCoversOf ns (group_at groups m) z.items) w.1 (subst (λ (z : ℕ). AreCoversOf ns (group_at groups z) v.items) (sym size ∙ sym w.0) last)
    ]

pub covers_of_group : (ns : Numbering) (groups : List (Vec ℕ)) (own : List (Vec Cover)) (g : ℕ) → AreCovers ns groups own → AreCoversOf ns (group_at groups g) (covers_at own g)
covers_of_group ns groups own g are = by (slice_get own g) refl
  where
    by : (o : Option (Vec Cover)) → slice_get own g ≡ o → AreCoversOf ns (group_at groups g) (covers_in o)
    by None is = λ place cover there. absurd (cc (there))
    by (Some v) is = are g v is

push_empty : (groups : List (Vec ℕ)) (v : Vec ℕ) → ((g : ℕ) → group_at groups g ≡ []) → v.items ≡ [] → (g : ℕ) → group_at (groups ++ v ∷ []) g ≡ []
push_empty [] v all none zero = none
push_empty [] v all none (suc g) = refl
push_empty (x ∷ xs) v all none zero = all zero
push_empty (x ∷ xs) v all none (suc g) = push_empty xs v (λ k. all (suc k)) none g

pub first_empty : (groups new : List (Vec ℕ)) (v : Vec ℕ) → groups ≡ [] → v.items ≡ [] → new ≡ groups ++ v ∷ [] → AreEmptyGroups new
first_empty groups new v none is pushed =
    subst AreEmptyGroups (sym (pushed ∙ ap (λ (z : List (Vec ℕ)). z ++ v ∷ []) none)) (record { some = omega arith; empty = push_empty [] v (λ g. refl) is })

pub more_empty : (groups new : List (Vec ℕ)) (v : Vec ℕ) → AreEmptyGroups groups → v.items ≡ [] → new ≡ groups ++ v ∷ [] → AreEmptyGroups new
more_empty groups new v known is pushed =
    subst AreEmptyGroups (sym pushed) (record { some = omega (arith, length_push groups v); empty = push_empty groups v known.empty is })

pub single_if : (b : Bool) → not b ≡ false → b ≡ true
single_if true h = refl
single_if false h = sym h

-- ---- partners of all calls

below_push : {X : Type 0} (xs : List X) (y : X) (c : ℕ) → c < length xs → slice_get (xs ++ y ∷ []) c ≡ slice_get xs c
below_push [] y c lt = absurd (omega (arith, lt))
below_push (x ∷ xs) y zero lt = refl
below_push (x ∷ xs) y (suc c) lt = below_push xs y c (omega (arith, lt))

past_none : {X : Type 0} (xs : List X) (c : ℕ) → length xs ≤ c → slice_get xs c ≡ None
past_none [] c le = refl
past_none (x ∷ xs) zero le = absurd (omega (arith, le))
past_none (x ∷ xs) (suc c) le = past_none xs c (omega (arith, le))

-- where each call is single, those before the bound have their partners of the configuration
abbrev pub ArePartners : Blocks → Configuration → ℕ → List (Option ℕ) → Type 0
ArePartners block e n partners = ((c : ℕ) → IsSingle block c) → (c : ℕ) → c < n → partner_of (with_partners partners) c ≡ partner_of e c

pub one_more_partner : (block : Blocks) (e : Configuration) (old new : List (Option ℕ)) (n : ℕ) (v : Option ℕ) → length old ≡ n → new ≡ old ++ v ∷ [] → ArePartners block e n old → (((c : ℕ) → IsSingle block c) → v ≡ partner_of e n) → ArePartners block e (n + 1) new
one_more_partner block e old new n v size is known last single c lt =
    subst (λ (z : List (Option ℕ)). partner_of (with_partners z) c ≡ partner_of e c) (sym is)
    (elim (cases_lt c n) [
      | inl below ↦ ap (λ (o : Option (Option ℕ)). unwrap_or o None) (below_push old v c (omega (arith, below, size))) ∙ known single c below
      | inr ge ↦
          let at : length old ≡ c = omega (arith, size, ge, lt) in
          subst (λ (z : ℕ). partner_of (with_partners (old ++ v ∷ [])) z ≡ partner_of e z) at
          (ap (λ (o : Option (Option ℕ)). unwrap_or o None) (pushed_there old v) ∙ last single ∙ ap (partner_of e) (sym size))
    ])

pub all_partners : (p : MpiProgram) (block : Blocks) (e : Configuration) (partners : List (Option ℕ)) (n : ℕ) → length partners ≡ n → length p.calls ≤ n → length e.partner ≡ length p.calls → ArePartners block e n partners → ((c : ℕ) → IsSingle block c) → (c : ℕ) → partner_of (with_partners partners) c ≡ partner_of e c
all_partners p block e partners n size all of known single c =
    elim (cases_lt c n) [
      | inl below ↦ known single c below
      | inr ge ↦ ap (λ (o : Option (Option ℕ)). unwrap_or o None) (past_none partners c (omega (arith, size, ge)) ∙ sym (past_none e.partner c (omega (arith, of, all, ge))))
    ]
