-- Which ranks may finish too early: what partners that are sure tell, all of it.
use Rattle.std.proofs.Common.{◌≡◌, ◌↔◌, ℕ, zero, suc, ◌+◌, ◌<◌, ◌≤◌, ◌⊎◌, inl, inr, Bool, true, false, cond, ◌==◌, List, [], ◌∷◌, ◌++◌, Option, Some, None, is_some, length, map, get_or, slice_get, refl, sym, ap, ◌∙◌, subst, arith}
use Rattle.std.specs.Option.{option_map}
use Rattle.std.proofs.lemmas.Bool.{cases_eq, eqb-true, eq-eqb}
use Rattle.std.proofs.lemmas.List.{length-map}
use Rattle.std.proofs.lemmas.Option.{same_Some, slice_get_within, slice_get-map, get_or_from_slice_get}
use Rattle.interning.specs.LastPlaces.{holds, last_below}
use Rattle.interning.specs.Places.{holds_at, AreBelow, IsTable}
use Rattle.interning.proofs.Places.{last_below_is_last}
use Rattle.callorder.specs.declared.calls.Call.{Call}
use Rattle.callorder.specs.declared.calls.Pattern.{Pattern}
use Rattle.callorder.specs.Calls.{pattern_of}
use Rattle.callorder.specs.Programs.{MpiProgram, call_at, is_of_rank}
use Rattle.callorder.proofs.Lookups.{slice_get_of_append}
use Rattle.semantics.specs.Machine.{Configuration}
use Rattle.run_laws.specs.Laws.{IsInRankOrder}
use Rattle.races.specs.Races.{MatchesWithin}
use Rattle.races.specs.Tells.{Table, tells_return_call, IsJustified}
use Rattle.knowledge.specs.Knowledge.{column_table, with_partners}
use Rattle.knowledge.proofs.Less.{Within, or_both}
use Rattle.sealing.specs.declared.loose.Loose.{Loose}
use Rattle.sealing.specs.declared.ends.Findings.{Findings}
use Rattle.sealing.specs.declared.finders.Finder.{Finder}
use Rattle.sealing.specs.Sealing.{HasSurePartners, IsOfAnySource, IsUntold, IsLoose, AreLoose}
use Rattle.sealing.specs.parts.Sides.{HasAllSure}
use Rattle.sealing.specs.parts.Ends.{IsLastCall, AreLasts, AreFindings, tells_end, tells_finish, finder_with, finder_there, finder_at, sent_to, ListsEntry, IsUntoldBelow, GainsEntries, IsLooseBelow, AreLooseBelow}
use Rattle.sealing.proofs.More.{return_more, justified_more}
use Rattle.sealing.proofs.Numbered.{unless}

-- ---- the last calls

abbrev pub rank_of : Call → Option ℕ
rank_of call = Some call.rank

call_there : (calls : List Call) (c : ℕ) → c < length calls → (call : Call) × (slice_get calls c ≡ Some call)
call_there [] c below = absurd (omega (arith, below))
call_there (x ∷ calls) zero below = (x, refl)
call_there (x ∷ calls) (suc c) below = call_there calls c (omega (arith, below))

pub ranks_below : (p : MpiProgram) (ranks : List (Option ℕ)) → ranks ≡ map rank_of p.calls
    → ((c : ℕ) (call : Call) → slice_get p.calls c ≡ Some call → call.rank < p.ranks) → AreBelow p.ranks ranks
ranks_below p ranks is below place number at =
    let here = sym (slice_get-map rank_of p.calls place) ∙ ap (λ (z : List (Option ℕ)). slice_get z place) (sym is) ∙ at in
    by (slice_get p.calls place) refl here
  where
    by : (o : Option Call) → slice_get p.calls place ≡ o → option_map rank_of o ≡ Some (Some number) → number < p.ranks
    by None there e = absurd (cc)
    by (Some call) there e = subst (λ (z : ℕ). z < p.ranks) (same_Some call.rank number (same_Some (Some call.rank) (Some number) e)) (below place call there)

held : (p : MpiProgram) (ranks : List (Option ℕ)) (rank c : ℕ) (call : Call) → ranks ≡ map rank_of p.calls → slice_get p.calls c ≡ Some call
    → holds_at ranks rank c ≡ (call.rank == rank)
held p ranks rank c call is there =
    ap (λ (z : Option ℕ). holds z rank)
    (get_or_from_slice_get ranks c (Some call.rank) None
    (ap (λ (z : List (Option ℕ)). slice_get z c) is ∙ slice_get-map rank_of p.calls c ∙ ap (option_map rank_of) there))

module _ (p : MpiProgram) (ranks lasts : List (Option ℕ)) (order : IsInRankOrder p) (is : ranks ≡ map rank_of p.calls)
    (table : IsTable p.ranks (λ (rank : ℕ). last_below (holds_at ranks rank) (length ranks)) lasts) where
  many : length ranks ≡ length p.calls
  many = ap (λ (z : List (Option ℕ)). length z) is ∙ length-map p.calls rank_of

  none_behind : (rank last : ℕ) (o : Option Call) → call_at p (last + 1) ≡ o → ((q : ℕ) → last < q → q < length ranks → holds_at ranks rank q ≡ false)
      → is_of_rank o rank ≡ false
  none_behind rank last None at later = refl
  none_behind rank last (Some y) at later =
      let within = slice_get_within p.calls (last + 1) y at in
      let n = many in
      sym (held p ranks rank (last + 1) y is at) ∙ later (last + 1) (omega arith) (omega (arith, n, within))

  last_so : (rank last : ℕ) → rank < p.ranks → get_or lasts rank None ≡ Some last → IsLastCall p rank last
  last_so rank last below e =
      let w = (last_below_is_last (holds_at ranks rank) (length ranks) (Some last)).0 (sym (table.entries rank below) ∙ e) in
      let call = call_there p.calls last (let low = w.0 in let n = many in omega (arith, n, low)) in
      record {
        call = call.0;
        there = call.1;
        own = eqb-true call.0.rank rank (sym (held p ranks rank last call.0 is call.1) ∙ w.1);
        none = none_behind rank last (call_at p (last + 1)) refl w.2;
      }

  -- no later call is of the rank
  later_off : (rank last : ℕ) (l : IsLastCall p rank last) (q : ℕ) → last < q → q < length ranks → holds_at ranks rank q ≡ false
  later_off rank last l q behind within =
      let z = call_there p.calls q (let n = many in omega (arith, n, within)) in
      let y = call_there p.calls (last + 1) (let n = many in omega (arith, n, behind, within)) in
      let first : l.call.rank ≤ y.0.rank = order last (last + 1) l.call y.0 (omega arith) l.there y.1 in
      let second : y.0.rank ≤ z.0.rank = order (last + 1) q y.0 z.0 (omega (arith, behind)) y.1 z.1 in
      let off : (y.0.rank == rank) ≡ false = sym (ap (λ (o : Option Call). is_of_rank o rank) y.1) ∙ l.none in
      let own = l.own in
      held p ranks rank q z.0 is z.1 ∙ unless (z.0.rank == rank) (λ on.
      let same = eqb-true z.0.rank rank on in
      let next : (y.0.rank == rank) ≡ true = eq-eqb y.0.rank rank (omega (arith, first, second, own, same)) in
      cc (next, off))

  each_so : (rank last : ℕ) → rank < p.ranks → IsLastCall p rank last → get_or lasts rank None ≡ Some last
  each_so rank last below l =
      table.entries rank below ∙ (last_below_is_last (holds_at ranks rank) (length ranks) (Some last)).1 (
        let within = slice_get_within p.calls last l.call l.there in let n = many in omega (arith, n, within),
        held p ranks rank last l.call is l.there ∙ eq-eqb l.call.rank rank l.own,
        later_off rank last l,
      )

  pub lasts_so : AreLasts p lasts
  lasts_so = record { last = last_so; each = each_so }

-- ---- what is told

pub sure_within : (p : MpiProgram) (m e : Configuration) → HasSurePartners p m → HasAllSure p e → MatchesWithin m e
sure_within p m e sure all c x is =
    elim (sure c x is) [
      | inl k ↦ (all x c k).1
      | inr k ↦ (all c x k).0
    ]

-- the column of a finder is all that partners tell of it which are sure
pub record IsAllTold (p : MpiProgram) (e : Configuration) (f : ℕ) (known : List Bool) : Type 0 where
  pub justified : IsJustified p e (column_table f known)
  pub greatest : (knows : Table) → IsJustified p e knows → (c : ℕ) → knows c f ≡ true → column_table f known c f ≡ true

module _ (p : MpiProgram) (e : Configuration) (known : List Bool) (lasts : List (Option ℕ)) (f : ℕ) (sure : HasSurePartners p e) (all : HasAllSure p e)
    (are : AreLasts p lasts) (told : IsAllTold p e f known) where
  pub untold_so : (rank : ℕ) → rank < p.ranks → tells_end p e (column_table f known) f (get_or lasts rank None) ≡ false → IsUntold p rank f
  untold_so rank below off m knows sure_too justified tells =
      let within = sure_within p m e sure_too all in
      let more = justified_more p m e knows within justified in
      let less : Within f knows (column_table f known) = told.greatest knows more in
      let last = are.each rank tells.last below (record { call = tells.call; there = tells.there; own = tells.own; none = tells.none }) in
      let on : tells_end p e (column_table f known) f (Some tells.last) ≡ true =
      or_both (knows tells.last f) (tells_return_call p m knows tells.last (call_at p tells.last) f) (column_table f known tells.last f)
      (tells_return_call p e (column_table f known) tells.last (call_at p tells.last) f)
      (less tells.last) (return_more p m e knows (column_table f known) f within less tells.last (call_at p tells.last)) tells.tells in
      let not_on = sym (ap (tells_end p e (column_table f known) f) last) ∙ off in
      cc (on, not_on)

  pub told_off : (rank : ℕ) → rank < p.ranks → IsUntold p rank f → tells_end p e (column_table f known) f (get_or lasts rank None) ≡ false
  told_off rank below untold = unless (tells_end p e (column_table f known) f (get_or lasts rank None)) (by (get_or lasts rank None) refl)
    where
      by : (o : Option ℕ) → get_or lasts rank None ≡ o → tells_end p e (column_table f known) f o ≡ true → ⊥
      by None is on = cc
      by (Some last) is on =
          let l = are.last rank last below is in
          untold e (column_table f known) sure told.justified (record { last = last; call = l.call; there = l.there; own = l.own; none = l.none; tells = on })

-- ---- lists of what is loose

pub listed_more : (list : List Loose) (one entry : Loose) → ListsEntry (list ++ one ∷ []) entry ↔ (ListsEntry list entry ⊎ (entry ≡ one))
listed_more list one entry = (there, back)
  where
    only : (k : ℕ) → slice_get (one ∷ []) k ≡ Some entry → entry ≡ one
    only zero e = sym (same_Some one entry e)
    only (suc k) e = absurd (cc)

    there : ListsEntry (list ++ one ∷ []) entry → ListsEntry list entry ⊎ (entry ≡ one)
    there w = elim (slice_get_of_append list (one ∷ []) w.0 entry w.1) [
      | inl first ↦ inl (w.0, first.0)
      | inr second ↦ inr (only second.0 second.2)
    ]

    front : (xs ys : List Loose) (k : ℕ) → slice_get xs k ≡ Some entry → slice_get (xs ++ ys) k ≡ Some entry
    front [] ys k e = absurd (cc)
    front (x ∷ xs) ys zero e = e
    front (x ∷ xs) ys (suc k) e = front xs ys k e

    end : (xs : List Loose) → slice_get (xs ++ one ∷ []) (length xs) ≡ Some one
    end [] = refl
    end (x ∷ xs) = end xs

    back : ListsEntry list entry ⊎ (entry ≡ one) → ListsEntry (list ++ one ∷ []) entry
    back (inl w) = (w.0, front list (one ∷ []) w.0 w.1)
    back (inr same) = (length list, end list ∙ ap Some (sym same))

module _ (p : MpiProgram) (findings : Findings) (known : List Bool) (finder : Finder) (old : List Loose) where
  -- the rank n is told
  pub told_passed : (n : ℕ) (list : List Loose) → tells_finish p findings known finder.place n ≡ true
      → GainsEntries old list (IsUntoldBelow p findings known finder n) → GainsEntries old list (IsUntoldBelow p findings known finder (n + 1))
  told_passed n list on adds entry = (there, back)
    where
      there : ListsEntry list entry → ListsEntry old entry ⊎ IsUntoldBelow p findings known finder (n + 1) entry
      there w = elim ((adds entry).0 w) [
        | inl v ↦ inl v
        | inr u ↦ inr (record { rank = u.rank; below = let low = u.below in omega (arith, low); untold = u.untold; is = u.is })
      ]

      lower : (u : IsUntoldBelow p findings known finder (n + 1) entry) → (u.rank ≡ n) ⊎ (u.rank ≡ n → ⊥) → IsUntoldBelow p findings known finder n entry
      lower u (inl same) = absurd (
          let off = sym (ap (tells_finish p findings known finder.place) same) ∙ u.untold in
          cc (on, off))
      lower u (inr differ) = record { rank = u.rank; below = let low = u.below in omega (arith, low, differ); untold = u.untold; is = u.is }

      back : ListsEntry old entry ⊎ IsUntoldBelow p findings known finder (n + 1) entry → ListsEntry list entry
      back (inl w) = (adds entry).1 (inl w)
      back (inr u) = (adds entry).1 (inr (lower u (cases_eq u.rank n)))

  -- the rank n isn't
  pub untold_added : (n : ℕ) (list : List Loose) → tells_finish p findings known finder.place n ≡ false
      → GainsEntries old list (IsUntoldBelow p findings known finder n)
      → GainsEntries old (list ++ sent_to n finder ∷ []) (IsUntoldBelow p findings known finder (n + 1))
  untold_added n list off adds entry = (there, back)
    where
      there : ListsEntry (list ++ sent_to n finder ∷ []) entry → ListsEntry old entry ⊎ IsUntoldBelow p findings known finder (n + 1) entry
      there w = elim ((listed_more list (sent_to n finder) entry).0 w) [
        | inl v ↦ elim ((adds entry).0 v) [
          | inl before ↦ inl before
          | inr u ↦ inr (record { rank = u.rank; below = let low = u.below in omega (arith, low); untold = u.untold; is = u.is })
        ]
        | inr same ↦ inr (record { rank = n; below = omega arith; untold = off; is = same })
      ]

      again : (u : IsUntoldBelow p findings known finder (n + 1) entry) → (u.rank ≡ n) ⊎ (u.rank ≡ n → ⊥) → ListsEntry list entry ⊎ (entry ≡ sent_to n finder)
      again u (inl same) = inr (u.is ∙ ap (λ (z : ℕ). sent_to z finder) same)
      again u (inr differ) =
          inl ((adds entry).1 (inr (record { rank = u.rank; below = let low = u.below in omega (arith, low, differ); untold = u.untold; is = u.is })))

      back : ListsEntry old entry ⊎ IsUntoldBelow p findings known finder (n + 1) entry → ListsEntry (list ++ sent_to n finder ∷ []) entry
      back (inl w) = (listed_more list (sent_to n finder) entry).1 (inl ((adds entry).1 (inl w)))
      back (inr u) = (listed_more list (sent_to n finder) entry).1 (again u (cases_eq u.rank n))

-- ---- finders

abbrev pub finder_as : ℕ → Call → Pattern → Finder
finder_as place call pattern = record { place = place; rank = call.rank; communicator = pattern.communicator; tag = pattern.tag }

pub record IsFinderAt (p : MpiProgram) (f : ℕ) (finder : Finder) : Type 0 where
  pub call : Call
  pub pattern : Pattern
  pub is : IsOfAnySource p f call pattern
  pub same : finder ≡ finder_as f call pattern

pub finder_made : (p : MpiProgram) (f : ℕ) (call : Call) (pattern : Pattern) → IsOfAnySource p f call pattern → finder_at p f ≡ Some (finder_as f call pattern)
finder_made p f call pattern is =
    ap (finder_there f) is.there ∙ ap (finder_with f call.rank) is.finds
    ∙ ap (λ (z : Option ℕ). cond (is_some z) None (Some (finder_as f call pattern))) is.any

pub finder_is : (p : MpiProgram) (f : ℕ) (finder : Finder) → finder_at p f ≡ Some finder → IsFinderAt p f finder
finder_is p f finder e = by_call (call_at p f) refl e
  where
    by_source : (call : Call) (pattern : Pattern) (o : Option ℕ) → call_at p f ≡ Some call → pattern_of call.kind ≡ Some pattern → pattern.source ≡ o
        → cond (is_some o) None (Some (finder_as f call pattern)) ≡ Some finder → IsFinderAt p f finder
    by_source call pattern (Some source) there finds any e = absurd (cc)
    by_source call pattern None there finds any e =
        record {
          call = call;
          pattern = pattern;
          is = record { there = there; finds = finds; any = any };
          same = sym (same_Some (finder_as f call pattern) finder e);
        }

    by_pattern : (call : Call) (o : Option Pattern) → call_at p f ≡ Some call → pattern_of call.kind ≡ o → finder_with f call.rank o ≡ Some finder
        → IsFinderAt p f finder
    by_pattern call None there finds e = absurd (cc)
    by_pattern call (Some pattern) there finds e = by_source call pattern pattern.source there finds refl e

    by_call : (o : Option Call) → call_at p f ≡ o → finder_there f o ≡ Some finder → IsFinderAt p f finder
    by_call None there e = absurd (cc)
    by_call (Some call) there e = by_pattern call (pattern_of call.kind) there refl e

-- ---- one call more

weaker : (p : MpiProgram) (n : ℕ) (entry : Loose) → IsLooseBelow p n entry → IsLooseBelow p (n + 1) entry
weaker p n entry l = record { loose = l.loose; below = let low = l.below in omega (arith, low) }

pub no_finder_more : (p : MpiProgram) (n : ℕ) (list : List Loose) → finder_at p n ≡ None → AreLooseBelow p n list → AreLooseBelow p (n + 1) list
no_finder_more p n list none are entry = (λ w. weaker p n entry ((are entry).0 w), λ l. (are entry).1 (lower l (cases_eq l.loose.f n)))
  where
    lower : (l : IsLooseBelow p (n + 1) entry) → (l.loose.f ≡ n) ⊎ (l.loose.f ≡ n → ⊥) → IsLooseBelow p n entry
    lower l (inl same) =
        let own = finder_made p l.loose.f l.loose.finder l.loose.pattern l.loose.is_finder in
        absurd (let here = sym own ∙ ap (finder_at p) same ∙ none in cc (here))
    lower l (inr differ) = record { loose = l.loose; below = let low = l.below in omega (arith, low, differ) }

module _ (p : MpiProgram) (findings : Findings) (known : List Bool) (n : ℕ) (finder : Finder) (found : AreFindings p findings)
    (told : IsAllTold p (with_partners findings.partners.items) n known) (is_finder : finder_at p n ≡ Some finder) where
  at : IsFinderAt p n finder
  at = finder_is p n finder is_finder

  place_is : finder.place ≡ n
  place_is = ap (λ (z : Finder). z.place) at.same

  told_here : IsAllTold p (with_partners findings.partners.items) finder.place known
  told_here = subst (λ (z : ℕ). IsAllTold p (with_partners findings.partners.items) z known) (sym place_is) told

  untold_there : (rank : ℕ) → rank < p.ranks → tells_finish p findings known finder.place rank ≡ false → IsUntold p rank finder.place
  untold_there = untold_so p (with_partners findings.partners.items) known findings.lasts.items finder.place found.sure found.all found.lasts told_here

  off_there : (rank : ℕ) → rank < p.ranks → IsUntold p rank finder.place → tells_finish p findings known finder.place rank ≡ false
  off_there = told_off p (with_partners findings.partners.items) known findings.lasts.items finder.place found.sure found.all found.lasts told_here

  loose_here : (entry : Loose) → IsUntoldBelow p findings known finder p.ranks entry → IsLooseBelow p (n + 1) entry
  loose_here entry u =
      record {
        loose =
            record {
              f = n;
              rank = u.rank;
              finder = at.call;
              pattern = at.pattern;
              is_finder = at.is;
              in_range = u.below;
              is = u.is ∙ ap (sent_to u.rank) at.same;
              untold = subst (λ (z : ℕ). IsUntold p u.rank z) place_is (untold_there u.rank u.below u.untold);
            };
        below = omega arith;
      }

  untold_here : (entry : Loose) (l : IsLoose p entry) → l.f ≡ n → IsUntoldBelow p findings known finder p.ranks entry
  untold_here entry l same =
      let made = finder_made p l.f l.finder l.pattern l.is_finder in
      let own : finder ≡ finder_as l.f l.finder l.pattern =
      same_Some finder (finder_as l.f l.finder l.pattern) (sym is_finder ∙ ap (finder_at p) (sym same) ∙ made) in
      record {
        rank = l.rank;
        below = l.in_range;
        untold = off_there l.rank l.in_range (subst (λ (z : ℕ). IsUntold p l.rank z) (same ∙ sym place_is) l.untold);
        is = l.is ∙ ap (sent_to l.rank) (sym own);
      }

  pub finder_more : (old new : List Loose) → GainsEntries old new (IsUntoldBelow p findings known finder p.ranks) → AreLooseBelow p n old → AreLooseBelow p (n + 1) new
  finder_more old new adds are entry = (there, back)
    where
      there : ListsEntry new entry → IsLooseBelow p (n + 1) entry
      there w = elim ((adds entry).0 w) [
        | inl v ↦ weaker p n entry ((are entry).0 v)
        | inr u ↦ loose_here entry u
      ]

      back_by : (l : IsLooseBelow p (n + 1) entry) → (l.loose.f ≡ n) ⊎ (l.loose.f ≡ n → ⊥)
          → ListsEntry old entry ⊎ IsUntoldBelow p findings known finder p.ranks entry
      back_by l (inl same) = inr (untold_here entry l.loose same)
      back_by l (inr differ) = inl ((are entry).1 (record { loose = l.loose; below = let low = l.below in omega (arith, low, differ) }))

      back : IsLooseBelow p (n + 1) entry → ListsEntry new entry
      back l = (adds entry).1 (back_by l (cases_eq l.loose.f n))

-- ---- all calls

pub all_loose : (p : MpiProgram) (n : ℕ) (list : List Loose) → length p.calls ≤ n → AreLooseBelow p n list → AreLoose p list
all_loose p n list past are entry = (
  λ w. ((are entry).0 w).loose,
  λ l. (are entry).1 (record { loose = l; below = let within = slice_get_within p.calls l.f l.finder l.is_finder.there in omega (arith, within, past) }),
)
