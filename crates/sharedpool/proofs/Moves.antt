-- Each move of a pass keeps the rule.
use Rattle.std.proofs.Common.{◌≡◌, ◌≢◌, ◌⊎◌, ⊎_elim, ℕ, zero, suc, ◌+◌, ◌<◌, ◌==◌, Bool, true, false, true≢false, if◌then◌else◌, List, [], ◌∷◌, ◌++◌, length, set, inl, inr, refl, sym, ap, ◌∙◌, subst, arith}
use Rattle.std.proofs.lemmas.Bool.Decides.{nat_tests}
use mathlib.Core.Option.{some, some-ne-none, some-injective}
use lib.ListN.{get_elem?}
use Rattle.crossbeam_utils.specs.Register.{Turns, Forks, Merges}
use Rattle.atomic_table.proofs.Lists.{at_set, set_again}
use Rattle.pool.specs.declared.entry.LoggedCall.{LoggedCall}
use Rattle.sharedpool.specs.declared.room.View.{View}
use Rattle.sharedpool.specs.parts.Views.{taker, one_more, next_seat, with_seat, keeper_of, seat_of, with_item, IsFittingView, Kept, Added, Looked, TakenBack}
use Rattle.sharedpool.specs.Views.{items_of, AllBelow, IsNoneOf, AreDifferent, nobody, knower}

off : {A : Type 0} → false ≡ true → A
off e = absurd (true≢false (sym e))

-- items

same_test : (n : ℕ) → (n == n) ≡ true
same_test n = grind (arith, nat_tests)

other_test : (n m : ℕ) → n ≢ m → (n == m) ≡ false
other_test n m apart = grind (arith, nat_tests)

if_push : (b : Bool) (x item : LoggedCall) (items : List LoggedCall) → (if b then x ∷ (items ++ item ∷ []) else (items ++ item ∷ [])) ≡ (if b then x ∷ items else items) ++ item ∷ []
if_push true x item items = refl
if_push false x item items = refl

pub items_of-mine : (worker : ℕ) (items : List LoggedCall) (item : LoggedCall) → item.entry.worker ≡ worker → items_of worker (items ++ item ∷ []) ≡ items_of worker items ++ item ∷ []
items_of-mine worker [] item is = ap (λ b. if b then item ∷ [] else []) (ap (λ n. n == worker) is ∙ same_test worker)
items_of-mine worker (x ∷ items) item is =
    ap (λ l. if x.entry.worker == worker then x ∷ l else l) (items_of-mine worker items item is) ∙ if_push (x.entry.worker == worker) x item (items_of worker items)

pub items_of-other : (worker : ℕ) (items : List LoggedCall) (item : LoggedCall) → item.entry.worker ≢ worker → items_of worker (items ++ item ∷ []) ≡ items_of worker items
items_of-other worker [] item apart = ap (λ b. if b then item ∷ [] else []) (other_test item.entry.worker worker apart)
items_of-other worker (x ∷ items) item apart = ap (λ l. if x.entry.worker == worker then x ∷ l else l) (items_of-other worker items item apart)

items_of-below : (worker : ℕ) (items : List LoggedCall) → AllBelow worker items → items_of worker items ≡ []
items_of-below worker [] below = refl
items_of-below worker (x ∷ items) below =
    ap (λ b. if b then x ∷ items_of worker items else items_of worker items) (other_test x.entry.worker worker (λ e. omega (arith, below.0))) ∙ items_of-below worker items below.1

below-push : (workers : ℕ) (items : List LoggedCall) (item : LoggedCall) → AllBelow workers items → item.entry.worker < workers → AllBelow workers (items ++ item ∷ [])
below-push workers [] item below last = (last, tt)
below-push workers (x ∷ items) item below last = (below.0, below-push workers items item below.1 last)

below-more : (workers : ℕ) (items : List LoggedCall) → AllBelow workers items → AllBelow (workers + 1) items
below-more workers [] below = tt
below-more workers (x ∷ items) below = (omega (arith, below.0), below-more workers items below.1)

-- views

at_snoc : (views : List View) (w u : View) (j : ℕ) → get_elem? (views ++ w ∷ []) j ≡ some u → (get_elem? views j ≡ some u) ⊎ ((j ≡ length views) × (w ≡ u))
at_snoc [] w u zero e = inr (refl, some-injective _ _ e)
at_snoc [] w u (suc j) e = absurd (some-ne-none u (sym e))
at_snoc (v ∷ views) w u zero e = inl e
at_snoc (v ∷ views) w u (suc j) e = ⊎_elim (λ old. inl old) (λ (new : (j ≡ length views) × (w ≡ u)). inr (ap suc new.0, new.1)) (at_snoc views w u j e)

all_set : (F : ℕ → View → Type 0) (views : List View) (port : ℕ) (w : View) → F port w → ((j : ℕ) (u : View) → j ≢ port → get_elem? views j ≡ some u → F j u)
    → (j : ℕ) (u : View) → get_elem? (set views port w) j ≡ some u → F j u
all_set F views port w mine others j u e =
    ⊎_elim (λ (x : (j ≡ port) × (w ≡ u)). subst (λ (y : ℕ × View). F y.0 y.1) (λ i. (sym x.0 i, x.1 i)) mine)
    (λ (x : (j ≢ port) × (get_elem? views j ≡ some u)). others j u x.0 x.1)
    (at_set views port j w u e)

all_snoc : (F : ℕ → View → Type 0) (views : List View) (w : View) → ((j : ℕ) (u : View) → get_elem? views j ≡ some u → F j u) → F (length views) w
    → (j : ℕ) (u : View) → get_elem? (views ++ w ∷ []) j ≡ some u → F j u
all_snoc F views w old new j u e =
    ⊎_elim (λ was. old j u was)
    (λ (x : (j ≡ length views) × (w ≡ u)). subst (λ (y : ℕ × View). F y.0 y.1) (λ i. (sym x.0 i, x.1 i)) new)
    (at_snoc views w u j e)

-- moves

fits_nobody : (keeper workers : ℕ) (all : List LoggedCall) (taken : List ℕ) (place : ℕ → ℕ) (by : ℕ) → IsFittingView keeper workers all taken place by nobody
fits_nobody keeper workers all taken place by = record { keeps = λ e. off e; sits = λ e. off e }

pub begins : (words : List ℕ) → Kept words (knower 0 [] ∷ [])
begins words =
    record {
      keeper = 0;
      workers = 0;
      all = [];
      taken = [];
      place = λ _. 0;
      below = tt;
      different = tt;
      each = one;
    }
  where
    one : (by : ℕ) (v : View) → get_elem? (knower 0 [] ∷ []) by ≡ some v → IsFittingView 0 0 [] [] (λ _. 0) by v
    one zero v e = subst (IsFittingView 0 0 [] [] (λ _. 0) 0) (some-injective _ _ e) (record { keeps = λ _. (refl, refl, refl, refl); sits = λ s. off s })
    one (suc by) v e = absurd (some-ne-none v (sym e))

-- who sits where, once one worker sits in another pass
abbrev moved : ℕ → ℕ → (ℕ → ℕ) → ℕ → ℕ
moved worker to place n = if n == worker then to else place n

moved-here : (worker to : ℕ) (place : ℕ → ℕ) → moved worker to place worker ≡ to
moved-here worker to place = ap (λ b. if b then to else place worker) (same_test worker)

moved-there : (worker to : ℕ) (place : ℕ → ℕ) (n : ℕ) → n ≢ worker → moved worker to place n ≡ place n
moved-there worker to place n apart = ap (λ b. if b then to else place n) (other_test n worker apart)

pub blanks : (by : ℕ) (v : View) → Forks Kept by v v nobody
blanks by v words views h at =
    record {
      keeper = h.keeper;
      workers = h.workers;
      all = h.all;
      taken = h.taken;
      place = h.place;
      below = h.below;
      different = h.different;
      each = all_snoc (IsFittingView h.keeper h.workers h.all h.taken h.place) (set views by v) nobody
          (λ j u e. h.each j u (subst (λ l. get_elem? l j ≡ some u) (set_again views by v at) e))
          (fits_nobody h.keeper h.workers h.all h.taken h.place (length (set views by v)));
    }

pub joins : (by : ℕ) (v : View) (other : ℕ) (u : View) → v.keeps ≡ true → u.sits ≡ true → Merges Kept by v other u (with_seat v u) nobody
joins by v other u keeps sits words views h at apart there =
    let mine = (h.each by v at).keeps keeps in
    let was : get_elem? views other ≡ some u = ⊎_elim (λ (x : (other ≡ by) × (with_seat v u ≡ u)). absurd (apart x.0)) (λ (x : (other ≢ by) × (get_elem? views other ≡ some u)). x.1) (at_set views by other (with_seat v u) u there) in
    let theirs = (h.each other u was).sits sits in
    let place : ℕ → ℕ = moved u.worker by h.place in
    let Now : ℕ → View → Type 0 = λ j x. j ≢ other → IsFittingView h.keeper h.workers h.all h.taken place j x in
    record {
      keeper = h.keeper;
      workers = h.workers;
      all = h.all;
      taken = h.taken;
      place = place;
      below = h.below;
      different = h.different;
      each = all_set (IsFittingView h.keeper h.workers h.all h.taken place) (set views by (with_seat v u)) other nobody
          (fits_nobody h.keeper h.workers h.all h.taken place other)
          (λ j x away e. all_set Now views by (with_seat v u)
          (λ _. record { keeps = λ _. mine; sits = λ _. (sym (moved-here u.worker by h.place), theirs.1, theirs.2, theirs.3) })
          (λ i y off_by e' off_other. record {
            keeps = λ k. absurd (off_by (((h.each i y e').keeps k).0 ∙ sym mine.0));
            sits = λ q. let t = (h.each i y e').sits q in
                (t.0 ∙ sym (moved-there u.worker by h.place y.worker (λ same. off_other (t.0 ∙ ap h.place same ∙ sym theirs.0))), t.1, t.2, t.3);
          })
          j x e away);
    }

pub adds : (by : ℕ) (v : View) (item : LoggedCall) → v.keeps ≡ true → v.sits ≡ true → v.worker ≡ item.entry.worker → Turns Kept by v (λ x. x) (Added item)
adds by v item keeps sits is words views h at =
    let k = (h.each by v at).keeps keeps in
    let s = (h.each by v at).sits sits in (
      with_item v item,
      record {
        keeper = h.keeper;
        workers = h.workers;
        all = h.all ++ item ∷ [];
        taken = h.taken;
        place = h.place;
        below = below-push h.workers h.all item h.below (subst (λ n. n < h.workers) is s.1);
        different = h.different;
        each = all_set (IsFittingView h.keeper h.workers (h.all ++ item ∷ []) h.taken h.place) views by (with_item v item)
            (record {
              keeps = λ _. (k.0, k.1, ap (λ l. l ++ item ∷ []) k.2, k.3);
              sits = λ _. (s.0, s.1, ap (λ l. l ++ item ∷ []) s.2 ∙ sym (items_of-mine v.worker h.all item (sym is)), s.3);
            })
            (λ j u apart e. record {
              keeps = λ q. absurd (apart (((h.each j u e).keeps q).0 ∙ sym k.0));
              sits = λ q. let t = (h.each j u e).sits q in
                  (t.0, t.1, t.2 ∙ sym (items_of-other u.worker h.all item (λ same. apart (t.0 ∙ ap h.place (sym same ∙ sym is) ∙ sym s.0))), t.3);
            });
      },
      (refl, s.2 ∙ ap (items_of v.worker) (sym k.2)),
    )

pub parts : (by : ℕ) (v : View) → v.keeps ≡ true → v.sits ≡ true → Forks Kept by v (keeper_of v) (seat_of v)
parts by v keeps sits words views h at =
    let k = (h.each by v at).keeps keeps in
    let s = (h.each by v at).sits sits in
    let after = set views by (keeper_of v) in
    let place : ℕ → ℕ = moved v.worker (length after) h.place in
    record {
      keeper = h.keeper;
      workers = h.workers;
      all = h.all;
      taken = h.taken;
      place = place;
      below = h.below;
      different = h.different;
      each = all_snoc (IsFittingView h.keeper h.workers h.all h.taken place) after (seat_of v)
          (all_set (IsFittingView h.keeper h.workers h.all h.taken place) views by (keeper_of v)
          (record { keeps = λ _. k; sits = λ e. off e })
          (λ j u apart e. record {
            keeps = λ q. absurd (apart (((h.each j u e).keeps q).0 ∙ sym k.0));
            sits = λ q. let t = (h.each j u e).sits q in
                (t.0 ∙ sym (moved-there v.worker (length after) h.place u.worker (λ same. apart (t.0 ∙ ap h.place same ∙ sym s.0))), t.1, t.2, t.3);
          }))
          (record { keeps = λ e. off e; sits = λ _. (sym (moved-here v.worker (length after) h.place), s.1, s.2, s.3) });
    }

pub seats : (by : ℕ) (v : View) → v.keeps ≡ true → v.taken ≡ [] → Forks Kept by v (one_more v) (next_seat v)
seats by v keeps none words views h at =
    let k = (h.each by v at).keeps keeps in
    let after = set views by (one_more v) in
    let place : ℕ → ℕ = moved v.workers (length after) h.place in
    record {
      keeper = h.keeper;
      workers = h.workers + 1;
      all = h.all;
      taken = h.taken;
      place = place;
      below = below-more h.workers h.all h.below;
      different = h.different;
      each = all_snoc (IsFittingView h.keeper (h.workers + 1) h.all h.taken place) after (next_seat v)
          (all_set (IsFittingView h.keeper (h.workers + 1) h.all h.taken place) views by (one_more v)
          (record { keeps = λ _. (k.0, ap (λ n. n + 1) k.1, k.2, sym none ∙ k.3); sits = λ e. off e })
          (λ j u apart e. record {
            keeps = λ q. absurd (apart (((h.each j u e).keeps q).0 ∙ sym k.0));
            sits = λ q. let t = (h.each j u e).sits q in
                (t.0 ∙ sym (moved-there v.workers (length after) h.place u.worker (λ same. omega (arith, t.1, same, k.1))), omega (arith, t.1), t.2, t.3);
          }))
          (record {
            keeps = λ e. off e;
            sits = λ _. (sym (moved-here v.workers (length after) h.place), omega (arith, k.1), sym (items_of-below v.workers h.all (subst (λ n. AllBelow n h.all) (sym k.1) h.below)), subst (λ l. IsNoneOf l v.workers) (sym none ∙ k.3) tt);
          });
    }

pub looks : (by : ℕ) (v : View) → v.keeps ≡ true → v.sits ≡ true → Turns Kept by v (λ x. x) Looked
looks by v keeps sits words views h at =
    let k = (h.each by v at).keeps keeps in
    let s = (h.each by v at).sits sits in (
      v,
      record {
        keeper = h.keeper;
        workers = h.workers;
        all = h.all;
        taken = h.taken;
        place = h.place;
        below = h.below;
        different = h.different;
        each = all_set (IsFittingView h.keeper h.workers h.all h.taken h.place) views by v (h.each by v at) (λ j u apart e. h.each j u e);
      },
      (refl, s.2 ∙ ap (items_of v.worker) (sym k.2), omega (arith, s.1, k.1)),
    )

pub takes_back : (by : ℕ) (v : View) → v.keeps ≡ true → v.sits ≡ true → Turns Kept by v (λ x. x) TakenBack
takes_back by v keeps sits words views h at =
    let k = (h.each by v at).keeps keeps in
    let s = (h.each by v at).sits sits in
    let after : View = taker v.workers v.all (v.worker ∷ v.taken) in
    let different : AreDifferent (v.worker ∷ h.taken) = (s.3, h.different) in (
      after,
      record {
        keeper = h.keeper;
        workers = h.workers;
        all = h.all;
        taken = v.worker ∷ h.taken;
        place = h.place;
        below = h.below;
        different = different;
        each = all_set (IsFittingView h.keeper h.workers h.all (v.worker ∷ h.taken) h.place) views by after
            (record { keeps = λ _. (k.0, k.1, k.2, ap (λ l. v.worker ∷ l) k.3); sits = λ e. off e })
            (λ j u apart e. record {
              keeps = λ q. absurd (apart (((h.each j u e).keeps q).0 ∙ sym k.0));
              sits = λ q. let t = (h.each j u e).sits q in
                  (t.0, t.1, t.2, (λ same. apart (t.0 ∙ ap h.place (sym same) ∙ sym s.0), t.3));
            });
      },
      (
        refl,
        s.2 ∙ ap (items_of v.worker) (sym k.2),
        omega (arith, s.1, k.1),
        subst (λ n. AllBelow n v.all) (sym k.1) (subst (AllBelow h.workers) (sym k.2) h.below),
        subst (λ l. AreDifferent (v.worker ∷ l)) (sym k.3) different,
      ),
    )
