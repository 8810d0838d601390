-- A legal history that goes on.
use Rattle.std.proofs.Common.{◌≡◌, ℕ, Bool, true, false, ◌==◌, if◌then◌else◌, cond, ◌+◌, ◌<◌, ◌≤◌, List, [], ◌∷◌, ◌++◌, length, map, refl, sym, ap, ◌∙◌, subst, arith}
use Rattle.std.proofs.lemmas.List.{map-append}
use Rattle.std.proofs.lemmas.List.Sums.{sum_by-cons}
use Rattle.std.specs.List.{count_by}
use Rattle.atomic_table.specs.Seated.{TableId}
use Rattle.crossbeam_utils.specs.Seq.{cell_view}
use Rattle.pool.specs.declared.entry.Entry.{Entry}
use Rattle.pool.specs.declared.entry.LoggedCall.{LoggedCall}
use Rattle.pool.specs.Calls.{after_call}
use Rattle.pool.specs.States.{PoolState, PoolWithHistory, after_item, after_items, noted, with_places, IsStep, AreLegalReplies, IsLegal}
use Rattle.sharedpool.specs.declared.room.View.{View}
use Rattle.sharedpool.specs.parts.Leaves.{leavers}
use Rattle.sharedpool.specs.parts.Views.{taker, sitting}
use Rattle.sharedpool.specs.Views.{knower, items_of}
use Rattle.sharedpool.specs.parts.Seats.{Token, Shared, IsSeat, IsLocked, AreReady, AreMatched, AreNoted}
use Rattle.sharedpool.specs.Seats.{Chair, HoldsOver, told_call}
use Rattle.sharedpool.proofs.Places.{leavers_more}
use Rattle.pool.proofs.Calls.{step_noted}

-- ---- runs

after_all_more : (h : PoolState) (items : List LoggedCall) (item : LoggedCall) → after_items h (items ++ item ∷ []) ≡ after_item (after_items h items) item
after_all_more h [] item = refl
after_all_more h (x ∷ items) item = after_all_more (after_item h x) items item

run_more : (h : PoolState) (items : List LoggedCall) (item : LoggedCall) → AreLegalReplies h items → IsStep (after_items h items) item → AreLegalReplies h (items ++ item ∷ [])
run_more h [] item run step = (step, tt)
run_more h (x ∷ items) item run step = (run.0, run_more (after_item h x) items item run.1 step)

legal_more : (opening : PoolState) (items : List LoggedCall) (item : LoggedCall) (k : PoolWithHistory) → IsLegal opening items k → IsStep k.held item → IsLegal opening (items ++ item ∷ []) (noted k item)
legal_more opening items item k legal step =
    record {
      entries = ap (λ l. l ++ item.entry ∷ []) legal.entries ∙ sym (map-append (λ (i : LoggedCall). i.entry) items (item ∷ []));
      run = run_more opening items item legal.run (subst (λ h. IsStep h item) legal.ends step);
      ends = ap (λ h. after_item h item) legal.ends ∙ sym (after_all_more opening items item);
    }

-- how many places are kept is all the same to it
legal_with : (opening : PoolState) (items : List LoggedCall) (k : PoolWithHistory) (places : ℕ) → IsLegal opening items k → IsLegal opening items (with_places k places)
legal_with opening items k places legal = record { entries = legal.entries; run = legal.run; ends = legal.ends }

-- ---- the lock and a seat after one call

-- a keeper and a seat of one cell
pub ready : (cell table : TableId) (opening : PoolState) (pool : PoolWithHistory) (workers : ℕ) (keeper : Token) (worker : ℕ) (seat : Token) (item : LoggedCall)
    → cell ≡ table → IsLocked table opening pool workers keeper → IsSeat table worker seat → item.entry.worker ≡ worker → AreReady cell keeper seat item
ready cell table opening pool workers keeper worker seat item here locked sits is =
    record {
      keeper_of = locked.of ∙ sym here;
      seat_of = sits.of ∙ sym here;
      free = sits.free;
      keeps = ap (λ (v : View). v.keeps) locked.knows;
      sits = ap (λ (v : View). v.sits) sits.knows;
      worker = ap (λ (v : View). v.worker) sits.knows ∙ sym is;
    }

abbrev pub chair : ℕ → List LoggedCall → Chair
chair worker mine = record { worker = worker; mine = mine }

pub sits_as : (table : TableId) (worker : ℕ) (seat : Token) → IsSeat table worker seat → (cell_view seat).worker ≡ worker
sits_as table worker seat sits = ap (λ (v : View). v.worker) sits.knows

-- the lock's value after one call that is in the history, and after which so many places are kept
pub locked_with : (table : TableId) (opening : PoolState) (old new : PoolWithHistory) (workers : ℕ) (keeper later seat after_item : Token) (item : LoggedCall) (places : ℕ)
    → IsLocked table opening old workers keeper → AreNoted keeper later seat after_item item → new ≡ noted (with_places old places) item → IsStep old.held item
    → workers ≤ places + leavers workers ((cell_view keeper).all ++ item ∷ []) → IsLocked table opening new workers later
locked_with table opening old new workers keeper later seat after_item item places was noted_as grew step kept =
    let items : List LoggedCall = (cell_view keeper).all in
    let all : (cell_view later).all ≡ items ++ item ∷ [] = ap (λ (v : View). v.all) noted_as.all in
    let before : PoolWithHistory = with_places old places in
    let legal : IsLegal opening (items ++ item ∷ []) (noted before item) = legal_more opening items item before (legal_with opening items old places was.legal) step in
    record {
      of = noted_as.keeper_of ∙ was.of;
      knows =
          noted_as.all ∙ ap (λ n. taker n (items ++ item ∷ []) (cell_view keeper).taken) (ap (λ (v : View). v.workers) was.knows)
          ∙ ap (taker workers (items ++ item ∷ [])) (ap (λ (v : View). v.taken) was.knows)
          ∙ ap (knower workers) (sym all);
      some_worker = was.some_worker;
      sound = was.sound;
      legal = subst (λ (k : PoolWithHistory). IsLegal opening (cell_view later).all k) (sym grew) (subst (λ (l : List LoggedCall). IsLegal opening l (noted before item)) (sym all) legal);
      places = subst (λ (k : PoolWithHistory). workers ≤ k.places + leavers workers (cell_view later).all) (sym grew) (subst (λ (l : List LoggedCall). workers ≤ places + leavers workers l) (sym all) kept);
    }

-- the same of a call that takes no place, and isn't answered with want of memory
pub locked_more : (table : TableId) (opening : PoolState) (old new : PoolWithHistory) (workers : ℕ) (keeper later seat after_item : Token) (item : LoggedCall)
    → IsLocked table opening old workers keeper → AreNoted keeper later seat after_item item → new ≡ after_call old item → IsStep old.held item → IsLocked table opening new workers later
locked_more table opening old new workers keeper later seat after_item item was noted_as grew step =
    locked_with table opening old new workers keeper later seat after_item item old.places was noted_as (grew ∙ step_noted old item step) step
    (omega (arith, was.places, leavers_more workers (cell_view keeper).all item))

-- the lock's value and a seat after their lists were compared
pub locked_same : (table : TableId) (opening : PoolState) (pool : PoolWithHistory) (workers : ℕ) (keeper later seat after_item : Token)
    → IsLocked table opening pool workers keeper → AreMatched keeper later seat after_item → IsLocked table opening pool workers later
locked_same table opening pool workers keeper later seat after_item was matched =
    let items : List LoggedCall = (cell_view keeper).all in
    let all : (cell_view later).all ≡ items = ap (λ (v : View). v.all) matched.all in
    record {
      of = matched.keeper_of ∙ was.of;
      knows =
          matched.all ∙ ap (λ n. taker n items (cell_view keeper).taken) (ap (λ (v : View). v.workers) was.knows)
          ∙ ap (taker workers items) (ap (λ (v : View). v.taken) was.knows)
          ∙ ap (knower workers) (sym all);
      some_worker = was.some_worker;
      sound = was.sound;
      legal = subst (λ (l : List LoggedCall). IsLegal opening l pool) (sym all) was.legal;
      places = subst (λ (l : List LoggedCall). workers ≤ pool.places + leavers workers l) (sym all) was.places;
    }

pub seat_same : (table : TableId) (worker : ℕ) (keeper later seat after_item : Token) → IsSeat table worker seat → AreMatched keeper later seat after_item → IsSeat table worker after_item
seat_same table worker keeper later seat after_item sits matched =
    record {
      of = matched.seat_of ∙ sits.of;
      free = matched.free;
      knows =
          matched.told ∙ ap (λ n. sitting n (cell_view seat).mine) (sits_as table worker seat sits)
          ∙ ap (sitting worker) (sym (ap (λ (v : View). v.mine) matched.told));
    }

-- what is told of a seat and of what is locked, by other names
pub mine_as : (seat told_seat : Chair) (shared told_shared : Shared) → seat ≡ told_seat → shared ≡ told_shared
    → told_seat.mine ≡ items_of told_seat.worker told_shared.items → seat.mine ≡ items_of seat.worker shared.items
mine_as seat told_seat shared told_shared one two mine =
    subst (λ (s : Chair). s.mine ≡ items_of s.worker shared.items) (sym one) (subst (λ (l : Shared). told_seat.mine ≡ items_of told_seat.worker l.items) (sym two) mine)

pub below_as : (seat told_seat : Chair) (shared told_shared : Shared) → seat ≡ told_seat → shared ≡ told_shared
    → told_seat.worker < told_shared.workers → seat.worker < shared.workers
below_as seat told_seat shared told_shared one two below =
    subst (λ (s : Chair). s.worker < shared.workers) (sym one) (subst (λ (l : Shared). told_seat.worker < l.workers) (sym two) below)

-- the seat after it
pub seat_told : (worker : ℕ) (keeper later seat after_item : Token) (item : LoggedCall) → AreNoted keeper later seat after_item item
    → chair worker (cell_view after_item).mine ≡ told_call (chair worker (cell_view seat).mine) item
seat_told worker keeper later seat after_item item noted_as = ap (λ (v : View). chair worker v.mine) noted_as.told

-- what holds of the pool before the call holds over a run in which the seat's list is its worker's
-- items
pub holds_over : (table : TableId) (opening : PoolState) (pool : PoolWithHistory) (workers worker : ℕ) (keeper later seat after_item : Token) (item : LoggedCall) (P : PoolState → Type 0)
    → IsLocked table opening pool workers keeper → IsSeat table worker seat → AreNoted keeper later seat after_item item → P pool.held → HoldsOver opening (chair worker (cell_view seat).mine) P
holds_over table opening pool workers worker keeper later seat after_item item P locked sits noted_as holds = (
  (cell_view keeper).all,
  locked.legal.run,
  noted_as.mine ∙ ap (λ n. items_of n (cell_view keeper).all) (sits_as table worker seat sits),
  subst P locked.legal.ends holds,
)

-- ---- counts

count_one : (b : Bool) (item : LoggedCall) (items : List LoggedCall) (n : ℕ) → length items ≡ n → length (if b then item ∷ items else items) ≡ cond b 1 0 + n
count_one true item items n is = omega (arith, is)
count_one false item items n is = omega (arith, is)

-- a worker's items are as many as its entries
pub counted : (worker : ℕ) (items : List LoggedCall) → length (items_of worker items) ≡ count_by (λ (e : Entry). e.worker == worker) (map (λ (i : LoggedCall). i.entry) items)
counted worker [] = refl
counted worker (item ∷ items) =
    count_one (item.entry.worker == worker) item (items_of worker items) _ (counted worker items)
    ∙ sym (sum_by-cons (λ (e : Entry). cond (e.worker == worker) 1 0) item.entry (map (λ (i : LoggedCall). i.entry) items))
