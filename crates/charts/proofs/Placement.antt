-- One more step is placed, and the columns of all steps stay in order.
use Rattle.std.proofs.Common.{◌≡◌, ℕ, ◌+◌, ◌<◌, ◌≤◌, ◌⊎◌, inl, inr, Bool, true, false, ◌==◌, List, [], ◌∷◌, ◌++◌, Option, Some, None, length, slice_get, slice_set, slice_index, refl, sym, ap, ◌∙◌, subst, arith, get_or, get_or-set_same, get_or-set_other, length-set, map, replicate}
use Rattle.std.specs.Prelude.{IsTrue, if◌then◌else◌, is_some, nat_lt}
use Rattle.std.specs.Option.{unwrap_or}
use Rattle.std.proofs.lemmas.Bool.{cases_eq, cases_lt, eqb-true, eq-eqb, ne_eqb, or_cases, cond-true, cond-false, cond_both, ltb-true, ltb-false, false≢true}
use Rattle.std.proofs.lemmas.Option.{same_Some, slice_get_within}
use Rattle.std.proofs.lemmas.List.Elements.{All-nil, All-push, All-weaker}
use Rattle.std.proofs.lemmas.List.{get_or-replicate, get_or_past, length-replicate, map-append}
use Rattle.std.proofs.lemmas.List.Quantifiers.{all_pairs_push}
use Rattle.calltext.specs.Grammar.{long}
use Rattle.callorder.specs.declared.calls.Call.{Call}
use Rattle.callorder.specs.ProgramRules.{IsProgramWithin}
use Rattle.callorder.specs.Programs.{MpiProgram, call_at, is_of_rank, are_of_one_rank, have_one_rank}
use Rattle.callorder.specs.Calls.{both_hold}
use Rattle.scene.specs.declared.acts.Act.{Act}
use Rattle.scene.specs.declared.acts.Act.TheVariants.{Issue, Match, See}
use Rattle.scene.specs.Labels.{Label}
use Rattle.charts.specs.declared.placing.PlacedAct.{PlacedAct}
use Rattle.charts.specs.declared.placing.Shared.{Shared}
use Rattle.charts.specs.declared.placing.Row.{Row}
use Rattle.charts.specs.Columns.{ArePlacedInOrder, AreWaitsOfOneLine, KeepsOrder, column_from, column_if, column_of, is_wait, line_if, wait_line}
use Rattle.charts.specs.parts.Placing.{ArePlaced, IsFindAct, IsIssuedBeforeInRow, IsKnown, IsKnownStep, IsPast, HasRaisedRow, SharesNoFreeColumn, column_in, empty_row, fresh_row, raised, row_at, row_behind, row_if, shared_by}

-- ---- one more issue, or none

column_push : (c so_far : ℕ) (xs : List PlacedAct) (x : PlacedAct) → column_from c so_far (xs ++ x ∷ []) ≡ column_if c (column_from c so_far xs) x.column x.act
column_push c so_far [] x = refl
column_push c so_far (y ∷ ys) x = column_push c (column_if c so_far y.column y.act) ys x

-- ---- the next issue in a row

-- the call is issued in column v of a row, behind which it is another one
record IsNext (p : MpiProgram) (calls : List Label) (row : Row) (c v : ℕ) (behind : Row) : Type 0 where
  grown : row.free ≤ behind.free
  own : IsIssuedBeforeInRow p calls behind c v
  is_row : SharesNoFreeColumn behind
  later : (e u : ℕ) → IsIssuedBeforeInRow p calls row e u → (u < v) ⊎ ((u ≡ v) × AreWaitsOfOneLine p calls e c)
  kept : (e u : ℕ) → IsIssuedBeforeInRow p calls row e u → IsIssuedBeforeInRow p calls behind e u
  past : (u : ℕ) → u < row.free → (u < v) ⊎ IsTrue (is_wait p c)

line_wait : (b : Bool) (told : Option Label) (line : ℕ) → line_if b told ≡ Some line → b ≡ true
line_wait true told line e = refl
line_wait false told line e = absurd (false≢true (ap is_some e))

fresh_next : (p : MpiProgram) (calls : List Label) (row : Row) (c : ℕ) (line : Option ℕ) → wait_line p calls c ≡ line → IsNext p calls row c row.free (fresh_row row line)
fresh_next p calls row c None is =
    record {
      grown = omega arith;
      own = record { free = omega arith; waits = λ shared e. absurd (false≢true (ap is_some e)) };
      is_row = λ shared e. absurd (false≢true (ap is_some e));
      later = λ e u h. inl h.free;
      kept = λ e u h. record { free = omega (arith, h.free); waits = λ shared s. absurd (false≢true (ap is_some s)) };
      past = λ u h. inl h;
    }
fresh_next p calls row c (Some line) is =
    let same : (shared : Shared) → Some (record { line = line; column = row.free }) ≡ Some shared → record { line = line; column = row.free } ≡ shared =
    λ shared e. same_Some (record { line = line; column = row.free }) shared e in
    let there : (shared : Shared) → Some (record { line = line; column = row.free }) ≡ Some shared → row.free ≡ shared.column =
    λ shared e. ap (λ (s : Shared). s.column) (same shared e) in
    record {
      grown = omega arith;
      own =
          record {
            free = omega arith;
            waits = λ shared e. inr (there shared e, is ∙ ap (λ (s : Shared). Some s.line) (same shared e));
          };
      is_row = λ shared e. omega (arith, there shared e);
      later = λ e u h. inl h.free;
      kept = λ e u h. record { free = omega (arith, h.free); waits = λ shared s. inl (omega (arith, h.free, there shared s)) };
      past = λ u h. inl h;
    }

shared_next : (p : MpiProgram) (calls : List Label) (row : Row) (c line : ℕ) (shared : Shared) → row.waits ≡ Some shared → SharesNoFreeColumn row → wait_line p calls c ≡ Some line → shared.line ≡ line → IsNext p calls row c shared.column row
shared_next p calls row c line shared there ok is line_is =
    record {
      grown = omega arith;
      own =
          record {
            free = ok shared there;
            waits = λ s e.
                let same : shared ≡ s = same_Some shared s (sym there ∙ e) in
                inr (ap (λ (z : Shared). z.column) same, is ∙ ap Some (sym line_is) ∙ ap (λ (z : Shared). Some z.line) same);
          };
      is_row = ok;
      later = λ e u h. elim (h.waits shared there) [
        | inl left ↦ inl left
        | inr both ↦ inr (both.0, (line, both.1 ∙ ap Some line_is, is))
      ];
      kept = λ e u h. h;
      past = λ u h. inr (line_wait (is_wait p c) (slice_get calls c) line is);
    }

next_by : (p : MpiProgram) (calls : List Label) (row : Row) (c : ℕ) (line : Option ℕ) (waits : Option Shared) → SharesNoFreeColumn row → wait_line p calls c ≡ line → row.waits ≡ waits → IsNext p calls row c (unwrap_or (shared_by line waits) row.free) (row_if (shared_by line waits) (fresh_row row line) row)
next_by p calls row c None waits ok is there = fresh_next p calls row c None is
next_by p calls row c (Some line) None ok is there = fresh_next p calls row c (Some line) is
next_by p calls row c (Some line) (Some shared) ok is there = by_line (shared.line == line) refl
  where
    by_line : (b : Bool) → (shared.line == line) ≡ b → IsNext p calls row c (unwrap_or (if b then Some shared.column else None) row.free) (row_if (if b then Some shared.column else None) (fresh_row row (Some line)) row)
    by_line true e = shared_next p calls row c line shared there ok is (eqb-true shared.line line e)
    by_line false e = fresh_next p calls row c (Some line) is

next : (p : MpiProgram) (calls : List Label) (row : Row) (c : ℕ) → SharesNoFreeColumn row → IsNext p calls row c (column_in row (wait_line p calls c)) (row_behind row (wait_line p calls c))
next p calls row c ok = next_by p calls row c (wait_line p calls c) row.waits ok refl refl

-- ---- rows of which one is set

at_row : (P : Row → Type 0) (rows : List Row) (r q : ℕ) (new : Row) → r < length rows → (q ≡ r → P new) → P (row_at rows q) → P (row_at (slice_set rows r new) q)
at_row P rows r q new within here elsewhere =
    elim (cases_eq q r) [
      | inl is ↦ subst (λ (z : ℕ). P (row_at (slice_set rows r new) z)) (sym is) (subst P (sym (get_or-set_same rows r new empty_row within)) (here is))
      | inr differ ↦ subst P (sym (get_or-set_other rows r q new empty_row differ)) elsewhere
    ]

-- ---- calls of one rank

one_rank : (one other : Option Call) (call : Call) → other ≡ Some call → both_hold have_one_rank one other ≡ true → (k : Call) × (one ≡ Some k) × (k.rank ≡ call.rank)
one_rank None other call is e = absurd (false≢true e)
one_rank (Some k) other call is e =
    (k, refl, sym (eqb-true call.rank k.rank (ap (λ (o : Option Call). is_of_rank o k.rank) (sym is) ∙ e)))

-- ---- an issue

still_past : (p : MpiProgram) (calls : List Label) (rows : List Row) (c v : ℕ) (call : Call) (behind : Row) → call.rank < length rows → IsNext p calls (row_at rows call.rank) c v behind → (u s : ℕ) → IsPast p rows s u → IsPast p (slice_set rows call.rank behind) s u
still_past p calls rows c v call behind rank_in next u s past k ke =
    at_row (λ (row : Row). u < row.free) rows call.rank k.rank behind rank_in (λ same. let there : u < (row_at rows call.rank).free = subst (λ (z : ℕ). u < (row_at rows z).free) same (past k ke) in omega (arith, there, next.grown)) (past k ke)

-- a step that was known is known behind the issue
still_known : (p : MpiProgram) (calls : List Label) (rows : List Row) (issues : List ℕ) (c v : ℕ) (call : Call) (behind : Row) → call.rank < length rows → c < length issues → call_at p c ≡ Some call → IsNext p calls (row_at rows call.rank) c v behind → (u : ℕ) (act : Act) → IsKnown p calls rows issues u act → IsKnown p calls (slice_set rows call.rank behind) (slice_set issues c v) u act
still_known p calls rows issues c v call behind rank_in c_in is next u (Issue e b) known = (
  λ k ke. at_row (λ (row : Row). IsIssuedBeforeInRow p calls row e u) rows call.rank k.rank behind rank_in (λ same. next.kept e u (subst (λ (z : ℕ). IsIssuedBeforeInRow p calls (row_at rows z) e u) same (known.0 k ke))) (known.0 k ke),
  elim (cases_eq e c) [
    | inl same ↦
        let there : slice_index (slice_set issues c v) e ≡ v = ap (λ (z : ℕ). slice_index (slice_set issues c v) z) same ∙ get_or-set_same issues c v 0 c_in in
        elim (next.later e u (known.0 call (ap (λ (z : ℕ). call_at p z) same ∙ is))) [
          | inl left ↦ omega (arith, left, there)
          | inr both ↦ omega (arith, both.0, there)
        ]
    | inr differ ↦ omega (arith, get_or-set_other issues c e v 0 differ, known.1)
  ],
)
still_known p calls rows issues c v call behind rank_in c_in is next u (Match s t) known =
    (still_past p calls rows c v call behind rank_in next u s known.0, still_past p calls rows c v call behind rank_in next u t known.1)
still_known p calls rows issues c v call behind rank_in c_in is next u (See s t) known =
    (still_past p calls rows c v call behind rank_in next u s known.0, still_past p calls rows c v call behind rank_in next u t known.1)

-- the call's rank has no free column left of it
passed : (p : MpiProgram) (rows : List Row) (c s u : ℕ) (call : Call) → call_at p c ≡ Some call → IsPast p rows s u → are_of_one_rank p s c ≡ true → u < (row_at rows call.rank).free
passed p rows c s u call is past one =
    let it = one_rank (call_at p s) (call_at p c) call is one in subst (λ (z : ℕ). u < (row_at rows z).free) it.2 (past it.0 it.1)

issue_order : (p : MpiProgram) (calls : List Label) (rows : List Row) (issues : List ℕ) (c v : ℕ) (b : Bool) (call : Call) (behind : Row) → call_at p c ≡ Some call → IsNext p calls (row_at rows call.rank) c v behind → (u : ℕ) (act : Act) → IsKnown p calls rows issues u act → KeepsOrder p calls act u (Issue c b) v
issue_order p calls rows issues c v b call behind is next u (Issue e f) known =
    λ one.
    let it = one_rank (call_at p e) (call_at p c) call is one in
    next.later e u (subst (λ (z : ℕ). IsIssuedBeforeInRow p calls (row_at rows z) e u) it.2 (known.0 it.0 it.1))
issue_order p calls rows issues c v b call behind is next u (Match s t) known =
    λ either. elim (or_cases (are_of_one_rank p s c) (are_of_one_rank p t c) either) [
      | inl one ↦ next.past u (passed p rows c s u call is known.0 one)
      | inr one ↦ next.past u (passed p rows c t u call is known.1 one)
    ]
issue_order p calls rows issues c v b call behind is next u (See s t) known =
    λ either. elim (or_cases (are_of_one_rank p s c) (are_of_one_rank p t c) either) [
      | inl one ↦ next.past u (passed p rows c s u call is known.0 one)
      | inr one ↦ next.past u (passed p rows c t u call is known.1 one)
    ]

issue_issued : (issues : List ℕ) (steps : List PlacedAct) (c v : ℕ) (b : Bool) → c < length issues → ((d : ℕ) → slice_index issues d ≡ column_of steps d) → (d : ℕ) → slice_index (slice_set issues c v) d ≡ column_of (steps ++ record { act = Issue c b; column = v } ∷ []) d
issue_issued issues steps c v b c_in old d =
    let pushed : column_of (steps ++ record { act = Issue c b; column = v } ∷ []) d ≡ (if d == c then v else column_of steps d) = column_push d 0 steps (record { act = Issue c b; column = v }) in
    elim (cases_eq d c) [
      | inl same ↦
          ap (λ (z : ℕ). slice_index (slice_set issues c v) z) same ∙ get_or-set_same issues c v 0 c_in ∙ sym (cond-true (d == c) v (column_of steps d) (eq-eqb d c same)) ∙ sym pushed
      | inr differ ↦
          get_or-set_other issues c d v 0 differ ∙ old d ∙ sym (cond-false (d == c) v (column_of steps d) (ne_eqb d c differ)) ∙ sym pushed
    ]

with_next : (p : MpiProgram) (calls : List Label) (rows : List Row) (issues : List ℕ) (count : ℕ) (steps : List PlacedAct) (c v : ℕ) (b : Bool) (call : Call) (behind : Row) (more : ℕ) → call.rank < length rows → c < length issues → call_at p c ≡ Some call → ArePlaced p calls rows issues count steps → IsNext p calls (row_at rows call.rank) c v behind → v < more → count ≤ more → ArePlaced p calls (slice_set rows call.rank behind) (slice_set issues c v) more (steps ++ record { act = Issue c b; column = v } ∷ [])
with_next p calls rows issues count steps c v b call behind more rank_in c_in is old next left fewer =
    let x : PlacedAct = record { act = Issue c b; column = v } in
    let known_then : PlacedAct → Type 0 = IsKnownStep p calls (slice_set rows call.rank behind) (slice_set issues c v) in
    record {
      program = old.program;
      all_rows = length-set rows call.rank behind ∙ old.all_rows;
      all_issues = length-set issues c v ∙ old.all_issues;
      each_row = λ q. at_row SharesNoFreeColumn rows call.rank q behind rank_in (λ same. next.is_row) (old.each_row q);
      known =
          All-push known_then steps x (All-weaker (IsKnownStep p calls rows issues) known_then (λ y h. still_known p calls rows issues c v call behind rank_in c_in is next y.column y.act h) steps old.known) (
            λ k ke. subst (λ (z : Call). IsIssuedBeforeInRow p calls (row_at (slice_set rows call.rank behind) z.rank) c v) (same_Some call k (sym is ∙ ke)) (subst (λ (row : Row). IsIssuedBeforeInRow p calls row c v) (sym (get_or-set_same rows call.rank behind empty_row rank_in)) next.own),
            omega (arith, get_or-set_same issues c v 0 c_in),
          );
      issued = issue_issued issues steps c v b c_in old.issued;
      within = All-push (λ (step : PlacedAct). step.column < more) steps x (All-weaker (λ (step : PlacedAct). step.column < count) (λ (step : PlacedAct). step.column < more) (λ y h. omega (arith, h, fewer)) steps old.within) left;
      order = all_pairs_push (ArePlacedInOrder p calls) steps x old.order (λ k d k_in. issue_order p calls rows issues c v b call behind is next (get_or steps k d).column (get_or steps k d).act (old.known k d k_in));
    }

-- one more issue
pub issue_placed : (p : MpiProgram) (calls : List Label) (rows : List Row) (issues : List ℕ) (count : ℕ) (steps : List PlacedAct) (c : ℕ) (b : Bool) (call : Call) (more : ℕ) → call_at p c ≡ Some call → ArePlaced p calls rows issues count steps → column_in (row_at rows call.rank) (wait_line p calls c) < more → count ≤ more → ArePlaced p calls (slice_set rows call.rank (row_behind (row_at rows call.rank) (wait_line p calls c))) (slice_set issues c (column_in (row_at rows call.rank) (wait_line p calls c))) more (steps ++ record { act = Issue c b; column = column_in (row_at rows call.rank) (wait_line p calls c) } ∷ [])
issue_placed p calls rows issues count steps c b call more is old left fewer =
    with_next p calls rows issues count steps c (column_in (row_at rows call.rank) (wait_line p calls c)) b call (row_behind (row_at rows call.rank) (wait_line p calls c)) more (omega (arith, old.all_rows, (old.program.in_range c call is).own)) (omega (arith, old.all_issues, slice_get_within p.calls c call is)) is old (next p calls (row_at rows call.rank) c (old.each_row call.rank)) left fewer

-- ---- a message that is found

-- no row has fewer columns that are not free
record AreGrown (old new : List Row) : Type 0 where
  many : length new ≡ length old
  grown : (q : ℕ) → (row_at old q).free ≤ (row_at new q).free
  waits : (q : ℕ) → (row_at new q).waits ≡ (row_at old q).waits

raised_free : (row : Row) (v : ℕ) → (row.free ≤ (raised row v).free) × (v < (raised row v).free)
raised_free row v =
    cond_both (nat_lt v row.free) row.free (v + 1) (λ z. (row.free ≤ z) × (v < z)) (λ e. (omega arith, ltb-true v row.free e)) (λ e. (let upto : row.free ≤ v = ltb-false v row.free e in omega (arith, upto), omega arith))

raise_grown : (p : MpiProgram) (c v : ℕ) (old new : List Row) → IsProgramWithin long p → length old ≡ p.ranks → HasRaisedRow p c v old new → AreGrown old new × IsPast p new c v
raise_grown p c v old new kept many raise =
    let r = raise.call.rank in
    let within : r < length old = omega (arith, many, (kept.in_range c raise.call raise.is_call).own) in
    let up : Row = raised (row_at old r) v in
    subst (λ (rows : List Row). AreGrown old rows × IsPast p rows c v) (sym raise.is_new) (
      record {
        many = length-set old r up;
        grown = λ q. at_row (λ (row : Row). (row_at old q).free ≤ row.free) old r q up within (λ same. subst (λ (z : ℕ). (row_at old z).free ≤ up.free) (sym same) (raised_free (row_at old r) v).0) (omega arith);
        waits = λ q. at_row (λ (row : Row). row.waits ≡ (row_at old q).waits) old r q up within (λ same. ap (λ (z : ℕ). (row_at old z).waits) (sym same)) refl;
      },
      λ k ke. subst (λ (z : Call). v < (row_at (slice_set old r up) z.rank).free) (same_Some raise.call k (sym raise.is_call ∙ ke)) (subst (λ (row : Row). v < row.free) (sym (get_or-set_same old r up empty_row within)) (raised_free (row_at old r) v).1),
    )

both_grown : (old mid new : List Row) → AreGrown old mid → AreGrown mid new → AreGrown old new
both_grown old mid new one two =
    record {
      many = two.many ∙ one.many;
      grown = λ q. omega (arith, one.grown q, two.grown q);
      waits = λ q. two.waits q ∙ one.waits q;
    }

grown_past : (p : MpiProgram) (old new : List Row) → AreGrown old new → (s u : ℕ) → IsPast p old s u → IsPast p new s u
grown_past p old new grown s u past k ke = omega (arith, past k ke, grown.grown k.rank)

grown_known : (p : MpiProgram) (calls : List Label) (old new : List Row) (issues : List ℕ) → AreGrown old new → (u : ℕ) (act : Act) → IsKnown p calls old issues u act → IsKnown p calls new issues u act
grown_known p calls old new issues grown u (Issue e b) known = (
  λ k ke. record { free = omega (arith, (known.0 k ke).free, grown.grown k.rank); waits = λ shared is. (known.0 k ke).waits shared (sym (grown.waits k.rank) ∙ is) },
  known.1,
)
grown_known p calls old new issues grown u (Match s t) known = (grown_past p old new grown s u known.0, grown_past p old new grown t u known.1)
grown_known p calls old new issues grown u (See s t) known = (grown_past p old new grown s u known.0, grown_past p old new grown t u known.1)

find_known : (p : MpiProgram) (calls : List Label) (rows : List Row) (issues : List ℕ) (s f v : ℕ) (act : Act) → IsFindAct s f act → IsPast p rows s v → IsPast p rows f v → IsKnown p calls rows issues v act
find_known p calls rows issues s f v (Issue c b) is one other = absurd is
find_known p calls rows issues s f v (Match a b) is one other = (subst (λ (z : ℕ). IsPast p rows z v) (sym is.0) one, subst (λ (z : ℕ). IsPast p rows z v) (sym is.1) other)
find_known p calls rows issues s f v (See a b) is one other = (subst (λ (z : ℕ). IsPast p rows z v) (sym is.0) one, subst (λ (z : ℕ). IsPast p rows z v) (sym is.1) other)

find_column : (s f d so_far v : ℕ) (act : Act) → IsFindAct s f act → column_if d so_far v act ≡ so_far
find_column s f d so_far v (Issue c b) is = absurd is
find_column s f d so_far v (Match a b) is = refl
find_column s f d so_far v (See a b) is = refl

-- an issue of either call stands no further right
upto_find : (issues : List ℕ) (s f v a b e u : ℕ) → slice_index issues s ≤ v → slice_index issues f ≤ v → (a ≡ s) × (b ≡ f) → u ≤ slice_index issues e → (e ≡ a) ⊎ (e ≡ b) → u ≤ v
upto_find issues s f v a b e u one other is upto either =
    elim either [
      | inl same ↦ let there : slice_index issues e ≡ slice_index issues s = ap (λ (z : ℕ). slice_index issues z) (same ∙ is.0) in omega (arith, there, one, upto)
      | inr same ↦ let there : slice_index issues e ≡ slice_index issues f = ap (λ (z : ℕ). slice_index issues z) (same ∙ is.1) in omega (arith, there, other, upto)
    ]

find_order : (p : MpiProgram) (calls : List Label) (rows : List Row) (issues : List ℕ) (s f v : ℕ) → slice_index issues s ≤ v → slice_index issues f ≤ v → (act : Act) → IsFindAct s f act → (u : ℕ) (early : Act) → IsKnown p calls rows issues u early → KeepsOrder p calls early u act v
find_order p calls rows issues s f v one other (Issue c b) is u early known = absurd is
find_order p calls rows issues s f v one other (Match a b) is u (Issue e x) known = upto_find issues s f v a b e u one other is known.1
find_order p calls rows issues s f v one other (Match a b) is u (Match e x) known = tt
find_order p calls rows issues s f v one other (Match a b) is u (See e x) known = tt
find_order p calls rows issues s f v one other (See a b) is u (Issue e x) known = upto_find issues s f v a b e u one other is known.1
find_order p calls rows issues s f v one other (See a b) is u (Match e x) known = tt
find_order p calls rows issues s f v one other (See a b) is u (See e x) known = tt

-- one more message that is found
pub find_placed : (p : MpiProgram) (calls : List Label) (rows mid new : List Row) (issues : List ℕ) (count : ℕ) (steps : List PlacedAct) (s f v : ℕ) (act : Act) (more : ℕ) → IsFindAct s f act → slice_index issues s ≤ v → slice_index issues f ≤ v → HasRaisedRow p s v rows mid → HasRaisedRow p f v mid new → ArePlaced p calls rows issues count steps → v < more → count ≤ more → ArePlaced p calls new issues more (steps ++ record { act = act; column = v } ∷ [])
find_placed p calls rows mid new issues count steps s f v act more is one other first second old left fewer =
    let up = raise_grown p s v rows mid old.program old.all_rows first in
    let high = raise_grown p f v mid new old.program (up.0.many ∙ old.all_rows) second in
    let grown : AreGrown rows new = both_grown rows mid new up.0 high.0 in
    let x : PlacedAct = record { act = act; column = v } in
    record {
      program = old.program;
      all_rows = grown.many ∙ old.all_rows;
      all_issues = old.all_issues;
      each_row = λ q shared there. omega (arith, grown.grown q, old.each_row q shared (sym (grown.waits q) ∙ there));
      known =
          All-push (IsKnownStep p calls new issues) steps x (All-weaker (IsKnownStep p calls rows issues) (IsKnownStep p calls new issues) (λ y h. grown_known p calls rows new issues grown y.column y.act h) steps old.known) (find_known p calls new issues s f v act is (grown_past p mid new high.0 s v up.1) high.1);
      issued = λ d. old.issued d ∙ sym (column_push d 0 steps x ∙ find_column s f d (column_of steps d) v act is);
      within = All-push (λ (step : PlacedAct). step.column < more) steps x (All-weaker (λ (step : PlacedAct). step.column < count) (λ (step : PlacedAct). step.column < more) (λ y h. omega (arith, h, fewer)) steps old.within) left;
      order = all_pairs_push (ArePlacedInOrder p calls) steps x old.order (λ k d k_in. find_order p calls rows issues s f v one other act is (get_or steps k d).column (get_or steps k d).act (old.known k d k_in));
    }

-- ---- equal tables

pub same_placed : (p : MpiProgram) (calls : List Label) (rows more_rows : List Row) (issues more_issues : List ℕ) (count : ℕ) (steps more_steps : List PlacedAct) → more_rows ≡ rows → more_issues ≡ issues → more_steps ≡ steps → ArePlaced p calls rows issues count steps → ArePlaced p calls more_rows more_issues count more_steps
same_placed p calls rows more_rows issues more_issues count steps more_steps one two three placed =
    subst (λ (x : List Row). ArePlaced p calls x more_issues count more_steps) (sym one) (subst (λ (x : List ℕ). ArePlaced p calls rows x count more_steps) (sym two) (subst (λ (x : List PlacedAct). ArePlaced p calls rows issues count x) (sym three) placed))

pub acts_push : (steps more : List PlacedAct) (x : PlacedAct) → more ≡ steps ++ x ∷ [] → map (λ (step : PlacedAct). step.act) more ≡ map (λ (step : PlacedAct). step.act) steps ++ x.act ∷ []
acts_push steps more x is =
    ap (λ (xs : List PlacedAct). map (λ (step : PlacedAct). step.act) xs) is ∙ map-append (λ (step : PlacedAct). step.act) steps (x ∷ [])

-- ---- before the first step

at_same : {X : Type 0} (n q : ℕ) (x : X) → get_or (replicate n x) q x ≡ x
at_same n q x = elim (cases_lt q n) [
  | inl within ↦ get_or-replicate n q x x within
  | inr past ↦ get_or_past (replicate n x) q x (omega (arith, length-replicate n x, past))
]

pub none_placed : (p : MpiProgram) (calls : List Label) (rows : List Row) (issues : List ℕ) → IsProgramWithin long p → rows ≡ replicate p.ranks empty_row → issues ≡ replicate (length p.calls) 0 → ArePlaced p calls rows issues 0 []
none_placed p calls rows issues kept rows_are issues_are =
    subst (λ (x : List Row). ArePlaced p calls x issues 0 []) (sym rows_are) (subst (λ (x : List ℕ). ArePlaced p calls (replicate p.ranks empty_row) x 0 []) (sym issues_are) (
    record {
      program = kept;
      all_rows = length-replicate p.ranks empty_row;
      all_issues = length-replicate (length p.calls) 0;
      each_row = λ q. subst SharesNoFreeColumn (sym (at_same p.ranks q empty_row)) (λ shared e. absurd (false≢true (ap is_some e)));
      known = All-nil (IsKnownStep p calls (replicate p.ranks empty_row) (replicate (length p.calls) 0));
      issued = λ c. at_same (length p.calls) c 0;
      within = All-nil (λ (step : PlacedAct). step.column < 0);
      order = λ i j d before within. let never : ⊥ = omega (arith, within) in absurd never;
    }
    ))
