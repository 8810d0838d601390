-- A search for a cycle: what it keeps as it goes on.
use Rattle.std.proofs.Common.{◌≡◌, ℕ, zero, suc, ◌-◌, ◌+◌, ◌<◌, ◌⊎◌, inl, inr, List, [], ◌∷◌, ◌++◌, Some, length, replicate, get_or, take, drop, refl, sym, ◌∙◌, ap, subst, ◌≢◌, arith}
use Rattle.std.proofs.lemmas.Bool.{cases_lt, cases_eq}
use Rattle.std.proofs.lemmas.List.{get_or_past, get_or-set_same, get_or-set_other, length-set, length-replicate, get_or-replicate, get_or_append_left, get_or_push, length_push, take_more, take_all}
use Rattle.std.proofs.lemmas.Option.{slice_get_within, get_or_from_slice_get}
use Rattle.std.proofs.lemmas.List.Elements.{Contains-get_or, Contains-push, Contains-push_cases, Contains-append_left}
use Rattle.std.proofs.lemmas.List.Quantifiers.{all_pairs_push}
use Rattle.std.proofs.lemmas.List.Sums.{sum_by-set}
use Rattle.std.specs.Global.{Vec}
use Rattle.std.specs.List.{AllPairs}
use Rattle.std.specs.Prelude.{slice_get, slice_set, Contains}
use Rattle.waits.specs.declared.cycles.Mark.{Mark}
use Rattle.waits.specs.declared.cycles.Mark.TheVariants.{New, OnPath, Off}
use Rattle.waits.specs.Cycles.{awaited_by, HasEdge, IsCycle}
use Rattle.waits.specs.parts.Searches.{mark_at, weight, weight_of, AreOff, AreMet, LeadsOn, LastLeadsTo, IsSearch}
use Rattle.waits.proofs.CycleLaws.{next_on, edge_within, path_leads, cycle_from, once-drop}

-- ---- marks

new_is_not_off : New ≢ Off
new_is_not_off e = absurd (cc)

path_is_not_off : OnPath ≢ Off
path_is_not_off e = absurd (cc)

new_is_not_path : New ≢ OnPath
new_is_not_path e = absurd (cc)

pub marked_within : (marks : List Mark) (rank : ℕ) → mark_at marks rank ≢ Off → rank < length marks
marked_within marks rank marked =
    elim (cases_lt rank (length marks)) [
      | inl within ↦ within
      | inr past ↦ absurd (marked (get_or_past marks rank Off past))
    ]

-- what is known of a rank once one of them is marked anew
mark_cases : (marks : List Mark) (rank other : ℕ) (mark : Mark) → rank < length marks → ((other ≡ rank) × (mark_at (slice_set marks rank mark) other ≡ mark)) ⊎ ((other ≢ rank) × (mark_at (slice_set marks rank mark) other ≡ mark_at marks other))
mark_cases marks rank other mark within =
    elim (cases_eq other rank) [
      | inl here ↦ inl (here, ap (λ (k : ℕ). mark_at (slice_set marks rank mark) k) here ∙ get_or-set_same marks rank mark Off within)
      | inr differ ↦ inr (differ, get_or-set_other marks rank other mark Off differ)
    ]

pub met_by_set : (marks : List Mark) (rank : ℕ) (mark : Mark) → rank < length marks → mark ≢ New → AreMet marks (slice_set marks rank mark)
met_by_set marks rank mark within is other met again =
    elim (mark_cases marks rank other mark within) [
      | inl here ↦ is (sym here.1 ∙ again)
      | inr differ ↦ met (sym differ.1 ∙ again)
    ]

-- the weight falls where a mark of less weight takes another's place
pub lighter : (marks : List Mark) (rank : ℕ) (mark : Mark) → rank < length marks → weight_of mark < weight_of (mark_at marks rank) → weight (slice_set marks rank mark) < weight marks
lighter marks rank mark within less =
    let sums = sum_by-set weight_of marks rank mark Off within in
    omega (arith, sums, less)

-- ---- a search that has come to nobody

pub opening : (edges : List (Vec ℕ)) (n : ℕ) (path : List ℕ) (marks : List Mark) (looked : List ℕ) → n ≡ length edges → path ≡ [] → marks ≡ replicate n New → looked ≡ replicate n 0 → IsSearch edges path marks looked
opening edges n path marks looked size empty fresh zeros = rw (empty, fresh, zeros) (record {
  marked = length-replicate n New ∙ size;
  counted = length-replicate n zero ∙ size;
  leads = λ k within. absurd (omega (arith, within));
  once = λ i j d before within. absurd (omega (arith, within));
  on = λ rank on. elim (cases_lt rank n) [
    | inl within ↦ absurd (new_is_not_path (sym (get_or-replicate n rank New Off within) ∙ on))
    | inr past ↦ absurd (path_is_not_off (sym on ∙ get_or_past (replicate n New) rank Off (omega (arith, length-replicate n New))))
  ];
  here = λ rank there. absurd (omega (arith, there.1));
  off = λ ranks cycle k within is.
      let next = next_on edges ranks cycle k within in
      let inside = edge_within edges (get_or ranks k 0) (get_or ranks next.0 0) next.2 in
      new_is_not_off (sym (get_or-replicate n (get_or ranks k 0) New Off (omega (arith, size, inside))) ∙ is);
  past = λ rank k d low high within. elim (cases_lt rank n) [
    | inl inside ↦ absurd (omega (arith, high, get_or-replicate n rank zero zero inside))
    | inr outside ↦ absurd (omega (arith, high, get_or_past (replicate n zero) rank zero (omega (arith, length-replicate n zero))))
  ];
})

-- ---- a rank is looked at

pub look : (edges : List (Vec ℕ)) (path : List ℕ) (marks : List Mark) (looked : List ℕ) (rank place : ℕ) → rank < length looked → AreOff edges marks rank (get_or looked rank 0) place → IsSearch edges path marks looked → IsSearch edges path marks (slice_set looked rank place)
look edges path marks looked rank place inside more keeps =
    record {
      marked = keeps.marked;
      counted = length-set looked rank place ∙ keeps.counted;
      leads = keeps.leads;
      once = keeps.once;
      on = keeps.on;
      here = keeps.here;
      off = keeps.off;
      past = λ other k d low high within. elim (cases_eq other rank) [
        | inl here ↦
            let below : k < place = subst (λ (n : ℕ). k < n) (ap (λ (r : ℕ). get_or (slice_set looked rank place) r 0) here ∙ get_or-set_same looked rank place 0 inside) high in
            elim (cases_lt k (get_or looked rank 0)) [
              | inl before ↦ keeps.past other k d low (subst (λ (r : ℕ). k < get_or looked r 0) (sym here) before) within
              | inr after ↦ subst (λ (r : ℕ). mark_at marks (get_or (awaited_by edges r) k d) ≡ Off) (sym here) (more k d after below (subst (λ (r : ℕ). k < length (awaited_by edges r)) here within))
            ]
        | inr differ ↦ keeps.past other k d low (subst (λ (n : ℕ). k < n) (get_or-set_other looked rank other place 0 differ) high) within
      ];
    }

-- ---- a rank is entered

on_grown : (path : List ℕ) (rank k : ℕ) → k < length path → get_or (path ++ rank ∷ []) k 0 ≡ get_or path k 0
on_grown path rank k within = get_or_append_left path (rank ∷ []) 0 k within

leads_grown : (edges : List (Vec ℕ)) (path : List ℕ) (rank : ℕ) → LastLeadsTo edges path rank → ((k : ℕ) → suc k < length path → HasEdge edges (get_or path k 0) (get_or path (suc k) 0))
    → (k : ℕ) → suc k < length (path ++ rank ∷ []) → HasEdge edges (get_or (path ++ rank ∷ []) k 0) (get_or (path ++ rank ∷ []) (suc k) 0)
leads_grown edges path rank last leads k within =
    let size : length (path ++ rank ∷ []) ≡ length path + 1 = length_push path rank in
    elim (cases_eq (suc k) (length path)) [
      | inl end ↦
          subst (λ (x : ℕ). HasEdge edges x (get_or (path ++ rank ∷ []) (suc k) 0)) (sym (on_grown path rank k (omega (arith, end))))
          (subst (λ (x : ℕ). HasEdge edges (get_or path k 0) x) (sym (get_or_push path rank 0 (suc k) (sym end))) (last k end))
      | inr before ↦
          subst (λ (x : ℕ). HasEdge edges x (get_or (path ++ rank ∷ []) (suc k) 0)) (sym (on_grown path rank k (omega (arith, size, within, before))))
          (subst (λ (x : ℕ). HasEdge edges (get_or path k 0) x) (sym (on_grown path rank (suc k) (omega (arith, size, within, before)))) (leads k (omega (arith, size, within, before))))
    ]

pub enter : (edges : List (Vec ℕ)) (path grown : List ℕ) (marks : List Mark) (looked : List ℕ) (rank : ℕ) → grown ≡ path ++ rank ∷ [] → mark_at marks rank ≡ New → LastLeadsTo edges path rank → IsSearch edges path marks looked → IsSearch edges grown (slice_set marks rank OnPath) looked
enter edges path grown marks looked rank grows fresh last keeps =
    let inside : rank < length marks = marked_within marks rank (λ off. new_is_not_off (sym fresh ∙ off)) in
    subst (λ (xs : List ℕ). IsSearch edges xs (slice_set marks rank OnPath) looked) (sym grows) (record {
      marked = length-set marks rank OnPath ∙ keeps.marked;
      counted = keeps.counted;
      leads = leads_grown edges path rank last keeps.leads;
      once = all_pairs_push (λ (one other : ℕ). one ≢ other) path rank keeps.once
          (λ k d within same. new_is_not_path (sym fresh ∙ keeps.here rank (subst (Contains path) same (Contains-get_or path k d within))));
      on = λ other on. elim (mark_cases marks rank other OnPath inside) [
        | inl here ↦ subst (Contains (path ++ rank ∷ [])) (sym here.0) (Contains-push path rank)
        | inr differ ↦ Contains-append_left path (rank ∷ []) other (keeps.on other (sym differ.1 ∙ on))
      ];
      here = λ other there. elim (mark_cases marks rank other OnPath inside) [
        | inl here ↦ here.1
        | inr differ ↦ differ.1 ∙ elim (Contains-push_cases path rank other there) [
          | inl before ↦ keeps.here other before
          | inr now ↦ absurd (differ.0 (sym now))
        ]
      ];
      off = λ ranks cycle k within is. elim (mark_cases marks rank (get_or ranks k 0) OnPath inside) [
        | inl here ↦ path_is_not_off (sym here.1 ∙ is)
        | inr differ ↦ keeps.off ranks cycle k within (sym differ.1 ∙ is)
      ];
      past = λ one k d low high within. elim (mark_cases marks rank (get_or (awaited_by edges one) k d) OnPath inside) [
        | inl here ↦ absurd (new_is_not_off (sym fresh ∙ ap (mark_at marks) (sym here.0) ∙ keeps.past one k d low high within))
        | inr differ ↦ differ.1 ∙ keeps.past one k d low high within
      ];
    })

-- ---- a rank is left

pub leave : (edges : List (Vec ℕ)) (path rest : List ℕ) (marks : List Mark) (looked : List ℕ) (rank : ℕ) → path ≡ rest ++ rank ∷ [] → ((high : ℕ) → AreOff edges marks rank (get_or looked rank 0) high) → IsSearch edges path marks looked → IsSearch edges rest (slice_set marks rank Off) looked
leave edges path rest marks looked rank ends none before =
    let keeps : IsSearch edges (rest ++ rank ∷ []) marks looked = subst (λ (xs : List ℕ). IsSearch edges xs marks looked) ends before in
    let on_path : mark_at marks rank ≡ OnPath = keeps.here rank (Contains-push rest rank) in
    let inside : rank < length marks = marked_within marks rank (λ off. path_is_not_off (sym on_path ∙ off)) in
    let size : length (rest ++ rank ∷ []) ≡ length rest + 1 = length_push rest rank in
    let all : (to : ℕ) → HasEdge edges rank to → mark_at marks to ≡ Off = λ to edge.
    subst (λ (x : ℕ). mark_at marks x ≡ Off) edge.2 (elim (cases_lt edge.0 (get_or looked rank 0)) [
      | inl looked_at ↦ keeps.past rank edge.0 to (omega arith) looked_at edge.1
      | inr later ↦ none (suc edge.0) edge.0 to later (omega arith) edge.1
    ]) in
    record {
      marked = length-set marks rank Off ∙ keeps.marked;
      counted = keeps.counted;
      leads = λ k within.
          subst (λ (x : ℕ). HasEdge edges x (get_or rest (suc k) 0)) (on_grown rest rank k (omega (arith, within)))
          (subst (λ (x : ℕ). HasEdge edges (get_or (rest ++ rank ∷ []) k 0) x) (on_grown rest rank (suc k) within) (keeps.leads k (omega (arith, size, within))));
      once = λ i j d before within.
          let pair = keeps.once i j d before (omega (arith, size, within)) in
          λ same. pair (get_or_append_left rest (rank ∷ []) d i (omega (arith, before, within)) ∙ same ∙ sym (get_or_append_left rest (rank ∷ []) d j within));
      on = λ other on. elim (mark_cases marks rank other Off inside) [
        | inl here ↦ absurd (path_is_not_off (sym on ∙ here.1))
        | inr differ ↦ elim (Contains-push_cases rest rank other (keeps.on other (sym differ.1 ∙ on))) [
          | inl before ↦ before
          | inr now ↦ absurd (differ.0 (sym now))
        ]
      ];
      here = λ other there. elim (mark_cases marks rank other Off inside) [
        | inl here ↦ absurd (keeps.once there.0 (length rest) other there.1 (omega (arith, size))
            (get_or_append_left rest (rank ∷ []) other there.0 there.1 ∙ there.2 ∙ here.0 ∙ sym (get_or_push rest rank other (length rest) refl)))
        | inr differ ↦ differ.1 ∙ keeps.here other (Contains-append_left rest (rank ∷ []) other there)
      ];
      off = λ ranks cycle k within is. elim (mark_cases marks rank (get_or ranks k 0) Off inside) [
        | inl here ↦
            let next = next_on edges ranks cycle k within in
            keeps.off ranks cycle next.0 next.1 (all (get_or ranks next.0 0) (subst (λ (x : ℕ). HasEdge edges x (get_or ranks next.0 0)) here.0 next.2))
        | inr differ ↦ keeps.off ranks cycle k within (sym differ.1 ∙ is)
      ];
      past = λ one k d low high within. elim (mark_cases marks rank (get_or (awaited_by edges one) k d) Off inside) [
        | inl here ↦ here.1
        | inr differ ↦ differ.1 ∙ keeps.past one k d low high within
      ];
    }

-- ---- the end of a search

-- where no rank is on the path and none is new, there is no cycle
pub no_cycle : (edges : List (Vec ℕ)) (marks : List Mark) (path looked : List ℕ) → path ≡ [] → IsSearch edges path marks looked → ((rank : ℕ) → rank < length edges → mark_at marks rank ≢ New) → (ranks : List ℕ) → IsCycle edges ranks → ⊥
no_cycle edges marks path looked empty keeps met [] cycle = cycle
no_cycle edges marks path looked empty keeps met (rank ∷ others) cycle =
    let next = next_on edges (rank ∷ others) cycle 0 (omega arith) in
    let inside : rank < length edges = edge_within edges rank (get_or (rank ∷ others) next.0 0) next.2 in
    by_mark (mark_at marks rank) refl inside
  where
    by_mark : (mark : Mark) → mark_at marks rank ≡ mark → rank < length edges → ⊥
    by_mark New is inside = met rank inside is
    by_mark OnPath is inside = absurd (omega (arith, (subst (λ (xs : List ℕ). Contains xs rank) empty (keeps.on rank is)).1))
    by_mark Off is inside = keeps.off (rank ∷ others) cycle 0 (omega arith) is

-- ---- one step

-- a path ends with its last rank
last_splits : (path : List ℕ) (rank : ℕ) → slice_get path (length path - 1) ≡ Some rank → path ≡ take (length path - 1) path ++ rank ∷ []
last_splits path rank last =
    let within : length path - 1 < length path = slice_get_within path (length path - 1) rank last in
    let more = take_more path (length path - 1) 0 within in
    let whole : take (length path - 1 + 1) path ≡ path = take_all (length path - 1 + 1) path (omega (arith, within)) in
    sym whole ∙ more ∙ ap (λ (x : ℕ). take (length path - 1) path ++ x ∷ []) (get_or_from_slice_get path (length path - 1) rank 0 last)

last_marked : (edges : List (Vec ℕ)) (path : List ℕ) (marks : List Mark) (looked : List ℕ) (rank : ℕ) → slice_get path (length path - 1) ≡ Some rank → IsSearch edges path marks looked → mark_at marks rank ≡ OnPath
last_marked edges path marks looked rank last keeps =
    keeps.here rank (subst (λ (xs : List ℕ). Contains xs rank) (sym (last_splits path rank last)) (Contains-push (take (length path - 1) path) rank))

pub last_within : (edges : List (Vec ℕ)) (path : List ℕ) (marks : List Mark) (looked : List ℕ) (rank : ℕ) → slice_get path (length path - 1) ≡ Some rank → IsSearch edges path marks looked → rank < length marks
last_within edges path marks looked rank last keeps =
    marked_within marks rank (λ off. path_is_not_off (sym (last_marked edges path marks looked rank last keeps) ∙ off))

pub last_weighs : (edges : List (Vec ℕ)) (path : List ℕ) (marks : List Mark) (looked : List ℕ) (rank : ℕ) → slice_get path (length path - 1) ≡ Some rank → IsSearch edges path marks looked → 0 < weight_of (mark_at marks rank)
last_weighs edges path marks looked rank last keeps = omega (arith, ap weight_of (last_marked edges path marks looked rank last keeps))

last_leads : (edges : List (Vec ℕ)) (path : List ℕ) (rank next : ℕ) → slice_get path (length path - 1) ≡ Some rank → HasEdge edges rank next → LastLeadsTo edges path next
last_leads edges path rank next last edge k end =
    let here : length path - 1 ≡ k = omega (arith, end) in
    subst (λ (x : ℕ). HasEdge edges x next) (sym (get_or_from_slice_get path (length path - 1) rank 0 last) ∙ ap (λ (i : ℕ). get_or path i 0) here) edge

pub left_keeps : (edges : List (Vec ℕ)) (path rest : List ℕ) (marks read marked : List Mark) (looked : List ℕ) (rank from : ℕ) → slice_get path (length path - 1) ≡ Some rank → rest ≡ take (length path - 1) path → read ≡ marks
    → marked ≡ slice_set marks rank Off → from ≡ get_or looked rank 0 → ((high : ℕ) → AreOff edges read rank from high) → IsSearch edges path marks looked → IsSearch edges rest marked looked
left_keeps edges path rest marks read marked looked rank from last ends reads marks_it starts none keeps =
    let off : (high : ℕ) → AreOff edges marks rank (get_or looked rank 0) high =
    subst (λ (n : ℕ). (high : ℕ) → AreOff edges marks rank n high) starts (subst (λ (ms : List Mark). (high : ℕ) → AreOff edges ms rank from high) reads none) in
    subst (λ (xs : List ℕ). IsSearch edges xs marked looked) (sym ends)
    (subst (λ (ms : List Mark). IsSearch edges (take (length path - 1) path) ms looked) (sym marks_it)
    (leave edges path (take (length path - 1) path) marks looked rank (last_splits path rank last) off keeps))

new_of : (mark : Mark) → mark ≢ Off → mark ≢ OnPath → mark ≡ New
new_of New off on = refl
new_of OnPath off on = absurd (on refl)
new_of Off off on = absurd (off refl)

pub entered_new : (edges : List (Vec ℕ)) (marks read : List Mark) (rank from place next : ℕ) → read ≡ marks → LeadsOn edges read rank from place next → mark_at marks next ≢ OnPath → mark_at marks next ≡ New
entered_new edges marks read rank from place next reads found on =
    new_of (mark_at marks next) (subst (λ (ms : List Mark). mark_at ms next ≢ Off) reads found.may_be) on

pub entered_keeps : (edges : List (Vec ℕ)) (path grown : List ℕ) (marks read marked : List Mark) (looked counted : List ℕ) (rank from place next : ℕ) → slice_get path (length path - 1) ≡ Some rank → grown ≡ path ++ next ∷ [] → read ≡ marks
    → marked ≡ slice_set marks next OnPath → counted ≡ slice_set looked rank place → from ≡ get_or looked rank 0 → LeadsOn edges read rank from place next → mark_at marks next ≢ OnPath → IsSearch edges path marks looked → IsSearch edges grown marked counted
entered_keeps edges path grown marks read marked looked counted rank from place next last grows reads marks_it counts starts found on keeps =
    let fresh : mark_at marks next ≡ New = entered_new edges marks read rank from place next reads found on in
    let off : AreOff edges marks rank (get_or looked rank 0) place =
    subst (λ (n : ℕ). AreOff edges marks rank n place) starts (subst (λ (ms : List Mark). AreOff edges ms rank from place) reads found.before) in
    let inside : rank < length looked = omega (arith, last_within edges path marks looked rank last keeps, keeps.marked, keeps.counted) in
    subst (λ (xs : List ℕ). IsSearch edges grown marked xs) (sym counts)
    (subst (λ (ms : List Mark). IsSearch edges grown ms (slice_set looked rank place)) (sym marks_it)
    (enter edges path grown marks (slice_set looked rank place) next grows fresh (last_leads edges path rank next last found.edge) (look edges path marks looked rank place inside off keeps)))

-- a part of the path, as it is given
abbrev pub IsPart : List ℕ → ℕ → List ℕ → Type 0
IsPart path next ranks = (k : ℕ) × (k < length path) × (get_or path k 0 ≡ next) × (ranks ≡ drop k path)

pub closes : (edges : List (Vec ℕ)) (path read ranks : List ℕ) (marks seen : List Mark) (looked : List ℕ) (rank from place next : ℕ) → slice_get path (length path - 1) ≡ Some rank → read ≡ path → IsPart read next ranks → LeadsOn edges seen rank from place next → IsSearch edges path marks looked → IsCycle edges ranks
closes edges path read ranks marks seen looked rank from place next last reads part found keeps =
    let own : IsPart path next ranks = subst (λ (xs : List ℕ). IsPart xs next ranks) reads part in
    subst (IsCycle edges) (sym own.3) (cycle_from edges path next own.0 (path_leads edges path next keeps.leads (last_leads edges path rank next last found.edge)) own.1 own.2)

pub closes_once : (edges : List (Vec ℕ)) (path read ranks : List ℕ) (marks : List Mark) (looked : List ℕ) (next : ℕ) → read ≡ path → IsPart read next ranks → IsSearch edges path marks looked → AllPairs (λ (one other : ℕ). one ≢ other) ranks
closes_once edges path read ranks marks looked next reads part keeps =
    let own : IsPart path next ranks = subst (λ (xs : List ℕ). IsPart xs next ranks) reads part in
    subst (AllPairs (λ (one other : ℕ). one ≢ other)) (sym own.3) (once-drop path own.0 keeps.once)
