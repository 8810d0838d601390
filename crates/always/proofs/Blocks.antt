-- Where no send races for a finder of another block, each run matches within the blocks of one that
-- buffers all it may and can't go on, and has no more than it.
use Rattle.std.proofs.Common.{is_some, ◌≡◌, ◌≢◌, ℕ, zero, suc, ◌<◌, ◌≤◌, ◌⊎◌, inl, inr, Bool, true, false, not, ◌&&◌, ◌||◌, ◌==◌, List, [], ◌∷◌, Option, Some, None, length, slice_get, slice_index, refl, sym, ap, ◌∙◌, subst, arith}
use Rattle.std.proofs.lemmas.Bool.{cases_eq, cases_lt, eqb-true, eq-eqb}
use Rattle.std.proofs.lemmas.List.{get_or_past}
use Rattle.std.proofs.lemmas.Option.{slice_get_within, slice_get-get_or}
use Rattle.calltext.proofs.Conjunctions.{and_true, and_both}
use Rattle.callorder.proofs.Lookups.{slice_get-none_past}
use Rattle.callorder.specs.declared.calls.Call.{Call}
use Rattle.callorder.specs.declared.calls.Kind.{Kind}
use Rattle.callorder.specs.declared.calls.Kind.TheVariants.{Receive, MatchedProbe, Probe}
use Rattle.callorder.specs.Programs.{MpiProgram, call_at, is_of_rank, are_fit, is_probe, takes, are_of_one_rank, kind_holds}
use Rattle.callorder.specs.declared.calls.Pattern.{Pattern}
use Rattle.callorder.specs.Calls.{pattern_of, receive_of, is_probe_kind, holds_of, fits}
use Rattle.semantics.specs.declared.state.Step.{Step}
use Rattle.semantics.specs.declared.state.Step.TheVariants.{Issue, Match, See}
use Rattle.semantics.specs.Machine.{Configuration, opening, after, after_all, IsEnabled, IsRun, IsStuckRun, CanFind, is_issued, is_matched, partner_of, fetches, fetches_partner, is_fetched, is_returned, may_be, can_issue_next, can_issue_call, has_returned_before}
use Rattle.run_laws.specs.Laws.{IsInRankOrder}
use Rattle.run_laws.proofs.Matched.{no_send_is_taker}
use Rattle.races.specs.Tells.{Table, IsJustified}
use Rattle.races.specs.Blocks.{IsSure, HasFellow, IsPrompt, Blocks, is_finder, is_finder_call, AreBlocks, IsLike, HasNoRaceOfBlocks}
use Rattle.always.specs.Always.{ShowsNoRaceOfBlocksBefore, HasEnded, BuffersAllItMay, IsEndedRun, SticksInEveryRun}
use Rattle.always.specs.Laws.{BlocksAreGreatest, BlocksStickAlways, TableOfBlocksIsGreatest, TableOfBlocksSticksAlways}
use Rattle.races.proofs.Steps.{is_or_not, some_or_none, same_some, matched_from, partner_from, none_open, issued_within, within_issued, one_rank, one_rank_made}
use Rattle.races.proofs.Kept.{Kept, new_or_old, finders_of_one_rank, takes_fit, takes_no_probe, takes_made}
use Rattle.races.proofs.Passing.{none_issued, kept_after, kept_opening, kept_run, no_partner, part_all}
use Rattle.races.proofs.Climb.{issued_by_next}
use Rattle.races.proofs.Telling.{Told, told_step, no_send_fetches_call, fetching}
use Rattle.races.proofs.Pigeons.{no_pigeon}
use Rattle.races.proofs.Alike.{Has, returned_before_has, fellows, full_block, fit_finder, finder_no_send, partner_or, partner_or_is}
use Rattle.races.proofs.ClimbBlocks.{Weak, fetches_next, probe_back, some_choice}
use Rattle.races.proofs.LikeRuns.{behind_probe, loose_cut, sure_agrees}
use Rattle.always.proofs.Buffering.{AllBuffered, buffered_all}
use Rattle.always.proofs.Behind.{Behind, next_there, sticks_always, ended_of}
use Rattle.always.proofs.Greatest.{all_buffered_opening, buffered_there}
use Rattle.always.proofs.Ordered.{no_open_pair, earlier_taker}

-- ---- what is fetched

or_true_right : (a b : Bool) → b ≡ true → (a || b) ≡ true
or_true_right true b h = refl
or_true_right false b h = h

-- behind a call that has returned the next one of its rank is issued, where all is stuck
no_next : (p : MpiProgram) (n : Configuration) (r c : ℕ) (call : Call) → HasEnded p n → slice_index n.next r ≡ suc c → call_at p (suc c) ≡ Some call → call.rank ≡ r → is_returned p n c ≡ true → ⊥
no_next p n r c call stuck next there own returned =
    let inside : r < length n.next = elim (cases_lt r (length n.next)) [
      | inl yes' ↦ yes'
      | inr past ↦ absurd (let none : slice_index n.next r ≡ 0 = get_or_past n.next r 0 past in omega (arith, none, next))
    ] in
    let place : slice_get n.next r ≡ Some (suc c) = slice_get-get_or n.next r 0 inside ∙ ap Some next in
    let choice = some_choice p.policy call.kind in
    let back : has_returned_before p n r (suc c) ≡ true = or_true_right (not (is_of_rank (call_at p c) r)) (is_returned p n c) returned in
    let all : holds_of (can_issue_call p n r choice.0 (suc c)) (Some call) ≡ true =
    and_both (call.rank == r && has_returned_before p n r (suc c)) (may_be p.policy call.kind choice.0) (and_both (call.rank == r) (has_returned_before p n r (suc c)) (eq-eqb call.rank r own) back) choice.1 in
    stuck (Issue r choice.0)
    (subst (λ (z : Option ℕ). holds_of (can_issue_next p n r choice.0) z ≡ true) (sym place) (subst (λ (z : Option Call). holds_of (can_issue_call p n r choice.0 (suc c)) z ≡ true) (sym there) all))

-- where all is stuck, what a prompt finder has found is fetched
prompt_fetches : (p : MpiProgram) (n : Configuration) (y : ℕ) → IsInRankOrder p → HasEnded p n → IsPrompt p y → is_finder p y ≡ true → is_issued p n y ≡ true → is_matched n y ≡ true → kind_holds (fetches p n) (call_at p y) ≡ true
prompt_fetches p n y order ended prompt finder issued matched = go (call_at p y) refl finder
  where
    next_one : (call : Call) (pattern : Pattern) (q : ℕ) → call_at p y ≡ Some call → call.kind ≡ MatchedProbe pattern q → (a b : Call) → call_at p y ≡ Some a → call_at p q ≡ Some b → a.rank ≡ b.rank → (nx : ℕ) → slice_index n.next a.rank ≡ nx → y < nx → nx ≤ q → ⊥
    next_one call pattern q is kind a b at_y at_q one zero next below past = absurd (omega (arith, below))
    next_one call pattern q is kind a b at_y at_q one (suc c) next below past = by (call_at p (suc c)) refl
      where
        returned : is_returned p n c ≡ true
        returned =
            elim (cases_eq c y) [
              | inl same ↦ ap (is_returned p n) same ∙ probe_back p n y q call pattern is kind matched
              | inr differ ↦ prompt.returned call q c n is (ap receive_of kind) (omega (arith, below, differ)) (omega (arith, past)) matched
            ]

        by : (o : Option Call) → call_at p (suc c) ≡ o → ⊥
        by None none = omega (arith, slice_get-none_past p.calls (suc c) none, slice_get_within p.calls q b at_q, past)
        by (Some x) at_c =
            let low : a.rank ≤ x.rank = order y (suc c) a x (omega (arith, below)) at_y at_c in
            let high : x.rank ≤ b.rank = order (suc c) q x b past at_c at_q in
            let rank : x.rank ≡ a.rank = omega (arith, low, high, one) in
            no_next p n a.rank c x ended next at_c rank returned

    handle : (call : Call) (pattern : Pattern) (q : ℕ) → call_at p y ≡ Some call → call.kind ≡ MatchedProbe pattern q → is_issued p n q ≡ true
    handle call pattern q is kind =
        elim (is_or_not (is_issued p n q)) [
          | inl on ↦ on
          | inr off ↦
              let behind = prompt.behind call q is (ap receive_of kind) in
              let calls = one_rank p y q behind.1 in
              let below = issued_within p n y calls.0 calls.2 issued in
              let same_next : slice_index n.next calls.0.rank ≡ slice_index n.next calls.1.rank = ap (slice_index n.next) calls.4 in
              let past : slice_index n.next calls.0.rank ≤ q = elim (cases_lt q (slice_index n.next calls.0.rank)) [
                | inl inside ↦ absurd (let on : is_issued p n q ≡ true = within_issued p n q calls.1 calls.3 (omega (arith, inside, same_next)) in cc)
                | inr past ↦ past
              ] in
              absurd (next_one call pattern q is kind calls.0 calls.1 calls.2 calls.3 calls.4 (slice_index n.next calls.0.rank) refl below past)
        ]

    kinds : (call : Call) (k : Kind ℕ) → call_at p y ≡ Some call → call.kind ≡ k → is_some (pattern_of k) ≡ true → fetches p n k ≡ true
    kinds call (Receive blocking pattern) is kind h = refl
    kinds call (MatchedProbe pattern q) is kind h = handle call pattern q is kind
    kinds call (Probe pattern) is kind h = absurd (let on : is_probe p y ≡ true = ap (kind_holds is_probe_kind) is ∙ ap is_probe_kind kind in let off = prompt.taker in cc)
    kinds call other is kind h = absurd (cc)

    go : (o : Option Call) → call_at p y ≡ o → is_finder_call o ≡ true → kind_holds (fetches p n) o ≡ true
    go None is h = absurd (cc)
    go (Some call) is h = kinds call call.kind is refl h

-- The end of a run that buffers all it may, and a test of the configurations that a run passes, by
-- which no send of another block that could race is issued before the finder has found.
record Backdrop (p : MpiProgram) (block : Blocks) (e : Configuration) (Q : Configuration → Type 0) : Type 0 where
  kept_e : Kept p e
  are : AreBlocks p block
  order : IsInRankOrder p
  ended : HasEnded p e
  all : AllBuffered p e
  step : (m : Configuration) (x : Step) → Kept p m → IsLike p block e m → IsEnabled p m x → Q m → Q (after m x)
  none : (m : Configuration) (f own other : ℕ) → Kept p m → IsLike p block e m → Q m → partner_of e f ≡ Some own → are_fit p own f ≡ true → are_fit p other f ≡ true → (are_of_one_rank p own other ≡ false) ⊎ HasFellow p block f → ((t : ℕ) → partner_of e other ≡ Some t → (t < f) ⊎ (block t ≡ block f) → ⊥) → is_issued p e other ≡ true → is_issued p m other ≡ true → is_matched m f ≡ true

fetched_like : (p : MpiProgram) (block : Blocks) (e : Configuration) (Q : Configuration → Type 0) (m : Configuration) → Backdrop p block e Q → Kept p m → IsLike p block e m → ((k : ℕ) → slice_index m.next k ≤ slice_index e.next k) → (c : ℕ) → is_fetched p m c ≡ true → is_fetched p e c ≡ true
fetched_like p block e Q m b kept like upto c h =
    let w = fetching p m (partner_of m c) h in
    elim (kept.fit c w.0 w.1) [
      | inr other ↦ absurd (no_send_fetches_call p m (call_at p w.0) (call_at p c) other w.2)
      | inl taken ↦
          let u = like.taken c w.0 taken w.1 in
          elim (b.kept_e.fit c u.0 u.1) [
            | inr other ↦ absurd (no_send_is_taker p c w.0 u.0 (takes_fit p c w.0 taken) other)
            | inl also ↦
                let finder_u = fit_finder p c u.0 (takes_fit p c u.0 also) in
                let finder_w = fit_finder p c w.0 (takes_fit p c w.0 taken) in
                ap (holds_of (fetches_partner p e)) u.1 ∙
                elim (cases_eq u.0 w.0) [
                  | inl is ↦ ap (λ (z : ℕ). kind_holds (fetches p e) (call_at p z)) is ∙ fetches_next p m e (call_at p w.0) upto w.2
                  | inr differ ↦ prompt_fetches p e u.0 b.order b.ended (fellows p block u.0 w.0 b.are finder_u finder_w (sym u.2) differ).first finder_u (b.kept_e.issued c u.0 u.1).1 (matched_from e u.0 c (b.kept_e.both c u.0 (takes_fit p c u.0 also) u.1))
                ]
          ]
    ]

has_of : (p : MpiProgram) (block : Blocks) (e : Configuration) (Q : Configuration → Type 0) (m : Configuration) → Backdrop p block e Q → Kept p m → IsLike p block e m → Weak p m e → Has p m e
has_of p block e Q m b kept like weak = record { next = weak.next; matched = weak.matched; fetched = fetched_like p block e Q m b kept like weak.next; buffered = weak.buffered }

behind_of : (p : MpiProgram) (m e : Configuration) → Has p m e → Behind p m e
behind_of p m e has = record { next = has.next; returned = λ rank c h. returned_before_has p m e rank c has h }

-- ---- what a finder finds

-- what a finder may find is its block's, or, of a probe, what it has seen at the end
find_alike : (p : MpiProgram) (block : Blocks) (e : Configuration) (Q : Configuration → Type 0) (m : Configuration) (s f : ℕ) → Backdrop p block e Q → Q m → Kept p m → IsLike p block e m → ((k : ℕ) → slice_index m.next k ≤ slice_index e.next k) → CanFind p m s f → ((is_probe p f ≡ true) × (partner_of e f ≡ Some s)) ⊎ ((u : ℕ) × (partner_of e s ≡ Some u) × (block f ≡ block u))
find_alike p block e Q m s f b q kept like upto can =
    elim (some_or_none (partner_of e f)) [
      | inl w ↦ at w.0 w.1
      | inr none ↦ unfound (none_open e f none)
    ]
  where
    finder : is_finder p f ≡ true
    finder = fit_finder p s f can.fit

    -- with no partner in the block or before
    held : (x : ℕ) → partner_of e f ≡ Some x → are_fit p x f ≡ true → x ≢ s → ((t : ℕ) → partner_of e s ≡ Some t → (t < f) ⊎ (block t ≡ block f) → ⊥) → ⊥
    held x found fit differ away =
        elim (is_or_not (are_of_one_rank p x s)) [
          | inr apart ↦ let on : is_matched m f ≡ true = b.none m f x s kept like q found fit can.fit (inl apart) away (issued_by_next p m e s upto can.send_issued) can.send_issued in let off = can.finder_open in cc
          | inl one ↦
              elim (cases_lt x s) [
                | inr not_below ↦
                    let above : s < x = omega (arith, not_below, differ) in
                    let calls = one_rank p x s one in
                    let back : are_of_one_rank p s x ≡ true = one_rank_made p s x calls.1 calls.0 calls.3 calls.2 (sym calls.4) in
                    let w = partner_from e s (b.kept_e.sends x f s found fit above back can.fit) in
                    away w.0 w.1 (inl (b.kept_e.earlier x f s w.0 found fit above back can.fit w.1))
                | inl below ↦
                    let y = partner_from m x (can.sends x below one fit) in
                    elim (is_or_not (is_probe p f)) [
                      | inl probe ↦ behind_probe p block m e x f y.0 kept b.kept_e like b.are probe fit found y.1 can.finder_open
                      | inr taker ↦ taken_first x found fit away y.0 y.1 taker
                    ]
              ]
        ]
      where
        taken_first : (x : ℕ) → partner_of e f ≡ Some x → are_fit p x f ≡ true → ((t : ℕ) → partner_of e s ≡ Some t → (t < f) ⊎ (block t ≡ block f) → ⊥) → (y : ℕ) → partner_of m x ≡ Some y → is_probe p f ≡ false → ⊥
        taken_first x found fit away y sent_m taker =
            elim (kept.fit x y sent_m) [
              | inr other ↦ no_send_is_taker p x f y fit other
              | inl taken ↦
                  let u = like.taken x y taken sent_m in
                  let own : partner_of e x ≡ Some f = b.kept_e.back x f (takes_made p x f fit taker) found in
                  let same : block y ≡ block f = u.2 ∙ ap block (same_some u.0 f (sym u.1 ∙ own)) in
                  let off : is_matched m f ≡ false = can.finder_open in
                  elim (cases_eq y f) [
                    | inl is ↦ let on : is_matched m f ≡ true = subst (λ (z : ℕ). is_matched m z ≡ true) is (matched_from m y x (kept.both x y (takes_fit p x y taken) sent_m)) in cc
                    | inr other ↦
                        let on : is_matched m f ≡ true = b.none m f x s kept like q found fit can.fit (inr (record { fellow = y; finder = fit_finder p x y (takes_fit p x y taken); same = same; other = other })) away (issued_by_next p m e s upto can.send_issued) can.send_issued in
                        cc
                  ]
            ]

    -- an earlier block has all its messages
    before : (u : ℕ) → partner_of e s ≡ Some u → takes p s u ≡ true → (block f ≡ block u → ⊥) → u < f → ⊥
    before u own taken differ below =
        full_block p block m e s u kept b.kept_e like b.are taken own can.send_open (λ h finder_h same matched. by h finder_h same)
      where
        by : (h : ℕ) → is_finder p h ≡ true → block h ≡ block u → is_matched m h ≡ true
        by h finder_h same =
            let fit_u : are_fit p s u ≡ true = takes_fit p s u taken in
            let finder_u = fit_finder p s u fit_u in
            let not_f : h ≢ f = λ is. differ (ap block (sym is) ∙ same) in
            let known : (are_fit p s h ≡ true) × (is_probe p h ≡ false) = elim (cases_eq u h) [
              | inl is ↦ (subst (λ (z : ℕ). are_fit p s z ≡ true) is fit_u, subst (λ (z : ℕ). is_probe p z ≡ false) is (takes_no_probe p s u taken))
              | inr other ↦ let w = fellows p block u h b.are finder_u finder_h (sym same) other in (w.alike s fit_u, w.second_taker)
            ] in
            let first : h < f = elim (cases_lt h f) [
              | inl inside ↦ inside
              | inr past ↦
                  let above : f < h = omega (arith, past, not_f) in
                  absurd (differ ((b.are u h (omega (arith, below, above)) finder_u finder_h (sym same)).alone f below above finder))
            ] in
            can.takers h first (finders_of_one_rank p s h f known.0 can.fit) (takes_made p s h known.0 known.1)

    -- a finder that has found nothing at the end
    unfound : is_matched e f ≡ false → ((is_probe p f ≡ true) × (partner_of e f ≡ Some s)) ⊎ ((u : ℕ) × (partner_of e s ≡ Some u) × (block f ≡ block u))
    unfound free =
        elim (some_or_none (partner_of e s)) [
          | inr none ↦ absurd (no_open_pair p e s f b.ended (issued_by_next p m e s upto can.send_issued) (issued_by_next p m e f upto can.finder_issued) (none_open e s none) free can.fit)
          | inl u ↦
              elim (b.kept_e.fit s u.0 u.1) [
                | inr other ↦ absurd (no_send_is_taker p s f u.0 can.fit other)
                | inl taken ↦
                    elim (cases_eq (block f) (block u.0)) [
                      | inl same ↦ inr (u.0, u.1, same)
                      | inr apart ↦ absurd (before u.0 u.1 taken apart (earlier_taker p e s f u.0 b.kept_e free can.fit u.1))
                    ]
              ]
        ]

    at : (x : ℕ) → partner_of e f ≡ Some x → ((is_probe p f ≡ true) × (partner_of e f ≡ Some s)) ⊎ ((u : ℕ) × (partner_of e s ≡ Some u) × (block f ≡ block u))
    at x found =
        elim (b.kept_e.fit f x found) [
          | inl taken ↦ absurd (no_send_is_taker p f x s (takes_fit p f x taken) can.fit)
          | inr fit ↦
              elim (cases_eq x s) [
                | inl same ↦
                    elim (is_or_not (is_probe p f)) [
                      | inl probe ↦ inl (probe, found ∙ ap Some same)
                      | inr taker ↦ inr (f, b.kept_e.back s f (takes_made p s f can.fit taker) (found ∙ ap Some same), refl)
                    ]
                | inr differ ↦
                    elim (some_or_none (partner_of e s)) [
                      | inr none ↦ absurd (held x found fit differ (λ t own w. cc))
                      | inl u ↦
                          elim (b.kept_e.fit s u.0 u.1) [
                            | inr other ↦ absurd (no_send_is_taker p s f u.0 can.fit other)
                            | inl taken ↦
                                elim (cases_eq (block f) (block u.0)) [
                                  | inl same ↦ inr (u.0, u.1, same)
                                  | inr apart ↦
                                      elim (cases_lt u.0 f) [
                                        | inl below ↦ absurd (before u.0 u.1 taken apart below)
                                        | inr not_below ↦ absurd (held x found fit differ (λ t own w.
                                            let is : t ≡ u.0 = same_some t u.0 (sym own ∙ u.1) in
                                            elim w [
                                              | inl below ↦ omega (arith, below, is, not_below)
                                              | inr same ↦ apart (sym (ap block (sym is) ∙ same))
                                            ]))
                                      ]
                                ]
                          ]
                    ]
              ]
        ]

like_step : (p : MpiProgram) (block : Blocks) (e : Configuration) (Q : Configuration → Type 0) (m : Configuration) (x : Step) → Backdrop p block e Q → Q m → Kept p m → IsLike p block e m → ((k : ℕ) → slice_index m.next k ≤ slice_index e.next k) → IsEnabled p m x → IsLike p block e (after m x)
like_step p block e Q m x b q kept like upto enabled = record { taken = taken_too; seen = seen_too }
  where
    taken_too : (s t : ℕ) → takes p s t ≡ true → partner_of (after m x) s ≡ Some t → (u : ℕ) × (partner_of e s ≡ Some u) × (block t ≡ block u)
    taken_too s t taken h =
        elim (new_or_old p m x s t kept.size enabled h) [
          | inl old ↦ like.taken s t taken old
          | inr w ↦
              elim w.which [
                | inl is ↦ absurd (no_send_is_taker p s t w.send (takes_fit p s t taken) (subst (λ (z : ℕ). are_fit p w.send z ≡ true) (sym is.0) w.can.fit))
                | inr is ↦
                    elim (find_alike p block e Q m w.send w.finder b q kept like upto w.can) [
                      | inl probe ↦ absurd (let on = probe.0 in let off = is.2 in cc)
                      | inr u ↦ (u.0, ap (partner_of e) is.0 ∙ u.1, ap block is.1 ∙ u.2)
                    ]
              ]
        ]

    seen_too : (s f : ℕ) → is_probe p f ≡ true → are_fit p s f ≡ true → partner_of (after m x) f ≡ Some s → partner_of e f ≡ Some s
    seen_too s f probe fit h =
        elim (new_or_old p m x f s kept.size enabled h) [
          | inl old ↦ like.seen s f probe fit old
          | inr w ↦
              elim w.which [
                | inr is ↦ absurd (no_send_is_taker p w.send w.finder s w.can.fit (subst (λ (z : ℕ). are_fit p s z ≡ true) is.0 fit))
                | inl is ↦
                    elim (find_alike p block e Q m w.send w.finder b q kept like upto w.can) [
                      | inl found ↦ ap (partner_of e) is.0 ∙ found.1 ∙ ap Some (sym is.1)
                      | inr u ↦ absurd (no_block s f probe fit w.finder w.send is.0 is.1 u.0 u.1 u.2)
                    ]
              ]
        ]
      where
        no_block : (s f : ℕ) → is_probe p f ≡ true → are_fit p s f ≡ true → (finder send : ℕ) → f ≡ finder → s ≡ send → (u : ℕ) → partner_of e send ≡ Some u → block finder ≡ block u → ⊥
        no_block s f probe fit finder send is_f is_s u own same =
            let here : partner_of e s ≡ Some u = ap (partner_of e) is_s ∙ own in
            elim (b.kept_e.fit s u here) [
              | inr other ↦ no_send_is_taker p s f u fit other
              | inl taken ↦
                  let differ : f ≢ u = λ is. absurd (let off : is_probe p f ≡ false = ap (is_probe p) is ∙ takes_no_probe p s u taken in cc) in
                  let off : is_probe p f ≡ false = (fellows p block f u b.are (fit_finder p s f fit) (fit_finder p s u (takes_fit p s u taken)) (ap block is_f ∙ same) differ).first_taker in
                  cc
            ]

-- ---- a taker that finds a send here has found one there

is_of : MpiProgram → Blocks → ℕ → ℕ → Bool
is_of p block f h = is_finder p h && block h == block f

of_parts : (p : MpiProgram) (block : Blocks) (f h : ℕ) → is_of p block f h ≡ true → (is_finder p h ≡ true) × (block h ≡ block f)
unfolding is_of
of_parts p block f h on =
    let a = and_true (is_finder p h) (block h == block f) on in
    (a.0, eqb-true (block h) (block f) a.1)

of_made : (p : MpiProgram) (block : Blocks) (f h : ℕ) → is_finder p h ≡ true → block h ≡ block f → is_of p block f h ≡ true
unfolding is_of
of_made p block f h finder same = and_both (is_finder p h) (block h == block f) finder (eq-eqb (block h) (block f) same)

-- where at the end the send is, which this earlier taker of the block has here
record Image (p : MpiProgram) (block : Blocks) (m e : Configuration) (f h : ℕ) : Type 0 where
  send : ℕ
  finder : ℕ
  here : partner_of m h ≡ Some send
  here_back : partner_of m send ≡ Some h
  there : partner_of e send ≡ Some finder
  there_back : partner_of e finder ≡ Some send
  below : finder < f
  member : is_of p block f finder ≡ true

-- a taker of the block that has found at the end stands before one that hasn't
stands_before : (p : MpiProgram) (block : Blocks) (e : Configuration) (s f u : ℕ) → Kept p e → AreBlocks p block → is_probe p f ≡ false → is_finder p f ≡ true → is_matched e f ≡ false → takes p s u ≡ true → partner_of e s ≡ Some u → block u ≡ block f → u < f
stands_before p block e s f u kept are taker finder free taken own same =
    let fit : are_fit p s u ≡ true = takes_fit p s u taken in
    let back : partner_of e u ≡ Some s = kept.both s u fit own in
    elim (cases_lt u f) [
      | inl inside ↦ inside
      | inr past ↦
          absurd (elim (cases_eq u f) [
            | inl is ↦ let on : is_matched e f ≡ true = subst (λ (z : ℕ). is_matched e z ≡ true) is (matched_from e u s back) in cc
            | inr differ ↦
                let w = fellows p block u f are (fit_finder p s u fit) finder same differ in
                let fits : are_fit p s f ≡ true = w.alike s fit in
                let on : is_matched e f ≡ true = kept.takers s u f back fit (omega (arith, past, differ)) (finders_of_one_rank p s f u fits fit) (takes_made p s f fits taker) in
                cc
          ])
    ]

taker_matched : (p : MpiProgram) (block : Blocks) (m e : Configuration) (s f u : ℕ) → Kept p m → Kept p e → IsLike p block e m → AreBlocks p block → CanFind p m s f → is_probe p f ≡ false → partner_of e s ≡ Some u → block f ≡ block u → is_matched e f ≡ true
taker_matched p block m e s f u kept kept_e like are can taker own same =
    elim (is_or_not (is_matched e f)) [
      | inl on ↦ on
      | inr free ↦
          absurd (elim (kept_e.fit s u own) [
            | inr other ↦ no_send_is_taker p s f u can.fit other
            | inl taken ↦ missed free taken
          ])
    ]
  where
    finder : is_finder p f ≡ true
    finder = fit_finder p s f can.fit

    -- an earlier taker of the block has found here, and what it has is had by an earlier one at the
    -- end
    image : is_matched e f ≡ false → (h : ℕ) → h < f → is_of p block f h ≡ true → Image p block m e f h
    image free h below on =
        let parts = of_parts p block f h on in
        let differ : h ≢ f = λ is. absurd (omega (arith, below, is)) in
        let back : f ≢ h = λ is. absurd (omega (arith, below, is)) in
        let w = fellows p block h f are parts.0 finder parts.1 differ in
        let v = fellows p block f h are finder parts.0 (sym parts.1) back in
        let y = partner_from m h (can.takers h below w.one (takes_made p s h (v.alike s can.fit) w.first_taker)) in
        elim (kept.fit h y.0 y.1) [
          | inl other ↦ absurd (finder_no_send p h y.0 parts.0 (takes_fit p h y.0 other))
          | inr fit ↦
              let taken : takes p y.0 h ≡ true = takes_made p y.0 h fit w.first_taker in
              let sent = kept.back y.0 h taken y.1 in
              let z = like.taken y.0 h taken sent in
              elim (kept_e.fit y.0 z.0 z.1) [
                | inr other ↦ absurd (no_send_is_taker p y.0 h z.0 fit other)
                | inl also ↦
                    let block_z : block z.0 ≡ block f = sym z.2 ∙ parts.1 in
                    record {
                      send = y.0;
                      finder = z.0;
                      here = y.1;
                      here_back = sent;
                      there = z.1;
                      there_back = kept_e.both y.0 z.0 (takes_fit p y.0 z.0 also) z.1;
                      below = stands_before p block e y.0 f z.0 kept_e are taker finder free also z.1 block_z;
                      member = of_made p block f z.0 (fit_finder p y.0 z.0 (takes_fit p y.0 z.0 also)) block_z;
                    }
              ]
        ]

    image_at : (h : ℕ) → (w : Image p block m e f h) → partner_or e (partner_or m h) ≡ w.finder
    image_at h w = ap (partner_or e) (partner_or_is m h w.send w.here) ∙ partner_or_is e w.send w.finder w.there

    missed : is_matched e f ≡ false → takes p s u ≡ true → ⊥
    missed free taken =
        let back : partner_of e u ≡ Some s = kept_e.both s u (takes_fit p s u taken) own in
        no_pigeon (is_of p block f) f u (λ h. partner_or e (partner_or m h)) (stands_before p block e s f u kept_e are taker finder free taken own (sym same)) (of_made p block f u (fit_finder p s u (takes_fit p s u taken)) (sym same)) (record {
          within = λ h l on. let w = image free h l on in rw (image_at h w) w.below;
          kept = λ h l on. let w = image free h l on in rw (image_at h w) w.member;
          missed = λ h l on is. absurd (
              let w = image free h l on in
              let is_u : w.finder ≡ u = sym (image_at h w) ∙ is in
              let send : w.send ≡ s = same_some w.send s (sym w.there_back ∙ ap (partner_of e) is_u ∙ back) in
              let matched : is_matched m s ≡ true = subst (λ (z : ℕ). is_matched m z ≡ true) send (matched_from m w.send h w.here_back) in
              let off : is_matched m s ≡ false = can.send_open in
              cc);
          once = λ i j l on k also is.
              let w = image free i l on in
              let y = image free j k also in
              let one : w.finder ≡ y.finder = sym (image_at i w) ∙ is ∙ image_at j y in
              let send : w.send ≡ y.send = same_some w.send y.send (sym w.there_back ∙ ap (partner_of e) one ∙ y.there_back) in
              same_some i j (sym w.here_back ∙ ap (partner_of m) send ∙ y.here_back);
        })

-- what a step finds is matched or seen at the end
matched_there : (p : MpiProgram) (block : Blocks) (e : Configuration) (Q : Configuration → Type 0) (m : Configuration) (x : Step) → Backdrop p block e Q → Q m → Kept p m → IsLike p block e m → Weak p m e → IsEnabled p m x → (c : ℕ) → is_matched (after m x) c ≡ true → is_matched e c ≡ true
matched_there p block e Q m x b q kept like weak enabled c h =
    let y = partner_from (after m x) c h in
    elim (new_or_old p m x c y.0 kept.size enabled y.1) [
      | inl old ↦ weak.matched c (matched_from m c y.0 old)
      | inr w ↦
          elim (find_alike p block e Q m w.send w.finder b q kept like weak.next w.can) [
            | inl probe ↦
                elim w.which [
                  | inl is ↦ matched_from e c w.send (ap (partner_of e) is.0 ∙ probe.1)
                  | inr is ↦ absurd (let on = probe.0 in let off = is.2 in cc)
                ]
            | inr u ↦
                elim w.which [
                  | inr is ↦ matched_from e c u.0 (ap (partner_of e) is.0 ∙ u.1)
                  | inl is ↦
                      elim (is_or_not (is_probe p w.finder)) [
                        | inr taker ↦ ap (is_matched e) is.0 ∙ taker_matched p block m e w.send w.finder u.0 kept b.kept_e like b.are w.can taker u.1 u.2
                        | inl probe ↦
                            absurd (elim (b.kept_e.fit w.send u.0 u.1) [
                              | inr other ↦ no_send_is_taker p w.send w.finder u.0 w.can.fit other
                              | inl taken ↦
                                  let differ : w.finder ≢ u.0 = λ same. absurd (let off : is_probe p w.finder ≡ false = ap (is_probe p) same ∙ takes_no_probe p w.send u.0 taken in cc) in
                                  let off : is_probe p w.finder ≡ false = (fellows p block w.finder u.0 b.are (fit_finder p w.send w.finder w.can.fit) (fit_finder p w.send u.0 (takes_fit p w.send u.0 taken)) u.2 differ).first_taker in
                                  cc
                            ])
                      ]
                ]
          ]
    ]

-- ---- a step, and all of them

weak_step : (p : MpiProgram) (block : Blocks) (e : Configuration) (Q : Configuration → Type 0) (m : Configuration) (x : Step) → Backdrop p block e Q → Q m → Kept p m → IsLike p block e m → Weak p m e → IsEnabled p m x → Weak p (after m x) e
weak_step p block e Q m (Match s t) b q kept like weak enabled = record { next = weak.next; matched = matched_there p block e Q m (Match s t) b q kept like weak enabled; buffered = weak.buffered }
weak_step p block e Q m (See s f) b q kept like weak enabled = record { next = weak.next; matched = matched_there p block e Q m (See s f) b q kept like weak enabled; buffered = weak.buffered }
weak_step p block e Q m (Issue r on) b q kept like weak enabled =
    let next = next_there p m e r on kept b.kept_e b.ended (behind_of p m e (has_of p block e Q m b kept like weak)) enabled in
    record {
      next = next;
      matched = matched_there p block e Q m (Issue r on) b q kept like weak enabled;
      buffered = λ c h. buffered_there p (after m (Issue r on)) e (kept_after p m (Issue r on) kept enabled) b.all next c h;
    }

record Within (p : MpiProgram) (block : Blocks) (e m : Configuration) : Type 0 where
  kept : Kept p m
  like : IsLike p block e m
  weak : Weak p m e

within_all : (p : MpiProgram) (block : Blocks) (e : Configuration) (Q : Configuration → Type 0) (m : Configuration) (steps : List Step) → Backdrop p block e Q → Q m → Kept p m → IsLike p block e m → Weak p m e → IsRun p m steps → Within p block e (after_all m steps)
within_all p block e Q m [] b q kept like weak run = record { kept = kept; like = like; weak = weak }
within_all p block e Q m (x ∷ xs) b q kept like weak run =
    within_all p block e Q (after m x) xs b (b.step m x kept like run.0 q) (kept_after p m x kept run.0)
    (like_step p block e Q m x b q kept like weak.next run.0) (weak_step p block e Q m x b q kept like weak run.0) run.1

from_opening : (p : MpiProgram) (steps other : List Step) (block : Blocks) (Q : Configuration → Type 0) → IsInRankOrder p → IsEndedRun p steps → Backdrop p block (after_all (opening p) steps) Q → Q (opening p) → IsRun p (opening p) other → Within p block (after_all (opening p) steps) (after_all (opening p) other)
from_opening p steps other block Q order ended b q run =
    let start = kept_opening p order in
    let first = part_all p (opening p) steps start ended.run in
    within_all p block (after_all (opening p) steps) Q (opening p) other b q start
    (record { taken = λ s t taken h. absurd (no_partner p s t h); seen = λ s f probe fit h. absurd (no_partner p f s h) })
    (record { next = first.next; matched = λ c h. absurd (let w = partner_from (opening p) c h in no_partner p c w.0 w.1); buffered = first.buffered }) run

-- ---- by loose cuts

backdrop : (p : MpiProgram) (steps : List Step) (block : Blocks) → IsInRankOrder p → IsEndedRun p steps → BuffersAllItMay p steps → AreBlocks p block → HasNoRaceOfBlocks p block (after_all (opening p) steps) → Backdrop p block (after_all (opening p) steps) (λ m. Unit {0})
backdrop p steps block order ended choice are none =
    record {
      kept_e = kept_run p steps order ended.run;
      are = are;
      order = order;
      ended = ended.ended;
      all = buffered_all p (opening p) steps (kept_opening p order) ended.run choice (all_buffered_opening p order);
      step = λ m x kept like enabled q. tt;
      none = λ m f own other kept like q found fit fits apart away at_end issued. none f own other found fit fits apart away m (loose_cut p block (after_all (opening p) steps) m kept like) issued;
    }

pub blocks_are_greatest : BlocksAreGreatest
blocks_are_greatest p steps block order ended choice are none other run =
    let w = from_opening p steps other block (λ m. Unit {0}) order ended (backdrop p steps block order ended choice are none) tt run in
    record { next = w.weak.next; like = w.like; matched = w.weak.matched; buffered = w.weak.buffered }

-- ---- where the run is stuck

always_stuck : (p : MpiProgram) (steps : List Step) (block : Blocks) (Q : Configuration → Type 0) → IsInRankOrder p → IsStuckRun p steps → Backdrop p block (after_all (opening p) steps) Q → Q (opening p) → SticksInEveryRun p steps
always_stuck p steps block Q order stuck b q = sticks_always p steps order stuck (λ other run. behind other run)
  where
    behind : (other : List Step) → IsRun p (opening p) other → Behind p (after_all (opening p) other) (after_all (opening p) steps)
    behind other run =
        let w = from_opening p steps other block Q order (ended_of p steps stuck) b q run in
        behind_of p (after_all (opening p) other) (after_all (opening p) steps) (has_of p block (after_all (opening p) steps) Q (after_all (opening p) other) b w.kept w.like w.weak)

pub blocks_stick_always : BlocksStickAlways
blocks_stick_always p steps block order stuck choice are none =
    always_stuck p steps block (λ m. Unit {0}) order stuck (backdrop p steps block order (ended_of p steps stuck) choice are none) tt

-- ---- by a table

table_backdrop : (p : MpiProgram) (steps : List Step) (block : Blocks) (sure : Configuration) (knows : Table) → IsInRankOrder p → IsEndedRun p steps → BuffersAllItMay p steps → AreBlocks p block → IsSure p block (after_all (opening p) steps) sure → IsJustified p sure knows → ShowsNoRaceOfBlocksBefore p block (after_all (opening p) steps) knows → Backdrop p block (after_all (opening p) steps) (Told p knows)
table_backdrop p steps block sure knows order ended choice are is justified shows =
    let e = after_all (opening p) steps in
    let kept_e : Kept p e = kept_run p steps order ended.run in
    record {
      kept_e = kept_e;
      are = are;
      order = order;
      ended = ended.ended;
      all = buffered_all p (opening p) steps (kept_opening p order) ended.run choice (all_buffered_opening p order);
      step = λ m x kept like enabled told. told_step p sure m knows x justified kept (sure_agrees p block e sure m kept_e kept like is) enabled told;
      none = λ m f own other kept like told found fit fits apart away at_end issued. told other f (shows f own other found fit fits apart away at_end) issued;
    }

pub table_of_blocks_is_greatest : TableOfBlocksIsGreatest
table_of_blocks_is_greatest p steps block sure knows order ended choice are is justified shows other run =
    let w = from_opening p steps other block (Told p knows) order ended (table_backdrop p steps block sure knows order ended choice are is justified shows)
    (λ c f known issued. absurd (none_issued p c order issued)) run in
    record { next = w.weak.next; like = w.like; matched = w.weak.matched; buffered = w.weak.buffered }

pub table_of_blocks_sticks_always : TableOfBlocksSticksAlways
table_of_blocks_sticks_always p steps block sure knows order stuck choice are is justified shows =
    always_stuck p steps block (Told p knows) order stuck
    (table_backdrop p steps block sure knows order (ended_of p steps stuck) choice are is justified shows)
    (λ c f known issued. absurd (none_issued p c order issued))
