-- What is left of a program behind a front is a program, and joined with the front it is the whole.
use Rattle.std.proofs.Common.{◌≡◌, ℕ, zero, suc, ◌+◌, ◌-◌, ◌<◌, ◌≤◌, inl, inr, Bool, true, not, List, [], Option, Some, None, slice_get, slice_index, refl, sym, ap, ◌∙◌, subst, arith}
use Rattle.std.specs.Prelude.{IfSome, option_map}
use Rattle.std.proofs.lemmas.Bool.{cases_lt}
use Rattle.std.proofs.lemmas.Option.{same_Some}
use Rattle.calltext.proofs.Conjunctions.{and_both}
use Rattle.callorder.specs.declared.calls.Call.{Call}
use Rattle.callorder.specs.declared.calls.Kind.{Kind}
use Rattle.callorder.specs.declared.calls.Kind.TheVariants.{MatchedProbe, Wait}
use Rattle.callorder.specs.declared.calls.Message.{Message}
use Rattle.callorder.specs.declared.calls.Pattern.{Pattern}
use Rattle.callorder.specs.Calls.{operation_of, is_start, receive_of, is_matched_receive}
use Rattle.callorder.specs.ProgramRules.{HasRanksBelow, IsPairing}
use Rattle.callorder.specs.Programs.{MpiProgram, call_at, is_of_rank}
use Rattle.semantics.specs.Machine.{first_call, opening, after_all, is_rank_finished, has_next, has_returned_before}
use Rattle.semantics.specs.Headline.{NoStuckRun}
use Rattle.phases.specs.CallPlaces.{IsWellFormed, moved_kind, moved_call}
use Rattle.phases.specs.Joining.{IsJoinOf, cut_between}
use Rattle.phases.specs.Rests.{IsFront, behind, drop_front, lowered_kind, lowered_call}
use Rattle.phases.specs.Laws.{FrontIsJoined, OnePhaseMore, LastPhase}
use Rattle.phases.proofs.Parts.{of_rank, before_from, message_moved, pattern_moved}
use Rattle.phases.proofs.Walks.{whole_is_never_stuck}
use Rattle.phases.proofs.Clean.{balanced_is_clean, named_is_timely, both_ways}
use Rattle.phases.proofs.Joined.{among, at_or_behind, before_first, of_next, ordered_firsts, is_cut}
use Rattle.phases.proofs.Joining.{rising_order, none_lower, rises_of, MovesNames, KeepsTest, operation_moves, receive_moves, start_keeps, matched_receive_keeps, name_from}
use Rattle.phases.proofs.Dropping.{Fits, fits, drop_lower, drop_rises, drop_place, lowered_rises, lowered_lower, lowered_from}

-- a lowered call is moved back where the calls that it names aren't in front
raised_kind : (b : ℕ) (k : Kind ℕ) → ((o : ℕ) → operation_of k ≡ Some o → b ≤ o) → ((o : ℕ) → receive_of k ≡ Some o → b ≤ o) → moved_kind b (lowered_kind b k) ≡ k
raised_kind b (MatchedProbe pattern receive) high_o high_r = ap (λ (z : ℕ). MatchedProbe pattern z) (let h = high_r receive refl in let e : (receive - b) + b ≡ receive = omega (arith, h) in e)
raised_kind b (Wait operation) high_o high_r = ap (λ (z : ℕ). Wait z) (let h = high_o operation refl in let e : (operation - b) + b ≡ operation = omega (arith, h) in e)
raised_kind b kind high_o high_r = refl

module _ (q d : MpiProgram) (is_q : IsWellFormed q) (is_d : IsWellFormed d) (front : IsFront q d) where
  -- ---- how many calls of each rank are in front

  one_more : (r : ℕ) → first_call d r ≤ first_call q r → first_call d (r + 1) + first_call q r ≤ first_call q (r + 1) + first_call d r
  one_more r low =
      elim (cases_lt (first_call d r) (first_call d (r + 1))) [
        | inl some ↦ last (first_call d (r + 1)) refl some
        | inr none ↦ omega (arith, none, ordered_firsts q is_q.rank_order r)
      ]
    where
      last : (k : ℕ) → first_call d (r + 1) ≡ k → first_call d r < k → first_call d (r + 1) + first_call q r ≤ first_call q (r + 1) + first_call d r
      last zero e some = absurd (omega (arith, some))
      last (suc k) e some =
          let y = of_rank (call_at d k) r (of_next d is_d.rank_order r k (omega (arith, some)) (omega (arith, e)) (call_at d k) refl) in
          let there = front.calls k y.0 y.1 in
          let low_q = before_first q is_q.rank_order (r + 1) _ _ there (omega (arith, y.2)) in
          omega (arith, low, low_q, e, some, ap (λ (z : ℕ). first_call q z - first_call d z) y.2)

  pub fewer : (r : ℕ) → first_call d r ≤ first_call q r
  fewer zero = omega (arith, none_lower 0 0 d.calls (rises_of d is_d) (omega arith))
  fewer (suc r) =
      let h = one_more r (fewer r) in
      let e : r + 1 ≡ suc r = omega arith in
      let low : first_call d (r + 1) ≤ first_call q (r + 1) = omega (arith, h, fewer r, ordered_firsts q is_q.rank_order r) in
      subst (λ (z : ℕ). first_call d z ≤ first_call q z) e low

  fit : Fits d.calls q.calls
  fit = fits 0 0 d.calls q.calls (rises_of d is_d) (rises_of q is_q) (λ r. one_more r (fewer r))

  abbrev b : MpiProgram
  b = behind q d

  abbrev shift : Call → ℕ
  shift call = first_call d (call.rank + 1)

  pub sizes : (r : ℕ) → first_call q r ≡ first_call d r + first_call b r
  sizes r = omega (arith, drop_lower r d.calls q.calls fit, lowered_lower shift r (drop_front d.calls q.calls))

  order : (c e : ℕ) (call other : Call) → c ≤ e → call_at b c ≡ Some call → call_at b e ≡ Some other → call.rank ≤ other.rank
  order = rising_order 0 b.calls (lowered_rises shift 0 (drop_front d.calls q.calls) (drop_rises 0 d.calls q.calls fit (rises_of q is_q)))

  -- ---- calls behind the front name calls behind it

  module _ (names : Kind ℕ → Option ℕ) (test : Kind ℕ → Bool) (moves : MovesNames names) (keeps : KeepsTest test) (pair_q : IsPairing q.calls names test) (pair_d : IsPairing d.calls names test) where
    -- a place of a rank that is in front
    in_front : (r o : ℕ) → first_call q r ≤ o → o + first_call d r < first_call q r + first_call d (r + 1) → (y : Call) × (k : ℕ) × (call_at d k ≡ Some y) × (y.rank ≡ r) × (o ≡ k + (first_call q y.rank - first_call d y.rank))
    in_front r o from low = at (o - (first_call q r - first_call d r)) (omega (arith, from, low, fewer r))
      where
        at : (k : ℕ) → o ≡ k + (first_call q r - first_call d r) → (y : Call) × (k : ℕ) × (call_at d k ≡ Some y) × (y.rank ≡ r) × (o ≡ k + (first_call q y.rank - first_call d y.rank))
        at k is =
            let y = of_rank (call_at d k) r (of_next d is_d.rank_order r k (omega (arith, from, is, fewer r)) (omega (arith, low, is, fewer r)) (call_at d k) refl) in
            (y.0, k, y.1, y.2, is ∙ ap (λ (z : ℕ). k + (first_call q z - first_call d z)) (sym y.2))

    names_behind : (e o : ℕ) (y : Call) → call_at q e ≡ Some y → names y.kind ≡ Some o → first_call q y.rank + first_call d (y.rank + 1) ≤ e + first_call d y.rank → first_call q y.rank + first_call d (y.rank + 1) ≤ o + first_call d y.rank
    names_behind e o y there named behind_e =
        let other = pair_q.named e o y there named in
        let from = (among q is_q.rank_order y.rank o other.0 other.1 other.2).0 in
        elim (cases_lt (o + first_call d y.rank) (first_call q y.rank + first_call d (y.rank + 1))) [
          | inl low ↦ absurd (never other from (in_front y.rank o from low))
          | inr high ↦ omega (arith, high)
        ]
      where
        never : (other : Call) × (call_at q o ≡ Some other) × (other.rank ≡ y.rank) × (test other.kind ≡ true) → first_call q y.rank ≤ o → (z : Call) × (k : ℕ) × (call_at d k ≡ Some z) × (z.rank ≡ y.rank) × (o ≡ k + (first_call q z.rank - first_call d z.rank)) → ⊥
        never other from (z, k, at_k, rank, is) =
            let same : moved_call (first_call q z.rank - first_call d z.rank) z ≡ other.0 = same_Some _ other.0 (sym (ap (call_at q) is ∙ front.calls k z at_k) ∙ other.1) in
            let w = pair_d.each k z at_k (sym (keeps (first_call q z.rank - first_call d z.rank) z.kind) ∙ ap (λ (x : Call). test x.kind) same ∙ other.3) in
            let n = pair_d.named w.0 k w.1 w.2 w.3 in
            let twin : n.0 ≡ z = same_Some n.0 z (sym n.1 ∙ at_k) in
            let own : w.1.rank ≡ z.rank = sym n.2 ∙ ap (λ (x : Call). x.rank) twin in
            let by : ℕ = first_call q w.1.rank - first_call d w.1.rank in
            let alike : k + by ≡ k + (first_call q z.rank - first_call d z.rank) = ap (λ (x : ℕ). k + (first_call q x - first_call d x)) own in
            let named_o : names (moved_kind by w.1.kind) ≡ Some o = moves by w.1.kind ∙ ap (option_map (λ x. x + by)) w.3 ∙ ap Some (alike ∙ sym is) in
            let once : e ≡ w.0 + by = pair_q.once e (w.0 + by) o y (moved_call by w.1) there (front.calls w.0 w.1 w.2) named named_o in
            let bound = (among d is_d.rank_order y.rank w.0 w.1 w.2 (own ∙ rank)).1 in
            omega (arith, once, bound, behind_e, fewer y.rank, ap (λ (x : ℕ). first_call q x - first_call d x) (own ∙ rank))

  -- ---- where the calls behind the front stand

  pub second : (c : ℕ) (call : Call) → call_at b c ≡ Some call → call_at q (c + first_call d (call.rank + 1)) ≡ Some (moved_call (first_call d (call.rank + 1)) call)
  second c call there = from (lowered_from shift (drop_front d.calls q.calls) c call there)
    where
      from : (y : Call) × (slice_get (drop_front d.calls q.calls) c ≡ Some y) × (call ≡ lowered_call (shift y) y) → call_at q (c + first_call d (call.rank + 1)) ≡ Some (moved_call (first_call d (call.rank + 1)) call)
      from (y, at, is) =
          let at_q : call_at q (c + shift y) ≡ Some y = drop_place 0 0 d.calls q.calls c y fit (rises_of d is_d) (rises_of q is_q) at in
          let rank : call.rank ≡ y.rank = ap (λ (z : Call). z.rank) is in
          let low = at_or_behind b order call.rank c call there (omega arith) in
          let behind_y : first_call q y.rank + first_call d (y.rank + 1) ≤ (c + shift y) + first_call d y.rank = omega (arith, low, sizes y.rank, ap (first_call b) rank) in
          let back =
          raised_kind (shift y) y.kind
          (λ o e. let h = names_behind operation_of is_start operation_moves start_keeps is_q.waits is_d.waits (c + shift y) o y at_q e behind_y in omega (arith, h, fewer y.rank))
          (λ o e. let h = names_behind receive_of is_matched_receive receive_moves matched_receive_keeps is_q.probes is_d.probes (c + shift y) o y at_q e behind_y in omega (arith, h, fewer y.rank)) in
          subst (λ (z : Call). call_at q (c + first_call d (z.rank + 1)) ≡ Some (moved_call (first_call d (z.rank + 1)) z)) (sym is)
          (at_q ∙ ap (λ (k : Kind ℕ). Some (of_kind y.rank k)) (sym back))
        where
          of_kind : ℕ → Kind ℕ → Call
          of_kind rank kind = record { rank = rank; kind = kind }

  pub joined : IsJoinOf q d b
  joined =
      record {
        policy_first = front.policy;
        policy_second = refl;
        ranks_first = front.ranks;
        ranks_second = refl;
        sizes = sizes;
        firsts = λ c call there. first c call there;
        seconds = second;
      }
    where
      first : (c : ℕ) (call : Call) → call_at d c ≡ Some call → call_at q (c + first_call b call.rank) ≡ Some (moved_call (first_call b call.rank) call)
      first c call there =
          let e : first_call q call.rank - first_call d call.rank ≡ first_call b call.rank = omega (arith, sizes call.rank) in
          subst (λ (z : ℕ). call_at q (c + z) ≡ Some (moved_call z call)) e (front.calls c call there)

  -- ---- what is behind the front is well formed

  -- a place of a rank that is behind the front
  at_behind : (r e : ℕ) → first_call q r + first_call d (r + 1) ≤ e + first_call d r → e < first_call q (r + 1) → (z : Call) × (k : ℕ) × (call_at b k ≡ Some z) × (z.rank ≡ r) × (e ≡ k + first_call d (r + 1))
  at_behind r e low high = at (e - first_call d (r + 1)) (omega (arith, low, fewer r))
    where
      at : (k : ℕ) → e ≡ k + first_call d (r + 1) → (z : Call) × (k : ℕ) × (call_at b k ≡ Some z) × (z.rank ≡ r) × (e ≡ k + first_call d (r + 1))
      at k is =
          let z = of_rank (call_at b k) r (of_next b order r k (omega (arith, low, is, sizes r, fewer r)) (omega (arith, is, high, sizes (r + 1))) (call_at b k) refl) in
          (z.0, k, z.1, z.2, is)

  module _ (names : Kind ℕ → Option ℕ) (test : Kind ℕ → Bool) (moves : MovesNames names) (keeps : KeepsTest test) (pair_q : IsPairing q.calls names test) (pair_d : IsPairing d.calls names test) where
    named_moved : (n o : ℕ) (call : Call) → names call.kind ≡ Some o → names (moved_kind n call.kind) ≡ Some (o + n)
    named_moved n o call e = moves n call.kind ∙ ap (option_map (λ z. z + n)) e

    named : (c o : ℕ) (call : Call) → call_at b c ≡ Some call → names call.kind ≡ Some o → (other : Call) × (call_at b o ≡ Some other) × (other.rank ≡ call.rank) × (test other.kind ≡ true)
    named c o call there e =
        let n : ℕ = first_call d (call.rank + 1) in
        let at_q = second c call there in
        let e' = named_moved n o call e in
        let low = at_or_behind b order call.rank c call there (omega arith) in
        let far = names_behind names test moves keeps pair_q pair_d (c + n) (o + n) (moved_call n call) at_q e' (omega (arith, low, sizes call.rank)) in
        let other = pair_q.named (c + n) (o + n) (moved_call n call) at_q e' in
        found other (at_behind call.rank (o + n) far (among q is_q.rank_order call.rank (o + n) other.0 other.1 other.2).1)
      where
        found : (other : Call) × (call_at q (o + first_call d (call.rank + 1)) ≡ Some other) × (other.rank ≡ call.rank) × (test other.kind ≡ true) → (z : Call) × (k : ℕ) × (call_at b k ≡ Some z) × (z.rank ≡ call.rank) × (o + first_call d (call.rank + 1) ≡ k + first_call d (call.rank + 1)) → (other : Call) × (call_at b o ≡ Some other) × (other.rank ≡ call.rank) × (test other.kind ≡ true)
        found other (z, k, at_k, rank, is) =
            let same : k ≡ o = omega (arith, is) in
            let at_o : call_at b o ≡ Some z = ap (call_at b) (sym same) ∙ at_k in
            let twin : moved_call (first_call d (z.rank + 1)) z ≡ other.0 = same_Some _ other.0 (sym (second o z at_o) ∙ ap (λ (x : ℕ). call_at q (o + first_call d (x + 1))) rank ∙ other.1) in
            (z, at_o, rank, sym (keeps (first_call d (z.rank + 1)) z.kind) ∙ ap (λ (x : Call). test x.kind) twin ∙ other.3)

    once : (c e o : ℕ) (call other : Call) → call_at b c ≡ Some call → call_at b e ≡ Some other → names call.kind ≡ Some o → names other.kind ≡ Some o → c ≡ e
    once c e o call other at_c at_e f g =
        let w = named c o call at_c f in
        let v = named e o other at_e g in
        let twin : w.0 ≡ v.0 = same_Some w.0 v.0 (sym w.1 ∙ v.1) in
        let rank : other.rank ≡ call.rank = sym v.2 ∙ ap (λ (z : Call). z.rank) (sym twin) ∙ w.2 in
        let shifts : first_call d (other.rank + 1) ≡ first_call d (call.rank + 1) = ap (λ (z : ℕ). first_call d (z + 1)) rank in
        let is =
        pair_q.once (c + first_call d (call.rank + 1)) (e + first_call d (other.rank + 1)) (o + first_call d (call.rank + 1)) _ _ (second c call at_c) (second e other at_e)
        (named_moved (first_call d (call.rank + 1)) o call f)
        (named_moved (first_call d (other.rank + 1)) o other g ∙ ap (λ (z : ℕ). Some (o + z)) shifts) in
        omega (arith, is, shifts)

    -- a call that names this one
    abbrev Namer : ℕ → Type 0
    Namer o = (c : ℕ) × (call : Call) × (call_at q c ≡ Some call) × (names call.kind ≡ Some o)

    each : (o : ℕ) (other : Call) → call_at b o ≡ Some other → test other.kind ≡ true → (c : ℕ) × (call : Call) × (call_at b c ≡ Some call) × (names call.kind ≡ Some o)
    each o other there passes =
        let w = pair_q.each (o + n) (moved_call n other) at_q (keeps n other.kind ∙ passes) in
        from w (own w)
      where
        n : ℕ
        n = first_call d (other.rank + 1)

        at_q : call_at q (o + n) ≡ Some (moved_call n other)
        at_q = second o other there

        own : (w : Namer (o + n)) → w.1.rank ≡ other.rank
        own w =
            let x = pair_q.named w.0 (o + n) w.1 w.2 w.3 in
            let twin : x.0 ≡ moved_call n other = same_Some x.0 _ (sym x.1 ∙ at_q) in
            sym x.2 ∙ ap (λ (z : Call). z.rank) twin

        low : first_call b other.rank ≤ o
        low = at_or_behind b order other.rank o other there (omega arith)

        never : (w : Namer (o + n)) → (y : Call) × (k : ℕ) × (call_at d k ≡ Some y) × (y.rank ≡ other.rank) × (w.0 ≡ k + (first_call q y.rank - first_call d y.rank)) → ⊥
        never w (y, k, at_k, rank, is) =
            let m : ℕ = first_call q y.rank - first_call d y.rank in
            let same : moved_call m y ≡ w.1 = same_Some _ w.1 (sym (ap (call_at q) is ∙ front.calls k y at_k) ∙ w.2) in
            let j = name_from (names y.kind) m (o + n) (sym (moves m y.kind) ∙ ap (λ (z : Call). names z.kind) same ∙ w.3) in
            let x = pair_d.named k j.0 y at_k j.1 in
            let bound = (among d is_d.rank_order other.rank j.0 x.0 x.1 (x.2 ∙ rank)).1 in
            omega (arith, bound, j.2, low, sizes other.rank, ap (λ (z : ℕ). first_call q z - first_call d z) rank)

        here : (w : Namer (o + n)) → (z : Call) × (k : ℕ) × (call_at b k ≡ Some z) × (z.rank ≡ other.rank) × (w.0 ≡ k + first_call d (other.rank + 1)) → (c : ℕ) × (call : Call) × (call_at b c ≡ Some call) × (names call.kind ≡ Some o)
        here w (z, k, at_k, rank, is) =
            let m : ℕ = first_call d (z.rank + 1) in
            let shifts : m ≡ n = ap (λ (x : ℕ). first_call d (x + 1)) rank in
            let same : moved_call m z ≡ w.1 = same_Some _ w.1 (sym (second k z at_k) ∙ ap (λ (x : ℕ). call_at q (k + x)) shifts ∙ ap (call_at q) (sym is) ∙ w.2) in
            let j = name_from (names z.kind) m (o + n) (sym (moves m z.kind) ∙ ap (λ (x : Call). names x.kind) same ∙ w.3) in
            (k, z, at_k, j.1 ∙ ap Some (let e : j.0 ≡ o = omega (arith, j.2, shifts) in e))

        from : (w : Namer (o + n)) → w.1.rank ≡ other.rank → (c : ℕ) × (call : Call) × (call_at b c ≡ Some call) × (names call.kind ≡ Some o)
        from w rank =
            let bounds = among q is_q.rank_order other.rank w.0 w.1 w.2 rank in
            elim (cases_lt (w.0 + first_call d other.rank) (first_call q other.rank + first_call d (other.rank + 1))) [
              | inl less ↦ absurd (never w (in_front names test moves keeps pair_q pair_d other.rank w.0 bounds.0 less))
              | inr more ↦ here w (at_behind other.rank w.0 (omega (arith, more)) bounds.1)
            ]

    pub paired : IsPairing b.calls names test
    paired = record { named = named; once = once; each = each }

  pub well_formed : IsWellFormed b
  well_formed =
      record {
        rank_order = order;
        in_range = λ c call there. in_range c call there;
        waits = paired operation_of is_start operation_moves start_keeps is_q.waits is_d.waits;
        waits_later = λ c o call there e. later c o call there e;
        probes = paired receive_of is_matched_receive receive_moves matched_receive_keeps is_q.probes is_d.probes;
      }
    where
      in_range : (c : ℕ) (call : Call) → call_at b c ≡ Some call → HasRanksBelow q.ranks call
      in_range c call there =
          let n : ℕ = first_call d (call.rank + 1) in
          let h = is_q.in_range (c + n) (moved_call n call) (second c call there) in
          record {
            own = h.own;
            destination = subst (λ (z : Option Message). IfSome z (λ message. message.destination < q.ranks)) (message_moved n call.kind) h.destination;
            source = subst (λ (z : Option Pattern). IfSome z (λ pattern. IfSome pattern.source (λ rank. rank < q.ranks))) (pattern_moved n call.kind) h.source;
          }

      later : (c o : ℕ) (call : Call) → call_at b c ≡ Some call → operation_of call.kind ≡ Some o → o < c
      later c o call there e =
          let n : ℕ = first_call d (call.rank + 1) in
          let h = is_q.waits_later (c + n) (o + n) (moved_call n call) (second c call there) (operation_moves n call.kind ∙ ap (option_map (λ z. z + n)) e) in
          omega (arith, h)

pub front_is_joined : FrontIsJoined
front_is_joined q d is_q is_d front = (joined q d is_q is_d front, well_formed q d is_q is_d front)

pub one_phase_more : OnePhaseMore
one_phase_more q d is_q is_d front never even names never_behind =
    let j = front_is_joined q d is_q is_d front in
    let x = cut_between d (behind q d) in
    let cut = is_cut q d (behind q d) is_q.rank_order is_d j.1 j.0 in
    let clean = balanced_is_clean q x is_q is_d j.1 cut (λ rank communicator finder. even rank communicator) (named_is_timely q x cut names) never in
    whole_is_never_stuck q x is_d j.1 cut clean never never_behind

-- ---- nothing is left

module _ (p : MpiProgram) (none : p.calls ≡ []) where
  pub nowhere : (c : ℕ) (call : Call) → call_at p c ≡ Some call → ⊥
  nowhere c call there = let e : call_at p c ≡ None = ap (λ (z : List Call). slice_get z c) none in cc

  off : (o : Option Call) (r : ℕ) → ((call : Call) → o ≡ Some call → ⊥) → not (is_of_rank o r) ≡ true
  off None r never = refl
  off (Some call) r never = absurd (never call refl)

  pub empty_is_never_stuck : NoStuckRun p
  empty_is_never_stuck steps run =
      let m = after_all (opening p) steps in
      let r = run.stuck.rank in
      let place = slice_index m.next r in
      let returned = before_from p m r place (λ k e own. let w = of_rank (call_at p k) r own in absurd (nowhere k w.0 w.1)) in
      both_ways (is_rank_finished p m r) (and_both (not (has_next p m r)) (has_returned_before p m r place) (off (call_at p place) r (nowhere place)) returned) run.stuck.unfinished

pub last_phase : LastPhase
last_phase q d is_q is_d front none never =
    let b = behind q d in
    let j = front_is_joined q d is_q is_d front in
    let x = cut_between d b in
    let cut = is_cut q d b is_q.rank_order is_d j.1 j.0 in
    let clean =
    balanced_is_clean q x is_q is_d j.1 cut (λ rank communicator finder. absurd (nowhere b none finder.place finder.call finder.there))
    (λ s f from_second from_first fit. absurd (nowhere b none from_second.place from_second.call from_second.there)) never in
    whole_is_never_stuck q x is_d j.1 cut clean never (empty_is_never_stuck b none)
