-- What tables tell of a rank's end is so.
use Rattle.std.proofs.Common.{◌≡◌, ℕ, ◌+◌, ◌<◌, ⊎_elim, inl, inr, Bool, true, false, not, ◌||◌, ◌==◌, List, [], ◌∷◌, Option, Some, None, slice_index, refl, sym, ap, ◌∙◌, subst, arith}
use Rattle.std.proofs.lemmas.Bool.{cases_lt, eqb-true, or_cases}
use Rattle.std.proofs.lemmas.List.FromFn.{get_or-map-range_with_len}
use Rattle.calltext.proofs.Conjunctions.{and_true}
use Rattle.calltext.specs.declared.call.Mode.TheVariants.{Standard}
use Rattle.calltext.specs.declared.call.Policy.{Policy}
use Rattle.calltext.specs.declared.call.Policy.TheVariants.{Never}
use Rattle.callorder.specs.declared.calls.Call.{Call}
use Rattle.callorder.specs.declared.calls.Kind.{Kind}
use Rattle.callorder.specs.declared.calls.Kind.TheVariants.{Send, MatchedProbe, Wait}
use Rattle.callorder.specs.Programs.{MpiProgram, call_at, are_fit, is_of_rank, kind_holds}
use Rattle.semantics.specs.declared.state.Step.{Step}
use Rattle.semantics.specs.Machine.{Configuration, first_call, opening, after, after_all, IsRun, is_buffered, is_done_kind, is_fetched, is_issued, is_matched, is_rank_finished, is_returned, is_returned_kind, partner_of, fetches, has_next, has_returned_before}
use Rattle.races.specs.Tells.{Table, IsJustified, knows_at, never_buffers, tells_done_call, tells_done_kind, tells_fetch, tells_fetch_by, tells_find, tells_receive, tells_receive_kind, tells_return_call, tells_return_kind}
use Rattle.races.proofs.Steps.{matched_from, not_true, partner_from, within_issued}
use Rattle.races.proofs.Kept.{Kept, takes_fit}
use Rattle.races.proofs.Passing.{kept_run, none_issued}
use Rattle.races.proofs.Telling.{Agrees, Told, fetching, no_send_fetches_call, told_step}
use Rattle.phases.specs.CallPlaces.{IsWellFormed}
use Rattle.phases.proofs.Parts.{before_to, fit_calls_there, of_rank, rank_is}
use Rattle.phases.proofs.Waiting.{HasNextBelow, below_all}
use Rattle.phases.proofs.Clean.{Reached, both_ways, reached_opening, reached_step}
use Rattle.phases.proofs.Joined.{among, of_next}
use Rattle.sealing.specs.Laws.{FinishTells}
use Rattle.sealing.specs.Sealing.{HasSurePartners}
use Rattle.sealing.proofs.Counterparts.{sure_partners_are_so}

-- ---- what the return of a call tells

is_never : (q : Policy) → never_buffers q ≡ true → q ≡ Never
is_never Never h = refl
is_never q h = absurd (cc)

module _ (p : MpiProgram) (e m : Configuration) (knows : Table) (f : ℕ) (kept : Kept p m) (agrees : Agrees m e) (told : Told p knows m) where
  -- what is said of the partner that a call has in the one configuration is so of its other one
  at_partner : (c x : ℕ) (says : Option ℕ → Bool) → partner_of m c ≡ Some x → says None ≡ false → says (partner_of e c) ≡ true → says (Some x) ≡ true
  at_partner c x says partner none = by (partner_of e c) refl
    where
      by : (o : Option ℕ) → partner_of e c ≡ o → says o ≡ true → says (Some x) ≡ true
      by None is h = absurd (both_ways (says None) h none)
      by (Some y) is h = ap (λ (z : ℕ). says (Some z)) (agrees c x y partner is) ∙ h

  find_told : (t : ℕ) → is_matched m t ≡ true → tells_find e knows t f ≡ true → is_matched m f ≡ true
  find_told t matched h =
      let w = partner_from m t matched in
      let issued = kept.issued t w.0 w.1 in
      let other : knows_at knows (partner_of e t) f ≡ true → is_matched m f ≡ true =
      λ tells. told w.0 f (at_partner t w.0 (λ (o : Option ℕ). knows_at knows o f) w.1 refl tells) issued.1 in
      ⊎_elim (λ is. ap (is_matched m) (eqb-true f t is) ∙ matched)
      (λ more. ⊎_elim (λ own. told t f own issued.0) other (or_cases (knows t f) (knows_at knows (partner_of e t) f) more))
      (or_cases (f == t) (knows t f || knows_at knows (partner_of e t) f) h)

  receive_told : (k : Kind ℕ) → fetches p m k ≡ true → tells_receive_kind knows k f ≡ true → is_matched m f ≡ true
  receive_told (MatchedProbe pattern receive) fetched h = told receive f h fetched
  receive_told k fetched h = absurd (cc)

  fetch_told : (s : ℕ) → is_fetched p m s ≡ true → tells_fetch p e knows s f ≡ true → is_matched m f ≡ true
  fetch_told s fetched h =
      let w = fetching p m (partner_of m s) fetched in
      let fit : are_fit p s w.0 ≡ true =
      ⊎_elim (takes_fit p s w.0) (λ other. absurd (no_send_fetches_call p m (call_at p w.0) (call_at p s) other w.2)) (kept.fit s w.0 w.1) in
      let at = (fit_calls_there p s w.0 fit).1 in
      ⊎_elim (find_told w.0 (matched_from m w.0 s (kept.both s w.0 fit w.1)))
      (λ receive. receive_told at.0.kind (sym (ap (kind_holds (fetches p m)) at.1) ∙ w.2) (sym (ap (λ (o : Option Call). tells_receive knows o f) at.1) ∙ receive))
      (or_cases (tells_find e knows w.0 f) (tells_receive knows (call_at p w.0) f)
      (at_partner s w.0 (λ (o : Option ℕ). tells_fetch_by p e knows o f) w.1 refl h))

  done_told : (c : ℕ) (k : Kind ℕ) → is_done_kind p m c k ≡ true → tells_done_kind p e knows c k f ≡ true → is_matched m f ≡ true
  done_told c (Send Standard blocking message) done h =
      let parts = and_true (never_buffers p.policy) (tells_fetch p e knows c f) h in
      ⊎_elim (λ on. absurd (both_ways (is_buffered m c) on (kept.never (is_never p.policy parts.0) c))) (λ fetched. fetch_told c fetched parts.1)
      (or_cases (is_buffered m c) (is_fetched p m c) done)
  done_told c k done h = grind (arith, find_told c, fetch_told c)

  done_call_told : (c : ℕ) (o : Option Call) → kind_holds (is_done_kind p m c) o ≡ true → tells_done_call p e knows c o f ≡ true → is_matched m f ≡ true
  done_call_told c None done h = absurd (cc)
  done_call_told c (Some call) done h = done_told c call.kind done h

  return_told : (c : ℕ) (k : Kind ℕ) → is_returned_kind p m c k ≡ true → tells_return_kind p e knows c k f ≡ true → is_matched m f ≡ true
  return_told c (Wait operation) returned h = done_call_told operation (call_at p operation) returned h
  return_told c k returned h = grind (arith, done_call_told c (call_at p c))

-- ---- what a finished rank has issued

opening_below : (p : MpiProgram) → IsWellFormed p → HasNextBelow p (opening p)
opening_below p is r c range own low =
    let next : slice_index (opening p).next r ≡ first_call p r = get_or-map-range_with_len (first_call p) 0 p.ranks r r 0 range (omega arith) in
    let y = of_rank (call_at p c) r own in
    let bounds = among p is.rank_order r c y.0 y.1 y.2 in
    ap (λ (z : ℕ). is_of_rank (call_at p z) r) next
    ∙ of_next p is.rank_order r (first_call p r) (omega arith) (omega (arith, bounds.0, bounds.1)) (call_at p (first_call p r)) refl

-- where a rank is finished each of its calls is issued and has returned
has_ended : (p : MpiProgram) → IsWellFormed p → (steps : List Step) → IsRun p (opening p) steps → (c : ℕ) (call : Call) → call_at p c ≡ Some call
    → is_rank_finished p (after_all (opening p) steps) call.rank ≡ true
    → (is_issued p (after_all (opening p) steps) c ≡ true) × (is_returned p (after_all (opening p) steps) c ≡ true)
has_ended p is steps run c call there finished =
    elim (cases_lt c (slice_index m.next r)) [
      | inl issued ↦ (within_issued p m c call there issued, returned issued)
      | inr ahead ↦
          let own = rank_is (call_at p c) call r there refl in
          let next = below_all p is (opening p) steps (opening_below p is) run r c (is.in_range c call there).own own ahead in
          absurd (both_ways (has_next p m r) next (not_true (has_next p m r) parts.0))
    ]
  where
    m : Configuration
    m = after_all (opening p) steps

    r : ℕ
    r = call.rank

    parts : (not (has_next p m r) ≡ true) × (has_returned_before p m r (slice_index m.next r) ≡ true)
    parts = and_true (not (has_next p m r)) (has_returned_before p m r (slice_index m.next r)) finished

    returned : c < slice_index m.next r → is_returned p m c ≡ true
    returned issued =
        elim (cases_lt (c + 1) (slice_index m.next r)) [
          | inl past ↦ (kept_run p steps is.rank_order run).returned c call there past
          | inr last ↦ before_to p m r (slice_index m.next r) parts.1 c (omega (arith, issued, last)) (rank_is (call_at p c) call r there refl)
        ]

-- ---- runs

told_all : (p : MpiProgram) (e : Configuration) (knows : Table) → IsWellFormed p → HasSurePartners p e → IsJustified p e knows
    → (m : Configuration) (steps : List Step) → Reached p m → Told p knows m → IsRun p m steps → Told p knows (after_all m steps)
told_all p e knows is sure justified m [] reached told run = told
told_all p e knows is sure justified m (x ∷ xs) reached told run =
    let kept : Kept p m = subst (Kept p) reached.is (kept_run p reached.steps is.rank_order reached.run) in
    let agrees : Agrees m e = subst (λ (z : Configuration). Agrees z e) reached.is (sure_partners_are_so p e is sure reached.steps reached.run) in
    told_all p e knows is sure justified (after m x) xs (reached_step p m x reached run.0) (told_step p e m knows x justified kept agrees run.0 told) run.1

pub finish_tells : FinishTells
finish_tells p e knows rank f is sure justified tells steps run finished =
    let m = after_all (opening p) steps in
    let last = tells.last in
    let ended = has_ended p is steps run last tells.call tells.there (subst (λ (r : ℕ). is_rank_finished p m r ≡ true) (sym tells.own) finished) in
    let none : Told p knows (opening p) = λ c g known issued. absurd (none_issued p c is.rank_order issued) in
    let told = told_all p e knows is sure justified (opening p) steps (reached_opening p) none run in
    ⊎_elim (λ known. told last f known ended.0)
    (λ returns. return_told p e m knows f (kept_run p steps is.rank_order run) (sure_partners_are_so p e is sure steps run) told last tells.call.kind
    (sym (ap (kind_holds (is_returned_kind p m last)) tells.there) ∙ ended.1) (sym (ap (λ (o : Option Call). tells_return_call p e knows last o f) tells.there) ∙ returns))
    (or_cases (knows last f) (tells_return_call p e knows last (call_at p last) f) tells.tells)
