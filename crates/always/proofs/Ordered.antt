-- Where no send races for a finder that has found one, a run that buffers all it may and can't go
-- on is the greatest.
use Rattle.std.proofs.Common.{◌≡◌, ℕ, ◌<◌, ◌⊎◌, inl, inr, true, false, List, [], ◌∷◌, Some, slice_index, refl, sym, ap, ◌∙◌, subst, arith}
use Rattle.std.proofs.lemmas.Bool.{cases_eq, cases_lt}
use Rattle.calltext.specs.declared.call.Policy.{Policy}
use Rattle.calltext.specs.declared.call.Policy.TheVariants.{Any, Never, Always}
use Rattle.callorder.specs.Calls.{fits}
use Rattle.callorder.specs.Programs.{MpiProgram, are_fit, is_probe, are_of_one_rank}
use Rattle.semantics.specs.declared.state.Step.{Step}
use Rattle.semantics.specs.Machine.{Configuration, opening, after, after_all, IsEnabled, IsRun, CanFind, is_issued, is_matched, partner_of}
use Rattle.run_laws.specs.Laws.{IsInRankOrder}
use Rattle.run_laws.specs.Places.{find_step}
use Rattle.run_laws.proofs.Matched.{no_send_is_taker}
use Rattle.run_laws.proofs.Descent.{some_match_or_see_is_enabled}
use Rattle.races.specs.Races.{MatchesWithin, NamesSources}
use Rattle.races.specs.Tells.{Table, IsJustified}
use Rattle.always.specs.Always.{HasNoRaceBefore, ShowsNoRaceBefore, HasEnded, BuffersAllItMay, IsEndedRun}
use Rattle.always.specs.Laws.{OrderedIsGreatest, OrderedSticksAlways, TableIsGreatest, TableSticksAlways, NamedSourcesAreGreatest, NamedSourcesStickAlways, OnlyChoiceMixes, TwoRunsDecide}
use Rattle.races.proofs.Steps.{is_or_not, some_or_none, same_some, matched_from, partner_from, none_open, issued_within, one_rank, one_rank_made}
use Rattle.races.proofs.Kept.{Part, Kept, new_or_old, issued_more, finders_of_one_rank, takes_fit, takes_made, probe_returned}
use Rattle.races.proofs.Passing.{kept_after, kept_opening, kept_run, part_all, none_issued}
use Rattle.races.proofs.Climb.{no_later_taker}
use Rattle.races.proofs.OneWay.{named_sources_never_stick, cut_of, no_earlier_taker, one_source}
use Rattle.races.proofs.Telling.{Agrees, Told, told_step}
use Rattle.always.proofs.Buffering.{AllBuffered, buffered_all, no_choice}
use Rattle.always.proofs.Behind.{ended_of}
use Rattle.always.proofs.Greatest.{is_part_of, rise, all_buffered_opening, greatest_sticks_always}

-- a test of the configurations that a run passes, by which no send that could race is issued before
-- the finder has found
record HoldsBack (p : MpiProgram) (e : Configuration) (Q : Configuration → Type 0) : Type 0 where
  step : (m : Configuration) (x : Step) → Kept p m → Part p m e → IsEnabled p m x → Q m → Q (after m x)
  held : (m : Configuration) (f own other : ℕ) → Kept p m → Part p m e → Q m → partner_of e f ≡ Some own → are_fit p own f ≡ true → are_fit p other f ≡ true → are_of_one_rank p own other ≡ false → ((t : ℕ) → partner_of e other ≡ Some t → t < f → ⊥) → is_issued p m other ≡ true → is_matched m f ≡ true

-- where a finder is open, a send that fits it has an earlier taker, if any
pub earlier_taker : (p : MpiProgram) (e : Configuration) (s f t : ℕ) → Kept p e → is_matched e f ≡ false → are_fit p s f ≡ true → partner_of e s ≡ Some t → t < f
earlier_taker p e s f t kept free fit sent =
    elim (kept.fit s t sent) [
      | inr other ↦ absurd (no_send_is_taker p s f t fit other)
      | inl taken ↦
          let fits : are_fit p s t ≡ true = takes_fit p s t taken in
          let back : partner_of e t ≡ Some s = kept.both s t fits sent in
          elim (cases_lt t f) [
            | inl below ↦ below
            | inr not_below ↦
                elim (cases_eq t f) [
                  | inl same ↦ absurd (let on : is_matched e f ≡ true = subst (λ (z : ℕ). is_matched e z ≡ true) same (matched_from e t s back) in cc)
                  | inr differ ↦
                      let above : f < t = omega (arith, not_below, differ) in
                      let one : are_of_one_rank p f t ≡ true = finders_of_one_rank p s f t fit fits in
                      absurd (elim (is_or_not (is_probe p f)) [
                        | inr taker ↦
                            let on : is_matched e f ≡ true = kept.takers s t f back fits above one (takes_made p s f fit taker) in
                            cc
                        | inl probe ↦
                            let calls = one_rank p f t one in
                            let below_next : t < slice_index e.next calls.1.rank = issued_within p e t calls.1 calls.3 (kept.issued t s back).0 in
                            let same_next : slice_index e.next calls.0.rank ≡ slice_index e.next calls.1.rank = ap (slice_index e.next) calls.4 in
                            let on : is_matched e f ≡ true = probe_returned p e f calls.0 calls.2 probe (kept.returned f calls.0 calls.2 (omega (arith, above, below_next, same_next))) in
                            cc
                      ])
                ]
          ]
    ]

-- where nothing is enabled, no send and finder that fit are both open
pub no_open_pair : (p : MpiProgram) (e : Configuration) (s f : ℕ) → HasEnded p e → is_issued p e s ≡ true → is_issued p e f ≡ true → is_matched e s ≡ false → is_matched e f ≡ false → are_fit p s f ≡ true → ⊥
no_open_pair p e s f ended issued_s issued_f free_s free_f fit =
    let w = some_match_or_see_is_enabled p e s f (record { send_issued = issued_s; finder_issued = issued_f; send_open = free_s; finder_open = free_f; fit = fit }) in
    ended (find_step (is_probe p w.finder) w.send w.finder) w.enabled

-- What a finder may find in a part of the end, it has found at the end. A finder that has found
-- nothing there finds nothing anywhere: a send that fits it has an earlier taker at the end, for
-- nothing is enabled there.
only_find : (p : MpiProgram) (e : Configuration) (Q : Configuration → Type 0) (m : Configuration) (s f : ℕ) → HasEnded p e → HoldsBack p e Q → Q m → Kept p m → Kept p e → Part p m e → CanFind p m s f → partner_of e f ≡ Some s
only_find p e Q m s f ended holds q kept kept_e part can =
    elim (some_or_none (partner_of e f)) [
      | inl found ↦ at found.0 found.1
      | inr none ↦
          let free : is_matched e f ≡ false = none_open e f none in
          absurd (elim (some_or_none (partner_of e s)) [
            | inr none_s ↦ no_open_pair p e s f ended (issued_more p m e s part can.send_issued) (issued_more p m e f part can.finder_issued) (none_open e s none_s) free can.fit
            | inl t ↦ no_earlier_taker p m e s f t.0 kept kept_e part.partner can t.1 (earlier_taker p e s f t.0 kept_e free can.fit t.1)
          ])
    ]
  where
    at : (x : ℕ) → partner_of e f ≡ Some x → partner_of e f ≡ Some s
    at x found =
        elim (cases_eq x s) [
          | inl same ↦ found ∙ ap Some same
          | inr differ ↦
              elim (kept_e.fit f x found) [
                | inl taken ↦ absurd (no_send_is_taker p f x s (takes_fit p f x taken) can.fit)
                | inr fit ↦
                    absurd (elim (is_or_not (are_of_one_rank p x s)) [
                      | inr apart ↦
                          let on : is_matched m f ≡ true = holds.held m f x s kept part q found fit can.fit apart (λ t sent below. no_earlier_taker p m e s f t kept kept_e part.partner can sent below) can.send_issued in
                          let off : is_matched m f ≡ false = can.finder_open in
                          cc
                      | inl one ↦
                          elim (cases_lt x s) [
                            | inl below ↦
                                let w = partner_from m x (can.sends x below one fit) in
                                no_later_taker p m e x f w.0 kept kept_e part.partner fit found can.finder_open w.1
                            | inr not_below ↦
                                let above : s < x = omega (arith, not_below, differ) in
                                let calls = one_rank p x s one in
                                let back : are_of_one_rank p s x ≡ true = one_rank_made p s x calls.1 calls.0 calls.3 calls.2 (sym calls.4) in
                                let w = partner_from e s (kept_e.sends x f s found fit above back can.fit) in
                                no_earlier_taker p m e s f w.0 kept kept_e part.partner can w.1 (kept_e.earlier x f s w.0 found fit above back can.fit w.1)
                          ]
                    ])
              ]
        ]

within_step : (p : MpiProgram) (e : Configuration) (Q : Configuration → Type 0) (m : Configuration) (x : Step) → HasEnded p e → HoldsBack p e Q → Q m → Kept p m → Kept p e → Part p m e → IsEnabled p m x → MatchesWithin (after m x) e
within_step p e Q m x ended holds q kept kept_e part enabled c u h =
    elim (new_or_old p m x c u kept.size enabled h) [
      | inl old ↦ part.partner c u old
      | inr w ↦
          let found : partner_of e w.finder ≡ Some w.send = only_find p e Q m w.send w.finder ended holds q kept kept_e part w.can in
          elim w.which [
            | inl is ↦ ap (partner_of e) is.0 ∙ found ∙ ap Some (sym is.1)
            | inr is ↦ ap (partner_of e) is.0 ∙ kept_e.back w.send w.finder (takes_made p w.send w.finder w.can.fit is.2) found ∙ ap Some (sym is.1)
          ]
    ]

part_of_end : (p : MpiProgram) (e : Configuration) (Q : Configuration → Type 0) (m : Configuration) (steps : List Step) → HasEnded p e → AllBuffered p e → HoldsBack p e Q → Q m → Kept p m → Kept p e → Part p m e → IsRun p m steps → Part p (after_all m steps) e
part_of_end p e Q m [] ended all holds q kept kept_e part run = part
part_of_end p e Q m (x ∷ xs) ended all holds q kept kept_e part run =
    part_of_end p e Q (after m x) xs ended all holds (holds.step m x kept part run.0 q) (kept_after p m x kept run.0) kept_e
    (rise p m e x kept kept_e ended all part run.0 (within_step p e Q m x ended holds q kept kept_e part run.0)) run.1

-- where such a test holds from the opening on, the run is the greatest
greatest : (p : MpiProgram) (steps other : List Step) (Q : Configuration → Type 0) → IsInRankOrder p → IsEndedRun p steps → BuffersAllItMay p steps → HoldsBack p (after_all (opening p) steps) Q → Q (opening p) → IsRun p (opening p) other → Part p (after_all (opening p) other) (after_all (opening p) steps)
greatest p steps other Q order ended choice holds q run =
    let start = kept_opening p order in
    part_of_end p (after_all (opening p) steps) Q (opening p) other ended.ended
    (buffered_all p (opening p) steps start ended.run choice (all_buffered_opening p order))
    holds q start (kept_run p steps order ended.run) (part_all p (opening p) steps start ended.run) run

-- ---- by cuts

cuts_hold_back : (p : MpiProgram) (e : Configuration) → HasNoRaceBefore p e → HoldsBack p e (λ m. Unit {0})
cuts_hold_back p e none =
    record {
      step = λ m x kept part enabled q. tt;
      held = λ m f own other kept part q found fit fits apart earlier issued. none f own other found fit fits apart earlier m (cut_of p e m kept part.partner) (is_part_of p m e part) issued;
    }

pub ordered_is_greatest : OrderedIsGreatest
ordered_is_greatest p steps order ended choice none other run =
    is_part_of p (after_all (opening p) other) (after_all (opening p) steps)
    (greatest p steps other (λ m. Unit {0}) order ended choice (cuts_hold_back p (after_all (opening p) steps) none) tt run)

pub ordered_sticks_always : OrderedSticksAlways
ordered_sticks_always p steps order stuck choice none =
    greatest_sticks_always p steps order stuck (ordered_is_greatest p steps order (ended_of p steps stuck) choice none)

-- ---- by a table

within_agrees : (m e : Configuration) → MatchesWithin m e → Agrees m e
within_agrees m e within c x y a b = same_some x y (sym (within c x a) ∙ b)

table_holds_back : (p : MpiProgram) (e : Configuration) (knows : Table) → IsJustified p e knows → ShowsNoRaceBefore p e knows → HoldsBack p e (Told p knows)
table_holds_back p e knows justified shows =
    record {
      step = λ m x kept part enabled told. told_step p e m knows x justified kept (within_agrees m e part.partner) enabled told;
      held = λ m f own other kept part told found fit fits apart earlier issued. told other f (shows f own other found fit fits apart earlier (issued_more p m e other part issued)) issued;
    }

pub table_is_greatest : TableIsGreatest
table_is_greatest p steps knows order ended choice justified shows other run =
    is_part_of p (after_all (opening p) other) (after_all (opening p) steps)
    (greatest p steps other (Told p knows) order ended choice (table_holds_back p (after_all (opening p) steps) knows justified shows)
    (λ c f known issued. absurd (none_issued p c order issued)) run)

pub table_sticks_always : TableSticksAlways
table_sticks_always p steps knows order stuck choice justified shows =
    greatest_sticks_always p steps order stuck (table_is_greatest p steps knows order (ended_of p steps stuck) choice justified shows)

-- ---- where each finder names its source

named_no_race : (p : MpiProgram) (e : Configuration) → NamesSources p → HasNoRaceBefore p e
named_no_race p e named f own other found fit fits apart earlier m cut part issued =
    absurd (let one = one_source p f own other named fit fits in cc)

pub named_sources_are_greatest : NamedSourcesAreGreatest
named_sources_are_greatest p steps order named ended choice =
    ordered_is_greatest p steps order ended choice (named_no_race p (after_all (opening p) steps) named)

pub named_sources_stick_always : NamedSourcesStickAlways
named_sources_stick_always p steps order named stuck choice =
    ordered_sticks_always p steps order stuck choice (named_no_race p (after_all (opening p) steps) named)

-- ---- what comes in some runs and not in others

is_any_or_not : (q : Policy) → (q ≡ Any) ⊎ (q ≡ Any → ⊥)
is_any_or_not Any = inl refl
is_any_or_not Never = inr (λ e. cc)
is_any_or_not Always = inr (λ e. cc)

pub only_choice_mixes : OnlyChoiceMixes
only_choice_mixes p stuck finished order named is_stuck is_finished =
    elim (is_any_or_not p.policy) [
      | inl any ↦ any
      | inr not_any ↦
          let always = named_sources_stick_always p stuck order named is_stuck (no_choice p stuck is_stuck.run not_any) in
          absurd (always.never_finishes finished is_finished)
    ]

pub two_runs_decide : TwoRunsDecide
two_runs_decide p least most order waited named none all ends_least ends_most =
    elim ends_least [
      | inl finished ↦ inl (λ other stuck. named_sources_never_stick p least other order waited named finished none stuck)
      | inr stuck ↦
          inr (elim ends_most [
            | inl finished ↦ inl (record { stuck = least; finished = most; sticks = stuck; finishes = finished })
            | inr also ↦ inr (most, named_sources_stick_always p most order named also all)
          ])
    ]
