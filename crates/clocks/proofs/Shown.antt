-- Rows of some level that show no race.
use Rattle.std.proofs.Common.{zero, suc, ap, ◌∙◌, IfSome, [], ◌∷◌, ◌++◌, slice_get, ◌≡◌, ℕ, ◌<◌, ◌≤◌, ◌⊎◌, inl, inr, Bool, true, false, not, ◌&&◌, ◌==◌, cond, nat_lt, Option, None, IfNone, IfOk, Ok, Err, Result, List, length, ◌+◌, refl, take, get_or, slice_index, Some, sym, subst, arith}
use Rattle.std.proofs.lemmas.Option.{slice_get-get_or, slice_get_within}
use Rattle.semantics.proofs.Runs.{IsRun-at}
use Rattle.std.proofs.lemmas.Bool.{cases_lt, eq-eqb, lt-ltb}
use Rattle.calltext.specs.Grammar.{long}
use Rattle.callorder.specs.declared.calls.Call.{Call}
use Rattle.callorder.specs.ProgramRules.{IsProgramWithin}
use Rattle.callorder.specs.Programs.{are_of_one_rank, is_of_rank, MpiProgram, are_fit, call_at}
use Rattle.semantics.specs.declared.state.Step.{Step}
use Rattle.semantics.specs.RunEnds.{IsFinishedRun}
use Rattle.semantics.specs.Machine.{Configuration, first_call, opening, after_all, partner_of, is_issued, is_rank_finished, has_next, has_returned_before, IsEnabled, IsRun, IsStuckRun}
use Rattle.races.specs.Races.{BuffersNoneByChoice}
use Rattle.races.specs.Tells.{Table}
use Rattle.races.specs.Blocks.{Blocks, HasFellow, IsSure}
use Rattle.races.proofs.Telling.{programs_are_in_order}
use Rattle.races.proofs.LikeRuns.{table_of_blocks_never_sticks}
use Rattle.races.proofs.Passing.{kept_opening, part_all}
use Rattle.races.proofs.Steps.{one_rank, within_issued}
use Rattle.calltext.proofs.Conjunctions.{and_both, and_true}
use Rattle.callorder.proofs.Lookups.{slice_get-none_past}
use Rattle.callorder.specs.declared.calls.Message.{Message}
use Rattle.callorder.specs.declared.calls.Pattern.{Pattern}
use Rattle.callorder.specs.Calls.{both_hold, covers, fits, fits_between, pattern_of}
use Rattle.std.specs.Global.{Vec}
use Rattle.clocks.specs.parts.Finders.{AreNoRaces, group_at, group_of, HaveOneWay, IsListing, IsOfAnyTag, Sends}
use Rattle.std.specs.List.{count_by}
use Rattle.std.proofs.lemmas.List.Sums.{sum_by-cons}
use Rattle.std.proofs.lemmas.List.FromFn.{get_or-map-range_with_len}
use Rattle.clocks.specs.declared.race.Race.{Race}
use Rattle.clocks.specs.declared.rows.Count.{Count}
use Rattle.clocks.specs.parts.Clocks.{Numbering, AreToldSoundly, HasEarlier, IsTaken, IsSingle, IsSurePartner, IsChecked, level, rounds}
use Rattle.clocks.specs.Clocks.{HasNoRaceShown, IsNoRace, IsOpenOfBlocks, IsRival, IsRivalOfBlock, IsUnordered, ShowsAll}
use Rattle.clocks.specs.Spans.{AreSpans}
use Rattle.clocks.proofs.Members.{chain, name_below, named_from, spans_are_blocks}
use Rattle.std.specs.Option.{unwrap_or}
use Rattle.knowledge.specs.Knowledge.{with_partners}
use Rattle.clocks.proofs.Counts.{same_some}
use Rattle.clocks.proofs.Looks.{checked_shows, checked_by, same_call, send_there}
use Rattle.clocks.proofs.Levels.{level_justified, rounds_justified}
use Rattle.clocks.specs.parts.Exact.{ShowsFrom}
use Rattle.clocks.proofs.Extending.{shows_always, shows_as, shows_then}
use Rattle.std.specs.declared.alloc.AllocError.{AllocError}

before : (p : MpiProgram) (block : Blocks) (f g : ℕ) → AreSpans p block → g < f → IsSingle block f → block g ≡ block f → ⊥
before p block zero g spans below single same = absurd (omega (arith, below))
before p block (suc b) g spans below single same = single.before b refl ((chain p block g (suc b) b spans (omega (arith, below)) (omega arith) same).1 ∙ same)

-- a call that is single has no fellow
pub no_fellow : (p : MpiProgram) (block : Blocks) (f : ℕ) → AreSpans p block → IsSingle block f → HasFellow p block f → ⊥
no_fellow p block f spans single w =
    elim (cases_lt w.fellow f) [
      | inl below ↦ before p block f w.fellow spans below single w.same
      | inr ge ↦
          let above : f < w.fellow = omega (arith, ge, w.other) in
          elim (cases_lt (suc f) w.fellow) [
            | inl far ↦ single.behind (chain p block f w.fellow (suc f) spans (omega arith) far (sym w.same)).1
            | inr near ↦ let at : w.fellow ≡ suc f = omega (arith, near, above) in single.behind (ap block (sym at) ∙ w.same)
          ]
    ]

is_sure : (p : MpiProgram) (block : Blocks) (e sure : Configuration) → AreSpans p block → ((c x : ℕ) → partner_of sure c ≡ Some x → IsSurePartner block e c x) → IsSure p block e sure
is_sure p block e sure spans h =
    record {
      within = λ c x is. (h c x is).found;
      finder = λ f s is finder. no_fellow p block f spans (h f s is).single;
      taker = λ s t is finder. no_fellow p block t spans (h s t is).other;
    }

up_to : (t f : ℕ) → t ≤ f → (t < f) ⊎ (t ≡ f)
up_to t f le = elim (cases_lt t f) [ inl lt ↦ inl lt | inr ge ↦ inr (omega (arith, le, ge)) ]

-- what is shown of each send that is issued
pub shows : (p : MpiProgram) (block : Blocks) (e : Configuration) (knows : Table) → ShowsAll p block e knows → (finder own other : ℕ) → partner_of e finder ≡ Some own → are_fit p own finder ≡ true → are_fit p other finder ≡ true → (are_of_one_rank p own other ≡ false) ⊎ HasFellow p block finder → ((taker : ℕ) → partner_of e other ≡ Some taker → (taker < finder) ⊎ (block taker ≡ block finder) → ⊥) → is_issued p e other ≡ true → knows other finder ≡ true
shows p block e knows all finder own other found fit fits which taken issued =
    all finder own other found fit issued fits which (λ taker is upto. taken taker is (narrow taker upto))
  where
    narrow : (taker : ℕ) → (taker ≤ finder) ⊎ (block taker ≡ block finder) → (taker < finder) ⊎ (block taker ≡ block finder)
    narrow taker (inr same) = inr same
    narrow taker (inl le) = elim (up_to taker finder le) [ inl lt ↦ inl lt | inr at ↦ inr (ap block at) ]

one_counted : (x : Call) (xs : List Call) (rank : ℕ) → x.rank < rank → count_by (λ (y : Call). nat_lt y.rank rank) (x ∷ xs) ≡ 1 + count_by (λ (y : Call). nat_lt y.rank rank) xs
one_counted x xs rank below =
    sum_by-cons (λ (y : Call). cond (nat_lt y.rank rank) 1 0) x xs ∙ ap (λ (b : Bool). cond b 1 0 + count_by (λ (y : Call). nat_lt y.rank rank) xs) (lt-ltb x.rank rank below)

-- where calls stand in rank order, a call of a lower rank is counted with all before it
counted_below : (calls : List Call) (rank place : ℕ) (call : Call) → ((c d : ℕ) (one other : Call) → c ≤ d → slice_get calls c ≡ Some one → slice_get calls d ≡ Some other → one.rank ≤ other.rank) → slice_get calls place ≡ Some call → call.rank < rank → place < count_by (λ (y : Call). nat_lt y.rank rank) calls
counted_below [] rank place call order there below = absurd (cc)
counted_below (x ∷ xs) rank zero call order there below =
    let first : x.rank ≤ call.rank = order 0 0 x call (omega arith) refl there in
    omega (arith, one_counted x xs rank (omega (arith, first, below)))
counted_below (x ∷ xs) rank (suc k) call order there below =
    let first : x.rank ≤ call.rank = order 0 (suc k) x call (omega arith) refl there in
    let rest = counted_below xs rank k call (λ c d a b le at_c at_d. order (suc c) (suc d) a b (omega (arith, le)) at_c at_d) there below in
    omega (arith, one_counted x xs rank (omega (arith, first, below)), rest)

-- where a rank is finished, no call of it stands at its next place or behind that
not_last : (p : MpiProgram) (e : Configuration) (c : ℕ) (call : Call) (o : Option Call) → IsProgramWithin long p → first_call p call.rank ≤ slice_index e.next call.rank → call_at p c ≡ Some call → is_rank_finished p e call.rank ≡ true → call_at p (slice_index e.next call.rank) ≡ o → slice_index e.next call.rank ≤ c → ⊥
not_last p e c call None is from there finished none past = omega (arith, slice_get-none_past p.calls (slice_index e.next call.rank) none, slice_get_within p.calls c call there, past)
not_last p e c call (Some other) is from there finished at past =
    elim (cases_lt other.rank call.rank) [
      | inl low ↦ omega (arith, counted_below p.calls call.rank (slice_index e.next call.rank) other is.rank_order at low, from)
      | inr ge ↦
          let high : other.rank ≤ call.rank = is.rank_order (slice_index e.next call.rank) c other call past at there in
          let same : other.rank ≡ call.rank = omega (arith, ge, high) in
          let some : has_next p e call.rank ≡ true = ap (λ (z : Option Call). is_of_rank z call.rank) at ∙ eq-eqb other.rank call.rank same in
          let none : not (has_next p e call.rank) ≡ true = (and_true (not (has_next p e call.rank)) (has_returned_before p e call.rank (slice_index e.next call.rank)) finished).0 in
          let off = ap not some in
          absurd (cc)
    ]

-- at the end of a run that finishes each call is issued
all_issued : (p : MpiProgram) (steps : List Step) (c : ℕ) (call : Call) → IsProgramWithin long p → IsFinishedRun p steps → call_at p c ≡ Some call → is_issued p (after_all (opening p) steps) c ≡ true
all_issued p steps c call is finished there =
    let e = after_all (opening p) steps in
    let in_range : call.rank < p.ranks = (is.in_range c call there).own in
    let at : get_or (opening p).next call.rank 0 ≡ first_call p call.rank = get_or-map-range_with_len (first_call p) 0 p.ranks call.rank call.rank 0 in_range (omega arith) in
    let grown : slice_index (opening p).next call.rank ≤ slice_index e.next call.rank = (part_all p (opening p) steps (kept_opening p (programs_are_in_order long p is).0) finished.run).next call.rank in
    elim (cases_lt c (slice_index e.next call.rank)) [
      | inl below ↦ within_issued p e c call there below
      | inr past ↦ absurd (not_last p e c call (call_at p (slice_index e.next call.rank)) is (omega (arith, at, grown)) there (finished.finished call.rank in_range) refl past)
    ]

pub none_is_stuck : (p : MpiProgram) (steps other : List Step) → IsProgramWithin long p → IsFinishedRun p steps → BuffersNoneByChoice p steps → HasNoRaceShown p (after_all (opening p) steps) → IsStuckRun p other → ⊥
none_is_stuck p steps other is finished choice w stuck =
    let order = programs_are_in_order long p is in
    table_of_blocks_never_sticks p steps other w.block w.sure w.knows order.0 order.1 finished choice (spans_are_blocks p w.block w.spans)
    w.is_sure w.justified
    (λ finder own send found fit fits which taken.
    let here = send_there (call_at p send) (call_at p finder) fits in
    shows p w.block (after_all (opening p) steps) w.knows w.shows finder own send found fit fits which taken (all_issued p steps send here.0 is finished here.1)) stuck

pub none_shown : (p : MpiProgram) (block : Blocks) (e sure : Configuration) (ns : Numbering) (told : List Count) (found : Option Race) → IsProgramWithin long p → AreSpans p block → ((c x : ℕ) → partner_of sure c ≡ Some x → IsSurePartner block e c x) → AreToldSoundly p sure ns told → IfNone found (ShowsFrom p sure ns told (λ more. (other : ℕ) → IsChecked p block e more other)) → IfNone found (HasNoRaceShown p e)
none_shown p block e sure ns told None is spans within sound shown =
    let w = shown (level p sure sound.rounds) (level_justified p sure sound.rounds) sound.told in
    record {
      block = block;
      spans = spans;
      sure = sure;
      knows = rounds p sure w.more (length p.calls);
      is_sure = is_sure p block e sure spans within;
      justified = rounds_justified p sure w.more (length p.calls) w.justified;
      shows = checked_shows p block e sure w.more is w.justified w.shows;
    }
none_shown p block e sure ns told (Some race) is spans within sound shown = shown

-- what is shown of the finders of a send's tag, and then of those of any, is shown of both
pub groups_shown : (p : MpiProgram) (block : Blocks) (e sure : Configuration) (ns : Numbering) (told : List Count) (one two : List ℕ) (other low low_any high : ℕ) → ShowsFrom p sure ns told (AreNoRaces p block e one low high other) → ShowsFrom p sure ns told (AreNoRaces p block e two low_any high other) → ShowsFrom p sure ns told (λ more. AreNoRaces p block e one low high other more × AreNoRaces p block e two low_any high other more)
groups_shown p block e sure ns told one two other low low_any high =
    shows_then p sure ns told (AreNoRaces p block e one low high other) (AreNoRaces p block e two low_any high other) (λ more. AreNoRaces p block e one low high other more × AreNoRaces p block e two low_any high other more)
    (λ a b within h i f own there from below found fit apart later. within other f (h i f own there from below found fit apart later))
    (λ more first second. (first, second))

pub checked_if : (p : MpiProgram) (block : Blocks) (e sure : Configuration) (ns : Numbering) (told : List Count) (groups : List (Vec ℕ)) (other : ℕ) (message : Message) (named any first first_any start end last low low_any high : ℕ) (r : Option ℕ) → IsListing p block groups → Sends p other message → named ≡ group_of (length groups) message.destination message.communicator (Some message.tag) → any ≡ group_of (length groups) message.destination message.communicator None → ((f : ℕ) → f < first → are_fit p other f ≡ true → HasEarlier p block e other f) → ((f : ℕ) → f < first_any → IsOfAnyTag p f → are_fit p other f ≡ true → HasEarlier p block e other f) → ((f : ℕ) → f < start → are_fit p other f ≡ true → ⊥) → ((f : ℕ) → end ≤ f → are_fit p other f ≡ true → IsTaken block e other f) → ((f : ℕ) → last ≤ f → are_fit p other f ≡ true → ⊥) → ((n : ℕ) → first ≤ n → start ≤ n → low ≤ n) → ((n : ℕ) → first_any ≤ n → start ≤ n → low_any ≤ n) → ((n : ℕ) → n < end → n < last → n < high) → ShowsFrom p sure ns told (AreNoRaces p block e (group_at groups named) low high other) → IfNone r (ShowsFrom p sure ns told (AreNoRaces p block e (group_at groups any) low_any high other)) → IfNone r (ShowsFrom p sure ns told (λ more. IsChecked p block e more other))
checked_if p block e sure ns told groups other message named any first first_any start end last low low_any high None listing sends is_named is_any a a_any b c d from from_any to looked looked_any =
    shows_as p sure ns told (λ more. AreNoRaces p block e (group_at groups named) low high other more × AreNoRaces p block e (group_at groups any) low_any high other more) (λ more. IsChecked p block e more other)
    (λ more are both. checked_by p block e more groups other message named any first first_any start end last low low_any high listing sends is_named is_any a a_any b c d from from_any to both.0 both.1)
    (groups_shown p block e sure ns told (group_at groups named) (group_at groups any) other low low_any high looked looked_any)
checked_if p block e sure ns told groups other message named any first first_any start end last low low_any high (Some x) listing sends is_named is_any a a_any b c d from from_any to looked looked_any = looked_any

-- so where the second was shown by the same partners
pub checked_then : (p : MpiProgram) (block : Blocks) (e : Configuration) (partners mid : List (Option ℕ)) (ns : Numbering) (told : List Count) (groups : List (Vec ℕ)) (count other : ℕ) (message : Message) (named any first first_any start end last low low_any high : ℕ) (by_tag r : Option ℕ) → mid ≡ partners → count ≡ length groups → by_tag ≡ None → IsListing p block groups → Sends p other message → named ≡ group_of count message.destination message.communicator (Some message.tag) → any ≡ group_of count message.destination message.communicator None → ((f : ℕ) → f < first → are_fit p other f ≡ true → HasEarlier p block e other f) → ((f : ℕ) → f < first_any → IsOfAnyTag p f → are_fit p other f ≡ true → HasEarlier p block e other f) → ((f : ℕ) → f < start → are_fit p other f ≡ true → ⊥) → ((f : ℕ) → end ≤ f → are_fit p other f ≡ true → IsTaken block e other f) → ((f : ℕ) → last ≤ f → are_fit p other f ≡ true → ⊥) → ((n : ℕ) → first ≤ n → start ≤ n → low ≤ n) → ((n : ℕ) → first_any ≤ n → start ≤ n → low_any ≤ n) → ((n : ℕ) → n < end → n < last → n < high) → IfNone by_tag (ShowsFrom p (with_partners partners) ns told (AreNoRaces p block e (group_at groups named) low high other)) → IfNone r (ShowsFrom p (with_partners mid) ns told (AreNoRaces p block e (group_at groups any) low_any high other)) → IfNone r (ShowsFrom p (with_partners partners) ns told (λ more. IsChecked p block e more other))
checked_then p block e partners mid ns told groups count other message named any first first_any start end last low low_any high by_tag r same size none listing sends is_named is_any a a_any b c d from from_any to looked looked_any =
    checked_if p block e (with_partners partners) ns told groups other message named any first first_any start end last low low_any high r listing sends
    (is_named ∙ ap (λ (z : ℕ). group_of z message.destination message.communicator (Some message.tag)) size)
    (is_any ∙ ap (λ (z : ℕ). group_of z message.destination message.communicator None) size)
    a a_any b c d from from_any to
    (subst (λ (z : Option ℕ). IfNone z (ShowsFrom p (with_partners partners) ns told (AreNoRaces p block e (group_at groups named) low high other))) none looked)
    (subst (λ (z : List (Option ℕ)). IfNone r (ShowsFrom p (with_partners z) ns told (AreNoRaces p block e (group_at groups any) low_any high other))) same looked_any)

-- a call that fits no finder is checked
pub unsent_checked : (p : MpiProgram) (block : Blocks) (e sure : Configuration) (ns : Numbering) (told : List Count) (other : ℕ) → ((f : ℕ) → are_fit p other f ≡ true → ⊥) → ShowsFrom p sure ns told (λ more. IsChecked p block e more other)
unsent_checked p block e sure ns told other never =
    shows_always p sure ns told (λ more. IsChecked p block e more other) (λ knows are issued f own found mine. inl (λ fit apart later. absurd (never f fit)))

fits_any : (r v : ℕ) (m n : Message) (b : Pattern) → m.destination ≡ n.destination → m.communicator ≡ n.communicator → b.tag ≡ None → fits_between r (Some n) v (Some b) ≡ true → fits_between r (Some m) v (Some b) ≡ true
fits_any r v m n b way comm any fit =
    let three = and_true (n.destination == v && n.communicator == b.communicator && covers b.source r) (covers b.tag n.tag) fit in
    and_both (m.destination == v && m.communicator == b.communicator && covers b.source r) (covers b.tag m.tag)
    (subst (λ (z : ℕ). (z == v && m.communicator == b.communicator && covers b.source r) ≡ true) (sym way)
    (subst (λ (z : ℕ). (n.destination == v && z == b.communicator && covers b.source r) ≡ true) (sym comm) three.0))
    (subst (λ (z : Option ℕ). covers z m.tag ≡ true) (sym any) refl)

-- a finder of any tag takes each message of one rank that comes to it by one communicator
pub any_fit : (p : MpiProgram) (one other f : ℕ) → HaveOneWay (call_at p one) (call_at p other) → are_of_one_rank p one other ≡ true → IsOfAnyTag p f → are_fit p other f ≡ true → are_fit p one f ≡ true
any_fit p one other f w same finder fit =
    let r = one_rank p one other same in
    let first : r.0 ≡ w.first = same_call p one r.0 w.first r.2 w.is_first in
    let second : r.1 ≡ w.second = same_call p other r.1 w.second r.3 w.is_second in
    let ranks : w.first.rank ≡ w.second.rank = ap (λ (z : Call). z.rank) (sym first) ∙ r.4 ∙ ap (λ (z : Call). z.rank) second in
    let h1 = subst (λ (x : Option Call). both_hold fits x (call_at p f) ≡ true) w.is_second fit in
    let h2 = subst (λ (x : Option Call). both_hold fits (Some w.second) x ≡ true) finder.there h1 in
    let h3 = subst (λ (x : Option Message). fits_between w.second.rank x finder.call.rank (pattern_of finder.call.kind) ≡ true) w.way.is_second h2 in
    let h4 = subst (λ (x : Option Pattern). fits_between w.second.rank (Some w.way.second) finder.call.rank x ≡ true) finder.asks h3 in
    let h5 = subst (λ (x : ℕ). fits_between x (Some w.way.second) finder.call.rank (Some finder.pattern) ≡ true) (sym ranks) h4 in
    let g5 = fits_any w.first.rank finder.call.rank w.way.first w.way.second finder.pattern w.way.destination w.way.communicator finder.any h5 in
    let g4 = subst (λ (x : Option Pattern). fits_between w.first.rank (Some w.way.first) finder.call.rank x ≡ true) (sym finder.asks) g5 in
    let g3 = subst (λ (x : Option Message). fits_between w.first.rank x finder.call.rank (pattern_of finder.call.kind) ≡ true) (sym w.way.is_first) g4 in
    let g2 = subst (λ (x : Option Call). both_hold fits (Some w.first) x ≡ true) (sym finder.there) g3 in
    subst (λ (x : Option Call). both_hold fits x (call_at p f) ≡ true) (sym w.is_first) g2

-- one of four reasons shows that the other send doesn't race
pub no_race_by_rank : (p : MpiProgram) (block : Blocks) (e : Configuration) (knows : Table) (finder own other : ℕ) → AreSpans p block → are_of_one_rank p own other ≡ true → IsSingle block finder → IsNoRace p block e knows finder own other
no_race_by_rank p block e knows finder own other spans one single fit (inl apart) later = absurd (cc (one, apart))
no_race_by_rank p block e knows finder own other spans one single fit (inr w) later = absurd (no_fellow p block finder spans single w)

pub no_race_by_taker : (p : MpiProgram) (block : Blocks) (e : Configuration) (knows : Table) (finder own other : ℕ) → IsTaken block e other finder → IsNoRace p block e knows finder own other
no_race_by_taker p block e knows finder own other w fit which later = absurd (later w.taker w.found w.which)

pub open_below : (p : MpiProgram) (block : Blocks) (e : Configuration) (earlier taker finder : ℕ) → AreSpans p block → partner_of e earlier ≡ Some taker → finder < block taker → (t : ℕ) → partner_of e earlier ≡ Some t → (t ≤ finder) ⊎ (block t ≡ block finder) → ⊥
open_below p block e earlier taker finder spans found below t is (inl le) = let same : taker ≡ t = same_some taker t (sym found ∙ is) in absurd (omega (arith, le, below, same, name_below p block taker spans))
open_below p block e earlier taker finder spans found below t is (inr one) = let same : taker ≡ t = same_some taker t (sym found ∙ is) in let at : block taker ≡ block finder = ap block same ∙ one in absurd (omega (arith, at, below, name_below p block finder spans))

-- what stands from the first call of the taker's block on is of that block, or behind the taker
pub taken_from : (p : MpiProgram) (block : Blocks) (e : Configuration) (send taker finder : ℕ) → AreSpans p block → partner_of e send ≡ Some taker → block taker ≤ finder → IsTaken block e send finder
taken_from p block e send taker finder spans found from =
    record {
      taker = taker;
      found = found;
      which = elim (cases_lt finder taker) [ inl lt ↦ inr (sym (named_from p block taker finder spans from (omega (arith, lt)))) | inr ge ↦ inl ge ];
    }

-- the step at a place of a run is enabled where the steps before it lead
pub enabled_there : (p : MpiProgram) (steps : List Step) (i : ℕ) (d : Step) (m : Configuration) → i < length steps → m ≡ after_all (opening p) (take i steps) → IsRun p (opening p) steps → IsEnabled p m (get_or steps i d)
enabled_there p steps i d m within now run =
    subst (λ (z : Configuration). IsEnabled p z (get_or steps i d)) (sym now) (IsRun-at p (opening p) steps i (get_or steps i d) run (slice_get-get_or steps i d within))

finder_there : (o u : Option Call) → both_hold fits o u ≡ true → (x : Call) × (u ≡ Some x)
finder_there None u fit = absurd (cc)
finder_there (Some x) None fit = absurd (cc)
finder_there (Some x) (Some y) fit = (y, refl)

pub fits_within : (p : MpiProgram) (send finder : ℕ) → are_fit p send finder ≡ true → finder < length p.calls
fits_within p send finder fit = let w = finder_there (call_at p send) (call_at p finder) fit in slice_get_within p.calls finder w.0 w.1

pub shown_if : (p : MpiProgram) (e m : Configuration) (r : Result (Option Race) AllocError) → m ≡ e → IfOk r (λ found. IfNone found (HasNoRaceShown p m)) → r ≡ Ok None → HasNoRaceShown p e
shown_if p e m r same h is =
    subst (λ (z : Configuration). HasNoRaceShown p z) same
    (subst (λ (z : Result (Option Race) AllocError). IfOk z (λ found. IfNone found (HasNoRaceShown p m))) is h)

pushed_at : (xs : List (Option ℕ)) (v : Option ℕ) (c x : ℕ) → unwrap_or (slice_get (xs ++ v ∷ []) c) None ≡ Some x → (unwrap_or (slice_get xs c) None ≡ Some x) ⊎ ((c ≡ length xs) × (v ≡ Some x))
pushed_at [] v zero x h = inr (refl, h)
pushed_at [] v (suc c) x h = absurd (cc)
pushed_at (y ∷ xs) v zero x h = inl h
pushed_at (y ∷ xs) v (suc c) x h = elim (pushed_at xs v c x h) [ inl old ↦ inl old | inr w ↦ inr (let e = w.0 in omega (arith, e), w.1) ]

pub sure_push : (block : Blocks) (e : Configuration) (old new : List (Option ℕ)) (n : ℕ) (v : Option ℕ) → length old ≡ n → new ≡ old ++ v ∷ [] → ((c x : ℕ) → partner_of (with_partners old) c ≡ Some x → IsSurePartner block e c x) → IfSome v (IsSurePartner block e n) → (c x : ℕ) → partner_of (with_partners new) c ≡ Some x → IsSurePartner block e c x
sure_push block e old new n v size is h last c x there =
    elim (pushed_at old v c x (subst (λ (z : List (Option ℕ)). unwrap_or (slice_get z c) None ≡ Some x) is there)) [
      | inl before ↦ h c x before
      | inr w ↦
          let at : n ≡ c = sym size ∙ sym w.0 in
          subst (λ (z : ℕ). IsSurePartner block e z x) at (subst (λ (o : Option ℕ). IfSome o (IsSurePartner block e n)) w.1 last)
    ]

-- where each call is a block of its own, each rival is one of another rank
alone : (p : MpiProgram) (block : Blocks) (e : Configuration) (race : Race) → ((c : ℕ) → IsSingle block c) → IsRivalOfBlock p block e race.send race.finder → IsRival p e race
alone p block e race single rival = record {
  own = rival.own;
  found = rival.found;
  fits = rival.fits;
  apart = elim rival.apart [ inl apart ↦ apart | inr joined ↦ absurd (joined (single race.finder)) ];
  later = λ taker took upto. rival.later taker took (inl upto);
}

pub rivals_if_single : (p : MpiProgram) (block : Blocks) (e : Configuration) (r : Result (Option Race) AllocError) → ((c : ℕ) → IsSingle block c)
    → IfOk r (λ found. IfSome found (λ race. IsRivalOfBlock p block e race.send race.finder)) → IfOk r (λ found. IfSome found (IsRival p e))
rivals_if_single p block e (Ok None) single h = h
rivals_if_single p block e (Ok (Some race)) single h = alone p block e race single h
rivals_if_single p block e (Err error) single h = h

-- where a partner is there or none is sure, all that are sure are there
pub every_push : (block : Blocks) (e : Configuration) (old new : List (Option ℕ)) (n : ℕ) (v : Option ℕ) → length old ≡ n → new ≡ old ++ v ∷ []
    → ((c x : ℕ) → c < n → IsSurePartner block e c x → partner_of (with_partners old) c ≡ Some x) → IfSome v (IsSurePartner block e n) → IfNone v ((x : ℕ) → IsSurePartner block e n x → ⊥)
    → (c x : ℕ) → c < n + 1 → IsSurePartner block e c x → partner_of (with_partners new) c ≡ Some x
every_push block e old new n v size is known some none c x within sure =
    subst (λ (z : List (Option ℕ)). unwrap_or (slice_get z c) None ≡ Some x) (sym is) (elim (cases_lt c n) [
      | inl below ↦ still old v c x (omega (arith, below, size)) ∙ known c x below sure
      | inr ge ↦
          let at : c ≡ length old = omega (arith, size, ge, within) in
          subst (λ (z : ℕ). unwrap_or (slice_get (old ++ v ∷ []) z) None ≡ Some x) (sym at)
          (there old v ∙ same v some none (subst (λ (z : ℕ). IsSurePartner block e z x) (at ∙ size) sure))
    ])
  where
    still : (xs : List (Option ℕ)) (v : Option ℕ) (c x : ℕ) → c < length xs → unwrap_or (slice_get (xs ++ v ∷ []) c) None ≡ unwrap_or (slice_get xs c) None
    still [] v c x within = absurd (omega (arith, within))
    still (y ∷ xs) v zero x within = refl
    still (y ∷ xs) v (suc c) x within = still xs v c x (omega (arith, within))

    there : (xs : List (Option ℕ)) (v : Option ℕ) → unwrap_or (slice_get (xs ++ v ∷ []) (length xs)) None ≡ v
    there [] v = refl
    there (y ∷ xs) v = there xs v

    same : (v : Option ℕ) → IfSome v (IsSurePartner block e n) → IfNone v ((x : ℕ) → IsSurePartner block e n x → ⊥) → IsSurePartner block e n x → v ≡ Some x
    same None some none sure = absurd (none x sure)
    same (Some y) some none sure = sym some.found ∙ sure.found

-- no call behind the last one has a partner
pub every_partner : (p : MpiProgram) (block : Blocks) (e : Configuration) (partners : List (Option ℕ)) (n : ℕ) → length p.calls ≤ n → length e.partner ≡ length p.calls
    → ((c x : ℕ) → c < n → IsSurePartner block e c x → partner_of (with_partners partners) c ≡ Some x) → (c x : ℕ) → IsSurePartner block e c x → partner_of (with_partners partners) c ≡ Some x
every_partner p block e partners n all of known c x sure = elim (cases_lt c n) [
  | inl below ↦ known c x below sure
  | inr ge ↦ let none : None ≡ Some x = sym (past e.partner c (omega (arith, of, all, ge))) ∙ sure.found in let never : ⊥ = cc in absurd never
]
  where
    past : (xs : List (Option ℕ)) (c : ℕ) → length xs ≤ c → unwrap_or (slice_get xs c) None ≡ None
    past [] zero within = refl
    past [] (suc c) within = refl
    past (y ∷ xs) zero within = absurd (omega (arith, within))
    past (y ∷ xs) (suc c) within = past xs c (omega (arith, within))

-- the race that is found is left open by blocks
pub open_of_blocks : (p : MpiProgram) (block : Blocks) (e sure : Configuration) (found : Option Race) → ((c x : ℕ) → partner_of sure c ≡ Some x → IsSurePartner block e c x)
    → ((c x : ℕ) → IsSurePartner block e c x → partner_of sure c ≡ Some x) → IfSome found (λ race. IsRivalOfBlock p block e race.send race.finder)
    → IfSome found (IsUnordered p sure) → IfSome found (IsOpenOfBlocks p block e)
open_of_blocks p block e sure None only all rival unordered = tt
open_of_blocks p block e sure (Some race) only all rival unordered = record { sure = sure; only = only; all = all; rival = rival; unordered = unordered }
