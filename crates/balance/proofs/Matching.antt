-- Who is matched with whom at the end of a run, and in which channel.
use Rattle.std.proofs.Common.{◌≡◌, ℕ, zero, suc, ◌+◌, ◌<◌, ◌≤◌, inl, inr, Bool, true, false, cond, not, nat_lt, List, [], ◌∷◌, Option, Some, None, is_some, length, get_or, slice_get, slice_index, refl, sym, ap, subst, ◌∙◌, arith}
use Rattle.std.specs.List.{count_by, filter}
use Rattle.std.proofs.lemmas.Bool.{cases_lt, cases_eq, eq-eqb}
use Rattle.std.proofs.lemmas.Bool.Decides.{nat_tests}
use Rattle.std.proofs.lemmas.List.Filters.{length-filter_both}
use Rattle.std.proofs.lemmas.List.Sums.{length-filter, sum_by-cons}
use Rattle.std.proofs.lemmas.Option.{slice_get_within, slice_get-get_or}
use Rattle.calltext.proofs.Conjunctions.{and_true}
use Rattle.callorder.proofs.Lookups.{slice_get-none_past}
use Rattle.callorder.specs.declared.calls.Call.{Call}
use Rattle.callorder.specs.declared.calls.Kind.{Kind}
use Rattle.callorder.specs.declared.calls.Kind.TheVariants.{Send}
use Rattle.callorder.specs.declared.calls.Message.{Message}
use Rattle.callorder.specs.declared.calls.Pattern.{Pattern}
use Rattle.callorder.specs.Calls.{message_of, pattern_of, fits_between, both_hold, fits, is_probe_kind}
use Rattle.callorder.specs.Programs.{MpiProgram, call_at, is_of_rank, are_fit, is_probe, kind_holds}
use Rattle.semantics.specs.declared.state.Step.{Step}
use Rattle.semantics.specs.RunEnds.{IsFinishedRun}
use Rattle.semantics.specs.Machine.{Configuration, opening, after_all, first_call, is_issued, is_matched, partner_of, has_next, has_returned_before}
use Rattle.semantics.proofs.MachineLaws.{next_counts_issues}
use Rattle.run_laws.specs.Laws.{IsInRankOrder}
use Rattle.races.proofs.Steps.{same_some, partner_from, within_issued}
use Rattle.races.proofs.Kept.{Kept, takes_fit, takes_made}
use Rattle.races.proofs.Passing.{kept_run}
use Rattle.races.proofs.OneWay.{pattern_found}
use Rattle.balance.specs.declared.channels.Channel.{Channel}
use Rattle.balance.specs.Balance.{taken_by, channel_taken, channel_sent, channel_of_call, channel_at, is_send_call, is_send_at}
use Rattle.balance.specs.Laws.{MissingSendsStick, MissingTakersLeaveMessages, is_unmatched}
use Rattle.balance.proofs.Numbers.{no_more}
use Rattle.balance.proofs.Closing.{channels_are_closed, taker_kind}

-- ---- at the end of a run that finishes each call of a rank that exists is issued

first_from : (r : ℕ) (calls : List Call) (c : ℕ) → c ≤ length calls → ((d : ℕ) (x : Call) → d < c → slice_get calls d ≡ Some x → x.rank < r) → c ≤ count_by (λ call. nat_lt call.rank r) calls
first_from r calls zero le lower = omega arith
first_from r [] (suc c) le lower = absurd (omega arith)
first_from r (x ∷ xs) (suc c) le lower =
    let first : x.rank < r = lower 0 x (omega arith) refl in
    let on : nat_lt x.rank r ≡ true = grind (arith, nat_tests) in
    let rest = first_from r xs c (omega arith) (λ d y below there. lower (suc d) y (omega (arith, below)) there) in
    rw (sum_by-cons (λ (y : Call). cond (nat_lt y.rank r) 1 0) x xs, on) (more _ rest)
  where
    more : (n : ℕ) → c ≤ n → suc c ≤ cond true 1 0 + n
    more n h = omega (arith, h)

all_issued : (p : MpiProgram) (steps : List Step) (c : ℕ) (call : Call) → IsInRankOrder p → IsFinishedRun p steps → call_at p c ≡ Some call → call.rank < p.ranks → is_issued p (after_all (opening p) steps) c ≡ true
all_issued p steps c call order finished there in_range =
    elim (cases_lt c next) [
      | inl below ↦ within_issued p (after_all (opening p) steps) c call there below
      | inr past ↦ absurd (by (call_at p next) refl past)
    ]
  where
    next : ℕ
    next = slice_index (after_all (opening p) steps).next call.rank

    by : (o : Option Call) → call_at p next ≡ o → next ≤ c → ⊥
    by None is past = omega (arith, slice_get-none_past p.calls next is, slice_get_within p.calls c call there, past)
    by (Some other) is past =
        let low : other.rank ≤ call.rank = order next c other call past is there in
        let first = next_counts_issues p steps call.rank finished.run in_range in
        elim (cases_eq other.rank call.rank) [
          | inl same ↦
              let some : has_next p (after_all (opening p) steps) call.rank ≡ true = ap (λ (z : Option Call). is_of_rank z call.rank) is ∙ eq-eqb other.rank call.rank same in
              let none : not (has_next p (after_all (opening p) steps) call.rank) ≡ true = (and_true (not (has_next p (after_all (opening p) steps) call.rank)) (has_returned_before p (after_all (opening p) steps) call.rank next) (finished.finished call.rank in_range)).0 in
              let off = ap not some in
              cc
          | inr differ ↦
              let upto : suc next ≤ first_call p call.rank =
              first_from call.rank p.calls (suc next) (omega (arith, slice_get_within p.calls next other is))
              (λ d x below at. let up : x.rank ≤ other.rank = order d next x other (omega (arith, below)) at is in omega (arith, up, low, differ))
              in
              omega (arith, upto, first)
        ]

-- ---- sends and takers

has_pattern : (r d : ℕ) (a : Option Message) (b : Option Pattern) → fits_between r a d b ≡ true → (is_some a ≡ true) × (is_some b ≡ true)
has_pattern r d None b h = absurd (cc)
has_pattern r d (Some a) None h = absurd (cc)
has_pattern r d (Some a) (Some b) h = (refl, refl)

no_send : (k : Kind ℕ) → is_some (pattern_of k) ≡ true → is_some (message_of k) ≡ false
no_send (Send mode blocking message) h = absurd (cc)
no_send kind h = refl

fit_kinds : (x y : Option Call) → both_hold fits x y ≡ true → (is_send_call x ≡ true) × (is_send_call y ≡ false)
fit_kinds None y h = absurd (cc)
fit_kinds (Some x) None h = absurd (cc)
fit_kinds (Some x) (Some y) h =
    let w = has_pattern x.rank y.rank (message_of x.kind) (pattern_of y.kind) h in
    (w.0, no_send y.kind w.1)

-- of two calls that fit the first is a send, and the second is none
fit_sides : (p : MpiProgram) (s f : ℕ) → are_fit p s f ≡ true → (is_send_at p s ≡ true) × (is_send_at p f ≡ false)
fit_sides p s f fit = fit_kinds (call_at p s) (call_at p f) fit

record IsTaker (p : MpiProgram) (c : ℕ) : Type 0 where
  call : Call
  there : call_at p c ≡ Some call
  pattern : is_some (pattern_of call.kind) ≡ true
  probe : is_probe p c ≡ false

channel_of_taken : (p : MpiProgram) (r : ℕ) (o : Option Pattern) (channel : Channel) → channel_taken p r o ≡ Some channel → is_some o ≡ true
channel_of_taken p r None channel h = absurd (cc)
channel_of_taken p r (Some pattern) channel h = refl

not_sent : (p : MpiProgram) (call : Call) (o : Option Message) (channel : Channel) → is_some o ≡ false → channel_sent p call o ≡ Some channel → channel_taken p call.rank (taken_by call) ≡ Some channel
not_sent p call None channel off h = h
not_sent p call (Some message) channel off h = absurd (cc)

is_taker : (p : MpiProgram) (c : ℕ) (channel : Channel) → channel_at p c ≡ Some channel → is_send_at p c ≡ false → IsTaker p c
is_taker p c channel h off = by (call_at p c) refl h off
  where
    by : (o : Option Call) → call_at p c ≡ o → channel_of_call p o ≡ Some channel → is_send_call o ≡ false → IsTaker p c
    by None is h off = absurd (cc)
    by (Some call) is h off =
        let k = taker_kind call.kind (channel_of_taken p call.rank (taken_by call) channel (not_sent p call (message_of call.kind) channel off h)) in
        record { call = call; there = is; pattern = k.0; probe = ap (kind_holds is_probe_kind) is ∙ k.1 }

-- ---- a channel's takers each have a send of their own

-- at these places of the two lists stand a first and a second, and the second's partner is the
-- first
record Goes (e : Configuration) (firsts seconds : List ℕ) (i k : ℕ) : Type 0 where
  first : ℕ
  second : ℕ
  at_first : slice_get firsts i ≡ Some first
  at_second : slice_get seconds k ≡ Some second
  partner : partner_of e second ≡ Some first

go_once : (e : Configuration) (firsts seconds : List ℕ) → ((i j c : ℕ) → slice_get firsts i ≡ Some c → slice_get firsts j ≡ Some c → i ≡ j) → (i j k : ℕ) → Goes e firsts seconds i k → Goes e firsts seconds j k → i ≡ j
go_once e firsts seconds once i j k v w =
    let second : v.second ≡ w.second = same_some v.second w.second (sym v.at_second ∙ w.at_second) in
    let first : v.first ≡ w.first = same_some v.first w.first (sym v.partner ∙ ap (partner_of e) second ∙ w.partner) in
    once i j w.first (v.at_first ∙ ap Some first) w.at_first

-- the taker's partner is a send of its channel, whose partner it is
record IsServed (p : MpiProgram) (e : Configuration) (channel : Channel) (taker : ℕ) : Type 0 where
  send : ℕ
  own : channel_at p send ≡ Some channel
  sends : is_send_at p send ≡ true
  back : partner_of e send ≡ Some taker

served : (p : MpiProgram) (e : Configuration) (channel : Channel) (taker : ℕ) → Kept p e → channel_at p taker ≡ Some channel → is_send_at p taker ≡ false → is_probe p taker ≡ false → is_matched e taker ≡ true → IsServed p e channel taker
served p e channel taker kept own off probe matched =
    let w = partner_from e taker matched in
    elim (kept.fit taker w.0 w.1) [
      | inl taken ↦ absurd (let on = (fit_sides p taker w.0 (takes_fit p taker w.0 taken)).0 in cc)
      | inr fit ↦
          let taken = takes_made p w.0 taker fit probe in
          record { send = w.0; own = channels_are_closed p w.0 taker taken ∙ own; sends = (fit_sides p w.0 taker fit).0; back = kept.back w.0 taker taken w.1 }
    ]

pub missing_sends_stick : MissingSendsStick
missing_sends_stick p sides steps order waited exist wrong fewer finished =
    omega (arith, fewer, no_more (length sides.takers.items) (length sides.sends.items) (Goes (after_all (opening p) steps) sides.takers.items sides.sends.items) to (λ i j k l m v w. go_once (after_all (opening p) steps) sides.takers.items sides.sends.items wrong.are.takers.once i j k v w))
  where
    to : (i : ℕ) → i < length sides.takers.items → (k : ℕ) × (k < length sides.sends.items) × Goes (after_all (opening p) steps) sides.takers.items sides.sends.items i k
    to i below =
        let e = after_all (opening p) steps in
        let kept = kept_run p steps order finished.run in
        let t = get_or sides.takers.items i 0 in
        let at : slice_get sides.takers.items i ≡ Some t = slice_get-get_or sides.takers.items i 0 below in
        let of = wrong.are.takers.sound i t at in
        let is = is_taker p t wrong.channel of.0 of.1 in
        let issued = all_issued p steps t is.call order finished is.there (exist t is.call is.there) in
        let matched = pattern_found p e t is.call order waited kept finished.finished is.there is.pattern issued in
        let s = served p e wrong.channel t kept of.0 of.1 is.probe matched in
        let there = wrong.are.sends.all s.send (s.own, s.sends) in
        (there.0, slice_get_within sides.sends.items there.0 s.send there.1, record { first = t; second = s.send; at_first = at; at_second = there.1; partner = s.back })

-- ---- a channel's matched sends each have a taker of their own

-- the send's partner is a taker of its channel, whose partner it is
record IsTaken (p : MpiProgram) (e : Configuration) (channel : Channel) (send : ℕ) : Type 0 where
  taker : ℕ
  own : channel_at p taker ≡ Some channel
  takes : is_send_at p taker ≡ false
  back : partner_of e taker ≡ Some send

taken_there : (p : MpiProgram) (e : Configuration) (channel : Channel) (send : ℕ) → Kept p e → channel_at p send ≡ Some channel → is_send_at p send ≡ true → is_matched e send ≡ true → IsTaken p e channel send
taken_there p e channel send kept own on matched =
    let w = partner_from e send matched in
    elim (kept.fit send w.0 w.1) [
      | inr fit ↦ absurd (let off = (fit_sides p w.0 send fit).1 in cc)
      | inl taken ↦
          let fit = takes_fit p send w.0 taken in
          record { taker = w.0; own = sym (channels_are_closed p send w.0 taken) ∙ own; takes = (fit_sides p send w.0 fit).1; back = kept.both send w.0 fit w.1 }
    ]

-- ---- places of a list none of which stands twice

abbrev Once : List ℕ → Type 0
Once xs = (i j c : ℕ) → slice_get xs i ≡ Some c → slice_get xs j ≡ Some c → i ≡ j

-- where an item of those that pass a test stands
record StandsAt (test : ℕ → Bool) (xs : List ℕ) (c : ℕ) : Type 0 where
  at : ℕ
  there : slice_get xs at ≡ Some c
  passes : test c ≡ true

-- where an item of those that pass a test stands in the whole list, by where it stands in the rest
first_or_rest : (test : ℕ → Bool) (x : ℕ) (xs : List ℕ) (c : ℕ) → ((k : ℕ) → slice_get (filter test xs) k ≡ Some c → StandsAt test xs c)
    → (b : Bool) → test x ≡ b → (i : ℕ) → slice_get (cond b (x ∷ filter test xs) (filter test xs)) i ≡ Some c → StandsAt test (x ∷ xs) c
first_or_rest test x xs c rest true e zero is = record { at = 0; there = is; passes = ap test (sym (same_some x c is)) ∙ e }
first_or_rest test x xs c rest true e (suc k) is = let w = rest k is in record { at = suc w.at; there = w.there; passes = w.passes }
first_or_rest test x xs c rest false e i is = let w = rest i is in record { at = suc w.at; there = w.there; passes = w.passes }

stands : (test : ℕ → Bool) (xs : List ℕ) (i c : ℕ) → slice_get (filter test xs) i ≡ Some c → StandsAt test xs c
stands test [] i c there = absurd (cc)
stands test (x ∷ xs) i c there = first_or_rest test x xs c (λ k is. stands test xs k c is) (test x) refl i there

once_of_rest : (x : ℕ) (xs : List ℕ) → Once (x ∷ xs) → Once xs
once_of_rest x xs once i j c a b = let e = once (suc i) (suc j) c a b in omega (arith, e)

-- none stands twice among those that pass, where none does in the rest and the first isn't there
once_more : (x : ℕ) (ys : List ℕ) → Once ys → ((k : ℕ) → slice_get ys k ≡ Some x → ⊥) → Once (x ∷ ys)
once_more x ys rest first zero zero c a b = refl
once_more x ys rest first zero (suc j) c a b = absurd (first j (b ∙ sym a))
once_more x ys rest first (suc i) zero c a b = absurd (first i (a ∙ sym b))
once_more x ys rest first (suc i) (suc j) c a b = ap suc (rest i j c a b)

once_if : (x : ℕ) (ys : List ℕ) (b : Bool) → Once ys → ((k : ℕ) → slice_get ys k ≡ Some x → ⊥) → Once (cond b (x ∷ ys) ys)
once_if x ys true rest first = once_more x ys rest first
once_if x ys false rest first = rest

filter_once : (test : ℕ → Bool) (xs : List ℕ) → Once xs → Once (filter test xs)
filter_once test [] once = once
filter_once test (x ∷ xs) once =
    once_if x (filter test xs) (test x) (filter_once test xs (once_of_rest x xs once))
    (λ k there. let w = stands test xs k x there in let e = once 0 (suc w.at) x refl w.there in omega (arith, e))

pub missing_takers_leave_messages : MissingTakersLeaveMessages
missing_takers_leave_messages p sides steps order wrong run =
    let fewer = no_more (length firsts) (length sides.takers.items) (Goes e firsts sides.takers.items) to
    (λ i j k l m v w. go_once e firsts sides.takers.items (filter_once (is_matched e) sides.sends.items wrong.are.sends.once) i j k v w) in
    omega (arith, fewer, length-filter_both (is_matched e) (is_unmatched e) (λ (x : ℕ). refl) sides.sends.items, length-filter (is_unmatched e) sides.sends.items)
  where
    e : Configuration
    e = after_all (opening p) steps

    firsts : List ℕ
    firsts = filter (is_matched e) sides.sends.items

    to : (i : ℕ) → i < length firsts → (k : ℕ) × (k < length sides.takers.items) × Goes e firsts sides.takers.items i k
    to i below =
        let s = get_or firsts i 0 in
        let at : slice_get firsts i ≡ Some s = slice_get-get_or firsts i 0 below in
        let stood = stands (is_matched e) sides.sends.items i s at in
        let of = wrong.are.sends.sound stood.at s stood.there in
        let t = taken_there p e wrong.channel s (kept_run p steps order run) of.0 of.1 stood.passes in
        let there = wrong.are.takers.all t.taker (t.own, t.takes) in
        (there.0, slice_get_within sides.takers.items there.0 t.taker there.1, record { first = s; second = t.taker; at_first = at; at_second = there.1; partner = t.back })
