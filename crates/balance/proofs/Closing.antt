-- A send and a taker of it are of one channel.
use Rattle.std.proofs.Common.{◌≡◌, ℕ, Bool, true, false, ◌&&◌, ◌==◌, if◌then◌else◌, Option, Some, None, is_some, is_none, refl, sym, ap, ◌∙◌}
use Rattle.std.specs.List.{list_any}
use Rattle.std.proofs.lemmas.Bool.{eqb-true, eq-eqb}
use Rattle.std.proofs.lemmas.List.Folds.{list_any_at}
use Rattle.std.proofs.lemmas.Option.{slice_get_within, get_or_from_slice_get}
use Rattle.calltext.proofs.Conjunctions.{and_true, and_both}
use Rattle.callorder.specs.declared.calls.Call.{Call}
use Rattle.callorder.specs.declared.calls.Kind.{Kind}
use Rattle.callorder.specs.declared.calls.Kind.TheVariants.{Send, Receive, MatchedProbe}
use Rattle.callorder.specs.declared.calls.Message.{Message}
use Rattle.callorder.specs.declared.calls.Pattern.{Pattern}
use Rattle.callorder.specs.Calls.{message_of, pattern_of, is_probe_kind, covers, fits_between, both_hold, fits}
use Rattle.callorder.specs.Programs.{MpiProgram, call_at, kind_holds}
use Rattle.races.proofs.Kept.{takes_fit, takes_no_probe}
use Rattle.balance.specs.declared.channels.Channel.{Channel}
use Rattle.balance.specs.Balance.{taken_by, leaves_source_open, takes_any_source_as, takes_any_tag, takes_any_tag_as, channel_to, channel_taken, channel_sent, channel_of, channel_of_call}
use Rattle.balance.specs.Laws.{ChannelsAreClosed}

any_there : (test : Call → Bool) (p : MpiProgram) (c : ℕ) (call : Call) → call_at p c ≡ Some call → test call ≡ true → list_any test p.calls ≡ true
any_there test p c call there on =
    list_any_at test p.calls c call (slice_get_within p.calls c call there) (ap test (get_or_from_slice_get p.calls c call call there) ∙ on)

-- ---- the channel of a taker

pub no_message : (k : Kind ℕ) → is_some (pattern_of k) ≡ true → message_of k ≡ None
no_message (Send mode blocking message) h = absurd (cc)
no_message kind h = refl

-- what is taken has a pattern, and is no probe
pub taker_kind : (k : Kind ℕ) → is_some (if is_probe_kind k then None else pattern_of k) ≡ true → (is_some (pattern_of k) ≡ true) × (is_probe_kind k ≡ false)
taker_kind (Receive blocking pattern) h = (refl, refl)
taker_kind (MatchedProbe pattern receive) h = (refl, refl)
taker_kind kind h = absurd (cc)

taken_is : (call : Call) (pattern : Pattern) → pattern_of call.kind ≡ Some pattern → is_probe_kind call.kind ≡ false → taken_by call ≡ Some pattern
taken_is call pattern is off =
    let none : Option Pattern = None in
    ap (λ (b : Bool). if b then none else pattern_of call.kind) off ∙ is

taker_channel : (p : MpiProgram) (call : Call) (pattern : Pattern) → pattern_of call.kind ≡ Some pattern → taken_by call ≡ Some pattern → channel_of p call ≡ Some (channel_to p call.rank pattern.communicator pattern.source pattern.tag)
taker_channel p call pattern is taken =
    ap (channel_sent p call) (no_message call.kind (ap is_some is)) ∙ ap (channel_taken p call.rank) taken

own_address : (call : Call) (pattern : Pattern) → (call.rank == call.rank && pattern.communicator == pattern.communicator) ≡ true
own_address call pattern =
    and_both (call.rank == call.rank) (pattern.communicator == pattern.communicator) (eq-eqb call.rank call.rank refl) (eq-eqb pattern.communicator pattern.communicator refl)

any_source : (call : Call) (pattern : Pattern) → taken_by call ≡ Some pattern → is_none pattern.source ≡ true → leaves_source_open call.rank pattern.communicator call ≡ true
any_source call pattern taken none =
    ap (takes_any_source_as call.rank pattern.communicator call.rank) taken ∙
    and_both (call.rank == call.rank && pattern.communicator == pattern.communicator) (is_none pattern.source) (own_address call pattern) none

any_tag : (call : Call) (pattern : Pattern) → taken_by call ≡ Some pattern → is_none pattern.tag ≡ true → takes_any_tag call.rank pattern.communicator call ≡ true
any_tag call pattern taken none =
    ap (takes_any_tag_as call.rank pattern.communicator call.rank) taken ∙
    and_both (call.rank == call.rank && pattern.communicator == pattern.communicator) (is_none pattern.tag) (own_address call pattern) none

-- ---- the same channel

closed_part : (left_out : Bool) (wanted : Option ℕ) (number : ℕ) → (is_none wanted ≡ true → left_out ≡ true) → covers wanted number ≡ true → (if left_out then None else Some number) ≡ (if left_out then None else wanted)
closed_part true wanted number any h = refl
closed_part false None number any h = absurd (let e = any refl in cc)
closed_part false (Some wanted) number any h = ap Some (sym (eqb-true wanted number h))

abbrev some_channel : ℕ → ℕ → Option ℕ → Option ℕ → Option Channel
some_channel destination communicator source tag = Some (record { destination = destination; communicator = communicator; source = source; tag = tag })

closed_calls : (p : MpiProgram) (send call : Call) (c : ℕ) (message : Message) (pattern : Pattern) → call_at p c ≡ Some call → pattern_of call.kind ≡ Some pattern → is_probe_kind call.kind ≡ false → fits_between send.rank (Some message) call.rank (Some pattern) ≡ true → channel_sent p send (Some message) ≡ channel_of p call
closed_calls p send call c message pattern there is off fit =
    let tag = and_true (message.destination == call.rank && message.communicator == pattern.communicator && covers pattern.source send.rank) (covers pattern.tag message.tag) fit in
    let source = and_true (message.destination == call.rank && message.communicator == pattern.communicator) (covers pattern.source send.rank) tag.0 in
    let address = and_true (message.destination == call.rank) (message.communicator == pattern.communicator) source.0 in
    let destination : message.destination ≡ call.rank = eqb-true message.destination call.rank address.0 in
    let communicator : message.communicator ≡ pattern.communicator = eqb-true message.communicator pattern.communicator address.1 in
    let taken = taken_is call pattern is off in
    let any_s = list_any (leaves_source_open call.rank pattern.communicator) p.calls in
    let any_t = list_any (takes_any_tag call.rank pattern.communicator) p.calls in
    let sources = closed_part any_s pattern.source send.rank (λ none. any_there (leaves_source_open call.rank pattern.communicator) p c call there (any_source call pattern taken none)) source.1 in
    let tags = closed_part any_t pattern.tag message.tag (λ none. any_there (takes_any_tag call.rank pattern.communicator) p c call there (any_tag call pattern taken none)) tag.1 in
    ap (λ (d : ℕ). Some (channel_to p d message.communicator (Some send.rank) (Some message.tag))) destination ∙
    ap (λ (k : ℕ). Some (channel_to p call.rank k (Some send.rank) (Some message.tag))) communicator ∙
    ap (λ (s : Option ℕ). some_channel call.rank pattern.communicator s (if any_t then None else Some message.tag)) sources ∙
    ap (some_channel call.rank pattern.communicator (if any_s then None else pattern.source)) tags ∙
    sym (taker_channel p call pattern is taken)

pub channels_are_closed : ChannelsAreClosed
channels_are_closed p send taker taken =
    by (call_at p send) (call_at p taker) refl (takes_fit p send taker taken) (takes_no_probe p send taker taken)
  where
    at : (x y : Call) (a : Option Message) (b : Option Pattern) → call_at p taker ≡ Some y → pattern_of y.kind ≡ b → is_probe_kind y.kind ≡ false → fits_between x.rank a y.rank b ≡ true → channel_sent p x a ≡ channel_of p y
    at x y None b there is off fit = absurd (cc)
    at x y (Some a) None there is off fit = absurd (cc)
    at x y (Some a) (Some b) there is off fit = closed_calls p x y taker a b there is off fit

    by : (x y : Option Call) → call_at p taker ≡ y → both_hold fits x y ≡ true → kind_holds is_probe_kind y ≡ false → channel_of_call p x ≡ channel_of_call p y
    by None y there fit off = absurd (cc)
    by (Some x) None there fit off = absurd (cc)
    by (Some x) (Some y) there fit off = at x y (message_of x.kind) (pattern_of y.kind) there refl off fit
