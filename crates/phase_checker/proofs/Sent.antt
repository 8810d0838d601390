-- Calls that are sends which a key stands for.
use Rattle.std.proofs.Common.{◌≡◌, ◌⊎◌, ℕ, ◌+◌, ◌<◌, inl, inr, Bool, true, false, if◌then◌else◌, max, ◌||◌, ◌==◌, nat_eq, IsTrue, List, [], Option, Some, None, is_some, length, take, get_or, slice_get, refl, sym, ap, ◌∙◌, subst, arith}
use Rattle.std.specs.List.{list_any}
use Rattle.std.specs.Option.{option_eq}
use Rattle.std.proofs.lemmas.Bool.{eqb-true, eq-eqb}
use Rattle.std.proofs.lemmas.List.Folds.{Any-from_list_any, list_any-from_Any, list_any_more}
use Rattle.std.proofs.lemmas.Option.{get_or_from_slice_get, slice_get_read, slice_get_within}
use Rattle.calltext.proofs.Conjunctions.{and_true, and_both}
use Rattle.callorder.specs.declared.calls.Call.{Call}
use Rattle.callorder.specs.declared.calls.Message.{Message}
use Rattle.callorder.specs.declared.calls.Pattern.{Pattern}
use Rattle.callorder.specs.Calls.{message_of}
use Rattle.callorder.specs.Programs.{MpiProgram}
use Rattle.races.specs.Races.{names_source, NamesSources}
use Rattle.sealing.specs.declared.loose.Loose.{Loose}
use Rattle.sealing.specs.Sealing.{AreLoose, IsLoose, IsLooseSend}
use Rattle.phase_checker.specs.parts.Early.{is_message_of, is_same, is_sent, key_of}

-- ---- equal keys

same_tag : (a b : Option ℕ) → option_eq nat_eq a b ≡ true → a ≡ b
same_tag None None e = refl
same_tag None (Some b) e = absurd (cc)
same_tag (Some a) None e = absurd (cc)
same_tag (Some a) (Some b) e = ap Some (eqb-true a b e)

tag_same : (a : Option ℕ) → option_eq nat_eq a a ≡ true
tag_same None = refl
tag_same (Some a) = eq-eqb a a refl

-- a key of these parts
abbrev parts : ℕ → ℕ → ℕ → Option ℕ → Loose
parts source destination communicator tag = record { source = source; destination = destination; communicator = communicator; tag = tag }

four_parts : (a b : Loose) → a.source ≡ b.source → a.destination ≡ b.destination → a.communicator ≡ b.communicator → a.tag ≡ b.tag → a ≡ b
four_parts a b s d k t =
    ap (λ (z : ℕ). parts z a.destination a.communicator a.tag) s ∙ ap (λ (z : ℕ). parts b.source z a.communicator a.tag) d
    ∙ ap (λ (z : ℕ). parts b.source b.destination z a.tag) k ∙ ap (parts b.source b.destination b.communicator) t

same_key : (a b : Loose) → is_same a b ≡ true → a ≡ b
same_key a b e =
    let source = and_true (a.source == b.source) _ e in
    let destination = and_true (a.destination == b.destination) _ source.1 in
    let communicator = and_true (a.communicator == b.communicator) _ destination.1 in
    four_parts a b (eqb-true _ _ source.0) (eqb-true _ _ destination.0) (eqb-true _ _ communicator.0) (same_tag a.tag b.tag communicator.1)

key_same : (a : Loose) → is_same a a ≡ true
key_same a =
    and_both (a.source == a.source) _ (eq-eqb a.source a.source refl)
    (and_both (a.destination == a.destination) _ (eq-eqb a.destination a.destination refl)
    (and_both (a.communicator == a.communicator) _ (eq-eqb a.communicator a.communicator refl) (tag_same a.tag)))

-- ---- sends

or_true : (a b : Bool) → (a || b) ≡ true → (a ≡ true) ⊎ (b ≡ true)
or_true true b e = inl refl
or_true false b e = inr e

or_left : (a b : Bool) → a ≡ true → (a || b) ≡ true
or_left true b e = refl
or_left false b e = absurd (cc)

or_right : (a b : Bool) → b ≡ true → (a || b) ≡ true
or_right true b e = refl
or_right false b e = e

-- what a send is of which a key is told that it stands for it
record IsMessage (key : Loose) (rank : ℕ) (o : Option Message) : Type 0 where
  message : Message
  is : o ≡ Some message
  source : rank ≡ key.source
  destination : message.destination ≡ key.destination
  communicator : message.communicator ≡ key.communicator
  tag : (key.tag ≡ None) ⊎ (key.tag ≡ Some message.tag)

message_told : (key : Loose) (rank : ℕ) (o : Option Message) → is_message_of key rank o ≡ true → IsMessage key rank o
message_told key rank None e = absurd (cc)
message_told key rank (Some m) e = elim (or_true (is_same (key_of rank m None) key) _ e) [
  | inl any ↦
      let same : key_of rank m None ≡ key = same_key (key_of rank m None) key any in
      record {
        message = m;
        is = refl;
        source = ap (λ (z : Loose). z.source) same;
        destination = ap (λ (z : Loose). z.destination) same;
        communicator = ap (λ (z : Loose). z.communicator) same;
        tag = inl (sym (ap (λ (z : Loose). z.tag) same));
      }
  | inr own ↦
      let same : key_of rank m (Some m.tag) ≡ key = same_key (key_of rank m (Some m.tag)) key own in
      record {
        message = m;
        is = refl;
        source = ap (λ (z : Loose). z.source) same;
        destination = ap (λ (z : Loose). z.destination) same;
        communicator = ap (λ (z : Loose). z.communicator) same;
        tag = inr (sym (ap (λ (z : Loose). z.tag) same));
      }
]

message_is_told : (key : Loose) (rank : ℕ) (m : Message) → rank ≡ key.source → m.destination ≡ key.destination → m.communicator ≡ key.communicator
    → (key.tag ≡ None) ⊎ (key.tag ≡ Some m.tag) → is_message_of key rank (Some m) ≡ true
message_is_told key rank m s d k (inl any) =
    or_left (is_same (key_of rank m None) key) _
    (ap (λ (z : Loose). is_same z key) (four_parts (key_of rank m None) key s d k (sym any)) ∙ key_same key)
message_is_told key rank m s d k (inr own) =
    or_right (is_same (key_of rank m None) key) _
    (ap (λ (z : Loose). is_same z key) (four_parts (key_of rank m (Some m.tag)) key s d k (sym own)) ∙ key_same key)

pub sent_is_loose : (key : Loose) (p : MpiProgram) → list_any (is_sent key) p.calls ≡ true → IsLooseSend key p
sent_is_loose key p e =
    let at = Any-from_list_any (is_sent key) p.calls e in
    let call = at.1 in
    let told = message_told key call.rank (message_of call.kind) at.4 in
    record {
      place = at.0;
      call = call;
      message = told.message;
      there = slice_get_read p.calls (length p.calls) at.0 call refl at.2 (sym at.3);
      sends = told.is;
      source = told.source;
      destination = told.destination;
      communicator = told.communicator;
      tag = told.tag;
    }

pub loose_is_sent : (key : Loose) (p : MpiProgram) → IsLooseSend key p → list_any (is_sent key) p.calls ≡ true
loose_is_sent key p s =
    list_any-from_Any (is_sent key) p.calls (
      s.place,
      s.call,
      slice_get_within p.calls s.place s.call s.there,
      get_or_from_slice_get p.calls s.place s.call s.call s.there,
      ap (is_message_of key s.call.rank) s.sends ∙ message_is_told key s.call.rank s.message s.source s.destination s.communicator s.tag,
    )

-- ---- entries of a table of senders

-- an entry where something is sent at this place, or not
abbrev pub raised : Bool → ℕ → ℕ → ℕ
raised sends old place = if sends then max old place else old

raised_again : (old now new place : ℕ) (a b : Bool) → now ≡ raised a old place → new ≡ raised b now place → new ≡ raised (a || b) old place
raised_again old now new place true true e f = omega (arith, e, f)
raised_again old now new place true false e f = f ∙ e
raised_again old now new place false b e f = f ∙ ap (λ (z : ℕ). raised b z place) e

-- the entry of a key after one more call
pub raised_by_call : (calls : List Call) (index : ℕ) (d : Call) (key : Loose) (old now new place : ℕ) → index < length calls
    → now ≡ raised (list_any (is_sent key) (take index calls)) old place → new ≡ raised (is_sent key (get_or calls index d)) now place
    → new ≡ raised (list_any (is_sent key) (take (index + 1) calls)) old place
raised_by_call calls index d key old now new place within e f =
    raised_again old now new place (list_any (is_sent key) (take index calls)) (is_sent key (get_or calls index d)) e f
    ∙ ap (λ (b : Bool). raised b old place) (sym (list_any_more (is_sent key) calls index d within))

-- ---- phases that name their sources

unnamed : (p : MpiProgram) (entry : Loose) → NamesSources p → IsLoose p entry → ⊥
unnamed p entry names loose =
    let finder = loose.is_finder in
    let names_it = names loose.f loose.finder finder.there in
    let named : IsTrue (is_some loose.pattern.source) = subst (λ (z : Option Pattern). IsTrue (names_source z)) finder.finds names_it in
    let never : IsTrue false = subst (λ (z : Option ℕ). IsTrue (is_some z)) finder.any named in
    cc

-- nothing could be sent too early to a program that names its sources
pub named_has_none : (p : MpiProgram) (list : List Loose) → NamesSources p → list ≡ [] → AreLoose p list
named_has_none p list names none entry = (
  λ (at : (place : ℕ) × (slice_get list place ≡ Some entry)).
      let never : None ≡ Some entry = ap (λ (z : List Loose). slice_get z at.0) (sym none) ∙ at.1 in
      absurd (cc),
  λ (loose : IsLoose p entry). absurd (unnamed p entry names loose),
)
