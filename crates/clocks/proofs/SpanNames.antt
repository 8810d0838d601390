-- Names of spans, and that spans are as wide as they may be.
use Rattle.std.proofs.Common.{◌≡◌, ◌≢◌, ◌⊎◌, inl, inr, ℕ, zero, suc, ◌+◌, ◌<◌, ◌≤◌, Bool, true, false, List, [], ◌∷◌, ◌++◌, Option, Some, None, is_some, IsTrue, length, refl, sym, ap, ◌∙◌, subst, arith, get_or, slice_get, slice_set, get_or-set_same, get_or-set_other, length-append}
use Rattle.std.specs.Prelude.{IfNone, IfSome}
use Rattle.std.specs.Option.{unwrap_or}
use Rattle.std.proofs.lemmas.Bool.{cases_lt}
use Rattle.std.proofs.lemmas.Option.{same_Some}
use Rattle.callorder.specs.declared.calls.Call.{Call}
use Rattle.callorder.specs.declared.calls.Kind.{Kind}
use Rattle.callorder.specs.declared.calls.Kind.TheVariants.{Send, Receive, MatchedProbe, Probe, MatchedReceive, Wait}
use Rattle.callorder.specs.declared.calls.Pattern.{Pattern}
use Rattle.callorder.specs.Calls.{both_hold, fits, fits_between, is_probe_kind, message_of, pattern_of, receive_of}
use Rattle.callorder.specs.Programs.{MpiProgram, are_fit, are_of_one_rank, call_at, is_probe, kind_holds}
use Rattle.semantics.specs.Machine.{Configuration, partner_of}
use Rattle.races.specs.Blocks.{Blocks, IsPrompt, is_finder, is_finder_call}
use Rattle.races.proofs.Steps.{one_rank, one_rank_back, one_rank_made}
use Rattle.clocks.specs.Spans.{AreSpans, AreWidest, FetchesAtOnce, FetchesAtOnceCall, HaveOneSender, IsJoined, IsMember, IsNamed, IsReceivedAtOnce, IsStretch, MayBegin, MayFollow, WaitsFrom, WaitsWithin, pattern_at, pattern_of_call, returns_at_once}
use Rattle.clocks.specs.parts.Clocks.{block_of}
use Rattle.clocks.specs.parts.Spans.{AreNamedUpTo, AreNamedWith, IsClosed, IsLonger, IsOfSender, IsOpen, IsOpenSpan, IsWithin, first_sender, start_of}
use Rattle.clocks.specs.declared.spans.Span.{Span}
use Rattle.clocks.proofs.Members.{returned_at_once}

-- ---- lists of names

unwrap_get : (xs : List ℕ) (c d : ℕ) → unwrap_or (slice_get xs c) d ≡ get_or xs c d
unwrap_get [] zero d = refl
unwrap_get [] (suc c) d = refl
unwrap_get (x ∷ xs) zero d = refl
unwrap_get (x ∷ xs) (suc c) d = unwrap_get xs c d

pub block_set_here : (names : List ℕ) (i x : ℕ) → i < length names → block_of (slice_set names i x) i ≡ x
block_set_here names i x within = unwrap_get (slice_set names i x) i i ∙ get_or-set_same names i x i within

pub block_set_other : (names : List ℕ) (i x c : ℕ) → c ≢ i → block_of (slice_set names i x) c ≡ block_of names c
block_set_other names i x c other = unwrap_get (slice_set names i x) c c ∙ get_or-set_other names i c x c other ∙ sym (unwrap_get names c c)

push_get : (xs : List ℕ) (x c d : ℕ) → (c ≡ length xs → d ≡ x) → unwrap_or (slice_get (xs ++ x ∷ []) c) d ≡ unwrap_or (slice_get xs c) d
push_get [] x zero d same = sym (same refl)
push_get [] x (suc c) d same = refl
push_get (y ∷ xs) x zero d same = refl
push_get (y ∷ xs) x (suc c) d same = push_get xs x c d (λ e. same (ap suc e))

-- a call whose own name is added has that name before
pub block_push : (names : List ℕ) (place : ℕ) → length names ≡ place → (c : ℕ) → block_of (names ++ place ∷ []) c ≡ block_of names c
block_push names place count c = push_get names place c c (λ e. e ∙ count)

-- ---- calls of spans

same_call : (o : Option Call) (x y : Call) → o ≡ Some x → o ≡ Some y → x ≡ y
same_call o x y a b = cc (a, b)

-- the two are equal, or the first is less
equal_or_less : (a b : ℕ) → a ≤ b → (a ≡ b) ⊎ (a < b)
equal_or_less a b upto = elim (cases_lt a b) [
  | inl less ↦ inr less
  | inr ge ↦ inl (omega (arith, ge, upto))
]

one_through : (p : MpiProgram) (a b c : ℕ) → are_of_one_rank p a b ≡ true → are_of_one_rank p b c ≡ true → are_of_one_rank p a c ≡ true
one_through p a b c one two =
    let v = one_rank p a b one in
    let w = one_rank p b c two in
    one_rank_made p a c v.0 w.1 v.2 w.3 (v.4 ∙ ap (λ (z : Call). z.rank) (same_call (call_at p b) v.1 w.0 v.3 w.2) ∙ w.4)

finder_of : (o : Option Call) (q : Pattern) → pattern_of_call o ≡ Some q → is_finder_call o ≡ true
finder_of None q is = let never : ⊥ = cc in absurd never
finder_of (Some call) q is = ap is_some is

pub begins_finds : (p : MpiProgram) (c : ℕ) → MayBegin p c → is_finder p c ≡ true
begins_finds p c begins = finder_of (call_at p c) begins.0 begins.1

one_self : (p : MpiProgram) (c : ℕ) → FetchesAtOnce p c → are_of_one_rank p c c ≡ true
one_self p c fetches = one_rank_made p c c fetches.0 fetches.0 fetches.1 fetches.1 refl

receive_is : (o : Option Call) (call other : Call) (k : Kind ℕ) (r : ℕ) → o ≡ Some call → o ≡ Some other → call.kind ≡ k → receive_of other.kind ≡ Some r → receive_of k ≡ Some r
receive_is o call other k r there here is opens = sym (ap receive_of is) ∙ ap (λ (c : Call). receive_of c.kind) (same_call o call other there here) ∙ opens

no_receive : {X : Type 0} (r : ℕ) → None ≡ Some r → X
no_receive r is = let never : ⊥ = cc in absurd never

prompt_kind : (p : MpiProgram) (c : ℕ) (call : Call) (k : Kind ℕ) → call_at p c ≡ Some call → call.kind ≡ k → FetchesAtOnceCall p c k → IsPrompt p c
prompt_kind p c call (Send mode blocking message) there is fetches = absurd fetches
prompt_kind p c call (Receive blocking pattern) there is fetches =
    let none : (other : Call) (r : ℕ) → call_at p c ≡ Some other → receive_of other.kind ≡ Some r → None ≡ Some r
    = λ other r here opens. receive_is (call_at p c) call other (Receive blocking pattern) r there here is opens in
    record {
      taker = ap (kind_holds is_probe_kind) there ∙ ap is_probe_kind is;
      behind = λ other r here opens. no_receive r (none other r here opens);
      returned = λ other r d m here opens low high matched. no_receive r (none other r here opens);
    }
prompt_kind p c call (MatchedProbe pattern receive) there is fetches =
    let same : (other : Call) (r : ℕ) → call_at p c ≡ Some other → receive_of other.kind ≡ Some r → receive ≡ r
    = λ other r here opens. same_Some _ _ (receive_is (call_at p c) call other (MatchedProbe pattern receive) r there here is opens) in
    record {
      taker = ap (kind_holds is_probe_kind) there ∙ ap is_probe_kind is;
      behind = λ other r here opens. subst (λ (x : ℕ). (c < x) × (are_of_one_rank p c x ≡ true)) (same other r here opens) (fetches.behind, fetches.one);
      returned = λ other r d m here opens low high matched. returned_at_once p m d (fetches.between d low (let e = same other r here opens in omega (arith, high, e)));
    }
prompt_kind p c call (Probe pattern) there is fetches = absurd fetches
prompt_kind p c call (MatchedReceive blocking) there is fetches = absurd fetches
prompt_kind p c call (Wait operation) there is fetches = absurd fetches

prompt_of : (p : MpiProgram) (c : ℕ) → FetchesAtOnce p c → IsPrompt p c
prompt_of p c fetches = prompt_kind p c fetches.0 fetches.0.kind fetches.1 refl fetches.2

fits_same : (o : Option Call) (a b : Call) → a.rank ≡ b.rank → pattern_of a.kind ≡ pattern_of b.kind → both_hold fits o (Some a) ≡ both_hold fits o (Some b)
fits_same None a b ranks patterns = refl
fits_same (Some x) a b ranks patterns =
    ap (λ (n : ℕ). fits_between x.rank (message_of x.kind) n (pattern_of a.kind)) ranks
    ∙ ap (λ (w : Option Pattern). fits_between x.rank (message_of x.kind) b.rank w) patterns

-- the same messages fit two of one rank that find the same
fits_alike : (p : MpiProgram) (one other : ℕ) → are_of_one_rank p one other ≡ true → pattern_at p one ≡ pattern_at p other → (s : ℕ) → are_fit p s one ≡ are_fit p s other
fits_alike p one other ranks patterns s =
    let w = one_rank p one other ranks in
    let same : pattern_of w.0.kind ≡ pattern_of w.1.kind = sym (ap pattern_of_call w.2) ∙ patterns ∙ ap pattern_of_call w.3 in
    ap (both_hold fits (call_at p s)) w.2 ∙ fits_same (call_at p s) w.0 w.1 w.4 same ∙ sym (ap (both_hold fits (call_at p s)) w.3)

-- what may follow one call of a span may follow its first one
follow_from : (p : MpiProgram) (first f c : ℕ) → first ≤ f → are_of_one_rank p first f ≡ true → pattern_at p first ≡ pattern_at p f → MayFollow p f c → MayFollow p first c
follow_from p first f c upto one same follow = record {
  one = one_through p first f c one follow.one;
  finds = λ finder. let w = follow.finds finder in (w.0, same ∙ w.1);
  other = λ none. elim (follow.other none) [
    | inl once ↦ inl once
    | inr w ↦ inr (record { receive = w.receive; wait = w.wait; from = let e = w.from in omega (arith, e, upto); before = w.before })
  ];
}

-- ---- growing spans

module _ (p : MpiProgram) (e : Configuration) where
  -- the first call of a growing span and another one that finds are alike
  like_first : (place : ℕ) (span : Span) → IsOpenSpan p e place span → (f : ℕ) → span.first ≤ f → f < place → is_finder p f ≡ true
      → (are_of_one_rank p span.first f ≡ true) × (pattern_at p span.first ≡ pattern_at p f)
  like_first place span grows f upto below finder = elim (equal_or_less span.first f upto) [
    | inl same ↦ subst (λ (x : ℕ). (are_of_one_rank p span.first x ≡ true) × (pattern_at p span.first ≡ pattern_at p x)) same (one_self p span.first grows.begins.3, refl)
    | inr less ↦ let w = grows.follow f less below in (w.one, (w.finds finder).1)
  ]

  pub begun_span : (c : ℕ) (sender : Option ℕ) → sender ≡ partner_of e c → MayBegin p c → IsOpenSpan p e (c + 1) (record { first = c; last = c; sender = sender; mixed = false })
  begun_span c sender is begins = record {
    begins = begins;
    up = omega arith;
    within = omega arith;
    follow = λ d low high. absurd (omega (arith, low, high));
    finds = begins_finds p c begins;
    last = λ d high finder from. omega (arith, high);
    sender = λ unmixed d x from high finder found.
        let at : d ≡ c = omega (arith, from, high) in
        subst (λ (s : Option ℕ). IsOfSender p s x) (sym (is ∙ ap (partner_of e) (sym at) ∙ found)) (inl refl);
  }

  pub grown_span : (c : ℕ) (span : Span) → IsOpenSpan p e c span → MayFollow p span.first c → is_finder p c ≡ false → IsOpenSpan p e (c + 1) span
  grown_span c span grows follow none = record {
    begins = grows.begins;
    up = grows.up;
    within = let w = grows.within in omega (arith, w);
    follow = λ d low high. elim (equal_or_less d c (omega (arith, high))) [
      | inl at ↦ subst (MayFollow p span.first) (sym at) follow
      | inr below ↦ grows.follow d low below
    ];
    finds = grows.finds;
    last = λ d high finder from. elim (equal_or_less d c (omega (arith, high))) [
      | inl at ↦ let never : true ≡ false = sym finder ∙ ap (is_finder p) at ∙ none in let absurdity : ⊥ = cc in absurd absurdity
      | inr below ↦ grows.last d below finder from
    ];
    sender = λ unmixed d x from high finder found. elim (equal_or_less d c (omega (arith, high))) [
      | inl at ↦ let never : true ≡ false = sym finder ∙ ap (is_finder p) at ∙ none in let absurdity : ⊥ = cc in absurd absurdity
      | inr below ↦ grows.sender unmixed d x from below finder found
    ];
  }

  still_of : (sender found : Option ℕ) (x : ℕ) → IsOfSender p sender x → IsOfSender p (first_sender sender found) x
  still_of None found x is = absurd is
  still_of (Some send) found x is = is

  now_of : (sender found : Option ℕ) (x : ℕ) → found ≡ Some x → ((a b : ℕ) → sender ≡ Some a → found ≡ Some b → are_of_one_rank p a b ≡ true) → IsOfSender p (first_sender sender found) x
  now_of None found x is one = subst (λ (s : Option ℕ). IsOfSender p s x) (sym is) (inl refl)
  now_of (Some send) found x is one = inr (one send x refl is)

  pub longer_span : (c : ℕ) (span next : Span) (found : Option ℕ) → IsOpenSpan p e c span → MayFollow p span.first c → is_finder p c ≡ true → found ≡ partner_of e c
      → IsLonger p span next found c → IsOpenSpan p e (c + 1) next
  longer_span c span next found grows follow finds is longer = record {
    begins = subst (MayBegin p) (sym longer.first) grows.begins;
    up = let w = grows.within in let v = grows.up in omega (arith, v, w, longer.first, longer.last);
    within = omega (arith, longer.last);
    follow = λ d low high. subst (λ (x : ℕ). MayFollow p x d) (sym longer.first) (elim (equal_or_less d c (omega (arith, high))) [
      | inl at ↦ subst (MayFollow p span.first) (sym at) follow
      | inr below ↦ grows.follow d (omega (arith, low, longer.first)) below
    ]);
    finds = subst (λ (x : ℕ). is_finder p x ≡ true) (sym longer.last) finds;
    last = λ d high finder from. omega (arith, high, longer.last);
    sender = λ unmixed d x from high finder has.
        let parts = longer.mixed unmixed in
        subst (λ (s : Option ℕ). IsOfSender p s x) (sym longer.sender) (elim (equal_or_less d c (omega (arith, high))) [
          | inl at ↦ now_of span.sender found x (is ∙ ap (partner_of e) (sym at) ∙ has) parts.1
          | inr below ↦ still_of span.sender found x (grows.sender parts.0 d x (omega (arith, from, longer.first)) below finder has)
        ]);
  }

  of_one : (sender : Option ℕ) (a b : ℕ) → IsOfSender p sender a → IsOfSender p sender b → (a ≡ b) ⊎ (are_of_one_rank p a b ≡ true)
  of_one None a b one other = absurd one
  of_one (Some s) a b (inl one) (inl other) = inl (one ∙ sym other)
  of_one (Some s) a b (inl one) (inr other) = inr (subst (λ (x : ℕ). are_of_one_rank p x b ≡ true) (sym one) other)
  of_one (Some s) a b (inr one) (inl other) = inr (subst (λ (x : ℕ). are_of_one_rank p a x ≡ true) (sym other) (one_rank_back p s a one))
  of_one (Some s) a b (inr one) (inr other) = inr (one_through p a s b (one_rank_back p s a one) other)

-- ---- names that stay

module _ (p : MpiProgram) (b b' : Blocks) where
  member_kept : (c : ℕ) → ((d : ℕ) → d ≤ c → b' d ≡ b d) → IsMember p b c → IsMember p b' c
  member_kept c same member = record {
    prompt = member.prompt;
    alike = λ finder s. member.alike finder s ∙ ap (are_fit p s) (sym (same c (omega arith)));
    returns = elim member.returns [
      | inl finder ↦ inl finder
      | inr (inl once) ↦ inr (inl once)
      | inr (inr w) ↦ inr (inr (record {
        receive = w.receive;
        wait = w.wait;
        before = w.before;
        within = same w.receive (let e = w.before in omega (arith, e)) ∙ w.within ∙ sym (same c (omega arith));
      }))
    ];
  }

  pub named_kept : (c : ℕ) → ((d : ℕ) → d ≤ c + 1 → b' d ≡ b d) → IsNamed p b c → IsNamed p b' c
  named_kept c same (inl (joined, name)) =
      inl (
        record { one = joined.one; here = member_kept c (λ d upto. same d (omega (arith, upto))) joined.here; next = member_kept (suc c) (λ d upto. same d (omega (arith, upto))) joined.next },
        same (suc c) (omega arith) ∙ name ∙ sym (same c (omega arith)),
      )
  named_kept c same (inr name) = inr (same (suc c) (omega arith) ∙ name)

-- ---- closed spans

-- names of the spans of the calls before this place, all of which have ended
pub record AreEnded (p : MpiProgram) (e : Configuration) (place : ℕ) (names : List ℕ) : Type 0 where
  pub first : block_of names 0 ≡ 0
  pub named : (c : ℕ) → IsNamed p (block_of names) c
  pub own : (c : ℕ) → place ≤ c → block_of names c ≡ c
  pub done : (f g : ℕ) → g < place → IsStretch p f g → (block_of names f ≡ block_of names g) ⊎ HaveOneSender p e f g

module _ (p : MpiProgram) (e : Configuration) (place : ℕ) (old new : List ℕ) where
  -- names that are as they were
  kept : (growing : Option Span) → AreNamedUpTo p e place old growing → ((c : ℕ) → block_of new c ≡ block_of old c)
      → ((f g : ℕ) → start_of growing place ≤ g → g < place → IsStretch p f g → HaveOneSender p e f g) → AreEnded p e place new
  kept growing are same one = record {
    first = same 0 ∙ are.first;
    named = λ c. named_kept p (block_of old) (block_of new) c (λ d upto. same d) (are.named c);
    own = λ c from. same c ∙ are.own c (let w = are.before in omega (arith, w, from));
    done = λ f g below stretch. elim (cases_lt g (start_of growing place)) [
      | inl before ↦ elim (are.done f g before stretch) [
        | inl name ↦ inl (same f ∙ name ∙ sym (same g))
        | inr sender ↦ inr sender
      ]
      | inr from ↦ inr (one f g from below stretch)
    ];
  }

  -- the calls of a span have its first one's name
  module _ (span : Span) (grows : IsOpenSpan p e place span) (inner : (c : ℕ) → span.first < c → c ≤ span.last → block_of new c ≡ span.first)
      (outer : (c : ℕ) → (span.first < c → c ≤ span.last → ⊥) → block_of new c ≡ block_of old c) (own : (c : ℕ) → span.first ≤ c → block_of old c ≡ c) where
    in_span : (c : ℕ) → span.first ≤ c → c ≤ span.last → block_of new c ≡ span.first
    in_span c from upto = elim (equal_or_less span.first c from) [
      | inl at ↦ outer c (λ less upto. omega (arith, at, less)) ∙ own c from ∙ sym at
      | inr less ↦ inner c less upto
    ]

    one_in : (c : ℕ) → span.first ≤ c → c ≤ span.last → are_of_one_rank p span.first c ≡ true
    one_in c from upto = elim (equal_or_less span.first c from) [
      | inl at ↦ subst (λ (x : ℕ). are_of_one_rank p span.first x ≡ true) at (one_self p span.first grows.begins.3)
      | inr less ↦ (grows.follow c less (let w = grows.within in omega (arith, w, upto))).one
    ]

    member_in : (c : ℕ) → span.first ≤ c → c ≤ span.last → IsMember p (block_of new) c
    member_in c from upto = elim (equal_or_less span.first c from) [
      | inl at ↦ subst (IsMember p (block_of new)) at (record {
        prompt = λ finder. prompt_of p span.first grows.begins.3;
        alike = λ finder s. ap (are_fit p s) (sym (in_span span.first (omega arith) (let w = grows.up in omega (arith, w))));
        returns = inl (begins_finds p span.first grows.begins);
      })
      | inr less ↦
          let follow = grows.follow c less (let w = grows.within in omega (arith, w, upto)) in
          record {
            prompt = λ finder. prompt_of p c (follow.finds finder).0;
            alike = λ finder s. sym (fits_alike p span.first c follow.one (follow.finds finder).1 s) ∙ ap (are_fit p s) (sym (in_span c from upto));
            returns = returned (is_finder p c) refl follow;
          }
    ]
      where
        returned : (finds : Bool) → is_finder p c ≡ finds → MayFollow p span.first c → (is_finder p c ≡ true) ⊎ ((returns_at_once p c ≡ true) ⊎ WaitsWithin p (block_of new) c)
        returned true is follow = inl is
        returned false is follow = inr (elim (follow.other is) [
          | inl once ↦ inl once
          | inr w ↦ inr (record {
            receive = w.receive;
            wait = w.wait;
            before = w.before;
            within = in_span w.receive w.from (let v = w.before in omega (arith, v, upto)) ∙ sym (in_span c from upto);
          })
        ])

    named_in : ((c : ℕ) → IsNamed p (block_of old) c) → (c : ℕ) → IsNamed p (block_of new) c
    named_in named c = elim (cases_lt c span.first) [
      | inl below ↦ named_kept p (block_of old) (block_of new) c (λ d upto. outer d (λ less high. omega (arith, upto, below, less))) (named c)
      | inr from ↦ elim (cases_lt c span.last) [
        | inl within ↦ inl (
          record {
            one = one_through p c span.first (suc c) (one_rank_back p span.first c (one_in c from (omega (arith, within)))) (one_in (suc c) (omega (arith, from)) (omega (arith, within)));
            here = member_in c from (omega (arith, within));
            next = member_in (suc c) (omega (arith, from)) (omega (arith, within));
          },
          in_span (suc c) (omega (arith, from)) (omega (arith, within)) ∙ sym (in_span c from (omega (arith, within))),
        )
        | inr past ↦ inr (outer (suc c) (λ less high. omega (arith, past, high)) ∙ own (suc c) (omega (arith, from)))
      ]
    ]

  -- names behind a span that has ended
  pub closed : (growing : Option Span) → AreNamedUpTo p e place old growing → IsClosed growing (block_of old) (block_of new) → AreEnded p e place new
  closed None are is = kept None are (λ c. is.other c (λ span some. let never : ⊥ = cc in absurd never)) (λ f g from below stretch. absurd (omega (arith, from, below)))
  closed (Some span) are is = by span.mixed refl
    where
      one_sender : span.mixed ≡ false → (f g : ℕ) → span.first ≤ g → g < place → IsStretch p f g → HaveOneSender p e f g
      one_sender unmixed f g from below stretch a b found other = elim (cases_lt f span.first) [
        | inl before ↦ absurd (are.left f g before from stretch)
        | inr upto ↦
            let up = stretch.up in
            of_one p e span.sender a b (are.span.sender unmixed f a upto (omega (arith, up, below)) (begins_finds p f stretch.begins) found)
            (are.span.sender unmixed g b from below stretch.finds other)
      ]

      by : (mixed : Bool) → span.mixed ≡ mixed → AreEnded p e place new
      by false unmixed = kept (Some span) are (λ c. is.other c (λ s some mixed less upto. let same : span.mixed ≡ true = ap (λ (x : Span). x.mixed) (same_Some _ _ some) ∙ mixed in let never : ⊥ = cc (same, unmixed) in absurd never))
          (one_sender unmixed)
      by true mixed =
          let inner : (c : ℕ) → span.first < c → c ≤ span.last → block_of new c ≡ span.first = is.inner span refl mixed in
          let outer : (c : ℕ) → (span.first < c → c ≤ span.last → ⊥) → block_of new c ≡ block_of old c
          = λ c out. is.other c (λ s some other less upto.
          let same = same_Some _ _ some in
          out (let at : span.first ≡ s.first = ap (λ (x : Span). x.first) same in omega (arith, at, less)) (let at : span.last ≡ s.last = ap (λ (x : Span). x.last) same in omega (arith, at, upto))) in
          let grows = are.span in
          record {
            first = outer 0 (λ less upto. omega (arith, less)) ∙ are.first;
            named = named_in span grows inner outer are.own are.named;
            own = λ c from. outer c (λ less upto. let w = grows.within in omega (arith, w, from, upto)) ∙ are.own c (let w = grows.within in let v = grows.up in omega (arith, v, w, from));
            done = λ f g below stretch. elim (cases_lt g span.first) [
              | inl before ↦
                  let up = stretch.up in
                  elim (are.done f g before stretch) [
                    | inl name ↦ inl (outer f (λ less upto. omega (arith, up, before, less)) ∙ name ∙ sym (outer g (λ less upto. omega (arith, before, less))))
                    | inr sender ↦ inr sender
                  ]
              | inr from ↦ elim (cases_lt f span.first) [
                | inl before ↦ absurd (are.left f g before from stretch)
                | inr upto ↦
                    let up = stretch.up in
                    let high = grows.last g below stretch.finds from in
                    inl (in_span span grows inner outer are.own f upto (omega (arith, up, high)) ∙ sym (in_span span grows inner outer are.own g from high))
              ]
            ];
          }

-- ---- one more call

module _ (p : MpiProgram) (e : Configuration) (place : ℕ) where
  -- no span that may begin before the place reaches so far, where the growing one doesn't
  pub none_reach : (old : List ℕ) (growing : Option Span) → AreNamedUpTo p e place old growing → ((span : Span) → growing ≡ Some span → MayFollow p span.first place → ⊥)
      → (f g : ℕ) → f < place → place ≤ g → IsStretch p f g → ⊥
  none_reach old None are stays f g below from stretch = are.left f g below from stretch
  none_reach old (Some span) are stays f g below from stretch = elim (cases_lt f span.first) [
    | inl before ↦ are.left f g before (let w = are.before in omega (arith, w, from)) stretch
    | inr upto ↦
        let like = like_first p e place span are.span f upto below (begins_finds p f stretch.begins) in
        stays span refl (follow_from p span.first f place upto like.0 like.1 (stretch.follow place below from))
  ]

  -- the growing span goes on
  pub goes_on : (old : List ℕ) (span next : Span) → AreNamedUpTo p e place old (Some span) → IsOpenSpan p e (place + 1) next → next.first ≡ span.first
      → AreNamedUpTo p e (place + 1) (old ++ place ∷ []) (Some next)
  goes_on old span next are grows at =
      let same = block_push old place are.count in
      record {
        count = length_push old place are.count;
        first = same 0 ∙ are.first;
        named = λ c. named_kept p (block_of old) (block_of (old ++ place ∷ [])) c (λ d upto. same d) (are.named c);
        span = grows;
        before = let w = are.before in omega (arith, w, at);
        own = λ c from. same c ∙ are.own c (omega (arith, from, at));
        left = λ f g below from stretch. are.left f g (omega (arith, below, at)) (omega (arith, from, at)) stretch;
        done = λ f g below stretch. elim (are.done f g (omega (arith, below, at)) stretch) [
          | inl name ↦ inl (same f ∙ name ∙ sym (same g))
          | inr sender ↦ inr sender
        ];
      }
    where
      length_push : (xs : List ℕ) (x : ℕ) → length xs ≡ x → length (xs ++ x ∷ []) ≡ x + 1
      length_push xs x is = omega (arith, is, length-append xs (x ∷ []))

  -- another one begins, or none
  pub begins_anew : (new : List ℕ) (next : Option Span) → AreEnded p e place new → length new ≡ place + 1 → ((f g : ℕ) → f < place → place ≤ g → IsStretch p f g → ⊥)
      → IsOpen p e (place + 1) next → ((span : Span) → next ≡ Some span → span.first ≡ place) → (next ≡ None → MayBegin p place → ⊥) → AreNamedUpTo p e (place + 1) new next
  begins_anew new None ended count reach opens at none = record {
    count = count;
    first = ended.first;
    named = ended.named;
    span = tt;
    before = omega arith;
    own = λ c from. ended.own c (omega (arith, from));
    left = λ f g below from stretch. elim (equal_or_less f place (omega (arith, below))) [
      | inl same ↦ none refl (subst (MayBegin p) same stretch.begins)
      | inr before ↦ reach f g before (omega (arith, from)) stretch
    ];
    done = λ f g below stretch. elim (equal_or_less g place (omega (arith, below))) [
      | inl same ↦ let up = stretch.up in absurd (reach f g (omega (arith, up, same)) (omega (arith, same)) stretch)
      | inr before ↦ ended.done f g before stretch
    ];
  }
  begins_anew new (Some span) ended count reach opens at none =
      let is = at span refl in
      record {
        count = count;
        first = ended.first;
        named = ended.named;
        span = opens;
        before = omega (arith, is);
        own = λ c from. ended.own c (omega (arith, from, is));
        left = λ f g below from stretch. reach f g (omega (arith, below, is)) (omega (arith, from, is)) stretch;
        done = λ f g below stretch. ended.done f g (omega (arith, below, is)) stretch;
      }

-- names behind the call at the place, where the growing span ends before it
module _ (p : MpiProgram) (e : Configuration) (place : ℕ) where
  length_mid : (old mid : List ℕ) → length old ≡ place → mid ≡ old ++ place ∷ [] → length mid ≡ place + 1
  length_mid old mid count is = omega (arith, ap length is, length-append old (place ∷ []), count)

  anew : (new : List ℕ) (next : Option Span) → AreEnded p e place new → length new ≡ place + 1 → ((f g : ℕ) → f < place → place ≤ g → IsStretch p f g → ⊥)
      → IfSome next (λ span. IsOpenSpan p e (place + 1) span × (span.first ≡ place)) → IfNone next (MayBegin p place → ⊥) → AreNamedUpTo p e (place + 1) new next
  anew new None ended count reach some none = begins_anew p e place new None ended count reach tt (λ span is. let never : ⊥ = cc in absurd never) (λ is. none)
  anew new (Some span) ended count reach some none =
      begins_anew p e place new (Some span) ended count reach some.0 (λ s is. ap (λ (x : Span). x.first) (sym (same_Some _ _ is)) ∙ some.1) (λ is. let never : ⊥ = cc in absurd never)

  pub closed_anew : {mid : List ℕ} {given : Option Span} → (named : AreNamedWith p e place mid given) → (growing : Option Span) → growing ≡ given
      → ((span : Span) → growing ≡ Some span → MayFollow p span.first place → ⊥) → (new : List ℕ) (next : Option Span) → length new ≡ length mid
      → IsClosed growing (block_of mid) (block_of new) → IfSome next (λ span. IsOpenSpan p e (place + 1) span × (span.first ≡ place)) → IfNone next (MayBegin p place → ⊥)
      → AreNamedUpTo p e (place + 1) new next
  closed_anew {mid = mid} named growing is stays new next count closes some none =
      let are : AreNamedUpTo p e place named.old growing = subst (AreNamedUpTo p e place named.old) (sym is) named.are in
      let same : (c : ℕ) → block_of mid c ≡ block_of named.old c = λ c. ap (λ (l : List ℕ). block_of l c) named.is ∙ block_push named.old place are.count c in
      let from_old : IsClosed growing (block_of named.old) (block_of new) = record {
        inner = closes.inner;
        other = λ c out. closes.other c out ∙ same c;
      } in
      anew new next (closed p e place named.old new growing are from_old) (omega (arith, count, length_mid named.old mid are.count named.is)) (none_reach p e place named.old growing are stays) some none

-- no call stands behind the last one, so that no span is wider
pub ended_widest : (p : MpiProgram) (e : Configuration) (place : ℕ) (names : List ℕ) → AreEnded p e place names → ((c : ℕ) → place ≤ c → is_finder p c ≡ false) → AreWidest p e (block_of names)
ended_widest p e place names ended none f g stretch = elim (cases_lt g place) [
  | inl below ↦ ended.done f g below stretch
  | inr from ↦ let never : true ≡ false = sym stretch.finds ∙ none g from in let absurdity : ⊥ = cc in absurd absurdity
]

pub ended_spans : (p : MpiProgram) (e : Configuration) (place : ℕ) (names : List ℕ) → AreEnded p e place names → AreSpans p (block_of names)
ended_spans p e place names ended = record { first = ended.first; next = ended.named }

-- before the first call there is no name
pub none_named : (p : MpiProgram) (e : Configuration) → AreNamedUpTo p e 0 [] None
none_named p e = record {
  count = refl;
  first = refl;
  named = λ c. inr refl;
  span = tt;
  before = omega arith;
  own = λ c from. refl;
  left = λ f g below from stretch. absurd (omega (arith, below));
  done = λ f g below stretch. absurd (omega (arith, below));
}

pub growing_within : (p : MpiProgram) (e : Configuration) (place : ℕ) (names : List ℕ) (growing : Option Span) → AreNamedUpTo p e place names growing → IsWithin (length names) growing
growing_within p e place names None are = tt
growing_within p e place names (Some span) are = (are.span.up, let w = are.span.within in omega (arith, w, are.count))

pub all_spans : (p : MpiProgram) (e : Configuration) (place : ℕ) (old new : List ℕ) (growing : Option Span) → AreNamedUpTo p e place old growing
    → IsClosed growing (block_of old) (block_of new) → AreSpans p (block_of new)
all_spans p e place old new growing are closes = ended_spans p e place new (closed p e place old new growing are closes)

no_call : (calls : List Call) (c : ℕ) → length calls ≤ c → slice_get calls c ≡ None
no_call [] zero past = refl
no_call [] (suc c) past = refl
no_call (call ∷ calls) zero past = absurd (omega (arith, past))
no_call (call ∷ calls) (suc c) past = no_call calls c (omega (arith, past))

pub all_widest : (p : MpiProgram) (e : Configuration) (place : ℕ) (old new : List ℕ) (growing : Option Span) → AreNamedUpTo p e place old growing
    → IsClosed growing (block_of old) (block_of new) → length p.calls ≤ place → AreWidest p e (block_of new)
all_widest p e place old new growing are closes all =
    ended_widest p e place new (closed p e place old new growing are closes) (λ c past. ap is_finder_call (no_call p.calls c (omega (arith, all, past))))
