-- How spans grow.
use Rattle.std.specs.Prelude.{◌≡◌, ℕ, ◌+◌, ◌<◌, ◌≤◌, ◌⊎◌, true, false, IsTrue, List, [], ◌∷◌, ◌++◌, Option, Some, None, length}
use Rattle.callorder.specs.Programs.{MpiProgram, are_of_one_rank}
use Rattle.races.specs.Blocks.{Blocks, is_finder}
use Rattle.semantics.specs.Machine.{Configuration, partner_of}
use Rattle.clocks.specs.declared.spans.Span.{Span}
use Rattle.clocks.specs.Spans.{HaveOneSender, IsNamed, IsStretch, MayBegin, MayFollow}
use Rattle.clocks.specs.parts.Clocks.{block_of}

-- the message is that of this send, or of its rank; none is, where there is no send yet
abbrev pub IsOfSender : MpiProgram → Option ℕ → ℕ → Type 0
IsOfSender p None x = ⊥
IsOfSender p (Some send) x = (x ≡ send) ⊎ IsTrue (are_of_one_rank p send x)

-- The span is one of the calls before this place, and may go on.
pub record IsOpenSpan (p : MpiProgram) (e : Configuration) (place : ℕ) (span : Span) : Type 0 where
  pub begins : MayBegin p span.first
  pub up : span.first ≤ span.last
  pub within : span.last < place
  pub follow : (c : ℕ) → span.first < c → c < place → MayFollow p span.first c
  pub finds : IsTrue (is_finder p span.last)
  pub last : (c : ℕ) → c < place → IsTrue (is_finder p c) → span.first ≤ c → c ≤ span.last
  pub sender : span.mixed ≡ false → (c x : ℕ) → span.first ≤ c → c < place → IsTrue (is_finder p c) → partner_of e c ≡ Some x → IsOfSender p span.sender x

abbrev pub IsOpen : MpiProgram → Configuration → ℕ → Option Span → Type 0
IsOpen p e place None = Unit {0}
IsOpen p e place (Some span) = IsOpenSpan p e place span

-- where the span begins that is growing; else this place
abbrev pub start_of : Option Span → ℕ → ℕ
start_of None place = place
start_of (Some span) place = span.first

-- Names of the spans of the calls before this place: none crosses the beginning of the growing one,
-- whose calls have their own names.
pub record AreNamedUpTo (p : MpiProgram) (e : Configuration) (place : ℕ) (names : List ℕ) (growing : Option Span) : Type 0 where
  pub count : length names ≡ place
  pub first : block_of names 0 ≡ 0
  pub named : (c : ℕ) → IsNamed p (block_of names) c
  pub span : IsOpen p e place growing
  pub before : start_of growing place ≤ place
  pub own : (c : ℕ) → start_of growing place ≤ c → block_of names c ≡ c
  pub left : (f g : ℕ) → f < start_of growing place → start_of growing place ≤ g → IsStretch p f g → ⊥
  pub done : (f g : ℕ) → g < start_of growing place → IsStretch p f g → (block_of names f ≡ block_of names g) ⊎ HaveOneSender p e f g

-- The calls of a span of messages of several ranks have its first one's name; other names are as
-- they were.
pub record IsClosed (growing : Option Span) (old new : Blocks) : Type 0 where
  pub inner : (span : Span) → growing ≡ Some span → span.mixed ≡ true → (c : ℕ) → span.first < c → c ≤ span.last → new c ≡ span.first
  pub other : (c : ℕ) → ((span : Span) → growing ≡ Some span → span.mixed ≡ true → span.first < c → c ≤ span.last → ⊥) → new c ≡ old c

-- the span, if there is one, is one of so many calls
abbrev pub IsWithin : ℕ → Option Span → Type 0
IsWithin count None = Unit {0}
IsWithin count (Some span) = (span.first ≤ span.last) × (span.last < count)

-- such names of the calls before this place, and one more for the call there
pub record AreNamedWith (p : MpiProgram) (e : Configuration) (place : ℕ) (names : List ℕ) (growing : Option Span) : Type 0 where
  pub old : List ℕ
  pub are : AreNamedUpTo p e place old growing
  pub is : names ≡ old ++ place ∷ []

-- the first of two sends that is there
abbrev pub first_sender : Option ℕ → Option ℕ → Option ℕ
first_sender None found = found
first_sender (Some send) found = Some send

-- The second span is the first one with the call at this place, which finds this message.
pub record IsLonger (p : MpiProgram) (span next : Span) (found : Option ℕ) (place : ℕ) : Type 0 where
  pub first : next.first ≡ span.first
  pub last : next.last ≡ place
  pub sender : next.sender ≡ first_sender span.sender found
  pub mixed : next.mixed ≡ false → (span.mixed ≡ false) × ((a b : ℕ) → span.sender ≡ Some a → found ≡ Some b → IsTrue (are_of_one_rank p a b))
