-- The part that is told is the only one that fails.
use Rattle.std.proofs.Common.{◌≡◌, ◌≢◌, ℕ, Bool, true, false, ◌&&◌, Option, Some, None, refl, sym, subst}
use Rattle.std.proofs.lemmas.Option.{same_Some}
use Rattle.callorder.specs.declared.calls.Message.{Message}
use Rattle.callorder.specs.declared.calls.Pattern.{Pattern}
use Rattle.callorder.specs.Calls.{message_of, pattern_of, fits_between}
use Rattle.waits.specs.declared.parts.Mismatch.{Mismatch}
use Rattle.waits.specs.declared.parts.Mismatch.TheVariants.{Destination, Communicator, Source, Tag}
use Rattle.waits.specs.Misses.{holds_in, only_false, missed_between}
use Rattle.waits.specs.MissLaws.{MissedPartsAreTheOnlyOnes, FitCallsMissNoPart}

-- the test fails at the part, and at no other
record FailsOnlyAt (test : Mismatch → Bool) (part : Mismatch) : Type 0 where
  pub fails : test part ≡ false
  pub others : (other : Mismatch) → other ≢ part → test other ≡ true

at_destination : (test : Mismatch → Bool) → test Destination ≡ false → test Communicator ≡ true → test Source ≡ true → test Tag ≡ true → FailsOnlyAt test Destination
at_destination test first second third fourth = record { fails = first; others = others }
  where
    others : (other : Mismatch) → other ≢ Destination → test other ≡ true
    others Destination differ = absurd (differ refl)
    others Communicator differ = second
    others Source differ = third
    others Tag differ = fourth

at_communicator : (test : Mismatch → Bool) → test Destination ≡ true → test Communicator ≡ false → test Source ≡ true → test Tag ≡ true → FailsOnlyAt test Communicator
at_communicator test first second third fourth = record { fails = second; others = others }
  where
    others : (other : Mismatch) → other ≢ Communicator → test other ≡ true
    others Destination differ = first
    others Communicator differ = absurd (differ refl)
    others Source differ = third
    others Tag differ = fourth

at_source : (test : Mismatch → Bool) → test Destination ≡ true → test Communicator ≡ true → test Source ≡ false → test Tag ≡ true → FailsOnlyAt test Source
at_source test first second third fourth = record { fails = third; others = others }
  where
    others : (other : Mismatch) → other ≢ Source → test other ≡ true
    others Destination differ = first
    others Communicator differ = second
    others Source differ = absurd (differ refl)
    others Tag differ = fourth

at_tag : (test : Mismatch → Bool) → test Destination ≡ true → test Communicator ≡ true → test Source ≡ true → test Tag ≡ false → FailsOnlyAt test Tag
at_tag test first second third fourth = record { fails = fourth; others = others }
  where
    others : (other : Mismatch) → other ≢ Tag → test other ≡ true
    others Destination differ = first
    others Communicator differ = second
    others Source differ = third
    others Tag differ = absurd (differ refl)

told : (test : Mismatch → Bool) (part : Mismatch) (d c s t : Bool) → test Destination ≡ d → test Communicator ≡ c → test Source ≡ s → test Tag ≡ t
    → only_false d c s t ≡ Some part → FailsOnlyAt test part
told test part false true true true first second third fourth e = subst (FailsOnlyAt test) (same_Some _ _ e) (at_destination test first second third fourth)
told test part true false true true first second third fourth e = subst (FailsOnlyAt test) (same_Some _ _ e) (at_communicator test first second third fourth)
told test part true true false true first second third fourth e = subst (FailsOnlyAt test) (same_Some _ _ e) (at_source test first second third fourth)
told test part true true true false first second third fourth e = subst (FailsOnlyAt test) (same_Some _ _ e) (at_tag test first second third fourth)
told test part true true true true first second third fourth e = absurd (cc)
told test part true true false false first second third fourth e = absurd (cc)
told test part true false true false first second third fourth e = absurd (cc)
told test part true false false t first second third fourth e = absurd (cc)
told test part false true true false first second third fourth e = absurd (cc)
told test part false true false t first second third fourth e = absurd (cc)
told test part false false s t first second third fourth e = absurd (cc)

-- parts that differ
communicator_destination : Communicator ≢ Destination
communicator_destination e = absurd (cc)

source_destination : Source ≢ Destination
source_destination e = absurd (cc)

tag_destination : Tag ≢ Destination
tag_destination e = absurd (cc)

source_communicator : Source ≢ Communicator
source_communicator e = absurd (cc)

tag_communicator : Tag ≢ Communicator
tag_communicator e = absurd (cc)

tag_source : Tag ≢ Source
tag_source e = absurd (cc)

turned : (one other : Mismatch) → one ≢ other → other ≢ one
turned one other differ e = differ (sym e)

four : (d c s t d' c' s' t' : Bool) → d ≡ d' → c ≡ c' → s ≡ s' → t ≡ t' → only_false d c s t ≡ only_false d' c' s' t'
four d c s t d' c' s' t' first second third fourth = λ i. only_false (first i) (second i) (third i) (fourth i)

is_told : (test : Mismatch → Bool) (part : Mismatch) → FailsOnlyAt test part → only_false (test Destination) (test Communicator) (test Source) (test Tag) ≡ Some part
is_told test Destination only =
    four _ _ _ _ false true true true only.fails (only.others Communicator communicator_destination) (only.others Source source_destination) (only.others Tag tag_destination)
is_told test Communicator only =
    four _ _ _ _ true false true true (only.others Destination (turned _ _ communicator_destination)) only.fails (only.others Source source_communicator) (only.others Tag tag_communicator)
is_told test Source only =
    four _ _ _ _ true true false true (only.others Destination (turned _ _ source_destination)) (only.others Communicator (turned _ _ source_communicator)) only.fails (only.others Tag tag_source)
is_told test Tag only =
    four _ _ _ _ true true true false (only.others Destination (turned _ _ tag_destination)) (only.others Communicator (turned _ _ tag_communicator)) (only.others Source (turned _ _ tag_source)) only.fails

pub missed_parts_are_the_only_ones : MissedPartsAreTheOnlyOnes
missed_parts_are_the_only_ones part sender message finder pattern = (
  λ e.
      let found = told (λ (x : Mismatch). holds_in x sender message finder pattern) part _ _ _ _ refl refl refl refl e in
      record { fails = found.fails; others = found.others },
  λ only. is_told (λ (x : Mismatch). holds_in x sender message finder pattern) part (record { fails = only.fails; others = only.others }),
)

none_fails : (d c s t : Bool) → (d && c && s && t) ≡ true → only_false d c s t ≡ None
none_fails true true true true all = refl
none_fails true true true false all = absurd (cc)
none_fails true true false t all = absurd (cc)
none_fails true false s t all = absurd (cc)
none_fails false c s t all = absurd (cc)

none_missed : (sender : ℕ) (message : Option Message) (finder : ℕ) (pattern : Option Pattern) → fits_between sender message finder pattern ≡ true → missed_between sender message finder pattern ≡ None
none_missed sender None finder pattern fit = refl
none_missed sender (Some message) finder None fit = refl
none_missed sender (Some message) finder (Some pattern) fit = none_fails _ _ _ _ fit

pub fit_calls_miss_no_part : FitCallsMissNoPart
fit_calls_miss_no_part send finder fit = none_missed send.rank (message_of send.kind) finder.rank (pattern_of finder.kind) fit
