-- Tables that know what another one does, and show more.
use Rattle.std.proofs.Common.{◌≡◌, ℕ, ◌<◌, ◌≤◌, inl, inr, Bool, true, false, ◌+◌, ◌==◌, List, slice_get, Option, Some, None, IfNone, IfSome, IfOk, Ok, Err, Result, refl, sym, ◌∙◌, subst, arith}
use Rattle.std.proofs.lemmas.Bool.{eq-eqb}
use Rattle.std.specs.Option.{unwrap_or}
use Rattle.calltext.proofs.Conjunctions.{and_both, and_true}
use Rattle.callorder.specs.Programs.{MpiProgram}
use Rattle.semantics.specs.Machine.{Configuration, is_issued, partner_of}
use Rattle.races.specs.Blocks.{Blocks}
use Rattle.races.specs.Tells.{Table, IsJustified}
use Rattle.knowledge.specs.Knowledge.{column_table, entry_at, union, with_partners}
use Rattle.knowledge.proofs.Less.{union_justified}
use Rattle.std.specs.declared.alloc.AllocError.{AllocError}
use Rattle.clocks.specs.declared.rows.Count.{Count}
use Rattle.clocks.specs.declared.race.Race.{Race}
use Rattle.clocks.specs.parts.Clocks.{Numbering, AreOrdered, AreTold, IsChecked, IsSingle, level}
use Rattle.clocks.specs.Clocks.{IsNoRace, IsUnordered}
use Rattle.clocks.specs.parts.Exact.{AreOrderedBy, Asked, IsAsked, IsColumn, IsOrdered, IsUnorderedBy, KnowsNoMore, Extends, ShowsFrom}
use Rattle.clocks.specs.parts.Finders.{AreNoRaces, IsLookedAt, IsParting}
use Rattle.clocks.proofs.Counts.{same_some}
use Rattle.clocks.proofs.Levels.{SamePartners, level_justified, or_left, or_right, justified_as}
use Rattle.clocks.proofs.Looks.{AreLookedAt, looked_between, one_more_place, one_more_send}

told_within : (ns : Numbering) (told : List Count) (a b : Table) → KnowsNoMore a b → AreTold ns a told → AreTold ns b told
told_within ns told a b within are c count there number finder from below at = within c finder (are c count there number finder from below at)

pub extends_same : (p : MpiProgram) (e : Configuration) (knows : Table) (S : Table → Type 0) → IsJustified p e knows → S knows → Extends p e knows S
extends_same p e knows S justified shows = record { more = knows; within = λ c f h. h; justified = justified; shows = shows }

pub extends_as : (p : MpiProgram) (e : Configuration) (knows : Table) (S T : Table → Type 0) → ((more : Table) → KnowsNoMore knows more → S more → T more) → Extends p e knows S → Extends p e knows T
extends_as p e knows S T turns w = record { more = w.more; within = w.within; justified = w.justified; shows = turns w.more w.within w.shows }

-- what is shown is shown from each table, and then more from the one that shows it
pub shows_then : (p : MpiProgram) (e : Configuration) (ns : Numbering) (told : List Count) (S T U : Table → Type 0) → ((a b : Table) → KnowsNoMore a b → S a → S b) → ((more : Table) → S more → T more → U more) → ShowsFrom p e ns told S → ShowsFrom p e ns told T → ShowsFrom p e ns told U
shows_then p e ns told S T U keeps both first second knows justified are =
    let a = first knows justified are in
    let b = second a.more a.justified (told_within ns told knows a.more a.within are) in
    record {
      more = b.more;
      within = λ c f h. b.within c f (a.within c f h);
      justified = b.justified;
      shows = both b.more (keeps a.more b.more b.within a.shows) b.shows;
    }

pub shows_as : (p : MpiProgram) (e : Configuration) (ns : Numbering) (told : List Count) (S T : Table → Type 0) → ((more : Table) → AreTold ns more told → S more → T more) → ShowsFrom p e ns told S → ShowsFrom p e ns told T
shows_as p e ns told S T turns shown knows justified are = extends_as p e knows S T (λ more within h. turns more (told_within ns told knows more within are) h) (shown knows justified are)

pub shows_always : (p : MpiProgram) (e : Configuration) (ns : Numbering) (told : List Count) (S : Table → Type 0) → ((knows : Table) → AreTold ns knows told → S knows) → ShowsFrom p e ns told S
shows_always p e ns told S always knows justified are = extends_same p e knows S justified (always knows are)

ordered_extends : (p : MpiProgram) (e : Configuration) (knows : Table) (c f : ℕ) → IsJustified p e knows → IsOrdered p e c f → Extends p e knows (λ more. more c f ≡ true)
ordered_extends p e knows c f justified w =
    record {
      more = union knows w.knows;
      within = λ a b h. or_left (knows a b) (w.knows a b) h;
      justified = union_justified p e knows w.knows justified w.justified;
      shows = or_right (knows c f) (w.knows c f) w.tells;
    }

-- ---- what is shown stays shown

no_race_more : (p : MpiProgram) (block : Blocks) (e : Configuration) (a b : Table) (f own other : ℕ) → KnowsNoMore a b → IsNoRace p block e a f own other → IsNoRace p block e b f own other
no_race_more p block e a b f own other within none fit apart later = within other f (none fit apart later)

pub looked_more : (p : MpiProgram) (block : Blocks) (e : Configuration) (listed : List ℕ) (other low high : ℕ) (a b : Table) → KnowsNoMore a b → AreLookedAt p block e a listed other low high → AreLookedAt p block e b listed other low high
looked_more p block e listed other low high a b within looked i f own from below there found = no_race_more p block e a b f own other within (looked i f own from below there found)

pub checked_more : (p : MpiProgram) (block : Blocks) (e : Configuration) (other : ℕ) (a b : Table) → KnowsNoMore a b → IsChecked p block e a other → IsChecked p block e b other
checked_more p block e other a b within checked issued f own found mine =
    elim (checked issued f own found mine) [
      | inl none ↦ inl (no_race_more p block e a b f own other within none)
      | inr w ↦ inr w
    ]

-- ---- the finder at a place of the list

pub nothing_there : (p : MpiProgram) (block : Blocks) (e : Configuration) (listed : List ℕ) (place other : ℕ) (knows : Table) → slice_get listed place ≡ None → IsLookedAt p block e listed place other knows
nothing_there p block e listed place other knows none f own there found = absurd (cc (none, there))

there_is : (p : MpiProgram) (block : Blocks) (e : Configuration) (listed : List ℕ) (place other finder : ℕ) (knows : Table) → slice_get listed place ≡ Some finder → ((own : ℕ) → partner_of e finder ≡ Some own → IsNoRace p block e knows finder own other) → IsLookedAt p block e listed place other knows
there_is p block e listed place other finder knows there none f own at found =
    subst (λ (z : ℕ). partner_of e z ≡ Some own → IsNoRace p block e knows z own other) (same_some finder f (sym there ∙ at)) (none own) found

pub shown_there : (p : MpiProgram) (block : Blocks) (e sure : Configuration) (ns : Numbering) (told : List Count) (listed : List ℕ) (place other finder : ℕ) → slice_get listed place ≡ Some finder → ((knows : Table) → AreTold ns knows told → (own : ℕ) → partner_of e finder ≡ Some own → IsNoRace p block e knows finder own other) → ShowsFrom p sure ns told (IsLookedAt p block e listed place other)
shown_there p block e sure ns told listed place other finder there none =
    shows_always p sure ns told (IsLookedAt p block e listed place other) (λ knows are. there_is p block e listed place other finder knows there (none knows are))

pub ordered_there : (p : MpiProgram) (block : Blocks) (e sure : Configuration) (ns : Numbering) (told : List Count) (listed : List ℕ) (place other finder : ℕ) → slice_get listed place ≡ Some finder → IsOrdered p sure other finder → ShowsFrom p sure ns told (IsLookedAt p block e listed place other)
ordered_there p block e sure ns told listed place other finder there w knows justified are =
    extends_as p sure knows (λ more. more other finder ≡ true) (IsLookedAt p block e listed place other)
    (λ more within h. there_is p block e listed place other finder more there (λ own found fit apart later. h))
    (ordered_extends p sure knows other finder justified w)

-- ---- loops

pub one_more_shown : (p : MpiProgram) (block : Blocks) (e sure : Configuration) (ns : Numbering) (told : List Count) (listed : List ℕ) (other low n : ℕ) → ShowsFrom p sure ns told (λ more. AreLookedAt p block e more listed other low n) → ShowsFrom p sure ns told (IsLookedAt p block e listed n other) → ShowsFrom p sure ns told (λ more. AreLookedAt p block e more listed other low (n + 1))
one_more_shown p block e sure ns told listed other low n =
    shows_then p sure ns told (λ more. AreLookedAt p block e more listed other low n) (IsLookedAt p block e listed n other) (λ more. AreLookedAt p block e more listed other low (n + 1))
    (looked_more p block e listed other low n) (λ more before here. one_more_place p block e more listed other low n before here)

pub none_shown_yet : (p : MpiProgram) (block : Blocks) (e sure : Configuration) (ns : Numbering) (told : List Count) (listed : List ℕ) (other low : ℕ) → ShowsFrom p sure ns told (λ more. AreLookedAt p block e more listed other low low)
none_shown_yet p block e sure ns told listed other low =
    shows_always p sure ns told (λ more. AreLookedAt p block e more listed other low low) (λ knows are i f own from below there found. absurd (omega (arith, from, below)))

pub one_more_checked : (p : MpiProgram) (block : Blocks) (e sure : Configuration) (ns : Numbering) (told : List Count) (n : ℕ) → ShowsFrom p sure ns told (λ more. (other : ℕ) → other < n → IsChecked p block e more other) → ShowsFrom p sure ns told (λ more. IsChecked p block e more n) → ShowsFrom p sure ns told (λ more. (other : ℕ) → other < n + 1 → IsChecked p block e more other)
one_more_checked p block e sure ns told n =
    shows_then p sure ns told (λ more. (other : ℕ) → other < n → IsChecked p block e more other) (λ more. IsChecked p block e more n) (λ more. (other : ℕ) → other < n + 1 → IsChecked p block e more other)
    (λ a b within h other lt. checked_more p block e other a b within (h other lt)) (λ more before here. one_more_send p block e more n before here)

pub none_checked_yet : (p : MpiProgram) (block : Blocks) (e sure : Configuration) (ns : Numbering) (told : List Count) → ShowsFrom p sure ns told (λ more. (other : ℕ) → other < 0 → IsChecked p block e more other)
none_checked_yet p block e sure ns told =
    shows_always p sure ns told (λ more. (other : ℕ) → other < 0 → IsChecked p block e more other) (λ knows are other below. absurd (omega (arith, below)))

-- of a send that isn't issued nothing is asked
pub unissued_checked : (p : MpiProgram) (block : Blocks) (e sure : Configuration) (ns : Numbering) (told : List Count) (other : ℕ) → is_issued p e other ≡ false → ShowsFrom p sure ns told (λ more. IsChecked p block e more other)
unissued_checked p block e sure ns told other off =
    shows_always p sure ns told (λ more. IsChecked p block e more other) (λ knows are issued f own found mine. absurd (cc (off, issued)))

-- the finders of a list from one call up to another are shown where those of its places are
pub between_shown : (p : MpiProgram) (block : Blocks) (e sure : Configuration) (ns : Numbering) (told : List Count) (listed : List ℕ) (other first end low high n past : ℕ) → IsParting listed first low → IsParting listed end high → high ≤ past → ((knows : Table) → AreTold ns knows told → (i f : ℕ) → low ≤ i → i < n → slice_get listed i ≡ Some f → knows other f ≡ true) → ShowsFrom p sure ns told (λ more. AreLookedAt p block e more listed other n past) → ShowsFrom p sure ns told (AreNoRaces p block e listed first end other)
between_shown p block e sure ns told listed other first end low high n past at_first at_end all known =
    shows_as p sure ns told (λ more. AreLookedAt p block e more listed other n past) (AreNoRaces p block e listed first end other)
    (λ more are looked. looked_between p block e more listed other first end low high n past at_first at_end all (known more are) looked)

-- ---- the same partners

-- a race that is unordered by these partners is so by the same ones
pub unordered_as : (p : MpiProgram) (e d : Configuration) (race : Race) → SamePartners e d → IsUnordered p e race → IsUnordered p d race
unordered_as p e d race same none knows justified = none knows (justified_as p d e knows (λ c. sym (same c)) justified)

-- ---- the column that was asked for

pub asked_now : (p : MpiProgram) (partners seen : List (Option ℕ)) (finder : ℕ) (known : List Bool) → seen ≡ partners → IsJustified p (with_partners seen) (column_table finder known) → ((knows : Table) → IsJustified p (with_partners seen) knows → (c : ℕ) → knows c finder ≡ true → column_table finder known c finder ≡ true) → (f : ℕ) → Some finder ≡ Some f → IsColumn p (with_partners partners) f known
asked_now p partners seen finder known same justified greatest f is =
    subst (λ (z : ℕ). IsColumn p (with_partners partners) z known) (same_some finder f is)
    (subst (λ (z : List (Option ℕ)). IsColumn p (with_partners z) finder known) same (record { justified = justified; greatest = greatest }))

pub ordered_by_level : (p : MpiProgram) (e : Configuration) (asked : List Race) (ordered : List Bool) (n : ℕ) → AreOrdered (level p e n) asked ordered → AreOrderedBy p e asked ordered
ordered_by_level p e asked ordered n are place there =
    let w = are place there in
    record { race = w.race; there = w.there; ordered = record { knows = level p e n; justified = level_justified p e n; tells = w.tells } }

pub told_ordered : (p : MpiProgram) (partners : List (Option ℕ)) (a : Asked) (finder c : ℕ) (r : Bool) → IsAsked p a → a.partners ≡ partners → a.finder ≡ Some finder → r ≡ unwrap_or (slice_get a.known c) false → r ≡ true → IsOrdered p (with_partners partners) c finder
told_ordered p partners a finder c r asked same is told holds =
    subst (λ (z : List (Option ℕ)). IsOrdered p (with_partners z) c finder) same
    (record {
      knows = column_table finder a.known;
      justified = (asked.column finder is).justified;
      tells = and_both (finder == finder) (entry_at a.known c) (eq-eqb finder finder refl) (sym told ∙ holds);
    })

not_true : (b c : Bool) → (b ≡ true → c ≡ true) → c ≡ false → b ≡ false
not_true false c leads fails = refl
not_true true c leads fails = absurd (let holds = leads refl in cc (holds, fails))

pub told_unordered : (p : MpiProgram) (partners : List (Option ℕ)) (a : Asked) (finder c : ℕ) (r : Bool) → IsAsked p a → a.partners ≡ partners → a.finder ≡ Some finder → r ≡ unwrap_or (slice_get a.known c) false → r ≡ false → IsUnorderedBy p (with_partners partners) c finder
told_unordered p partners a finder c r asked same is told fails =
    subst (λ (z : List (Option ℕ)). IsUnorderedBy p (with_partners z) c finder) same
    (λ knows justified. not_true (knows c finder) (entry_at a.known c) (λ k. (and_true (finder == finder) (entry_at a.known c) ((asked.column finder is).greatest knows justified c k)).1) (sym told ∙ fails))

-- so where each call is single
pub unordered_if : (p : MpiProgram) (block : Blocks) (e sure : Configuration) (found : Option Race) → (((c : ℕ) → IsSingle block c) → SamePartners sure e) → IfSome found (IsUnordered p sure) → IfSome found (λ race. ((c : ℕ) → IsSingle block c) → IsUnordered p e race)
unordered_if p block e sure None same h = h
unordered_if p block e sure (Some race) same h = λ single. unordered_as p sure e race (same single) h

pub unordered_alone : (p : MpiProgram) (block : Blocks) (e : Configuration) (r : Result (Option Race) AllocError) → ((c : ℕ) → IsSingle block c) → IfOk r (λ found. IfSome found (λ race. ((c : ℕ) → IsSingle block c) → IsUnordered p e race)) → IfOk r (λ found. IfSome found (IsUnordered p e))
unordered_alone p block e (Ok None) single h = h
unordered_alone p block e (Ok (Some race)) single h = h single
unordered_alone p block e (Err error) single h = h

pub if_nothing : (o : Option ℕ) (A : Type 0) → o ≡ None → IfNone o A → A
if_nothing o A is h = subst (λ (z : Option ℕ). IfNone z A) is h

pub if_something : (o : Option ℕ) (A : ℕ → Type 0) (x : ℕ) → o ≡ Some x → IfSome o A → A x
if_something o A x is h = subst (λ (z : Option ℕ). IfSome z A) is h
