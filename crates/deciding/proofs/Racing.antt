-- A call that two sends of different ranks fit takes any source.
use Rattle.std.proofs.Common.{◌≡◌, ◌≤◌, ℕ, List, ◌⊎◌, inl, inr, Bool, true, false, not, IfNone, ◌==◌, Option, Some, None, IsTrue, is_some, refl, sym, ap, subst, ◌∙◌}
use Rattle.std.proofs.lemmas.Bool.{eqb-true, eq-eqb}
use Rattle.calltext.proofs.Conjunctions.{and_true}
use Rattle.callorder.specs.declared.calls.Call.{Call}
use Rattle.callorder.specs.declared.calls.Message.{Message}
use Rattle.callorder.specs.declared.calls.Pattern.{Pattern}
use Rattle.callorder.specs.Calls.{covers, fits_between, message_of, pattern_of, both_hold, fits}
use Rattle.callorder.specs.Programs.{MpiProgram, are_fit, are_of_one_rank, call_at, takes, have_one_rank}
use Rattle.run_laws.proofs.Matched.{no_send_is_taker}
use Rattle.races.proofs.Kept.{takes_fit}
use Rattle.races.proofs.Steps.{same_some}
use Rattle.races.specs.Races.{names_source}
use Rattle.races.specs.Races.{BuffersNoneByChoice}
use Rattle.races.specs.Tells.{Table, IsJustified}
use Rattle.semantics.specs.RunEnds.{IsFinishedRun}
use Rattle.semantics.specs.Machine.{Configuration, after_all, opening, partner_of}
use Rattle.semantics.specs.declared.state.Step.{Step}
use Rattle.clocks.specs.Clocks.{IsRival, IsUnordered}
use Rattle.clocks.specs.declared.race.Race as rivals
use Rattle.deciding.specs.Decisions.{EndsLeast, IsCaller, IsOpenRace, IsRace, takes_any_source, takes_any_source_call}
use Rattle.deciding.specs.declared.decision.Caller.{Caller}

-- where two sends fit a pattern that names its source, they are of one rank
one_source : (m n : Message) (r q t : ℕ) (pattern : Pattern) → fits_between r (Some m) t (Some pattern) ≡ true → fits_between q (Some n) t (Some pattern) ≡ true
    → is_some pattern.source ≡ true → r ≡ q
one_source m n r q t pattern f g named =
    let a = (and_true _ (covers pattern.source r) (and_true _ (covers pattern.tag m.tag) f).0).1 in
    let b = (and_true _ (covers pattern.source q) (and_true _ (covers pattern.tag n.tag) g).0).1 in
    by pattern.source named a b
  where
    by : (source : Option ℕ) → is_some source ≡ true → covers source r ≡ true → covers source q ≡ true → r ≡ q
    by None named a b = absurd (cc)
    by (Some wanted) named a b = sym (eqb-true wanted r a) ∙ eqb-true wanted q b

free_call : (x y z : Option Call) → both_hold fits x z ≡ true → both_hold fits y z ≡ true → both_hold have_one_rank x y ≡ false → takes_any_source_call z ≡ true
free_call None y z f g apart = absurd (cc)
free_call (Some x) None z f g apart = absurd (cc)
free_call (Some x) (Some y) None f g apart = absurd (cc)
free_call (Some x) (Some y) (Some z) f g apart = by (message_of x.kind) (message_of y.kind) (pattern_of z.kind) f g
  where
    different : x.rank ≡ y.rank → ⊥
    different same = let one : (x.rank == y.rank) ≡ true = eq-eqb x.rank y.rank same in cc (one, apart)

    unnamed : (b : Bool) → (b ≡ true → ⊥) → not b ≡ true
    unnamed true h = absurd (h refl)
    unnamed false h = refl

    by : (a b : _) (c : Option Pattern) → fits_between x.rank a z.rank c ≡ true → fits_between y.rank b z.rank c ≡ true → not (names_source c) ≡ true
    by None b c f g = absurd (cc)
    by (Some m) None None f g = absurd (cc)
    by (Some m) None (Some pattern) f g = absurd (cc)
    by (Some m) (Some n) None f g = absurd (cc)
    by (Some m) (Some n) (Some pattern) f g = unnamed (is_some pattern.source) (λ named. different (one_source m n x.rank y.rank z.rank pattern f g named))

pub free_of_two : (p : MpiProgram) (own other finder : ℕ) → are_fit p own finder ≡ true → are_fit p other finder ≡ true → are_of_one_rank p own other ≡ false → IsTrue (takes_any_source p finder)
free_of_two p own other finder f g apart = free_call (call_at p own) (call_at p other) (call_at p finder) f g apart

-- what a finder found fits it
pub own_fits : (p : MpiProgram) (finder own other : ℕ) → are_fit p other finder ≡ true → (takes p finder own ≡ true) ⊎ (are_fit p own finder ≡ true) → are_fit p own finder ≡ true
own_fits p finder own other fits (inr h) = h
own_fits p finder own other fits (inl h) = absurd (no_send_is_taker p finder own other (takes_fit p finder own h) fits)

-- both calls of a pair that fits are there
pub there_of_fit : (x y : Option Call) → both_hold fits x y ≡ true → x ≡ None → ⊥
there_of_fit None y fit none = absurd (cc)
there_of_fit (Some x) y fit none = cc

pub finder_of_fit : (x y : Option Call) → both_hold fits x y ≡ true → y ≡ None → ⊥
finder_of_fit None y fit none = absurd (cc)
finder_of_fit (Some x) None fit none = absurd (cc)
finder_of_fit (Some x) (Some y) fit none = cc

-- what a rival is told as
pub own_fits_rival : (p : MpiProgram) (e : Configuration) (rival : rivals.Race) (send : ℕ) → IsRival p e rival
    → ((c x : ℕ) → partner_of e c ≡ Some x → (takes p c x ≡ true) ⊎ (are_fit p x c ≡ true)) → partner_of e rival.finder ≡ Some send → are_fit p send rival.finder ≡ true
own_fits_rival p e rival send is fit found = own_fits p rival.finder send rival.send is.fits (fit rival.finder send found)

open_of : (p : MpiProgram) (e : Configuration) (rival : rivals.Race) (send : ℕ) (finder found other : Caller) → IsRival p e rival → IsUnordered p e rival → EndsLeast p e
    → partner_of e rival.finder ≡ Some send → finder.place ≡ rival.finder → found.place ≡ send → other.place ≡ rival.send
    → IsOpenRace p (record { finder = finder; found = found; other = other })
open_of p e rival send finder found other is unordered (run, finished, choice, ends) partner f_at s_at o_at = record {
  run = run;
  finished = finished;
  choice = choice;
  matched = subst (λ (m : Configuration). partner_of m finder.place ≡ Some found.place) ends
      (ap (partner_of e) f_at ∙ partner ∙ ap Some (sym s_at));
  later = subst (λ (m : Configuration). (taker : ℕ) → partner_of m other.place ≡ Some taker → taker ≤ finder.place → ⊥) ends
      (λ taker found_at before. is.later taker (sym (ap (partner_of e) o_at) ∙ found_at) (subst (λ (z : ℕ). taker ≤ z) f_at before));
  unordered = subst (λ (m : Configuration). (knows : Table) → IsJustified p m knows → knows other.place finder.place ≡ false) ends
      (λ knows justified. ap (λ (z : ℕ). knows z finder.place) o_at ∙ ap (knows rival.send) f_at ∙ unordered knows justified);
}

pub race_of : (p : MpiProgram) (e : Configuration) (rival : rivals.Race) (send : ℕ) (finder found other : Caller) → IsRival p e rival → IsUnordered p e rival → EndsLeast p e
    → ((c x : ℕ) → partner_of e c ≡ Some x → (takes p c x ≡ true) ⊎ (are_fit p x c ≡ true)) → partner_of e rival.finder ≡ Some send
    → IsCaller p finder × (finder.place ≡ rival.finder) → IsCaller p found × (found.place ≡ send) → IsCaller p other × (other.place ≡ rival.send)
    → IsRace p (record { finder = finder; found = found; other = other })
race_of p e rival send finder found other is unordered ends fit partner (f, f_at) (s, s_at) (o, o_at) =
    let own : are_fit p send rival.finder ≡ true = own_fits_rival p e rival send is fit partner in
    let same : is.own ≡ send = same_some is.own send (sym is.found ∙ partner) in
    let apart : are_of_one_rank p send rival.send ≡ false = subst (λ (z : ℕ). are_of_one_rank p z rival.send ≡ false) same is.apart in
    record {
      free = subst (λ (z : ℕ). IsTrue (takes_any_source p z)) (sym f_at) (free_of_two p send rival.send rival.finder own is.fits apart);
      finder = f;
      found = s;
      other = o;
      found_fits = ap (λ (z : ℕ). are_fit p z finder.place) s_at ∙ ap (are_fit p send) f_at ∙ own;
      other_fits = ap (λ (z : ℕ). are_fit p z finder.place) o_at ∙ ap (are_fit p rival.send) f_at ∙ is.fits;
      apart = ap (λ (z : ℕ). are_of_one_rank p z other.place) s_at ∙ ap (are_of_one_rank p send) o_at ∙ apart;
      untold = open_of p e rival send finder found other is unordered ends partner f_at s_at o_at;
    }

-- what is known where there is none
pub if_none : {A : Type 0} (o : Option A) (P : Type 0) (b : Bool) → b ≡ is_some o → b ≡ false → IfNone o P → P
if_none None P b is not_some there = there
if_none (Some x) P b is not_some there = let both : true ≡ false = sym is ∙ not_some in absurd cc
