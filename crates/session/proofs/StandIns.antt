-- What is read of a file stands for all of it.
use Rattle.std.proofs.Common.{◌≡◌, ◌≢◌, ◌∙◌, ◌≤◌, ◌<◌, ◌^◌, ◌&&◌, Bool, true, false, not, leb, nat_eq, IsTrue, refl, inl, inr, subst, sym, ap, ℕ, List, ◌++◌, length, Some, None, arith, length-append, Bor, IfOk, Result, Ok, Err}
use Rattle.std.specs.Prelude.{Option, codes}
use Rattle.std.specs.Global.{Vec}
use Rattle.std.specs.List.{starts_with}
use Rattle.std.specs.Cmp.Lexicographic.{pointwise}
use Rattle.std.proofs.lemmas.List.{take-append-le}
use Rattle.std.proofs.lemmas.Bool.Decides.{Decides-eqb}
use Rattle.std.proofs.lemmas.Slice.Eq.{starts_is}
use Rattle.std.proofs.lemmas.Bool.{leb-true}
use Rattle.files.specs.Contents.{AreAll, AreEnough, is_enough}
use Rattle.files.specs.declared.extent.Extent.{Extent}
use Rattle.files.specs.declared.extent.Extent.TheVariants.{Most, Begins}
use Rattle.session.specs.parts.Texts.{AreAlikeEvidences, AreAlikePrograms, IsStray, IsTooLarge, StandsFor}

-- either all was read, or enough was, and then the rest changes nothing
module _ (AreAlike : List ℕ → List ℕ → Type 0) (extent : Extent) where
  pub stands : ((bytes : List ℕ) → AreAlike bytes bytes) → ((bytes rest : List ℕ) → IsTrue (is_enough extent bytes) → AreAlike bytes (bytes ++ rest))
      → (file : Option (List ℕ)) (read : List ℕ) → AreEnough extent file read → StandsFor AreAlike file read
  stands same cut None read enough = (read, tt, same read)
  stands same cut (Some known) read (inl all) = (known, refl, subst (λ (l : List ℕ). AreAlike read l) all (same read))
  stands same cut (Some known) read (inr (enough, (rest, is))) =
      (known, refl, subst (λ (l : List ℕ). AreAlike read l) (sym is) (cut read rest enough))

cut_program : (bytes rest : List ℕ) → IsTrue (is_enough (Most 1048576) bytes) → AreAlikePrograms bytes (bytes ++ rest)
cut_program bytes rest enough =
    let large : IsTooLarge bytes = grind arith in
    inr (large, omega (arith, large, length-append bytes rest))

pub program_stands : (file : Option (List ℕ)) (read : List ℕ) → AreEnough (Most 1048576) file read → StandsFor AreAlikePrograms file read
program_stands = stands AreAlikePrograms (Most 1048576) (λ bytes. inl refl) cut_program

both : (a b : Bool) → IsTrue (a && not b) → (a ≡ true) × (b ≡ false)
both true true holds = let never : ⊥ = cc in absurd never
both true false holds = (refl, refl)
both false b holds = let never : ⊥ = cc in absurd never

-- bytes that don't begin so, of which there are enough to tell, don't with others after them either
unlike : (bytes front : List ℕ) → starts_with nat_eq bytes front ≡ false → (rest : List ℕ) → bytes ≢ front ++ rest
unlike bytes front differs rest same =
    let begins = (starts_is Decides-eqb bytes front (starts_with nat_eq bytes front) refl).1 rest same in
    cc

still_unlike : (bytes more front : List ℕ) → length front ≤ length bytes → starts_with nat_eq bytes front ≡ false → starts_with nat_eq (bytes ++ more) front ≡ false
still_unlike bytes more front enough differs =
    ap (λ (l : List ℕ). pointwise nat_eq front l) (take-append-le (length front) bytes more enough) ∙ differs

cut_evidence : (front : Bor (List ℕ)) → front.now ≡ codes "evidence " → (bytes more : List ℕ) → IsTrue (is_enough (Begins front) bytes) → AreAlikeEvidences bytes (bytes ++ more)
cut_evidence front is bytes more enough =
    let (long, differs) = both (leb (length front.now) (length bytes)) (starts_with nat_eq bytes front.now) enough in
    let stray : (l : List ℕ) → starts_with nat_eq l front.now ≡ false → IsStray l
    = λ l other. λ rest same. unlike l front.now other rest (same ∙ ap (λ (f : List ℕ). f ++ rest) (sym is)) in
    inr (stray bytes differs, stray (bytes ++ more) (still_unlike bytes more front.now (leb-true _ _ long) differs))

-- a reference to these bytes, wherever they lie
abbrev pub evidence_front : Bor (List ℕ)
evidence_front = record { ref_ptr = (0, 0); now = codes "evidence " }

pub evidence_stands : (file : Option (List ℕ)) (read : List ℕ) → AreEnough (Begins evidence_front) file read → StandsFor AreAlikeEvidences file read
evidence_stands = stands AreAlikeEvidences (Begins evidence_front) (λ bytes. inl refl) (cut_evidence evidence_front refl)

-- all was read where nothing but the memory's size ends it
pub whole_read : (file : Option (List ℕ)) (read : List ℕ) → length read < 2 ^ 64 → AreEnough (Most 18446744073709551615) file read → AreAll file read
whole_read None read small enough = tt
whole_read (Some known) read small (inl all) = all
whole_read (Some known) read small (inr (enough, more)) =
    let large : 18446744073709551615 < length read = grind arith in
    absurd (omega (arith, small, large))

-- what holds of bytes that were read
pub if_read : {E : Type 0} (result : Result (Vec ℕ) E) (Was Is : List ℕ → Type 0) → ((bytes : List ℕ) → Was bytes → Is bytes) → IfOk result (λ v. Was v.items)
    → IfOk result (λ v. Is v.items)
if_read (Ok v) Was Is step was = step v.items was
if_read (Err e) Was Is step was = was
