-- Phases that are dealt, one after another.
use Rattle.std.proofs.Common.{◌≡◌, ◌∙◌, ℕ, ◌+◌, ◌<◌, ◌≤◌, Bool, true, List, [], ◌∷◌, ◌++◌, Option, Some, length, take, get_or, slice_get, arith, inl, inr, refl, sym, subst, ap, length-append}
use Rattle.std.specs.Borrow.{Bor}
use Rattle.std.specs.Global.{Vec}
use Rattle.std.proofs.lemmas.Bool.{cases_lt}
use Rattle.std.proofs.lemmas.List.{take_more}
use Rattle.std.proofs.lemmas.Option.{same_Some, slice_get_within}
use Rattle.calltext.specs.Grammar.{long}
use Rattle.callorder.specs.Programs.{MpiProgram}
use Rattle.callorder.specs.Resolving.{IsTextOfWithin}
use Rattle.interning.specs.Places.{IsNumbering}
use Rattle.phases.specs.Rests.{IsRest, behind}
use Rattle.session.specs.Phasing.{AreApart, AreDealtInOrder, ArePrograms, IsDealt}
use Rattle.session.proofs.CutNames.{in_front}

-- ---- the programs of texts

-- of each of the first texts there is the program
pub record AreSoMany (texts : List (Vec ℕ)) (count : ℕ) (programs : List MpiProgram) : Type 0 where
  pub size : length programs ≡ count
  pub each : (place : ℕ) (text : Vec ℕ) → place < count → slice_get texts place ≡ Some text
      → (p : MpiProgram) × (slice_get programs place ≡ Some p) × IsTextOfWithin long text.items p

pushed : (xs : List MpiProgram) (x : MpiProgram) → slice_get (xs ++ x ∷ []) (length xs) ≡ Some x
pushed [] x = refl
pushed (y ∷ xs) x = pushed xs x

pub one_program_more : (texts : List (Vec ℕ)) (count : ℕ) (programs next : List MpiProgram) (text : Vec ℕ) (p : MpiProgram) → AreSoMany texts count programs
    → slice_get texts count ≡ Some text → IsTextOfWithin long text.items p → next ≡ programs ++ p ∷ [] → AreSoMany texts (count + 1) next
one_program_more texts count programs next text p so_far there is grown =
    subst (AreSoMany texts (count + 1)) (sym grown) (record {
      size = length-append programs (p ∷ []) ∙ ap (λ (n : ℕ). n + 1) so_far.size;
      each = λ place other below at. elim (cases_lt place count) [
        | inl before ↦ let old = so_far.each place other before at in (old.0, in_front programs (p ∷ []) place old.0 old.1, old.2)
        | inr late ↦
            let here : count ≡ place = omega (arith, late, below) in
            let same : text ≡ other = same_Some text other (sym there ∙ ap (slice_get texts) here ∙ at) in (
              p,
              subst (λ (n : ℕ). slice_get (programs ++ p ∷ []) n ≡ Some p) (so_far.size ∙ here) (pushed programs p),
              subst (λ (t : Vec ℕ). IsTextOfWithin long t.items p) same is,
            )
      ];
    })

pub all_programs : (texts : List (Vec ℕ)) (count : ℕ) (programs : List MpiProgram) → length texts ≤ count → AreSoMany texts count programs → ArePrograms texts programs
all_programs texts count programs all so_far place text there = so_far.each place text (omega (arith, all, slice_get_within texts place text there)) there

-- ---- dealing

dealt_more : (programs : List MpiProgram) (number : ℕ) (p q part : MpiProgram) (order : List ℕ) → AreDealtInOrder programs p order q → IsDealt programs number q part
    → AreDealtInOrder programs p (order ++ number ∷ []) (behind q part)
dealt_more programs number p q part [] e dealt = (part, subst (λ (z : MpiProgram). IsDealt programs number z part) (sym e) dealt, ap (λ (z : MpiProgram). behind z part) e)
dealt_more programs number p q part (first ∷ order) d dealt = (d.0, d.1, dealt_more programs number (behind p d.0) q part order d.2 dealt)

-- the phases of these numbers are dealt, and this is left from some places on
pub record IsDealtTo (programs : List MpiProgram) (p : MpiProgram) (next order : List ℕ) : Type 0 where
  pub q : MpiProgram
  pub rest : IsRest p next q
  pub dealt : AreDealtInOrder programs p order q

pub dealt_further : (programs : List MpiProgram) (p : MpiProgram) (old next order : List ℕ) (place number : ℕ) → place < length order → number ≡ get_or order place 0
    → (so_far : IsDealtTo programs p old (take place order))
    → (part : MpiProgram) × IsDealt programs number so_far.q part × IsRest p next (behind so_far.q part) → IsDealtTo programs p next (take (place + 1) order)
dealt_further programs p old next order place number inside is so_far one =
    let longer : take (place + 1) order ≡ take place order ++ number ∷ [] =
    take_more order place 0 inside ∙ ap (λ (n : ℕ). take place order ++ n ∷ []) (sym is) in
    record {
      q = behind so_far.q one.0;
      rest = one.2;
      dealt = subst (λ (numbers : List ℕ). AreDealtInOrder programs p numbers (behind so_far.q one.0)) (sym longer)
          (dealt_more programs number p so_far.q one.0 (take place order) so_far.dealt one.1);
    }

-- ---- texts that differ

-- so many of the texts are named, each by itself
pub record AreNames (texts : List (Vec ℕ)) (count : ℕ) (names : List (Option (Bor (List ℕ)))) : Type 0 where
  pub size : length names ≡ count
  pub named : (k : ℕ) (text : Vec ℕ) → k < count → slice_get texts k ≡ Some text → (name : Bor (List ℕ)) × (slice_get names k ≡ Some (Some name)) × (name.now ≡ text.items)

-- texts whose names have each a number of its own are apart
pub apart_by : (eq : Bor (List ℕ) → Bor (List ℕ) → Bool) → ((a b : Bor (List ℕ)) → a.now ≡ b.now → eq a b ≡ true)
    → (texts : List (Vec ℕ)) (names : List (Option (Bor (List ℕ)))) (numbers : List (Option ℕ)) (count : ℕ) → AreNames texts count names → length texts ≤ count → IsNumbering eq names numbers
    → ((place : ℕ) → place < length numbers → slice_get numbers place ≡ Some (Some place)) → AreApart texts
apart_by eq same texts names numbers count are all numbering own i j a b at_i at_j e =
    let low : i < count = omega (arith, slice_get_within texts i a at_i, all) in
    let high : j < count = omega (arith, slice_get_within texts j b at_j, all) in
    let one = are.named i a low at_i in
    let other = are.named j b high at_j in
    (numbering.same i j one.0 other.0 i j one.1 other.1 (own i (omega (arith, numbering.size, are.size, low))) (own j (omega (arith, numbering.size, are.size, high)))).1
    (same one.0 other.0 (one.2 ∙ e ∙ sym other.2))
