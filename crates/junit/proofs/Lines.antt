-- The first line of a text.
use Rattle.std.proofs.Common.{◌≡◌, ◌∙◌, ◌++◌, ◌∷◌, [], ap, arith, sym, refl, ℕ, Bool, true, false, List, length, take}
use Rattle.std.specs.Prelude.{◌==◌, ◌-◌}
use Rattle.std.proofs.Math.Seq.{take-append_seam}
use Rattle.std.proofs.lemmas.List.{length-append}
use Rattle.plaintext.specs.Plain.{text_lines}
use Rattle.junit.specs.Report.{first_text_line, first_of_lines}

-- a text has a line
pub record HasFirst (bytes : List ℕ) : Type 0 where
  pub line : List ℕ
  pub others : List (List ℕ)
  pub are : text_lines bytes ≡ line ∷ others

has_first : (bytes : List ℕ) → HasFirst bytes
has_first [] = record { line = []; others = []; are = refl }
has_first (b ∷ bytes) = go (has_first bytes) (b == 10) refl
  where
    go : HasFirst bytes → (is : Bool) → (b == 10) ≡ is → HasFirst (b ∷ bytes)
    go below true e = record { line = 10 ∷ []; others = text_lines bytes; are = rw e refl }
    go below false e = record { line = b ∷ below.line; others = below.others; are = rw (e, below.are) refl }

pub first_line_is : (text front behind : List ℕ) → text_lines text ≡ (front ++ 10 ∷ []) ∷ text_lines behind → front ≡ first_text_line text
first_line_is text front behind e =
    let next = has_first behind in
    sym (ap first_of_lines (e ∙ ap (λ (lines : List (List ℕ)). (front ++ 10 ∷ []) ∷ lines) next.are)
    ∙ ap (λ (n : ℕ). take n (front ++ 10 ∷ [])) (omega (arith, length-append front (10 ∷ [])))
    ∙ take-append_seam front (10 ∷ []))
