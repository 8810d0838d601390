-- The text of proof lines that are written in portions.
use Rattle.std.proofs.Common.{◌≡◌, ℕ, suc, ◌<◌, List, [], ◌∷◌, ◌++◌, length, get_or, map, refl, sym, ap, ◌∙◌, arith}
use Rattle.std.specs.List.{flat_map}
use Rattle.std.proofs.lemmas.Grind.{flat_map-append}
use Rattle.std.proofs.lemmas.List.{map-append}
use Rattle.std.proofs.lemmas.List.Concat.{flat_map-cons}
use Rattle.refutations.specs.Proofs.{ProofLine}
use Rattle.prooflog.specs.Refutations.{item_line, a_proof}
use Rattle.prooflog.specs.parts.Reading.{lines_text}

pub lines_text-append : (xs ys : List ProofLine) → lines_text (xs ++ ys) ≡ lines_text xs ++ lines_text ys
lines_text-append xs ys = ap (flat_map item_line) (map-append a_proof xs ys) ∙ flat_map-append item_line (map a_proof xs) (map a_proof ys)

-- parts whose texts are those of the portions are the text of all of these
pub portions_text : {A B : Type 0} (f : A → List ProofLine) (g : B → List ℕ) (xs : List A) (ys : List B) → length ys ≡ length xs
    → ((i : ℕ) (d : A) (e : B) → i < length xs → g (get_or ys i e) ≡ lines_text (f (get_or xs i d))) → flat_map g ys ≡ lines_text (flat_map f xs)
portions_text f g [] [] same each = refl
portions_text f g [] (y ∷ ys) same each = absurd (omega (arith, same))
portions_text f g (x ∷ xs) [] same each = absurd (omega (arith, same))
portions_text f g (x ∷ xs) (y ∷ ys) same each =
    flat_map-cons g y ys ∙ ap (λ (t : List ℕ). t ++ flat_map g ys) (each 0 x y (omega arith))
    ∙ ap (λ (t : List ℕ). lines_text (f x) ++ t) (portions_text f g xs ys (omega (arith, same)) (λ i d e lt. each (suc i) d e (omega (arith, lt))))
    ∙ sym (lines_text-append (f x) (flat_map f xs)) ∙ ap lines_text (sym (flat_map-cons f x xs))
