-- The first line of a map that may not stand there.
use Rattle.std.proofs.Common.{◌≡◌, ◌∙◌, ◌⊎◌, ◌+◌, ℕ, true, false, List, [], ◌∷◌, ◌++◌, ap, inl, inr, refl, sym, subst, arith, codes, drop, get_or, length}
use Rattle.plaintext.specs.Plain.{text_lines}
use Rattle.places.specs.Maps.{CanAllStand, IsFaultyLine, MayStand, map_heading}

-- the first two lines of a map
abbrev pub title : List ℕ
title = codes "map 1" ++ 10 ∷ []

abbrev pub name_line : List ℕ → List ℕ
name_line text = map_heading text ++ 10 ∷ []

-- each of the lines below them may stand where it stands
abbrev pub Stand : List ℕ → List (List ℕ) → Type 0
Stand text seen = (above : List (List ℕ)) (line : List ℕ) (below : List (List ℕ)) → seen ≡ above ++ line ∷ below
    → MayStand text (title ∷ name_line text ∷ above) line

head_of : (a b : List ℕ) (xs ys : List (List ℕ)) → a ∷ xs ≡ b ∷ ys → a ≡ b
head_of a b xs ys is = ap (λ (l : List (List ℕ)). get_or l 0 []) is

tail_of : (a b : List ℕ) (xs ys : List (List ℕ)) → a ∷ xs ≡ b ∷ ys → xs ≡ ys
tail_of a b xs ys is = ap (λ (l : List (List ℕ)). drop 1 l) is

no_split : (above : List (List ℕ)) (line : List ℕ) (below : List (List ℕ)) → [] ≡ above ++ line ∷ below → ⊥
no_split [] line below is = cc
no_split (a ∷ above) line below is = cc

-- a list with one more at its end is cut before its end, or there
pub split_more : (seen : List (List ℕ)) (x : List ℕ) (above : List (List ℕ)) (line : List ℕ) (below : List (List ℕ)) → seen ++ x ∷ [] ≡ above ++ line ∷ below
    → ((seen ≡ above) × (x ≡ line)) ⊎ ((more : List (List ℕ)) × (seen ≡ above ++ line ∷ more))
split_more [] x [] line below is = inl (refl, head_of x line [] below is)
split_more [] x (a ∷ above) line below is = absurd (no_split above line below (tail_of x a [] (above ++ line ∷ below) is))
split_more (s ∷ seen) x [] line below is = inr (seen, ap (λ (l : List ℕ). l ∷ seen) (head_of s line (seen ++ x ∷ []) below is))
split_more (s ∷ seen) x (a ∷ above) line below is = longer (split_more seen x above line below (tail_of s a (seen ++ x ∷ []) (above ++ line ∷ below) is))
  where
    first : s ≡ a
    first = head_of s a (seen ++ x ∷ []) (above ++ line ∷ below) is

    longer : ((seen ≡ above) × (x ≡ line)) ⊎ ((more : List (List ℕ)) × (seen ≡ above ++ line ∷ more))
        → ((s ∷ seen ≡ a ∷ above) × (x ≡ line)) ⊎ ((more : List (List ℕ)) × (s ∷ seen ≡ a ∷ (above ++ line ∷ more)))
    longer (inl at) = inl (ap (λ (l : List ℕ). l ∷ seen) first ∙ ap (λ (l : List (List ℕ)). a ∷ l) at.0, at.1)
    longer (inr at) = inr (at.0, ap (λ (l : List ℕ). l ∷ seen) first ∙ ap (λ (l : List (List ℕ)). a ∷ l) at.1)

pub stand_none : (text : List ℕ) → Stand text []
stand_none text above line below is = absurd (no_split above line below is)

pub stand_more : (text : List ℕ) (seen : List (List ℕ)) (x : List ℕ) → Stand text seen → MayStand text (title ∷ name_line text ∷ seen) x → Stand text (seen ++ x ∷ [])
stand_more text seen x stand may above line below is = elim (split_more seen x above line below is) [
  | inl at ↦ subst (λ (l : List ℕ). MayStand text (title ∷ name_line text ∷ above) l) at.1 (subst (λ (l : List (List ℕ)). MayStand text (title ∷ name_line text ∷ l) x) at.0 may)
  | inr at ↦ stand above line at.0 at.1
]

pub go_on : (text : List ℕ) (seen : List (List ℕ)) → Stand text seen → CanAllStand text (title ∷ name_line text ∷ seen)
go_on text seen stand [] line below is = sym (head_of title line (name_line text ∷ seen) below is)
go_on text seen stand (a ∷ []) line below is =
    sym (head_of (name_line text) line seen below (tail_of title a (name_line text ∷ seen) (line ∷ below) is))
go_on text seen stand (a ∷ b ∷ above) line below is =
    stand above line below (tail_of (name_line text) b seen (above ++ line ∷ below) (tail_of title a (name_line text ∷ seen) (b ∷ (above ++ line ∷ below)) is))

go_on_title : (text : List ℕ) → CanAllStand text (title ∷ [])
go_on_title text [] line below is = sym (head_of title line [] below is)
go_on_title text (a ∷ above) line below is = absurd (no_split above line below (tail_of title a [] (above ++ line ∷ below) is))

faulty : (text map : List ℕ) (number : ℕ) (above : List (List ℕ)) (line : List ℕ) (after : List (List ℕ)) → text_lines map ≡ above ++ line ∷ after
    → number ≡ length above + 1 → CanAllStand text above → (MayStand text above line → ⊥) → IsFaultyLine text map number line
faulty text map number above line after is counts good none = record {
  above = above;
  faulty = record { cut = (after, is); good = good; bad = λ can. none (can above line [] refl) };
  number_is = counts;
}

pub first_faulty : (text map line : List ℕ) (after : List (List ℕ)) → text_lines map ≡ line ∷ after → (line ≡ title → ⊥) → IsFaultyLine text map 1 line
first_faulty text map line after is none = faulty text map 1 [] line after is refl (λ above l below at. absurd (no_split above l below at)) none

pub second_faulty : (text map line : List ℕ) (after : List (List ℕ)) → text_lines map ≡ title ∷ line ∷ after → (line ≡ name_line text → ⊥) → IsFaultyLine text map 2 line
second_faulty text map line after is none = faulty text map 2 (title ∷ []) line after is refl (go_on_title text) none

pub later_faulty : (text map : List ℕ) (number : ℕ) (seen : List (List ℕ)) (line : List ℕ) (after : List (List ℕ)) → text_lines map ≡ title ∷ name_line text ∷ (seen ++ line ∷ after)
    → number ≡ length seen + 3 → Stand text seen → (MayStand text (title ∷ name_line text ∷ seen) line → ⊥) → IsFaultyLine text map number line
later_faulty text map number seen line after is counts stand none =
    faulty text map number (title ∷ name_line text ∷ seen) line after is (omega (arith, counts)) (go_on text seen stand) none

pub false_true : false ≡ true → ⊥
false_true e = cc
