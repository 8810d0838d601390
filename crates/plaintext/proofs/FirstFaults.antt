-- The first faulty line of a text is one, over any language that is closed under fronts.
use Rattle.std.proofs.Common.{◌≡◌, ℕ, ◌<◌, List, [], ◌∷◌, ◌++◌, length, refl, sym, ap, subst, ◌∙◌, append_assoc, arith, inl, inr}
use Rattle.std.proofs.lemmas.Bool.{cases_lt}
use Rattle.plaintext.specs.Plain.{text_lines}
use Rattle.plaintext.specs.Fronts.{to_end, BeginsWith, CanBegin, IsClosedUnderFronts, IsFirstFaultyLine}

-- heads and tails of equal lists are equal
pub heads : {A : Type 0} (x y : A) (xs ys : List A) → x ∷ xs ≡ y ∷ ys → (x ≡ y) × (xs ≡ ys)
heads x y xs ys e = (cc, cc)

-- of two cuts of one list the one with the shorter front lies within the other's front
pub cut_within : (x y : List (List ℕ)) (l m : List ℕ) (xs ys : List (List ℕ)) → x ++ l ∷ xs ≡ y ++ m ∷ ys → length x < length y → (z : List (List ℕ)) × (y ≡ (x ++ l ∷ []) ++ z)
cut_within x [] l m xs ys e lt = absurd (omega arith)
cut_within [] (b ∷ y) l m xs ys e lt = let h = heads l b xs (y ++ m ∷ ys) e in (y, ap (λ (k : List ℕ). k ∷ y) (sym h.0))
cut_within (a ∷ x) (b ∷ y) l m xs ys e lt =
    let h = heads a b (x ++ l ∷ xs) (y ++ m ∷ ys) e in
    let rest = cut_within x y l m xs ys h.1 (omega arith) in
    (rest.0, ap (λ (k : List ℕ). k ∷ y) (sym h.0) ∙ ap (λ (ls : List (List ℕ)). a ∷ ls) rest.1)

-- two cuts of one list with fronts of one length are the same
pub same_cut : (x y : List (List ℕ)) (l m : List ℕ) (xs ys : List (List ℕ)) → x ++ l ∷ xs ≡ y ++ m ∷ ys → length x ≡ length y → (x ≡ y) × (l ≡ m)
same_cut [] [] l m xs ys e len = (refl, (heads l m xs ys e).0)
same_cut [] (b ∷ y) l m xs ys e len = absurd (omega arith)
same_cut (a ∷ x) [] l m xs ys e len = absurd (omega arith)
same_cut (a ∷ x) (b ∷ y) l m xs ys e len =
    let h = heads a b (x ++ l ∷ xs) (y ++ m ∷ ys) e in
    let rest = same_cut x y l m xs ys h.1 (omega arith) in
    (ap (λ (k : List ℕ). k ∷ x) h.0 ∙ ap (λ (ls : List (List ℕ)). b ∷ ls) rest.0, rest.1)

earlier : (CanGoOn : List (List ℕ) → Type 0) (bytes : List ℕ) (x y : List (List ℕ)) (l m : List ℕ)
    → IsClosedUnderFronts CanGoOn → IsFirstFaultyLine CanGoOn bytes x l → IsFirstFaultyLine CanGoOn bytes y m → length x < length y → ⊥
earlier CanGoOn bytes x y l m closed f g lt =
    let w = cut_within x y l m f.cut.0 g.cut.0 (sym f.cut.1 ∙ g.cut.1) lt in
    f.bad (closed (x ++ l ∷ []) w.0 (subst CanGoOn w.1 g.good))

-- two first faulty lines of one text are the same line
pub same_line : (CanGoOn : List (List ℕ) → Type 0) (bytes : List ℕ) (x y : List (List ℕ)) (l m : List ℕ)
    → IsClosedUnderFronts CanGoOn → IsFirstFaultyLine CanGoOn bytes x l → IsFirstFaultyLine CanGoOn bytes y m → (x ≡ y) × (l ≡ m)
same_line CanGoOn bytes x y l m closed f g =
    same_cut x y l m f.cut.0 g.cut.0 (sym f.cut.1 ∙ g.cut.1)
    (elim (cases_lt (length x) (length y)) [
      | inl lt ↦ absurd (earlier CanGoOn bytes x y l m closed f g lt)
      | inr le ↦ elim (cases_lt (length y) (length x)) [
        | inl lt ↦ absurd (earlier CanGoOn bytes y x m l closed g f lt)
        | inr ge ↦ omega arith
      ]
    ])

-- a text whose lines to the end can go on has no faulty line
pub no_faulty_line : (CanGoOn : List (List ℕ) → Type 0) (bytes : List ℕ) (before : List (List ℕ)) (line : List ℕ)
    → IsClosedUnderFronts CanGoOn → CanGoOn (text_lines bytes) → IsFirstFaultyLine CanGoOn bytes before line → ⊥
no_faulty_line CanGoOn bytes before line closed whole f =
    f.bad (closed (before ++ line ∷ []) f.cut.0 (subst CanGoOn (f.cut.1 ∙ sym (append_assoc before (line ∷ []) f.cut.0)) whole))

-- what begins with a front begins with each front of it
pub begins_front : (front more lines : List (List ℕ)) → BeginsWith (front ++ more) lines → BeginsWith front lines
begins_front front more lines (rest, e) = (more ++ rest, e ∙ append_assoc front more rest)

-- what some value's lines begin with is closed under fronts
pub closed_begin : (Value : Type 0) (Keeps : Value → Type 0) (lines : Value → List (List ℕ)) → IsClosedUnderFronts (CanBegin Value Keeps lines)
closed_begin Value Keeps lines = λ front more (value, keeps, begins). (value, keeps, begins_front front more (to_end (lines value)) begins)

-- the whole of a value's lines to the end is a front of them
pub begins_whole : (Value : Type 0) (Keeps : Value → Type 0) (lines : Value → List (List ℕ)) (value : Value) (bytes : List ℕ)
    → Keeps value → text_lines bytes ≡ to_end (lines value) → CanBegin Value Keeps lines (text_lines bytes)
begins_whole Value Keeps lines value bytes keeps e = (value, keeps, ([], sym e ∙ sym (append_nil (text_lines bytes))))
  where
    append_nil : (ls : List (List ℕ)) → ls ++ [] ≡ ls
    append_nil [] = refl
    append_nil (l ∷ ls) = ap (λ (x : List (List ℕ)). l ∷ x) (append_nil ls)
