-- Lists, place by place.
use Rattle.std.proofs.Common.{◌≡◌, ℕ, zero, suc, ◌<◌, List, [], ◌∷◌, ◌++◌, All, length, map, get_or, set, subst, sym, arith, ap, ◌∙◌, append-nil}
use Rattle.std.proofs.lemmas.List.{get_or-map, length-map}
use Rattle.std.proofs.lemmas.Grind.{flat_map-append}
use Rattle.std.specs.List.{AllByRecursion, AllZip, flat_map}

pub flat_map-snoc : {A B : Type 0} (f : A → List B) (xs : List A) (x : A) → flat_map f (xs ++ x ∷ []) ≡ flat_map f xs ++ f x
flat_map-snoc {B = B} f xs x = flat_map-append f xs (x ∷ []) ∙ ap (λ (l : List B). flat_map f xs ++ l) (append-nil (f x))

pub All-from_map : {A B : Type 0} (P : B → Type 0) (f : A → B) (xs : List A) → All P (map f xs) → All (λ x. P (f x)) xs
All-from_map P f xs all k d lt = subst P (get_or-map f xs k d (f d) lt) (all k (f d) (subst (λ (n : ℕ). k < n) (sym (length-map xs f)) lt))

pub AllByRecursion-front : {A : Type 0} (P : A → Type 0) (xs : List A) (x : A) → AllByRecursion P (xs ++ x ∷ []) → AllByRecursion P xs × P x
AllByRecursion-front P [] x all = (tt, all.0)
AllByRecursion-front P (y ∷ xs) x all = let rest = AllByRecursion-front P xs x all.1 in ((all.0, rest.0), rest.1)

pub AllZip-refl : {A : Type 0} (R : A → A → Type 0) → ((x : A) → R x x) → (xs : List A) → AllZip R xs xs
AllZip-refl R each [] = tt
AllZip-refl R each (x ∷ xs) = (each x, AllZip-refl R each xs)

pub AllZip-trans : {A : Type 0} (R : A → A → Type 0) → ((x y z : A) → R x y → R y z → R x z) → (xs ys zs : List A) → AllZip R xs ys → AllZip R ys zs → AllZip R xs zs
AllZip-trans R step [] [] [] first second = tt
AllZip-trans R step [] [] (z ∷ zs) first second = absurd second
AllZip-trans R step [] (y ∷ ys) zs first second = absurd first
AllZip-trans R step (x ∷ xs) [] zs first second = absurd first
AllZip-trans R step (x ∷ xs) (y ∷ ys) [] first second = absurd second
AllZip-trans R step (x ∷ xs) (y ∷ ys) (z ∷ zs) first second = (step x y z first.0 second.0, AllZip-trans R step xs ys zs first.1 second.1)

module _ {A B : Type 0} (R : A → B → Type 0) where
  pub AllZip-set : (xs : List A) (ys : List B) (i : ℕ) (d y : B) → ((x : A) → R x (get_or ys i d) → R x y) → AllZip R xs ys → AllZip R xs (set ys i y)
  AllZip-set [] [] i d y step all = tt
  AllZip-set [] (z ∷ ys) i d y step all = absurd all
  AllZip-set (x ∷ xs) [] i d y step all = absurd all
  AllZip-set (x ∷ xs) (z ∷ ys) zero d y step all = (step x all.0, all.1)
  AllZip-set (x ∷ xs) (z ∷ ys) (suc i) d y step all = (all.0, AllZip-set xs ys i d y step all.1)

  pub AllZip-snoc : (xs : List A) (ys : List B) (x : A) (y : B) → AllZip R xs ys → R x y → AllZip R (xs ++ x ∷ []) (ys ++ y ∷ [])
  AllZip-snoc [] [] x y all last = (last, tt)
  AllZip-snoc [] (b ∷ ys) x y all last = absurd all
  AllZip-snoc (a ∷ xs) [] x y all last = absurd all
  AllZip-snoc (a ∷ xs) (b ∷ ys) x y all last = (all.0, AllZip-snoc xs ys x y all.1 last)

  pub AllZip-front : (xs : List A) (ys : List B) (x : A) (y : B) → AllZip R (xs ++ x ∷ []) (ys ++ y ∷ []) → AllZip R xs ys × R x y
  AllZip-front [] [] x y all = (tt, all.0)
  AllZip-front [] (b ∷ []) x y all = absurd all.1
  AllZip-front [] (b ∷ c ∷ ys) x y all = absurd all.1
  AllZip-front (a ∷ []) [] x y all = absurd all.1
  AllZip-front (a ∷ b ∷ xs) [] x y all = absurd all.1
  AllZip-front (a ∷ xs) (b ∷ ys) x y all = let rest = AllZip-front xs ys x y all.1 in ((all.0, rest.0), rest.1)

-- from what holds at each place, of parts of the elements
pub AllZip-map : {A B : Type 0} (R : B → B → Type 0) (f : A → B) (xs ys : List A) → length ys ≡ length xs → ((i : ℕ) (d : A) → i < length xs → R (f (get_or xs i d)) (f (get_or ys i d))) → AllZip R (map f xs) (map f ys)
AllZip-map R f [] [] size each = tt
AllZip-map R f [] (y ∷ ys) size each = absurd (omega (arith, size))
AllZip-map R f (x ∷ xs) [] size each = absurd (omega (arith, size))
AllZip-map R f (x ∷ xs) (y ∷ ys) size each = (each 0 x (omega arith), AllZip-map R f xs ys (omega (arith, size)) (λ i d lt. each (suc i) d (omega (arith, lt))))
