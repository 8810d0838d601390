-- Lists of which a map is kept, and the supplies of stations.
use Rattle.std.proofs.Common.{◌≡◌, ℕ, suc, ◌<◌, List, [], ◌∷◌, ◌++◌, length, get_or, map, take, drop, refl, sym, ap, ◌∙◌, arith, append-nil}
use Rattle.std.proofs.lemmas.List.{length-map, take_all, drop_all}

-- a list of the same length, each of whose elements has the same image
pub same_map : {A B : Type 0} (f : A → B) (xs ys : List A) → length ys ≡ length xs → ((i : ℕ) (d : A) → i < length xs → f (get_or ys i d) ≡ f (get_or xs i d)) → map f ys ≡ map f xs
same_map f [] [] same each = refl
same_map f [] (y ∷ ys) same each = absurd (omega (arith, same))
same_map f (x ∷ xs) [] same each = absurd (omega (arith, same))
same_map f (x ∷ xs) (y ∷ ys) same each =
    ap (λ b. b ∷ map f ys) (each 0 x (omega arith)) ∙ ap (λ l. f x ∷ l) (same_map f xs ys (omega (arith, same)) (λ i d lt. each (suc i) d (omega (arith, lt))))

-- a slice of a whole list that was written back
pub written_back : {A B : Type 0} (f : A → B) (n : ℕ) (new old : List A) → length old ≡ n → map f new ≡ map f old → map f (take n (new ++ drop (length new) old)) ≡ map f old
written_back f n new old size same =
    let lengths : length new ≡ length old = sym (length-map new f) ∙ ap length same ∙ length-map old f in
    ap (λ l. map f (take n (new ++ l))) (drop_all (length new) old (omega (arith, lengths)))
    ∙ (ap (λ l. map f (take n l)) (append-nil new)
    ∙ (ap (map f) (take_all n new (omega (arith, lengths, size))) ∙ same))

-- nothing is left of a list whose rest has no element
pub is_whole : {A : Type 0} (front rest whole : List A) → length rest ≡ 0 → front ++ rest ≡ whole → front ≡ whole
is_whole front [] whole none all = sym (append-nil front) ∙ all
is_whole front (x ∷ rest) whole none all = absurd (omega (arith, none))
