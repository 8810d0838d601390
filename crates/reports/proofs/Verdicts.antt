-- The verdicts on choices, one after another.
use Rattle.std.proofs.Common.{◌≡◌, ℕ, ◌+◌, ◌<◌, ◌≤◌, List, [], ◌∷◌, ◌++◌, length, map, get_or, take, sym, ◌∙◌, ap, arith}
use Rattle.std.proofs.Math.Seq.{take-length}
use Rattle.std.proofs.lemmas.List.{map_push, take_more}

-- one more item is told as the next one of what is told
pub told_more : {X Y : Type 0} (told : X → List ℕ) (known : Y → List ℕ) (done more : List X) (item : X) (items : List Y) (i : ℕ) (next : Y) → i < length items → next ≡ get_or items i next
    → more ≡ done ++ item ∷ [] → told item ≡ known next → map told done ≡ map known (take i items) → map told more ≡ map known (take (i + 1) items)
told_more told known done more item items i next within there is same before =
    ap (map told) is ∙ map_push told done item ∙ ap (λ (l : List (List ℕ)). l ++ told item ∷ []) before ∙ ap (λ (v : List ℕ). map known (take i items) ++ v ∷ []) same
    ∙ sym (map_push known (take i items) next) ∙ ap (λ (y : _). map known (take i items ++ y ∷ [])) there ∙ ap (map known) (sym (take_more items i next within))

-- all of them
pub told_all : {X Y : Type 0} (told : X → List ℕ) (known : Y → List ℕ) (done : List X) (items : List Y) (i : ℕ) → i ≤ length items → length items ≤ i
    → map told done ≡ map known (take i items) → map told done ≡ map known items
told_all told known done items i within past before =
    let at : i ≡ length items = omega arith in
    before ∙ ap (λ (n : ℕ). map known (take n items)) at ∙ ap (map known) (take-length items)
