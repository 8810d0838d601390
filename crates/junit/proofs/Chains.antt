-- Texts that are written one behind another.
use Rattle.std.proofs.Common.{◌≡◌, ◌∙◌, ◌++◌, ap, ℕ, List, Result, Ok, Err}
use Rattle.std.specs.Prelude.{OnOk}
use Rattle.std.proofs.lemmas.List.{append_assoc}

pub behind : (a b c t r : List ℕ) → b ≡ a ++ t → c ≡ b ++ r → c ≡ a ++ (t ++ r)
behind a b c t r e f = f ∙ ap (λ (l : List ℕ). l ++ r) e ∙ append_assoc a t r

-- the last of them may be missing for want of memory
pub behind_if : {T E : Type 0} (w : Result T E) (a b c t r : List ℕ) → b ≡ a ++ t → OnOk w (c ≡ b ++ r) → OnOk w (c ≡ a ++ (t ++ r))
behind_if (Ok value) a b c t r e f = behind a b c t r e f
behind_if (Err why) a b c t r e f = f
