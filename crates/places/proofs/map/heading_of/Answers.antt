use Rattle.std.proofs.Common.{◌≡◌, ◌∙◌, ◌++◌, ℕ, List, ap, append_assoc}
use Rattle.std.specs.Prelude.{string_bytes}
use Rattle.places.specs.Maps.{hex_digits}
use Rattle.places.proofs.map.heading_of.Goals as goal

parts : (a b c d x y z w : List ℕ) → x ≡ a → y ≡ x ++ b → z ≡ y ++ c → w ≡ z ++ d → w ≡ a ++ (b ++ (c ++ d))
parts a b c d x y z w first second third fourth =
    fourth ∙ ap (λ (l : List ℕ). l ++ d) (third ∙ ap (λ (l : List ℕ). l ++ c) (second ∙ ap (λ (l : List ℕ). l ++ b) first))
    ∙ append_assoc (a ++ b) c d ∙ append_assoc a b (c ++ d)

pub returns : goal.returns
returns c =
    parts _ _ _ _ _ _ _ _ c.in_ok-line.ensures.ok
    (c.in_ok-push_str.ensures.bytes ∙ ap (λ (l : List ℕ). string_bytes c.in_ok-line.line ++ l) (c.deref.ensures ∙ c.in_ok-to_string.ensures.ok))
    c.in_ok-push_str-2.ensures.bytes
    (c.in_ok-push_str-3.ensures.bytes ∙ ap (λ (l : List ℕ). string_bytes c.push_str-2.new.self ++ l) (c.deref-2.ensures ∙ c.in_ok-hex_digits.ensures ∙ ap hex_digits c.sum_of.ensures))
