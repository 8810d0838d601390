-- Whether a name is that of a parameter.
use Rattle.std.proofs.Common.{◌≡◌, ℕ, Bool, true, false, List, Option, Some, None, ap, ◌∙◌}
use Rattle.std.specs.Prelude.{nat_eq, if◌then◌else◌}
use Rattle.std.specs.List.{list_any}
use Rattle.spmd_text.specs.declared.reading.SpmdText.{SpmdText}
use Rattle.spmd_program.specs.Settings.{of_parameter}

answered : (t : SpmdText) (places : List ℕ) (place : ℕ) (o : Option ℕ) (b : Bool) → Some place ≡ o → places ≡ t.parameters.items → b ≡ list_any (λ p. nat_eq p place) places
    → (if b then Some place else None) ≡ of_parameter t o
answered t places place o b is same found =
    ap (λ (a : Bool). if a then Some place else None) found
    ∙ ap (λ (ps : List ℕ). if list_any (λ p. nat_eq p place) ps then Some place else None) same
    ∙ ap (λ (x : Option ℕ). of_parameter t x) is

pub some_parameter : (t : SpmdText) (places : List ℕ) (place : ℕ) (o : Option ℕ) → Some place ≡ o → places ≡ t.parameters.items → true ≡ list_any (λ p. nat_eq p place) places
    → Some place ≡ of_parameter t o
some_parameter t places place o is same found = answered t places place o true is same found

pub no_parameter : (t : SpmdText) (places : List ℕ) (place : ℕ) (o : Option ℕ) → Some place ≡ o → places ≡ t.parameters.items → false ≡ list_any (λ p. nat_eq p place) places
    → None ≡ of_parameter t o
no_parameter t places place o is same found = answered t places place o false is same found
