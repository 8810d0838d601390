-- Calls that compare as equal are the same.
use Rattle.std.proofs.Common.{rules, ◌≡◌, true, Option, Some, None, ap, refl, ℕ}
use Rattle.std.specs.Prelude.{◌↔◌}
use Rattle.std.specs.Option.{option_eq}
use Rattle.callorder.specs.contracts.calls.CallPartialEq.TheImpl as calls
use Rattle.callorder.specs.declared.calls.Call.{Call}
use Rattle.callorder.specs.declared.calls.Kind.{Kind}
use Rattle.callorder.specs.declared.calls.Kind.TheVariants.{Send, Receive, MatchedProbe, Probe, MatchedReceive, Wait}

abbrev call_of : ℕ → Kind ℕ → Call
call_of rank kind = record { rank = rank; kind = kind }

same_parts : (r q : ℕ) (x y : Kind ℕ) → calls.eq-value.it (call_of r x) (call_of q y) ≡ true → (r ≡ q) × (x ≡ y)
same_parts r q (Send mode blocking message) (Send mode' blocking' message') e = search rules
same_parts r q (Receive blocking pattern) (Receive blocking' pattern') e = search rules
same_parts r q (MatchedProbe pattern receive) (MatchedProbe pattern' receive') e = search rules
same_parts r q (Probe pattern) (Probe pattern') e = search rules
same_parts r q (MatchedReceive blocking) (MatchedReceive blocking') e = search rules
same_parts r q (Wait operation) (Wait operation') e = search rules
same_parts r q x y e = search rules

same_call : (x y : Call) → calls.eq-value.it x y ≡ true → x ≡ y
same_call x y e =
    let same = same_parts x.rank y.rank x.kind y.kind e in
    λ t. call_of (same.0 t) (same.1 t)

same_if_equal : (x y : Option Call) → option_eq calls.eq-value.it x y ≡ true → x ≡ y
same_if_equal (Some x) (Some y) e = ap (λ (call : Call). Some call) (same_call x y e)
same_if_equal None None e = refl
same_if_equal x y e = absurd (cc)

own_call : (x : Call) → calls.eq-value.it x x ≡ true
own_call x = search rules

equal_to_itself : (x : Option Call) → option_eq calls.eq-value.it x x ≡ true
equal_to_itself None = refl
equal_to_itself (Some x) = own_call x

pub equal_if_same : (x y : Option Call) → option_eq calls.eq-value.it x y ≡ true ↔ (x ≡ y)
equal_if_same x y = (same_if_equal x y, λ is. rw is (equal_to_itself y))
