-- What is so of a text is so of an equal one.
use Rattle.std.proofs.Common.{◌≡◌, sym, subst, ℕ, List, Option, Some, None, Result, Ok, Err}
use Rattle.std.specs.Prelude.{IfOk, IfSome}
use Rattle.std.specs.declared.alloc.AllocError.{AllocError}
use Rattle.shrinking.specs.declared.driving.Shrunk.{Shrunk}

pub kept : (P : List ℕ → Type 0) (best : List ℕ) (r : Result Shrunk AllocError) → P best → IfOk r (λ s. s.text.items ≡ best) → IfOk r (λ s. P s.text.items)
kept P best (Ok s) holds is = subst P (sym is) holds
kept P best (Err e) holds is = is

pub of_some : {X : Type 0} (found : Option X) (best : X) (P : Type 0) → found ≡ Some best → IfSome found (λ x. P) → P
of_some (Some x) best P e holds = holds
of_some None best P e holds = cc
