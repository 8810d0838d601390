-- The turns of loops that a line is in.
use Rattle.std.proofs.Common.{◌≡◌, ℕ, zero, suc, List, [], ◌++◌, Option, Some, None, refl, sym, ap, ◌∙◌, append_assoc}
use Rattle.std.proofs.lemmas.List.{append-nil}
use Rattle.std.specs.Global.{Vec}
use Rattle.unroll.specs.declared.call.Turn.{Turn}
use Rattle.spmd_program.specs.Told.{turn_at, turn_behind, turn_words, turns_from}

turns_step : (m : ℕ) (names : List (Vec ℕ)) (turns : List Turn) (number : ℕ) → turns_from (suc m) names turns number ≡ turn_behind names (turn_at turns number) (λ outer. turns_from m names turns outer)
unfolding turns_from
turns_step m names turns number = refl

turns_zero : (names : List (Vec ℕ)) (turns : List Turn) (number : ℕ) → turns_from zero names turns number ≡ []
unfolding turns_from
turns_zero names turns number = refl

-- no turns are told
pub none_told : (out : List ℕ) (most : ℕ) (names : List (Vec ℕ)) (turns : List Turn) (number : ℕ) → most ≡ 0 → out ≡ out ++ turns_from most names turns number
none_told out most names turns number e =
    sym (append-nil out) ∙ ap (λ (t : List ℕ). out ++ t) (sym (ap (λ (n : ℕ). turns_from n names turns number) e ∙ turns_zero names turns number))

-- the line is in no turn
pub no_turn_told : (out : List ℕ) (most m : ℕ) (names : List (Vec ℕ)) (turns : List Turn) (number : ℕ) → most ≡ suc m → None ≡ turn_at turns number → out ≡ out ++ turns_from most names turns number
no_turn_told out most m names turns number e none =
    sym (append-nil out)
    ∙ ap (λ (o : Option Turn). out ++ turn_behind names o (λ outer. turns_from m names turns outer)) none
    ∙ ap (λ (t : List ℕ). out ++ t) (sym (ap (λ (n : ℕ). turns_from n names turns number) e ∙ turns_step m names turns number))

-- a turn is told behind those around it
pub turn_told : (out mid new : List ℕ) (most m : ℕ) (names : List (Vec ℕ)) (turns : List Turn) (number : ℕ) (turn : Turn) → most ≡ suc m → Some turn ≡ turn_at turns number
    → mid ≡ out ++ turns_from m names turns turn.outer → new ≡ mid ++ turn_words names turn → new ≡ out ++ turns_from most names turns number
turn_told out mid new most m names turns number turn e some before wrote =
    wrote
    ∙ ap (λ (t : List ℕ). t ++ turn_words names turn) before
    ∙ append_assoc out (turns_from m names turns turn.outer) (turn_words names turn)
    ∙ ap (λ (o : Option Turn). out ++ turn_behind names o (λ outer. turns_from m names turns outer)) some
    ∙ ap (λ (t : List ℕ). out ++ t) (sym (ap (λ (n : ℕ). turns_from n names turns number) e ∙ turns_step m names turns number))
