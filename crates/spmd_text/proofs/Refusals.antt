-- What is told of a text that is refused.
use Rattle.std.proofs.Common.{◌≡◌, ◌⊎◌, ℕ, ◌≤◌, List, length, ap, refl, inl, inr, arith}
use Rattle.std.specs.Prelude.{Result, Ok, Err}
use Rattle.spmd_text.specs.declared.fault.ParseFault.{ParseFault}
use Rattle.spmd_text.specs.declared.fault.TextFault.{TextFault}
use Rattle.spmd_text.specs.declared.fault.TextFault.TheVariants.{Memory, TooLarge, Pieces, Grammar}
use Rattle.spmd_text.specs.declared.reading.SpmdText.{SpmdText}
use Rattle.spmd_text.specs.Tokens.{Cutting, pieces_of}
use Rattle.spmd_text.specs.Texts.{HasTextFault, IsSpmdText, PieceFaultsAreTold}

-- a text has pieces or a fault of them
clash : (s : Cutting) (f : ParseFault) (whole : Result Cutting ParseFault) → whole ≡ Ok s → whole ≡ Err f → ⊥
clash s f whole is no_pieces = cc

-- and one fault at most
one_fault : (f g : ParseFault) (whole : Result Cutting ParseFault) → whole ≡ Err f → whole ≡ Err g → g ≡ f
one_fault f g whole is also = cc

told_by : (bytes : List ℕ) (f : ParseFault) → length bytes ≤ 65536 → pieces_of bytes ≡ Err f
    → (e : TextFault) → HasTextFault bytes e → (e ≡ Memory) ⊎ (e ≡ Pieces f)
told_by bytes f le is Memory h = inl refl
told_by bytes f le is TooLarge h = absurd (omega (arith, le, h))
told_by bytes f le is (Pieces g) h = inr (ap Pieces (one_fault f g (pieces_of bytes) is h.1))
told_by bytes f le is (Grammar g) h = absurd (clash h.1.state f (pieces_of bytes) h.1.cut is)

not_read : (bytes : List ℕ) (f : ParseFault) → pieces_of bytes ≡ Err f → (t : SpmdText) → IsSpmdText t bytes → ⊥
not_read bytes f is t h = clash h.state f (pieces_of bytes) h.cut is

pub piece_faults_are_told : PieceFaultsAreTold
piece_faults_are_told bytes f le is = (not_read bytes f is, told_by bytes f le is)
