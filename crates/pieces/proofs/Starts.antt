-- Where pieces start.
use Rattle.std.proofs.Common.{◌≡◌, ℕ, ◌+◌, ◌*◌, ◌/◌, ◌<◌, ◌≤◌, arith}
use Rattle.std.proofs.Math.Nat.{div-mul-le_self, div-le_of_le-mul, mul-le-mul_right}
use Rattle.std.proofs.lemmas.Nat.{le-div}
use Rattle.pieces.specs.Pieces.{start_of_piece}

pub starts_rise : (lines pieces piece : ℕ) → 0 < pieces → start_of_piece lines pieces piece ≤ start_of_piece lines pieces (piece + 1)
starts_rise lines pieces piece some =
    let next : piece * lines ≤ (piece + 1) * lines = mul-le-mul_right lines (omega arith) in
    let rounded : piece * lines / pieces * pieces ≤ piece * lines = div-mul-le_self (piece * lines) pieces in
    le-div (piece * lines / pieces) ((piece + 1) * lines) pieces some (omega (arith, next, rounded))

pub starts_within : (lines pieces piece : ℕ) → piece < pieces → start_of_piece lines pieces (piece + 1) ≤ lines
starts_within lines pieces piece low = div-le_of_le-mul pieces (mul-le-mul_right lines (omega arith))
