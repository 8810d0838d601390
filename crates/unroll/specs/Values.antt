-- Values and operators. Numbers are integers of 64 bits: what is beyond them is an error.
use Rattle.std.specs.Prelude.{ℕ, ◌^◌, ℤ, pos, negsuc, ◌+ℤ◌, ◌-ℤ◌, ◌*ℤ◌, Bool, true, false, not, nat_lt, int_lt, int_le, bit_xor, Option, Some, None, Result, Ok, Err, if◌then◌else◌}
use Rattle.std.specs.Int.{int_div_euclid, int_rem_euclid}
use Rattle.spmd_tree.specs.declared.tree.Operator.{Operator}
use Rattle.spmd_tree.specs.declared.tree.Operator.TheVariants.{Plus, Minus, Times, Quotient, Remainder, Left, Right, Exclusive}
use Rattle.spmd_tree.specs.declared.tree.Comparison.{Comparison}
use Rattle.spmd_tree.specs.declared.tree.Comparison.TheVariants.{Same, Other, Below, UpTo, Above, From}
use Rattle.unroll.specs.declared.value.Value.{Value}
use Rattle.unroll.specs.declared.value.Value.TheVariants.{Number, Null, Truth}
use Rattle.unroll.specs.declared.value.FaultReason.{FaultReason}
use Rattle.unroll.specs.declared.value.FaultReason.TheVariants as reason

-- a number of 64 bits
abbrev pub fits_number : ℤ → Bool
fits_number (pos n) = nat_lt n (2 ^ 63)
fits_number (negsuc n) = nat_lt n (2 ^ 63)

-- the number, unless it is beyond 64 bits
abbrev pub checked : ℤ → Result Value FaultReason
checked z = if fits_number z then Ok (Number z) else Err reason.Overflow

-- a number that was found, or one beyond 64 bits
abbrev pub number_or_overflow : Option ℤ → Result Value FaultReason
number_or_overflow None = Err reason.Overflow
number_or_overflow (Some z) = Ok (Number z)

-- the number, where it is from 0 on and below the limit
abbrev pub below : ℤ → ℕ → Option ℕ
below (pos n) limit = if nat_lt n limit then Some n else None
below (negsuc n) limit = None

abbrev pub two_to : Option ℕ → Option ℤ
two_to None = None
two_to (Some n) = Some (pos (2 ^ n))

-- two to the power of 0 to 62
abbrev pub power : ℤ → Option ℤ
power by = two_to (below by 63)

-- the quotient, rounded down, by a number above 0
abbrev pub quotient : ℤ → ℤ → Result Value FaultReason
quotient a b = if int_le b (pos 0) then Err (reason.Divisor b) else Ok (Number (int_div_euclid a b))

-- Euclid's remainder by a number above 0: it is 0 or more, and below that number
abbrev pub remainder : ℤ → ℤ → Result Value FaultReason
remainder a b = if int_le b (pos 0) then Err (reason.Divisor b) else Ok (Number (int_rem_euclid a b))

abbrev pub shifted_left : Option ℤ → ℤ → ℤ → Result Value FaultReason
shifted_left None a b = Err (reason.Shift b)
shifted_left (Some factor) a b = checked (a *ℤ factor)

abbrev pub shifted_right : Option ℤ → ℤ → ℤ → Result Value FaultReason
shifted_right None a b = Err (reason.Shift b)
shifted_right (Some divisor) a b = Ok (Number (int_div_euclid a divisor))

-- bit by bit, of numbers that aren't below 0
abbrev pub exclusive : ℤ → ℤ → Result Value FaultReason
exclusive (negsuc m) b = Err (reason.BelowZero (negsuc m))
exclusive (pos m) (negsuc n) = Err (reason.BelowZero (negsuc n))
exclusive (pos m) (pos n) = checked (pos (bit_xor m n))

abbrev pub operate : Operator → ℤ → ℤ → Result Value FaultReason
operate Plus a b = checked (a +ℤ b)
operate Minus a b = checked (a -ℤ b)
operate Times a b = checked (a *ℤ b)
operate Quotient a b = quotient a b
operate Remainder a b = remainder a b
operate Left a b = shifted_left (power b) a b
operate Right a b = shifted_right (power b) a b
operate Exclusive a b = exclusive a b

abbrev pub as_number : Value → Result ℤ FaultReason
as_number (Number n) = Ok n
as_number Null = Err reason.NullNumber
as_number (Truth t) = Err reason.Kind

abbrev pub as_truth : Value → Result Bool FaultReason
as_truth (Truth t) = Ok t
as_truth (Number n) = Err reason.Kind
as_truth Null = Err reason.Kind

-- numbers are the same or not, and null is the same as null alone
abbrev pub same_whole_number : ℤ → ℤ → Bool
same_whole_number a b = if int_le a b then int_le b a else false

abbrev pub alike : Value → Value → Result Bool FaultReason
alike (Number x) (Number y) = Ok (same_whole_number x y)
alike (Number x) Null = Ok false
alike (Number x) (Truth t) = Err reason.Kind
alike Null (Number y) = Ok false
alike Null Null = Ok true
alike Null (Truth t) = Err reason.Kind
alike (Truth t) b = Err reason.Kind

abbrev pub opposite_truth : Result Bool FaultReason → Result Bool FaultReason
opposite_truth (Ok b) = Ok (not b)
opposite_truth (Err e) = Err e

abbrev pub tested : (ℤ → ℤ → Bool) → Result ℤ FaultReason → Result ℤ FaultReason → Result Bool FaultReason
tested test (Err e) b = Err e
tested test (Ok x) (Err e) = Err e
tested test (Ok x) (Ok y) = Ok (test x y)

abbrev pub ordered : (ℤ → ℤ → Bool) → Value → Value → Result Bool FaultReason
ordered test a b = tested test (as_number a) (as_number b)

abbrev pub compares : Comparison → Value → Value → Result Bool FaultReason
compares Same a b = alike a b
compares Other a b = opposite_truth (alike a b)
compares Below a b = ordered (λ x y. int_lt x y) a b
compares UpTo a b = ordered (λ x y. int_le x y) a b
compares Above a b = ordered (λ x y. int_lt y x) a b
compares From a b = ordered (λ x y. int_le y x) a b
