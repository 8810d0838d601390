-- The settings of a text's parameters, each written NAME=VALUE.
use Rattle.std.specs.Prelude.{◌≡◌, ℕ, ◌+◌, ◌-◌, ◌*◌, ◌^◌, ℤ, pos, ◌-ℤ◌, Bool, ◌&&◌, ◌==◌, nat_eq, nat_le, nat_lt, List, [], ◌∷◌, length, map, Option, Some, None, option_map, Result, Ok, Err, slice_get, if◌then◌else◌}
use Rattle.std.specs.List.{after_first, before_first, list_any, position_or_len}
use Rattle.std.specs.Global.{Vec}
use Rattle.spmd_text.specs.declared.reading.SpmdText.{SpmdText}
use Rattle.spmd_text.specs.Tokens.{place_from}
use Rattle.unroll.specs.declared.value.Value.{Value}
use Rattle.unroll.specs.declared.value.Value.TheVariants.{Number}
use Rattle.unroll.specs.Runs.{set_value}
use Rattle.unroll.specs.Statements.{has_value}
use Rattle.spmd_program.specs.declared.settings.BadSetting.{BadSetting}
use Rattle.spmd_program.specs.declared.settings.SettingFault.{SettingFault}
use Rattle.spmd_program.specs.declared.settings.SettingFault.TheVariants as fault

-- ---- a setting's parts

-- the name stands before the first `=`, and the value behind it
abbrev pub is_equals : ℕ → Bool
is_equals b = b == 61

abbrev pub has_equals : List ℕ → Bool
has_equals word = nat_lt (position_or_len is_equals word) (length word)

abbrev pub name_in_setting : List ℕ → List ℕ
name_in_setting word = before_first is_equals word

abbrev pub value_in : List ℕ → List ℕ
value_in word = after_first is_equals word

-- the number of the digits behind those that made this value: below 2^63, and digits alone
abbrev pub digits_from : ℕ → List ℕ → Option ℕ
digits_from value [] = Some value
digits_from value (d ∷ ds) =
    if (nat_le 48 d && nat_le d 57) && nat_lt (value * 10 + (d - 48)) (2 ^ 63) then digits_from (value * 10 + (d - 48)) ds else None

-- one digit or more, at most 19
abbrev pub digits_in : List ℕ → Option ℕ
digits_in ds = if nat_eq (length ds) 0 then None else if nat_lt 19 (length ds) then None else digits_from 0 ds

-- the number that a text spells, with a minus before its digits where it is below 0
abbrev pub number_in_value : List ℕ → Option ℤ
number_in_value [] = None
number_in_value (c ∷ cs) = if c == 45 then option_map (λ n. pos 0 -ℤ pos n) (digits_in cs) else option_map pos (digits_in (c ∷ cs))

-- ---- the values that settings give

-- no name has a value
abbrev pub unset : List (Vec ℕ) → List (Option Value)
unset names = map (λ _. None) names

abbrev pub of_parameter : SpmdText → Option ℕ → Option ℕ
of_parameter t None = None
of_parameter t (Some place) = if list_any (λ p. nat_eq p place) t.parameters.items then Some place else None

-- the place of a parameter's name
abbrev pub parameter_of : SpmdText → List ℕ → Option ℕ
parameter_of t name = of_parameter t (place_from name 0 (map (λ n. n.items) t.names.items))

abbrev pub set_place : List (Option Value) → ℤ → Option ℕ → Result (List (Option Value)) SettingFault
set_place values number None = Err fault.NoParameter
set_place values number (Some place) =
    if has_value (slice_get values place) then Err fault.Twice else Ok (set_value values place (Some (Number number)))

abbrev pub set_number : SpmdText → List (Option Value) → List ℕ → Option ℤ → Result (List (Option Value)) SettingFault
set_number t values name None = Err fault.NoNumber
set_number t values name (Some number) = set_place values number (parameter_of t name)

-- one setting more
abbrev pub set_one : SpmdText → List (Option Value) → List ℕ → Result (List (Option Value)) SettingFault
set_one t values word = if has_equals word then set_number t values (name_in_setting word) (number_in_value (value_in word)) else Err fault.NoEquals

-- a setting, and what is wrong with it
pub record Unset : Type 0 where
  pub word : List ℕ
  pub why : SettingFault

abbrev pub on_set : List ℕ → Result (List (Option Value)) SettingFault → (List (Option Value) → Result (List (Option Value)) Unset) → Result (List (Option Value)) Unset
on_set word (Err why) go = Err (record { word = word; why = why })
on_set word (Ok values) go = go values

-- all settings, one after another, or the first that is wrong
abbrev pub set_all : SpmdText → List (Option Value) → List (List ℕ) → Result (List (Option Value)) Unset
set_all t values [] = Ok values
set_all t values (w ∷ ws) = on_set w (set_one t values w) (λ v. set_all t v ws)

-- the values with which a text begins
abbrev pub values_of_settings : SpmdText → List (List ℕ) → Result (List (Option Value)) Unset
values_of_settings t words = set_all t (unset t.names.items) words

-- ---- the code's view

-- values were set so, or the first setting that is wrong was found
abbrev pub Sets : Result (Unit {0}) BadSetting → Result (List (Option Value)) Unset → List (Option Value) → Type 0
Sets (Ok x) wanted values = wanted ≡ Ok values
Sets (Err bad) wanted values = wanted ≡ Err (record { word = bad.word.now; why = bad.fault })

abbrev pub SetsOne : Result (Unit {0}) SettingFault → Result (List (Option Value)) SettingFault → List (Option Value) → Type 0
SetsOne (Ok x) wanted values = wanted ≡ Ok values
SetsOne (Err why) wanted values = wanted ≡ Err why
