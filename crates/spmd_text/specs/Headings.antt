-- Which text is an SPMD text: behind blanks, blank lines and comments its first word begins with
-- `spmd`.
use Rattle.std.specs.Prelude.{ℕ, codes, Bool, true, false, ◌||◌, not, nat_eq, List, [], ◌∷◌, take, Option, Some, None, if◌then◌else◌}
use Rattle.std.specs.Str.{bytes_eq}

-- the end of a line, a blank, a tab or a CR
abbrev pub is_blank : ℕ → Bool
is_blank b = nat_eq b 10 || nat_eq b 32 || nat_eq b 9 || nat_eq b 13

-- whether a comment is going on behind this byte; none, where the first word begins with it
abbrev pub comment_after : Bool → ℕ → Option Bool
comment_after true b = Some (not (nat_eq b 10))
comment_after false b = if nat_eq b 35 then Some true else if is_blank b then Some false else None

abbrev pub begins_with_spmd : List ℕ → Bool
begins_with_spmd bytes = bytes_eq (take 4 bytes) (codes "spmd")

abbrev pub first_word : Option Bool → List ℕ → (Bool → Bool) → Bool
first_word None bytes go = begins_with_spmd bytes
first_word (Some comment) bytes go = go comment

unfoldable pub is_spmd_from : Bool → List ℕ → Bool
is_spmd_from comment [] = false
is_spmd_from comment (b ∷ bs) = first_word (comment_after comment b) (b ∷ bs) (λ c. is_spmd_from c bs)

abbrev pub is_spmd : List ℕ → Bool
is_spmd bytes = is_spmd_from false bytes
