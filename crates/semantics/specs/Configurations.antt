-- Which configurations a program has, and which calls are open in them.
use Rattle.std.specs.Prelude.{◌≡◌, ℕ, Bool, not, ◌&&◌, length}
use Rattle.callorder.specs.Programs.{MpiProgram}
use Rattle.semantics.specs.Machine.{Configuration, is_issued, is_matched}

-- the configuration has a place for each rank and each call of the program
pub record IsConfigurationOf (p : MpiProgram) (m : Configuration) : Type 0 where
  pub next : length m.next ≡ p.ranks
  pub buffered : length m.buffered ≡ length p.calls
  pub partner : length m.partner ≡ length p.calls

-- the call is issued and not matched
abbrev pub is_open_call : MpiProgram → Configuration → ℕ → Bool
is_open_call p m c = is_issued p m c && not (is_matched m c)
