-- What files held before.
use Rattle.std.proofs.Common.{◌≡◌, ℕ, List, subst}
use Rattle.std.specs.Prelude.{Option}
use Rattle.files.specs.Contents.{AreAll}

-- what a file held after nothing has changed
pub as_before : (old new : List ℕ → Option (List ℕ)) (path bytes : List ℕ) → new ≡ old → AreAll (new path) bytes → AreAll (old path) bytes
as_before old new path bytes same h = subst (λ (files : List ℕ → Option (List ℕ)). AreAll (files path) bytes) same h
