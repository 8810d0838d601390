-- Pages one after another.
use Rattle.std.specs.Prelude.{◌≡◌, ℕ, ◌+◌, ◌*◌, ◌^◌, ◌<◌, List, length}
use Rattle.std.specs.List.{flat_map, AllByRecursion}

-- the pages one after another
abbrev pub joined_pages : {X : Type 0} → List (List X) → List X
joined_pages = flat_map (λ page. page)

-- each page has so many lines
abbrev pub AreFull : {X : Type 0} → ℕ → List (List X) → Type 0
AreFull {X} size pages = AllByRecursion (λ (page : List X). length page ≡ size) pages

-- full pages and fewer lines after them, in all no more than a log may have
pub record IsPaged {X : Type 0} (size : ℕ) (pages : List (List X)) (last : List X) : Type 0 where
  pub full : AreFull size pages
  pub is_open : length last < size
  pub few : length pages * size + length last < 2 ^ 63
