-- The entries of a map, in the code's view.
use Rattle.std.specs.Prelude.{ℕ, List, map}
use Rattle.unroll.specs.declared.call.Placed.{Placed}
use Rattle.spmd_program.specs.declared.maps.Sources.{Sources}
use Rattle.spmd_program.specs.Maps.{map_entries, map_entry, words_at}

abbrev pub words_of_place : Sources → Placed → List ℕ
words_of_place s p = words_at s.path.now s.names.now (map (λ w. w.items) s.says.now) s.turns.now p

abbrev pub entry_of_call : Sources → ℕ → Placed → List ℕ
entry_of_call s number p = map_entry s.path.now s.names.now (map (λ w. w.items) s.says.now) s.turns.now number p

abbrev pub entries_of : Sources → ℕ → List Placed → List ℕ
entries_of s place calls = map_entries s.path.now s.names.now (map (λ w. w.items) s.says.now) s.turns.now place calls
