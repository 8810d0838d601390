use Rattle.std.proofs.Common.{◌≡◌, drop, map}
use Rattle.spmd_text.specs.Tokens.{place_from}
use Rattle.spmd_text.proofs.lexer.place_of.Given as goal

-- the names that are left, from this place on, have the word where all have it
abbrev pub invariant-loop-place : goal.invariant-loop-place
invariant-loop-place l = place_from l.word l.place (map (λ n. n.items) (drop l.place l.names)) ≡ place_from l.word 0 (map (λ n. n.items) l.names)
