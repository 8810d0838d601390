use Rattle.std.proofs.Common.{◌≡◌, drop, map}
use Rattle.spmd_program.specs.Settings.{set_all}
use Rattle.spmd_program.proofs.settings.set_all.Given as goal

-- the settings that are left do what all do
abbrev pub invariant-loop-word : goal.invariant-loop-word
invariant-loop-word l = set_all l.text l.values.items (map (λ w. w.now) (drop l.word-index l.words)) ≡ set_all l.text l.fn.values.items (map (λ w. w.now) l.words)
