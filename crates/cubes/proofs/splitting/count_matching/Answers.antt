use Rattle.std.proofs.Common.{◌≡◌, ℕ, not, length, List, ap, ◌∙◌, arith}
use Rattle.std.specs.List.{filter}
use Rattle.callorder.specs.Programs.{is_probe}
use Rattle.candidates.specs.Pairs.{matching_pairs}
use Rattle.candidates.proofs.PairKinds.{taken_pairs}
use Rattle.cubes.proofs.CubeTrees.{few_matching}
use Rattle.cubes.proofs.splitting.count_matching.Goals as goal

pub returns-clause-same : goal.returns-clause-same
returns-clause-same c =
    let p = c.args.program.now in
    c.count_taken.ensures
    ∙ ap (λ (l : List (ℕ × ℕ)). length (filter (λ (pair : ℕ × ℕ). not (is_probe p pair.1)) l)) (c.as_slice.ensures ∙ c.requires)
    ∙ ap length (taken_pairs p)

pub returns-clause-few : goal.returns-clause-few
returns-clause-few c =
    let p = c.args.program.now in
    let same : c.count_taken.result ≡ length (matching_pairs p) =
    c.count_taken.ensures
    ∙ ap (λ (l : List (ℕ × ℕ)). length (filter (λ (pair : ℕ × ℕ). not (is_probe p pair.1)) l)) (c.as_slice.ensures ∙ c.requires)
    ∙ ap length (taken_pairs p)
    in
    omega (arith, same, few_matching p, ap length c.requires)
