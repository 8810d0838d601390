use Rattle.std.proofs.Common.{◌≡◌, ◌∙◌, ℕ, List, IfOk, codes, string_bytes, subst}
use Rattle.session.specs.Lines.{object_with}
use Rattle.session.proofs.racing.json_race.Goals as goal

pub returns : goal.returns
returns c =
    subst (λ (m : List ℕ). IfOk c.object_with.result (λ t. string_bytes t ≡ object_with (codes "unknown race") 2 (codes "race") m))
    (c.deref.ensures ∙ c.in_ok-object.ensures) c.object_with.ensures
