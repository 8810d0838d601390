use Rattle.std.proofs.Common.{List, ℕ, subst}
use Rattle.places.specs.Marks.{EndsWithVerb}
use Rattle.places.proofs.Names.{same_stem}
use Rattle.places.proofs.marks.ends_in_name.Goals as goal

pub returns : goal.returns
returns c =
    let text = c.args.text.now in
    let stem = c.stem_of.result.now in (
      λ h. (stem, c.stem_of.ensures, c.ends_with_verb.ensures.0 h),
      λ ends. c.ends_with_verb.ensures.1 (subst (λ (s : List ℕ). EndsWithVerb s) (same_stem text ends.0 stem ends.1 c.stem_of.ensures) ends.2),
    )
