use Rattle.std.proofs.Common.{drop, length}
use Rattle.std.proofs.lemmas.Bool.Decides.{Decides-eqb}
use Rattle.std.proofs.lemmas.Slice.Eq.{starts_is}
use Rattle.places.proofs.map.is_begun.Goals as goal

pub returns : goal.returns
returns c =
    let line = c.args.line.now in
    let front = c.args.front.now in
    let both = starts_is Decides-eqb line front c.starts_with.result c.starts_with.ensures.value in
    (λ h. (drop (length front) line, both.0 h), λ begins. both.1 begins.0 begins.1)
