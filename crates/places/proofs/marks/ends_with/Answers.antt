use Rattle.std.proofs.Common.{◌-◌, length, take}
use Rattle.std.proofs.lemmas.Bool.Decides.{Decides-eqb}
use Rattle.std.proofs.lemmas.Slice.Eq.{ends_is}
use Rattle.places.proofs.marks.ends_with.Goals as goal

pub returns : goal.returns
returns c =
    let text = c.args.text.now in
    let end = c.args.end.now in
    let both = ends_is Decides-eqb text end c.ends_with.result c.ends_with.ensures.value in
    (λ h. (take (length text - length end) text, both.0 h), λ ends. both.1 ends.0 ends.1)
