use Rattle.std.proofs.Common.{rules, ◌≡◌, [], ◌∷◌, ◌++◌}
use Rattle.choices.specs.Pins.{line_with}
use Rattle.choices.proofs.Lines.{pinned_of}
use Rattle.choices.proofs.pinning.with_choice.Goals as goal

pub returns : goal.returns
returns c =
    let before = c.in-Some.before.now in
    let old = c.in-Some.old.now in
    let after = c.in-Some.after.now in
    let taken = c.args.taken in
    let is : c.extend_from_slice-2.new.self.items ≡ ((before ++ line_with taken old) ++ 10 ∷ []) ++ after = search rules in
    pinned_of c.args.text.now c.args.number taken before old after c.extend_from_slice-2.new.self.items c.in-Some.ensures is
