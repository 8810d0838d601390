use Rattle.std.proofs.Common.{rules, ◌≡◌, ◌++◌, ◌∙◌, List, ℕ, append_assoc}
use Rattle.explain.proofs.text.below_line.Goals as goal

regrouped : (a b c d : List ℕ) → ((a ++ b) ++ c) ++ d ≡ a ++ (b ++ (c ++ d))
regrouped a b c d = simp append_assoc

pub returns : goal.returns
returns c =
    let line = c.args.line.now in
    let front = c.args.front.now in
    let decided = c.args.decided.now in
    let back = c.args.back.now in
    let is : c.extend_from_slice-3.new.self.items ≡ ((line ++ front) ++ decided) ++ back = search rules in
    record { front = front; back = back; is = is ∙ regrouped line front decided back }
