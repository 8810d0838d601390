use Rattle.std.proofs.Common.{◌++◌, ◌∙◌, List, ℕ, ap, get_or, sym, take}
use Rattle.std.specs.List.{flat_map}
use Rattle.std.proofs.lemmas.List.{append_assoc}
use Rattle.places.proofs.Pieces.{next_bytes}
use Rattle.places.specs.Woven.{shown}
use Rattle.places.proofs.weaving.put_words.Goals as goal

pub loop-byte-preserved : goal.loop-byte-preserved
loop-byte-preserved c =
    let words = c.args.words.now in
    let index = c.loop-byte.byte-index in
    let done = flat_map (shown c.args.form) (take index words) in
    c.in_ok-put_byte.ensures ∙ ap (λ (l : List ℕ). l ++ shown c.args.form (get_or words index 0)) c.loop-byte.invariant
    ∙ append_assoc c.args.out.now.items done (shown c.args.form (get_or words index 0))
    ∙ ap (λ (l : List ℕ). c.args.out.now.items ++ l) (sym (next_bytes (shown c.args.form) words index c.loop-byte-test.true))
