use Rattle.std.proofs.Common.{[], ◌∷◌, ◌++◌}
use Rattle.std.specs.Prelude.{codes}
use Rattle.plaintext.specs.Plain.{numeral}
use Rattle.exports.specs.Dimacs.{event_words}
use Rattle.exports.proofs.Texts.{more_words}
use Rattle.exports.proofs.comments.put_equal_bits.Goals as goal

pub returns : goal.returns
returns c =
    let old = c.args.out.now.items in
    let bits = numeral c.args.bits in
    let one = more_words old _ _ (bits ∷ []) (codes "equal" ∷ []) c.in_ok-put_number.ensures c.in_ok-put_word.ensures in
    let two = more_words old _ _ (bits ∷ codes "equal" ∷ []) (codes "bits" ∷ []) one c.in_ok-put_word-2.ensures in
    let three = more_words old _ _ (bits ∷ codes "equal" ∷ codes "bits" ∷ []) (codes "of" ∷ []) two c.in_ok-put_word-3.ensures in
    more_words old _ _ (bits ∷ codes "equal" ∷ codes "bits" ∷ codes "of" ∷ []) (event_words c.args.program.now c.args.first.now ++ codes "and" ∷ event_words c.args.program.now c.args.second.now) three c.in_ok-put_events.ensures
