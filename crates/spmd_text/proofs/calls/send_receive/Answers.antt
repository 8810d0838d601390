use Rattle.std.proofs.Common.{refl}
use Rattle.spmd_text.specs.declared.piece.Piece.TheVariants as piece
use Rattle.spmd_text.specs.declared.piece.Word.TheVariants as word
use Rattle.spmd_text.specs.parts.Parts.{value_part, wild_part}
use Rattle.spmd_text.proofs.CallForms.{comm_part, send_receive_as}
use Rattle.spmd_text.proofs.Following.{comma_stops, word_stops}
use Rattle.spmd_text.proofs.Parts.{on_flag, reads_as, reads_then}
use Rattle.spmd_text.proofs.Strict.{optional_strict, value_strict, wild_strict}
use Rattle.spmd_text.proofs.calls.send_receive.Goals as goal

pub returns : goal.returns
returns c =
    let one = c.destination-destination.ensures in
    let two = reads_then (λ y. refl) (λ y here rest may e ends. comma_stops here rest e) one c.comma.ensures.reads in
    let three = reads_then value_strict (λ y here rest may e ends. refl) two (on_flag value_part two.goes c.expression_at-send_tag.ensures) in
    let four = reads_then (λ y. refl) (λ y here rest may e ends. comma_stops here rest e) three c.comma-2.ensures.reads in
    let five = reads_then wild_strict (λ y here rest may e ends. refl) four (on_flag wild_part four.goes c.wild-source.ensures) in
    let six = reads_then (λ y. refl) (λ y here rest may e ends. comma_stops here rest e) five c.comma-3.ensures.reads in
    let seven = reads_then wild_strict (λ y here rest may e ends. refl) six (on_flag wild_part six.goes c.wild-receive_tag.ensures) in
    let eight = reads_then (optional_strict (piece.Word word.Comm)) (λ y here rest may e ends. word_stops word.Comm refl y here rest e ends) seven (on_flag comm_part seven.goes c.optional-communicator.ensures) in
    reads_as (send_receive_as c.args.parser.now c.destination-destination.result c.expression_at-send_tag.result c.wild-source.result c.wild-receive_tag.result c.optional-communicator.result) eight
