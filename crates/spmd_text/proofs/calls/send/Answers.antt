use Rattle.std.proofs.Common.{refl}
use Rattle.spmd_text.specs.declared.piece.Piece.TheVariants as piece
use Rattle.spmd_text.specs.declared.piece.Word.TheVariants as word
use Rattle.spmd_text.specs.parts.Parts.{value_part}
use Rattle.spmd_text.proofs.CallForms.{comm_part, send_as}
use Rattle.spmd_text.proofs.Following.{comma_stops, word_stops}
use Rattle.spmd_text.proofs.Parts.{on_flag, reads_as, reads_then}
use Rattle.spmd_text.proofs.Strict.{optional_strict, value_strict}
use Rattle.spmd_text.proofs.calls.send.Goals as goal

pub returns : goal.returns
returns c =
    let one = c.request-request.ensures in
    let two = reads_then value_strict (λ y here rest may e ends. refl) one (on_flag value_part one.goes c.destination-destination.ensures) in
    let three = reads_then (λ y. refl) (λ y here rest may e ends. comma_stops here rest e) two c.comma.ensures.reads in
    let four = reads_then value_strict (λ y here rest may e ends. refl) three (on_flag value_part three.goes c.expression_at-tag.ensures) in
    let five = reads_then (optional_strict (piece.Word word.Comm)) (λ y here rest may e ends. word_stops word.Comm refl y here rest e ends) four (on_flag comm_part four.goes c.optional-communicator.ensures) in
    reads_as (send_as c.args.parser.now c.args.mode c.args.started c.request-request.result c.destination-destination.result c.expression_at-tag.result c.optional-communicator.result) five
