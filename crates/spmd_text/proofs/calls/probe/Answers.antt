use Rattle.std.proofs.Common.{refl}
use Rattle.spmd_text.specs.declared.piece.Piece.TheVariants as piece
use Rattle.spmd_text.specs.declared.piece.Word.TheVariants as word
use Rattle.spmd_text.specs.parts.Parts.{wild_part}
use Rattle.spmd_text.proofs.CallForms.{comm_part, probe_as}
use Rattle.spmd_text.proofs.Following.{comma_stops, word_stops}
use Rattle.spmd_text.proofs.Parts.{on_flag, reads_as, reads_then}
use Rattle.spmd_text.proofs.Strict.{optional_strict, wild_strict}
use Rattle.spmd_text.proofs.calls.probe.Goals as goal

pub returns : goal.returns
returns c =
    let one = c.wild-source.ensures in
    let two = reads_then (λ y. refl) (λ y here rest may e ends. comma_stops here rest e) one c.comma.ensures.reads in
    let three = reads_then wild_strict (λ y here rest may e ends. refl) two (on_flag wild_part two.goes c.wild-tag.ensures) in
    let four = reads_then (optional_strict (piece.Word word.Comm)) (λ y here rest may e ends. word_stops word.Comm refl y here rest e ends) three (on_flag comm_part three.goes c.optional-communicator.ensures) in
    reads_as (probe_as c.args.parser.now c.wild-source.result c.wild-tag.result c.optional-communicator.result) four
