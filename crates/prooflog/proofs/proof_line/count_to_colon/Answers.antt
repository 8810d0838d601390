use Rattle.std.proofs.Common.{ap, arith}
use Rattle.std.specs.Option.{option_copied}
use Rattle.prooflog.proofs.WordsRead.{bytes_left, fewer_left}
use Rattle.prooflog.proofs.proof_line.count_to_colon.Goals as goal

pub loop-rest-preserved : goal.loop-rest-preserved
loop-rest-preserved c =
    omega (arith, c.loop-rest.invariant, ap (λ o. bytes_left (option_copied o)) c.in-Some.is, fewer_left c.cut_word.result.1 c.in-Some.words.now c.cut_word.ensures.shorter)
