use Rattle.std.proofs.Common.{arith}
use Rattle.std.proofs.lemmas.Str.Pattern.{split_once_first}
use Rattle.spmd_program.proofs.SettingParts.{no_parts, parts}
use Rattle.spmd_program.proofs.settings.parts_of.Goals as goal

pub returns : goal.returns
returns c =
    let around = split_once_first 61 c.args.word.now c.split_once.result c.split_once.ensures.cases (omega arith) in
    record {
      none = no_parts c.args.word.now c.split_once.result around;
      some = parts c.args.word.now c.split_once.result around;
    }
