use Rattle.std.proofs.Common.{refl}
use Rattle.spmd_text.specs.parts.Parts.{index_part}
use Rattle.spmd_text.proofs.LabelForms.{label_read_as}
use Rattle.spmd_text.proofs.Parts.{keeps_of, on_flag, reads_then}
use Rattle.spmd_text.proofs.Strict.{index_strict}
use Rattle.spmd_text.proofs.calls.label.Goals as goal

pub returns : goal.returns
returns c =
    let one = c.name-name.ensures.reads in
    let two = reads_then index_strict (λ y here rest may e ends. refl) one (on_flag index_part one.goes c.index-index.ensures) in
    let refused = c.refuse_label.ensures in
    label_read_as c.name-name.result c.index-index.result c.is_some.result c.is_some.ensures two (keeps_of refused.goes) refused.sound refused.fits
