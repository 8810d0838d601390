-- The texts, and the two files behind them.
use Rattle.std.proofs.Common.{◌∙◌, ℕ, ◌+◌, List, [], ◌∷◌, ◌++◌, ap, arith, codes, map, refl}
use Rattle.std.specs.Global.{Vec}
use Rattle.session.specs.Phasing.{order_lines, path_in}
use Rattle.session.proofs.CutPages.{outputs_are}
use Rattle.session.proofs.cut_files.outputs_of.Goals as goal

pub returns : goal.returns
returns c =
    let given = c.args.phases in
    let (parts, are, have) = c.in_ok-texts.ensures in
    let folder = c.args.folder.now in
    outputs_are folder given parts c.in_ok-texts.texts _ c.into_bytes.result.items c.in_ok-order.order.items c.requires are have
    (c.in_ok-put_file-2.ensures ∙ ap (λ files. files ++ record { path = path_in folder (codes "phases"); text = c.in_ok-order.order.items } ∷ []) c.in_ok-put_file.ensures)
    (ap (λ (v : Vec ℕ). v.items) c.into_bytes.ensures.value) (c.in_ok-order.ensures ∙ ap (λ (order : List ℕ). order_lines (map (λ n. n + 1) order)) c.deref.ensures.value)
    (omega (arith, c.len-count.ensures, given.order.ok.0)) (omega (arith, c.len-different.ensures, given.texts.ok.0)) refl
