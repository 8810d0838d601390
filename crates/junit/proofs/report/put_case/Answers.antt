use Rattle.std.proofs.Common.{◌++◌, ◌∙◌, ap, List, ℕ, codes}
use Rattle.junit.specs.Report.{escaped, outcome_text}
use Rattle.junit.proofs.Chains.{behind_if}
use Rattle.junit.proofs.report.put_case.Goals as goal

pub returns : goal.returns
returns c =
    let last = c.put_text-3.result in
    let end = c.put_text-3.new.out.items in
    let foot : List ℕ = codes "</testcase>\n" in
    let answer : List ℕ = outcome_text c.args.outcome c.args.text.now ++ foot in
    let name : List ℕ = escaped c.args.name.now in
    let four = behind_if last c.put_text-2.new.out.items c.put_told.new.out.items end (outcome_text c.args.outcome c.args.text.now) foot c.in_ok-put_told.ensures c.put_text-3.ensures in
    let three = behind_if last c.put_escaped.new.out.items c.put_text-2.new.out.items end (codes "\">") answer c.in_ok-put_text-2.ensures four in
    let two = behind_if last c.put_text.new.out.items c.put_escaped.new.out.items end name (codes "\">" ++ answer)
    (c.in_ok-put_escaped.ensures ∙ ap (λ (n : List ℕ). c.put_text.new.out.items ++ escaped n) c.as_bytes.ensures.value) three in
    behind_if last c.args.out.now.items c.put_text.new.out.items end (codes "<testcase classname=\"mpiprove\" name=\"") (name ++ (codes "\">" ++ answer)) c.in_ok-put_text.ensures two
