use Rattle.std.proofs.Common.{◌++◌, [], ◌∷◌, map, arith}
use Rattle.std.proofs.lemmas.Grind.{common_steps}
use Rattle.prooflog.specs.Refutations.{item_line, a_proof, the_tree}
use Rattle.prooflog.specs.parts.Reading.{opening_lines, FitsAbove}
use Rattle.prooflog.proofs.Fronts.{after_more}
use Rattle.prooflog.proofs.refutation_reader.read_refutation.Goals as goal

pub returns-in-Err-clause-fault : goal.returns-in-Err-clause-fault
returns-in-Err-clause-fault c = c.in-Err.ensures.fault c.args.version c.args.variables c.args.clauses c.requires.variables c.requires.clauses

pub returns-in-Err-read_nodes-clause-fault : goal.returns-in-Err-read_nodes-clause-fault
returns-in-Err-read_nodes-clause-fault c =
    let lines = c.in-Ok.found.0.items in
    let fits : FitsAbove c.args.variables c.args.clauses c.in-Ok.found.0.items = record { variables_in_range = c.requires.variables; clauses_in_range = c.requires.clauses; lines_in_range = c.in-Ok.ensures.in_range; few = c.in-Ok.ensures.few } in
    after_more (opening_lines c.args.version c.args.variables c.args.clauses) (map item_line (map a_proof lines ++ the_tree ∷ [])) c.args.bytes.now c.in-Ok.found.1.now c.in-Err-read_nodes.fault c.in-Ok.ensures.cut
    (c.in-Err-read_nodes.ensures.fault c.args.version c.args.variables c.args.clauses lines fits (grind (arith, common_steps, c.len.ensures, c.in-Ok.ensures.few)))

pub returns-clause-cut : goal.returns-clause-cut
returns-clause-cut c = grind (arith, common_steps)
