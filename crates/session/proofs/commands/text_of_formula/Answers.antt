use Rattle.session.proofs.commands.text_of_formula.Goals as goal

pub returns-then-dimacs-clause-text : goal.returns-then-dimacs-clause-text
returns-then-dimacs-clause-text g c = rw c.if-dimacs.true c.dimacs_formula.ensures.text

pub returns-else-dimacs-clause-text : goal.returns-else-dimacs-clause-text
returns-else-dimacs-clause-text g c = rw c.if-dimacs.false c.formula_text.ensures.text
