use Rattle.clocks.proofs.rows.forget_read.Goals as goal

pub returns : goal.returns
returns c = λ numbering knows are. c.forget-4.ensures numbering knows (c.forget-3.ensures numbering knows (c.forget-2.ensures numbering knows (c.forget.ensures numbering knows are)))
