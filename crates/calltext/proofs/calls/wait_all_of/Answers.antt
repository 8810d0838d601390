use Rattle.std.proofs.Common.{◌∙◌, refl}
use Rattle.std.proofs.lemmas.List.{append-nil}
use Rattle.calltext.specs.declared.call.CallLine.TheVariants.{WaitAll}
use Rattle.calltext.proofs.CallReads.{some_of}
use Rattle.calltext.proofs.calls.wait_all_of.Goals as goal

pub returns : goal.returns
returns c = let names = some_of _ _ _ c.in-Some.is c.in_ok-requests.ensures.some in (WaitAll c.in-Some.requests, names.1, refl, append-nil c.in-Some.requests ∙ names.0, refl)
