use Rattle.std.proofs.Common.{refl}
use Rattle.calltext.specs.declared.call.CallLine.TheVariants.{Probe}
use Rattle.calltext.proofs.calls.probe_of.Goals as goal

pub returns : goal.returns
returns c =
    let p = c.in-Some.ensures.some in
    (Probe p.0 p.1 p.2, tt, refl, p.3, rw (p.4, p.5, p.6) refl)
