use Rattle.std.proofs.Common.{refl}
use Rattle.spmd_text.proofs.Readings.{read_first, read_said, read_told}
use Rattle.spmd_text.proofs.reading.read.Goals as goal

pub returns-clause-said : goal.returns-clause-said
returns-clause-said c none =
    let sound = c.first_fault.ensures.sound none in
    read_said c.args.found.now (c.program-policy.ensures.reads refl c.new.ensures.items c.new-2.ensures.items) c.as_slice.ensures.value c.as_slice-2.ensures.value sound (c.program-policy.ensures.ends sound)

pub returns-clause-told : goal.returns-clause-told
returns-clause-told c =
    read_told c.args.found.now (c.program-policy.ensures.reads refl c.new.ensures.items c.new-2.ensures.items) c.as_slice.ensures.value c.as_slice-2.ensures.value refl c.first_fault.result c.first_fault.ensures.told

pub returns-clause-first : goal.returns-clause-first
returns-clause-first c =
    let found = c.args.found.now in
    let meets = c.program-policy.ensures.reads refl c.new.ensures.items c.new-2.ensures.items in
    let tells = c.program-policy.ensures.line refl c.new.ensures.items c.new-2.ensures.items in
    read_first (record { ptr = found.tokens.ptr; alloc = c.args.alloc; value = tt }) found meets tells c.as_slice.ensures.value c.as_slice-2.ensures.value refl c.first_fault.result c.first_fault.ensures.told c.first_fault.ensures.line
