use Rattle.std.proofs.Common.{refl}
use Rattle.places.proofs.Reading.{taken_entry, taken_remark}
use Rattle.places.proofs.map.put_line.Goals as goal

pub returns-in-Some : goal.returns-in-Some
returns-in-Some c =
    taken_entry c.put_entry.result c.args.entries.now.items c.put_entry.new.entries.items c.args.line.now c.in-Some.entry c.in-Some.ensures.some
    c.put_entry.ensures.noted c.put_entry.ensures.not

pub returns-in-None : goal.returns-in-None
returns-in-None c = taken_remark c.is_remark.result c.args.entries.now.items c.args.entries.now.items c.args.line.now refl c.in-None.ensures.none c.is_remark.ensures
