use Rattle.std.proofs.Common.{◌-◌, arith}
use Rattle.spmd_program.proofs.Hex.{no_digit, one_digit}
use Rattle.spmd_program.proofs.maps.+put_hex.Goals as goal

pub returns-then-count-eq0 : goal.returns-then-count-eq0
returns-then-count-eq0 t c = no_digit c.args.out.now.items c.args.count c.args.number c.if-count-eq0.true

pub returns : goal.returns
returns t c =
    one_digit c.args.out.now.items c.put_hex.new.out.items c.push.new.self.items c.args.count (c.args.count - 1) c.args.number c.hex_digit.result
    (omega (arith, c.if-count-eq0.false)) c.hex_digit.ensures c.in_ok-put_hex.ensures c.in_ok-push.ensures.items
