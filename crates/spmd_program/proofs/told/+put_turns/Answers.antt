use Rattle.std.proofs.Common.{◌-◌, arith}
use Rattle.spmd_program.proofs.Turns.{no_turn_told, none_told, turn_told}
use Rattle.spmd_program.proofs.told.+put_turns.Goals as goal

pub returns-then-most-eq0 : goal.returns-then-most-eq0
returns-then-most-eq0 t c = none_told c.args.out.now.items c.args.most c.args.names.now c.args.turns.now c.args.number c.if-most-eq0.true

pub returns-in-None : goal.returns-in-None
returns-in-None t c =
    no_turn_told c.args.out.now.items c.args.most (c.args.most - 1) c.args.names.now c.args.turns.now c.args.number (omega (arith, c.if-most-eq0.false)) c.in-None.ensures

pub returns-in_ok-put_turn-in-Some : goal.returns-in_ok-put_turn-in-Some
returns-in_ok-put_turn-in-Some t c =
    turn_told c.args.out.now.items c.put_turns.new.out.items c.put_turn.new.out.items c.args.most (c.args.most - 1) c.args.names.now c.args.turns.now c.args.number
    c.in-Some.turn (omega (arith, c.if-most-eq0.false)) c.in-Some.ensures c.in_ok-put_turns-in-Some.ensures c.in_ok-put_turn-in-Some.ensures
