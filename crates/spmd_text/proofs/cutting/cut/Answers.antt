use Rattle.std.proofs.Common.{◌<◌, ℕ, ◌+◌, List, Ok, Err, get_or, length, drop, ap, sym, subst, refl, ◌∙◌, arith}
use Rattle.std.specs.Prelude.{Result}
use Rattle.std.proofs.lemmas.List.{drop_more, drop_all}
use Rattle.spmd_text.specs.declared.fault.ParseFault.{ParseFault}
use Rattle.spmd_text.specs.declared.fault.ParseReason.{ParseReason}
use Rattle.spmd_text.specs.declared.fault.TextFault.{TextFault}
use Rattle.spmd_text.specs.parts.Tokens.{GivesPieces, seen}
use Rattle.spmd_text.specs.Tokens.{Cutting, pieces_of, text_finished, lined}
use Rattle.spmd_text.proofs.Feeding.{feed_goes, feed_halts, feed_ends, told}
use Rattle.spmd_text.proofs.cutting.cut.Goals as goal

pub returns-in-Err : goal.returns-in-Err
returns-in-Err c =
    let bytes : List ℕ = c.args.bytes.now in
    let i : ℕ = c.loop-byte.byte-index in
    let whole : Result Cutting ParseFault = pieces_of bytes in
    let lt : i < length bytes = omega (arith, c.loop-byte-test.true) in
    subst (λ (f : TextFault). GivesPieces (Err f) whole) (sym c.fault_of.ensures)
    (feed_halts (drop i bytes) (drop (i + 1) bytes) (get_or bytes i 0) (seen c.loop-byte.lexer) c.in-Err.halt whole c.loop-byte.invariant (drop_more bytes i 0 lt) c.in-Err.ensures)

pub loop-byte-preserved : goal.loop-byte-preserved
loop-byte-preserved c =
    let bytes : List ℕ = c.args.bytes.now in
    let i : ℕ = c.loop-byte.byte-index in
    let lt : i < length bytes = omega (arith, c.loop-byte-test.true) in
    feed_goes (drop i bytes) (drop (i + 1) bytes) (get_or bytes i 0) (seen c.loop-byte.lexer) (seen c.feed.new.self) (pieces_of bytes) c.loop-byte.invariant (drop_more bytes i 0 lt) c.in-Ok.ensures

pub returns-in-Err-finish : goal.returns-in-Err-finish
returns-in-Err-finish c =
    let bytes : List ℕ = c.args.bytes.now in
    let i : ℕ = c.loop-byte.byte-index in
    let whole : Result Cutting ParseFault = pieces_of bytes in
    subst (λ (f : TextFault). GivesPieces (Err f) whole) (sym c.fault_of-in-Err-finish.ensures)
    (told c.in-Err-finish.halt c.loop-byte.lexer.line (text_finished (seen c.loop-byte.lexer)) (λ (t : Cutting). Ok t) whole
    (feed_ends (drop i bytes) (seen c.loop-byte.lexer) whole c.loop-byte.invariant (drop_all i bytes (omega (arith, c.loop-byte-test.false)))) c.in-Err-finish.ensures)

pub returns-in-Ok-finish : goal.returns-in-Ok-finish
returns-in-Ok-finish c =
    let bytes : List ℕ = c.args.bytes.now in
    let i : ℕ = c.loop-byte.byte-index in
    let go : Result Cutting ParseReason → Result Cutting ParseFault = λ (x : Result Cutting ParseReason). lined c.loop-byte.lexer.line x (λ (t : Cutting). Ok t) in
    record {
      state = seen c.finish.new.self;
      done = sym (feed_ends (drop i bytes) (seen c.loop-byte.lexer) (pieces_of bytes) c.loop-byte.invariant (drop_all i bytes (omega (arith, c.loop-byte-test.false)))) ∙ ap go c.in-Ok-finish.ensures;
      tokens = refl;
      names = refl;
    }
