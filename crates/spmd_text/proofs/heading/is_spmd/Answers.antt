use Rattle.std.proofs.Common.{◌≡◌, ◌<◌, ℕ, ◌+◌, ◌-◌, List, get_or, length, take, drop, ap, sym, ◌∙◌, arith}
use Rattle.std.proofs.lemmas.Grind.{common_steps}
use Rattle.std.proofs.lemmas.List.{drop_more, drop_all}
use Rattle.spmd_text.specs.Headings.{begins_with_spmd, is_spmd}
use Rattle.spmd_text.proofs.Headings.{heading_goes, heading_begins, heading_ends}
use Rattle.spmd_text.proofs.heading.is_spmd.Goals as goal

pub loop-at-preserved : goal.loop-at-preserved
loop-at-preserved c =
    let bytes : List ℕ = c.args.bytes.now in
    let i : ℕ = c.loop-at.at in
    let lt : i < length bytes = omega (arith, c.loop-at-test.true) in
    heading_goes (drop i bytes) (drop (i + 1) bytes) (get_or bytes i 0) c.loop-at.comment c.in-Some.next (is_spmd bytes) c.loop-at.invariant (drop_more bytes i 0 lt) (sym c.in-Some.is ∙ c.comment_after.ensures)

pub returns-in-None : goal.returns-in-None
returns-in-None c =
    let bytes : List ℕ = c.args.bytes.now in
    let i : ℕ = c.loop-at.at in
    let lt : i < length bytes = omega (arith, c.loop-at-test.true) in
    let all : take (length bytes - i) (drop i bytes) ≡ drop i bytes = grind (arith, common_steps) in
    c.begins_with_spmd.ensures ∙ (ap (λ (l : List ℕ). begins_with_spmd l) all
    ∙ heading_begins (drop i bytes) (drop (i + 1) bytes) (get_or bytes i 0) c.loop-at.comment (is_spmd bytes) c.loop-at.invariant (drop_more bytes i 0 lt) (sym c.in-None.is ∙ c.comment_after.ensures))

pub returns : goal.returns
returns c =
    let bytes : List ℕ = c.args.bytes.now in
    let i : ℕ = c.loop-at.at in
    heading_ends (drop i bytes) c.loop-at.comment (is_spmd bytes) c.loop-at.invariant (drop_all i bytes (omega (arith, c.loop-at-test.false)))
