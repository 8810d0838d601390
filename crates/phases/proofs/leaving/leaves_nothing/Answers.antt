use Rattle.std.proofs.Common.{ℕ, List, Option, ◌∙◌, map, ap, subst}
use Rattle.std.specs.List.{list_all}
use Rattle.phases.specs.declared.leaving.Traffic.{Traffic}
use Rattle.phases.specs.parts.Traffic.{address_of, is_even_at, AreTraffic}
use Rattle.phases.proofs.Traffic.{leaves_nothing_told}
use Rattle.phases.proofs.leaving.leaves_nothing.Goals as goal

pub returns : goal.returns
returns c =
    let calls = c.calls-calls.result.now in
    let numbers = c.in_ok-numbers.numbers.items in
    let table = c.in_ok-table.table.items in
    leaves_nothing_told c.args.program.now calls c.in_ok-addresses.addresses.items numbers table c.are_even_at.result c.calls-calls.ensures.value c.in_ok-addresses.ensures c.in_ok-numbers.ensures
    (subst (λ (z : List (Option ℕ)). AreTraffic calls (map address_of calls) z table) c.deref.ensures.value c.in_ok-table.ensures)
    (c.are_even_at.ensures ∙ ap (λ (z : List Traffic). list_all (is_even_at z) c.deref-3.result.now) c.deref-2.ensures.value ∙ ap (list_all (is_even_at table)) c.deref-3.ensures.value)
