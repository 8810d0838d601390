use Rattle.std.proofs.Common.{rules, ◌≡◌, ◌≢◌, ℕ, List, get_or, slice_set, ◌∙◌, ap, arith}
use Rattle.waits.specs.declared.cycles.Mark.TheVariants.{OnPath, Off}
use Rattle.waits.specs.parts.Searches.{mark_at}
use Rattle.waits.proofs.SearchLaws.{last_within, last_weighs, left_keeps, entered_keeps, closes, closes_once, lighter}
use Rattle.waits.proofs.cycles.Search.step.Goals as goal

pub leave-requires : goal.leave-requires
leave-requires c =
    last_within c.args.edges.now c.args.self.now.path.items c.args.self.now.marks.items c.args.self.now.looked.items c.args.rank c.requires.last c.requires.search

pub returns-in_default-clause-search : goal.returns-in_default-clause-search
returns-in_default-clause-search c =
    let from : c.looked_of-from.result ≡ get_or c.args.self.now.looked.items c.args.rank 0 = c.looked_of-from.ensures ∙ ap (λ (xs : List ℕ). get_or xs c.args.rank 0) c.deref.ensures.value in
    rw c.leave.ensures.looked (left_keeps c.args.edges.now c.args.self.now.path.items c.leave.new.self.path.items c.args.self.now.marks.items c.deref-2.result.now c.leave.new.self.marks.items c.args.self.now.looked.items c.args.rank c.looked_of-from.result c.requires.last c.leave.ensures.path c.deref-2.ensures.value c.leave.ensures.marks from c.in_default.ensures.none c.requires.search)

pub returns-in_default-clause-less : goal.returns-in_default-clause-less
returns-in_default-clause-less c =
    rw c.leave.ensures.marks (lighter c.args.self.now.marks.items c.args.rank Off (last_within c.args.edges.now c.args.self.now.path.items c.args.self.now.marks.items c.args.self.now.looked.items c.args.rank c.requires.last c.requires.search)
    (last_weighs c.args.edges.now c.args.self.now.path.items c.args.self.now.marks.items c.args.self.now.looked.items c.args.rank c.requires.last c.requires.search))

pub index_mut-requires : goal.index_mut-requires
index_mut-requires c =
    let inside = last_within c.args.edges.now c.args.self.now.path.items c.args.self.now.marks.items c.args.self.now.looked.items c.args.rank c.requires.last c.requires.search in
    omega (arith, inside, c.requires.search.marked, c.requires.search.counted, c.args.self.now.looked.ok.0)

pub returns-then-eq-clause-cycle : goal.returns-then-eq-clause-cycle
returns-then-eq-clause-cycle c =
    closes c.args.edges.now c.args.self.now.path.items c.deref-then-eq.result.now c.in_ok-ranks.ranks.items c.args.self.now.marks.items c.deref-2.result.now c.args.self.now.looked.items c.args.rank c.looked_of-from.result c.in-Some.place c.in-Some.next c.requires.last c.deref-then-eq.ensures.value c.in_ok-ranks.ensures c.in-Some.ensures.some c.requires.search

pub returns-then-eq-clause-once : goal.returns-then-eq-clause-once
returns-then-eq-clause-once c =
    closes_once c.args.edges.now c.args.self.now.path.items c.deref-then-eq.result.now c.in_ok-ranks.ranks.items c.args.self.now.marks.items c.args.self.now.looked.items c.in-Some.next c.deref-then-eq.ensures.value c.in_ok-ranks.ensures c.requires.search

pub returns-clause-search : goal.returns-clause-search
returns-clause-search c =
    let from : c.looked_of-from.result ≡ get_or c.args.self.now.looked.items c.args.rank 0 = c.looked_of-from.ensures ∙ ap (λ (xs : List ℕ). get_or xs c.args.rank 0) c.deref.ensures.value in
    let counts : c.enter.new.self.looked.items ≡ slice_set c.args.self.now.looked.items c.args.rank c.in-Some.place = search rules in
    let on : mark_at c.args.self.now.marks.items c.in-Some.next ≢ OnPath = search rules in
    entered_keeps c.args.edges.now c.args.self.now.path.items c.enter.new.self.path.items c.args.self.now.marks.items c.deref-2.result.now c.enter.new.self.marks.items c.args.self.now.looked.items c.enter.new.self.looked.items c.args.rank c.looked_of-from.result c.in-Some.place c.in-Some.next c.requires.last c.in_ok-enter.ensures.path c.deref-2.ensures.value c.in_ok-enter.ensures.marks counts from c.in-Some.ensures.some on c.requires.search
