-- Which line is told where a fault comes up in a statement, in a head or where a block ends.
use Rattle.std.proofs.Common.{◌≡◌, ℕ, ◌-◌, ◌≤◌, pos, Bool, true, false, nat_eq, if◌then◌else◌, List, [], ◌∷◌, ◌++◌, Option, Some, None, arith, refl, ap, sym, subst, ◌∙◌}
use Rattle.std.proofs.lemmas.Option.{same_Some}
use Rattle.spmd_tree.specs.declared.tree.Expression.{Expression}
use Rattle.spmd_tree.specs.declared.tree.SpmdStatement.{SpmdStatement}
use Rattle.spmd_tree.specs.declared.tree.SpmdStatement.TheVariants as statement
use Rattle.spmd_text.specs.declared.fault.ParseReason.{ParseReason}
use Rattle.spmd_text.specs.declared.fault.ParseReason.TheVariants.{Memory}
use Rattle.spmd_text.specs.declared.lines.Span.{Span}
use Rattle.spmd_text.specs.declared.parser.Parser.{Parser}
use Rattle.spmd_text.specs.declared.piece.Word.{Word}
use Rattle.spmd_text.specs.declared.piece.Word.TheVariants as word
use Rattle.spmd_text.specs.declared.piece.Piece.{Piece}
use Rattle.spmd_text.specs.declared.piece.Piece.TheVariants as piece
use Rattle.spmd_text.specs.declared.piece.Token.{Token}
use Rattle.spmd_text.specs.Words.{code}
use Rattle.spmd_text.specs.Limits.{IsTreeWithin}
use Rattle.spmd_text.specs.parts.Reading.{Sticks, next, next_of}
use Rattle.spmd_text.specs.Spelling.{Rest, after_piece, after_condition, after_end, after_head, after_span, after_statement, after_variable, branch_word}
use Rattle.spmd_text.specs.parts.Parts.{Keeps, SyntaxPart, HasRead, condition_part, piece_part, then_part}
use Rattle.spmd_text.specs.parts.Statements.{Begins, IsWhen, MakesOrLacksMemory, MaySpan, RowSoFar, begun_part, first_word, is_end, is_first, is_simple, one_part, put_back, scope_of, statements_part, tail_part, keyword_of}
use Rattle.spmd_text.specs.Statements.{Obeys, Scope, line_of_first_piece, may_give, within_loop}
use Rattle.spmd_text.specs.parts.Lines as lines
use Rattle.spmd_text.specs.parts.Lines.{Block, EndsBlock, EndsBranch, IsSimpleLine, IsStuckAt, Level, TellsLine, from_word, goes_on, has_text_end, is_inner, is_settled, level_at, lists, may_hold, settled, takes_statement}
use Rattle.spmd_text.proofs.BlockForms.{behind_span, loop_head_parts, span_strict}
use Rattle.spmd_text.proofs.BlockWords.{begins_so, condition_strict, is_else, one_begins, same_begin}
use Rattle.spmd_text.proofs.Flat.{first_ends, first_plain, plain_first, word_of_is}
use Rattle.spmd_text.proofs.LeftOut.{not_next, not_taken}
use Rattle.spmd_text.proofs.LineKinds as kind
use Rattle.spmd_text.proofs.LineKinds.{kind_of}
use Rattle.spmd_text.proofs.Made.{made_goes, made_sound}
use Rattle.spmd_text.proofs.Parts.{keeps_on, none_some, sound_before}
use Rattle.spmd_text.proofs.Pieces.{piece_is}
use Rattle.spmd_text.proofs.Scopes.{on_scope, scope_same}
use Rattle.spmd_text.proofs.Starts.{start_behind, start_same}
use Rattle.spmd_text.proofs.Strict.{after_of}
use Rattle.spmd_text.proofs.Stuck.{GoesOn, first_same, never_true, none_found, one_line, runs_nowhere, stuck_here, tells_here, tells_made, tells_none, tells_then}
use Rattle.spmd_text.proofs.TreeLines.{RunsTo, block_behind, runs_to_on, statements_run, tail_runs}
use Rattle.spmd_text.proofs.WholeLines.{else_line, end_line, head_line, loop_line, simple_line}

-- the innermost blocks are the same
block_same : (l m : Level) (ls ms : List Level) → l ∷ ls ≡ m ∷ ms → l.block ≡ m.block
block_same l m ls ms e = ap (λ (k : Level). k.block) (first_same l m ls ms e)

-- ---- the end of a block

end_stuck : (level : Level) (outer : List Level) (here : List Token) (number : ℕ) → has_text_end here ≡ true → number ≡ line_of_first_piece here
    → is_inner level.block ≡ true → is_end (next_of None here) ≡ true → (level.block ≡ lines.branch → goes_on (next_of None here) ≡ false)
    → ((beyond : List Token) → after_end false (Some here) ≡ Some beyond → ⊥) → IsStuckAt (level ∷ outer) here number
end_stuck level outer [] number ended told inner ends closed never = absurd (never_true ended)
end_stuck level outer (t ∷ ts) number ended told inner ends closed never = by_piece t.piece refl ends closed
  where
    stuck : (k : kind.Kind) → kind_of t.piece ≡ k → ((line beyond : List Token) (next : List Level) → t ∷ ts ≡ line ++ beyond → kind.ByKind k (level ∷ outer) line next → ⊥)
        → IsStuckAt (level ∷ outer) (t ∷ ts) number
    stuck k is no_line = stuck_here k (level ∷ outer) (t ∷ ts) number ended is told no_line

    no_branch : (p : Piece) → goes_on p ≡ true → (level.block ≡ lines.branch → goes_on p ≡ false) → level.block ≡ lines.branch → ⊥
    no_branch p goes shut e = never_true (sym (shut e) ∙ goes)

    by_piece : (p : Piece) → t.piece ≡ p → is_end p ≡ true → (level.block ≡ lines.branch → goes_on p ≡ false) → IsStuckAt (level ∷ outer) (t ∷ ts) number
    by_piece (piece.Word word.End) e is shut =
        stuck kind.end (ap kind_of e) (λ line beyond next split i. never beyond (ap (λ (xs : List Token). after_end false (Some xs)) split ∙ end_line.more line beyond i.spelled))
    by_piece (piece.Word word.Else) e is shut =
        stuck kind.otherwise (ap kind_of e) (λ line beyond next split i. no_branch (piece.Word word.Else) refl shut (block_same level i.level outer i.outer i.here ∙ i.open_branch))
    by_piece (piece.Word word.Elif) e is shut =
        stuck kind.chained (ap kind_of e) (λ line beyond next split i. no_branch (piece.Word word.Elif) refl shut (block_same level i.level outer i.outer i.here ∙ i.open_branch))
    by_piece piece.TextEnd e is shut =
        stuck kind.text_end (ap kind_of e) (λ line beyond next split i. never_true (sym i.outermost ∙ (ap is_inner (sym (block_same level i.level outer [] i.here)) ∙ inner)))
    by_piece p e is shut = absurd (never_true is)

pub end_tells : (old new : Parser) (level : Level) (outer : List Level) (number : ℕ) → EndsBlock level old → (old.fault ≡ None → number ≡ line_of_first_piece old.rest.now)
    → ((why : ParseReason) → old.fault ≡ None → new.fault ≡ Some why → (why ≡ Memory → ⊥) → (beyond : List Token) → after_end false (Some old.rest.now) ≡ Some beyond → ⊥)
    → TellsLine (level ∷ outer) old new old.rest.now number
end_tells old new level outer number ends told never why sound wrong other ended =
    end_stuck level outer old.rest.now number ended (told sound) ends.inner
    (ap (λ (f : Option ParseReason). is_end (next_of f old.rest.now)) (sym sound) ∙ ends.ends)
    (λ e. ap (λ (f : Option ParseReason). goes_on (next_of f old.rest.now)) (sym sound) ∙ ends.closed e) (never why sound wrong other)

pub no_end_line : (fault : Option ParseReason) (here : List Token) → nat_eq (code (next_of fault here)) (code (piece.Word word.End)) ≡ false → fault ≡ None
    → (beyond : List Token) → after_end false (Some here) ≡ Some beyond → ⊥
no_end_line fault here none sound beyond e = not_taken (piece.Word word.End) piece.LineEnd here beyond (not_next word.End fault here none sound) e

-- ---- levels

settled_takes : (b : Block) → is_settled b ≡ true → takes_statement b ≡ true
settled_takes lines.start e = absurd (never_true e)
settled_takes b e = refl

settled_same : (b : Block) → is_settled b ≡ true → settled b ≡ b
settled_same lines.headed e = absurd (never_true e)
settled_same lines.listed e = absurd (never_true e)
settled_same b e = refl

settled_unlisted : (b : Block) → is_settled b ≡ true → lists b ≡ true → ⊥
settled_unlisted lines.headed e f = never_true e
settled_unlisted lines.listed e f = never_true e
settled_unlisted b e f = never_true f

-- ---- a statement of one line

kind_simple : (w : Word) (level : Level) (outer : List Level) (line : List Token) (next : List Level) → is_settled level.block ≡ true → is_simple w ≡ true → keyword_of (piece.Word w) ≡ Some w
    → kind.ByKind (kind_of (piece.Word w)) (level ∷ outer) line next → IsSimpleLine (level ∷ outer) line next
kind_simple word.Spmd level outer line next is plain w i = absurd (never_true (sym (ap is_settled (block_same level i.level outer i.outer i.here ∙ i.first)) ∙ is))
kind_simple word.Policy level outer line next is plain w i = absurd (never_true (sym (ap is_settled (block_same level i.level outer i.outer i.here ∙ i.second)) ∙ is))
kind_simple word.Param level outer line next is plain w i = absurd (settled_unlisted level.block is (ap lists (block_same level i.level outer i.outer i.here) ∙ i.early))
kind_simple word.For level outer line next is plain w i = absurd (never_true plain)
kind_simple word.If level outer line next is plain w i = absurd (never_true plain)
kind_simple word.Elif level outer line next is plain w i = absurd (never_true plain)
kind_simple word.Else level outer line next is plain w i = absurd (never_true plain)
kind_simple word.End level outer line next is plain w i = absurd (let never : None ≡ Some word.End = w in cc)
kind_simple v level outer line next is plain w i = i

pub simple_tells : {old new : Parser} {a : SpmdStatement} (block : Block) (outer : List Level) (depth line number : ℕ) (w : Word) → is_settled block ≡ true → keyword_of (piece.Word w) ≡ Some w → is_simple w ≡ true
    → HasRead (begun_part (scope_of old) depth line w) old new a → number ≡ line → TellsLine (level_at block old depth ∷ outer) old new (from_word line w old) number
simple_tells {old} {new} {a} block outer depth line number w is word_so plain r told =
    tells_here (kind_of (piece.Word w)) (level ∷ outer) old new here number refl (λ sound. told) never
  where
    level : Level
    level = level_at block old depth

    here : List Token
    here = from_word line w old

    never : (why : ParseReason) → old.fault ≡ None → new.fault ≡ Some why → (why ≡ Memory → ⊥) → (bad beyond : List Token) (next : List Level) → here ≡ bad ++ beyond
        → kind.ByKind (kind_of (piece.Word w)) (level ∷ outer) bad next → ⊥
    never why sound wrong other bad beyond next split i =
        let s = kind_simple w level outer bad next is plain word_so i in
        let same = first_same level s.level outer s.outer s.here in
        let e = ap (λ (xs : List Token). after_statement s.statement (Some xs)) split ∙ (simple_line s.statement s.may.one s.simple).more bad beyond s.spelled in
        let begins_w = same_begin (first_word s.statement) w here (one_begins s.statement s.may.one here beyond e) (begins_so (record { line = line; piece = piece.Word w }) old.rest.now w refl) in
        none_found r why sound wrong other s.statement beyond e
        (record { one = s.may.one; begins = begins_w; obeys = subst (λ (l : Level). Obeys l.scope l.depth s.statement) (sym same) s.may.obeys })
        (first_ends w beyond (word_of_is (piece.Word w) w word_so).1)

-- ---- the head of a loop

abbrev head_of : ℕ → Span → Rest → Rest
head_of name span z = after_piece piece.LineEnd (behind_span span (after_piece piece.Equals (after_piece (piece.Name name) z)))

head_none : (name : ℕ) (span : Span) → head_of name span None ≡ None
head_none name span = after_of piece.LineEnd _ (span_strict span)

pub loop_head_tells : {old mid : Parser} {x : (ℕ × Span) × Unit {0}} (block : Block) (outer : List Level) (depth line number : ℕ)
    → HasRead (loop_head_parts (scope_of old)) old mid x → number ≡ line → TellsLine (level_at block old depth ∷ outer) old mid (from_word line word.For old) number
loop_head_tells {old} {mid} {x} block outer depth line number r told =
    tells_here kind.repeat (level ∷ outer) old mid here number refl (λ sound. told) never
  where
    level : Level
    level = level_at block old depth

    here : List Token
    here = from_word line word.For old

    never : (why : ParseReason) → old.fault ≡ None → mid.fault ≡ Some why → (why ≡ Memory → ⊥) → (bad beyond : List Token) (next : List Level) → here ≡ bad ++ beyond
        → lines.IsLoopLine (level ∷ outer) bad next → ⊥
    never why sound wrong other bad beyond next split i =
        let same = first_same level i.level outer i.outer i.here in
        let e = ap (λ (xs : List Token). after_span i.span.first i.span.last (pos i.span.step) (after_variable i.number word.For i.name (Some xs))) split ∙ (loop_line i.number i.name i.span).more bad beyond i.spelled in
        let f = start_behind (head_of i.name i.span) (head_none i.name i.span) i.number line word.For word.For old.rest.now beyond e in
        none_found r why sound wrong other ((i.name, i.span), tt) beyond f
        ((subst (λ (l : Level). may_give l.scope i.name ≡ true) (sym same) i.free, subst (λ (l : Level). MaySpan l.scope.in_parameter i.span) (sym same) i.may), tt) refl

-- too many blocks stand within one another
pub loop_deep_tells : (old new : Parser) (block : Block) (outer : List Level) (depth line number : ℕ) → depth ≡ 0 → number ≡ line
    → TellsLine (level_at block old depth ∷ outer) old new (from_word line word.For old) number
loop_deep_tells old new block outer depth line number none told =
    tells_here kind.repeat (level_at block old depth ∷ outer) old new (from_word line word.For old) number refl (λ sound. told)
    (λ why sound wrong other bad beyond next split i.
    let same : depth ≡ i.level.depth = ap (λ (l : Level). l.depth) (first_same (level_at block old depth) i.level outer i.outer i.here) in
    let low : 1 ≤ i.level.depth = i.deep in
    omega (arith, same, low, none))

pub loop_head_runs : {old mid : Parser} {name : ℕ} {span : Span} (block : Block) (outer : List Level) (depth line : ℕ) → is_settled block ≡ true → 1 ≤ depth
    → HasRead (loop_head_parts (scope_of old)) old mid ((name, span), tt) → mid.fault ≡ None
    → RunsTo (level_at block old depth ∷ outer) (record { block = lines.loop; scope = within_loop name (scope_of old); depth = depth - 1 } ∷ level_at block old depth ∷ outer) (from_word line word.For old) mid.rest.now
loop_head_runs {old} {mid} {name} {span} block outer depth line is deep r sound =
    let m = r.may sound in
    let e = ap (head_of name span) (start_same line word.For old.rest.now) ∙ r.stands sound in
    let a = (loop_line line name span).alone (from_word line word.For old) mid.rest.now e in
    one_line a.line a.split
    (lines.repeat (record {
      level = level_at block old depth;
      outer = outer;
      here = refl;
      begun = settled_takes block is;
      number = line;
      name = name;
      span = span;
      deep = deep;
      free = m.0.0;
      may = m.0.1;
      spelled = a.spelled;
      is = ap (λ (b : Block). record { block = lines.loop; scope = within_loop name (scope_of old); depth = depth - 1 } ∷ level_at b old depth ∷ outer) (sym (settled_same block is));
    }))

-- ---- the head of a branch

abbrev pub head_parts : Bool → SyntaxPart (Expression × Unit {0})
head_parts in_parameter = then_part (condition_part in_parameter) (piece_part piece.LineEnd)

-- an `elif` ends with its `if`
abbrev pub outer_of : Bool → Level → List Level → List Level
outer_of true level outer = outer
outer_of false level outer = level ∷ outer

head_found : {old mid : Parser} {x : Expression × Unit {0}} (chained : Bool) (line : ℕ) → HasRead (head_parts old.in_parameter) old mid x
    → (why : ParseReason) → old.fault ≡ None → mid.fault ≡ Some why → (why ≡ Memory → ⊥) → (bad beyond : List Token) → from_word line (branch_word chained) old ≡ bad ++ beyond
    → (number : ℕ) (c : Expression) → IsTreeWithin 32 old.in_parameter c → after_head number chained c (Some bad) ≡ Some [] → ⊥
head_found {old} {mid} {x} chained line r why sound wrong other bad beyond split number c may e =
    let f = ap (λ (xs : List Token). after_head number chained c (Some xs)) split ∙ (head_line number chained c).more bad beyond e in
    let g = start_behind (λ z. after_piece piece.LineEnd (after_condition c z)) (after_of piece.LineEnd _ (condition_strict c)) number line (branch_word chained) (branch_word chained) old.rest.now beyond f in
    none_found r why sound wrong other (c, tt) beyond g (may, tt) refl

pub head_tells : {old mid : Parser} {x : Expression × Unit {0}} (chained : Bool) (block : Block) (outer : List Level) (depth line number : ℕ)
    → HasRead (head_parts old.in_parameter) old mid x → number ≡ line → TellsLine (level_at block old depth ∷ outer) old mid (from_word line (branch_word chained) old) number
head_tells {old} {mid} {x} true block outer depth line number r told =
    tells_here kind.chained (level_at block old depth ∷ outer) old mid (from_word line word.Elif old) number refl (λ sound. told)
    (λ why sound wrong other bad beyond next split i.
    let same = first_same (level_at block old depth) i.level outer i.outer i.here in
    head_found true line r why sound wrong other bad beyond split i.number i.condition (subst (λ (l : Level). IsTreeWithin 32 l.scope.in_parameter i.condition) (sym same) i.within) i.spelled)
head_tells {old} {mid} {x} false block outer depth line number r told =
    tells_here kind.when (level_at block old depth ∷ outer) old mid (from_word line word.If old) number refl (λ sound. told)
    (λ why sound wrong other bad beyond next split i.
    let same = first_same (level_at block old depth) i.level outer i.outer i.here in
    head_found false line r why sound wrong other bad beyond split i.number i.condition (subst (λ (l : Level). IsTreeWithin 32 l.scope.in_parameter i.condition) (sym same) i.within) i.spelled)

pub head_deep_tells : (old new : Parser) (chained : Bool) (block : Block) (outer : List Level) (depth line number : ℕ) → depth ≡ 0 → number ≡ line
    → TellsLine (level_at block old depth ∷ outer) old new (from_word line (branch_word chained) old) number
head_deep_tells old new true block outer depth line number none told =
    tells_here kind.chained (level_at block old depth ∷ outer) old new (from_word line word.Elif old) number refl (λ sound. told)
    (λ why sound wrong other bad beyond next split i.
    let same : depth ≡ i.level.depth = ap (λ (l : Level). l.depth) (first_same (level_at block old depth) i.level outer i.outer i.here) in
    let low : 1 ≤ i.level.depth = i.deep in
    omega (arith, same, low, none))
head_deep_tells old new false block outer depth line number none told =
    tells_here kind.when (level_at block old depth ∷ outer) old new (from_word line word.If old) number refl (λ sound. told)
    (λ why sound wrong other bad beyond next split i.
    let same : depth ≡ i.level.depth = ap (λ (l : Level). l.depth) (first_same (level_at block old depth) i.level outer i.outer i.here) in
    let low : 1 ≤ i.level.depth = i.deep in
    omega (arith, same, low, none))

held : (b : Block) → may_hold true b ≡ true → b ≡ lines.branch
held lines.branch e = refl
held b e = absurd (never_true e)

pub head_runs : {old mid : Parser} {c : Expression} (chained : Bool) (block : Block) (outer : List Level) (depth line : ℕ) → may_hold chained block ≡ true → 1 ≤ depth
    → HasRead (head_parts old.in_parameter) old mid (c, tt) → mid.fault ≡ None
    → RunsTo (level_at block old depth ∷ outer) (level_at lines.branch old (depth - 1) ∷ outer_of chained (level_at block old depth) outer) (from_word line (branch_word chained) old) mid.rest.now
head_runs {old} {mid} {c} true block outer depth line is deep r sound =
    let e = ap (λ (z : Rest). after_piece piece.LineEnd (after_condition c z)) (start_same line word.Elif old.rest.now) ∙ r.stands sound in
    let a = (head_line line true c).alone (from_word line word.Elif old) mid.rest.now e in
    one_line a.line a.split
    (lines.chained (record { level = level_at block old depth; outer = outer; here = refl; open_branch = held block is; number = line; condition = c; deep = deep; within = (r.may sound).0; spelled = a.spelled; is = refl }))
head_runs {old} {mid} {c} false block outer depth line is deep r sound =
    let e = ap (λ (z : Rest). after_piece piece.LineEnd (after_condition c z)) (start_same line word.If old.rest.now) ∙ r.stands sound in
    let a = (head_line line false c).alone (from_word line word.If old) mid.rest.now e in
    one_line a.line a.split
    (lines.when (record {
      level = level_at block old depth;
      outer = outer;
      here = refl;
      begun = settled_takes block is;
      number = line;
      condition = c;
      deep = deep;
      within = (r.may sound).0;
      spelled = a.spelled;
      is = ap (λ (b : Block). level_at lines.branch old (depth - 1) ∷ level_at b old depth ∷ outer) (sym (settled_same block is));
    }))

-- ---- the line of an `else`

pub else_tells : {old mid : Parser} (outer : List Level) (depth line number : ℕ) → HasRead (piece_part piece.LineEnd) old mid (tt {0}) → number ≡ line
    → TellsLine (level_at lines.branch old depth ∷ outer) old mid (from_word line word.Else old) number
else_tells {old} {mid} outer depth line number r told =
    tells_here kind.otherwise (level_at lines.branch old depth ∷ outer) old mid (from_word line word.Else old) number refl (λ sound. told)
    (λ why sound wrong other bad beyond next split i.
    none_found r why sound wrong other (tt {0}) beyond
    (ap (λ (xs : List Token). after_piece piece.LineEnd (after_piece (piece.Word word.Else) (Some xs))) split ∙ else_line.more bad beyond i.spelled) tt refl)

pub else_runs : {old mid : Parser} (outer : List Level) (depth line : ℕ) → HasRead (piece_part piece.LineEnd) old mid (tt {0}) → mid.fault ≡ None
    → RunsTo (level_at lines.branch old depth ∷ outer) (level_at lines.last old depth ∷ outer) (from_word line word.Else old) mid.rest.now
else_runs {old} {mid} outer depth line r sound =
    let a = else_line.alone (from_word line word.Else old) mid.rest.now (r.stands sound) in
    one_line a.line a.split (lines.otherwise (record { level = level_at lines.branch old depth; outer = outer; here = refl; open_branch = refl; spelled = a.spelled; is = refl }))

-- ---- loops and branches

-- the same scope, and so the same level
level_on : {old mid : Parser} (F : Level → Type 0) (block : Block) (depth : ℕ) → Keeps old mid → F (level_at block mid depth) → F (level_at block old depth)
level_on F block depth goes x = subst (λ (s : Scope). F (record { block = block; scope = s; depth = depth })) (scope_same goes) x

-- A part of a block is read and tells its line, wherever it may stand.
pub record TellsOf (old new : Parser) (scope : Scope) (depth before after_piece : ℕ) : Type 0 where
  pub stays : (why : ParseReason) → old.fault ≡ Some why → after_piece ≡ before
  pub tells : (block : Block) (outer : List Level) → is_settled block ≡ true → TellsLine (record { block = block; scope = scope; depth = depth } ∷ outer) old new old.rest.now after_piece

-- the end of a block is read
pub record EndTells (old new : Parser) (before after_piece : ℕ) : Type 0 where
  pub sticks : Sticks old new
  pub stays : (why : ParseReason) → old.fault ≡ Some why → after_piece ≡ before
  pub tells : (level : Level) (outer : List Level) → EndsBlock level old → TellsLine (level ∷ outer) old new old.rest.now after_piece

pub loop_tells : {old head body ended : Parser} {name : ℕ} {span : Span} {inner : SpmdStatement} {n m k : ℕ} (block : Block) (outer : List Level) (depth line : ℕ)
    → is_settled block ≡ true → 1 ≤ depth → n ≡ line → HasRead (loop_head_parts (scope_of old)) old head ((name, span), tt)
    → HasRead (statements_part (within_loop name (scope_of old)) (depth - 1)) head body inner → TellsOf head body (within_loop name (scope_of head)) (depth - 1) n m
    → (body.fault ≡ None → is_end (next body) ≡ true) → EndTells body ended m k → TellsLine (level_at block old depth ∷ outer) old ended (from_word line word.For old) k
loop_tells {old} {head} {body} {ended} {name} {span} {inner} {n} {m} {k} block outer depth line is deep told first second tells ends end =
    tells_then old (tells_then old (loop_head_tells block outer depth line n first told) second.goes.sticks tells.stays on_body) end.sticks end.stays on_end
  where
    level : Level
    level = level_at block old depth

    inside : Level
    inside = record { block = lines.loop; scope = within_loop name (scope_of old); depth = depth - 1 }

    here : List Token
    here = from_word line word.For old

    on_body : head.fault ≡ None → GoesOn (level ∷ outer) head body here m
    on_body sound = record {
      level = inside;
      outer = level ∷ outer;
      there = head.rest.now;
      runs = loop_head_runs block outer depth line is deep first sound;
      tells = subst (λ (s : Scope). TellsLine (record { block = lines.loop; scope = within_loop name s; depth = depth - 1 } ∷ level ∷ outer) head body head.rest.now m) (scope_same first.goes) (tells.tells lines.loop (level ∷ outer) refl);
    }

    on_end : body.fault ≡ None → GoesOn (level ∷ outer) body ended here k
    on_end sound = record {
      level = inside;
      outer = level ∷ outer;
      there = body.rest.now;
      runs = runs_to_on (loop_head_runs block outer depth line is deep first (sound_before second.goes sound))
          (statements_run inner lines.loop (within_loop name (scope_of old)) (depth - 1) (level ∷ outer) head.rest.now body.rest.now refl (second.may sound) (second.stands sound));
      tells = end.tells inside (level ∷ outer) (record { inner = refl; ends = ends sound; closed = λ e. absurd (let never : lines.loop ≡ lines.branch = e in cc) });
    }

-- what stands behind the statements of a branch ends where the branch does
tail_ends : (level : Level) (s : Parser) (t : SpmdStatement) → level.block ≡ block_behind t → EndsBranch s t → EndsBlock level s
tail_ends level s t is ends = by_open (lines.is_open_tail t) refl
  where
    by_open : (b : Bool) → lines.is_open_tail t ≡ b → EndsBlock level s
    by_open true e =
        let at = is ∙ ap (λ (b : Bool). if b then lines.branch else lines.last) e in
        record { inner = ap is_inner at; ends = ends.ends; closed = λ f. ends.closed e }
    by_open false e =
        let at = is ∙ ap (λ (b : Bool). if b then lines.branch else lines.last) e in
        record { inner = ap is_inner at; ends = ends.ends; closed = λ f. absurd (let never : lines.last ≡ lines.branch = sym at ∙ f in cc) }

-- What stands behind the statements of a branch is read and tells its line.
pub record TailTells (old new : Parser) (scope : Scope) (depth before after_piece : ℕ) (s : SpmdStatement) : Type 0 where
  pub reads : HasRead (tail_part scope depth) old new s
  pub stays : (why : ParseReason) → old.fault ≡ Some why → after_piece ≡ before
  pub tells : (outer : List Level) → TellsLine (level_at lines.branch old depth ∷ outer) old new old.rest.now after_piece
  pub ends : is_end (next old) ≡ true → new.fault ≡ None → EndsBranch new s

pub branch_tells : {old head yes other ended : Parser} {c : Expression} {a b : SpmdStatement} {n m k j : ℕ} (chained : Bool) (block : Block) (outer : List Level) (depth line : ℕ)
    → may_hold chained block ≡ true → 1 ≤ depth → n ≡ line → HasRead (head_parts old.in_parameter) old head (c, tt)
    → HasRead (statements_part (scope_of old) (depth - 1)) head yes a → TellsOf head yes (scope_of head) (depth - 1) n m → (yes.fault ≡ None → is_end (next yes) ≡ true)
    → TailTells yes other (scope_of old) (depth - 1) m k b → EndTells other ended k j
    → TellsLine (level_at block old depth ∷ outer) old ended (from_word line (branch_word chained) old) j
branch_tells {old} {head} {yes} {other} {ended} {c} {a} {b} {n} {m} {k} {j} chained block outer depth line is deep told first second tells ends tail end =
    tells_then old (tells_then old (tells_then old (head_tells chained block outer depth line n first told) second.goes.sticks tells.stays on_yes) tail.reads.goes.sticks tail.stays on_tail) end.sticks end.stays on_end
  where
    levels : List Level
    levels = level_at block old depth ∷ outer

    inside : Level
    inside = level_at lines.branch old (depth - 1)

    behind : List Level
    behind = outer_of chained (level_at block old depth) outer

    here : List Token
    here = from_word line (branch_word chained) old

    to_tail : yes.fault ≡ None → RunsTo levels (inside ∷ behind) here yes.rest.now
    to_tail sound =
        runs_to_on (head_runs chained block outer depth line is deep first (sound_before second.goes sound))
        (statements_run a lines.branch (scope_of old) (depth - 1) behind head.rest.now yes.rest.now refl (second.may sound) (second.stands sound))

    on_yes : head.fault ≡ None → GoesOn levels head yes here m
    on_yes sound = record {
      level = inside;
      outer = behind;
      there = head.rest.now;
      runs = head_runs chained block outer depth line is deep first sound;
      tells = level_on (λ l. TellsLine (l ∷ behind) head yes head.rest.now m) lines.branch (depth - 1) first.goes (tells.tells lines.branch behind refl);
    }

    on_tail : yes.fault ≡ None → GoesOn levels yes other here k
    on_tail sound = record {
      level = inside;
      outer = behind;
      there = yes.rest.now;
      runs = to_tail sound;
      tells = level_on (λ l. TellsLine (l ∷ behind) yes other yes.rest.now k) lines.branch (depth - 1) (keeps_on first.goes second.goes) (tail.tells behind);
    }

    on_end : other.fault ≡ None → GoesOn levels other ended here j
    on_end sound =
        let before = sound_before tail.reads.goes sound in
        let t = tail_runs b (scope_of old) (depth - 1) behind yes.rest.now other.rest.now (tail.reads.may sound) (tail.reads.stands sound) in
        record {
          level = t.level;
          outer = behind;
          there = other.rest.now;
          runs = runs_to_on (to_tail before) t.runs;
          tells = end.tells t.level behind (tail_ends t.level other b t.kind (tail.ends (ends before) sound));
        }

pub else_then_tells : {old head new : Parser} {n m : ℕ} (outer : List Level) (depth line : ℕ) → n ≡ line → HasRead (piece_part piece.LineEnd) old head (tt {0})
    → Sticks head new → TellsOf head new (scope_of head) depth n m → TellsLine (level_at lines.branch old depth ∷ outer) old new (from_word line word.Else old) m
else_then_tells {old} {head} {new} {n} {m} outer depth line told first sticks tells = tells_then old (else_tells outer depth line n first told) sticks tells.stays on_inner
  where
    on_inner : head.fault ≡ None → GoesOn (level_at lines.branch old depth ∷ outer) head new (from_word line word.Else old) m
    on_inner sound = record {
      level = level_at lines.last old depth;
      outer = outer;
      there = head.rest.now;
      runs = else_runs outer depth line first sound;
      tells = level_on (λ l. TellsLine (l ∷ outer) head new head.rest.now m) lines.last depth first.goes (tells.tells lines.last outer refl);
    }

-- an `else` is the last branch
pub else_shut : {scope : Scope} {depth : ℕ} (s : SpmdStatement) → Begins scope depth word.Else s → lines.is_open_tail s ≡ true → ⊥
else_shut s may e = let i = is_else s may.one may.begins in never_true (sym (ap lines.is_open_tail i.is) ∙ e)

not_going : (p : Piece) → nat_eq (code p) (code (piece.Word word.Elif)) ≡ false → nat_eq (code p) (code (piece.Word word.Else)) ≡ false → goes_on p ≡ false
not_going (piece.Word word.Elif) e f = absurd (never_true (sym e))
not_going (piece.Word word.Else) e f = absurd (never_true (sym f))
not_going p e f = refl

-- neither an `elif` nor an `else` comes next
pub none_ends : {old mid new : Parser} → mid ≡ old → new ≡ mid → nat_eq (code (next old)) (code (piece.Word word.Elif)) ≡ false
    → nat_eq (code (next mid)) (code (piece.Word word.Else)) ≡ false → is_end (next old) ≡ true → EndsBranch new statement.Nothing
none_ends {old} {mid} {new} same again no_elif no_else ends = record {
  ends = ap (λ (s : Parser). is_end (next s)) (again ∙ same) ∙ ends;
  closed = λ e. ap (λ (s : Parser). goes_on (next s)) (again ∙ same) ∙ not_going (next old) no_elif (ap (λ (s : Parser). nat_eq (code (next s)) (code (piece.Word word.Else))) (sym same) ∙ no_else);
}

pub when_ends : {s new : Parser} {line : ℕ} {chained : Bool} {c : Expression} {a b made : SpmdStatement} → EndsBranch s b → IsWhen line chained c a b made → new ≡ s → EndsBranch new made
when_ends {s} {new} ends m same = record {
  ends = ap (λ (p : Parser). is_end (next p)) same ∙ ends.ends;
  closed = λ e. ap (λ (p : Parser). goes_on (next p)) same ∙ ends.closed (sym (ap lines.is_open_tail m.is ∙ ap lines.is_open_tail m.second_holds) ∙ e);
}

pub made_ends : {old new : Parser} {Made : Type 0} → MakesOrLacksMemory old new Made → (old.fault ≡ None → is_end (next old) ≡ true) → new.fault ≡ None → is_end (next new) ≡ true
made_ends makes ends sound =
    let m = made_sound makes sound in
    ap (λ (p : Parser). is_end (next p)) m.0 ∙ ends (sym (ap (λ (p : Parser). p.fault) m.0) ∙ sound)

-- the same, where what stands behind them is kept
pub kept_ends : {s new : Parser} {a b : SpmdStatement} → EndsBranch s a → MakesOrLacksMemory s new (b ≡ a) → new.fault ≡ None → EndsBranch new b
kept_ends {s} {new} {a} {b} ends makes sound =
    let m = made_sound makes sound in
    subst (λ (p : Parser). EndsBranch p b) (sym m.0) (subst (EndsBranch s) (sym m.1) ends)

-- from the first word on
pub tells_begun : {old mid : Parser} (new : Parser) {line number : ℕ} (w : Word) (block : Block) (outer : List Level) (depth : ℕ) → Keeps old mid → (old.fault ≡ None → mid.fault ≡ None)
    → (old.fault ≡ None → put_back line w (Some mid.rest.now) ≡ Some old.rest.now)
    → (old.fault ≡ None → TellsLine (level_at block mid depth ∷ outer) mid new (from_word line w mid) number) → TellsLine (level_at block old depth ∷ outer) old new old.rest.now number
tells_begun {old} {mid} new {line} {number} w block outer depth goes sound_so back tells why sound wrong other ended =
    let same = same_Some (from_word line w mid) old.rest.now (back sound) in
    let t = level_on (λ l. TellsLine (l ∷ outer) mid new (from_word line w mid) number) block depth goes (tells sound) in
    subst (λ (xs : List Token). IsStuckAt (level_at block old depth ∷ outer) xs number) same (t why (sound_so sound) wrong other (ap has_text_end same ∙ ended))

-- ---- statements

-- What was read so far of statements leads back to where they began, and the line of a fault is
-- told.
pub record LinesSoFar (old s : Parser) (depth before number : ℕ) : Type 0 where
  pub stays : (why : ParseReason) → old.fault ≡ Some why → number ≡ before
  pub runs : (block : Block) (outer : List Level) → is_settled block ≡ true → s.fault ≡ None → RunsTo (level_at block old depth ∷ outer) (level_at block old depth ∷ outer) old.rest.now s.rest.now
  pub tells : (block : Block) (outer : List Level) → is_settled block ≡ true → TellsLine (level_at block old depth ∷ outer) old s old.rest.now number

pub record SoFar (old s : Parser) (depth : ℕ) (list : List SpmdStatement) (before number : ℕ) : Type 0 where
  pub row : RowSoFar old s depth list
  pub lines : LinesSoFar old s depth before number

pub lines_begun : (old : Parser) (depth number : ℕ) → LinesSoFar old old depth number number
lines_begun old depth number = record {
  stays = λ why e. refl;
  runs = λ block outer is sound. runs_nowhere (level_at block old depth ∷ outer) old.rest.now;
  tells = λ block outer is. tells_none (level_at block old depth ∷ outer) old old old.rest.now number refl;
}

pub lines_more : {old s mid new : Parser} {depth before number more : ℕ} {item : SpmdStatement} {Made : Type 0} (w : Word) → LinesSoFar old s depth before number → Keeps old s → is_first w ≡ true
    → HasRead (one_part (scope_of s) depth w) s mid item → TellsOf s mid (scope_of s) depth number more → MakesOrLacksMemory mid new Made → LinesSoFar old new depth before more
lines_more {old} {s} {mid} {new} {depth} {before} {number} {more} {item} {Made} w so_far goes first reads tells makes = record {
  stays = λ why e. tells.stays why (goes.sticks why e) ∙ so_far.stays why e;
  runs = runs;
  tells = λ block outer is. tells_made old (tells_then old (so_far.tells block outer is) r.goes.sticks tells.stays (on_item block outer is)) makes;
}
  where
    r : HasRead (one_part (scope_of old) depth w) s mid item
    r = on_scope (λ scope. one_part scope depth w) goes reads

    runs : (block : Block) (outer : List Level) → is_settled block ≡ true → new.fault ≡ None → RunsTo (level_at block old depth ∷ outer) (level_at block old depth ∷ outer) old.rest.now new.rest.now
    runs block outer is sound =
        let m = made_sound makes sound in
        let mid_sound = sound_before (made_goes makes) sound in
        let b = r.may mid_sound in
        let plain = first_plain item (ap is_first b.begins ∙ first) in
        let one = statements_run item block (scope_of old) depth outer s.rest.now mid.rest.now is (record { plain = plain; obeys = b.obeys }) (r.stands mid_sound) in
        subst (λ (xs : List Token). RunsTo (level_at block old depth ∷ outer) (level_at block old depth ∷ outer) old.rest.now xs) (sym (ap (λ (p : Parser). p.rest.now) m.0))
        (runs_to_on (so_far.runs block outer is (sound_before r.goes mid_sound)) one)

    on_item : (block : Block) (outer : List Level) → is_settled block ≡ true → s.fault ≡ None → GoesOn (level_at block old depth ∷ outer) s mid old.rest.now more
    on_item block outer is sound = record {
      level = level_at block old depth;
      outer = outer;
      there = s.rest.now;
      runs = so_far.runs block outer is sound;
      tells = level_on (λ l. TellsLine (l ∷ outer) s mid s.rest.now more) block depth goes (tells.tells block outer is);
    }

kind_other : (p : Piece) → keyword_of p ≡ None → is_end p ≡ false → kind_of p ≡ kind.simple
kind_other (piece.Word word.End) e f = absurd (never_true (sym f))
kind_other (piece.Word word.Else) e f = absurd (never_true (sym f))
kind_other (piece.Word word.Elif) e f = absurd (never_true (sym f))
kind_other (piece.Word w) e f = absurd (let never : Some w ≡ None = e in cc)
kind_other piece.TextEnd e f = absurd (never_true (sym f))
kind_other p e f = refl

-- no statement begins so
other_stuck : (levels : List Level) (here : List Token) (number : ℕ) → has_text_end here ≡ true → number ≡ line_of_first_piece here → keyword_of (next_of None here) ≡ None → is_end (next_of None here) ≡ false
    → IsStuckAt levels here number
other_stuck levels [] number ended told none other = absurd (never_true ended)
other_stuck levels (t ∷ ts) number ended told none other =
    stuck_here kind.simple levels (t ∷ ts) number ended (kind_other t.piece none other) told never
  where
    never : (bad beyond : List Token) (next : List Level) → t ∷ ts ≡ bad ++ beyond → IsSimpleLine levels bad next → ⊥
    never bad beyond next split i =
        let e = ap (λ (xs : List Token). after_statement i.statement (Some xs)) split ∙ (simple_line i.statement i.may.one i.simple).more bad beyond i.spelled in
        let is = piece_is (piece.Word (first_word i.statement)) t.piece (one_begins i.statement i.may.one (t ∷ ts) beyond e) in
        none_some (first_word i.statement) (sym none ∙ (ap keyword_of is ∙ plain_first i.statement i.may.one i.may.plain))

other_tells : (levels : List Level) {s mid : Parser} (number : ℕ) → keyword_of (next s) ≡ None → (is_end (next s) ≡ true → mid ≡ s) → (s.fault ≡ None → number ≡ line_of_first_piece s.rest.now)
    → TellsLine levels s mid s.rest.now number
other_tells levels {s} {mid} number none fits told why sound wrong other ended =
    other_stuck levels s.rest.now number ended (told sound) (ap (λ (f : Option ParseReason). keyword_of (next_of f s.rest.now)) (sym sound) ∙ none)
    (ap (λ (f : Option ParseReason). is_end (next_of f s.rest.now)) (sym sound) ∙ by_end (is_end (next s)) refl)
  where
    by_end : (b : Bool) → is_end (next s) ≡ b → is_end (next s) ≡ false
    by_end false e = e
    by_end true e = absurd (none_some why (sym sound ∙ (ap (λ (p : Parser). p.fault) (sym (fits e)) ∙ wrong)))

pub lines_ended : {old s mid new : Parser} {depth before number last : ℕ} {Made : Type 0} → LinesSoFar old s depth before number → keyword_of (next s) ≡ None → Sticks s mid
    → (is_end (next s) ≡ true → mid ≡ s) → (s.fault ≡ None → last ≡ line_of_first_piece s.rest.now) → ((why : ParseReason) → s.fault ≡ Some why → last ≡ number) → MakesOrLacksMemory mid new Made
    → (block : Block) (outer : List Level) → is_settled block ≡ true → TellsLine (level_at block old depth ∷ outer) old new old.rest.now last
lines_ended {old} {s} {mid} {new} {depth} {before} {number} {last} {Made} so_far none sticks fits told stays makes block outer is =
    tells_made old (tells_then old (so_far.tells block outer is) sticks stays on_other) makes
  where
    on_other : s.fault ≡ None → GoesOn (level_at block old depth ∷ outer) s mid old.rest.now last
    on_other sound = record {
      level = level_at block old depth;
      outer = outer;
      there = s.rest.now;
      runs = so_far.runs block outer is sound;
      tells = other_tells (level_at block old depth ∷ outer) last none fits told;
    }
