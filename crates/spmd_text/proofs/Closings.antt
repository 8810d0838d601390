-- What lines lead to can be ended: each open block by its `end`, and the text by its end.
use Rattle.std.proofs.Common.{◌≡◌, ℕ, pos, Bool, true, false, not, ◌&&◌, List, [], ◌∷◌, ◌++◌, Option, Some, refl, ap, sym, subst, ◌∙◌}
use Rattle.std.proofs.lemmas.List.{append_assoc, append-nil}
use Rattle.std.specs.Global.{Vec}
use Rattle.spmd_tree.specs.declared.tree.Expression.{Expression}
use Rattle.spmd_tree.specs.declared.tree.SpmdStatement.{SpmdStatement}
use Rattle.spmd_tree.specs.declared.tree.SpmdStatement.TheVariants as statement
use Rattle.spmd_text.specs.declared.lines.Span.{Span}
use Rattle.spmd_text.specs.declared.piece.Word.TheVariants as word
use Rattle.spmd_text.specs.declared.piece.Piece.TheVariants as piece
use Rattle.spmd_text.specs.declared.piece.Token.{Token}
use Rattle.spmd_text.specs.declared.reading.SpmdPolicy.{SpmdPolicy}
use Rattle.spmd_text.specs.declared.reading.SpmdPolicy.TheVariants as policy
use Rattle.spmd_text.specs.parts.Joints.{Place}
use Rattle.spmd_text.specs.Limits.{IsTreeWithin}
use Rattle.spmd_text.specs.Spelling.{Rest, after_piece, after_end, after_head, after_optional, after_parameter, after_policy, after_span, after_statement, after_variable, piece_begins, is_any, is_branch, is_ordered, is_tail, only, word_of_policy}
use Rattle.spmd_text.specs.Rules.{IfThere}
use Rattle.spmd_text.specs.parts.Statements.{MayOne, MayStatements, MayTail, first_word}
use Rattle.spmd_text.specs.Statements.{Scope, is_one_of}
use Rattle.spmd_text.specs.Programs.{ObeyParameters, parameters_of}
use Rattle.spmd_text.specs.FirstFaults.{AreReadablePieces}
use Rattle.spmd_text.specs.parts.Lines.{Block, Level, Moves, Runs, Steps, begin, behind_one, in_block, in_loop, is_inner, lists, settled, takes_statement, with_block, with_parameter}
use Rattle.spmd_text.specs.parts.Lines as lines
use Rattle.spmd_text.proofs.BlockWords.{one_begins, start_begins, taken_begins}
use Rattle.spmd_text.proofs.Following.{never_taken}
use Rattle.spmd_text.proofs.LeftOut.{chosen, not_chosen}
use Rattle.spmd_text.proofs.LineKinds.{kind_at, kind_begins, kind_of, simple_kind, text_end_kind}
use Rattle.spmd_text.proofs.LineKinds as kinds
use Rattle.spmd_text.proofs.NoStar.{left_before}
use Rattle.spmd_text.proofs.Names.{text_ordered}
use Rattle.spmd_text.proofs.ParameterRows.{parameters_plain}
use Rattle.spmd_text.proofs.Strict.{after_of, optional_strict}
use Rattle.spmd_text.proofs.WholeLines.{else_line, end_line, head_line, heading_line, loop_line, parameter_line, policy_line, simple_line}

-- ---- what ends what is open

-- statements stand here, and what goes on stands behind them
record Inner (scope : Scope) (depth : ℕ) (here : List Token) (GoesOn : List Token → Type 0) : Type 0 where
  pub tree : SpmdStatement
  pub mid : List Token
  pub may : MayStatements scope depth tree
  pub spelled : after_statement tree (Some here) ≡ Some mid
  pub on : GoesOn mid

-- the same for what stands behind the statements of a branch
record Tail (scope : Scope) (depth : ℕ) (here : List Token) (GoesOn : List Token → Type 0) : Type 0 where
  pub tree : SpmdStatement
  pub mid : List Token
  pub may : MayTail scope depth tree
  pub spelled : after_statement tree (Some here) ≡ Some mid
  pub on : GoesOn mid

record Takes (f : Rest → Rest) (here : List Token) (GoesOn : List Token → Type 0) : Type 0 where
  pub mid : List Token
  pub spelled : f (Some here) ≡ Some mid
  pub on : GoesOn mid

abbrev Plain : Scope → ℕ → List Token → Type 0
Plain scope depth here = Inner scope depth here (λ mid. Takes (after_piece piece.TextEnd) mid (λ rest. rest ≡ []))

-- these parameters more
abbrev grown : List ℕ → Scope → Scope
grown names scope = record { in_parameter = scope.in_parameter; names = scope.names; parameters = scope.parameters ++ names; loops = scope.loops }

record Listed (scope : Scope) (depth : ℕ) (here : List Token) : Type 0 where
  pub heads : SpmdStatement
  pub mid : List Token
  pub may : ObeyParameters scope.parameters heads
  pub spelled : after_statement heads (Some here) ≡ Some mid
  pub on : Plain (grown (parameters_of heads) scope) depth mid

record Headed (scope : Scope) (depth : ℕ) (here : List Token) : Type 0 where
  pub policy : SpmdPolicy
  pub mid : List Token
  pub spelled : after_policy policy (Some here) ≡ Some mid
  pub on : Listed scope depth mid

abbrev heading_of : Rest → Rest
heading_of z = after_piece piece.LineEnd (after_piece (piece.Word word.Spmd) z)

abbrev FillsAt : Block → Scope → ℕ → (List Token → Type 0) → List Token → Type 0
FillsAt lines.start scope depth Outer here = Takes heading_of here (Headed scope depth)
FillsAt lines.headed scope depth Outer here = Headed scope depth here
FillsAt lines.listed scope depth Outer here = Listed scope depth here
FillsAt lines.plain scope depth Outer here = Plain scope depth here
FillsAt lines.loop scope depth Outer here = Inner scope depth here (λ mid. Takes (after_end false) mid Outer)
FillsAt lines.branch scope depth Outer here = Inner scope depth here (λ mid. Tail scope depth mid (λ rest. Takes (after_end false) rest Outer))
FillsAt lines.last scope depth Outer here = Inner scope depth here (λ mid. Takes (after_end false) mid Outer)

-- from these levels on the pieces are read up to the end of the text
abbrev Fills : List Level → List Token → Type 0
Fills [] here = here ≡ []
Fills (l ∷ outer) here = FillsAt l.block l.scope l.depth (Fills outer) here

-- ---- statements one after another

both_plain : (a b : Bool) → a ≡ false → b ≡ false → (not a && not b) ≡ true
both_plain a b p q = ap (λ (x : Bool). not x && not b) p ∙ ap not q

nothing_more : (scope : Scope) (depth : ℕ) (here : List Token) (GoesOn : List Token → Type 0) → GoesOn here → Inner scope depth here GoesOn
nothing_more scope depth here GoesOn on = record { tree = statement.Nothing; mid = here; may = record { plain = refl; obeys = tt }; spelled = refl; on = on }

no_tail : (scope : Scope) (depth : ℕ) (here : List Token) (GoesOn : List Token → Type 0) → GoesOn here → Tail scope depth here GoesOn
unfolding is_tail
no_tail scope depth here GoesOn on = record { tree = statement.Nothing; mid = here; may = record { tail = refl; obeys = tt }; spelled = refl; on = on }

sequence_spelled : (at : Place) (a b : SpmdStatement) (here mid rest : List Token) → is_branch a ≡ false → is_branch b ≡ false → after_statement a (Some here) ≡ Some mid → after_statement b (Some mid) ≡ Some rest
    → after_statement (statement.Sequence' at a at b) (Some here) ≡ Some rest
sequence_spelled at a b here mid rest p q e f =
    ap (λ (z : Rest). only (not (is_branch a) && not (is_branch b)) (after_statement b z)) e
    ∙ (ap (λ (x : Bool). only x (after_statement b (Some mid))) (both_plain (is_branch a) (is_branch b) p q) ∙ f)

one_more : (at : Place) (scope : Scope) (depth : ℕ) (s : SpmdStatement) (here mid : List Token) (GoesOn : List Token → Type 0) → MayOne scope depth s → after_statement s (Some here) ≡ Some mid
    → Inner scope depth mid GoesOn → Inner scope depth here GoesOn
one_more at scope depth s here mid GoesOn may e inner = record {
  tree = statement.Sequence' at s at inner.tree;
  mid = inner.mid;
  may = record { plain = refl; obeys = (may.obeys, inner.may.obeys) };
  spelled = sequence_spelled at s inner.tree here mid inner.mid may.plain inner.may.plain e inner.spelled;
  on = inner.on;
}

none_grown : (scope : Scope) → grown [] scope ≡ scope
none_grown scope = ap (λ (ps : List ℕ). record { in_parameter = scope.in_parameter; names = scope.names; parameters = ps; loops = scope.loops }) (append-nil scope.parameters)

no_parameters : (scope : Scope) (depth : ℕ) (here : List Token) → Plain scope depth here → Listed scope depth here
no_parameters scope depth here f =
    record { heads = statement.Nothing; mid = here; may = tt; spelled = refl; on = subst (λ (c : Scope). Plain c depth here) (sym (none_grown scope)) f }

-- no line of the policy stands here
no_policy : (scope : Scope) (depth : ℕ) (here : List Token) → piece_begins (piece.Word word.Policy) (Some here) ≡ false → Listed scope depth here → Headed scope depth here
no_policy scope depth here none f = record {
  policy = policy.Any;
  mid = here;
  spelled = not_chosen (piece_begins (piece.Word word.Policy) (Some here)) (after_piece piece.LineEnd (after_piece (piece.Word word.Any) (after_piece (piece.Word word.Policy) (Some here)))) (Some here) none;
  on = f;
}

is_policy : kinds.Kind → Bool
is_policy kinds.policy = true
is_policy k = false

-- what begins with another word is no line of the policy
not_policy : (here : List Token) → is_policy (kind_at here) ≡ false → piece_begins (piece.Word word.Policy) (Some here) ≡ false
unfolding is_policy
not_policy here other = by (piece_begins (piece.Word word.Policy) (Some here)) refl
  where
    by : (b : Bool) → piece_begins (piece.Word word.Policy) (Some here) ≡ b → b ≡ false
    by false e = refl
    by true e = absurd (never_taken (sym other ∙ ap is_policy (kind_begins (piece.Word word.Policy) here e)))

-- a statement before what fills
one_before : (at : Place) (b : Block) (scope : Scope) (depth : ℕ) (Outer : List Token → Type 0) (s : SpmdStatement) (here mid : List Token) → takes_statement b ≡ true → is_policy (kind_at here) ≡ false
    → MayOne scope depth s → after_statement s (Some here) ≡ Some mid → FillsAt (settled b) scope depth Outer mid → FillsAt b scope depth Outer here
one_before at lines.start scope depth Outer s here mid is other may e f = absurd (let never : false ≡ true = is in cc)
one_before at lines.headed scope depth Outer s here mid is other may e f =
    no_policy scope depth here (not_policy here other) (no_parameters scope depth here (one_more at scope depth s here mid (λ m. Takes (after_piece piece.TextEnd) m (λ rest. rest ≡ [])) may e f))
one_before at lines.listed scope depth Outer s here mid is other may e f =
    no_parameters scope depth here (one_more at scope depth s here mid (λ m. Takes (after_piece piece.TextEnd) m (λ rest. rest ≡ [])) may e f)
one_before at lines.plain scope depth Outer s here mid is other may e f = one_more at scope depth s here mid (λ m. Takes (after_piece piece.TextEnd) m (λ rest. rest ≡ [])) may e f
one_before at lines.loop scope depth Outer s here mid is other may e f = one_more at scope depth s here mid (λ m. Takes (after_end false) m Outer) may e f
one_before at lines.branch scope depth Outer s here mid is other may e f =
    one_more at scope depth s here mid (λ m. Tail scope depth m (λ rest. Takes (after_end false) rest Outer)) may e f
one_before at lines.last scope depth Outer s here mid is other may e f = one_more at scope depth s here mid (λ m. Takes (after_end false) m Outer) may e f

-- ---- one line back

at_block : (b c : Block) (scope : Scope) (depth : ℕ) (Outer : List Token → Type 0) (here : List Token) → c ≡ b → FillsAt b scope depth Outer here → FillsAt c scope depth Outer here
at_block b c scope depth Outer here e f = subst (λ (x : Block). FillsAt x scope depth Outer here) (sym e) f

-- levels of which the innermost is this one
at_level : (levels outer : List Level) (l : Level) (here : List Token) → levels ≡ l ∷ outer → Fills (l ∷ outer) here → Fills levels here
at_level levels outer l here e f = subst (λ (ls : List Level). Fills ls here) (sym e) f

-- a line of a statement that stands at these levels, up to the statement's end
before_all : (at : Place) (l : Level) (outer : List Level) (s : SpmdStatement) (here mid : List Token) → takes_statement l.block ≡ true → is_policy (kind_at here) ≡ false → MayOne l.scope l.depth s
    → after_statement s (Some here) ≡ Some mid → Fills (behind_one l ∷ outer) mid → Fills (l ∷ outer) here
before_all at l outer s here mid is other may e f = one_before at l.block l.scope l.depth (Fills outer) s here mid is other may e f

not_policy_kind : (here : List Token) (k : kinds.Kind) → is_policy k ≡ false → kind_at here ≡ k → is_policy (kind_at here) ≡ false
not_policy_kind here k other e = ap is_policy e ∙ other

-- ---- parameters

grown_on : (scope : Scope) (name : ℕ) (names : List ℕ) → grown names (grown (name ∷ []) scope) ≡ grown (name ∷ names) scope
grown_on scope name names =
    ap (λ (ps : List ℕ). record { in_parameter = scope.in_parameter; names = scope.names; parameters = ps; loops = scope.loops }) (append_assoc scope.parameters (name ∷ []) names)

parameter_before : (at : Place) (scope : Scope) (depth number name : ℕ) (value : Option Expression) (here mid : List Token) → is_one_of scope.parameters name ≡ false → IfThere (IsTreeWithin 32 true) value
    → after_parameter number name value (Some here) ≡ Some mid → Listed (grown (name ∷ []) scope) depth mid → Listed scope depth here
parameter_before at scope depth number name value here mid other within e f = record {
  heads = statement.Sequence' at (statement.Parameter number name value) at f.heads;
  mid = f.mid;
  may = ((other, within), f.may);
  spelled = sequence_spelled at (statement.Parameter number name value) f.heads here mid f.mid refl (parameters_plain (scope.parameters ++ name ∷ []) f.heads f.may) e f.spelled;
  on = subst (λ (c : Scope). Plain c depth f.mid) (grown_on scope name (parameters_of f.heads)) f.on;
}

parameter_first : (number name : ℕ) (value : Option Expression) (here mid : List Token) → after_parameter number name value (Some here) ≡ Some mid → kind_at here ≡ kinds.parameter
parameter_first number name value here mid e =
    kind_begins (piece.Word word.Param) here
    (start_begins (λ z. after_piece piece.LineEnd (after_optional piece.Equals value (after_piece (piece.Name name) z))) (after_of piece.LineEnd _ (optional_strict piece.Equals value)) number word.Param here mid e)

listed_at : (b : Block) (scope : Scope) (depth : ℕ) (Outer : List Token → Type 0) (here : List Token) → lists b ≡ true → piece_begins (piece.Word word.Policy) (Some here) ≡ false → Listed scope depth here
    → FillsAt b scope depth Outer here
listed_at lines.headed scope depth Outer here is other f = no_policy scope depth here other f
listed_at lines.listed scope depth Outer here is other f = f
listed_at lines.start scope depth Outer here is other f = absurd (let never : false ≡ true = is in cc)
listed_at lines.plain scope depth Outer here is other f = absurd (let never : false ≡ true = is in cc)
listed_at lines.loop scope depth Outer here is other f = absurd (let never : false ≡ true = is in cc)
listed_at lines.branch scope depth Outer here is other f = absurd (let never : false ≡ true = is in cc)
listed_at lines.last scope depth Outer here is other f = absurd (let never : false ≡ true = is in cc)

-- ---- blocks

-- a loop, from its head's line and what stands behind that
loop_spelled : (at : Place) (number name : ℕ) (span : Span) (body : SpmdStatement) (here mid rest final : List Token) → is_branch body ≡ false
    → after_span span.first span.last (pos span.step) (after_variable number word.For name (Some here)) ≡ Some mid → after_statement body (Some mid) ≡ Some rest → after_end false (Some rest) ≡ Some final
    → after_statement (statement.Repeat' number name span.first span.last span.step at body) (Some here) ≡ Some final
loop_spelled at number name span body here mid rest final p e f g =
    ap (λ (z : Rest). only (not (is_branch body)) (after_end false (after_statement body z))) e
    ∙ (ap (λ (z : Rest). only (not (is_branch body)) (after_end false z)) f ∙ (ap (λ (b : Bool). only (not b) (after_end false (Some rest))) p ∙ g))

branch_spelled : (at : Place) (number : ℕ) (chained : Bool) (c : Expression) (first second : SpmdStatement) (here mid rest behind final : List Token) → is_branch first ≡ false → is_tail second ≡ true
    → after_head number chained c (Some here) ≡ Some mid → after_statement first (Some mid) ≡ Some rest → after_statement second (Some rest) ≡ Some behind → after_end chained (Some behind) ≡ Some final
    → after_statement (statement.When' number chained c at first at second) (Some here) ≡ Some final
branch_spelled at number chained c first second here mid rest behind final p q e f g h =
    ap (λ (z : Rest). only (not (is_branch first) && is_tail second) (after_end chained (after_statement second (after_statement first z)))) e
    ∙ (ap (λ (z : Rest). only (not (is_branch first) && is_tail second) (after_end chained (after_statement second z))) f
    ∙ (ap (λ (z : Rest). only (not (is_branch first) && is_tail second) (after_end chained z)) g
    ∙ (ap (λ (b : Bool). only (not b && is_tail second) (after_end chained (Some behind))) p
    ∙ (ap (λ (b : Bool). only b (after_end chained (Some behind))) q ∙ h))))

else_spelled : (at : Place) (inner : SpmdStatement) (here mid rest : List Token) → is_branch inner ≡ false → after_piece piece.LineEnd (after_piece (piece.Word word.Else) (Some here)) ≡ Some mid
    → after_statement inner (Some mid) ≡ Some rest → after_statement (statement.Otherwise' at inner) (Some here) ≡ Some rest
else_spelled at inner here mid rest p e f =
    ap (λ (z : Rest). only (not (is_branch inner)) (after_statement inner z)) e ∙ (ap (λ (b : Bool). only (not b) (after_statement inner (Some mid))) p ∙ f)

ended_at : (b : Block) (scope : Scope) (depth : ℕ) (Outer : List Token → Type 0) (here rest : List Token) → is_inner b ≡ true → after_end false (Some here) ≡ Some rest → Outer rest
    → FillsAt b scope depth Outer here
ended_at lines.loop scope depth Outer here rest is e on = nothing_more scope depth here (λ m. Takes (after_end false) m Outer) (record { mid = rest; spelled = e; on = on })
ended_at lines.branch scope depth Outer here rest is e on =
    nothing_more scope depth here (λ m. Tail scope depth m (λ n. Takes (after_end false) n Outer)) (no_tail scope depth here (λ n. Takes (after_end false) n Outer) (record { mid = rest; spelled = e; on = on }))
ended_at lines.last scope depth Outer here rest is e on = nothing_more scope depth here (λ m. Takes (after_end false) m Outer) (record { mid = rest; spelled = e; on = on })
ended_at lines.start scope depth Outer here rest is e on = absurd (let never : false ≡ true = is in cc)
ended_at lines.headed scope depth Outer here rest is e on = absurd (let never : false ≡ true = is in cc)
ended_at lines.listed scope depth Outer here rest is e on = absurd (let never : false ≡ true = is in cc)
ended_at lines.plain scope depth Outer here rest is e on = absurd (let never : false ≡ true = is in cc)

-- the text ends at a level that is in no block
text_ended : (b : Block) (scope : Scope) (depth : ℕ) (Outer : List Token → Type 0) (here : List Token) → takes_statement b ≡ true → is_inner b ≡ false → after_piece piece.TextEnd (Some here) ≡ Some []
    → kind_at here ≡ kinds.text_end → FillsAt b scope depth Outer here
unfolding is_policy
text_ended b scope depth Outer here is outermost e kind = by b is outermost
  where
    ends : Plain scope depth here
    ends = nothing_more scope depth here (λ m. Takes (after_piece piece.TextEnd) m (λ rest. rest ≡ [])) (record { mid = []; spelled = e; on = refl })

    by : (c : Block) → takes_statement c ≡ true → is_inner c ≡ false → FillsAt c scope depth Outer here
    by lines.start it out = absurd (let never : false ≡ true = it in cc)
    by lines.headed it out = no_policy scope depth here (not_policy here (ap is_policy kind)) (no_parameters scope depth here ends)
    by lines.listed it out = no_parameters scope depth here ends
    by lines.plain it out = ends
    by lines.loop it out = absurd (let never : true ≡ false = out in cc)
    by lines.branch it out = absurd (let never : true ≡ false = out in cc)
    by lines.last it out = absurd (let never : true ≡ false = out in cc)

-- a line, and what fills behind it
step_back : (at : Place) (levels : List Level) (line : List Token) (next : List Level) → Steps levels line next → (rest : List Token) → Fills next rest → Fills levels (line ++ rest)
unfolding is_policy is_tail
step_back at levels line next (lines.heading h) rest f =
    let g = subst (λ (ls : List Level). Fills ls rest) h.is f in
    let e = heading_line.more line rest h.spelled in
    at_level levels h.outer h.level (line ++ rest) h.here
    (at_block lines.start h.level.block h.level.scope h.level.depth (Fills h.outer) (line ++ rest) h.first (record { mid = rest; spelled = e; on = g }))
step_back at levels line next (lines.policy h) rest f =
    let g = subst (λ (ls : List Level). Fills ls rest) h.is f in
    let here = line ++ rest in
    let e = (policy_line h.policy).more line rest h.spelled in
    let one = left_before (after_piece piece.LineEnd) refl (after_piece (piece.Word (word_of_policy h.policy)) (after_piece (piece.Word word.Policy) (Some here))) rest e in
    let two = left_before (after_piece (piece.Word (word_of_policy h.policy))) refl (after_piece (piece.Word word.Policy) (Some here)) one.0 one.1 in
    let taken = chosen (piece_begins (piece.Word word.Policy) (Some here)) (after_piece piece.LineEnd (after_piece (piece.Word (word_of_policy h.policy)) (after_piece (piece.Word word.Policy) (Some here)))) (only (is_any h.policy) (Some here))
    (taken_begins word.Policy here two.0 two.1) in
    at_level levels h.outer h.level here h.here
    (at_block lines.headed h.level.block h.level.scope h.level.depth (Fills h.outer) here h.second (record { policy = h.policy; mid = rest; spelled = taken ∙ e; on = g }))
step_back at levels line next (lines.parameter h) rest f =
    let g = subst (λ (ls : List Level). Fills ls rest) h.is f in
    let here = line ++ rest in
    let e = (parameter_line h.number h.name h.value).more line rest h.spelled in
    let other = not_policy here (not_policy_kind here kinds.parameter refl (parameter_first h.number h.name h.value here rest e)) in
    at_level levels h.outer h.level here h.here
    (listed_at h.level.block h.level.scope h.level.depth (Fills h.outer) here h.early other (parameter_before at h.level.scope h.level.depth h.number h.name h.value here rest h.other h.within e g))
step_back at levels line next (lines.simple h) rest f =
    let here = line ++ rest in
    let e = (simple_line h.statement h.may.one h.simple).more line rest h.spelled in
    let kind = kind_begins (piece.Word (first_word h.statement)) here (one_begins h.statement h.may.one here rest e) ∙ simple_kind h.statement h.may.one h.simple in
    at_level levels h.outer h.level here h.here
    (before_all at h.level h.outer h.statement here rest h.begun (not_policy_kind here kinds.simple refl kind) h.may e (subst (λ (ls : List Level). Fills ls rest) h.is f))
step_back at levels line next (lines.repeat h) rest f =
    let here = line ++ rest in
    let g = subst (λ (ls : List Level). Fills ls rest) h.is f in
    let e = (loop_line h.number h.name h.span).more line rest h.spelled in
    let s : SpmdStatement = statement.Repeat' h.number h.name h.span.first h.span.last h.span.step at g.tree in
    let spelled = loop_spelled at h.number h.name h.span g.tree here rest g.mid g.on.mid g.may.plain e g.spelled g.on.spelled in
    let kind = kind_begins (piece.Word word.For) here (one_begins s refl here g.on.mid spelled) in
    at_level levels h.outer h.level here h.here
    (before_all at h.level h.outer s here g.on.mid h.begun (not_policy_kind here kinds.repeat refl kind)
    (record { one = refl; plain = refl; obeys = (h.deep, h.free, h.may.first, h.may.last, h.may.step, g.may.obeys) }) spelled g.on.on)
step_back at levels line next (lines.when h) rest f =
    let here = line ++ rest in
    let g = subst (λ (ls : List Level). Fills ls rest) h.is f in
    let e = (head_line h.number false h.condition).more line rest h.spelled in
    let s : SpmdStatement = statement.When' h.number false h.condition at g.tree at g.on.tree in
    let spelled = branch_spelled at h.number false h.condition g.tree g.on.tree here rest g.mid g.on.mid g.on.on.mid g.may.plain g.on.may.tail e g.spelled g.on.spelled g.on.on.spelled in
    let kind = kind_begins (piece.Word word.If) here (one_begins s refl here g.on.on.mid spelled) in
    at_level levels h.outer h.level here h.here
    (before_all at h.level h.outer s here g.on.on.mid h.begun (not_policy_kind here kinds.when refl kind)
    (record { one = refl; plain = refl; obeys = (h.deep, h.within, g.may.obeys, g.on.may.obeys) }) spelled g.on.on.on)
step_back at levels line next (lines.chained h) rest f =
    let here = line ++ rest in
    let g = subst (λ (ls : List Level). Fills ls rest) h.is f in
    let e = (head_line h.number true h.condition).more line rest h.spelled in
    let spelled = branch_spelled at h.number true h.condition g.tree g.on.tree here rest g.mid g.on.mid g.on.mid g.may.plain g.on.may.tail e g.spelled g.on.spelled refl in
    at_level levels h.outer h.level here h.here
    (at_block lines.branch h.level.block h.level.scope h.level.depth (Fills h.outer) here h.open_branch
    (nothing_more h.level.scope h.level.depth here (λ m. Tail h.level.scope h.level.depth m (λ n. Takes (after_end false) n (Fills h.outer)))
    (record {
      tree = statement.When' h.number true h.condition at g.tree at g.on.tree;
      mid = g.on.mid;
      may = record { tail = refl; obeys = (h.deep, h.within, g.may.obeys, g.on.may.obeys) };
      spelled = spelled;
      on = g.on.on;
    })))
step_back at levels line next (lines.otherwise h) rest f =
    let here = line ++ rest in
    let g = subst (λ (ls : List Level). Fills ls rest) h.is f in
    let e = else_line.more line rest h.spelled in
    at_level levels h.outer h.level here h.here
    (at_block lines.branch h.level.block h.level.scope h.level.depth (Fills h.outer) here h.open_branch
    (nothing_more h.level.scope h.level.depth here (λ m. Tail h.level.scope h.level.depth m (λ n. Takes (after_end false) n (Fills h.outer)))
    (record {
      tree = statement.Otherwise' at g.tree;
      mid = g.mid;
      may = record { tail = refl; obeys = g.may.obeys };
      spelled = else_spelled at g.tree here rest g.mid g.may.plain e g.spelled;
      on = g.on;
    })))
step_back at levels line next (lines.end h) rest f =
    at_level levels h.outer h.level (line ++ rest) h.here
    (ended_at h.level.block h.level.scope h.level.depth (Fills h.outer) (line ++ rest) rest h.inner (end_line.more line rest h.spelled) (subst (λ (ls : List Level). Fills ls rest) h.is f))
step_back at levels line next (lines.text_end h) rest f =
    let none : rest ≡ [] = subst (λ (ls : List Level). Fills ls rest) h.is f in
    let all : line ++ rest ≡ line = ap (λ (xs : List Token). line ++ xs) none ∙ append-nil line in
    at_level levels [] h.level (line ++ rest) h.here
    (text_ended h.level.block h.level.scope h.level.depth (Fills []) (line ++ rest) h.begun h.outermost (ap (λ (xs : List Token). after_piece piece.TextEnd (Some xs)) all ∙ h.spelled)
    (ap kind_at all ∙ text_end_kind line [] h.spelled))

runs_back : (at : Place) (reached levels : List Level) (pieces rest : List Token) → Runs reached levels pieces → Fills reached rest → Fills levels (pieces ++ rest)
runs_back at reached levels pieces rest (lines.done is none) f =
    subst (λ (xs : List Token). Fills levels (xs ++ rest)) (sym none) (subst (λ (ls : List Level). Fills ls rest) (sym is) f)
runs_back at reached levels pieces rest (lines.more m r) f =
    subst (λ (xs : List Token). Fills levels xs) (sym (append_assoc m.line m.rest rest) ∙ ap (λ (xs : List Token). xs ++ rest) (sym m.split))
    (step_back at levels m.line m.next m.steps (m.rest ++ rest) (runs_back at reached m.next m.rest rest r f))

-- ---- what is open can be ended

end_pieces : List Token → List Token
end_pieces rest = record { line = 1; piece = piece.Word word.End } ∷ record { line = 1; piece = piece.LineEnd } ∷ rest

text_end_piece : List Token
text_end_piece = record { line = 1; piece = piece.TextEnd } ∷ []

plain_end : (scope : Scope) (depth : ℕ) → Plain scope depth text_end_piece
unfolding text_end_piece
plain_end scope depth = nothing_more scope depth text_end_piece (λ m. Takes (after_piece piece.TextEnd) m (λ rest. rest ≡ [])) (record { mid = []; spelled = refl; on = refl })

closing_at : (b : Block) (scope : Scope) (depth : ℕ) (Outer : List Token → Type 0) → (rest : List Token) × Outer rest → (here : List Token) × FillsAt b scope depth Outer here
unfolding end_pieces text_end_piece is_policy
closing_at lines.start scope depth Outer on = (
  record { line = 1; piece = piece.Word word.Spmd } ∷ record { line = 1; piece = piece.LineEnd } ∷ text_end_piece,
  record { mid = text_end_piece; spelled = refl; on = no_policy scope depth text_end_piece refl (no_parameters scope depth text_end_piece (plain_end scope depth)) },
)
closing_at lines.headed scope depth Outer on = (text_end_piece, no_policy scope depth text_end_piece refl (no_parameters scope depth text_end_piece (plain_end scope depth)))
closing_at lines.listed scope depth Outer on = (text_end_piece, no_parameters scope depth text_end_piece (plain_end scope depth))
closing_at lines.plain scope depth Outer on = (text_end_piece, plain_end scope depth)
closing_at lines.loop scope depth Outer on = (end_pieces on.0, ended_at lines.loop scope depth Outer (end_pieces on.0) on.0 refl refl on.1)
closing_at lines.branch scope depth Outer on = (end_pieces on.0, ended_at lines.branch scope depth Outer (end_pieces on.0) on.0 refl refl on.1)
closing_at lines.last scope depth Outer on = (end_pieces on.0, ended_at lines.last scope depth Outer (end_pieces on.0) on.0 refl refl on.1)

closing_of : (levels : List Level) → (here : List Token) × Fills levels here
closing_of [] = ([], refl)
closing_of (l ∷ outer) = closing_at l.block l.scope l.depth (Fills outer) (closing_of outer)

-- ---- the whole text

fills_readable : (at : Place) (names : List (Vec ℕ)) (here : List Token) → Fills (begin names ∷ []) here → AreReadablePieces names here
fills_readable at names here f =
    let heads : SpmdStatement = f.on.on.heads in
    let tree : SpmdStatement = f.on.on.on.tree in
    let s : SpmdStatement = statement.Sequence' at heads at tree in
    let ordered : is_ordered s ≡ true = text_ordered names s (f.on.on.may, f.on.on.on.may.obeys) in
    let spelled = sequence_spelled at heads tree f.on.mid f.on.on.mid f.on.on.on.mid (parameters_plain [] heads f.on.on.may) f.on.on.on.may.plain f.on.on.spelled f.on.on.on.spelled in
    let p : SpmdPolicy = f.on.policy in
    record {
      policy = p;
      program = s;
      says = record {
        spelled = ap (λ (z : Rest). only (is_ordered s) (after_piece piece.TextEnd (after_statement s (after_policy p z)))) f.spelled
            ∙ (ap (λ (z : Rest). only (is_ordered s) (after_piece piece.TextEnd (after_statement s z))) f.on.spelled
            ∙ (ap (λ (z : Rest). only (is_ordered s) (after_piece piece.TextEnd z)) spelled
            ∙ (ap (λ (b : Bool). only b (after_piece piece.TextEnd (Some f.on.on.on.mid))) ordered
            ∙ (f.on.on.on.on.spelled ∙ ap Some f.on.on.on.on.on))));
        obeys = (f.on.on.may, f.on.on.on.may.obeys);
      };
    }

-- Lines that may stand one after another from the beginning of a text on are the beginning of some
-- text that can be read.
pub begins_readable : (at : Place) (names : List (Vec ℕ)) (reached : List Level) (before : List Token) → Runs reached (begin names ∷ []) before
    → (other : List Token) × AreReadablePieces names (before ++ other)
begins_readable at names reached before runs =
    let c = closing_of reached in (c.0, fills_readable at names (before ++ c.0) (runs_back at reached (begin names ∷ []) before c.0 runs c.1))
