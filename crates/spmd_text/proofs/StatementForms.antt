-- A statement of one line is read from its parts.
use Rattle.std.proofs.Common.{◌≡◌, ℕ, true, List, Some, None, refl, ap, sym, subst, ◌∙◌}
use Rattle.spmd_tree.specs.declared.tree.Expression.{Expression}
use Rattle.spmd_tree.specs.declared.tree.Labels.{Labels}
use Rattle.spmd_tree.specs.declared.tree.Arguments.{Arguments}
use Rattle.spmd_tree.specs.declared.tree.SpmdStatement.{SpmdStatement}
use Rattle.spmd_tree.specs.declared.tree.SpmdStatement.TheVariants as statement
use Rattle.spmd_text.specs.declared.calls.Form.{Form}
use Rattle.spmd_text.specs.declared.parser.Parser.{Parser}
use Rattle.spmd_text.specs.declared.piece.Word.{Word}
use Rattle.spmd_text.specs.declared.piece.Word.TheVariants as word
use Rattle.spmd_text.specs.declared.piece.Piece.TheVariants as piece
use Rattle.spmd_text.specs.declared.piece.Token.{Token}
use Rattle.spmd_text.specs.Spelling.{Rest, after_piece, after_arguments, after_labels, after_start, after_statement, after_value, call_word}
use Rattle.spmd_text.specs.parts.Parts.{SyntaxPart, arguments_part, syntax_form, form_of_call, labels_part, name_part, piece_part, then_part, value_part}
use Rattle.spmd_text.specs.parts.Statements.{Begins, begun_part, ends_behind, first_word, is_call_word, put_back, scope_of, variable_part}
use Rattle.spmd_text.specs.Statements.{Obeys, may_give}
use Rattle.spmd_text.proofs.Parts.{IsAs, none_some}
use Rattle.spmd_text.proofs.Scopes.{checked}
use Rattle.spmd_text.proofs.Starts.{form_of_word, is_a_call, is_assign, is_unreached, is_wait_all, start_behind, start_same}
use Rattle.spmd_text.proofs.Strict.{arguments_strict, labels_strict, value_strict}

pub variable_as : (old : Parser) (k : ℕ)
    → IsAs (then_part (checked name_part (λ j. may_give (scope_of old) j ≡ true)) (piece_part piece.Equals)) (variable_part (scope_of old)) old (k, tt {0}) k
variable_as old k = record {
  back = λ w rest sound may e ends. ((w, tt), ((tt, may), tt), e, refl, λ same. same.0);
  stands = λ rest e may. e;
  may = λ m. m.0.1;
}

pub assign_as : (old : Parser) (depth line name : ℕ) (value : Expression)
    → IsAs (then_part (then_part (variable_part (scope_of old)) (value_part old.in_parameter)) (piece_part piece.LineEnd)) (begun_part (scope_of old) depth line word.Let) old ((name, value), tt {0}) (statement.Assign line name value)
assign_as old depth line name value = record {
  back = back;
  stands = λ rest e may. ap (λ (z : Rest). after_piece piece.LineEnd (after_value value (after_piece piece.Equals (after_piece (piece.Name name) z)))) (start_same line word.Let old.rest.now) ∙ e;
  may = λ m. record { one = refl; begins = refl; obeys = (m.0.0, m.0.1) };
}
  where
    back : (w : SpmdStatement) (rest : List Token) → old.fault ≡ None → Begins (scope_of old) depth word.Let w → after_statement w (put_back line word.Let (Some old.rest.now)) ≡ Some rest → true ≡ true
        → (x : (ℕ × Expression) × Unit {0}) × SyntaxPart.May (then_part (then_part (variable_part (scope_of old)) (value_part old.in_parameter)) (piece_part piece.LineEnd)) x
        × (after_piece piece.LineEnd (after_value x.0.1 (after_piece piece.Equals (after_piece (piece.Name x.0.0) (Some old.rest.now)))) ≡ Some rest) × (true ≡ true)
        × (SyntaxPart.Same (then_part (then_part (variable_part (scope_of old)) (value_part old.in_parameter)) (piece_part piece.LineEnd)) ((name, value), tt) x → Unit {0})
    back w rest sound may e ends =
        let s = is_assign w may.one may.begins in
        let o = subst (Obeys (scope_of old) depth) s.is may.obeys in
        let f = subst (λ (z : SpmdStatement). after_statement z (put_back line word.Let (Some old.rest.now)) ≡ Some rest) s.is e in (
          ((s.name, s.value), tt),
          ((o.0, o.1), tt),
          start_behind (λ z. after_piece piece.LineEnd (after_value s.value (after_piece piece.Equals (after_piece (piece.Name s.name) z)))) (ap (λ (z : Rest). after_piece piece.LineEnd z) (value_strict s.value)) s.line line word.Let word.Let old.rest.now rest f,
          refl,
          λ same. tt,
        )

pub unreached_as : (old : Parser) (depth line : ℕ)
    → IsAs (piece_part piece.LineEnd) (begun_part (scope_of old) depth line word.Error) old (tt {0}) (statement.Unreached line)
unreached_as old depth line = record {
  back = back;
  stands = λ rest e may. ap (λ (z : Rest). after_piece piece.LineEnd z) (start_same line word.Error old.rest.now) ∙ e;
  may = λ m. record { one = refl; begins = refl; obeys = tt };
}
  where
    back : (w : SpmdStatement) (rest : List Token) → old.fault ≡ None → Begins (scope_of old) depth word.Error w → after_statement w (put_back line word.Error (Some old.rest.now)) ≡ Some rest → true ≡ true
        → (x : Unit {0}) × Unit {0} × (after_piece piece.LineEnd (Some old.rest.now) ≡ Some rest) × (true ≡ true) × (Unit {0} → Unit {0})
    back w rest sound may e ends =
        let s = is_unreached w may.one may.begins in
        let f = subst (λ (z : SpmdStatement). after_statement z (put_back line word.Error (Some old.rest.now)) ≡ Some rest) s.is e in
        (tt, tt, start_behind (λ z. after_piece piece.LineEnd z) refl s.line line word.Error word.Error old.rest.now rest f, refl, λ same. tt)

pub wait_all_as : (old : Parser) (depth line : ℕ) (requests : Labels)
    → IsAs (then_part (labels_part old.in_parameter old.names.now 1024) (piece_part piece.LineEnd)) (begun_part (scope_of old) depth line word.Waitall) old (requests, tt {0}) (statement.WaitAll line requests)
wait_all_as old depth line requests = record {
  back = back;
  stands = λ rest e may. ap (λ (z : Rest). after_piece piece.LineEnd (after_labels requests z)) (start_same line word.Waitall old.rest.now) ∙ e;
  may = λ m. record { one = refl; begins = refl; obeys = m.0 };
}
  where
    back : (w : SpmdStatement) (rest : List Token) → old.fault ≡ None → Begins (scope_of old) depth word.Waitall w → after_statement w (put_back line word.Waitall (Some old.rest.now)) ≡ Some rest → true ≡ true
        → (x : Labels × Unit {0}) × SyntaxPart.May (then_part (labels_part old.in_parameter old.names.now 1024) (piece_part piece.LineEnd)) x
        × (after_piece piece.LineEnd (after_labels x.0 (Some old.rest.now)) ≡ Some rest) × (true ≡ true) × ((Unit {0} × Unit {0}) → Unit {0})
    back w rest sound may e ends =
        let s = is_wait_all w may.one may.begins in
        let o = subst (Obeys (scope_of old) depth) s.is may.obeys in
        let f = subst (λ (z : SpmdStatement). after_statement z (put_back line word.Waitall (Some old.rest.now)) ≡ Some rest) s.is e in (
          (s.requests, tt),
          (o, tt),
          start_behind (λ z. after_piece piece.LineEnd (after_labels s.requests z)) (ap (λ (z : Rest). after_piece piece.LineEnd z) (labels_strict s.requests)) s.line line word.Waitall word.Waitall old.rest.now rest f,
          refl,
          λ same. tt,
        )

-- the form of a call is that of its word
pub word_form : (c : Arguments) (w : Word) (found : Form) → syntax_form w ≡ Some found → call_word c ≡ w → form_of_call c ≡ found
word_form c w found is e = some_same (form_of_call c) found (sym (form_of_word c) ∙ (ap syntax_form e ∙ is))
  where
    some_same : (a b : Form) → Some a ≡ Some b → a ≡ b
    some_same a b f = cc

pub call_as : (old : Parser) (depth line : ℕ) (w : Word) (found : Form) (c : Arguments) → is_call_word w ≡ true → syntax_form w ≡ Some found
    → (form_of_call c ≡ found → call_word c ≡ w)
    → IsAs (then_part (arguments_part old.in_parameter old.names.now found) (piece_part piece.LineEnd)) (begun_part (scope_of old) depth line w) old (c, tt {0}) (statement.Call line c)
call_as old depth line w found c calls is word_so = record {
  back = back;
  stands = λ rest e may.
      ap (λ (v : Word). after_piece piece.LineEnd (after_arguments c (after_start line v (put_back line w (Some old.rest.now))))) (word_so may.0.0)
      ∙ (ap (λ (z : Rest). after_piece piece.LineEnd (after_arguments c z)) (start_same line w old.rest.now) ∙ e);
  may = λ m. record { one = refl; begins = word_so m.0.0; obeys = m.0.1 };
}
  where
    back : (x : SpmdStatement) (rest : List Token) → old.fault ≡ None → Begins (scope_of old) depth w x → after_statement x (put_back line w (Some old.rest.now)) ≡ Some rest → ends_behind w rest ≡ true
        → (x : Arguments × Unit {0}) × SyntaxPart.May (then_part (arguments_part old.in_parameter old.names.now found) (piece_part piece.LineEnd)) x
        × (after_piece piece.LineEnd (after_arguments x.0 (Some old.rest.now)) ≡ Some rest) × (true ≡ true) × ((Unit {0} × Unit {0}) → Unit {0})
    back x rest sound may e ends =
        let s = is_a_call x w calls may.one may.begins in
        let o = subst (Obeys (scope_of old) depth) s.is may.obeys in
        let b = subst (λ (z : SpmdStatement). first_word z ≡ w) s.is may.begins in
        let f = subst (λ (z : SpmdStatement). after_statement z (put_back line w (Some old.rest.now)) ≡ Some rest) s.is e in (
          (s.arguments, tt),
          ((word_form s.arguments w found is b, o), tt),
          start_behind (λ z. after_piece piece.LineEnd (after_arguments s.arguments z)) (ap (λ (z : Rest). after_piece piece.LineEnd z) (arguments_strict s.arguments)) s.line line (call_word s.arguments) w old.rest.now rest f,
          refl,
          λ same. tt,
        )

pub no_form : (old : Parser) (depth line : ℕ) (w : Word) (x : SpmdStatement) → is_call_word w ≡ true → syntax_form w ≡ None → Begins (scope_of old) depth w x → ⊥
no_form old depth line w x calls none may =
    let s = is_a_call x w calls may.one may.begins in
    let b = subst (λ (z : SpmdStatement). first_word z ≡ w) s.is may.begins in
    none_some (form_of_call s.arguments) (sym none ∙ (ap syntax_form (sym b) ∙ form_of_word s.arguments))
