-- What is told of a text is what its pieces say.
use Rattle.std.proofs.Common.{◌≡◌, ℕ, ◌≤◌, length, Bool, true, false, List, [], ◌∷◌, Option, Some, None, IfSome, Result, Ok, if◌then◌else◌, refl, ap, sym, subst, ◌∙◌, inl, inr}
use Rattle.std.specs.Global.{Vec}
use Rattle.std.proofs.lemmas.Option.{same_Some}
use Rattle.spmd_tree.specs.declared.tree.SpmdStatement.{SpmdStatement}
use Rattle.spmd_text.specs.declared.fault.ParseFault.{ParseFault}
use Rattle.spmd_text.specs.declared.fault.ParseReason.{ParseReason}
use Rattle.spmd_text.specs.declared.fault.ParseReason.TheVariants.{Memory}
use Rattle.spmd_text.specs.declared.fault.TextFault.TheVariants as told
use Rattle.spmd_text.specs.declared.parser.Parser.{Parser}
use Rattle.spmd_text.specs.declared.piece.Piece.TheVariants as piece
use Rattle.spmd_text.specs.declared.piece.Pieces.{Pieces}
use Rattle.spmd_text.specs.declared.piece.Token.{Token}
use Rattle.spmd_text.specs.declared.reading.SpmdPolicy.{SpmdPolicy}
use Rattle.spmd_text.specs.declared.reading.SpmdText.{SpmdText}
use Rattle.spmd_text.specs.parts.Tokens.{ArePieces}
use Rattle.spmd_text.specs.Tokens.{Cutting, pieces_of}
use Rattle.spmd_text.specs.parts.Reading.{Finds}
use Rattle.spmd_text.specs.Spelling.{Rest, after_piece, after_statement, after_text, is_ordered, is_piece, only}
use Rattle.spmd_text.specs.parts.Statements.{heading_part}
use Rattle.spmd_text.specs.parts.Programs.{Meets, is_all_read, text_part}
use Rattle.spmd_text.specs.Programs.{ObeysText, SaysProgram, parameters_of}
use Rattle.spmd_text.specs.FirstFaults.{IsFirstWrongLine, AreReadablePieces}
use Rattle.spmd_text.specs.parts.Joints.{Place}
use Rattle.spmd_text.specs.parts.Lines.{IsEnded, TellsLine, begin}
use Rattle.spmd_text.specs.Texts.{HasTextFault, HasFirstFault, IsSpmdText, grammar_fault, is_memory_reason}
use Rattle.spmd_text.proofs.FirstFaults.{first_fault}
use Rattle.spmd_text.proofs.Names.{text_fits, text_ordered, text_same}
use Rattle.spmd_text.proofs.NoStar.{left_before, only_left}
use Rattle.spmd_text.proofs.TextEnds.{ended_ends, pieces_ended}

-- ---- the end of a text

end_taken : (rest : List Token) → is_all_read rest ≡ true → after_piece piece.TextEnd (Some rest) ≡ Some []
end_taken [] e = absurd (let never : false ≡ true = e in cc)
end_taken (t ∷ []) e = ap (λ (b : Bool). only b (Some [])) e
end_taken (t ∷ u ∷ us) e = absurd (let never : false ≡ true = e in cc)

end_left : (rest : List Token) → after_piece piece.TextEnd (Some rest) ≡ Some [] → is_all_read rest ≡ true
end_left [] e = absurd (let never : None ≡ Some [] = e in cc)
end_left (t ∷ ts) e =
    let o = only_left (is_piece piece.TextEnd t.piece) (Some ts) [] e in
    ap (λ (l : List Token). is_all_read (t ∷ l)) (same_Some ts [] o.1) ∙ o.0

-- ---- what the reader found

pub read_said : {old new : Parser} {x : SpmdPolicy × SpmdStatement} (pieces : Pieces) → Meets (text_part old.names.now) old new x → old.rest.now ≡ pieces.tokens.items → old.names.now ≡ pieces.names.items
    → new.fault ≡ None → is_all_read new.rest.now ≡ true → SaysProgram pieces.names.items pieces.tokens.items x.0 x.1
read_said {old} {new} {x} pieces meets tokens names sound ends = record {
  spelled =
      ap (λ (ts : List Token). after_text x.0 x.1 (Some ts)) (sym tokens)
      ∙ (ap (λ (b : Bool). only b (after_piece piece.TextEnd (after_statement x.1 (heading_part.behind x.0 (Some old.rest.now))))) (text_ordered old.names.now x.1 (meets.may sound))
      ∙ (ap (λ (z : Rest). after_piece piece.TextEnd z) (meets.stands sound) ∙ end_taken new.rest.now ends));
  obeys = subst (λ (n : List (Vec ℕ)). ObeysText n x.1) names (meets.may sound);
}

memory_told : (why : ParseReason) → Some why ≡ Some Memory → is_memory_reason why ≡ false → ⊥
memory_told why e other =
    let same : why ≡ Memory = cc in
    let never : true ≡ false = ap is_memory_reason (sym same) ∙ other in cc

some_never : (why : ParseReason) → Some why ≡ None → ⊥
some_never why e = cc

pub read_told : {old new : Parser} {x : SpmdPolicy × SpmdStatement} (pieces : Pieces) → Meets (text_part old.names.now) old new x → old.rest.now ≡ pieces.tokens.items → old.names.now ≡ pieces.names.items
    → old.fault ≡ None → (o : Option ParseFault) → IfSome o (λ fault. new.fault ≡ Some fault.reason)
    → IfSome o (λ fault. is_memory_reason fault.reason ≡ false → AreReadablePieces pieces.names.items pieces.tokens.items → ⊥)
read_told {old} {new} {x} pieces meets tokens names sound None is_told = tt
read_told {old} {new} {x} pieces meets tokens names sound (Some fault) is_told = never
  where
    by_found : (rest : List Token) → is_memory_reason fault.reason ≡ false → Finds new rest (Unit {0}) → ⊥
    by_found rest other (inl memory) = memory_told fault.reason (sym is_told ∙ memory) other
    by_found rest other (inr (there, any)) = some_never fault.reason (sym is_told ∙ there.sound)

    never : is_memory_reason fault.reason ≡ false → AreReadablePieces pieces.names.items pieces.tokens.items → ⊥
    never other r =
        let p : SpmdPolicy = r.policy in
        let s : SpmdStatement = r.program in
        let o = only_left (is_ordered s) (after_piece piece.TextEnd (after_statement s (heading_part.behind p (Some old.rest.now)))) []
        (ap (λ (ts : List Token). after_text p s (Some ts)) tokens ∙ r.says.spelled) in
        let rest = left_before (after_piece piece.TextEnd) refl (after_statement s (heading_part.behind p (Some old.rest.now))) [] o.1 in
        by_found rest.0 other
        (meets.finds (p, s) rest.0 sound rest.1 (subst (λ (n : List (Vec ℕ)). ObeysText n s) (sym names) r.says.obeys)
        (end_left rest.0 (ap (after_piece piece.TextEnd) (sym rest.1) ∙ o.1)))

-- the line that is told is the first that is wrong
pub read_first : {old new : Parser} {x : SpmdPolicy × SpmdStatement} {at : ℕ} (place : Place) (pieces : Pieces) → Meets (text_part old.names.now) old new x → (IsEnded old.rest.now → TellsLine (begin old.names.now ∷ []) old new old.rest.now at)
    → old.rest.now ≡ pieces.tokens.items → old.names.now ≡ pieces.names.items → old.fault ≡ None → (o : Option ParseFault) → IfSome o (λ fault. new.fault ≡ Some fault.reason)
    → IfSome o (λ fault. fault.line ≡ at)
    → IfSome o (λ fault. is_memory_reason fault.reason ≡ false → IsEnded pieces.tokens.items → IsFirstWrongLine pieces.names.items pieces.tokens.items fault.line)
read_first {old} {new} {x} {at} place pieces meets tells tokens names sound None is_told lined = tt
read_first {old} {new} {x} {at} place pieces meets tells tokens names sound (Some fault) is_told lined = first
  where
    first : is_memory_reason fault.reason ≡ false → IsEnded pieces.tokens.items → IsFirstWrongLine pieces.names.items pieces.tokens.items fault.line
    first other once =
        let here = subst IsEnded (sym tokens) once in
        let stuck = tells here fault.reason sound is_told (λ e. memory_told fault.reason (ap (λ (why : ParseReason). Some why) e) other) (ended_ends old.rest.now here) in
        subst (λ (n : ℕ). IsFirstWrongLine pieces.names.items pieces.tokens.items n) (sym lined)
        (subst (λ (ts : List Token). IsFirstWrongLine pieces.names.items ts at) tokens
        (subst (λ (ns : List (Vec ℕ)). IsFirstWrongLine ns old.rest.now at) names (first_fault place old.names.now old.rest.now at stuck)))

-- ---- what is told of the bytes

pub text_of : (bytes : List ℕ) (pieces : Pieces) (p : SpmdPolicy) (s : SpmdStatement) (parameters : Vec ℕ) → length bytes ≤ 65536 → ArePieces pieces (pieces_of bytes)
    → SaysProgram pieces.names.items pieces.tokens.items p s
    → parameters.items ≡ parameters_of s → IsSpmdText (record { policy = p; program = s; names = pieces.names; parameters = parameters }) bytes
text_of bytes pieces p s parameters small cut says named = record {
  small = small;
  state = cut.state;
  cut = cut.done;
  names = cut.names;
  spelled = ap (λ (ts : List Token). after_text p s (Some ts)) (sym cut.tokens) ∙ says.spelled;
  labels = text_fits pieces.names.items s says.obeys;
  obeys = says.obeys;
  parameters = named;
}

same_state : (a b : Cutting) (whole : Result Cutting ParseFault) → whole ≡ Ok a → whole ≡ Ok b → a ≡ b
same_state a b whole is also = cc

-- a text is what its pieces say, in names of their own
text_read : (bytes : List ℕ) (pieces : Pieces) → ArePieces pieces (pieces_of bytes) → (text : SpmdText) → IsSpmdText text bytes → AreReadablePieces pieces.names.items pieces.tokens.items
text_read bytes pieces cut text is =
    let same = same_state is.state cut.state (pieces_of bytes) is.cut cut.done in
    record {
      policy = text.policy;
      program = text.program;
      says = record {
        spelled =
            ap (λ (ts : List Token). after_text text.policy text.program (Some ts)) (cut.tokens ∙ ap (λ (c : Cutting). c.tokens) (sym same))
            ∙ is.spelled;
        obeys = text_same text.names.items pieces.names.items (is.names ∙ (ap (λ (c : Cutting). c.names) same ∙ sym cut.names)) text.program is.obeys;
      };
    }

pub fault_told : (bytes : List ℕ) (pieces : Pieces) (fault : ParseFault) → length bytes ≤ 65536 → ArePieces pieces (pieces_of bytes)
    → (is_memory_reason fault.reason ≡ false → AreReadablePieces pieces.names.items pieces.tokens.items → ⊥)
    → (is_memory_reason fault.reason ≡ false → IsEnded pieces.tokens.items → IsFirstWrongLine pieces.names.items pieces.tokens.items fault.line) → HasTextFault bytes (grammar_fault fault)
fault_told bytes pieces fault small cut never first = by_memory (is_memory_reason fault.reason) refl
  where
    has_first : is_memory_reason fault.reason ≡ false → HasFirstFault bytes fault.line
    has_first e = record {
      state = cut.state;
      cut = cut.done;
      names = pieces.names.items;
      named = cut.names;
      first = subst (λ (ts : List Token). IsFirstWrongLine pieces.names.items ts fault.line) cut.tokens (first e (subst IsEnded (sym cut.tokens) (pieces_ended bytes cut.state cut.done)));
    }

    by_memory : (b : Bool) → is_memory_reason fault.reason ≡ b → HasTextFault bytes (grammar_fault fault)
    by_memory true e = subst (λ (k : Bool). HasTextFault bytes (if k then told.Memory else told.Grammar fault)) (sym e) tt
    by_memory false e =
        subst (λ (k : Bool). HasTextFault bytes (if k then told.Memory else told.Grammar fault)) (sym e)
        (small, has_first e, e, λ text is. never e (text_read bytes pieces cut text is))
