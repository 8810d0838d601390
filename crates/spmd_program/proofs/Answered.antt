-- What is answered of an SPMD text.
use Rattle.std.proofs.Common.{◌≡◌, ◌∙◌, ℕ, Bool, List, Option, Result, Ok, Err, IfOk, IfErr, refl, sym, ap, subst, inl, inr, option_map}
use Rattle.std.specs.Global.{Vec}
use Rattle.spmd_text.specs.declared.reading.SpmdText.{SpmdText}
use Rattle.spmd_text.specs.declared.fault.TextFault.{TextFault}
use Rattle.spmd_text.specs.Texts.{HasTextFault, IsSpmdText}
use Rattle.unroll.specs.declared.value.Value.{Value}
use Rattle.unroll.specs.declared.call.Fault.{Fault}
use Rattle.unroll.specs.declared.call.Placed.{Placed}
use Rattle.unroll.specs.declared.call.Turn.{Turn}
use Rattle.unroll.specs.declared.whole.Unrolled.{Unrolled}
use Rattle.unroll.specs.Runs.{Outcome, TextRun, Failed}
use Rattle.unroll.specs.Statements.{text_run}
use Rattle.unroll.specs.Whole.{IsUnrolled}
use Rattle.spmd_program.specs.declared.unrolling.NotUnrolled.{NotUnrolled}
use Rattle.spmd_program.specs.declared.unrolling.NotUnrolled.TheVariants.{Memory, Refused}
use Rattle.spmd_program.specs.declared.unrolling.Unrolling.{Unrolling}
use Rattle.spmd_program.specs.Maps.{program_map}
use Rattle.spmd_program.specs.Programs.{IsProgramText}
use Rattle.spmd_program.specs.Requests.{AreOrdered, AreUnordered}
use Rattle.spmd_program.specs.Settings.{Unset, set_all, unset, values_of_settings}
use Rattle.spmd_program.specs.Told.{fault_text}
use Rattle.spmd_program.specs.Unrolling.{IsMapWanted, IsMissetOf, IsRefusal, IsToldUnread, IsUnrolling, IsUnrollingOf, IsWrongOf, TellsRefusal, setting_text}

-- ---- an outcome

-- what is printed is that of the run
pub printed_of : (outcome : Outcome) (path bytes : List ℕ) (ranks : ℕ) (text : SpmdText) (mapped : Bool) (unrolled : Unrolled) (r : Result Unrolling NotUnrolled) → IsUnrolled unrolled outcome
    → IfOk r (λ made. IsProgramText text.policy text.names.items ranks unrolled.calls.items made.program.items)
    → IfOk r (λ made. AreOrdered text.policy text.names.items ranks unrolled.calls.items)
    → IfOk r (λ made. IsMapWanted mapped (program_map path text.names.items bytes unrolled.turns.items unrolled.calls.items made.program.items) (option_map (λ m. m.items) made.map))
    → IfOk r (λ made. IsUnrollingOf outcome path bytes ranks text mapped made.program.items (option_map (λ m. m.items) made.map))
printed_of outcome path bytes ranks text mapped unrolled (Ok made) is program ordered mapping = record {
  run = is.run;
  done = is.done;
  is_program = subst (λ (calls : List Placed). IsProgramText text.policy text.names.items ranks calls made.program.items) is.calls program;
  ordered = subst (λ (calls : List Placed). AreOrdered text.policy text.names.items ranks calls) is.calls ordered;
  is_map =
      subst (λ (calls : List Placed). IsMapWanted mapped (program_map path text.names.items bytes is.run.turns calls made.program.items) (option_map (λ m. m.items) made.map)) is.calls
      (subst (λ (turns : List Turn). IsMapWanted mapped (program_map path text.names.items bytes turns unrolled.calls.items made.program.items) (option_map (λ m. m.items) made.map)) is.turns mapping);
}
printed_of outcome path bytes ranks text mapped unrolled (Err e) is program ordered mapping = program

-- so is a request that is wrong
pub unordered_of : (outcome : Outcome) (path : List ℕ) (ranks : ℕ) (text : SpmdText) (unrolled : Unrolled) (r : Result Unrolling NotUnrolled) → IsUnrolled unrolled outcome
    → IfErr r (TellsRefusal (AreUnordered path text.policy text.names.items ranks unrolled.turns.items unrolled.calls.items)) → IfErr r (TellsRefusal (IsWrongOf outcome path ranks text))
unordered_of outcome path ranks text unrolled (Ok made) is wrong = wrong
unordered_of outcome path ranks text unrolled (Err Memory) is wrong = wrong
unordered_of outcome path ranks text unrolled (Err (Refused told)) is wrong =
    inr (record {
      run = is.run;
      done = is.done;
      unordered =
          subst (λ (calls : List Placed). AreUnordered path text.policy text.names.items ranks is.run.turns calls told.items) is.calls
          (subst (λ (turns : List Turn). AreUnordered path text.policy text.names.items ranks turns unrolled.calls.items told.items) is.turns wrong);
    })

-- the fault that is told is that of the outcome
pub faulty_of : (outcome : Outcome) (path : List ℕ) (ranks : ℕ) (text : SpmdText) (fault : Fault) (turns : List Turn) (told : List ℕ) → (run : TextRun) × (outcome ≡ Failed fault run) × (turns ≡ run.turns)
    → told ≡ fault_text path text.names.items ranks turns fault → IsWrongOf outcome path ranks text told
faulty_of outcome path ranks text fault turns told (run, failed, same) is =
    inl (record {
      fault = fault;
      run = run;
      failed = failed;
      words = is ∙ ap (λ (ts : List Turn). fault_text path text.names.items ranks ts fault) same;
    })

-- ---- the text

-- bytes that are no text
pub unread_of : (path bytes : List ℕ) (ranks : ℕ) (settings : List (List ℕ)) (barriers : Bool) (fault : TextFault) (e : NotUnrolled) → HasTextFault bytes fault → TellsRefusal (IsToldUnread path fault) e
    → TellsRefusal (IsRefusal path bytes ranks settings barriers) e
unread_of path bytes ranks settings barriers fault Memory has told = told
unread_of path bytes ranks settings barriers fault (Refused words) has told = inl (fault, has, told)

-- the first setting that is wrong is told
pub is_misset : (path : List ℕ) (settings : List (List ℕ)) (text : SpmdText) (values : List (Option Value)) (names : List (Vec ℕ)) (bad : Unset) (told : List ℕ) → values ≡ unset names
    → names ≡ text.names.items → set_all text values settings ≡ Err bad → told ≡ setting_text path bad → IsMissetOf path settings text told
is_misset path settings text values names bad told none same wrong said = record {
  bad = bad;
  set = ap (λ (vs : List (Option Value)). set_all text vs settings) (sym (none ∙ ap (λ (ns : List (Vec ℕ)). unset ns) same)) ∙ wrong;
  words = said;
}

-- a setting that is wrong
pub misset_of : (path bytes : List ℕ) (ranks : ℕ) (settings : List (List ℕ)) (barriers : Bool) (text : SpmdText) (e : NotUnrolled) → IsSpmdText text bytes → TellsRefusal (IsMissetOf path settings text) e
    → TellsRefusal (IsRefusal path bytes ranks settings barriers) e
misset_of path bytes ranks settings barriers text Memory is told = told
misset_of path bytes ranks settings barriers text (Refused words) is told = inr (inl (text, is, told))

-- the outcome is that of the meaning
pub unrolled_of : (path bytes : List ℕ) (ranks : ℕ) (settings : List (List ℕ)) (barriers mapped : Bool) (text : SpmdText) (values : List (Option Value)) (r : Result Unrolling NotUnrolled) → IsSpmdText text bytes → values_of_settings text settings ≡ Ok values
    → IfOk r (λ made. IsUnrollingOf (text_run text.program values ranks barriers 18446744073709551615 10000000) path bytes ranks text mapped made.program.items (option_map (λ m. m.items) made.map))
    → IfOk r (λ made. IsUnrolling path bytes ranks settings barriers mapped made.program.items (option_map (λ m. m.items) made.map))
unrolled_of path bytes ranks settings barriers mapped text values (Ok made) is set of = record {
  text = text;
  outcome = text_run text.program values ranks barriers 18446744073709551615 10000000;
  means = record { values = values; is_text = is; set = set; run = refl };
  made = of;
}
unrolled_of path bytes ranks settings barriers mapped text values (Err e) is set of = of

pub wrong_of : (path bytes : List ℕ) (ranks : ℕ) (settings : List (List ℕ)) (barriers : Bool) (text : SpmdText) (values : List (Option Value)) (r : Result Unrolling NotUnrolled) → IsSpmdText text bytes → values_of_settings text settings ≡ Ok values
    → IfErr r (TellsRefusal (IsWrongOf (text_run text.program values ranks barriers 18446744073709551615 10000000) path ranks text)) → IfErr r (TellsRefusal (IsRefusal path bytes ranks settings barriers))
wrong_of path bytes ranks settings barriers text values (Ok made) is set of = of
wrong_of path bytes ranks settings barriers text values (Err Memory) is set of = of
wrong_of path bytes ranks settings barriers text values (Err (Refused told)) is set of =
    inr (inr (text, text_run text.program values ranks barriers 18446744073709551615 10000000, record { values = values; is_text = is; set = set; run = refl }, of))
