-- Words in usual orders, and what they ask for.
use Rattle.std.specs.Prelude.{◌≡◌, ◌==◌, ◌∷◌, [], List, Bool, true, false, Some, None, codes}
use Rattle.std.specs.Str.Parse.{IsNumeral, digits_value}
use Rattle.clap.specs.Words.{Text}
use Rattle.options.specs.Ranges.{IsPieces}
use Rattle.options.specs.declared.form.Form.{Form}
use Rattle.options.specs.declared.form.Form.TheVariants.{Brief, Whole, Graph, Chart, Picture, Page, Object, Messages}
use Rattle.command_line.specs.Requests.{AskFor, Task, names_twice, spelled_number, to_check, to_decide, to_decide_each, to_decide_phases, to_decide_unrolled, to_encode, to_explain, to_explain_each, to_explain_unrolled, to_export, to_join, to_phases, to_prove, to_replay, to_shrink, to_trim, to_unroll}

-- the text's first byte is a hyphen
abbrev pub begins_with_hyphen : Text → Bool
begins_with_hyphen [] = false
begins_with_hyphen (byte ∷ rest) = byte == 45

-- the text is no flag, whatever it is: it doesn't begin with a hyphen
abbrev pub IsFree : Text → Type 0
IsFree text = begins_with_hyphen text ≡ false

-- the text is a number of pieces in decimal digits, 1 to 64
pub record SpellsPieces (text : Text) : Type 0 where
  pub digits : IsNumeral 10 text
  pub in_range : IsPieces (digits_value 10 text)

-- the words that ask for a form of an explanation
abbrev pub form_words : Form → List Text
form_words Brief = []
form_words Whole = codes "--all" ∷ []
form_words Graph = codes "--dot" ∷ []
form_words Chart = codes "--chart" ∷ []
form_words Picture = codes "--svg" ∷ []
form_words Page = codes "--html" ∷ []
form_words Object = codes "--json" ∷ []
form_words Messages = codes "--messages" ∷ []

-- the words of a task in their usual order, after the program's own name; a number that isn't given
-- is the usual one
pub data PlainForm : List Text → Task → Type 0 where
  check_form : (name p e : Text) → IsFree p → IsFree e
      → PlainForm (name ∷ codes "check" ∷ p ∷ e ∷ []) (to_check p e 4 false)
  check_json_form : (name p e : Text) → IsFree p → IsFree e
      → PlainForm (name ∷ codes "check" ∷ p ∷ e ∷ codes "--json" ∷ []) (to_check p e 4 true)
  check_pieces_form : (name p e pieces : Text) → IsFree p → IsFree e → SpellsPieces pieces
      → PlainForm (name ∷ codes "check" ∷ p ∷ e ∷ codes "--pieces" ∷ pieces ∷ []) (to_check p e (spelled_number pieces) false)
  replay_form : (name p e : Text) → IsFree p → IsFree e
      → PlainForm (name ∷ codes "replay" ∷ p ∷ e ∷ []) (to_replay p e false)
  replay_lines_form : (name p e : Text) → IsFree p → IsFree e
      → PlainForm (name ∷ codes "replay" ∷ p ∷ e ∷ codes "--lines" ∷ []) (to_replay p e true)
  encode_form : (name p : Text) → IsFree p
      → PlainForm (name ∷ codes "encode" ∷ p ∷ []) (to_encode p false)
  encode_dimacs_form : (name p : Text) → IsFree p
      → PlainForm (name ∷ codes "encode" ∷ p ∷ codes "--dimacs" ∷ []) (to_encode p true)
  explain_form : (name p e : Text) (form : Form) → IsFree p → IsFree e
      → PlainForm (name ∷ codes "explain" ∷ p ∷ e ∷ form_words form) (to_explain p (Some e) 4 4 1000000 form None)
  explain_alone_form : (name p : Text) (form : Form) → IsFree p
      → PlainForm (name ∷ codes "explain" ∷ p ∷ form_words form) (to_explain p None 4 4 1000000 form None)
  explain_map_form : (name p file : Text) → IsFree p → IsFree file
      → PlainForm (name ∷ codes "explain" ∷ p ∷ codes "--map" ∷ file ∷ []) (to_explain p None 4 4 1000000 Brief (Some file))
  export_form : (name p e file : Text) → IsFree p → IsFree e → IsFree file
      → PlainForm (name ∷ codes "export" ∷ p ∷ e ∷ codes "--out" ∷ file ∷ []) (to_export p e file)
  trim_form : (name e file : Text) → IsFree e → IsFree file
      → PlainForm (name ∷ codes "trim" ∷ e ∷ codes "--out" ∷ file ∷ []) (to_trim e file false)
  trim_json_form : (name e file : Text) → IsFree e → IsFree file
      → PlainForm (name ∷ codes "trim" ∷ e ∷ codes "--out" ∷ file ∷ codes "--json" ∷ []) (to_trim e file true)
  shrink_form : (name p : Text) → IsFree p
      → PlainForm (name ∷ codes "shrink" ∷ p ∷ []) (to_shrink p None None)
  shrink_out_form : (name p file : Text) → IsFree p → IsFree file
      → PlainForm (name ∷ codes "shrink" ∷ p ∷ codes "--out" ∷ file ∷ []) (to_shrink p (Some file) None)
  shrink_map_form : (name p file map : Text) → IsFree p → IsFree file → IsFree map → names_twice (to_shrink p (Some file) (Some map)) ≡ false
      → PlainForm (name ∷ codes "shrink" ∷ p ∷ codes "--out" ∷ file ∷ codes "--map" ∷ map ∷ []) (to_shrink p (Some file) (Some map))
  decide_form : (name p : Text) → IsFree p
      → PlainForm (name ∷ codes "decide" ∷ p ∷ []) (to_decide p None false false)
  decide_json_form : (name p : Text) → IsFree p
      → PlainForm (name ∷ codes "decide" ∷ p ∷ codes "--json" ∷ []) (to_decide p None false true)
  decide_out_form : (name p file : Text) → IsFree p → IsFree file
      → PlainForm (name ∷ codes "decide" ∷ p ∷ codes "--out" ∷ file ∷ []) (to_decide p (Some file) false false)
  decide_phases_form : (name p : Text) → IsFree p
      → PlainForm (name ∷ codes "decide" ∷ p ∷ codes "--phases" ∷ []) (to_decide_phases p None false false)
  phases_form : (name p folder : Text) → IsFree p → IsFree folder
      → PlainForm (name ∷ codes "phases" ∷ p ∷ codes "--out" ∷ folder ∷ []) (to_phases p folder)
  join_form : (name p folder : Text) → IsFree p → IsFree folder
      → PlainForm (name ∷ codes "join" ∷ p ∷ folder ∷ []) (to_join p folder None false)
  join_json_form : (name p folder : Text) → IsFree p → IsFree folder
      → PlainForm (name ∷ codes "join" ∷ p ∷ folder ∷ codes "--json" ∷ []) (to_join p folder None true)
  join_out_form : (name p folder file : Text) → IsFree p → IsFree folder → IsFree file
      → PlainForm (name ∷ codes "join" ∷ p ∷ folder ∷ codes "--out" ∷ file ∷ []) (to_join p folder (Some file) false)
  decide_both_form : (name p q : Text) → IsFree p → IsFree q
      → PlainForm (name ∷ codes "decide" ∷ p ∷ q ∷ []) (to_decide_each (p ∷ q ∷ []) None false false)
  decide_junit_form : (name p file : Text) → IsFree p → IsFree file → names_twice (to_decide_each (p ∷ []) (Some file) false false) ≡ false
      → PlainForm (name ∷ codes "decide" ∷ p ∷ codes "--junit" ∷ file ∷ []) (to_decide_each (p ∷ []) (Some file) false false)
  explain_each_form : (name p q : Text) → IsFree p → IsFree q
      → PlainForm (name ∷ codes "explain" ∷ p ∷ q ∷ codes "--each" ∷ []) (to_explain_each (p ∷ q ∷ []) None 4 4 1000000 Brief false)
  explain_three_form : (name p q r : Text) → IsFree p → IsFree q → IsFree r
      → PlainForm (name ∷ codes "explain" ∷ p ∷ q ∷ r ∷ []) (to_explain_each (p ∷ q ∷ r ∷ []) None 4 4 1000000 Brief false)
  decide_ranks_form : (name p ranks : Text) → IsFree p → IsFree ranks
      → PlainForm (name ∷ codes "decide" ∷ p ∷ codes "--ranks" ∷ ranks ∷ []) (to_decide_unrolled p (Some ranks) [] None false false)
  decide_ranks_set_form : (name p ranks setting : Text) → IsFree p → IsFree ranks → IsFree setting
      → PlainForm (name ∷ codes "decide" ∷ p ∷ codes "--ranks" ∷ ranks ∷ codes "--set" ∷ setting ∷ [])
      (to_decide_unrolled p (Some ranks) (setting ∷ []) None false false)
  explain_ranks_form : (name p ranks : Text) → IsFree p → IsFree ranks
      → PlainForm (name ∷ codes "explain" ∷ p ∷ codes "--ranks" ∷ ranks ∷ []) (to_explain_unrolled p (Some ranks) [] None None 4 4 1000000 Brief None)
  prove_form : (name p : Text) → IsFree p
      → PlainForm (name ∷ codes "prove" ∷ p ∷ []) (to_prove p None 4 4 1000000 false false)
  prove_json_form : (name p : Text) → IsFree p
      → PlainForm (name ∷ codes "prove" ∷ p ∷ codes "--json" ∷ []) (to_prove p None 4 4 1000000 false true)
  prove_progress_form : (name p : Text) → IsFree p
      → PlainForm (name ∷ codes "prove" ∷ p ∷ codes "--progress" ∷ []) (to_prove p None 4 4 1000000 true false)
  prove_out_form : (name p file : Text) → IsFree p → IsFree file
      → PlainForm (name ∷ codes "prove" ∷ p ∷ codes "--out" ∷ file ∷ []) (to_prove p (Some file) 4 4 1000000 false false)
  unroll_form : (name p : Text) → IsFree p
      → PlainForm (name ∷ codes "unroll" ∷ p ∷ codes "--ranks" ∷ codes "4" ∷ []) (to_unroll p 4 [] None None None)
  unroll_set_form : (name p setting : Text) → IsFree p → IsFree setting
      → PlainForm (name ∷ codes "unroll" ∷ p ∷ codes "--ranks" ∷ codes "4" ∷ codes "--set" ∷ setting ∷ []) (to_unroll p 4 (setting ∷ []) None None None)
  unroll_sets_form : (name p one other : Text) → IsFree p → IsFree one → IsFree other
      → PlainForm (name ∷ codes "unroll" ∷ p ∷ codes "--ranks" ∷ codes "4" ∷ codes "--set" ∷ one ∷ codes "--set" ∷ other ∷ [])
      (to_unroll p 4 (one ∷ other ∷ []) None None None)
  unroll_collectives_form : (name p way : Text) → IsFree p → IsFree way
      → PlainForm (name ∷ codes "unroll" ∷ p ∷ codes "--ranks" ∷ codes "4" ∷ codes "--collectives" ∷ way ∷ []) (to_unroll p 4 [] (Some way) None None)
  unroll_map_form : (name p file map : Text) → IsFree p → IsFree file → IsFree map → names_twice (to_unroll p 4 [] None (Some file) (Some map)) ≡ false
      → PlainForm (name ∷ codes "unroll" ∷ p ∷ codes "--ranks" ∷ codes "4" ∷ codes "--out" ∷ file ∷ codes "--map" ∷ map ∷ [])
      (to_unroll p 4 [] None (Some file) (Some map))

-- such words ask for their task: they are read so, and have no fault
abbrev pub PlainWordsAreRead : Type 0
PlainWordsAreRead = (words : List Text) (task : Task) → PlainForm words task → AskFor words task

-- the four options of a search that have values, with these, and then `--progress` and `--json`
abbrev pub option_words : Text → Text → Text → Text → List Text → List Text
option_words file workers depth budget rest =
    codes "--out" ∷ file ∷ codes "--workers" ∷ workers ∷ codes "--depth" ∷ depth ∷ codes "--budget" ∷ budget
    ∷ codes "--progress" ∷ codes "--json" ∷ rest

-- the words of a task in other orders, with all options; a number that isn't one in its range is a
-- fault, and they ask for nothing
pub data OptionForm : List Text → Task → Type 0 where
  check_json_first : (name p e : Text) → IsFree p → IsFree e
      → OptionForm (name ∷ codes "check" ∷ codes "--json" ∷ p ∷ e ∷ []) (to_check p e 4 true)
  check_json_between : (name p e : Text) → IsFree p → IsFree e
      → OptionForm (name ∷ codes "check" ∷ p ∷ codes "--json" ∷ e ∷ []) (to_check p e 4 true)
  check_pieces : (name p e pieces : Text) → IsFree p → IsFree e → IsFree pieces
      → OptionForm (name ∷ codes "check" ∷ p ∷ e ∷ codes "--pieces" ∷ pieces ∷ []) (to_check p e (spelled_number pieces) false)
  prove_options_first : (name p file workers depth budget : Text) → IsFree p → IsFree file → IsFree workers → IsFree depth → IsFree budget
      → OptionForm (name ∷ codes "prove" ∷ option_words file workers depth budget (p ∷ []))
      (to_prove p (Some file) (spelled_number workers) (spelled_number depth) (spelled_number budget) true true)
  prove_options_last : (name p file workers depth budget : Text) → IsFree p → IsFree file → IsFree workers → IsFree depth → IsFree budget
      → OptionForm (name ∷ codes "prove" ∷ p ∷ option_words file workers depth budget [])
      (to_prove p (Some file) (spelled_number workers) (spelled_number depth) (spelled_number budget) true true)
  explain_options_last : (name p workers depth budget : Text) → IsFree p → IsFree workers → IsFree depth → IsFree budget
      → OptionForm
      (name ∷ codes "explain" ∷ p ∷ codes "--workers" ∷ workers ∷ codes "--depth" ∷ depth ∷ codes "--budget" ∷ budget ∷ codes "--dot" ∷ [])
      (to_explain p None (spelled_number workers) (spelled_number depth) (spelled_number budget) Graph None)

-- what such words ask for is that task
abbrev pub OptionWordsAreRead : Type 0
OptionWordsAreRead = (words : List Text) (task asked : Task) → OptionForm words task → AskFor words asked → asked ≡ task
