-- The command line: its commands and their arguments.
use Rattle.std.specs.Prelude.{◌≡◌, ℕ, ◌∷◌, [], true, false, pos, Some, codes, List}
use Rattle.clap.specs.Words.{App, Rule, Text, app_of, new_app, new_rule, rule_of, with_rule, with_subcommand}
use Rattle.clap.specs.declared.builder.action.ArgAction.TheVariants.{Append, Set, SetTrue}
use Rattle.clap.specs.declared.builder.arg.Arg.{Arg}
use Rattle.clap.specs.declared.builder.command.Command.{Command}
use Rattle.clap.specs.declared.builder.command.Command.TheViews.{out-Command}
use Rattle.clap.specs.declared.builder.value_parser.ValueParser.{ValueParser}
use Rattle.clap.specs.declared.builder.value_parser.ValueParser.TheVariants.{Signed}

-- a required argument without a name
abbrev pub file_rule : Text → Rule
file_rule name = record (new_rule name) { required = true; action = Some Set }

-- an option with a long name and one value
abbrev pub option_rule : Text → Rule
option_rule name = record (new_rule name) { long = Some name; action = Some Set }

-- an option with a number for its value, read by this parser
abbrev pub number_rule : Text → ValueParser → Rule
number_rule name parser = record (option_rule name) { value_names = 1; parser = Some parser }

-- the same, with a number from low to high, and this text where none is given
abbrev pub number_with : Text → ℕ → ℕ → Text → Rule
number_with name low high usual = record (number_rule name (Signed (pos low) (pos high))) { defaults = usual ∷ [] }

-- an option that names a file
abbrev pub file_option_rule : Text → Rule
file_option_rule name = record (option_rule name) { value_names = 1 }

-- `--out FILE`
abbrev pub out_rule : Rule
out_rule = file_option_rule (codes "out")

-- an option that takes no value
abbrev pub flag_rule : Text → Rule
flag_rule name = record (option_rule name) { action = Some SetTrue }

-- `--json`
abbrev pub json_rule : Rule
json_rule = flag_rule (codes "json")

-- the file PROGRAM
abbrev pub program_rule : Rule
program_rule = file_rule (codes "PROGRAM")

-- the files PROGRAM, one or more, also with options between them
abbrev pub programs_rule : Rule
programs_rule = record program_rule { action = Some Append; range = Some (record { start_inclusive = 1; end_inclusive = 18446744073709551615 }) }

-- the file EVIDENCE
abbrev pub evidence_rule : Rule
evidence_rule = file_rule (codes "EVIDENCE")

-- how a search is made: `--workers N`, `--depth N` and `--budget N`
abbrev pub with_search : App → App
with_search a =
    with_rule
    (with_rule
    (with_rule a (number_with (codes "workers") 1 64 (codes "4")))
    (number_with (codes "depth") 0 15 (codes "4")))
    (number_with (codes "budget") 0 1000000000 (codes "1000000"))

-- the command `replay`
abbrev pub replay_app : App
replay_app = with_rule (with_rule (with_rule (new_app (codes "replay")) program_rule) evidence_rule) (flag_rule (codes "lines"))

-- the same, which need not be named; behind several words each is a program
abbrev pub optional_evidence_rule : Rule
optional_evidence_rule =
    record evidence_rule { required = false; action = Some Append; range = Some (record { start_inclusive = 1; end_inclusive = 18446744073709551615 }) }

-- `--map FILE`
abbrev pub map_rule : Rule
map_rule = file_option_rule (codes "map")

-- `--junit FILE`
abbrev pub junit_rule : Rule
junit_rule = file_option_rule (codes "junit")

-- `--color WHEN`
abbrev pub color_rule : Rule
color_rule = record (option_rule (codes "color")) { value_names = 1 }

-- `--ranks` with a text that tells a number of ranks, or the first and the last of several
abbrev pub several_ranks_rule : Rule
several_ranks_rule = record (option_rule (codes "ranks")) { value_names = 1 }

-- `--set NAME=VALUE`, any number of times
abbrev pub set_rule : Rule
set_rule = record (option_rule (codes "set")) { action = Some Append; value_names = 1 }

-- `--collectives WAY`
abbrev pub collectives_rule : Rule
collectives_rule = record (option_rule (codes "collectives")) { value_names = 1 }

-- how an SPMD text is unrolled
abbrev pub with_unrolling : App → App
with_unrolling a = with_rule (with_rule (with_rule a several_ranks_rule) set_rule) collectives_rule

-- the command `explain`
abbrev pub explain_app : App
explain_app =
    with_unrolling
    (with_rule
    (with_rule
    (with_rule
    (with_rule
    (with_rule
    (with_rule
    (with_rule
    (with_rule
    (with_rule
    (with_rule
    (with_rule
    (with_search
    (with_rule
    (with_rule (new_app (codes "explain")) program_rule)
    optional_evidence_rule))
    (flag_rule (codes "all")))
    (flag_rule (codes "messages")))
    (flag_rule (codes "dot")))
    (flag_rule (codes "chart")))
    (flag_rule (codes "svg")))
    (flag_rule (codes "html")))
    json_rule)
    map_rule)
    (flag_rule (codes "each")))
    junit_rule)
    color_rule)

-- the command `check`
abbrev pub check_app : App
check_app =
    with_rule
    (with_rule
    (with_rule (with_rule (with_rule (new_app (codes "check")) program_rule) evidence_rule) (number_with (codes "pieces") 1 64 (codes "4")))
    json_rule)
    color_rule

-- the command `encode`
abbrev pub encode_app : App
encode_app = with_rule (with_rule (new_app (codes "encode")) program_rule) (flag_rule (codes "dimacs"))

-- `--out FILE`, which has to be given
abbrev pub proof_rule : Rule
proof_rule = record out_rule { required = true }

-- the command `export`
abbrev pub export_app : App
export_app = with_rule (with_rule (with_rule (new_app (codes "export")) program_rule) evidence_rule) proof_rule

-- the command `trim`
abbrev pub trim_app : App
trim_app = with_rule (with_rule (with_rule (new_app (codes "trim")) evidence_rule) proof_rule) json_rule

-- the command `shrink`
abbrev pub shrink_app : App
shrink_app = with_rule (with_rule (with_rule (new_app (codes "shrink")) program_rule) out_rule) map_rule

-- the command `decide`
abbrev pub decide_app : App
decide_app =
    with_unrolling
    (with_rule
    (with_rule
    (with_rule
    (with_rule
    (with_rule
    (with_rule
    (with_rule (new_app (codes "decide")) programs_rule)
    out_rule)
    (flag_rule (codes "progress")))
    (flag_rule (codes "phases")))
    json_rule)
    junit_rule)
    color_rule)

-- `--ranks N`, which has to be given
abbrev pub ranks_rule : Rule
ranks_rule = record (number_rule (codes "ranks") (Signed (pos 1) (pos 2147483647))) { required = true }

-- the command `unroll`
abbrev pub unroll_app : App
unroll_app =
    with_rule
    (with_rule
    (with_rule
    (with_rule
    (with_rule
    (with_rule (new_app (codes "unroll")) program_rule)
    ranks_rule)
    set_rule)
    collectives_rule)
    out_rule)
    map_rule

-- the command `phases`
abbrev pub phases_app : App
phases_app = with_rule (with_rule (new_app (codes "phases")) program_rule) proof_rule

-- the folder FOLDER
abbrev pub folder_rule : Rule
folder_rule = file_rule (codes "FOLDER")

-- the command `join`
abbrev pub join_app : App
join_app = with_rule (with_rule (with_rule (with_rule (with_rule (new_app (codes "join")) program_rule) folder_rule) out_rule) json_rule) color_rule

-- the command `prove`
abbrev pub prove_app : App
prove_app =
    with_rule
    (with_rule
    (with_rule
    (with_search
    (with_rule
    (with_rule (new_app (codes "prove")) program_rule)
    out_rule))
    (flag_rule (codes "progress")))
    json_rule)
    color_rule

-- the command asks for one of its subcommands
abbrev pub wants_subcommand : App → App
wants_subcommand a = record a { top = record a.top { subcommand_required = true } }

-- the command has a version, which `--version` asks for
abbrev pub with_version : App → App
with_version a = record a { top = record a.top { has_version = true } }

-- the whole command line: one of the twelve commands, or a question for help or for the version
abbrev pub command_line : App
command_line =
    with_subcommand
    (with_subcommand
    (with_subcommand
    (with_subcommand
    (with_subcommand
    (with_subcommand
    (with_subcommand
    (with_subcommand
    (with_subcommand
    (with_subcommand
    (with_subcommand
    (with_subcommand (with_version (wants_subcommand (new_app (codes "mpiprove")))) prove_app.top)
    check_app.top)
    replay_app.top)
    encode_app.top)
    explain_app.top)
    export_app.top)
    trim_app.top)
    shrink_app.top)
    decide_app.top)
    unroll_app.top)
    phases_app.top)
    join_app.top

-- the argument has this rule, and is of its own command alone
pub record IsRuled (a : Arg) (rule : Rule) : Type 0 where
  pub read_as : rule_of a ≡ rule
  pub own : a.global ≡ false

-- the command has these arguments and subcommands, and none for all of its subcommands
pub record IsShapedAs (c : Command) (app : App) : Type 0 where
  pub read_as : app_of c ≡ app
  pub own : (out-Command c).has_globals ≡ false

-- what `--version` prints
abbrev pub version_line : List ℕ
version_line = codes "mpiprove 1.0.0\n"
