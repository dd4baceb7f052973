-- The command line: its commands, each with its arguments, as `clap` reads them.
use Rattle.std.specs.Prelude.{◌≡◌, ℕ, Some, true, false, codes, pos}
use Rattle.clap.specs.Lexer.{usize_max}
use Rattle.clap.specs.Walk.{Rule}
use Rattle.clap.specs.Simple.{App, app_of, new_app, new_rule, on_top, with_rule, with_subcommand}
use Rattle.clap.specs.declared.builder.action.ArgAction.TheVariants.{SetTrue}
use Rattle.clap.specs.declared.builder.arg.Arg.{Arg}
use Rattle.clap.specs.declared.builder.command.Command.{Command}
use Rattle.clap.specs.declared.builder.command.Command.TheViews.{out-Command}
use Rattle.clap.specs.declared.builder.value_parser.ValueParser.TheVariants.{Signed}
use Rattle.clap.specs.Walk.{rule_of}

-- the argument FILE, which is required
abbrev pub file_rule : Rule
file_rule = record (new_rule (codes "file")) { value_names = 1; required = true }

-- the option --object NAME, which is required
abbrev pub object_rule : Rule
object_rule = record (new_rule (codes "object")) {
  long = Some (codes "object");
  value_names = 1;
  required = true;
}

-- the option --max-positions N
abbrev pub most_rule : Rule
most_rule = record (new_rule (codes "max-positions")) { long = Some (codes "max-positions"); value_names = 1 }

-- the option --min-area A
abbrev pub area_rule : Rule
area_rule = record (new_rule (codes "min-area")) { long = Some (codes "min-area"); value_names = 1 }

-- the option --keep P/Q
abbrev pub keep_rule : Rule
keep_rule = record (new_rule (codes "keep")) { long = Some (codes "keep"); value_names = 1 }

-- the option --min-ring-area B
abbrev pub ring_area_rule : Rule
ring_area_rule = record (new_rule (codes "min-ring-area")) { long = Some (codes "min-ring-area"); value_names = 1 }

-- the flag --no-crossings
abbrev pub no_crossings_rule : Rule
no_crossings_rule = record (new_rule (codes "no-crossings")) { long = Some (codes "no-crossings"); action = Some SetTrue }

-- the flag --keep-shapes
abbrev pub keep_shapes_rule : Rule
keep_shapes_rule = record (new_rule (codes "keep-shapes")) { long = Some (codes "keep-shapes"); action = Some SetTrue }

-- the flag --crossings
abbrev pub crossings_rule : Rule
crossings_rule = record (new_rule (codes "crossings")) { long = Some (codes "crossings"); action = Some SetTrue }

-- the option --grid N, for N from 2 to 10^9
abbrev pub grid_rule : Rule
grid_rule = record (new_rule (codes "grid")) {
  long = Some (codes "grid");
  value_names = 1;
  parser = Some (Signed (pos 2) (pos 1000000000));
}

-- the flag --exact
abbrev pub exact_rule : Rule
exact_rule = record (new_rule (codes "exact")) { long = Some (codes "exact"); action = Some SetTrue }

-- the letter `o`
abbrev pub letter_o : ℕ
letter_o = 111

-- the option -o FILE, or --output FILE
abbrev pub output_rule : Rule
output_rule = record (new_rule (codes "output")) { short = Some letter_o; long = Some (codes "output"); value_names = 1 }

-- the option --report FILE
abbrev pub report_rule : Rule
report_rule = record (new_rule (codes "report")) { long = Some (codes "report"); value_names = 1 }

-- the flag --explain
abbrev pub explain_rule : Rule
explain_rule = record (new_rule (codes "explain")) { long = Some (codes "explain"); action = Some SetTrue }

-- the letter `q`
abbrev pub letter_q : ℕ
letter_q = 113

-- the flag -q, or --quiet
abbrev pub quiet_rule : Rule
quiet_rule = record (new_rule (codes "quiet")) { short = Some letter_q; long = Some (codes "quiet"); action = Some SetTrue }

-- a command with the options that each command has: -o FILE, --report FILE and --explain
abbrev pub with_common : App → App
with_common app = with_rule (with_rule (with_rule app output_rule) report_rule) explain_rule

-- a command with the options that say what is reduced: --min-area A, --keep P/Q, --min-ring-area B, --no-crossings and --keep-shapes
abbrev pub with_reducing : App → App
with_reducing app = with_rule (with_rule (with_rule (with_rule (with_rule app area_rule) keep_rule) ring_area_rule) no_crossings_rule) keep_shapes_rule

-- one argument NAME=PATH or more
abbrev pub layers_rule : Rule
layers_rule = record (new_rule (codes "layers")) {
  value_names = 1;
  required = true;
  range = Some (record { start_inclusive = 1; end_inclusive = usize_max });
}

-- build [--grid N] [--min-area A] [--keep P/Q] [--min-ring-area B] [--no-crossings] [--keep-shapes] [--exact] [-q] NAME=PATH.., with the
-- common options
abbrev pub build_app : App
build_app = with_rule (with_rule (with_common (with_rule (with_reducing (with_rule (new_app (codes "build")) grid_rule)) exact_rule)) quiet_rule) layers_rule

-- simplify [--min-area A] [--keep P/Q] [--min-ring-area B] [--no-crossings] [--keep-shapes] [-q] FILE, with the common options
abbrev pub simplify_app : App
simplify_app = with_rule (with_rule (with_common (with_reducing (new_app (codes "simplify")))) quiet_rule) file_rule

-- geo --object NAME [--max-positions N] FILE, with the common options
abbrev pub geo_app : App
geo_app = with_rule (with_common (with_rule (with_rule (new_app (codes "geo")) object_rule) most_rule)) file_rule

-- stat [--crossings] FILE, with the common options
abbrev pub stat_app : App
stat_app = with_rule (with_common (with_rule (new_app (codes "stat")) crossings_rule)) file_rule

-- the program, which has a version and to whose command the words after its name belong
abbrev pub bare_app : App
bare_app = on_top (λ s. record s { has_version = true; no_binary_name = true; subcommand_required = true }) (new_app (codes "mapchain"))

abbrev pub program_app : App
program_app = with_subcommand
    (with_subcommand (with_subcommand (with_subcommand bare_app build_app.top) simplify_app.top) geo_app.top) stat_app.top

-- the argument is this one, of its own command alone
pub record IsRule (a : Arg) (r : Rule) : Type 0 where
  pub rule : rule_of a ≡ r
  pub own : a.global ≡ false

-- the command is this one
pub record IsApp (c : Command) (a : App) : Type 0 where
  pub app : app_of c ≡ a
  pub own : (out-Command c).has_globals ≡ false
