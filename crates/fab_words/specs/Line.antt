-- The command line of which `clap` is told, and what its matches ask for.
use Rattle.std.specs.Prelude.{true, List, [], ◌∷◌, Option, Some, unwrap_or, codes, option_and_then}
use Rattle.clap.specs.Words.{App, Row, Rule, all_of, first_of, new_app, new_rule, with_rule}
use Rattle.clap.specs.Simple.{on_top}
use Rattle.clap.specs.declared.builder.action.ArgAction.TheVariants.{Append, Set}
use Rattle.fab_command.specs.declared.task.Task.{Task}
use Rattle.fab_asked.specs.Words.{asked}

-- a command's word, which must be there
abbrev pub command_rule : Rule
command_rule = record (new_rule (codes "command")) { required = true; action = Some Set }

-- its operands, as many as come
abbrev pub operands_rule : Rule
operands_rule = record (new_rule (codes "operands")) { action = Some Append }

-- words without the program's name, and no flag for help
abbrev pub without_name : App → App
without_name = on_top (λ s. record s { no_binary_name = true })

abbrev pub without_help : App → App
without_help = on_top (λ s. record s { disable_help_flag = true })

-- a command's word and its operands
abbrev pub command_line : App
command_line = with_rule (with_rule (without_help (without_name (new_app (codes "fab")))) command_rule) operands_rule

-- what matches ask for
abbrev pub asked_in : List Row → Option Task
asked_in rows = option_and_then (λ word. asked (word ∷ unwrap_or (all_of (codes "operands") rows) [])) (first_of (codes "command") rows)
