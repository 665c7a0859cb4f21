-- What words ask for.
use Rattle.std.specs.Prelude.{ℕ, ◌==◌, ◌&&◌, Bool, false, nat_le, List, [], ◌∷◌, length, map, Option, Some, None, if◌then◌else◌, option_map, codes, String, string_bytes}
use Rattle.std.specs.List.{list_all}
use Rattle.std.specs.Str.{bytes_eq}
use Rattle.std.specs.declared.alloc.Global.{Global}
use Rattle.fab_command.specs.declared.command.Command.{Command}
use Rattle.fab_command.specs.declared.command.Command.TheVariants.{Audit, Check, Evaluate, Flows, Format, Infer, Replay, Run, Trust, View}
use Rattle.fab_command.specs.declared.command.Telling.TheVariants.{Reads, Report}
use Rattle.fab_command.specs.declared.task.Task.{Task}
use Rattle.fab_command.specs.declared.task.Task.TheVariants.{Drill, Generate, Reply}
use Rattle.fab_asked.specs.Names.{is_name_word}
use Rattle.fab_asked.specs.Numbers.{numbers_of, size_of}

-- the word begins with `-`
abbrev pub begins_with_dash : List ℕ → Bool
begins_with_dash [] = false
begins_with_dash (b ∷ bs) = b == 45

-- the command of one word
abbrev pub command_of : List ℕ → Option Command
command_of word =
    if bytes_eq word (codes "check") then Some Check
    else (if bytes_eq word (codes "eval") then Some Evaluate
    else (if bytes_eq word (codes "fmt") then Some Format
    else (if bytes_eq word (codes "replay") then Some Replay
    else (if bytes_eq word (codes "run") then Some (Run Report)
    else (if bytes_eq word (codes "infer") then Some Infer
    else (if bytes_eq word (codes "audit") then Some Audit else None))))))

-- the command of a word and two operands, which are names
abbrev pub command_with : List ℕ → List ℕ → List ℕ → Option Command
command_with word from to = if bytes_eq word (codes "flows") && (is_name_word from && is_name_word to) then Some (Flows from to) else None

-- the command of these operands of `watch`: a name, and how often it is read, a number from 1 to 1000
abbrev pub reads_of : List ℕ → Option ℕ → Option Command
reads_of root (Some times) = if is_name_word root then Some (Run (Reads root times)) else None
reads_of root None = None

abbrev pub watch_of : List (List ℕ) → Option Command
watch_of (root ∷ times ∷ []) = reads_of root (size_of times)
watch_of [] = None
watch_of (root ∷ []) = None
watch_of (root ∷ times ∷ other ∷ others) = None

-- the nodes of these operands: up to 32 names, of which some may be the same
abbrev pub nodes_of : List (List ℕ) → Option (List (List ℕ))
nodes_of operands = if nat_le (length operands) 32 && list_all is_name_word operands then Some operands else None

-- the command of these operands of `view`, and of `trust`
abbrev pub view_of : List (List ℕ) → Option Command
view_of operands = option_map View (nodes_of operands)

abbrev pub trust_of : List (List ℕ) → Option Command
trust_of operands = option_map Trust (nodes_of operands)

-- the command of another word, with as many operands as it takes; any others ask for nothing
abbrev pub command_among : List ℕ → List (List ℕ) → Option Command
command_among word [] = command_of word
command_among word (operand ∷ []) = None
command_among word (from ∷ to ∷ []) = command_with word from to
command_among word (from ∷ to ∷ other ∷ others) = None

-- the command of a word and its operands
abbrev pub command_asked : List ℕ → List (List ℕ) → Option Command
command_asked word operands =
    if bytes_eq word (codes "view") then view_of operands
    else (if bytes_eq word (codes "trust") then trust_of operands
    else (if bytes_eq word (codes "watch") then watch_of operands else command_among word operands))

-- what words ask for: the first tells what, and the others are its operands
abbrev pub asked : List (List ℕ) → Option Task
asked [] = None
asked (word ∷ operands) =
    if bytes_eq word (codes "gen") then option_map (λ x. Generate x.0 x.1) (numbers_of operands)
    else (if bytes_eq word (codes "drill") then option_map (λ x. Drill x.0 x.1) (numbers_of operands)
    else option_map Reply (command_asked word operands))

-- the words of a command line ask for this, or for nothing
abbrev pub asked_by : List (String Global) → Option Task
asked_by words = asked (map string_bytes words)
