-- What is asked of a text, and which text that is.
use Rattle.std.specs.Prelude.{ℕ, List, [], Option, Some, None}
use Rattle.std.specs.Io.KnownBytes.{Appends}
use Rattle.fab_command.specs.declared.command.Command.{Command}
use Rattle.fab_command.specs.declared.command.Command.TheVariants.{Run}
use Rattle.fab_command.specs.declared.command.Telling.TheVariants.{Summary}
use Rattle.fab_command.specs.declared.task.Task.{Task}
use Rattle.fab_command.specs.declared.task.Task.TheVariants.{Drill, Generate, Reply}
use Rattle.fab_gen.specs.Generated.{generated_text}
use Rattle.fab_front.specs.Reading.{WritesFront}
use Rattle.fab_front.specs.declared.status.Status.{Status}
use Rattle.fab_front.specs.declared.status.Status.TheVariants.{Ok, Memory, WriteFault}

-- the command of a text: `drill` asks for the summary of a run that the nodes make by themselves, and `gen` asks nothing of a text
abbrev pub command_in : Option Task → Option Command
command_in (Some (Reply command)) = Some command
command_in (Some (Drill number size)) = Some (Run Summary)
command_in (Some (Generate number size)) = None
command_in None = None

-- a command is answered, or nothing is asked
abbrev pub task_of : Option Command → Option Task
task_of (Some command) = Some (Reply command)
task_of None = None

-- no text is made up: a command is answered, or nothing is asked
abbrev pub IsReplied : Option Task → Type 0
IsReplied (Some (Generate number size)) = ⊥
IsReplied (Some (Drill number size)) = Unit {0}
IsReplied (Some (Reply command)) = Unit {0}
IsReplied None = Unit {0}

-- the text is read from the source
abbrev pub IsRead : Option Task → Type 0
IsRead (Some (Reply command)) = Unit {0}
IsRead (Some (Drill number size)) = ⊥
IsRead (Some (Generate number size)) = ⊥
IsRead None = ⊥

-- what there is to read: what the source has left, or for `drill` the text of `gen`
abbrev pub input_of : Option Task → Option (List ℕ) → Option (List ℕ)
input_of (Some (Drill number size)) left = Some (generated_text number size)
input_of _ left = left

-- and what is left of it behind
abbrev pub rest_of : Option Task → Option (List ℕ) → Option (List ℕ)
rest_of (Some (Drill number size)) left = Some []
rest_of _ left = left

-- it ended so, with the text of this number and size written whole, or some front of it
abbrev pub Generates : ℕ → ℕ → Status → Option (List ℕ) → Option (List ℕ) → Type 0
Generates number size Ok written written' = Appends written written' (generated_text number size)
Generates number size Memory written written' = WritesFront written written' (generated_text number size)
Generates number size WriteFault written written' = WritesFront written written' (generated_text number size)
Generates number size _ written written' = ⊥
