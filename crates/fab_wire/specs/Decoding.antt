-- What decode answers.
use Rattle.std.specs.Prelude.{◌≡◌, ℕ, List, Option, Some, None, Result, Ok, Err}
use Rattle.fab_base.specs.declared.message.Message.{Message}
use Rattle.fab_base.specs.MessageSpelling.{IsReadAs, IsBadPlace}
use Rattle.fab_wire.specs.declared.error.DecodeError.{DecodeError}
use Rattle.fab_wire.specs.declared.error.DecodeError.TheVariants as errors

-- this message, unless memory ran out
abbrev pub IsOkUnlessMemory : Message → Result Message DecodeError → Type 0
IsOkUnlessMemory m (Ok n) = n ≡ m
IsOkUnlessMemory m (Err errors.Memory) = Unit {0}
IsOkUnlessMemory m (Err (errors.Bad at)) = ⊥

-- whatever the bytes are read as is answered, unless memory ran out
abbrev pub AnswersReading : List ℕ → Result Message DecodeError → Type 0
AnswersReading bytes result = (m : Message) → IsReadAs bytes m → IsOkUnlessMemory m result

-- bytes that are refused are read as no message, and go wrong there
abbrev pub RefusesRightly : List ℕ → Result Message DecodeError → Type 0
RefusesRightly bytes (Ok m) = Unit {0}
RefusesRightly bytes (Err errors.Memory) = Unit {0}
RefusesRightly bytes (Err (errors.Bad at)) = IsBadPlace bytes at

-- the message that was read, or none, unless memory ran out
abbrev pub AnswersMessage : Result Message DecodeError → Option Message → Type 0
AnswersMessage (Ok m) read = read ≡ Some m
AnswersMessage (Err errors.Memory) read = Unit {0}
AnswersMessage (Err (errors.Bad at)) read = read ≡ None
