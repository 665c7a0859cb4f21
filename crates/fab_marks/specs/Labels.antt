-- What is written at events: what a message is and names, and the whole line of the report.
use Rattle.std.specs.Prelude.{ℕ, nat_le, List, [], ◌++◌, codes, length, take, find, Option, Some, None, if◌then◌else◌}
use Rattle.std.specs.Fmt.{decimal}
use Rattle.fab_base.specs.declared.object.Oid.{Oid}
use Rattle.fab_base.specs.declared.object.Tid.{Tid}
use Rattle.fab_base.specs.declared.message.Answer.{Answer}
use Rattle.fab_base.specs.declared.message.Answer.TheVariants as a
use Rattle.fab_base.specs.declared.message.Message.{Message}
use Rattle.fab_base.specs.declared.message.Message.TheVariants as m
use Rattle.fab_base.specs.FlatMap.{is_same}
use Rattle.fab_tree.specs.declared.resolved.Root.{Root}
use Rattle.fab_tree.specs.declared.resolved.Resolved.{Resolved}
use Rattle.fab_language.specs.Words.{class_text, hex, node_text}
use Rattle.fab_wire.specs.Reading.{read_message}
use Rattle.fab_marks.specs.declared.shape.Sign.{Sign}
use Rattle.fab_marks.specs.declared.shape.Sign.TheVariants as s
use Rattle.fab_marks.specs.declared.moves.Move.{Move}

-- a text, or so many bytes of it with two dots behind them
abbrev pub short : ℕ → List ℕ → List ℕ
short n text = if nat_le (length text) n then text else take n text ++ codes ".."

-- how many bytes of a label are written
abbrev pub label_length : ℕ
label_length = 30

-- an object that is no root: its class, with the boot and the number of the attempt that made it and its index there
abbrev pub made_text : Resolved → Oid → List ℕ
made_text r o = short 8 (class_text r o.class) ++ codes "#" ++ decimal o.boot ++ codes "." ++ decimal o.number ++ codes "." ++ decimal o.index

abbrev pub root_text : Resolved → Oid → Option Root → List ℕ
root_text r o (Some x) = short 12 x.name.text
root_text r o None = made_text r o

abbrev pub object_text : Resolved → Oid → List ℕ
object_text r o = root_text r o (find (λ x. is_same x.oid o) r.roots)

-- an attempt: its worker, with the worker's boot and the number that it has in it
abbrev pub attempt_text : Resolved → Tid → List ℕ
attempt_text r t = short 8 (node_text r t.worker) ++ codes " " ++ decimal t.boot ++ codes "." ++ decimal t.number

abbrev pub answer_text : Resolved → Answer → List ℕ
answer_text r a.Yes = codes "yes"
answer_text r (a.Stale o version) = codes "stale " ++ object_text r o
answer_text r (a.Locked t) = codes "locked"
answer_text r (a.Rights o) = codes "no right to " ++ object_text r o
answer_text r (a.OldTid t) = codes "old"
answer_text r (a.IllFormed o) = codes "ill-formed " ++ object_text r o
answer_text r (a.Exists o) = codes "exists " ++ object_text r o

-- its kind, and what it names: a Fetch its object, a Vote its answer, a Commit its attempt
abbrev pub message_text : Resolved → Message → List ℕ
message_text r (m.Fetch t o) = codes "Fetch " ++ object_text r o
message_text r (m.Object t o version x) = codes "Object " ++ object_text r o ++ codes " v" ++ decimal version
message_text r (m.Deny t o reason) = codes "Deny " ++ object_text r o
message_text r (m.Prepare t items) = codes "Prepare " ++ attempt_text r t
message_text r (m.Vote t answer) = codes "Vote " ++ answer_text r answer
message_text r (m.Commit t) = codes "Commit " ++ attempt_text r t
message_text r (m.Abort t) = codes "Abort " ++ attempt_text r t
message_text r (m.Boot boot) = codes "Boot " ++ decimal boot
message_text r (m.Inquire t) = codes "Inquire " ++ attempt_text r t

-- bytes that are no message are told as so many
abbrev pub read_text : Resolved → ℕ → Option Message → List ℕ
read_text r size (Some message) = message_text r message
read_text r size None = codes "no message, " ++ decimal size ++ codes " bytes"

abbrev pub bytes_text : Resolved → List ℕ → List ℕ
bytes_text r bytes = read_text r (length bytes) (read_message bytes)

abbrev pub sign_text : Resolved → Move → Sign → List ℕ
sign_text r x s.Begin = codes "begin"
sign_text r x s.Resume = codes "resume"
sign_text r x s.Deliver = bytes_text r x.bytes
sign_text r x s.Post = codes "post " ++ bytes_text r x.bytes
sign_text r x s.Idle = codes "idle " ++ short 12 (node_text r x.other)
sign_text r x s.Crash = codes "crash"
sign_text r x s.Recover = codes "recover"

-- of an event that a crash cut, how many bytes of its record stay
abbrev pub cut_text : Option ℕ → List ℕ
cut_text (Some keep) = codes " cut at " ++ decimal keep ++ codes ":"
cut_text None = []

-- its number, whether it was cut, and what it is
abbrev pub label_of : Resolved → Move → List ℕ
label_of r x = short label_length (decimal x.number ++ cut_text x.cut ++ codes " " ++ sign_text r x x.sign)

-- ---- the line of the report

abbrev pub cut_words : Option ℕ → List ℕ
cut_words (Some keep) = codes " crashin " ++ decimal keep
cut_words None = []

abbrev pub at_node : Resolved → Move → List ℕ
at_node r x = codes " " ++ node_text r x.node

abbrev pub sign_words : Resolved → Move → Sign → List ℕ
sign_words r x s.Begin = codes " begin" ++ at_node r x
sign_words r x s.Resume = codes " resume" ++ at_node r x
sign_words r x s.Deliver = codes " deliver" ++ codes " " ++ node_text r x.other ++ at_node r x ++ codes " " ++ hex x.bytes
sign_words r x s.Post = codes " post" ++ at_node r x ++ codes " " ++ node_text r x.other ++ codes " " ++ hex x.bytes
sign_words r x s.Idle = codes " idle" ++ at_node r x ++ codes " " ++ node_text r x.other
sign_words r x s.Crash = codes " crash" ++ at_node r x
sign_words r x s.Recover = codes " recover" ++ at_node r x

abbrev pub title_of : Resolved → Move → List ℕ
title_of r x = codes "event " ++ decimal x.number ++ cut_words x.cut ++ sign_words r x x.sign
