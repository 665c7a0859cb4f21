-- From what calls answer to replies.
use Rattle.std.proofs.Common.{◌≡◌, ℕ, List, Option}
use Rattle.fab_device.specs.Kept.{Makers}
use Rattle.fab_base.specs.declared.limit.What.{What}
use Rattle.fab_language.specs.declared.rule.NameRule.{NameRule}
use Rattle.fab_labelling.specs.declared.rule.LabelRule.{LabelRule}
use Rattle.fab_labelling.specs.declared.rule.Side.{Side}
use Rattle.fab_command.specs.declared.command.Command.{Command}
use Rattle.fab_front.specs.declared.status.Status.{Status}
use Rattle.fab_front.specs.declared.status.Status.TheVariants as status
use Rattle.fab_front.specs.Refused.{syntax, limit, misnamed as name_refused, unknown, mislabelled}
use Rattle.fab_answers.specs.Says.{Says, refused, formatted, checked, evaluated, flow}
use Rattle.fab_inferred.specs.Infers.{Infers, misnamed, no_least, no_solution, solved}
use Rattle.fab_audit.proofs.Statuses.{IsOfAudit, AsOk, AsSyntax, AsLimit, AsName, AsLabel, AsTrace, AsWrong, status_of_audit}
use Rattle.fab_reply.specs.Reply.{Replies, usage, said, replayed, barred, unrobust, inferred, audited, Answers, one_reply, interrupted, ran, in_run, without_text, sound, faulty, RepliesWith, Ends}

-- ---- statuses of replies

-- what came of a text has no status but those of replies and of a journal's fault
pub data IsOfReply : Status → Type 0 where
  IsOk : IsOfReply status.Ok
  IsUsage : IsOfReply status.Usage
  IsSyntax : {at : ℕ} → IsOfReply (status.Syntax at)
  IsLimit : {what : What} → IsOfReply (status.Limit what)
  IsName : {rule : NameRule} {at : ℕ} → IsOfReply (status.Name rule at)
  IsLabel : {rule : LabelRule} {at : ℕ} {source target : Side} → IsOfReply (status.Label rule at source target)
  IsBarred : {event : ℕ} → IsOfReply (status.NotEnabled event)
  IsFault : {node : ℕ} → IsOfReply (status.JournalFault node)
  IsNoLeast : {at : ℕ} → IsOfReply (status.NoLeast at)
  IsUnrobust : {at source principal : ℕ} → IsOfReply (status.Robust at source principal)
  IsTrace : {at : ℕ} → IsOfReply (status.Trace at)
  IsWrong : {number : ℕ} → IsOfReply (status.Wrong number)

of_says : {command : Command} {text reply : List ℕ} {s : Status} → Says command text s reply → IsOfReply s
of_says (refused (syntax asks g)) = IsSyntax
of_says (refused (limit asks g)) = IsLimit
of_says (refused (name_refused asks g h)) = IsName
of_says (refused (unknown lacks g h)) = IsName
of_says (refused (mislabelled asks g h k)) = IsLabel
of_says (formatted g) = IsOk
of_says (checked g h k) = IsOk
of_says (evaluated g h k) = IsOk
of_says (flow g h k m n) = IsOk

of_infers : {text reply : List ℕ} {s : Status} → Infers text s reply → IsOfReply s
of_infers (misnamed g h) = IsName
of_infers (no_least g h k) = IsNoLeast
of_infers (no_solution g h k) = IsLabel
of_infers (solved g h k m) = IsOk

of_audit : {s : Status} → IsOfAudit s → IsOfReply s
of_audit AsOk = IsOk
of_audit AsSyntax = IsSyntax
of_audit AsLimit = IsLimit
of_audit AsName = IsName
of_audit AsLabel = IsLabel
of_audit AsTrace = IsTrace
of_audit AsWrong = IsWrong

of_replies : {command : Option Command} {text reply : List ℕ} {s : Status} → Replies command text s reply → IsOfReply s
of_replies usage = IsUsage
of_replies (said x) = of_says x
of_replies (replayed w g h k) = IsOk
of_replies (barred w g h k) = IsBarred
of_replies (unrobust w g h k m) = IsUnrobust
of_replies (inferred x) = of_infers x
of_replies (audited x) = of_audit (status_of_audit x)

pub of_answers : {command : Option Command} {text reply : List ℕ} {s : Status} → Answers command text s reply → IsOfReply s
of_answers (one_reply r) = of_replies r.is
of_answers (interrupted (in_run w g h k)) = IsFault
of_answers (interrupted (without_text u w g h k)) = IsFault
of_answers (ran (sound g h k)) = IsOk
of_answers (ran (faulty g h k)) = IsFault

-- a reply that was written whole says what its status says
pub ends_so : {command : Option Command} {s : Status} (l l' w w' : Option (List ℕ)) (old new : Makers) → IsOfReply s → RepliesWith s command l l' w w' old new → Ends command s l l' w w' old new
ends_so l l' w w' old new IsOk e = e
ends_so l l' w w' old new IsUsage e = e
ends_so l l' w w' old new IsSyntax e = e
ends_so l l' w w' old new IsLimit e = e
ends_so l l' w w' old new IsName e = e
ends_so l l' w w' old new IsLabel e = e
ends_so l l' w w' old new IsBarred e = e
ends_so l l' w w' old new IsFault e = e
ends_so l l' w w' old new IsNoLeast e = e
ends_so l l' w w' old new IsUnrobust e = e
ends_so l l' w w' old new IsTrace e = e
ends_so l l' w w' old new IsWrong e = e

-- no reply has the status of a fault of the source or of the sink
pub no_read_fault : {s : Status} {A : Type 0} → IsOfReply s → s ≡ status.ReadFault → A
no_read_fault IsOk e = absurd (cc)
no_read_fault IsUsage e = absurd (cc)
no_read_fault IsSyntax e = absurd (cc)
no_read_fault IsLimit e = absurd (cc)
no_read_fault IsName e = absurd (cc)
no_read_fault IsLabel e = absurd (cc)
no_read_fault IsBarred e = absurd (cc)
no_read_fault IsFault e = absurd (cc)
no_read_fault IsNoLeast e = absurd (cc)
no_read_fault IsUnrobust e = absurd (cc)
no_read_fault IsTrace e = absurd (cc)
no_read_fault IsWrong e = absurd (cc)

pub no_write_fault : {s : Status} {A : Type 0} → IsOfReply s → s ≡ status.WriteFault → A
no_write_fault IsOk e = absurd (cc)
no_write_fault IsUsage e = absurd (cc)
no_write_fault IsSyntax e = absurd (cc)
no_write_fault IsLimit e = absurd (cc)
no_write_fault IsName e = absurd (cc)
no_write_fault IsLabel e = absurd (cc)
no_write_fault IsBarred e = absurd (cc)
no_write_fault IsFault e = absurd (cc)
no_write_fault IsNoLeast e = absurd (cc)
no_write_fault IsUnrobust e = absurd (cc)
no_write_fault IsTrace e = absurd (cc)
no_write_fault IsWrong e = absurd (cc)
