-- What is said of a text leaves the journals.
use Rattle.std.proofs.Common.{◌≡◌, ℕ, List, Some, Result, Ok as Fine, Err, IfOk, refl, sym, subst}
use Rattle.fab_device.specs.Kept.{Makers}
use Rattle.fab_command.specs.declared.command.Command.{Command}
use Rattle.fab_command.specs.declared.command.Command.TheVariants.{Audit, Check, Evaluate, Flows, Format, Infer, Replay, Run, Trust, View}
use Rattle.fab_front.specs.declared.status.Status.{Status}
use Rattle.fab_front.specs.Refused.{AsksBundle, Refuses, syntax, limit, misnamed, unknown, mislabelled}
use Rattle.fab_answers.specs.Says.{AsksMore, MakesRuns, Says, refused, formatted, checked, evaluated, flow}
use Rattle.fab_tree.specs.declared.start.Start.{Start}
use Rattle.fab_front.specs.declared.texts.Outcome.TheVariants as outcome
use Rattle.fab_front.specs.Front.{IsFront}
use Rattle.fab_inferred.specs.Infers.{IsInferred}
use Rattle.fab_audit.specs.Audits.{IsAudited}
use Rattle.fab_reply.specs.Reply.{Answers, AreLeft, JournalsAre, one_reply}
use Rattle.fab_reply.proofs.Replying.{audited_reply, inferred_reply}

-- so does a refusal, of whatever command
refused_left : {command : Command} {text reply : List ℕ} {status : Status} (old : Makers) → Refuses command text status reply → AreLeft command text old old status reply
refused_left old (syntax asks g) = refl
refused_left old (limit asks g) = refl
refused_left old (misnamed asks g h) = refl
refused_left old (unknown lacks g h) = refl
refused_left old (mislabelled asks g h k) = refl

left_by : (command : Command) (text reply : List ℕ) (old : Makers) (status : Status) → AreLeft command text old old status reply → JournalsAre (Some command) text old old status reply
left_by Replay text reply old status h = h
left_by (Run x) text reply old status h = h
left_by (View names) text reply old status h = h
left_by (Trust names) text reply old status h = h
left_by Check text reply old status h = refl
left_by Evaluate text reply old status h = refl
left_by (Flows a b) text reply old status h = refl
left_by Format text reply old status h = refl
left_by Infer text reply old status h = refl
left_by Audit text reply old status h = refl

pub is_left : {command : Command} {text reply : List ℕ} {status : Status} (old : Makers) → Says command text status reply → JournalsAre (Some command) text old old status reply
is_left {command = command} {text = text} {reply = reply} {status = status} old (refused x) = left_by command text reply old status (refused_left old x)
is_left old (formatted g) = refl
is_left old (checked g h k) = refl
is_left old (evaluated g h k) = refl
is_left old (flow g h k l m) = refl

-- a run leaves them as it says
left_of_runs : (command : Command) (text : List ℕ) (old new : Makers) (status : Status) (reply : List ℕ) → MakesRuns (Some command) → AreLeft command text old new status reply
    → JournalsAre (Some command) text old new status reply
left_of_runs Replay text old new status reply asks h = h
left_of_runs (Run x) text old new status reply asks h = h
left_of_runs (View names) text old new status reply asks h = h
left_of_runs (Trust names) text old new status reply asks h = h
left_of_runs Check text old new status reply asks h = absurd asks
left_of_runs Evaluate text old new status reply asks h = absurd asks
left_of_runs (Flows a b) text old new status reply asks h = absurd asks
left_of_runs Format text old new status reply asks h = absurd asks
left_of_runs Infer text old new status reply asks h = absurd asks
left_of_runs Audit text old new status reply asks h = absurd asks

pub all_left : {E : Type 0} (command : Command) (text : List ℕ) (old new : Makers) (o : Result (Status × List ℕ) E) → MakesRuns (Some command)
    → IfOk o (λ r. AreLeft command text old new r.0 r.1) → IfOk o (λ r. JournalsAre (Some command) text old new r.0 r.1)
all_left command text old new (Fine r) asks h = left_of_runs command text old new r.0 r.1 asks h
all_left command text old new (Err e) asks h = tt

-- who asks for more than is said without a run, and doesn't fill holes, makes runs
pub runs_else : (c : Command) → AsksMore c → (c ≡ Infer → ⊥) → MakesRuns (Some c)
runs_else Infer more other = absurd (other refl)
runs_else Replay more other = tt
runs_else (Run x) more other = tt
runs_else (View names) more other = tt
runs_else (Trust names) more other = tt
runs_else Check more other = absurd more
runs_else Evaluate more other = absurd more
runs_else (Flows a b) more other = absurd more
runs_else Format more other = absurd more
runs_else Audit more other = absurd more

-- what `infer` comes to answers the text
pub answered_infer : {E : Type 0} (c : Command) (text : List ℕ) (start : Start) (o : Result (Status × List ℕ) E) → c ≡ Infer → IsFront text (outcome.Bundle start)
    → IfOk o (λ r. IsInferred text r.0 r.1) → IfOk o (λ r. Answers (Some c) text r.0 r.1)
answered_infer c text start (Fine r) is f h = subst (λ d. Answers (Some d) text r.0 r.1) (sym is) (one_reply (inferred_reply f h))
answered_infer c text start (Err e) is f h = tt

-- who asks for no verdict asks of a bundle
pub asked_else : (c : Command) → (c ≡ Audit → ⊥) → AsksBundle c
asked_else Audit other = other refl
asked_else Infer other = tt
asked_else Replay other = tt
asked_else (Run x) other = tt
asked_else (View names) other = tt
asked_else (Trust names) other = tt
asked_else Check other = tt
asked_else Evaluate other = tt
asked_else (Flows a b) other = tt
asked_else Format other = tt

-- what `audit` comes to answers the text, and leaves the journals
pub answered_audit : {E : Type 0} (c : Command) (text : List ℕ) (o : Result (Status × List ℕ) E) → c ≡ Audit
    → IfOk o (λ r. IsAudited text r.0 r.1) → IfOk o (λ r. Answers (Some c) text r.0 r.1)
answered_audit c text (Fine r) is h = subst (λ d. Answers (Some d) text r.0 r.1) (sym is) (one_reply (audited_reply h))
answered_audit c text (Err e) is h = tt

pub audit_left : {E : Type 0} (c : Command) (text : List ℕ) (old : Makers) (o : Result (Status × List ℕ) E) → c ≡ Audit
    → IfOk o (λ r. JournalsAre (Some c) text old old r.0 r.1)
audit_left c text old (Fine r) is = subst (λ d. JournalsAre (Some d) text old old r.0 r.1) (sym is) refl
audit_left c text old (Err e) is = tt
