-- What lines say keeps to what readers keep to.
use Rattle.std.proofs.Common.{◌≡◌, ℕ, ◌<◌, ◌^◌, List, [], ◌∷◌, ◌++◌, refl, sym, ap, subst, ◌∙◌, codes, inl, inr, Ok}
use Rattle.std.specs.Fmt.{decimal}
use Rattle.fab_base.specs.declared.object.Stop.{Stop}
use Rattle.fab_base.specs.declared.object.Stop.TheVariants as s
use Rattle.fab_language.specs.Words.{hex}
use Rattle.fab_net.specs.declared.outcome.Denial.{Denial}
use Rattle.fab_net.specs.declared.outcome.Denial.TheVariants as d
use Rattle.fab_wire.proofs.ReaderLaws.{IsBytes, Reads, made_reads, both_reads, respelled, nothing_reads}
use Rattle.fab_reports.specs.declared.line.ShownInner.{ShownInner}
use Rattle.fab_reports.specs.declared.line.ShownInner.TheVariants as i
use Rattle.fab_reports.specs.declared.line.ShownEvent.{ShownEvent}
use Rattle.fab_reports.specs.declared.line.ShownEvent.TheVariants as e
use Rattle.fab_reports.specs.declared.line.Attempt.{Attempt}
use Rattle.fab_reports.specs.declared.line.ShownValue.{ShownValue}
use Rattle.fab_reports.specs.declared.line.ShownCommit.{ShownCommit}
use Rattle.fab_reports.specs.declared.line.ShownEnding.{ShownEnding}
use Rattle.fab_reports.specs.declared.line.ShownEnding.TheVariants as o
use Rattle.fab_reports.specs.declared.line.ShownOutcome.{ShownOutcome}
use Rattle.fab_reports.specs.declared.line.ShownObject.{ShownObject}
use Rattle.fab_reports.specs.declared.kinds.InnerKind.{InnerKind}
use Rattle.fab_reports.specs.declared.kinds.InnerKind.TheVariants as ik
use Rattle.fab_reports.specs.declared.kinds.EventKind.{EventKind}
use Rattle.fab_reports.specs.declared.kinds.EventKind.TheVariants as ek
use Rattle.fab_reports.specs.declared.kinds.EndingKind.{EndingKind}
use Rattle.fab_reports.specs.declared.kinds.EndingKind.TheVariants as ok
use Rattle.fab_reports.specs.Kinds.{inner_kind_text, event_kind_text, ending_kind_text, denial_kind_text, stop_kind_text, inner_kinds, event_kinds, ending_kinds, denial_kinds, stop_kinds}
use Rattle.fab_reports.specs.Lines.{shown_name, shown_value, IsWord, AreBytes, IsAttempt, IsShownValue, IsShownInner, IsShownEvent, IsShownCommit, IsShownEnding, IsShownOutcome, IsShownObject}
use Rattle.fab_reports.specs.Reading.{kind_at, inner_by, inner_at, event_by, event_at, commit_at, ending_by, ending_at, outcome_at, object_at}
use Rattle.fab_reports.proofs.Combining.{Image, image_reads, picked_reads}
use Rattle.fab_reports.proofs.Given.{IsIn, kind_reads, small_bytes}
use Rattle.fab_reports.proofs.FieldLaws.{space_ends, line_ends, u32_reads, request_reads, word_before_reads, bytes_before_reads, name_before_reads, value_before_reads, attempt_text, attempt_reads, held_text, held_reads}

-- ---- events that may be cut

abbrev inner_body : ShownInner → List ℕ
inner_body (i.Begin worker) = worker ++ 10 ∷ []
inner_body (i.Resume worker) = worker ++ 10 ∷ []
inner_body (i.Deliver sender receiver bytes) = (sender ++ 32 ∷ []) ++ ((receiver ++ 32 ∷ []) ++ (hex bytes ++ 10 ∷ []))
inner_body (i.Idle worker node) = (worker ++ 32 ∷ []) ++ (node ++ 10 ∷ [])
inner_body (i.Recover node) = node ++ 10 ∷ []

abbrev pub inner_text : ShownInner → List ℕ
inner_text (i.Begin worker) = codes "begin " ++ inner_body (i.Begin worker)
inner_text (i.Resume worker) = codes "resume " ++ inner_body (i.Resume worker)
inner_text (i.Deliver sender receiver bytes) = codes "deliver " ++ inner_body (i.Deliver sender receiver bytes)
inner_text (i.Idle worker node) = codes "idle " ++ inner_body (i.Idle worker node)
inner_text (i.Recover node) = codes "recover " ++ inner_body (i.Recover node)

abbrev IsOfKind : InnerKind → ShownInner → Type 0
IsOfKind ik.Begin = Image (λ w. i.Begin w) IsWord
IsOfKind ik.Resume = Image (λ w. i.Resume w) IsWord
IsOfKind ik.Deliver = Image (λ (p : List ℕ × (List ℕ × List ℕ)). i.Deliver p.0 p.1.0 p.1.1) (λ p. IsWord p.0 × (IsWord p.1.0 × AreBytes p.1.1))
IsOfKind ik.Idle = Image (λ (p : List ℕ × List ℕ). i.Idle p.0 p.1) (λ p. IsWord p.0 × IsWord p.1)
IsOfKind ik.Recover = Image (λ w. i.Recover w) IsWord

inner_by_reads : (kind : InnerKind) → Reads (inner_by kind) inner_body (IsOfKind kind)
inner_by_reads ik.Begin = image_reads (λ w. i.Begin w) inner_body (word_before_reads 10 line_ends) (λ w fw. refl)
inner_by_reads ik.Resume = image_reads (λ w. i.Resume w) inner_body (word_before_reads 10 line_ends) (λ w fw. refl)
inner_by_reads ik.Deliver =
    image_reads (λ p. i.Deliver p.0 p.1.0 p.1.1) inner_body (both_reads (word_before_reads 32 space_ends) (both_reads (word_before_reads 32 space_ends) (bytes_before_reads 10 line_ends))) (λ p fp. refl)
inner_by_reads ik.Idle = image_reads (λ p. i.Idle p.0 p.1) inner_body (both_reads (word_before_reads 32 space_ends) (word_before_reads 10 line_ends)) (λ p fp. refl)
inner_by_reads ik.Recover = image_reads (λ w. i.Recover w) inner_body (word_before_reads 10 line_ends) (λ w fw. refl)

inner_same : (kind : InnerKind) (x : ShownInner) → IsOfKind kind x → inner_text x ≡ inner_kind_text kind ++ inner_body x
inner_same ik.Begin x h = subst (λ (y : ShownInner). inner_text y ≡ inner_kind_text ik.Begin ++ inner_body y) h.2 refl
inner_same ik.Resume x h = subst (λ (y : ShownInner). inner_text y ≡ inner_kind_text ik.Resume ++ inner_body y) h.2 refl
inner_same ik.Deliver x h = subst (λ (y : ShownInner). inner_text y ≡ inner_kind_text ik.Deliver ++ inner_body y) h.2 refl
inner_same ik.Idle x h = subst (λ (y : ShownInner). inner_text y ≡ inner_kind_text ik.Idle ++ inner_body y) h.2 refl
inner_same ik.Recover x h = subst (λ (y : ShownInner). inner_text y ≡ inner_kind_text ik.Recover ++ inner_body y) h.2 refl

inner_fits : (kind : InnerKind) (x : ShownInner) → IsOfKind kind x → IsShownInner x
inner_fits ik.Begin x h = subst IsShownInner h.2 h.1
inner_fits ik.Resume x h = subst IsShownInner h.2 h.1
inner_fits ik.Deliver x h = subst IsShownInner h.2 (h.1.0, h.1.1.0, h.1.1.1)
inner_fits ik.Idle x h = subst IsShownInner h.2 h.1
inner_fits ik.Recover x h = subst IsShownInner h.2 h.1

abbrev pub InnerOf : ShownInner → Type 0
InnerOf x = (kind : InnerKind) × IsIn kind inner_kinds × IsOfKind kind x

inner_kind : (x : ShownInner) → IsShownInner x → InnerOf x
inner_kind (i.Begin worker) h = (ik.Begin, inl refl, (worker, h, refl))
inner_kind (i.Resume worker) h = (ik.Resume, inr (inl refl), (worker, h, refl))
inner_kind (i.Deliver sender receiver bytes) h = (ik.Deliver, inr (inr (inl refl)), ((sender, (receiver, bytes)), (h.0, (h.1, h.2)), refl))
inner_kind (i.Idle worker node) h = (ik.Idle, inr (inr (inr (inl refl))), ((worker, node), h, refl))
inner_kind (i.Recover node) h = (ik.Recover, inr (inr (inr (inr (inl refl)))), (node, h, refl))

inner_kind_bytes : (kind : InnerKind) → IsBytes (inner_kind_text kind)
inner_kind_bytes ik.Begin = small_bytes (codes "begin ") refl
inner_kind_bytes ik.Resume = small_bytes (codes "resume ") refl
inner_kind_bytes ik.Deliver = small_bytes (codes "deliver ") refl
inner_kind_bytes ik.Idle = small_bytes (codes "idle ") refl
inner_kind_bytes ik.Recover = small_bytes (codes "recover ") refl

pub inner_reads : Reads inner_at inner_text IsShownInner
unfolding inner_at
inner_reads =
    respelled inner_text IsShownInner
    (picked_reads inner_by inner_text (λ kind. inner_body) IsOfKind (kind_reads inner_kind_text inner_kinds refl (λ kind h. inner_kind_bytes kind) ik.Begin (inl refl))
    (λ kind h. inner_by_reads kind) (λ kind x h f. inner_same kind x f))
    (λ x h. refl) (λ x h. inner_fits h.0 x h.2) inner_kind

-- ---- events

abbrev event_body : ShownEvent → List ℕ
event_body (e.Inner x) = inner_body x
event_body (e.Post sender receiver bytes) = (sender ++ 32 ∷ []) ++ ((receiver ++ 32 ∷ []) ++ (hex bytes ++ 10 ∷ []))
event_body (e.Crash node) = node ++ 10 ∷ []
event_body (e.CrashIn keep x) = (decimal keep ++ 32 ∷ []) ++ inner_text x

abbrev pub event_text : ShownEvent → List ℕ
event_text (e.Inner x) = inner_text x
event_text (e.Post sender receiver bytes) = codes "post " ++ event_body (e.Post sender receiver bytes)
event_text (e.Crash node) = codes "crash " ++ event_body (e.Crash node)
event_text (e.CrashIn keep x) = codes "crashin " ++ event_body (e.CrashIn keep x)

abbrev IsEventOf : EventKind → ShownEvent → Type 0
IsEventOf (ek.Inner kind) = Image (λ x. e.Inner x) (IsOfKind kind)
IsEventOf ek.Post = Image (λ (p : List ℕ × (List ℕ × List ℕ)). e.Post p.0 p.1.0 p.1.1) (λ p. IsWord p.0 × (IsWord p.1.0 × AreBytes p.1.1))
IsEventOf ek.Crash = Image (λ w. e.Crash w) IsWord
IsEventOf ek.CrashIn = Image (λ (p : ℕ × ShownInner). e.CrashIn p.0 p.1) (λ p. (p.0 < 2 ^ 32) × IsShownInner p.1)

event_by_reads : (kind : EventKind) → Reads (event_by kind) event_body (IsEventOf kind)
event_by_reads (ek.Inner kind) = image_reads (λ x. e.Inner x) event_body (inner_by_reads kind) (λ x fx. refl)
event_by_reads ek.Post =
    image_reads (λ p. e.Post p.0 p.1.0 p.1.1) event_body (both_reads (word_before_reads 32 space_ends) (both_reads (word_before_reads 32 space_ends) (bytes_before_reads 10 line_ends))) (λ p fp. refl)
event_by_reads ek.Crash = image_reads (λ w. e.Crash w) event_body (word_before_reads 10 line_ends) (λ w fw. refl)
event_by_reads ek.CrashIn = image_reads (λ p. e.CrashIn p.0 p.1) event_body (both_reads (u32_reads 32 space_ends) inner_reads) (λ p fp. refl)

event_same : (kind : EventKind) (x : ShownEvent) → IsEventOf kind x → event_text x ≡ event_kind_text kind ++ event_body x
event_same (ek.Inner kind) x h = subst (λ (y : ShownEvent). event_text y ≡ inner_kind_text kind ++ event_body y) h.2 (inner_same kind h.0 h.1)
event_same ek.Post x h = subst (λ (y : ShownEvent). event_text y ≡ event_kind_text ek.Post ++ event_body y) h.2 refl
event_same ek.Crash x h = subst (λ (y : ShownEvent). event_text y ≡ event_kind_text ek.Crash ++ event_body y) h.2 refl
event_same ek.CrashIn x h = subst (λ (y : ShownEvent). event_text y ≡ event_kind_text ek.CrashIn ++ event_body y) h.2 refl

event_fits : (kind : EventKind) (x : ShownEvent) → IsEventOf kind x → IsShownEvent x
event_fits (ek.Inner kind) x h = subst IsShownEvent h.2 (inner_fits kind h.0 h.1)
event_fits ek.Post x h = subst IsShownEvent h.2 (h.1.0, h.1.1.0, h.1.1.1)
event_fits ek.Crash x h = subst IsShownEvent h.2 h.1
event_fits ek.CrashIn x h = subst IsShownEvent h.2 h.1

abbrev pub EventOf : ShownEvent → Type 0
EventOf x = (kind : EventKind) × IsIn kind event_kinds × IsEventOf kind x

event_in : (kind : InnerKind) → IsIn (ek.Inner kind) event_kinds
event_in ik.Begin = inl refl
event_in ik.Resume = inr (inl refl)
event_in ik.Deliver = inr (inr (inl refl))
event_in ik.Idle = inr (inr (inr (inl refl)))
event_in ik.Recover = inr (inr (inr (inr (inl refl))))

event_kind : (x : ShownEvent) → IsShownEvent x → EventOf x
event_kind (e.Inner x) h = let k = inner_kind x h in (ek.Inner k.0, event_in k.0, (x, k.2, refl))
event_kind (e.Post sender receiver bytes) h = (ek.Post, inr (inr (inr (inr (inr (inl refl))))), ((sender, (receiver, bytes)), (h.0, (h.1, h.2)), refl))
event_kind (e.Crash node) h = (ek.Crash, inr (inr (inr (inr (inr (inr (inl refl)))))), (node, h, refl))
event_kind (e.CrashIn keep x) h = (ek.CrashIn, inr (inr (inr (inr (inr (inr (inr (inl refl))))))), ((keep, x), h, refl))

event_kind_bytes : (kind : EventKind) → IsBytes (event_kind_text kind)
event_kind_bytes (ek.Inner kind) = inner_kind_bytes kind
event_kind_bytes ek.Post = small_bytes (codes "post ") refl
event_kind_bytes ek.Crash = small_bytes (codes "crash ") refl
event_kind_bytes ek.CrashIn = small_bytes (codes "crashin ") refl

pub event_reads : Reads event_at event_text IsShownEvent
unfolding event_at
event_reads =
    respelled event_text IsShownEvent
    (picked_reads event_by event_text (λ kind. event_body) IsEventOf (kind_reads event_kind_text event_kinds refl (λ kind h. event_kind_bytes kind) ek.Post (inr (inr (inr (inr (inr (inl refl)))))))
    (λ kind h. event_by_reads kind) (λ kind x h f. event_same kind x f))
    (λ x h. refl) (λ x h. event_fits h.0 x h.2) event_kind

-- ---- commits

abbrev pub commit_text : ShownCommit → List ℕ
commit_text c = (c.worker ++ 32 ∷ []) ++ ((decimal c.request ++ 32 ∷ []) ++ attempt_text 10 c.attempt)

pub commit_reads : Reads commit_at commit_text IsShownCommit
unfolding commit_at
commit_reads =
    made_reads (λ p. record { worker = p.0; request = p.1.0; attempt = p.1.1 }) commit_text IsShownCommit
    (both_reads (word_before_reads 32 space_ends) (both_reads (request_reads 32 space_ends) (attempt_reads 10 line_ends)))
    (λ p fp. (refl, record { worker = fp.0; request = fp.1.0; attempt = fp.1.1 }))
    (λ c fc. ((c.worker, (c.request, c.attempt)), (fc.worker, (fc.request, fc.attempt)), refl))

-- ---- outcomes

denial_bytes : (denial : Denial) → IsBytes (denial_kind_text denial)
denial_bytes d.Rights = small_bytes (codes "rights\n") refl
denial_bytes d.IllFormed = small_bytes (codes "illformed\n") refl

is_denial : (denial : Denial) → IsIn denial denial_kinds
is_denial d.Rights = inl refl
is_denial d.IllFormed = inr (inl refl)

denial_reads : Reads (kind_at denial_kind_text denial_kinds) denial_kind_text (λ _. Unit {0})
denial_reads = respelled denial_kind_text (λ _. Unit {0}) (kind_reads denial_kind_text denial_kinds refl (λ x h. denial_bytes x) d.Rights (inl refl)) (λ x h. refl) (λ x h. tt) (λ x h. is_denial x)

stop_bytes : (stop : Stop) → IsBytes (stop_kind_text stop)
stop_bytes s.Fuel = small_bytes (codes "fuel\n") refl
stop_bytes s.Depth = small_bytes (codes "depth\n") refl
stop_bytes s.Reads = small_bytes (codes "reads\n") refl
stop_bytes s.Writes = small_bytes (codes "writes\n") refl

is_stop : (stop : Stop) → IsIn stop stop_kinds
is_stop s.Fuel = inl refl
is_stop s.Depth = inr (inl refl)
is_stop s.Reads = inr (inr (inl refl))
is_stop s.Writes = inr (inr (inr (inl refl)))

stop_reads : Reads (kind_at stop_kind_text stop_kinds) stop_kind_text (λ _. Unit {0})
stop_reads = respelled stop_kind_text (λ _. Unit {0}) (kind_reads stop_kind_text stop_kinds refl (λ x h. stop_bytes x) s.Fuel (inl refl)) (λ x h. refl) (λ x h. tt) (λ x h. is_stop x)

abbrev ending_body : ShownEnding → List ℕ
ending_body (o.Committed attempt result) = attempt_text 32 attempt ++ (shown_value result ++ 10 ∷ [])
ending_body o.Failed = []
ending_body o.Conflict = []
ending_body (o.Silent node) = node ++ 10 ∷ []
ending_body (o.Denied node denial) = (node ++ 32 ∷ []) ++ denial_kind_text denial
ending_body (o.Stopped stop) = stop_kind_text stop
ending_body o.NodeDown = []
ending_body o.Unfinished = []

abbrev kind_of : ShownEnding → EndingKind
kind_of (o.Committed attempt result) = ok.Committed
kind_of o.Failed = ok.Failed
kind_of o.Conflict = ok.Conflict
kind_of (o.Silent node) = ok.Silent
kind_of (o.Denied node denial) = ok.Denied
kind_of (o.Stopped stop) = ok.Stopped
kind_of o.NodeDown = ok.NodeDown
kind_of o.Unfinished = ok.Unfinished

abbrev pub ending_text : ShownEnding → List ℕ
ending_text x = ending_kind_text (kind_of x) ++ ending_body x

abbrev IsEndingOf : EndingKind → ShownEnding → Type 0
IsEndingOf ok.Committed = Image (λ (p : Attempt × ShownValue). o.Committed p.0 p.1) (λ p. IsAttempt p.0 × IsShownValue p.1)
IsEndingOf ok.Failed = λ x. x ≡ o.Failed
IsEndingOf ok.Conflict = λ x. x ≡ o.Conflict
IsEndingOf ok.Silent = Image (λ w. o.Silent w) IsWord
IsEndingOf ok.Denied = Image (λ (p : List ℕ × Denial). o.Denied p.0 p.1) (λ p. IsWord p.0 × Unit {0})
IsEndingOf ok.Stopped = Image (λ x. o.Stopped x) (λ _. Unit {0})
IsEndingOf ok.NodeDown = λ x. x ≡ o.NodeDown
IsEndingOf ok.Unfinished = λ x. x ≡ o.Unfinished

none_reads : (x : ShownEnding) → ending_body x ≡ [] → Reads (λ bytes. Ok (x, bytes)) ending_body (λ y. y ≡ x)
none_reads x none = respelled ending_body (λ y. y ≡ x) (nothing_reads x) (λ y h. ap ending_body h ∙ none) (λ y h. h) (λ y h. h)

ending_by_reads : (kind : EndingKind) → Reads (ending_by kind) ending_body (IsEndingOf kind)
ending_by_reads ok.Committed = image_reads (λ p. o.Committed p.0 p.1) ending_body (both_reads (attempt_reads 32 space_ends) (value_before_reads 10 line_ends)) (λ p fp. refl)
ending_by_reads ok.Failed = none_reads o.Failed refl
ending_by_reads ok.Conflict = none_reads o.Conflict refl
ending_by_reads ok.Silent = image_reads (λ w. o.Silent w) ending_body (word_before_reads 10 line_ends) (λ w fw. refl)
ending_by_reads ok.Denied = image_reads (λ p. o.Denied p.0 p.1) ending_body (both_reads (word_before_reads 32 space_ends) denial_reads) (λ p fp. refl)
ending_by_reads ok.Stopped = image_reads (λ x. o.Stopped x) ending_body stop_reads (λ x fx. refl)
ending_by_reads ok.NodeDown = none_reads o.NodeDown refl
ending_by_reads ok.Unfinished = none_reads o.Unfinished refl

ending_same : (kind : EndingKind) (x : ShownEnding) → IsEndingOf kind x → kind_of x ≡ kind
ending_same ok.Committed x h = ap kind_of (sym h.2)
ending_same ok.Failed x h = ap kind_of h
ending_same ok.Conflict x h = ap kind_of h
ending_same ok.Silent x h = ap kind_of (sym h.2)
ending_same ok.Denied x h = ap kind_of (sym h.2)
ending_same ok.Stopped x h = ap kind_of (sym h.2)
ending_same ok.NodeDown x h = ap kind_of h
ending_same ok.Unfinished x h = ap kind_of h

ending_fits : (kind : EndingKind) (x : ShownEnding) → IsEndingOf kind x → IsShownEnding x
ending_fits ok.Committed x h = subst IsShownEnding h.2 h.1
ending_fits ok.Failed x h = subst IsShownEnding (sym h) tt
ending_fits ok.Conflict x h = subst IsShownEnding (sym h) tt
ending_fits ok.Silent x h = subst IsShownEnding h.2 h.1
ending_fits ok.Denied x h = subst IsShownEnding h.2 h.1.0
ending_fits ok.Stopped x h = subst IsShownEnding h.2 tt
ending_fits ok.NodeDown x h = subst IsShownEnding (sym h) tt
ending_fits ok.Unfinished x h = subst IsShownEnding (sym h) tt

abbrev EndingOf : ShownEnding → Type 0
EndingOf x = (kind : EndingKind) × IsIn kind ending_kinds × IsEndingOf kind x

ending_kind : (x : ShownEnding) → IsShownEnding x → EndingOf x
ending_kind (o.Committed attempt result) h = (ok.Committed, inl refl, ((attempt, result), h, refl))
ending_kind o.Failed h = (ok.Failed, inr (inl refl), refl)
ending_kind o.Conflict h = (ok.Conflict, inr (inr (inl refl)), refl)
ending_kind (o.Silent node) h = (ok.Silent, inr (inr (inr (inl refl))), (node, h, refl))
ending_kind (o.Denied node denial) h = (ok.Denied, inr (inr (inr (inr (inl refl)))), ((node, denial), (h, tt), refl))
ending_kind (o.Stopped stop) h = (ok.Stopped, inr (inr (inr (inr (inr (inl refl))))), (stop, tt, refl))
ending_kind o.NodeDown h = (ok.NodeDown, inr (inr (inr (inr (inr (inr (inl refl)))))), refl)
ending_kind o.Unfinished h = (ok.Unfinished, inr (inr (inr (inr (inr (inr (inr (inl refl))))))), refl)

ending_kind_bytes : (kind : EndingKind) → IsBytes (ending_kind_text kind)
ending_kind_bytes ok.Committed = small_bytes (codes "committed ") refl
ending_kind_bytes ok.Failed = small_bytes (codes "failed\n") refl
ending_kind_bytes ok.Conflict = small_bytes (codes "conflict\n") refl
ending_kind_bytes ok.Silent = small_bytes (codes "silent ") refl
ending_kind_bytes ok.Denied = small_bytes (codes "denied ") refl
ending_kind_bytes ok.Stopped = small_bytes (codes "stopped ") refl
ending_kind_bytes ok.NodeDown = small_bytes (codes "down\n") refl
ending_kind_bytes ok.Unfinished = small_bytes (codes "open\n") refl

ending_reads : Reads ending_at ending_text IsShownEnding
unfolding ending_at
ending_reads =
    respelled ending_text IsShownEnding
    (picked_reads ending_by ending_text (λ kind. ending_body) IsEndingOf (kind_reads ending_kind_text ending_kinds refl (λ kind h. ending_kind_bytes kind) ok.Failed (inr (inl refl)))
    (λ kind h. ending_by_reads kind) (λ kind x h f. ap (λ (k : EndingKind). ending_kind_text k ++ ending_body x) (ending_same kind x f)))
    (λ x h. refl) (λ x h. ending_fits h.0 x h.2) ending_kind

abbrev pub outcome_text : ShownOutcome → List ℕ
outcome_text x = (x.worker ++ 32 ∷ []) ++ ((decimal x.request ++ 32 ∷ []) ++ ending_text x.ending)

pub outcome_reads : Reads outcome_at outcome_text IsShownOutcome
unfolding outcome_at
outcome_reads =
    made_reads (λ p. record { worker = p.0; request = p.1.0; ending = p.1.1 }) outcome_text IsShownOutcome
    (both_reads (word_before_reads 32 space_ends) (both_reads (request_reads 32 space_ends) ending_reads))
    (λ p fp. (refl, record { worker = fp.0; request = fp.1.0; ending = fp.1.1 }))
    (λ x fx. ((x.worker, (x.request, x.ending)), (fx.worker, (fx.request, fx.ending)), refl))

-- ---- objects

abbrev pub object_text : ShownObject → List ℕ
object_text x = (x.store ++ 32 ∷ []) ++ ((shown_name x.name ++ 32 ∷ []) ++ ((x.class ++ 32 ∷ []) ++ held_text (x.version, x.fields)))

pub object_reads : Reads object_at object_text IsShownObject
unfolding object_at
object_reads =
    made_reads (λ p. record { store = p.0; name = p.1.0; class = p.1.1.0; version = p.1.1.1.0; fields = p.1.1.1.1 }) object_text IsShownObject
    (both_reads (word_before_reads 32 space_ends) (both_reads (name_before_reads 32 space_ends) (both_reads (word_before_reads 32 space_ends) held_reads)))
    (λ p fp. (refl, record { store = fp.0; name = fp.1.0; class = fp.1.1.0; version = fp.1.1.1.0; fields = fp.1.1.1.1 }))
    (λ x fx. ((x.store, (x.name, (x.class, (x.version, x.fields)))), (fx.store, (fx.name, (fx.class, (fx.version, fx.fields)))), refl))
