-- How each line of a report is spelled, and which lines have a spelling.
use Rattle.std.specs.Prelude.{◌≡◌, ◌≢◌, ℕ, ◌<◌, ◌≤◌, ◌^◌, Bool, true, ◌&&◌, List, [], ◌∷◌, ◌++◌, map, codes, FitsSigned}
use Rattle.std.specs.List.{list_all, AllByRecursion}
use Rattle.std.specs.Int.{w32}
use Rattle.std.specs.Fmt.{decimal, signed_decimal}
use Rattle.fab_base.specs.FieldSpelling.{oid_bytes, IsOid}
use Rattle.fab_base.specs.Tokens.{is_word_byte, is_name_text}
use Rattle.fab_language.specs.Words.{line, spaced, hex, stop_text}
use Rattle.fab_trace.specs.Report.{denial_text}
use Rattle.fab_reports.specs.declared.line.ShownName.{ShownName}
use Rattle.fab_reports.specs.declared.line.ShownName.TheVariants.{Root, Unnamed}
use Rattle.fab_reports.specs.declared.line.ShownValue.{ShownValue}
use Rattle.fab_reports.specs.declared.line.ShownValue.TheVariants as v
use Rattle.fab_reports.specs.declared.line.ShownInner.{ShownInner}
use Rattle.fab_reports.specs.declared.line.ShownInner.TheVariants as i
use Rattle.fab_reports.specs.declared.line.ShownEvent.{ShownEvent}
use Rattle.fab_reports.specs.declared.line.ShownEvent.TheVariants as e
use Rattle.fab_reports.specs.declared.line.Attempt.{Attempt}
use Rattle.fab_reports.specs.declared.line.ShownCommit.{ShownCommit}
use Rattle.fab_reports.specs.declared.line.ShownEnding.{ShownEnding}
use Rattle.fab_reports.specs.declared.line.ShownEnding.TheVariants as o
use Rattle.fab_reports.specs.declared.line.ShownOutcome.{ShownOutcome}
use Rattle.fab_reports.specs.declared.line.ShownObject.{ShownObject}
use Rattle.fab_reports.specs.declared.line.Line.{Line}
use Rattle.fab_reports.specs.declared.line.Line.TheVariants as l

-- ---- words

-- # and 36 digits where it is no root's
abbrev pub shown_name : ShownName → List ℕ
shown_name (Root text) = text
shown_name (Unnamed oid) = 35 ∷ hex (oid_bytes oid)

abbrev pub shown_value : ShownValue → List ℕ
shown_value (v.Number n) = signed_decimal n
shown_value v.Null = codes "null"
shown_value (v.Object name) = shown_name name

-- boot and number
abbrev pub shown_attempt : Attempt → List ℕ
shown_attempt a = decimal a.boot ++ 46 ∷ decimal a.number

abbrev pub shown_inner : ShownInner → List (List ℕ)
shown_inner (i.Begin worker) = codes "begin" ∷ worker ∷ []
shown_inner (i.Resume worker) = codes "resume" ∷ worker ∷ []
shown_inner (i.Deliver sender receiver bytes) = codes "deliver" ∷ sender ∷ receiver ∷ hex bytes ∷ []
shown_inner (i.Idle worker node) = codes "idle" ∷ worker ∷ node ∷ []
shown_inner (i.Recover node) = codes "recover" ∷ node ∷ []

abbrev pub shown_event : ShownEvent → List (List ℕ)
shown_event (e.Inner event) = shown_inner event
shown_event (e.Post sender receiver bytes) = codes "post" ∷ sender ∷ receiver ∷ hex bytes ∷ []
shown_event (e.Crash node) = codes "crash" ∷ node ∷ []
shown_event (e.CrashIn keep event) = codes "crashin" ∷ decimal keep ∷ shown_inner event

abbrev pub shown_ending : ShownEnding → List (List ℕ)
shown_ending (o.Committed attempt result) = codes "committed" ∷ shown_attempt attempt ∷ shown_value result ∷ []
shown_ending o.Failed = codes "failed" ∷ []
shown_ending o.Conflict = codes "conflict" ∷ []
shown_ending (o.Silent node) = codes "silent" ∷ node ∷ []
shown_ending (o.Denied node denial) = codes "denied" ∷ node ∷ denial_text denial ∷ []
shown_ending (o.Stopped stop) = codes "stopped" ∷ stop_text stop ∷ []
shown_ending o.NodeDown = codes "down" ∷ []
shown_ending o.Unfinished = codes "open" ∷ []

-- ---- lines

abbrev pub spelled_line : Line → List ℕ
spelled_line l.Head = line (codes "fab report 1")
spelled_line (l.Event number event) = line (codes "event" ++ spaced (decimal number ∷ shown_event event))
spelled_line (l.Commit number c) =
    line (codes "commit" ++ spaced (decimal number ∷ c.worker ∷ decimal c.request ∷ shown_attempt c.attempt ∷ []))
spelled_line (l.Outcome x) = line (codes "outcome" ++ spaced (x.worker ∷ decimal x.request ∷ shown_ending x.ending))
spelled_line (l.Object x) =
    line (codes "object" ++ spaced (x.store ∷ shown_name x.name ∷ x.class ∷ decimal x.version ∷ map shown_value x.fields))
spelled_line (l.End events) = line (codes "end" ++ spaced (decimal events ∷ []))

-- ---- what has a spelling

-- a name, or a keyword: a letter or `_`, and then letters, digits and `_`, at most 64 bytes
abbrev pub is_word : List ℕ → Bool
is_word text = list_all is_word_byte text && is_name_text text

abbrev pub IsWord : List ℕ → Type 0
IsWord text = is_word text ≡ true

abbrev pub AreBytes : List ℕ → Type 0
AreBytes bytes = AllByRecursion (λ b. b < 256) bytes

abbrev pub IsShownName : ShownName → Type 0
IsShownName (Root text) = IsWord text
IsShownName (Unnamed oid) = IsOid oid

-- `null` is no root's name where a value stands
abbrev pub IsShownValue : ShownValue → Type 0
IsShownValue (v.Number n) = FitsSigned w32 n
IsShownValue v.Null = Unit {0}
IsShownValue (v.Object (Root text)) = IsWord text × (text ≢ codes "null")
IsShownValue (v.Object (Unnamed oid)) = IsOid oid

-- requests are counted from 1
abbrev pub IsRequest : ℕ → Type 0
IsRequest n = (1 ≤ n) × (n < 2 ^ 32)

abbrev pub IsAttempt : Attempt → Type 0
IsAttempt a = (a.boot < 2 ^ 32) × (a.number < 2 ^ 32)

abbrev pub IsShownInner : ShownInner → Type 0
IsShownInner (i.Begin worker) = IsWord worker
IsShownInner (i.Resume worker) = IsWord worker
IsShownInner (i.Deliver sender receiver bytes) = IsWord sender × IsWord receiver × AreBytes bytes
IsShownInner (i.Idle worker node) = IsWord worker × IsWord node
IsShownInner (i.Recover node) = IsWord node

abbrev pub IsShownEvent : ShownEvent → Type 0
IsShownEvent (e.Inner event) = IsShownInner event
IsShownEvent (e.Post sender receiver bytes) = IsWord sender × IsWord receiver × AreBytes bytes
IsShownEvent (e.Crash node) = IsWord node
IsShownEvent (e.CrashIn keep event) = (keep < 2 ^ 32) × IsShownInner event

pub record IsShownCommit (c : ShownCommit) : Type 0 where
  pub worker : IsWord c.worker
  pub request : IsRequest c.request
  pub attempt : IsAttempt c.attempt

abbrev pub IsShownEnding : ShownEnding → Type 0
IsShownEnding (o.Committed attempt result) = IsAttempt attempt × IsShownValue result
IsShownEnding o.Failed = Unit {0}
IsShownEnding o.Conflict = Unit {0}
IsShownEnding (o.Silent node) = IsWord node
IsShownEnding (o.Denied node denial) = IsWord node
IsShownEnding (o.Stopped stop) = Unit {0}
IsShownEnding o.NodeDown = Unit {0}
IsShownEnding o.Unfinished = Unit {0}

pub record IsShownOutcome (x : ShownOutcome) : Type 0 where
  pub worker : IsWord x.worker
  pub request : IsRequest x.request
  pub ending : IsShownEnding x.ending

pub record IsShownObject (x : ShownObject) : Type 0 where
  pub store : IsWord x.store
  pub name : IsShownName x.name
  pub class : IsWord x.class
  pub version : x.version < 2 ^ 32
  pub fields : AllByRecursion IsShownValue x.fields

-- Numbers of events and commits are counted, so of them nothing is asked here.
abbrev pub IsLine : Line → Type 0
IsLine l.Head = Unit {0}
IsLine (l.Event number event) = IsShownEvent event
IsLine (l.Commit number c) = IsShownCommit c
IsLine (l.Outcome x) = IsShownOutcome x
IsLine (l.Object x) = IsShownObject x
IsLine (l.End events) = Unit {0}
