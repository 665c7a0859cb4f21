-- The report of a run: its events, what was decided, how requests ended, and what stores hold.
use Rattle.std.specs.Prelude.{ℕ, suc, Bool, true, false, ◌==◌, List, [], ◌∷◌, ◌++◌, map, length, codes, count_by, get_or, flat_map}
use Rattle.std.specs.List.{filter}
use Rattle.std.specs.Fmt.{decimal}
use Rattle.fab_base.specs.declared.object.Oid.{Oid}
use Rattle.fab_base.specs.declared.object.Object.{Object}
use Rattle.fab_base.specs.declared.object.Tid.{Tid}
use Rattle.fab_tree.specs.declared.resolved.Resolved.{Resolved}
use Rattle.fab_language.specs.Words.{line, spaced, hex, node_text, class_text, name_text, value_text, result_text, stop_text}
use Rattle.fab_net.specs.declared.event.Event.{Event}
use Rattle.fab_net.specs.declared.event.Event.TheVariants.{Begin, Resume, Deliver, Post, Idle, Crash, CrashIn, Recover}
use Rattle.fab_net.specs.declared.event.Inner.{Inner}
use Rattle.fab_net.specs.declared.event.Inner.TheVariants as i
use Rattle.fab_net.specs.declared.note.Commit.{Commit}
use Rattle.fab_net.specs.declared.note.Note.{Note}
use Rattle.fab_net.specs.declared.note.Note.TheVariants as note
use Rattle.fab_net.specs.declared.note.Logged.{Logged}
use Rattle.fab_net.specs.declared.outcome.Denial.{Denial}
use Rattle.fab_net.specs.declared.outcome.Denial.TheVariants.{Rights, IllFormed}
use Rattle.fab_net.specs.declared.outcome.ReqOutcome.{ReqOutcome}
use Rattle.fab_net.specs.declared.outcome.ReqOutcome.TheVariants as o

-- ---- lines of events

-- an event that may be cut, and the bytes that it delivers
abbrev pub inner_words : Resolved → Inner → List ℕ → List (List ℕ)
inner_words r (i.Begin n) bytes = codes "begin" ∷ node_text r n ∷ []
inner_words r (i.Resume n) bytes = codes "resume" ∷ node_text r n ∷ []
inner_words r (i.Deliver a b) bytes = codes "deliver" ∷ node_text r a ∷ node_text r b ∷ hex bytes ∷ []
inner_words r (i.Idle n s) bytes = codes "idle" ∷ node_text r n ∷ node_text r s ∷ []
inner_words r (i.Recover n) bytes = codes "recover" ∷ node_text r n ∷ []

-- a post's target is told
abbrev pub event_words : Resolved → Event → ℕ → List ℕ → List (List ℕ)
event_words r (Begin n) target bytes = inner_words r (i.Begin n) bytes
event_words r (Resume n) target bytes = inner_words r (i.Resume n) bytes
event_words r (Deliver a b) target bytes = inner_words r (i.Deliver a b) bytes
event_words r (Idle n s) target bytes = inner_words r (i.Idle n s) bytes
event_words r (Recover n) target bytes = inner_words r (i.Recover n) bytes
event_words r (Post h) target bytes = codes "post" ∷ node_text r h ∷ node_text r target ∷ hex bytes ∷ []
event_words r (Crash n) target bytes = codes "crash" ∷ node_text r n ∷ []
event_words r (CrashIn keep e) target bytes = codes "crashin" ∷ decimal keep ∷ inner_words r e bytes

-- to whom node h posts, in the order of the text
abbrev pub targets : Resolved → ℕ → List ℕ
targets r h = map (λ p. p.receiver) (filter (λ p. p.sender == h) r.posts)

abbrev pub is_post_of : ℕ → Event → Bool
is_post_of h (Post n) = n == h
is_post_of h (Begin n) = false
is_post_of h (Resume n) = false
is_post_of h (Deliver a b) = false
is_post_of h (Idle n s) = false
is_post_of h (Crash n) = false
is_post_of h (CrashIn keep e) = false
is_post_of h (Recover n) = false

-- the target of a post behind these events
abbrev pub target_behind : Resolved → List Logged → Event → ℕ
target_behind r before (Post h) = get_or (targets r h) (count_by (λ x. is_post_of h x.event) before) 0
target_behind r before _ = 0

-- a line for each event, behind those before, numbered from 1
abbrev pub events_text : Resolved → List Logged → List Logged → List ℕ
events_text r before [] = []
events_text r before (x ∷ log) =
    line (codes "event" ++ spaced (decimal (suc (length before)) ∷ event_words r x.event (target_behind r before x.event) x.bytes))
    ++ events_text r (before ++ x ∷ []) log

-- ---- decisions

abbrev pub commit_of : Note → List Commit
commit_of (note.Decided t request true answers) = record { worker = t.worker; request = request; tid = t; answers = answers } ∷ []
commit_of _ = []

abbrev pub commits_in : List Logged → List Commit
commits_in log = flat_map (λ x. flat_map commit_of x.notes) log

-- boot and number
abbrev pub tid_text : Tid → List ℕ
tid_text t = decimal t.boot ++ 46 ∷ decimal t.number

abbrev pub commits_text : Resolved → ℕ → List Commit → List ℕ
commits_text r k [] = []
commits_text r k (c ∷ cs) =
    line (codes "commit" ++ spaced (decimal (suc k) ∷ node_text r c.worker ∷ decimal c.request ∷ tid_text c.tid ∷ [])) ++ commits_text r (suc k) cs

-- ---- outcomes, by node and request

abbrev pub denial_text : Denial → List ℕ
denial_text Rights = codes "rights"
denial_text IllFormed = codes "illformed"

abbrev pub outcome_words : Resolved → ReqOutcome → List (List ℕ)
outcome_words r (o.Committed t value) = codes "committed" ∷ tid_text t ∷ result_text r value ∷ []
outcome_words r o.Failed = codes "failed" ∷ []
outcome_words r o.Conflict = codes "conflict" ∷ []
outcome_words r (o.Silent n) = codes "silent" ∷ node_text r n ∷ []
outcome_words r (o.Denied n denial) = codes "denied" ∷ node_text r n ∷ denial_text denial ∷ []
outcome_words r (o.Stopped limit) = codes "stopped" ∷ stop_text limit ∷ []
outcome_words r o.NodeDown = codes "down" ∷ []
outcome_words r o.Unfinished = codes "open" ∷ []

-- of node n, the requests behind so many
abbrev pub outcomes_of : Resolved → ℕ → ℕ → List ReqOutcome → List ℕ
outcomes_of r n k [] = []
outcomes_of r n k (x ∷ xs) =
    line (codes "outcome" ++ spaced (node_text r n ∷ decimal (suc k) ∷ outcome_words r x)) ++ outcomes_of r n (suc k) xs

-- one list for each node, from number n on
abbrev pub outcomes_text : Resolved → ℕ → List (List ReqOutcome) → List ℕ
outcomes_text r n [] = []
outcomes_text r n (xs ∷ more) = outcomes_of r n 0 xs ++ outcomes_text r (suc n) more

-- ---- what is held, by node

abbrev pub held_line : Resolved → ℕ → Oid × ℕ × Object → List ℕ
held_line r s row =
    line (codes "object"
    ++ spaced (node_text r s ∷ name_text r row.0 ∷ class_text r row.0.class ∷ decimal row.1 ∷ map (value_text r) row.2.fields))

abbrev pub held_text : Resolved → ℕ → List (List (Oid × ℕ × Object)) → List ℕ
held_text r s [] = []
held_text r s (rows ∷ more) = flat_map (held_line r s) rows ++ held_text r (suc s) more

-- ---- the whole

-- of a log, what is held at each node, and the outcomes of each node's requests
abbrev pub report : Resolved → List Logged → List (List (Oid × ℕ × Object)) → List (List ReqOutcome) → List ℕ
report r log held outcomes =
    line (codes "fab report 1") ++ events_text r [] log ++ commits_text r 0 (commits_in log) ++ outcomes_text r 0 outcomes ++ held_text r 0 held
    ++ line (codes "end" ++ spaced (decimal (length log) ∷ []))
