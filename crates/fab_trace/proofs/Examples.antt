-- Worked examples of the report.
use Rattle.std.proofs.Common.{◌≡◌, ℕ, Bool, true, false, List, [], ◌∷◌, Option, Some, None, refl, codes, pos, arith}
use Rattle.std.proofs.lemmas.Fmt.{decimal_digit}
use Rattle.fab_base.specs.declared.object.Oid.{Oid}
use Rattle.fab_base.specs.declared.object.Object.{Object}
use Rattle.fab_base.specs.declared.object.Tid.{Tid}
use Rattle.fab_base.specs.declared.object.Value.{Value}
use Rattle.fab_base.specs.declared.object.Value.TheVariants.{Int, Null, Ref}
use Rattle.fab_base.specs.declared.object.Stop.TheVariants.{Fuel, Depth, Reads, Writes}
use Rattle.fab_tree.specs.declared.declaration.Role.{Role}
use Rattle.fab_tree.specs.declared.declaration.Role.TheVariants as roles
use Rattle.fab_tree.specs.declared.name.Name.{Name}
use Rattle.fab_tree.specs.declared.resolved.Class.{Class}
use Rattle.fab_tree.specs.declared.resolved.Post.{Post}
use Rattle.fab_tree.specs.declared.resolved.Principal.{Principal}
use Rattle.fab_tree.specs.declared.resolved.Use.{Use}
use Rattle.fab_tree.specs.declared.resolved.Resolved.{Resolved}
use Rattle.fab_net.specs.declared.event.Event.{Event}
use Rattle.fab_net.specs.declared.event.Event.TheVariants as e
use Rattle.fab_net.specs.declared.event.Inner.TheVariants as i
use Rattle.fab_net.specs.declared.note.Note.{Note}
use Rattle.fab_net.specs.declared.note.Note.TheVariants as note
use Rattle.fab_net.specs.declared.note.Logged.{Logged}
use Rattle.fab_net.specs.declared.outcome.Denial.TheVariants.{Rights, IllFormed}
use Rattle.fab_net.specs.declared.outcome.ReqOutcome.TheVariants as o
use Rattle.fab_trace.specs.Report.{events_text, commits_in, commits_text, outcomes_text, held_text, report}

-- ---- a bundle: a principal, then the worker w, the store s and the hostile worker h, which posts to s, to w and to s

abbrev named : List ℕ → Name
named text = record { text = text; at = 0 }

abbrev used : ℕ → Use
used n = record { number = n; at = 0 }

abbrev node : Role → List ℕ → Option ℕ → Principal
node role text number = record { role = role; name = named text; node = number }

abbrev class : List ℕ → Class
class text = record { name = named text; label = used 0; access = used 0; fields = [] }

abbrev root_name : ℕ → Oid
root_name n = record { store = 1; class = 1; worker = 65535; boot = 0; number = n; site = 65535; index = 0 }

abbrev posted : ℕ → ℕ → Post
posted sender receiver = record { sender = sender; receiver = receiver; bytes = [] }

abbrev bundle : Resolved
bundle = record {
  nodes =
      node roles.Principal (codes "P") None ∷ node (roles.Worker false) (codes "w") (Some 0) ∷
      node (roles.Store false) (codes "s") (Some 1) ∷ node (roles.Worker true) (codes "h") (Some 2) ∷ [];
  pairs = [];
  labels = [];
  classes = class (codes "C") ∷ class (codes "D") ∷ [];
  methods = [];
  roots = record { name = named (codes "x"); oid = root_name 0; values = Int (pos 4) ∷ [] } ∷ [];
  sessions = [];
  posts = posted 2 1 ∷ posted 0 2 ∷ posted 2 0 ∷ posted 2 1 ∷ [];
  crashes = [];
  cache = 0;
  schedule = [];
}

abbrev logged : Event → List ℕ → List Note → Logged
logged event bytes notes = record { event = event; bytes = bytes; notes = notes; whole = true; marked = false }

abbrev tid : ℕ → ℕ → Tid
tid boot number = record { worker = 0; boot = boot; number = number }

abbrev decided : Bool → Tid → ℕ → Note
decided commit t request = note.Decided t request commit []

-- ---- events

each_event : events_text bundle [] (logged (e.Begin 0) [] [] ∷ logged (e.Resume 0) [] [] ∷
    logged (e.Deliver 0 1) (1 ∷ 255 ∷ []) [] ∷ logged (e.Idle 0 1) [] [] ∷ logged (e.Crash 1) [] [] ∷ logged (e.Recover 1) [] [] ∷ [])
    ≡ codes "event 1 begin w\nevent 2 resume w\nevent 3 deliver w s 01ff\nevent 4 idle w s\nevent 5 crash s\nevent 6 recover s\n"
each_event = rw (
  decimal_digit 1 (omega arith),
  decimal_digit 2 (omega arith),
  decimal_digit 3 (omega arith),
  decimal_digit 4 (omega arith),
  decimal_digit 5 (omega arith),
  decimal_digit 6 (omega arith),
) refl

-- the first post of h goes to s, its second to w, and its third to s, whatever comes between
targets_in_turn : events_text bundle [] (logged (e.Post 2) (18 ∷ []) [] ∷ logged (e.Begin 0) [] [] ∷ logged (e.Post 2) [] [] ∷ logged (e.Post 2) (171 ∷ []) [] ∷ [])
    ≡ codes "event 1 post h s 12\nevent 2 begin w\nevent 3 post h w \nevent 4 post h s ab\n"
targets_in_turn = rw (decimal_digit 1 (omega arith), decimal_digit 2 (omega arith), decimal_digit 3 (omega arith), decimal_digit 4 (omega arith)) refl

-- of an event that was cut: the bytes that stay, and the event
cut_events : events_text bundle [] (logged (e.CrashIn 7 (i.Deliver 0 1)) (9 ∷ []) [] ∷ logged (e.CrashIn 0 (i.Recover 1)) [] [] ∷ [])
    ≡ codes "event 1 crashin 7 deliver w s 09\nevent 2 crashin 0 recover s\n"
cut_events = rw (decimal_digit 0 (omega arith), decimal_digit 1 (omega arith), decimal_digit 2 (omega arith), decimal_digit 7 (omega arith)) refl

-- ---- decisions

-- those without a commit have no line and no number
commits_alone : commits_text bundle 0 (commits_in (logged (e.Resume 0) [] (decided false (tid 1 1) 1 ∷ []) ∷
    logged (e.Resume 0) [] (decided true (tid 1 2) 1 ∷ note.Applied (tid 1 2) ∷ []) ∷ logged (e.Begin 0) [] (decided true (tid 3 1) 2 ∷ []) ∷ []))
    ≡ codes "commit 1 w 1 1.2\ncommit 2 w 2 3.1\n"
commits_alone = rw (decimal_digit 1 (omega arith), decimal_digit 2 (omega arith), decimal_digit 3 (omega arith)) refl

-- ---- outcomes

each_outcome : outcomes_text bundle 0 ((o.Committed (tid 1 2) None ∷ o.Committed (tid 3 1) (Some (Ref (root_name 0))) ∷
    o.Failed ∷ o.Conflict ∷ o.Silent 1 ∷ o.Denied 2 Rights ∷ o.NodeDown ∷ []) ∷ [] ∷ (o.Denied 1 IllFormed ∷ o.Unfinished ∷ []) ∷ [])
    ≡ codes "outcome w 1 committed 1.2 none\noutcome w 2 committed 3.1 x\noutcome w 3 failed\noutcome w 4 conflict\noutcome w 5 silent s\noutcome w 6 denied h rights\noutcome w 7 down\noutcome h 1 denied s illformed\noutcome h 2 open\n"
each_outcome = rw (
  decimal_digit 1 (omega arith),
  decimal_digit 2 (omega arith),
  decimal_digit 3 (omega arith),
  decimal_digit 4 (omega arith),
  decimal_digit 5 (omega arith),
  decimal_digit 6 (omega arith),
  decimal_digit 7 (omega arith),
) refl

each_limit : outcomes_text bundle 0 ((o.Stopped Fuel ∷ o.Stopped Depth ∷ o.Stopped Reads ∷ o.Stopped Writes ∷ []) ∷ [])
    ≡ codes "outcome w 1 stopped fuel\noutcome w 2 stopped depth\noutcome w 3 stopped reads\noutcome w 4 stopped writes\n"
each_limit = rw (decimal_digit 1 (omega arith), decimal_digit 2 (omega arith), decimal_digit 3 (omega arith), decimal_digit 4 (omega arith)) refl

-- ---- what is held

abbrev row : ℕ → ℕ → List Value → Oid × ℕ × Object
row n version fields = (root_name n, version, record { class = 1; fields = fields })

held_objects : held_text bundle 0 ([] ∷ (row 0 3 (Int (pos 5) ∷ Null ∷ []) ∷ row 1 1 [] ∷ []) ∷ [] ∷ [])
    ≡ codes "object s x D 3 5 null\nobject s #00010001ffff0000000000000001ffff0000 D 1\n"
held_objects = rw (decimal_digit 1 (omega arith), decimal_digit 3 (omega arith), decimal_digit 5 (omega arith)) refl

-- ---- the whole

whole : report bundle (logged (e.Begin 0) [] [] ∷ logged (e.Resume 0) [] (decided true (tid 1 1) 1 ∷ []) ∷ [])
    ([] ∷ (row 0 2 (Int (pos 7) ∷ []) ∷ []) ∷ [] ∷ []) ((o.Committed (tid 1 1) None ∷ []) ∷ [] ∷ [] ∷ [])
    ≡ codes "fab report 1\nevent 1 begin w\nevent 2 resume w\ncommit 1 w 1 1.1\noutcome w 1 committed 1.1 none\nobject s x D 2 7\nend 2\n"
whole = rw (decimal_digit 1 (omega arith), decimal_digit 2 (omega arith), decimal_digit 7 (omega arith)) refl

none : report bundle [] [] [] ≡ codes "fab report 1\nend 0\n"
none = rw (decimal_digit 0 (omega arith)) refl
