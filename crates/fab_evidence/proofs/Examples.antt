-- Worked examples of names, marks, texts and first differences.
use Rattle.std.proofs.Common.{◌≡◌, ℕ, true, false, List, [], ◌∷◌, ◌++◌, Option, Some, None, refl, codes, arith}
use Rattle.std.proofs.lemmas.Fmt.{decimal_digit}
use Rattle.fab_tree.specs.declared.declaration.Role.TheVariants as roles
use Rattle.fab_tree.specs.declared.name.Name.{Name}
use Rattle.fab_tree.specs.declared.resolved.Resolved.{Resolved}
use Rattle.fab_net.specs.declared.event.Event.{Event}
use Rattle.fab_net.specs.declared.event.Event.TheVariants as ne
use Rattle.fab_net.specs.declared.event.Inner.TheVariants as ni
use Rattle.fab_rights.specs.declared.rights.Rights.{Rights}
use Rattle.fab_reports.specs.declared.line.ShownInner.TheVariants as i
use Rattle.fab_reports.specs.declared.line.ShownEvent.{ShownEvent}
use Rattle.fab_reports.specs.declared.line.ShownEvent.TheVariants as e
use Rattle.fab_reports.specs.declared.line.ShownEnding.TheVariants as o
use Rattle.fab_reports.specs.declared.line.Line.{Line}
use Rattle.fab_reports.specs.declared.line.Line.TheVariants as l
use Rattle.fab_reports.specs.Reports.{IsReport}
use Rattle.fab_evidence.specs.declared.shown.Difference.{Difference}
use Rattle.fab_evidence.specs.declared.shown.ShownJournal.{ShownJournal}
use Rattle.fab_evidence.specs.declared.shown.Told.{Told}
use Rattle.fab_evidence.specs.Named.{named_event, node_named}
use Rattle.fab_evidence.specs.Marks.{told_in}
use Rattle.fab_evidence.specs.Texts.{AreOf, IsAuditText}
use Rattle.fab_evidence.specs.First.{differ_at, first_from, lines_in, not_enabled, rows_of}

-- ---- names

abbrev named : List ℕ → Name
named text = record { text = text; at = 0 }

-- the worker w, the principal p, the store s and the hostile worker h
abbrev bundle : Resolved
bundle = record {
  nodes = record { role = roles.Worker false; name = named (codes "w"); node = Some 0 } ∷ record { role = roles.Principal; name = named (codes "p"); node = None }
      ∷ record { role = roles.Store false; name = named (codes "s"); node = Some 1 } ∷ record { role = roles.Worker true; name = named (codes "h"); node = Some 2 } ∷ [];
  pairs = [];
  labels = [];
  classes = [];
  methods = [];
  roots = [];
  sessions = [];
  posts = [];
  crashes = [];
  cache = 0;
  schedule = [];
}

abbrev rights : Rights
rights = record { workers = 5; stores = 2; classes = [] }

numbers : (node_named bundle (codes "w") ≡ Some 0) × (node_named bundle (codes "s") ≡ Some 1)
numbers = (refl, refl)

-- a principal is no node, and neither is a name that nobody has
no_numbers : (node_named bundle (codes "p") ≡ None) × (node_named bundle (codes "w1") ≡ None)
no_numbers = (refl, refl)

abbrev recovers : ShownEvent
recovers = e.CrashIn 0 (i.Recover (codes "w"))

delivers : named_event bundle (e.Inner (i.Deliver (codes "w") (codes "s") (7 ∷ []))) ≡ Some (ne.Deliver 0 1)
delivers = refl

-- of a post the sender alone counts
posts : named_event bundle (e.Post (codes "h") (codes "nobody") []) ≡ Some (ne.Post 2)
posts = refl

-- of a delivery both names do
sent_by_nobody : named_event bundle (e.Inner (i.Deliver (codes "nobody") (codes "s") [])) ≡ None
sent_by_nobody = refl

-- ---- marks

abbrev told : Event → Option Told
told event = Some (record { event = event; marked = false })

abbrev marked : Event → Option Told
marked event = Some (record { event = event; marked = true })

abbrev crash : Line
crash = l.Event 1 (e.Crash (codes "w"))

last_of_its_node : told_in bundle rights (l.Head ∷ crash ∷ l.Event 2 recovers ∷ l.End 2 ∷ []) ≡ told (ne.Crash 0) ∷ marked (ne.CrashIn 0 (ni.Recover 0)) ∷ []
last_of_its_node = refl

-- events of other nodes, a post to it and one of another sender, leave it the last
others_follow : told_in bundle rights (l.Head ∷ l.Event 1 recovers ∷ l.Event 2 (e.Post (codes "h") (codes "w") []) ∷ l.Event 3 (e.Inner (i.Deliver (codes "w") (codes "s") [])) ∷ l.End 3 ∷ [])
    ≡ marked (ne.CrashIn 0 (ni.Recover 0)) ∷ told (ne.Post 2) ∷ told (ne.Deliver 0 1) ∷ []
others_follow = refl

-- a later event of its node doesn't, and then this one may count
its_node_goes_on : told_in bundle rights (l.Head ∷ l.Event 1 recovers ∷ l.Event 2 recovers ∷ l.End 2 ∷ [])
    ≡ told (ne.CrashIn 0 (ni.Recover 0)) ∷ marked (ne.CrashIn 0 (ni.Recover 0)) ∷ []
its_node_goes_on = refl

-- a byte stayed
a_byte_stayed : told_in bundle rights (l.Head ∷ l.Event 1 (e.CrashIn 1 (i.Recover (codes "w"))) ∷ l.End 1 ∷ []) ≡ told (ne.CrashIn 1 (ni.Recover 0)) ∷ []
a_byte_stayed = refl

abbrev ended : List ℕ → List Line
ended name = l.Head ∷ l.Event 1 recovers ∷ l.Outcome (record { worker = name; request = 1; ending = o.Unfinished }) ∷ l.End 1 ∷ []

-- a request of the worker is open
still_open : told_in bundle rights (ended (codes "w")) ≡ told (ne.CrashIn 0 (ni.Recover 0)) ∷ []
still_open = refl

-- one of another worker is
another_is_open : told_in bundle rights (ended (codes "h")) ≡ marked (ne.CrashIn 0 (ni.Recover 0)) ∷ []
another_is_open = refl

-- its request has come to nothing, since the node is down
none_is_open : told_in bundle rights (l.Head ∷ l.Event 1 recovers ∷ l.Outcome (record { worker = codes "w"; request = 1; ending = o.NodeDown }) ∷ l.End 1 ∷ [])
    ≡ marked (ne.CrashIn 0 (ni.Recover 0)) ∷ []
none_is_open = refl

-- a store has no requests, whatever a line says
stores_wait_for_nothing : told_in bundle rights (l.Head ∷ l.Event 1 (e.CrashIn 0 (i.Recover (codes "s"))) ∷ l.Outcome (record { worker = codes "s"; request = 1; ending = o.Unfinished }) ∷ l.End 1 ∷ [])
    ≡ marked (ne.CrashIn 0 (ni.Recover 1)) ∷ []
stores_wait_for_nothing = refl

-- nobody's event is told by its line alone, and those before and behind it are
nobody : told_in bundle rights (l.Head ∷ crash ∷ l.Event 2 (e.Crash (codes "p")) ∷ l.Event 3 recovers ∷ l.End 3 ∷ [])
    ≡ told (ne.Crash 0) ∷ None ∷ marked (ne.CrashIn 0 (ni.Recover 0)) ∷ []
nobody = refl

-- ---- texts

abbrev journal : ℕ → List ℕ → ShownJournal
journal node bytes = record { node = node; bytes = bytes }

empty : IsReport (codes "fab report 1\nend 0\n") (l.Head ∷ l.End 0 ∷ [])
empty = record {
  events = [];
  commits = [];
  outcomes = [];
  objects = [];
  order = refl;
  fits = (tt, (tt, tt));
  spelled = rw (decimal_digit 0 (omega arith)) refl;
}

-- a report alone
no_journals : IsAuditText bundle (0 ∷ 1 ∷ []) (codes "fab report 1\nend 0\n") (l.Head ∷ l.End 0 ∷ []) []
no_journals = record { report = codes "fab report 1\nend 0\n"; is = empty; order = tt; spelled = refl }

-- and with the journals of both honest nodes, of which one has no bytes
two_journals : IsAuditText bundle (0 ∷ 1 ∷ []) (codes "fab report 1\nend 0\njournal w \njournal s 00ff\n") (l.Head ∷ l.End 0 ∷ []) (journal 0 [] ∷ journal 1 (0 ∷ 255 ∷ []) ∷ [])
two_journals = record {
  report = codes "fab report 1\nend 0\n";
  is = empty;
  order = (refl, tt, (refl, (omega arith, (omega arith, tt)), tt));
  spelled = refl;
}

-- journals in another order, twice one of a node, and one of a hostile node
other_order : AreOf (0 ∷ 1 ∷ []) (journal 1 [] ∷ journal 0 [] ∷ []) → ⊥
other_order h = let found : false ≡ true = h.2.0 in cc

twice : AreOf (0 ∷ 1 ∷ []) (journal 0 [] ∷ journal 0 [] ∷ []) → ⊥
twice h = let found : false ≡ true = h.2.0 in cc

hostile : AreOf (0 ∷ 1 ∷ []) (journal 2 [] ∷ []) → ⊥
hostile h = let found : false ≡ true = h.0 in cc

no_bytes : AreOf (0 ∷ 1 ∷ []) (journal 0 (256 ∷ []) ∷ []) → ⊥
no_bytes h = omega (arith, h.1.0)

-- ---- the first difference

lines : lines_in (codes "fab report 1\nend 0\n") ≡ codes "fab report 1" ∷ codes "end 0" ∷ []
lines = refl

abbrev begun : List ℕ
begun = codes "fab report 1\nevent 1 begin w\n"

abbrev first_in : List ℕ → List ℕ → Option Difference
first_in found kept = first_from 1 (rows_of found) (rows_of kept)

same : first_in (begun ++ codes "commit 1 w 1 1.1\nend 1\n") (begun ++ codes "commit 1 w 1 1.1\nend 1\n") ≡ None
same = refl

-- another line of its kind
changed : first_in (begun ++ codes "commit 1 w 2 1.1\nend 1\n") (begun ++ codes "commit 1 w 1 1.1\nend 1\n")
    ≡ differ_at 3 (codes "commit 1 w 2 1.1") (codes "commit 1 w 1 1.1")
changed = refl

-- a line that is missing
left_out : first_in (begun ++ codes "outcome w 1 failed\nend 1\n") (begun ++ codes "commit 1 w 1 1.1\noutcome w 1 failed\nend 1\n")
    ≡ differ_at 3 [] (codes "commit 1 w 1 1.1")
left_out = refl

-- one too many
one_more : first_in (begun ++ codes "commit 1 w 1 1.1\nend 1\n") (begun ++ codes "end 1\n") ≡ differ_at 3 (codes "commit 1 w 1 1.1") []
one_more = refl

-- of two that are missing the first; and in the midst of a kind the lines are compared in their order
in_the_midst : first_in (begun ++ codes "object s b C 1\nend 1\n") (begun ++ codes "object s a C 1\nobject s b C 1\nend 1\n")
    ≡ differ_at 3 (codes "object s b C 1") (codes "object s a C 1")
in_the_midst = refl

-- a journal with another byte
last_byte : first_in (codes "end 1\njournal w 03\n") (codes "end 1\njournal w 01\n") ≡ differ_at 2 (codes "journal w 03") (codes "journal w 01")
last_byte = refl

-- what belongs there ends first, and the text does
too_long : first_in (codes "end 1\njournal w 03\n") (codes "end 1\n") ≡ differ_at 2 (codes "journal w 03") []
too_long = refl

too_short : first_in (codes "end 1\n") (codes "end 1\njournal w 03\n") ≡ differ_at 2 [] (codes "journal w 03")
too_short = refl

-- an event that may not come
barred : first_from 1 (rows_of (begun ++ codes "end 1\n")) (rows_of (codes "fab report 1\n") ++ not_enabled ∷ []) ≡ differ_at 2 (codes "event 1 begin w") (codes "not enabled")
barred = refl
