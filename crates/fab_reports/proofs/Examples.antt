-- Worked examples of reports and their lines.
use Rattle.std.proofs.Common.{◌≡◌, ℕ, true, false, List, [], ◌∷◌, ◌++◌, refl, codes, pos, negsuc, Some, None, Err, arith}
use Rattle.std.proofs.lemmas.Fmt.{decimal_digit}
use Rattle.fab_base.specs.declared.object.Oid.{Oid}
use Rattle.fab_base.specs.declared.object.Stop.TheVariants.{Reads}
use Rattle.fab_tree.specs.declared.declaration.Role.TheVariants as roles
use Rattle.fab_tree.specs.declared.name.Name.{Name}
use Rattle.fab_tree.specs.declared.resolved.Resolved.{Resolved}
use Rattle.fab_net.specs.declared.event.Event.{Event}
use Rattle.fab_net.specs.declared.event.Event.TheVariants as ne
use Rattle.fab_net.specs.declared.note.Logged.{Logged}
use Rattle.fab_net.specs.declared.outcome.ReqOutcome.TheVariants as no
use Rattle.fab_net.specs.declared.outcome.Denial.TheVariants.{Rights}
use Rattle.fab_wire.proofs.ReaderLaws.{IsBytes-nil}
use Rattle.fab_reports.specs.declared.line.Attempt.{Attempt}
use Rattle.fab_reports.specs.declared.line.ShownName.TheVariants.{Root, Unnamed}
use Rattle.fab_reports.specs.declared.line.ShownValue.{ShownValue}
use Rattle.fab_reports.specs.declared.line.ShownValue.TheVariants as v
use Rattle.fab_reports.specs.declared.line.ShownInner.TheVariants as i
use Rattle.fab_reports.specs.declared.line.ShownEvent.{ShownEvent}
use Rattle.fab_reports.specs.declared.line.ShownEvent.TheVariants as e
use Rattle.fab_reports.specs.declared.line.ShownEnding.{ShownEnding}
use Rattle.fab_reports.specs.declared.line.ShownEnding.TheVariants as o
use Rattle.fab_reports.specs.declared.line.ShownCommit.{ShownCommit}
use Rattle.fab_reports.specs.declared.line.ShownOutcome.{ShownOutcome}
use Rattle.fab_reports.specs.declared.line.ShownObject.{ShownObject}
use Rattle.fab_reports.specs.declared.line.Line.{Line}
use Rattle.fab_reports.specs.declared.line.Line.TheVariants as l
use Rattle.fab_reports.specs.Lines.{spelled_line, is_word, IsRequest, IsShownValue}
use Rattle.fab_reports.specs.Reports.{listed, IsReport, IsBadPlace}
use Rattle.fab_reports.specs.Printed.{lines_of_report}
use Rattle.fab_reports.specs.Showable.{IsShowable}
use Rattle.fab_reports.specs.Reading.{report_at, all_of}
use Rattle.fab_reports.proofs.Wholes.{bad_place}
use Rattle.fab_reports.proofs.Given.{small_bytes}

-- ---- words

words : (is_word (codes "w1") ≡ true) × (is_word (codes "_") ≡ true) × (is_word (codes "begin") ≡ true)
words = (refl, refl, refl)

no_words : (is_word [] ≡ false) × (is_word (codes "1w") ≡ false) × (is_word (codes "a b") ≡ false) × (is_word (codes "a-b") ≡ false)
no_words = (refl, refl, refl, refl)

longest_word : is_word (codes "a234567890123456789012345678901234567890123456789012345678901234") ≡ true
longest_word = refl

too_long : is_word (codes "a2345678901234567890123456789012345678901234567890123456789012345") ≡ false
too_long = refl

-- where a value stands, `null` is none of the roots
null_is_no_root : IsShownValue (v.Object (Root (codes "null"))) → ⊥
null_is_no_root h = h.1 refl

-- requests are counted from 1
no_request : IsRequest 0 → ⊥
no_request h = omega (arith, h.0)

-- ---- lines of events

abbrev numbered : ShownEvent → Line
numbered event = l.Event 3 event

begins : spelled_line (numbered (e.Inner (i.Begin (codes "w1")))) ≡ codes "event 3 begin w1\n"
begins = rw (decimal_digit 3 (omega arith)) refl

delivers : spelled_line (numbered (e.Inner (i.Deliver (codes "w1") (codes "s1") (1 ∷ 255 ∷ [])))) ≡ codes "event 3 deliver w1 s1 01ff\n"
delivers = rw (decimal_digit 3 (omega arith)) refl

posts_nothing : spelled_line (numbered (e.Post (codes "h") (codes "s1") [])) ≡ codes "event 3 post h s1 \n"
posts_nothing = rw (decimal_digit 3 (omega arith)) refl

idles : spelled_line (numbered (e.Inner (i.Idle (codes "w1") (codes "s1")))) ≡ codes "event 3 idle w1 s1\n"
idles = rw (decimal_digit 3 (omega arith)) refl

crashes : spelled_line (numbered (e.Crash (codes "s1"))) ≡ codes "event 3 crash s1\n"
crashes = rw (decimal_digit 3 (omega arith)) refl

is_cut : spelled_line (numbered (e.CrashIn 7 (i.Recover (codes "s1")))) ≡ codes "event 3 crashin 7 recover s1\n"
is_cut = rw (decimal_digit 3 (omega arith), decimal_digit 7 (omega arith)) refl

-- ---- other lines

abbrev attempt : ℕ → ℕ → Attempt
attempt boot number = record { boot = boot; number = number }

commits : spelled_line (l.Commit 1 (record { worker = codes "w1"; request = 2; attempt = attempt 1 3 })) ≡ codes "commit 1 w1 2 1.3\n"
commits = rw (decimal_digit 1 (omega arith), decimal_digit 2 (omega arith), decimal_digit 3 (omega arith)) refl

abbrev outcome : ShownEnding → Line
outcome ending = l.Outcome (record { worker = codes "w1"; request = 2; ending = ending })

-- no result stands where a root's name would
gives_none : spelled_line (outcome (o.Committed (attempt 1 3) (v.Object (Root (codes "none"))))) ≡ codes "outcome w1 2 committed 1.3 none\n"
gives_none = rw (decimal_digit 1 (omega arith), decimal_digit 2 (omega arith), decimal_digit 3 (omega arith)) refl

gives_less_than_nothing : spelled_line (outcome (o.Committed (attempt 1 3) (v.Number (negsuc 4)))) ≡ codes "outcome w1 2 committed 1.3 -5\n"
gives_less_than_nothing = rw (decimal_digit 1 (omega arith), decimal_digit 2 (omega arith), decimal_digit 3 (omega arith), decimal_digit 5 (omega arith)) refl

denied : spelled_line (outcome (o.Denied (codes "s1") Rights)) ≡ codes "outcome w1 2 denied s1 rights\n"
denied = rw (decimal_digit 2 (omega arith)) refl

stopped : spelled_line (outcome (o.Stopped Reads)) ≡ codes "outcome w1 2 stopped reads\n"
stopped = rw (decimal_digit 2 (omega arith)) refl

down : spelled_line (outcome o.NodeDown) ≡ codes "outcome w1 2 down\n"
down = rw (decimal_digit 2 (omega arith)) refl

abbrev made : Oid
made = record { store = 1; class = 0; worker = 2; boot = 1; number = 3; site = 10; index = 0 }

abbrev held : List ShownValue → Line
held fields = l.Object (record { store = codes "s1"; name = Unnamed made; class = codes "C"; version = 1; fields = fields })

object : spelled_line (held (v.Null ∷ v.Object (Root (codes "a")) ∷ v.Number (pos 5) ∷ [])) ≡ codes "object s1 #000100000002000000010000" ++ codes "0003000a0000 C 1 null a 5\n"
object = rw (decimal_digit 1 (omega arith), decimal_digit 5 (omega arith)) refl

no_fields : spelled_line (held []) ≡ codes "object s1 #0001000000020000000100000003000a0000 C 1\n"
no_fields = rw (decimal_digit 1 (omega arith)) refl

ended : spelled_line (l.End 4) ≡ codes "end 4\n"
ended = rw (decimal_digit 4 (omega arith)) refl

-- ---- reports

abbrev begin : Line
begin = l.Event 1 (e.Inner (i.Begin (codes "w")))

empty : IsReport (codes "fab report 1\nend 0\n") (l.Head ∷ l.End 0 ∷ [])
empty = record {
  events = [];
  commits = [];
  outcomes = [];
  objects = [];
  order = refl;
  fits = (tt, (tt, tt));
  spelled = rw (decimal_digit 0 (omega arith)) refl;
}

one_event : IsReport (codes "fab report 1\nevent 1 begin w\noutcome w 2 open\nend 1\n")
    (l.Head ∷ begin ∷ l.Outcome (record { worker = codes "w"; request = 2; ending = o.Unfinished }) ∷ l.End 1 ∷ [])
one_event = record {
  events = e.Inner (i.Begin (codes "w")) ∷ [];
  commits = [];
  outcomes = record { worker = codes "w"; request = 2; ending = o.Unfinished } ∷ [];
  objects = [];
  order = refl;
  fits = (tt, (refl, (record { worker = refl; request = (omega arith, omega arith); ending = tt }, (tt, tt))));
  spelled = rw (decimal_digit 1 (omega arith), decimal_digit 2 (omega arith)) refl;
}

-- Lines in another order, or with other numbers, are no report's.

-- an event that isn't counted from 1
counted_from_two : (es : List ShownEvent) (cs : List ShownCommit) (os : List ShownOutcome) (hs : List ShownObject) (x : ShownEvent)
    → l.Head ∷ l.Event 2 x ∷ l.End 1 ∷ [] ≡ listed es cs os hs → ⊥
counted_from_two [] [] [] [] x h = cc
counted_from_two [] [] [] (y ∷ hs) x h = cc
counted_from_two [] [] (y ∷ os) hs x h = cc
counted_from_two [] (y ∷ cs) os hs x h = cc
counted_from_two (y ∷ es) cs os hs x h = let two_is_one : ◌≡◌ {A = ℕ} 2 1 = cc in omega arith

-- a last line that counts more than there are
more_than_there_are : (es : List ShownEvent) (cs : List ShownCommit) (os : List ShownOutcome) (hs : List ShownObject) → l.Head ∷ l.End 1 ∷ [] ≡ listed es cs os hs → ⊥
more_than_there_are [] [] [] [] h = let one_is_none : ◌≡◌ {A = ℕ} 1 0 = cc in omega arith
more_than_there_are [] [] [] (y ∷ hs) h = cc
more_than_there_are [] [] (y ∷ os) hs h = cc
more_than_there_are [] (y ∷ cs) os hs h = cc
more_than_there_are (y ∷ es) cs os hs h = cc

-- an event behind a commit
commit_first : (es : List ShownEvent) (cs : List ShownCommit) (os : List ShownOutcome) (hs : List ShownObject) (c : ShownCommit) (x : ShownEvent)
    → l.Head ∷ l.Commit 1 c ∷ l.Event 1 x ∷ l.End 1 ∷ [] ≡ listed es cs os hs → ⊥
commit_first [] [] [] [] c x h = cc
commit_first [] [] [] (y ∷ hs) c x h = cc
commit_first [] [] (y ∷ os) hs c x h = cc
commit_first [] (y ∷ []) [] [] c x h = cc
commit_first [] (y ∷ []) [] (z ∷ hs) c x h = cc
commit_first [] (y ∷ []) (z ∷ os) hs c x h = cc
commit_first [] (y ∷ z ∷ cs) os hs c x h = cc
commit_first (y ∷ es) cs os hs c x h = cc

-- ---- what is printed of a run

abbrev named : List ℕ → Name
named text = record { text = text; at = 0 }

-- the worker w and the store s
abbrev bundle : Resolved
bundle = record {
  nodes = record { role = roles.Worker false; name = named (codes "w"); node = Some 0 } ∷ record { role = roles.Store false; name = named (codes "s"); node = Some 1 } ∷ [];
  pairs = [];
  labels = [];
  classes = [];
  methods = [];
  roots = [];
  sessions = [];
  posts = [];
  crashes = [];
  cache = 0;
  schedule = [];
}

abbrev logged : Event → List ℕ → Logged
logged event bytes = record { event = event; bytes = bytes; notes = []; whole = true; marked = false }

shown : lines_of_report bundle (logged (ne.Deliver 0 1) (5 ∷ []) ∷ logged (ne.Crash 1) [] ∷ []) [] ((no.Committed (record { worker = 0; boot = 1; number = 4 }) None ∷ no.Silent 1 ∷ []) ∷ [])
    ≡ l.Head ∷ l.Event 1 (e.Inner (i.Deliver (codes "w") (codes "s") (5 ∷ []))) ∷ l.Event 2 (e.Crash (codes "s"))
    ∷ l.Outcome (record { worker = codes "w"; request = 1; ending = o.Committed (attempt 1 4) (v.Object (Root (codes "none"))) })
    ∷ l.Outcome (record { worker = codes "w"; request = 2; ending = o.Silent (codes "s") }) ∷ l.End 2 ∷ []
shown = refl

can_be_shown : IsShowable bundle (logged (ne.Deliver 0 1) (5 ∷ []) ∷ []) [] []
can_be_shown = record {
  words = record { nodes = (refl, (refl, tt)); classes = tt; roots = tt };
  events_are_in = (((refl, refl), (omega arith, tt)), tt);
  commits_are_in = tt;
  outcomes_are_in = tt;
  held_are_in = tt;
}

-- there is no node of number 2
nobody_begins : IsShowable bundle (logged (ne.Begin 2) [] ∷ []) [] [] → ⊥
nobody_begins h = let some : false ≡ true = h.events_are_in.0.0 in cc

-- ---- places

none : all_of [] ≡ Err 0
unfolding all_of report_at
none = refl

-- no byte at all: a report is due
nothing : IsBadPlace [] 0
nothing = bad_place [] 0 IsBytes-nil none

wrong : all_of (codes "fab report 2\n") ≡ Err 2
unfolding all_of report_at
wrong = refl

-- the twelfth byte is to be a 1
other_version : IsBadPlace (codes "fab report 2\n") 11
other_version = bad_place (codes "fab report 2\n") 2 (small_bytes (codes "fab report 2\n") refl) wrong
