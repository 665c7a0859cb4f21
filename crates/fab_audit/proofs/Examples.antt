-- Worked examples of right texts and of first wrong lines.
use Rattle.std.proofs.Common.{◌≡◌, ℕ, true, false, List, [], ◌∷◌, ◌++◌, Some, refl, codes, arith}
use Rattle.std.proofs.lemmas.Fmt.{decimal_digit}
use Rattle.fab_tree.specs.declared.declaration.Role.TheVariants as roles
use Rattle.fab_tree.specs.declared.name.Name.{Name}
use Rattle.fab_tree.specs.declared.resolved.Resolved.{Resolved}
use Rattle.fab_net.specs.declared.event.Event.TheVariants as ne
use Rattle.fab_net.specs.declared.event.Inner.TheVariants as ni
use Rattle.fab_protocol.specs.Stores.{shelf_of}
use Rattle.fab_rights.specs.declared.rights.Rights.{Rights}
use Rattle.fab_world.specs.Machine.{Move}
use Rattle.fab_reports.specs.declared.line.ShownInner.TheVariants as i
use Rattle.fab_reports.specs.declared.line.ShownEvent.TheVariants as e
use Rattle.fab_reports.specs.declared.line.Line.{Line}
use Rattle.fab_reports.specs.declared.line.Line.TheVariants as l
use Rattle.fab_evidence.specs.declared.shown.ShownJournal.{ShownJournal}
use Rattle.fab_evidence.specs.First.{differ_at}
use Rattle.fab_audit.specs.Runs.{front_of, honest_nodes}
use Rattle.fab_audit.specs.Right.{IsKept, IsRight, first_wrong}

abbrev named : List ℕ → Name
named text = record { text = text; at = 0 }

-- the worker w and the store s, and nothing to do
abbrev bundle : Resolved
bundle = record {
  nodes = record { role = roles.Worker false; name = named (codes "w"); node = Some 0 } ∷ record { role = roles.Store false; name = named (codes "s"); node = Some 1 } ∷ [];
  pairs = [];
  labels = [];
  classes = [];
  methods = [];
  roots = [];
  sessions = [];
  posts = [];
  crashes = [];
  cache = 0;
  schedule = [];
}

abbrev rights : Rights
rights = record { workers = 1; stores = 2; classes = [] }

honest : honest_nodes bundle rights ≡ 0 ∷ 1 ∷ []
honest = refl

-- ---- a run in which the worker's journal fails as it comes back

abbrev moves : List Move
moves = record { event = ne.Crash 0; marked = false } ∷ record { event = ne.CrashIn 0 (ni.Recover 0); marked = true } ∷ []

abbrev lines : List Line
lines = l.Head ∷ l.Event 1 (e.Crash (codes "w")) ∷ l.Event 2 (e.CrashIn 0 (i.Recover (codes "w"))) ∷ l.End 2 ∷ []

abbrev report : List ℕ
report = codes "fab report 1\nevent 1 crash w\nevent 2 crashin 0 recover w\nend 2\n"

-- of the worker's journal nothing is said
abbrev journals : List ShownJournal
journals = record { node = 0; bytes = 7 ∷ [] } ∷ []

is_right : IsRight bundle rights (report ++ codes "journal w 07\n")
unfolding shelf_of
is_right = record {
  lines = lines;
  journals = journals;
  moves = moves;
  form = record {
    report = report;
    is = record {
      events = e.Crash (codes "w") ∷ e.CrashIn 0 (i.Recover (codes "w")) ∷ [];
      commits = [];
      outcomes = [];
      objects = [];
      order = refl;
      fits = (tt, (refl, ((omega arith, refl), (tt, tt))));
      spelled = rw (decimal_digit 1 (omega arith), decimal_digit 2 (omega arith), decimal_digit 0 (omega arith)) refl;
    };
    order = (refl, (omega arith, tt), tt);
    spelled = refl;
  };
  told = refl;
  run = record { enabled = refl; few = omega arith };
  reported = rw (decimal_digit 1 (omega arith), decimal_digit 2 (omega arith), decimal_digit 0 (omega arith)) refl;
  kept = ((λ failed. absurd cc), tt);
}

-- the store's journal isn't empty
not_kept : IsKept bundle rights moves (record { node = 1; bytes = [] }) → ⊥
not_kept h = let empty = h refl in cc

-- ---- wrong lines

-- a worker that is up doesn't come back
abbrev barred : List Line
barred = l.Head ∷ l.Event 1 (e.Inner (i.Recover (codes "w"))) ∷ l.End 1 ∷ []

goes_nowhere : front_of bundle rights barred ≡ []
goes_nowhere = refl

is_wrong : first_wrong bundle rights (codes "fab report 1\nevent 1 recover w\nend 1\n") barred [] ≡ differ_at 2 (codes "event 1 recover w") (codes "not enabled")
is_wrong = refl

-- nor does a node that nobody has declared
nobody : first_wrong bundle rights (codes "fab report 1\nevent 1 crash v\nend 1\n") (l.Head ∷ l.Event 1 (e.Crash (codes "v")) ∷ l.End 1 ∷ []) []
    ≡ differ_at 2 (codes "event 1 crash v") (codes "not enabled")
nobody = refl

-- what belongs there where an object was made up
made_up : first_wrong bundle rights (codes "fab report 1\nobject s a C 1\nend 0\n") (l.Head ∷ l.End 0 ∷ []) [] ≡ differ_at 2 (codes "object s a C 1") []
unfolding shelf_of
made_up = rw (decimal_digit 0 (omega arith)) refl
