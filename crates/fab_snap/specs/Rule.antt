-- What each thread knows of the commits that are published.
use Rattle.std.specs.Prelude.{◌≡◌, ℕ, List, [], IfSome, Some, None, unwrap_or}
use mathlib.Core.Option.{some}
use lib.ListN.{get_elem?}
use Rattle.fab_protocol.specs.Versions.{Rows}
use Rattle.fab_snap.specs.declared.write_set.WriteSet.{WriteSet}
use Rattle.fab_snap.specs.declared.rule.View.{View}
use Rattle.fab_snap.specs.declared.state.Snap.{Snap}
use Rattle.fab_snap.specs.Commits.{StartsWith}
use Rattle.fab_snap.specs.Shown.{commits_of, start_of, IsBehind}

-- who knows nothing yet
abbrev pub newcomer : View
newcomer = record { start = None; seen = []; told = [] }

-- who is told what another knows
abbrev pub informed : View → View → View
informed v w = record { start = w.start; seen = v.seen; told = w.seen }

-- the rows at the start, where they are known
abbrev pub start_known : View → Rows
start_known v = unwrap_or v.start []

-- all that is known is so: the start, and commits that the published ones begin with
pub record Knows (start : Rows) (all : List WriteSet) (v : View) : Type 0 where
  pub starts : IfSome v.start (λ rows. rows ≡ start)
  pub seen : StartsWith all v.seen
  pub told : StartsWith all v.told

-- the state is the one behind its commits, and what each thread knows is so
abbrev pub Keeps : Snap → List View → Type 0
Keeps x views = IsBehind x × ((seat : ℕ) (v : View) → get_elem? views seat ≡ some v → Knows (start_of x) (commits_of x) v)

-- from v to w: what is seen afterwards are the commits of the state y, and they begin with all that was known
pub record Publishes (v : View) (x y : Snap) (w : View) : Type 0 where
  pub grown : StartsWith w.seen v.seen
  pub told_of : StartsWith w.seen v.told
  pub sees : w.seen ≡ commits_of y
  pub starts : w.start ≡ Some (start_of y)
  pub same_start : IfSome v.start (λ rows. rows ≡ start_of y)
  pub same_told : w.told ≡ v.told
  pub behind : IsBehind y

-- these are the commits of the state, and the writer has seen them
pub record Leads (x : Snap) (v : View) (commits : List WriteSet) : Type 0 where
  pub all : commits_of x ≡ commits
  pub behind : IsBehind x
  pub seen : v.seen ≡ commits
  pub starts : v.start ≡ Some (start_of x)
