-- What a replay leaves of the journals, and what it answers where a journal couldn't be made.
use Rattle.std.specs.Prelude.{◌≡◌, ◌⊎◌, ◌<◌, ◌-◌, ◌^◌, ◌==◌, ◌&&◌, ◌++◌, ◌∷◌, [], ℕ, Bool, true, false, IsTrue, List, Option, Some, None, length, map, option_map, take}
use Rattle.std.specs.List.{AllByRecursion, list_any}
use Rattle.fab_base.specs.Faults.{Rose}
use Rattle.fab_device.specs.Kept.{Entry, CannotFail, Makers, one_more}
use Rattle.fab_language.specs.Words.{node_text}
use Rattle.fab_rights.specs.Computed.{has_bit}
use Rattle.fab_tree.specs.declared.resolved.Resolved.{Resolved}
use Rattle.fab_settings.specs.Settings.{lines_of}
use Rattle.fab_world.specs.Crashing.{KeepsLines}
use Rattle.fab_world.specs.Machine.{Move}
use Rattle.fab_world.specs.Serial.{IsRun}
use Rattle.fab_node.specs.Standing.{GivenModel, IsJournalOf}
use Rattle.fab_core.specs.Cores.{is_honest, setting, world_by}
use Rattle.fab_net.specs.Events.{node_at}
use Rattle.fab_core.specs.Honest.{AreFor, honest_in, honest_up}
use Rattle.fab_core.specs.Starts.{IsFresh, IsLeft}
use Rattle.fab_replay.specs.Integral.{IsExcluded, IsIntegral}
use Rattle.fab_replay.specs.Isolated.{IsIsolated}
use Rattle.fab_replay.specs.Trusted.{IsTrusted}
use Rattle.fab_replay.specs.Replays.{StopsIn, Tells, events_of, first_mark, moves_of, with_counts}
use Rattle.fab_replay.specs.declared.replayed.Replayed.{Replayed}
use Rattle.fab_replay.specs.declared.replayed.Replayed.TheVariants as r
use Rattle.fab_replay.specs.declared.replayed.Wanted.{Wanted}
use Rattle.fab_replay.specs.declared.replayed.Wanted.TheVariants.{Run}

-- ---- entries

-- a journal call failed in an event of this node
abbrev pub has_mark : List Move → ℕ → Bool
has_mark moves n = list_any (λ move. move.marked && (node_at move.event == n)) moves

-- The journal of a node behind a run: it stands under the node's name, holds what the run made of it, and has failed exactly where a mark
-- stands at the node.
pub record IsEntryAt (g : GivenModel) (moves : List Move) (n : ℕ) (x : Entry) : Type 0 where
  pub name : x.node ≡ node_text g.program n
  pub journal : IsJournalOf n ((world_by g moves).node n) x.content x.synced
  pub sound : has_mark moves n ≡ false → x.faults ≡ 0
  pub failed : has_mark moves n ≡ true → 0 < x.faults

-- the journal of a node behind a start in which this node's header couldn't be written
pub record IsEntryBehind (g : GivenModel) (node n : ℕ) (x : Entry) : Type 0 where
  pub name : x.node ≡ node_text g.program n
  pub left : IsLeft node n x.content x.synced
  pub sound : (n ≡ node → ⊥) → x.faults ≡ 0
  pub failed : n ≡ node → 0 < x.faults

-- the journal of a node before a run: it has its header, or nothing yet, and hasn't failed
pub record IsEntryFresh (g : GivenModel) (n : ℕ) (x : Entry) : Type 0 where
  pub name : x.node ≡ node_text g.program n
  pub fresh : IsFresh n x.content x.synced
  pub unfailed : x.faults ≡ 0

-- where it is told what there was, there is this more
abbrev pub with_more : {T : Type 0} → Option (List T) → List T → Option (List T)
with_more had more = option_map (λ xs. xs ++ more) had

-- what is kept is one entry more for each honest node
pub record Keeps (g : GivenModel) (P : ℕ → Entry → Type 0) (old new : Option (List Entry)) : Type 0 where
  pub entries : List Entry
  pub each : AreFor P (honest_in g) entries
  pub kept : new ≡ with_more old entries

-- those of these journals that their maker didn't lose, and what its count of lost ones comes to; where nothing is said, none is lost
abbrev pub unlost : List Bool → List Entry → List Entry
unlost [] xs = xs
unlost (lost ∷ losses) [] = []
unlost (true ∷ losses) (x ∷ xs) = unlost losses xs
unlost (false ∷ losses) (x ∷ xs) = x ∷ unlost losses xs

abbrev pub lost_behind : ℕ → List Bool → ℕ
lost_behind count [] = count
lost_behind count (true ∷ losses) = lost_behind (one_more count) losses
lost_behind count (false ∷ losses) = lost_behind count losses

-- A journal of each of these nodes is given back, one after the other in their order: it is kept, or the maker lost it for want of memory and
-- counts it.
pub record HandsBack (P : ℕ → Entry → Type 0) (nodes : List ℕ) (old new : Makers) : Type 0 where
  pub entries : List Entry
  pub each : AreFor P nodes entries
  pub losses : List Bool
  pub long : length losses ≡ length entries
  pub kept : new.kept ≡ with_more old.kept (unlost losses entries)
  pub lost : new.lost ≡ lost_behind old.lost losses

-- ---- what was made

-- the names of the honest nodes below this number, in order, and of all
abbrev pub names_below : GivenModel → ℕ → List (List ℕ)
names_below g n = map (node_text g.program) (honest_up g n)

abbrev pub names_in : GivenModel → List (List ℕ)
names_in g = map (node_text g.program) (honest_in g)

-- a journal was made for each honest node, once, in order, and no other
abbrev pub MakesAll : GivenModel → Makers → Makers → Type 0
MakesAll g old new = new.made ≡ with_more old.made (names_in g)

-- ---- answers

-- There are moves of a run of which the answer tells, and the journals are kept as these left them; none failed of which it is told that it can't.
-- Whichever nodes are distrusted, what the others then hold is what their commits give, and what trusted replay gives;
-- and what they have sent to those is the public replay of what the run released.
pub record IsOfRun (g : GivenModel) (wanted : Wanted) (answer : Replayed) (old new : Makers) : Type 0 where
  pub moves : List Move
  pub run : IsRun (setting g) moves
  pub told : Tells g wanted moves answer
  pub kept : Keeps g (IsEntryAt g moves) old.kept new.kept
  pub none_lost : new.lost ≡ old.lost
  pub sure : (n : ℕ) → CannotFail old.may_fail (node_text g.program n) → has_mark moves n ≡ false
  pub integral : (nodes : ℕ) (ex : ℕ → Bool) → IsExcluded g nodes ex → IsIntegral g moves (has_bit nodes) ex
  pub isolated : IsIsolated g moves
  pub trusted : IsTrusted g moves

-- The journal of this node couldn't be made, for which there is a cause, and those before it are given back; or all were made, and its header
-- couldn't be written.
pub data HasNoHeader (g : GivenModel) (node : ℕ) (old new : Makers) : Type 0 where
  Unmade : HandsBack (IsEntryFresh g) (honest_up g node) old new → new.made ≡ with_more old.made (names_below g node) → Rose old.faults new.faults
      → HasNoHeader g node old new
  Unwritten : HandsBack (IsEntryBehind g node) (honest_in g) old new → MakesAll g old new → new.faults ≡ old.faults → HasNoHeader g node old new

-- ---- where memory ran out

-- the schedule's events up to some one, each of which came whole
abbrev pub IsFrontRun : GivenModel → List Move → Type 0
IsFrontRun g moves = (many : ℕ) × (moves ≡ moves_of (take many (events_of g.program)))

-- a run may have come so far: of the schedule, to the end of some event or into one in which a journal failed; or where nodes make it by themselves,
-- to where it keeps the bundle's crash lines
abbrev pub IsOnWay : GivenModel → Wanted → List Move → Type 0
IsOnWay g (Run x) moves = KeepsLines (setting g) (lines_of g.program) moves
IsOnWay g _ moves = IsFrontRun g moves ⊎ ((node : ℕ) × StopsIn g moves node)

-- Nothing is told of these moves of a run, whose first mark is this one; the journals are as they left them.
pub record IsCutOff (g : GivenModel) (wanted : Wanted) (mark : Option ℕ) (old new : Makers) : Type 0 where
  pub moves : List Move
  pub run : IsRun (setting g) moves
  pub on_way : IsOnWay g wanted moves
  pub first : first_mark moves ≡ mark
  pub kept : HandsBack (IsEntryAt g moves) (honest_in g) old new

-- Before there was a run: the journals of the first so many nodes were made, and none failed.
pub record IsStartShort (g : GivenModel) (old new : Makers) : Type 0 where
  pub many : ℕ
  pub made : new.made ≡ with_more old.made (take many (names_in g))
  pub kept : HandsBack (IsEntryFresh g) (take many (honest_in g)) old new
  pub faults : new.faults ≡ old.faults

-- ---- the whole

-- The makers of journals were as old, and are as new. They have made one for each honest node, and failed no more often, unless one couldn't be
-- made. A fault comes without a text where the run never began, or its first mark is that node's.
abbrev pub IsReplayed : GivenModel → Wanted → Replayed → Makers → Makers → Type 0
IsReplayed g wanted (r.JournalFault node None) old new =
    IsTrue (is_honest g node) × (HasNoHeader g node old new ⊎ (IsCutOff g wanted (Some node) old new × MakesAll g old new × (new.faults ≡ old.faults)))
IsReplayed g wanted answer old new = IsOfRun g wanted answer old new × MakesAll g old new × (new.faults ≡ old.faults)

-- the same, with the counts of the run where something is read beside it
abbrev pub IsMade : GivenModel → Wanted → Replayed → Makers → Makers → Type 0
IsMade g wanted answer old new = (counts : List ℕ) × IsReplayed g (with_counts wanted counts) answer old new

-- Memory ran out, and no journal had failed: before there was a run, or behind moves without a mark.
abbrev pub IsCutShort : GivenModel → Wanted → Makers → Makers → Type 0
IsCutShort g wanted old new = IsStartShort g old new ⊎ (IsCutOff g wanted None old new × MakesAll g old new × (new.faults ≡ old.faults))

-- No journal that is given back has failed, and unless one was lost, each that was made is given back.
abbrev pub HidesNone : Makers → Makers → List Entry → Type 0
HidesNone old new had = (more : List Entry) × (new.kept ≡ Some (had ++ more)) × AllByRecursion (λ x. x.faults ≡ 0) more
    × (new.lost ≡ old.lost → old.lost < 2 ^ 64 - 1 → new.made ≡ with_more old.made (map (λ (x : Entry). x.node) more))

-- the node of which a fault is told isn't one of which it is told that its journal can't fail
abbrev pub IsPossible : Option (List (List ℕ)) → Resolved → Replayed → Type 0
IsPossible told program (r.JournalFault node report) = CannotFail told (node_text program node) → ⊥
IsPossible told program (r.Done bytes) = Unit {0}
IsPossible told program (r.NotEnabled number) = Unit {0}
