-- Why nodes have no journals, and why there is no run.
use Rattle.std.specs.Prelude.{◌≡◌, ◌∷◌, ◌++◌, ℕ, IsTrue, List, map}
use Rattle.fab_base.specs.Faults.{Rose}
use Rattle.fab_device.specs.Kept.{CannotFail, Makers}
use Rattle.fab_language.specs.Words.{node_text}
use Rattle.fab_tree.specs.declared.resolved.Resolved.{Resolved}
use Rattle.fab_node.specs.Standing.{GivenModel, JournalModel}
use Rattle.fab_core.specs.Cores.{is_honest}
use Rattle.fab_core.specs.Honest.{honest_in}
use Rattle.fab_replay.specs.Kept.{HandsBack, IsEntryBehind, IsEntryFresh, IsStartShort, HasNoHeader, MakesAll, with_more}
use Rattle.fab_replay.specs.Running.{AreNew}
use Rattle.fab_replay.specs.declared.journals.Unstarted.{Unstarted}
use Rattle.fab_replay.specs.declared.journals.Unstarted.TheVariants as u

-- the journal of one of these nodes couldn't be made, of which it isn't told that it can't fail, and these were, of the nodes before it; the makers'
-- count rose
pub record HasFailedAt (r : Resolved) (nodes : List ℕ) (old new : Makers) (journals : List JournalModel) (node : ℕ) : Type 0 where
  pub before : List ℕ
  pub behind : List ℕ
  pub parts : nodes ≡ before ++ node ∷ behind
  pub are : AreNew old.may_fail r before journals
  pub made : new.made ≡ with_more old.made (map (node_text r) before)
  pub rose : Rose old.faults new.faults
  pub possible : CannotFail old.may_fail (node_text r node) → ⊥

-- these were made, for the first of these nodes
pub record HasMadeSome (r : Resolved) (nodes : List ℕ) (old new : Makers) (journals : List JournalModel) : Type 0 where
  pub before : List ℕ
  pub behind : List ℕ
  pub parts : nodes ≡ before ++ behind
  pub are : AreNew old.may_fail r before journals
  pub made : new.made ≡ with_more old.made (map (node_text r) before)
  pub same : new.faults ≡ old.faults

abbrev pub HasFailed : Resolved → List ℕ → Makers → Makers → List JournalModel → Unstarted → Type 0
HasFailed r nodes old new journals (u.Failed node) = HasFailedAt r nodes old new journals node
HasFailed r nodes old new journals u.Memory = HasMadeSome r nodes old new journals

-- this node is honest, its journal couldn't be made or have its header, and it isn't told that it can't fail
pub record HasNoJournal (g : GivenModel) (old new : Makers) (node : ℕ) : Type 0 where
  pub honest : IsTrue (is_honest g node)
  pub unmade : HasNoHeader g node old new
  pub possible : CannotFail old.may_fail (node_text g.program node) → ⊥

-- The makers of journals were as old, and are as new.
abbrev pub IsUnstarted : GivenModel → Makers → Makers → Unstarted → Type 0
IsUnstarted g old new (u.Failed node) = HasNoJournal g old new node
IsUnstarted g old new u.Memory = IsStartShort g old new

-- All were made, and there is no core of them: the header of this node couldn't be written, or memory ran out.
abbrev pub HasNoCore : GivenModel → Makers → Makers → Unstarted → Type 0
HasNoCore g old new (u.Failed node) =
    IsTrue (is_honest g node) × HandsBack (IsEntryBehind g node) (honest_in g) old new × (CannotFail old.may_fail (node_text g.program node) → ⊥)
HasNoCore g old new u.Memory = HandsBack (IsEntryFresh g) (honest_in g) old new

-- A journal was made for each honest node, and else the makers are as before.
pub record HaveMade (g : GivenModel) (old mid : Makers) : Type 0 where
  pub told : mid.may_fail ≡ old.may_fail
  pub made : MakesAll g old mid
  pub kept : mid.kept ≡ old.kept
  pub faults : mid.faults ≡ old.faults
  pub lost : mid.lost ≡ old.lost
