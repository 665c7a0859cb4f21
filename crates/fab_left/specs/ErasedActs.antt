-- The erased meaning, statement by statement: what each does at once, for somebody who sees these labels and is shown these
-- classes.
use Rattle.std.specs.Prelude.{ℕ, Bool, List, Option, Some, None, slice_get, if◌then◌else◌}
use Rattle.std.specs.List.{list_all}
use Rattle.fab_base.specs.declared.object.Tid.{Tid}
use Rattle.fab_base.specs.declared.object.Value.{Value}
use Rattle.fab_base.specs.FlatMap.{FlatMap}
use Rattle.fab_tree.specs.declared.resolved.Class.{Class}
use Rattle.fab_tree.specs.declared.resolved.Local.{Local}
use Rattle.fab_tree.specs.declared.resolved.Right.{Right}
use Rattle.fab_tree.specs.declared.resolved.Right.TheVariants as rights
use Rattle.fab_tree.specs.declared.resolved.Statement.{Statement, out-Statement}
use Rattle.fab_tree.specs.declared.resolved.Statement.TheOpen as s
use Rattle.fab_tree.specs.declared.resolved.Resolved.{Resolved}
use Rattle.fab_tree.specs.declared.resolved.Request.{Request}
use Rattle.fab_labelling.specs.Obligations.{label_of_local}
use Rattle.fab_language.specs.Meaning.{Run, M, failed, ends, gives, ◌>>=◌, ◌>>◌, charge, local, assign, create, noted_down, holds, state_at_start}
use Rattle.fab_erasure.specs.Erased as erase
use Rattle.fab_erasure.specs.Erased.{shown_if}
use Rattle.fab_left.specs.Left.{Means}
use Rattle.fab_left.specs.Deeds.{Deed, passed, into, again, trying, entering}

module _ (sees shows : ℕ → Bool) where
  -- a local takes a value, blank where the local isn't seen
  abbrev pub assign_shown : List Local → ℕ → Value → M (Unit {0})
  assign_shown locals x v = assign x (shown_if (list_all sees (label_of_local (slice_get locals x))) v)

  -- what the parts of a program mean, over the attempt
  abbrev pub meanings : Resolved → Tid → Means
  meanings program tid = record {
    statement = λ p. erase.statement sees shows program.classes p.method.locals tid (erase.called sees shows program tid p.depth);
    result = λ p. erase.returned sees shows program.classes p.method.locals p.method.returns p.method.result;
    takes = λ p. assign_shown p.method.locals;
    call = λ p. erase.called sees shows program tid p.depth;
  }

  module _ (classes : List Class) (locals : List Local) (tid : Tid) where
    abbrev pub taken : ℕ → Value → M Deed
    taken x v = assign_shown locals x v >> gives passed

    -- what is assigned to a local, or the call that gives it
    abbrev pub right_act : ℕ → Right → M Deed
    right_act x (rights.Plain e) = erase.value sees shows classes locals e >>= taken x
    right_act x (rights.Call m args) = erase.values sees shows classes locals args >>= λ vs. gives (entering m.number vs (Some x))
    right_act x (rights.New class store args site at) = do
      vs ← erase.values sees shows classes locals args
      v ← create tid store.number class.number site (erase.fields_shown sees shows class.number vs)
      taken x v
    right_act x (rights.Downgrade downgrade e from to site at) =
        let blank = erase.blank_of sees shows classes locals (slice_get locals x) in
        erase.value sees shows classes locals e >>= λ v. erase.downgraded sees shows classes locals blank from.number to.number v >>= noted_down site >>= taken x

    -- what only unseen values decide isn't done
    abbrev pub work : s.Statement-F Statement → M Deed
    work (s.Assign x r at) = right_act x r
    work (s.Write x field e site) = do
      v ← erase.value sees shows classes locals e
      o ← local x.number
      erase.write_shown sees shows site field v o
      gives passed
    work (s.Call m args) = erase.values sees shows classes locals args >>= λ vs. gives (entering m.number vs None)
    work (s.If e a b) = do
      v ← erase.value sees shows classes locals e
      gives (if (erase.part sees shows classes locals e).seen then into (if holds v then a else b) else passed)
    work (s.While e a) = do
      v ← erase.value sees shows classes locals e
      gives (if (erase.part sees shows classes locals e).seen then (if holds v then again a else passed) else passed)
    work (s.Atomic label a b at) = gives (if sees label.number then trying a b else passed)
    work (s.Fail at) = ends failed

    -- a statement costs 1
    abbrev pub act : Statement → M Deed
    act s = charge >> work (out-Statement s)

  -- what is done over a map, with so much fuel and these given values
  abbrev pub asked : Resolved → Tid → Request → ℕ → List Value → FlatMap → Run (Option Value)
  asked program tid request fuel given known = erase.called sees shows program tid 64 request.method request.args (record (state_at_start known fuel) { given = given })
