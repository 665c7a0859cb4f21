-- What a commit does: each write and each object that is made stands, nothing else changes, and the attempt is gone.
use Rattle.std.proofs.Common.{◌≡◌, ℕ, zero, suc, true, false, not, cond, ◌||◌, ◌==◌, nat_lt, IsFalse}
use Rattle.std.proofs.Common.{List, [], ◌∷◌, ◌++◌, map, Some, None, Contains, refl, sym, subst, ap, ◌∙◌, arith, append-nil}
use Rattle.std.specs.List.{list_any, AllByRecursion}
use Rattle.std.proofs.lemmas.Bool.{eqb-true, ltb-false, or_parts, not-false}
use Rattle.std.proofs.lemmas.Bool.Decides.{nat_tests}
use Rattle.fab_base.specs.declared.object.Oid.{Oid}
use Rattle.fab_base.specs.declared.object.Object.{Object}
use Rattle.fab_base.specs.declared.object.Tid.{Tid}
use Rattle.fab_base.specs.declared.message.Items.{Items}
use Rattle.fab_base.specs.declared.entry.Entry.TheVariants as e
use Rattle.fab_base.specs.FlatMap.{is_among}
use Rattle.fab_base.proofs.Lists.{all_split, all_of_map, all_at}
use Rattle.fab_rights.specs.declared.rights.Rights.{Rights}
use Rattle.fab_protocol.specs.Tables.{row_of, placed_all, OnlyOnce}
use Rattle.fab_protocol.specs.Versions.{Row, name_of, version_of, risen, raised, begun, left_by, is_tid}
use Rattle.fab_protocol.specs.Stores.{Shelf, Prepared, Write, Create, keeps, prepared_as, without, behind, all_in, named_by, changed_by}
use Rattle.fab_protocol.specs.Stores.{reads_in, writes_in, creates_in}
use Rattle.fab_protocol.specs.Shelves.{IsShelf, IsCurrent, IsApart, AreApart}
use Rattle.fab_protocol.proofs.TableLaws.{each_placed_all, row_of_placed_all}
use Rattle.fab_protocol.proofs.VersionLaws.{version_of_row, no_row, left_names, left_others, changed_once}

-- ---- an attempt is prepared once

pub tid_itself : (t : Tid) → is_tid t t ≡ true
tid_itself t = grind (arith, nat_tests)

tid_flips : (t u : Tid) → is_tid t u ≡ false → is_tid u t ≡ false
tid_flips t u h = grind (arith, nat_tests)

none_as : (t : Tid) (ps : List Prepared) → AllByRecursion (λ p. IsFalse (is_tid p.0 t)) ps → prepared_as t ps ≡ []
none_as t [] h = refl
none_as t (p ∷ ps) h = ap (λ b. cond b (p ∷ prepared_as t ps) (prepared_as t ps)) h.0 ∙ none_as t ps h.1

others_differ : (p : Prepared) (ps : List Prepared) → AllByRecursion (IsApart p) ps → AllByRecursion (λ q. IsFalse (is_tid q.0 p.0)) ps
others_differ p [] h = tt
others_differ p (q ∷ ps) h = (tid_flips p.0 q.0 h.0.0, others_differ p ps h.1)

head_as : (p : Prepared) (ps : List Prepared) → AllByRecursion (IsApart p) ps → prepared_as p.0 (p ∷ ps) ≡ p ∷ []
head_as p ps h =
    ap (λ b. cond b (p ∷ prepared_as p.0 ps) (prepared_as p.0 ps)) (tid_itself p.0)
    ∙ ap (λ qs. p ∷ qs) (none_as p.0 ps (others_differ p ps h))

pub one_prepared : (q : Prepared) (ps : List Prepared) → AreApart ps → Contains ps q → prepared_as q.0 ps ≡ q ∷ []
one_prepared q [] h (k, low, is) = absurd (omega (arith, low))
one_prepared q (p ∷ ps) h (zero, low, is) = subst (λ (x : Prepared). prepared_as x.0 (p ∷ ps) ≡ x ∷ []) is (head_as p ps h.0)
one_prepared q (p ∷ ps) h (suc k, low, is) =
    let has : Contains ps q = (k, omega (arith, low), is) in
    ap (λ b. cond b (p ∷ prepared_as q.0 ps) (prepared_as q.0 ps)) (all_at (IsApart p) ps q h.0 has).0 ∙ one_prepared q ps h.1 has

-- ---- behind it, none is

pub none_without : (t : Tid) (ps : List Prepared) → IsFalse (list_any (λ (p : Prepared). is_tid p.0 t) (without t ps))
none_without t [] = refl
none_without t (p ∷ ps) =
    elim (is_tid p.0 t) as (λ b. is_tid p.0 t ≡ b → IsFalse (list_any (λ (q : Prepared). is_tid q.0 t) (cond (not b) (p ∷ without t ps) (without t ps)))) [
      | true ↦ λ f. none_without t ps
      | false ↦ λ f. ap (λ b. b || list_any (λ (q : Prepared). is_tid q.0 t) (without t ps)) f ∙ none_without t ps
    ] refl

is_one_tid : (p t u : Tid) → is_tid p t ≡ true → is_tid u t ≡ false → is_tid p u ≡ false
is_one_tid p t u h g = grind (arith, nat_tests)

pub others_as : (t u : Tid) (ps : List Prepared) → IsFalse (is_tid u t) → prepared_as u (without t ps) ≡ prepared_as u ps
others_as t u [] h = refl
others_as t u (p ∷ ps) h =
    elim (is_tid p.0 t) as (λ b. is_tid p.0 t ≡ b → prepared_as u (cond (not b) (p ∷ without t ps) (without t ps))
    ≡ cond (is_tid p.0 u) (p ∷ prepared_as u ps) (prepared_as u ps)) [
      | true ↦ λ f. others_as t u ps h ∙ sym (ap (λ b. cond b (p ∷ prepared_as u ps) (prepared_as u ps)) (is_one_tid p.0 t u f h))
      | false ↦ λ f. ap (λ qs. cond (is_tid p.0 u) (p ∷ qs) qs) (others_as t u ps h)
    ] refl

-- ---- rows

module _ (rights : Rights) (s : ℕ) (shelf : Shelf) (h : IsShelf rights s shelf) (t : Tid) (items : Items) (has : Contains shelf.prepared (t, items)) where
  abbrev after : Shelf
  after = keeps (e.Applied t) shelf

  rows_are : after.rows ≡ placed_all name_of (left_by items) shelf.rows
  rows_are =
      ap (λ ps. behind ps shelf.rows) (one_prepared (t, items) shelf.prepared h.apart has)
      ∙ ap (λ rs. placed_all name_of rs shelf.rows) (append-nil (left_by items))

  each_left : AllByRecursion (λ r. row_of name_of after.rows (name_of r) ≡ Some r) (left_by items)
  each_left =
      subst (λ rows. AllByRecursion (λ r. row_of name_of rows (name_of r) ≡ Some r) (left_by items)) (sym rows_are)
      (each_placed_all name_of (left_by items) shelf.rows
      (subst OnlyOnce (sym (left_names items)) (changed_once items (all_at (λ p. OnlyOnce (named_by p.1)) shelf.prepared (t, items) h.once has))))

  pub written : (w : Row) → Contains items.writes w → row_of name_of after.rows w.0 ≡ Some (raised w)
  written w wrote =
      let parts = all_split (λ r. row_of name_of after.rows (name_of r) ≡ Some r) (map raised items.writes) (map begun items.creates) each_left in
      all_at (λ (x : Row). row_of name_of after.rows x.0 ≡ Some (raised x)) items.writes w
      (all_of_map (λ r. row_of name_of after.rows (name_of r) ≡ Some r) raised items.writes parts.0) wrote

  pub made : (c : Oid × Object) → Contains items.creates c → row_of name_of after.rows c.0 ≡ Some (begun c)
  made c makes =
      let parts = all_split (λ r. row_of name_of after.rows (name_of r) ≡ Some r) (map raised items.writes) (map begun items.creates) each_left in
      all_at (λ (x : Oid × Object). row_of name_of after.rows x.0 ≡ Some (begun x)) items.creates c
      (all_of_map (λ r. row_of name_of after.rows (name_of r) ≡ Some r) begun items.creates parts.1) makes

  pub unchanged : (o : Oid) → IsFalse (is_among o (changed_by items)) → row_of name_of after.rows o ≡ row_of name_of shelf.rows o
  unchanged o apart =
      ap (λ rows. row_of name_of rows o) rows_are
      ∙ row_of_placed_all name_of (left_by items) shelf.rows o (left_others items o apart)

  -- ---- what was read

  each_current : AllByRecursion (IsCurrent shelf) (reads_in items ++ writes_in items) × AllByRecursion (IsCurrent shelf) (creates_in items)
  each_current =
      all_split (IsCurrent shelf) (reads_in items ++ writes_in items) (creates_in items)
      (all_at (λ p. AllByRecursion (IsCurrent shelf) (all_in p.1)) shelf.prepared (t, items) h.current has)

  pub read_version : (w : Row) → Contains items.writes w → version_of shelf.rows w.0 ≡ w.1
  read_version w wrote =
      let writes = (all_split (IsCurrent shelf) (reads_in items) (writes_in items) each_current.0).1 in
      let current : IsFalse ((version_of shelf.rows w.0 == 0) || not (w.1 == version_of shelf.rows w.0)) =
      all_at (λ (x : Row). IsCurrent shelf (Write x.0 x.1 x.2)) items.writes w
      (all_of_map (IsCurrent shelf) (λ (x : Row). Write x.0 x.1 x.2) items.writes writes) wrote in
      sym (eqb-true w.1 (version_of shelf.rows w.0)
      (not-false (w.1 == version_of shelf.rows w.0) (or_parts (version_of shelf.rows w.0 == 0) (not (w.1 == version_of shelf.rows w.0)) current).1))

  pub version_rises : (w : Row) → Contains items.writes w → version_of after.rows w.0 ≡ risen (version_of shelf.rows w.0)
  version_rises w wrote = version_of_row after.rows w.0 (raised w) (written w wrote) ∙ ap risen (sym (read_version w wrote))

  pub new_before : (c : Oid × Object) → Contains items.creates c → row_of name_of shelf.rows c.0 ≡ None
  new_before c makes =
      let current : IsFalse (nat_lt 0 (version_of shelf.rows c.0)) =
      all_at (λ (x : Oid × Object). IsCurrent shelf (Create x.0 x.1)) items.creates c
      (all_of_map (IsCurrent shelf) (λ (x : Oid × Object). Create x.0 x.1) items.creates each_current.1) makes in
      no_row shelf.rows c.0 h.versions (omega (arith, ltb-false 0 (version_of shelf.rows c.0) current))
