-- What honest stores hold behind a run can be shown: each row has a name, a class of the bundle, a version of 32 bits, and fields in their ranges.
--
-- What is held are the shelf's rows, with what decided transactions that are still prepared leave behind. Both are within what
-- messages can spell in every run, whatever hostile nodes send.
use Rattle.std.proofs.Common.{◌≡◌, inl, inr, ℕ, zero, suc, ◌+◌, ◌<◌, ◌^◌, List, [], map, true, false, not, ◌&&◌, ◌==◌, IsTrue, sym, subst, arith}
use Rattle.std.specs.Prelude.{IsFalse}
use Rattle.std.specs.List.{AllByRecursion, filter, flat_map, range_with_len}
use Rattle.std.proofs.lemmas.Bool.{and_parts, cond_both, eqb-false, not-false, not-true, or_right}
use Rattle.fab_base.specs.declared.object.Object.{Object}
use Rattle.fab_base.specs.declared.object.Oid.{Oid}
use Rattle.fab_base.specs.declared.object.Value.{Value}
use Rattle.fab_base.specs.declared.object.Value.TheVariants.{Int, Null, Ref}
use Rattle.fab_base.specs.FieldSpelling.{AreItems, IsCreate, IsObject, IsOid, IsValue, IsWrite, sent_version}
use Rattle.fab_base.proofs.Lists.{all_along}
use Rattle.fab_tree.specs.declared.resolved.Resolved.{Resolved}
use Rattle.fab_tree.specs.declared.start.Start.{Start}
use Rattle.fab_language.specs.Numbers.{resolved}
use Rattle.fab_rights.specs.declared.rights.Rights.{Rights}
use Rattle.fab_rights.specs.Computed.{is_node, is_store, is_worker, suits}
use Rattle.fab_protocol.specs.Shelves.{IsShelf, IsSuited}
use Rattle.fab_protocol.specs.Stores.{Create, Item, Prepared, Shelf, Write, all_in, is_unsuited}
use Rattle.fab_protocol.specs.Versions.{Row, begun, is_made_in, left_by, name_of, raised, risen}
use Rattle.fab_protocol.proofs.TableLaws.{all_placed_all}
use Rattle.fab_world.specs.Machine.{Move, Setting, World, held_at, is_decided, shelf}
use Rattle.fab_world.specs.Serial.{IsEvaluation, IsRun, IsSetting, commits_in, world_of}
use Rattle.fab_integrity.proofs.Invariant.{In}
use Rattle.fab_integrity.proofs.Items.{in_creates, in_writes}
use Rattle.fab_integrity.proofs.Lists.{all_of, each_of, in_append, in_filter, in_flat, in_map}
use Rattle.fab_outcomes.proofs.Stored.{IsGood, IsSpelled}
use Rattle.fab_outcomes.proofs.Tidy.{Made, Store, good_run, tidy_run}
use Rattle.fab_settings.specs.Settings.{IsAcceptedWith, is_hostile_node, setting_of}
use Rattle.fab_settings.proofs.Gives.{gives_setting}
use Rattle.fab_settings.proofs.Meanings.{evaluates}
use Rattle.fab_reports.specs.Showable.{AreHeldIn, IsRowIn, IsValueIn}
use Rattle.fab_shown.specs.Shown.{all_held, held_here, node_count}
use Rattle.fab_shown.proofs.Nodes.{rights_node, suited_class}

-- a row that is well formed, with what messages can spell
pub record IsFine (rights : Rights) (row : Row) : Type 0 where
  pub suited : suits rights row.0 row.2 ≡ true
  pub name : IsOid row.0
  pub object : IsObject sent_version row.2
  pub high : row.1 < 2 ^ 32

good_fine : (rights : Rights) (P : Oid → Type 0) (row : Row) → IsGood rights P row → IsFine rights row
good_fine rights P row g = record { suited = g.suited; name = g.name; object = g.object; high = g.high }

risen_fits : (version : ℕ) → version < 2 ^ 32 → risen version < 2 ^ 32
risen_fits version h = cond_both (version == 4294967295) version (suc version) (λ x. x < 2 ^ 32) (λ _. h)
    (λ other. let apart = eqb-false version 4294967295 other in omega (arith, h, apart))

-- ---- what prepared transactions leave behind

module _ (rights : Rights) (p : Prepared) (spelled : IsSpelled p) (suited : IsSuited rights p) where
  abbrev Fine : Row → Type 0
  Fine row = IsFine rights row

  suited_item : (item : Item) → In item (all_in p.1) → is_unsuited rights p.0 item ≡ false
  suited_item item h = each_of (λ x. IsFalse (is_unsuited rights p.0 x)) (all_in p.1) item suited h

  fine_write : (x : Row) → In x p.1.writes → Fine (raised x)
  fine_write x h =
      let are : AreItems sent_version p.1 = spelled.1 in
      let write : IsWrite sent_version x = each_of (IsWrite sent_version) p.1.writes x are.writes h in
      record {
        suited = not-false (suits rights x.0 x.2) (suited_item (Write x.0 x.1 x.2) (in_writes p.1 x h));
        name = write.oid;
        object = write.object;
        high = risen_fits x.1 write.read;
      }

  fine_create : (c : Oid × Object) → In c p.1.creates → Fine (begun c)
  fine_create c h =
      let are : AreItems sent_version p.1 = spelled.1 in
      let create : IsCreate sent_version c = each_of (IsCreate sent_version) p.1.creates c are.creates h in
      let both = and_parts (suits rights c.0 c.1) (is_made_in p.0 c.0) (not-false _ (suited_item (Create c.0 c.1) (in_creates p.1 c h))) in
      record { suited = both.0; name = create.oid; object = create.object; high = omega arith }

  pub fine_left : (r : Row) → In r (left_by p.1) → Fine r
  fine_left r h = elim (in_append r (map raised p.1.writes) (map begun p.1.creates) h) [
    | inl a ↦ let f = in_map raised r p.1.writes a in subst Fine (sym f.2) (fine_write f.0 f.1)
    | inr b ↦ let f = in_map begun r p.1.creates b in subst Fine (sym f.2) (fine_create f.0 f.1)
  ]

-- ---- what an honest store holds

module _ (S : Setting) (given : IsSetting S) (law : IsEvaluation S) (moves : List Move) (run : IsRun S moves) where
  abbrev w : World
  w = world_of S moves

  pub held_fine : (s : ℕ) → Store S s → AllByRecursion (IsFine S.rights) (held_at S w s)
  held_fine s me =
      let good = good_run S given law moves run in
      let tidy = tidy_run S given law moves run in
      let now : Shelf = shelf S w s in
      let ok : IsShelf S.rights s now = good.inv.store s me in
      let decided : List Prepared = filter (λ p. is_decided S w p.0) now.prepared in
      let made : Oid → Type 0 = Made S (commits_in S S.hostile moves) in
      all_placed_all name_of (IsFine S.rights) (flat_map (λ p. left_by p.1) decided) now.rows
      (all_of (IsFine S.rights) (flat_map (λ p. left_by p.1) decided) (λ r h.
      let f = in_flat (λ (p : Prepared). left_by p.1) r decided h in
      let g = in_filter (λ (p : Prepared). is_decided S w p.0) f.0 now.prepared f.1 in
      fine_left S.rights f.0 (each_of IsSpelled now.prepared f.0 (tidy.prepared s me) g.0)
      (each_of (IsSuited S.rights) now.prepared f.0 ok.suited g.0) r f.2))
      (all_along (IsGood S.rights made) (IsFine S.rights) (good_fine S.rights made) now.rows (tidy.rows s me))

-- ---- rows of a report

pub value_in : (v : Value) → IsValue sent_version v → IsValueIn v
value_in (Int n) h = h
value_in Null h = tt
value_in (Ref o) h = h

module _ (s : Start) (rights : Rights) (a : IsAcceptedWith s rights) (moves : List Move) (run : IsRun (setting_of (resolved s) rights) moves) where
  abbrev r : Resolved
  r = resolved s

  abbrev S : Setting
  S = setting_of (resolved s) rights

  row_in : (n : ℕ) → IsTrue (is_store rights n) → (row : Row) → IsFine rights row → IsRowIn r n row
  row_in n store row fine =
      let object : IsObject sent_version row.2 = fine.object in
      record {
        store = rights_node r rights a.rights_are n (or_right (is_worker rights n) (is_store rights n) store);
        name = fine.name;
        class = suited_class r rights a.rights_are row.0 row.2 fine.suited;
        version = fine.high;
        fields = all_along (IsValue sent_version) IsValueIn value_in row.2.fields object.fields;
      }

  rows_in : (n : ℕ) → AllByRecursion (IsRowIn r n) (held_here r rights (world_of S moves) n)
  rows_in n =
      cond_both (is_node rights n && not (is_hostile_node r n) && is_store rights n) (held_at S (world_of S moves) n) [] (AllByRecursion (IsRowIn r n))
      (λ here.
      let first = and_parts (is_node rights n && not (is_hostile_node r n)) (is_store rights n) here in
      let second = and_parts (is_node rights n) (not (is_hostile_node r n)) first.0 in
      all_along (IsFine rights) (IsRowIn r n) (row_in n first.1) (held_at S (world_of S moves) n)
      (held_fine S (gives_setting s rights a) (evaluates s rights a) moves run n
      (record { kind = first.1; outside = not-true (is_hostile_node r n) second.1 })))
      (λ _. tt)

  held_from : (n k : ℕ) → AreHeldIn r n (map (held_here r rights (world_of S moves)) (range_with_len n k))
  held_from n zero = tt
  held_from n (suc k) =
      let next : n + 1 ≡ suc n = omega arith in
      (rows_in n, subst (λ m. AreHeldIn r m (map (held_here r rights (world_of S moves)) (range_with_len (n + 1) k))) next (held_from (n + 1) k))

  pub held_in : AreHeldIn r 0 (all_held r rights (world_of S moves))
  held_in = held_from 0 (node_count r)
