-- What a store's record makes of versions and of what is prepared: no version rises but by what was prepared, and that by a Prepare.
use Rattle.std.proofs.Common.{◌≡◌, ◌⊎◌, inl, inr, ℕ, suc, ◌+◌, ◌≤◌, List, [], ◌∷◌, map, length, Bool, true}
use Rattle.std.proofs.Common.{false, not, cond, IsFalse, Option, Some, None, refl, sym, ap, subst, arith, true≢false}
use Rattle.std.specs.Prelude.{◌==◌, if◌then◌else◌}
use Rattle.std.specs.List.{flat_map, list_any, AllByRecursion}
use Rattle.std.proofs.lemmas.Bool.{or_cases}
use Rattle.std.proofs.lemmas.List.{length-append}
use Rattle.fab_base.specs.declared.entry.Entry.{Entry}
use Rattle.fab_base.specs.declared.object.Oid.{Oid}
use Rattle.fab_base.specs.declared.object.Tid.{Tid}
use Rattle.fab_base.specs.declared.message.Answer.{Answer}
use Rattle.fab_base.specs.declared.message.Answer.TheVariants as answers
use Rattle.fab_base.specs.declared.message.Items.{Items}
use Rattle.fab_base.specs.declared.message.Message.{Message}
use Rattle.fab_base.specs.FlatMap.{is_same}
use Rattle.fab_base.proofs.NameOrder.{one_name}
use Rattle.fab_base.proofs.Lists.{few_pass}
use Rattle.fab_rights.specs.declared.rights.Rights.{Rights}
use Rattle.fab_protocol.specs.Shelves.{IsCurrent, IsShelf}
use Rattle.fab_protocol.specs.Stores.{Prepared, Shelf, Write, all_in, behind}
use Rattle.fab_protocol.specs.Stores.{hears, keeps_said, out_of_date}
use Rattle.fab_protocol.specs.Stores.{prepared_as, says, vote, voted, without}
use Rattle.fab_protocol.specs.Tables.{placed, placed_all}
use Rattle.fab_protocol.specs.Versions.{Row, Rows, begun, is_tid, left_by, name_of, raised, risen, version_of}
use Rattle.fab_protocol.proofs.StoreActs.{answered}
use Rattle.fab_protocol.proofs.VersionLaws.{version_of_placed}
use Rattle.fab_integrity.proofs.Invariant.{In}
use Rattle.fab_integrity.proofs.Items.{in_writes}
use Rattle.fab_integrity.proofs.Lists.{each_of, in_append, in_filter, in_flat, in_map}
use Rattle.fab_integrity.proofs.Replays.{fresh_is}
use Rattle.fab_shadow.proofs.Asks.{asks, is_prepare}

-- ---- rows that are placed

placed_step : (b : ℕ) (r : Row) (rows : Rows) (o : Oid) → (r.0 ≡ o → r.1 ≤ b) → version_of rows o ≤ b → (c : Bool) → is_same r.0 o ≡ c
    → (if c then r.1 else version_of rows o) ≤ b
placed_step b r rows o here there true same = here (one_name r.0 o same)
placed_step b r rows o here there false same = there

placed_low : (b : ℕ) (rs rows : Rows) (o : Oid) → ((r : Row) → In r rs → r.0 ≡ o → r.1 ≤ b) → version_of rows o ≤ b → version_of (placed_all name_of rs rows) o ≤ b
placed_low b [] rows o each low = low
placed_low b (r ∷ rs) rows o each low =
    placed_low b rs (placed name_of r rows) o (λ z i. each z (inr i))
    (let at = version_of_placed r rows o in
    let one = placed_step b r rows o (each r (inl refl)) low (is_same r.0 o) refl in
    omega (arith, at, one))

risen_most : (version : ℕ) → risen version ≤ suc version
risen_most version = elim (version == 4294967295) as (λ b. (if b then version else suc version) ≤ suc version) [ true ↦ omega arith | false ↦ omega arith ]

-- what is prepared is at the current version, so it leaves the next one at most
module _ (rights : Rights) (s : ℕ) (shelf : Shelf) (ok : IsShelf rights s shelf) where
  leaves_next : (p : Prepared) → In p shelf.prepared → (r : Row) → In r (left_by p.1) → r.1 ≤ suc (version_of shelf.rows r.0)
  leaves_next p i r left = elim (in_append r (map raised p.1.writes) (map begun p.1.creates) left) [
    | inl write ↦
        let w = in_map raised r p.1.writes write in
        let current : IsFalse (out_of_date shelf.rows (Write w.0.0 w.0.1 w.0.2)).0 =
        each_of (IsCurrent shelf) (all_in p.1) (Write w.0.0 w.0.1 w.0.2) (each_of (λ (q : Prepared). AllByRecursion (IsCurrent shelf) (all_in q.1)) shelf.prepared p ok.current i)
        (in_writes p.1 w.0 w.1) in
        let same = (fresh_is (version_of shelf.rows w.0.0) w.0.1 current).0 in
        let most = risen_most w.0.1 in
        let version : r.1 ≡ risen w.0.1 = ap (λ (z : Row). z.1) w.2 in
        let name : version_of shelf.rows r.0 ≡ version_of shelf.rows w.0.0 = ap (λ (z : Row). version_of shelf.rows z.0) w.2 in
        omega (arith, same, most, version, name)
    | inr create ↦
        let c = in_map begun r p.1.creates create in
        let version : r.1 ≡ 1 = ap (λ (z : Row). z.1) c.2 in
        omega (arith, version)
  ]

  applied_low : (t : Tid) (o : Oid) → version_of (behind (prepared_as t shelf.prepared) shelf.rows) o ≤ suc (version_of shelf.rows o)
  applied_low t o =
      placed_low (suc (version_of shelf.rows o)) (flat_map (λ (p : Prepared). left_by p.1) (prepared_as t shelf.prepared)) shelf.rows o
      (λ r i name.
      let p = in_flat (λ (p : Prepared). left_by p.1) r (prepared_as t shelf.prepared) i in
      let next = leaves_next p.0 (in_filter (λ (p : Prepared). is_tid p.0 t) p.0 shelf.prepared p.1).0 r p.2 in
      let at : version_of shelf.rows r.0 ≡ version_of shelf.rows o = ap (version_of shelf.rows) name in
      omega (arith, next, at))
      (omega arith)

-- one that is prepared goes
one_gone : (t : Tid) (ps : List Prepared) → list_any (λ p. is_tid p.0 t) ps ≡ true → suc (length (without t ps)) ≤ length ps
one_gone t [] h = absurd (true≢false (sym h))
one_gone t (p ∷ ps) h =
    elim (is_tid p.0 t) as (λ b. (is_tid p.0 t ≡ b) → (b ≡ true) ⊎ (list_any (λ p. is_tid p.0 t) ps ≡ true) → suc (length (cond (not b) (p ∷ without t ps) (without t ps))) ≤ suc (length ps)) [
      | true ↦ λ e either. let few = few_pass (λ (q : Prepared). not (is_tid q.0 t)) ps in omega (arith, few)
      | false ↦ λ e either. elim either [
        | inl no_ ↦ absurd (true≢false (sym no_))
        | inr later ↦ let few = one_gone t ps later in omega (arith, few)
      ]
    ] refl (or_cases (is_tid p.0 t) (list_any (λ p. is_tid p.0 t) ps) h)

-- ---- a store hears

-- a version, and how many are prepared
abbrev pub measure : Oid → Shelf → ℕ
measure o shelf = version_of shelf.rows o + length shelf.prepared

abbrev pub one_if : Bool → ℕ
one_if true = 1
one_if false = 0

module _ (rights : Rights) (s n : ℕ) (shelf : Shelf) (ok : IsShelf rights s shelf) (o : Oid) where
  abbrev Rises : Option Entry → ℕ → Type 0
  Rises entry more = measure o (keeps_said entry shelf) ≤ measure o shelf + more

  voted_rises : (t : Tid) (items : Items) (answer : Answer) → Rises (Some (voted t items answer)) 1
  voted_rises t items answers.Yes = let more = length-append shelf.prepared ((t, items) ∷ []) in omega (arith, more)
  voted_rises t items _ = omega arith

  says_rises : (message : Message) → Rises (says rights s n message shelf).entry (one_if (is_prepare message))
  says_rises message = answered rights s n shelf (λ said. Rises said.entry (one_if (is_prepare message))) message (record {
    rests = λ h. omega arith;
    lacks = λ t p h. omega arith;
    bars = λ t p h. omega arith;
    shows = λ t p row h there. omega arith;
    too_late = λ t items h. omega arith;
    votes_on = λ t items h above.
        subst (λ x. Rises (Some (voted t items (vote rights s n t items shelf))) (one_if (is_prepare x))) (sym h.is)
        (voted_rises t items (vote rights s n t items shelf));
    applies = λ t h there. let low = applied_low rights s shelf ok t o in let gone = one_gone t shelf.prepared there in omega (arith, low, gone);
    releases = λ t h there. let few = few_pass (λ (p : Prepared). not (is_tid p.0 t)) shelf.prepared in omega (arith, few);
    boots = λ b h later. let few = few_pass (λ (p : Prepared). not (p.0.worker == n)) shelf.prepared in omega (arith, few);
  })

  pub hears_rises : (heard : Option Message) → Rises (hears rights s n heard shelf).entry (one_if (asks heard))
  hears_rises None = omega arith
  hears_rises (Some message) = says_rises message
