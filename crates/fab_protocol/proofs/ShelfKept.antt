-- What holds of a shelf: at the start, behind each record that a store may keep, and behind whatever is heard.
use Rattle.std.proofs.Common.{◌≡◌, ◌<◌, ◌≤◌, ◌^◌, ℕ, ◌&&◌, ◌==◌, IsTrue, List, [], ◌∷◌, ◌++◌, length}
use Rattle.std.proofs.Common.{Option, Some, None, IfSome, refl, ap, ◌∙◌, lit≤}
use Rattle.std.specs.List.{filter, AllByRecursion}
use Rattle.std.proofs.lemmas.Bool.{eqb-true}
use Rattle.std.proofs.lemmas.List.Sums.{fold-append}
use Rattle.fab_base.specs.declared.entry.Entry.{Entry}
use Rattle.fab_base.specs.declared.entry.Entry.TheVariants as e
use Rattle.fab_base.specs.declared.message.Message.{Message}
use Rattle.fab_base.specs.declared.object.Object.{Object}
use Rattle.fab_base.specs.declared.object.Oid.{Oid}
use Rattle.fab_base.specs.FlatMap.{FlatMap, is_before, ascends as flat_ascends}
use Rattle.fab_base.specs.MessageSpelling.{KeepsCounts}
use Rattle.fab_base.proofs.Lists.{all_filter, all_passed, all_map, all_always}
use Rattle.fab_rights.specs.declared.rights.Rights.{Rights}
use Rattle.fab_protocol.specs.Tables.{ascends}
use Rattle.fab_protocol.specs.Versions.{Row, name_of, begun}
use Rattle.fab_protocol.specs.Stores.{Shelf, keeps, keeps_said, says, hears, shelf_at_start, shelf_of}
use Rattle.fab_protocol.specs.Shelves.{IsShelf, CanKeep}
use Rattle.fab_protocol.proofs.Applied.{applied_keeps}
use Rattle.fab_protocol.proofs.Kept.{says_can_keep}
use Rattle.fab_protocol.proofs.Records.{refused_keeps, released_keeps, boot_keeps, prepared_keeps}
use Rattle.fab_protocol.proofs.TableLaws.{ascends_filter, ascends_map}

pub shelf_keeps : (rights : Rights) (s : ℕ) (entry : Entry) (shelf : Shelf) → rights.workers < 2 ^ 64 → CanKeep rights s entry shelf
    → IsShelf rights s shelf → IsShelf rights s (keeps entry shelf)
shelf_keeps rights s (e.Prepared t items) shelf fits can h = prepared_keeps rights s shelf fits h t items can
shelf_keeps rights s (e.Refused t) shelf fits can h = refused_keeps rights s shelf fits h t can
shelf_keeps rights s (e.Applied t) shelf fits can h = applied_keeps rights s t shelf h
shelf_keeps rights s (e.Released t) shelf fits can h = released_keeps rights s shelf fits h t
shelf_keeps rights s (e.BootSeen w b) shelf fits can h = boot_keeps rights s shelf fits h w b can
shelf_keeps rights s (e.Decided t request result stores) shelf fits can h = h
shelf_keeps rights s (e.Closed request outcome node) shelf fits can h = h
shelf_keeps rights s (e.Boot b) shelf fits can h = h

-- ---- at the start

abbrev pub Root : Type 0
Root = Oid × Object

abbrev pub root_name : Root → Oid
root_name root = root.0

-- a map is a table of its objects
pub as_table : (roots : FlatMap) → ascends root_name roots ≡ flat_ascends roots
as_table [] = refl
as_table (x ∷ []) = refl
as_table (x ∷ y ∷ rows) = ap (λ b. is_before x.0 y.0 && b) (as_table (y ∷ rows))

pub start_is : (rights : Rights) (roots : FlatMap) (s : ℕ) → IsTrue (flat_ascends roots) → AllByRecursion (λ root. length root.1.fields ≤ 16) roots
    → IsShelf rights s (shelf_at_start roots s)
start_is rights roots s order few =
    let those : List Root = filter (λ (root : Root). root.0.store == s) roots in
    record {
      ascending = ascends_map name_of root_name begun (λ q. refl) those
          ∙ ascends_filter root_name (λ root. root.0.store == s) roots (as_table roots ∙ order);
      rows_here = all_map (λ (row : Row). row.0.store ≡ s) begun those
          (all_passed (λ (root : Root). length root.1.fields ≤ 16) (λ root. root.0.store ≡ s) (λ root. root.0.store == s)
          (λ root few here. eqb-true root.0.store s here) roots few);
      versions = all_map (λ (row : Row). 1 ≤ row.1) begun those (all_always (λ (root : Root). 1 ≤ 1) (λ root. lit≤ tt) those);
      senders = tt;
      tids = tt;
      items_here = tt;
      current = tt;
      apart = tt;
      once = tt;
      allowed = tt;
      suited = tt;
      fields = all_map (λ (row : Row). length row.2.fields ≤ 16) begun those
          (all_filter (λ (root : Root). length root.1.fields ≤ 16) (λ root. root.0.store == s) roots few);
      counts = tt;
      remembered = refl;
    }

-- ---- records, one after the other

-- one record more is kept behind the others
pub shelf_goes_on : (roots : FlatMap) (s : ℕ) (entries : List Entry) (entry : Entry)
    → shelf_of roots s (entries ++ entry ∷ []) ≡ keeps entry (shelf_of roots s entries)
unfolding shelf_of
shelf_goes_on roots s entries entry = fold-append (λ shelf kept. keeps kept shelf) (shelf_at_start roots s) entries (entry ∷ [])

-- ---- whatever is heard

said_keeps : (rights : Rights) (s : ℕ) (entry : Option Entry) (shelf : Shelf) → rights.workers < 2 ^ 64
    → ((kept : Entry) → entry ≡ Some kept → CanKeep rights s kept shelf) → IsShelf rights s shelf → IsShelf rights s (keeps_said entry shelf)
said_keeps rights s None shelf fits can h = h
said_keeps rights s (Some kept) shelf fits can h = shelf_keeps rights s kept shelf fits (can kept refl) h

pub hears_keeps : (rights : Rights) (s n : ℕ) (heard : Option Message) (shelf : Shelf) → rights.workers < 2 ^ 64 → IfSome heard KeepsCounts
    → IsShelf rights s shelf → IsShelf rights s (keeps_said (hears rights s n heard shelf).entry shelf)
hears_keeps rights s n None shelf fits counts h = h
hears_keeps rights s n (Some message) shelf fits counts h =
    said_keeps rights s (says rights s n message shelf).entry shelf fits (λ kept is. says_can_keep rights s shelf kept n message counts is) h
