-- A store that votes on a Prepare never answers that its tid is old: it says so only where it doesn't vote.
use Rattle.std.proofs.Common.{◌≡◌, ℕ, Bool, true, false, List, [], ◌∷◌, ◌++◌, map, Option, Some, None, refl, if◌then◌else◌}
use Rattle.std.specs.List.{AllByRecursion}
use Rattle.fab_base.specs.declared.object.Oid.{Oid}
use Rattle.fab_base.specs.declared.object.Tid.{Tid}
use Rattle.fab_base.specs.declared.message.Answer.{Answer}
use Rattle.fab_base.specs.declared.message.Answer.TheVariants as answers
use Rattle.fab_base.specs.declared.message.Items.{Items}
use Rattle.fab_base.proofs.Lists.{all_append}
use Rattle.fab_rights.specs.declared.rights.Rights.{Rights}
use Rattle.fab_protocol.specs.Stores.{Shelf, Prepared, Item, Read, Write, Create, creates_in, first_of, item_name, locked, out_of_date, reads_in, reasons, reasons_in, reasons_of, vote, writes_in}
use Rattle.fab_protocol.specs.Versions.{Rows}

abbrev pub is_old : Answer → Bool
is_old (answers.OldTid t) = true
is_old _ = false

abbrev IsFresh : Bool × Answer → Type 0
IsFresh r = is_old r.1 ≡ false

first_step : (b : Bool) (answer rest : Answer) → is_old answer ≡ false → is_old rest ≡ false → is_old (if b then answer else rest) ≡ false
first_step true answer rest h g = h
first_step false answer rest h g = g

first_fresh : (rs : List (Bool × Answer)) → AllByRecursion IsFresh rs → is_old (first_of rs) ≡ false
first_fresh [] h = refl
first_fresh (r ∷ rs) h = first_step r.0 r.1 (first_of rs) h.0 (first_fresh rs h.1)

date_fresh : (rows : Rows) (j : Item) → IsFresh (out_of_date rows j)
date_fresh rows (Read o version) = refl
date_fresh rows (Write o version x) = refl
date_fresh rows (Create o x) = refl

locks_fresh : (ps : List Prepared) (j : Item) → AllByRecursion IsFresh (locked ps j)
locks_fresh [] j = tt
locks_fresh (p ∷ ps) j = (refl, locks_fresh ps j)

module _ (rights : Rights) (s n : ℕ) (t : Tid) (items : Items) (shelf : Shelf) where
  reasons_fresh : (earlier : List Oid) (before : Option Oid) (js : List Item) → AllByRecursion IsFresh (reasons_in rights s n t shelf earlier before js)
  reasons_fresh earlier before [] = tt
  reasons_fresh earlier before (j ∷ js) =
      all_append IsFresh (reasons_of rights s n t shelf earlier before j) (reasons_in rights s n t shelf earlier (Some (item_name j)) js)
      (refl, (refl, (date_fresh shelf.rows j, locks_fresh shelf.prepared j))) (reasons_fresh earlier (Some (item_name j)) js)

  pub vote_fresh : is_old (vote rights s n t items shelf) ≡ false
  vote_fresh =
      first_fresh (reasons rights s n t items shelf)
      (all_append IsFresh (reasons_in rights s n t shelf [] None (reads_in items) ++ reasons_in rights s n t shelf (map item_name (reads_in items)) None (writes_in items))
      (reasons_in rights s n t shelf (map item_name (reads_in items ++ writes_in items)) None (creates_in items))
      (all_append IsFresh (reasons_in rights s n t shelf [] None (reads_in items))
      (reasons_in rights s n t shelf (map item_name (reads_in items)) None (writes_in items))
      (reasons_fresh [] None (reads_in items)) (reasons_fresh (map item_name (reads_in items)) None (writes_in items)))
      (reasons_fresh (map item_name (reads_in items ++ writes_in items)) None (creates_in items)))
