-- What a store says to a message is one of a few things: what holds of each of these holds of what it says.
use Rattle.std.specs.Prelude.{ℕ, Bool, true, false, not, ◌&&◌, ◌||◌, ◌==◌, nat_lt, Option, Some, None, [], ◌∷◌}
use Rattle.std.proofs.Common.{◌≡◌, refl}
use Rattle.std.proofs.lemmas.Bool.{and_left, and_parts, and_right, cond_both, not-false}
use Rattle.fab_base.specs.declared.object.Oid.{Oid}
use Rattle.fab_base.specs.declared.object.Tid.{Tid}
use Rattle.fab_base.specs.declared.message.Answer.TheVariants as answers
use Rattle.fab_base.specs.declared.message.Items.{Items}
use Rattle.fab_base.specs.declared.message.Message.{Message}
use Rattle.fab_base.specs.declared.message.Message.TheVariants as m
use Rattle.fab_base.specs.declared.message.Why.TheVariants as why
use Rattle.fab_base.specs.declared.entry.Entry.TheVariants as e
use Rattle.fab_base.specs.Tids.{is_above}
use Rattle.fab_net.specs.declared.note.Note.TheVariants as note
use Rattle.fab_rights.specs.declared.rights.Rights.{Rights}
use Rattle.fab_rights.specs.Computed.{is_worker, knows, may_fetch}
use Rattle.fab_protocol.specs.declared.said.Said.{Said}
use Rattle.fab_protocol.specs.Stores.{Shelf, boot_of, does, found, is_own, is_prepared, last_of, records, replies, says, silent, vote, voted, votes}
use Rattle.fab_protocol.specs.Tables.{row_of}
use Rattle.fab_protocol.specs.Versions.{Row, name_of}

module _ (rights : Rights) (s n : ℕ) (shelf : Shelf) where
  -- the message is this one, and a worker's own
  pub record Hears (message own : Message) : Type 0 where
    pub is : message ≡ own
    pub worker : is_worker rights n ≡ true
    pub sender : is_own n own ≡ true

  -- a message that it answers, or by which it changes
  abbrev pub is_due : Message → Bool
  is_due (m.Fetch t o) = true
  is_due (m.Prepare t items) = true
  is_due (m.Commit t) = is_prepared t shelf
  is_due (m.Abort t) = is_prepared t shelf
  is_due (m.Boot b) = nat_lt (boot_of shelf n) b
  is_due _ = false

  -- each thing that store s may say to this message of node n
  pub record OfStore (message : Message) (P : Said → Type 0) : Type 0 where
    pub rests : (is_worker rights n && is_own n message && is_due message) ≡ false → P silent
    pub lacks : (t : Tid) (o : Oid) → Hears message (m.Fetch t o) → P (replies n (m.Deny t o why.Missing))
    pub bars : (t : Tid) (o : Oid) → Hears message (m.Fetch t o) → P (replies n (m.Deny t o why.Rights))
    pub shows : (t : Tid) (o : Oid) (row : Row) → Hears message (m.Fetch t o) → row_of name_of shelf.rows o ≡ Some row → P (replies n (m.Object t o row.1 row.2))
    pub too_late : (t : Tid) (items : Items) → Hears message (m.Prepare t items) → P (votes n t (answers.OldTid (last_of shelf n)) None)
    pub votes_on : (t : Tid) (items : Items) → Hears message (m.Prepare t items) → is_above t (last_of shelf n) ≡ true
        → P (votes n t (vote rights s n t items shelf) (Some (voted t items (vote rights s n t items shelf))))
    pub applies : (t : Tid) → Hears message (m.Commit t) → is_prepared t shelf ≡ true → P (records (e.Applied t) (note.Applied t ∷ []))
    pub releases : (t : Tid) → Hears message (m.Abort t) → is_prepared t shelf ≡ true → P (records (e.Released t) [])
    pub boots : (b : ℕ) → Hears message (m.Boot b) → nat_lt (boot_of shelf n) b ≡ true → P (records (e.BootSeen n b) [])

  module _ (P : Said → Type 0) where
    found_one : (message : Message) → OfStore message P → (t : Tid) (o : Oid) → Hears message (m.Fetch t o) → (row : Option Row) → row_of name_of shelf.rows o ≡ row
        → P (found n t o row)
    found_one message each t o h None at = each.lacks t o h
    found_one message each t o h (Some row) at = each.shows t o row h at

    done : (message : Message) → OfStore message P → is_worker rights n ≡ true → is_own n message ≡ true → P (does rights s n message shelf)
    done (m.Fetch t o) each worker own =
        let h : Hears (m.Fetch t o) (m.Fetch t o) = record { is = refl; worker = worker; sender = own } in
        cond_both (not (o.store == s) || not (knows rights o.class)) _ _ P (λ _. each.lacks t o h)
        (λ _. cond_both (not (may_fetch rights n o.class)) _ _ P (λ _. each.bars t o h)
        (λ _. found_one (m.Fetch t o) each t o h (row_of name_of shelf.rows o) refl))
    done (m.Prepare t items) each worker own =
        let h : Hears (m.Prepare t items) (m.Prepare t items) = record { is = refl; worker = worker; sender = own } in
        cond_both (not (is_above t (last_of shelf n))) _ _ P (λ _. each.too_late t items h)
        (λ above. each.votes_on t items h (not-false (is_above t (last_of shelf n)) above))
    done (m.Commit t) each worker own =
        cond_both (is_prepared t shelf) _ silent P (λ there. each.applies t (record { is = refl; worker = worker; sender = own }) there)
        (λ none. each.rests (and_right _ _ none))
    done (m.Abort t) each worker own =
        cond_both (is_prepared t shelf) _ silent P (λ there. each.releases t (record { is = refl; worker = worker; sender = own }) there)
        (λ none. each.rests (and_right _ _ none))
    done (m.Boot b) each worker own =
        cond_both (nat_lt (boot_of shelf n) b) _ silent P (λ later. each.boots b (record { is = refl; worker = worker; sender = own }) later)
        (λ none. each.rests (and_right _ _ none))
    done message each worker own = each.rests (and_right (is_worker rights n && is_own n message) (is_due message) refl)

    pub answered : (message : Message) → OfStore message P → P (says rights s n message shelf)
    answered message each =
        cond_both (is_worker rights n && is_own n message) (does rights s n message shelf) silent P
        (λ both. let q = and_parts (is_worker rights n) (is_own n message) both in done message each q.0 q.1)
        (λ strange. each.rests (and_left (is_worker rights n && is_own n message) (is_due message) strange))
