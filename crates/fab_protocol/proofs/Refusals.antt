-- What a store does with a sender that is no worker, and at a Prepare that is refused.
use Rattle.std.proofs.Common.{◌≡◌, ℕ, not, ◌&&◌, ◌==◌, if◌then◌else◌, IsTrue, IsFalse}
use Rattle.std.proofs.Common.{length, Option, Some, None, refl, ap, ◌∙◌}
use Rattle.std.proofs.lemmas.Bool.{and_from, and_right, eq-eqb}
use Rattle.std.proofs.lemmas.List.{length-set}
use Rattle.fab_base.specs.declared.object.Tid.{Tid}
use Rattle.fab_base.specs.declared.message.Items.{Items}
use Rattle.fab_base.specs.declared.message.Answer.{Answer}
use Rattle.fab_base.specs.declared.message.Answer.TheVariants.{Yes, Stale, Locked, Rights as NoRights, OldTid, IllFormed, Exists}
use Rattle.fab_base.specs.declared.message.Message.{Message}
use Rattle.fab_base.specs.declared.message.Message.TheVariants as m
use Rattle.fab_base.specs.declared.entry.Entry.{Entry}
use Rattle.fab_base.specs.declared.entry.Entry.TheVariants as e
use Rattle.fab_base.specs.Tids.{is_above}
use Rattle.fab_rights.specs.declared.rights.Rights.{Rights}
use Rattle.fab_rights.specs.Computed.{is_worker}
use Rattle.fab_protocol.specs.Stores.{Shelf, silent, votes, voted, vote, is_own, does, says, hears, keeps, sender_in, last_of}
use Rattle.fab_protocol.proofs.Senders.{sender_other}

-- ---- what is dropped

pub strangers_hear_nothing : (rights : Rights) (s n : ℕ) (heard : Option Message) (shelf : Shelf) → IsFalse (is_worker rights n)
    → hears rights s n heard shelf ≡ silent
strangers_hear_nothing rights s n None shelf h = refl
strangers_hear_nothing rights s n (Some message) shelf h = ap (λ b. if b && is_own n message then does rights s n message shelf else silent) h

pub strange_messages_drop : (rights : Rights) (s n : ℕ) (message : Message) (shelf : Shelf) → IsFalse (is_own n message)
    → says rights s n message shelf ≡ silent
strange_messages_drop rights s n message shelf h =
    ap (λ b. if b then does rights s n message shelf else silent) (and_right (is_worker rights n) (is_own n message) h)

-- ---- a Prepare that is refused

voted_refused : (t : Tid) (items : Items) (answer : Answer) → (answer ≡ Yes → ⊥) → voted t items answer ≡ e.Refused t
voted_refused t items Yes h = absurd (h refl)
voted_refused t items (Stale o version) h = refl
voted_refused t items (Locked u) h = refl
voted_refused t items (NoRights o) h = refl
voted_refused t items (OldTid u) h = refl
voted_refused t items (IllFormed o) h = refl
voted_refused t items (Exists o) h = refl

itself : (n : ℕ) → IsTrue (n == n)
itself n = eq-eqb n n refl

module _ (rights : Rights) (s : ℕ) (shelf : Shelf) (t : Tid) (items : Items) (worker : IsTrue (is_worker rights t.worker)) where
  abbrev answer : Answer
  answer = vote rights s t.worker t items shelf

  prepares : says rights s t.worker (m.Prepare t items) shelf ≡ does rights s t.worker (m.Prepare t items) shelf
  prepares =
      ap (λ b. if b then does rights s t.worker (m.Prepare t items) shelf else silent)
      (and_from (is_worker rights t.worker) (t.worker == t.worker) worker (itself t.worker))

  pub new_is_voted : IsTrue (is_above t (last_of shelf t.worker))
      → says rights s t.worker (m.Prepare t items) shelf ≡ votes t.worker t answer (Some (voted t items answer))
  new_is_voted above =
      prepares
      ∙ ap (λ b. if not b then votes t.worker t (OldTid (last_of shelf t.worker)) None else votes t.worker t answer (Some (voted t items answer))) above

  pub new_is_refused : IsTrue (is_above t (last_of shelf t.worker)) → (answer ≡ Yes → ⊥)
      → says rights s t.worker (m.Prepare t items) shelf ≡ votes t.worker t answer (Some (e.Refused t))
  new_is_refused above refused =
      new_is_voted above ∙ ap (λ (entry : Entry). votes t.worker t answer (Some entry)) (voted_refused t items answer refused)

  pub old_is_told : IsFalse (is_above t (last_of shelf t.worker))
      → says rights s t.worker (m.Prepare t items) shelf ≡ votes t.worker t (OldTid (last_of shelf t.worker)) None
  old_is_told old =
      prepares
      ∙ ap (λ b. if not b then votes t.worker t (OldTid (last_of shelf t.worker)) None else votes t.worker t answer (Some (voted t items answer))) old

-- ---- behind its record

pub others_stay : (shelf : Shelf) (t : Tid) (n : ℕ) → (n ≡ t.worker → ⊥)
    → sender_in (keeps (e.Refused t) shelf).senders n ≡ sender_in shelf.senders n
others_stay shelf t n other = sender_other shelf.senders t.worker n (record (sender_in shelf.senders t.worker) { last = t }) other

pub as_many_stay : (shelf : Shelf) (t : Tid) → length (keeps (e.Refused t) shelf).senders ≡ length shelf.senders
as_many_stay shelf t = length-set shelf.senders t.worker (record (sender_in shelf.senders t.worker) { last = t })
