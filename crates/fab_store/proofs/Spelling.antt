-- What a store says has a spelling, and its record is one that may be kept.
use Rattle.std.proofs.Common.{◌≡◌, ◌≤◌, ℕ, length, Option, Some, None, refl, subst, Result, Ok, Err, IfOk}
use Rattle.std.specs.List.{AllByRecursion}
use Rattle.fab_base.specs.declared.object.Oid.{Oid}
use Rattle.fab_base.specs.declared.object.Tid.{Tid}
use Rattle.fab_base.specs.declared.message.Items.{Items}
use Rattle.fab_base.specs.declared.message.Answer.{Answer}
use Rattle.fab_base.specs.declared.message.Answer.TheVariants as answers
use Rattle.fab_base.specs.declared.message.Message.{Message}
use Rattle.fab_base.specs.declared.message.Message.TheVariants as m
use Rattle.fab_base.specs.declared.message.Why.TheVariants as why
use Rattle.fab_base.specs.declared.entry.Entry.{Entry}
use Rattle.fab_base.specs.FieldSpelling.{KeepsItems}
use Rattle.fab_base.specs.MessageSpelling.{KeepsCounts}
use Rattle.fab_base.proofs.Lists.{all_always, all_map}
use Rattle.fab_rights.specs.declared.rights.Rights.{Rights}
use Rattle.fab_protocol.specs.Versions.{Row, name_of}
use Rattle.fab_protocol.specs.Stores.{Prepared, Shelf, asks, silent, replies, voted, vote, says}
use Rattle.fab_protocol.specs.Shelves.{CanKeep}
use Rattle.fab_protocol.proofs.StoreActs.{answered}
use Rattle.fab_protocol.proofs.TableLaws.{row_of_all}
use Rattle.fab_store.specs.Stock.{CanKeepSaid, CanSpell, KeepsEntrySaid}

pub silent_spells : CanSpell silent
silent_spells = record { entry = tt; sends = tt }

denies : (n : ℕ) (t : Tid) (o : Oid) (reason : why.the_data) → CanSpell (replies n (m.Deny t o reason))
denies n t o reason = record { entry = tt; sends = (tt, tt) }

voted_keeps : (t : Tid) (items : Items) (answer : Answer) → KeepsItems items → KeepsEntrySaid (Some (voted t items answer))
voted_keeps t items answers.Yes counts = counts
voted_keeps t items (answers.Stale o version) counts = tt
voted_keeps t items (answers.Locked u) counts = tt
voted_keeps t items (answers.Rights o) counts = tt
voted_keeps t items (answers.OldTid u) counts = tt
voted_keeps t items (answers.IllFormed o) counts = tt
voted_keeps t items (answers.Exists o) counts = tt

module _ (rights : Rights) (s n : ℕ) (shelf : Shelf) (few : AllByRecursion (λ row. length row.2.fields ≤ 16) shelf.rows) where
  pub says_spells : (message : Message) → KeepsCounts message → CanSpell (says rights s n message shelf)
  says_spells message counts =
      answered rights s n shelf CanSpell message
      (record {
        rests = λ h. silent_spells;
        lacks = λ t o h. denies n t o why.Missing;
        bars = λ t o h. denies n t o why.Rights;
        -- an object that is there has few fields
        shows = λ t o row h there. record { entry = tt; sends = (row_of_all name_of (λ (r : Row). length r.2.fields ≤ 16) shelf.rows o row few there, tt) };
        too_late = λ t items h. record { entry = tt; sends = (tt, tt) };
        votes_on = λ t items h above.
            record { entry = voted_keeps t items (vote rights s n t items shelf) (subst KeepsCounts h.is counts); sends = (tt, tt) };
        applies = λ t h there. record { entry = tt; sends = tt };
        releases = λ t h there. record { entry = tt; sends = tt };
        boots = λ b h later. record { entry = tt; sends = tt };
      })

-- a record that may be kept, if there is one
pub kept_said : (rights : Rights) (s : ℕ) (entry : Option Entry) (shelf : Shelf) → ((kept : Entry) → entry ≡ Some kept → CanKeep rights s kept shelf)
    → CanKeepSaid rights s entry shelf
kept_said rights s None shelf can = tt
kept_said rights s (Some kept) shelf can = can kept refl

pub if_ok_along : {T E : Type 0} (r : Result T E) (P Q : T → Type 0) → ((x : T) → P x → Q x) → IfOk r P → IfOk r Q
if_ok_along (Ok x) P Q along p = along x p
if_ok_along (Err e) P Q along p = tt

pub asks_spells : (shelf : Shelf) → CanSpell (asks shelf)
asks_spells shelf = record {
  entry = tt;
  sends = all_map (λ (x : ℕ × Message). KeepsCounts x.1) (λ (p : Prepared). (p.0.worker, m.Inquire p.0)) shelf.prepared
      (all_always (λ (p : Prepared). KeepsCounts (m.Inquire p.0)) (λ p. tt) shelf.prepared);
}
