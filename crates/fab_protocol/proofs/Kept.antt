-- What a store records is what its rules let it keep.
use Rattle.std.proofs.Common.{◌≡◌, ℕ, IsTrue}
use Rattle.std.proofs.Common.{Some, None, unwrap_or, refl, ap, subst}
use Rattle.std.proofs.lemmas.Bool.{eqb-true}
use Rattle.fab_base.specs.declared.object.Tid.{Tid}
use Rattle.fab_base.specs.declared.message.Items.{Items}
use Rattle.fab_base.specs.declared.message.Answer.{Answer}
use Rattle.fab_base.specs.declared.message.Answer.TheVariants.{Yes}
use Rattle.fab_base.specs.declared.message.Message.{Message}
use Rattle.fab_base.specs.declared.entry.Entry.{Entry}
use Rattle.fab_base.specs.declared.entry.Entry.TheVariants as e
use Rattle.fab_base.specs.FieldSpelling.{KeepsItems}
use Rattle.fab_base.specs.MessageSpelling.{KeepsCounts}
use Rattle.fab_base.specs.Tids.{is_above}
use Rattle.fab_rights.specs.declared.rights.Rights.{Rights}
use Rattle.fab_rights.specs.Computed.{is_worker}
use Rattle.fab_protocol.specs.Stores.{Shelf, last_of}
use Rattle.fab_protocol.specs.Stores.{voted, vote, says}
use Rattle.fab_protocol.specs.Shelves.{CanKeep}
use Rattle.fab_protocol.proofs.StoreActs.{answered}

none : {A : Type 0} (entry : Entry) → None ≡ Some entry → A
none entry h = let no : None ≡ Some entry = h in cc

module _ (rights : Rights) (s : ℕ) (shelf : Shelf) (entry : Entry) where
  kept : (written : Entry) → Some written ≡ Some entry → CanKeep rights s written shelf → CanKeep rights s entry shelf
  kept written is can = subst (λ x. CanKeep rights s x shelf) (ap (λ o. unwrap_or o written) is) can

  voted_can_keep : (t : Tid) (items : Items) (answer : Answer) → IsTrue (is_worker rights t.worker)
      → IsTrue (is_above t (last_of shelf t.worker)) → KeepsItems items → vote rights s t.worker t items shelf ≡ answer
      → CanKeep rights s (voted t items answer) shelf
  voted_can_keep t items Yes worker above counts is_yes = (worker, above, counts, is_yes)
  voted_can_keep t items _ worker above counts other = (worker, above)

  asked_can_keep : (n : ℕ) (t : Tid) (items : Items) → t.worker ≡ n → IsTrue (is_worker rights n) → IsTrue (is_above t (last_of shelf n)) → KeepsItems items
      → Some (voted t items (vote rights s n t items shelf)) ≡ Some entry → CanKeep rights s entry shelf
  asked_can_keep n t items own =
      subst (λ k. IsTrue (is_worker rights k) → IsTrue (is_above t (last_of shelf k)) → KeepsItems items
      → Some (voted t items (vote rights s k t items shelf)) ≡ Some entry → CanKeep rights s entry shelf) own
      (λ worker above counts is. kept _ is (voted_can_keep t items (vote rights s t.worker t items shelf) worker above counts refl))

  -- of every message whose counts are in range
  pub says_can_keep : (n : ℕ) (message : Message) → KeepsCounts message
      → (says rights s n message shelf).entry ≡ Some entry → CanKeep rights s entry shelf
  says_can_keep n message counts = answered rights s n shelf (λ said. said.entry ≡ Some entry → CanKeep rights s entry shelf) message (record {
    rests = λ h. none entry;
    lacks = λ t o h. none entry;
    bars = λ t o h. none entry;
    shows = λ t o row h there. none entry;
    too_late = λ t items h. none entry;
    votes_on = λ t items h above. asked_can_keep n t items (eqb-true t.worker n h.sender) h.worker above (subst KeepsCounts h.is counts);
    applies = λ t h there is. kept (e.Applied t) is there;
    releases = λ t h there is. kept (e.Released t) is there;
    boots = λ b h later is. kept (e.BootSeen n b) is (h.worker, later);
  })
