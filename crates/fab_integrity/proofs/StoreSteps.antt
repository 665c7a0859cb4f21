-- A store outside D hears a message, or asks what became of what it has prepared.
use Rattle.std.proofs.Common.{◌≡◌, ℕ, ◌<◌, ◌≤◌, Bool, ◌&&◌, IsTrue}
use Rattle.std.proofs.Common.{List, [], ◌∷◌, length, Option, Some, None}
use Rattle.std.proofs.Common.{refl, sym, ap, ◌∙◌, subst}
use Rattle.std.proofs.lemmas.Bool.{and_parts, eqb-true}
use Rattle.fab_base.specs.declared.message.Message.{Message}
use Rattle.fab_base.specs.declared.message.Message.TheVariants as m
use Rattle.fab_base.specs.declared.entry.Entry.TheVariants as e
use Rattle.fab_base.specs.FieldSpelling.{IsTid, sent_version}
use Rattle.fab_base.specs.MessageSpelling.{IsBody, spelled}
use Rattle.fab_net.specs.declared.note.Commit.{Commit}
use Rattle.fab_net.specs.declared.note.Note.TheVariants as note
use Rattle.fab_rights.specs.Computed.{is_worker}
use Rattle.fab_protocol.specs.declared.said.Said.{Said}
use Rattle.fab_protocol.specs.Stores as stores
use Rattle.fab_protocol.specs.Stores.{Shelf, Prepared}
use Rattle.fab_protocol.specs.Stores.{silent, records, is_prepared, is_own, asked, does, asks}
use Rattle.fab_protocol.proofs.Records.{worker_below}
use Rattle.fab_world.specs.Machine.{Setting, World, shelf, of_store}
use Rattle.fab_world.specs.Serial.{IsSetting, Excludes}
use Rattle.fab_integrity.proofs.Invariant.{In, Standing, Decided, State}
use Rattle.fab_integrity.proofs.Invariant.{Fits, IsDead, Says, IsWorker, IsStore, Hears, standing, Inv, Before}
use Rattle.fab_integrity.proofs.Lists.{in_map}
use Rattle.fab_integrity.proofs.Readings.{counts_of, spelled_so, read_back}
use Rattle.fab_integrity.proofs.Worlds.{Lands}
use Rattle.fab_integrity.proofs.Tids.{early_spelled}
use Rattle.fab_integrity.proofs.StoreEvents.{fits_here, by_test, answers_alone, quiet, keeps_fetch, keeps_asked, keeps_abort, keeps_boot}
use Rattle.fab_integrity.proofs.StoreCommits.{keeps_commit}

module _ (S : Setting) (D ex : ℕ → Bool) (given : IsSetting S) (w v : World) (cs : List Commit) (C : State) (s : ℕ)
    (inv : Inv S D ex w cs C) (me : IsStore S D ex s) where
  abbrev now : Shelf
  now = shelf S w s

  abbrev at : ℕ → Standing
  at n = standing S D ex w cs n

  abbrev Keeps : Type 0
  Keeps = Inv S D ex v cs C

  abbrev Does : Said → Type 0
  Does said = Lands s (of_store S (w.node s).attempt said) w v

  does_keeps : Excludes S D ex → length cs ≤ 4000000000 → (a : ℕ) → IsTrue (is_worker S.rights a) → (message : Message) → IsTrue (is_own a message)
      → IsBody sent_version message → (IsWorker S D ex a → Says S a s (at a) message)
      → (IsWorker S D ex a → (b : ℕ) → message ≡ m.Boot b → Before S D ex a s (at a) now [] b) → Does (does S.rights s a message now) → Keeps
  does_keeps hyp few a from (m.Fetch t o) own body said front lands = keeps_fetch S D ex given w v cs C s inv me few a t o body.0 body.1 lands
  does_keeps hyp few a from (m.Prepare t items) own body said front lands =
      let same : t.worker ≡ a = eqb-true t.worker a own in
      keeps_asked S D ex given w v cs C s inv me t items body.0 (counts_of (m.Prepare t items) body) (subst (λ k. IsTrue (is_worker S.rights k)) (sym same) from)
      (λ worker. subst (λ k. Fits S k s (at k) t items) (sym same) (said (subst (λ k. IsWorker S D ex k) same worker)))
      (subst (λ k. Does (asked S.rights s k t items now)) (sym same) lands)
  does_keeps hyp few a from (m.Commit t) own body said front lands =
      let same : t.worker ≡ a = eqb-true t.worker a own in
      by_test S D ex given w v cs C s inv me (is_prepared t now) (records (e.Applied t) (note.Applied t ∷ [])) silent
      (λ prepared. keeps_commit S D ex given w v cs C s inv me hyp t
      (λ worker. subst (λ k. Decided (at k) t) (sym same) (said (subst (λ k. IsWorker S D ex k) same worker)))
      prepared (note.Applied t ∷ []))
      (λ none. quiet S D ex given w v cs C s inv me) lands
  does_keeps hyp few a from (m.Abort t) own body said front lands =
      let same : t.worker ≡ a = eqb-true t.worker a own in
      by_test S D ex given w v cs C s inv me (is_prepared t now) (records (e.Released t) []) silent
      (λ prepared. keeps_abort S D ex given w v cs C s inv me t
      (λ worker. subst (λ k. IsDead S k (at k) t) (sym same) (said (subst (λ k. IsWorker S D ex k) same worker))) prepared)
      (λ none. quiet S D ex given w v cs C s inv me) lands
  does_keeps hyp few a from (m.Boot b) own body said front lands = keeps_boot S D ex given w v cs C s inv me a b from said (λ worker. front worker b refl) lands
  does_keeps hyp few a from (m.Object t o version x) own body said front lands = quiet S D ex given w v cs C s inv me lands
  does_keeps hyp few a from (m.Deny t o reason) own body said front lands = quiet S D ex given w v cs C s inv me lands
  does_keeps hyp few a from (m.Vote t answer) own body said front lands = quiet S D ex given w v cs C s inv me lands
  does_keeps hyp few a from (m.Inquire t) own body said front lands = quiet S D ex given w v cs C s inv me lands

  hears_keeps : Excludes S D ex → length cs ≤ 4000000000 → (a : ℕ) (heard : Option Message)
      → ((message : Message) → heard ≡ Some message → (bytes : List ℕ) × In bytes (w.queue a s) × (S.read bytes ≡ Some message))
      → (IsWorker S D ex a → (b : ℕ) → heard ≡ Some (m.Boot b) → Before S D ex a s (at a) now [] b)
      → Does (stores.hears S.rights s a heard now) → Keeps
  hears_keeps hyp few a None source front lands = quiet S D ex given w v cs C s inv me lands
  hears_keeps hyp few a (Some message) source front lands =
      by_test S D ex given w v cs C s inv me (is_worker S.rights a && is_own a message) (does S.rights s a message now) silent
      (λ both.
      let parts = and_parts (is_worker S.rights a) (is_own a message) both in
      let from = source message refl in
      let read = spelled_so S given from.0 message from.2 in
      does_keeps hyp few a parts.0 message parts.1 read.body
      (λ worker. let p = inv.pair a s worker me in p.says from.0 message from.1 from.2)
      (λ worker b same. front worker b (ap (λ x. Some x) same)))
      (λ neither. quiet S D ex given w v cs C s inv me) lands

  -- ---- it asks

  inquire_heard : (n : ℕ) → IsWorker S D ex n → (p : Prepared) → In p now.prepared → p.0.worker ≡ n → (read : Message)
      → S.read (spelled (m.Inquire p.0)) ≡ Some read → Hears S D ex n s (at n) now C read
  inquire_heard n worker p h same read g =
      let fits = fits_here S D ex given w v cs C s inv me n worker p.0 p.1 h same in
      let k = inv.worker n worker in
      let node : n < 64 = worker_below S.rights n given.workers worker.kind in
      let tid : IsTid p.0 = early_spelled n (at n) p.0 node same fits.early k.low fits.numbered in
      subst (λ x. Hears S D ex n s (at n) now C x) (sym (read_back S given (m.Inquire p.0) read tid g))
      (record { early = fits.early; part = fits.part; has = λ o. record { items = p.1; listed = h } })

  asks_keeps : Does (asks now) → Keeps
  asks_keeps lands =
      answers_alone S D ex given w v cs C s inv me (asks now) refl lands
      (λ n worker sent read h g.
      let f = in_map (λ (p : Prepared). (p.0.worker, m.Inquire p.0)) (n, sent) now.prepared h in
      inquire_heard n worker f.0 f.1 (sym (ap (λ (x : ℕ × Message). x.0) f.2)) read
      (ap (λ (x : ℕ × Message). S.read (spelled x.1)) (sym f.2) ∙ g))

module _ (S : Setting) (D ex : ℕ → Bool) (given : IsSetting S) (hyp : Excludes S D ex) where
  -- a store outside D hears a message, or bytes that are none, of any node
  pub store_hears : (w v : World) (cs : List Commit) (C : State) (s a : ℕ) (heard : Option Message) → length cs ≤ 4000000000
      → Inv S D ex w cs C → IsStore S D ex s
      → ((message : Message) → heard ≡ Some message → (bytes : List ℕ) × In bytes (w.queue a s) × (S.read bytes ≡ Some message))
      → (IsWorker S D ex a → (b : ℕ) → heard ≡ Some (m.Boot b) → Before S D ex a s (standing S D ex w cs a) (shelf S w s) [] b)
      → Lands s (of_store S (w.node s).attempt (stores.hears S.rights s a heard (shelf S w s))) w v
      → Inv S D ex v cs C
  store_hears w v cs C s a heard few inv me source front lands = hears_keeps S D ex given w v cs C s inv me hyp few a heard source front lands

  -- a store outside D asks what became of what it has prepared
  pub store_asks : (w v : World) (cs : List Commit) (C : State) (s : ℕ) → Inv S D ex w cs C → IsStore S D ex s
      → Lands s (of_store S (w.node s).attempt (asks (shelf S w s))) w v → Inv S D ex v cs C
  store_asks w v cs C s inv me lands = asks_keeps S D ex given w v cs C s inv me lands
