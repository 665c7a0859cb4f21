-- The public replay over the entries of one event: what it has behind them, what it says at them, and what has changed.
use Rattle.std.proofs.Common.{◌≡◌, ℕ, List, [], ◌∷◌, ◌++◌, map, Bool, true, false, not, cond, refl, sym, ap, ◌∙◌}
use Rattle.std.specs.Prelude.{◌==◌}
use Rattle.std.specs.List.{filter, AllByRecursion}
use Rattle.std.proofs.lemmas.Bool.{eq-eqb, ne_eqb}
use Rattle.std.proofs.lemmas.List.{append_assoc, map-append}
use Rattle.std.proofs.lemmas.List.Elements.{filter-append}
use Rattle.fab_base.specs.declared.message.Message.{Message}
use Rattle.fab_base.specs.MessageSpelling.{spelled}
use Rattle.fab_protocol.specs.Versions.{Rows}
use Rattle.fab_release.specs.declared.release.Release.{Release}
use Rattle.fab_release.specs.declared.release.Released.{Released}
use Rattle.fab_release.specs.Sights.{Sight, Public}
use Rattle.fab_release.specs.Record.{said}
use Rattle.fab_release.specs.Replay.{Rebuilt, WorkerSeen, StoreSeen, next, sends, node_in, sent_at, sent_behind}
use Rattle.fab_integrity.proofs.Transport.{bytes_for}

module _ (sight : Sight) (P : Public) where
  -- behind these entries
  abbrev pub after : Rebuilt → List Release → Rebuilt
  after k [] = k
  after k (r ∷ rs) = after (next sight P r k) rs

  -- what is said at them, in order
  abbrev pub tells : Rebuilt → List Release → List (ℕ × Message)
  tells k [] = []
  tells k (r ∷ rs) = sends sight P r k ++ tells (next sight P r k) rs

  pub after_append : (k : Rebuilt) (xs ys : List Release) → after k (xs ++ ys) ≡ after (after k xs) ys
  after_append k [] ys = refl
  after_append k (x ∷ xs) ys = after_append (next sight P x k) xs ys

  pub tells_append : (k : Rebuilt) (xs ys : List Release) → tells k (xs ++ ys) ≡ tells k xs ++ tells (after k xs) ys
  tells_append k [] ys = refl
  tells_append k (x ∷ xs) ys =
      ap (λ zs. sends sight P x k ++ zs) (tells_append (next sight P x k) xs ys)
      ∙ sym (append_assoc (sends sight P x k) (tells (next sight P x k) xs) (tells (after (next sight P x k) xs) ys))

  -- the same behind entries of the record
  abbrev pub behind : Rebuilt → List Released → Rebuilt
  behind k [] = k
  behind k (x ∷ xs) = behind (next sight P x.release k) xs

  pub behind_append : (k : Rebuilt) (xs ys : List Released) → behind k (xs ++ ys) ≡ behind (behind k xs) ys
  behind_append k [] ys = refl
  behind_append k (x ∷ xs) ys = behind_append (next sight P x.release k) xs ys

  pub sent_append : (k : Rebuilt) (xs ys : List Released) (n d : ℕ)
      → sent_behind sight P k (xs ++ ys) n d ≡ sent_behind sight P k xs n d ++ sent_behind sight P (behind k xs) ys n d
  sent_append k [] ys n d = refl
  sent_append k (x ∷ xs) ys n d =
      ap (λ zs. sent_at sight P x k n d ++ zs) (sent_append (next sight P x.release k) xs ys n d)
      ∙ sym (append_assoc (sent_at sight P x k n d) (sent_behind sight P (next sight P x.release k) xs n d) (sent_behind sight P (behind (next sight P x.release k) xs) ys n d))

  pub behind_said : (k : Rebuilt) (quiet : Bool) (rs : List Release) → behind k (said sight quiet rs) ≡ after k rs
  behind_said k quiet [] = refl
  behind_said k quiet (r ∷ rs) = behind_said (next sight P r k) quiet rs

  -- nothing comes of what is quiet
  pub sent_quiet : (k : Rebuilt) (rs : List Release) (n d : ℕ) → sent_behind sight P k (said sight true rs) n d ≡ []
  sent_quiet k [] n d = refl
  sent_quiet k (r ∷ rs) n d = sent_quiet (next sight P r k) rs n d

  -- each of these speaks of this node
  abbrev pub AreOf : ℕ → List Release → Type 0
  AreOf n rs = AllByRecursion (λ r. node_in sight P r ≡ n) rs

  -- of what is said aloud by one node, all that goes to d
  pub sent_aloud : (k : Rebuilt) (rs : List Release) (n d : ℕ) → AreOf n rs → sent_behind sight P k (said sight false rs) n d ≡ bytes_for d (tells k rs)
  sent_aloud k [] n d h = refl
  sent_aloud k (r ∷ rs) n d h =
      ap (λ b. cond (not b) [] (bytes_for d (sends sight P r k)) ++ sent_behind sight P (next sight P r k) (said sight false rs) n d) (eq-eqb (node_in sight P r) n h.0)
      ∙ ap (λ zs. bytes_for d (sends sight P r k) ++ zs) (sent_aloud (next sight P r k) rs n d h.1)
      ∙ sym (ap (map (λ (y : ℕ × Message). spelled y.1)) (filter-append (λ (y : ℕ × Message). y.0 == d) (sends sight P r k) (tells (next sight P r k) rs))
      ∙ map-append (λ (y : ℕ × Message). spelled y.1) (filter (λ (y : ℕ × Message). y.0 == d) (sends sight P r k)) (filter (λ (y : ℕ × Message). y.0 == d) (tells (next sight P r k) rs)))

  -- and nothing of another node's
  pub sent_apart : (k : Rebuilt) (rs : List Release) (m n d : ℕ) → (m ≡ n → ⊥) → AreOf m rs → sent_behind sight P k (said sight false rs) n d ≡ []
  sent_apart k [] m n d apart h = refl
  sent_apart k (r ∷ rs) m n d apart h =
      ap (λ b. cond (not b) [] (bytes_for d (sends sight P r k)) ++ sent_behind sight P (next sight P r k) (said sight false rs) n d)
      (ne_eqb (node_in sight P r) n (λ e. apart (sym h.0 ∙ e)))
      ∙ sent_apart (next sight P r k) rs m n d apart h.1

-- ---- what has changed of a replay

-- at one worker, and of the table
pub record AtWorker (k after : Rebuilt) (n : ℕ) (v : WorkerSeen) (table : Rows) : Type 0 where
  pub worker : after.worker n ≡ v
  pub others : (m : ℕ) → (m ≡ n → ⊥) → after.worker m ≡ k.worker m
  pub store : after.store ≡ k.store
  pub tabled : after.table ≡ table

-- at one store, and of the table
pub record AtStore (k after : Rebuilt) (s : ℕ) (x : StoreSeen) (table : Rows) : Type 0 where
  pub worker : after.worker ≡ k.worker
  pub store : after.store s ≡ x
  pub others : (z : ℕ) → (z ≡ s → ⊥) → after.store z ≡ k.store z
  pub tabled : after.table ≡ table

pub at_worker_refl : (k : Rebuilt) (n : ℕ) → AtWorker k k n (k.worker n) k.table
at_worker_refl k n = record { worker = refl; others = λ m ne. refl; store = refl; tabled = refl }

pub at_store_refl : (k : Rebuilt) (s : ℕ) → AtStore k k s (k.store s) k.table
at_store_refl k s = record { worker = refl; store = refl; others = λ z ne. refl; tabled = refl }
