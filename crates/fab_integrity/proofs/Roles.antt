-- Workers and stores: a node's number is below 64, no store is a worker, and what a store hears it answers as a store.
use Rattle.std.proofs.Common.{◌≡◌, ℕ, ◌<◌, ◌^◌, Bool, true, false, IsTrue, Option, Some, None, if◌then◌else◌, inl, inr, refl, ap, arith}
use Rattle.std.specs.List.{list_all, range_with_len}
use Rattle.std.proofs.lemmas.Bool.{both_ways, false_from_ne_true, or_cases}
use Rattle.fab_base.specs.declared.message.Message.{Message}
use Rattle.fab_rights.specs.declared.rights.Rights.{Rights}
use Rattle.fab_rights.specs.Computed.{is_node, is_store, is_worker, nodes_in}
use Rattle.fab_rights.proofs.Bits.{bit_below, has_bit_exact}
use Rattle.fab_protocol.specs.Stores as stores
use Rattle.fab_world.specs.Machine.{Setting, World, hears, kept, of_store, parts, shelf}
use Rattle.fab_world.specs.Serial.{IsSetting}
use Rattle.fab_world.specs.Workers.{takes}
use Rattle.fab_integrity.proofs.Lists.{all_in, filter_in, in_range}

module _ (r : Rights) (workers : r.workers < 2 ^ 64) (stores : r.stores < 2 ^ 64) where
  pub node_below : (n : ℕ) → is_node r n ≡ true → n < 64
  node_below n is = elim (or_cases (is_worker r n) (is_store r n) is) [
    | inl worker ↦ bit_below r.workers n workers ((has_bit_exact r.workers n).0 worker)
    | inr store ↦ bit_below r.stores n stores ((has_bit_exact r.stores n).0 store)
  ]

  -- what holds of all nodes holds of each
  pub at_node : (f : ℕ → Bool) → list_all f (nodes_in r) ≡ true → (n : ℕ) → is_node r n ≡ true → f n ≡ true
  at_node f all n is =
      let low = node_below n is in
      all_in f n (nodes_in r) all (filter_in (is_node r) n (range_with_len 0 64) (in_range 0 64 n (omega arith) (omega (arith, low))) is)

module _ (S : Setting) (given : IsSetting S) where
  pub no_worker : (s : ℕ) → IsTrue (is_store S.rights s) → is_worker S.rights s ≡ false
  no_worker s is = false_from_ne_true (is_worker S.rights s) (λ w. both_ways (is_store S.rights s) (given.apart s w) is)

  pub heard_by_store : (w : World) (s a : ℕ) → IsTrue (is_store S.rights s) → (heard : Option Message)
      → hears S w a s heard ≡ of_store S (w.node s).attempt (stores.hears S.rights s a heard (shelf S w s))
  heard_by_store w s a is None = refl
  heard_by_store w s a is (Some message) =
      ap (λ b. if b then takes S.rights S.cache s (kept S w s) a message (w.node s).attempt (parts S w s)
      else of_store S (w.node s).attempt (stores.says S.rights s a message (shelf S w s))) (no_worker s is)
