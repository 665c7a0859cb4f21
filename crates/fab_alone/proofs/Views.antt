-- What a worker and the stores have behind an act: the record, the attempt, and all that is sent waits, since every node is up.
use Rattle.std.proofs.Common.{◌≡◌, inl, inr, ℕ, List, [], ◌++◌, map, true, not, ◌&&◌, ◌==◌, if◌then◌else◌}
use Rattle.std.proofs.Common.{sym, ap, ◌∙◌, subst}
use Rattle.std.specs.List.{filter}
use Rattle.std.proofs.lemmas.Bool.{and_from, not_from_false}
use Rattle.fab_rights.specs.Computed.{is_node}
use Rattle.fab_protocol.specs.Stores.{keeps_said, shelf_of}
use Rattle.fab_world.specs.Machine.{Setting, World, Node, acted, bytes_to, kept, lands, shelf}
use Rattle.fab_world.specs.Workers.{Act, kept_of}
use Rattle.fab_integrity.proofs.Lasting.{kept_behind, keeps_behind, shelf_more}
use Rattle.fab_integrity.proofs.Transport.{bytes_for, mutes, out_of, out_to, queue_behind, queue_beside}
use Rattle.fab_integrity.proofs.Worlds.{at_other, at_same}
use Rattle.std.proofs.lemmas.Bool.{cases_eq}
use Rattle.fab_ended.specs.Silence.{NoneIsHostile}

module _ (S : Setting) (honest : NoneIsHostile S) (u : World) (up : (x : ℕ) → (u.node x).up ≡ true) (n : ℕ) (act : Act) where
  abbrev v : World
  v = lands S u n act

  muted_up : (x : ℕ) → ((mutes S u n act).node x).up ≡ true
  muted_up x = elim (cases_eq x n) [
    | inl e ↦
        subst (λ z. ((mutes S u n act).node z).up ≡ true) (sym e)
        (ap (λ (y : Node). y.up) (at_same u.node n (acted S act (u.node n))) ∙ up n)
    | inr ne ↦ ap (λ (y : Node). y.up) (at_other u.node n (acted S act (u.node n)) x ne) ∙ up x
  ]

  -- every node stays up
  pub landed_up : (x : ℕ) → (v.node x).up ≡ true
  landed_up x = muted_up x

  pub landed_other : (x : ℕ) → (x ≡ n → ⊥) → v.node x ≡ u.node x
  landed_other x ne = at_other u.node n (acted S act (u.node n)) x ne

  pub landed_failed : (x : ℕ) → (v.node x).failed ≡ (u.node x).failed
  landed_failed x = elim (cases_eq x n) [
    | inl e ↦
        subst (λ z. (v.node z).failed ≡ (u.node z).failed) (sym e) (ap (λ (y : Node). y.failed) (at_same u.node n (acted S act (u.node n))))
    | inr ne ↦ ap (λ (y : Node). y.failed) (landed_other x ne)
  ]

  here : v.node n ≡ acted S act (u.node n)
  here = at_same u.node n (acted S act (u.node n))

  pub landed_kept : kept S v n ≡ kept_behind act.entry (kept S u n)
  landed_kept = ap (λ (y : Node). kept_of y.entries) here ∙ keeps_behind (u.node n).entries act.entry

  pub landed_attempt : (v.node n).attempt ≡ act.attempt
  landed_attempt = ap (λ (y : Node). y.attempt) here

  pub landed_shelf : shelf S v n ≡ keeps_said act.entry (shelf S u n)
  landed_shelf = ap (λ (y : Node). shelf_of S.roots n y.entries) here ∙ shelf_more S.roots n (u.node n).entries act.entry

  pub other_kept : (x : ℕ) → (x ≡ n → ⊥) → kept S v x ≡ kept S u x
  other_kept x ne = ap (λ (y : Node). kept_of y.entries) (landed_other x ne)

  pub other_attempt : (x : ℕ) → (x ≡ n → ⊥) → (v.node x).attempt ≡ (u.node x).attempt
  other_attempt x ne = ap (λ (y : Node). y.attempt) (landed_other x ne)

  pub other_shelf : (x : ℕ) → (x ≡ n → ⊥) → shelf S v x ≡ shelf S u x
  other_shelf x ne = ap (λ (y : Node). shelf_of S.roots x y.entries) (landed_other x ne)

  -- all that is sent to a node waits for it
  pub landed_queue : (b : ℕ) → is_node S.rights b ≡ true → v.queue n b ≡ u.queue n b ++ bytes_for b act.sends
  landed_queue b node =
      let to_node : bytes_to S b (out_of act) ≡ bytes_for b act.sends =
      ap (λ t. if t then map (λ (x : ℕ × List ℕ). x.1) (filter (λ x. x.0 == b) (out_of act)) else []) node ∙ out_to b act.sends in
      let awake : (not (S.hostile b) && ((mutes S u n act).node b).up) ≡ true =
      and_from (not (S.hostile b)) ((mutes S u n act).node b).up (not_from_false (S.hostile b) (honest b)) (muted_up b) in
      queue_behind S u n act b ∙ ap (λ q. u.queue n b ++ q) (ap (λ t. if t then bytes_to S b (out_of act) else []) awake ∙ to_node)

  pub other_queues : (x b : ℕ) → (x ≡ n → ⊥) → v.queue x b ≡ u.queue x b
  other_queues x b ne = queue_beside S u n act x b ne
