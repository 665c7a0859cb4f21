-- Trusted replay gives what is held, and robust declassifications let out what it gives them.
use Rattle.std.proofs.Common.{◌≡◌, ℕ, Bool, true, List, [], ◌∷◌, Option, Some, None, refl, sym, ap, ◌∙◌, subst, true≢false}
use Rattle.std.specs.Prelude.{IsTrue, IsBitSet, IsSomeAnd, option_map, slice_get}
use Rattle.std.specs.List.{fold}
use Rattle.std.proofs.lemmas.Bool.{false_from_ne_true}
use Rattle.fab_base.specs.declared.object.Value.{Value}
use Rattle.fab_base.specs.FlatMap.{FlatMap}
use Rattle.fab_tree.specs.declared.start.Start.{Start}
use Rattle.fab_tree.specs.declared.declaration.Role.{Role}
use Rattle.fab_tree.specs.declared.resolved.Class.{Class}
use Rattle.fab_tree.specs.declared.resolved.Principal.{Principal}
use Rattle.fab_tree.specs.declared.resolved.Resolved.{Resolved}
use Rattle.fab_language.specs.Flows.{delegations_of}
use Rattle.fab_language.specs.Names.{is_store, is_worker}
use Rattle.fab_language.specs.Numbers.{resolved}
use Rattle.fab_labelling.specs.Placement.{HoldsClass, MayHoldNumber, MayWriteNumber, WritesClass}
use Rattle.fab_labelling.specs.Readers.{IsNode, IsWriter, label_at, principal_of}
use Rattle.fab_net.specs.declared.note.Commit.{Commit}
use Rattle.fab_numbers.proofs.SitedInOrder.{sites_enumerated}
use Rattle.fab_rights.specs.Computed.{has_bit, may_hold, may_write, writes}
use Rattle.fab_rights.specs.declared.rights.Rights.{Rights}
use Rattle.fab_rights.specs.declared.rights.ClassRights.{ClassRights}
use Rattle.fab_rights.proofs.Bits.{has_bit_exact}
use Rattle.fab_erasure.specs.Agreement.{IsView, downs_seen, goes_into_view}
use Rattle.fab_views.proofs.Declared.{labels_declared}
use Rattle.fab_settings.specs.Settings.{request_at, setting_of}
use Rattle.fab_settings.proofs.Gives.{gives_setting}
use Rattle.fab_settings.proofs.Meanings.{evaluates}
use Rattle.fab_settings.proofs.Nodes.{holds_number}
use Rattle.fab_integrity.specs.Redone.{AllRedone}
use Rattle.fab_integrity.proofs.Runs.{faithful, hostile_excluded, left_out, serial}
use Rattle.fab_world.specs.Machine.{Move, Setting}
use Rattle.fab_world.specs.Serial.{commits_in, Excludes, held_map, replay_one, within, world_of}
use Rattle.fab_trusted.specs.Trusts.{IsTrustedBy}
use Rattle.fab_trusted.specs.Trusted.{done_by, endorsed, endorsed_by, endorses_at, replayed_from, trusted_by}
use Rattle.fab_trusted.specs.Robust.{IsGuarded, IsRobust}
use Rattle.fab_trusted.specs.Agreement.{AreFollowed, IsFollowed, IsOfRun, OutsideReplayAgrees, RobustValuesTrusted, TrustedReplayAgrees, commits_at}
use Rattle.fab_trusted.proofs.Trusting.{trusted_view}
use Rattle.fab_trusted.proofs.Endorsing.{endorses_is}
use Rattle.fab_trusted.proofs.One as one
use Rattle.fab_trusted.proofs.Guarded.{below, kept_site, narrower}

-- ---- what is trusted excludes the nodes

pub written_bit : (o : Option ClassRights) (n : ℕ) → IsTrue (writes o n) → IsSomeAnd o (λ c. IsBitSet c.writers n)
written_bit None n h = absurd (true≢false (sym h))
written_bit (Some c) n h = (has_bit_exact c.writers n).0 h

module _ (r : Resolved) (nodes : ℕ) (trusts keeps : ℕ → Bool) (given : IsTrustedBy r nodes trusts keeps) where
  node_by : (n : ℕ) (P : Role → Type 0) (o : Option Principal) → slice_get r.nodes (principal_of r n) ≡ o → IsSomeAnd (option_map (λ (x : Principal). x.role) o) P → IsNode r n
  node_by n P None e h = absurd h
  node_by n P (Some x) e h = below r.nodes (principal_of r n) x e

  -- who may have influenced a class isn't one of the nodes
  no_writer : (n c : ℕ) (o : Option Class) → slice_get r.classes c ≡ o → keeps c ≡ true → has_bit nodes n ≡ true → IsNode r n
      → IsSomeAnd o (λ k. IsWriter (delegations_of r) (label_at r k.label.number) (principal_of r n)) → ⊥
  no_writer n c None e kept set node h = h
  no_writer n c (Some k) e kept set node h =
      ((given.labels k.label.number).0 (sym (given.classes c k e) ∙ kept)).1 n ((has_bit_exact nodes n).0 set) node h

  weaken : {A : Type 0} (P Q : A → Type 0) (o : Option A) → ((x : A) → P x → Q x) → IsSomeAnd o P → IsSomeAnd o Q
  weaken P Q None f h = h
  weaken P Q (Some x) f h = f x h

  no_write : (n c : ℕ) → keeps c ≡ true → has_bit nodes n ≡ true → MayWriteNumber r (delegations_of r) n c → ⊥
  no_write n c kept set h =
      no_writer n c (slice_get r.classes c) refl kept set (node_by n (λ x. IsTrue (is_worker x)) (slice_get r.nodes (principal_of r n)) refl h.0)
      (weaken (WritesClass r (delegations_of r) n) (λ k. IsWriter (delegations_of r) (label_at r k.label.number) (principal_of r n)) (slice_get r.classes c) (λ k w. w.1) h.1)

  no_hold : (n c : ℕ) → keeps c ≡ true → has_bit nodes n ≡ true → MayHoldNumber r (delegations_of r) n c → ⊥
  no_hold n c kept set h =
      no_writer n c (slice_get r.classes c) refl kept set (node_by n (λ x. IsTrue (is_store x)) (slice_get r.nodes (principal_of r n)) refl h.0)
      (weaken (HoldsClass r (delegations_of r) n) (λ k. IsWriter (delegations_of r) (label_at r k.label.number) (principal_of r n)) (slice_get r.classes c) (λ k w. w.writes) h.1)

module _ (s : Start) (rights : Rights) (nodes : ℕ) (trusts keeps : ℕ → Bool) (moves : List Move) (h : IsOfRun s rights nodes trusts keeps moves) where
  abbrev r : Resolved
  r = resolved s

  abbrev S : Setting
  S = setting_of (resolved s) rights

  excludes : Excludes S (has_bit nodes) keeps
  excludes = record {
    hostile = h.hostile;
    unwritten = λ n c d e. false_from_ne_true (may_write rights n c) (λ may.
        no_write r nodes trusts keeps h.trusted n c e d ((h.accepted.rights_are.written n c).0 (written_bit (slice_get rights.classes c) n may)));
    unheld = λ n c d e. false_from_ne_true (may_hold rights n c) (λ may.
        no_hold r nodes trusts keeps h.trusted n c e d (holds_number r rights h.accepted.rights_are n c may));
  }

  view : IsView trusts keeps r
  view = trusted_view s nodes trusts keeps h.accepted.named h.accepted.labelled h.trusted

  endorsing : (site : ℕ) → endorses_at trusts keeps r site ≡ goes_into_view trusts keeps r site
  endorsing = endorses_is r nodes trusts keeps h.trusted (labels_declared s h.accepted.named) h.accepted.labelled

  abbrev given_by : Commit → List Value
  given_by c = endorsed_by trusts keeps r (done_by trusts keeps r c)

  -- ---- replay

  same : (N : FlatMap) (cs : List Commit) → AllRedone S keeps N cs → replayed_from trusts keeps r N cs (endorsed trusts keeps r cs) ≡ fold (replay_one S keeps) N cs
  same N [] g = refl
  same N (c ∷ cs) g =
      ap (λ M. replayed_from trusts keeps r M cs (endorsed trusts keeps r cs)) (one.one_more s rights h.accepted trusts keeps view endorsing N c g.0)
      ∙ same (replay_one S keeps N c) cs g.1

  redone : AllRedone S keeps (within keeps S.roots) (commits_at S moves)
  redone = faithful S (gives_setting s rights h.accepted) (evaluates s rights h.accepted) S.hostile keeps moves (hostile_excluded S (has_bit nodes) keeps excludes) h.run

  pub held_outside : held_map S (has_bit nodes) keeps (world_of S moves)
      ≡ replayed_from trusts keeps r (within keeps S.roots) (commits_in S (has_bit nodes) moves) (endorsed trusts keeps r (commits_in S (has_bit nodes) moves))
  held_outside =
      let setting = gives_setting s rights h.accepted in
      let law = evaluates s rights h.accepted in
      serial S setting law (has_bit nodes) keeps moves excludes h.run
      ∙ sym (same (within keeps S.roots) (commits_in S (has_bit nodes) moves) (faithful S setting law (has_bit nodes) keeps moves excludes h.run))

  pub held : held_map S (has_bit nodes) keeps (world_of S moves)
      ≡ replayed_from trusts keeps r (within keeps S.roots) (commits_at S moves) (endorsed trusts keeps r (commits_at S moves))
  held =
      let setting = gives_setting s rights h.accepted in
      let law = evaluates s rights h.accepted in
      serial S setting law (has_bit nodes) keeps moves excludes h.run
      ∙ sym (left_out S setting law (has_bit nodes) keeps moves excludes h.run)
      ∙ sym (same (within keeps S.roots) (commits_at S moves) redone)

  -- ---- robust declassifications

  -- the program is robust, and the site is guarded
  abbrev IsSafe : ℕ → Type 0
  IsSafe site = IsRobust r × IsGuarded r nodes site

  followed : (N : FlatMap) (c : Commit) → (value : Option Value) → one.Step s rights h.accepted trusts keeps view endorsing N c (request_at r c.worker c.request) (given_by c)
      → IsFollowed trusts keeps r IsSafe N c
  followed N c value step = record {
    value = step.value;
    ended = step.ended;
    alike = λ site safe.
        narrower (downs_seen trusts keeps r) site (kept_site r nodes trusts keeps h.trusted (sites_enumerated s) safe.0 site safe.1)
        (trusted_by trusts keeps r N c (given_by c)).downs (done_by trusts keeps r c).downs step.alike;
  }

  all_followed : (N : FlatMap) (cs : List Commit) → AllRedone S keeps N cs → AreFollowed trusts keeps r IsSafe N cs
  all_followed N [] g = tt
  all_followed N (c ∷ cs) g = (
    followed N c None (one.one s rights h.accepted trusts keeps view endorsing N c g.0),
    subst (λ M. AreFollowed trusts keeps r IsSafe M cs) (sym (one.one_more s rights h.accepted trusts keeps view endorsing N c g.0))
        (all_followed (replay_one S keeps N c) cs g.1),
  )

pub agrees : TrustedReplayAgrees
agrees s rights nodes trusts keeps moves h = held s rights nodes trusts keeps moves h

pub outside_agrees : OutsideReplayAgrees
outside_agrees s rights nodes trusts keeps moves h = held_outside s rights nodes trusts keeps moves h

pub robust_values : RobustValuesTrusted
robust_values s rights nodes trusts keeps moves h =
    all_followed s rights nodes trusts keeps moves h (within keeps (setting_of (resolved s) rights).roots) (commits_at (setting_of (resolved s) rights) moves)
    (redone s rights nodes trusts keeps moves h)
