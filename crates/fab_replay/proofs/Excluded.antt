-- A class that no distrusted node may have influenced is one that none of them may write or hold.
use Rattle.std.specs.Prelude.{ℕ, Bool, slice_get, IsBitSet}
use Rattle.std.proofs.Common.{subst}
use Rattle.std.proofs.lemmas.Bool.{false_from_ne_true}
use Rattle.fab_trusted.proofs.Replays.{written_bit}
use Rattle.fab_language.specs.Flows.{delegations_of}
use Rattle.fab_labelling.specs.Placement.{MayHoldNumber, MayWriteNumber}
use Rattle.fab_places.specs.Places.{AreRights, ClassExcludes}
use Rattle.fab_tree.specs.declared.resolved.Resolved.{Resolved}
use Rattle.fab_rights.specs.Computed.{has_bit, may_hold, may_write}
use Rattle.fab_rights.proofs.Bits.{has_bit_exact}
use Rattle.fab_settings.proofs.Nodes.{holds_number}
use Rattle.fab_world.specs.Serial.{Excludes}
use Rattle.fab_node.specs.Standing.{GivenModel, IsGiven}
use Rattle.fab_core.specs.Cores.{setting}
use Rattle.fab_replay.specs.Integral.{IsExcluded}

module _ (g : GivenModel) (given : IsGiven g) (nodes : ℕ) (ex : ℕ → Bool) (h : IsExcluded g nodes ex) where
  rights : AreRights g.program g.rights
  rights = subst (λ (r : Resolved). AreRights r g.rights) given.program given.accepted.rights_are

  pub excludes : ((n c : ℕ) → ClassExcludes g.program (delegations_of g.program) nodes c → IsBitSet nodes n → ¬ MayWriteNumber g.program (delegations_of g.program) n c)
      → ((n c : ℕ) → ClassExcludes g.program (delegations_of g.program) nodes c → IsBitSet nodes n → ¬ MayHoldNumber g.program (delegations_of g.program) n c)
      → Excludes (setting g) (has_bit nodes) ex
  excludes unwritten unheld = record {
    hostile = h.hostile;
    unwritten = λ n c d e. false_from_ne_true (may_write g.rights n c) (λ may.
        unwritten n c (h.classes c e) ((has_bit_exact nodes n).0 d) ((rights.written n c).0 (written_bit (slice_get g.rights.classes c) n may)));
    unheld = λ n c d e. false_from_ne_true (may_hold g.rights n c) (λ may.
        unheld n c (h.classes c e) ((has_bit_exact nodes n).0 d) (holds_number g.program g.rights rights n c may));
  }
