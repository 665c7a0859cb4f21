-- What is held of classes that exclude a set of nodes is trusted replay.
use Rattle.std.specs.Prelude.{◌≡◌, ◌↔◌, ℕ, ◌<◌, Bool, true, false, IsTrue, IsBitSet, IsSomeAnd, List, length, Option, Some, None, slice_get}
use Rattle.std.proofs.Common.{refl, sym, ap, ◌∙◌, subst}
use Rattle.fab_base.specs.declared.object.Value.{Value}
use Rattle.fab_base.specs.FlatMap.{FlatMap}
use Rattle.fab_tree.specs.declared.resolved.Class.{Class}
use Rattle.fab_tree.specs.declared.resolved.Resolved.{Resolved}
use Rattle.fab_language.specs.Flows.{delegations_of}
use Rattle.fab_language.specs.Numbers.{resolved}
use Rattle.fab_authority.specs.Authority.{HasFew}
use Rattle.fab_flows.specs.Numbers.{HasPrincipals}
use Rattle.fab_flows.proofs.Declared.{has_principals}
use Rattle.fab_front.proofs.Authorities.{has_few}
use Rattle.fab_labelling.specs.Claims.{IsWellLabelled}
use Rattle.fab_labelling.specs.Readers.{Excludes, label_at}
use Rattle.fab_net.specs.declared.note.Commit.{Commit}
use Rattle.fab_net.specs.declared.note.Logged.{Logged}
use Rattle.fab_places.specs.Places.{ClassExcludes}
use Rattle.fab_places.specs.declared.masks.Seen.{Seen}
use Rattle.fab_rights.specs.Computed.{has_bit}
use Rattle.fab_rights.proofs.Bits.{has_bit_exact, same_truth}
use Rattle.fab_trusted.specs.Agreement.{IsOfRun, OutsideReplayAgrees, RobustValuesTrusted, TrustedReplayAgrees, commits_at}
use Rattle.fab_trusted.specs.Trusted.{endorsed, trusted_replay}
use Rattle.fab_trusted.specs.Trusts.{IsTrustedBy}
use Rattle.fab_world.specs.Machine.{Move, at_start, logs}
use Rattle.fab_world.specs.Serial.{IsRun, commits_in, commits_of}
use Rattle.fab_node.specs.Standing.{GivenModel, IsGiven}
use Rattle.fab_core.specs.Cores.{setting}
use Rattle.fab_replay.specs.Trusted.{IsTrusted, trusted_in}
use Rattle.fab_replay.specs.View.{CanBeSeen}

-- ---- of a run of an accepted bundle

pub trusted_run : TrustedReplayAgrees → OutsideReplayAgrees → RobustValuesTrusted → (g : GivenModel) → IsGiven g → (moves : List Move) → IsRun (setting g) moves → IsTrusted g moves
trusted_run agree apart follow g given moves run = subst (λ (r : Resolved). At r) given.program here run
  where
    with_program : Resolved → GivenModel
    with_program r = record { program = r; rights = g.rights; roots = g.roots }

    At : Resolved → Type 0
    At r = IsRun (setting (with_program r)) moves → IsTrusted (with_program r) moves

    here : At (resolved given.start)
    here ran nodes trusts keeps h =
        let of : IsOfRun given.start g.rights nodes trusts keeps moves = record { accepted = given.accepted; hostile = h.hostile; trusted = h.trusted; run = ran } in
        record {
          held = agree given.start g.rights nodes trusts keeps moves of;
          outside = apart given.start g.rights nodes trusts keeps moves of;
          followed = follow given.start g.rights nodes trusts keeps moves of;
        }

-- what such a bundle has
module _ (g : GivenModel) (given : IsGiven g) (program : Resolved) (is : program ≡ g.program) where
  same : program ≡ resolved given.start
  same = is ∙ sym given.program

  pub given_labelled : IsWellLabelled program
  given_labelled = subst IsWellLabelled (sym same) given.accepted.labelled

  pub given_principals : HasPrincipals program
  given_principals = subst HasPrincipals (sym same) (has_principals given.start given.accepted.within given.accepted.named)

  pub given_few : HasFew program
  given_few = has_few given.start program given.accepted.within given.accepted.named given_principals same

-- ---- masks of labels and classes that exclude a set

module _ (r : Resolved) (nodes : ℕ) (part : Seen) (of : CanBeSeen r)
    (labels : (l : ℕ) → IsBitSet part.labels l ↔ ((l < length r.labels) × Excludes r (delegations_of r) nodes (label_at r l)))
    (classes : (c : ℕ) → IsBitSet part.classes c ↔ ClassExcludes r (delegations_of r) nodes c) where
  abbrev Kept : Option Class → Type 0
  Kept o = IsSomeAnd o (λ c. Excludes r (delegations_of r) nodes (label_at r c.label.number))

  class_is : (n : ℕ) (o : Option Class) → slice_get r.classes n ≡ o → IsTrue (has_bit part.classes n) ↔ Kept o
  class_is n o e = (
    λ t. subst Kept e ((classes n).0 ((has_bit_exact part.classes n).0 t)),
    λ v. (has_bit_exact part.classes n).1 ((classes n).1 (subst Kept (sym e) v)),
  )

  label_is : (l : ℕ) → IsTrue (has_bit part.labels l) ↔ ((l < length r.labels) × Excludes r (delegations_of r) nodes (label_at r l))
  label_is l = (λ t. (labels l).0 ((has_bit_exact part.labels l).0 t), λ v. (has_bit_exact part.labels l).1 ((labels l).1 v))

  pub is_trusted_by : IsTrustedBy r nodes (has_bit part.labels) (has_bit part.classes)
  is_trusted_by = record {
    labels = label_is;
    classes = λ n class e.
        same_truth (has_bit part.classes n) (has_bit part.labels class.label.number) {P = Excludes r (delegations_of r) nodes (label_at r class.label.number)}
        (class_is n (Some class) e)
        (λ t. ((label_is class.label.number).0 t).1, λ v. (label_is class.label.number).1 (of.declared n class e, v));
    absent = λ n e. absent_by n e (has_bit part.classes n) refl;
  }
    where
      absent_by : (n : ℕ) → slice_get r.classes n ≡ None → (b : Bool) → has_bit part.classes n ≡ b → has_bit part.classes n ≡ false
      absent_by n e false p = p
      absent_by n e true p = absurd ((class_is n None e).0 p)

-- ---- what is replayed is trusted replay of the run

pub trusted_again : (g : GivenModel) (moves : List Move) (trusts keeps : ℕ → Bool) (start program : Resolved) (log : List Logged) (commits : List Commit) (values : List (List Value)) (map : FlatMap)
    → start ≡ program → program ≡ g.program → log ≡ logs (setting g) (at_start (setting g)) moves → commits ≡ commits_of (λ n. false) log
    → commits_in (setting g) (λ n. false) moves ≡ commits_in (setting g) (setting g).hostile moves
    → values ≡ endorsed trusts keeps start commits → map ≡ trusted_replay trusts keeps program commits values → map ≡ trusted_in g trusts keeps moves
trusted_again g moves trusts keeps start program log commits values map started is logged all honest given_are replayed =
    let these : commits ≡ commits_at (setting g) moves = all ∙ ap (commits_of (λ n. false)) logged ∙ honest in
    let endorsed_are : values ≡ endorsed trusts keeps g.program (commits_at (setting g) moves) =
    given_are ∙ ap (λ (r : Resolved). endorsed trusts keeps r commits) (started ∙ is) ∙ ap (endorsed trusts keeps g.program) these in
    replayed
    ∙ ap (λ (r : Resolved). trusted_replay trusts keeps r commits values) is
    ∙ ap (λ cs. trusted_replay trusts keeps g.program cs values) these
    ∙ ap (trusted_replay trusts keeps g.program (commits_at (setting g) moves)) endorsed_are
