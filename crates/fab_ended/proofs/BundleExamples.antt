-- What lines of reports say of how requests ended, in a bundle of one worker and one store; and bundles with a hostile node and without.
use Rattle.std.proofs.Common.{◌≡◌, ℕ, true, false, List, [], ◌∷◌, codes, bytes_eq, refl, sym, ap, ◌∙◌, true≢false, inl, inr}
use Rattle.std.proofs.lemmas.Bool.{eqb-true, or_cases}
use Rattle.fab_tree.specs.declared.declaration.Node.{Node}
use Rattle.fab_tree.specs.declared.declaration.Role.{Role}
use Rattle.fab_tree.specs.declared.declaration.Role.TheVariants as roles
use Rattle.fab_tree.specs.declared.resolved.Resolved.{Resolved}
use Rattle.fab_tree.specs.declared.start.Start.{Start}
use Rattle.fab_language.specs.Numbers.{resolved}
use Rattle.fab_language.specs.Words.{node_text}
use Rattle.fab_net.specs.declared.event.Inner.TheVariants as i
use Rattle.fab_world.specs.Machine.{Move}
use Rattle.fab_world.proofs.Toy.{failing}
use Rattle.fab_outcomes.specs.Causes.{has_failed}
use Rattle.fab_reports.specs.declared.line.Line.{Line}
use Rattle.fab_reports.specs.declared.line.Line.TheVariants.{Event, Outcome}
use Rattle.fab_reports.specs.declared.line.ShownEnding.{ShownEnding}
use Rattle.fab_reports.specs.declared.line.ShownEnding.TheVariants.{Conflict, NodeDown, Silent, Unfinished}
use Rattle.fab_reports.specs.declared.line.ShownEvent.TheVariants.{CrashIn, Inner}
use Rattle.fab_reports.specs.declared.line.ShownInner.TheVariants.{Idle, Resume}
use Rattle.fab_ended.specs.Bundles.{HasNoHostile, IsAnsweredLine, IsEndedLine, IsFinalLine}

-- ---- a worker and a store

abbrev node : Role → List ℕ → Node
node role text = record { role = role; name = record { text = text; at = 0 } }

abbrev of_nodes : List Node → Start
of_nodes nodes = record {
  program = record { nodes = nodes; delegations = []; labels = []; classes = []; methods = [] };
  roots = [];
  sessions = [];
  posts = [];
  crashes = [];
  cache = 0;
  schedule = [];
}

abbrev peaceful : Start
peaceful = of_nodes (node roles.Principal (codes "P") ∷ node (roles.Worker false) (codes "w") ∷ node (roles.Store false) (codes "s") ∷ [])

no_hostile : HasNoHostile peaceful
no_hostile = (refl, (refl, (refl, tt)))

a_hostile_store : HasNoHostile (of_nodes (node (roles.Worker false) (codes "w") ∷ node (roles.Store true) (codes "s") ∷ [])) → ⊥
a_hostile_store h = true≢false h.1.0

abbrev r : Resolved
r = resolved peaceful

-- ---- lines of outcomes, where the worker's journal failed, and nobody else's

abbrev moves : List Move
moves = failing (i.Resume 0) ∷ []

abbrev line : List ℕ → ShownEnding → Line
line worker ending = Outcome (record { worker = worker; request = 1; ending = ending })

worker_is_down : IsEndedLine r moves (line (codes "w") NodeDown)
worker_is_down = (0, refl, refl)

one_failed : (n : ℕ) → has_failed n moves ≡ true → n ≡ 0
one_failed n h = elim (or_cases _ _ h) [ inl e ↦ sym (eqb-true 0 n e) | inr none ↦ absurd (true≢false (sym none)) ]

store_is_not : IsEndedLine r moves (line (codes "s") NodeDown) → ⊥
store_is_not h = true≢false (ap (λ text. bytes_eq text (codes "s")) (h.1 ∙ ap (node_text r) (one_failed h.0 h.2)))

nobody_without_mark : IsEndedLine r [] (line (codes "w") NodeDown) → ⊥
nobody_without_mark h = true≢false (sym h.2)

open_is_not_ended : IsEndedLine r moves (line (codes "w") Unfinished) → ⊥
open_is_not_ended h = h

conflict_is_ended : IsEndedLine r moves (line (codes "w") Conflict)
conflict_is_ended = tt

down_is_not_final : IsFinalLine (line (codes "w") NodeDown) → ⊥
down_is_not_final h = h

-- ---- silence

silent_is_unanswered : IsAnsweredLine (line (codes "w") (Silent (codes "s"))) → ⊥
silent_is_unanswered h = h

idle_is_unanswered : IsAnsweredLine (Event 1 (Inner (Idle (codes "w") (codes "s")))) → ⊥
idle_is_unanswered h = h

cut_idle_is_unanswered : IsAnsweredLine (Event 1 (CrashIn 3 (Idle (codes "w") (codes "s")))) → ⊥
cut_idle_is_unanswered h = h

resume_is_answered : IsAnsweredLine (Event 1 (Inner (Resume (codes "w"))))
resume_is_answered = tt
