-- The commits of a run are of nodes that aren't hostile.
use Rattle.std.proofs.Common.{◌≡◌, Bool, true, false, List, [], ◌∷◌, ◌++◌, length, refl, sym, ap, subst, inl, inr, ◌∙◌}
use Rattle.std.specs.Prelude.{not, ◌&&◌, nat_le, if◌then◌else◌, filter, flat_map, IsTrue, is_some}
use Rattle.std.proofs.lemmas.Bool.{and_parts}
use Rattle.std.proofs.lemmas.List.Elements.{filter-append}
use Rattle.fab_net.specs.declared.event.Inner.{Inner}
use Rattle.fab_net.specs.declared.note.Commit.{Commit}
use Rattle.fab_integrity.proofs.Costs.{commit_at, goes_act}
use Rattle.fab_integrity.proofs.Steps.{may_honest}
use Rattle.fab_world.specs.Machine.{Setting, World, Move, Form, Does, Cuts, Fails, Posts, Crashes, Never}
use Rattle.fab_world.specs.Machine.{act, are_enabled, at_start, enabled, form_of, is_whole}
use Rattle.fab_world.specs.Machine.{kept, logged, logs, may, node_of, notes_at, notes_if, record_at, step}
use Rattle.fab_world.specs.Serial.{commit_in, commits_in}
use Rattle.fab_serial.specs.Replays.{commits_at}
use Rattle.fab_serial.proofs.Steps.{all_pass}

module _ (S : Setting) where
  abbrev is_honest : Commit → Bool
  is_honest c = not (S.hostile c.worker)

  -- what an act notes of a commit is of its node
  act_honest : (w : World) (e : Inner) → S.hostile (node_of e) ≡ false
      → filter is_honest (flat_map commit_in (act S w e).notes) ≡ flat_map commit_in (act S w e).notes
  act_honest w e honest = elim (goes_act S w e).commits [
    | inl none ↦ subst (λ (cs : List Commit). filter is_honest cs ≡ cs) (sym none) refl
    | inr one ↦
        let c = commit_at (node_of e) (kept S w (node_of e)) (w.node (node_of e)).attempt in
        subst (λ (cs : List Commit). filter is_honest cs ≡ cs) (sym one.0) (ap (λ b. if not b then c ∷ [] else []) honest)
  ]

  notes_honest : (w : World) (form : Form) → enabled S w form ≡ true
      → filter is_honest (flat_map commit_in (notes_at S w form)) ≡ flat_map commit_in (notes_at S w form)
  notes_honest w (Does e) h = act_honest w e (may_honest S w e h)
  notes_honest w (Cuts keep e) h =
      let can = (and_parts (may S w e) (is_some (act S w e).entry) (and_parts (may S w e && is_some (act S w e).entry) (nat_le keep (length (record_at S w e))) h).0).0 in
      elim (is_whole S w (Cuts keep e)) as (λ b. filter is_honest (flat_map commit_in (notes_if S b (act S w e).notes)) ≡ flat_map commit_in (notes_if S b (act S w e).notes)) [
        | true ↦ act_honest w e (may_honest S w e can)
        | false ↦ refl
      ]
  notes_honest w (Fails keep e) h = refl
  notes_honest w (Posts n) h = refl
  notes_honest w (Crashes n) h = refl
  notes_honest w Never h = refl

  log_honest : (w : World) (moves : List Move) → are_enabled S w moves ≡ true
      → filter is_honest (flat_map commits_at (logs S w moves)) ≡ flat_map commits_at (logs S w moves)
  log_honest w [] h = refl
  log_honest w (move ∷ moves) h =
      let both = and_parts (enabled S w (form_of move)) (are_enabled S (step S w move) moves) h in
      let here = commits_at (logged S w move) in
      let later = flat_map commits_at (logs S (step S w move) moves) in
      filter-append is_honest here later
      ∙ ap (λ cs. cs ++ filter is_honest later) (notes_honest w (form_of move) both.0)
      ∙ ap (λ cs. here ++ cs) (log_honest (step S w move) moves both.1)

pub honest_commits : (S : Setting) (moves : List Move) → IsTrue (are_enabled S (at_start S) moves) → commits_in S (λ n. false) moves ≡ commits_in S S.hostile moves
honest_commits S moves h =
    all_pass (flat_map commits_at (logs S (at_start S) moves)) ∙ sym (log_honest S (at_start S) moves h)
