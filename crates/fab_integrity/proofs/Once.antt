-- Of each worker the requests of its commits rise, so that each request is committed once at most.
use Rattle.std.proofs.Common.{◌≡◌, ◌⊎◌, ℕ, ◌+◌, ◌<◌, ◌≤◌, List, [], ◌∷◌, ◌++◌, length, Bool, true, false, not, cond, ◌==◌}
use Rattle.std.proofs.Common.{Option, None, refl, sym, ap, ◌∙◌, subst, inl, inr, arith, append-nil, append_assoc}
use Rattle.std.specs.List.{filter, flat_map}
use Rattle.std.proofs.lemmas.Bool.{cases_eq}
use Rattle.std.proofs.lemmas.List.Elements.{filter-append}
use Rattle.fab_base.specs.declared.entry.Entry.{Entry}
use Rattle.fab_base.proofs.Lists.{all_append}
use Rattle.fab_net.specs.declared.event.Inner.{Inner}
use Rattle.fab_net.specs.declared.note.Commit.{Commit}
use Rattle.fab_net.specs.declared.note.Logged.{Logged}
use Rattle.fab_world.specs.Machine.{Setting, World, Node, Move, Form, Does, Cuts, Fails, Posts, Crashes, Never, form_of, at_start, kept, act, node_of, step, steps}
use Rattle.fab_world.specs.Machine.{record_at, logged, logs, notes_at, notes_if}
use Rattle.fab_world.specs.Serial.{IsSetting, IsOnce, Rise, commit_in, commits_of}
use Rattle.fab_world.specs.Workers.{Attempt, kept_of, request_of, fresh}
use Rattle.fab_integrity.proofs.Invariant.{In}
use Rattle.fab_integrity.proofs.Lists.{in_append, in_one}
use Rattle.fab_integrity.proofs.Costs.{outcomes_in, noted_commits, commit_at, goes_act, noted_outside}
use Rattle.fab_integrity.proofs.Changes.{Changes, outcomes_behind, does_changes, down_changes, fails_changes, cuts_changes, posted_node, if_whole}

-- one commit more, whose request is above those of its worker
rise_more : (cs : List Commit) (d : Commit) → Rise cs → ((c : Commit) → In c cs → d.worker ≡ c.worker → c.request < d.request) → Rise (cs ++ d ∷ [])
rise_more [] d r h = (tt, tt)
rise_more (c ∷ cs) d r h = (
  all_append (λ (x : Commit). x.worker ≡ c.worker → c.request < x.request) cs (d ∷ []) r.0 (h c (inl refl), tt),
  rise_more cs d r.1 (λ x i. h x (inr i)),
)

module _ (S : Setting) where
  -- the requests of each worker's commits rise, and are below its next one
  pub record Rising (D : ℕ → Bool) (w : World) (cs : List Commit) : Type 0 where
    pub rise : Rise cs
    pub below : (c : Commit) → In c cs → c.request < request_of (kept S w c.worker)

  pub rising_start : (D : ℕ → Bool) → Rising D (at_start S) []
  rising_start D = record { rise = tt; below = λ c i. absurd i }

  -- nothing that commits, or a commit of node n's request, with a record that ends it
  abbrev pub IsNoted : World → ℕ → Option Entry → List Commit → Type 0
  IsNoted w n entry news =
      (news ≡ []) ⊎ ((d : Commit) × (news ≡ d ∷ []) × (d.worker ≡ n) × (d.request ≡ request_of (kept S w n)) × (outcomes_in entry ≡ 1))

  module _ (D : ℕ → Bool) (w v : World) (n : ℕ) (entry : Option Entry) (a : Attempt) (change : Changes w v n entry a) where
    at_node : request_of (kept S v n) ≡ request_of (kept S w n) + outcomes_in entry
    at_node =
        let is = ap (λ es. length (kept_of es).outcomes) change.entries ∙ outcomes_behind (w.node n).entries entry in
        omega (arith, is)

    -- no request is another than before, or it is the next
    later : (x : ℕ) → request_of (kept S w x) ≤ request_of (kept S v x)
    later x = elim (cases_eq x n) [
      | inl same ↦ subst (λ z. request_of (kept S w z) ≤ request_of (kept S v z)) (sym same) (omega (arith, at_node))
      | inr ne ↦ omega (arith, ap (λ es. request_of (kept_of es)) (change.other_entries x ne))
    ]

    rises_none : (cs : List Commit) → Rising D w cs → Rising D v cs
    rises_none cs h = record { rise = h.rise; below = λ c i. let old = h.below c i in let le = later c.worker in omega (arith, old, le) }

    rises_one : (cs : List Commit) (d : Commit) → d.worker ≡ n → d.request ≡ request_of (kept S w n) → outcomes_in entry ≡ 1 → Rising D w cs → Rising D v (cs ++ d ∷ [])
    rises_one cs d own is one h =
        let up : d.request < request_of (kept S v n) = omega (arith, is, one, at_node) in
        record {
          rise = rise_more cs d h.rise (λ c i same.
              let old = subst (λ z. c.request < request_of (kept S w z)) (sym same ∙ own) (h.below c i) in
              omega (arith, old, is));
          below = λ c i. elim (in_append c cs (d ∷ []) i) [
            | inl x ↦ let old = h.below c x in let le = later c.worker in omega (arith, old, le)
            | inr y ↦ subst (λ (z : Commit). z.request < request_of (kept S v z.worker)) (sym (in_one c d y))
                (subst (λ k. d.request < request_of (kept S v k)) (sym own) up)
          ];
        }

    rises_kept : (cs : List Commit) (d : Commit) (b : Bool) → d.worker ≡ n → d.request ≡ request_of (kept S w n) → outcomes_in entry ≡ 1 → Rising D w cs
        → Rising D v (cs ++ cond b (d ∷ []) [])
    rises_kept cs d true own is one h = rises_one cs d own is one h
    rises_kept cs d false own is one h = subst (Rising D v) (sym (append-nil cs)) (rises_none cs h)

    rises_by : (cs news : List Commit) → IsNoted w n entry news → Rising D w cs → Rising D v (cs ++ filter (λ c. not (D c.worker)) news)
    rises_by cs news (inl none) h =
        subst (λ ds. Rising D v (cs ++ filter (λ c. not (D c.worker)) ds)) (sym none) (subst (Rising D v) (sym (append-nil cs)) (rises_none cs h))
    rises_by cs news (inr (d, is, own, request, one)) h =
        subst (λ ds. Rising D v (cs ++ filter (λ c. not (D c.worker)) ds)) (sym is) (rises_kept cs d (not (D d.worker)) own request one h)

  rises_same : (D : ℕ → Bool) (w v : World) (cs : List Commit) → v.node ≡ w.node → Rising D w cs → Rising D v (cs ++ [])
  rises_same D w v cs same h = subst (Rising D v) (sym (append-nil cs)) (record {
    rise = h.rise;
    below = λ c i. subst (λ (f : ℕ → Node). c.request < request_of (kept_of (f c.worker).entries)) (sym same) (h.below c i);
  })

  module _ (w : World) (e : Inner) where
    -- what an act notes
    noted : IsNoted w (node_of e) (act S w e).entry (noted_commits (act S w e).notes)
    noted = elim (goes_act S w e).commits [
      | inl none ↦ inl none
      | inr one ↦ inr (commit_at (node_of e) (kept S w (node_of e)) (w.node (node_of e)).attempt, one.0, refl, refl, one.1)
    ]

    noted_whole : (b : Bool) → IsNoted w (node_of e) (if_whole S b (act S w e).entry) (noted_commits (notes_if S b (act S w e).notes))
    noted_whole true = noted
    noted_whole false = inl refl

  rises_steps : (D : ℕ → Bool) (w : World) (form : Form) (cs : List Commit) → Rising D w cs
      → Rising D (steps S w form) (cs ++ noted_outside D (notes_at S w form))
  rises_steps D w (Does e) cs h =
      rises_by D w (steps S w (Does e)) (node_of e) (act S w e).entry (act S w e).attempt (does_changes S w e) cs (noted_commits (act S w e).notes) (noted w e) h
  rises_steps D w (Cuts keep e) cs h =
      rises_by D w (steps S w (Cuts keep e)) (node_of e) (if_whole S (keep == length (record_at S w e)) (act S w e).entry) fresh
      (cuts_changes S w keep e (keep == length (record_at S w e)) refl) cs (noted_commits (notes_at S w (Cuts keep e)))
      (noted_whole w e (keep == length (record_at S w e))) h
  rises_steps D w (Fails keep e) cs h = rises_by D w (steps S w (Fails keep e)) (node_of e) None fresh (fails_changes S w keep e) cs [] (inl refl) h
  rises_steps D w (Posts a) cs h = rises_same D w (steps S w (Posts a)) cs (posted_node S w a (w.posts a)) h
  rises_steps D w (Crashes n) cs h = rises_by D w (steps S w (Crashes n)) n None fresh (down_changes S w n) cs [] (inl refl) h
  rises_steps D w Never cs h = rises_same D w w cs refl h

  -- every event keeps it, whether it may come or not
  pub rising_step : (D : ℕ → Bool) (w : World) (move : Move) (cs : List Commit) → Rising D w cs
      → Rising D (step S w move) (cs ++ noted_outside D (logged S w move).notes)
  rising_step D w move cs h = rises_steps D w (form_of move) cs h

  -- the commits of a run, one event's behind those of the events before
  pub commits_more : (D : ℕ → Bool) (cs : List Commit) (first : Logged) (more : List Logged)
      → (cs ++ noted_outside D first.notes) ++ commits_of D more ≡ cs ++ commits_of D (first ∷ more)
  commits_more D cs first more =
      append_assoc cs (noted_outside D first.notes) (commits_of D more)
      ∙ ap (λ ds. cs ++ ds)
      (sym (filter-append (λ c. not (D c.worker)) (flat_map commit_in first.notes) (flat_map (λ (logged : Logged). flat_map commit_in logged.notes) more)))

  rises_run : (D : ℕ → Bool) (w : World) (moves : List Move) (cs : List Commit) → Rising D w cs → Rise (cs ++ commits_of D (logs S w moves))
  rises_run D w [] cs h = subst Rise (sym (append-nil cs)) h.rise
  rises_run D w (move ∷ moves) cs h =
      subst Rise (commits_more D cs (logged S w move) (logs S (step S w move) moves))
      (rises_run D (step S w move) moves (cs ++ noted_outside D (logged S w move).notes) (rising_step D w move cs h))

-- each request of a worker is committed once at most
pub once : (S : Setting) → IsSetting S → IsOnce S
once S given D moves run = rises_run S D (at_start S) moves [] (rising_start S D)
