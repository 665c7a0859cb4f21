-- At any point of a run: a node that is up hasn't failed, and one that is no worker is idle.
use Rattle.std.specs.Prelude.{◌≡◌, ◌⊎◌, ℕ, Bool, true, false, not, ◌&&◌, ◌==◌, nat_lt, nat_le, if◌then◌else◌, IsTrue, List, [], ◌∷◌, ◌++◌, length, Option, Some, None, is_some}
use Rattle.std.specs.List.{list_all}
use Rattle.std.proofs.Common.{refl, sym, ap, ◌∙◌, subst, inl, inr, true≢false}
use Rattle.std.proofs.lemmas.Bool.{cases_eq, and_parts}
use Rattle.fab_base.specs.declared.message.Message.{Message}
use Rattle.fab_net.specs.declared.event.Inner.{Inner}
use Rattle.fab_net.specs.declared.event.Inner.TheVariants as i
use Rattle.fab_protocol.specs.Stores.{says, asks}
use Rattle.fab_rights.specs.Computed.{is_node, is_worker, nodes_in}
use Rattle.fab_world.specs.Machine.{Setting, World, Node, Move, Form, Does, Cuts, Fails, Posts, Crashes, Never, form_of, node_of, at_start, with_at, is_evaluating, is_idle, lacks}
use Rattle.fab_world.specs.Machine.{act, at_node, ready, acted, hears, of_store, kept, parts, shelf, cut, down, posted, steps, step, is_running, is_settled, may, enabled, are_enabled, runs, record_at, calls_journal}
use Rattle.fab_world.specs.Workers.{Attempt, Phase, stays, takes, fresh}
use Rattle.fab_world.specs.Workers as workers
use Rattle.fab_integrity.proofs.Worlds.{at_same, at_other}

module _ (S : Setting) where
  pub record IsSteady (n : ℕ) (x : Node) : Type 0 where
    pub sound : x.up ≡ true → x.failed ≡ false
    pub idle : is_worker S.rights n ≡ false → x.attempt.phase ≡ workers.Idle

  abbrev pub AreSteady : World → Type 0
  AreSteady w = (n : ℕ) → IsSteady n (w.node n)

  put_steady : (f : ℕ → Node) (n : ℕ) (x : Node) → IsSteady n x → ((m : ℕ) → IsSteady m (f m)) → (m : ℕ) → IsSteady m (with_at f n x m)
  put_steady f n x here there m = elim (cases_eq m n) [
    | inl p ↦ subst (λ k. IsSteady k (with_at f n x k)) (sym p) (subst (IsSteady n) (sym (at_same f n x)) here)
    | inr p ↦ subst (IsSteady m) (sym (at_other f n x m p)) (there m)
  ]

  -- one that is down
  fallen_steady : (n : ℕ) (x : Node) → x.up ≡ false → x.attempt ≡ fresh → IsSteady n x
  fallen_steady n x down attempt = record {
    sound = λ up. absurd (true≢false (sym up ∙ down));
    idle = λ h. ap (λ (a : Attempt). a.phase) attempt;
  }

  hears_steady : (w : World) (a b : ℕ) (m : Option Message) → is_worker S.rights b ≡ false → (hears S w a b m).attempt ≡ (w.node b).attempt
  hears_steady w a b None h = refl
  hears_steady w a b (Some message) h =
      ap (λ t. (if t then takes S.rights S.cache b (kept S w b) a message (w.node b).attempt (parts S w b)
      else of_store S (w.node b).attempt (says S.rights b a message (shelf S w b))).attempt) h

  busy_never : (n : ℕ) (x : Node) → IsSteady n x → is_worker S.rights n ≡ false → is_evaluating x.attempt.phase ≡ true → ⊥
  busy_never n x h out busy = true≢false (sym busy ∙ ap is_evaluating (h.idle out))

  lacks_never : (n s : ℕ) (x : Node) → IsSteady n x → is_worker S.rights n ≡ false → lacks s x.attempt.phase ≡ true → ⊥
  lacks_never n s x h out busy = true≢false (sym busy ∙ ap (lacks s) (h.idle out))

  -- an act of a node that is no worker leaves it idle
  act_steady : (w : World) (e : Inner) → AreSteady w → IsTrue (may S w e) → is_worker S.rights (node_of e) ≡ false → (act S w e).attempt.phase ≡ workers.Idle
  act_steady w (i.Begin n) h can out = absurd (true≢false (sym (and_parts _ _ (and_parts _ _ (and_parts _ _ can).0).0).1 ∙ out))
  act_steady w (i.Resume n) h can out = absurd (busy_never n (w.node n) (h n) out (and_parts _ _ can).1)
  act_steady w (i.Deliver a b) h can out = ap (λ (x : Attempt). x.phase) (hears_steady w a b _ out) ∙ (h b).idle out
  act_steady w (i.Idle n s) h can out = absurd (lacks_never n s (w.node n) (h n) out (and_parts _ _ (and_parts _ _ can).0).1)
  act_steady w (i.Recover n) h can out =
      ap (λ t. (if t then workers.wakes S.rights S.cache n (kept S w n) else of_store S (w.node n).attempt (asks (shelf S w n))).attempt.phase) out
      ∙ (h n).idle out

  not_failed : (w : World) (n : ℕ) → IsTrue (may S w (i.Recover n)) → (w.node n).failed ≡ false
  not_failed w n can = flip (w.node n).failed (and_parts _ _ can).1
    where
      flip : (b : Bool) → not b ≡ true → b ≡ false
      flip true h = sym h
      flip false h = refl

  ready_steady : (w : World) (e : Inner) → AreSteady w → IsTrue (may S w e) → AreSteady (ready S w e)
  ready_steady w (i.Begin n) h can = h
  ready_steady w (i.Resume n) h can = h
  ready_steady w (i.Deliver a b) h can = h
  ready_steady w (i.Idle n s) h can = h
  ready_steady w (i.Recover n) h can =
      put_steady w.node n (record (w.node n) { torn = []; up = true })
      (record { sound = λ up. not_failed w n can; idle = λ out. (h n).idle out }) h

  steps_steady : (w : World) (form : Form) → AreSteady w → IsTrue (enabled S w form) → AreSteady (steps S w form)
  steps_steady w (Does e) h can =
      let r = ready_steady w e h can in
      put_steady (ready S w e).node (node_of e) (acted S (act S w e) ((ready S w e).node (node_of e)))
      (record { sound = (r (node_of e)).sound; idle = λ out. act_steady w e h can out }) r
  steps_steady w (Cuts keep e) h can =
      let r = ready_steady w e h (and_parts _ _ (and_parts _ _ can).0).0 in
      λ m. elim (cases_eq m (node_of e)) [
        | inl p ↦ subst (λ k. IsSteady k ((steps S w (Cuts keep e)).node k)) (sym p) (fallen_steady (node_of e) _
            (ap (λ (x : Node). x.up) (at_same (at_node S (ready S w e) (node_of e) (cut S keep (act S w e).entry)).node (node_of e) _))
            (ap (λ (x : Node). x.attempt) (at_same (at_node S (ready S w e) (node_of e) (cut S keep (act S w e).entry)).node (node_of e) _)))
        | inr p ↦ subst (IsSteady m) (sym (at_other (at_node S (ready S w e) (node_of e) (cut S keep (act S w e).entry)).node (node_of e) _ m p
            ∙ at_other (ready S w e).node (node_of e) _ m p)) (r m)
      ]
  steps_steady w (Fails keep e) h can =
      put_steady (down S w (node_of e)).node (node_of e) (record ((down S w (node_of e)).node (node_of e)) { failed = true })
      (fallen_steady (node_of e) _ (ap (λ (x : Node). x.up) (at_same w.node (node_of e) _)) (ap (λ (x : Node). x.attempt) (at_same w.node (node_of e) _)))
      (put_steady w.node (node_of e) (record (w.node (node_of e)) { attempt = fresh; up = false }) (fallen_steady (node_of e) _ refl refl) h)
  steps_steady w (Posts x) h can = posts_steady w x (w.posts x) h
    where
      posts_steady : (w : World) (x : ℕ) (posts : List (ℕ × List ℕ)) → AreSteady w → AreSteady (posted S w x posts)
      posts_steady w x [] h = h
      posts_steady w x (post ∷ more) h = h
  steps_steady w (Crashes n) h can =
      put_steady w.node n (record (w.node n) { attempt = fresh; up = false }) (fallen_steady n _ refl refl) h
  steps_steady w Never h can = h

  runs_steady : (moves : List Move) (w : World) → IsTrue (are_enabled S w moves) → AreSteady w → AreSteady (runs S w moves)
  runs_steady [] w can h = h
  runs_steady (move ∷ moves) w can h =
      let p = and_parts (enabled S w (form_of move)) (are_enabled S (step S w move) moves) can in
      runs_steady moves (step S w move) p.1 (steps_steady w (form_of move) h p.0)

  -- behind every run
  pub all_steady : (moves : List Move) → IsTrue (are_enabled S (at_start S) moves) → AreSteady (runs S (at_start S) moves)
  all_steady moves can = runs_steady moves (at_start S) can (λ n. record { sound = λ up. refl; idle = λ out. refl })
