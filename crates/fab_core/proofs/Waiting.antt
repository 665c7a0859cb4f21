-- Nothing waits for a node that isn't running, at any point of a run.
use Rattle.std.specs.Prelude.{◌≡◌, ◌⊎◌, ℕ, Bool, true, false, not, ◌&&◌, ◌==◌, if◌then◌else◌, List, [], ◌∷◌, ◌++◌, map}
use Rattle.std.specs.List.{filter}
use Rattle.std.proofs.Common.{refl, sym, ap, ◌∙◌, subst, inl, inr}
use Rattle.std.proofs.lemmas.Bool.{cases_eq}
use Rattle.fab_net.specs.declared.event.Inner.{Inner}
use Rattle.fab_net.specs.declared.event.Inner.TheVariants as i
use Rattle.fab_rights.specs.Computed.{is_node}
use Rattle.fab_world.specs.Machine.{Setting, World, Node, Move, Form, Does, Cuts, Fails, Posts, Crashes, Never, form_of, node_of, at_start, with_at, rest_of}
use Rattle.fab_world.specs.Machine.{act, at_node, ready, acted, sends_out, bytes_to, waiting_for, cut, down, posted, steps, step, is_running, runs}
use Rattle.fab_integrity.proofs.Worlds.{at_same, at_other}

module _ (S : Setting) where
  abbrev pub NobodyWaits : World → Type 0
  NobodyWaits w = (a b : ℕ) → is_running S w b ≡ false → w.queue a b ≡ []

  pub waiting_start : NobodyWaits (at_start S)
  waiting_start a b h = refl

  none_by : (node hostile up : Bool) (xs : List (List ℕ)) → (node && not hostile && up) ≡ false
      → (if not hostile && up then (if node then xs else []) else []) ≡ []
  none_by true true true xs h = refl
  none_by true true false xs h = refl
  none_by true false true xs h = absurd (cc)
  none_by true false false xs h = refl
  none_by false true true xs h = refl
  none_by false true false xs h = refl
  none_by false false true xs h = refl
  none_by false false false xs h = refl

  -- of what is sent to a node that isn't running nothing waits
  pub none_for : (w : World) (b : ℕ) (sends : List (ℕ × List ℕ)) → is_running S w b ≡ false → waiting_for S w b sends ≡ []
  none_for w b sends h =
      none_by (is_node S.rights b) (S.hostile b) (w.node b).up (map (λ x. x.1) (filter (λ x. x.0 == b) sends)) h

  both_none : (q more : List (List ℕ)) → q ≡ [] → more ≡ [] → q ++ more ≡ []
  both_none q more p r = ap (λ z. z ++ more) p ∙ r

  sends_keep : (w : World) (n : ℕ) (sends : List (ℕ × List ℕ)) → NobodyWaits w → NobodyWaits (sends_out S w n sends)
  sends_keep w n sends h a b out = elim (cases_eq a n) [
    | inl p ↦
        subst (λ x. (sends_out S w n sends).queue x b ≡ []) (sym p)
        (ap (λ (f : ℕ → List (List ℕ)). f b) (at_same w.queue n (λ b. w.queue n b ++ waiting_for S w b sends))
        ∙ both_none (w.queue n b) (waiting_for S w b sends) (h n b out) (none_for w b sends out))
    | inr p ↦ ap (λ (f : ℕ → List (List ℕ)). f b) (at_other w.queue n (λ b. w.queue n b ++ waiting_for S w b sends) a p) ∙ h a b out
  ]

  -- the others run as before, and what waits is as before but at this node, for which nothing waits
  drop_keeps : (w v : World) (n : ℕ) → ((b : ℕ) → (b ≡ n → ⊥) → v.node b ≡ w.node b) → ((a b : ℕ) → v.queue a b ≡ with_at (w.queue a) n [] b)
      → NobodyWaits w → NobodyWaits v
  drop_keeps w v n node queue h a b out = elim (cases_eq b n) [
    | inl p ↦ queue a b ∙ ap (with_at (w.queue a) n []) p ∙ at_same (w.queue a) n []
    | inr p ↦
        queue a b ∙ at_other (w.queue a) n [] b p
        ∙ h a b (ap (λ (x : Node). is_node S.rights b && not (S.hostile b) && x.up) (sym (node b p)) ∙ out)
  ]

  rest_none : (q : List (List ℕ)) → q ≡ [] → rest_of q ≡ []
  rest_none q p = ap rest_of p

  -- where one that is changed runs, it did or may now, nothing new waits
  node_keeps : (w : World) (n : ℕ) (x : Node) → (x.up ≡ false → (w.node n).up ≡ false) → NobodyWaits w
      → NobodyWaits (record w { node = with_at w.node n x })
  node_keeps w n x up h a b out = elim (cases_eq b n) [
    | inl p ↦ h a b (still (is_node S.rights b && not (S.hostile b)) x.up (w.node b).up (λ e. ap (λ z. (w.node z).up) p ∙ up e)
        (ap (λ (z : Node). is_node S.rights b && not (S.hostile b) && z.up) (sym (ap (with_at w.node n x) p ∙ at_same w.node n x)) ∙ out))
    | inr p ↦ h a b (ap (λ (z : Node). is_node S.rights b && not (S.hostile b) && z.up) (sym (at_other w.node n x b p)) ∙ out)
  ]
    where
      still : (node new old : Bool) → (new ≡ false → old ≡ false) → (node && new) ≡ false → (node && old) ≡ false
      still true new old h e = h e
      still false new old h e = refl

  taken_keeps : (w : World) (c d : ℕ) → NobodyWaits w → NobodyWaits (ready S w (i.Deliver c d))
  taken_keeps w c d h a b out = elim (cases_eq a c) [
    | inl p ↦ elim (cases_eq b d) [
      | inl q ↦
          ap (λ z. with_at w.queue c (with_at (w.queue c) d (rest_of (w.queue c d))) z b) p
          ∙ ap (λ (f : ℕ → List (List ℕ)). f b) (at_same w.queue c (with_at (w.queue c) d (rest_of (w.queue c d))))
          ∙ ap (with_at (w.queue c) d (rest_of (w.queue c d))) q
          ∙ at_same (w.queue c) d (rest_of (w.queue c d))
          ∙ rest_none (w.queue c d) (ap (w.queue c) (sym q) ∙ h c b out)
      | inr q ↦
          ap (λ z. with_at w.queue c (with_at (w.queue c) d (rest_of (w.queue c d))) z b) p
          ∙ ap (λ (f : ℕ → List (List ℕ)). f b) (at_same w.queue c (with_at (w.queue c) d (rest_of (w.queue c d))))
          ∙ at_other (w.queue c) d (rest_of (w.queue c d)) b q
          ∙ h c b out
    ]
    | inr p ↦
        ap (λ (f : ℕ → List (List ℕ)). f b) (at_other w.queue c (with_at (w.queue c) d (rest_of (w.queue c d))) a p) ∙ h a b out
  ]

  ready_keeps : (w : World) (e : Inner) → NobodyWaits w → NobodyWaits (ready S w e)
  ready_keeps w (i.Begin n) h = h
  ready_keeps w (i.Resume n) h = h
  ready_keeps w (i.Idle n s) h = h
  ready_keeps w (i.Recover n) h = node_keeps w n (record (w.node n) { torn = []; up = true }) (λ e. absurd (cc)) h
  ready_keeps w (i.Deliver c d) h = taken_keeps w c d h

  posted_keeps : (w : World) (h : ℕ) (posts : List (ℕ × List ℕ)) → NobodyWaits w → NobodyWaits (posted S w h posts)
  posted_keeps w h [] keeps = keeps
  posted_keeps w h (post ∷ more) keeps = sends_keep w h (post ∷ []) keeps

  -- behind what is ready and has acted
  pub acted_keeps : (w : World) (e : Inner) → NobodyWaits w → NobodyWaits (at_node S (ready S w e) (node_of e) (acted S (act S w e)))
  acted_keeps w e h =
      node_keeps (ready S w e) (node_of e) (acted S (act S w e) ((ready S w e).node (node_of e))) (λ p. p) (ready_keeps w e h)

  steps_keep : (w : World) (form : Form) → NobodyWaits w → NobodyWaits (steps S w form)
  steps_keep w (Does e) h = sends_keep (at_node S (ready S w e) (node_of e) (acted S (act S w e))) (node_of e) _ (acted_keeps w e h)
  steps_keep w (Cuts keep e) h =
      drop_keeps (ready S w e) (steps S w (Cuts keep e)) (node_of e)
      (λ b p.
      at_other (at_node S (ready S w e) (node_of e) (cut S keep (act S w e).entry)).node (node_of e) _ b p
      ∙ at_other (ready S w e).node (node_of e) _ b p)
      (λ a b. refl) (ready_keeps w e h)
  steps_keep w (Fails keep e) h =
      drop_keeps w (steps S w (Fails keep e)) (node_of e)
      (λ b p. at_other (down S w (node_of e)).node (node_of e) _ b p ∙ at_other w.node (node_of e) _ b p)
      (λ a b. refl) h
  steps_keep w (Posts x) h = posted_keeps w x (w.posts x) h
  steps_keep w (Crashes n) h = drop_keeps w (steps S w (Crashes n)) n (λ b p. at_other w.node n _ b p) (λ a b. refl) h
  steps_keep w Never h = h

  runs_keep : (moves : List Move) (w : World) → NobodyWaits w → NobodyWaits (runs S w moves)
  runs_keep [] w h = h
  runs_keep (move ∷ moves) w h = runs_keep moves (step S w move) (steps_keep w (form_of move) h)

  -- behind every run
  pub nobody_waits : (moves : List Move) → NobodyWaits (runs S (at_start S) moves)
  nobody_waits moves = runs_keep moves (at_start S) waiting_start
