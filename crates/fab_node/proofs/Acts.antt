-- A node does at an event what it does by itself, and an event changes no other node.
use Rattle.std.proofs.Common.{◌≡◌, ℕ, true, Option, Some, None, refl, ap, ◌∙◌}
use Rattle.std.proofs.lemmas.Bool.{eq-eqb, ne_eqb}
use Rattle.fab_base.specs.declared.message.Message.{Message}
use Rattle.fab_net.specs.declared.event.Inner.{Inner}
use Rattle.fab_net.specs.declared.event.Inner.TheVariants as i
use Rattle.fab_world.specs.Machine.{Setting, World, Node, Does, Cuts, Fails, Crashes, with_at, node_of, front_of, bytes_in, act, acted, hears, ready, cut, steps}
use Rattle.fab_world.specs.Machine as machine
use Rattle.fab_settings.specs.Settings.{setting_of}
use Rattle.fab_node.specs.Standing.{GivenModel}
use Rattle.fab_node.specs.Deeds.{alone, deed, done_by, down, failed, cut_at, readied, woken}

-- ---- what it does

hears_alone : (S : Setting) (w : World) (a b : ℕ) (heard : Option Message) → hears S w a b heard ≡ hears S (alone (w.node b) (front_of (w.queue a b))) a b heard
hears_alone S w a b None = refl
hears_alone S w a b (Some message) = refl

act_alone : (S : Setting) (w : World) (e : Inner) → act S w e ≡ act S (alone (w.node (node_of e)) (bytes_in S w e)) e
act_alone S w (i.Begin n) = refl
act_alone S w (i.Resume n) = refl
act_alone S w (i.Deliver a b) = hears_alone S w a b (S.read (front_of (w.queue a b)))
act_alone S w (i.Idle n s) = refl
act_alone S w (i.Recover n) = refl

-- the act of an event is the deed of its node
pub is_deed : (g : GivenModel) (w : World) (e : Inner)
    → act (setting_of g.program g.rights) w e ≡ deed g (w.node (node_of e)) e (bytes_in (setting_of g.program g.rights) w e)
is_deed g w e = act_alone (setting_of g.program g.rights) w e

-- ---- tables by number, with one place changed

pub at_same : {A : Type 0} (f : ℕ → A) (n : ℕ) (x : A) → with_at f n x n ≡ x
at_same f n x = rw (eq-eqb n n refl) refl

pub at_other : {A : Type 0} (f : ℕ → A) (n : ℕ) (x : A) (m : ℕ) → (m ≡ n → ⊥) → with_at f n x m ≡ f m
at_other f n x m ne = rw (ne_eqb m n ne) refl

-- ---- what becomes of the nodes

module _ (S : Setting) where
  ready_own : (w : World) (e : Inner) → (ready S w e).node (node_of e) ≡ readied e (w.node (node_of e))
  ready_own w (i.Begin n) = refl
  ready_own w (i.Resume n) = refl
  ready_own w (i.Deliver a b) = refl
  ready_own w (i.Idle n s) = refl
  ready_own w (i.Recover n) = at_same w.node n (woken (w.node n))

  ready_other : (w : World) (e : Inner) (x : ℕ) → (x ≡ node_of e → ⊥) → (ready S w e).node x ≡ w.node x
  ready_other w (i.Begin n) x apart = refl
  ready_other w (i.Resume n) x apart = refl
  ready_other w (i.Deliver a b) x apart = refl
  ready_other w (i.Idle n s) x apart = refl
  ready_other w (i.Recover n) x apart = at_other w.node n (woken (w.node n)) x apart

  -- an event that is done
  pub does_own : (w : World) (e : Inner) → (steps S w (Does e)).node (node_of e) ≡ done_by (act S w e) (readied e (w.node (node_of e)))
  does_own w e =
      at_same (ready S w e).node (node_of e) (done_by (act S w e) ((ready S w e).node (node_of e))) ∙ ap (done_by (act S w e)) (ready_own w e)

  pub does_other : (w : World) (e : Inner) (x : ℕ) → (x ≡ node_of e → ⊥) → (steps S w (Does e)).node x ≡ w.node x
  does_other w e x apart =
      at_other (ready S w e).node (node_of e) (done_by (act S w e) ((ready S w e).node (node_of e))) x apart ∙ ready_other w e x apart

  -- a node that goes down
  down_own : (w : World) (n : ℕ) → (machine.down S w n).node n ≡ down (w.node n)
  down_own w n = at_same w.node n (down (w.node n))

  down_other : (w : World) (n x : ℕ) → (x ≡ n → ⊥) → (machine.down S w n).node x ≡ w.node x
  down_other w n x apart = at_other w.node n (down (w.node n)) x apart

  pub crashes_own : (w : World) (n : ℕ) → (steps S w (Crashes n)).node n ≡ down (w.node n)
  crashes_own w n = down_own w n

  pub crashes_other : (w : World) (n x : ℕ) → (x ≡ n → ⊥) → (steps S w (Crashes n)).node x ≡ w.node x
  crashes_other w n x apart = down_other w n x apart

  -- an event whose journal failed
  pub fails_own : (w : World) (keep : ℕ) (e : Inner) → (steps S w (Fails keep e)).node (node_of e) ≡ failed (w.node (node_of e))
  fails_own w keep e =
      let n = node_of e in
      at_same (machine.down S w n).node n (record ((machine.down S w n).node n) { failed = true })
      ∙ ap (λ (y : Node). record y { failed = true }) (down_own w n)

  pub fails_other : (w : World) (keep : ℕ) (e : Inner) (x : ℕ) → (x ≡ node_of e → ⊥) → (steps S w (Fails keep e)).node x ≡ w.node x
  fails_other w keep e x apart =
      let n = node_of e in
      at_other (machine.down S w n).node n (record ((machine.down S w n).node n) { failed = true }) x apart ∙ down_other w n x apart

  -- an event that is cut
  abbrev cut_node : World → ℕ → Inner → Node
  cut_node w keep e = cut S keep (act S w e).entry ((ready S w e).node (node_of e))

  cuts_first : (w : World) (keep : ℕ) (e : Inner) → (steps S w (Cuts keep e)).node (node_of e) ≡ down (cut S keep (act S w e).entry (readied e (w.node (node_of e))))
  cuts_first w keep e =
      let n = node_of e in
      let f = with_at (ready S w e).node n (cut_node w keep e) in
      at_same f n (down (f n))
      ∙ ap down (at_same (ready S w e).node n (cut_node w keep e))
      ∙ ap (λ (y : Node). down (cut S keep (act S w e).entry y)) (ready_own w e)

  pub cuts_other : (w : World) (keep : ℕ) (e : Inner) (x : ℕ) → (x ≡ node_of e → ⊥) → (steps S w (Cuts keep e)).node x ≡ w.node x
  cuts_other w keep e x apart =
      let n = node_of e in
      let f = with_at (ready S w e).node n (cut_node w keep e) in
      at_other f n (down (f n)) x apart
      ∙ at_other (ready S w e).node n (cut_node w keep e) x apart
      ∙ ready_other w e x apart

pub cuts_own : (g : GivenModel) (w : World) (keep : ℕ) (e : Inner)
    → (steps (setting_of g.program g.rights) w (Cuts keep e)).node (node_of e) ≡ cut_at g keep (act (setting_of g.program g.rights) w e) (readied e (w.node (node_of e)))
cuts_own g w keep e = cuts_first (setting_of g.program g.rights) w keep e
