-- The marks that lines give to a run, and what becomes of the run with them: it is a run, and leads to the same but for nodes that failed.
use Rattle.std.proofs.Common.{◌≡◌, ◌⊎◌, inl, inr, ℕ, ◌+◌, ◌==◌, ◌||◌, ◌&&◌, Bool, true, false, not, List, [], ◌∷◌, refl, sym, ap, subst, ◌∙◌}
use Rattle.std.specs.List.{fold, list_any}
use Rattle.std.proofs.lemmas.Bool.{and_from, and_parts, both_ways, cases_Bool, cases_eq, eq-eqb, eqb-true, false≢true, ne_eqb, not-true, or_parts}
use Rattle.fab_net.specs.declared.event.Event.{Event}
use Rattle.fab_net.specs.declared.event.Event.TheVariants as ne
use Rattle.fab_net.specs.declared.event.Inner.{Inner}
use Rattle.fab_net.specs.declared.event.Inner.TheVariants as i
use Rattle.fab_net.specs.Events.{node_at, node_of}
use Rattle.fab_world.specs.Machine.{Form, Fails, Move, Node, Setting, World, are_enabled, down, enabled, form_by, form_of, logged, logs, may, runs, step, steps}
use Rattle.fab_world.specs.Serial.{attempts_at}
use Rattle.fab_integrity.proofs.Steps.{may_honest}
use Rattle.fab_integrity.proofs.Transport.{running_up}
use Rattle.fab_integrity.proofs.Worlds.{at_same, down_here}
use Rattle.fab_outcomes.specs.Causes.{fails}
use Rattle.fab_outcomes.specs.Causes as causes
use Rattle.fab_outcomes.proofs.Nodes.{Beside, Downs, Own, Touches, failed_steps, touches}
use Rattle.fab_outcomes.proofs.Tries.{failed_runs}
use Rattle.fab_failures.specs.Failures.{AreOthers, cut_first, failure, unmarked_log}
use Rattle.fab_failures.proofs.Broken.{Kept, kept}
use Rattle.fab_audit.specs.Runs.{has_failed}

-- ---- the marks

-- the mark of an event behind which these come, where these nodes have a request open
abbrev pub rule : (ℕ → Bool) → Event → List Move → Bool
rule waits (ne.CrashIn keep e) later = (keep == 0) && not (list_any (λ move. node_of e == node_at move.event) later) && not (waits (node_of e))
rule waits _ later = false

-- the same events, with these marks
abbrev pub ruled : (ℕ → Bool) → List Move → List Move
ruled waits [] = []
ruled waits (move ∷ moves) = record { event = move.event; marked = rule waits move.event moves } ∷ ruled waits moves

-- ---- a node that failed for good does nothing

module _ (S : Setting) where
  record IsOut (w : World) (n : ℕ) : Type 0 where
    honest : S.hostile n ≡ false
    fallen : (w.node n).up ≡ false
    failed : (w.node n).failed ≡ true

  out_may : (w : World) (e : Inner) → IsOut w (node_of e) → may S w e ≡ true → ⊥
  out_may w (i.Begin n) out h = both_ways (w.node n).up out.fallen (running_up S w n (and_parts _ _ (and_parts _ _ (and_parts _ _ h).0).0).0)
  out_may w (i.Resume n) out h = both_ways (w.node n).up out.fallen (running_up S w n (and_parts _ _ h).0)
  out_may w (i.Deliver a n) out h = both_ways (w.node n).up out.fallen (running_up S w n (and_parts _ _ (and_parts _ _ h).0).0)
  out_may w (i.Idle n s) out h = both_ways (w.node n).up out.fallen (running_up S w n (and_parts _ _ (and_parts _ _ (and_parts _ _ h).0).0).0)
  out_may w (i.Recover n) out h = both_ways (w.node n).failed (not-true (w.node n).failed (and_parts _ _ h).1) out.failed

  out_acts : (w : World) (marked : Bool) (event : Event) → IsOut w (node_at event) → enabled S w (form_by marked event) ≡ true → ⊥
  out_acts w false (ne.Begin n) out h = out_may w (i.Begin n) out h
  out_acts w false (ne.Resume n) out h = out_may w (i.Resume n) out h
  out_acts w false (ne.Deliver a n) out h = out_may w (i.Deliver a n) out h
  out_acts w false (ne.Idle n s) out h = out_may w (i.Idle n s) out h
  out_acts w false (ne.Recover n) out h = out_may w (i.Recover n) out h
  out_acts w false (ne.Post n) out h = both_ways (S.hostile n) out.honest (and_parts _ _ (and_parts _ _ h).0).1
  out_acts w false (ne.Crash n) out h = both_ways (w.node n).up out.fallen (running_up S w n h)
  out_acts w false (ne.CrashIn keep e) out h = out_may w e out (and_parts _ _ (and_parts _ _ h).0).0
  out_acts w true (ne.CrashIn keep e) out h = out_may w e out (and_parts _ _ (and_parts _ _ h).0).0
  out_acts w true event out h = false≢true h

  out_stays : (w : World) (form : Form) (n : ℕ) → IsOut w n → enabled S w form ≡ true → IsOut (steps S w form) n
  out_stays w form n out h = by (touches S w form n)
    where
      by : Touches S w form n → IsOut (steps S w form) n
      by (Own e is node) = absurd (out_may w e (subst (IsOut w) (sym node) out) (subst (λ (f : Form). enabled S w f ≡ true) is h))
      by (Beside apart) = record {
        honest = out.honest;
        fallen = ap (λ (x : Node). x.up) apart.node ∙ out.fallen;
        failed = ap (λ (x : Node). x.failed) apart.node ∙ out.failed;
      }
      by (Downs fallen fresh) = record { honest = out.honest; fallen = fallen; failed = failed_steps S w form n ∙ ap (λ b. b || fails n form) out.failed }

  -- no later event is its
  none_acts : (w : World) (n : ℕ) (moves : List Move) → IsOut w n → are_enabled S w moves ≡ true → list_any (λ move. n == node_at move.event) moves ≡ false
  none_acts w n [] out h = refl
  none_acts w n (move ∷ moves) out h =
      let p = and_parts (enabled S w (form_of move)) (are_enabled S (step S w move) moves) h in
      let other : (n == node_at move.event) ≡ false = ne_eqb n (node_at move.event) (λ same. out_acts w move.marked move.event (subst (IsOut w) same out) p.0) in
      ap (λ b. b || list_any (λ (m : Move). n == node_at m.event) moves) other ∙ none_acts (step S w move) n moves (out_stays w (form_of move) n out p.0) p.1

  -- behind an event in which a call of its journal failed
  fails_out : (w : World) (keep : ℕ) (e : Inner) → enabled S w (Fails keep e) ≡ true → IsOut (steps S w (Fails keep e)) (node_of e)
  fails_out w keep e h =
      let n = node_of e in
      let u = down S w n in
      let there = at_same u.node n (record (u.node n) { failed = true }) in
      record {
        honest = may_honest S w e (and_parts _ _ (and_parts _ _ h).0).0;
        fallen = ap (λ (x : Node). x.up) there ∙ ap (λ (x : Node). x.up) (down_here S w n);
        failed = ap (λ (x : Node). x.failed) there;
      }

  -- ---- a run with the marks

  module _ (waits : ℕ → Bool) where
    -- Of the second run from this world: it may come; what is logged is the same but for marks; and it leads to the same, but that nodes
    -- without a request open may have failed in it.
    pub record IsAlike (w : World) (first second : List Move) : Type 0 where
      pub may_come : are_enabled S w second ≡ true
      pub logged_same : unmarked_log (logs S w second) ≡ unmarked_log (logs S w first)
      pub begun : (k : ℕ) → fold (λ n move. n + attempts_at (form_of move)) k second ≡ fold (λ n move. n + attempts_at (form_of move)) k first
      pub entries : (n : ℕ) → ((runs S w second).node n).entries ≡ ((runs S w first).node n).entries
      pub failed : (n : ℕ) → (((runs S w second).node n).failed ≡ ((runs S w first).node n).failed)
          ⊎ ((((runs S w second).node n).failed ≡ true) × (waits n ≡ false))
      pub node : (n : ℕ) → has_failed second n ≡ false → (runs S w second).node n ≡ (runs S w first).node n
      pub marks : (n : ℕ) → has_failed second n ≡ false → has_failed first n ≡ false

    -- one more in front of both
    one_more : (w : World) (move : Move) (first second : List Move) → enabled S w (form_of move) ≡ true → IsAlike (step S w move) first second
        → IsAlike w (move ∷ first) (move ∷ second)
    one_more w move first second h later = record {
      may_come = and_from (enabled S w (form_of move)) (are_enabled S (step S w move) second) h later.may_come;
      logged_same = λ j. record (logged S w move) { marked = false } ∷ later.logged_same j;
      begun = λ k. later.begun (k + attempts_at (form_of move));
      entries = later.entries;
      failed = later.failed;
      node = λ n g. later.node n (or_parts (move.marked && (node_at move.event == n)) (has_failed second n) g).1;
      marks = λ n g.
          let q = or_parts (move.marked && (node_at move.event == n)) (has_failed second n) g in
          ap (λ b. b || has_failed first n) q.0 ∙ later.marks n q.1;
    }

    -- a mark more, where the event is its node's last, and the node has no request open
    not_at : (m n : ℕ) → (m == n) ≡ false → n ≡ m → ⊥
    not_at m n g p = both_ways (m == n) g (eq-eqb m n (sym p))

    one_failure : (w : World) (e : Inner) (first second : List Move) → AreOthers (node_of e) second → waits (node_of e) ≡ false
        → IsAlike w (cut_first e ∷ first) (cut_first e ∷ second) → IsAlike w (cut_first e ∷ first) (failure e ∷ second)
    one_failure w e first second others sound a =
        let k : Kept S [] second e w = kept S [] second e w others a.may_come in
        let u : World = runs S w (cut_first e ∷ second) in
        let v : World = runs S w (failure e ∷ second) in
        record {
          may_come = k.enabled_too;
          logged_same = k.logged_same ∙ a.logged_same;
          begun = a.begun;
          entries = λ n. elim (cases_eq n (node_of e)) [
            | inl p ↦ ap (λ m. (v.node m).entries) p ∙ k.broken.entries ∙ sym (ap (λ m. (u.node m).entries) p) ∙ a.entries n
            | inr p ↦ ap (λ (x : Node). x.entries) (k.broken.others n p) ∙ a.entries n
          ];
          failed = λ n. elim (cases_eq n (node_of e)) [
            | inl p ↦ inr (ap (λ m. (v.node m).failed) p ∙ k.broken.failed, ap waits p ∙ sound)
            | inr p ↦ elim (a.failed n) [
              | inl same ↦ inl (ap (λ (x : Node). x.failed) (k.broken.others n p) ∙ same)
              | inr q ↦ inr (ap (λ (x : Node). x.failed) (k.broken.others n p) ∙ q.0, q.1)
            ]
          ];
          node = λ n g. let q = or_parts (node_of e == n) (has_failed second n) g in k.broken.others n (not_at (node_of e) n q.0) ∙ a.node n q.1;
          marks = λ n g. a.marks n (or_parts (node_of e == n) (has_failed second n) g).1;
        }

    ruled_others : (n : ℕ) (moves : List Move) → list_any (λ move. n == node_at move.event) moves ≡ false → AreOthers n (ruled waits moves)
    ruled_others n [] h = tt
    ruled_others n (move ∷ moves) h =
        let q = or_parts (n == node_at move.event) (list_any (λ (m : Move). n == node_at m.event) moves) h in
        (λ same. both_ways (n == node_at move.event) q.0 (eq-eqb n (node_at move.event) (sym same)), ruled_others n moves q.1)

    -- no node that has a request open has failed in the end
    abbrev pub IsSound : World → Type 0
    IsSound w = (n : ℕ) → waits n ≡ true → (w.node n).failed ≡ false

    not_waiting : (n : ℕ) (w : World) → IsSound w → (w.node n).failed ≡ true → waits n ≡ false
    not_waiting n w sound h = elim (cases_Bool (waits n)) [
      | inl waiting ↦ absurd (both_ways (w.node n).failed (sound n waiting) h)
      | inr idle ↦ idle
    ]

    -- a mark that the run has, it has by the rule
    has_mark : (w : World) (keep : ℕ) (e : Inner) (moves : List Move) → enabled S w (Fails keep e) ≡ true → are_enabled S (steps S w (Fails keep e)) moves ≡ true
        → IsSound (runs S (steps S w (Fails keep e)) moves) → rule waits (ne.CrashIn keep e) moves ≡ true
    has_mark w keep e moves h rest sound =
        let n = node_of e in
        let v = steps S w (Fails keep e) in
        let out = fails_out w keep e h in
        let gone : ((runs S v moves).node n).failed ≡ true = failed_runs S n v moves ∙ ap (λ b. b || causes.has_failed n moves) out.failed in
        and_from _ _ (and_from _ _ (and_parts _ _ h).1 (ap not (none_acts v n moves out rest))) (ap not (not_waiting n (runs S v moves) sound gone))

    same_mark : (w : World) (marked : Bool) (event : Event) (first second : List Move) → rule waits event first ≡ marked
        → enabled S w (form_by marked event) ≡ true → IsAlike (steps S w (form_by marked event)) first second
        → IsAlike w (record { event = event; marked = marked } ∷ first) (record { event = event; marked = rule waits event first } ∷ second)
    same_mark w marked event first second e h later =
        subst (λ b. IsAlike w (record { event = event; marked = marked } ∷ first) (record { event = event; marked = b } ∷ second)) (sym e)
        (one_more w (record { event = event; marked = marked }) first second h later)

    head : (w : World) (marked : Bool) (event : Event) (moves : List Move) → enabled S w (form_by marked event) ≡ true
        → are_enabled S (steps S w (form_by marked event)) moves ≡ true → IsSound (runs S (steps S w (form_by marked event)) moves)
        → IsAlike (steps S w (form_by marked event)) moves (ruled waits moves)
        → IsAlike w (record { event = event; marked = marked } ∷ moves) (record { event = event; marked = rule waits event moves } ∷ ruled waits moves)
    head w false (ne.CrashIn keep e) moves h rest sound later = elim (cases_Bool (rule waits (ne.CrashIn keep e) moves)) [
      | inr is ↦ same_mark w false (ne.CrashIn keep e) moves (ruled waits moves) is h later
      | inl is ↦
          let p = and_parts ((keep == 0) && not (list_any (λ (m : Move). node_of e == node_at m.event) moves)) (not (waits (node_of e))) is in
          let q = and_parts (keep == 0) (not (list_any (λ (m : Move). node_of e == node_at m.event) moves)) p.0 in
          let one = one_more w (record { event = ne.CrashIn keep e; marked = false }) moves (ruled waits moves) h later in
          subst (λ b. IsAlike w (record { event = ne.CrashIn keep e; marked = false } ∷ moves) (record { event = ne.CrashIn keep e; marked = b } ∷ ruled waits moves)) (sym is)
          (subst (λ k. IsAlike w (record { event = ne.CrashIn k e; marked = false } ∷ moves) (record { event = ne.CrashIn k e; marked = true } ∷ ruled waits moves))
          (sym (eqb-true keep 0 q.0))
          (one_failure w e moves (ruled waits moves) (ruled_others (node_of e) moves (not-true _ q.1)) (not-true (waits (node_of e)) p.1)
          (subst (λ k. IsAlike w (record { event = ne.CrashIn k e; marked = false } ∷ moves) (record { event = ne.CrashIn k e; marked = false } ∷ ruled waits moves))
          (eqb-true keep 0 q.0) one)))
    ]
    head w false event moves h rest sound later = same_mark w false event moves (ruled waits moves) refl h later
    head w true (ne.CrashIn keep e) moves h rest sound later =
        same_mark w true (ne.CrashIn keep e) moves (ruled waits moves) (has_mark w keep e moves h rest sound) h later
    head w true event moves h rest sound later = absurd (false≢true h)

    pub ruled_alike : (w : World) (moves : List Move) → are_enabled S w moves ≡ true → IsSound (runs S w moves) → IsAlike w moves (ruled waits moves)
    ruled_alike w [] h sound =
        record { may_come = refl; logged_same = refl; begun = λ k. refl; entries = λ n. refl; failed = λ n. inl refl; node = λ n g. refl; marks = λ n g. refl }
    ruled_alike w (move ∷ moves) h sound =
        let p = and_parts (enabled S w (form_of move)) (are_enabled S (step S w move) moves) h in
        head w move.marked move.event moves p.0 p.1 sound (ruled_alike (step S w move) moves p.1 sound)
