-- What waits in a queue stays there until it is delivered, and what is sent to a node that is up waits.
use Rattle.std.proofs.Common.{◌≡◌, ◌⊎◌, inl, inr, ℕ, List, [], ◌∷◌, map, true, false, not, ◌&&◌, ◌==◌, IsTrue}
use Rattle.std.proofs.Common.{Some, refl, sym, ap, ◌∙◌, subst, true≢false, if◌then◌else◌}
use Rattle.std.specs.List.{filter}
use Rattle.std.proofs.lemmas.Bool.{and_from, cases_eq, eq-eqb, not_from_false}
use Rattle.fab_base.specs.declared.message.Message.{Message}
use Rattle.fab_base.specs.MessageSpelling.{IsBody, spelled}
use Rattle.fab_base.specs.FieldSpelling.{sent_version}
use Rattle.fab_net.specs.declared.event.Inner.{Inner}
use Rattle.fab_net.specs.declared.event.Inner.TheVariants as i
use Rattle.fab_rights.specs.Computed.{is_node}
use Rattle.fab_world.specs.Machine.{Setting, World, bytes_to, front_of, is_empty, lands, node_of, ready, rest_of}
use Rattle.fab_world.specs.Serial.{IsSetting}
use Rattle.fab_world.specs.Workers.{Act}
use Rattle.fab_integrity.proofs.Invariant.{In}
use Rattle.fab_integrity.proofs.Lists.{filter_in, in_left, in_right, map_in}
use Rattle.fab_integrity.proofs.Transport.{bytes_for, mutes, other_queue, out_of, out_to, queue_behind, queue_beside, taken_queue}
use Rattle.fab_ended.proofs.Short.{IsShort}

-- a message waits in a queue, and is one of these
pub record Comes (S : Setting) (queue : List (List ℕ)) (Fits : Message → Type 0) : Type 0 where
  pub bytes : List ℕ
  pub message : Message
  pub waits : In bytes queue
  pub read : S.read bytes ≡ Some message
  pub fits : Fits message

-- where something waits, a queue isn't empty
pub not_empty : (x : List ℕ) (q : List (List ℕ)) → In x q → is_empty q ≡ true → ⊥
not_empty x [] h e = absurd h
not_empty x (y ∷ ys) h e = true≢false (sym e)

front_or_rest : (x : List ℕ) (q : List (List ℕ)) → In x q → (x ≡ front_of q) ⊎ In x (rest_of q)
front_or_rest x [] h = absurd h
front_or_rest x (y ∷ ys) h = h

module _ (S : Setting) where
  -- ---- what is delivered, and what goes on waiting

  -- these bytes are delivered from x to b in the event
  pub record IsDelivered (w : World) (e : Inner) (x b : ℕ) (bytes : List ℕ) : Type 0 where
    pub event : e ≡ i.Deliver x b
    pub front : bytes ≡ front_of (w.queue x b)

  ready_waits : (w : World) (e : Inner) (x b : ℕ) (bytes : List ℕ) → In bytes (w.queue x b)
      → IsDelivered w e x b bytes ⊎ In bytes ((ready S w e).queue x b)
  ready_waits w (i.Begin n) x b bytes h = inr h
  ready_waits w (i.Resume n) x b bytes h = inr h
  ready_waits w (i.Idle n s) x b bytes h = inr h
  ready_waits w (i.Recover n) x b bytes h = inr h
  ready_waits w (i.Deliver a c) x b bytes h = elim (cases_eq x a) [
    | inr ne ↦ inr (subst (In bytes) (sym (other_queue S w a c x b (λ p. ne p.0))) h)
    | inl e ↦ elim (cases_eq b c) [
      | inr ne ↦ inr (subst (In bytes) (sym (other_queue S w a c x b (λ p. ne p.1))) h)
      | inl f ↦ elim (front_or_rest bytes (w.queue x b) h) [
        | inl front ↦ inl (record { event = λ k. i.Deliver (sym e k) (sym f k); front = front })
        | inr rest ↦
            inr (subst (λ y. In bytes ((ready S w (i.Deliver a c)).queue y b)) (sym e) (subst (λ z. In bytes ((ready S w (i.Deliver a c)).queue a z)) (sym f)
            (subst (In bytes) (sym (taken_queue S w a c)) (subst (λ z. In bytes (rest_of (w.queue a z))) f (subst (λ y. In bytes (rest_of (w.queue y b))) e rest)))))
      ]
    ]
  ]

  lands_waits : (w : World) (n : ℕ) (act : Act) (x b : ℕ) (bytes : List ℕ) → In bytes (w.queue x b) → In bytes ((lands S w n act).queue x b)
  lands_waits w n act x b bytes h = elim (cases_eq x n) [
    | inr ne ↦ subst (In bytes) (sym (queue_beside S w n act x b ne)) h
    | inl same ↦
        subst (λ y. In bytes ((lands S w n act).queue y b)) (sym same)
        (subst (In bytes) (sym (queue_behind S w n act b)) (in_left bytes (w.queue n b) _ (subst (λ y. In bytes (w.queue y b)) same h)))
  ]

  -- what waits is delivered in an event, or waits behind it, whatever its node does
  pub goes_on_waiting : (w : World) (e : Inner) (act : Act) (x b : ℕ) (bytes : List ℕ) → In bytes (w.queue x b)
      → IsDelivered w e x b bytes ⊎ In bytes ((lands S (ready S w e) (node_of e) act).queue x b)
  goes_on_waiting w e act x b bytes h = elim (ready_waits w e x b bytes h) [
    | inl d ↦ inl d
    | inr there ↦ inr (lands_waits (ready S w e) (node_of e) act x b bytes there)
  ]

  -- so it is with a message that comes
  pub comes_on : (w : World) (e : Inner) (act : Act) (x b : ℕ) (Fits : Message → Type 0) → (c : Comes S (w.queue x b) Fits)
      → IsDelivered w e x b c.bytes ⊎ Comes S ((lands S (ready S w e) (node_of e) act).queue x b) Fits
  comes_on w e act x b Fits c = elim (goes_on_waiting w e act x b c.bytes c.waits) [
    | inl d ↦ inl d
    | inr there ↦ inr (record { bytes = c.bytes; message = c.message; waits = there; read = c.read; fits = c.fits })
  ]

  -- ---- what is sent

  -- it waits for an honest node that is up
  sent_waits : (w : World) (n : ℕ) (act : Act) (b : ℕ) (message : Message) → IsTrue (is_node S.rights b) → S.hostile b ≡ false
      → ((mutes S w n act).node b).up ≡ true → In (b, message) act.sends → In (spelled message) ((lands S w n act).queue n b)
  sent_waits w n act b message node honest up h =
      let listed : In (spelled message) (bytes_for b act.sends) =
      map_in (λ (y : ℕ × Message). spelled y.1) (b, message) (filter (λ (y : ℕ × Message). y.0 == b) act.sends)
      (filter_in (λ (y : ℕ × Message). y.0 == b) (b, message) act.sends h (eq-eqb b b refl)) in
      let to_node : bytes_to S b (out_of act) ≡ bytes_for b act.sends =
      ap (λ t. if t then map (λ (x : ℕ × List ℕ). x.1) (filter (λ x. x.0 == b) (out_of act)) else []) node ∙ out_to b act.sends in
      let awake : (not (S.hostile b) && ((mutes S w n act).node b).up) ≡ true =
      and_from (not (S.hostile b)) ((mutes S w n act).node b).up (not_from_false (S.hostile b) honest) up in
      subst (In (spelled message)) (sym (queue_behind S w n act b))
      (in_right (spelled message) (w.queue n b) _
      (subst (In (spelled message)) (sym (ap (λ t. if t then bytes_to S b (out_of act) else []) awake ∙ to_node)) listed))

  -- ---- nodes

  module _ (given : IsSetting S) where
    -- a message that can be spelled in so few bytes is read as itself
    pub read_itself : (message : Message) → IsBody sent_version message → IsShort message → S.read (spelled message) ≡ Some message
    read_itself message body short =
        (given.read (spelled message) message).1 (record { short = short; spelled = (1, record { known = refl; body = body }, refl) })

    -- so it comes once it was sent to a node that is up
    pub sent_comes : (w : World) (n : ℕ) (act : Act) (b : ℕ) (message : Message) (Fits : Message → Type 0) → IsTrue (is_node S.rights b)
        → S.hostile b ≡ false → ((mutes S w n act).node b).up ≡ true → In (b, message) act.sends → IsBody sent_version message → IsShort message → Fits message
        → Comes S ((lands S w n act).queue n b) Fits
    sent_comes w n act b message Fits node honest up h body short fits = record {
      bytes = spelled message;
      message = message;
      waits = sent_waits w n act b message node honest up h;
      read = read_itself message body short;
      fits = fits;
    }
