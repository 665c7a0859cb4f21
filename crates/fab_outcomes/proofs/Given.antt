-- The record of an act of worker n gives an outcome exactly where the event gives it.
use Rattle.std.proofs.Common.{◌≡◌, inl, inr, ℕ, suc, [], ◌∷◌, ◌++◌, true, false, ◌&&◌, ◌==◌, nat_lt, IsTrue, if◌then◌else◌}
use Rattle.std.proofs.Common.{Option, Some, None, refl, sym, ap, ◌∙◌, subst, true≢false, arith}
use Rattle.std.proofs.lemmas.Bool.{and_parts, and_left, and_right, eq-eqb, eqb-true, le-ltb}
use Rattle.std.proofs.lemmas.Option.{same_Some}
use Rattle.fab_base.specs.declared.object.Oid.{Oid}
use Rattle.fab_base.specs.declared.object.Object.{Object}
use Rattle.fab_base.specs.declared.message.Answer.{Answer}
use Rattle.fab_base.specs.declared.message.Answer.TheVariants.{Yes, Stale, Locked, Rights as NoRight, OldTid, IllFormed as Malformed, Exists}
use Rattle.fab_base.specs.declared.message.Message.{Message}
use Rattle.fab_base.specs.declared.message.Message.TheVariants as m
use Rattle.fab_base.specs.declared.message.Why.TheVariants as why
use Rattle.fab_language.specs.declared.ending.Ending.{Ending}
use Rattle.fab_language.specs.declared.ending.Ending.TheVariants as endings
use Rattle.fab_net.specs.declared.event.Inner.{Inner}
use Rattle.fab_net.specs.declared.event.Inner.TheVariants as i
use Rattle.fab_net.specs.declared.outcome.Denial.TheVariants.{Rights as NoRights, IllFormed}
use Rattle.fab_net.specs.declared.outcome.ReqOutcome.{ReqOutcome}
use Rattle.fab_net.specs.declared.outcome.ReqOutcome.TheVariants.{Committed, Failed, Conflict, Silent, Denied, Stopped, NodeDown, Unfinished}
use Rattle.fab_rights.specs.Computed.{is_store, is_worker, suits}
use Rattle.fab_protocol.specs.declared.parts.Parts.{Parts}
use Rattle.fab_protocol.specs.Stores.{says}
use Rattle.fab_world.specs.Machine.{Setting, World, kept, meant, parts, act, may, front_of, hears, of_store, shelf, node_of, is_idle}
use Rattle.fab_world.specs.Workers as workers
use Rattle.fab_world.specs.Workers.{Kept, Attempt, Act, stays, dropped, request_of, closes, gives, try_ends, got, denied, voted_by, resumes_at}
use Rattle.fab_world.specs.Workers.{awaits_object, awaits_vote, is_made_before, takes, takes_any}
use Rattle.fab_outcomes.specs.Causes.{loses_try, refuses, refuses_if, is_no, Gives, ComesTo, Hears, IsIll, Forbids, Misleads}
use Rattle.fab_outcomes.proofs.Records.{outcome_by, stopped_is}
use Rattle.fab_outcomes.proofs.Acts.{Comes, Goes, Loses, Commits, Ends, comes_at}

module _ (S : Setting) (w : World) (n lost : ℕ) (me : is_worker S.rights n ≡ true) (event : Inner) (can : IsTrue (may S w event))
    (counted : (w.node n).up ≡ true → (w.node n).attempt.tries ≡ lost) where
  abbrev k : Kept
  k = kept S w n

  abbrev a : Attempt
  a = (w.node n).attempt

  abbrev p : Parts
  p = parts S w n

  abbrev recorded : Option ReqOutcome
  recorded = outcome_by (act S w event).entry

  -- ---- what is recorded is given

  given_by : (o : ReqOutcome) → Comes S w n lost event (act S w event) → recorded ≡ Some o → Gives S w n (request_of k) lost o event
  given_by o (Goes none t l i) h = let no : None ≡ Some o = sym (ap outcome_by none) ∙ h in cc
  given_by o (Loses none t l i) h = let no : None ≡ Some o = sym (ap outcome_by none) ∙ h in cc
  given_by o (Commits value stores is t b i) h =
      subst (λ x. Gives S w n (request_of k) lost x event) (same_Some _ o (sym (ap outcome_by is) ∙ h)) (record { stores = stores; record_is = is })
  given_by o (Ends x is t g b i) h = subst (λ x. Gives S w n (request_of k) lost x event) (same_Some x o (sym is ∙ h)) g

  pub recorded_given : node_of event ≡ n → (o : ReqOutcome) → recorded ≡ Some o → Gives S w n (request_of k) lost o event
  recorded_given at o h = elim (comes_at S w n lost me event at can counted) [
    | inl c ↦ given_by o c.comes h
    | inr r ↦ let no : None ≡ Some o = sym r.none ∙ h in cc
  ]

  -- and the request was at work
  busy_by : (o : ReqOutcome) → Comes S w n lost event (act S w event) → recorded ≡ Some o → is_idle a.phase ≡ false
  busy_by o (Goes none t l i) h = let no : None ≡ Some o = sym (ap outcome_by none) ∙ h in cc
  busy_by o (Loses none t l i) h = let no : None ≡ Some o = sym (ap outcome_by none) ∙ h in cc
  busy_by o (Commits value stores is t b i) h = b
  busy_by o (Ends x is t g b i) h = b

  pub recorded_busy : node_of event ≡ n → (o : ReqOutcome) → recorded ≡ Some o → is_idle a.phase ≡ false
  recorded_busy at o h = elim (comes_at S w n lost me event at can counted) [
    | inl c ↦ busy_by o c.comes h
    | inr r ↦ let no : None ≡ Some o = sym r.none ∙ h in cc
  ]

  -- ---- what is given is recorded

  comes_recorded : (ending : Ending) (o : ReqOutcome) → outcome_by (resumes_at S.rights S.cache n k ending a (meant S w n)).entry ≡ Some o
      → ComesTo S w n ending event → recorded ≡ Some o
  comes_recorded ending o is c =
      ap (λ x. outcome_by (act S w x).entry) c.is ∙ ap (λ x. outcome_by (resumes_at S.rights S.cache n k x a (meant S w n)).entry) c.end ∙ is

  -- a message that a store sends is taken
  heard_is : (s : ℕ) (message : Message) → Hears S w n s message event → act S w event ≡ takes_any S.rights S.cache n k s message a p
  heard_is s message h =
      ap (act S w) h.is ∙ ap (hears S w s n) h.read
      ∙ ap (λ b. if b then takes S.rights S.cache n k s message a p else of_store S a (says S.rights n s message (shelf S w n))) me
      ∙ ap (λ b. if b then takes_any S.rights S.cache n k s message a p else stays a) h.store

  forbidden_recorded : (s : ℕ) → Forbids S w n s event → recorded ≡ Some (Denied s NoRights)
  forbidden_recorded s f =
      ap (λ (x : Act). outcome_by x.entry) (heard_is s (m.Deny f.tid f.name why.Rights) f.heard)
      ∙ ap (λ b. outcome_by (if b then gives S.rights S.cache n k (Denied s NoRights) a else stays a).entry) f.current

  ill_is : (o : Oid) (version : ℕ) (x : Object) → IsIll S w n o version x
      → suits S.rights o x && nat_lt 0 version && is_made_before S.rights S.cache n k o a ≡ false
  ill_is o version x (inl shape) = ap (λ b. b && nat_lt 0 version && is_made_before S.rights S.cache n k o a) shape
  ill_is o version x (inr (inl none)) =
      and_left (suits S.rights o x && nat_lt 0 version) (is_made_before S.rights S.cache n k o a)
      (and_right (suits S.rights o x) (nat_lt 0 version) (le-ltb 0 version (omega (arith, none))))
  ill_is o version x (inr (inr own)) = and_right (suits S.rights o x && nat_lt 0 version) (is_made_before S.rights S.cache n k o a) own

  misled_recorded : (s : ℕ) → Misleads S w n s event → recorded ≡ Some (Denied s IllFormed)
  misled_recorded s f =
      let taken : Act = stays (record a { phase = workers.Evaluating; answers = a.answers ++ (f.name, f.version, f.object) ∷ [] }) in
      ap (λ (x : Act). outcome_by x.entry) (heard_is s (m.Object f.tid f.name f.version f.object) f.heard)
      ∙ ap (λ b. outcome_by (if b then got S.rights S.cache n k s f.name f.version f.object a else stays a).entry) f.current
      ∙ ap (λ b. outcome_by (if b then taken else gives S.rights S.cache n k (Denied s IllFormed) a).entry) (ill_is f.name f.version f.object f.ill)

  -- ---- the eighth try in a row

  module _ (eight : suc lost ≡ 8) where
    tried_out : (w.node n).up ≡ true → outcome_by (try_ends S.rights S.cache n k a).entry ≡ Some Conflict
    tried_out up =
        ap (λ b. outcome_by (if b then closes S.rights S.cache n k Conflict a else stays (record (dropped a) { tries = suc a.tries })).entry)
        (eq-eqb (suc a.tries) 8 (ap suc (counted up) ∙ eight))

    no_recorded : (w.node n).up ≡ true → (s : ℕ) (answer : Answer) → is_no answer ≡ true
        → outcome_by (voted_by S.rights S.cache n k s answer a p).entry ≡ Some Conflict
    no_recorded up s Yes h = absurd (true≢false (sym h))
    no_recorded up s (Stale o version) h = tried_out up
    no_recorded up s (Locked u) h = tried_out up
    no_recorded up s (NoRight o) h = tried_out up
    no_recorded up s (OldTid u) h = tried_out up
    no_recorded up s (Malformed o) h = tried_out up
    no_recorded up s (Exists o) h = tried_out up

    refused_recorded : (w.node n).up ≡ true → (s : ℕ) (message : Message) → refuses S w n s message ≡ true
        → outcome_by (takes_any S.rights S.cache n k s message a p).entry ≡ Some Conflict
    refused_recorded up s (m.Vote t answer) h =
        let q = and_parts (awaits_vote S.rights S.cache n k s t a p a.phase) (is_no answer) h in
        ap (λ b. outcome_by (if b then voted_by S.rights S.cache n k s answer a p else stays a).entry) q.0 ∙ no_recorded up s answer q.1
    refused_recorded up s (m.Deny t o why.Missing) h =
        ap (λ b. outcome_by (if b then try_ends S.rights S.cache n k a else stays a).entry) h ∙ tried_out up
    refused_recorded up s (m.Deny t o why.Rights) h = absurd (true≢false (sym h))
    refused_recorded up s (m.Object t o version x) h = absurd (true≢false (sym h))
    refused_recorded up s (m.Inquire t) h = absurd (true≢false (sym h))
    refused_recorded up s (m.Fetch t o) h = absurd (true≢false (sym h))
    refused_recorded up s (m.Prepare t items) h = absurd (true≢false (sym h))
    refused_recorded up s (m.Commit t) h = absurd (true≢false (sym h))
    refused_recorded up s (m.Abort t) h = absurd (true≢false (sym h))
    refused_recorded up s (m.Boot b) h = absurd (true≢false (sym h))

    -- a message that was read is the one that refuses
    heard_recorded : (w.node n).up ≡ true → (s : ℕ) → event ≡ i.Deliver s n → is_store S.rights s ≡ true → (heard : Option Message)
        → S.read (front_of (w.queue s n)) ≡ heard → refuses_if S w n s heard ≡ true → recorded ≡ Some Conflict
    heard_recorded up s is store None read h = absurd (true≢false (sym h))
    heard_recorded up s is store (Some message) read h =
        ap (λ (x : Act). outcome_by x.entry) (heard_is s message (record { is = is; store = store; read = read })) ∙ refused_recorded up s message h

    lost_recorded : (x : Inner) → event ≡ x → IsTrue (may S w x) → loses_try S w n x ≡ true → recorded ≡ Some Conflict
    lost_recorded (i.Deliver s b) is may_x h =
        let q = and_parts (b == n) _ h in
        let r = and_parts (is_store S.rights s) _ q.1 in
        let here : b ≡ n = eqb-true b n q.0 in
        let up : (w.node b).up ≡ true = (and_parts _ _ (and_parts _ _ (and_parts _ _ may_x).0).0).1 in
        heard_recorded (subst (λ z. (w.node z).up ≡ true) here up) s (is ∙ ap (i.Deliver s) here) r.0 (S.read (front_of (w.queue s n))) refl r.1
    lost_recorded (i.Begin x) is may_x h = absurd (true≢false (sym h))
    lost_recorded (i.Resume x) is may_x h = absurd (true≢false (sym h))
    lost_recorded (i.Idle x s) is may_x h = absurd (true≢false (sym h))
    lost_recorded (i.Recover x) is may_x h = absurd (true≢false (sym h))

  pub given_recorded : (o : ReqOutcome) (r : ℕ) → Gives S w n r lost o event → recorded ≡ Some o
  given_recorded (Committed t value) r d = ap outcome_by d.record_is
  given_recorded Failed r c = comes_recorded endings.Failed Failed refl c
  given_recorded (Stopped limit) r c = comes_recorded (endings.Stopped limit) (Stopped limit) (stopped_is (request_of k) limit) c
  given_recorded (Silent s) r is = ap (λ x. outcome_by (act S w x).entry) is
  given_recorded (Denied s NoRights) r f = forbidden_recorded s f
  given_recorded (Denied s IllFormed) r f = misled_recorded s f
  given_recorded Conflict r c = lost_recorded c.1 event refl can c.0
  given_recorded NodeDown r no_ = absurd no_
  given_recorded Unfinished r no_ = absurd no_
