-- Who prepares waits for one node at least, and for stores alone, in each act.
use Rattle.std.proofs.Common.{◌≡◌, ◌⊎◌, ℕ, ◌++◌, List, [], ◌∷◌, map, Bool, true, false, not, if◌then◌else◌, ◌==◌, nat_lt, IsTrue}
use Rattle.std.proofs.Common.{refl, sym, subst, inl, inr}
use Rattle.std.specs.List.{fold}
use Rattle.fab_base.specs.declared.object.Oid.{Oid}
use Rattle.fab_base.specs.declared.object.Object.{Object}
use Rattle.fab_base.specs.declared.object.Tid.{Tid}
use Rattle.fab_base.specs.declared.message.Message.{Message}
use Rattle.fab_base.specs.FieldSpelling.{IsTid}
use Rattle.fab_base.specs.FlatMap.{FlatMap, map_of, is_among}
use Rattle.fab_base.proofs.Lists.{all_map}
use Rattle.fab_language.specs.Heaps.{touched}
use Rattle.fab_language.specs.Meaning.{Meant}
use Rattle.fab_net.specs.declared.event.Inner.{Inner}
use Rattle.fab_net.specs.declared.event.Inner.TheVariants as i
use Rattle.fab_net.specs.declared.note.Commit.{Commit}
use Rattle.fab_rights.specs.declared.rights.Rights.{Rights}
use Rattle.fab_rights.specs.Computed.{is_store}
use Rattle.fab_protocol.specs.declared.parts.Parts.{Parts}
use Rattle.fab_protocol.specs.Parts.{stores_of, touched_names, with_number}
use Rattle.fab_protocol.specs.Versions.{objects_of, version_of}
use Rattle.fab_world.specs.Attempts.{parts_of}
use Rattle.fab_world.specs.Machine.{Setting, World, kept, node_of, act, is_empty, front_of, meant, parts}
use Rattle.fab_world.specs.Serial.{IsSetting, IsEvaluation, IsFit, IsFitName, AreFit}
use Rattle.fab_world.specs.Workers as workers
use Rattle.fab_world.specs.Workers.{Kept, Phase, Attempt, Act, not_voted, request_of, resumes, takes, tid_of}
use Rattle.fab_world.proofs.WorkerActs.{heard, resumed, taken, woken}
use Rattle.fab_integrity.proofs.Invariant.{In, State, WorkerOk, IsWorker, standing}
use Rattle.fab_integrity.proofs.Lists.{in_append, in_filter, in_map, all_of, each_of}
use Rattle.fab_integrity.proofs.Maps.{all_put, ascends_put_all}
use Rattle.fab_integrity.proofs.Tids.{tid_spelled}
use Rattle.fab_protocol.proofs.Records.{worker_below}

-- ---- what is waited for

-- at least one, and stores alone
pub record AreAwaited (rights : Rights) (ls : List ℕ) : Type 0 where
  pub some : is_empty ls ≡ false
  pub each : (l : ℕ) → In l ls → IsTrue (is_store rights l)

abbrev pub Waits : Rights → Phase → Type 0
Waits rights (workers.Preparing ls) = AreAwaited rights ls
Waits rights workers.Idle = Unit {0}
Waits rights workers.Evaluating = Unit {0}
Waits rights (workers.Fetching o) = Unit {0}

-- these are stores
abbrev pub AllStores : Rights → List ℕ → Type 0
AllStores rights ls = (l : ℕ) → In l ls → IsTrue (is_store rights l)

not_voted_stores : (rights : Rights) (phase : Phase) → Waits rights phase → AllStores rights (not_voted phase)
not_voted_stores rights (workers.Preparing ls) h l i = h.each l i
not_voted_stores rights workers.Idle h l i = absurd i
not_voted_stores rights workers.Evaluating h l i = absurd i
not_voted_stores rights (workers.Fetching o) h l i = absurd i

-- ---- a worker's acts

abbrev On : Rights → Act → Type 0
On rights act = Waits rights act.attempt.phase

module _ (rights : Rights) (k n : ℕ) (kept : Kept) where
  on_resumes : (a : Attempt) (meant : Meant) → Waits rights a.phase → AllStores rights (stores_of (parts_of a.answers meant)) → On rights (resumes rights k n kept a meant)
  on_resumes a meant h part = resumed rights k n kept a meant (On rights) (record {
    finds = λ site o row is there. h;
    fetches = λ site o is none. tt;
    decides = λ value is none. tt;
    asks = λ value s ss is at. record { some = refl; each = subst (AllStores rights) at part };
    fails = λ is. tt;
    stops = λ limit is. tt;
  })

  on_takes : (s : ℕ) (message : Message) (a : Attempt) (parts : Parts) → Waits rights a.phase → On rights (takes rights k n kept s message a parts)
  on_takes s message a parts h = taken rights k n kept s a parts message (On rights) (record {
    rests = λ e. h;
    learns = λ x e. tt;
    denied = λ reason x. tt;
    tires = λ x e. tt;
    tries = λ x e. tt;
    gives_up = λ x e. tt;
    aborts = λ x e. tt;
    decides = λ x e. tt;
    waits = λ x l ls e. record {
      some = refl;
      each = subst (AllStores rights) e (λ z i. not_voted_stores rights a.phase h z (in_filter (λ l. not (l == s)) z (not_voted a.phase) i).0);
    };
    commits = λ x e. h;
    forgets = λ x e g. h;
  })

-- ---- an event's act

-- behind an event that may come its node waits for stores, where those that take part are stores
pub waits_act : (S : Setting) (w : World) (e : Inner) → AllStores S.rights (stores_of (parts S w (node_of e))) → Waits S.rights (w.node (node_of e)).attempt.phase
    → Waits S.rights (act S w e).attempt.phase
waits_act S w (i.Begin n) part h = tt
waits_act S w (i.Resume n) part h = on_resumes S.rights S.cache n (kept S w n) (w.node n).attempt (meant S w n) h part
waits_act S w (i.Deliver a b) part h =
    heard S w (On S.rights) a b h (λ message worker. on_takes S.rights S.cache b (kept S w b) a message (w.node b).attempt (parts S w b) h) (λ message store. h)
    (S.read (front_of (w.queue a b)))
waits_act S w (i.Idle n s) part h = tt
waits_act S w (i.Recover n) part h = woken S w (On S.rights) n (λ worker. tt) (λ store. h)

-- ---- those that take part

with_from : (x n : ℕ) (ms : List ℕ) → In x (with_number ms n) → (x ≡ n) ⊎ In x ms
with_from x n [] i = i
with_from x n (m ∷ ms) i =
    elim (nat_lt n m) as (λ b. In x (if b then n ∷ m ∷ ms else (if n == m then m ∷ ms else m ∷ with_number ms n)) → (x ≡ n) ⊎ In x (m ∷ ms)) [
      | true ↦ λ h. h
      | false ↦ λ h. elim (n == m) as (λ b. In x (if b then m ∷ ms else m ∷ with_number ms n) → (x ≡ n) ⊎ In x (m ∷ ms)) [
        | true ↦ λ g. inr g
        | false ↦ λ g. elim g [ inl e ↦ inr (inl e) | inr t ↦ elim (with_from x n ms t) [ inl e ↦ inl e | inr u ↦ inr (inr u) ] ]
      ] h
    ] i

numbers_from : (x : ℕ) (ns known : List ℕ) → In x (fold with_number known ns) → In x known ⊎ In x ns
numbers_from x [] known h = inl h
numbers_from x (n ∷ ns) known h = elim (numbers_from x ns (with_number known n) h) [
  | inl a ↦ elim (with_from x n known a) [ inl e ↦ inr (inl e) | inr b ↦ inl b ]
  | inr c ↦ inr (inr c)
]

-- a store takes part by an object that was touched or made
record IsPart (parts : Parts) (l : ℕ) : Type 0 where
  name : Oid
  listed : In name (touched_names parts) ⊎ In name (map (λ (c : Oid × Object). c.0) parts.creates)
  at : l ≡ name.store

part_from : (parts : Parts) (l : ℕ) → In l (stores_of parts) → IsPart parts l
part_from parts l h =
    let names : List Oid = touched_names parts ++ map (λ (c : Oid × Object). c.0) parts.creates in
    elim (numbers_from l (map (λ (o : Oid). o.store) names) [] h) [
      | inl none ↦ absurd none
      | inr listed ↦
          let r = in_map (λ (o : Oid). o.store) l names listed in
          record { name = r.0; listed = in_append r.0 (touched_names parts) (map (λ (c : Oid × Object). c.0) parts.creates) r.1; at = r.2 }
    ]

-- a fitting name is at a store
pub named_store : (S : Setting) → IsSetting S → (o : Oid) → IsFitName S o → IsTrue (is_store S.rights o.store)
named_store S given o fit = given.holders o.store o.class fit.placed

module _ (S : Setting) (D ex : ℕ → Bool) (given : IsSetting S) (law : IsEvaluation S) (w : World) (cs : List Commit) (C : State) (n : ℕ)
    (me : IsWorker S D ex n) (ok : WorkerOk S D ex n (standing S D ex w cs n) C) where
  abbrev a : Attempt
  a = (w.node n).attempt

  abbrev t : Tid
  t = tid_of n (kept S w n) a

  abbrev over : FlatMap
  over = map_of (objects_of a.answers)

  over_fit : AreFit S over
  over_fit =
      all_put (IsFit S) (objects_of a.answers) []
      (all_map (IsFit S) (λ row. (row.0, row.2)) a.answers (all_of (λ row. IsFit S (row.0, row.2)) a.answers (λ r h. (ok.answers r h).fit))) tt

  named : IsTid t
  named = tid_spelled n (kept S w n) a (worker_below S.rights n given.workers me.kind) ok.low

  touched_fits : (o : Oid) → In o (touched_names (parts S w n)) → IsFitName S o
  touched_fits o h =
      let r = in_map (λ (x : Oid × ℕ). x.0) o (parts S w n).touched h in
      let q = in_map (λ (p : Oid). (p, version_of a.answers p)) r.0 (touched (meant S w n).touches) r.1 in
      let same : o ≡ q.0 = subst (λ (x : Oid × ℕ). o ≡ x.0) q.2 r.2 in
      subst (IsFitName S) (sym same)
      (each_of (IsFitName S) (touched (meant S w n).touches) q.0 (law.touches n (request_of (kept S w n)) t over over_fit) q.1)

  made_fits : (o : Oid) → In o (map (λ (c : Oid × Object). c.0) (parts S w n).creates) → IsFitName S o
  made_fits o h =
      let r = in_map (λ (c : Oid × Object). c.0) o (parts S w n).creates h in
      let there = (in_filter (λ (c : Oid × Object). is_among c.0 (meant S w n).made) r.0 (meant S w n).map r.1).0 in
      subst (IsFitName S) (sym r.2)
      (each_of (IsFit S) (meant S w n).map r.0
      (law.fits n (request_of (kept S w n)) t over named (ascends_put_all (objects_of a.answers) [] refl) over_fit) there).name

  -- who takes part in an honest worker's attempt is a store
  pub all_stores : AllStores S.rights (stores_of (parts S w n))
  all_stores l h =
      let part = part_from (parts S w n) l h in
      let fit : IsFitName S part.name = elim part.listed [ inl x ↦ touched_fits part.name x | inr y ↦ made_fits part.name y ] in
      subst (λ z. IsTrue (is_store S.rights z)) (sym part.at) (named_store S given part.name fit)
