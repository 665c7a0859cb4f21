-- How many Prepares an act sends to a store: no more than one per attempt.
use Rattle.std.proofs.Common.{◌≡◌, ℕ, suc, ◌+◌, ◌≤◌, List, [], ◌∷◌, ◌++◌, map, length, Bool, true, false}
use Rattle.std.proofs.Common.{◌&&◌, cond, IsTrue, Option, Some, None, refl, sym, ap, ◌∙◌, subst, arith, true≢false}
use Rattle.std.specs.Prelude.{◌==◌}
use Rattle.std.specs.List.{filter, flat_map, AllByRecursion}
use Rattle.std.proofs.lemmas.Bool.{and_parts}
use Rattle.std.proofs.lemmas.List.{append-nil, length-append, length-map}
use Rattle.std.proofs.lemmas.List.Elements.{filter-append, filter_agree}
use Rattle.fab_protocol.proofs.StoreActs.{answered}
use Rattle.fab_base.specs.declared.object.Object.{Object}
use Rattle.fab_base.specs.declared.object.Oid.{Oid}
use Rattle.fab_base.specs.declared.object.Tid.{Tid}
use Rattle.fab_base.specs.declared.message.Message.{Message}
use Rattle.fab_base.specs.declared.message.Message.TheVariants as m
use Rattle.fab_base.proofs.Lists.{all_append}
use Rattle.fab_language.specs.Meaning.{Meant}
use Rattle.fab_net.specs.declared.event.Inner.{Inner}
use Rattle.fab_net.specs.declared.event.Inner.TheVariants as i
use Rattle.fab_rights.specs.declared.rights.Rights.{Rights}
use Rattle.fab_rights.specs.Computed.{stores_in}
use Rattle.fab_protocol.specs.declared.parts.Decision.{Decision}
use Rattle.fab_protocol.specs.declared.parts.Parts.{Parts}
use Rattle.fab_protocol.specs.declared.said.Said.{Said}
use Rattle.fab_protocol.specs.Parts.{items_at, stores_of, touched_names}
use Rattle.fab_protocol.specs.Stores as stores
use Rattle.fab_protocol.specs.Stores.{Prepared, Shelf}
use Rattle.fab_world.specs.Attempts.{parts_of}
use Rattle.fab_world.specs.Machine.{Setting, World, kept, shelf, node_of, act, front_of, is_evaluating, may, meant, of_store, parts}
use Rattle.fab_world.specs.Serial.{attempts_in}
use Rattle.fab_world.specs.Workers as workers
use Rattle.fab_world.specs.Workers.{Kept, Phase, Attempt, Act, aborts, gives_up, resumes, takes, tid_of, to_all, wakes}
use Rattle.fab_world.proofs.WorkerActs.{heard, resumed, silenced, taken, woken}
use Rattle.fab_shadow.proofs.Lists.{Rising, filter_of_map, gathered_rise, never_twice}

-- an attempt that may still ask for votes
abbrev pub may_ask : Phase → ℕ
may_ask workers.Idle = 0
may_ask workers.Evaluating = 1
may_ask (workers.Fetching o) = 1
may_ask (workers.Preparing ls) = 0

abbrev pub is_prepare : Message → Bool
is_prepare (m.Prepare t items) = true
is_prepare _ = false

-- a message that is heard asks for a vote
abbrev pub asks : Option Message → Bool
asks None = false
asks (Some message) = is_prepare message

abbrev pub asks_of : ℕ → ℕ × Message → Bool
asks_of s y = (y.0 == s) && is_prepare y.1

-- how many Prepares go to a store
abbrev pub asks_in : ℕ → List (ℕ × Message) → ℕ
asks_in s sends = length (filter (asks_of s) sends)

pub count_append : {A : Type 0} (p : A → Bool) (xs ys : List A) → length (filter p (xs ++ ys)) ≡ length (filter p xs) + length (filter p ys)
count_append p xs ys = ap length (filter-append p xs ys) ∙ length-append (filter p xs) (filter p ys)

-- a message that is none counts nothing
no_step : (s n : ℕ) (message : Message) (rest : List (ℕ × Message)) → is_prepare message ≡ false → filter (asks_of s) rest ≡ [] → (b : Bool) → (n == s) ≡ b
    → cond (b && is_prepare message) ((n, message) ∷ filter (asks_of s) rest) (filter (asks_of s) rest) ≡ []
no_step s n message rest no_ same true e = ap (λ b. cond b ((n, message) ∷ filter (asks_of s) rest) (filter (asks_of s) rest)) no_ ∙ same
no_step s n message rest no_ same false e = same

abbrev IsNoPrepare : ℕ × Message → Type 0
IsNoPrepare y = is_prepare y.1 ≡ false

pub none_asked : (s : ℕ) (sends : List (ℕ × Message)) → AllByRecursion IsNoPrepare sends → asks_in s sends ≡ 0
none_asked s sends h = ap length (none sends h)
  where
    none : (sends : List (ℕ × Message)) → AllByRecursion IsNoPrepare sends → filter (asks_of s) sends ≡ []
    none [] h = refl
    none (y ∷ ys) h = no_step s y.0 y.1 ys h.0 (none ys h.1) (y.0 == s) refl

all_told : (ss : List ℕ) (message : Message) → is_prepare message ≡ false → AllByRecursion IsNoPrepare (to_all ss message)
all_told [] message h = tt
all_told (s ∷ ss) message h = (h, all_told ss message h)

abbrev ask_by : Tid → Parts → ℕ → ℕ × Message
ask_by t parts z = (z, m.Prepare t (items_at parts z))

-- each of some stores once
asked_once : (t : Tid) (parts : Parts) (s : ℕ) (ss : List ℕ) → Rising ss → asks_in s (map (ask_by t parts) ss) ≤ 1
asked_once t parts s ss rising =
    let same : asks_in s (map (ask_by t parts) ss) ≡ length (filter (λ z. z == s) ss) =
    ap length (filter_of_map (asks_of s) (ask_by t parts) ss) ∙ map_length (filter (λ z. (z == s) && true) ss) ∙ ap length (plain ss) in
    let few = never_twice s ss rising in
    omega (arith, same, few)
  where
    map_length : (zs : List ℕ) → length (map (ask_by t parts) zs) ≡ length zs
    map_length zs = length-map zs (ask_by t parts)

    and_true : (b : Bool) → (b && true) ≡ b
    and_true true = refl
    and_true false = refl

    plain : (zs : List ℕ) → filter (λ z. (z == s) && true) zs ≡ filter (λ z. z == s) zs
    plain zs = filter_agree (λ z. (z == s) && true) (λ z. z == s) (λ z. and_true (z == s)) zs

module _ (P : Type 0) (s : ℕ) where
  -- of an act over an attempt that is in this phase: the Prepares that it sends to s, and those that may be sent then, are as many as might be before, and so many more
  pub record Asks (phase : Phase) (act : Act) (more : ℕ) : Type 0 where
    pub few : P → asks_in s act.sends + may_ask act.attempt.phase ≤ may_ask phase + more

  module _ (rights : Rights) (k n : ℕ) (kept : Kept) (a : Attempt) where
    abbrev On : Act → Type 0
    On act = Asks a.phase act 0

    asks_quiet : (act : Act) → AllByRecursion IsNoPrepare act.sends → (P → may_ask act.attempt.phase ≤ may_ask a.phase) → On act
    asks_quiet act quiet rests = let none = none_asked s act.sends quiet in record { few = λ p. let less = rests p in omega (arith, none, less) }

    asks_resumes : (meant : Meant) → (P → may_ask a.phase ≡ 1) → On (resumes rights k n kept a meant)
    asks_resumes meant on =
        let parts : Parts = parts_of a.answers meant in
        let rising = gathered_rise (map (λ (o : Oid). o.store) (touched_names parts ++ map (λ (c : Oid × Object). c.0) parts.creates)) [] tt in
        resumed rights k n kept a meant On (record {
          finds = λ site o row is there. asks_quiet _ tt (λ p. omega arith);
          fetches = λ site o is none. asks_quiet _ (refl, tt) (λ p. let one = on p in omega (arith, one));
          decides = λ value is none. asks_quiet _ (all_told (stores_of parts) (m.Commit (tid_of n kept a)) refl) (λ p. omega arith);
          asks = λ value z ss is at.
              let sends = map (ask_by (tid_of n kept a) parts) (z ∷ ss) in
              let few = asked_once (tid_of n kept a) parts s (z ∷ ss) (subst Rising at rising) in
              let same : asks_in s (sends ++ []) ≡ asks_in s sends = ap (asks_in s) (append-nil sends) in
              record { few = λ p. let one = on p in omega (arith, few, same, one) };
          fails = λ is. asks_quiet _ tt (λ p. omega arith);
          stops = λ limit is. asks_quiet _ tt (λ p. omega arith);
        })

    aborted : (parts : Parts) → AllByRecursion IsNoPrepare (aborts rights k n kept a parts ++ [])
    aborted parts = all_append IsNoPrepare (aborts rights k n kept a parts) [] (all_told (stores_of parts) (m.Abort (tid_of n kept a)) refl) tt

    asks_takes : (z : ℕ) (message : Message) (parts : Parts) → On (takes rights k n kept z message a parts)
    asks_takes z message parts = taken rights k n kept z a parts message On (record {
      rests = λ e. asks_quiet _ tt (λ p. omega arith);
      learns = λ x e. asks_quiet _ tt (λ p. let one : may_ask a.phase ≡ 1 = ap may_ask x.awaited.phase_is in omega (arith, one));
      denied = λ reason x. asks_quiet _ tt (λ p. omega arith);
      tires = λ x e. asks_quiet _ tt (λ p. omega arith);
      tries = λ x e. asks_quiet _ tt (λ p. omega arith);
      gives_up = λ x e. asks_quiet _ (aborted parts) (λ p. omega arith);
      aborts = λ x e. asks_quiet _ (aborted parts) (λ p. omega arith);
      decides = λ x e. asks_quiet _ (all_told (stores_of parts) (m.Commit (tid_of n kept a)) refl) (λ p. omega arith);
      waits = λ x l ls e. asks_quiet _ tt (λ p. omega arith);
      commits = λ x e. asks_quiet _ (refl, tt) (λ p. omega arith);
      forgets = λ x e g. asks_quiet _ (refl, tt) (λ p. omega arith);
    })

    asks_gives_up : (z : ℕ) (parts : Parts) → On (gives_up rights k n kept z a parts)
    asks_gives_up z parts =
        silenced rights k n kept z a parts On (asks_quiet _ tt (λ p. omega arith)) (λ ls is. asks_quiet _ (aborted parts) (λ p. omega arith))

    commits_quiet : (ds : List Decision) → AllByRecursion IsNoPrepare (flat_map (λ d. to_all d.stores (m.Commit d.tid)) ds)
    commits_quiet [] = tt
    commits_quiet (d ∷ ds) =
        all_append IsNoPrepare (to_all d.stores (m.Commit d.tid)) (flat_map (λ d. to_all d.stores (m.Commit d.tid)) ds) (all_told d.stores (m.Commit d.tid) refl)
        (commits_quiet ds)

    asks_wakes : On (wakes rights k n kept)
    asks_wakes =
        asks_quiet (wakes rights k n kept)
        (all_append IsNoPrepare (flat_map (λ d. to_all d.stores (m.Commit d.tid)) kept.decided) (to_all (stores_in rights) (m.Boot (suc kept.boot))) (commits_quiet kept.decided)
        (all_told (stores_in rights) (m.Boot (suc kept.boot)) refl)) (λ p. omega arith)

  -- ---- a store sends none, and its attempt stays

  asks_said : (S : Setting) (a : Attempt) (said : Said) → AllByRecursion IsNoPrepare said.sends → Asks a.phase (of_store S a said) 0
  asks_said S a said quiet = let none = none_asked s said.sends quiet in record { few = λ p. omega (arith, none) }

quiet_says : (rights : Rights) (s n : ℕ) (message : Message) (shelf : Shelf) → AllByRecursion IsNoPrepare (stores.says rights s n message shelf).sends
quiet_says rights s n message shelf = answered rights s n shelf (λ said. AllByRecursion IsNoPrepare said.sends) message (record {
  rests = λ h. tt;
  lacks = λ t o h. (refl, tt);
  bars = λ t o h. (refl, tt);
  shows = λ t o row h there. (refl, tt);
  too_late = λ t items h. (refl, tt);
  votes_on = λ t items h above. (refl, tt);
  applies = λ t h there. tt;
  releases = λ t h there. tt;
  boots = λ b h later. tt;
})

quiet_asks : (ps : List Prepared) → AllByRecursion IsNoPrepare (map (λ (p : Prepared). (p.0.worker, m.Inquire p.0)) ps)
quiet_asks [] = tt
quiet_asks (p ∷ ps) = (refl, quiet_asks ps)

-- ---- an event

module _ (S : Setting) (s : ℕ) where
  evaluating_asks : (phase : Phase) → is_evaluating phase ≡ true → may_ask phase ≡ 1
  evaluating_asks workers.Idle h = absurd (true≢false (sym h))
  evaluating_asks workers.Evaluating h = refl
  evaluating_asks (workers.Fetching o) h = refl
  evaluating_asks (workers.Preparing ls) h = absurd (true≢false (sym h))

  -- what an event asks of the store, and may still ask
  pub asks_act : (w : World) (e : Inner) → Asks (IsTrue (may S w e)) s (w.node (node_of e)).attempt.phase (act S w e) (attempts_in e)
  asks_act w (i.Begin n) = record { few = λ can. omega arith }
  asks_act w (i.Resume n) =
      asks_resumes (IsTrue (may S w (i.Resume n))) s S.rights S.cache n (kept S w n) (w.node n).attempt (meant S w n)
      (λ can. evaluating_asks (w.node n).attempt.phase (and_parts _ _ can).1)
  asks_act w (i.Deliver a b) =
      let P = IsTrue (may S w (i.Deliver a b)) in
      heard S w (λ act. Asks P s (w.node b).attempt.phase act 0) a b (record { few = λ can. omega arith })
      (λ message worker. asks_takes P s S.rights S.cache b (kept S w b) (w.node b).attempt a message (parts S w b))
      (λ message store. asks_said P s S (w.node b).attempt (stores.says S.rights b a message (shelf S w b)) (quiet_says S.rights b a message (shelf S w b)))
      (S.read (front_of (w.queue a b)))
  asks_act w (i.Idle n z) = asks_gives_up (IsTrue (may S w (i.Idle n z))) s S.rights S.cache n (kept S w n) (w.node n).attempt z (parts S w n)
  asks_act w (i.Recover n) =
      let P = IsTrue (may S w (i.Recover n)) in
      let g = woken S w (λ act. Asks P s (w.node n).attempt.phase act 0) n (λ worker. asks_wakes P s S.rights S.cache n (kept S w n) (w.node n).attempt)
      (λ store. asks_said P s S (w.node n).attempt (stores.asks (shelf S w n)) (quiet_asks (shelf S w n).prepared)) in
      record { few = λ can. let few = g.few can in omega (arith, few) }
