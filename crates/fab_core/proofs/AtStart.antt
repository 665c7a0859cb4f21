-- Nodes at the start of a run, one after the other.
use Rattle.std.proofs.Common.{◌≡◌, ℕ, zero, suc, ◌+◌, ◌≤◌, Bool, true, false, not, cond, List, [], ◌∷◌, ◌++◌, map, length, Option, Some, None, refl, sym, ap, ◌∙◌, subst, arith, append_assoc}
use Rattle.std.specs.Bool.{IsFalse}
use Rattle.std.specs.Prelude.{replicate, option_map, reverse, slice_index_or}
use Rattle.std.proofs.lemmas.Bool.{and_left}
use Rattle.std.proofs.Common.{append-nil}
use Rattle.std.proofs.lemmas.List.{length-append, length-map, length-reverse, map-append, reverse-append, reverse-reverse}
use Rattle.fab_rights.specs.Computed.{is_node}
use Rattle.fab_world.specs.Machine.{at_start}
use Rattle.fab_core.proofs.Tables.{node_below}
use Rattle.fab_node.specs.Standing.{GivenModel, IsGiven, JournalModel, NodeModel}
use Rattle.fab_queues.specs.Channels.{Network, queue_of, sent_of}
use Rattle.fab_core.specs.Cores.{IsCore, SlotStands, count_in, is_honest, posts_from, setting, slot}
use Rattle.fab_core.specs.Telling.{those_in}
use Rattle.fab_core.specs.Starts.{AreAtStart, AreBack, IsFailedAt, IsUnmoved, honest_below, journals_faults, nodes_faults}
use Rattle.fab_core.proofs.Between.{those_map}
use Rattle.fab_core.proofs.Taking.{count_last}

module _ (g : GivenModel) where
  pub started_more : (k : ℕ) (xs : List (Option NodeModel)) (x : Option NodeModel) → AreAtStart g k xs → SlotStands g (at_start (setting g)) (k + length xs) x
      → AreAtStart g k (xs ++ x ∷ [])
  started_more k [] x are h = (subst (λ n. SlotStands g (at_start (setting g)) n x) (let e : k + 0 ≡ k = omega arith in e) h, tt)
  started_more k (y ∷ ys) x are h =
      (are.0, started_more (suc k) ys x are.1 (subst (λ n. SlotStands g (at_start (setting g)) n x) (let e : k + suc (length ys) ≡ suc k + length ys = omega arith in e) h))

  one_in : (k : ℕ) (x : Option NodeModel) (b : Bool) → is_honest g k ≡ b → SlotStands g (at_start (setting g)) k x → count_in (x ∷ []) ≡ cond b 1 0
  one_in k None true e h = absurd (let f : true ≡ false = sym e ∙ h in cc)
  one_in k None false e h = refl
  one_in k (Some x) true e h = refl
  one_in k (Some x) false e h = absurd (let f : false ≡ true = sym e ∙ h.0 in cc)

  count_first : (x : Option NodeModel) (xs : List (Option NodeModel)) → count_in (x ∷ xs) ≡ count_in (x ∷ []) + count_in xs
  count_first None xs = omega arith
  count_first (Some x) xs = omega arith

  -- so many of them are honest
  pub started_count : (k : ℕ) (xs : List (Option NodeModel)) → AreAtStart g k xs → honest_below g k + count_in xs ≡ honest_below g (k + length xs)
  started_count k [] are =
      let there : honest_below g (k + 0) ≡ honest_below g k = ap (honest_below g) (omega arith) in
      omega (arith, there)
  started_count k (x ∷ xs) are =
      let rest = started_count (suc k) xs are.1 in
      let one = one_in k x (is_honest g k) refl are.0 in
      let parts = count_first x xs in
      let there : honest_below g (k + suc (length xs)) ≡ honest_below g (suc k + length xs) = ap (honest_below g) (omega arith) in
      omega (arith, rest, one, parts, there)

  -- behind the last one there is no honest node
  below_none : IsGiven g → (n : ℕ) (b : Bool) → is_node g.rights n ≡ b → 64 ≤ n → IsFalse (is_honest g n)
  below_none given n true e far = absurd (let near = node_below g.rights n given.accepted.workers given.accepted.stores e in omega (arith, near))
  below_none given n false e far = and_left (is_node g.rights n) (not ((setting g).hostile n)) e

  started_slot : IsGiven g → (k : ℕ) (xs : List (Option NodeModel)) → k + length xs ≡ 64 → AreAtStart g k xs → (i : ℕ)
      → SlotStands g (at_start (setting g)) (k + i) (slot xs i)
  started_slot given k [] long are i = below_none given (k + i) (is_node g.rights (k + i)) refl (omega (arith, long))
  started_slot given k (x ∷ xs) long are zero =
      subst (λ n. SlotStands g (at_start (setting g)) n x) (let e : k ≡ k + 0 = omega arith in e) are.0
  started_slot given k (x ∷ xs) long are (suc i) =
      subst (λ n. SlotStands g (at_start (setting g)) n (slot xs i)) (let e : suc k + i ≡ k + suc i = omega arith in e)
      (started_slot given (suc k) xs (omega (arith, long)) are.1 i)

  pub core_at_start : IsGiven g → (nodes : List (Option NodeModel)) (queues : Network) (places : List ℕ) → length nodes ≡ 64 → AreAtStart g 0 nodes
      → queues.nodes ≡ 64 → ((a b : ℕ) → sent_of queues a b ≡ []) → ((a b : ℕ) → queue_of queues a b ≡ [])
      → length places ≡ 64 → ((h : ℕ) → slice_index_or places h 0 ≡ 0) → IsCore g nodes queues places []
  core_at_start given nodes queues places slots are lanes sent queue senders first = record {
    given = given;
    logged = refl;
    run = refl;
    few = omega arith;
    stands = record {
      slots = slots;
      lanes = lanes;
      senders = senders;
      standing = λ n. subst (λ m. SlotStands g (at_start (setting g)) m (slot nodes n)) (let e : 0 + n ≡ n = omega arith in e)
          (started_slot given 0 nodes (omega (arith, slots)) are n);
      queue = queue;
      sent = sent;
      posts = λ h. ap (λ p. posts_from g.program p h) (first h);
    };
  }

pub those_count : {A : Type 0} (xs : List (Option A)) → length (those_in xs) ≡ count_in xs
those_count [] = refl
those_count (None ∷ xs) = those_count xs
those_count (Some x ∷ xs) = ap suc (those_count xs)

pub those_both : {A : Type 0} (xs ys : List (Option A)) → those_in (xs ++ ys) ≡ those_in xs ++ those_in ys
those_both [] ys = refl
those_both (None ∷ xs) ys = those_both xs ys
those_both (Some x ∷ xs) ys = ap (λ zs. x ∷ zs) (those_both xs ys)

pub faults_both : (xs ys : List (Option NodeModel)) → nodes_faults (xs ++ ys) ≡ nodes_faults xs ++ nodes_faults ys
faults_both xs ys = ap (map (λ x. (x.journal.faults, x.journal.sure))) (those_both xs ys) ∙ map-append (λ x. (x.journal.faults, x.journal.sure)) (those_in xs) (those_in ys)

-- ---- journals

pub keys_taken : {C : Type 0} (key : C → ℕ × Bool) (old now : List C) (last : C) → old ≡ now ++ last ∷ [] → map key old ≡ map key now ++ key last ∷ []
keys_taken key old now last parts = ap (map key) parts ∙ map-append key now (last ∷ [])

abbrev pub key_of : JournalModel → ℕ × Bool
key_of j = (j.faults, j.sure)

pub keys_of : {C : Type 0} (view : C → JournalModel) (xs : List C) → map (λ c. key_of (view c)) xs ≡ map key_of (map view xs)
keys_of view [] = refl
keys_of view (x ∷ xs) = ap (λ ys. key_of (view x) ∷ ys) (keys_of view xs)

pub faults_of : (nodes : List (Option NodeModel)) → nodes_faults nodes ≡ map key_of (map (λ x. x.journal) (those_in nodes))
faults_of [] = refl
faults_of (None ∷ xs) = faults_of xs
faults_of (Some x ∷ xs) = ap (λ ys. key_of x.journal ∷ ys) (faults_of xs)

pub map_turned : {A B : Type 0} (f : A → B) (xs : List A) → map f (reverse xs) ≡ reverse (map f xs)
map_turned f [] = refl
map_turned f (x ∷ xs) =
    ap (map f) (reverse-append (x ∷ []) xs) ∙ map-append f (reverse xs) (x ∷ []) ∙ ap (λ ys. ys ++ f x ∷ []) (map_turned f xs)
    ∙ sym (reverse-append (f x ∷ []) (map f xs))

one_turned : (slot : Option NodeModel) → reverse (nodes_faults (slot ∷ [])) ≡ nodes_faults (slot ∷ [])
one_turned None = refl
one_turned (Some x) = refl

same_turned : (slot : Option NodeModel) → reverse (map (λ x. x.journal) (those_in (slot ∷ []))) ≡ map (λ x. x.journal) (those_in (slot ∷ []))
same_turned None = refl
same_turned (Some x) = refl

-- the journal of the last node is put in front of those that come behind
pub back_next : {C : Type 0} (view : C → JournalModel) (old now : List C) (made left : List (Option NodeModel)) (slot : Option NodeModel) (all : List JournalModel)
    → made ≡ left ++ slot ∷ [] → map view now ≡ map view old ++ map (λ x. x.journal) (those_in (slot ∷ []))
    → map (λ x. x.journal) (those_in made) ++ reverse (map view old) ≡ all → map (λ x. x.journal) (those_in left) ++ reverse (map view now) ≡ all
back_next view old now made left slot all parts put h =
    let last = map (λ (x : NodeModel). x.journal) (those_in (slot ∷ [])) in
    let first = map (λ (x : NodeModel). x.journal) (those_in left) in
    ap (λ ys. first ++ reverse ys) put
    ∙ ap (λ ys. first ++ ys) (reverse-append (map view old) last)
    ∙ ap (λ ys. first ++ (ys ++ reverse (map view old))) (same_turned slot)
    ∙ sym (append_assoc first last (reverse (map view old)))
    ∙ ap (λ ys. ys ++ reverse (map view old))
    (sym (map-append (λ (x : NodeModel). x.journal) (those_in left) (those_in (slot ∷ [])))
    ∙ ap (map (λ (x : NodeModel). x.journal)) (sym (those_both left (slot ∷ [])) ∙ ap those_in (sym parts)))
    ∙ h

-- their keys are those of the nodes, and of what was left
pub handed_keys : {C : Type 0} (view : C → JournalModel) (back rest : List C) (nodes : List (Option NodeModel))
    → map view back ≡ map (λ x. x.journal) (those_in nodes) ++ reverse (map view rest)
    → map (λ c. key_of (view c)) back ≡ nodes_faults nodes ++ reverse (map (λ c. key_of (view c)) rest)
handed_keys view back rest nodes h =
    keys_of view back ∙ ap (map key_of) h ∙ map-append key_of (map (λ (x : NodeModel). x.journal) (those_in nodes)) (reverse (map view rest))
    ∙ ap (λ ys. ys ++ map key_of (reverse (map view rest))) (sym (faults_of nodes))
    ∙ ap (λ ys. nodes_faults nodes ++ ys) (map_turned key_of (map view rest) ∙ ap reverse (sym (keys_of view rest)))

pub one_key : (keys : List (ℕ × Bool)) (a b : ℕ) (s t : Bool) → a ≡ b → s ≡ t → keys ++ (a, s) ∷ [] ≡ keys ++ (b, t) ∷ []
one_key keys a b s t same alike = ap (λ n. keys ++ (n, s) ∷ []) same ∙ ap (λ u. keys ++ (b, u) ∷ []) alike

pub turned_keys : {C : Type 0} (key : C → ℕ × Bool) (journals turned : List C) → turned ≡ reverse journals → reverse (map key turned) ≡ map key journals
turned_keys key journals turned parts =
    ap (λ xs. reverse (map key xs)) parts ∙ ap reverse (map_turned key journals) ∙ reverse-reverse (map key journals)

pub journals_keys : (nodes : List (Option NodeModel)) → journals_faults (map (option_map (λ (x : NodeModel). x.journal)) nodes) ≡ nodes_faults nodes
journals_keys nodes = ap (map key_of) (sym (those_map (λ (x : NodeModel). x.journal) nodes)) ∙ sym (faults_of nodes)

pub all_back : {C : Type 0} (view : C → JournalModel) (js turned : List C) (made : List (Option NodeModel)) (all : List JournalModel) → turned ≡ reverse js → made ≡ []
    → map (λ x. x.journal) (those_in made) ++ reverse (map view js) ≡ all → map view turned ≡ all
all_back view js turned made all parts none h =
    ap (map view) parts ∙ map_turned view js ∙ ap (λ m. map (λ (x : NodeModel). x.journal) (those_in m) ++ reverse (map view js)) (sym none) ∙ h

-- a journal that was the last one is that of the last node now
pub taken_on : (old new : List (Option NodeModel)) (slot : Option NodeModel) (had have all : List (ℕ × Bool)) → new ≡ old ++ slot ∷ []
    → had ≡ have ++ nodes_faults (slot ∷ []) → nodes_faults old ++ reverse had ≡ all → nodes_faults new ++ reverse have ≡ all
taken_on old new slot had have all more parts h =
    ap (λ xs. nodes_faults xs ++ reverse have) more
    ∙ ap (λ ys. ys ++ reverse have) (faults_both old (slot ∷ []))
    ∙ append_assoc (nodes_faults old) (nodes_faults (slot ∷ [])) (reverse have)
    ∙ ap (λ ys. nodes_faults old ++ (ys ++ reverse have)) (sym (one_turned slot))
    ∙ ap (λ ys. nodes_faults old ++ ys) (sym (reverse-append have (nodes_faults (slot ∷ []))))
    ∙ ap (λ ys. nodes_faults old ++ reverse ys) (sym parts)
    ∙ h

pub started_on : (g : GivenModel) (n : ℕ) (old new : List (Option NodeModel)) (slot : Option NodeModel) → new ≡ old ++ slot ∷ [] → AreAtStart g 0 old
    → length old ≡ n → SlotStands g (at_start (setting g)) n slot → AreAtStart g 0 new
started_on g n old new slot more are long stands =
    subst (AreAtStart g 0) (sym more)
    (started_more g 0 old slot are (subst (λ m. SlotStands g (at_start (setting g)) m slot) (let e : n ≡ 0 + length old = omega (arith, long) in e) stands))

length_last : {A : Type 0} (xs : List A) (x : A) → length (xs ++ x ∷ []) ≡ length xs + 1
length_last [] x = omega arith
length_last (y ∷ ys) x = omega (arith, length_last ys x)

pub long_on : (n : ℕ) (old new : List (Option NodeModel)) (slot : Option NodeModel) → new ≡ old ++ slot ∷ [] → length old ≡ n → length new ≡ n + 1
long_on n old new slot more long = ap length more ∙ length_last old slot ∙ ap (λ m. m + 1) long

faults_long : (keys : List (ℕ × Bool)) (slot : Option NodeModel) → length (keys ++ nodes_faults (slot ∷ [])) ≡ length keys + count_in (slot ∷ [])
faults_long [] None = omega arith
faults_long [] (Some x) = omega arith
faults_long (k ∷ ks) slot = omega (arith, faults_long ks slot)

pub places_on : {C : Type 0} (key : C → ℕ × Bool) (was now : List C) (old new : List (Option NodeModel)) (slot : Option NodeModel) (cap next : ℕ)
    → new ≡ old ++ slot ∷ [] → map key was ≡ map key now ++ nodes_faults (slot ∷ []) → length was + count_in old ≤ cap → next ≡ cap
    → length now + count_in new ≤ next
places_on key was now old new slot cap next more parts room same =
    let before = length-map was key in
    let behind = length-map now key in
    let both = ap length parts ∙ faults_long (map key now) slot in
    let nodes = ap (λ xs. count_in xs) more ∙ count_last old slot in
    omega (arith, before, behind, both, nodes, room, same)

pub failed_room : {C : Type 0} (key : C → ℕ × Bool) (was now : List C) (old new : List (Option NodeModel)) (left : List (ℕ × Bool)) (a b : ℕ × Bool) (cap next : ℕ)
    → new ≡ old → map key was ≡ left ++ a ∷ [] → map key now ≡ left ++ b ∷ [] → length was + count_in old ≤ cap → next ≡ cap → length now + count_in new ≤ next
failed_room key was now old new left a b cap next alike had have room same =
    let before = length-map was key in
    let behind = length-map now key in
    let first = ap length had ∙ length_last left a in
    let second = ap length have ∙ length_last left b in
    let nodes = ap (λ xs. count_in xs) alike in
    omega (arith, before, behind, first, second, nodes, room, same)

-- where memory ran out
pub unmoved_room : {C : Type 0} (key : C → ℕ × Bool) (was now : List C) (old new : List (Option NodeModel)) (cap next : ℕ) → IsUnmoved old new (map key was) (map key now)
    → length was + count_in old ≤ cap → next ≡ cap → length now + count_in new ≤ next
unmoved_room key was now old new cap next same room alike =
    let before = length-map was key in
    let behind = length-map now key in
    let both = ap length same.journals in
    let nodes = ap (λ xs. count_in xs) same.nodes in
    omega (arith, before, behind, both, nodes, room, alike)

pub unmoved_back : {C : Type 0} (key : C → ℕ × Bool) (was now back : List C) (old new : List (Option NodeModel)) (all : List (ℕ × Bool)) → IsUnmoved old new (map key was) (map key now)
    → nodes_faults old ++ reverse (map key was) ≡ all → map key back ≡ nodes_faults new ++ reverse (map key now) → map key back ≡ all
unmoved_back key was now back old new all same taken handed =
    handed ∙ ap (λ ns. nodes_faults ns ++ reverse (map key now)) same.nodes ∙ ap (λ ks. nodes_faults old ++ reverse ks) same.journals ∙ taken

-- any place of zeros holds 0, and so does one behind them
pub zeros_at : (h n : ℕ) → ◌≡◌ {A = ℕ} (slice_index_or (replicate {A = ℕ} n 0) h 0) 0
zeros_at zero zero = refl
zeros_at zero (suc n) = refl
zeros_at (suc h) zero = refl
zeros_at (suc h) (suc n) = zeros_at h n

-- ---- how many there are

keys_count : (nodes : List (Option NodeModel)) → length (nodes_faults nodes) ≡ count_in nodes
keys_count nodes = length-map (those_in nodes) (λ x. (x.journal.faults, x.journal.sure)) ∙ those_count nodes

pub honest_count : (g : GivenModel) (n : ℕ) (nodes : List (Option NodeModel)) → AreAtStart g 0 nodes → length nodes ≡ n → count_in nodes ≡ honest_below g n
honest_count g n nodes are long =
    let all = started_count g 0 nodes are in
    let there : honest_below g (0 + length nodes) ≡ honest_below g n = ap (honest_below g) (let e : 0 + length nodes ≡ n = omega (arith, long) in e) in
    omega (arith, all, there)

-- where there was a journal for each honest node, none is left
pub nothing_left : {C : Type 0} (key : C → ℕ × Bool) (g : GivenModel) (nodes : List (Option NodeModel)) (rest journals : List C) → AreAtStart g 0 nodes
    → length nodes ≡ 64 → nodes_faults nodes ++ reverse (map key rest) ≡ reverse (map key journals) → length journals ≡ honest_below g 64 → ◌≡◌ {A = ℕ} (length rest) 0
nothing_left key g nodes rest journals are long taken many =
    let honest = honest_count g 64 nodes are long in
    let both = sym (length-append (nodes_faults nodes) (reverse (map key rest))) ∙ ap length taken in
    let made = keys_count nodes in
    let here = length-reverse (map key rest) ∙ length-map rest key in
    let there = length-reverse (map key journals) ∙ length-map journals key in
    omega (arith, honest, both, made, here, there, many)

pub all_taken : {C : Type 0} (key : C → ℕ × Bool) (nodes : List (Option NodeModel)) (rest : List C) (all : List (ℕ × Bool)) → ◌≡◌ {A = ℕ} (length rest) 0
    → nodes_faults nodes ++ reverse (map key rest) ≡ all → nodes_faults nodes ≡ all
all_taken key nodes [] all none h = sym (append-nil (nodes_faults nodes)) ∙ h
all_taken key nodes (x ∷ xs) all none h = absurd (omega (arith, none))

-- the journals that come back from a node that failed
pub failed_back : {C : Type 0} (key : C → ℕ × Bool) (g : GivenModel) (n : ℕ) (old new : List (Option NodeModel)) (was now back : List C) (all : List (ℕ × Bool))
    → AreAtStart g 0 old → length old ≡ n → nodes_faults old ++ reverse (map key was) ≡ all → IsFailedAt g n old new (map key was) (map key now)
    → map key back ≡ nodes_faults new ++ reverse (map key now) → AreBack g n all (map key back)
failed_back key g n old new was now back all are long taken failed handed = record {
  before = nodes_faults old;
  behind = reverse failed.left;
  was = failed.was;
  now = failed.now;
  old_is = sym taken ∙ ap (λ ks. nodes_faults old ++ reverse ks) failed.had_is
      ∙ ap (λ ks. nodes_faults old ++ ks) (reverse-append failed.left ((failed.was, false) ∷ []));
  new_is = handed ∙ ap (λ ns. nodes_faults ns ++ reverse (map key now)) failed.nodes ∙ ap (λ ks. nodes_faults old ++ reverse ks) failed.have_is
      ∙ ap (λ ks. nodes_faults old ++ ks) (reverse-append failed.left ((failed.now, false) ∷ []));
  rose = failed.rose;
  honest = failed.honest;
  place = keys_count old ∙ honest_count g n old are long;
}
