-- Principals, workers and stores, part by part.
use Rattle.std.proofs.Common.{◌≡◌, ℕ, Bool, true, false, IsTrue, List, [], ◌∷◌, length, refl, sym, ap, subst}
use Rattle.fab_base.specs.declared.token.Mark.{Mark}
use Rattle.fab_base.specs.declared.token.Mark.TheVariants as m
use Rattle.fab_base.specs.declared.token.Kind.{Kind}
use Rattle.fab_base.specs.declared.token.Kind.TheVariants as k
use Rattle.fab_base.specs.declared.token.Token.{Token}
use Rattle.fab_tree.specs.declared.name.Name.{Name}
use Rattle.fab_tree.specs.declared.declaration.Role.{Role}
use Rattle.fab_tree.specs.declared.declaration.Role.TheVariants as r
use Rattle.fab_tree.specs.declared.declaration.Node.{Node}
use Rattle.fab_tree.specs.Lists.{Is, is, IsName}
use Rattle.fab_tree.specs.Declarations.{IsMachine, worker, store, IsRole, principal, honest, hostile, IsNode, node}
use Rattle.fab_reading.specs.Reading.{Lacks, BeginsWith, Starts, Read, Refused, Stops, CannotRead, any}
use Rattle.fab_reading.specs.declared.refusal.Refusal.{Refusal}
use Rattle.fab_reading.specs.declared.refusal.Refusal.TheVariants as refusal
use Rattle.fab_reading.proofs.TokenRules.{mark_read}
use Rattle.fab_reading.proofs.Rules.{Then, Sign, HasText, Going, start, turn, behind_mark, followed, here, never, token_of, lacks_too}
use Rattle.fab_parser.proofs.Chains.{chain}

-- ---- machine = "worker" | "store"

machine_worker : (h : Bool) {a : List Token} {v : Role} {b : List Token} → BeginsWith m.Worker a → IsMachine h a v b → (v ≡ r.Worker h) × Is m.Worker a b
machine_worker h e (worker i) = (refl, i)
machine_worker h e (store (is g)) = absurd (cc)

pub worker_read : (h : Bool) {room : ℕ} {a b : List Token} → Is m.Worker a b → Read (IsMachine h) any room a (r.Worker h) b
worker_read h i = mark_read m.Worker i refl (λ x y. worker) (λ x v y. machine_worker h)

machine_store : (h : Bool) {a : List Token} {v : Role} {b : List Token} → BeginsWith m.Store a → IsMachine h a v b → (v ≡ r.Store h) × Is m.Store a b
machine_store h e (store i) = (refl, i)
machine_store h e (worker (is g)) = absurd (cc)

pub store_read : (h : Bool) {room : ℕ} {a b : List Token} → Is m.Store a b → Read (IsMachine h) any room a (r.Store h) b
store_read h i = mark_read m.Store i refl (λ x y. store) (λ x v y. machine_store h)

abbrev pub begins_machine : Kind → Bool
begins_machine (k.Fixed m.Worker) = true
begins_machine (k.Fixed m.Store) = true
begins_machine _ = false

machine_begins : (h : Bool) (a : List Token) (v : Role) (b : List Token) → IsMachine h a v b → Starts begins_machine a
machine_begins h a v b (worker (is e)) = subst (λ x. IsTrue (begins_machine x)) (sym e) refl
machine_begins h a v b (store (is e)) = subst (λ x. IsTrue (begins_machine x)) (sym e) refl

pub machine_text : (h : Bool) → HasText (IsMachine h)
machine_text h = (token_of m.Worker ∷ [], r.Worker h, λ after. worker (is refl))

no_machine : (a : List Token) → Lacks m.Worker a → Lacks m.Store a → Starts begins_machine a → ⊥
no_machine [] w s h = h
no_machine (t ∷ ts) w s h = no_mark t.kind (λ e. w ts (is e)) (λ e. s ts (is e)) h
  where
    by_mark : (x : Mark) → (x ≡ m.Worker → ⊥) → (x ≡ m.Store → ⊥) → IsTrue (begins_machine (k.Fixed x)) → ⊥
    by_mark m.Worker w s h = w refl
    by_mark m.Store w s h = s refl
    by_mark _ w s h = never h

    no_mark : (x : Kind) → (x ≡ k.Fixed m.Worker → ⊥) → (x ≡ k.Fixed m.Store → ⊥) → IsTrue (begins_machine x) → ⊥
    no_mark (k.Fixed y) w s h = by_mark y (λ e. w (ap k.Fixed e)) (λ e. s (ap k.Fixed e)) h
    no_mark _ w s h = never h

machine_refused : (h : Bool) {room : ℕ} {a : List Token} → Lacks m.Worker a → Lacks m.Store a → Refused (IsMachine h) any room a (length a)
machine_refused h {a = a} w s = here begins_machine (machine_begins h) (machine_text h) (no_machine a w s)

-- neither a worker nor a store comes
pub machine_stops : (h : Bool) (room : ℕ) (a : List Token) (e : Refusal) → Lacks m.Worker a → CannotRead m.Store a e → Stops (IsMachine h) any room a e
machine_stops h room a refusal.Memory w x = absurd x
machine_stops h room a (refusal.Syntax left) w x = subst (λ y. Refused (IsMachine h) any room a y) (sym x.0) (machine_refused h w x.1)
machine_stops h room a (refusal.Deep left) w x = absurd x

-- ---- role = "principal" | ["hostile"] machine

role_principal : {a : List Token} {v : Role} {b : List Token} → BeginsWith m.Principal a → IsRole a v b → (v ≡ r.Principal) × Is m.Principal a b
role_principal e (principal i) = (refl, i)
role_principal e (honest (worker (is g))) = absurd (cc)
role_principal e (honest (store (is g))) = absurd (cc)
role_principal e (hostile (is g) p) = absurd (cc)

pub principal_read : {room : ℕ} {a b : List Token} → Is m.Principal a b → Read IsRole any room a r.Principal b
principal_read i = mark_read m.Principal i refl (λ x y. principal) (λ x v y. role_principal)

hostile_back : {t : Token} {a : List Token} {v : Role} {b : List Token} → t.kind ≡ k.Fixed m.Hostile → IsRole (t ∷ a) v b → (x : Role) × (v ≡ x) × IsMachine true a x b
hostile_back e (principal (is g)) = absurd (cc)
hostile_back e (honest (worker (is g))) = absurd (cc)
hostile_back e (honest (store (is g))) = absurd (cc)
hostile_back e (hostile {x = x} (is g) p) = (x, refl, p)

pub hostile_start : {room : ℕ} {a c : List Token} → Is m.Hostile a c → Going IsRole any room a (IsMachine true) (λ v. v) room c
hostile_start i = behind_mark (λ at v. v) i refl (λ t e more v after p. hostile (is e) p) (λ t e more u after d h. hostile_back e d)

honest_back : {a : List Token} {v : Role} {b : List Token} → Lacks m.Principal a → Lacks m.Hostile a → IsRole a v b → (x : Role) × (v ≡ x) × IsMachine false a x b
honest_back p h (principal i) = absurd (p _ i)
honest_back p h (honest {x = x} i) = (x, refl, i)
honest_back p h (hostile i j) = absurd (h _ i)

pub honest_start : {room : ℕ} (a : List Token) → Lacks m.Principal a → Lacks m.Hostile a → Going IsRole any room a (IsMachine false) (λ v. v) room a
honest_start {room = room} a p h = turn (λ v. v) (start IsRole any room a) (λ more v after. honest) (λ more v after same d f. honest_back (λ c i. lacks_too a more c p same i) (λ c i. lacks_too a more c h same i) d)

-- ---- node = role name ";"

abbrev pub node_of : Role × (Name × Unit {0}) → Node
node_of v = record { role = v.0; name = v.1.0 }

node_back : (a : List Token) (v : Node) (b : List Token) → IsNode a v b
    → (w : Role × (Name × Unit {0})) × (v ≡ node_of w) × Then IsRole (Then IsName (Sign m.Semicolon)) a w b
node_back a v b (node {x = x} {y = y} p q r) = ((x, (y, tt)), refl, followed _ p (followed _ q r))

pub node_start : {room : ℕ} (a : List Token) → Going IsNode any room a (Then IsRole (Then IsName (Sign m.Semicolon))) node_of room a
node_start = chain node_of (λ more v after p. node p.first p.second.first p.second.second) node_back
