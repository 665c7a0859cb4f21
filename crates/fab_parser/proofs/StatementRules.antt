-- Which statement comes, and statements in a row.
use Rattle.std.proofs.Common.{Bool, IsTrue, List, Some, [], length, refl, subst, sym, ℕ, ◌∷◌, ◌≡◌}
use Rattle.fab_base.specs.declared.token.Kind.{Kind}
use Rattle.fab_base.specs.declared.token.Kind.TheVariants as k
use Rattle.fab_base.specs.declared.object.Width.TheVariants as widths
use Rattle.fab_base.specs.declared.token.Mark.{Mark}
use Rattle.fab_base.specs.declared.token.Mark.TheVariants as m
use Rattle.fab_base.specs.declared.token.Token.{Token}
use Rattle.fab_tree.specs.declared.declaration.Sort.TheVariants as sorts
use Rattle.fab_tree.specs.declared.name.Name.{Name}
use Rattle.fab_tree.specs.declared.statement.Statement.{Statement}
use Rattle.fab_tree.specs.declared.statement.Statement.TheVariants as forms
use Rattle.fab_tree.specs.Declarations.{class, number}
use Rattle.fab_tree.specs.Depth.{room_by}
use Rattle.fab_tree.specs.Lists.{Is, IsName, Repeated, ended, is, name}
use Rattle.fab_tree.specs.Statements.{IsStatement, assign, atomic, call, choice, declare, fail, loop, write}
use Rattle.fab_reading.specs.Reading.{Follows, Lacks, Read, Refused, Starts, any, begins_name, first_place}
use Rattle.fab_reading.proofs.ListRules.{list_meets}
use Rattle.fab_reading.proofs.Rules.{Going, HasText, Sign, Then, here, lacks_too, never, same_sign, sign, token_of, turn}
use Rattle.fab_parser.specs.Pieces.{IsAssigned, IsAttempt, IsChoice, IsDeclared, IsFailure, IsLoop, IsRequested, IsWritten, after_statement, assigned, attempted, begins_statement, behind_statements, bracketed, branched, declared, failed, looped, requested, written}
use Rattle.fab_parser.proofs.PartRules.{behind_part, behind_word}

-- ---- which statement comes

-- What stands behind the name that a statement begins with.
pub data Tail (x : Name) : List Token → Statement → List Token → Type 0 where
  assigns : {a b c : List Token} {u : Statement} → Is m.Equal a b → IsAssigned x b u c → Tail x a u c
  writes : {a b c : List Token} {u : Statement} → Is m.Dot a b → IsWritten x b u c → Tail x a u c
  requests : {a b : List Token} {u : Statement} → IsRequested x a u b → Tail x a u b
  declares : {a b : List Token} {u : Statement} → IsDeclared (sorts.Class x) x.at a u b → Tail x a u b

-- What stands behind the first token of a statement, which stands at a place.
data Begun : Kind → ℕ → List Token → Statement → List Token → Type 0 where
  by_name : {x : List ℕ} {at : ℕ} {a b : List Token} {u : Statement} → Tail (record { text = x; at = at }) a u b → Begun (k.Name x) at a u b
  by_int : {at : ℕ} {a b : List Token} {u : Statement} → IsDeclared (sorts.Number widths.Int) at a u b → Begun (k.Fixed m.Int) at a u b
  by_if : {at : ℕ} {a b : List Token} {u : Statement} → IsChoice a u b → Begun (k.Fixed m.If) at a u b
  by_while : {at : ℕ} {a b : List Token} {u : Statement} → IsLoop a u b → Begun (k.Fixed m.While) at a u b
  by_atomic : {at : ℕ} {a b : List Token} {u : Statement} → IsAttempt at a u b → Begun (k.Fixed m.Atomic) at a u b
  by_fail : {at : ℕ} {a b : List Token} {u : Statement} → IsFailure at a u b → Begun (k.Fixed m.Fail) at a u b

begun_at : (t : Token) {more b : List Token} {u : Statement} (x : Kind) → t.kind ≡ x → Begun x t.at more u b → Begun t.kind t.at more u b
begun_at t {more = more} {b = b} {u = u} x e d = subst (λ y. Begun y t.at more u b) (sym e) d

begun : {t : Token} {more b : List Token} {u : Statement} → IsStatement (t ∷ more) u b → Begun t.kind t.at more u b
begun {t = t} (declare (number {w = widths.Int} (is e)) p i q j r l) = begun_at t (k.Fixed m.Int) e (by_int (declared p i q j (ended r l)))
begun {t = t} (declare (class (name {x = x} e)) p i q j r l) = begun_at t (k.Name x) e (by_name (declares (declared p i q j (ended r l))))
begun {t = t} (assign (name {x = x} e) i p j) = begun_at t (k.Name x) e (by_name (assigns i (assigned p j)))
begun {t = t} (write (name {x = x} e) i p j q l) = begun_at t (k.Name x) e (by_name (writes i (written p j (ended q l))))
begun {t = t} (call (name {x = x} e) i p j l) = begun_at t (k.Name x) e (by_name (requests (requested (bracketed i p j) l)))
begun {t = t} (choice (is e) i p j q r) = begun_at t (k.Fixed m.If) e (by_if (branched (bracketed i p j) q r))
begun {t = t} (loop (is e) i p j q) = begun_at t (k.Fixed m.While) e (by_while (looped (bracketed i p j) q))
begun {t = t} (atomic (is e) p q i r) = begun_at t (k.Fixed m.Atomic) e (by_atomic (attempted p q i r))
begun {t = t} (fail (is e) i) = begun_at t (k.Fixed m.Fail) e (by_fail (failed i))

begun_as : {t : Token} {more b : List Token} {u : Statement} (x : Kind) → t.kind ≡ x → IsStatement (t ∷ more) u b → Begun x t.at more u b
begun_as {t = t} {more = more} {b = b} {u = u} x e d = subst (λ y. Begun y t.at more u b) e (begun d)

tail_made : {t : Token} {x : List ℕ} {more : List Token} {u : Statement} {b : List Token} → t.kind ≡ k.Name x → Tail (record { text = x; at = t.at }) more u b → IsStatement (t ∷ more) u b
tail_made e (assigns i (assigned p j)) = assign (name e) i p j
tail_made e (writes i (written p j (ended q l))) = write (name e) i p j q l
tail_made e (requests (requested (bracketed i p j) l)) = call (name e) i p j l
tail_made e (declares (declared p i q j (ended r l))) = declare (class (name e)) p i q j r l

-- ---- statements that begin with a name

name_made : {a b c : List Token} {x : Name} {u : Statement} → IsName a x b → Tail x b u c → IsStatement a u c
name_made (name e) d = tail_made e d

only_name : {x : List ℕ} {at : ℕ} {a b : List Token} {u : Statement} → Begun (k.Name x) at a u b → Tail (record { text = x; at = at }) a u b
only_name (by_name d) = d

name_back : {a b c : List Token} {x : Name} {u : Statement} → IsName a x b → IsStatement a u c → Tail x b u c
name_back (name {x = x} e) d = only_name (begun_as (k.Name x) e d)

pub named_start : {room : ℕ} {a : List Token} {x : Name} {b : List Token} → Read IsName any room a x b → Going IsStatement after_statement room a (Tail x) (λ v. v) room b
named_start {x = x} r = behind_part (Tail x) r (λ y more v after. name_made) (λ y more u after p same d h. name_back p d)

assigns_back : {x : Name} {a c : List Token} {v : Statement} {b : List Token} → Is m.Equal a c → Tail x a v b → (w : Unit {0} × Statement) × (v ≡ w.1) × Then (Sign m.Equal) (IsAssigned x) a w b
assigns_back e (assigns {b = b} {u = u} i p) = ((tt, u), refl, record { mid = b; first = i; second = p })
assigns_back (is e) (writes (is g) p) = absurd (cc)
assigns_back (is e) (requests (requested (bracketed (is g) p j) l)) = absurd (cc)
assigns_back (is e) (declares (declared (name g) i q j r)) = absurd (cc)

writes_back : {x : Name} {a c : List Token} {v : Statement} {b : List Token} → Is m.Dot a c → Tail x a v b → (w : Unit {0} × Statement) × (v ≡ w.1) × Then (Sign m.Dot) (IsWritten x) a w b
writes_back (is e) (assigns (is g) p) = absurd (cc)
writes_back e (writes {b = b} {u = u} i p) = ((tt, u), refl, record { mid = b; first = i; second = p })
writes_back (is e) (requests (requested (bracketed (is g) p j) l)) = absurd (cc)
writes_back (is e) (declares (declared (name g) i q j r)) = absurd (cc)

requests_back : {x : Name} {a c : List Token} {v : Statement} {b : List Token} → Is m.LeftParen a c → Tail x a v b → (w : Statement) × (v ≡ w) × IsRequested x a w b
requests_back (is e) (assigns (is g) p) = absurd (cc)
requests_back (is e) (writes (is g) p) = absurd (cc)
requests_back e (requests {u = u} d) = (u, refl, d)
requests_back (is e) (declares (declared (name g) i q j r)) = absurd (cc)

declares_back : {x : Name} {a : List Token} {v : Statement} {b : List Token} → Lacks m.Equal a → Lacks m.Dot a → Lacks m.LeftParen a → Tail x a v b → (w : Statement) × (v ≡ w) × IsDeclared (sorts.Class x) x.at a w b
declares_back g h l (assigns i p) = absurd (g _ i)
declares_back g h l (writes i p) = absurd (h _ i)
declares_back g h l (requests (requested (bracketed i p j) q)) = absurd (l _ i)
declares_back g h l (declares {u = u} d) = (u, refl, d)

module _ {A : Type 0} {R : List Token → A → List Token → Type 0} {may : Kind → Bool} {room : ℕ} {a : List Token} {f : Statement → A} {x : Name} {left : ℕ} {b : List Token} where
  pub assigns_start : {c : List Token} → Going R may room a (Tail x) f left b → Is m.Equal b c → Going R may room a (IsAssigned x) f left c
  assigns_start r i = sign (turn (λ v. v.1) r (λ more v after p. assigns p.first p.second) (λ more v after same p h. assigns_back (same_sign b more i same).1 p)) i refl

  pub writes_start : {c : List Token} → Going R may room a (Tail x) f left b → Is m.Dot b c → Going R may room a (IsWritten x) f left c
  writes_start r i = sign (turn (λ v. v.1) r (λ more v after p. writes p.first p.second) (λ more v after same p h. writes_back (same_sign b more i same).1 p)) i refl

  pub requests_start : {c : List Token} → Going R may room a (Tail x) f left b → Is m.LeftParen b c → Going R may room a (IsRequested x) f left b
  requests_start r i = turn (λ v. v) r (λ more v after. requests) (λ more v after same p h. requests_back (same_sign b more i same).1 p)

  pub declares_start : Going R may room a (Tail x) f left b → Lacks m.Equal b → Lacks m.Dot b → Lacks m.LeftParen b → Going R may room a (IsDeclared (sorts.Class x) x.at) f left b
  declares_start r g h l = turn (λ v. v) r (λ more v after. declares) (λ more v after same p i. declares_back (λ c j. lacks_too b more c g same j) (λ c j. lacks_too b more c h same j) (λ c j. lacks_too b more c l same j) p)

-- ---- statements that begin with a word

int_made : {t : Token} {more b : List Token} {u : Statement} → t.kind ≡ k.Fixed m.Int → IsDeclared (sorts.Number widths.Int) t.at more u b → IsStatement (t ∷ more) u b
int_made e (declared p i q j (ended r l)) = declare (number {w = widths.Int} (is e)) p i q j r l

only_int : {at : ℕ} {a b : List Token} {u : Statement} → Begun (k.Fixed m.Int) at a u b → IsDeclared (sorts.Number widths.Int) at a u b
only_int (by_int d) = d

if_made : {t : Token} {more b : List Token} {u : Statement} → t.kind ≡ k.Fixed m.If → IsChoice more u b → IsStatement (t ∷ more) u b
if_made e (branched (bracketed i p j) q r) = choice (is e) i p j q r

only_if : {at : ℕ} {a b : List Token} {u : Statement} → Begun (k.Fixed m.If) at a u b → IsChoice a u b
only_if (by_if d) = d

while_made : {t : Token} {more b : List Token} {u : Statement} → t.kind ≡ k.Fixed m.While → IsLoop more u b → IsStatement (t ∷ more) u b
while_made e (looped (bracketed i p j) q) = loop (is e) i p j q

only_while : {at : ℕ} {a b : List Token} {u : Statement} → Begun (k.Fixed m.While) at a u b → IsLoop a u b
only_while (by_while d) = d

atomic_made : {t : Token} {more b : List Token} {u : Statement} → t.kind ≡ k.Fixed m.Atomic → IsAttempt t.at more u b → IsStatement (t ∷ more) u b
atomic_made e (attempted p q i r) = atomic (is e) p q i r

only_atomic : {at : ℕ} {a b : List Token} {u : Statement} → Begun (k.Fixed m.Atomic) at a u b → IsAttempt at a u b
only_atomic (by_atomic d) = d

fail_made : {t : Token} {more b : List Token} {u : Statement} → t.kind ≡ k.Fixed m.Fail → IsFailure t.at more u b → IsStatement (t ∷ more) u b
fail_made e (failed i) = fail (is e) i

only_fail : {at : ℕ} {a b : List Token} {u : Statement} → Begun (k.Fixed m.Fail) at a u b → IsFailure at a u b
only_fail (by_fail d) = d

module _ {room at : ℕ} {a c : List Token} where
  word_start : (S : ℕ → List Token → Statement → List Token → Type 0) (mark : Mark) → room_by (k.Fixed mark) room ≡ Some room
      → ((t : Token) (more b : List Token) (u : Statement) → t.kind ≡ k.Fixed mark → S t.at more u b → IsStatement (t ∷ more) u b)
      → ((at : ℕ) (x b : List Token) (u : Statement) → Begun (k.Fixed mark) at x u b → S at x u b) → at ≡ first_place a → Is mark a c
      → Going IsStatement after_statement room a (S at) (λ v. v) room c
  word_start S mark level made only e i = behind_word S e i level (λ t g more v after. made t more after v g) (λ t g more u after d. only t.at more after u (begun_as (k.Fixed mark) g d))

  pub int_start : at ≡ first_place a → Is m.Int a c → Going IsStatement after_statement room a (IsDeclared (sorts.Number widths.Int) at) (λ v. v) room c
  int_start = word_start (λ at. IsDeclared (sorts.Number widths.Int) at) m.Int refl (λ t more b u. int_made) (λ at x b u. only_int)

  pub if_start : at ≡ first_place a → Is m.If a c → Going IsStatement after_statement room a IsChoice (λ v. v) room c
  if_start = word_start (λ at. IsChoice) m.If refl (λ t more b u. if_made) (λ at x b u. only_if)

  pub while_start : at ≡ first_place a → Is m.While a c → Going IsStatement after_statement room a IsLoop (λ v. v) room c
  while_start = word_start (λ at. IsLoop) m.While refl (λ t more b u. while_made) (λ at x b u. only_while)

  pub atomic_start : at ≡ first_place a → Is m.Atomic a c → Going IsStatement after_statement room a (IsAttempt at) (λ v. v) room c
  atomic_start = word_start (λ at. IsAttempt at) m.Atomic refl (λ t more b u. atomic_made) (λ at x b u. only_atomic)

  pub fail_start : at ≡ first_place a → Is m.Fail a c → Going IsStatement after_statement room a (IsFailure at) (λ v. v) room c
  fail_start = word_start (λ at. IsFailure at) m.Fail refl (λ t more b u. fail_made) (λ at x b u. only_fail)

-- ---- what a statement begins with, and what may follow one

pub statement_begins : (a : List Token) (t : Statement) (b : List Token) → IsStatement a t b → Starts begins_statement a
statement_begins a t b (declare (number {w = widths.Int} (is e)) p i q j r l) = subst (λ x. IsTrue (begins_statement x)) (sym e) refl
statement_begins a t b (declare (class (name e)) p i q j r l) = subst (λ x. IsTrue (begins_statement x)) (sym e) refl
statement_begins a t b (assign (name e) i p j) = subst (λ x. IsTrue (begins_statement x)) (sym e) refl
statement_begins a t b (write (name e) i p j q l) = subst (λ x. IsTrue (begins_statement x)) (sym e) refl
statement_begins a t b (call (name e) i p j l) = subst (λ x. IsTrue (begins_statement x)) (sym e) refl
statement_begins a t b (choice (is e) i p j q r) = subst (λ x. IsTrue (begins_statement x)) (sym e) refl
statement_begins a t b (loop (is e) i p j q) = subst (λ x. IsTrue (begins_statement x)) (sym e) refl
statement_begins a t b (atomic (is e) p q i r) = subst (λ x. IsTrue (begins_statement x)) (sym e) refl
statement_begins a t b (fail (is e) i) = subst (λ x. IsTrue (begins_statement x)) (sym e) refl

statement_meets : (x : Kind) → IsTrue (begins_statement x) → IsTrue (after_statement x)
statement_meets (k.Fixed m.Else) h = absurd (never h)
statement_meets _ h = refl

-- what comes behind a statement may follow it
pub statements_meet : (more : List Token) (v : List Statement) (after : List Token) → Repeated IsStatement more v after → Follows behind_statements after → Follows after_statement more
statements_meet = list_meets begins_statement after_statement statement_begins statement_meets

statement_text : HasText IsStatement
statement_text = (token_of m.Fail ∷ token_of m.Semicolon ∷ [], forms.Fail 0, λ after. fail (is refl) (is refl))

no_statement_begins : (x : Kind) → (IsTrue (begins_name x) → ⊥) → (x ≡ k.Fixed m.Int → ⊥) → (x ≡ k.Fixed m.If → ⊥) → (x ≡ k.Fixed m.While → ⊥) → (x ≡ k.Fixed m.Atomic → ⊥) → (x ≡ k.Fixed m.Fail → ⊥) → IsTrue (begins_statement x) → ⊥
no_statement_begins (k.Name y) n i c w a f s = n s
no_statement_begins (k.Fixed m.Int) n i c w a f s = i refl
no_statement_begins (k.Fixed m.If) n i c w a f s = c refl
no_statement_begins (k.Fixed m.While) n i c w a f s = w refl
no_statement_begins (k.Fixed m.Atomic) n i c w a f s = a refl
no_statement_begins (k.Fixed m.Fail) n i c w a f s = f refl
no_statement_begins _ n i c w a f s = never s

no_statement_starts : (a : List Token) → (Starts begins_name a → ⊥) → Lacks m.Int a → Lacks m.If a → Lacks m.While a → Lacks m.Atomic a → Lacks m.Fail a → Starts begins_statement a → ⊥
no_statement_starts [] n i c w l f s = s
no_statement_starts (t ∷ ts) n i c w l f s = no_statement_begins t.kind n (λ e. i ts (is e)) (λ e. c ts (is e)) (λ e. w ts (is e)) (λ e. l ts (is e)) (λ e. f ts (is e)) s

pub statement_refused : {room : ℕ} (a : List Token) → (Starts begins_name a → ⊥) → Lacks m.Int a → Lacks m.If a → Lacks m.While a → Lacks m.Atomic a → Lacks m.Fail a → Refused IsStatement after_statement room a (length a)
statement_refused a n i c w l f = here begins_statement statement_begins statement_text (no_statement_starts a n i c w l f)
