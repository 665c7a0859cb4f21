-- Worked examples of the rules of names and types; places that nothing looks at are 0.
use Rattle.std.proofs.Common.{◌≡◌, ◌+◌, ℕ, Bool, true, false, not, pos, List, [], ◌∷◌, ◌++◌, map, filter, flat_map, replicate, Option, Some, None, codes, refl, sym, ap, ◌∙◌, lit<, lit≤, arith, ⊎_elim, inl, inr, ℤ}
use Rattle.std.proofs.lemmas.List.Elements.{All-from_recursion}
use Rattle.fab_tree.specs.declared.name.Name.{Name}
use Rattle.fab_tree.specs.declared.declaration.Role.{Role}
use Rattle.fab_tree.specs.declared.declaration.Role.TheVariants.{Principal, Worker, Store}
use Rattle.fab_tree.specs.declared.declaration.Node.{Node}
use Rattle.fab_tree.specs.declared.declaration.Aspect.TheVariants.{Confidentiality, Integrity}
use Rattle.fab_tree.specs.declared.declaration.Sort.{Sort}
use Rattle.fab_tree.specs.declared.declaration.Sort.{Sort}
use Rattle.fab_tree.specs.declared.declaration.Sort.TheVariants.{Number as Sized, Class as Of}
use Rattle.fab_tree.specs.declared.declaration.Field.{Field}
use Rattle.fab_tree.specs.declared.declaration.Class.{Class}
use Rattle.fab_tree.specs.declared.expression.Comparison.TheVariants.{Equal, NotEqual, Less}
use Rattle.fab_tree.specs.declared.expression.Expression.{Expression, fold-roll-Expression}
use Rattle.fab_tree.specs.declared.expression.Form.{fold-Form, fold-roll-Form}
use Rattle.fab_tree.specs.declared.expression.Form.TheVariants as forms
use Rattle.fab_tree.specs.declared.expression.Form.TheOpen as f
use Rattle.fab_tree.specs.declared.statement.Downgrade.TheVariants.{Declassify}
use Rattle.fab_tree.specs.declared.statement.Right.TheVariants as rights
use Rattle.fab_tree.specs.declared.statement.Statement.{fold-roll-Statement}
use Rattle.fab_tree.specs.declared.statement.Statement.TheVariants as statements
use Rattle.fab_tree.specs.declared.statement.Statement.TheOpen as s
use Rattle.fab_tree.specs.declared.program.Parameter.{Parameter}
use Rattle.fab_tree.specs.declared.program.Returns.{Returns}
use Rattle.fab_tree.specs.declared.program.Method.{Method}
use Rattle.fab_tree.specs.declared.program.Program.{Program}
use Rattle.fab_tree.specs.declared.event.Step.TheVariants.{Begin, Resume, Deliver, Idle, Recover}
use Rattle.fab_tree.specs.declared.event.Event.{Event}
use Rattle.fab_tree.specs.declared.event.Event.TheVariants.{Step, CrashIn, Post, Crash}
use Rattle.fab_tree.specs.declared.start.Literal.{Literal}
use Rattle.fab_tree.specs.declared.start.Literal.TheVariants.{Number as Digits, Null, Root as The}
use Rattle.fab_tree.specs.declared.start.Given.{Given}
use Rattle.fab_tree.specs.declared.start.Root.{Root}
use Rattle.fab_tree.specs.declared.start.Start.{Start}
use Rattle.fab_tree.specs.declared.expression.Number.TheVariants as numbers
use Rattle.fab_tree.specs.declared.expression.UnaryOperator.TheVariants as unary
use Rattle.fab_tree.specs.Expressions.{expression_at}
use Rattle.fab_language.specs.declared.rule.Fault.{Fault}
use Rattle.fab_language.specs.declared.rule.NameRule.{NameRule}
use Rattle.fab_language.specs.declared.rule.NameRule.TheVariants.{Unknown, Doubled, Node as Misplaced, Arity, Typing}
use Rattle.fab_language.specs.Heads.{Locals, Head, declare, assign, write, test, result, Walk, walk, walk_step, in_row, heads_in}
use Rattle.fab_language.specs.Kinds.{Kind, number, object, nothing, unknown, takes, are_comparable}
use Rattle.fab_language.specs.Unknown as names
use Rattle.fab_language.specs.Roles as roles
use Rattle.fab_language.specs.Arity as arity
use Rattle.fab_language.specs.Types as types
use Rattle.fab_language.specs.Types.{Checked}
use Rattle.fab_language.specs.Faults.{faults, IsFirst, IsNoLater}
use Rattle.fab_base.specs.declared.object.Width.TheVariants as widths

abbrev Int : Sort
Int = Sized widths.Int

abbrev Number : ℤ → Literal
Number n = Digits (numbers.Int n)

abbrev called : List ℕ → ℕ → Name
called x at = record { text = x; at = at }

abbrev fault : NameRule → ℕ → Fault
fault rule at = record { rule = rule; at = at }

abbrev node : Role → List ℕ → ℕ → Node
node role x at = record { role = role; name = called x at }

abbrev class : List ℕ → ℕ → List Field → Class
class x at fields = record { name = called x at; label = called (codes "L") 0; access = called (codes "L") 0; fields = fields }

abbrev local : Sort → List ℕ → ℕ → Parameter
local t x at = record { sort = t; name = called x at; label = called (codes "L") 0 }

abbrev method : List ℕ → ℕ → List Parameter → Option Returns → Method
method x at parameters returns = record { name = called x at; parameters = parameters; returns = returns; begin = called (codes "L") 0; fails = false; authority = []; body = []; result = None }

abbrev given : Literal → ℕ → Given
given literal at = record { literal = literal; at = at }

abbrev root : List ℕ → ℕ → List ℕ → ℕ → List Given → Root
root x at of class_at values = record { name = called x at; class = called of class_at; store = called (codes "s") 0; values = values }

-- principal P; worker w; hostile worker x; store s; hostile store t; label L = {}; class C label L access L { D next; int f; }
-- class D label L access L { } method m(C c : L, int n : L) begin L { } run { }
abbrev program : Program
program = record {
  nodes = node Principal (codes "P") 0 ∷ node (Worker false) (codes "w") 0 ∷ node (Worker true) (codes "x") 0 ∷ node (Store false) (codes "s") 0 ∷ node (Store true) (codes "t") 0 ∷ [];
  delegations = [];
  labels = record { name = called (codes "L") 0; policies = [] } ∷ [];
  classes = class (codes "C") 0 (record { sort = Of (called (codes "D") 0); name = called (codes "next") 0 } ∷ record { sort = Int; name = called (codes "f") 0 } ∷ []) ∷ class (codes "D") 0 [] ∷ [];
  methods = method (codes "m") 0 (local (Of (called (codes "C") 0)) (codes "c") 0 ∷ local Int (codes "n") 0 ∷ []) None ∷ [];
}

abbrev bundle : Program → Start
bundle p = record { program = p; roots = []; sessions = []; posts = []; crashes = []; cache = 0; schedule = [] }

abbrev plain : Start
plain = bundle program

-- a class is known before its declaration, as D in C
nothing_wrong : faults plain ≡ []
nothing_wrong = refl

-- w actsfor L; label M = {P -> w, q; R <-}; class E label L access A { K f; int f; } method k(K a : A) returns K :
-- A begin A authority w, A { }: a label is no principal, and C has an f, too
undeclared : faults (bundle (record program {
  delegations = record { actor = called (codes "w") 1; principal = called (codes "L") 2 } ∷ [];
  labels = program.labels ++ record { name = called (codes "M") 3; policies = record { owner = called (codes "P") 4; aspect = Confidentiality; others = called (codes "w") 5 ∷ called (codes "q") 6 ∷ [] } ∷ record { owner = called (codes "R") 7; aspect = Integrity; others = [] } ∷ [] } ∷ [];
  classes = program.classes ++ record (class (codes "E") 8 (record { sort = Of (called (codes "K") 10); name = called (codes "f") 11 } ∷ record { sort = Int; name = called (codes "f") 12 } ∷ [])) { access = called (codes "A") 9 } ∷ [];
  methods = program.methods ++ record (method (codes "k") 13 (record { sort = Of (called (codes "K") 14); name = called (codes "a") 15; label = called (codes "A") 16 } ∷ []) (Some (record { sort = Of (called (codes "K") 17); label = called (codes "A") 18 }))) { begin = called (codes "A") 19; authority = called (codes "w") 20 ∷ called (codes "A") 21 ∷ [] } ∷ [];
}))
    ≡ map (fault Unknown) (2 ∷ 6 ∷ 7 ∷ 9 ∷ 10 ∷ 14 ∷ 16 ∷ 17 ∷ 18 ∷ 19 ∷ 21 ∷ []) ++ fault Doubled 12 ∷ fault Typing 13 ∷ []
undeclared = refl

-- again w, L, which D may be called, too, and D; a method with two parameters of one name; again m, which says that it returns and doesn't
declared_twice : faults (bundle (record program {
  nodes = program.nodes ++ node Principal (codes "w") 1 ∷ [];
  labels = map (λ x. record { name = x; policies = [] }) (called (codes "L") 0 ∷ called (codes "D") 2 ∷ called (codes "L") 3 ∷ []);
  classes = program.classes ++ class (codes "D") 4 [] ∷ [];
  methods = program.methods ++ method (codes "k") 5 (local Int (codes "a") 6 ∷ local Int (codes "a") 7 ∷ []) None ∷ method (codes "m") 8 [] (Some (record { sort = Int; label = called (codes "L") 0 })) ∷ [];
}))
    ≡ map (fault Doubled) (1 ∷ 3 ∷ 4 ∷ 8 ∷ 7 ∷ []) ++ fault Typing 8 ∷ []
declared_twice = refl

-- null is of each class, and a root is known before its declaration; a of another class, null for a number, a number for an object, no such root;
-- no class K: it has no fields, and b any type; a second a, of too few values: the name stands for the first, which is a D
values : map (λ x. faults (record plain { roots = x })) ((root (codes "a") 1 (codes "C") 2 (given (The (called (codes "d") 3)) 3 ∷ given (Number (pos 1)) 4 ∷ []) ∷ root (codes "b") 5 (codes "C") 6 (given Null 7 ∷ given (Number (pos 1)) 8 ∷ []) ∷ root (codes "d") 9 (codes "D") 10 [] ∷ [])
    ∷ (root (codes "a") 1 (codes "C") 2 (given (The (called (codes "a") 3)) 3 ∷ given Null 4 ∷ []) ∷ root (codes "b") 5 (codes "C") 6 (given (Number (pos 1)) 7 ∷ given (The (called (codes "z") 8)) 8 ∷ []) ∷ [])
    ∷ (root (codes "b") 1 (codes "K") 2 (given (Number (pos 1)) 3 ∷ []) ∷ root (codes "c") 4 (codes "C") 5 (given (The (called (codes "b") 6)) 6 ∷ given (The (called (codes "b") 7)) 7 ∷ []) ∷ [])
    ∷ (root (codes "a") 1 (codes "D") 2 [] ∷ root (codes "a") 3 (codes "C") 4 (given (The (called (codes "a") 5)) 5 ∷ []) ∷ []) ∷ [])
    ≡ [] ∷ (fault Unknown 8 ∷ map (fault Typing) (3 ∷ 4 ∷ 7 ∷ [])) ∷ (fault Unknown 2 ∷ []) ∷ (fault Doubled 3 ∷ fault Arity 3 ∷ []) ∷ []
values = refl

-- m(null, null); m(1); m(null, 1, 1); k(null);
requests : faults (record plain {
  sessions = record {
    worker = called (codes "w") 1;
    requests = record { method = called (codes "m") 2; arguments = given Null 3 ∷ given Null 4 ∷ [] } ∷ record { method = called (codes "m") 5; arguments = given (Number (pos 1)) 6 ∷ [] }
        ∷ record { method = called (codes "m") 7; arguments = given Null 8 ∷ given (Number (pos 1)) 9 ∷ given (Number (pos 1)) 10 ∷ [] } ∷ record { method = called (codes "k") 11; arguments = given Null 12 ∷ [] } ∷ [];
  } ∷ [];
})
    ≡ fault Unknown 11 ∷ fault Arity 5 ∷ fault Arity 7 ∷ fault Typing 4 ∷ fault Typing 6 ∷ []
requests = refl

abbrev six : List Name
six = called (codes "P") 1 ∷ called (codes "w") 2 ∷ called (codes "x") 3 ∷ called (codes "s") 4 ∷ called (codes "t") 5 ∷ called (codes "q") 6 ∷ []

abbrev scheduled : (Name → Event) → Start
scheduled event = record plain { schedule = map event six }

-- of P, w, x, s, t and the undeclared q, each start refuses these for what they are
abbrev Refuse : List Start → List ℕ → Type 0
Refuse starts wrong = map faults starts ≡ map (λ x. fault Unknown 6 ∷ map (fault Misplaced) wrong) starts

honest_workers : Refuse (scheduled (λ n. Step (Begin n)) ∷ scheduled (λ n. CrashIn 7 (Resume n)) ∷ scheduled (λ n. Step (Idle n (called (codes "t") 0))) ∷ record plain { sessions = map (λ n. record { worker = n; requests = [] }) six } ∷ []) (1 ∷ 3 ∷ 4 ∷ 5 ∷ [])
honest_workers = refl

honest_nodes : Refuse (scheduled (λ n. Step (Deliver (called (codes "x") 0) n)) ∷ scheduled (λ n. CrashIn 7 (Recover n)) ∷ scheduled Crash ∷ record plain { crashes = map (λ n. record { node = n; after = 0; keep = None }) six } ∷ record plain { posts = map (λ n. record { sender = called (codes "t") 0; receiver = n; bytes = [] }) six } ∷ []) (1 ∷ 3 ∷ 5 ∷ [])
honest_nodes = refl

hostile_nodes : Refuse (scheduled Post ∷ record plain { posts = map (λ n. record { sender = n; receiver = called (codes "s") 0; bytes = [] }) six } ∷ []) (1 ∷ 2 ∷ 4 ∷ [])
hostile_nodes = refl

any_nodes : Refuse (scheduled (λ n. Step (Deliver n (called (codes "w") 0))) ∷ scheduled (λ n. Step (Idle (called (codes "w") 0) n)) ∷ []) (1 ∷ [])
any_nodes = refl

stores : Refuse (record plain { roots = map (λ n. record { name = n; class = called (codes "D") 0; store = n; values = [] }) six } ∷ []) (1 ∷ 2 ∷ 3 ∷ [])
stores = refl

-- each of the six has two sessions: the second is doubled where it is a worker's, also a hostile one's
second_sessions : faults (record plain { sessions = map (λ n. record { worker = n; requests = [] }) (six ++ map (λ n. called n.text (n.at + 10)) six) })
    ≡ map (fault Unknown) (6 ∷ 16 ∷ []) ++ map (fault Doubled) (12 ∷ 13 ∷ []) ++ map (fault Misplaced) (1 ∷ 3 ∷ 4 ∷ 5 ∷ 11 ∷ 13 ∷ 14 ∷ 15 ∷ [])
second_sessions = refl

abbrev four : List Fault
four = fault Doubled 7 ∷ fault Typing 5 ∷ fault Arity 5 ∷ fault Arity 5 ∷ []

first_of_four : IsFirst four (fault Arity 5)
first_of_four = record { is_one = (2, lit< tt, refl); first = All-from_recursion (λ y. IsNoLater (fault Arity 5) y) four (inl (lit< tt), (inr (refl, lit≤ tt), (inr (refl, lit≤ tt), (inr (refl, lit≤ tt), tt)))) }

not_the_later_rule : IsFirst four (fault Typing 5) → ⊥
not_the_later_rule h = ⊎_elim (λ before. omega (arith, before)) (λ here. omega (arith, here.1)) (h.first 2 (fault Arity 5) (lit< tt))

not_the_later_place : IsFirst four (fault Doubled 7) → ⊥
not_the_later_place h = ⊎_elim (λ before. omega (arith, before)) (λ here. omega (arith, here.0)) (h.first 2 (fault Arity 5) (lit< tt))

abbrev kinds : List Kind
kinds = number widths.Int ∷ object (codes "C") ∷ object (codes "D") ∷ nothing ∷ unknown ∷ []

abbrev pairs_without : (Kind → Kind → Bool) → List (Kind × Kind)
pairs_without fit = filter (λ x. not (fit x.0 x.1)) (flat_map (λ a. map (λ b. (a, b)) kinds) kinds)

-- of all pairs; no taker is null
not_taken : pairs_without takes ≡ (number widths.Int, object (codes "C")) ∷ (number widths.Int, object (codes "D")) ∷ (number widths.Int, nothing) ∷ (object (codes "C"), number widths.Int) ∷ (object (codes "C"), object (codes "D")) ∷ (object (codes "D"), number widths.Int) ∷ (object (codes "D"), object (codes "C")) ∷ []
not_taken = refl

not_compared : pairs_without are_comparable ≡ pairs_without takes ++ (nothing, number widths.Int) ∷ (nothing, nothing) ∷ []
not_compared = refl

abbrev makes : List ℕ → Expression → Walk
makes x e = walk_step (s.Declare Int (called x 0) (called (codes "L") 0) e 0)

-- what is known at each head of int a; if (e) { int b; int c; } else { int d; } while (e) { int f; } atomic L { int g; } else { int h; } int i;
blocks : (e : Expression) → map (λ h. map (λ x. x.name.text) h.0) (in_row (makes (codes "a") e ∷ walk_step (s.If e (makes (codes "b") e ∷ makes (codes "c") e ∷ []) (Some (makes (codes "d") e ∷ []))) ∷ walk_step (s.While e (makes (codes "f") e ∷ []))
    ∷ walk_step (s.Atomic (called [] 0) (makes (codes "g") e ∷ []) (makes (codes "h") e ∷ []) 0) ∷ makes (codes "i") e ∷ []) []).heads
    ≡ [] ∷ (codes "a" ∷ []) ∷ (codes "a" ∷ []) ∷ (codes "a" ∷ codes "b" ∷ []) ∷ replicate 7 (codes "a" ∷ [])
blocks e = refl

-- C o; D d; int n; K k; K isn't declared
abbrev known : Locals
known = local (Of (called (codes "C") 0)) (codes "o") 0 ∷ local (Of (called (codes "D") 0)) (codes "d") 0 ∷ local Int (codes "n") 0 ∷ local (Of (called (codes "K") 0)) (codes "k") 0 ∷ []

own_value : (e : Expression) → (heads_in (statements.Declare Int (called (codes "a") 4) (called (codes "L") 8) e 0 ∷ []) known).heads ≡ (known, declare Int (called (codes "a") 4) (called (codes "L") 8) e) ∷ []
own_value e = ap (λ x. (in_row (walk x ∷ []) known).heads) (sym (statements.rolls-Declare Int (called (codes "a") 4) (called (codes "L") 8) e 0)) ∙ ap (λ x. (in_row (x ∷ []) known).heads) (fold-roll-Statement Walk walk_step (s.Declare Int (called (codes "a") 4) (called (codes "L") 8) e 0))

-- a; o.z; n.z; k.z; a.z: a field is looked for in a class that is known
undeclared_locals : map (names.in_form plain known) (f.Local (called (codes "a") 4) ∷ map (λ x. f.Read (called x 4) (called (codes "z") 6)) (codes "o" ∷ codes "n" ∷ codes "k" ∷ codes "a" ∷ [])) ≡ (fault Unknown 4 ∷ []) ∷ (fault Unknown 6 ∷ []) ∷ [] ∷ [] ∷ (fault Unknown 4 ∷ []) ∷ []
undeclared_locals = refl

abbrev at : ℕ → f.Form-F (ℕ → Checked) Checked Checked → Checked
at place form = types.in_form plain known form place

abbrev of : List ℕ → ℕ → Checked
of x place = at place (f.Local (called x place))

-- the faults of these, each of rule typing
abbrev Mistyped : List Checked → List (List ℕ) → Type 0
Mistyped xs places = map (λ x. x.faults) xs ≡ map (map (fault Typing)) places

-- null == null; o == null; null != k; o == d; n == null; n == 1; z == null; n < o; n + (o) + d, with a bracket at 7; -o; !null
operands : Mistyped (map (at 3) (f.Compared (at 3 f.Null) Equal (at 11 f.Null) ∷ f.Compared (of (codes "o") 3) Equal (at 8 f.Null) ∷ f.Compared (at 3 f.Null) NotEqual (of (codes "k") 11) ∷ f.Compared (of (codes "o") 3) Equal (of (codes "d") 8) ∷ f.Compared (of (codes "n") 3) Equal (at 8 f.Null) ∷ f.Compared (of (codes "n") 3) Equal (at 8 (f.Number (numbers.Int (pos 1))))
    ∷ f.Compared (of (codes "z") 3) Equal (at 8 f.Null) ∷ f.Compared (of (codes "n") 3) Less (of (codes "o") 7) ∷ f.Chain (of (codes "n") 3) (at 7 (f.Local (called (codes "o") 8)) ∷ of (codes "d") 13 ∷ []) ∷ f.Unary unary.Negative (of (codes "o") 4) ∷ f.Unary unary.Not (at 4 f.Null) ∷ []))
    ((3 ∷ []) ∷ [] ∷ [] ∷ (3 ∷ []) ∷ (3 ∷ []) ∷ [] ∷ [] ∷ (7 ∷ []) ∷ (7 ∷ 13 ∷ []) ∷ (4 ∷ []) ∷ (4 ∷ []) ∷ [])
operands = refl

-- !o.z; !n.f; !k.f; !z.f; !o.next; what isn't known has any type
reaches : Mistyped (map (λ (x : List ℕ × List ℕ). at 3 (f.Unary unary.Not (at 4 (f.Read (called x.0 5) (called x.1 7))))) ((codes "o", codes "z") ∷ (codes "n", codes "f") ∷ (codes "k", codes "f") ∷ (codes "z", codes "f") ∷ (codes "o", codes "next") ∷ [])) ([] ∷ (4 ∷ []) ∷ [] ∷ [] ∷ (4 ∷ []) ∷ [])
reaches = refl

-- n = new C @ s (); o = new D @ w (); d = new D @ t (); o = new K @ q (); n = m(); n = q(); m takes two and returns nothing, two rules at one place
assigned : map (λ h. names.in_head plain known h ++ roles.in_head plain h ++ arity.in_head plain h ++ types.in_head plain known None h)
    (map (λ (x : List ℕ × List ℕ × List ℕ). assign (called x.0 0) (rights.New (called x.1 8) (called x.2 12) [] 4)) ((codes "n", codes "C", codes "s") ∷ (codes "o", codes "D", codes "w") ∷ (codes "d", codes "D", codes "t") ∷ (codes "o", codes "K", codes "q") ∷ []) ++ map (λ m. assign (called (codes "n") 0) (rights.Call (called m 4) [])) (codes "m" ∷ codes "q" ∷ []))
    ≡ (fault Arity 8 ∷ fault Typing 4 ∷ []) ∷ (fault Misplaced 12 ∷ fault Typing 4 ∷ []) ∷ [] ∷ (fault Unknown 8 ∷ fault Unknown 12 ∷ []) ∷ (fault Arity 4 ∷ fault Typing 4 ∷ []) ∷ (fault Unknown 4 ∷ []) ∷ []
assigned = refl

-- (o), of which the bracket is at 9
abbrev o : Expression
o = expression_at 9 (forms.Local (called (codes "o") 10))

o_is : types.checked plain known o ≡ at 9 (f.Local (called (codes "o") 10))
o_is =
    fold-roll-Expression (ℕ → Checked) Checked Checked (types.in_form plain known) (λ e. e.form e.at) (λ u. u.operand) (record { form = forms.Local (called (codes "o") 10); at = 9 })
    ∙ ap (λ x. fold-Form (ℕ → Checked) Checked Checked (types.in_form plain known) (λ e. e.form e.at) (λ u. u.operand) x 9) (sym (forms.rolls-Local (called (codes "o") 10)))
    ∙ ap (λ x. x 9) (fold-roll-Form (ℕ → Checked) Checked Checked (types.in_form plain known) (λ e. e.form e.at) (λ u. u.operand) (f.Local (called (codes "o") 10)))

-- int x : L = (o); if ((o)) ..; n.f = (o); o.f = (o); n = declassify((o), ..); return (o); where nothing and where a number is returned
in_each_place : map (λ (x : Option Returns × Head). types.in_head plain known x.0 x.1) ((None, declare Int (called (codes "x") 2) (called (codes "L") 4) o) ∷ (None, test o) ∷ (None, write (called (codes "n") 3) (called (codes "f") 5) o) ∷ (None, write (called (codes "o") 3) (called (codes "f") 5) o)
    ∷ (None, assign (called (codes "n") 0) (rights.Downgrade Declassify o (called (codes "L") 0) (called (codes "L") 0) 4)) ∷ (None, result (record { value = o; at = 0 })) ∷ (Some (record { sort = Int; label = called (codes "L") 0 }), result (record { value = o; at = 0 })) ∷ [])
    ≡ map (map (fault Typing)) ((9 ∷ []) ∷ (9 ∷ []) ∷ (3 ∷ []) ∷ (9 ∷ []) ∷ (4 ∷ []) ∷ [] ∷ (9 ∷ []) ∷ [])
in_each_place = ap (λ x. let for_number = x.faults ++ types.given_to (number widths.Int) x.value in let for_any = x.faults ++ types.given_to unknown x.value in for_number ∷ for_number ∷ (fault Typing 3 ∷ for_any) ∷ for_number ∷ (x.faults ++ types.given_to (number widths.Int) (record { kind = x.value.kind; at = 4 })) ∷ for_any ∷ for_number ∷ []) o_is
