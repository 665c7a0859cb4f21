-- Worked examples of what a program owes its labels: each form, with places, rules and claims in their order.
--
-- In all of them the local 0 is `c` of the class C, under label 3, the local 1 is `n` under 4 and the local 2 is
-- `s` under 5; C is of label 6 and access 7.
use Rattle.fab_base.specs.declared.object.Width.TheVariants as widths
use Rattle.std.proofs.Common.{◌≡◌, ℕ, Bool, true, false, pos, List, [], ◌∷◌, ◌++◌, map, Some, None, refl, ap, codes}
use Rattle.fab_tree.specs.declared.name.Name.{Name}
use Rattle.fab_tree.specs.declared.declaration.Role.TheVariants as roles
use Rattle.fab_tree.specs.declared.expression.Operator.TheVariants.{Multiply, Divide}
use Rattle.fab_tree.specs.declared.expression.Comparison.TheVariants.{Less}
use Rattle.fab_tree.specs.declared.statement.Downgrade.TheVariants.{Declassify as Declassifies, Endorse as Endorses}
use Rattle.fab_tree.specs.declared.resolved.Use.{Use}
use Rattle.fab_tree.specs.declared.resolved.Sort.{Sort}
use Rattle.fab_tree.specs.declared.resolved.Sort.TheVariants as sorts
use Rattle.fab_tree.specs.declared.resolved.Class.{Class}
use Rattle.fab_tree.specs.declared.resolved.Expression.{Expression}
use Rattle.fab_tree.specs.declared.resolved.Form.TheOpen as f
use Rattle.fab_tree.specs.declared.resolved.Right.TheVariants as rights
use Rattle.fab_tree.specs.declared.resolved.Statement.{Statement, roll-Statement}
use Rattle.fab_tree.specs.declared.resolved.Statement.TheOpen as s
use Rattle.fab_tree.specs.declared.resolved.Local as l
use Rattle.fab_tree.specs.declared.resolved.Method.{Method}
use Rattle.fab_tree.specs.declared.resolved.Principal.{Principal}
use Rattle.fab_tree.specs.declared.resolved.Asked.{Asked}
use Rattle.fab_tree.specs.declared.resolved.Resolved.{Resolved}
use Rattle.fab_tree.specs.declared.expression.Number.TheVariants as numbers
use Rattle.fab_tree.specs.declared.expression.UnaryOperator.TheVariants as unary
use Rattle.fab_labelling.specs.declared.rule.LabelRule.{LabelRule}
use Rattle.fab_labelling.specs.declared.rule.LabelRule.TheVariants.{Placement, Begin, Atomic, Write, Access, Fail, Declassify, Endorse, Authority}
use Rattle.fab_labelling.specs.Obligations.{flows, conf, nowhere, declassifies, endorses, holds, answers_for, Owed, owe, Part, part, Owes, right_owes, statement_step, owed}
use Rattle.fab_labelling.specs.Sites.{sites_of, pcs_of}
use Rattle.fab_labelling.proofs.Forms.{expression_at, operand_at, part_is, tail_is, owes_is, sites_are, sited_is}

abbrev used : ℕ → ℕ → Use
used number at = record { number = number; at = at }

abbrev name : Name
name = record { text = codes "x"; at = 0 }

abbrev local : Sort → ℕ → l.Local
local sort label = record { sort = sort; name = name; label = used label 0 }

abbrev classes : List Class
classes = record { name = name; label = used 6 0; access = used 7 0; fields = [] } ∷ []

abbrev locals : List l.Local
locals = local (sorts.Class (used 0 0)) 3 ∷ local (sorts.Number widths.Int) 4 ∷ local (sorts.Number widths.Int) 5 ∷ []

-- a method with two parameters under 8 and 9
abbrev called : ℕ → Bool → Method
called begin fails = record { name = name; parameters = 2; locals = local (sorts.Number widths.Int) 8 ∷ local (sorts.Number widths.Int) 9 ∷ local (sorts.Number widths.Int) 0 ∷ []; returns = Some (record { sort = sorts.Number widths.Int; label = used 10 0 }); begin = used begin 0; fails = fails; authority = []; body = []; result = None }

-- method 0 begins under 11 and may fail, method 1 begins under 12 and doesn't
abbrev methods : List Method
methods = called 11 true ∷ called 12 false ∷ []

-- these labels flow to that one, by a rule at a place
abbrev flow : LabelRule → ℕ → List ℕ → ℕ → List Owed
flow rule at from to = map (λ x. owe rule at (flows x to)) from

abbrev access : ℕ → List ℕ → List Owed
access at from = map (λ x. owe Access at (conf x 7)) from

-- ---- expressions, under 1 and 2, where failures flow to 1

abbrev of : Part → List ℕ × List Owed
of p = (p.labels, p.owes (1 ∷ 2 ∷ []) (Some 1))

abbrev c_f : ℕ → Expression
c_f at = expression_at at (f.Read (used 0 at) 0 0)

abbrev the_n : ℕ → Expression
the_n at = expression_at at (f.Local (used 1 at))

abbrev the_s : ℕ → Expression
the_s at = expression_at at (f.Local (used 2 at))

abbrev five : Expression
five = expression_at 0 (f.Number (numbers.Int (pos 5)))

-- a constant has no label
number_owes : of (part classes locals five) ≡ ([], [])
number_owes = rw part_is refl

null_owes : of (part classes locals (expression_at 20 f.Null)) ≡ ([], [])
null_owes = rw part_is refl

local_owes : of (part classes locals (the_n 20)) ≡ (4 ∷ [], [])
local_owes = rw part_is refl

-- c.f: what decided and `c` flow to where it is asked for, and where it fails
read_owes : of (part classes locals (c_f 20)) ≡ (3 ∷ 6 ∷ [], access 20 (1 ∷ 2 ∷ 3 ∷ []) ++ flow Fail 20 (1 ∷ 2 ∷ 3 ∷ []) 1)
read_owes = rw part_is refl

-- -n and !c.f are as their operands
negative_owes : of (part classes locals (expression_at 20 (f.Unary unary.Negative (the_n 21)))) ≡ (4 ∷ [], [])
negative_owes = rw (part_is, part_is) refl

not_owes : of (part classes locals (expression_at 20 (f.Unary unary.Not (c_f 21)))) ≡ (3 ∷ 6 ∷ [], access 21 (1 ∷ 2 ∷ 3 ∷ []) ++ flow Fail 21 (1 ∷ 2 ∷ 3 ∷ []) 1)
not_owes = rw (part_is, part_is) refl

-- s / c.f * n / 5: each divisor with what decided, at its sign
chain_owes : of (part classes locals (expression_at 20 (f.Chain (the_s 20) (operand_at 22 Divide (c_f 24) ∷ operand_at 28 Multiply (the_n 30) ∷ operand_at 32 Divide five ∷ []))))
    ≡ (5 ∷ 3 ∷ 6 ∷ 4 ∷ [], access 24 (1 ∷ 2 ∷ 3 ∷ []) ++ flow Fail 24 (1 ∷ 2 ∷ 3 ∷ []) 1 ++ flow Fail 22 (1 ∷ 2 ∷ 3 ∷ 6 ∷ []) 1 ++ flow Fail 32 (1 ∷ 2 ∷ []) 1)
chain_owes = rw (part_is, part_is, tail_is, part_is, tail_is, part_is, tail_is, part_is) refl

-- c.f < n
compared_owes : of (part classes locals (expression_at 20 (f.Compared (c_f 20) Less (the_n 26)))) ≡ (3 ∷ 6 ∷ 4 ∷ [], access 20 (1 ∷ 2 ∷ 3 ∷ []) ++ flow Fail 20 (1 ∷ 2 ∷ 3 ∷ []) 1)
compared_owes = rw (part_is, part_is, part_is) refl

-- where no failure label is there, nothing flows to it
nowhere_to_fail : (part classes locals (c_f 20)).owes (1 ∷ 2 ∷ []) None ≡ access 20 (1 ∷ 2 ∷ 3 ∷ []) ++ map (λ x. owe Fail 20 (nowhere x)) (1 ∷ 2 ∷ 3 ∷ [])
nowhere_to_fail = rw part_is refl

-- ---- statements at 10 with authority 0, under 1 and 2, where failures flow to 1

abbrev Owing : Type 0
Owing = Owes classes methods locals (0 ∷ [])

abbrev stands : s.Statement-F Owing → Owing
stands = statement_step classes methods locals (0 ∷ [])

abbrev owed_by : s.Statement-F Owing → List Owed
owed_by x = stands x (1 ∷ 2 ∷ []) (Some 1)

-- n = s;
assign_owes : owed_by (s.Assign 1 (rights.Plain (the_s 14)) 10) ≡ flow Write 10 (1 ∷ 2 ∷ 5 ∷ []) 4
assign_owes = rw (right_owes, part_is) refl

-- c.f = s; the list has what reaching `c` owes first, though a refusal names the write before it
write_owes : owed_by (s.Write (used 0 10) 0 (the_s 16) 0) ≡ access 10 (1 ∷ 2 ∷ 3 ∷ []) ++ flow Fail 10 (1 ∷ 2 ∷ 3 ∷ []) 1 ++ flow Write 10 (1 ∷ 2 ∷ 3 ∷ 5 ∷ []) 6
write_owes = rw part_is refl

-- m(s, 5); of a method that may fail, and of one that doesn't
abbrev arguments : List Owed
arguments = flow Write 12 (1 ∷ 2 ∷ 5 ∷ []) 8 ++ flow Write 0 (1 ∷ 2 ∷ []) 9

call_owes : owed_by (s.Call (used 0 10) (the_s 12 ∷ five ∷ [])) ≡ flow Begin 10 (1 ∷ 2 ∷ []) 11 ++ flow Fail 10 (11 ∷ []) 1 ++ arguments
call_owes = rw (part_is, part_is) refl

safe_call_owes : owed_by (s.Call (used 1 10) (the_s 12 ∷ five ∷ [])) ≡ flow Begin 10 (1 ∷ 2 ∷ []) 12 ++ arguments
safe_call_owes = rw (part_is, part_is) refl

-- n = m();
result_owes : owed_by (s.Assign 1 (rights.Call (used 0 14) []) 10) ≡ flow Begin 14 (1 ∷ 2 ∷ []) 11 ++ flow Fail 14 (11 ∷ []) 1 ++ flow Write 10 (1 ∷ 2 ∷ 10 ∷ []) 4
result_owes = refl

-- c = new C @ t (s), of the store 3
new_owes : owed_by (s.Assign 0 (rights.New (used 0 18) (used 3 22) (the_s 25 ∷ []) 0 14) 10)
    ≡ owe Placement 14 (holds 3 0) ∷ flow Write 14 (1 ∷ 2 ∷ []) 6 ++ access 14 (1 ∷ 2 ∷ []) ++ flow Write 25 (1 ∷ 2 ∷ 5 ∷ []) 6 ++ flow Write 10 (1 ∷ 2 ∷ []) 3
new_owes = rw part_is refl

-- n = declassify(s, 14 to 15) and endorse: what decided flows with the result alone
declassify_owes : owed_by (s.Assign 1 (rights.Downgrade Declassifies (the_s 25) (used 14 0) (used 15 0) 0 14) 10) ≡ flow Write 14 (5 ∷ []) 14 ++ owe Declassify 14 (declassifies 14 15 (0 ∷ [])) ∷ flow Write 10 (1 ∷ 2 ∷ 15 ∷ []) 4
declassify_owes = rw part_is refl

endorse_owes : owed_by (s.Assign 1 (rights.Downgrade Endorses (the_s 25) (used 14 0) (used 15 0) 0 14) 10) ≡ flow Write 14 (5 ∷ []) 14 ++ owe Endorse 14 (endorses 14 15 (0 ∷ [])) ∷ flow Write 10 (1 ∷ 2 ∷ 15 ∷ []) 4
endorse_owes = rw part_is refl

-- ---- what decides

-- `fail;` tells what decided on it, and where failures flow
abbrev fails : ℕ → Owing
fails at = stands (s.Fail at)

fail_owes : owed_by (s.Fail 10) ≡ flow Fail 10 (1 ∷ 2 ∷ []) 1
fail_owes = refl

fail_owes_nowhere : fails 10 (1 ∷ 2 ∷ []) None ≡ owe Fail 10 (nowhere 1) ∷ owe Fail 10 (nowhere 2) ∷ []
fail_owes_nowhere = refl

-- if (n / s) { fail; if (s) { fail; } } else { fail; }: the test stands outside, and `s` decides once
if_owes : owed_by (s.If (expression_at 14 (f.Chain (the_n 14) (operand_at 16 Divide (the_s 18) ∷ []))) (fails 30 ∷ stands (s.If (the_s 40) (fails 50 ∷ []) []) ∷ []) (fails 60 ∷ []))
    ≡ flow Fail 16 (1 ∷ 2 ∷ 5 ∷ []) 1 ++ flow Fail 30 (1 ∷ 2 ∷ 4 ∷ 5 ∷ []) 1 ++ flow Fail 50 (1 ∷ 2 ∷ 4 ∷ 5 ∷ []) 1 ++ flow Fail 60 (1 ∷ 2 ∷ 4 ∷ 5 ∷ []) 1
if_owes = rw (part_is, part_is, tail_is, part_is, part_is) refl

-- while (c.f) { fail; }
while_owes : owed_by (s.While (c_f 17) (fails 30 ∷ [])) ≡ access 17 (1 ∷ 2 ∷ 3 ∷ []) ++ flow Fail 17 (1 ∷ 2 ∷ 3 ∷ []) 1 ++ flow Fail 30 (1 ∷ 2 ∷ 3 ∷ 6 ∷ []) 1
while_owes = rw part_is refl

-- atomic 13 { if (n) { fail; } } else { fail; }: the second block fails as what stands around
atomic_owes : owed_by (s.Atomic (used 13 17) (stands (s.If (the_n 24) (fails 30 ∷ []) []) ∷ []) (fails 60 ∷ []) 10)
    ≡ flow Atomic 10 (1 ∷ 2 ∷ []) 13 ++ flow Fail 30 (1 ∷ 2 ∷ 13 ∷ 4 ∷ []) 13 ++ flow Fail 60 (1 ∷ 2 ∷ 13 ∷ []) 1
atomic_owes = rw part_is refl

-- atomic 13 { atomic 2 { fail; } else { fail; } } else { fail; } where nothing else catches: 2 decides once
nested_owes : stands (s.Atomic (used 13 17) (stands (s.Atomic (used 2 27) (fails 30 ∷ []) (fails 40 ∷ []) 20) ∷ []) (fails 60 ∷ []) 10) (1 ∷ 2 ∷ []) None
    ≡ flow Atomic 10 (1 ∷ 2 ∷ []) 13 ++ flow Atomic 20 (1 ∷ 2 ∷ 13 ∷ []) 2 ++ flow Fail 30 (1 ∷ 2 ∷ 13 ∷ []) 2 ++ flow Fail 40 (1 ∷ 2 ∷ 13 ∷ []) 13 ++ map (λ x. owe Fail 60 (nowhere x)) (1 ∷ 2 ∷ 13 ∷ [])
nested_owes = refl

-- ---- a whole bundle

abbrev the_method : List Statement → Method
the_method body = record { name = name; parameters = 1; locals = locals; returns = Some (record { sort = sorts.Number widths.Int; label = used 10 0 }); begin = used 1 0; fails = false; authority = used 0 0 ∷ []; body = body; result = Some (record { value = c_f 37; at = 30 }) }

abbrev nobody : Principal
nobody = record { role = roles.Principal; name = name; node = None }

abbrev asked : ℕ → Asked
asked at = record { request = record { worker = 2; number = 1; method = 0; args = [] }; at = at }

-- a root at 50 and requests at 60 and 70; there are two principals
abbrev bundle : List Statement → Resolved
bundle body = record {
  nodes = nobody ∷ nobody ∷ [];
  pairs = [];
  labels = [];
  classes = classes;
  methods = the_method body ∷ [];
  roots = record { name = record { text = []; at = 50 }; oid = record { store = 3; class = 0; worker = 65535; boot = 0; number = 0; site = 65535; index = 0 }; values = [] } ∷ [];
  sessions = record { worker = used 2 0; requests = asked 60 ∷ asked 70 ∷ [] } ∷ [];
  posts = [];
  crashes = [];
  cache = 0;
  schedule = [];
}

-- method m(C c : 3) returns int : 10 begin 1 { n = s; fail; return c.f; }: it isn't marked, so nothing catches its failures
all_owed : owed (bundle (roll-Statement (s.Assign 1 (rights.Plain (the_s 14)) 10) ∷ roll-Statement (s.Fail 20) ∷ []))
    ≡ flow Write 10 (1 ∷ 5 ∷ []) 4 ++ owe Fail 20 (nowhere 1) ∷ access 37 (1 ∷ 3 ∷ []) ++ map (λ x. owe Fail 37 (nowhere x)) (1 ∷ 3 ∷ []) ++ flow Write 30 (1 ∷ 3 ∷ 6 ∷ []) 10
    ++ owe Placement 50 (holds 3 0) ∷ owe Authority 60 (answers_for 2 0 0) ∷ owe Authority 60 (answers_for 2 0 1) ∷ owe Authority 70 (answers_for 2 0 0) ∷ owe Authority 70 (answers_for 2 0 1) ∷ []
all_owed = rw (owes_is, owes_is, right_owes, part_is, part_is) refl

-- { if (c.f) { c.f = s; atomic 13 { c = new C @ t (c.f); } else { n = declassify(n, 14 to 15); } } return c.f; } has the sites 0 to 5
abbrev with_sites : List Statement
with_sites = roll-Statement (s.If (expression_at 14 (f.Read (used 0 14) 0 0)) (roll-Statement (s.Write (used 0 20) 0 (the_s 26) 1)
    ∷ roll-Statement (s.Atomic (used 13 0) (roll-Statement (s.Assign 0 (rights.New (used 0 0) (used 3 0) (expression_at 0 (f.Read (used 0 0) 0 3) ∷ []) 2 0) 0) ∷ []) (roll-Statement (s.Assign 1 (rights.Downgrade Declassifies (the_n 0) (used 14 0) (used 15 0) 4 0) 0) ∷ []) 0) ∷ []) []) ∷ []

sites_in_order : sites_of (record (bundle []) { methods = record (the_method with_sites) { result = Some (record { value = expression_at 0 (f.Read (used 0 0) 0 5); at = 0 }) } ∷ [] })
    ≡ (0, 1 ∷ []) ∷ map (λ n. (n, 1 ∷ 3 ∷ 6 ∷ [])) (1 ∷ []) ++ map (λ n. (n, 1 ∷ 3 ∷ 6 ∷ 13 ∷ [])) (2 ∷ 3 ∷ 4 ∷ []) ++ (5, 1 ∷ []) ∷ []
sites_in_order = rw (sited_is, part_is, sites_are, sited_is, sites_are, sited_is, sited_is, sites_are, sited_is, sites_are, sites_are) refl

pcs_in_order : pcs_of (record (bundle []) { methods = record (the_method with_sites) { result = Some (record { value = expression_at 0 (f.Read (used 0 0) 0 5); at = 0 }) } ∷ [] })
    ≡ (1 ∷ []) ∷ (1 ∷ 3 ∷ 6 ∷ []) ∷ (1 ∷ 3 ∷ 6 ∷ 13 ∷ []) ∷ (1 ∷ 3 ∷ 6 ∷ 13 ∷ []) ∷ (1 ∷ 3 ∷ 6 ∷ 13 ∷ []) ∷ (1 ∷ []) ∷ []
pcs_in_order = ap (λ sites. map (λ x. x.1) sites) sites_in_order
