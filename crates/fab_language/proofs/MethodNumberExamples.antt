-- Worked examples of methods with numbers for names: locals, fields, and sites in the order of the text.
use Rattle.fab_base.specs.declared.object.Width.TheVariants as widths
use Rattle.std.proofs.Common.{◌≡◌, ℕ, suc, List, [], ◌∷◌, map, Option, Some, None, false, refl, ap, ◌∙◌, codes, arith}
use Rattle.fab_tree.specs.declared.name.Name.{Name}
use Rattle.fab_tree.specs.declared.declaration.Role.TheVariants as roles
use Rattle.fab_tree.specs.declared.declaration.Sort.{Sort}
use Rattle.fab_tree.specs.declared.declaration.Sort.TheVariants as sorts
use Rattle.fab_tree.specs.declared.declaration.Class.{Class}
use Rattle.fab_tree.specs.declared.expression.Expression.{Expression}
use Rattle.fab_tree.specs.declared.expression.Form.TheVariants as f
use Rattle.fab_tree.specs.declared.statement.Downgrade.TheVariants as downgrades
use Rattle.fab_tree.specs.declared.statement.Right.TheVariants as rights
use Rattle.fab_tree.specs.declared.statement.Statement.TheVariants as s
use Rattle.fab_tree.specs.declared.program.Parameter.{Parameter}
use Rattle.fab_tree.specs.declared.program.Method.{Method}
use Rattle.fab_tree.specs.declared.start.Start.{Start}
use Rattle.fab_tree.specs.declared.resolved.Expression.{Expression as NumberedExpression}
use Rattle.fab_tree.specs.declared.resolved.Form.TheVariants as nf
use Rattle.fab_tree.specs.declared.resolved.Right.TheVariants as nr
use Rattle.fab_tree.specs.declared.resolved.Statement.TheVariants as ns
use Rattle.fab_tree.specs.declared.resolved.Return.{Return as NumberedReturn}
use Rattle.fab_tree.specs.Expressions.{expression_at}
use Rattle.fab_language.specs.Uses.{local_use, field_number}
use Rattle.fab_language.specs.MethodNumbers as n
use Rattle.fab_language.specs.MethodNumbers.{expression_of, right_of, statement_of, methods_of}
use Rattle.fab_language.proofs.NumberedForms.{expression_numbers, read_numbers, write_numbers, assign_numbers, if_numbers}

abbrev at : ℕ → List ℕ → Name
at place text = record { text = text; at = place }

abbrev name : List ℕ → Name
name text = at 0 text

-- class C label L access L { int f; int g; }, class D label L access L { int g; }
abbrev class_c : Class
class_c = record {
  name = name (codes "C");
  label = name (codes "L");
  access = name (codes "L");
  fields = record { sort = sorts.Number widths.Int; name = name (codes "f") } ∷ record { sort = sorts.Number widths.Int; name = name (codes "g") } ∷ [];
}

abbrev class_d : Class
class_d = record class_c { name = name (codes "D"); fields = record { sort = sorts.Number widths.Int; name = name (codes "g") } ∷ [] }

abbrev local : Sort → List ℕ → Parameter
local sort text = record { sort = sort; name = name text; label = name (codes "L") }

-- `a` is declared twice
abbrev locals : List Parameter
locals = local (sorts.Number widths.Int) (codes "x") ∷ local (sorts.Class (name (codes "C"))) (codes "a") ∷ local (sorts.Class (name (codes "D"))) (codes "a") ∷ []

-- method m(..) begin L { }
abbrev method : Method
method = record {
  name = name (codes "m");
  parameters = locals;
  returns = None;
  begin = name (codes "L");
  fails = false;
  authority = [];
  body = [];
  result = None;
}

abbrev bundle : Start
bundle = record {
  program = record {
    nodes =
        record { role = roles.Worker false; name = name (codes "w") } ∷ record { role = roles.Principal; name = name (codes "P") }
        ∷ record { role = roles.Store false; name = name (codes "s") } ∷ [];
    delegations = [];
    labels = record { name = name (codes "L"); policies = [] } ∷ record { name = name (codes "H"); policies = [] } ∷ [];
    classes = class_d ∷ class_c ∷ [];
    methods = [];
  };
  roots = [];
  sessions = [];
  posts = [];
  crashes = [];
  cache = 0;
  schedule = [];
}

-- ---- locals and fields

-- a name that is declared twice stands for its first declaration
of_the_first : local_use locals (at 9 (codes "a")) ≡ record { number = 1; at = 9 }
of_the_first = refl

-- so do its fields
of_its_class : field_number bundle locals (name (codes "a")) (name (codes "g")) ≡ 1
of_its_class = refl

not_of_the_other : field_number bundle locals (name (codes "a")) (name (codes "g")) ≡ 0 → ⊥
not_of_the_other e = absurd (omega (arith, e))

of_no_object : field_number bundle locals (name (codes "x")) (name (codes "g")) ≡ 0
of_no_object = refl

no_such_local : local_use locals (at 4 (codes "z")) ≡ record { number = 3; at = 4 }
no_such_local = refl

-- ---- sites

-- a.g, at a place
abbrev read_at : ℕ → Expression
read_at place = expression_at place (f.Read (at place (codes "a")) (name (codes "g")))

-- the same with numbers, at this site
abbrev read_of : ℕ → ℕ → NumberedExpression
read_of place site = n.expression_at place (nf.Read (record { number = 1; at = place }) 1 site)

a_read : (place k : ℕ) → expression_of bundle locals (read_at place) k ≡ (read_of place k, suc k)
a_read place k =
    ap (λ m. m k) (expression_numbers bundle locals place (f.Read (at place (codes "a")) (name (codes "g"))))
    ∙ ap (λ m. n.made_of (n.expression_at place) m k) (read_numbers bundle locals (at place (codes "a")) (name (codes "g")))

-- a.f = a.g; the write has its site before the read
a_write : statement_of bundle locals (s.Write (at 20 (codes "a")) (name (codes "f")) (read_at 26)) 3
    ≡ (ns.Write (record { number = 1; at = 20 }) 0 (read_of 26 4) 3, 5)
a_write =
    ap (λ m. m 3) (write_numbers bundle locals (at 20 (codes "a")) (name (codes "f")) (read_at 26))
    ∙ ap (λ (r : NumberedExpression × ℕ). (ns.Write (record { number = 1; at = 20 }) 0 r.0 3, r.1)) (a_read 26 4)

-- new C @ s (a.g); the new object has its site before what it is given, and the number of its store is that among the nodes
a_new_object : right_of bundle locals (rights.New (at 8 (codes "C")) (at 12 (codes "s")) (read_at 17 ∷ []) 4) 7
    ≡ (nr.New (record { number = 1; at = 8 }) (record { number = 1; at = 12 }) (read_of 17 8 ∷ []) 7 4, 9)
a_new_object =
    ap (λ (r : NumberedExpression × ℕ). (nr.New (record { number = 1; at = 8 }) (record { number = 1; at = 12 }) (r.0 ∷ []) 7 4, r.1)) (a_read 17 8)

-- declassify(a.g, H to L)
a_downgrade : right_of bundle locals (rights.Downgrade downgrades.Declassify (read_at 15) (at 20 (codes "H")) (at 25 (codes "L")) 4) 0
    ≡ (nr.Downgrade downgrades.Declassify (read_of 15 1) (record { number = 1; at = 20 }) (record { number = 0; at = 25 }) 0 4, 2)
a_downgrade =
    ap (λ (r : NumberedExpression × ℕ). (nr.Downgrade downgrades.Declassify r.0 (record { number = 1; at = 20 }) (record { number = 0; at = 25 }) 0 4, r.1)) (a_read 15 1)

-- x = a.g; the place of the statement is that of its local
an_assignment : statement_of bundle locals (s.Assign (at 2 (codes "x")) (rights.Plain (read_at 6))) 0
    ≡ (ns.Assign 0 (nr.Plain (read_of 6 0)) 2, 1)
an_assignment =
    ap (λ m. m 0) (assign_numbers bundle locals (at 2 (codes "x")) (rights.Plain (read_at 6)))
    ∙ ap (λ (r : NumberedExpression × ℕ). (ns.Assign 0 (nr.Plain r.0) 2, r.1)) (a_read 6 0)

-- if (a.g) { } has an empty other block
no_other_block : statement_of bundle locals (s.If (read_at 4) [] None) 6 ≡ (ns.If (read_of 4 6) [] [], 7)
no_other_block =
    ap (λ m. m 6) (if_numbers bundle locals (read_at 4) [])
    ∙ ap (λ (r : NumberedExpression × ℕ). (ns.If r.0 [] [], r.1)) (a_read 4 6)

-- ---- methods

-- method m(..) begin L { return a.g; }, of which the read stands at a place
abbrev gives : ℕ → Method
gives place = record method { result = Some (record { value = read_at place; at = 1 }) }

abbrev result : ℕ → ℕ → Option NumberedReturn
result place site = Some (record { value = read_of place site; at = 1 })

-- the sites of the second method come behind those of the first
sites_count_on : map (λ m. m.result) (methods_of bundle (gives 30 ∷ gives 60 ∷ []) 0).0 ≡ result 30 0 ∷ result 60 1 ∷ []
sites_count_on =
    ap (λ (r : NumberedExpression × ℕ). Some (record { value = r.0; at = 1 }) ∷ map (λ m. m.result) (methods_of bundle (gives 60 ∷ []) r.1).0) (a_read 30 0)
    ∙ ap (λ (r : NumberedExpression × ℕ). result 30 0 ∷ Some (record { value = r.0; at = 1 }) ∷ []) (a_read 60 1)

-- parameters are counted, and stand among the locals
of_parameters : map (λ m. m.parameters) (methods_of bundle (method ∷ []) 0).0 ≡ 3 ∷ []
of_parameters = refl
