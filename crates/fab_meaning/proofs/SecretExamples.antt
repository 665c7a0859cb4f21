-- A worked example: whether a secret object is made isn't seen, and the name of the next one doesn't tell it.
--
--     principal A; worker w1; store s1; w1 actsfor A; s1 actsfor A;
--     label S = {A ->}; label P = {};
--     class K label S access S { int v; }
--     method m(int s : S) returns K : P begin P {
--       K x : S = null;
--       if (s) { x = new K @ s1 (1); }
--       K y : P = null;
--       y = new K @ s1 (2);
--       return y;
--     }
use Rattle.std.proofs.Common.{◌≡◌, ℕ, ℤ, pos, false, List, [], ◌∷◌, Some, refl, sym, ◌∙◌, codes}
use Rattle.fab_base.specs.declared.object.Oid.{Oid}
use Rattle.fab_base.specs.declared.object.Object.{Object}
use Rattle.fab_base.specs.declared.object.Tid.{Tid}
use Rattle.fab_base.specs.declared.object.Value.TheVariants.{Int, Null, Ref}
use Rattle.fab_base.specs.declared.object.Width.TheVariants as widths
use Rattle.fab_rights.specs.Computed.{has_bit}
use Rattle.fab_tree.specs.declared.expression.Number.TheVariants as numbers
use Rattle.fab_tree.specs.declared.name.Name.{Name}
use Rattle.fab_tree.specs.declared.resolved.Class.{Class}
use Rattle.fab_tree.specs.declared.resolved.Expression.{Expression}
use Rattle.fab_tree.specs.declared.expression.Operator.{Operator}
use Rattle.fab_tree.specs.declared.resolved.Form.{Form, map-Form}
use Rattle.fab_tree.specs.declared.resolved.Form.TheOpen as f
use Rattle.fab_tree.specs.declared.resolved.Operand.{Operand}
use Rattle.fab_tree.specs.declared.resolved.Right.{Right}
use Rattle.fab_tree.specs.declared.resolved.Right.TheVariants as rights
use Rattle.fab_tree.specs.declared.resolved.Statement.{Statement, roll-Statement}
use Rattle.fab_tree.specs.declared.resolved.Statement.TheOpen as s
use Rattle.fab_tree.specs.declared.resolved.Sort.{Sort}
use Rattle.fab_tree.specs.declared.resolved.Sort.TheVariants as sorts
use Rattle.fab_tree.specs.declared.resolved.Local as l
use Rattle.fab_tree.specs.declared.resolved.Method.{Method}
use Rattle.fab_tree.specs.declared.resolved.Resolved.{Resolved}
use Rattle.fab_tree.specs.declared.resolved.Request.{Request}
use Rattle.fab_language.specs.declared.ending.Ending.TheVariants.{Ended}
use Rattle.fab_language.specs.Meaning.{State, Meant, meaning}
use Rattle.fab_language.proofs.Forms.{expression_at, number_means, null_means, local_means, assign_means, if_means}
use Rattle.fab_erasure.specs.Erased.{Part, part, value, erased}
use Rattle.fab_erasure.proofs.ErasedForms.{step, form_part, operand_part, part_is, value_is, does_is}
use Rattle.fab_meaning.proofs.Toy.{used}

abbrev named : List ℕ → Name
named text = record { text = text; at = 0 }

abbrev class : Class
class = record { name = named (codes "K"); label = used 0; access = used 0; fields = record { sort = sorts.Number widths.Int; name = named (codes "v") } ∷ [] }

abbrev of : Sort → List ℕ → ℕ → l.Local
of sort text label = record { sort = sort; name = named text; label = used label }

abbrev a_class : Sort
a_class = sorts.Class (used 0)

-- `new K @ s1 (n)` at a site
abbrev new : ℤ → ℕ → Right
new n site = rights.New (used 0) (used 2) (expression_at 0 (f.Number (numbers.Int n)) ∷ []) site 0

abbrev null : Right
null = rights.Plain (expression_at 0 f.Null)

abbrev body : List Statement
body =
    roll-Statement (s.Assign 1 null 0)
    ∷ roll-Statement (s.If (expression_at 0 (f.Local (used 0))) (roll-Statement (s.Assign 1 (new (pos 1) 0) 0) ∷ []) [])
    ∷ roll-Statement (s.Assign 2 null 0)
    ∷ roll-Statement (s.Assign 2 (new (pos 2) 1) 0) ∷ []

-- the locals are s, x and y, and the labels S and P
abbrev method : Method
method = record {
  name = named (codes "m");
  parameters = 1;
  locals = of (sorts.Number widths.Int) (codes "s") 0 ∷ of a_class (codes "x") 0 ∷ of a_class (codes "y") 1 ∷ [];
  returns = Some (record { sort = a_class; label = used 1 });
  begin = used 1;
  fails = false;
  authority = [];
  body = body;
  result = Some (record { value = expression_at 0 (f.Local (used 2)); at = 0 });
}

-- with no roots, and as evaluating it needs no more of the bundle
abbrev program : Resolved
program = record { nodes = []; pairs = []; labels = []; classes = class ∷ []; methods = method ∷ []; roots = []; sessions = []; posts = []; crashes = []; cache = 0; schedule = [] }

abbrev asked : ℤ → Request
asked s = record { worker = 1; number = 1; method = 0; args = Int s ∷ [] }

abbrev attempt : Tid
attempt = record { worker = 1; boot = 1; number = 1 }

abbrev made : ℕ → Oid
made site = record { store = 2; class = 0; worker = 1; boot = 1; number = 1; site = site; index = 0 }

parts : (at : ℕ) (layer : f.Form-F Form Expression Operand) → part (has_bit 2) (has_bit 0) (class ∷ []) method.locals (expression_at at layer)
    ≡ step (has_bit 2) (has_bit 0) (class ∷ []) method.locals (map-Form Form Expression Operand Part Part (Operator × Part)
    (form_part (has_bit 2) (has_bit 0) (class ∷ []) method.locals) (part (has_bit 2) (has_bit 0) (class ∷ []) method.locals) (operand_part (has_bit 2) (has_bit 0) (class ∷ []) method.locals) layer)
parts = part_is (has_bit 2) (has_bit 0) (class ∷ []) method.locals

values : (at : ℕ) (layer : f.Form-F Form Expression Operand) (t : State) → value (has_bit 2) (has_bit 0) (class ∷ []) method.locals (expression_at at layer) t
    ≡ (step (has_bit 2) (has_bit 0) (class ∷ []) method.locals (map-Form Form Expression Operand Part Part (Operator × Part)
    (form_part (has_bit 2) (has_bit 0) (class ∷ []) method.locals) (part (has_bit 2) (has_bit 0) (class ∷ []) method.locals) (operand_part (has_bit 2) (has_bit 0) (class ∷ []) method.locals) layer)).run t
values = value_is (has_bit 2) (has_bit 0) (class ∷ []) method.locals

-- of who sees P alone, and is shown no class: one name, that of the second `new`, with index 0
abbrev seen : Meant
seen = record { ending = Ended (Some (Ref (made 1))); map = (made 1, record { class = 0; fields = Null ∷ [] }) ∷ []; written = []; made = made 1 ∷ []; touches = []; downs = [] }

erased_0 : erased (has_bit 2) (has_bit 0) program [] (asked (pos 0)) attempt 1000000 [] ≡ seen
erased_0 = rw (does_is, does_is, does_is, does_is, does_is) (simp (values, parts))

erased_1 : erased (has_bit 2) (has_bit 0) program [] (asked (pos 1)) attempt 1000000 [] ≡ seen
erased_1 = rw (does_is, does_is, does_is, does_is, does_is) (simp (values, parts))

-- both requests come to the same, though one of them makes two objects
alike : erased (has_bit 2) (has_bit 0) program [] (asked (pos 0)) attempt 1000000 [] ≡ erased (has_bit 2) (has_bit 0) program [] (asked (pos 1)) attempt 1000000 []
alike = erased_0 ∙ sym erased_1

abbrev holding : ℤ → Object
holding n = record { class = 0; fields = Int n ∷ [] }

done_0 : meaning program [] (asked (pos 0)) attempt 1000000
    ≡ record { ending = Ended (Some (Ref (made 1))); map = (made 1, holding (pos 2)) ∷ []; written = []; made = made 1 ∷ []; touches = []; downs = [] }
done_0 = rw (assign_means, if_means, assign_means, assign_means, assign_means, null_means, local_means, number_means, local_means) refl

done_1 : meaning program [] (asked (pos 1)) attempt 1000000
    ≡ record { ending = Ended (Some (Ref (made 1))); map = (made 0, holding (pos 1)) ∷ (made 1, holding (pos 2)) ∷ []; written = []; made = made 0 ∷ made 1 ∷ []; touches = []; downs = [] }
done_1 = rw (assign_means, if_means, assign_means, assign_means, assign_means, null_means, local_means, number_means, number_means, local_means) refl
