-- Worked examples of trusted replay. The hostile store h1 answers for the box with n; labels of A's integrity are trusted, and the vault is kept.
use Rattle.std.proofs.Common.{◌≡◌, ℕ, ℤ, pos, Bool, true, false, if◌then◌else◌, List, [], ◌∷◌, Option, Some, None, map, refl, sym, ap, ◌∙◌}
use Rattle.std.specs.List.{filter}
use Rattle.fab_base.specs.declared.object.Tid.{Tid}
use Rattle.fab_base.specs.declared.object.Value.{Value}
use Rattle.fab_base.specs.declared.object.Value.TheVariants.{Int, Null}
use Rattle.fab_base.specs.FlatMap.{FlatMap}
use Rattle.fab_tree.specs.declared.statement.Downgrade.TheVariants.{Endorse}
use Rattle.fab_tree.specs.declared.expression.Operator.{Operator}
use Rattle.fab_tree.specs.declared.resolved.Expression.{Expression}
use Rattle.fab_tree.specs.declared.resolved.Form.{Form, map-Form}
use Rattle.fab_tree.specs.declared.resolved.Form.TheOpen as f
use Rattle.fab_tree.specs.declared.resolved.Local.{Local}
use Rattle.fab_tree.specs.declared.resolved.Operand.{Operand}
use Rattle.fab_tree.specs.declared.resolved.Resolved.{Resolved}
use Rattle.fab_tree.specs.declared.resolved.Right.TheVariants as rights
use Rattle.fab_tree.specs.declared.resolved.Statement.{Statement, roll-Statement, fold-roll-Statement, map-Statement}
use Rattle.fab_tree.specs.declared.resolved.Statement.TheOpen as s
use Rattle.fab_labelling.specs.Sites.{Sited, sited, statement_sites}
use Rattle.fab_labelling.proofs.Forms.{expression_at, sites_are, sited_is}
use Rattle.fab_language.proofs.Forms.{assign_means, local_means, read_means, write_means}
use Rattle.fab_net.specs.declared.note.Commit.{Commit}
use Rattle.fab_language.specs.Meaning.{State}
use Rattle.fab_erasure.specs.Erased.{Part, part, value}
use Rattle.fab_erasure.proofs.ErasedForms as forms
use Rattle.fab_downgrades.specs.declared.rows.Downgraded.{Downgraded}
use Rattle.fab_downgrades.specs.Downgraded.{downgraded_in, downgraded_step}
use Rattle.fab_trusted.specs.Trusted.{done_by, endorsed, endorses_at, trusted_replay}
use Rattle.fab_trusted.proofs.TrustsExamples.{keeps, trusts}
use Rattle.fab_trusted.proofs.Box.{box, bundle, classes, holding, locals, method, used, vault}

abbrev T : ℕ
T = 0

abbrev P : ℕ
P = 1

abbrev tid : Tid
tid = record { worker = 0; boot = 1; number = 1 }

-- the request was committed, and n is what h1 answered
abbrev commit : ℤ → Commit
commit n = record { worker = 0; request = 1; tid = tid; answers = (vault, 1, holding 0 (pos 0)) ∷ (box, 1, holding 1 n) ∷ [] }

-- x = b.f; y = endorse(x, P to T); t.v = y;
abbrev reads : Statement
reads = roll-Statement (s.Assign 2 (rights.Plain (expression_at 0 (f.Read (used 1) 0 0))) 0)

abbrev endorses : Statement
endorses = roll-Statement (s.Assign 3 (rights.Downgrade Endorse (expression_at 0 (f.Local (used 2))) (used P) (used T) 1 0) 0)

abbrev writes : ℕ → Statement
writes x = roll-Statement (s.Write (used 0) 0 (expression_at 0 (f.Local (used x))) 2)

abbrev the_locals : List Local
the_locals = locals P T

abbrev bundle_of : ℕ → List Statement → Resolved
bundle_of begin body = bundle (method begin P T body)

abbrev taking : Resolved
taking = bundle_of T (reads ∷ endorses ∷ writes 3 ∷ [])

abbrev replay : Resolved → ℤ → List (List Value) → FlatMap
replay r n given = trusted_replay trusts keeps r (commit n ∷ []) given

abbrev holds : Value → FlatMap
holds v = (vault, record { class = 0; fields = v ∷ [] }) ∷ []

-- ---- forms, by their parts

value_is : (at : ℕ) (layer : f.Form-F Form Expression Operand) (t : State) → value trusts keeps classes the_locals (expression_at at layer) t
    ≡ (forms.step trusts keeps classes the_locals (map-Form Form Expression Operand Part Part (Operator × Part)
    (forms.form_part trusts keeps classes the_locals) (part trusts keeps classes the_locals) (forms.operand_part trusts keeps classes the_locals) layer)).run t
value_is = forms.value_is trusts keeps classes the_locals

downgraded_is : (x : s.Statement-F Statement) → downgraded_in (roll-Statement x) ≡ downgraded_step (map-Statement Statement (List Downgraded) downgraded_in x)
downgraded_is x = fold-roll-Statement (List Downgraded) downgraded_step x

-- ---- what is endorsed is taken, whatever it is

-- what the attempt downgraded, and what of it is endorsed
downs_are : (n : ℤ) → (done_by trusts keeps taking (commit n)).downs ≡ (1, Int n) ∷ []
downs_are n = rw (assign_means, assign_means, write_means, read_means, local_means, local_means) refl

abbrev let_in : Resolved → List (ℕ × Value) → List (List Value)
let_in r ds = map (λ (d : ℕ × Value). d.1) (filter (λ (d : ℕ × Value). endorses_at trusts keeps r d.0) ds) ∷ []

-- of the one value, by whether the site lets it in
by_site : (r : Resolved) (n : ℤ) (b : Bool) → endorses_at trusts keeps r 1 ≡ b → let_in r ((1, Int n) ∷ []) ≡ (if b then Int n ∷ [] else []) ∷ []
by_site r n true e = ap (λ b. map (λ (d : ℕ × Value). d.1) (if b then (1, Int n) ∷ [] else []) ∷ []) e
by_site r n false e = ap (λ b. map (λ (d : ℕ × Value). d.1) (if b then (1, Int n) ∷ [] else []) ∷ []) e

sited_at : (x : s.Statement-F Statement) (pc : List ℕ)
    → sited classes the_locals (roll-Statement x) pc ≡ statement_sites classes the_locals (map-Statement Statement (List ℕ → Sited) (sited classes the_locals) x) pc
sited_at x pc = ap (λ (f : List ℕ → Sited). f pc) (sited_is classes the_locals x)

lets_in : endorses_at trusts keeps taking 1 ≡ true
lets_in = simp (sited_at, sites_are, downgraded_is)

one_endorsed : (n : ℤ) → endorsed trusts keeps taking (commit n ∷ []) ≡ (Int n ∷ []) ∷ []
one_endorsed n = ap (let_in taking) (downs_are n) ∙ by_site taking n true lets_in

taken : (n : ℤ) → replay taking n ((Int n ∷ []) ∷ []) ≡ holds (Int n)
taken n = rw (forms.does_is, forms.does_is, forms.does_is) (simp value_is)

-- it depends on what is endorsed, and not on what was answered beside it; where nothing is left to take, a default
of_another : replay taking (pos 9) ((Int (pos 8) ∷ []) ∷ []) ≡ holds (Int (pos 8))
of_another = rw (forms.does_is, forms.does_is, forms.does_is) (simp value_is)

of_none : replay taking (pos 9) [] ≡ holds (Int (pos 0))
of_none = rw (forms.does_is, forms.does_is, forms.does_is) (simp value_is)

abbrev vault_value : FlatMap → Option (List Value)
vault_value [] = None
vault_value (row ∷ rows) = Some row.1.fields

not_of_the_answer : ¬ (replay taking (pos 9) [] ≡ holds (Int (pos 9)))
not_of_the_answer h = apart (ap vault_value (sym of_none ∙ h))
  where
    apart : ◌≡◌ {A = Option (List Value)} (Some (Int (pos 0) ∷ [])) (Some (Int (pos 9) ∷ [])) → ⊥
    apart e = cc

-- ---- what isn't endorsed doesn't come in: x = b.f; t.v = x; which no label lets it do

abbrev leaking : Resolved
leaking = bundle_of T (reads ∷ writes 2 ∷ [])

none_downgraded : (n : ℤ) → (done_by trusts keeps leaking (commit n)).downs ≡ []
none_downgraded n = rw (assign_means, write_means, read_means, local_means) refl

none_endorsed : (n : ℤ) → endorsed trusts keeps leaking (commit n ∷ []) ≡ [] ∷ []
none_endorsed n = ap (let_in leaking) (none_downgraded n)

left_blank : (n : ℤ) → replay leaking n ([] ∷ []) ≡ holds Null
left_blank n = rw (forms.does_is, forms.does_is) (simp value_is)

-- ---- a request that begins under P does nothing, and what is endorsed in it isn't taken

abbrev begun_by_anybody : Resolved
begun_by_anybody = bundle_of P (reads ∷ endorses ∷ writes 3 ∷ [])

its_downs : (n : ℤ) → (done_by trusts keeps begun_by_anybody (commit n)).downs ≡ (1, Int n) ∷ []
its_downs n = rw (assign_means, assign_means, write_means, read_means, local_means, local_means) refl

lets_nothing_in : endorses_at trusts keeps begun_by_anybody 1 ≡ false
lets_nothing_in = simp (sited_at, sites_are, downgraded_is)

nothing_endorsed : (n : ℤ) → endorsed trusts keeps begun_by_anybody (commit n ∷ []) ≡ [] ∷ []
nothing_endorsed n = ap (let_in begun_by_anybody) (its_downs n) ∙ by_site begun_by_anybody n false lets_nothing_in

nothing_done : (n : ℤ) (given : List (List Value)) → replay begun_by_anybody n given ≡ holds (Int (pos 0))
nothing_done n given = refl
