-- Worked examples of holes: which are numbered how, what flows to them, what lies below, which labels fit and which is least.
use Rattle.std.proofs.Common.{◌≡◌, ℕ, zero, suc, ◌+◌, ◌<◌, true, false, List, [], ◌∷◌, map, None, refl, sym, subst, codes, arith}
use Rattle.fab_base.specs.declared.label.Policy.{Policy}
use Rattle.fab_base.specs.declared.label.Label.{Label}
use Rattle.fab_base.specs.declared.object.Width.TheVariants as widths
use Rattle.fab_base.specs.Labels.{Flows, Deny}
use Rattle.fab_base.specs.Principals.{Delegations, ActsFor, Leads}
use Rattle.fab_tree.specs.declared.name.Name.{Name}
use Rattle.fab_tree.specs.declared.declaration.Role.TheVariants as roles
use Rattle.fab_tree.specs.declared.declaration.Sort.TheVariants as texts
use Rattle.fab_tree.specs.declared.program.Parameter.{Parameter}
use Rattle.fab_tree.specs.declared.start.Start.{Start}
use Rattle.fab_tree.specs.declared.resolved.Sort.TheVariants as sorts
use Rattle.fab_tree.specs.declared.resolved.Expression.{Expression}
use Rattle.fab_tree.specs.declared.resolved.Form.TheOpen as f
use Rattle.fab_tree.specs.declared.resolved.Right.TheVariants as rights
use Rattle.fab_tree.specs.declared.resolved.Statement.{Statement, roll-Statement}
use Rattle.fab_tree.specs.declared.resolved.Statement.TheOpen as s
use Rattle.fab_tree.specs.declared.resolved.Local.{Local}
use Rattle.fab_tree.specs.declared.resolved.Method.{Method}
use Rattle.fab_tree.specs.declared.resolved.Resolved.{Resolved}
use Rattle.fab_labelling.specs.Obligations.{right_owes}
use Rattle.fab_labelling.proofs.Forms.{expression_at, part_is, owes_is}
use Rattle.fab_holes.specs.Holes.{is_hole, filled_parameter}
use Rattle.fab_holes.specs.Open.{opened}
use Rattle.fab_holes.specs.Least.{into_holes, LiesBelow, Fits, IsLeast, chosen_label}

-- ---- text

abbrev named : ℕ → List ℕ → Name
named at text = record { text = text; at = at }

abbrev over : List (List ℕ) → Start
over labels = record {
  program = record { nodes = []; delegations = []; labels = map (λ l. record { name = named 0 l; policies = [] }) labels; classes = []; methods = [] };
  roots = [];
  sessions = [];
  posts = [];
  crashes = [];
  cache = 0;
  schedule = [];
}

abbrev parameter : ℕ → List ℕ → Parameter
parameter at label = record { sort = texts.Number widths.Int; name = named 0 (codes "q"); label = named at label }

-- `infer` stands for a label where no label has the name
a_hole : is_hole (over (codes "S" ∷ codes "P" ∷ [])) (named 9 (codes "infer")) ≡ true
a_hole = refl

no_hole : is_hole (over (codes "S" ∷ codes "infer" ∷ [])) (named 9 (codes "infer")) ≡ false
no_hole = refl

-- the hole of number 1 takes the second name of the choice, at its own place, and the next has number 2
is_filled : filled_parameter (over (codes "S" ∷ codes "P" ∷ [])) (0 ∷ 1 ∷ []) (parameter 9 (codes "infer")) 1 ≡ (parameter 9 (codes "P"), 2)
is_filled = refl

-- another label stays, and no hole is counted
stays : filled_parameter (over (codes "S" ∷ codes "P" ∷ [])) (0 ∷ 1 ∷ []) (parameter 9 (codes "S")) 1 ≡ (parameter 9 (codes "S"), 1)
stays = refl

-- ---- programs: label 0 is of the policies `a`, label 1 of `b`; a parameter under label 1, and two locals with holes

abbrev secret : ℕ → Label
secret owner = record { conf = record { owner = owner; others = [] } ∷ []; integ = [] }

abbrev free : Label
free = record { conf = []; integ = [] }

abbrev local : ℕ → Local
local label = record { sort = sorts.Number widths.Int; name = named 0 (codes "x"); label = record { number = label; at = 0 } }

abbrev method : List ℕ → List Statement → Method
method labels body = record {
  name = named 0 (codes "m");
  parameters = 1;
  locals = map local labels;
  returns = None;
  begin = record { number = 0; at = 0 };
  fails = false;
  authority = [];
  body = body;
  result = None;
}

abbrev bundle : Label → Label → List ℕ → List Statement → Resolved
bundle a b labels body = record {
  nodes = record { role = roles.Principal; name = named 0 (codes "A"); node = None } ∷ record { role = roles.Principal; name = named 0 (codes "B"); node = None } ∷ [];
  pairs = [];
  labels = record { name = named 0 (codes "P"); label = a } ∷ record { name = named 0 (codes "S"); label = b } ∷ [];
  classes = [];
  methods = method labels body ∷ [];
  roots = [];
  sessions = [];
  posts = [];
  crashes = [];
  cache = 0;
  schedule = [];
}

abbrev the : ℕ → Expression
the x = expression_at 0 (f.Local (record { number = x; at = 0 }))

abbrev set : ℕ → Expression → Statement
set x e = roll-Statement (s.Assign x (rights.Plain e) 0)

-- holes are numbered behind the two labels, each by itself
numbered : opened (bundle free (secret 0) (1 ∷ 2 ∷ 2 ∷ []) []) ≡ bundle free (secret 0) (1 ∷ 2 ∷ 3 ∷ []) []
numbered = refl

-- s, x and y are the locals 0, 1 and 2: `x = s; y = x;`, a chain of holes
abbrev in_a_row : Resolved
in_a_row = bundle free (secret 0) (1 ∷ 2 ∷ 2 ∷ []) (set 1 (the 0) ∷ set 2 (the 1) ∷ [])

row_flows : into_holes in_a_row ≡ (0, 2) ∷ (1, 2) ∷ (0, 3) ∷ (2, 3) ∷ []
row_flows = rw (owes_is, owes_is, right_owes, right_owes, part_is, part_is) refl

-- `x = y; y = x;`, a cycle: the begin label alone lies below
abbrev in_a_ring : Resolved
in_a_ring = bundle free (secret 0) (1 ∷ 2 ∷ 2 ∷ []) (set 1 (the 2) ∷ set 2 (the 1) ∷ [])

ring_flows : into_holes in_a_ring ≡ (0, 2) ∷ (3, 2) ∷ (0, 3) ∷ (2, 3) ∷ []
ring_flows = rw (owes_is, owes_is, right_owes, right_owes, part_is, part_is) refl

-- nothing flows to a parameter of a method that isn't called
abbrev alone : Resolved
alone = bundle (secret 0) (secret 1) (2 ∷ []) []

none_flow : into_holes alone ≡ []
none_flow = refl

-- ---- what lies below

-- of `s` through `x`
s_below_y : LiesBelow in_a_row 1 1
s_below_y = (omega arith, (2 ∷ 3 ∷ [], subst (λ ps. Leads ps 1 (2 ∷ 3 ∷ []) 3) (sym row_flows) ((1, omega arith, refl), ((3, omega arith, refl), refl))))

-- nothing lies below where nothing flows
none_below : (l h : ℕ) → LiesBelow alone l h → ⊥
none_below l h (within, ([], e)) = let f : l ≡ 2 + h = e in absurd (omega (arith, f, within))
none_below l h (within, (x ∷ way, leads)) = let inside = leads.0.1 in absurd (omega (arith, inside))

-- ---- which labels fit

-- a policy of the first owner alone lets nobody else read: what denies a pair doesn't flow to what denies none of it
abbrev nobody : Delegations
nobody = record { count = 2; pairs = [] }

only_self : (p q : ℕ) → ActsFor nobody p q → p ≡ q
only_self p q ([], chain) = absurd chain
only_self p q (first ∷ [], (e, f)) = let g : first ≡ p = e in let h : p ≡ q = f in h
only_self p q (first ∷ x ∷ rest, (e, leads)) = let inside = leads.0.1 in absurd (omega (arith, inside))

denied : (o : ℕ) → Deny nobody (secret o).conf o []
denied o = (0, record { owner = o; others = [] }, omega arith, refl, record { owner = (o ∷ [], (refl, refl)); outside = λ k e inside. absurd (omega (arith, inside)) })

-- `S` doesn't flow to a label without policies
not_free : Flows nobody (secret 0) free → ⊥
not_free f = let d = f.conf 0 [] (denied 0) in absurd (omega (arith, d.2))

-- nor to that of another owner
not_other : (o p : ℕ) → (o ≡ p → ⊥) → Flows nobody (secret o) (secret p) → ⊥
not_other o p apart f = by (f.conf o [] (denied o))
  where
    by : Deny nobody (secret p).conf o [] → ⊥
    by (zero, policy, inside, is, denies) = apart (sym (only_self p o (subst (λ (w : Policy). ActsFor nobody w.owner o) (sym is) denies.owner)))
    by (suc k, policy, inside, is, denies) = absurd (omega (arith, inside))

-- `x = s` with `s` under S: P doesn't fit `x`
p_does_not_fit : Fits in_a_row 0 0 → ⊥
p_does_not_fit fits = not_free (fits.1 1 (omega arith, (2 ∷ [], subst (λ ps. Leads ps 1 (2 ∷ []) 2) (sym row_flows) ((1, omega arith, refl), refl))))

-- Each of two labels fits a hole below which nothing lies; since neither flows to the other, none is least.
either_fits : (k : ℕ) → k < 2 → Fits alone 0 k
either_fits k within = (within, λ l below. absurd (none_below l 0 below))

no_least : (k : ℕ) → IsLeast alone 0 k → ⊥
no_least zero least = not_other 0 1 (λ e. absurd (omega (arith, e))) (least.0.1 1 (either_fits 1 (omega arith)))
no_least (suc zero) least = not_other 1 0 (λ e. absurd (omega (arith, e))) (least.0.1 0 (either_fits 0 (omega arith)))
no_least (suc (suc k)) least = absurd (omega (arith, least.0.0.0))

-- ---- numbers

-- a declared label stays, the second hole takes the second of the choice, and what stands behind all stays
puts : map (chosen_label 2 (1 ∷ 0 ∷ [])) (0 ∷ 1 ∷ 2 ∷ 3 ∷ 4 ∷ []) ≡ 0 ∷ 1 ∷ 1 ∷ 0 ∷ 4 ∷ []
puts = refl
