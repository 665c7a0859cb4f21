-- The limits on the counts of a bundle.
--
-- What has a limit stands in one table, in the order in which a refusal names it. The limits on bytes and on open
-- brackets come before these: they belong to reading a text (`Depth` and the program).
use Rattle.std.specs.Prelude.{ℕ, ◌≤◌, Bool, true, false, nat_lt, max, List, [], ◌∷◌, ◌++◌, map, length, count_by, find, sum_by, Option, Some, None}
use Rattle.std.specs.List.{flat_map}
use Rattle.fab_base.specs.declared.limit.What.{What}
use Rattle.fab_base.specs.declared.limit.What.TheVariants as w
use Rattle.fab_tree.specs.declared.declaration.Role.{Role}
use Rattle.fab_tree.specs.declared.declaration.Role.TheVariants as r
use Rattle.fab_tree.specs.declared.statement.Statement.{Statement, fold-Statement}
use Rattle.fab_tree.specs.declared.statement.Statement.TheOpen as s
use Rattle.fab_tree.specs.declared.program.Parameter.{Parameter}
use Rattle.fab_tree.specs.declared.program.Method.{Method}
use Rattle.fab_tree.specs.declared.start.Start.{Start}
use Rattle.fab_tree.specs.Sites.{site_places}

-- a worker or a store
abbrev pub is_node : Role → Bool
is_node r.Principal = false
is_node (r.Worker hostile) = true
is_node (r.Store hostile) = true

-- ---- the locals of a method

abbrev pub joined : List (List Parameter) → List Parameter
joined = flat_map (λ ps. ps)

abbrev pub declared_step : s.Statement-F (List Parameter) → List Parameter
declared_step (s.Declare t x l e at) = record { sort = t; name = x; label = l } ∷ []
declared_step (s.Assign x r) = []
declared_step (s.Write x y e) = []
declared_step (s.Call x args) = []
declared_step (s.If e block None) = joined block
declared_step (s.If e block (Some other)) = joined block ++ joined other
declared_step (s.While e block) = joined block
declared_step (s.Atomic x block other at) = joined block ++ joined other
declared_step (s.Fail at) = []

-- the locals that a statement declares, those in its blocks included, in the order of the text
abbrev pub declared_in : Statement → List Parameter
declared_in = fold-Statement (List Parameter) declared_step

-- the locals of a method: its parameters, and those that its body declares
abbrev pub locals_of : Method → List Parameter
locals_of m = m.parameters ++ flat_map declared_in m.body

-- ---- the table

abbrev pub limit_of : What → ℕ
limit_of w.Bytes = 4194304
limit_of w.Depth = 64
limit_of w.Principals = 64
limit_of w.Nodes = 32
limit_of w.Labels = 64
limit_of w.Classes = 64
limit_of w.Fields = 16
limit_of w.Methods = 256
limit_of w.Parameters = 16
limit_of w.Locals = 256
limit_of w.Sites = 65000
limit_of w.Roots = 100000
limit_of w.Requests = 100000
limit_of w.Posts = 10000
limit_of w.Crashes = 1000
limit_of w.Events = 100000
limit_of w.Cache = 4096

-- the greatest of these, 0 where there is none
abbrev pub greatest : List ℕ → ℕ
greatest [] = 0
greatest (n ∷ ns) = max n (greatest ns)

-- how many a bundle has: workers and stores count among the principals, parameters among the locals, and requests over all sessions
abbrev pub count_of : What → Start → ℕ
count_of w.Bytes x = 0
count_of w.Depth x = 0
count_of w.Principals x = length x.program.nodes
count_of w.Nodes x = count_by (λ n. is_node n.role) x.program.nodes
count_of w.Labels x = length x.program.labels
count_of w.Classes x = length x.program.classes
count_of w.Fields x = greatest (map (λ c. length c.fields) x.program.classes)
count_of w.Methods x = length x.program.methods
count_of w.Parameters x = greatest (map (λ m. length m.parameters) x.program.methods)
count_of w.Locals x = greatest (map (λ m. length (locals_of m)) x.program.methods)
count_of w.Sites x = length (site_places x.program)
count_of w.Roots x = length x.roots
count_of w.Requests x = sum_by (λ y. length y.requests) x.sessions
count_of w.Posts x = length x.posts
count_of w.Crashes x = length x.crashes
count_of w.Events x = length x.schedule
count_of w.Cache x = x.cache

-- no count of a bundle passes its limit
pub record IsWithin (x : Start) : Type 0 where
  pub principals : length x.program.nodes ≤ limit_of w.Principals
  pub nodes : count_by (λ n. is_node n.role) x.program.nodes ≤ limit_of w.Nodes
  pub labels : length x.program.labels ≤ limit_of w.Labels
  pub classes : length x.program.classes ≤ limit_of w.Classes
  pub fields : greatest (map (λ c. length c.fields) x.program.classes) ≤ limit_of w.Fields
  pub methods : length x.program.methods ≤ limit_of w.Methods
  pub parameters : greatest (map (λ m. length m.parameters) x.program.methods) ≤ limit_of w.Parameters
  pub locals : greatest (map (λ m. length (locals_of m)) x.program.methods) ≤ limit_of w.Locals
  pub sites : length (site_places x.program) ≤ limit_of w.Sites
  pub roots : length x.roots ≤ limit_of w.Roots
  pub requests : sum_by (λ y. length y.requests) x.sessions ≤ limit_of w.Requests
  pub posts : length x.posts ≤ limit_of w.Posts
  pub crashes : length x.crashes ≤ limit_of w.Crashes
  pub events : length x.schedule ≤ limit_of w.Events
  pub cache : x.cache ≤ limit_of w.Cache

-- the limits on a tree, in the order in which a refusal names them
abbrev pub order : List What
order =
    w.Principals ∷ w.Nodes ∷ w.Labels ∷ w.Classes ∷ w.Fields ∷ w.Methods ∷ w.Parameters ∷ w.Locals ∷ w.Sites
    ∷ w.Roots ∷ w.Requests ∷ w.Posts ∷ w.Crashes ∷ w.Events ∷ w.Cache ∷ []

abbrev pub passes : Start → What → Bool
passes x what = nat_lt (limit_of what) (count_of what x)

-- the first limit that a bundle passes
abbrev pub first_passed : Start → Option What
first_passed x = find (passes x) order
