-- Worked examples of canonical texts.
use Rattle.std.proofs.Common.{◌≡◌, ℕ, true, false, List, [], ◌∷◌, Some, None, refl, ap, ◌∙◌, codes, pos, negsuc, arith}
use Rattle.std.proofs.lemmas.Fmt.{decimal_digit}
use Rattle.fab_tree.specs.declared.name.Name.{Name}
use Rattle.fab_tree.specs.declared.declaration.Role.TheVariants as roles
use Rattle.fab_tree.specs.declared.declaration.Aspect.TheVariants as aspects
use Rattle.fab_tree.specs.declared.declaration.Sort.TheVariants as sorts
use Rattle.fab_tree.specs.declared.expression.Expression.{Expression}
use Rattle.fab_tree.specs.declared.expression.Form.TheVariants as f
use Rattle.fab_tree.specs.declared.expression.Form.TheOpen as o
use Rattle.fab_tree.specs.declared.expression.Number.{Number}
use Rattle.fab_tree.specs.declared.expression.Number.TheVariants as numbers
use Rattle.fab_tree.specs.declared.expression.Operator.{Operator}
use Rattle.fab_tree.specs.declared.expression.Operator.TheVariants as operators
use Rattle.fab_tree.specs.declared.expression.UnaryOperator.TheVariants as unary
use Rattle.fab_tree.specs.declared.statement.Statement.TheVariants as s
use Rattle.fab_tree.specs.declared.event.Step.TheVariants as steps
use Rattle.fab_tree.specs.declared.event.Event.TheVariants as events
use Rattle.fab_tree.specs.declared.start.Literal.{Literal}
use Rattle.fab_tree.specs.declared.start.Literal.TheVariants as literals
use Rattle.fab_tree.specs.declared.start.Given.{Given}
use Rattle.fab_tree.specs.declared.start.Start.{Start}
use Rattle.fab_base.specs.declared.object.Width.TheVariants as widths
use Rattle.fab_base.specs.declared.token.Mark.TheVariants as m
use Rattle.fab_base.specs.declared.token.Kind.TheVariants as k
use Rattle.fab_base.specs.declared.token.Token.{Token}
use Rattle.fab_base.specs.Tokens.{Lexes, over, blank, token}
use Rattle.fab_tree.specs.Lists.{is, no_more}
use Rattle.fab_tree.specs.Programs.{program}
use Rattle.fab_tree.specs.Runs.{no_cache, no_schedule}
use Rattle.fab_tree.specs.Syntax.{IsText, start}
use Rattle.fab_tree.specs.Expressions.{expression_at, operand_at}
use Rattle.fab_tree.specs.Print.{text_of, canonical}
use Rattle.fab_tree.specs.Print as print
use Rattle.fab_print.proofs.Forms.{shown_at, beside_at, local_shape, number_shape, chain_shape, unary_shape}
use Rattle.fab_print.proofs.StatementsAgain.{if_shown, write_shown}

abbrev named : List ℕ → Name
named text = record { text = text; at = 0 }

abbrev local : List ℕ → Expression
local text = expression_at 0 (f.Local (named text))

abbrev number : ℕ → Expression
number n = expression_at 0 (f.Number (numbers.Int (pos n)))

local_shown : (text : List ℕ) → print.shown (local text) ≡ record { level = 6; inks = print.name (named text) }
local_shown text = shown_at 0 (f.Local (named text)) ∙ local_shape (named text)

number_shown : (n : Number) → print.shown (expression_at 0 (f.Number n)) ≡ print.shown_number n
number_shown n = shown_at 0 (f.Number n) ∙ number_shape n

-- ---- expressions

abbrev printed_as : Expression → List ℕ → Type 0
printed_as e text = text_of (print.expression e []) ≡ text

-- a chain of two
abbrev pair : Operator → Expression → Expression → Expression
pair x e g = expression_at 0 (f.Chain e (operand_at 0 x g ∷ []))

pair_shown : (x : Operator) (e g : Expression) → print.shown (pair x e g) ≡ print.shown_chain (print.shown e) (record { operator = x; operand = print.shown g } ∷ [])
pair_shown x e g = shown_at 0 (f.Chain e (operand_at 0 x g ∷ [])) ∙ chain_shape e (operand_at 0 x g ∷ []) ∙ ap (λ u. print.shown_chain (print.shown e) (u ∷ [])) (beside_at 0 x g)

negative_shown : (e : Expression) → print.shown (expression_at 0 (f.Unary unary.Negative e)) ≡ print.shown_form (o.Unary unary.Negative (print.shown e))
negative_shown e = shown_at 0 (f.Unary unary.Negative e) ∙ unary_shape unary.Negative e

-- brackets where a part stands no higher than the whole
difference : printed_as (pair operators.Subtract (local (codes "a")) (pair operators.Subtract (local (codes "b")) (local (codes "c")))) (codes "a - (b - c)")
difference =
    rw (
      pair_shown operators.Subtract (local (codes "a")) (pair operators.Subtract (local (codes "b")) (local (codes "c"))),
      pair_shown operators.Subtract (local (codes "b")) (local (codes "c")),
      local_shown (codes "a"),
      local_shown (codes "b"),
      local_shown (codes "c"),
    ) refl

product : printed_as (pair operators.Multiply (pair operators.Add (local (codes "a")) (local (codes "b"))) (local (codes "c"))) (codes "(a + b) * c")
product =
    rw (
      pair_shown operators.Multiply (pair operators.Add (local (codes "a")) (local (codes "b"))) (local (codes "c")),
      pair_shown operators.Add (local (codes "a")) (local (codes "b")),
      local_shown (codes "a"),
      local_shown (codes "b"),
      local_shown (codes "c"),
    ) refl

-- no brackets where the part stands higher
sum : printed_as (pair operators.Or (pair operators.Multiply (local (codes "a")) (local (codes "b"))) (local (codes "c"))) (codes "a * b | c")
sum =
    rw (
      pair_shown operators.Or (pair operators.Multiply (local (codes "a")) (local (codes "b"))) (local (codes "c")),
      pair_shown operators.Multiply (local (codes "a")) (local (codes "b")),
      local_shown (codes "a"),
      local_shown (codes "b"),
      local_shown (codes "c"),
    ) refl

-- the least number is no operand of a further sign
least : printed_as (expression_at 0 (f.Unary unary.Negative (expression_at 0 (f.Number (numbers.Int (negsuc 2147483647)))))) (codes "-(-2147483648)")
least = rw (negative_shown (expression_at 0 (f.Number (numbers.Int (negsuc 2147483647)))), number_shown (numbers.Int (negsuc 2147483647))) refl

-- ---- bundles

abbrev given : Literal → Given
given x = record { literal = x; at = 0 }

abbrev bundle : Start
bundle = record {
  program = record {
    nodes = record { role = roles.Principal; name = named (codes "A") } ∷ [];
    delegations = [];
    labels = record { name = named (codes "S"); policies = record { owner = named (codes "A"); aspect = aspects.Confidentiality; others = [] } ∷ [] }
        ∷ record { name = named (codes "P"); policies = [] } ∷ [];
    classes = record { name = named (codes "C"); label = named (codes "P"); access = named (codes "P"); fields = record { sort = sorts.Number widths.Int; name = named (codes "f") } ∷ [] } ∷ [];
    methods = record {
      name = named (codes "m");
      parameters = record { sort = sorts.Class (named (codes "C")); name = named (codes "c"); label = named (codes "P") } ∷ record { sort = sorts.Number widths.Int; name = named (codes "s"); label = named (codes "S") } ∷ [];
      returns = None;
      begin = named (codes "P");
      fails = true;
      authority = [];
      body = s.If (local (codes "s")) (s.Write (named (codes "c")) (named (codes "f")) (expression_at 0 (f.Number (numbers.Int (pos 1)))) ∷ []) None ∷ [];
      result = None;
    } ∷ [];
  };
  roots = [];
  sessions = [];
  posts = [];
  crashes = [];
  cache = 0;
  schedule = [];
}

printed : canonical bundle ≡ codes "principal A;\nlabel S = {A ->};\nlabel P = {};\nclass C label P access P { int f; }\nmethod m(C c : P, int s : S) begin P fails {\n  if (s) {\n    c.f = 1;\n  }\n}\nrun {\n}\n"
printed =
    rw (
      if_shown (local (codes "s")) (s.Write (named (codes "c")) (named (codes "f")) (number 1) ∷ []) None,
      write_shown (named (codes "c")) (named (codes "f")) (number 1),
      local_shown (codes "s"),
      number_shown (numbers.Int (pos 1)),
      decimal_digit 1 (omega arith),
    ) refl

-- with what a run is told: two spaces for each level
abbrev told : Start
told = record {
  program = record {
    nodes = record { role = roles.Worker true; name = named (codes "h") } ∷ record { role = roles.Store false; name = named (codes "a") } ∷ record { role = roles.Worker false; name = named (codes "w") } ∷ [];
    delegations = record { actor = named (codes "w"); principal = named (codes "a") } ∷ [];
    labels = record { name = named (codes "L"); policies = record { owner = named (codes "a"); aspect = aspects.Confidentiality; others = named (codes "h") ∷ named (codes "w") ∷ [] } ∷ record { owner = named (codes "w"); aspect = aspects.Integrity; others = [] } ∷ [] } ∷ [];
    classes = record { name = named (codes "C"); label = named (codes "L"); access = named (codes "L"); fields = [] } ∷ [];
    methods = [];
  };
  roots = record { name = named (codes "r"); class = named (codes "C"); store = named (codes "a"); values = given literals.Null ∷ given (literals.Number (numbers.Int (negsuc 6))) ∷ [] } ∷ [];
  sessions = record { worker = named (codes "w"); requests = record { method = named (codes "m"); arguments = given (literals.Number (numbers.Int (negsuc 2147483647))) ∷ given (literals.Root (named (codes "r"))) ∷ [] } ∷ [] } ∷ [];
  posts = record { sender = named (codes "h"); receiver = named (codes "w"); bytes = 10 ∷ 255 ∷ [] } ∷ [];
  crashes = record { node = named (codes "w"); after = 3; keep = Some 5 } ∷ record { node = named (codes "a"); after = 3; keep = None } ∷ [];
  cache = 2;
  schedule = events.Step (steps.Begin (named (codes "w"))) ∷ events.CrashIn 5 (steps.Deliver (named (codes "a")) (named (codes "w"))) ∷ events.Post (named (codes "h")) ∷ [];
}

told_printed : canonical told ≡ codes "hostile worker h;\nstore a;\nworker w;\nw actsfor a;\nlabel L = {a -> h, w; w <-};\nclass C label L access L { }\nrun {\n  root r : C @ a (null, -7);\n  session w {\n    m(-2147483648, r);\n  }\n  post h -> w \"0aff\";\n  crash w after 3 keep 5;\n  crash a after 3;\n  cache 2;\n  schedule {\n    begin w;\n    crashin 5 deliver a w;\n    post h;\n  }\n}\n"
told_printed = rw (decimal_digit 7 (omega arith), decimal_digit 3 (omega arith), decimal_digit 5 (omega arith), decimal_digit 2 (omega arith)) refl

-- a text with other blanks, and the bundle that it stands for
abbrev short : List Token
short =
    record { kind = k.Fixed m.Run; at = 0; end = 3 } ∷ record { kind = k.Fixed m.LeftBrace; at = 3; end = 4 }
    ∷ record { kind = k.Fixed m.RightBrace; at = 5; end = 6 } ∷ []

short_lexes : Lexes 0 (codes "run{ }") short
short_lexes = token refl (token refl (blank refl (token refl over)))

abbrev empty : Start
empty = record {
  program = record { nodes = []; delegations = []; labels = []; classes = []; methods = [] };
  roots = [];
  sessions = [];
  posts = [];
  crashes = [];
  cache = 0;
  schedule = [];
}

short_reads : IsText short empty
short_reads =
    start (program no_more no_more no_more no_more no_more) (is refl) (is refl) no_more no_more no_more no_more no_cache no_schedule (is refl)

short_printed : canonical empty ≡ codes "run {\n}\n"
short_printed = refl
