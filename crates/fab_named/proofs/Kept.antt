-- Whatever holds of each token of a list holds of each that the grammar leaves behind what it reads.
use Rattle.std.proofs.Common.{ℕ, Bool, List, Option}
use Rattle.std.specs.List.{AllByRecursion}
use Rattle.fab_base.specs.declared.token.Mark.{Mark}
use Rattle.fab_base.specs.declared.token.Token.{Token}
use Rattle.fab_tree.specs.declared.name.Name.{Name}
use Rattle.fab_tree.specs.declared.declaration.Role.{Role}
use Rattle.fab_tree.specs.declared.declaration.Node.{Node}
use Rattle.fab_tree.specs.declared.declaration.Delegation.{Delegation}
use Rattle.fab_tree.specs.declared.declaration.Aspect.{Aspect}
use Rattle.fab_tree.specs.declared.declaration.PolicyText.{PolicyText}
use Rattle.fab_tree.specs.declared.declaration.LabelText.{LabelText}
use Rattle.fab_tree.specs.declared.declaration.Sort.{Sort}
use Rattle.fab_tree.specs.declared.declaration.Field.{Field}
use Rattle.fab_tree.specs.declared.declaration.Class.{Class}
use Rattle.fab_tree.specs.declared.expression.Level.{Level}
use Rattle.fab_tree.specs.declared.expression.Operator.{Operator}
use Rattle.fab_tree.specs.declared.expression.Comparison.{Comparison}
use Rattle.fab_tree.specs.declared.expression.Expression.{Expression}
use Rattle.fab_tree.specs.declared.expression.Number.{Number}
use Rattle.fab_tree.specs.declared.expression.Operand.{Operand}
use Rattle.fab_tree.specs.declared.statement.Downgrade.{Downgrade}
use Rattle.fab_tree.specs.declared.statement.Right.{Right}
use Rattle.fab_tree.specs.declared.statement.Statement.{Statement}
use Rattle.fab_tree.specs.declared.program.Parameter.{Parameter}
use Rattle.fab_tree.specs.declared.program.Returns.{Returns}
use Rattle.fab_tree.specs.declared.program.Return.{Return}
use Rattle.fab_tree.specs.declared.program.Method.{Method}
use Rattle.fab_tree.specs.declared.event.PostLine.{PostLine}
use Rattle.fab_tree.specs.declared.start.Literal.{Literal}
use Rattle.fab_tree.specs.declared.start.Given.{Given}
use Rattle.fab_tree.specs.declared.start.Root.{Root}
use Rattle.fab_tree.specs.declared.start.RequestText.{RequestText}
use Rattle.fab_tree.specs.declared.start.Session.{Session}
use Rattle.fab_tree.specs.Lists.{Is, is, IsName, name, IsNumeral, numeral, IsNumber, int, IsLeast, least_int, IsBytes, bytes, Repeated, no_more, one_more, Behind, behind, Perhaps, without, with_it, Separated, none, some}
use Rattle.fab_tree.specs.Declarations.{IsMachine, IsRole, IsNode, IsDelegation, IsAspect, IsPolicy, IsLabel, IsSort, IsField, IsClass}
use Rattle.fab_tree.specs.Declarations as declared
use Rattle.fab_tree.specs.Expressions.{IsComparison, IsOperator, IsChain, IsOthers, IsOperand, IsCompared, IsUnary, IsPrimary}
use Rattle.fab_tree.specs.Expressions as ex
use Rattle.fab_tree.specs.Statements.{IsDowngrade, IsRight, IsStatement, IsOtherwise, IsBlock, IsStatements}
use Rattle.fab_tree.specs.Statements as st
use Rattle.fab_tree.specs.Programs.{IsParameter, IsReturns, IsFails, IsAuthority, IsReturn, IsResult, IsMethod}
use Rattle.fab_tree.specs.Programs as pr
use Rattle.fab_tree.specs.Runs.{IsNegated, IsLiteral, IsGiven, IsRoot, IsRequest, IsSession, IsPost}
use Rattle.fab_tree.specs.Runs as ru

module _ (W : Token → Type 0) where
  -- it holds of each of these
  abbrev Each : List Token → Type 0
  Each ts = AllByRecursion W ts

  -- behind what this reads, it holds of each token if it did in front
  abbrev pub Leaves : {A : Type 0} → (List Token → A → List Token → Type 0) → Type 0
  Leaves {A} P = (a : List Token) (t : A) (b : List Token) → P a t b → Each a → Each b

  -- ---- pieces

  pub kept_is : {mark : Mark} {a b : List Token} → Is mark a b → Each a → Each b
  kept_is (is e) w = w.1

  pub kept_name : {a : List Token} {t : Name} {b : List Token} → IsName a t b → Each a → Each b
  kept_name (name e) w = w.1

  kept_numeral : {a : List Token} {t : ℕ} {b : List Token} → IsNumeral a t b → Each a → Each b
  kept_numeral (numeral e h) w = w.1

  kept_number : {a : List Token} {t : Number} {b : List Token} → IsNumber a t b → Each a → Each b
  kept_number (int p0) w = kept_numeral p0 w

  kept_least : {a : List Token} {t : Number} {b : List Token} → IsLeast a t b → Each a → Each b
  kept_least (least_int e) w = w.1

  pub kept_repeated : {A : Type 0} {P : List Token → A → List Token → Type 0} → Leaves P → {a : List Token} {t : List A} {b : List Token} → Repeated P a t b → Each a → Each b
  kept_repeated item no_more w = w
  kept_repeated item (one_more p q) w = kept_repeated item q (item _ _ _ p w)

  kept_behind : {A : Type 0} {P : List Token → A → List Token → Type 0} {mark : Mark} → Leaves P → {a : List Token} {t : A} {b : List Token} → Behind mark P a t b → Each a → Each b
  kept_behind item (behind i p) w = item _ _ _ p (kept_is i w)

  kept_perhaps : {A : Type 0} {P : List Token → A → List Token → Type 0} {mark : Mark} → Leaves P → {a : List Token} {t : Option A} {b : List Token} → Perhaps mark P a t b → Each a → Each b
  kept_perhaps item without w = w
  kept_perhaps item (with_it i p) w = item _ _ _ p (kept_is i w)

  kept_separated : {A : Type 0} {P : List Token → A → List Token → Type 0} {mark : Mark} → Leaves P → {a : List Token} {t : List A} {b : List Token} → Separated mark P a t b → Each a → Each b
  kept_separated item none w = w
  kept_separated item (some p q) w = kept_repeated (λ x t y. kept_behind item) q (item _ _ _ p w)

  -- ---- declarations

  kept_machine : {h : Bool} {a : List Token} {t : Role} {b : List Token} → IsMachine h a t b → Each a → Each b
  kept_machine (declared.worker p0) w = kept_is p0 w
  kept_machine (declared.store p0) w = kept_is p0 w

  pub kept_role : {a : List Token} {t : Role} {b : List Token} → IsRole a t b → Each a → Each b
  kept_role (declared.principal p0) w = kept_is p0 w
  kept_role (declared.honest p0) w = kept_machine p0 w
  kept_role (declared.hostile p0 p1) w = kept_machine p1 (kept_is p0 w)

  pub kept_node : {a : List Token} {t : Node} {b : List Token} → IsNode a t b → Each a → Each b
  kept_node (declared.node p0 p1 p2) w = kept_is p2 (kept_name p1 (kept_role p0 w))

  pub kept_delegation : {a : List Token} {t : Delegation} {b : List Token} → IsDelegation a t b → Each a → Each b
  kept_delegation (declared.delegation p0 p1 p2 p3) w = kept_is p3 (kept_name p2 (kept_is p1 (kept_name p0 w)))

  kept_aspect : {a : List Token} {t : Aspect} {b : List Token} → IsAspect a t b → Each a → Each b
  kept_aspect (declared.readers p0) w = kept_is p0 w
  kept_aspect (declared.writers p0) w = kept_is p0 w

  kept_policy : {a : List Token} {t : PolicyText} {b : List Token} → IsPolicy a t b → Each a → Each b
  kept_policy (declared.policy p0 p1 p2) w = kept_separated (λ x t y. kept_name) p2 (kept_aspect p1 (kept_name p0 w))

  pub kept_label : {a : List Token} {t : LabelText} {b : List Token} → IsLabel a t b → Each a → Each b
  kept_label (declared.label p0 p1 p2 p3 p4 p5 p6) w = kept_is p6 (kept_is p5 (kept_separated (λ x t y. kept_policy) p4 (kept_is p3 (kept_is p2 (kept_name p1 (kept_is p0 w))))))

  kept_sort : {a : List Token} {t : Sort} {b : List Token} → IsSort a t b → Each a → Each b
  kept_sort (declared.number p0) w = kept_is p0 w
  kept_sort (declared.class p0) w = kept_name p0 w

  kept_field : {a : List Token} {t : Field} {b : List Token} → IsField a t b → Each a → Each b
  kept_field (declared.field p0 p1 p2) w = kept_is p2 (kept_name p1 (kept_sort p0 w))

  pub kept_class : {a : List Token} {t : Class} {b : List Token} → IsClass a t b → Each a → Each b
  kept_class (declared.class p0 p1 p2 p3 p4 p5 p6 p7 p8) w =
      kept_is p8 (kept_repeated (λ x t y. kept_field) p7 (kept_is p6 (kept_name p5 (kept_is p4 (kept_name p3 (kept_is p2 (kept_name p1 (kept_is p0 w))))))))

  -- ---- expressions

  kept_comparison : {a : List Token} {t : Comparison} {b : List Token} → IsComparison a t b → Each a → Each b
  kept_comparison (ex.equal p0) w = kept_is p0 w
  kept_comparison (ex.not_equal p0) w = kept_is p0 w
  kept_comparison (ex.less p0) w = kept_is p0 w
  kept_comparison (ex.less_equal p0) w = kept_is p0 w
  kept_comparison (ex.greater p0) w = kept_is p0 w
  kept_comparison (ex.greater_equal p0) w = kept_is p0 w

  kept_operator : {l : Level} {a : List Token} {t : Operator} {b : List Token} → IsOperator l a t b → Each a → Each b
  kept_operator (ex.bar p0) w = kept_is p0 w
  kept_operator (ex.ampersand p0) w = kept_is p0 w
  kept_operator (ex.plus p0) w = kept_is p0 w
  kept_operator (ex.dash p0) w = kept_is p0 w
  kept_operator (ex.star p0) w = kept_is p0 w
  kept_operator (ex.slash p0) w = kept_is p0 w

  mutual
    kept_chain : {l : Level} {a : List Token} {t : Expression} {b : List Token} → IsChain l a t b → Each a → Each b
    kept_chain (ex.chain p0 p1) w = kept_others p1 (kept_operand p0 w)

    kept_others : {l : Level} {a : List Token} {t : List Operand} {b : List Token} → IsOthers l a t b → Each a → Each b
    kept_others ex.no_other w = w
    kept_others (ex.one_other p0 p1 p2) w = kept_others p2 (kept_operand p1 (kept_operator p0 w))

    kept_operand : {l : Level} {a : List Token} {t : Expression} {b : List Token} → IsOperand l a t b → Each a → Each b
    kept_operand (ex.of_or p0) w = kept_chain p0 w
    kept_operand (ex.of_and p0) w = kept_compared p0 w
    kept_operand (ex.of_sum p0) w = kept_chain p0 w
    kept_operand (ex.of_product p0) w = kept_unary p0 w

    kept_compared : {a : List Token} {t : Expression} {b : List Token} → IsCompared a t b → Each a → Each b
    kept_compared (ex.alone p0) w = kept_chain p0 w
    kept_compared (ex.compared p0 p1 p2) w = kept_chain p2 (kept_comparison p1 (kept_chain p0 w))

    kept_unary : {a : List Token} {t : Expression} {b : List Token} → IsUnary a t b → Each a → Each b
    kept_unary (ex.primary p0) w = kept_primary p0 w
    kept_unary (ex.signed p0 p1) w = kept_primary p1 (kept_is p0 w)
    kept_unary (ex.least p0 p1) w = kept_least p1 (kept_is p0 w)

    kept_primary : {a : List Token} {t : Expression} {b : List Token} → IsPrimary a t b → Each a → Each b
    kept_primary (ex.number p0) w = kept_number p0 w
    kept_primary (ex.null p0) w = kept_is p0 w
    kept_primary (ex.local p0) w = kept_name p0 w
    kept_primary (ex.read p0 p1 p2) w = kept_name p2 (kept_is p1 (kept_name p0 w))
    kept_primary (ex.brackets p0 p1 p2) w = kept_is p2 (kept_chain p1 (kept_is p0 w))

  -- ---- statements

  kept_downgrade : {a : List Token} {t : Downgrade} {b : List Token} → IsDowngrade a t b → Each a → Each b
  kept_downgrade (st.declassify p0) w = kept_is p0 w
  kept_downgrade (st.endorse p0) w = kept_is p0 w

  kept_right : {a : List Token} {t : Right} {b : List Token} → IsRight a t b → Each a → Each b
  kept_right (st.plain p0) w = kept_chain p0 w
  kept_right (st.call p0 p1 p2 p3) w = kept_is p3 (kept_separated (λ x t y. kept_chain) p2 (kept_is p1 (kept_name p0 w)))
  kept_right (st.new p0 p1 p2 p3 p4 p5 p6) w = kept_is p6 (kept_separated (λ x t y. kept_chain) p5 (kept_is p4 (kept_name p3 (kept_is p2 (kept_name p1 (kept_is p0 w))))))
  kept_right (st.downgrade p0 p1 p2 p3 p4 p5 p6 p7) w = kept_is p7 (kept_name p6 (kept_is p5 (kept_name p4 (kept_is p3 (kept_chain p2 (kept_is p1 (kept_downgrade p0 w)))))))

  mutual
    kept_statement : {a : List Token} {t : Statement} {b : List Token} → IsStatement a t b → Each a → Each b
    kept_statement (st.declare p0 p1 p2 p3 p4 p5 p6) w = kept_is p6 (kept_chain p5 (kept_is p4 (kept_name p3 (kept_is p2 (kept_name p1 (kept_sort p0 w))))))
    kept_statement (st.assign p0 p1 p2 p3) w = kept_is p3 (kept_right p2 (kept_is p1 (kept_name p0 w)))
    kept_statement (st.write p0 p1 p2 p3 p4 p5) w = kept_is p5 (kept_chain p4 (kept_is p3 (kept_name p2 (kept_is p1 (kept_name p0 w)))))
    kept_statement (st.call p0 p1 p2 p3 p4) w = kept_is p4 (kept_is p3 (kept_separated (λ x t y. kept_chain) p2 (kept_is p1 (kept_name p0 w))))
    kept_statement (st.choice p0 p1 p2 p3 p4 p5) w = kept_otherwise p5 (kept_block p4 (kept_is p3 (kept_chain p2 (kept_is p1 (kept_is p0 w)))))
    kept_statement (st.loop p0 p1 p2 p3 p4) w = kept_block p4 (kept_is p3 (kept_chain p2 (kept_is p1 (kept_is p0 w))))
    kept_statement (st.atomic p0 p1 p2 p3 p4) w = kept_block p4 (kept_is p3 (kept_block p2 (kept_name p1 (kept_is p0 w))))
    kept_statement (st.fail p0 p1) w = kept_is p1 (kept_is p0 w)

    kept_otherwise : {a : List Token} {t : Option (List Statement)} {b : List Token} → IsOtherwise a t b → Each a → Each b
    kept_otherwise st.no_else w = w
    kept_otherwise (st.some_else p0 p1) w = kept_block p1 (kept_is p0 w)

    kept_block : {a : List Token} {t : List Statement} {b : List Token} → IsBlock a t b → Each a → Each b
    kept_block (st.block p0 p1 p2) w = kept_is p2 (kept_statements p1 (kept_is p0 w))

    kept_statements : {a : List Token} {t : List Statement} {b : List Token} → IsStatements a t b → Each a → Each b
    kept_statements st.no_statement w = w
    kept_statements (st.one_statement p0 p1) w = kept_statements p1 (kept_statement p0 w)

  -- ---- methods

  kept_parameter : {a : List Token} {t : Parameter} {b : List Token} → IsParameter a t b → Each a → Each b
  kept_parameter (pr.parameter p0 p1 p2 p3) w = kept_name p3 (kept_is p2 (kept_name p1 (kept_sort p0 w)))

  kept_returns : {a : List Token} {t : Returns} {b : List Token} → IsReturns a t b → Each a → Each b
  kept_returns (pr.returns p0 p1 p2) w = kept_name p2 (kept_is p1 (kept_sort p0 w))

  kept_fails : {a : List Token} {t : Bool} {b : List Token} → IsFails a t b → Each a → Each b
  kept_fails pr.safe w = w
  kept_fails (pr.fails p0) w = kept_is p0 w

  kept_authority : {a : List Token} {t : List Name} {b : List Token} → IsAuthority a t b → Each a → Each b
  kept_authority pr.nobody w = w
  kept_authority (pr.authority p0 p1 p2) w = kept_repeated (λ x t y. kept_behind (λ x t y. kept_name)) p2 (kept_name p1 (kept_is p0 w))

  kept_return : {a : List Token} {t : Return} {b : List Token} → IsReturn a t b → Each a → Each b
  kept_return (pr.return_ p0 p1 p2) w = kept_is p2 (kept_chain p1 (kept_is p0 w))

  kept_result : {a : List Token} {t : Option Return} {b : List Token} → IsResult a t b → Each a → Each b
  kept_result pr.no_result w = w
  kept_result (pr.result p0) w = kept_return p0 w

  pub kept_method : {a : List Token} {t : Method} {b : List Token} → IsMethod a t b → Each a → Each b
  kept_method (pr.method p0 p1 p2 p3 p4 p5 p6 p7 p8 p9 p10 p11 p12 p13) w =
      let begin = kept_is p6 (kept_perhaps (λ x t y. kept_returns) p5 (kept_is p4 (kept_separated (λ x t y. kept_parameter) p3 (kept_is p2 (kept_name p1 (kept_is p0 w)))))) in
      let body = kept_is p10 (kept_authority p9 (kept_fails p8 (kept_name p7 begin))) in
      kept_is p13 (kept_result p12 (kept_repeated (λ x t y. kept_statement) p11 body))

  -- ---- roots, sessions and posts

  kept_negated : {a : List Token} {t : Number} {b : List Token} → IsNegated a t b → Each a → Each b
  kept_negated (ru.negative p0) w = kept_numeral p0 w
  kept_negated (ru.least p0) w = kept_least p0 w

  kept_literal : {a : List Token} {t : Literal} {b : List Token} → IsLiteral a t b → Each a → Each b
  kept_literal (ru.number p0) w = kept_number p0 w
  kept_literal (ru.negated p0 p1) w = kept_negated p1 (kept_is p0 w)
  kept_literal (ru.null p0) w = kept_is p0 w
  kept_literal (ru.root p0) w = kept_name p0 w

  kept_given : {a : List Token} {t : Given} {b : List Token} → IsGiven a t b → Each a → Each b
  kept_given (ru.given p0) w = kept_literal p0 w

  pub kept_root : {a : List Token} {t : Root} {b : List Token} → IsRoot a t b → Each a → Each b
  kept_root (ru.root p0 p1 p2 p3 p4 p5 p6 p7 p8 p9) w =
      kept_is p9 (kept_is p8 (kept_separated (λ x t y. kept_given) p7 (kept_is p6 (kept_name p5 (kept_is p4 (kept_name p3 (kept_is p2 (kept_name p1 (kept_is p0 w)))))))))

  kept_request : {a : List Token} {t : RequestText} {b : List Token} → IsRequest a t b → Each a → Each b
  kept_request (ru.request p0 p1 p2 p3 p4) w = kept_is p4 (kept_is p3 (kept_separated (λ x t y. kept_given) p2 (kept_is p1 (kept_name p0 w))))

  pub kept_session : {a : List Token} {t : Session} {b : List Token} → IsSession a t b → Each a → Each b
  kept_session (ru.session p0 p1 p2 p3 p4) w = kept_is p4 (kept_repeated (λ x t y. kept_request) p3 (kept_is p2 (kept_name p1 (kept_is p0 w))))

  kept_bytes : {a : List Token} {t : List ℕ} {b : List Token} → IsBytes a t b → Each a → Each b
  kept_bytes (bytes e) w = w.1

  pub kept_post : {a : List Token} {t : PostLine} {b : List Token} → IsPost a t b → Each a → Each b
  kept_post (ru.post p0 p1 p2 p3 p4 p5) w = kept_is p5 (kept_bytes p4 (kept_name p3 (kept_is p2 (kept_name p1 (kept_is p0 w)))))
