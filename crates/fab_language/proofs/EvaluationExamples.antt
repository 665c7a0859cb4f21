-- Worked examples of requests one after the other, and of the text of an evaluation.
use Rattle.std.proofs.Common.{◌≡◌, ℕ, true, false, List, [], ◌∷◌, Option, Some, None, refl, codes, pos, negsuc, map, arith}
use Rattle.std.proofs.lemmas.Fmt.{decimal_digit}
use Rattle.fab_base.specs.declared.object.Oid.{Oid}
use Rattle.fab_base.specs.declared.object.Value.{Value}
use Rattle.fab_base.specs.declared.object.Value.TheVariants.{Null, Ref}
use Rattle.fab_base.specs.declared.object.Stop.TheVariants.{Fuel, Depth, Reads, Writes}
use Rattle.fab_tree.specs.declared.declaration.Role.{Role}
use Rattle.fab_tree.specs.declared.declaration.Role.TheVariants as roles
use Rattle.fab_tree.specs.declared.resolved.Class.{Class}
use Rattle.fab_tree.specs.declared.resolved.Principal.{Principal}
use Rattle.fab_tree.specs.declared.resolved.Root.{Root}
use Rattle.fab_tree.specs.declared.resolved.Request.{Request}
use Rattle.fab_tree.specs.declared.resolved.Session.{Session}
use Rattle.fab_tree.specs.declared.resolved.Resolved.{Resolved}
use Rattle.fab_tree.specs.declared.resolved.Right.TheVariants as rights
use Rattle.fab_tree.specs.declared.resolved.Statement.{Statement, roll-Statement}
use Rattle.fab_tree.specs.declared.resolved.Statement.TheOpen as s
use Rattle.fab_language.specs.declared.ending.Ending.TheVariants.{Ended, Stopped, Missing}
use Rattle.fab_language.specs.Evaluation.{requests_of, outcomes_text, evaluation_text}
use Rattle.fab_language.proofs.ExpressionExamples.{int, used}
use Rattle.fab_language.proofs.MeaningExamples.{number}
use Rattle.fab_language.proofs.CallExamples.{plain_name, method, program, local, returning}
use Rattle.fab_language.proofs.Forms.{local_means, assign_means, write_means, fail_means}

-- ---- a bundle: a principal, then the workers u and v with the stores b and a between them, a class with a field
-- and one without, and roots at both stores

abbrev node : Role → List ℕ → Option ℕ → Principal
node role text number = record { role = role; name = plain_name text; node = number }

abbrev class : List ℕ → Class
class text = record { name = plain_name text; label = used 0; access = used 0; fields = [] }

abbrev at_store : ℕ → ℕ → Oid
at_store store n = record { store = store; class = 0; worker = 65535; boot = 0; number = n; site = 65535; index = 0 }

abbrev kept_at : List ℕ → Oid → List Value → Root
kept_at text o values = record { name = plain_name text; oid = o; values = values }

abbrev asks : ℕ → ℕ → List Value → Request
asks worker n args = record { worker = worker; number = n; method = 0; args = args }

abbrev session : ℕ → List Request → Session
session worker requests = record { worker = used worker; requests = map (λ r. record { request = r; at = 0 }) requests }

-- the session of v, which is node 3, stands before that of u, which is node 0
abbrev bundle : List Statement → Resolved
bundle body = record (program (method body (returning (local 1)) ∷ [])) {
  nodes = node roles.Principal (codes "P") None ∷ node (roles.Worker false) (codes "u") (Some 0) ∷ node (roles.Store false) (codes "b") (Some 1) ∷ node (roles.Store true) (codes "a") (Some 2) ∷ node (roles.Worker false) (codes "v") (Some 3) ∷ [];
  classes = class (codes "C") ∷ class (codes "D") ∷ [];
  roots = kept_at (codes "x") (at_store 2 0) (int (negsuc 2) ∷ []) ∷ kept_at (codes "y") (at_store 1 1) (Null ∷ []) ∷ [];
  sessions = session 3 (asks 3 1 (Ref (at_store 2 0) ∷ int (pos 5) ∷ []) ∷ []) ∷ session 0 (asks 0 1 (Null ∷ int (pos 6) ∷ []) ∷ asks 0 2 (Ref (at_store 2 0) ∷ int (pos 7) ∷ []) ∷ []) ∷ [];
}

-- the requests of the node with the least number come first, wherever its session stands
by_nodes : requests_of (bundle []) ≡ asks 0 1 (Null ∷ int (pos 6) ∷ []) ∷ asks 0 2 (Ref (at_store 2 0) ∷ int (pos 7) ∷ []) ∷ asks 3 1 (Ref (at_store 2 0) ∷ int (pos 5) ∷ []) ∷ []
by_nodes = refl

-- `return n;` alone, and the objects in the order of their names, at a hostile store too
results_and_objects : evaluation_text (bundle []) ≡ codes "outcome u 1 ended 6\noutcome u 2 ended 7\noutcome v 1 ended 5\nobject b y C null\nobject a x C -3\nend\n"
results_and_objects = rw (local_means, decimal_digit 1 (omega arith), decimal_digit 2 (omega arith), decimal_digit 3 (omega arith), decimal_digit 5 (omega arith), decimal_digit 6 (omega arith), decimal_digit 7 (omega arith)) refl

-- `a.f = n; return n;`: the first fails at null, and the last one's value stays
last_one_stays : evaluation_text (bundle (roll-Statement (s.Write (used 0) 0 (local 1) 0) ∷ [])) ≡ codes "outcome u 1 failed\noutcome u 2 ended 7\noutcome v 1 ended 5\nobject b y C null\nobject a x C 5\nend\n"
last_one_stays = rw (write_means, write_means, write_means, local_means, decimal_digit 1 (omega arith), decimal_digit 2 (omega arith), decimal_digit 5 (omega arith), decimal_digit 7 (omega arith)) refl

-- `c = new D @ b (n);`: an object that is no root's has # and 36 digits for a name, of its store, class, worker, boot, number, site and index
abbrev makes : List Statement
makes = roll-Statement (s.Assign 2 (rights.New (used 1) (used 1) (local 1 ∷ []) 4 0) 0) ∷ []

made_in_three_attempts : evaluation_text (bundle makes) ≡ codes "outcome u 1 ended 6\noutcome u 2 ended 7\noutcome v 1 ended 5\nobject b y C null\nobject b #000100010000000000010000000100040000 D 6\nobject b #000100010000000000010000000200040000 D 7\nobject b #000100010003000000010000000100040000 D 5\nobject a x C -3\nend\n"
made_in_three_attempts = rw (assign_means, assign_means, assign_means, local_means, decimal_digit 1 (omega arith), decimal_digit 2 (omega arith), decimal_digit 3 (omega arith), decimal_digit 5 (omega arith), decimal_digit 6 (omega arith), decimal_digit 7 (omega arith)) refl

-- `a.f = n; fail;`: what a request wrote before it failed isn't there at the end
failed_after_all : evaluation_text (record (bundle (roll-Statement (s.Write (used 0) 0 (local 1) 0) ∷ roll-Statement (s.Fail 0) ∷ [])) { sessions = session 0 (asks 0 2 (Ref (at_store 2 0) ∷ int (pos 7) ∷ []) ∷ []) ∷ [] }) ≡ codes "outcome u 2 failed\nobject b y C null\nobject a x C -3\nend\n"
failed_after_all = rw (write_means, local_means, fail_means, decimal_digit 2 (omega arith), decimal_digit 3 (omega arith)) refl

no_session : evaluation_text (record (bundle []) { sessions = []; roots = [] }) ≡ codes "end\n"
no_session = refl

-- the endings, each with its words; a missing object has none
endings : outcomes_text (bundle []) (asks 0 7 [] ∷ asks 3 8 [] ∷ asks 0 9 [] ∷ asks 0 1 [] ∷ []) (Stopped Reads ∷ Ended None ∷ Ended (Some (Ref (at_store 1 1))) ∷ Missing 4 (at_store 1 1) ∷ []) ≡ codes "outcome u 7 stopped reads\noutcome v 8 ended none\noutcome u 9 ended y\noutcome u 1\n"
endings = rw (decimal_digit 7 (omega arith), decimal_digit 8 (omega arith), decimal_digit 9 (omega arith), decimal_digit 1 (omega arith)) refl

limits : outcomes_text (bundle []) (asks 0 7 [] ∷ asks 0 8 [] ∷ asks 0 9 [] ∷ asks 0 1 [] ∷ []) (Stopped Fuel ∷ Stopped Depth ∷ Stopped Writes ∷ Ended (Some Null) ∷ []) ≡ codes "outcome u 7 stopped fuel\noutcome u 8 stopped depth\noutcome u 9 stopped writes\noutcome u 1 ended null\n"
limits = rw (decimal_digit 7 (omega arith), decimal_digit 8 (omega arith), decimal_digit 9 (omega arith), decimal_digit 1 (omega arith)) refl
