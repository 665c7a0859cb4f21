-- Worked examples of what a set of nodes is sent, and of nodes by their names.
use Rattle.std.proofs.Common.{◌≡◌, ◌==◌, ◌&&◌, ℕ, true, false, if◌then◌else◌, List, [], ◌∷◌, Option, Some, None, refl, ap, get_or, codes, arith}
use Rattle.std.proofs.lemmas.Fmt.{decimal_digit}
use Rattle.fab_tree.specs.declared.declaration.Role.{Role}
use Rattle.fab_tree.specs.declared.declaration.Role.TheVariants as roles
use Rattle.fab_tree.specs.declared.resolved.Principal.{Principal}
use Rattle.fab_tree.specs.declared.resolved.Resolved.{Resolved}
use Rattle.fab_rights.specs.Computed.{has_bit}
use Rattle.fab_listing.specs.Listing.{listing, node_count}
use Rattle.fab_front.specs.Named.{are_node_names, is_named, is_node_name}

-- ---- a program: the principal P, then the worker w, the store s and the hostile worker h

abbrev node : Role → List ℕ → Option ℕ → Principal
node role text number = record { role = role; name = record { text = text; at = 0 }; node = number }

abbrev program : Resolved
program = record {
  nodes =
      node roles.Principal (codes "P") None ∷ node (roles.Worker false) (codes "w") (Some 0) ∷
      node (roles.Store false) (codes "s") (Some 1) ∷ node (roles.Worker true) (codes "h") (Some 2) ∷ [];
  pairs = [];
  labels = [];
  classes = [];
  methods = [];
  roots = [];
  sessions = [];
  posts = [];
  crashes = [];
  cache = 0;
  schedule = [];
}

three_nodes : node_count program ≡ 3
three_nodes = refl

-- ---- w has sent two messages to h, of which one is empty, and one to s; s one to h; h one to w

abbrev sent : ℕ → ℕ → List (List ℕ)
sent n d =
    if (n == 0) && (d == 2) then (1 ∷ 255 ∷ []) ∷ [] ∷ []
    else (if (n == 0) && (d == 1) then (7 ∷ []) ∷ []
    else (if (n == 1) && (d == 2) then (9 ∷ []) ∷ []
    else (if (n == 2) && (d == 0) then (5 ∷ []) ∷ [] else [])))

-- to h: of w and then of s, each numbered by itself
to_one : listing program (has_bit 4) sent ≡ codes "message w h 1 01ff\nmessage w h 2 \nmessage s h 1 09\nend 3\n"
to_one = rw (decimal_digit 1 (omega arith), decimal_digit 2 (omega arith), decimal_digit 3 (omega arith)) refl

-- to s and h: of w alone, the store before the other worker; what s has sent to h stays inside
to_two : listing program (has_bit 6) sent ≡ codes "message w s 1 07\nmessage w h 1 01ff\nmessage w h 2 \nend 3\n"
to_two = rw (decimal_digit 1 (omega arith), decimal_digit 2 (omega arith), decimal_digit 3 (omega arith)) refl

-- what the set sends is not in it
from_none : listing program (has_bit 1) sent ≡ codes "message h w 1 05\nend 1\n"
from_none = rw (decimal_digit 1 (omega arith)) refl

nobody : listing program (has_bit 0) sent ≡ codes "end 0\n"
nobody = rw (decimal_digit 0 (omega arith)) refl

everybody : listing program (has_bit 7) sent ≡ codes "end 0\n"
everybody = rw (decimal_digit 0 (omega arith)) refl

-- numbers of nodes that aren't there
no_nodes : listing program (has_bit 8) sent ≡ codes "end 0\n"
no_nodes = rw (decimal_digit 0 (omega arith)) refl

-- they aren't counted over all pairs
not_over_pairs : listing program (has_bit 4) sent ≡ codes "message w h 1 01ff\nmessage w h 2 \nmessage s h 3 09\nend 3\n" → ⊥
not_over_pairs e =
    let f = rw (decimal_digit 1 (omega arith), decimal_digit 2 (omega arith), decimal_digit 3 (omega arith)) at e in
    let digit : 49 ≡ 51 = ap (λ xs. get_or xs 46 0) f in
    omega (arith, digit)

-- the receiver doesn't come before the sender
not_receiver_first : listing program (has_bit 1) sent ≡ codes "message w h 1 05\nend 1\n" → ⊥
not_receiver_first e =
    let f = rw (decimal_digit 1 (omega arith)) at e in
    let sender : 104 ≡ 119 = ap (λ xs. get_or xs 8 0) f in
    omega (arith, sender)

-- ---- names

nodes_are_named : is_node_name program (codes "h") ≡ true
nodes_are_named = refl

no_principal : is_node_name program (codes "P") ≡ false
no_principal = refl

one_unknown : are_node_names program (codes "w" ∷ codes "x" ∷ []) ≡ false
one_unknown = refl

some_twice : are_node_names program (codes "h" ∷ codes "w" ∷ codes "h" ∷ []) ≡ true
some_twice = refl

no_names : are_node_names program [] ≡ true
no_names = refl

named_h : is_named program (codes "h" ∷ codes "w" ∷ []) 2 ≡ true
named_h = refl

not_s : is_named program (codes "h" ∷ codes "w" ∷ []) 1 ≡ false
not_s = refl

-- a number without a node, and a principal's place among all
not_three : is_named program (codes "h" ∷ codes "w" ∷ codes "P" ∷ []) 3 ≡ false
not_three = refl
