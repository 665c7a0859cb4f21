-- What is read beside a run, computed.
use Rattle.std.proofs.Common.{◌≡◌, ℕ, Bool, true, List, [], ◌∷◌, Some, None, refl, codes, pos, arith}
use Rattle.std.specs.Prelude.{◌==◌, if◌then◌else◌}
use Rattle.std.proofs.lemmas.Fmt.{decimal_digit}
use Rattle.fab_base.specs.declared.object.Oid.{Oid}
use Rattle.fab_base.specs.declared.object.Value.{Value}
use Rattle.fab_base.specs.declared.object.Value.TheVariants.{Int, Null}
use Rattle.fab_tree.specs.declared.resolved.Resolved.{Resolved}
use Rattle.fab_net.specs.declared.note.Commit.{Commit}
use Rattle.fab_serial.specs.Replays.{setting}
use Rattle.fab_reads.specs.Reads.{AreCounts, AreCountsOf, reads_text, values_after}

abbrev oid : ℕ → Oid
oid number = record { store = 1; class = 0; worker = 65535; boot = 0; number = number; site = 65535; index = 0 }

-- one object, x, with the number 9
abbrev program : Resolved
program = record {
  nodes = [];
  pairs = [];
  labels = [];
  classes = [];
  methods = [];
  roots = record { name = record { text = codes "x"; at = 0 }; oid = oid 0; values = Int (pos 9) ∷ [] } ∷ [];
  sessions = [];
  posts = [];
  crashes = [];
  cache = 0;
  schedule = [];
}

-- a commit of a request that isn't there
abbrev commit : ℕ → Commit
commit number = record { worker = 3; request = 5; tid = record { worker = 3; boot = 1; number = number }; answers = [] }

abbrev two : List Commit
two = commit 1 ∷ commit 2 ∷ []

-- ---- counts

-- two reads beside a run of two commits, and one behind it
counts : AreCounts 2 two (0 ∷ 1 ∷ 2 ∷ [])
counts = record { many = refl; rising = ((omega arith, (omega arith, tt)), ((omega arith, tt), (tt, tt))); whole = refl }

-- each read may have come behind the run, and before it
all_behind : AreCounts 2 two (2 ∷ 2 ∷ 2 ∷ [])
all_behind = record { many = refl; rising = ((omega arith, (omega arith, tt)), ((omega arith, tt), (tt, tt))); whole = refl }

all_before : AreCounts 2 two (0 ∷ 0 ∷ 2 ∷ [])
all_before = record { many = refl; rising = ((omega arith, (omega arith, tt)), ((omega arith, tt), (tt, tt))); whole = refl }

-- no state is older than one that was read before
none_falls : (times : ℕ) (commits : List Commit) → AreCounts times commits (1 ∷ 0 ∷ 2 ∷ []) → ⊥
none_falls times commits h = let first = h.rising.0.0 in omega (arith, first)

-- the last one is behind all commits, and no more
not_all : AreCounts 2 two (0 ∷ 1 ∷ 1 ∷ []) → ⊥
not_all h = let last : Some 1 ≡ Some 2 = h.whole in cc

not_more : AreCounts 2 two (0 ∷ 1 ∷ 3 ∷ []) → ⊥
not_more h = let last : Some 3 ≡ Some 2 = h.whole in cc

-- there is a read more than was asked for
not_without_last : AreCounts 2 two (0 ∷ 2 ∷ []) → ⊥
not_without_last h = let long : 2 ≡ 3 = h.many in omega (arith, long)

-- where nobody reads there are none
nobody_reads : AreCountsOf None two []
nobody_reads = refl

not_read : AreCountsOf None two (2 ∷ []) → ⊥
not_read h = cc

-- ---- values

abbrev every_class : ℕ → Bool
every_class class = true

abbrev others : ℕ → Bool
others class = class == 1

at_first : values_after (setting program) every_class [] (oid 0) 0 ≡ Int (pos 9) ∷ []
at_first = refl

-- of a name that isn't there, and of a class that isn't seen, there are none
not_there : values_after (setting program) every_class [] (oid 1) 0 ≡ []
not_there = refl

not_seen : values_after (setting program) others [] (oid 0) 0 ≡ []
not_seen = refl

not_made_up : values_after (setting program) every_class [] (oid 0) 0 ≡ Int (pos 8) ∷ [] → ⊥
not_made_up h = cc

-- ---- text

-- 9 at first, and 5 and nothing behind the first commit
abbrev values : ℕ → List Value
values count = if count == 0 then Int (pos 9) ∷ [] else Int (pos 5) ∷ Null ∷ []

two_lines : reads_text program values (0 ∷ 1 ∷ []) ≡ codes "read 1 after 0 9\nread 2 after 1 5 null\n"
two_lines = rw (decimal_digit 0 (omega arith), decimal_digit 1 (omega arith), decimal_digit 2 (omega arith), decimal_digit 5 (omega arith), decimal_digit 9 (omega arith)) refl

-- the same state twice
same_state : reads_text program values (0 ∷ 0 ∷ []) ≡ codes "read 1 after 0 9\nread 2 after 0 9\n"
same_state = rw (decimal_digit 0 (omega arith), decimal_digit 1 (omega arith), decimal_digit 2 (omega arith), decimal_digit 9 (omega arith)) refl

no_lines : reads_text program values [] ≡ []
no_lines = refl
