-- Worked examples of runs over fewer objects.
use Rattle.std.proofs.Common.{◌≡◌, ℕ, ℤ, pos, List, [], ◌∷◌, Option, None, false, codes, refl, sym, ap}
use Rattle.fab_base.specs.declared.object.Oid.{Oid}
use Rattle.fab_base.specs.declared.object.Object.{Object}
use Rattle.fab_base.specs.declared.object.Tid.{Tid}
use Rattle.fab_base.specs.declared.object.Stop.TheVariants.{Reads}
use Rattle.fab_base.specs.declared.object.Value.{Value}
use Rattle.fab_base.specs.declared.object.Value.TheVariants.{Int, Ref}
use Rattle.fab_base.specs.declared.object.Width.TheVariants as widths
use Rattle.fab_base.specs.FlatMap.{FlatMap}
use Rattle.fab_tree.specs.declared.name.Name.{Name}
use Rattle.fab_tree.specs.declared.resolved.Expression.{Expression}
use Rattle.fab_tree.specs.declared.resolved.Form.TheOpen as f
use Rattle.fab_tree.specs.declared.resolved.Local as locals
use Rattle.fab_tree.specs.declared.resolved.Method.{Method}
use Rattle.fab_tree.specs.declared.resolved.Request.{Request}
use Rattle.fab_tree.specs.declared.resolved.Sort.{Sort}
use Rattle.fab_tree.specs.declared.resolved.Sort.TheVariants as sorts
use Rattle.fab_tree.specs.declared.resolved.Use.{Use}
use Rattle.fab_tree.specs.declared.resolved.Right.TheVariants as rights
use Rattle.fab_tree.specs.declared.resolved.Statement.{Statement, roll-Statement}
use Rattle.fab_tree.specs.declared.resolved.Statement.TheOpen as s
use Rattle.fab_tree.specs.declared.resolved.Resolved.{Resolved}
use Rattle.fab_language.specs.declared.ending.Ending.TheVariants.{Ended, Stopped, Missing}
use Rattle.fab_language.specs.Meaning.{Meant, meaning}
use Rattle.fab_language.proofs.Forms.{expression_at, local_means, read_means, assign_means, write_means}
use Rattle.fab_fewer.specs.Fewer.{AreKnown, KnowsTouched, LacksLast, IsOverFewer, less}
use Rattle.fab_laws.proofs.Touches.{none_one, one_first}

-- ---- two roots of one class, which has a number

abbrev root : ℕ → Oid
root n = record { store = 0; class = 0; worker = 65535; boot = 0; number = n; site = 65535; index = 0 }

abbrev holding : ℤ → Object
holding n = record { class = 0; fields = Int n ∷ [] }

abbrev two_roots : FlatMap
two_roots = (root 1, holding (pos 7)) ∷ (root 2, holding (pos 8)) ∷ []

-- ---- `a.f = n; k = b.f;`, where a and b are the two roots

abbrev tid : Tid
tid = record { worker = 3; boot = 1; number = 7 }

abbrev used : ℕ → Use
used n = record { number = n; at = 0 }

abbrev name : Name
name = record { text = codes "x"; at = 0 }

abbrev of : Sort → locals.Local
of sort = record { sort = sort; name = name; label = used 0 }

abbrev a_class : Sort
a_class = sorts.Class (used 0)

abbrev method : List Statement → Method
method body = record {
  name = name;
  parameters = 3;
  locals = of a_class ∷ of (sorts.Number widths.Int) ∷ of a_class ∷ of (sorts.Number widths.Int) ∷ [];
  returns = None;
  begin = used 0;
  fails = false;
  authority = [];
  body = body;
  result = None;
}

abbrev program : List Method → Resolved
program methods = record {
  nodes = [];
  pairs = [];
  labels = [];
  classes = [];
  methods = methods;
  roots = [];
  sessions = [];
  posts = [];
  crashes = [];
  cache = 0;
  schedule = [];
}

abbrev asked : List Value → Request
asked args = record { worker = 3; number = 7; method = 0; args = args }

abbrev local : ℕ → Expression
local x = expression_at 0 (f.Local (used x))

abbrev field : ℕ → ℕ → Expression
field x site = expression_at 0 (f.Read (used x) 0 site)

abbrev two_touched : Resolved
two_touched = program (method (roll-Statement (s.Write (used 0) 0 (local 1) 3) ∷ roll-Statement (s.Assign 3 (rights.Plain (field 2 5)) 0) ∷ []) ∷ [])

abbrev given : List Value
given = Ref (root 1) ∷ Int (pos 5) ∷ Ref (root 2) ∷ []

abbrev one_root : FlatMap
one_root = (root 1, holding (pos 7)) ∷ []

abbrev over_both : Meant
over_both = record {
  ending = Ended None;
  map = (root 1, holding (pos 5)) ∷ (root 2, holding (pos 8)) ∷ [];
  written = root 1 ∷ [];
  made = [];
  touches = (3, root 1) ∷ (5, root 2) ∷ [];
  downs = [];
}

abbrev over_one : Meant
over_one = record {
  ending = Missing 5 (root 2);
  map = (root 1, holding (pos 5)) ∷ [];
  written = root 1 ∷ [];
  made = [];
  touches = (3, root 1) ∷ [];
  downs = [];
}

both : meaning two_touched two_roots (asked given) tid 9 ≡ over_both
both = rw (write_means, local_means, assign_means, read_means) refl

-- over the first alone it ends where the second is read
one : meaning two_touched one_root (asked given) tid 9 ≡ over_one
one = rw (write_means, local_means, assign_means, read_means) refl

-- ---- what is over fewer

first_known : AreKnown one_root ((3, root 1) ∷ [])
first_known = ((holding (pos 7), refl), tt)

second_unknown : AreKnown one_root ((3, root 1) ∷ (5, root 2) ∷ []) → ⊥
second_unknown h = none_one one_root (root 2) refl h.1.0

is_over_fewer : IsOverFewer one_root two_roots over_both over_one
is_over_fewer = record {
  same = λ h e. absurd (second_unknown h);
  ascending = λ h e. absurd (second_unknown h);
  full = λ h e. absurd (second_unknown h);
  lacks = λ before site o after e k z.
      let first = one_first one_root ((3, root 1) ∷ []) before (5, root 2) (site, o) [] after first_known k refl z e in
      record {
        ending = ap (λ (t : ℕ × Oid). Missing t.0 t.1) first.1;
        touches = first.0;
        downs = record { rest = []; is = refl };
      };
}

-- it isn't the whole run,
ended_missing : (v : Option Value) (site : ℕ) (o : Oid) → Ended v ≡ Missing site o → ⊥
ended_missing v site o e = cc

not_the_whole : IsOverFewer one_root two_roots over_both over_both → ⊥
not_the_whole h = ended_missing None 5 (root 2) (h.lacks ((3, root 1) ∷ []) 5 (root 2) [] refl first_known refl).ending

-- nor one that stops too early,
empty_one : (x : ℕ × Oid) → [] ≡ x ∷ [] → ⊥
empty_one x e = cc

not_too_early : IsOverFewer one_root two_roots over_both (record over_one { touches = [] }) → ⊥
not_too_early h = empty_one (3, root 1) (h.lacks ((3, root 1) ∷ []) 5 (root 2) [] refl first_known refl).touches

-- nor is one short where nothing is lacked
not_short : IsOverFewer two_roots two_roots over_both over_one → ⊥
not_short h = ended_missing None 5 (root 2) (sym (h.same ((holding (pos 7), refl), ((holding (pos 8), refl), tt)) (λ e. cc)).ending)

-- a run that was stopped for one touch too many, of an object that is lacked, ends for want of it
abbrev stopped_there : Meant
stopped_there = record over_one { ending = Stopped Reads }

full_and_lacked : LacksLast one_root two_roots stopped_there over_one
full_and_lacked = record {
  site = 5;
  object = root 2;
  unknown = refl;
  there = (holding (pos 8), refl);
  ending = refl;
  touches = refl;
  downs = refl;
  written = refl;
  made = refl;
}

-- without the second root there is the first
without_second : less (root 2) two_roots ≡ one_root
without_second = refl

-- ---- what is known of a run alone

knows_both : KnowsTouched two_roots over_both
knows_both = record { touched = ((holding (pos 7), refl), ((holding (pos 8), refl), tt)); missing = λ site o e. absurd (ended_missing None site o e) }

-- an object that is there isn't missing
not_missing : KnowsTouched two_roots over_one → ⊥
not_missing h = none_one two_roots (root 2) (h.missing 5 (root 2) refl) (holding (pos 8), refl)
