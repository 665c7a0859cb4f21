-- What is noted of the names that came so far, and what is declared in two parts of a bundle.
use Rattle.std.specs.Prelude.{ℕ, Bool, List, ◌++◌, filter}
use Rattle.std.specs.Borrow.{Bor}
use Rattle.std.specs.BTreeSet.{BTreeSet}
use Rattle.std.specs.List.{flat_map, list_any}
use Rattle.std.specs.Str.{bytes_eq}
use Rattle.fab_tree.specs.declared.program.Program.{Program}
use Rattle.fab_tree.specs.declared.start.Session.{Session}
use Rattle.fab_tree.specs.declared.start.Start.{Start}
use Rattle.fab_language.specs.declared.rule.Fault.{Fault}
use Rattle.fab_language.specs.Doubled.{repeats, in_class, in_method, is_workers}
use Rattle.fab_language.specs.Names.{node_name, label_name, class_name, method_name}

-- one of the names is this
abbrev pub is_noted : BTreeSet (Bor (List ℕ)) → List ℕ → Bool
is_noted seen q = list_any (λ k. bytes_eq k.now q) seen.keys

-- the names that a program declares twice
abbrev pub in_program : Program → List Fault
in_program p =
    repeats node_name p.nodes ++ repeats label_name p.labels ++ repeats class_name p.classes ++ flat_map in_class p.classes
    ++ repeats method_name p.methods ++ flat_map in_method p.methods

-- the sessions of workers
abbrev pub sessions_of : Start → List Session
sessions_of s = filter (is_workers s) s.sessions
