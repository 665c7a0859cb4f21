-- What a whole bundle owes under other numbers for the labels of its locals.
use Rattle.std.proofs.Common.{◌≡◌, ℕ, Bool, true, false, if◌then◌else◌, List, [], ◌∷◌, ◌++◌, map, length, Option, Some, None, refl, sym, subst}
use Rattle.std.specs.Prelude.{slice_get}
use Rattle.std.specs.List.{AllByRecursion, flat_map, range_with_len}
use Rattle.fab_base.proofs.Lists.{all_split, at_index}
use Rattle.fab_tree.specs.declared.resolved.Class.{Class}
use Rattle.fab_tree.specs.declared.resolved.Statement.{Statement}
use Rattle.fab_tree.specs.declared.resolved.Local.{Local}
use Rattle.fab_tree.specs.declared.resolved.Method.{Method}
use Rattle.fab_tree.specs.declared.resolved.Returns.{Returns}
use Rattle.fab_tree.specs.declared.resolved.Return.{Return}
use Rattle.fab_tree.specs.declared.resolved.Asked.{Asked}
use Rattle.fab_tree.specs.declared.resolved.Session.{Session}
use Rattle.fab_tree.specs.declared.resolved.Resolved.{Resolved}
use Rattle.fab_labelling.specs.declared.rule.LabelRule.TheVariants.{Write}
use Rattle.fab_labelling.specs.Obligations as ob
use Rattle.fab_labelling.specs.Obligations.{Claim, Owed, all_flow, part, label_of_returns, method_owes, return_owes, block_owes, failure_of, authority_of, root_owes, request_owes, session_owes, owed}
use Rattle.fab_laws.proofs.Values.{all_map}
use Rattle.fab_shapes.proofs.Lists.{of_all}
use Rattle.fab_holes.specs.Open.{renamed_claim, renamed_method, renamed}
use Rattle.fab_views.proofs.Labels.{labels_in, labels_in_block}
use Rattle.fab_holes.proofs.Renaming.{Both, none_both, join, Like, like_map, like_part, both_kept, IsFixed, HeadKept, expressions, statements, each_of}

-- the labels of a method's head, and those that its statements name, keep their numbers
pub record MethodStays (f : ℕ → ℕ) (m : Method) : Type 0 where
  pub begin : f m.begin.number ≡ m.begin.number
  pub returns : AllByRecursion (λ l. f l ≡ l) (label_of_returns m.returns)
  pub body : AllByRecursion (λ l. f l ≡ l) (labels_in_block m.body)

-- so do these of each method, and those of classes
pub record Stays (f : ℕ → ℕ) (r : Resolved) : Type 0 where
  pub classes : AllByRecursion (λ (c : Class). f c.label.number ≡ c.label.number) r.classes
  pub methods : AllByRecursion (MethodStays f) r.methods

module _ (f : ℕ → ℕ) (P : Claim → Type 0) where
  abbrev Same : Owed → Type 0
  Same x = renamed_claim f x.claim ≡ x.claim

  -- claims without labels of locals
  both_same : (xs : List Owed) → AllByRecursion Same xs → Both f P xs xs
  both_same [] h = none_both f P
  both_same (x ∷ xs) h =
      let rest = both_same xs h.1 in
      record { to = λ all. (subst P h.0 all.0, rest.to all.1); back = λ all. (subst P (sym h.0) all.0, rest.back all.1) }

  module _ (r : Resolved) (stays : Stays f r) where
    abbrev renewed : List Method
    renewed = map (renamed_method f) r.methods

    kept : (i : ℕ) (c : Class) → slice_get r.classes i ≡ Some c → f c.label.number ≡ c.label.number
    kept i c e = at_index (λ (x : Class). f x.label.number ≡ x.label.number) r.classes i c stays.classes e

    head_kept : (m : Method) → MethodStays f m → HeadKept f P m
    head_kept m h = record { begin = h.begin; returns = λ l i. each_of (λ k. f k ≡ k) (label_of_returns m.returns) l h.returns i }

    heads : (i : ℕ) (m : Method) → slice_get r.methods i ≡ Some m → HeadKept f P m
    heads i m e = head_kept m (at_index (MethodStays f) r.methods i m stays.methods e)

    module _ (m : Method) where
      abbrev there : List Local
      there = (renamed_method f m).locals

      both_block : (xs : List Statement) → AllByRecursion (λ l. f l ≡ l) (labels_in_block xs) → (pc qc : List ℕ) (failure : Option ℕ) → IsFixed f P failure → Like f P pc qc
          → Both f P (block_owes r.classes r.methods m.locals (authority_of m) xs pc failure) (block_owes r.classes renewed there (authority_of m) xs qc failure)
      both_block [] g pc qc failure i like = none_both f P
      both_block (x ∷ xs) g pc qc failure i like =
          let t = all_split (λ l. f l ≡ l) (labels_in x) (labels_in_block xs) g in
          join f P (ob.statement_owes r.classes r.methods m.locals (authority_of m) x pc failure) (ob.statement_owes r.classes renewed there (authority_of m) x qc failure)
          (block_owes r.classes r.methods m.locals (authority_of m) xs pc failure) (block_owes r.classes renewed there (authority_of m) xs qc failure)
          ((statements f P r.classes kept m.locals r.methods (authority_of m) heads x).by t.0 pc qc failure i like)
          (both_block xs t.1 pc qc failure i like)

      both_taken : (at : ℕ) (pc qc : List ℕ) (x : Option Returns) → AllByRecursion (λ l. f l ≡ l) (label_of_returns x) → Like f P pc qc
          → Both f P (ob.to_each (all_flow Write at pc) (label_of_returns x)) (ob.to_each (all_flow Write at qc) (label_of_returns x))
      both_taken at pc qc None h like = none_both f P
      both_taken at pc qc (Some x) h like =
          join f P (all_flow Write at pc x.label.number) (all_flow Write at qc x.label.number) [] [] (both_kept f P Write at pc qc x.label.number h.0 like) (none_both f P)

      both_return : (returns : Option Returns) (x : Option Return) → AllByRecursion (λ l. f l ≡ l) (label_of_returns returns) → (pc qc : List ℕ) (failure : Option ℕ) → IsFixed f P failure → Like f P pc qc
          → Both f P (return_owes r.classes r.methods m.locals (authority_of m) returns x pc failure) (return_owes r.classes renewed there (authority_of m) returns x qc failure)
      both_return returns None h pc qc failure i like = none_both f P
      both_return returns (Some x) h pc qc failure i like =
          let p = part r.classes m.locals x.value in
          let q = part r.classes there x.value in
          let e = expressions f P r.classes kept m.locals x.value in
          join f P (p.owes pc failure) (q.owes qc failure) (ob.to_each (all_flow Write x.at (pc ++ p.labels)) (label_of_returns returns)) (ob.to_each (all_flow Write x.at (qc ++ q.labels)) (label_of_returns returns))
          (e.owes pc qc failure i like)
          (both_taken x.at (pc ++ p.labels) (qc ++ q.labels) returns h (like_part f P r.classes kept m.locals pc qc p q e.labels like))

      fixed_failure : (b : Bool) → f m.begin.number ≡ m.begin.number → IsFixed f P (if b then Some m.begin.number else None)
      fixed_failure true e = e
      fixed_failure false e = tt

      both_method : MethodStays f m → Both f P (method_owes r.classes r.methods m) (method_owes r.classes renewed (renamed_method f m))
      both_method h =
          let pc = m.begin.number ∷ [] in
          let i = fixed_failure m.fails h.begin in
          let like : Like f P pc pc = subst (λ l. Like f P pc (l ∷ [])) h.begin (like_map f P pc) in
          join f P (block_owes r.classes r.methods m.locals (authority_of m) m.body pc (failure_of m)) (block_owes r.classes renewed there (authority_of m) m.body pc (failure_of m))
          (return_owes r.classes r.methods m.locals (authority_of m) m.returns m.result pc (failure_of m)) (return_owes r.classes renewed there (authority_of m) m.returns m.result pc (failure_of m))
          (both_block m.body h.body pc pc (failure_of m) i like)
          (both_return m.returns m.result h.returns pc pc (failure_of m) i like)

    both_methods : (ms : List Method) → AllByRecursion (MethodStays f) ms → Both f P (flat_map (method_owes r.classes r.methods) ms) (flat_map (method_owes r.classes renewed) (map (renamed_method f) ms))
    both_methods [] h = none_both f P
    both_methods (m ∷ ms) h =
        join f P (method_owes r.classes r.methods m) (method_owes r.classes renewed (renamed_method f m))
        (flat_map (method_owes r.classes r.methods) ms) (flat_map (method_owes r.classes renewed) (map (renamed_method f) ms))
        (both_method m h.0) (both_methods ms h.1)

    same_session : (n : ℕ) (x : Session) → AllByRecursion Same (session_owes n x)
    same_session n x = of_all Same (request_owes n) x.requests (λ (y : Asked). all_map Same (λ p. ob.owe _ y.at _) (range_with_len 0 n) (λ p. refl))

    -- for every claim that is to hold: of the one bundle all hold, under the other numbers, exactly where all of the other do
    pub whole : Both f P (owed r) (owed (renamed f r))
    whole =
        let roots = map root_owes r.roots in
        let sessions = flat_map (session_owes (length r.nodes)) r.sessions in
        join f P (flat_map (method_owes r.classes r.methods) r.methods ++ roots) (flat_map (method_owes r.classes renewed) renewed ++ roots) sessions sessions
        (join f P (flat_map (method_owes r.classes r.methods) r.methods) (flat_map (method_owes r.classes renewed) renewed) roots roots
        (both_methods r.methods stays.methods) (both_same roots (all_map Same root_owes r.roots (λ x. refl))))
        (both_same sessions (of_all Same (session_owes (length r.nodes)) r.sessions (same_session (length r.nodes))))
