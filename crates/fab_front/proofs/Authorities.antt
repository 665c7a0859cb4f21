-- A bundle within the limits whose names are right gives its methods the authority of principals that there are.
use Rattle.std.proofs.Common.{◌≡◌, ℕ, ◌<◌, ◌≤◌, List, [], ◌∷◌, ◌++◌, length, None, All, sym, subst, arith}
use Rattle.std.specs.List.{flat_map}
use Rattle.std.proofs.lemmas.List.Elements.{All-nil, All-cons, All-map, All-weaker}
use Rattle.fab_base.proofs.Lists.{left_nil, right_nil}
use Rattle.fab_tree.specs.declared.name.Name.{Name}
use Rattle.fab_tree.specs.declared.program.Method.{Method}
use Rattle.fab_tree.specs.declared.start.Start.{Start}
use Rattle.fab_tree.specs.declared.resolved.Method.{Method as NumberedMethod}
use Rattle.fab_tree.specs.declared.resolved.Resolved.{Resolved}
use Rattle.fab_tree.specs.Limits.{first_passed}
use Rattle.fab_language.specs.Heads.{heads_of}
use Rattle.fab_language.specs.Names.{node_name}
use Rattle.fab_language.specs.Uses.{principal_use}
use Rattle.fab_language.specs.Unknown.{in_principal, in_delegation, in_label_text, in_class, in_label, in_parameter, in_returns, in_heading, in_head, in_method, in_root, in_session, in_post, in_crash, in_event, unknown}
use Rattle.fab_language.specs.Doubled.{doubled}
use Rattle.fab_language.specs.Roles.{misplaced}
use Rattle.fab_language.specs.Arity.{miscounted}
use Rattle.fab_language.specs.Types.{mistyped}
use Rattle.fab_language.specs.Faults.{faults}
use Rattle.fab_language.specs.MethodNumbers.{method_of, methods_of}
use Rattle.fab_language.specs.Numbers.{resolved}
use Rattle.fab_language.proofs.Named.{number_below}
use Rattle.fab_flows.proofs.Declared.{each_nil, few_principals, first_of}
use Rattle.fab_flows.specs.Numbers.{HasPrincipals}
use Rattle.fab_authority.specs.Authority.{HasFew}

-- the authority of a method with numbers
abbrev IsGiven : NumberedMethod → Type 0
IsGiven m = All (λ x. x.number < 64) m.authority

-- the fourth of nine lists that are empty together
fourth : {A : Type 0} (a b c d e f g h i : List A) → a ++ b ++ c ++ d ++ e ++ f ++ g ++ h ++ i ≡ [] → d ≡ []
fourth a b c d e f g h i all =
    right_nil (a ++ b ++ c) d (left_nil (a ++ b ++ c ++ d) e (left_nil (a ++ b ++ c ++ d ++ e) f
    (left_nil (a ++ b ++ c ++ d ++ e ++ f) g (left_nil (a ++ b ++ c ++ d ++ e ++ f ++ g) h (left_nil (a ++ b ++ c ++ d ++ e ++ f ++ g ++ h) i all)))))

module _ (s : Start) (few : length s.program.nodes ≤ 64) where
  principal_below : (x : Name) → in_principal s x ≡ [] → (principal_use s x).number < 64
  principal_below x e = let below = number_below node_name s.program.nodes x e in omega (arith, below, few)

  method_given : (m : Method) (n : ℕ) → in_method s m ≡ [] → IsGiven (method_of s m n).0
  method_given m n e =
      let heading = left_nil (in_heading s m) (flat_map (λ h. in_head s h.0 h.1) (heads_of m)) e in
      let names = right_nil (flat_map (in_parameter s) m.parameters ++ in_returns s m.returns ++ in_label s m.begin) (flat_map (in_principal s) m.authority) heading in
      All-map (λ x. x.number < 64) (principal_use s) m.authority
      (All-weaker (λ x. in_principal s x ≡ []) (λ x. (principal_use s x).number < 64) principal_below m.authority (each_nil (in_principal s) m.authority names))

  methods_given : (ms : List Method) (n : ℕ) → flat_map (in_method s) ms ≡ [] → All IsGiven (methods_of s ms n).0
  methods_given [] n e = All-nil IsGiven
  methods_given (m ∷ ms) n e =
      All-cons IsGiven (method_of s m n).0 (methods_of s ms (method_of s m n).1).0
      (method_given m n (left_nil (in_method s m) (flat_map (in_method s) ms) e))
      (methods_given ms (method_of s m n).1 (right_nil (in_method s m) (flat_map (in_method s) ms) e))

methods_declared : (s : Start) → faults s ≡ [] → flat_map (in_method s) s.program.methods ≡ []
methods_declared s e =
    fourth (flat_map (in_delegation s) s.program.delegations) (flat_map (in_label_text s) s.program.labels) (flat_map (in_class s) s.program.classes) (flat_map (in_method s) s.program.methods)
    (flat_map (in_root s) s.roots) (flat_map (in_session s) s.sessions) (flat_map (in_post s) s.posts) (flat_map (in_crash s) s.crashes) (flat_map (in_event s) s.schedule)
    (first_of (unknown s) (doubled s) (misplaced s) (miscounted s) (mistyped s) e)

pub has_few : (s : Start) (r : Resolved) → first_passed s ≡ None → faults s ≡ [] → HasPrincipals r → r ≡ resolved s → HasFew r
has_few s r within right has is = record {
  principals = has.few;
  authority = subst (λ (x : Resolved). All IsGiven x.methods) (sym is) (methods_given s (few_principals s within) s.program.methods 0 (methods_declared s right));
}
