-- What is printed for declarations is read again.
use Rattle.std.proofs.Common.{List, refl}
use Rattle.fab_base.specs.declared.object.Width.TheVariants as widths
use Rattle.fab_base.specs.declared.token.Mark.TheVariants as m
use Rattle.fab_base.specs.declared.token.Token.{Token}
use Rattle.fab_tree.specs.declared.declaration.Role.{Role}
use Rattle.fab_tree.specs.declared.declaration.Node.{Node}
use Rattle.fab_tree.specs.declared.declaration.Delegation.{Delegation}
use Rattle.fab_tree.specs.declared.declaration.Aspect.{Aspect}
use Rattle.fab_tree.specs.declared.declaration.PolicyText.{PolicyText}
use Rattle.fab_tree.specs.declared.declaration.LabelText.{LabelText}
use Rattle.fab_tree.specs.declared.declaration.Sort.{Sort}
use Rattle.fab_tree.specs.declared.declaration.Field.{Field}
use Rattle.fab_tree.specs.declared.declaration.Class.{Class}
use Rattle.fab_tree.specs.Lists.{is, name}
use Rattle.fab_tree.specs.Declarations.{IsMachine, IsRole, IsNode, IsDelegation, IsAspect, IsPolicy, IsLabel, IsSort, IsField, IsClass}
use Rattle.fab_tree.specs.Declarations as d
use Rattle.fab_tree.specs.Print.{Inks, ◌>>◌, mark, space, line}
use Rattle.fab_tree.specs.Print as print
use Rattle.fab_tree.specs.Unplaced as unplaced
use Rattle.fab_print.proofs.Inks.{free, word, Wells, Printed, freed, behind_it, well_name, behind_name}
use Rattle.fab_print.proofs.ListsAgain.{repeated_again, separated_again, names_again}

pub role_again : {a b : List Token} {x : Role} → IsRole a x b → Wells a → Printed IsRole (λ y. y) free word print.role x b
role_again (d.principal h) w = record {
  rest = behind_it h w;
  clean = λ more c. (tt, tt, c);
  again = λ n more. record { tree = _; reads = d.principal (is refl); same = refl };
  steady = refl;
}
role_again (d.honest (d.worker h)) w = record {
  rest = behind_it h w;
  clean = λ more c. (tt, tt, c);
  again = λ n more. record { tree = _; reads = d.honest (d.worker (is refl)); same = refl };
  steady = refl;
}
role_again (d.honest (d.store h)) w = record {
  rest = behind_it h w;
  clean = λ more c. (tt, tt, c);
  again = λ n more. record { tree = _; reads = d.honest (d.store (is refl)); same = refl };
  steady = refl;
}
role_again (d.hostile i (d.worker h)) w = record {
  rest = behind_it h (behind_it i w);
  clean = λ more c. (tt, tt, (tt, (tt, tt, c)));
  again = λ n more. record { tree = _; reads = d.hostile (is refl) (d.worker (is refl)); same = refl };
  steady = refl;
}
role_again (d.hostile i (d.store h)) w = record {
  rest = behind_it h (behind_it i w);
  clean = λ more c. (tt, tt, (tt, (tt, tt, c)));
  again = λ n more. record { tree = _; reads = d.hostile (is refl) (d.store (is refl)); same = refl };
  steady = refl;
}

pub node_again : (a b : List Token) (x : Node) → IsNode a x b → Wells a → Printed IsNode unplaced.node free free print.node x b
node_again a b x (d.node p q h) w =
    let role = role_again p w in
    record {
      rest = behind_it h (behind_name q role.rest);
      clean = λ more c. role.clean _ ((tt, (tt, well_name q role.rest, (tt, tt, (tt, c)))));
      again = λ n more.
          let r = role.again n _ in
          record { tree = _; reads = d.node r.reads (name refl) (is refl); same = cc };
      steady = refl;
    }

pub delegation_again : (a b : List Token) (x : Delegation) → IsDelegation a x b → Wells a → Printed IsDelegation unplaced.delegation free free print.delegation x b
delegation_again a b x (d.delegation p h q i) w =
    let w1 = behind_it h (behind_name p w) in
    record {
      rest = behind_it i (behind_name q w1);
      clean = λ more c. (tt, well_name p w, (tt, (tt, tt, (tt, (tt, well_name q w1, (tt, tt, (tt, c)))))));
      again = λ n more. record { tree = _; reads = d.delegation (name refl) (is refl) (name refl) (is refl); same = refl };
      steady = refl;
    }

pub aspect_again : {a b : List Token} {x : Aspect} → IsAspect a x b → Wells a → Printed IsAspect (λ y. y) free free print.aspect x b
aspect_again (d.readers h) w = record {
  rest = behind_it h w;
  clean = λ more c. (tt, tt, c);
  again = λ n more. record { tree = _; reads = d.readers (is refl); same = refl };
  steady = refl;
}
aspect_again (d.writers h) w = record {
  rest = behind_it h w;
  clean = λ more c. (tt, tt, c);
  again = λ n more. record { tree = _; reads = d.writers (is refl); same = refl };
  steady = refl;
}

pub policy_again : (a b : List Token) (x : PolicyText) → IsPolicy a x b → Wells a → Printed IsPolicy unplaced.policy free word print.policy x b
policy_again a b x (d.policy p q r) w =
    let aspect = aspect_again q (behind_name p w) in
    let others = names_again r aspect.rest in
    record {
      rest = others.rest;
      clean = λ more c. (tt, well_name p w, (tt, aspect.clean _ (freed word (print.spaced_names x.others more) (others.clean more c))));
      again = λ n more.
          let one = aspect.again n _ in
          let two = others.again n more in
          record { tree = _; reads = d.policy (name refl) one.reads two.reads; same = cc };
      steady = λ i. print.name x.owner >> space >> print.aspect x.aspect >> others.steady i;
    }

pub label_again : (a b : List Token) (x : LabelText) → IsLabel a x b → Wells a → Printed IsLabel unplaced.label free free print.label x b
label_again a b x (d.label h p i j q k l) w =
    let w1 = behind_it h w in
    let policies = separated_again m.Semicolon tt policy_again q (behind_it j (behind_it i (behind_name p w1))) in
    record {
      rest = behind_it l (behind_it k policies.rest);
      clean = λ more c. (tt, tt, (tt, (tt, well_name p w1, (tt, (tt, tt, (tt, (tt, tt, policies.clean _ ((tt, tt, (tt, tt, (tt, c)))))))))));
      again = λ n more.
          let one = policies.again n _ in
          record { tree = _; reads = d.label (is refl) (name refl) (is refl) (is refl) one.reads (is refl) (is refl); same = cc };
      steady = λ i.
          line 0 (mark m.Label >> space >> print.name x.name >> space >> mark m.Equal >> space
          >> mark m.LeftBrace >> policies.steady i >> mark m.RightBrace >> mark m.Semicolon);
    }

pub sort_again : {a b : List Token} {x : Sort} → IsSort a x b → Wells a → Printed IsSort unplaced.sort free word print.sort x b
sort_again (d.number {w = widths.Int} h) w = record {
  rest = behind_it h w;
  clean = λ more c. (tt, tt, c);
  again = λ n more. record { tree = _; reads = d.number {w = widths.Int} (is refl); same = refl };
  steady = refl;
}
sort_again (d.class p) w = record {
  rest = behind_name p w;
  clean = λ more c. (tt, well_name p w, c);
  again = λ n more. record { tree = _; reads = d.class (name refl); same = refl };
  steady = refl;
}

pub field_again : (a b : List Token) (x : Field) → IsField a x b → Wells a → Printed IsField unplaced.field free free print.field x b
field_again a b x (d.field p q h) w =
    let sort = sort_again p w in
    record {
      rest = behind_it h (behind_name q sort.rest);
      clean = λ more c. sort.clean _ ((tt, (tt, well_name q sort.rest, (tt, tt, (tt, c)))));
      again = λ n more.
          let one = sort.again n _ in
          record { tree = _; reads = d.field one.reads (name refl) (is refl); same = cc };
      steady = λ i. sort.steady i >> space >> print.name x.name >> mark m.Semicolon >> space;
    }

pub class_again : (a b : List Token) (x : Class) → IsClass a x b → Wells a → Printed IsClass unplaced.class free free print.class x b
class_again a b x (d.class h p i q j r k s l) w =
    let w1 = behind_it h w in
    let w2 = behind_it i (behind_name p w1) in
    let w3 = behind_it j (behind_name q w2) in
    let fields = repeated_again field_again s (behind_it k (behind_name r w3)) in
    record {
      rest = behind_it l fields.rest;
      clean = λ more c.
          (tt, tt, (tt, (tt, well_name p w1, (tt, (tt, tt, (tt, (tt, well_name q w2, (tt, (tt, tt, (tt, (tt, well_name r w3, (tt, (tt, tt, (tt, fields.clean _ (tt, tt, (tt, c))))))))))))))));
      again = λ n more.
          let one = fields.again n _ in
          record { tree = _; reads = d.class (is refl) (name refl) (is refl) (name refl) (is refl) (name refl) (is refl) one.reads (is refl); same = cc };
      steady = λ i.
          line 0 (mark m.Class >> space >> print.name x.name >> space >> mark m.Label >> space >> print.name x.label >> space
          >> mark m.Access >> space >> print.name x.access >> space
          >> mark m.LeftBrace >> space >> fields.steady i >> mark m.RightBrace);
    }
