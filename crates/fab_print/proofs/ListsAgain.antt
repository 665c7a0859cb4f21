-- What is printed for names and lists is read again.
use Rattle.std.proofs.Common.{List, [], ◌∷◌, map, refl}
use Rattle.fab_base.specs.declared.token.Mark.{Mark}
use Rattle.fab_base.specs.declared.token.Mark.TheVariants as m
use Rattle.fab_base.specs.declared.token.Kind.TheVariants as k
use Rattle.fab_base.specs.declared.token.Token.{Token}
use Rattle.fab_tree.specs.declared.name.Name.{Name}
use Rattle.fab_tree.specs.Lists.{is, IsName, name, Repeated, no_more, one_more, Separated, none, some, Behind, behind}
use Rattle.fab_tree.specs.Print.{Ink, token, blank, Inks, ◌>>◌}
use Rattle.fab_tree.specs.Print as print
use Rattle.fab_tree.specs.Unplaced as unplaced
use Rattle.fab_print.proofs.Inks.{free, word, Wells, Holds, Printed, fits, freed, behind_it, well_name, behind_name}

pub name_again : (a b : List Token) (x : Name) → IsName a x b → Wells a → Printed IsName unplaced.name free word print.name x b
name_again a b x p w = record {
  rest = behind_name p w;
  clean = λ more c. (tt, well_name p w, c);
  again = λ n more. record { tree = _; reads = name refl; same = refl };
  steady = refl;
}

-- a list without a mark between
module _ {A : Type 0} {P : List Token → A → List Token → Type 0} {f : A → A} {g : A → Inks} (each : (a b : List Token) (t : A) → P a t b → Wells a → Printed P f free free g t b) where
  pub repeated_again : {a b : List Token} {ts : List A} → Repeated P a ts b → Wells a → Printed (Repeated P) (map f) free free (λ xs. print.all (map g xs)) ts b
  repeated_again no_more w = record { rest = w; clean = λ more c. c; again = λ n more. record { tree = []; reads = no_more; same = refl }; steady = refl }
  repeated_again (one_more p ps) w =
      let one = each _ _ _ p w in
      let others = repeated_again ps one.rest in
      record {
        rest = others.rest;
        clean = λ more c. one.clean _ (others.clean more c);
        again = λ n more.
            let first = one.again n _ in
            let rest = others.again n more in
            record { tree = first.tree ∷ rest.tree; reads = one_more first.reads rest.reads; same = cc };
        steady = λ i. one.steady i >> others.steady i;
      }

-- a list with a mark between
module _ {A : Type 0} {P : List Token → A → List Token → Type 0} {f : A → A} {g : A → Inks} (mark : Mark) (soft : Holds (fits word (k.Fixed mark))) (each : (a b : List Token) (t : A) → P a t b → Wells a → Printed P f free word g t b) where
  pub behind_again : {a b : List Token} {ts : List A} → Repeated (Behind mark P) a ts b → Wells a → Printed (Repeated (Behind mark P)) (map f) word word (λ xs. print.each_behind mark (map g xs)) ts b
  behind_again no_more w = record { rest = w; clean = λ more c. c; again = λ n more. record { tree = []; reads = no_more; same = refl }; steady = refl }
  behind_again (one_more (behind h p) ps) w =
      let one = each _ _ _ p (behind_it h w) in
      let others = behind_again ps one.rest in
      record {
        rest = others.rest;
        clean = λ more c. (soft, tt, (tt, one.clean _ (others.clean more c)));
        again = λ n more.
            let first = one.again n _ in
            let rest = others.again n more in
            record { tree = first.tree ∷ rest.tree; reads = one_more (behind (is refl) first.reads) rest.reads; same = cc };
        steady = λ i. print.mark mark >> print.space >> one.steady i >> others.steady i;
      }

  pub separated_again : {a b : List Token} {ts : List A} → Separated mark P a ts b → Wells a → Printed (Separated mark P) (map f) free word (λ xs. print.separated mark (map g xs)) ts b
  separated_again none w = record { rest = w; clean = λ more c. freed word more c; again = λ n more. record { tree = []; reads = none; same = refl }; steady = refl }
  separated_again (some p ps) w =
      let one = each _ _ _ p w in
      let others = behind_again ps one.rest in
      record {
        rest = others.rest;
        clean = λ more c. one.clean _ (others.clean more c);
        again = λ n more.
            let first = one.again n _ in
            let rest = others.again n more in
            record { tree = first.tree ∷ rest.tree; reads = some first.reads rest.reads; same = cc };
        steady = λ i. one.steady i >> others.steady i;
      }

-- names behind a space, where there are any
pub names_again : {a b : List Token} {xs : List Name} → Separated m.Comma IsName a xs b → Wells a → Printed (Separated m.Comma IsName) unplaced.names word word print.spaced_names xs b
names_again none w = record { rest = w; clean = λ more c. c; again = λ n more. record { tree = []; reads = none; same = refl }; steady = refl }
names_again (some {x} p ps) w =
    let others = behind_again m.Comma tt name_again ps (behind_name p w) in
    record {
      rest = others.rest;
      clean = λ more c. (tt, (tt, well_name p w, others.clean more c));
      again = λ n more.
          let rest = others.again n more in
          record { tree = _; reads = some (name refl) rest.reads; same = cc };
      steady = λ i. print.space >> print.name x >> others.steady i;
    }
