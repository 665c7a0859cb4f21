-- What is printed for methods, programs and whole bundles is read again.
use Rattle.std.proofs.Common.{Bool, List, [], refl, Option, None}
use Rattle.std.specs.Prelude.{option_map}
use Rattle.fab_base.specs.declared.token.Mark.TheVariants as m
use Rattle.fab_base.specs.declared.token.Token.{Token}
use Rattle.fab_tree.specs.declared.name.Name.{Name}
use Rattle.fab_tree.specs.declared.program.Parameter.{Parameter}
use Rattle.fab_tree.specs.declared.program.Returns.{Returns}
use Rattle.fab_tree.specs.declared.program.Return.{Return}
use Rattle.fab_tree.specs.declared.program.Method.{Method}
use Rattle.fab_tree.specs.declared.program.Program.{Program}
use Rattle.fab_tree.specs.declared.start.Start.{Start}
use Rattle.fab_tree.specs.Lists.{is, name, Perhaps, without, with_it}
use Rattle.fab_tree.specs.Programs.{IsParameter, IsReturns, IsFails, IsAuthority, IsReturn, IsResult, IsMethod, IsProgram}
use Rattle.fab_tree.specs.Programs as p
use Rattle.fab_tree.specs.Syntax.{IsStart, start}
use Rattle.fab_tree.specs.Print.{Inks, ◌>>◌, mark, space, line, line_end}
use Rattle.fab_tree.specs.Print as print
use Rattle.fab_tree.specs.Unplaced as unplaced
use Rattle.fab_print.proofs.Inks.{free, word, Wells, Printed, behind_it, well_name, behind_name}
use Rattle.fab_print.proofs.ListsAgain.{name_again, repeated_again, behind_again, separated_again}
use Rattle.fab_print.proofs.DeclarationsAgain.{node_again, delegation_again, label_again, sort_again, class_again}
use Rattle.fab_print.proofs.ExpressionsAgain.{expression_again}
use Rattle.fab_print.proofs.StatementsAgain.{statement_again}
use Rattle.fab_print.proofs.RunsAgain.{root_again, session_again, post_again, crash_again, cache_again, schedule_again}

parameter_again : (a b : List Token) (x : Parameter) → IsParameter a x b → Wells a → Printed IsParameter unplaced.parameter free word print.parameter x b
parameter_again a b x (p.parameter s q h r) w =
    let sort = sort_again s w in
    let w1 = behind_it h (behind_name q sort.rest) in
    record {
      rest = behind_name r w1;
      clean = λ more c. sort.clean _ ((tt, (tt, well_name q sort.rest, (tt, (tt, tt, (tt, (tt, well_name r w1, c)))))));
      again = λ n more.
          let one = sort.again n _ in
          record { tree = _; reads = p.parameter one.reads (name refl) (is refl) (name refl); same = cc };
      steady = λ i. sort.steady i >> space >> print.name x.name >> space >> mark m.Colon >> space >> print.name x.label;
    }

returns_again : {a b : List Token} {x : Option Returns} → Perhaps m.Returns IsReturns a x b → Wells a → Printed (Perhaps m.Returns IsReturns) (option_map unplaced.returns) free free print.returns x b
returns_again without w = record { rest = w; clean = λ more c. c; again = λ n more. record { tree = None; reads = without; same = refl }; steady = refl }
returns_again (with_it {x} g (p.returns s h r)) w =
    let sort = sort_again s (behind_it g w) in
    let w1 = behind_it h sort.rest in
    record {
      rest = behind_name r w1;
      clean = λ more c. (tt, tt, (tt, sort.clean _ ((tt, (tt, tt, (tt, (tt, well_name r w1, (tt, c))))))));
      again = λ n more.
          let one = sort.again n _ in
          record { tree = _; reads = with_it (is refl) (p.returns one.reads (is refl) (name refl)); same = cc };
      steady = λ i. mark m.Returns >> space >> sort.steady i >> space >> mark m.Colon >> space >> print.name x.label >> space;
    }

fails_again : {a b : List Token} {x : Bool} → IsFails a x b → Wells a → Printed IsFails (λ y. y) word word print.fails x b
fails_again p.safe w = record { rest = w; clean = λ more c. c; again = λ n more. record { tree = _; reads = p.safe; same = refl }; steady = refl }
fails_again (p.fails h) w = record {
  rest = behind_it h w;
  clean = λ more c. (tt, (tt, tt, c));
  again = λ n more. record { tree = _; reads = p.fails (is refl); same = refl };
  steady = refl;
}

authority_again : {a b : List Token} {xs : List Name} → IsAuthority a xs b → Wells a → Printed IsAuthority unplaced.names word word print.authority xs b
authority_again p.nobody w = record { rest = w; clean = λ more c. c; again = λ n more. record { tree = []; reads = p.nobody; same = refl }; steady = refl }
authority_again (p.authority {x = x} h q r) w =
    let w1 = behind_it h w in
    let others = behind_again m.Comma tt name_again r (behind_name q w1) in
    record {
      rest = others.rest;
      clean = λ more c. (tt, (tt, tt, (tt, (tt, well_name q w1, others.clean more c))));
      again = λ n more.
          let rest = others.again n more in
          record { tree = _; reads = p.authority (is refl) (name refl) rest.reads; same = cc };
      steady = λ i. space >> mark m.Authority >> space >> print.name x >> others.steady i;
    }

result_again : {a b : List Token} {x : Option Return} → IsResult a x b → Wells a → Printed IsResult (option_map unplaced.result) free free print.result x b
result_again p.no_result w = record { rest = w; clean = λ more c. c; again = λ n more. record { tree = None; reads = p.no_result; same = refl }; steady = refl }
result_again (p.result (p.return_ h q i)) w =
    let one = expression_again _ _ _ q (behind_it h w) in
    record {
      rest = behind_it i one.rest;
      clean = λ more c. (tt, (tt, tt, (tt, one.clean _ (tt, tt, (tt, c)))));
      again = λ n more.
          let two = one.again n _ in
          record { tree = _; reads = p.result (p.return_ (is refl) two.reads (is refl)); same = cc };
      steady = λ i. line 1 (mark m.Return >> space >> one.steady i >> mark m.Semicolon);
    }

method_again : (a b : List Token) (x : Method) → IsMethod a x b → Wells a → Printed IsMethod unplaced.method free free print.method x b
method_again a b x (p.method h q i r j s k t u v l y z o) w =
    let w1 = behind_it h w in
    let parameters = separated_again m.Comma tt parameter_again r (behind_it i (behind_name q w1)) in
    let returns = returns_again s (behind_it j parameters.rest) in
    let w2 = behind_it k returns.rest in
    let fails = fails_again u (behind_name t w2) in
    let authority = authority_again v fails.rest in
    let body = repeated_again (statement_again 1) y (behind_it l authority.rest) in
    let result = result_again z body.rest in
    record {
      rest = behind_it o result.rest;
      clean = λ more c.
          (tt, tt, (tt, (tt, well_name q w1, (tt, tt, parameters.clean _ ((tt, tt, (tt, returns.clean _ ((tt, tt, (tt, (tt, well_name t w2, fails.clean _ (authority.clean _ ((tt, (tt, tt, (tt, body.clean _ (result.clean _ (tt, tt, (tt, c)))))))))))))))))));
      again = λ n more.
          let r1 = parameters.again n _ in
          let r2 = returns.again n _ in
          let r3 = fails.again n _ in
          let r4 = authority.again n _ in
          let r5 = body.again n _ in
          let r6 = result.again n _ in
          record {
            tree = _;
            reads = p.method (is refl) (name refl) (is refl) r1.reads (is refl) r2.reads (is refl) (name refl) r3.reads r4.reads (is refl) r5.reads r6.reads (is refl);
            same = λ i. record {
              name = unplaced.name x.name;
              parameters = r1.same i;
              returns = r2.same i;
              begin = unplaced.name x.begin;
              fails = r3.same i;
              authority = r4.same i;
              body = r5.same i;
              result = r6.same i;
            };
          };
      steady = λ i.
          line 0 (mark m.Method >> space >> print.name x.name >> print.in_brackets (parameters.steady i) >> space
          >> returns.steady i >> mark m.Begin >> space >> print.name x.begin >> fails.steady i >> authority.steady i >> space
          >> mark m.LeftBrace >> line_end >> body.steady i >> result.steady i >> mark m.RightBrace);
    }

program_again : {a b : List Token} {x : Program} → IsProgram a x b → Wells a → Printed IsProgram unplaced.program free free print.program x b
program_again (p.program q r s t u) w =
    let nodes = repeated_again node_again q w in
    let delegations = repeated_again delegation_again r nodes.rest in
    let labels = repeated_again label_again s delegations.rest in
    let classes = repeated_again class_again t labels.rest in
    let methods = repeated_again method_again u classes.rest in
    record {
      rest = methods.rest;
      clean = λ more c. nodes.clean _ (delegations.clean _ (labels.clean _ (classes.clean _ (methods.clean more c))));
      again = λ n more.
          let r1 = nodes.again n _ in
          let r2 = delegations.again n _ in
          let r3 = labels.again n _ in
          let r4 = classes.again n _ in
          let r5 = methods.again n more in
          record {
            tree = _;
            reads = p.program r1.reads r2.reads r3.reads r4.reads r5.reads;
            same = λ i. record { nodes = r1.same i; delegations = r2.same i; labels = r3.same i; classes = r4.same i; methods = r5.same i };
          };
      steady = λ i. nodes.steady i >> delegations.steady i >> labels.steady i >> classes.steady i >> methods.steady i;
    }

pub start_again : {a b : List Token} {x : Start} → IsStart a x b → Wells a → Printed IsStart unplaced.unplaced free free print.start x b
start_again (start q h i r s t u v y j) w =
    let program = program_again q w in
    let roots = repeated_again root_again r (behind_it i (behind_it h program.rest)) in
    let sessions = repeated_again session_again s roots.rest in
    let posts = repeated_again post_again t sessions.rest in
    let crashes = repeated_again crash_again u posts.rest in
    let cache = cache_again v crashes.rest in
    let schedule = schedule_again y cache.rest in
    record {
      rest = behind_it j schedule.rest;
      clean = λ more c.
          program.clean _ ((tt, tt, (tt, (tt, tt, (tt, roots.clean _ (sessions.clean _ (posts.clean _ (crashes.clean _ (cache.clean _ (schedule.clean _ (tt, tt, (tt, c))))))))))));
      again = λ n more.
          let r1 = program.again n _ in
          let r2 = roots.again n _ in
          let r3 = sessions.again n _ in
          let r4 = posts.again n _ in
          let r5 = crashes.again n _ in
          let r6 = cache.again n _ in
          let r7 = schedule.again n _ in
          record {
            tree = _;
            reads = start r1.reads (is refl) (is refl) r2.reads r3.reads r4.reads r5.reads r6.reads r7.reads (is refl);
            same = λ i. record {
              program = r1.same i;
              roots = r2.same i;
              sessions = r3.same i;
              posts = r4.same i;
              crashes = r5.same i;
              cache = r6.same i;
              schedule = r7.same i;
            };
          };
      steady = λ i.
          program.steady i
          >> line 0 (mark m.Run >> space >> mark m.LeftBrace >> line_end
          >> roots.steady i >> sessions.steady i >> posts.steady i >> crashes.steady i
          >> cache.steady i >> schedule.steady i >> mark m.RightBrace);
    }
