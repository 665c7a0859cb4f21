use Rattle.std.proofs.Common.{◌≡◌, ℕ, ◌-◌, [], length, sym, ap, ◌∙◌, subst, arith}
use Rattle.fab_base.specs.Tokens.{Lexes}
use Rattle.fab_tree.specs.Print.{canonical, text_of}
use Rattle.fab_tree.specs.Print as print
use Rattle.fab_print.proofs.Inks.{free, tokens}
use Rattle.fab_print.proofs.Pieces.{wells}
use Rattle.fab_print.proofs.Cutting.{cut}
use Rattle.fab_print.proofs.ProgramsAgain.{start_again}
use Rattle.fab_print.proofs.law.print_is_read.Goals as goal

pub returns : goal.returns
returns c text ts s lexes reads =
    let n : ℕ = length (canonical s) in
    let printed = start_again reads (wells lexes) in
    let again = printed.again n [] in
    let front : n - n ≡ 0 = omega arith in
    let cuts : Lexes 0 (canonical s) (tokens n (print.start s [])) =
    subst (λ at. Lexes at (canonical s) (tokens n (print.start s []))) front (cut n free (print.start s []) (printed.clean [] tt) (omega arith)) in
    let other = start_again again.reads (wells cuts) in
    record {
      tokens = tokens n (print.start s []);
      tree = again.tree;
      lexes = cuts;
      reads = again.reads;
      same = again.same;
      stable = ap (λ f. text_of (f [])) (sym other.steady ∙ ap print.start again.same ∙ printed.steady);
    }
