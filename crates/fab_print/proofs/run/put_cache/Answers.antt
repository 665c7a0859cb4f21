use Rattle.std.proofs.Common.{refl}
use Rattle.fab_base.specs.declared.token.Mark.TheVariants as m
use Rattle.fab_tree.specs.Print.{◌>>◌, space, line_end, mark, indent}
use Rattle.fab_print.proofs.Added.{both, word, cached}
use Rattle.fab_print.proofs.run.put_cache.Goals as goal

pub returns-in_ok-extend-2 : goal.returns-in_ok-extend-2
returns-in_ok-extend-2 c = cached c.args.cache c.if-cache-eq0.false (both (word _ (indent 1 >> mark m.Cache >> space) c.in_ok-extend.ensures.ok (λ _. refl)) (both (c.in_ok-put_number.ensures) (word _ (mark m.Semicolon >> line_end) c.in_ok-extend-2.ensures.ok (λ _. refl))))
