use Rattle.fab_left.proofs.Stacks.{deeds_push, call_enters, call_gives, call_ends}
use Rattle.fab_left.proofs.laws.deeds_are_put_behind.Goals as goal

pub returns : goal.returns
returns c = record {
  here = λ m p s ss t ks d h. deeds_push m p s ss t ks d h;
  calls = λ m p s ss t ks number args target callee locals e. call_enters m p s ss t ks number args target callee locals e;
  at_once = λ m p s ss t ks number args target v u e. call_gives m p s ss t ks number args target v u e;
  at_end = λ m p s ss t ks number args target e u i. call_ends m p s ss t ks number args target e u i;
}
