use Rattle.std.proofs.Common.{refl}
use Rattle.fab_left.proofs.Split.{plain_enters, plain_none, erased_enters, erased_none, erased_skips, erased_deep, erased_deep_none}
use Rattle.fab_left.proofs.laws.calls_enter.Goals as goal

pub returns : goal.returns
returns c = record {
  plain = λ program tid caller method depth number args t e. plain_enters program tid caller method depth number args e t;
  erased = λ sees shows program tid caller method depth number args t e k. erased_enters program tid caller method depth number args sees shows e k t;
  skipped = λ sees shows program tid p method number args t e k. erased_skips program tid p.method method 0 number args sees shows p.depth e k t;
  none = λ program tid caller depth number args t e. plain_none program tid caller caller depth number args e t;
  none_erased = λ sees shows program tid caller depth number args t e. erased_none program tid caller caller depth number args sees shows e t;
  deep = λ program tid caller number args t. refl;
  deep_erased = λ sees shows program tid caller method number args t e k. erased_deep program tid caller method 0 number args sees shows e k t;
  deep_none = λ sees shows program tid caller number args t e. erased_deep_none program tid caller caller 0 number args sees shows e t;
}
