use Rattle.std.proofs.Common.{◌∙◌}
use Rattle.filters.proofs.Parted.{some-is}
use Rattle.filters.proofs.slabs.is_parted_along_some.Goals as goal

pub returns : goal.returns
returns c = c.have_one_sign_along_some.ensures ∙ some-is c.args.test.now.shape _ _ c.args.directions.now c.of.ensures.start c.of.ensures.end
