-- The example's filter keeps both laws: its rule is the one of a short direction, the axis z.
use Rattle.std.proofs.Common.{subst}
use Rattle.std.specs.Prelude.{pos, int_lt}
use Rattle.motion.specs.Laws.{Lawful}
use Rattle.motion.specs.Slab.{pairs}
use Rattle.motion.proofs.BoxLaws.{on-z}
use Rattle.motion.proofs.SlabLaws.{below-lawful}
use Rattle.example_filter.specs.Stacked.{stacked_set}

pub stacked-lawful : Lawful stacked_set
stacked-lawful =
    subst Lawful
    (λ i t. pairs (λ v. int_lt (on-z.product v i) (pos 0)) t)
    (below-lawful on-z.way on-z.within)
