use Rattle.filters.proofs.Laned.{products-asked, products-hold, sums-asked, sums-hold, longer-sums-asked, above-is, below-is}
use Rattle.filters.proofs.lanes.Vectors.signs_along.Goals as goal

pub overflow_mul-x : goal.overflow_mul-x
overflow_mul-x c = products-asked c.args.d.x (record { size = c.requires.short.0 }) c.args.self.x c.requires.lanes.x

pub overflow_mul-y : goal.overflow_mul-y
overflow_mul-y c = products-asked c.args.d.y (record { size = c.requires.short.1 }) c.args.self.y c.requires.lanes.y

pub overflow_mul-z : goal.overflow_mul-z
overflow_mul-z c = products-asked c.args.d.z (record { size = c.requires.short.2 }) c.args.self.z c.requires.lanes.z

pub overflow_add-products : goal.overflow_add-products
overflow_add-products c =
    sums-asked _ _
    (products-hold c.args.d.x (record { size = c.requires.short.0 }) c.args.self.x c.requires.lanes.x)
    (products-hold c.args.d.y (record { size = c.requires.short.1 }) c.args.self.y c.requires.lanes.y)

pub overflow_add-products-2 : goal.overflow_add-products-2
overflow_add-products-2 c =
    longer-sums-asked _ _
    (sums-hold _ _
    (products-hold c.args.d.x (record { size = c.requires.short.0 }) c.args.self.x c.requires.lanes.x)
    (products-hold c.args.d.y (record { size = c.requires.short.1 }) c.args.self.y c.requires.lanes.y))
    (products-hold c.args.d.z (record { size = c.requires.short.2 }) c.args.self.z c.requires.lanes.z)

pub returns-clause-above : goal.returns-clause-above
returns-clause-above c = above-is c.args.d c.requires.short c.args.self c.requires.lanes

pub returns-clause-below : goal.returns-clause-below
returns-clause-below c = below-is c.args.d c.requires.short c.args.self c.requires.lanes
