use Rattle.std.proofs.Common.{ap, ◌∙◌}
use Rattle.filters.specs.inner.Boxes.{coordinate}
use Rattle.filters.specs.inner.Spans.{sides, parted}
use Rattle.filters.proofs.Extents.{parted-is}
use Rattle.filters.proofs.boxes.Axis.separates.Goals as goal

pub returns : goal.returns
returns c =
    let t = c.args.t in
    c.are_parted.ensures
    ∙ ap parted (c.new.ensures ∙ (λ i. sides t.kind (c.sweep-p.ensures i) (c.sweep-a.ensures i) (c.sweep-b.ensures i) (c.sweep-c.ensures i)))
    ∙ parted-is (coordinate c.args.self) t.kind t.p t.a t.b t.c
