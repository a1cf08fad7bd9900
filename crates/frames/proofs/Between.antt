-- Two frames that do not differ: the step between them.
use Rattle.std.proofs.Common.{◌≡◌, List, [], ◌∷◌, length, None, refl, arith}
use Rattle.std.specs.List.{All}
use Rattle.std.proofs.lemmas.Bool.Decides.{nat_tests}
use Rattle.std.proofs.lemmas.List.Elements.{All-head, All-tail}
use Rattle.sheet.specs.IsSheet.{IsResting}
use Rattle.sheet.specs.declared.drafts.Draft.{Draft}
use Rattle.sheet.specs.declared.rows.Face.{Face}
use Rattle.sheet.specs.declared.rows.Point.{Point}
use Rattle.frames.specs.Comparing.{difference_of, ending_at}
use Rattle.step.specs.Steps.{OtherEnds}

-- they have as many points
pub same_count : (d e : Draft) (fs gs : List Face) → difference_of d fs e gs ≡ None → d.points ≡ e.points
same_count d e fs gs h = grind (arith, nat_tests)

-- the ends are in range
pub ends_between : (ps qs : List Point) → length ps ≡ length qs → All IsResting qs → OtherEnds ps (ending_at ps qs)
ends_between [] qs l h = tt
ends_between (p ∷ ps) [] l h = absurd (omega arith)
ends_between (p ∷ ps) (q ∷ qs) l h = (refl, (All-head IsResting q qs h).in_range, ends_between ps qs (omega arith) (All-tail IsResting q qs h))
