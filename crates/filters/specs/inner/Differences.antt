-- By how much the points of a test's two features differ, and a direction's products with that.
use Rattle.std.specs.Prelude.{Bool, ◌&&◌, ◌||◌, List, [], ◌∷◌}
use Rattle.std.specs.List.{list_all}
use Rattle.motion.specs.declared.shapes.V3.{V3}
use Rattle.motion.specs.declared.shapes.Kind.{Kind}
use Rattle.motion.specs.declared.shapes.Kind.TheVariants.{Vf, Ee}
use Rattle.motion.specs.declared.shapes.Shape.{Shape}
use Rattle.motion.specs.Vectors.{◌-ᵛ◌}
use Rattle.motion.specs.Slab.{above, below}

-- each point of the first feature less each of the second
-- where there are three such pairs the last stands twice
abbrev pub differences : Kind → V3 → V3 → V3 → V3 → List V3
differences Vf p a b c = (p -ᵛ a) ∷ (p -ᵛ b) ∷ (p -ᵛ c) ∷ (p -ᵛ c) ∷ []
differences Ee p a b c = (b -ᵛ a) ∷ (b -ᵛ p) ∷ (c -ᵛ a) ∷ (c -ᵛ p) ∷ []

abbrev pub at_start : Shape → List V3
at_start t = differences t.kind t.p.start t.a.start t.b.start t.c.start

abbrev pub at_end : Shape → List V3
at_end t = differences t.kind t.p.end t.a.end t.b.end t.c.end

-- the direction's products with these at the start and with those at the end
-- are all above zero, or all below
abbrev pub have_one_sign : V3 → List V3 → List V3 → Bool
have_one_sign d us vs =
    (list_all (above d) us && list_all (above d) vs)
    || (list_all (below d) us && list_all (below d) vs)
