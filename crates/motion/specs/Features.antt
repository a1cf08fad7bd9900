-- The two features of a test, by their points.
use Rattle.std.specs.Prelude.{List, [], ◌∷◌}
use Rattle.motion.specs.declared.shapes.Kind.{Kind}
use Rattle.motion.specs.declared.shapes.Kind.TheVariants.{Vf, Ee}
use Rattle.motion.specs.declared.shapes.Moving.{Moving}
use Rattle.motion.specs.declared.shapes.Shape.{Shape}

-- of the four points p, a, b, c of a test, those of its first feature and those of its second
abbrev pub firsts : {A : Type 0} → Kind → A → A → A → A → List A
firsts Vf p a b c = p ∷ []
firsts Ee p a b c = b ∷ c ∷ []

abbrev pub seconds : {A : Type 0} → Kind → A → A → A → A → List A
seconds Vf p a b c = a ∷ b ∷ c ∷ []
seconds Ee p a b c = a ∷ p ∷ []

abbrev pub first : Shape → List Moving
first t = firsts t.kind t.p t.a t.b t.c

abbrev pub second : Shape → List Moving
second t = seconds t.kind t.p t.a t.b t.c
