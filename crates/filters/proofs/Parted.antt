-- The differences of a test against the rule of Slab.
use Rattle.std.proofs.Common.{◌≡◌, Bool, true, ◌&&◌, ◌||◌, List, ◌∙◌, arith}
use Rattle.std.specs.List.{list_all, list_any}
use Rattle.motion.specs.declared.shapes.V3.{V3}
use Rattle.motion.specs.declared.shapes.Kind.{Kind}
use Rattle.motion.specs.declared.shapes.Kind.TheVariants.{Vf, Ee}
use Rattle.motion.specs.declared.shapes.Moving.{Moving}
use Rattle.motion.specs.declared.shapes.Shape.{Shape}
use Rattle.motion.specs.Vectors.{◌-ᵛ◌}
use Rattle.motion.specs.Features.{firsts, seconds}
use Rattle.motion.specs.Slab.{above, below, parted_along}
use Rattle.filters.specs.inner.Differences.{differences, at_start, at_end, have_one_sign}

-- every pair of points of the kind's features, at the start and at the end
abbrev pairs_of : (V3 → Bool) → Kind → Moving → Moving → Moving → Moving → Bool
pairs_of f k p a b c = list_all (λ m. list_all (λ n. f (m.start -ᵛ n.start) && f (m.end -ᵛ n.end)) (seconds k p a b c)) (firsts k p a b c)

three : (a b c d e f : Bool) → ((a && (b && (c && (c && true)))) && (d && (e && (f && (f && true))))) ≡ (((a && d) && ((b && e) && ((c && f) && true))) && true)
three a b c d e f = grind arith

four : (a b c d e f g h : Bool) → ((a && (b && (c && (d && true)))) && (e && (f && (g && (h && true))))) ≡ (((a && e) && ((b && f) && true)) && (((c && g) && ((d && h) && true)) && true))
four a b c d e f g h = grind arith

all-is : (f : V3 → Bool) (k : Kind) (p a b c : Moving)
    → (list_all f (differences k p.start a.start b.start c.start) && list_all f (differences k p.end a.end b.end c.end)) ≡ pairs_of f k p a b c
all-is f Vf p a b c = three (f (p.start -ᵛ a.start)) (f (p.start -ᵛ b.start)) (f (p.start -ᵛ c.start)) (f (p.end -ᵛ a.end)) (f (p.end -ᵛ b.end)) (f (p.end -ᵛ c.end))
all-is f Ee p a b c =
    four (f (b.start -ᵛ a.start)) (f (b.start -ᵛ p.start)) (f (c.start -ᵛ a.start)) (f (c.start -ᵛ p.start))
    (f (b.end -ᵛ a.end)) (f (b.end -ᵛ p.end)) (f (c.end -ᵛ a.end)) (f (c.end -ᵛ p.end))

parted-is : (t : Shape) (d : V3) → have_one_sign d (at_start t) (at_end t) ≡ parted_along t d
parted-is t d = λ i. all-is (above d) t.kind t.p t.a t.b t.c i || all-is (below d) t.kind t.p t.a t.b t.c i

pub some-is : (t : Shape) (us vs ds : List V3) → us ≡ at_start t → vs ≡ at_end t → list_any (λ d. have_one_sign d us vs) ds ≡ list_any (parted_along t) ds
some-is t us vs ds e h = (λ i. list_any (λ d. have_one_sign d (e i) (h i)) ds) ∙ (λ i. list_any (λ d. parted-is t d i) ds)
