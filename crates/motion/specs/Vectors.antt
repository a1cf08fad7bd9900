-- Vectors of whole numbers: sum, difference, multiple, the two products.
use Rattle.std.specs.Prelude.{ℤ, pos, ◌+ℤ◌, ◌-ℤ◌, ◌*ℤ◌}
use Rattle.motion.specs.declared.shapes.V3.{V3}

infixl 6 ◌+ᵛ◌ ◌-ᵛ◌
infixl 7 ◌·ᵛ◌
abbrev pub vector : ℤ → ℤ → ℤ → V3
vector x y z = record { x = x; y = y; z = z }

abbrev pub origin : V3
origin = vector (pos 0) (pos 0) (pos 0)

unfoldable pub ◌+ᵛ◌ : V3 → V3 → V3
a +ᵛ b = record { x = a.x +ℤ b.x; y = a.y +ℤ b.y; z = a.z +ℤ b.z }

unfoldable pub ◌-ᵛ◌ : V3 → V3 → V3
a -ᵛ b = record { x = a.x -ℤ b.x; y = a.y -ℤ b.y; z = a.z -ℤ b.z }

unfoldable pub ◌·ᵛ◌ : ℤ → V3 → V3
k ·ᵛ a = record { x = k *ℤ a.x; y = k *ℤ a.y; z = k *ℤ a.z }

unfoldable pub dot : V3 → V3 → ℤ
dot a b = a.x *ℤ b.x +ℤ a.y *ℤ b.y +ℤ a.z *ℤ b.z

unfoldable pub cross : V3 → V3 → V3
cross a b =
    record {
      x = a.y *ℤ b.z -ℤ a.z *ℤ b.y;
      y = a.z *ℤ b.x -ℤ a.x *ℤ b.z;
      z = a.x *ℤ b.y -ℤ a.y *ℤ b.x;
    }
