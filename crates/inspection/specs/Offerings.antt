-- What is offered, and when it is the same.
use Rattle.std.specs.Prelude.{◌≡◌, ◌⊎◌}
pub use Rattle.inspection.specs.declared.offerings.Offering.{Offering}
pub use Rattle.inspection.specs.declared.offerings.Offering.TheVariants.{Faces}

-- the same two faces, in either order
abbrev pub SameOffering : Offering → Offering → Type 0
SameOffering (Faces f g) (Faces k l) = ((f ≡ k) × (g ≡ l)) ⊎ ((f ≡ l) × (g ≡ k))
