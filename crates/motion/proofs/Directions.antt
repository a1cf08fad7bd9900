-- The table has every direction of the rule, and no other.
use Rattle.std.proofs.Common.{◌≡◌, ℕ, ◌<◌, ℤ, sym, refl, ◌∙◌, inl, inr, arith}
use Rattle.std.specs.List.{Contains, slice_index_or}
use Rattle.std.proofs.lemmas.List.Elements.{All-contains}
use Rattle.motion.specs.Vectors.{vector}
use Rattle.motion.specs.Slab.{directions, IsEntry, LeadsByOne, IsDirection, ListsAllDirections, one, nought}
use Rattle.motion.proofs.Members.{Each, each-at}

-- ---- each of the table is one
all-directions : Each IsDirection directions
all-directions = search (inl, inr)

-- ---- each direction is in the table
-- row k of the table has x, y, z
found : (k : ℕ) (x y z x' y' z' : ℤ) → k < 13 → slice_index_or directions k (vector x y z) ≡ vector x' y' z' → x ≡ x' → y ≡ y' → z ≡ z' → Contains directions (vector x y z)
found k x y z x' y' z' h e p q r = (k, h, e ∙ (λ j. vector (sym p j) (sym q j) (sym r j)))

module _ (x y z : ℤ) where
  after-x : x ≡ one → IsEntry y → IsEntry z → Contains directions (vector x y z)
  after-x e (inr (inl f)) (inr (inl g)) = found 0 x y z _ _ _ (omega arith) refl e f g
  after-x e (inr (inr f)) (inr (inl g)) = found 3 x y z _ _ _ (omega arith) refl e f g
  after-x e (inl f) (inr (inl g)) = found 4 x y z _ _ _ (omega arith) refl e f g
  after-x e (inr (inl f)) (inr (inr g)) = found 5 x y z _ _ _ (omega arith) refl e f g
  after-x e (inr (inl f)) (inl g) = found 6 x y z _ _ _ (omega arith) refl e f g
  after-x e (inr (inr f)) (inr (inr g)) = found 9 x y z _ _ _ (omega arith) refl e f g
  after-x e (inr (inr f)) (inl g) = found 10 x y z _ _ _ (omega arith) refl e f g
  after-x e (inl f) (inr (inr g)) = found 11 x y z _ _ _ (omega arith) refl e f g
  after-x e (inl f) (inl g) = found 12 x y z _ _ _ (omega arith) refl e f g

  after-y : x ≡ nought → y ≡ one → IsEntry z → Contains directions (vector x y z)
  after-y e f (inr (inl g)) = found 1 x y z _ _ _ (omega arith) refl e f g
  after-y e f (inr (inr g)) = found 7 x y z _ _ _ (omega arith) refl e f g
  after-y e f (inl g) = found 8 x y z _ _ _ (omega arith) refl e f g

  listed : IsEntry y → IsEntry z → LeadsByOne (vector x y z) → Contains directions (vector x y z)
  listed q r (inl e) = after-x e q r
  listed q r (inr (e, inl f)) = after-y e f r
  listed q r (inr (e, inr (f, g))) = found 2 x y z _ _ _ (omega arith) refl e f g

pub lists-all-directions : ListsAllDirections
lists-all-directions d = (All-contains IsDirection directions d (each-at IsDirection directions all-directions), λ (p, q, r, l). listed d.x d.y d.z q r l)
