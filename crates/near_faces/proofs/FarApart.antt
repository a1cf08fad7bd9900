-- The tests of two faces whose boxes do not meet are in Box's set.
use Rattle.std.proofs.Common.{◌≡◌, ◌⊎◌, ℕ, Bool, true, false, ◌||◌, cond, ltb, List, [], ◌∷◌, ℤ, ◌≤ℤ◌, ◌∙◌, inl, inr, ⊎_elim, All, arith}
use Rattle.std.specs.Prelude.{int_lt}
use Rattle.std.proofs.Math.Bool.{and_comm}
use Rattle.std.proofs.lemmas.Int.{ints, clamps}
use Rattle.std.proofs.lemmas.List.Elements.{All-from_recursion}
use Rattle.sheet.specs.declared.rows.Face.{Face}
use Rattle.motion.specs.declared.shapes.V3.{V3}
use Rattle.motion.specs.declared.shapes.Moving.{Moving}
use Rattle.motion.specs.declared.shapes.Shape.{Shape}
use Rattle.motion.specs.Box.{coordinates, least, greatest, under, box_set}
use Rattle.motion.specs.Features.{first, second}
use Rattle.inspection.specs.Names.{edge_of, ee_name_of}
use Rattle.inspection.specs.declared.offerings.Offering.TheVariants.{Faces}
use Rattle.inspection.specs.Sheets.{Sheet, point_at, face_at}
use Rattle.inspection.specs.Tests.{Naming, vf_naming, ee_naming, ee_shape}
use Rattle.near_faces.specs.declared.boxes.SweptBox.{SweptBox}
use Rattle.near_faces.specs.Boxes.{box_around, corners, at_most, meets}

-- ---- some points within the box around others
pub record Holds (ms ns : List Moving) : Type 0 where
  pub low : (axis : V3 → ℤ) → least (coordinates axis ms) ≤ℤ least (coordinates axis ns)
  pub high : (axis : V3 → ℤ) → greatest (coordinates axis ns) ≤ℤ greatest (coordinates axis ms)

itself : (ms : List Moving) → Holds ms ms
itself ms = record { low = λ axis. omega (arith, ints); high = λ axis. omega (arith, ints) }

both : (ms : List Moving) (m n : Moving) → Holds ms (m ∷ []) → Holds ms (n ∷ []) → Holds ms (m ∷ n ∷ [])
both ms m n p q = record { low = λ axis. omega (arith, ints, clamps, p.low axis, q.low axis); high = λ axis. omega (arith, ints, clamps, p.high axis, q.high axis) }

parted : (axis : V3 → ℤ) (ms ns ks ls : List Moving) → Holds ms ks → Holds ns ls → (under axis ms ns || under axis ns ms) ≡ true → (under axis ks ls || under axis ls ks) ≡ true
parted axis ms ns ks ls p q h = grind (arith, ints, p.low axis, p.high axis, q.low axis, q.high axis)

-- boxes that do not meet are parted on some axis
some_axis : (a b : SweptBox) (x y z : Bool)
    → ((int_lt a.greatest.x b.least.x || int_lt b.greatest.x a.least.x) ≡ true → x ≡ true)
    → ((int_lt a.greatest.y b.least.y || int_lt b.greatest.y a.least.y) ≡ true → y ≡ true)
    → ((int_lt a.greatest.z b.least.z || int_lt b.greatest.z a.least.z) ≡ true → z ≡ true)
    → meets a b ≡ false → (x || y || z) ≡ true
some_axis a b x y z p q r h = grind (arith, ints)

struck : (ms ns : List Moving) (t : Shape) → Holds ms (first t) × Holds ns (second t) → meets (box_around ms) (box_around ns) ≡ false → box_set t ≡ true
struck ms ns t (p, q) =
    let on = λ (axis : V3 → ℤ). parted axis ms ns (first t) (second t) p q in
    some_axis (box_around ms) (box_around ns) _ _ _ (on (λ v. v.x)) (on (λ v. v.y)) (on (λ v. v.z))

-- ---- a test with one feature among some points, and the other among some others
abbrev pub Between : List Moving → List Moving → Shape → Type 0
Between ms ns t = (Holds ms (first t) × Holds ns (second t)) ⊎ (Holds ns (first t) × Holds ms (second t))

turned : (a b : SweptBox) → meets a b ≡ meets b a
turned a b = and_comm (at_most a.least b.greatest) (at_most b.least a.greatest)

pub struck_between : (ms ns : List Moving) (t : Shape) → Between ms ns t → meets (box_around ms) (box_around ns) ≡ false → box_set t ≡ true
struck_between ms ns t b h = ⊎_elim (λ w. struck ms ns t w h) (λ w. struck ns ms t w (turned (box_around ns) (box_around ms) ∙ h)) b

-- ---- each test of two faces is between them
abbrev pub IsBetween : {E : Type 0} → Naming E → Sheet → ℕ → ℕ → E → Type 0
IsBetween n s f g e = Between (corners s (face_at s f)) (corners s (face_at s g)) (n.shape s e)

abbrev pub TestsBetween : {E : Type 0} → Naming E → Sheet → Type 0
TestsBetween n s = (f g : ℕ) → All (IsBetween n s f g) (n.tests s (Faces f g))

module _ (s : Sheet) where
  abbrev Corner : Face → ℕ → Type 0
  Corner f p = Holds (corners s f) (point_at s p ∷ [])

  corner_a : (f : Face) → Corner f f.a
  corner_a f = record { low = λ axis. omega (arith, ints, clamps); high = λ axis. omega (arith, ints, clamps) }

  corner_b : (f : Face) → Corner f f.b
  corner_b f = record { low = λ axis. omega (arith, ints, clamps); high = λ axis. omega (arith, ints, clamps) }

  corner_c : (f : Face) → Corner f f.c
  corner_c f = record { low = λ axis. omega (arith, ints, clamps); high = λ axis. omega (arith, ints, clamps) }

  pub vf_between : TestsBetween vf_naming s
  vf_between f g =
      let m = face_at s f in
      let n = face_at s g in
      let on = itself (corners s m) in
      let to = itself (corners s n) in
      All-from_recursion (IsBetween vf_naming s f g) (vf_naming.tests s (Faces f g))
      (inl (corner_a m, to), (inl (corner_b m, to), (inl (corner_c m, to), (inr (corner_a n, on), (inr (corner_b n, on), (inr (corner_c n, on), tt))))))

  -- an edge has its lower number first, and a name the edge with the lower first number
  module _ (f g : Face) where
    abbrev Named : ℕ → ℕ → ℕ → ℕ → Type 0
    Named a b c d = Between (corners s f) (corners s g) (ee_shape s (ee_name_of (record { first = a; second = b }) (record { first = c; second = d })))

    in_order : (a b c d : ℕ) → Corner f a → Corner f b → Corner g c → Corner g d → Named a b c d
    in_order a b c d p q r t = go (ltb c a)
      where
        on : Holds (corners s f) (point_at s a ∷ point_at s b ∷ [])
        on = both (corners s f) (point_at s a) (point_at s b) p q

        to : Holds (corners s g) (point_at s c ∷ point_at s d ∷ [])
        to = both (corners s g) (point_at s c) (point_at s d) r t

        go : (x : Bool) → Between (corners s f) (corners s g) (ee_shape s (cond x (record { u = c; v = d; k = a; l = b }) (record { u = a; v = b; k = c; l = d })))
        go true = inr (to, on)
        go false = inl (on, to)

    named : (a b c d : ℕ) → Corner f a → Corner f b → Corner g c → Corner g d → Between (corners s f) (corners s g) (ee_shape s (ee_name_of (edge_of a b) (edge_of c d)))
    named a b c d p q r t = go (ltb b a) (ltb d c)
      where
        go : (x y : Bool)
            → Between (corners s f) (corners s g)
            (ee_shape s (ee_name_of (cond x (record { first = b; second = a }) (record { first = a; second = b })) (cond y (record { first = d; second = c }) (record { first = c; second = d }))))
        go true true = in_order b a d c q p t r
        go true false = in_order b a c d q p r t
        go false true = in_order a b d c p q t r
        go false false = in_order a b c d p q r t

  pub ee_between : TestsBetween ee_naming s
  ee_between f g =
      let m = face_at s f in
      let n = face_at s g in
      let one = λ (a b : ℕ) (p : Corner m a) (q : Corner m b). named m n a b n.a n.b p q (corner_a n) (corner_b n) in
      let two = λ (a b : ℕ) (p : Corner m a) (q : Corner m b). named m n a b n.b n.c p q (corner_b n) (corner_c n) in
      let three = λ (a b : ℕ) (p : Corner m a) (q : Corner m b). named m n a b n.c n.a p q (corner_c n) (corner_a n) in
      let p = corner_a m in
      let q = corner_b m in
      let r = corner_c m in
      All-from_recursion (IsBetween ee_naming s f g) (ee_naming.tests s (Faces f g))
      (one m.a m.b p q, (two m.a m.b p q, (three m.a m.b p q, (one m.b m.c q r, (two m.b m.c q r, (three m.b m.c q r, (one m.c m.a r p, (two m.c m.a r p, (three m.c m.a r p, tt)))))))))
