-- The least box around several: what meets one of them meets it.
use Rattle.std.proofs.Common.{◌≡◌, ◌<◌, true, ◌&&◌, List, [], ◌∷◌, ◌++◌, length, ℤ, refl, sym, ap, ◌∙◌, arith}
use Rattle.std.specs.Prelude.{int_le}
use Rattle.std.specs.Int.{int_min, int_max}
use Rattle.std.proofs.lemmas.Bool.{and_parts, and_from}
use Rattle.std.proofs.lemmas.Int.{ints, clamps}
use Rattle.sheet.specs.declared.rows.Coords.{Coords}
use Rattle.near_faces.specs.declared.boxes.SweptBox.{SweptBox}
use Rattle.near_faces.specs.Boxes.{at_most, meets, least_of, greatest_of, joined, around}

-- ---- one axis
le_max_left : (a b c : ℤ) → int_le a b ≡ true → int_le a (int_max b c) ≡ true
le_max_left a b c h = grind (arith, ints)

le_max_right : (a b c : ℤ) → int_le a c ≡ true → int_le a (int_max b c) ≡ true
le_max_right a b c h = grind (arith, ints)

min_le_left : (a b c : ℤ) → int_le b a ≡ true → int_le (int_min b c) a ≡ true
min_le_left a b c h = grind (arith, ints)

min_le_right : (a b c : ℤ) → int_le c a ≡ true → int_le (int_min b c) a ≡ true
min_le_right a b c h = grind (arith, ints)

min_assoc : (a b c : ℤ) → int_min (int_min a b) c ≡ int_min a (int_min b c)
min_assoc a b c = omega (arith, ints, clamps)

max_assoc : (a b c : ℤ) → int_max (int_max a b) c ≡ int_max a (int_max b c)
max_assoc a b c = omega (arith, ints, clamps)

-- ---- three axes
most_left : (a b c : Coords) → at_most a b ≡ true → at_most a (greatest_of b c) ≡ true
most_left a b c h =
    let p = and_parts (int_le a.x b.x && int_le a.y b.y) (int_le a.z b.z) h in
    let q = and_parts (int_le a.x b.x) (int_le a.y b.y) p.0 in
    and_from _ _ (and_from _ _ (le_max_left a.x b.x c.x q.0) (le_max_left a.y b.y c.y q.1)) (le_max_left a.z b.z c.z p.1)

most_right : (a b c : Coords) → at_most a c ≡ true → at_most a (greatest_of b c) ≡ true
most_right a b c h =
    let p = and_parts (int_le a.x c.x && int_le a.y c.y) (int_le a.z c.z) h in
    let q = and_parts (int_le a.x c.x) (int_le a.y c.y) p.0 in
    and_from _ _ (and_from _ _ (le_max_right a.x b.x c.x q.0) (le_max_right a.y b.y c.y q.1)) (le_max_right a.z b.z c.z p.1)

least_left : (a b c : Coords) → at_most b a ≡ true → at_most (least_of b c) a ≡ true
least_left a b c h =
    let p = and_parts (int_le b.x a.x && int_le b.y a.y) (int_le b.z a.z) h in
    let q = and_parts (int_le b.x a.x) (int_le b.y a.y) p.0 in
    and_from _ _ (and_from _ _ (min_le_left a.x b.x c.x q.0) (min_le_left a.y b.y c.y q.1)) (min_le_left a.z b.z c.z p.1)

least_right : (a b c : Coords) → at_most c a ≡ true → at_most (least_of b c) a ≡ true
least_right a b c h =
    let p = and_parts (int_le c.x a.x && int_le c.y a.y) (int_le c.z a.z) h in
    let q = and_parts (int_le c.x a.x) (int_le c.y a.y) p.0 in
    and_from _ _ (and_from _ _ (min_le_right a.x b.x c.x q.0) (min_le_right a.y b.y c.y q.1)) (min_le_right a.z b.z c.z p.1)

pub meets_left : (b c d : SweptBox) → meets b c ≡ true → meets b (joined c d) ≡ true
meets_left b c d h =
    let p = and_parts (at_most b.least c.greatest) (at_most c.least b.greatest) h in
    and_from _ _ (most_left b.least c.greatest d.greatest p.0) (least_left b.greatest c.least d.least p.1)

pub meets_right : (b c d : SweptBox) → meets b d ≡ true → meets b (joined c d) ≡ true
meets_right b c d h =
    let p = and_parts (at_most b.least d.greatest) (at_most d.least b.greatest) h in
    and_from _ _ (most_right b.least c.greatest d.greatest p.0) (least_right b.greatest c.least d.least p.1)

joined_assoc : (a b c : SweptBox) → joined (joined a b) c ≡ joined a (joined b c)
joined_assoc a b c = λ i.
    record {
      least = record { x = min_assoc a.least.x b.least.x c.least.x i; y = min_assoc a.least.y b.least.y c.least.y i; z = min_assoc a.least.z b.least.z c.least.z i };
      greatest = record { x = max_assoc a.greatest.x b.greatest.x c.greatest.x i; y = max_assoc a.greatest.y b.greatest.y c.greatest.y i; z = max_assoc a.greatest.z b.greatest.z c.greatest.z i };
    }

pub around_append : (bs cs : List SweptBox) → 0 < length bs → 0 < length cs → around (bs ++ cs) ≡ joined (around bs) (around cs)
around_append [] cs p q = absurd (omega arith)
around_append (b ∷ []) [] p q = absurd (omega arith)
around_append (b ∷ []) (c ∷ cs) p q = refl
around_append (b ∷ d ∷ bs) cs p q = ap (joined b) (around_append (d ∷ bs) cs (omega arith) q) ∙ sym (joined_assoc b (around (d ∷ bs)) (around cs))
