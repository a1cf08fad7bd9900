-- The boxes whose sides stand in rows of the tables.
use Rattle.std.proofs.Common.{◌≡◌, ◌≢◌, ℕ, zero, suc, ◌+◌, ◌-◌, ◌*◌, ◌/◌, ◌<◌, ◌≤◌, max, ℤ, pos, List, [], ◌∷◌, ◌++◌, length, map, get_or, set, take, drop, refl, sym, ap, ◌∙◌, subst, arith, length-take-le, add-zero, get_or-set_other, get_or-set_same}
use Rattle.std.specs.List.{range_with_len}
use Rattle.std.proofs.lemmas.List.FromFn.{map-range_with_len_more, take-map-range_with_len, length-map-range_with_len, get_or-map-range_with_len}
use Rattle.near_faces.specs.declared.boxes.SweptBox.{SweptBox}
use Rattle.near_faces.specs.declared.sides.Sides.{Sides}
use Rattle.std.proofs.lemmas.List.{take_all}
use Rattle.near_faces.specs.declared.nodes.Node.{Node}
use Rattle.near_faces.specs.Near.{near_to, near_from}
use Rattle.near_faces.specs.inner.Sides.{box_in, boxes_in}
use Rattle.near_faces.specs.Trees.{IsTree}
use Rattle.near_faces.proofs.Halving.{half_trees}
use Rattle.near_faces.proofs.Listing.{in_halves, none_later, length-near_to, next_face}

same_rows : {X : Type 0} (f g : ℕ → X) (a n : ℕ) → ((k : ℕ) → k < a + n → f k ≡ g k) → map f (range_with_len a n) ≡ map g (range_with_len a n)
same_rows f g a zero h = refl
same_rows f g a (suc n) h = λ i. h a (omega arith) i ∷ same_rows f g (a + 1) n (λ k l. h k (omega arith)) i

-- a row more, with those before it as they were
pub row_more : (s t : Sides) (i : ℕ) (b : SweptBox) → ((k : ℕ) → k < i → box_in t k ≡ box_in s k) → box_in t i ≡ b → boxes_in t 0 (i + 1) ≡ boxes_in s 0 i ++ b ∷ []
row_more s t i b before here =
    map-range_with_len_more (box_in t) 0 i i (omega arith) ∙ (λ j. same_rows (box_in t) (box_in s) 0 i (λ k l. before k (omega arith)) j ++ here j ∷ [])

pub length-boxes_in : (s : Sides) (first count : ℕ) → length (boxes_in s first count) ≡ count
length-boxes_in s first count = length-map-range_with_len (box_in s) first count

-- some of the first rows, and the others
pub take-boxes_in : (s : Sides) (first count h : ℕ) → h ≤ count → take h (boxes_in s first count) ≡ boxes_in s first h
take-boxes_in s first count h le = take-map-range_with_len (box_in s) first count h le

pub drop-boxes_in : (s : Sides) (first count h : ℕ) → h ≤ count → drop h (boxes_in s first count) ≡ boxes_in s (first + h) (count - h)
drop-boxes_in s first count zero le = (λ j. boxes_in s (sym (add-zero first) j) (same j))
  where
    same : count ≡ count - 0
    same = omega arith
drop-boxes_in s first zero (suc h) le = absurd (omega arith)
drop-boxes_in s first (suc count) (suc h) le =
    let n : first + 1 + h ≡ first + suc h = omega arith in
    let m : count - h ≡ suc count - suc h = omega arith in
    drop-boxes_in s (first + 1) count h (omega arith) ∙ (λ j. boxes_in s (n j) (m j))

-- ---- a box's sides written into a row
abbrev with_row : Sides → ℕ → SweptBox → Sides
with_row s i b =
    record {
      least_x = set s.least_x i b.least.x;
      least_y = set s.least_y i b.least.y;
      least_z = set s.least_z i b.least.z;
      greatest_x = set s.greatest_x i b.greatest.x;
      greatest_y = set s.greatest_y i b.greatest.y;
      greatest_z = set s.greatest_z i b.greatest.z;
    }

-- there is such a row in each table
pub record HasRow (s : Sides) (i : ℕ) : Type 0 where
  pub least_x : i < length s.least_x
  pub least_y : i < length s.least_y
  pub least_z : i < length s.least_z
  pub greatest_x : i < length s.greatest_x
  pub greatest_y : i < length s.greatest_y
  pub greatest_z : i < length s.greatest_z

other : (zs : List ℤ) (i : ℕ) (z : ℤ) (k : ℕ) → k < i → get_or (set zs i z) k (pos 0) ≡ get_or zs k (pos 0)
other zs i z k h = let ne : k ≢ i = omega arith in rw get_or-set_other

pub row_written : (s : Sides) (i : ℕ) (b : SweptBox) → HasRow s i → boxes_in (with_row s i b) 0 (i + 1) ≡ boxes_in s 0 i ++ b ∷ []
row_written s i b has =
    let here = λ (zs : List ℤ) (z : ℤ) (h : i < length zs). get_or-set_same zs i z (pos 0) h in
    row_more s (with_row s i b) i b
    (λ k h j.
    record {
      least = record { x = other s.least_x i b.least.x k h j; y = other s.least_y i b.least.y k h j; z = other s.least_z i b.least.z k h j };
      greatest = record { x = other s.greatest_x i b.greatest.x k h j; y = other s.greatest_y i b.greatest.y k h j; z = other s.greatest_z i b.greatest.z k h j };
    })
    (λ j.
    record {
      least = record { x = here s.least_x b.least.x has.least_x j; y = here s.least_y b.least.y has.least_y j; z = here s.least_z b.least.z has.least_z j };
      greatest = record { x = here s.greatest_x b.greatest.x has.greatest_x j; y = here s.greatest_y b.greatest.y has.greatest_y j; z = here s.greatest_z b.greatest.z has.greatest_z j };
    })

pub get_or-boxes_in : (s : Sides) (first count k j : ℕ) (d : SweptBox) → k < count → first + k ≡ j → get_or (boxes_in s first count) k d ≡ box_in s j
get_or-boxes_in s first count k j d h e = get_or-map-range_with_len (box_in s) first count k j d h e

-- ---- a run that begins before the first later face
later_part : (i : ℕ) (b : SweptBox) (f h : ℕ) (run : List SweptBox) → h ≤ length run → (0 < h → f + h ≤ i + 1) → near_to i b f run ≡ near_to i b (f + h) (drop h run)
later_part i b f zero run le early = ap (λ (n : ℕ). near_to i b n run) (sym (add-zero f))
later_part i b f (suc h) run le early =
    in_halves i b f (suc h) run le
    ∙ ap (λ l. l ++ near_to i b (f + suc h) (drop (suc h) run)) (none_later i b f (take (suc h) run) (omega (arith, length-take-le (suc h) run le, early (omega arith))))

pub later_rows : (s : Sides) (i : ℕ) (b : SweptBox) (first count from n : ℕ) → from ≡ max first (i + 1) → from ≤ first + count → n ≡ first + count - from
    → near_to i b first (boxes_in s first count) ≡ near_to i b from (boxes_in s from n)
later_rows s i b first count from n from_is le n_is =
    let h = from - first in
    let start : first + h ≡ from = omega arith in
    let many : count - h ≡ n = omega arith in
    later_part i b first h (boxes_in s first count) (omega (arith, length-boxes_in s first count)) (λ some. omega arith)
    ∙ ap (near_to i b (first + h)) (drop-boxes_in s first count h (omega arith))
    ∙ (λ j. near_to i b (start j) (boxes_in s (start j) (many j)))

-- a run in two halves
pub near_halves : (s : Sides) (i : ℕ) (b : SweptBox) (first count h : ℕ) → h ≤ count
    → near_to i b first (boxes_in s first count) ≡ near_to i b first (boxes_in s first h) ++ near_to i b (first + h) (boxes_in s (first + h) (count - h))
near_halves s i b first count h le =
    in_halves i b first h (boxes_in s first count) (omega (arith, length-boxes_in s first count))
    ∙ (λ j. near_to i b first (take-boxes_in s first count h le j) ++ near_to i b (first + h) (drop-boxes_in s first count h le j))

pub few_near : (s : Sides) (i : ℕ) (b : SweptBox) (first count : ℕ) → length (near_to i b first (boxes_in s first count)) ≤ count
few_near s i b first count = omega (arith, length-near_to i b first (boxes_in s first count), length-boxes_in s first count)

-- the trees of both halves
pub record TwoTrees (s : Sides) (first count h : ℕ) (ns : List Node) : Type 0 where
  pub lower : IsTree first (boxes_in s first h) (take (2 * h - 1) (drop 1 ns))
  pub upper : IsTree (first + h) (boxes_in s (first + h) (count - h)) (drop (2 * h) ns)

pub two_trees : (s : Sides) (first count h : ℕ) (ns : List Node) → IsTree first (boxes_in s first count) ns → 2 ≤ count → h ≡ (count + 1) / 2 → TwoTrees s first count h ns
two_trees s first count h ns t two h_is =
    let many = length-boxes_in s first count in
    let le : h ≤ count = omega arith in
    let halves = half_trees h t (omega (arith, many)) (h_is ∙ ap (λ (n : ℕ). (n + 1) / 2) (sym many)) in
    record {
      lower = subst (λ (bs : List SweptBox). IsTree first bs (take (2 * h - 1) (drop 1 ns))) (take-boxes_in s first count h le) halves.lower;
      upper = subst (λ (bs : List SweptBox). IsTree (first + h) bs (drop (2 * h) ns)) (drop-boxes_in s first count h le) halves.upper;
    }

-- one face after another
pub next_near : (s : Sides) (n i : ℕ) → i < n → near_from (boxes_in s 0 n) 0 (take (i + 1) (boxes_in s 0 n)) ≡ near_from (boxes_in s 0 n) 0 (take i (boxes_in s 0 n)) ++ near_to i (box_in s i) 0 (boxes_in s 0 n)
next_near s n i h =
    let all = boxes_in s 0 n in
    next_face all i (box_in s i) (omega (arith, length-boxes_in s 0 n))
    ∙ ap (λ (b : SweptBox). near_from all 0 (take i all) ++ near_to i b 0 all) (get_or-boxes_in s 0 n i i (box_in s i) h (omega arith))

pub all_faces : (s : Sides) (n i : ℕ) → n ≤ i → take i (boxes_in s 0 n) ≡ boxes_in s 0 n
all_faces s n i h = take_all i (boxes_in s 0 n) (omega (arith, length-boxes_in s 0 n))

pub ruleset all_of_them = (all_faces, few_near)
