-- Slab keeps both laws.
use Rattle.std.proofs.Common.{◌≡◌, ℕ, ◌+◌, ◌-◌, ◌*◌, ◌^◌, ◌<◌, ◌≤◌, Bool, true, ◌&&◌, List, [], ◌∷◌, ℤ, pos, ◌+ℤ◌, ◌*ℤ◌, ◌≤ℤ◌, sym, ◌∙◌, subst, mul-le-mul_right, pow_mono, arith}
use borrow.Author.Differences.{ints}
use Rattle.std.proofs.lemmas.Bool.{false≢true, and_parts, and_from}
use Rattle.std.specs.List.{list_all, list_any}
use Rattle.motion.specs.declared.shapes.V3.{V3}
use Rattle.motion.specs.declared.shapes.Moving.{Moving}
use Rattle.motion.specs.declared.shapes.Shape.{Shape}
use Rattle.motion.specs.Vectors.{◌+ᵛ◌, ◌-ᵛ◌, ◌·ᵛ◌, dot}
use Rattle.motion.specs.Features.{first, second}
use Rattle.motion.specs.Laws.{Within, Lawful, at, portion, half}
use Rattle.motion.specs.Slab.{pairs, below, parted_along, directions, slab_set}
use Rattle.motion.proofs.Integers.{times-ge}
use Rattle.motion.proofs.Products.{dot-sum, dot-times, times-dot}
use Rattle.motion.proofs.Signs.{Sign, positive, negative}
use Rattle.motion.proofs.Gaps.{size, size-times}
use Rattle.motion.proofs.Positions.{at-minus}
use Rattle.motion.proofs.RowLaws.{row-lawful}
use Rattle.motion.proofs.Halves.{minus-start, minus-middle, minus-end, ones-of, others-of}
use Rattle.motion.proofs.Members.{Each, each-passes, all-map}
use Rattle.motion.proofs.Separating.{Beyond, apart-along}

module _ {g : ℤ → Bool} {k : ℤ} (sign : Sign g k) (d : V3) where
  abbrev f : V3 → Bool
  f v = g (dot d v)

  abbrev both : Moving → Moving → Bool
  both m n = f (m.start -ᵛ n.start) && f (m.end -ᵛ n.end)

  -- ---- the gap: on the way a pair is as far as at the start or at the end
  on-the-way : (p q : ℕ) → p ≤ q → (m n : Moving) → both m n ≡ true → pos q ≤ℤ dot (k ·ᵛ d) (at p q m -ᵛ at p q n)
  on-the-way p q h m n b =
      let e = and_parts _ _ b in
      rw (at-minus p q m n h) (simp (dot-sum, dot-times, times-dot) (weigh (q - p) p q _ _ (omega arith) (sign.tells _ e.0) (sign.tells _ e.1)))
    where
      weigh : (r p q : ℕ) (x y : ℤ) → r + p ≡ q → pos 1 ≤ℤ x → pos 1 ≤ℤ y → pos q ≤ℤ (pos r *ℤ x +ℤ pos p *ℤ y)
      weigh r p q x y e hx hy = omega (arith, ints, times-ge r 1 x hx, times-ge p 1 y hy)

  beyond : (t : Shape) (p q : ℕ) → p ≤ q → pairs f t ≡ true → Beyond (k ·ᵛ d) q (at p q) (first t) (second t)
  beyond t p q h = each-passes (λ m. each-passes (on-the-way p q h m) (second t)) (first t)

  short : Within 1 d → size (k ·ᵛ d) ≤ 3
  short (i, j, l) = rw (size-times k d) (rw sign.unit (omega arith))

  -- ---- the halves
  added : (u v : V3) {w : V3} → u +ᵛ v ≡ w → f u ≡ true → f v ≡ true → f w ≡ true
  added u v e a b = subst (λ (x : V3). f x ≡ true) e (rw (dot-sum d u v) (sign.adds _ _ a b))

  first-both : (m n : Moving) → both m n ≡ true → both (portion 1 0 m) (portion 1 0 n) ≡ true
  first-both m n b = let e = and_parts _ _ b in and_from _ _ (added _ _ (minus-start m n) e.0 e.0) (added _ _ (minus-middle m n) e.0 e.1)

  last-both : (m n : Moving) → both m n ≡ true → both (portion 1 1 m) (portion 1 1 n) ≡ true
  last-both m n b = let e = and_parts _ _ b in and_from _ _ (added _ _ (minus-middle m n) e.0 e.1) (added _ _ (minus-end m n) e.1 e.1)

  pairs-half : (j : ℕ) → ((m n : Moving) → both m n ≡ true → both (portion 1 j m) (portion 1 j n) ≡ true) → (t : Shape) → pairs f t ≡ true → pairs f (half j t) ≡ true
  pairs-half j step t e =
      sym (λ i. list_all (λ m. list_all (both m) (others-of t j i)) (ones-of t j i))
      ∙ all-map _ (portion 1 j) (λ m. all-map _ (portion 1 j) (step m) (second t)) (first t) e

  lawful : Within 1 d → Lawful (pairs f)
  lawful w =
      record {
        apart = λ t v h p q hq hp. apart-along t p q (k ·ᵛ d) 3 q (short w) (room (2 ^ t.scale) q (pow_mono v.0) hq) (beyond t p q hp h);
        halves = λ t v c h. (pairs-half 0 first-both t h, pairs-half 1 last-both t h);
      }
    where
      room : (A q : ℕ) → A ≤ 64 → 1 ≤ q → 3 * (A * q) < q * 2 ^ 49
      room A q a h = omega (arith, mul-le-mul_right q a)

module _ (d : V3) (w : Within 1 d) where
  pub below-lawful : Lawful (pairs (below d))
  below-lawful = lawful negative d w

  pub along-lawful : Lawful (λ t. parted_along t d)
  along-lawful = row-lawful (lawful positive d w) below-lawful

-- ---- the directions
some-lawful : (ds : List V3) → Each (Within 1) ds → Lawful (λ t. list_any (parted_along t) ds)
some-lawful [] h = record { apart = λ t v e. absurd (false≢true e); halves = λ t v c e. absurd (false≢true e) }
some-lawful (d ∷ ds) (w, h) = row-lawful (along-lawful d w) (some-lawful ds h)

all-short : Each (Within 1) directions
all-short = search arith

pub slab-lawful : Lawful slab_set
slab-lawful = some-lawful directions all-short
