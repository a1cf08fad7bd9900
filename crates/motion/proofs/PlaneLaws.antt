-- What Plane strikes is never in one plane, and Plane keeps both laws.
use Rattle.std.proofs.Common.{◌≡◌, ℕ, ◌+◌, ◌-◌, ◌*◌, ◌^◌, ◌<◌, ◌≤◌, Bool, true, ℤ, pos, ◌*ℤ◌, ◌≤ℤ◌, refl, sym, ap, ◌∙◌, inl, inr, ⊎_elim, mul-le-mul_right, mul-le-mul, mul-pos, pow_mono, arith}
use borrow.Author.Differences.{ints}
use Rattle.std.proofs.lemmas.Bool.{or_cases}
use Rattle.motion.specs.declared.shapes.V3.{V3}
use Rattle.motion.specs.declared.shapes.Kind.{Kind}
use Rattle.motion.specs.declared.shapes.Kind.TheVariants.{Vf, Ee}
use Rattle.motion.specs.declared.shapes.Moving.{Moving}
use Rattle.motion.specs.declared.shapes.Shape.{Shape}
use Rattle.motion.specs.Vectors.{◌-ᵛ◌, ◌·ᵛ◌, dot, cross}
use Rattle.motion.specs.Features.{firsts, seconds, first, second}
use Rattle.motion.specs.Laws.{Within, InReach, Valid, Apart, Lawful, at, half}
use Rattle.motion.specs.Plane.{normal, controls, all_above, all_below, plane_set, volume_at, StaysAbove, StaysBelow, NeverCoplanar}
use Rattle.motion.proofs.Integers.{products, sums}
use Rattle.motion.proofs.Products.{same, dot-minus, dot-comm, cross-first, cross-second, times-dot}
use Rattle.motion.proofs.Determinants.{values, at_start, at_end, sum, controls-are, left, right, left-is, right-is, all, halves-all, stays, cube}
use Rattle.motion.proofs.Signs.{Sign, positive, negative}
use Rattle.motion.proofs.Gaps.{size, size-times, cross-small}
use Rattle.motion.proofs.Positions.{at-minus, within-at, within-minus}
use Rattle.motion.proofs.Halves.{minus-start, minus-middle, minus-end}
use Rattle.motion.proofs.Members.{Each, each-map}
use Rattle.motion.proofs.Separating.{apart-along}
use Rattle.motion.proofs.RowLaws.{row-lawful}

-- ---- the volume keeps its sign
module _ {f : ℤ → Bool} {k : ℤ} (sign : Sign f k) (t : Shape) (h : all f (controls t) ≡ true) where
  keeps-side : (p q : ℕ) → p ≤ q → pos (q ^ 3) ≤ℤ (k *ℤ (pos 3 *ℤ volume_at p q t))
  keeps-side p q le =
      rw (at-minus p q t.p t.a le, at-minus p q t.b t.a le, at-minus p q t.c t.a le)
      (rw left at (stays sign (at_start t) (at_end t) (ap (all f) (sym (controls-are t)) ∙ h) (q - p) p))
    where
      left : q - p + p ≡ q
      left = omega arith

pub stays-above : (t : Shape) → all_above (controls t) ≡ true → StaysAbove t
stays-above t h p q le = let v = keeps-side positive t h p q le in omega (arith, ints)

pub stays-below : (t : Shape) → all_below (controls t) ≡ true → StaysBelow t
stays-below t h p q le = let v = keeps-side negative t h p q le in omega (arith, ints)

pub never-coplanar : NeverCoplanar
never-coplanar t h =
    ⊎_elim (λ e. inl (stays-above t e)) (λ e. inr (stays-below t e)) (or_cases (all_above (controls t)) (all_below (controls t)) h)

-- ---- the gap: along the normal of the features each pair is as far apart as the volume tells
abbrev across : Kind → V3 → V3 → V3 → V3 → V3
across Vf p a b c = normal a b c
across Ee p a b c = cross (c -ᵛ b) (p -ᵛ a)

level : (n u v : V3) → dot n (u -ᵛ v) ≡ pos 0 → dot n u ≡ dot n v
level n u v e = omega (arith, sums, dot-minus n u v)

shift : (n u v x y : V3) → dot n u ≡ dot n x → dot n v ≡ dot n y → dot n (u -ᵛ v) ≡ dot n (x -ᵛ y)
shift n u v x y e e' = omega (arith, sums, dot-minus n u v, dot-minus n x y)

steps : (a b c : V3) → c -ᵛ b ≡ (c -ᵛ a) -ᵛ (b -ᵛ a)
unfolding ◌-ᵛ◌
steps a b c = same (omega (arith, ints))

turned : (u v w : V3) → dot (cross (w -ᵛ v) u) v ≡ dot u (cross v w)
unfolding dot cross ◌-ᵛ◌
turned u v w = simp products (omega (arith, sums))

edges : (p a b c : V3) → dot (cross (c -ᵛ b) (p -ᵛ a)) (b -ᵛ a) ≡ dot (p -ᵛ a) (normal a b c)
edges p a b c = rw (steps a b c) (turned (p -ᵛ a) (b -ᵛ a) (c -ᵛ a))

all-level : (f : Moving → V3) (k : Kind) (p a b c : Moving)
    → Each (λ m. Each (λ o. dot (across k (f p) (f a) (f b) (f c)) (f m -ᵛ f o) ≡ dot (f p -ᵛ f a) (normal (f a) (f b) (f c))) (seconds k p a b c)) (firsts k p a b c)
all-level f Vf p a b c =
    let n = normal (f a) (f b) (f c) in
    let lb = level n (f b) (f a) (cross-first (f b -ᵛ f a) (f c -ᵛ f a)) in
    let lc = level n (f c) (f a) (cross-second (f b -ᵛ f a) (f c -ᵛ f a)) in
    let e = dot-comm n (f p -ᵛ f a) in
    ((e, (shift n (f p) (f b) (f p) (f a) refl lb ∙ e, (shift n (f p) (f c) (f p) (f a) refl lc ∙ e, tt))), tt)
all-level f Ee p a b c =
    let n = cross (f c -ᵛ f b) (f p -ᵛ f a) in
    let lc = level n (f c) (f b) (cross-first (f c -ᵛ f b) (f p -ᵛ f a)) in
    let lp = level n (f p) (f a) (cross-second (f c -ᵛ f b) (f p -ᵛ f a)) in
    let e = edges (f p) (f a) (f b) (f c) in (
      (e, (shift n (f b) (f p) (f b) (f a) refl lp ∙ e, tt)),
      ((shift n (f c) (f a) (f b) (f a) lc refl ∙ e, (shift n (f c) (f p) (f b) (f a) lc lp ∙ e, tt)), tt),
    )

across-small : (k : Kind) (B : ℕ) (p a b c : V3) → Within B p → Within B a → Within B b → Within B c → size (across k p a b c) ≤ 6 * (2 * B * (2 * B))
across-small Vf B p a b c hp ha hb hc = cross-small (2 * B) (b -ᵛ a) (c -ᵛ a) (within-minus B b a hb ha) (within-minus B c a hc ha)
across-small Ee B p a b c hp ha hb hc = cross-small (2 * B) (c -ᵛ b) (p -ᵛ a) (within-minus B c b hc hb) (within-minus B p a hp ha)

room : (A q : ℕ) → A ≤ 64 → 1 ≤ q → 18 * (2 * (4096 * A * q) * (2 * (4096 * A * q))) * (A * q) < q ^ 3 * 2 ^ 49
room A q a h =
    let s : A * A * A ≤ 262144 = mul-le-mul (mul-le-mul a a) a in
    omega (arith, cube q, mul-le-mul_right (q * q * q) s, mul-pos (mul-pos h h) h)

-- ---- the halves
module _ (t : Shape) where
  middle : sum (at_start t) (at_end t) ≡ at_end (half 0 t)
  middle = λ i. record { u = minus-middle t.p t.a i; v = minus-middle t.b t.a i; w = minus-middle t.c t.a i }

  first-half : controls (half 0 t) ≡ left (controls t)
  first-half = controls-are (half 0 t) ∙ sym (λ i. values (start i) (middle i)) ∙ left-is (at_start t) (at_end t) ∙ ap left (sym (controls-are t))
    where
      start : sum (at_start t) (at_start t) ≡ at_start (half 0 t)
      start = λ i. record { u = minus-start t.p t.a i; v = minus-start t.b t.a i; w = minus-start t.c t.a i }

  last-half : controls (half 1 t) ≡ right (controls t)
  last-half = controls-are (half 1 t) ∙ sym (λ i. values (middle i) (end i)) ∙ right-is (at_start t) (at_end t) ∙ ap right (sym (controls-are t))
    where
      end : sum (at_end t) (at_end t) ≡ at_end (half 1 t)
      end = λ i. record { u = minus-end t.p t.a i; v = minus-end t.b t.a i; w = minus-end t.c t.a i }

module _ {f : ℤ → Bool} {k : ℤ} (sign : Sign f k) where
  apart : (t : Shape) → Valid t → all f (controls t) ≡ true → Apart t
  apart t v h p q hq hp =
      apart-along t p q (k ·ᵛ (pos 3 ·ᵛ n)) (18 * (2 * B * (2 * B))) (q ^ 3) short (room (2 ^ t.scale) q (pow_mono v.0) hq)
      (each-map (λ m. each-map (far m) (second t)) (first t) (all-level (at p q) t.kind t.p t.a t.b t.c))
    where
      n : V3
      n = across t.kind (at p q t.p) (at p q t.a) (at p q t.b) (at p q t.c)

      B : ℕ
      B = 4096 * 2 ^ t.scale * q

      far : (m o : Moving) → dot n (at p q m -ᵛ at p q o) ≡ volume_at p q t → pos (q ^ 3) ≤ℤ dot (k ·ᵛ (pos 3 ·ᵛ n)) (at p q m -ᵛ at p q o)
      far m o e = rw (times-dot k (pos 3 ·ᵛ n) (at p q m -ᵛ at p q o), times-dot (pos 3) n (at p q m -ᵛ at p q o), e) (keeps-side sign t h p q hp)

      near : (m : Moving) → InReach t.scale m → Within B (at p q m)
      near m r = within-at (4096 * 2 ^ t.scale) p q m hp r.0 r.1

      short : size (k ·ᵛ (pos 3 ·ᵛ n)) ≤ 18 * (2 * B * (2 * B))
      short =
          rw (size-times k (pos 3 ·ᵛ n), size-times (pos 3) n, sign.unit)
          (omega (arith, across-small t.kind B (at p q t.p) (at p q t.a) (at p q t.b) (at p q t.c) (near t.p v.1) (near t.a v.2) (near t.b v.3) (near t.c v.4)))

  lawful : Lawful (λ t. all f (controls t))
  lawful =
      record {
        apart = apart;
        halves = λ t v c h. let w = halves-all sign (controls t) h in (ap (all f) (first-half t) ∙ w.0, ap (all f) (last-half t) ∙ w.1);
      }

pub plane-lawful : Lawful plane_set
plane-lawful = row-lawful (lawful positive) (lawful negative)
