-- Small whole numbers in lanes of 32 bits: what is asked of each operation, and what it gives at each lane.
use Rattle.std.proofs.Common.{◌≡◌, ℕ, suc, ◌+◌, ◌*◌, ◌^◌, ◌<◌, T, ltb, Bool, true, false, ◌%◌, List, [], ◌∷◌, map, length, ℤ, pos, ◌+ℤ◌, ◌*ℤ◌, sym, refl, ap, ◌∙◌, subst, arith, rules, ltb→lt, to_z-of_z, SFits, w32, w64, to_z, of_z, replicate, nat_eq, cond}
use lib.Signed.{lt_z}
use lib.Lanes.{zip2, Each1, Each2, mask_l, top}
use mir.Syntax.{add, mul, lt, mask, signed}
use borrow.Rule.Simd.Lanes.{act2, Asks2}
use borrow.Table.Row.{s_int}
use borrow.Author.Differences.{ints}
use Rattle.std.specs.List.{list_all}
use Rattle.std.proofs.lemmas.Simd.{mask_l-mod, Each1-replicate, Each2-of}
use Rattle.std.proofs.lemmas.List.{length-map}
use Rattle.std.proofs.lemmas.List.Folds.{list_all-map}
use Rattle.motion.specs.declared.shapes.V3.{V3}
use Rattle.motion.specs.Vectors.{vector, dot}
use Rattle.motion.specs.Slab.{above, below}
use Rattle.filters.specs.inner.Bounds.{Bounded, Reach}
use Rattle.motion.specs.Laws.{Within}
use Rattle.filters.specs.declared.lanes.Vectors.{Vectors}
use Rattle.filters.specs.inner.Lanes.{Lanes, InLanes, vectors}
use Rattle.filters.proofs.Exact.{near-mul, near-add, value}
use Rattle.filters.proofs.Reaches.{dot-near}

abbrev pub Times : ℕ → ℕ → ℕ
Times = act2 (mul signed) (s_int w32) (s_int w32) (s_int w32)

abbrev pub Plus : ℕ → ℕ → ℕ
Plus = act2 (add signed) (s_int w32) (s_int w32) (s_int w32)

abbrev Less : ℕ → ℕ → ℕ
Less = act2 (mask (lt signed)) (s_int w32) (s_int w32) (s_int w32)

small : {B : ℕ} {z : ℤ} → Bounded B z → T (ltb B (2 ^ 31)) → SFits w32 z
small {B} p t = let h : B < 2 ^ 31 = ltb→lt B (2 ^ 31) t in omega (arith, ints)

pub back : {B : ℕ} {z : ℤ} → Bounded B z → T (ltb B (2 ^ 31)) → to_z w32 (of_z w32 z) ≡ z
back p t = to_z-of_z (small p t)

-- a number of 64 bits, cast to 32
abbrev pub cast : ℤ → ℕ
cast k = of_z w32 (to_z w64 (of_z w64 k))

pub cast-back : {B : ℕ} {k : ℤ} → Bounded B k → T (ltb B (2 ^ 63)) → T (ltb B (2 ^ 31)) → to_z w32 (cast k) ≡ k
cast-back p s t = ap (λ z. to_z w32 (of_z w32 z)) (value p s).same ∙ back p t

pub casts-back : (xs : List ℤ) → Each1 (Bounded (2 ^ 19)) xs → map (λ x. to_z w32 (cast x)) xs ≡ xs
casts-back [] h = refl
casts-back (x ∷ xs) h = λ i. cast-back h.0 tt tt i ∷ casts-back xs h.1 i

pub backs : (xs : List ℤ) → Each1 (Bounded (2 ^ 19)) xs → map (to_z w32) (map (of_z w32) xs) ≡ xs
backs [] h = refl
backs (x ∷ xs) h = λ i. back h.0 tt i ∷ backs xs h.1 i

-- ---- what is asked, of bits that hold small numbers
abbrev Holds : ℕ → ℕ → Type 0
Holds B b = Bounded B (to_z w32 b)

holds : {B : ℕ} {z : ℤ} → Bounded B z → T (ltb B (2 ^ 31)) → Holds B (of_z w32 z)
holds {B} p t = subst (Bounded B) (sym (back p t)) p

times-asked : (a b : ℕ) → Holds 1 a → Holds (2 ^ 19) b → Asks2 (mul signed) (s_int w32) (s_int w32) a b
times-asked a b h g = let f = small (near-mul h g) tt in search (rules, f)

plus-asked : (m n : ℕ) → T (ltb (m + n) (2 ^ 31)) → (a b : ℕ) → Holds m a → Holds n b → Asks2 (add signed) (s_int w32) (s_int w32) a b
plus-asked m n t a b h g = let f = small (near-add h g) t in search (rules, f)

zip-all : (P Q R : ℕ → Type 0) (f : ℕ → ℕ → ℕ) → ((a b : ℕ) → P a → Q b → R (f a b)) → (ms ns : List ℕ) → Each1 P ms → Each1 Q ns → Each1 R (zip2 f ms ns)
zip-all P Q R f h [] ns p q = tt
zip-all P Q R f h (a ∷ ms) [] p q = tt
zip-all P Q R f h (a ∷ ms) (b ∷ ns) p q = (h a b p.0 q.0, zip-all P Q R f h ms ns p.1 q.1)

module _ (k : ℤ) (short : Bounded 1 k) (xs : List ℤ) (l : Lanes (2 ^ 19) xs) where
  casts-hold : Each1 (Holds 1) (replicate 4 (cast k))
  casts-hold = Each1-replicate (Holds 1) 4 (cast k) (subst (Bounded 1) (sym (cast-back short tt tt)) short)

  lanes-hold : (ys : List ℤ) → Each1 (Bounded (2 ^ 19)) ys → Each1 (Holds (2 ^ 19)) (map (of_z w32) ys)
  lanes-hold [] h = tt
  lanes-hold (y ∷ ys) h = (holds h.0 tt, lanes-hold ys h.1)

  pub products-asked : Each2 (Asks2 (mul signed) (s_int w32) (s_int w32)) (replicate 4 (cast k)) (map (of_z w32) xs)
  products-asked = Each2-of (Holds 1) (Holds (2 ^ 19)) _ times-asked (replicate 4 (cast k)) _ casts-hold (lanes-hold xs l.near)

  pub products-hold : Each1 (Holds (2 ^ 19)) (zip2 Times (replicate 4 (cast k)) (map (of_z w32) xs))
  products-hold = zip-all (Holds 1) (Holds (2 ^ 19)) (Holds (2 ^ 19)) Times (λ a b p q. holds (near-mul p q) tt) (replicate 4 (cast k)) _ casts-hold (lanes-hold xs l.near)

module _ (ms ns : List ℕ) where
  pub sums-asked : Each1 (Holds (2 ^ 19)) ms → Each1 (Holds (2 ^ 19)) ns → Each2 (Asks2 (add signed) (s_int w32) (s_int w32)) ms ns
  sums-asked p q = Each2-of (Holds (2 ^ 19)) (Holds (2 ^ 19)) _ (plus-asked (2 ^ 19) (2 ^ 19) tt) ms ns p q

  pub sums-hold : Each1 (Holds (2 ^ 19)) ms → Each1 (Holds (2 ^ 19)) ns → Each1 (Holds (2 ^ 20)) (zip2 Plus ms ns)
  sums-hold p q = zip-all (Holds (2 ^ 19)) (Holds (2 ^ 19)) (Holds (2 ^ 20)) Plus (λ a b h g. holds (near-add h g) tt) ms ns p q

  pub longer-sums-asked : Each1 (Holds (2 ^ 20)) ms → Each1 (Holds (2 ^ 19)) ns → Each2 (Asks2 (add signed) (s_int w32) (s_int w32)) ms ns
  longer-sums-asked p q = Each2-of (Holds (2 ^ 20)) (Holds (2 ^ 19)) _ (plus-asked (2 ^ 20) (2 ^ 19) tt) ms ns p q

-- ---- what is given
times-is : {k x : ℤ} → Bounded 1 k → Bounded (2 ^ 19) x → Times (cast k) (of_z w32 x) ≡ of_z w32 (k *ℤ x)
times-is h g = λ i. of_z w32 (cast-back h tt tt i *ℤ back g tt i)

plus-is : {m n : ℕ} {x y : ℤ} → Bounded m x → Bounded n y → T (ltb m (2 ^ 31)) → T (ltb n (2 ^ 31)) → Plus (of_z w32 x) (of_z w32 y) ≡ of_z w32 (x +ℤ y)
plus-is h g s t = λ i. of_z w32 (back h s i +ℤ back g t i)

-- all four bits of a mask
mask_full : (bs : List Bool) → nat_eq (mask_l bs + 1) (2 ^ length bs) ≡ list_all (λ b. b) bs
mask_full [] = refl
mask_full (true ∷ bs) = rw (doubled (length bs)) (full (mask_l bs) (2 ^ length bs) ∙ mask_full bs)
  where
    doubled : (n : ℕ) → 2 ^ suc n ≡ 2 * 2 ^ n
    doubled n = omega arith

    full : (m q : ℕ) → nat_eq (1 + 2 * m + 1) (2 * q) ≡ nat_eq (m + 1) q
    full m q = grind arith
mask_full (false ∷ bs) = rw (doubled (length bs)) (odd (mask_l bs) (2 ^ length bs))
  where
    doubled : (n : ℕ) → 2 ^ suc n ≡ 2 * 2 ^ n
    doubled n = omega arith

    odd : (m q : ℕ) → nat_eq (0 + 2 * m + 1) (2 * q) ≡ false
    odd m q = grind arith

all-four : (bs : List Bool) → length bs ≡ 4 → nat_eq (mask_l bs % 2 ^ 64) 15 ≡ list_all (λ b. b) bs
all-four bs e = rw (mask_l-mod bs 64 (omega arith)) (one_more (mask_l bs) ∙ ap (λ n. nat_eq (mask_l bs + 1) (2 ^ n)) (sym e) ∙ mask_full bs)
  where
    one_more : (m : ℕ) → nat_eq m 15 ≡ nat_eq (m + 1) 16
    one_more m = grind arith

top-is : (b : Bool) → top 31 (cond b 4294967295 0) ≡ b
top-is true = refl
top-is false = refl

module _ (d : V3) (within : Within 1 d) where
  short : Reach 1 d
  short = record { x = record { size = within.0 }; y = record { size = within.1 }; z = record { size = within.2 } }

  abbrev Dots : List V3 → Type 0
  Dots vs = Each1 (λ v. Bounded (3 * 2 ^ 19) (dot d v)) vs

  abbrev dots : List V3 → List ℕ
  dots vs = map (λ v. of_z w32 (dot d v)) vs

  product-is : (x y z : ℤ) → Bounded (2 ^ 19) x → Bounded (2 ^ 19) y → Bounded (2 ^ 19) z
      → Plus (Plus (Times (cast d.x) (of_z w32 x)) (Times (cast d.y) (of_z w32 y))) (Times (cast d.z) (of_z w32 z)) ≡ of_z w32 (dot d (vector x y z))
  unfolding dot
  product-is x y z p q r =
      (λ i. Plus (Plus (times-is short.x p i) (times-is short.y q i)) (times-is short.z r i))
      ∙ (λ i. Plus (plus-is (near-mul short.x p) (near-mul short.y q) tt tt i) (of_z w32 (d.z *ℤ z)))
      ∙ plus-is (near-add (near-mul short.x p) (near-mul short.y q)) (near-mul short.z r) tt tt

  abbrev sums : List ℤ → List ℤ → List ℤ → ℕ → List ℕ
  sums xs ys zs n =
      zip2 Plus (zip2 Plus (zip2 Times (replicate n (cast d.x)) (map (of_z w32) xs)) (zip2 Times (replicate n (cast d.y)) (map (of_z w32) ys)))
      (zip2 Times (replicate n (cast d.z)) (map (of_z w32) zs))

  -- the products with all that stand in lanes
  sums-are : (xs ys zs : List ℤ) → length ys ≡ length xs → length zs ≡ length xs → Each1 (Bounded (2 ^ 19)) xs → Each1 (Bounded (2 ^ 19)) ys → Each1 (Bounded (2 ^ 19)) zs
      → let vs = vectors (record { x = xs; y = ys; z = zs }) in (sums xs ys zs (length xs) ≡ dots vs) × (Dots vs × (length vs ≡ length xs))
  sums-are [] ys zs e f p q r = (refl, (tt, refl))
  sums-are (x ∷ xs) [] zs e f p q r = absurd (omega arith)
  sums-are (x ∷ xs) (y ∷ ys) [] e f p q r = absurd (omega arith)
  sums-are (x ∷ xs) (y ∷ ys) (z ∷ zs) e f p q r =
      let rest = sums-are xs ys zs (omega arith) (omega arith) p.1 q.1 r.1 in
      ((λ i. product-is x y z p.0 q.0 r.0 i ∷ rest.0 i), ((dot-near short (record { x = p.0; y = q.0; z = r.0 }), rest.1.0), ap suc rest.1.1))

  tops-above : (vs : List V3) → Dots vs → map (top 31) (zip2 Less (replicate (length vs) 0) (dots vs)) ≡ map (above d) vs
  tops-above [] h = refl
  tops-above (v ∷ vs) h = λ i. (top-is (lt_z (pos 0) (to_z w32 (of_z w32 (dot d v)))) ∙ ap (lt_z (pos 0)) (back h.0 tt)) i ∷ tops-above vs h.1 i

  tops-below : (vs : List V3) → Dots vs → map (top 31) (zip2 Less (dots vs) (replicate (length vs) 0)) ≡ map (below d) vs
  tops-below [] h = refl
  tops-below (v ∷ vs) h = λ i. (top-is (lt_z (to_z w32 (of_z w32 (dot d v))) (pos 0)) ∙ ap (λ (z : ℤ). lt_z z (pos 0)) (back h.0 tt)) i ∷ tops-below vs h.1 i

  abbrev is_full : List Bool → Bool
  is_full bs = nat_eq (mask_l bs % 2 ^ 64) 15

  all-of : (p : V3 → Bool) (vs : List V3) → length vs ≡ 4 → is_full (map p vs) ≡ list_all p vs
  all-of p vs e = all-four (map p vs) (length-map vs p ∙ e) ∙ list_all-map (λ b. b) p vs

  -- ---- of what stands in lanes
  module _ (w : Vectors) (l : InLanes w) where
    abbrev along : List ℕ
    along = sums w.x w.y w.z 4

    all : (along ≡ dots (vectors w)) × (Dots (vectors w) × (length (vectors w) ≡ 4))
    all =
        let s = sums-are w.x w.y w.z (l.y.four ∙ sym l.x.four) (l.z.four ∙ sym l.x.four) l.x.near l.y.near l.z.near in
        ((λ i. sums w.x w.y w.z (sym l.x.four i)) ∙ s.0, (s.1.0, s.1.1 ∙ l.x.four))

    pub above-is : is_full (map (top 31) (zip2 Less (replicate 4 0) along)) ≡ list_all (above d) (vectors w)
    above-is =
        (λ i. is_full (map (top 31) (zip2 Less (replicate (sym all.1.1 i) 0) (all.0 i))))
        ∙ ap is_full (tops-above (vectors w) all.1.0) ∙ all-of (above d) (vectors w) all.1.1

    pub below-is : is_full (map (top 31) (zip2 Less along (replicate 4 0))) ≡ list_all (below d) (vectors w)
    below-is =
        (λ i. is_full (map (top 31) (zip2 Less (all.0 i) (replicate (sym all.1.1 i) 0))))
        ∙ ap is_full (tops-below (vectors w) all.1.0) ∙ all-of (below d) (vectors w) all.1.1
