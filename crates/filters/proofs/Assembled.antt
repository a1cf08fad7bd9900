-- Vectors, put into lanes.
use Rattle.std.proofs.Common.{◌≡◌, ◌^◌, List, [], ◌∷◌, map, ℤ, refl, ◌∙◌, sym, subst, length, w32, w64, to_z, of_z}
use lib.Lanes.{Each1}
use Rattle.std.proofs.lemmas.List.{length-map}
use Rattle.motion.specs.declared.shapes.V3.{V3}
use Rattle.filters.specs.inner.Bounds.{Bounded, Reach}
use Rattle.filters.specs.inner.Lanes.{vectors, Lanes, InLanes}
use Rattle.filters.proofs.Exact.{value}
use Rattle.filters.proofs.Laned.{backs}

reassembled : (vs : List V3) → vectors (record { x = map (λ v. v.x) vs; y = map (λ v. v.y) vs; z = map (λ v. v.z) vs }) ≡ vs
reassembled [] = refl
reassembled (v ∷ vs) = λ i. v ∷ reassembled vs i

-- a coordinate, as 64 bits hold it
abbrev held : (V3 → ℤ) → V3 → ℤ
held f v = to_z w64 (of_z w64 (f v))

module _ (vs : List V3) (reach : Each1 (Reach (2 ^ 19)) vs) where
  -- one coordinate of them, as it comes back from lanes
  module _ (f : V3 → ℤ) (near : (v : V3) → Reach (2 ^ 19) v → Bounded (2 ^ 19) (f v)) (xs : List ℤ) (e : xs ≡ map (held f) vs) where
    all-near : (us : List V3) → Each1 (Reach (2 ^ 19)) us → Each1 (Bounded (2 ^ 19)) (map f us)
    all-near [] h = tt
    all-near (u ∷ us) h = (near u h.0, all-near us h.1)

    as-held : (us : List V3) → Each1 (Reach (2 ^ 19)) us → map (held f) us ≡ map f us
    as-held [] h = refl
    as-held (u ∷ us) h = λ i. (value (near u h.0) tt).same i ∷ as-held us h.1 i

    one : map (to_z w32) (map (of_z w32) xs) ≡ map f vs
    one = (λ i. map (to_z w32) (map (of_z w32) ((e ∙ as-held vs reach) i))) ∙ backs (map f vs) (all-near vs reach)

    one-lanes : length (map f vs) ≡ 4 → Lanes (2 ^ 19) (map (to_z w32) (map (of_z w32) xs))
    one-lanes h = subst (Lanes (2 ^ 19)) (sym one) (record { four = h; near = all-near vs reach })

  module _ (xs ys zs : List ℤ) (e : xs ≡ map (held (λ v. v.x)) vs) (g : ys ≡ map (held (λ v. v.y)) vs) (h : zs ≡ map (held (λ v. v.z)) vs) where
    abbrev back : List ℤ → List ℤ
    back ns = map (to_z w32) (map (of_z w32) ns)

    pub made : vectors (record { x = back xs; y = back ys; z = back zs }) ≡ vs
    made =
        (λ i. vectors (record { x = one (λ v. v.x) (λ v r. r.x) xs e i; y = one (λ v. v.y) (λ v r. r.y) ys g i; z = one (λ v. v.z) (λ v r. r.z) zs h i }))
        ∙ reassembled vs

    pub made-lanes : length vs ≡ 4 → InLanes (record { x = back xs; y = back ys; z = back zs })
    made-lanes n =
        record {
          x = one-lanes (λ v. v.x) (λ v r. r.x) xs e (length-map vs (λ v. v.x) ∙ n);
          y = one-lanes (λ v. v.y) (λ v r. r.y) ys g (length-map vs (λ v. v.y) ∙ n);
          z = one-lanes (λ v. v.z) (λ v r. r.z) zs h (length-map vs (λ v. v.z) ∙ n);
        }
