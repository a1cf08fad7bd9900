-- What holds of faces far apart and of the near pairs holds of every two faces.
use Rattle.std.proofs.Common.{◌≡◌, ℕ, ◌<◌, Bool, true, false, [], length, All, refl, ◌∙◌, inr, ⊎_elim, arith}
use Rattle.std.proofs.lemmas.Bool.{cases_Bool, cases_lt}
use Rattle.std.proofs.lemmas.List.{length-map, get_or-map}
use Rattle.std.proofs.lemmas.List.Elements.{All-contains}
use Rattle.inspection.specs.declared.offerings.Offering.{Offering}
use Rattle.inspection.specs.declared.offerings.Offering.TheVariants.{Faces}
use Rattle.inspection.specs.Offerings.{SameOffering}
use Rattle.inspection.specs.Sheets.{Sheet, no_face, face_at}
use Rattle.near_faces.specs.declared.pairs.Pair.{Pair}
use Rattle.near_faces.specs.Boxes.{box_around, swept_box, swept_boxes, meets}
use Rattle.near_faces.specs.Near.{pair, near_pairs, Near}
use Rattle.near_faces.proofs.Completing.{complete}

module _ (s : Sheet) (P : Offering → Type 0) (turned : (o p : Offering) → SameOffering o p → P p → P o) where
  abbrev boxes_meet : ℕ → ℕ → Bool
  boxes_meet f g = meets (swept_box s (face_at s f)) (swept_box s (face_at s g))

  module _ (far : (f g : ℕ) → f < length s.faces → g < length s.faces → boxes_meet f g ≡ false → P (Faces f g)) (near : All (λ (q : Pair). P (Faces q.first q.second)) (near_pairs s)) where
    meeting : (f g : ℕ) → f < g → g < length s.faces → boxes_meet f g ≡ true → P (Faces f g)
    meeting f g less inside m =
        let at = λ (k : ℕ) (h : k < length s.faces). get_or-map (swept_box s) s.faces k no_face (box_around []) h in
        let is_near : Near (swept_boxes s) (pair f g) = record {
          lower_first = less;
          within = omega (arith, length-map s.faces (swept_box s));
          meet = (λ i. meets (at f (omega arith) i) (at g inside i)) ∙ m;
        } in
        All-contains (λ (q : Pair). P (Faces q.first q.second)) (near_pairs s) (pair f g) near ((complete (swept_boxes s)).all (pair f g) is_near)

    in_order : (f g : ℕ) → f < g → g < length s.faces → P (Faces f g)
    in_order f g less inside = ⊎_elim (meeting f g less inside) (far f g (omega arith) inside) (cases_Bool (boxes_meet f g))

    pub each_two : (f g : ℕ) → f < length s.faces → g < length s.faces → ¬ (f ≡ g) → P (Faces f g)
    each_two f g hf hg two =
        ⊎_elim (λ less. in_order f g less hg) (λ le. turned (Faces f g) (Faces g f) (inr (refl, refl)) (in_order g f (omega arith) hf)) (cases_lt f g)
