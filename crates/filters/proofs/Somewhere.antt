-- A direction that parts a test: among the first of the table, or among the rest.
use Rattle.std.proofs.Common.{◌≡◌, ◌||◌, Bool, true, false, List, ◌++◌, take, drop, sym, ◌∙◌}
use Rattle.std.specs.List.{list_any}
use Rattle.std.proofs.lemmas.List.Folds.{list_any-append}
use Rattle.motion.specs.declared.shapes.V3.{V3}
use Rattle.motion.specs.declared.shapes.Shape.{Shape}
use Rattle.motion.specs.Slab.{parted_along, directions, slab_set}
use Rattle.filters.specs.inner.Slabs.{diagonals}

module _ (f : V3 → Bool) (ds es : List V3) where
  in-front : (a : Bool) → a ≡ list_any f ds → a ≡ true → a ≡ list_any f (ds ++ es)
  in-front a e h = or-true a _ _ e h ∙ sym (list_any-append f ds es)
    where
      or-true : (a c d : Bool) → a ≡ c → a ≡ true → a ≡ (c || d)
      or-true a c d e h = cc

  in-rest : (a b : Bool) → a ≡ list_any f ds → a ≡ false → b ≡ list_any f es → b ≡ list_any f (ds ++ es)
  in-rest a b e h k = or-false a b _ _ e h k ∙ sym (list_any-append f ds es)
    where
      or-false : (a b c d : Bool) → a ≡ c → a ≡ false → b ≡ d → b ≡ (c || d)
      or-false a b c d e h k = cc

-- the directions by how many of their entries are not 0
abbrev axes : List V3
axes = take 3 directions

abbrev of_two : List V3
of_two = take 6 diagonals

abbrev of_three : List V3
of_three = drop 6 diagonals

module _ (t : Shape) (table : List V3) (same : table ≡ directions) where
  abbrev parted : List V3 → Bool
  parted = list_any (parted_along t)

  pub by_an_axis : (a : Bool) → a ≡ parted (take 3 table) → a ≡ true → a ≡ slab_set t
  by_an_axis a e h = in-front (parted_along t) axes diagonals a (e ∙ (λ i. parted (take 3 (same i)))) h

  pub by_no_axis : (a b : Bool) → a ≡ parted (take 3 table) → a ≡ false → b ≡ parted diagonals → b ≡ slab_set t
  by_no_axis a b e h k = in-rest (parted_along t) axes diagonals a b (e ∙ (λ i. parted (take 3 (same i)))) h k

  pub by_two : (a : Bool) → a ≡ parted (take 6 (drop 3 table)) → a ≡ true → a ≡ parted diagonals
  by_two a e h = in-front (parted_along t) of_two of_three a (e ∙ (λ i. parted (take 6 (drop 3 (same i))))) h

  pub by_three : (a b : Bool) (again : List V3) → a ≡ parted (take 6 (drop 3 table)) → a ≡ false → again ≡ directions → b ≡ parted (take 4 (drop 9 again)) → b ≡ parted diagonals
  by_three a b again e h s k =
      in-rest (parted_along t) of_two of_three a b (e ∙ (λ i. parted (take 6 (drop 3 (same i))))) h (k ∙ (λ i. parted (take 4 (drop 9 (s i)))))
