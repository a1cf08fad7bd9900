-- What holds of all members of a list, against tests of the list.
use Rattle.std.proofs.Common.{◌≡◌, zero, suc, Bool, true, List, [], ◌∷◌, map, refl, arith}
use Rattle.std.proofs.lemmas.Bool.{and_parts, and_from}
use Rattle.std.specs.List.{All, list_all}

abbrev pub Each : {A : Type 0} → (A → Type 0) → List A → Type 0
Each P [] = Unit {0}
Each P (x ∷ xs) = P x × Each P xs

pub each-map : {A : Type 0} {P Q : A → Type 0} → ((x : A) → P x → Q x) → (xs : List A) → Each P xs → Each Q xs
each-map f [] h = tt
each-map f (x ∷ xs) (p, h) = (f x p, each-map f xs h)

pub each-passes : {A : Type 0} {P : A → Type 0} {f : A → Bool} → ((x : A) → f x ≡ true → P x) → (xs : List A) → list_all f xs ≡ true → Each P xs
each-passes k [] h = tt
each-passes k (x ∷ xs) h = let p = and_parts _ _ h in (k x p.0, each-passes k xs p.1)

pub each-to-all : {A : Type 0} {P : A → Type 0} (f : A → Bool) → ((x : A) → P x → f x ≡ true) → (xs : List A) → Each P xs → list_all f xs ≡ true
each-to-all f k [] h = refl
each-to-all f k (x ∷ xs) (p, h) = and_from _ _ (k x p) (each-to-all f k xs h)

-- what all of a list pass, all that they turn into pass
pub all-map : {A : Type 0} {f : A → Bool} (g : A → Bool) (h : A → A) → ((x : A) → f x ≡ true → g (h x) ≡ true) → (xs : List A) → list_all f xs ≡ true → list_all g (map h xs) ≡ true
all-map g h k [] e = refl
all-map g h k (x ∷ xs) e = let p = and_parts _ _ e in and_from _ _ (k x p.0) (all-map g h k xs p.1)

pub each-at : {A : Type 0} (P : A → Type 0) (xs : List A) → Each P xs → All P xs
each-at P [] h k d b = absurd (omega arith)
each-at P (x ∷ xs) (p, h) zero d b = p
each-at P (x ∷ xs) (p, h) (suc k) d b = each-at P xs h k d (omega arith)
