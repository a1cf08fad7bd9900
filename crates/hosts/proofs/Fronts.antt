-- Fronts of lists.
use Rattle.std.proofs.Common.{◌≡◌, List, [], ◌∷◌, ◌++◌, flat_map, refl, sym, ap, ◌∙◌, append_assoc, append-nil}
use Rattle.std.proofs.lemmas.List.Concat.{flat_map-append}
use Rattle.hosts.specs.Works.{IsFront}

module _ {X : Type 0} where
  pub whole : (xs : List X) → IsFront xs xs
  whole xs = record { rest = []; split = sym (append-nil xs) }

  pub front_of : (xs ys zs : List X) → zs ≡ xs ++ ys → IsFront xs zs
  front_of xs ys zs e = record { rest = ys; split = e }

  pub front_of_front : (xs ys zs : List X) → IsFront xs ys → IsFront ys zs → IsFront xs zs
  front_of_front xs ys zs f g =
      record {
        rest = f.rest ++ g.rest;
        split = g.split ∙ ap (λ l. l ++ g.rest) f.split ∙ append_assoc xs f.rest g.rest;
      }

  -- behind the same
  pub front_behind : (before xs ys : List X) → IsFront xs ys → IsFront (before ++ xs) (before ++ ys)
  front_behind before xs ys f = record { rest = f.rest; split = ap (λ l. before ++ l) f.split ∙ sym (append_assoc before xs f.rest) }

  pub front_longer : (xs ys more : List X) → IsFront xs ys → IsFront xs (ys ++ more)
  front_longer xs ys more f = record { rest = f.rest ++ more; split = ap (λ l. l ++ more) f.split ∙ append_assoc xs f.rest more }

  -- of what each gives
  pub front_each : {Y : Type 0} (f : X → List Y) (xs ys : List X) → IsFront xs ys → IsFront (flat_map f xs) (flat_map f ys)
  front_each f xs ys g = record { rest = flat_map f g.rest; split = ap (flat_map f) g.split ∙ flat_map-append f xs g.rest }

  -- before nothing stands nothing
  pub none_before : (xs ys : List X) → xs ++ ys ≡ [] → xs ≡ []
  none_before [] ys none = refl
  none_before (x ∷ xs) ys none = cc
