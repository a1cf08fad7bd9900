-- A walk sorts each pair to the refused or to the accepted.
use Rattle.std.proofs.Common.{◌≡◌, ◌+◌, ◌≤◌, Bool, Some, None, Option, List, [], ◌∷◌, ◌++◌, length, drop, flat_map, ◌⊎◌, All, Any, Contains, refl, subst, sym, ap, ◌∙◌, inl, inr, arith, append_assoc, append-nil, length-append}
use Rattle.std.proofs.Math.Seq.{drop-append_seam, drop-length}
use Rattle.std.proofs.lemmas.List.Concat.{flat_map-append}
use Rattle.std.proofs.lemmas.List.Sums.{fold-append}
use Rattle.std.proofs.lemmas.List.Elements.{All-weaker, All-nil, All-cons, Contains-append_left, Contains-append_right}
use Rattle.motion.specs.declared.shapes.Shape.{Shape}
use Rattle.sheet.specs.declared.notices.Notice.{Notice}
use Rattle.inspection.specs.declared.offerings.Offering.{Offering}
use Rattle.inspection.specs.Runs.{Accepted}
use Rattle.inspection.specs.Sheets.{Sheet}
use Rattle.works.specs.inspect.Walks.{Walk, Refusal, refusal_written, sorted_in, refusal, walk_on, walked, newly_refused, refusals_written}

-- one walk goes on with the other
record GoesOn (w v : Walk) : Type 0 where
  refused_rest : List Refusal
  refused : v.refused ≡ w.refused ++ refused_rest
  accepted_rest : List Accepted
  accepted : v.accepted ≡ w.accepted ++ accepted_rest

abbrev pub HasAccepted : Walk → Offering → Type 0
HasAccepted w o = Any (λ a. a.what ≡ o) w.accepted

abbrev pub HasRefused : Walk → Offering → Type 0
HasRefused w o = Any (λ r. r.pair ≡ o) w.refused

abbrev pub IsSorted : Walk → Offering → Type 0
IsSorted w o = HasAccepted w o ⊎ HasRefused w o

-- what is in a list is in a longer one
still : {X : Type 0} (P : X → Type 0) (xs ys zs : List X) → zs ≡ xs ++ ys → Any P xs → Any P zs
still P xs ys zs e (k, x, here, is, holds) =
    let c = subst (λ (l : List _). Contains l x) (sym e) (Contains-append_left xs ys x (k, here, is)) in
    (c.0, x, c.1, c.2, holds)

at_end : {X : Type 0} (P : X → Type 0) (xs : List X) (x : X) → P x → Any P (xs ++ (x ∷ []))
at_end P xs x holds = let c = Contains-append_right xs (x ∷ []) x (0, omega arith, refl) in (c.0, x, c.1, c.2, holds)

stays : (w v : Walk) → GoesOn w v → (o : Offering) → IsSorted w o → IsSorted v o
stays w v g o (inl a) = inl (still (λ a. a.what ≡ o) w.accepted g.accepted_rest v.accepted g.accepted a)
stays w v g o (inr r) = inr (still (λ r. r.pair ≡ o) w.refused g.refused_rest v.refused g.refused r)

module _ (set : Shape → Bool) (s : Sheet) where
  goes_on_one : (w : Walk) (o : Offering) (n : Option Notice) → GoesOn w (sorted_in set s w o n)
  goes_on_one w o None = record { refused_rest = []; refused = sym (append-nil w.refused); accepted_rest = _; accepted = refl }
  goes_on_one w o (Some n) = record { refused_rest = _; refused = refl; accepted_rest = []; accepted = sym (append-nil w.accepted) }

  goes_on : (w : Walk) (os : List Offering) → GoesOn w (walked set s w os)
  goes_on w [] = record { refused_rest = []; refused = sym (append-nil w.refused); accepted_rest = []; accepted = sym (append-nil w.accepted) }
  goes_on w (o ∷ os) =
      let a = goes_on_one w o (refusal set s o w.found) in
      let b = goes_on (walk_on set s w o) os in
      record {
        refused_rest = a.refused_rest ++ b.refused_rest;
        refused = b.refused ∙ ap (λ rs. rs ++ b.refused_rest) a.refused ∙ append_assoc w.refused a.refused_rest b.refused_rest;
        accepted_rest = a.accepted_rest ++ b.accepted_rest;
        accepted = b.accepted ∙ ap (λ rs. rs ++ b.accepted_rest) a.accepted ∙ append_assoc w.accepted a.accepted_rest b.accepted_rest;
      }

  -- ---- those that are refused when it goes on
  newly_is : (w : Walk) (os : List Offering) → newly_refused set s w os ≡ (goes_on w os).refused_rest
  newly_is w os = let g = goes_on w os in ap (drop (length w.refused)) g.refused ∙ drop-append_seam w.refused g.refused_rest

  newly : (w : Walk) (os : List Offering) → (walked set s w os).refused ≡ w.refused ++ newly_refused set s w os
  newly w os = (goes_on w os).refused ∙ ap (λ rs. w.refused ++ rs) (sym (newly_is w os))

  newly_then : (w : Walk) (os more : List Offering) → newly_refused set s w (os ++ more) ≡ newly_refused set s w os ++ newly_refused set s (walked set s w os) more
  newly_then w os more =
      let first = newly_refused set s w os in
      let second = newly_refused set s (walked set s w os) more in
      ap (λ (v : Walk). drop (length w.refused) v.refused) (fold-append (walk_on set s) w os more)
      ∙ ap (drop (length w.refused)) (newly (walked set s w os) more ∙ ap (λ rs. rs ++ second) (newly w os) ∙ append_assoc w.refused first second)
      ∙ drop-append_seam w.refused (first ++ second)

  pub written_then : (w : Walk) (os more : List Offering) → refusals_written set s w (os ++ more) ≡ refusals_written set s w os ++ refusals_written set s (walked set s w os) more
  written_then w os more =
      ap (flat_map refusal_written) (newly_then w os more) ∙ flat_map-append refusal_written (newly_refused set s w os) (newly_refused set s (walked set s w os) more)

  pub none_written : (w : Walk) → refusals_written set s w [] ≡ []
  none_written w = ap (flat_map refusal_written) (drop-length w.refused)

  sorted_one : (w : Walk) (o : Offering) (n : Option Notice) → IsSorted (sorted_in set s w o n) o
  sorted_one w o (Some n) = inr (at_end (λ r. r.pair ≡ o) w.refused (record { pair = o; why = n }) refl)
  sorted_one w o None = inl (at_end (λ a. a.what ≡ o) w.accepted (record { what = o; depth = w.found.core.depth }) refl)

  pub all_sorted : (w : Walk) (os : List Offering) → All (IsSorted (walked set s w os)) os
  all_sorted w [] = All-nil (IsSorted w)
  all_sorted w (o ∷ os) =
      let after = walk_on set s w o in
      let v = walked set s after os in
      All-cons (IsSorted v) o os (stays after v (goes_on after os) o (sorted_one w o (refusal set s o w.found))) (all_sorted after os)

  pub all_accepted : (w : Walk) (os : List Offering) → (walked set s w os).refused ≡ [] → All (HasAccepted (walked set s w os)) os
  all_accepted w os none =
      let v = walked set s w os in
      All-weaker (IsSorted v) (HasAccepted v) (λ o sorted. by v none o sorted) os (all_sorted w os)
    where
      by : (v : Walk) → v.refused ≡ [] → (o : Offering) → IsSorted v o → HasAccepted v o
      by v none o (inl a) = a
      by v none o (inr (k, r, here, is, same)) = absurd (omega (arith, here, ap length none))

  -- no more are refused than are offered
  one_more_at_most : (w : Walk) (o : Offering) (n : Option Notice) → length (sorted_in set s w o n).refused ≤ length w.refused + 1
  one_more_at_most w o None = omega arith
  one_more_at_most w o (Some n) = omega (arith, length-append w.refused (record { pair = o; why = n } ∷ []))

  pub refused_at_most : (w : Walk) (os : List Offering) → length (walked set s w os).refused ≤ length w.refused + length os
  refused_at_most w [] = omega arith
  refused_at_most w (o ∷ os) = omega (arith, refused_at_most (walk_on set s w o) os, one_more_at_most w o (refusal set s o w.found))
