-- Working through requests is a run, and its accepted offers are the run's history.
use Rattle.std.proofs.Common.{◌≡◌, ℕ, ◌+◌, Bool, cond, is_ok, List, [], ◌∷◌, ◌++◌, sym, refl, ap, ◌∙◌, subst, ◌<◌, length, get_or, take, drop, set as list_set, arith}
use Rattle.std.proofs.lemmas.List.{take_more, take_more_set, drop-set-lt, drop-drop}
use Rattle.sheet.specs.declared.drafts.Draft.{Draft}
use Rattle.sheet.specs.declared.rows.Point.{Point}
use Rattle.sheet.specs.declared.rows.Face.{Face}
use Rattle.motion.specs.declared.shapes.Shape.{Shape}
use Rattle.inspection.specs.declared.requests.Request.{Request}
use Rattle.inspection.specs.declared.requests.Request.TheVariants as request
use Rattle.inspection.specs.declared.requests.Answer.{Answer}
use Rattle.motion.specs.declared.shapes.Kind.TheVariants.{Vf, Ee}
use Rattle.inspection.specs.Sheets.{sheet_in}
use Rattle.inspection.specs.States.{State}
use Rattle.inspection.specs.Runs.{Accepted, history_after, Run, depth_set, offered, asked}
use Rattle.inspection.specs.Requests.{RequestCall, Calls, history_from}

module _ (set : Shape → Bool) (ps : List Point) (fs : List Face) where
  -- ---- a run goes on by what is worked
  module _ (d : Draft) where
    abbrev Runs : List Accepted → State → Type 0
    Runs h s = Run set d (sheet_in d ps fs) h [] s

    pub worked-runs : (h : List Accepted) (qs : List Request) (rs : List Answer) (s t : State) → Runs h s → Calls set ps fs qs rs s t → Runs (history_from h s.core.depth qs rs) t
    worked-runs h [] [] s t r w = asked t r w
    worked-runs h [] (a ∷ rs) s t r w = absurd w
    worked-runs h (q ∷ qs) [] s t r w = absurd w
    worked-runs h (request.SetDepth k ∷ qs) (a ∷ rs) s t r (u, ((x, (e, b, v)), w)) =
        let depth : u.core.depth ≡ cond (is_ok x) k s.core.depth = grind (arith, b.core) in
        rw (e, sym depth) (worked-runs h qs rs u t (depth_set k x u r b v) w)
    worked-runs h (request.Offer o ∷ qs) (a ∷ rs) s t r (u, ((x, (e, b)), w)) =
        let depth : u.core.depth ≡ s.core.depth = grind (arith, b.state) in
        rw e (subst (λ (m : ℕ). Runs (history_from (history_after h o s.core.depth x) m qs rs) t) depth (worked-runs (history_after h o s.core.depth x) qs rs u t (offered ps fs o x u r (λ b. refl) b) w))
    worked-runs h (request.Window Vf i ∷ qs) (a ∷ rs) s t r (u, ((x, (e, b, v)), w)) = rw (sym v) (worked-runs h qs rs u t (asked u r v) w)
    worked-runs h (request.Window Ee i ∷ qs) (a ∷ rs) s t r (u, ((x, (e, b, v)), w)) = rw (sym v) (worked-runs h qs rs u t (asked u r v) w)
    worked-runs h (request.Earliest Vf i ∷ qs) (a ∷ rs) s t r (u, ((x, (e, b, v)), w)) = rw (sym v) (worked-runs h qs rs u t (asked u r v) w)
    worked-runs h (request.Earliest Ee i ∷ qs) (a ∷ rs) s t r (u, ((x, (e, b, v)), w)) = rw (sym v) (worked-runs h qs rs u t (asked u r v) w)

  -- ---- one request more, worked at the end
  pub worked-more : (qs : List Request) (rs : List Answer) (q : Request) (a : Answer) (s t u : State)
      → Calls set ps fs qs rs s t → RequestCall set ps fs q a t u → Calls set ps fs (qs ++ (q ∷ [])) (rs ++ (a ∷ [])) s u
  worked-more [] [] q a s t u w b = (u, (subst (λ (x : State). RequestCall set ps fs q a x u) w b, refl))
  worked-more [] (x ∷ rs) q a s t u w b = absurd w
  worked-more (y ∷ qs) [] q a s t u w b = absurd w
  worked-more (y ∷ qs) (x ∷ rs) q a s t u w b = (w.0, (w.1.0, worked-more qs rs q a w.0 t u w.1.1 b))

-- ---- as a loop over both lists goes on
module _ (set : Shape → Bool) (ps : List Point) (fs : List Face) where
  pub worked_on : (qs : List Request) (rs : List Answer) (i : ℕ) (d : Request) (a : Answer) (s t u : State) → i < length qs → i < length rs
      → Calls set ps fs (take i qs) (take i rs) s t → RequestCall set ps fs (get_or qs i d) a t u
      → Calls set ps fs (take (i + 1) qs) (take (i + 1) (list_set rs i a)) s u
  worked_on qs rs i d a s t u h k w b =
      rw (take_more qs i d h, take_more_set rs i a k) (worked-more set ps fs (take i qs) (take i rs) (get_or qs i d) a s t u w b)

pub rest_more : {A : Type 0} (xs ys : List A) (i : ℕ) (a : A) → drop i xs ≡ drop i ys → drop (i + 1) (list_set xs i a) ≡ drop (i + 1) ys
rest_more xs ys i a e = drop-set-lt (i + 1) xs i a (omega arith) ∙ sym (drop-drop 1 i xs) ∙ ap (drop 1) e ∙ drop-drop 1 i ys
