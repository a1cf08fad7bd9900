-- Deeds one after another, of which one may fail.
use Rattle.std.proofs.Common.{◌≡◌, List, [], ◌∷◌, Ok, Err, Result, MatchResult, refl, sym, ap, subst}
use Rattle.hosts.specs.Traces.{nothing, next}
use Rattle.hosts.proofs.Histories.{went_first}
use Rattle.system.specs.Deeds.{Deed, Task, task_of, DoesAll}

module _ {S F E : Type 0} (does : S → Deed F → S → Type 0) (fails : S → Task F → E → S → Type 0) where
  does_then : {X : Type 0} (d : Deed F) (ds : List (Deed F)) (s t u : S) (r : Result X E) → does s d t → DoesAll does fails ds t r u → DoesAll does fails (d ∷ ds) s r u
  does_then d ds s t u (Ok x) first w = went_first does d first w
  does_then d ds s t u (Err e) first f =
      record { front = d ∷ f.front; next = f.next; rest = f.rest; split = ap (λ l. d ∷ l) f.split; before = f.before; went = went_first does d first f.went; failed = f.failed }

  fails_at : (X : Type 0) (d : Deed F) (ds : List (Deed F)) (s t : S) (e : E) → fails s (task_of d) e t → (let r : Result X E = Err e in DoesAll does fails (d ∷ ds) s r t)
  fails_at X d ds s t e f = record { front = []; next = d; rest = ds; split = refl; before = s; went = nothing; failed = f }

  pub does_one : {X : Type 0} (d : Deed F) (s t : S) (r : Result X E) → MatchResult r (λ x. does s d t) (λ e. fails s (task_of d) e t) → DoesAll does fails (d ∷ []) s r t
  does_one d s t (Ok x) did = next d nothing did
  does_one {X} d s t (Err e) f = fails_at X d [] s t e f

  pub does_two : {X : Type 0} (d d' : Deed F) (s t u : S) (r : Result X E) → does s d t → MatchResult r (λ x. does t d' u) (λ e. fails t (task_of d') e u) → DoesAll does fails (d ∷ (d' ∷ [])) s r u
  does_two d d' s t u r first second = does_then d (d' ∷ []) s t u r first (does_one d' t u r second)

  pub fails_first : {X : Type 0} (d : Deed F) (ds : List (Deed F)) (s t : S) (e : E) (r : Result X E) → fails s (task_of d) e t → r ≡ Err e → DoesAll does fails (d ∷ ds) s r t
  fails_first {X} d ds s t e r f is = subst (λ r. DoesAll does fails (d ∷ ds) s r t) (sym is) (fails_at X d ds s t e f)
