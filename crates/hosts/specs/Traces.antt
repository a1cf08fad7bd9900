-- The calls that a work makes, one after another: V are its events, C the calls that can fail.
use Rattle.std.specs.Prelude.{◌≡◌, ℕ, List, [], ◌∷◌, ◌++◌}

-- from the one state to the other by these events
pub data Went {S V : Type 0} (does : S → V → S → Type 0) : S → List V → S → Type 0 where
  nothing : {s : S} → Went does s [] s
  next : {s t u : S} {es : List V} (e : V)
      → Went does s es t → does t e u → Went does s (es ++ (e ∷ [])) u

-- a front of these bytes was written, and then the call failed
pub record CutOff {S V C E : Type 0}
    (does : S → V → S → Type 0) (fails : S → C → E → S → Type 0)
    (s : S) (event : List ℕ → V) (call : C) (bytes : List ℕ) (e : E) (t : S)
    : Type 0 where
  pub front : List ℕ
  pub rest : List ℕ
  pub split : bytes ≡ front ++ rest
  pub before : S
  pub did : does s (event front) before
  pub failed : fails before call e t
