-- Which check fits first, of some checks and those after them.
use Rattle.std.proofs.Common.{◌≡◌, Bool, false, cond, List, [], ◌∷◌, ◌++◌, Some, None, Option, refl, ap, ◌∙◌, arith}
use Rattle.std.specs.Option.{option_or}
use Rattle.sheet.specs.Checks.{Check, first_fit}
use Rattle.sheet.specs.declared.notices.Notice.{Notice}

pub first_fit_append : (cs ds : List Check) → first_fit (cs ++ ds) ≡ option_or (first_fit cs) (first_fit ds)
first_fit_append [] ds = refl
first_fit_append (c ∷ cs) ds = ap (cond c.fits (Some c.tells)) (first_fit_append cs ds) ∙ by_fit c.fits c.tells (first_fit cs) (first_fit ds)
  where
    by_fit : (b : Bool) (n : Notice) (o p : Option Notice) → cond b (Some n) (option_or o p) ≡ option_or (cond b (Some n) o) p
    by_fit b n o p = grind arith

-- of the front none fits
pub past : (cs ds : List Check) → None ≡ first_fit cs → first_fit ds ≡ first_fit (cs ++ ds)
past cs ds e = rw (first_fit_append cs ds, ← e) refl

-- one of the front fits
pub stop : (cs ds : List Check) (n : Notice) → Some n ≡ first_fit cs → Some n ≡ first_fit (cs ++ ds)
stop cs ds n e = rw (first_fit_append cs ds, ← e) refl

-- where none fits, the front one does not
pub no_fit : (c : Check) (cs : List Check) → first_fit (c ∷ cs) ≡ None → (c.fits ≡ false) × (first_fit cs ≡ None)
no_fit c cs e = (grind arith, grind arith)

pub none_parts : (cs ds : List Check) → first_fit (cs ++ ds) ≡ None → (first_fit cs ≡ None) × (first_fit ds ≡ None)
none_parts cs ds e = let both = rw first_fit_append at e in (grind arith, grind arith)

-- not one fits
abbrev pub NoneFits : List Check → Type 0
NoneFits [] = Unit {0}
NoneFits (c ∷ cs) = (c.fits ≡ false) × NoneFits cs

pub fits_none : (cs : List Check) → NoneFits cs → first_fit cs ≡ None
fits_none [] h = refl
fits_none (c ∷ cs) (e, h) = rw e (fits_none cs h)

pub none_fits : (cs : List Check) → first_fit cs ≡ None → NoneFits cs
none_fits [] e = tt
none_fits (c ∷ cs) e = let p = no_fit c cs e in (p.0, none_fits cs p.1)

-- of three in a row the second fits, or the third
pub second_fits : (a b c : List Check) (n : Notice) → None ≡ first_fit a → Some n ≡ first_fit b → Some n ≡ first_fit (a ++ (b ++ c))
second_fits a b c n e f = stop b c n f ∙ past a (b ++ c) e

pub third_fits : (a b c : List Check) (n : Notice) → None ≡ first_fit a → None ≡ first_fit b → Some n ≡ first_fit c → Some n ≡ first_fit (a ++ (b ++ c))
third_fits a b c n e f g = g ∙ past b c f ∙ past a (b ++ c) e
