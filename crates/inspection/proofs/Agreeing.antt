-- Two sets that agree on every test: of the tests of a sheet they strike the same at each depth, and
-- find the same windows and earliest parts.
use Rattle.std.proofs.Common.{◌≡◌, ℕ, zero, suc, ◌+◌, ◌^◌, ◌<◌, ◌≤◌, Bool, ◌&&◌, cond, List, Some, None, refl, arith}
use Rattle.std.specs.Option.{option_or, option_zip}
use Rattle.motion.specs.declared.shapes.Shape.{Shape}
use Rattle.motion.specs.Laws.{Valid, InReach, subinterval}
use Rattle.motion.specs.Depths.{every, first_lacking, last_lacking, struck_at, first_passed, last_passed, window_at}
use Rattle.motion.specs.Earliest.{put_until}
use Rattle.motion.proofs.Subintervals.{valid-subinterval}
use Rattle.filters.specs.FirstParts.{earliest_at}
use Rattle.inspection.specs.Claims.{Agree}
use Rattle.inspection.specs.Classes.{rules_at, entries_after, tally_after}
use Rattle.inspection.specs.Offerings.{Offering}
use Rattle.inspection.specs.Offers.{entries_by, tally_by}
use Rattle.inspection.specs.Sheets.{Sheet, point_at}
use Rattle.inspection.specs.Tallies.{no_tests}
use Rattle.inspection.specs.Tests.{Naming}
use Rattle.inspection.proofs.NamingLaws.{NamingLaws}

-- of the tests of one kind, over a sheet at a depth, two sets find the same
pub record FindSame {E : Type 0} (set set' : Shape → Bool) (n : Naming E) (sheet : Sheet) (d : ℕ) : Type 0 where
  pub entries : (o : Offering) (es : List E) → entries_by n set' d sheet o es ≡ entries_by n set d sheet o es
  pub tally : (o : Offering) (es : List E) → tally_by n set' d sheet o es ≡ tally_by n set d sheet o es
  pub windows : (e : E) → window_at set' d (n.shape sheet e) ≡ window_at set d (n.shape sheet e)
  pub earliests : (e : E) → earliest_at set' d (n.shape sheet e) ≡ earliest_at set d (n.shape sheet e)

pub itself : {E : Type 0} (set : Shape → Bool) (n : Naming E) (sheet : Sheet) (d : ℕ) → FindSame set set n sheet d
itself set n sheet d = record { entries = λ o es. refl; tally = λ o es. refl; windows = λ e. refl; earliests = λ e. refl }

-- ---- what is settled by the numbers below n
module _ (f g : ℕ → Bool) where
  every_below : (n : ℕ) → ((j : ℕ) → j < n → f j ≡ g j) → every f n ≡ every g n
  every_below zero h = refl
  every_below (suc n) h = λ i. every_below n (λ j l. h j (omega arith)) i && h n (omega arith) i

  first_below : (n : ℕ) → ((j : ℕ) → j < n → f j ≡ g j) → first_lacking f n ≡ first_lacking g n
  first_below zero h = refl
  first_below (suc n) h = λ i. option_or (first_below n (λ j l. h j (omega arith)) i) (cond (h n (omega arith) i) None (Some n))

  last_below : (n : ℕ) → ((j : ℕ) → j < n → f j ≡ g j) → last_lacking f n ≡ last_lacking g n
  last_below zero h = refl
  last_below (suc n) h = λ i. cond (h n (omega arith) i) (last_below n (λ j l. h j (omega arith)) i) (Some n)

module _ (set set' : Shape → Bool) (same : Agree set set') where
  module _ (d : ℕ) (t : Shape) (v : Valid t) (room : t.scale + d ≤ 6) where
    part : (j : ℕ) → j < 2 ^ d → set' (subinterval d j t) ≡ set (subinterval d j t)
    part j h = same (subinterval d j t) (valid-subinterval t v d j room h)

    pub struck_agree : struck_at set' d t ≡ struck_at set d t
    unfolding struck_at
    struck_agree = every_below (λ j. set' (subinterval d j t)) (λ j. set (subinterval d j t)) (2 ^ d) part

    first_agree : first_passed set' d t ≡ first_passed set d t
    unfolding first_passed
    first_agree = first_below (λ j. set' (subinterval d j t)) (λ j. set (subinterval d j t)) (2 ^ d) part

    last_agree : last_passed set' d t ≡ last_passed set d t
    unfolding last_passed
    last_agree = last_below (λ j. set' (subinterval d j t)) (λ j. set (subinterval d j t)) (2 ^ d) part

    window_agree : window_at set' d t ≡ window_at set d t
    unfolding window_at
    window_agree = λ i. option_zip (first_agree i) (last_agree i)

    earliest_agree : earliest_at set' d t ≡ earliest_at set d t
    unfolding earliest_at
    earliest_agree = λ i. record { part = first_agree i; put = put_until d (first_agree i) }

  -- ---- of the tests of one kind, over a sheet
  module _ {E : Type 0} (n : Naming E) (each : ℕ) (sheet : Sheet) (named : NamingLaws n each sheet) (near : (k : ℕ) → InReach 0 (point_at sheet k)) (d : ℕ) (low : d ≤ 6) where
    room : (e : E) → (n.shape sheet e).scale + d ≤ 6
    room e = omega (arith, named.scale e, low)

    rules : rules_at n set' d sheet ≡ rules_at n set d sheet
    rules = λ i. record { shared = n.shared sheet; struck = λ e. struck_agree d (n.shape sheet e) (named.valid near e) (room e) i; same = n.same }

    pub agreeing : FindSame set set' n sheet d
    agreeing =
        record {
          entries = λ o es i. entries_after (rules i) es (n.tests sheet o);
          tally = λ o es i. tally_after (rules i) es (n.tests sheet o) no_tests;
          windows = λ e. window_agree d (n.shape sheet e) (named.valid near e) (room e);
          earliests = λ e. earliest_agree d (n.shape sheet e) (named.valid near e) (room e);
        }
