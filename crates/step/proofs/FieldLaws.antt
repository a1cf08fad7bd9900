-- One field: what is written of a move reads back, and what is read is what is written.
use Rattle.std.proofs.Common.{◌≡◌, ℕ, ◌+◌, ◌*◌, ◌/◌, ◌%◌, ◌<◌, ◌≤◌, Bool, true, false, cond, not, List, [], ◌∷◌, ◌++◌, length, get_or, drop, ℤ, pos, ◌+ℤ◌, ◌-ℤ◌, None, sym, refl, ap, ◌∙◌, arith, w16, SFits, to_z}
use lib.Signed.{le_z}
use Rattle.std.proofs.lemmas.Int.{ints, to_z-of_z, of_z-to_z}
use Rattle.std.proofs.lemmas.Bool.{cond-false, eqb-true, ltb-false, le-ltb, and_parts, not-false, not_from_true}
use Rattle.sheet.specs.Checks.{first_fit}
use Rattle.sheet.specs.Counted.{lower_bound, upper_bound, in_range}
use Rattle.sheet.proofs.FirstFit.{fits_none, none_fits}
use Rattle.step.specs.Laying.{move_in, field_checks, end_in, after_field}
use Rattle.step.specs.Record.{word, is_zero, field_of}
use Rattle.step.specs.declared.faults.Spot.{Spot}

-- every number of a list is a byte
abbrev pub Bytes : List ℕ → Type 0
Bytes bs = (k : ℕ) → get_or bs k 0 < 256

move_fits : (s e : ℤ) → in_range s ≡ true → in_range e ≡ true → SFits w16 (e -ℤ s)
move_fits s e p q =
    let a = and_parts (le_z lower_bound s) (le_z s upper_bound) p in
    let b = and_parts (le_z lower_bound e) (le_z e upper_bound) q in
    omega (arith, ints)

move_back : (z : ℤ) (r : List ℕ) → SFits w16 z → move_in (word z % 256 ∷ (word z / 256 % 256 ∷ r)) ≡ z
move_back z r f =
    let small : word z < 65536 = omega (arith, ints) in
    ap (to_z w16) (two_bytes (word z) small) ∙ to_z-of_z w16 z f
  where
    two_bytes : (u : ℕ) → u < 65536 → u % 256 + u / 256 % 256 * 256 ≡ u
    two_bytes u h = omega arith

zero_move : (s e : ℤ) → SFits w16 (e -ℤ s) → word (e -ℤ s) ≡ 0 → s ≡ e
zero_move s e f h = let k : e -ℤ s ≡ pos 0 = sym (to_z-of_z w16 (e -ℤ s) f) ∙ ap (to_z w16) h in omega (arith, ints)

pub record ReadBack (a : Spot) (stands : Bool) (s e : ℤ) (bs r : List ℕ) : Type 0 where
  pub good : first_fit (field_checks a stands s bs) ≡ None
  pub end : end_in stands s bs ≡ e
  pub rest : after_field stands bs ≡ r

-- a field read where it stands in the record
pub field_back : (a : Spot) (stands : Bool) (s e : ℤ) (xs r : List ℕ) → in_range s ≡ true → in_range e ≡ true
    → stands ≡ not (is_zero (e -ℤ s)) → xs ≡ field_of (e -ℤ s) ++ r → ReadBack a stands s e xs r
field_back a stands s e xs r p q same bytes = rw (same, bytes) (by_zero (is_zero (e -ℤ s)) refl (move_fits s e p q))
  where
    by_zero : (t : Bool) → is_zero (e -ℤ s) ≡ t → SFits w16 (e -ℤ s) → ReadBack a (not t) s e (cond t [] (word (e -ℤ s) % 256 ∷ (word (e -ℤ s) / 256 % 256 ∷ [])) ++ r) r
    by_zero true z f = record { good = refl; end = zero_move s e f (eqb-true (word (e -ℤ s)) 0 z); rest = refl }
    by_zero false z f =
        let m = move_back (e -ℤ s) r f in
        let bs = word (e -ℤ s) % 256 ∷ (word (e -ℤ s) / 256 % 256 ∷ r) in
        let back : s +ℤ (e -ℤ s) ≡ e = omega (arith, ints) in
        record {
          good = fits_none (field_checks a true s bs) (le-ltb (length bs) 2 (omega arith), (ap is_zero m ∙ z, (not_from_true _ (ap (λ v. in_range (s +ℤ v)) m ∙ ap in_range back ∙ q), tt)));
          end = ap (λ v. s +ℤ v) m ∙ back;
          rest = refl;
        }

pub record WrittenSo (stands : Bool) (s : ℤ) (bs : List ℕ) : Type 0 where
  pub ranges : in_range (end_in stands s bs) ≡ true
  pub bit : is_zero (end_in stands s bs -ℤ s) ≡ not stands
  pub bytes : field_of (end_in stands s bs -ℤ s) ++ after_field stands bs ≡ bs

spelt : (l h : ℕ) (r : List ℕ) → l < 256 → h < 256 → is_zero (move_in (l ∷ (h ∷ r))) ≡ false → field_of (move_in (l ∷ (h ∷ r))) ++ r ≡ l ∷ (h ∷ r)
spelt l h r a b z =
    let u : word (move_in (l ∷ (h ∷ r))) ≡ l + h * 256 = of_z-to_z w16 (l + h * 256) (omega arith) in
    let low : (l + h * 256) % 256 ≡ l = omega arith in
    let both : (l + h * 256) / 256 ≡ h = omega arith in
    let high : h % 256 ≡ h = omega arith in
    ap (λ t. t ++ r) (cond-false _ [] (word (move_in (l ∷ (h ∷ r))) % 256 ∷ (word (move_in (l ∷ (h ∷ r))) / 256 % 256 ∷ [])) z)
    ∙ ap (λ v. v % 256 ∷ (v / 256 % 256 ∷ r)) u
    ∙ rw (low, both, high) refl

two_or_more : (bs : List ℕ) → Bytes bs → 2 ≤ length bs → is_zero (move_in bs) ≡ false → field_of (move_in bs) ++ drop 2 bs ≡ bs
two_or_more [] B l z = absurd (omega arith)
two_or_more (x ∷ []) B l z = absurd (omega arith)
two_or_more (x ∷ (y ∷ r)) B l z = spelt x y r (B 0) (B 1) z

pub field_only : (a : Spot) (stands : Bool) (s : ℤ) (bs : List ℕ) → Bytes bs → in_range s ≡ true → first_fit (field_checks a stands s bs) ≡ None → WrittenSo stands s bs
field_only a false s bs B p g =
    let none : s -ℤ s ≡ pos 0 = omega (arith, ints) in
    record { ranges = p; bit = ap is_zero none; bytes = ap (λ v. field_of v ++ bs) none }
field_only a true s bs B p g =
    let c = none_fits (field_checks a true s bs) g in
    let back : s +ℤ move_in bs -ℤ s ≡ move_in bs = omega (arith, ints) in
    record {
      ranges = not-false _ c.1.1.0;
      bit = ap is_zero back ∙ c.1.0;
      bytes = ap (λ v. field_of v ++ drop 2 bs) back ∙ two_or_more bs B (ltb-false (length bs) 2 c.0) c.1.0;
    }
