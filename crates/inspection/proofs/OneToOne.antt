-- Slips out and entries taken agree one to one, over every run.
use Rattle.std.proofs.Common.{◌≡◌, ℕ, zero, suc, ◌+◌, ◌-◌, ◌<◌, ◌≤◌, Bool, true, false, cond, eqb, count_by, List, [], ◌∷◌, ◌++◌, length, set, replicate, Contains, IsOk, Ok, Err, Result, refl, sym, ap, ◌∙◌, subst, arith, ⊎_elim, length-append}
use Rattle.std.specs.Prelude.{IfOk}
use Rattle.std.proofs.lemmas.Bool.{cases_eq, leb-false, not-false}
use Rattle.std.proofs.lemmas.List.{get_or-set_same, get_or-set_other, length-set, length-replicate}
use Rattle.std.proofs.lemmas.List.Sums.{sum_by_push, sum_by-append, sum_by-cons, sum_by-set, get_or-le-sum_by}
use Rattle.std.proofs.lemmas.List.Folds.{sum_by-replicate}
use Rattle.sheet.proofs.FirstFit.{none_fits}
use Rattle.sheet.specs.declared.drafts.Draft.{Draft}
use Rattle.motion.specs.declared.shapes.Shape.{Shape}
use Rattle.motion.specs.declared.shapes.Kind.{Kind}
use Rattle.motion.specs.declared.shapes.Kind.TheVariants.{Vf, Ee}
use Rattle.inspection.specs.declared.faults.TakingFault.{TakingFault}
use Rattle.inspection.specs.declared.lists.Lists.{Lists}
use Rattle.inspection.specs.declared.marks.Mark.{Mark}
use Rattle.inspection.specs.declared.marks.Mark.TheVariants.{Free, Taken}
use Rattle.inspection.specs.declared.slips.Handed.{Handed}
use Rattle.inspection.specs.declared.slips.RefusedSlip.{RefusedSlip}
use Rattle.inspection.specs.declared.slips.Slip.{Slip}
use Rattle.inspection.specs.Lists.{Contents, grown_to}
use Rattle.inspection.specs.Marks.{mark_at, is_free, is_taken, is_taken_by}
use Rattle.inspection.specs.Slips.{marks_in, marked_as, mark_of, slip_for, taking_checks, return_checks, TakesFrom, Takes, HandsInto, HandsIn, HandsInAt, out_after_taking, out_after_return, same_kind, is_slip_of, is_slip_for, OneToOne}
use Rattle.inspection.specs.Classes.{rules_at}
use Rattle.inspection.specs.Tallies.{no_tests}
use Rattle.inspection.specs.Offerings.{Offering}
use Rattle.inspection.specs.Offers.{entries_by}
use Rattle.inspection.specs.Sheets.{Sheet, sheet_in}
use Rattle.inspection.specs.States.{State}
use Rattle.inspection.specs.Tests.{Naming, vf_naming, ee_naming}
use Rattle.inspection.specs.Runs.{Accepted, Run}
use Rattle.inspection.specs.Runs.Run.{opened, depth_set, offered, taken, handed_in, asked}
use Rattle.inspection.proofs.Moments.{all_kept}

-- ---- marks after a write, and after new entries
written_at : (ms : List Mark) (k j : ℕ) (m : Mark) → k < length ms → mark_at (set ms k m) j ≡ cond (eqb k j) m (mark_at ms j)
written_at ms k j m inside =
    ⊎_elim (λ (e : k ≡ j). grind (arith, e, get_or-set_same ms k m Free inside)) (λ (d : k ≡ j → ⊥). grind (arith, get_or-set_other ms k j m Free (λ e. d (sym e)))) (cases_eq k j)

free_at : (n j : ℕ) → mark_at (replicate n Free) j ≡ Free
free_at zero j = refl
free_at (suc n) zero = refl
free_at (suc n) (suc j) = free_at n j

grown_at : (ms : List Mark) (n j : ℕ) → mark_at (ms ++ replicate n Free) j ≡ mark_at ms j
grown_at [] n j = free_at n j
grown_at (m ∷ ms) n zero = refl
grown_at (m ∷ ms) n (suc j) = grown_at ms n j

abbrev weight : Mark → ℕ
weight m = cond (is_taken m) 1 0

-- past the last entry nothing is taken
within : (ms : List Mark) (i q : ℕ) → is_taken_by q (mark_at ms i) ≡ true → i < length ms
within [] i q e = grind arith
within (m ∷ ms) zero q e = omega arith
within (m ∷ ms) (suc i) q e = omega (arith, within ms i q e)

-- ---- of one list a run keeps: the slips that are out and the entries taken agree
pub record KeptAt {E : Type 0} (l : Kind) (out : List Slip) (h : Contents E) : Type 0 where
  pub agree : (i q : ℕ) → count_by (is_slip_for l i q) out ≡ cond (is_taken_by q (mark_at h.marks i)) 1 0
  pub number : count_by (is_slip_of l) out ≡ count_by is_taken h.marks
  -- each entry has a mark
  pub fits : length h.marks ≡ length h.entries

module _ {E : Type 0} (l : Kind) where
  none : (h : Contents E) → h.entries ≡ [] → h.marks ≡ [] → KeptAt l [] h
  none h e m = record { agree = λ i q. rw m refl; number = rw m refl; fits = rw (m, e) refl }

  grown : (out : List Slip) (h : Contents E) (es : List E) → length h.entries ≤ length es → KeptAt l out h → KeptAt l out (grown_to es h)
  grown out h es longer kept =
      let n = length es - length h.entries in
      record {
        agree = λ i q. kept.agree i q ∙ ap (λ (m : Mark). cond (is_taken_by q m) 1 0) (sym (grown_at h.marks n i));
        number = omega (arith, kept.number, sum_by-append weight h.marks (replicate n Free), sum_by-replicate weight n Free);
        fits = omega (arith, kept.fits, longer, length-append h.marks (replicate n Free), length-replicate n Free);
      }

  -- one slip more, for an entry that was free
  more : (k r : ℕ) (out : List Slip) (g : Contents E) → k < length g.marks → is_free (mark_at g.marks k) ≡ true → KeptAt l out g → KeptAt l (out ++ (slip_for l k r ∷ [])) (marked_as (Taken r) k g)
  more k r out g inside free kept =
      record {
        agree = λ i q. grind (arith, kept.agree i q, free, written_at g.marks k i (Taken r) inside, sum_by_push (λ (x : Slip). cond (is_slip_for l i q x) 1 0) out (slip_for l k r));
        number = grind (arith, kept.number, free, sum_by-set weight g.marks k (Taken r) Free inside, sum_by_push (λ (x : Slip). cond (is_slip_of l x) 1 0) out (slip_for l k r));
        fits = length-set g.marks k (Taken r) ∙ kept.fits;
      }

  module _ (before after : List Slip) (x : Slip) (g : Contents E) where
    -- how many slips there are for an entry, and of the list, without x
    without : (p : Slip → Bool) → count_by p (before ++ (x ∷ after)) ≡ count_by p (before ++ after) + cond (p x) 1 0
    without p =
        let f : Slip → ℕ = λ y. cond (p y) 1 0 in
        omega (arith, sum_by-append f before (x ∷ after), sum_by-cons f x after, sum_by-append f before after)

    -- one slip less, for an entry that was taken by its reviewer
    less : (how : Handed) → x.list ≡ l → x.entry < length g.marks → is_taken_by x.reviewer (mark_at g.marks x.entry) ≡ true
        → KeptAt l (before ++ (x ∷ after)) g → KeptAt l (before ++ after) (marked_as (mark_of how) x.entry g)
    less how is inside his kept =
        record {
          agree = λ i q. grind (arith, is, kept.agree i q, his, written_at g.marks x.entry i (mark_of how) inside, without (is_slip_for l i q));
          number = grind (arith, is, kept.number, his, sum_by-set weight g.marks x.entry (mark_of how) Free inside, without (is_slip_of l));
          fits = length-set g.marks x.entry (mark_of how) ∙ kept.fits;
        }

    -- one slip less, of the other list
    less_there : same_kind x.list l ≡ false → KeptAt l (before ++ (x ∷ after)) g → KeptAt l (before ++ after) g
    less_there away kept =
        record {
          agree = λ i q. grind (arith, away, kept.agree i q, without (is_slip_for l i q));
          number = grind (arith, away, kept.number, without (is_slip_of l));
          fits = kept.fits;
        }

  -- one slip more, of the other list
  more_there : (out : List Slip) (x : Slip) (g : Contents E) → same_kind x.list l ≡ false → KeptAt l out g → KeptAt l (out ++ (x ∷ [])) g
  more_there out x g away kept =
      record {
        agree = λ i q. grind (arith, away, kept.agree i q, sum_by_push (λ (y : Slip). cond (is_slip_for l i q y) 1 0) out x);
        number = grind (arith, away, kept.number, sum_by_push (λ (y : Slip). cond (is_slip_of l y) 1 0) out x);
        fits = kept.fits;
      }

  -- whichever slip of it is out, its reviewer has taken its entry
  still_his : (out : List Slip) (g : Contents E) (x : Slip) → x.list ≡ l → KeptAt l out g → Contains out x → is_taken_by x.reviewer (mark_at g.marks x.entry) ≡ true
  still_his out g x is kept (k, inside, there) =
      let p : Slip → ℕ = λ y. cond (is_slip_for l x.entry x.reviewer y) 1 0 in
      grind (arith, is, ap p there, get_or-le-sum_by p out k x inside, kept.agree x.entry x.reviewer)

  -- ---- each call, at its list and at the other
  take_here : (k r : ℕ) (out : List Slip) (g h : Contents E) (x : Result Slip TakingFault) → KeptAt l out g → TakesFrom l k r g x h → KeptAt l (out_after_taking out x) h
  take_here k r out g h (Ok y) kept a =
      let none = none_fits (taking_checks k r g) (sym a.fault) in
      let inside : k < length g.marks = omega (arith, leb-false (length g.entries) k none.1.0, kept.fits) in
      rw (a.slip, a.list) (more k r out g inside (not-false _ none.1.1.0) kept)
  take_here k r out g h (Err e) kept a = rw a.list kept

  take_there : (m : Kind) (k r : ℕ) (out : List Slip) (g : Contents E) (x : Result Slip TakingFault) → same_kind m l ≡ false → IfOk x (λ y. y ≡ slip_for m k r) → KeptAt l out g
      → KeptAt l (out_after_taking out x) g
  take_there m k r out g (Ok y) away is kept = more_there out y g (ap (λ (z : Slip). same_kind z.list l) is ∙ away) kept
  take_there m k r out g (Err e) away is kept = kept

  return_here : (before after : List Slip) (x : Slip) (how : Handed) (g h : Contents E) (r : Result (Unit {0}) RefusedSlip) → x.list ≡ l → KeptAt l (before ++ (x ∷ after)) g → HandsInto x how g r h
      → KeptAt l (out_after_return before x after r) h
  return_here before after x how g h (Ok u) is kept a =
      let none = none_fits (return_checks x g) (sym a.fault) in
      let inside : x.entry < length g.marks = omega (arith, leb-false (length g.entries) x.entry none.0, kept.fits) in
      rw a.list (less before after x g how is inside (not-false _ none.1.0) kept)
  return_here before after x how g h (Err e) is kept a = rw a.list kept

  return_there : (before after : List Slip) (x : Slip) (g : Contents E) (r : Result (Unit {0}) RefusedSlip) → same_kind x.list l ≡ false → KeptAt l (before ++ (x ∷ after)) g → KeptAt l (out_after_return before x after r) g
  return_there before after x g (Ok u) away kept = less_there before after x g away kept
  return_there before after x g (Err e) away kept = kept

  accepted_at : (x : Slip) (how : Handed) (out : List Slip) (g h : Contents E) (r : Result (Unit {0}) RefusedSlip) → x.list ≡ l → KeptAt l out g → Contains out x → HandsInto x how g r h → IsOk r
  accepted_at x how out g h (Ok u) is kept there p = refl
  accepted_at x how out g h (Err e) is kept there p =
      let his = still_his out g x is kept there in
      absurd (grind (arith, p.fault, his, kept.fits, within g.marks x.entry x.reviewer his))

-- ---- of both
pub record Kept (out : List Slip) (s : Lists) : Type 0 where
  pub vf : KeptAt Vf out s.vf
  pub ee : KeptAt Ee out s.ee

pub agree_in : (out : List Slip) (s : Lists) → Kept out s → OneToOne out s
agree_in out s kept Vf = kept.vf.agree
agree_in out s kept Ee = kept.ee.agree

pub number_in : (out : List Slip) (s : Lists) → Kept out s → (l : Kind) → count_by (is_slip_of l) out ≡ count_by is_taken (marks_in l s)
number_in out s kept Vf = kept.vf.number
number_in out s kept Ee = kept.ee.number

-- whichever slip is out is accepted
pub accepted_back : (out : List Slip) (s : Lists) → Kept out s → (x : Slip) → Contains out x → (how : Handed) (r : Result (Unit {0}) RefusedSlip) (t : Lists) → HandsIn x how s r t → IsOk r
accepted_back out s kept x there how r t p = by x.list refl p
  where
    by : (l : Kind) → x.list ≡ l → HandsInAt l x how s r t → IsOk r
    by Vf is a = accepted_at Vf x how out s.vf t.vf r is kept.vf there a.0
    by Ee is a = accepted_at Ee x how out s.ee t.ee r is kept.ee there a.0

after_taking : (l : Kind) (k r : ℕ) (out : List Slip) (s : Lists) (x : Result Slip TakingFault) (t : Lists) → Kept out s → Takes l k r s x t → Kept (out_after_taking out x) t
after_taking Vf k r out s x t kept (a, e) = record { vf = take_here Vf k r out s.vf t.vf x kept.vf a; ee = rw e (take_there Ee Vf k r out s.ee x refl a.slip kept.ee) }
after_taking Ee k r out s x t kept (a, v) = record { vf = rw v (take_there Vf Ee k r out s.vf x refl a.slip kept.vf); ee = take_here Ee k r out s.ee t.ee x kept.ee a }

after_return : (l : Kind) (before after : List Slip) (x : Slip) → x.list ≡ l → (how : Handed) (s : Lists) (r : Result (Unit {0}) RefusedSlip) (t : Lists)
    → Kept (before ++ (x ∷ after)) s → HandsInAt l x how s r t → Kept (out_after_return before x after r) t
after_return Vf before after x is how s r t kept (a, e) =
    record { vf = return_here Vf before after x how s.vf t.vf r is kept.vf a; ee = rw e (return_there Ee before after x s.ee r (ap (λ (l : Kind). same_kind l Ee) is) kept.ee) }
after_return Ee before after x is how s r t kept (a, v) =
    record { vf = rw v (return_there Vf before after x s.vf r (ap (λ (l : Kind). same_kind l Vf) is) kept.vf); ee = return_here Ee before after x how s.ee t.ee r is kept.ee a }

-- an offer takes no entry away
longer : {E : Type 0} (n : Naming E) (set : Shape → Bool) (k : ℕ) (sheet : Sheet) (o : Offering) (es : List E) → length es ≤ length (entries_by n set k sheet o es)
longer n set k sheet o es = omega (arith, all_kept (rules_at n set k sheet) es (n.tests sheet o) no_tests)

module _ (set : Shape → Bool) (d : Draft) (sheet : Sheet) where
  abbrev At : List Slip → State → Type 0
  At out s = Kept out s.lists

  -- whatever run ends here
  pub kept_by_run : {h : List Accepted} {out : List Slip} {s : State} → Run set d sheet h out s → At out s
  kept_by_run (opened {s} o) = record { vf = none Vf s.lists.vf o.vf o.vf_marks; ee = none Ee s.lists.ee o.ee o.ee_marks }
  kept_by_run (depth_set {h} {out} {s} k r t run a e) = rw e (kept_by_run run)
  kept_by_run (offered {h} {out} {s} ps fs o (Ok u) t run b a) =
      let kept = kept_by_run run in
      let k = s.core.depth in
      let here = sheet_in s.core.draft ps fs in
      subst (At out) (sym a.state)
      (record {
        vf = grown Vf out s.lists.vf (entries_by vf_naming set k here o s.lists.vf.entries) (longer vf_naming set k here o s.lists.vf.entries) kept.vf;
        ee = grown Ee out s.lists.ee (entries_by ee_naming set k here o s.lists.ee.entries) (longer ee_naming set k here o s.lists.ee.entries) kept.ee;
      })
  kept_by_run (offered {h} {out} {s} ps fs o (Err x) t run b a) = subst (At out) (sym a.state) (kept_by_run run)
  kept_by_run (taken {h} {out} {s} l i q r t run a c) = after_taking l i q out s.lists r t.lists (kept_by_run run) a
  kept_by_run (handed_in {h} {s} before after x how r t run a c) = after_return x.list before after x refl how s.lists r t.lists (kept_by_run run) a
  kept_by_run (asked {h} {out} {s} t run e) = subst (At out) (sym e) (kept_by_run run)
